use Rattle.index_tests.proofs.scene.Scene.session.Goals as goal

-- the desk's sessions are the index's
pub returns-in-Some : goal.returns-in-Some
returns-in-Some g c =
    let shown = c.in-Some.ensures.some in
    c.args.self.now.serves.opened shown.0 (record { label = c.args.label; session = c.in-Some.session.now }) shown.1.there
