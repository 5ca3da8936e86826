use Rattle.shared_owned.proofs.atomic_owned.AtomicOwned.update_tag_if.Goals as goal

pub returns-clause-set : goal.returns-clause-set
returns-clause-set g c = λ yes. let e = c.update_tag_if.ensures.set yes in (record { of = e.0 }, e.1.1, e.2)
