use Rattle.shared_containers.proofs.TakenLemmas.{kept_some, quiet_some, some_then}
use Rattle.shared_containers.proofs.stack.Stack.take_marked.Goals as goal

-- another one had popped it
pub returns-clause-some : goal.returns-clause-some
returns-clause-some g c = let a = c.args.local.now in let b = c.get_shared.new.local in let d = c.update_tag_if-is_mine.new.local in let e = c.take_out.new.local in let f = c.release.new.local in
    some_then a b f (quiet_some a b c.get_shared.ensures.cells) (some_then b d f (kept_some b d c.args.link.now.cell 18446744073709551616 _ (c.update_tag_if-is_mine.ensures.kept c.if-is_mine.false)) (some_then d e f c.take_out.ensures.some (quiet_some e f c.release.ensures.cells)))
