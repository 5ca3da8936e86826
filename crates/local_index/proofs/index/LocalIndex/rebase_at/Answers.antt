use Rattle.std.proofs.Common.{sym, subst}
use Rattle.local_index.specs.State.{State, Has}
use Rattle.local_index.proofs.IndexLemmas.{kept_begun}
use Rattle.local_index.proofs.index.LocalIndex.rebase_at.Goals as goal

pub invariant_of-self : goal.invariant_of-self
invariant_of-self g c =
    let upto = c.args.upto in
    let has = subst (λ (x : State _ _). Has x upto) (sym c.self.view_is) c.requires.number in
    kept_begun g.K.Ord.cmp c.self.inside.history c.self.invariant c.begin_at.new.self c.begin_at.result upto has c.begin_at.ensures.begins c.begin_at.ensures.err
