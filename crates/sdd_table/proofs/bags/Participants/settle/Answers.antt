use Rattle.std.proofs.Common.{Bool, ap, ◌∙◌, ◌&&◌, not}
use Rattle.sdd_plain.specs.declared.local_state.LocalState.{LocalState}
use Rattle.sdd_table.specs.State.{with_local_state}
use Rattle.sdd_table.specs.Chains.{changed_in}
use Rattle.sdd_table.proofs.ThreadLemmas.{noted_in}
use Rattle.sdd_table.proofs.bags.Participants.settle.Goals as goal

abbrev leaves : Bool → LocalState → LocalState
leaves empty k = record k { garbage = k.garbage && not empty }

pub invariant_of-self : goal.invariant_of-self
invariant_of-self c =
    (noted_in c.self.inside c.args.self.now c.args.p c.index_mut-participant.result.now (leaves c.are_empty-empty.result) c.self.invariant c.self.view_is c.requires c.index_mut-participant.ensures.value).0

pub returns : goal.returns
returns c =
    (noted_in c.self.inside c.args.self.now c.args.p c.index_mut-participant.result.now (leaves c.are_empty-empty.result) c.self.invariant c.self.view_is c.requires c.index_mut-participant.ensures.value).1
    ∙ ap (λ (b : Bool). changed_in c.args.p (λ m. with_local_state (leaves b m.local) m) c.args.self.now) c.are_empty-empty.ensures
