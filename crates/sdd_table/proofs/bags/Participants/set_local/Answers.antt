use Rattle.sdd_plain.specs.declared.local_state.LocalState.{LocalState}
use Rattle.sdd_table.proofs.ThreadLemmas.{noted_in}
use Rattle.sdd_table.proofs.bags.Participants.set_local.Goals as goal

pub invariant_of-self : goal.invariant_of-self
invariant_of-self c =
    let note : LocalState → LocalState = (λ k. c.args.local) in
    (noted_in c.self.inside c.args.self.now c.args.p c.index_mut.result.now note c.self.invariant c.self.view_is c.requires c.index_mut.ensures.value).0

pub returns : goal.returns
returns c =
    let note : LocalState → LocalState = (λ k. c.args.local) in
    (noted_in c.self.inside c.args.self.now c.args.p c.index_mut.result.now note c.self.invariant c.self.view_is c.requires c.index_mut.ensures.value).1
