use Rattle.std.proofs.Common.{None, ap, ◌∙◌, lit<, refl, set}
use Rattle.local_index.specs.Invariant.{index_state}
use Rattle.local_index.specs.State.{State}
use Rattle.local_versions.specs.Store.{Store}
use Rattle.local_index.proofs.IndexLemmas.{kept_close, session_reads}
use Rattle.local_index.proofs.index.LocalIndex.close_place.Goals as goal

pub close-requires : goal.close-requires
close-requires g c =
    let v = session_reads g.K.Ord.cmp c.self.inside.history c.self.invariant _ c.args.place c.args.number c.self.view_is c.requires in
    (lit< tt, (v.0, v.1))

pub invariant_of-self : goal.invariant_of-self
invariant_of-self g c = kept_close g.K.Ord.cmp c.self.inside.history c.self.invariant c.close.new.self c.args.place c.close.ensures

pub returns : goal.returns
returns g c =
    ap (λ (x : Store _ _). index_state x c.self.inside.history) c.close.ensures
    ∙ ap (λ (x : State _ _). record x { places = set x.places c.args.place None }) c.self.view_is
