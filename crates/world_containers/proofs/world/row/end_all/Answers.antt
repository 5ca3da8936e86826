use Rattle.world_containers.proofs.Names.{◌∙◌, sym, subst, ap, map, List, shared_cell, State, AtomicShared, AreEmpty, freed, stays_then}
use Rattle.sdd_world.specs.declared.tag.Tag.TheVariants as tag
use Rattle.world_containers.proofs.RowLemmas.{freed_last, empty_last}
use Rattle.world_containers.proofs.world.row.end_all.Goals as goal

pub end-requires : goal.end-requires
end-requires g c =
    let h = subst (λ (ts : List (AtomicShared _)). AreEmpty c.loop-cell.w (map shared_cell ts)) c.in-Some.ensures.items c.loop-cell.invariant.empty in
    (tag.None, (empty_last c.pop.new.self.items c.in-Some.cell c.loop-cell.w h).0)

pub loop-cell-preserved : goal.loop-cell-preserved
loop-cell-preserved g c =
    let v = c.loop-cell.invariant in
    let ts = c.pop.new.self.items in
    let h = subst (λ (xs : List (AtomicShared _)). AreEmpty c.loop-cell.w (map shared_cell xs)) c.in-Some.ensures.items v.empty in
    record {
      empty = subst (λ (w : State _). AreEmpty w (map shared_cell ts)) (sym c.end.ensures.ended) (empty_last ts c.in-Some.cell c.loop-cell.w h).1;
      left = ap (λ (w : State _). freed (map shared_cell ts) w) c.end.ensures.ended ∙ sym (freed_last ts c.in-Some.cell c.loop-cell.w) ∙ ap (λ (xs : List (AtomicShared _)). freed (map shared_cell xs) c.loop-cell.w) (sym c.in-Some.ensures.items) ∙ v.left;
      participants = c.end.ensures.participants ∙ v.participants;
      stays = stays_then _ _ _ v.stays c.end.ensures.stays;
    }
