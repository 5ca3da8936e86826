use Rattle.world_containers.proofs.Names.{◌≡◌, List, map, shared_cell, Entry, Stays, IsBag, IsSomeBag}
use Rattle.world_containers.proofs.FoldLemmas.{Popped}
use denote.Param.Members.{Called}
use Rattle.world_containers.proofs.world.bag.pop_all.Given as goal

abbrev pub invariant-loop-popped : goal.invariant-loop-popped
invariant-loop-popped g l = record {
  callable : goal.F-IsAlwaysCallable g l.f;
  list : IsSomeBag g.row.ARRAY_LEN l.w (map shared_cell l.bag.cells.items);
  popped : (ps os : List (Entry _)) → IsBag g.row.ARRAY_LEN l.initial.w (map shared_cell l.bag.cells.items) ps os → Popped g.row.ARRAY_LEN (map shared_cell l.bag.cells.items) (λ f b o r f2. Called g.F.FnMut f (b, (o, tt)) r f2) l.initial.w l.w ps os (l.fn.init, l.fn.f) (l.folded, l.f) l._popped;
  participants : l.w.participants ≡ l.initial.w.participants;
  stays : Stays l.initial.w l.w;
}
