use Rattle.world_containers.proofs.Names.{refl, sym, ap, subst, State, IsLeft, walk_cells}
use Rattle.world_containers.proofs.MutableIterationLemmas.{found_at, found_closed, found_filled, found_given, found_sole, found_value, given_at, never_refused, visited}
use Rattle.world_containers.proofs.bag.IterMut.next.Goals as goal

pub cell_mut-requires : goal.cell_mut-requires
cell_mut-requires g c =
    let e = ap g.W.ExclusiveAccess.state c.in-Some.ensures.place in
    let s = c.requires in
    let f = found_at _ _ _ _ _ s.entries (sym e) (sym c.cell.ensures) (c.in-Some.ensures.some s.entries s.is) in
    found_filled _ _ (walk_cells c.args.self.now) _ s.entries f

pub unreachable-requires : goal.unreachable-requires
unreachable-requires g c =
    let e = ap g.W.ExclusiveAccess.state c.in-Some.ensures.place in
    let s = c.requires in
    let f = found_at _ _ _ _ _ s.entries (sym e) (sym c.cell.ensures) (c.in-Some.ensures.some s.entries s.is) in
    let l = subst (λ (v : State _). IsLeft v (walk_cells c.args.self.now) s.entries) (sym e) s.is in
    never_refused c.in-Err.field-0 (λ q. c.in-Err.ensures.others q (found_sole _ _ (walk_cells c.args.self.now) _ s.entries f l)) (λ q. let o = c.in-Err.ensures.«open».0 q in found_closed _ _ (walk_cells c.args.self.now) _ s.entries f l o.0 o.1)

pub returns : goal.returns
returns g c = (
  (
    refl,
    (λ v. visited g.W.ExclusiveAccess.state c.args.self.now _ v c.in-Some.ensures.same c.in-Some.ensures.bag c.requires (λ es l.
        let e = ap g.W.ExclusiveAccess.state c.in-Some.ensures.place in
        let f = found_at _ _ _ _ _ es (sym e) (sym c.cell.ensures) (c.in-Some.ensures.some es l) in
        let l' = subst (λ (w : State _). IsLeft w (walk_cells c.args.self.now) es) (sym e) l in
        given_at _ _ _ _ v es e (found_given _ _ (walk_cells c.args.self.now) _ es f c.in-Ok.entry.now v _ l' c.in-Ok.ensures.value (g.met.W.ExclusiveAccess.written _ _ _)))),
    tt,
  ),
  record {
    lends = tt;
    gives = λ es l.
        let e = ap g.W.ExclusiveAccess.state c.in-Some.ensures.place in
        let f = found_at _ _ _ _ _ es (sym e) (sym c.cell.ensures) (c.in-Some.ensures.some es l) in
        found_value _ _ (walk_cells c.args.self.now) _ es f c.in-Ok.entry.now _ c.in-Ok.ensures.value c.as_mut.ensures.value;
  },
)
