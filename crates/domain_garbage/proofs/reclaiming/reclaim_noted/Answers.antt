use Rattle.std.proofs.Common.{◌≡◌, ◌<◌, ℕ, List, ◌∷◌, ◌++◌, None, ap, sym, ◌∙◌, subst, refl}
use Rattle.atomic_table.specs.Table.{Me}
use Rattle.sdd_homes.specs.declared.Garbage.{Garbage}
use Rattle.sdd_homes.specs.declared.Owner.{Owner}
use Rattle.sdd_homes.specs.Book.{deed}
use Rattle.sdd_plain.specs.declared.sizes.Sizes.{Sizes}
use Rattle.domain_table.specs.Contents.{IsIn}
use Rattle.domain_table.specs.Plays.{deed_home, reclaiming_noted}
use Rattle.domain_table.specs.declared.board.Acting.{Acting}
use Rattle.domain_table.specs.declared.board.Home.{Home}
use Rattle.domain_table.proofs.Reclaims.{snoc_same}
use Rattle.domain_garbage.specs.Opened.{IsOpened}
use Rattle.domain_garbage.proofs.reclaiming.reclaim_noted.Goals as goal

-- the slot is opened, and its deed is out
opened : {T : Type 0} (holds : T → List (ℕ × ℕ)) (k : ℕ) (m m1 : Me (Home T) Acting) (w : Garbage) (ws : List Garbage) (hs : List Owner) (u : Home T) → w.slot ≡ k → IsIn holds (deed w.round hs) u → m1 ≡ (reclaiming_noted w hs ws m.0, (deed_home m.0 w.slot, u) ∷ m.1) → IsOpened (IsIn holds) m1 k hs m.1
opened holds k m m1 w ws hs u here is_in is = subst (λ z. IsOpened (IsIn holds) z k hs m.1) (sym is) (record {
  at = here;
  f = record { by = m.0.number; filled = m.0.sizes.participants; round = w.round; left = 0; out = m.0.sizes.participants };
  fills = refl;
  all = refl;
  back = refl;
  none = refl;
  deed_out = u;
  is = is_in;
  front = ap (λ z. (deed_home m.0 z, u) ∷ m.1) here;
})

pub take_whole-requires-clause-table : goal.take_whole-requires-clause-table
take_whole-requires-clause-table g c = let m = c.args.seat.now.me in let q = c.requires.noted in let t = c.open_noted.ensures.opened q.0 q.1 q.2 in let table = c.requires.table in let sizes = ap (λ (z : Me _ Acting). z.0.sizes) t.3 in
    ((c.open_noted.ensures.seat.0 ∙ table.0, table.1, sizes ∙ table.2, table.3, table.4), subst (λ (z : Sizes). c.args.slot < z.slots) table.2 (subst (λ z. z < m.0.sizes.slots) q.4 (c.open_noted.ensures.inside q.0 q.1 q.2)))

pub take_whole-requires-clause-acts : goal.take_whole-requires-clause-acts
take_whole-requires-clause-acts g c = let q = c.requires.noted in let t = c.open_noted.ensures.opened q.0 q.1 q.2 in ap (λ (z : Me _ Acting). z.0.kind) t.3 ∙ c.requires.ready.0

pub take_whole-requires-clause-opened : goal.take_whole-requires-clause-opened
take_whole-requires-clause-opened g c = let m = c.args.seat.now.me in let q = c.requires.noted in let t = c.open_noted.ensures.opened q.0 q.1 q.2 in (t.0, m.1, opened g.H.Holding.holds c.args.slot m c.open_noted.new.seat.me q.0 q.1 t.0 t.1 q.4 t.2 t.3)

pub returns-clause-reclaimed : goal.returns-clause-reclaimed
returns-clause-reclaimed g c = λ w' ws' last'. let m = c.args.seat.now.me in let q = c.requires.noted in let t = c.open_noted.ensures.opened q.0 q.1 q.2 in
    let r = c.take_whole.ensures.taken t.0 m.1 (opened g.H.Holding.holds c.args.slot m c.open_noted.new.seat.me q.0 q.1 t.0 t.1 q.4 t.2 t.3) in let free = c.requires.ready.3 in (
      t.0,
      r.0,
      r.1 ∙ (ap (λ (z : Me _ Acting). (record z.0 { filling = None }, m.1)) t.3 ∙ λ j. (record m.0 { hand = t.0 ++ m.0.hand; slot = q.4 j; filling = sym free j; collected = (snoc_same q.1 ws' q.0 w' (sym q.2 ∙ last')).0 j }, m.1)),
    )
