use Rattle.std.proofs.Common.{◌≡◌, ◌++◌, ◌∙◌, ℕ, List, None, subst, sym, ap, append_assoc}
use Rattle.sdd_homes.specs.declared.Garbage.{Garbage}
use Rattle.domain_table.specs.Bags.{AreAlike}
use Rattle.domain_table.specs.Chains.{AllBelow}
use Rattle.domain_table.specs.declared.bags.Bags.{Bags}
use Rattle.domain_table.proofs.BagLemmas.{none_in, has_left, has_right}
use Rattle.domain_table.proofs.WaitLemmas.{Lists, lists_of, below_parts, below_alike, no_more}
use Rattle.domain_table.proofs.bags.Bags.joined.Goals as goal

module _ (n : ℕ) (ws : List Garbage) (b : Bags) (l : Lists n ws b) (ps' : List Garbage) (alike : AreAlike l.ps ps') where
  abbrev rest : List Garbage
  rest = l.ns ++ l.ds

  parts : AllBelow n (l.cs ++ (l.ps ++ rest))
  parts = subst (AllBelow n) l.are l.below

  -- the first two bags are joined
  abbrev first : List Garbage
  first = l.cs ++ (ps' ++ rest)

  first_below : AllBelow n first
  first_below = below_parts n l.cs (ps' ++ rest) (λ w h. parts w (has_left l.cs (l.ps ++ rest) w h))
      (below_parts n ps' rest (below_alike n l.ps ps' alike (λ w h. parts w (has_right l.cs (l.ps ++ rest) w (has_left l.ps rest w h)))) (λ w h. parts w (has_right l.cs (l.ps ++ rest) w (has_right l.ps rest w h))))

  first_is : first ≡ (l.cs ++ ps') ++ rest
  first_is = sym (append_assoc l.cs ps' rest)

  -- and then the third one, where nothing is due
  module _ (ns' : List Garbage) (alike' : AreAlike l.ns ns') (none : b.due ≡ None) where
    abbrev all : List Garbage
    all = (l.cs ++ ps') ++ ns'

    all_is : (l.cs ++ ps') ++ (ns' ++ l.ds) ≡ all
    all_is = ap (λ zs. (l.cs ++ ps') ++ zs) (ap (λ zs. ns' ++ zs) (none_in l.ds b.due none l.due) ∙ no_more ns')

    all_below : AllBelow n all
    all_below = let f = subst (AllBelow n) first_is first_below in below_parts n (l.cs ++ ps') ns' (λ w h. f w (has_left (l.cs ++ ps') rest w h)) (below_alike n l.ns ns' alike' (λ w h. f w (has_right (l.cs ++ ps') rest w (has_left l.ns l.ds w h))))

pub join-newer-requires-clause-acts : goal.join-newer-requires-clause-acts
join-newer-requires-clause-acts g c = (c.requires.acts, (lists_of c.args.place.sizes.now.slots c.args.seat.now.me.0.waits c.args.self c.requires.waits.0).below)

pub join-newer-requires-clause-bags : goal.join-newer-requires-clause-bags
join-newer-requires-clause-bags g c = let l = lists_of c.args.place.sizes.now.slots c.args.seat.now.me.0.waits c.args.self c.requires.waits.0 in (l.cs, l.ps, l.ns ++ l.ds, l.are, l.current, l.previous)

pub join-requires-clause-table : goal.join-requires-clause-table
join-requires-clause-table g c = let t = c.requires.table in let m = c.args.seat.now.me in let l = lists_of c.args.place.sizes.now.slots m.0.waits c.args.self c.requires.waits.0 in let r = c.join-newer.ensures.joined l.cs l.ps (l.ns ++ l.ds) l.are l.current l.previous in
    (c.join-newer.ensures.seat.0 ∙ t.0, t.1, ap (λ z. z.0.sizes) r.3 ∙ t.2, t.3, t.4)

pub join-requires-clause-acts : goal.join-requires-clause-acts
join-requires-clause-acts g c = let n = c.args.place.sizes.now.slots in let m = c.args.seat.now.me in let l = lists_of n m.0.waits c.args.self c.requires.waits.0 in let r = c.join-newer.ensures.joined l.cs l.ps (l.ns ++ l.ds) l.are l.current l.previous in
    (ap (λ z. z.0.kind) r.3 ∙ c.requires.acts, subst (AllBelow n) (sym (ap (λ z. z.0.waits) r.3)) (first_below n m.0.waits c.args.self l r.0 r.1))

pub join-requires-clause-bags : goal.join-requires-clause-bags
join-requires-clause-bags g c = let n = c.args.place.sizes.now.slots in let m = c.args.seat.now.me in let l = lists_of n m.0.waits c.args.self c.requires.waits.0 in let r = c.join-newer.ensures.joined l.cs l.ps (l.ns ++ l.ds) l.are l.current l.previous in
    (l.cs ++ r.0, l.ns, l.ds, ap (λ z. z.0.waits) r.3 ∙ first_is n m.0.waits c.args.self l r.0 r.1, r.2, l.next)

pub returns-clause-joined : goal.returns-clause-joined
returns-clause-joined g c = let n = c.args.place.sizes.now.slots in let m = c.args.seat.now.me in let b = c.args.self in let l = lists_of n m.0.waits b c.requires.waits.0 in let none = c.requires.waits.1 in let r = c.join-newer.ensures.joined l.cs l.ps (l.ns ++ l.ds) l.are l.current l.previous in
    let s = c.join.ensures.joined (l.cs ++ r.0) l.ns l.ds (ap (λ z. z.0.waits) r.3 ∙ first_is n m.0.waits b l r.0 r.1) r.2 l.next in (
      (l.cs ++ r.0) ++ s.0,
      s.2,
      all_below n m.0.waits b l r.0 r.1 s.0 s.1 none,
      s.3 ∙ λ j. (record (r.3 j).0 { waits = all_is n m.0.waits b l r.0 r.1 s.0 s.1 none j }, (r.3 j).1),
    )
