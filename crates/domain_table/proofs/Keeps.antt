-- a home that came out for one more owner goes back
use Rattle.std.proofs.Common.{◌≡◌, ◌≢◌, ℕ, suc, List, [], ◌∷◌, ◌++◌, get_or, set, sym, refl, ap, ◌∙◌, subst, ⊎_elim, inl, inr, arith}
use mathlib.Core.Logic.{dite}
use mathlib.Core.Option as maybe
use mathlib.Core.Option.{some, none}
use native.Mathlib.Decide.{ℕ_discrete}
use lib.ListN.{get_elem?}
use lib.Seq.{set-get_or}
use Rattle.atomic_table.specs.Table as table
use Rattle.atomic_table.specs.Table.{State, Me, step, stepped, gives, Allows}
use Rattle.sdd_plain.specs.declared.sizes.Sizes.{Sizes}
use Rattle.sdd_steps.specs.State.{Has}
use Rattle.sdd_steps.proofs.ListLemmas.{put, put_here, put_else, set_else, same_at}
use Rattle.sdd_homes.specs.declared.Lease.{Lease}
use Rattle.sdd_homes.specs.Book.{Content, part, home, Apart, Lends}
use Rattle.sdd_homes.specs.Parts.{Full, Leased}
use Rattle.sdd_homes.specs.Reasons.{Loads, Why}
use Rattle.sdd_homes.specs.Lying.{Lying}
use Rattle.sdd_homes.proofs.Leases.{Returns, lends_has, returns_last, end_apart, has_before, has_last}
use Rattle.sdd_homes.proofs.LyingLemmas.{gives_low}
use Rattle.sdd_homes.proofs.PartLemmas as parts
use Rattle.sdd_homes.proofs.Totals.{home_in}
use Rattle.domain_table.specs.Layout.{all_homes, all_spares}
use Rattle.domain_table.specs.Items.{Grasps, Grip}
use Rattle.domain_table.specs.Rule.{Shows}
use Rattle.domain_table.specs.Plays.{CanKeep, keep_then}
use Rattle.domain_table.specs.declared.board.Acting.{Acting}
use Rattle.domain_table.specs.declared.board.Plan.{Plan}
use Rattle.domain_table.proofs.Moves.{items_change, reads_only}
use Rattle.domain_table.proofs.Stirred.{leased}

module _ (S : Type 0) (IsIn : Content → S → Type 0) (plan : Plan) where
  abbrev n : ℕ
  n = plan.sizes.participants

  module _ (s : State S Acting) (r : Shows IsIn plan s) (id : ℕ) (d : Acting) (l : Lease) (ls : List Lease) (at : get_elem? s.views id ≡ some d) (kind : d.kind ≡ 1) (last : d.leases ≡ ls ++ l ∷ []) (out : d.releasing ≡ suc l.item) where
    abbrev p : ℕ
    p = d.number

    out_is : r.book.out p ≡ ls ++ l ∷ []
    out_is = (r.items.seats id d at kind).leases ∙ last

    y : Leased n plan.sizes.slots r.state.items (Why r.state (Grip s.views)) r.book.stage r.book.share p l
    y = r.items.parts.leases p l (subst (λ (z : List Lease). Has z l) (sym out_is) (has_last ls l))

    f : Full n plan.sizes.slots r.state.items r.book.slot_of (r.book.share l.slot) r.book.out r.book.what (r.book.held l.slot) l.slot l.item
    f = r.items.parts.full_at l.slot l.item y.inside y.is

    apart : Apart ls × ¬ Lends ls l.slot
    apart = end_apart ls l (subst Apart out_is (r.items.parts.once p))

    back : Returns (r.book.out p) l ls
    back = returns_last (r.book.out p) l ls out_is (r.items.parts.once p)

    abbrev out' : ℕ → List Lease
    out' = put r.book.out p ls

    abbrev what' : ℕ → Content
    what' = put r.book.what (home plan.sizes.slots l.slot p) (part f.it.value l.count)

    abbrev pub d' : Acting
    d' = record d { leases = ls; releasing = 0 }

    abbrev views' : List Acting
    views' = set s.views id d'

    -- no lease that is left is of the same item
    other_item : (e : Lease) → Has ls e → e.item ≢ l.item
    other_item e h same = let in_out = subst (λ (z : List Lease). Has z e) (sym out_is) (has_before ls l e h) in let z = r.items.parts.leases p e in_out in let g = r.items.parts.full_at e.slot e.item z.inside z.is in
        let slots : e.slot ≡ l.slot = sym g.slot ∙ (ap r.book.slot_of same ∙ f.slot) in apart.1 (subst (Lends ls) slots (lends_has ls e h))

    grips : (q : ℕ) (e : Lease) → Has (out' q) e → Grip s.views q e.item → Grip views' q e.item
    grips q e h g = dite (ℕ_discrete g.0 id)
        (λ same_id. let same : g.1 ≡ d = same_at s.views id g.1 d (subst (λ m. get_elem? s.views m ≡ some g.1) same_id g.2) at in let grasp = subst (λ (v : Acting). Grasps v q e.item) same g.3 in
        let left : Has ls e = subst (λ (z : List Lease). Has z e) (ap out' (sym grasp.1) ∙ put_here r.book.out p ls) h in let one = sym out ∙ grasp.2 in absurd (other_item e left (omega (arith, one))))
        (λ ne. (g.0, g.1, set_else s.views id g.0 d' ne ∙ g.2, g.3))

    reasons : (q : ℕ) (e : Lease) → Has (out' q) e → Why r.state (Grip s.views) q e.item → Why r.state (Grip views') q e.item
    reasons q e h = ⊎_elim (λ (t : Loads r.state q e.item). inl t) (λ (g : Grip s.views q e.item). inr (grips q e h g))

    module _ (u : S) (is_in : IsIn (part l.round l.count) u) where
      abbrev homes' : List (maybe.Option S)
      homes' = set s.homes (home plan.sizes.slots l.slot p) (some u)

      lies : Lying IsIn (all_homes plan.sizes) (all_spares plan.sizes) what' r.book.extra homes'
      lies = let low = y.low in gives_low r.items.lying (home plan.sizes.slots l.slot p) (part f.it.value l.count) u (home_in n plan.sizes.slots l.slot p y.inside (omega arith)) (subst (λ v. IsIn (part v l.count) u) (sym (y.round f.it f.here)) is_in)

      pub shown_keep : (i : ℕ) → Shows IsIn plan record { words = set s.words i (get_or s.words i 0); homes = homes'; views = views' }
      shown_keep i = let a = r.epochs.seats id d at kind in subst (λ ws. Shows IsIn plan record { words = ws; homes = homes'; views = views' }) (sym (set-get_or s.words i 0))
          (items_change S IsIn plan s r id d d' r.state s.words homes' (record r.book { out = out'; what = what' }) at kind refl refl refl refl ([], refl) refl refl (reads_only S IsIn plan s r id d d' at kind refl) r.lefts
          (leased r.items r.state.participants out' what' s.words homes' id d d' at kind (record {
            parts = parts.stays (parts.gives r.items.parts p l ls f.it back f.here) r.state.items (Why r.state (Grip views')) (λ m z at_z. (z, at_z, refl, refl)) reasons;
            lying = lies;
            mine = put_here r.book.out p ls;
            others = λ q ne. put_else r.book.out p ls q ne;
            same = refl;
            written = record { long = refl; high = λ _ _. refl; freed = λ _ _ _. inl refl };
            claimed = a.claimed;
            apart = λ j e other here kind_e same. other (sym (r.epochs.seats j e here kind_e).seated ∙ (ap r.epochs.seat_of same ∙ a.seated));
          })))

-- lists with one element more are the same in all
one_last : (ls ls' : List Lease) (l l' : Lease) → ls ++ l ∷ [] ≡ ls' ++ l' ∷ [] → (ls ≡ ls') × (l ≡ l')
one_last [] [] l l' e = (refl, cc)
one_last [] (x ∷ []) l l' e = absurd (cc)
one_last [] (x ∷ y ∷ zs) l l' e = absurd (cc)
one_last (x ∷ []) [] l l' e = absurd (cc)
one_last (x ∷ y ∷ zs) [] l l' e = absurd (cc)
one_last (x ∷ ls) (y ∷ ls') l l' e = let first : x ≡ y = cc in let others : ls ++ l ∷ [] ≡ ls' ++ l' ∷ [] = cc in let same = one_last ls ls' l l' others in (λ j. first j ∷ same.0 j, same.1)

module _ (S : Type 0) (IsIn : Content → S → Type 0) (plan : Plan) where
  pub keeps_home : (slots id i : ℕ) (me : Me S Acting) (l : Lease) (ls : List Lease) (tail : List (ℕ × S)) → me.0.kind ≡ 1 → CanKeep IsIn me l ls tail → Allows (Shows IsIn plan) slots id me i (λ w. w) (keep_then IsIn (step slots i 0 0 none) me)
  keeps_home slots id i me l ls tail kind can s r _ at _ = let d = me.0 in let u = can.2.0 in let v : Acting = record d { leases = ls; releasing = 0 } in
      let shown = subst (λ (z : Sizes). Shows IsIn plan record { words = set s.words i (get_or s.words i 0); homes = set s.homes (home z.slots l.slot d.number) (some u); views = set s.views id v }) (sym (r.items.seats id d at kind).sizes_are) (shown_keep S IsIn plan s r id d l ls at kind can.0 can.1 u can.2.1 i) in (
        v,
        gives,
        tt,
        subst (λ (cs : List (ℕ × S)). Shows IsIn plan (stepped s i (get_or s.words i 0) id cs v gives)) (sym can.2.2) shown,
        λ l1 ls1 tail1 can1. let same = one_last ls ls1 l l1 (sym can.0 ∙ can1.0) in λ j. (record d { leases = same.0 j; releasing = 0 }, (ap table.rest can1.2.2) j),
      )
