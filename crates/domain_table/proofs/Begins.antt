-- a release begins where the item isn't leased: the participant's home of it comes out
use Rattle.std.proofs.Common.{◌≡◌, ℕ, suc, ◌^◌, ◌<◌, List, [], ◌∷◌, ◌++◌, get_or, set, sym, refl, ap, ◌∙◌, subst, ⊎_elim, inl, inr, arith}
use mathlib.Core.Option.{some, none}
use lib.ListN.{get_elem?}
use lib.Seq.{set-get_or}
use Rattle.atomic_table.specs.Table.{State, Me, step, takes, Allows}
use Rattle.sdd_plain.specs.declared.sizes.Sizes.{Sizes}
use Rattle.sdd_steps.specs.declared.item.Item.{Item}
use Rattle.sdd_steps.specs.declared.item.ItemState.TheVariants.{Live, Reclaimed}
use Rattle.sdd_steps.specs.State.{Has}
use Rattle.sdd_steps.proofs.ListLemmas.{put, put_here, put_else, set_here, at_inside, same_at}
use Rattle.sdd_homes.specs.declared.Lease.{Lease}
use Rattle.sdd_homes.specs.declared.Owner.{Owner}
use Rattle.sdd_homes.specs.Book.{Content, away, part, full, home, Lends, lease}
use Rattle.sdd_homes.specs.Parts.{Parts}
use Rattle.sdd_homes.specs.Reasons.{Loads, Why}
use Rattle.sdd_homes.proofs.HandLemmas.{has_item, owned_some, mine_some}
use Rattle.sdd_homes.proofs.Totals.{home_in, total_put}
use Rattle.sdd_homes.proofs.LyingLemmas.{takes_low}
use Rattle.sdd_homes.proofs.PartLemmas as parts
use Rattle.domain_table.specs.Items.{owners_in_hand, Grip, Owns}
use Rattle.domain_table.specs.Rule.{Shows}
use Rattle.domain_table.specs.Plays.{own_home, begin_then}
use Rattle.domain_table.specs.declared.board.Acting.{Acting}
use Rattle.domain_table.specs.declared.board.Plan.{Plan}
use Rattle.domain_table.proofs.Moves.{items_change, reads_only}
use Rattle.domain_table.proofs.Stirred.{grip_set, leased}

module _ (S : Type 0) (IsIn : Content → S → Type 0) (plan : Plan) where
  abbrev n : ℕ
  n = plan.sizes.participants

  module _ (s : State S Acting) (r : Shows IsIn plan s) (id : ℕ) (d : Acting) (o : Owner) (os : List Owner) (at : get_elem? s.views id ≡ some d) (kind : d.kind ≡ 1) (idle : d.releasing ≡ 0) (first : d.hand ≡ o ∷ os) (free : ¬ Lends d.leases o.slot) where
    abbrev p : ℕ
    p = d.number

    in_hand : Has d.hand o
    in_hand = subst (λ (ls : List Owner). Has ls o) (sym first) (inl refl)

    own : Owns r.state.items r.book.slot_of o
    own = r.items.owners id d o at in_hand

    pub stand : (o.slot < plan.sizes.slots) × (r.book.stage o.slot ≡ full o.item)
    stand = let w = own in let g = r.items.hands o.item w.0 w.1 in let some_ = owned_some owners_in_hand o.item s.views id d at in let mine = mine_some owners_in_hand o.item d o in_hand refl in let count = (r.kept.0.owned o.item w.0 w.1).counted in
        let alive = (r.kept.0.owned o.item w.0 w.1).is_live (omega arith) in subst (λ z. (z < plan.sizes.slots) × (r.book.stage z ≡ full o.item)) w.3 (r.items.standing o.item w.0 w.1 (λ q e. let bad : Live ≡ Reclaimed q = sym alive ∙ e in absurd (cc)))

    low : p < n
    low = let l = at_inside r.state.participants p d.known (r.epochs.seats id d at kind).is in let many = r.epochs.many in omega arith

    unleased : ¬ Lends (r.book.out p) o.slot
    unleased h = free (subst (λ ls. Lends ls o.slot) (r.items.seats id d at kind).leases h)

    abbrev pub c : ℕ
    c = r.book.share o.slot p

    lies : r.book.what (home plan.sizes.slots o.slot p) ≡ part o.round c
    lies = let f = r.items.parts.full_at o.slot o.item stand.0 stand.1 in let w = own in f.homes p low unleased ∙ ap (λ z. part z c) (ap (λ (z : Item). z.value) (same_at r.state.items o.item f.it w.0 f.here w.1) ∙ w.2)

    -- an owner has one part, so the participant hasn't all of them
    pub few : c < 2 ^ 63
    few = let f = r.items.parts.full_at o.slot o.item stand.0 stand.1 in let w = own in let g = r.items.hands o.item w.0 w.1 in let some_ = owned_some owners_in_hand o.item s.views id d at in let mine = mine_some owners_in_hand o.item d o in_hand refl in let count = (r.kept.0.owned o.item w.0 w.1).counted in
        let same = ap (λ (z : Item). z.owners) (same_at r.state.items o.item f.it w.0 f.here w.1) in let all = f.sum in let part_of_all = total_put n (r.book.share o.slot) p 0 low in omega arith

    pub found : (u : S) × (get_elem? s.homes (home plan.sizes.slots o.slot p) ≡ some (some u)) × IsIn (part o.round c) u
    found = let f = r.items.lying.low (home plan.sizes.slots o.slot p) (home_in n plan.sizes.slots o.slot p stand.0 (omega (arith, low))) (λ e. let bad : part o.round c ≡ away = sym lies ∙ e in absurd (cc)) in (f.0, f.1, subst (λ z. IsIn z f.0) lies f.2)

    abbrev new : Lease
    new = lease o.slot o.item c o.round

    abbrev pub d' : Acting
    d' = record d { leases = d.leases ++ new ∷ []; releasing = suc o.item }

    abbrev out' : ℕ → List Lease
    out' = put r.book.out p (r.book.out p ++ new ∷ [])

    grip : Grip (set s.views id d') p o.item
    grip = (id, d', set_here s.views id d' d at, (kind, refl, refl, has_item d.hand o in_hand))

    reasons : (q : ℕ) (l : Lease) → Has (r.book.out q) l → Why r.state (Grip s.views) q l.item → Why r.state (Grip (set s.views id d')) q l.item
    reasons q l _ = ⊎_elim (λ (t : Loads r.state q l.item). inl t) (λ (g : Grip s.views q l.item). inr (grip_set s.views id d d' at (λ _ _ h. let one = h.2 in absurd (omega arith)) q l.item g))

    kept : Parts n plan.sizes.slots r.state.items (Why r.state (Grip (set s.views id d'))) (record r.book { out = out'; what = put r.book.what (home plan.sizes.slots o.slot p) away })
    kept = let w = own in parts.loads (parts.stays r.items.parts r.state.items (Why r.state (Grip (set s.views id d'))) (λ m z at_z. (z, at_z, refl, refl)) reasons) p o.slot o.item o.round low stand.0 stand.1 unleased (inr grip)
        (λ z at_z. ap (λ (q : Item). q.value) (same_at r.state.items o.item z w.0 at_z w.1) ∙ w.2)

    pub shown_begin : (i : ℕ) → Shows IsIn plan record { words = set s.words i (get_or s.words i 0); homes = set s.homes (home plan.sizes.slots o.slot p) none; views = set s.views id d' }
    shown_begin i = let b = r.items.seats id d at kind in let a = r.epochs.seats id d at kind in subst (λ ws. Shows IsIn plan record { words = ws; homes = set s.homes (home plan.sizes.slots o.slot p) none; views = set s.views id d' }) (sym (set-get_or s.words i 0))
        (items_change S IsIn plan s r id d d' r.state s.words (set s.homes (home plan.sizes.slots o.slot p) none) (record r.book { out = out'; what = put r.book.what (home plan.sizes.slots o.slot p) away }) at kind refl refl refl refl ([], refl) refl refl (reads_only S IsIn plan s r id d d' at kind refl) r.lefts
        (leased r.items r.state.participants out' (put r.book.what (home plan.sizes.slots o.slot p) away) s.words (set s.homes (home plan.sizes.slots o.slot p) none) id d d' at kind (record {
          parts = kept;
          lying = takes_low r.items.lying (home plan.sizes.slots o.slot p) (home_in n plan.sizes.slots o.slot p stand.0 (omega (arith, low)));
          mine = put_here r.book.out p (r.book.out p ++ new ∷ []) ∙ ap (λ ls. ls ++ new ∷ []) b.leases;
          others = λ q ne. put_else r.book.out p (r.book.out p ++ new ∷ []) q ne;
          same = refl;
          written = record { long = refl; high = λ _ _. refl; freed = λ _ _ _. inl refl };
          claimed = a.claimed;
          apart = λ j e other here kind_e same. other (sym (r.epochs.seats j e here kind_e).seated ∙ (ap r.epochs.seat_of same ∙ a.seated));
        })))

  pub begins : (slots id i : ℕ) (me : Me S Acting) (o : Owner) (os : List Owner) → me.0.kind ≡ 1 → me.0.releasing ≡ 0 → me.0.hand ≡ o ∷ os → ¬ Lends me.0.leases o.slot → Allows (Shows IsIn plan) slots id me i (λ w. w) (begin_then IsIn (step slots i 0 0 none) me)
  begins slots id i me o os kind idle first free s r _ at _ = let d = me.0 in let f = found s r id d o os at kind idle first free in let v : Acting = d' s r id d o os at kind idle first free in
      let sizes = ap (λ (z : Sizes). home z.slots o.slot d.number) (r.items.seats id d at kind).sizes_are in (
        v,
        takes (own_home d o.slot) f.0,
        ap (get_elem? s.homes) sizes ∙ f.1,
        subst (λ z. Shows IsIn plan record { words = set s.words i (get_or s.words i 0); homes = set s.homes z none; views = set s.views id v }) (sym sizes) (shown_begin s r id d o os at kind idle first free i),
        λ o' os' first'. let lists : o ∷ os ≡ o' ∷ os' = sym first ∙ first' in let same : o ≡ o' = cc in (
          r.book.share o.slot d.number,
          f.0,
          subst (λ (z : Owner). IsIn (part z.round (r.book.share o.slot d.number)) f.0) same f.2,
          few s r id d o os at kind idle first free,
          subst (λ (z : Owner). z.slot < d.sizes.slots) same (subst (λ (z : Sizes). o.slot < z.slots) (sym (r.items.seats id d at kind).sizes_are) (stand s r id d o os at kind idle first free).0),
          λ j. (record d { leases = d.leases ++ lease (same j).slot (same j).item (r.book.share o.slot d.number) (same j).round ∷ []; releasing = suc (same j).item }, (own_home d (same j).slot, f.0) ∷ me.1),
        ),
      )
