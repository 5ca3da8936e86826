-- a step on a slot that no item is in: it is claimed, filled, emptied, or given back
use Rattle.std.proofs.Common.{◌≡◌, ◌≢◌, ℕ, ◌+◌, ◌<◌, List, [], Option, Some, get_or, set, sym, refl, ap, ◌∙◌, ⊎_elim, inl, inr, arith, length-set, get_or-set_other, get_or-set_same}
use mathlib.Core.Logic.{dite}
use mathlib.Core.Option as maybe
use mathlib.Core.Option.{some}
use native.Mathlib.Decide.{ℕ_discrete}
use lib.ListN.{get_elem?, length-map}
use Rattle.atomic_table.specs.Table.{State}
use Rattle.sdd_steps.specs.declared.item.Item.{Item}
use Rattle.sdd_steps.specs.declared.item.Cell.{Cell}
use Rattle.sdd_steps.specs.State.{At, Has}
use Rattle.sdd_steps.specs.Invariant.{names_of}
use Rattle.sdd_steps.proofs.ListLemmas.{put, put_here, put_else, set_all, at_inside}
use Rattle.sdd_homes.specs.declared.Filling.{Filling}
use Rattle.sdd_homes.specs.Book.{Content, Stage, vacant, partly, full, Book}
use Rattle.sdd_homes.specs.Parts.{Parts}
use Rattle.sdd_homes.specs.Reasons.{Loads, Why}
use Rattle.sdd_homes.specs.Lying.{Lying}
use Rattle.sdd_homes.proofs.PartLemmas as parts
use Rattle.sdd_homes.proofs.HandLemmas.{owned_set}
use Rattle.domain_table.specs.Layout.{cell_word, slot_word, link_word, claim_word, all_homes, all_spares}
use Rattle.domain_table.specs.Items.{owners_in_hand, Grip, Owns, Carries, Items}
use Rattle.domain_table.specs.Rule.{Shows}
use Rattle.domain_table.specs.declared.board.Acting.{Acting}
use Rattle.domain_table.specs.declared.board.Plan.{Plan}
use Rattle.domain_table.proofs.Privates.{private_set}
use Rattle.domain_table.proofs.LeftWords.{lefts_behind}
use Rattle.domain_table.proofs.Moves.{items_change, slot_written}
use Rattle.domain_table.proofs.Stirred.{rests_on, grip_set, waits_stay, links_at}

module _ (S : Type 0) (IsIn : Content → S → Type 0) (plan : Plan) (s : State S Acting) (r : Shows IsIn plan s) (id k v : ℕ) (d : Acting) (at : get_elem? s.views id ≡ some d) (kind : d.kind ≡ 1)
    (inside : k < plan.sizes.slots) (st : Stage) (filling' : Option Filling) (share' : ℕ → ℕ → ℕ) (what' : ℕ → Content) (homes' : List (maybe.Option S)) where
  abbrev pub d' : Acting
  d' = record d { slot = k; filling = filling' }

  abbrev pub book' : Book
  book' = record r.book { stage = put r.book.stage k st; share = share'; what = what' }

  abbrev pub views' : List Acting
  views' = set s.views id d'

  abbrev word : ℕ
  word = slot_word plan.sizes k

  abbrev words' : List ℕ
  words' = set s.words word v

  -- the reasons of all leases stay
  pub stayed : Parts plan.sizes.participants plan.sizes.slots r.state.items (Why r.state (Grip views')) r.book
  stayed = parts.stays r.items.parts r.state.items (Why r.state (Grip views')) (λ i it at_i. (it, at_i, refl, refl))
      (λ q l _. ⊎_elim (λ (t : Loads r.state q l.item). inl t) (λ (g : Grip s.views q l.item). inr (grip_set s.views id d d' at (λ _ _ h. h) q l.item g)))

  -- no item is in the slot, before or after; the word is 0 only where it is vacant after; and nobody else fills it
  pub record Fills : Type 0 where
    pub parts : Parts plan.sizes.participants plan.sizes.slots r.state.items (Why r.state (Grip views')) book'
    pub lying : Lying IsIn (all_homes plan.sizes) (all_spares plan.sizes) what' r.book.extra homes'
    pub unused : (i : ℕ) → r.book.stage k ≢ full i
    pub unplaced : (i : ℕ) → st ≢ full i
    pub room : v ≡ 0 → st ≡ vacant
    pub mine : (f : Filling) → filling' ≡ Some f → (f.by ≡ d.number) × (st ≡ partly f)
    pub alone : (f : Filling) → r.book.stage k ≡ partly f → f.by ≡ d.number

  module _ (c : Fills) where
    stage_else : (m : ℕ) → m ≢ k → put r.book.stage k st m ≡ r.book.stage m
    stage_else m ne = put_else r.book.stage k st m ne

    stands : (i : ℕ) (it : Item) → At r.state.items i it → ((q : ℕ) → it.state ≢ Rattle.sdd_steps.specs.declared.item.ItemState.TheVariants.Reclaimed q) → (r.book.slot_of i < plan.sizes.slots) × (put r.book.stage k st (r.book.slot_of i) ≡ full i)
    stands i it at_i alive = let t = r.items.standing i it at_i alive in (t.0, stage_else (r.book.slot_of i) (λ e. c.unused i (ap r.book.stage (sym e) ∙ t.1)) ∙ t.1)

    slots_now : (m i : ℕ) (it : Item) → m < plan.sizes.slots → put r.book.stage k st m ≡ full i → At r.state.items i it → get_or words' (slot_word plan.sizes m) 0 ≡ 2 + it.owners
    slots_now m i it lm is at_i = let ne : m ≢ k = (λ e. c.unplaced i (sym (ap (put r.book.stage k st) e ∙ put_here r.book.stage k st) ∙ is)) in
        get_or-set_other s.words word (slot_word plan.sizes m) v 0 (λ e. ne (omega arith)) ∙ r.items.slot_words m i it lm (sym (stage_else m ne) ∙ is) at_i

    vacancies_now : (m : ℕ) → m < plan.sizes.slots → get_or words' (slot_word plan.sizes m) 0 ≡ 0 → put r.book.stage k st m ≡ vacant
    vacancies_now m lm none = let long = r.items.long in dite (ℕ_discrete m k)
        (λ e. ap (put r.book.stage k st) e ∙ (put_here r.book.stage k st ∙ c.room (sym (ap (λ z. get_or words' (slot_word plan.sizes z) 0) e ∙ get_or-set_same s.words word v 0 (omega arith)) ∙ none)))
        (λ ne. stage_else m ne ∙ r.items.vacancies m lm (sym (get_or-set_other s.words word (slot_word plan.sizes m) v 0 (λ e. ne (omega arith))) ∙ none))

    seats_now : (j : ℕ) (e : Acting) → At views' j e → e.kind ≡ 1 → Carries plan.sizes book' e
    seats_now = set_all (λ _ e. e.kind ≡ 1 → Carries plan.sizes book' e) s.views id d'
        (λ _. let b = r.items.seats id d at kind in record { sizes_are = b.sizes_are; leases = b.leases; spare = b.spare; fills = λ f e. let t = c.mine f e in (inside, t.0, put_here r.book.stage k st ∙ t.1); distinct = b.distinct; left = b.left })
        (λ j e other e_at e_kind. let b = r.items.seats j e e_at e_kind in let a = r.epochs.seats id d at kind in let x = r.epochs.seats j e e_at e_kind in
        let apart : (f : Filling) → r.book.stage e.slot ≡ partly f → f.by ≡ e.number → e.slot ≢ k = (λ f is by same. other (sym x.seated ∙ (ap r.epochs.seat_of (sym by ∙ c.alone f (ap r.book.stage (sym same) ∙ is)) ∙ a.seated))) in
        record { sizes_are = b.sizes_are; leases = b.leases; spare = b.spare; fills = λ f h. let t = b.fills f h in (t.0, t.1, stage_else e.slot (apart f t.2 t.1) ∙ t.2); distinct = b.distinct; left = b.left })

    items_now : Items IsIn plan.sizes r.state book' words' homes' views'
    items_now = record {
      parts = c.parts;
      spares = record { users = r.items.spares.users; range = r.items.spares.range; kept = r.items.spares.kept };
      lying = c.lying;
      standing = stands;
      settled = r.items.settled;
      many = r.items.many;
      long = length-set s.words word v ∙ r.items.long;
      cell_words = λ e x at_e. let le = length-map r.state.cells (λ (q : Cell). q.names) in let in_ = at_inside (names_of r.state.cells) e x at_e in let many = r.items.many in let was = r.items.cell_words e x at_e in (was.0, was.1, get_or-set_other s.words word (cell_word plan.sizes e) v 0 (λ z. omega arith) ∙ was.2);
      slot_words = slots_now;
      vacancies = vacancies_now;
      alone = r.items.alone;
      free = λ p low some_. rests_on r.items words' p low (get_or-set_other s.words word (claim_word p) v 0 (λ z. omega arith)) some_;
      hands = λ i it at_i. let g = owned_set owners_in_hand i s.views id d d' at in let old = r.items.hands i it at_i in omega arith;
      owners = λ j e o at_j has. set_all (λ _ e'. Has e'.hand o → Owns r.state.items r.book.slot_of o) s.views id d' (λ h. r.items.owners id d o at h) (λ j' e' _ e_at h. r.items.owners j' e' o e_at h) j e at_j has;
      given = r.items.given;
      waiting = waits_stay r.items id d' (λ w _ h. r.items.waiting id d w at kind h);
      leftovers = r.items.leftovers;
      private = private_set r.items.private (λ _ h. h) id d d' at refl;
      links = links_at r.items words' r.book.left id d' (λ m. get_or-set_other s.words word (link_word plan.sizes m) v 0 (λ z. omega arith)) (λ w _ h. r.items.links.waits id d w at kind h) (λ w h. r.items.links.notes id d w at h) r.items.links.lefts;
      seats = seats_now;
    }

    pub fills_shown : Shows IsIn plan record { words = words'; homes = homes'; views = views' }
    fills_shown = items_change S IsIn plan s r id d d' r.state words' homes' book' at kind refl refl refl refl ([], refl) refl refl (slot_written S IsIn plan s r id d d' k v at kind refl inside) (lefts_behind r.lefts word v (omega arith)) items_now
