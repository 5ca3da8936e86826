-- the start of a place, and a new seat, keep the rule of the table
use Rattle.std.proofs.Common.{◌≡◌, ℕ, ◌^◌, ◌<◌, List, [], ◌∷◌, ◌++◌, length, replicate, get_or, sym, refl, ap, ◌∙◌, subst, ⊎_elim, inl, inr, arith}
use mathlib.Core.Option.{some}
use lib.ListN.{get_elem?}
use Rattle.atomic_table.specs.Table.{Enters, opening}
use Rattle.atomic_table.proofs.Lists.{at_snoc}
use Rattle.domain_table.specs.declared.board.Plan.{Plan}
use Rattle.sdd_steps.specs.declared.participant.Phase.TheVariants.{Idle, Opened}
use Rattle.sdd_steps.specs.declared.participant.Participant.{Participant}
use Rattle.sdd_steps.specs.State.{At, Has, newcomer}
use Rattle.sdd_steps.specs.Invariant.{Guarded}
use Rattle.sdd_steps.proofs.ListLemmas.{at_inside, at_longer, at_replicate}
use Rattle.sdd_steps.proofs.Law.{starts}
use Rattle.sdd_homes.specs.Reasons.{Loads}
use Rattle.sdd_homes.proofs.HandLemmas.{owned_end}
use Rattle.domain_table.specs.Views.{spent}
use Rattle.domain_table.specs.Items.{owners_in_hand, Grip}
use Rattle.domain_table.proofs.Stirred.{stirred_none}
use Rattle.domain_table.proofs.Stirred as items
use Rattle.domain_table.proofs.Privates.{private_on}
use Rattle.sdd_homes.specs.Book.{Content}
use Rattle.domain_table.specs.Layout.{state_word, claim_word, cell_word, shown, left_word}
use Rattle.domain_table.specs.Rule.{beginning, first_words, Shows}
use Rattle.domain_table.specs.declared.board.Acting.{Acting}
use Rattle.domain_table.proofs.Firsts.{many_of, long_first, state_words_first, claim_words_first, left_words_first, cell_words_first, first_book, FirstSlots, items_begin}

-- the view of a seat that acts for nobody isn't that of one that acts
nobody : (d : Acting) (G : Type 0) → spent ≡ d → d.kind ≡ 1 → G
nobody d G t kind = let z : 0 ≡ d.kind = ap (λ (k : Acting). k.kind) t in absurd (omega arith)

module _ (S : Type 0) (IsIn : Content → S → Type 0) (plan : Plan) where
  -- a new place shows the start, where no guard is open and no item is there, at the count that it is given
  pub begins : (words : List ℕ) (homes : List S) → plan.first < 2 ^ 64 → words ≡ first_words plan → FirstSlots IsIn plan.sizes homes
      → Shows IsIn plan (opening words homes spent)
  begins words homes fits is_words first_slots = let count = plan.first in let sizes = plan.sizes in let n = sizes.participants in let w : (i : ℕ) → get_or words i 0 ≡ get_or (first_words plan) i 0 = (λ i. ap (λ (l : List ℕ). get_or l i 0) is_words) in
      let start' = beginning plan in
      let idle : (p : ℕ) (x : Participant) (e : ℕ) → At (replicate n newcomer) p x → x.phase ≡ Opened e → ⊥ = (λ p x e at h. let same : Idle ≡ Opened e = ap (λ (z : Participant). z.phase) (at_replicate n p newcomer x at) ∙ h in absurd (cc)) in record {
        state = start';
        run = ([], refl);
        book = first_book sizes;
        items = items_begin plan words homes (ap length is_words ∙ long_first plan) (λ p lt. w (claim_word p) ∙ claim_words_first plan p lt) (λ c lt. w (cell_word sizes c) ∙ cell_words_first plan c lt) first_slots;
        kept = (
          (starts n plan.sizes.cells).0,
          (
            (λ _. 0),
            (λ _. 0),
            record {
              fits = omega arith;
              dated = λ i. omega arith;
              guards = λ p x at. subst (λ (y : Participant). Guarded count 0 y.found y.phase y.reread) (at_replicate n p newcomer x at) (record { past = omega arith; reading = λ e h. absurd (cc); inside = λ e h. absurd (cc); again = λ e m h. absurd (cc) });
              looks = λ q x p y e at h. absurd (idle q x count at h);
              ageing = λ i it r a x at. absurd (cc);
              noted = λ i it m at. absurd (cc);
              kept = λ p x e l at h. absurd (idle p x e at h);
              calm = λ p x q at _ has. subst (λ (y : Participant). Has y.looked q) (sym (at_replicate n p newcomer x at)) has;
              quiet = λ p q x y m e l it a at is has at_q is_q. absurd (idle q y e at_q is_q);
            },
          ),
        );
        born = λ _. 0;
        lefts = record { told = λ p lt. w (left_word p) ∙ left_words_first plan p lt; chained = λ _. refl };
        bounded = record {
          inside = λ p x e at h. absurd (idle p x e at h);
          looks = λ q x p y e at h. absurd (idle q x count at h);
        };
        epochs = record {
          seat_of = λ _. 0;
          scanner = 0;
          wide = let l = ap length is_words ∙ long_first plan in omega arith;
          many = many_of n newcomer;
          count_is = w 0;
          states = λ p x at. let low = at_inside (replicate n newcomer) p x at in let many = many_of n newcomer in w (state_word p) ∙ state_words_first plan p (omega arith) ∙ ap (λ (z : Participant). shown z.phase) (at_replicate n p newcomer x at);
          free = λ p x at _. sym (at_replicate n p newcomer x at);
          seats = λ j d at kind. ⊎_elim (λ (h : get_elem? [] j ≡ some d). absurd (cc)) (λ t. nobody d _ t kind) (at_snoc [] spent d j at);
        };
      }

  pub sits : (slots i : ℕ) → Enters {S = S} (Shows IsIn plan) slots i (λ _ w. w ≡ spent)
  sits slots i s r _ _ = let o = r.epochs in (
    spent,
    record {
      state = r.state;
      run = r.run;
      kept = r.kept;
      book = r.book;
      items = items.stays r.items r.state s.words (s.views ++ spent ∷ []) refl (stirred_none r.state.items)
          (λ q l _ y. ⊎_elim (λ (t : Loads r.state q l.item). inl t) (λ (g : Grip s.views q l.item). inr (g.0, g.1, at_longer s.views (spent ∷ []) g.0 g.1 g.2, g.3)) y)
          (record { long = refl; high = λ _ _. refl; freed = λ _ _ _. inl refl })
          (record {
            same = λ i. let e = owned_end owners_in_hand i s.views spent in omega arith;
            owners = λ j d o' e has. ⊎_elim (λ (h : get_elem? s.views j ≡ some d). r.items.owners j d o' h has) (λ (t : spent ≡ d). absurd (subst (λ (v : Acting). Has v.hand o') (sym t) has)) (at_snoc s.views spent d j e);
            seats = λ j d e kind. ⊎_elim (λ (h : get_elem? s.views j ≡ some d). r.items.seats j d h kind) (λ (t : spent ≡ d). nobody d _ t kind) (at_snoc s.views spent d j e);
          }) (λ j d w e kind has. ⊎_elim (λ (h : get_elem? s.views j ≡ some d). r.items.waiting j d w h kind has) (λ (t : spent ≡ d). nobody d _ t kind) (at_snoc s.views spent d j e)) r.items.leftovers
          (private_on r.items.private (λ _ h. h) (λ j d e. ⊎_elim (λ (h : get_elem? s.views j ≡ some d). inr (d, h, refl)) (λ (t : spent ≡ d). inl (ap (λ (z : Acting). z.collected) (sym t))) (at_snoc s.views spent d j e)))
          (items.links_all r.items s.words r.book.left (s.views ++ spent ∷ []) (λ _. refl)
          (λ j d w e kind has. ⊎_elim (λ (h : get_elem? s.views j ≡ some d). r.items.links.waits j d w h kind has) (λ (t : spent ≡ d). nobody d _ t kind) (at_snoc s.views spent d j e))
          (λ j d w e has. ⊎_elim (λ (h : get_elem? s.views j ≡ some d). r.items.links.notes j d w h has) (λ (t : spent ≡ d). absurd (subst (λ (v : Acting). Has v.collected w) (sym t) has)) (at_snoc s.views spent d j e))
          r.items.links.lefts);
      born = r.born;
      lefts = r.lefts;
      bounded = r.bounded;
      epochs = record {
        seat_of = o.seat_of;
        scanner = o.scanner;
        wide = o.wide;
        many = o.many;
        count_is = o.count_is;
        states = o.states;
        free = o.free;
        seats = λ j d e kind. ⊎_elim (λ (h : get_elem? s.views j ≡ some d). o.seats j d h kind) (λ (t : spent ≡ d). nobody d _ t kind) (at_snoc s.views spent d j e);
      };
    },
    refl,
  )
