-- the words and slots of a new place show that there is no item
use Rattle.std.proofs.Common.{◌≡◌, ℕ, zero, suc, ◌+◌, ◌-◌, ◌*◌, ◌<◌, ◌≤◌, List, [], ◌∷◌, ◌++◌, length, map, replicate, get_or, sym, refl, ap, ◌∙◌, subst, ⊎_elim, arith, Option, None, length-append, cond, lt-ltb, le-ltb}
use Rattle.std.proofs.lemmas.List.{get_or_append_left, get_or-append_right}
use Rattle.std.proofs.Math.Nat.{suc-mul}
use Rattle.std.proofs.lemmas.Nat.{mul-le}
use mathlib.Core.Logic.{dite}
use mathlib.Core.Option.{some, some-ne-none}
use native.Mathlib.Decide.{ℕ_discrete}
use lib.ListN.{get_elem?, length-map}
use Rattle.sdd_plain.specs.declared.sizes.Sizes.{Sizes}
use Rattle.sdd_steps.specs.declared.item.Cell.{Cell}
use Rattle.sdd_steps.specs.State.{At, Has, empty_cell}
use Rattle.sdd_steps.specs.Invariant.{names_of}
use Rattle.sdd_steps.proofs.ListLemmas.{at_map, at_mapped, at_inside, at_replicate, find_at, at_end}
use Rattle.sdd_homes.specs.Book.{Content, blank, room, home, resting, vacant, Book}
use Rattle.sdd_homes.specs.Spares.{IsKept}
use Rattle.sdd_homes.proofs.Fillings.{resting_own, resting_else}
use Rattle.domain_table.specs.Contents.{first_in_home}
use Rattle.domain_table.specs.Views.{spent}
use Rattle.domain_table.specs.Layout.{state_word, claim_word, left_word, cell_word, all_words, all_homes, own_homes, all_spares, packed}
use Rattle.domain_table.specs.Items.{code, Distinct, Items}
use Rattle.domain_table.specs.Rule.{beginning, numbers, first_eight, first_eights, first_words}
use Rattle.domain_table.specs.declared.board.Acting.{Acting}
use Rattle.domain_table.specs.declared.board.Plan.{Plan}

pub many_of : {A : Type 0} (n : ℕ) (x : A) → length (replicate n x) ≡ n
many_of zero x = refl
many_of (suc n) x = ap suc (many_of n x)

long_numbers : (n : ℕ) → length (numbers n) ≡ n
long_numbers zero = refl
long_numbers (suc n) = let l = length-append (numbers n) (n ∷ []) in let h = long_numbers n in omega arith

numbers_at : (n i : ℕ) → i < n → get_or (numbers n) i 0 ≡ i
numbers_at zero i lt = absurd (omega arith)
numbers_at (suc n) i lt = let l = long_numbers n in dite (ℕ_discrete i n)
    (λ e. get_or-append_right (numbers n) (n ∷ []) n i 0 l (omega arith) ∙ (ap (λ z. get_or (n ∷ []) z 0) (let none : i - n ≡ 0 = omega arith in none) ∙ sym e))
    (λ ne. get_or_append_left (numbers n) (n ∷ []) 0 i (omega arith) ∙ numbers_at n i (omega arith))

-- what stands in a list that is two, one behind the other
pub at_low : {A : Type 0} (l m : List A) (i : ℕ) (y : A) → i < length l → At (l ++ m) i y → At l i y
at_low [] m i y lt at = absurd (omega arith)
at_low (a ∷ l) m zero y lt at = at
at_low (a ∷ l) m (suc i) y lt at = at_low l m i y (omega arith) at

pub at_high : {A : Type 0} (l m : List A) (i j : ℕ) (y : A) → j ≡ length l + i → At (l ++ m) j y → At m i y
at_high [] m i j y e at = let same : j ≡ i = omega arith in subst (λ z. At m z y) same at
at_high (a ∷ l) m i zero y e at = absurd (omega arith)
at_high (a ∷ l) m i (suc j) y e at = at_high l m i j y (omega arith) at

long_eights : (cells n : ℕ) → length (first_eights cells n) ≡ 8 * n
long_eights cells zero = refl
long_eights cells (suc n) = let l = length-append (first_eights cells n) (first_eight (cells + n)) in let h = long_eights cells n in omega arith

-- the words of participant p are those told of it
eight_at : (cells n p j : ℕ) → p < n → j < 8 → get_or (first_eights cells n) (8 * p + j) 0 ≡ get_or (first_eight (cells + p)) j 0
eight_at cells zero p j lt small = absurd (omega arith)
eight_at cells (suc n) p j lt small = let l = long_eights cells n in dite (ℕ_discrete p n)
    (λ e. get_or-append_right (first_eights cells n) (first_eight (cells + n)) (8 * n) (8 * p + j) 0 l (omega arith) ∙ (ap (λ z. get_or (first_eight (cells + n)) z 0) (let same : 8 * p + j - 8 * n ≡ j = omega arith in same) ∙ ap (λ z. get_or (first_eight (cells + z)) j 0) (sym e)))
    (λ ne. get_or_append_left (first_eights cells n) (first_eight (cells + n)) 0 (8 * p + j) (omega arith) ∙ eight_at cells n p j (omega arith) small)

module _ (plan : Plan) where
  abbrev n : ℕ
  n = plan.sizes.participants

  abbrev eights : List ℕ
  eights = first_eights plan.sizes.cells n

  abbrev behind : List ℕ
  behind = numbers plan.sizes.cells ++ replicate (plan.sizes.slots + plan.sizes.slots) zero

  pub long_first : length (first_words plan) ≡ all_words plan.sizes
  long_first = let a = length-append eights behind in let b = length-append (numbers plan.sizes.cells) (replicate (plan.sizes.slots + plan.sizes.slots) zero) in let c = long_eights plan.sizes.cells n in let d = many_of (plan.sizes.slots + plan.sizes.slots) zero in let e = long_numbers plan.sizes.cells in omega arith

  -- behind the first 16 words are those of participants, and then all others
  past : (i j : ℕ) → i ≡ 16 + j → get_or (first_words plan) i 0 ≡ get_or (eights ++ behind) j 0
  past i j e = get_or-append_right (plan.first ∷ replicate 15 zero) (eights ++ behind) 16 i 0 refl (omega arith) ∙ ap (λ z. get_or (eights ++ behind) z 0) (let d : i - 16 ≡ j = omega arith in d)

  first_of_participant : (p j : ℕ) → p < n → j < 8 → get_or (first_words plan) (8 * p + 16 + j) 0 ≡ get_or (first_eight (plan.sizes.cells + p)) j 0
  first_of_participant p j lt small = let l = long_eights plan.sizes.cells n in past (8 * p + 16 + j) (8 * p + j) (omega arith) ∙ (get_or_append_left eights behind 0 (8 * p + j) (omega arith) ∙ eight_at plan.sizes.cells n p j lt small)

  pub state_words_first : (p : ℕ) → p < n → get_or (first_words plan) (state_word p) 0 ≡ 0
  state_words_first p lt = ap (λ z. get_or (first_words plan) z 0) (let e : state_word p ≡ 8 * p + 16 + 0 = omega arith in e) ∙ first_of_participant p 0 lt (omega arith)

  pub claim_words_first : (p : ℕ) → p < n → get_or (first_words plan) (claim_word p) 0 ≡ suc (plan.sizes.cells + p)
  claim_words_first p lt = ap (λ z. get_or (first_words plan) z 0) (let e : claim_word p ≡ 8 * p + 16 + 1 = omega arith in e) ∙ first_of_participant p 1 lt (omega arith)

  pub left_words_first : (p : ℕ) → p < n → get_or (first_words plan) (left_word p) 0 ≡ 0
  left_words_first p lt = ap (λ z. get_or (first_words plan) z 0) (let e : left_word p ≡ 8 * p + 16 + 2 = omega arith in e) ∙ first_of_participant p 2 lt (omega arith)

  pub cell_words_first : (c : ℕ) → c < plan.sizes.cells → get_or (first_words plan) (cell_word plan.sizes c) 0 ≡ c
  cell_words_first c lt = let l = long_numbers plan.sizes.cells in past (cell_word plan.sizes c) (8 * n + c) (omega arith)
      ∙ (get_or-append_right eights behind (8 * n) (8 * n + c) 0 (long_eights plan.sizes.cells n) (omega arith)
      ∙ (ap (λ z. get_or behind z 0) (let d : 8 * n + c - 8 * n ≡ c = omega arith in d)
      ∙ (get_or_append_left (numbers plan.sizes.cells) (replicate (plan.sizes.slots + plan.sizes.slots) zero) 0 c (omega arith) ∙ numbers_at plan.sizes.cells c lt)))

-- all slots are free, each user has the spare slot of its own number, and nothing is left
abbrev pub first_book : Sizes → Book
first_book sizes = record { stage = λ _. vacant; share = λ _ _. 0; slot_of = λ _. 0; held = λ _. []; out = λ _. []; left = λ _. []; what = first_in_home (own_homes sizes); spare = λ u. u; user = λ u. u; extra = λ _. blank }

-- these are the homes of free slots
rests_first : (sizes : Sizes) (k p : ℕ) → k < sizes.slots → p < suc sizes.participants → first_in_home (own_homes sizes) (home sizes.slots k p) ≡ resting sizes.participants p
rests_first sizes k p lk lp = let n : ℕ = sizes.participants in let m : ℕ = sizes.slots in dite (ℕ_discrete p n)
    (λ e. let f : p * m ≡ n * m = ap (λ z. z * m) e in ap (λ b. cond b blank room) (le-ltb (home m k p) (n * m) (omega arith)) ∙ sym (resting_own n p e))
    (λ ne. let most : suc p * m ≤ n * m = mul-le (suc p) m n m (omega arith) (omega arith) in let one : suc p * m ≡ p * m + m = suc-mul p m in ap (λ b. cond b blank room) (lt-ltb (home m k p) (n * m) (omega arith)) ∙ sym (resting_else n p ne))

named_none : (plan : Plan) (c : ℕ) (o : Option ℕ) → At (names_of (beginning plan).cells) c o → o ≡ None
named_none plan c o at = let t = at_mapped (λ (z : Cell). z.names) (replicate plan.sizes.cells empty_cell) c o at in sym t.2 ∙ ap (λ (z : Cell). z.names) (sym (at_replicate plan.sizes.cells c empty_cell t.0 t.1))

only : (j : ℕ) (d : Acting) → At (spent ∷ []) j d → spent ≡ d
only j d at = ⊎_elim (λ (h : At [] j d). absurd (some-ne-none d (sym h))) (λ t. t.1) (at_end [] spent j d at)

-- the slots of a new place: the homes are those of free slots, and the spare slots behind them are empty
pub record FirstSlots {S : Type 0} (IsIn : Content → S → Type 0) (sizes : Sizes) (slots : List S) : Type 0 where
  pub long : length slots ≡ all_homes sizes + all_spares sizes
  pub low : (i : ℕ) (y : S) → i < all_homes sizes → At slots i y → IsIn (first_in_home (own_homes sizes) i) y
  pub high : (i : ℕ) (y : S) → i < all_spares sizes → At slots (all_homes sizes + i) y → IsIn blank y

-- the slot i is at home with what the content tells
abbrev Found : {S : Type 0} → (Content → S → Type 0) → List S → Content → ℕ → Type 0
Found {S} IsIn slots x i = (y : S) × (get_elem? (map some slots) i ≡ some (some y)) × IsIn x y

module _ {S : Type 0} {IsIn : Content → S → Type 0} (plan : Plan) (words : List ℕ) (slots : List S) where
  pub items_begin : length words ≡ all_words plan.sizes → ((p : ℕ) → p < plan.sizes.participants → get_or words (claim_word p) 0 ≡ suc (plan.sizes.cells + p)) → ((c : ℕ) → c < plan.sizes.cells → get_or words (cell_word plan.sizes c) 0 ≡ c) → FirstSlots IsIn plan.sizes slots
      → Items IsIn plan.sizes (beginning plan) (first_book plan.sizes) words (map some slots) (spent ∷ [])
  items_begin long claims cells f = let n = plan.sizes.participants in let many = many_of plan.sizes.cells empty_cell in
      let long_slots = f.long in let found : (x : Content) (i : ℕ) → i < length slots → ((y : S) → At slots i y → IsIn x y) → Found IsIn slots x i = (λ x i lt is. let t = find_at slots i lt in (t.0, at_map some slots i t.0 t.1, is t.0 t.1)) in record {
        parts = record { full_at = λ k i _ e. absurd (cc); partly_at = λ k f _ e. absurd (cc); vacant_at = λ k p lk _ lp. rests_first plan.sizes k p lk lp; leases = λ p l h. absurd h; once = λ _. tt };
        spares = record { users = λ _ _. refl; range = λ _ lt. lt; kept = λ c o lc at. subst (λ z. IsKept [] z blank) (sym (named_none plan c o at)) refl };
        lying = record {
          long = length-map slots some ∙ long_slots;
          low = λ i lt _. found (first_in_home (own_homes plan.sizes) i) i (omega arith) (λ y. f.low i y lt);
          high = λ i lt _. found blank (all_homes plan.sizes + i) (omega arith) (λ y. f.high i y lt);
        };
        standing = λ i it at. absurd (some-ne-none it (sym at));
        settled = λ i it q at. absurd (some-ne-none it (sym at));
        many = many;
        long = long;
        cell_words = λ c o at. let e = named_none plan c o at in let le = length-map (replicate plan.sizes.cells empty_cell) (λ (z : Cell). z.names) in let lt = at_inside (names_of (beginning plan).cells) c o at in (0, omega arith, cells c (omega arith) ∙ ((let z : c ≡ packed c 0 0 = omega arith in z) ∙ ap (λ z. packed c 0 (code (λ _. 0) z)) (sym e)));
        slot_words = λ k i it _ e. absurd (cc);
        vacancies = λ k _ _. refl;
        given = λ i it at_i. absurd (cc);
        waiting = λ j d w at_j kind has. let z : 0 ≡ d.kind = ap (λ (v : Acting). v.kind) (only j d at_j) in absurd (omega arith);
        alone = λ c o at. ap (λ (z : Cell). z.holder) (sym (at_replicate plan.sizes.cells c empty_cell o at));
        free = λ p low _. (refl, claims p low, refl);
        leftovers = record { waits = λ p w h. absurd h; once = λ _. tt; apart = λ p q v w h. absurd h };
        private = record {
          noted = λ j d w at has. absurd (subst (λ (v : Acting). Has v.collected w) (sym (only j d at)) has);
          once = λ j d at. subst (λ (v : Acting). Distinct v.collected) (only j d at) tt;
          apart = λ j k d e v w at_d at_e has. absurd (subst (λ (z : Acting). Has z.collected v) (sym (only j d at_d)) has);
        };
        links = record {
          waits = λ j d w at_j kind has. let z : 0 ≡ d.kind = ap (λ (v : Acting). v.kind) (only j d at_j) in absurd (omega arith);
          notes = λ j d w at_j has. absurd (subst (λ (v : Acting). Has v.collected w) (sym (only j d at_j)) has);
          lefts = λ p w has. absurd has;
        };
        hands = λ i it at. absurd (some-ne-none it (sym at));
        owners = λ j d o at has. absurd (subst (λ (v : Acting). Has v.hand o) (sym (only j d at)) has);
        seats = λ j d at k. let z : 0 ≡ d.kind = ap (λ (v : Acting). v.kind) (only j d at) in absurd (omega arith);
      }
