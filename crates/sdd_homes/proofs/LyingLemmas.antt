-- one slot of the table comes out, or goes back
use Rattle.std.proofs.Common.{◌≡◌, ℕ, ◌+◌, ◌<◌, sym, refl, ◌∙◌, subst, arith, List, set, length, length-set}
use mathlib.Core.Option.{Option, some, none}
use lib.ListN.{get_elem?}
use Rattle.sdd_steps.proofs.ListLemmas.{put, put_all, set_here, set_else, find_at}
use Rattle.sdd_homes.specs.Book.{Content, away}
use Rattle.sdd_homes.specs.Lying.{Fits, Lying}

set_there : {A : Type 0} (l : List A) (i : ℕ) (a : A) → i < length l → get_elem? (set l i a) i ≡ some a
set_there l i a lt = let t = find_at l i lt in set_here l i a t.0 t.1

module _ {S : Type 0} {IsIn : Content → S → Type 0} {base spares : ℕ} {what extra : ℕ → Content} {slots : List (Option S)} (r : Lying IsIn base spares what extra slots) where
  low_set : (i : ℕ) (x : Content) (o : Option S) → i < base → Fits IsIn x (some o) → Lying IsIn base spares (put what i x) extra (set slots i o)
  low_set i x o lt fits = let l = r.long in record {
    long = length-set slots i o ∙ r.long;
    low = λ j lj. put_all (λ j' c. Fits IsIn c (get_elem? (set slots i o) j')) what i x j (subst (Fits IsIn x) (sym (set_there slots i o (omega arith))) fits)
        (λ ne. subst (Fits IsIn (what j)) (sym (set_else slots i j o ne)) (r.low j lj));
    high = λ y ly. subst (Fits IsIn (extra y)) (sym (set_else slots i (base + y) o (λ e. omega arith))) (r.high y ly);
  }

  high_set : (y : ℕ) (x : Content) (o : Option S) → y < spares → Fits IsIn x (some o) → Lying IsIn base spares what (put extra y x) (set slots (base + y) o)
  high_set y x o lt fits = let l = r.long in record {
    long = length-set slots (base + y) o ∙ r.long;
    low = λ j lj. subst (Fits IsIn (what j)) (sym (set_else slots (base + y) j o (λ e. omega arith))) (r.low j lj);
    high = λ v lv. put_all (λ v' c. Fits IsIn c (get_elem? (set slots (base + y) o) (base + v'))) extra y x v (subst (Fits IsIn x) (sym (set_there slots (base + y) o (omega arith))) fits)
        (λ ne. subst (Fits IsIn (extra v)) (sym (set_else slots (base + y) (base + v) o (λ e. ne (omega arith)))) (r.high v lv));
  }

  pub takes_low : (i : ℕ) → i < base → Lying IsIn base spares (put what i away) extra (set slots i none)
  takes_low i lt = low_set i away none lt (λ ne. absurd (ne refl))

  pub gives_low : (i : ℕ) (x : Content) (u : S) → i < base → IsIn x u → Lying IsIn base spares (put what i x) extra (set slots i (some u))
  gives_low i x u lt is = low_set i x (some u) lt (λ _. (u, refl, is))

  pub takes_high : (y : ℕ) → y < spares → Lying IsIn base spares what (put extra y away) (set slots (base + y) none)
  takes_high y lt = high_set y away none lt (λ ne. absurd (ne refl))

  pub gives_high : (y : ℕ) (x : Content) (u : S) → y < spares → IsIn x u → Lying IsIn base spares what (put extra y x) (set slots (base + y) (some u))
  gives_high y x u lt is = high_set y x (some u) lt (λ _. (u, refl, is))
