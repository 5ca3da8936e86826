-- new entries
use Rattle.std.proofs.Common.{◌≡◌, ◌≢◌, ◌⊎◌, ℕ, zero, suc, ◌<◌, Option, None, Some, List, [], ◌∷◌, length, get_or, set, refl, ap, ◌∙◌, subst, get_or-set_same, IfSome, inl, arith}
use Rattle.sdd_world.specs.State.{State, value_at, placed, with_cell, IsFree, IsFreeCell, NoneFree, NoCellFree}
use Rattle.sdd_world.specs.declared.tag.Tag.TheVariants as tag
use Rattle.sdd_world.specs.declared.status.Status.{Status}
use Rattle.sdd_world.specs.declared.status.Status.TheVariants as status
use Rattle.sdd_world.specs.declared.status.Cell.{Cell}
use Rattle.sdd_world.specs.declared.status.Cell.TheVariants as cell
use Rattle.sdd_lists.specs.Entries.{entry_value, entry_link}
use Rattle.sdd_lists.specs.Making.{IsMade}
use Rattle.sdd_lists.specs.declared.linked_entry.LinkedEntry.{LinkedEntry}
use Rattle.sdd_lists.proofs.ChainLemmas.{freed_again}

some_of : {X : Type 0} (r : X) → ◌≡◌ {A = Option X} (Some r) None → ⊥
some_of r h = cc

-- what can be read at a place after a write there is what was written
pub written : {X : Type 0} (xs : List (Option X)) (i : ℕ) (x r : X) → Some r ≡ get_or (set xs i (Some x)) i None → get_or (set xs i (Some x)) i None ≡ Some x
written {X} [] i x r h = absurd (some_of r h)
written (y ∷ ys) zero x r h = refl
written (y ∷ ys) (suc i) x r h = written ys i x r h

module _ {T : Type 0} (w w1 w2 : State (LinkedEntry T)) (c i : ℕ) (v : T) (item : LinkedEntry T) where
  pub made : IsFreeCell w c → entry_value item ≡ v → entry_link item ≡ Some c → w1 ≡ with_cell c (cell.OfShared None tag.None) w → IsFree w1 i → w2 ≡ placed i item (status.Shared 1) w1 → (r : LinkedEntry T) → Some r ≡ value_at w2 i → IsMade w w2 v i
  made free value link e1 freed e2 r read =
      let states : w1.states ≡ w.states = ap (λ (s : State (LinkedEntry T)). s.states) e1 in
      let states2 : w2.states ≡ set w1.states i (status.Shared 1) = ap (λ (s : State (LinkedEntry T)). s.states) e2 in
      let values2 : w2.values ≡ set w1.values i (Some item) = ap (λ (s : State (LinkedEntry T)). s.values) e2 in
      let cells2 : w2.cells ≡ set w.cells c (cell.OfShared None tag.None) = ap (λ (s : State (LinkedEntry T)). s.cells) e2 ∙ ap (λ (s : State (LinkedEntry T)). s.cells) e1 in
      let now : value_at w2 i ≡ get_or (set w1.values i (Some item)) i None = ap (λ (vs : List (Option (LinkedEntry T))). get_or vs i None) values2 in
      record {
        entry = record { slot = i; item = item; link = c; tag = tag.None };
        at = refl;
        new = record { value_of = value; clear = refl; slot = subst (λ (ss : List Status). (i < length ss) × (get_or ss i status.Free ≡ status.Free)) states freed; link = free };
        loose = record {
          item = record {
            owners = 1;
            owned = omega arith;
            shared = ap (λ (ss : List Status). get_or ss i status.Free) states2 ∙ get_or-set_same w1.states i (status.Shared 1) status.Free freed.0;
            here = now ∙ written w1.values i item r (read ∙ now);
            linked = link;
          };
          empty = ap (λ (cs : List Cell). get_or cs c cell.Free) cells2 ∙ get_or-set_same w.cells c (cell.OfShared None tag.None) cell.Free free.0;
        };
      }

-- no slot was free: the entry is taken apart again
module _ {T : Type 0} (w w1 w2 w3 : State (LinkedEntry T)) (c : ℕ) (v r : T) (item item' : LinkedEntry T) where
  pub unmade : IsFreeCell w c → entry_value item ≡ v → entry_link item ≡ Some c → w1 ≡ with_cell c (cell.OfShared None tag.None) w → item' ≡ item → w2 ≡ w1 → NoneFree w1 → r ≡ entry_value item' → IfSome (entry_link item') (λ k. w3 ≡ with_cell k cell.Free w2) → (r ≡ v) × (w3 ≡ w) × (NoneFree w ⊎ NoCellFree w)
  unmade free value link e1 back e2 none given ended =
      let e3 : w3 ≡ with_cell c cell.Free w2 = subst (λ (o : Option ℕ). IfSome o (λ k. w3 ≡ with_cell k cell.Free w2)) (ap entry_link back ∙ link) ended in
      let states : w1.states ≡ w.states = ap (λ (s : State (LinkedEntry T)). s.states) e1 in (
        given ∙ ap entry_value back ∙ value,
        e3 ∙ ap (λ (s : State (LinkedEntry T)). with_cell c cell.Free s) (e2 ∙ e1) ∙ freed_again w c (cell.OfShared None tag.None) free.1,
        inl (subst (λ (ss : List Status). (i : ℕ) → i < length ss → get_or ss i status.Free ≢ status.Free) states none),
      )

pub one_owner : (n : ℕ) → status.Shared 1 ≡ status.Shared n → n ≡ 1
one_owner n h = cc
