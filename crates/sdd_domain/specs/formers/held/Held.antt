-- `Held` as a type that may hold the type that holds it: its value is the item that its part sees.
use mathlib.Core.Path.{◌≡◌, refl}
use mathlib.Core.Bool.{Bool-set, false≢true}
use mathlib.Core.Former.{Former, this, const, pair, via}
use Rattle.std.specs.Prelude.{ℕ, ◌+◌, ◌^◌, ◌<◌, Option, None, Some, IsSome, true}
use base.Stored.{gnil}
use base.Fml.{ftrue}
use denote.RattleType.{RattleType}
use denote.RawPtr.{Ptr}
use denote.Sharing.{nothing}
use denote.HoleLaws.{Alike}
use denote.HolePlaces.{Recodes, one_value}
use denote.Param.Weighed.{Weighed, w_const, w_pair}
use Rattle.core.specs.declared.mem.manually_drop.ManuallyDrop.{ManuallyDrop}
use Rattle.sdd_domain.specs.declared.held.Held.{Held}
use Rattle.sdd_domain.specs.contracts.held.Held as C

-- all of an owner but its item: where that lies, under which life, that the token is that life's and is one, and that the slot is low
abbrev pub HeldWithoutItem : Type 0
HeldWithoutItem = (slot : ℕ) × (_ : Ptr) × (life : ℕ) × (id : ℕ) × (_ : life ≡ id) × (count : ℕ) × (_ : count ≡ 1) × (slot + 1 < 2 ^ 31)

-- an owner of what lies there
abbrev made : {X : Type 0} → HeldWithoutItem → (o : Option (ManuallyDrop X)) → IsSome o → Held X
made w o there = record { slot = w.0; part = record { part = record { seen = record { ptr = w.1; value = o; life = w.2 }; life = record { id = w.3; count = w.5 }; same = w.4 }; one = w.6 }; there = there; low = w.7 }

abbrev without : {X : Type 0} → Held X → HeldWithoutItem
without s = (s.slot, s.part.part.seen.ptr, s.part.part.seen.life, s.part.part.life.id, s.part.part.same, s.part.part.life.count, s.part.one, s.low)

abbrev item : {X : Type 0} → (o : Option (ManuallyDrop X)) → IsSome o → X
item None there = absurd (false≢true there)
item (Some m) there = m.value

abbrev of_item : {X : Type 0} → HeldWithoutItem → X → Held X
of_item w x = made w (Some (record { value = x })) refl

pub again : {X : Type 0} (w : HeldWithoutItem) (o : Option (ManuallyDrop X)) (there : IsSome o) → of_item w (item o there) ≡ made w o there
again w None there = absurd (false≢true there)
again w (Some m) there = λ i. made w (Some m) (Bool-set true true refl there i)

abbrev pub the_former : Former {0} → Former {0}
the_former g = via (pair (const HeldWithoutItem) g) (λ X. Held (g.Of X)) (λ X s. (without s, item s.part.part.seen.value s.there)) (λ X v. of_item v.0 v.1)
    (λ X s. again (without s) s.part.part.seen.value s.there) (λ X v. refl)

abbrev pub the_weighed : {g : Former {0}} → Weighed g → Weighed (the_former g)
the_weighed w = let both = w_pair (w_const HeldWithoutItem) w in record {
  weight = λ X μ s. both.weight X μ (without s, item s.part.part.seen.value s.there);
  puts = λ X μ s. both.puts X μ (without s, item s.part.part.seen.value s.there);
}

module _ (R S : RattleType) (h : R.Denot → S.Denot) where
  module _ (a : Alike R S h) (w : HeldWithoutItem) where
    own_same : (o : Option (ManuallyDrop R.Denot)) (there : IsSome o) → (C.the_row S).own_val (of_item w (h (item o there))) ≡ (C.the_row R).own_val (made w o there)
    own_same None there = absurd (false≢true there)
    own_same (Some m) there = λ i. (C.the_row (one_value R (a.mir_same i) (a.own_same m.value i) (a.shr_same m.value i) gnil)).own_val (of_item w tt)

    shr_same : (o : Option (ManuallyDrop R.Denot)) (there : IsSome o) → (C.the_row S).shr_at (of_item w (h (item o there))) ≡ (C.the_row R).shr_at (made w o there)
    shr_same None there = absurd (false≢true there)
    shr_same (Some m) there = λ i. (C.the_row (one_value R (a.mir_same i) (a.own_same m.value i) (a.shr_same m.value i) gnil)).shr_at (of_item w tt)

  pub the_places : Alike R S h → Alike (C.the_row R) (C.the_row S) ((the_former this).map R.Denot S.Denot h)
  the_places a = record {
    mir_same = λ i. (C.the_row (one_value R (a.mir_same i) (λ _. ftrue) (λ _ _. nothing) gnil)).mir;
    own_same = λ s. own_same a (without s) s.part.part.seen.value s.there;
    shr_same = λ s. shr_same a (without s) s.part.part.seen.value s.there;
  }

  module _ (e : Recodes R S h) (w : HeldWithoutItem) where
    code_same : (o : Option (ManuallyDrop R.Denot)) (there : IsSome o) → (C.the_row S).coded.code (of_item w (h (item o there))) ≡ (C.the_row R).coded.code (made w o there)
    code_same None there = absurd (false≢true there)
    code_same (Some m) there = λ i. (C.the_row (one_value R R.mir (λ _. ftrue) (λ _ _. nothing) (e m.value i))).coded.code (of_item w tt)

  pub the_codes_placed : Recodes R S h → Recodes (C.the_row R) (C.the_row S) ((the_former this).map R.Denot S.Denot h)
  the_codes_placed e s = code_same e (without s) s.part.part.seen.value s.there
