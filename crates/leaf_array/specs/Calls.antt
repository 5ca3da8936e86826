-- What an array calls its callers' closures with, and in which order.
use Rattle.std.specs.Prelude.{◌≡◌, ◌⊎◌, ℕ, ◌==◌, Bool, IsTrue, false, nat_lt, List, [], ◌∷◌, ◌++◌, map, Option, Some, Result, Ok, Err}
use Rattle.std.specs.List.{filter, range_with_len, enumerate_from, FoldsTo}
use Rattle.std.specs.Fn.{Called, Takes, Mut}
use denote.Ref.{Bor}
use Rattle.leaf_array.specs.Cells.{Cells, slot_of, rank_in, in_slot}
use Rattle.leaf_array.specs.Words.{boundary}

-- the slots that have a rank, rising
abbrev pub ranked_slots : List (ℕ × ℕ) → List ℕ
ranked_slots labels = filter (λ slot. nat_lt 0 (rank_in slot labels)) (range_with_len 0 15)

-- the slots of the n lowest bitmap places, in their order
abbrev pub slots_in_order : ℕ → List ℕ
slots_in_order n = map slot_of (range_with_len 0 n)

-- a call was made at each element, in their order
abbrev pub CallsEach : {P A : Type 0} → (P → A → P → Type 0) → P → List A → Type 0
CallsEach {P} step p xs = (last : P) × FoldsTo step p xs last

-- a call may be made at each element, in whatever state the calls at those before it leave
pub record TakesEach {P A : Type 0} (takes : P → A → Type 0) (step : P → A → P → Type 0) (p : P) (xs : List A) : Type 0 where
  pub at : (before after : List A) (x : A) (q : P) → xs ≡ before ++ x ∷ after → FoldsTo step p before q → takes q x

module _ {F K V : Type 0} where
  -- a call at a key and its value, with a boundary and the place of the pair
  pub record IsDealt (g : Mut F (Bor K × (Bor V × (ℕ × (ℕ × Unit {0})))) (Unit {0})) (boundary : ℕ) (f : F) (e : ℕ × (K × V)) (f' : F) : Type 0 where
    pub key : Bor K
    pub value : Bor V
    pub shows : (key.now ≡ e.1.0) × (value.now ≡ e.1.1)
    pub called : Called g f (key, (value, (boundary, (e.0, tt)))) tt f'

  -- such a call may be made
  abbrev pub TakesDealt : Mut F (Bor K × (Bor V × (ℕ × (ℕ × Unit {0})))) (Unit {0}) → ℕ → F → ℕ × (K × V) → Type 0
  TakesDealt g boundary f e = (key : Bor K) (value : Bor V) → key.now ≡ e.1.0 → value.now ≡ e.1.1 → Takes g f (key, (value, (boundary, (e.0, tt))))

  -- the pairs may be dealt in their order, with a boundary
  abbrev pub MayDeal : Mut F (Bor K × (Bor V × (ℕ × (ℕ × Unit {0})))) (Unit {0}) → ℕ → F → List (K × V) → Type 0
  MayDeal g boundary f pairs = TakesEach (TakesDealt g boundary) (IsDealt g boundary) f (enumerate_from 0 pairs)

  -- the pairs of an array may be dealt, with its boundary
  abbrev pub MayDealAll : Mut F (Bor K × (Bor V × (ℕ × (ℕ × Unit {0})))) (Unit {0}) → F → Cells K V → Type 0
  MayDealAll g f a = MayDeal g (boundary a).0 f a.pairs

  -- a call at what was made of the pairs before, and the next key and its value
  pub record IsFolded {B : Type 0} (g : Mut F (B × (Bor K × (Bor V × Unit {0}))) B) (p : F × B) (e : K × V) (q : F × B) : Type 0 where
    pub key : Bor K
    pub value : Bor V
    pub shows : (key.now ≡ e.0) × (value.now ≡ e.1)
    pub called : Called g p.0 (p.1, (key, (value, tt))) q.1 q.0

  -- such a call may be made
  abbrev pub TakesFolded : {B : Type 0} → Mut F (B × (Bor K × (Bor V × Unit {0}))) B → F × B → K × V → Type 0
  TakesFolded g p e = (key : Bor K) (value : Bor V) → key.now ≡ e.0 → value.now ≡ e.1 → Takes g p.0 (p.1, (key, (value, tt)))

  -- a call at a slot whose bit is set: its rank, its pair, and whether that was removed
  pub record IsShown {E : Type 0} (g : Mut F (ℕ × (ℕ × (Option (Bor K × Bor V) × (Bool × Unit {0})))) (Result (Unit {0}) E)) (a : Cells K V) (f : F) (slot : ℕ) (r : Result (Unit {0}) E) (f' : F) : Type 0 where
    pub key : Bor K
    pub value : Bor V
    pub shows : in_slot slot a ≡ Some (key.now, value.now)
    pub called : Called g f (slot, (rank_in slot a.labels, (Some (key, value), (rank_in slot a.labels == 0, tt)))) r f'

  -- such a call may be made
  abbrev pub TakesShown : {E : Type 0} → Mut F (ℕ × (ℕ × (Option (Bor K × Bor V) × (Bool × Unit {0})))) (Result (Unit {0}) E) → Cells K V → F → ℕ → Type 0
  TakesShown g a f slot = (key : Bor K) (value : Bor V) → in_slot slot a ≡ Some (key.now, value.now) → Takes g f (slot, (rank_in slot a.labels, (Some (key, value), (rank_in slot a.labels == 0, tt))))

-- steps at the elements in their order, up to the first that answers an error
abbrev pub TriesEach : {F A E : Type 0} → (F → A → Result (Unit {0}) E → F → Type 0) → F → List A → Result (Unit {0}) E → F → Type 0
TriesEach step f [] r last = (r ≡ Ok tt) × (f ≡ last)
TriesEach {F} {A} {E} step f (x ∷ xs) r last = ((next : F) × step f x (Ok tt) next × TriesEach step next xs r last) ⊎ ((e : E) × (r ≡ Err e) × step f x (Err e) last)

module _ {F K V E : Type 0} (g : Mut F (ℕ × (ℕ × (Option (Bor K × Bor V) × (Bool × Unit {0})))) (Result (Unit {0}) E)) (a : Cells K V) where
  -- the slots whose bits are set may be shown in the order of their bitmap places
  abbrev pub MayShow : F → Type 0
  MayShow f = TakesEach (TakesShown g a) (λ f slot f'. IsShown g a f slot (Ok tt) f') f (slots_in_order a.used)

  -- they are shown in that order, up to the first error, and r is what this answers
  abbrev pub IsShownAll : F → Result (Unit {0}) E → Type 0
  IsShownAll f r = (last : F) × TriesEach (IsShown g a) f (slots_in_order a.used) r last

  -- they are shown if that is wanted, and else r is no error
  abbrev pub IsShownIf : F → Bool → Result (Unit {0}) E → Type 0
  IsShownIf f wanted r = (IsTrue wanted → IsShownAll f r) × (wanted ≡ false → r ≡ Ok tt)
