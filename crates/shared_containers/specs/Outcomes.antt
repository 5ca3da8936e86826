-- what pushes, pops, and the making of containers come to
use Rattle.std.specs.Prelude.{◌≡◌, Bool, true, false, Option, Some, List}
use Rattle.std.specs.Iterator.{YieldsThen}
use Rattle.atomic_table.specs.Seated.{TableId}
use Rattle.sdd_domain.specs.Sharing.{kept_in, IsOwnerOf}
use Rattle.sdd_domain.specs.declared.shared.Shared.{Shared}
use Rattle.shared_containers.specs.declared.outcome.CloneRefused.{CloneRefused}
use Rattle.shared_containers.specs.declared.outcome.CloneRefused.TheVariants as cloned
use Rattle.shared_containers.specs.declared.outcome.FromIterRefused.{FromIterRefused}
use Rattle.shared_containers.specs.declared.outcome.FromIterRefused.TheVariants as filled
use Rattle.shared_containers.specs.declared.outcome.NotCloned.{NotCloned}
use Rattle.shared_containers.specs.declared.outcome.NotCloned.TheVariants.{Memory, Refused}
use Rattle.shared_lists.specs.declared.refusal.NotMade.{NotMade}
use Rattle.shared_containers.specs.declared.outcome.Popped.{Popped}
use Rattle.shared_containers.specs.declared.outcome.Popped.TheVariants.{Empty, Item, Kept, Again}
use Rattle.shared_containers.specs.declared.outcome.Pushed.{Pushed}
use Rattle.shared_containers.specs.declared.outcome.Pushed.TheVariants.{Done, Unwanted, Slow}
use Rattle.shared_containers.specs.declared.outcome.PushRefused.{PushRefused}
use Rattle.shared_containers.specs.declared.outcome.PushRefused.TheVariants.{NoSlot, Full, Condition, Busy}

-- a function answered this of something
abbrev pub Said : {A R : Type 0} → (A → R → Type 0) → R → Type 0
Said {A} post r = (x : A) × post x r

-- an owner in this place, of an item with this value
abbrev pub IsPlaced : {T : Type 0} → Shared T → T → TableId → Type 0
IsPlaced s value place = (kept_in s ≡ place) × IsOwnerOf s value

-- an owner in this place, of the item of another one, in its slot
abbrev pub IsBackIn : {T : Type 0} → Shared T → Shared T → TableId → Type 0
IsBackIn {T} s owner place = (kept_in s ≡ place) × ((x : T) → IsOwnerOf owner x → IsOwnerOf s x) × (s.slot ≡ owner.slot)

-- an owner in this place is returned where the condition said yes, and one of an item that stays where it said no
abbrev pub IsFrom : {T : Type 0} → Popped T → TableId → (Bool → Type 0) → Type 0
IsFrom Empty place said = Unit {0}
IsFrom (Item s) place said = (kept_in s ≡ place) × said true
IsFrom (Kept s) place said = (kept_in s ≡ place) × said false
IsFrom Again place said = Unit {0}

-- an owner that is returned is one of these
abbrev pub IfItem : {T : Type 0} → Popped T → (Shared T → Type 0) → Type 0
IfItem Empty P = Unit {0}
IfItem (Item s) P = P s
IfItem (Kept s) P = Unit {0}
IfItem Again P = Unit {0}

-- the owner is taken in where the condition said yes, and back where it said no, or where others were faster
abbrev pub IsPushed : {T : Type 0} → Pushed T → Shared T → TableId → (Bool → Type 0) → Type 0
IsPushed Done owner place said = said true
IsPushed (Unwanted s) owner place said = IsBackIn s owner place × said false
IsPushed (Slow s) owner place said = IsBackIn s owner place

-- what holds where it was taken in
abbrev pub IfDone : {T : Type 0} → Pushed T → Type 0 → Type 0
IfDone Done P = P
IfDone (Unwanted s) P = Unit {0}
IfDone (Slow s) P = Unit {0}

-- a refused push returns the value, or its owner in this place; it may be refused by a condition, and as full, where these are so
abbrev pub IsRefused : {T : Type 0} → PushRefused T → T → TableId → Type 0 → Type 0 → Type 0
IsRefused (NoSlot v) value place unwanted full = v ≡ value
IsRefused (Full v) value place unwanted full = (v ≡ value) × full
IsRefused (Condition s) value place unwanted full = IsPlaced s value place × unwanted
IsRefused (Busy s) value place unwanted full = IsPlaced s value place

-- an owner that it may give back is of this place
abbrev pub IsKeptIn : {T : Type 0} → PushRefused T → TableId → Type 0
IsKeptIn (NoSlot v) place = Unit {0}
IsKeptIn (Full v) place = Unit {0}
IsKeptIn (Condition s) place = kept_in s ≡ place
IsKeptIn (Busy s) place = kept_in s ≡ place

-- it gives this value back
abbrev pub IsValueOf : {T : Type 0} → PushRefused T → T → Type 0
IsValueOf (NoSlot v) value = v ≡ value
IsValueOf (Full v) value = v ≡ value
IsValueOf (Condition s) value = ⊥
IsValueOf (Busy s) value = ⊥

-- a collection gives this value, behind some others
abbrev pub Gives : {T C It : Type 0} → (C → It → Type 0) → (It → Option T → It → Type 0) → C → T → Type 0
Gives {T} {It = It} begins next values v = (it : It) × (vs : List T) × (rest : It) × begins values it × YieldsThen next it vs (Some v) rest

-- a push of one of its values was refused
abbrev pub RefusesOne : {T C It : Type 0} → (C → It → Type 0) → (It → Option T → It → Type 0) → C → PushRefused T → TableId → Type 0
RefusesOne {T} begins next values r place = (v : T) × Gives begins next values v × IsRefused r v place ⊥ ⊥

-- what holds where nothing was made of a collection, and where the making ended at a value
abbrev pub IfUnmade : {C T I : Type 0} → FromIterRefused C T I → (NotMade → I → Type 0) → Type 0
IfUnmade (filled.Unmade why values) P = P why values
IfUnmade (filled.Partly built r) P = Unit {0}

abbrev pub IfPartly : {C T I : Type 0} → FromIterRefused C T I → (C → PushRefused T → Type 0) → Type 0
IfPartly (filled.Unmade why values) P = Unit {0}
IfPartly (filled.Partly built r) P = P built r

-- the same of a clone
abbrev pub IfUncopied : {C T : Type 0} → CloneRefused C T → (NotMade → Type 0) → Type 0
IfUncopied (cloned.Unmade why) P = P why
IfUncopied (cloned.Partly built why) P = Unit {0}

abbrev pub IfPartlyCopied : {C T : Type 0} → CloneRefused C T → (C → NotCloned T → Type 0) → Type 0
IfPartlyCopied (cloned.Unmade why) P = Unit {0}
IfPartlyCopied (cloned.Partly built why) P = P built why

-- some value can't always be cloned, or a clone of some value was refused
abbrev pub IsNotCloned : {T : Type 0} → NotCloned T → (T → T → Type 0) → (T → Type 0) → TableId → Type 0
IsNotCloned {T} Memory is_clone is_infallible place = (x : T) × ¬ is_infallible x
IsNotCloned {T} (Refused r) is_clone is_infallible place = (x : T) × (y : T) × is_clone x y × IsRefused r y place ⊥ ⊥
