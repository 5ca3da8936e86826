-- The bytes of this crate's structs: one address in a `Seen`, none in a `Life`, an `Ended`, a `Pledge`, a `Tally` and a `GhostList`. Assumes `Logic`.
use Rattle.std.proofs.Common.{◌≡◌, List, [], ◌∷◌, ◌++◌, refl, ap, ◌∙◌}
use seplogic.Ra.Ura.{Ura}
use mir.Val.{Val, vstruct, vcons, vnil, of_list}
use base.Logic.{ent, emp}
use types.Logic.{Logic, sem}
use denote.RattleType.{RattleType}
use denote.Laws.{Is}
use denote.Opens.{Opens}
use denote.Copied.{Struct-Copied}
use denote.RawPtr.{Ptr, ptr_val}
use denote.Shadow.{makes_shadow}
use denote.Struct.Laws.{RawPtr-copy}
use denote.Struct.Struct.{Struct}
use denote.Struct.Owning.{shape}
use Rattle.parted.specs.contracts.life.Life as life
use Rattle.parted.specs.contracts.life.Ended as ended
use Rattle.parted.specs.contracts.life.Pledge as pledge
use Rattle.parted.specs.contracts.raw.Seen as seen
use Rattle.parted.specs.contracts.tally.Tally as tally
use Rattle.parted.specs.contracts.ghost_list.GhostList as list

abbrev pub blank : Val
blank = vstruct vnil

abbrev pub LifeData : RattleType
LifeData = Struct (shape life.the_type)

abbrev pub EndedData : RattleType
EndedData = Struct (shape ended.the_type)

abbrev pub PledgeData : RattleType
PledgeData = Struct (shape pledge.the_type)

abbrev pub TallyData : RattleType
TallyData = Struct (shape tally.the_type)

abbrev pub ListData : RattleType
ListData = Struct (shape list.the_type)

pub life_told : (vs : List Val) → Is LifeData tt vs → vs ≡ blank ∷ []
life_told vs is = is.1.0

pub pledge_told : (vs : List Val) → Is PledgeData tt vs → vs ≡ blank ∷ []
pledge_told vs is = is.1.0

abbrev pub word : Ptr → Val
word p = vstruct (vcons (ptr_val p) vnil)

module _ {M : Type 1} {𝓤 : Ura M} (𝓛 : Logic 𝓤) where
  pub life_made : ent 𝓤 (emp 𝓤) (sem 𝓛 (LifeData.own_val tt (blank ∷ [])))
  life_made = makes_shadow 𝓛 (LifeData.own_val tt (blank ∷ [])) (λ vss. (tt, tt)) (tt, (refl, tt))

  pub ended_made : ent 𝓤 (emp 𝓤) (sem 𝓛 (EndedData.own_val tt (blank ∷ [])))
  ended_made = makes_shadow 𝓛 (EndedData.own_val tt (blank ∷ [])) (λ vss. (tt, tt)) (tt, (refl, tt))

  pub pledge_made : ent 𝓤 (emp 𝓤) (sem 𝓛 (PledgeData.own_val tt (blank ∷ [])))
  pledge_made = makes_shadow 𝓛 (PledgeData.own_val tt (blank ∷ [])) (λ vss. (tt, tt)) (tt, (refl, tt))

  pub tally_made : ent 𝓤 (emp 𝓤) (sem 𝓛 (TallyData.own_val tt (blank ∷ [])))
  tally_made = makes_shadow 𝓛 (TallyData.own_val tt (blank ∷ [])) (λ vss. (tt, tt)) (tt, (refl, tt))

  pub list_made : ent 𝓤 (emp 𝓤) (sem 𝓛 (ListData.own_val tt (blank ∷ [])))
  list_made = makes_shadow 𝓛 (ListData.own_val tt (blank ∷ [])) (λ vss. (tt, tt)) (tt, (refl, tt))

module _ (R : RattleType) where
  abbrev pub SeenData : RattleType
  SeenData = Struct (shape (seen.the_type R))

  pub seen_told : (p : Ptr) (vs : List Val) → Is SeenData (p, tt) vs → vs ≡ word p ∷ []
  seen_told p vs is = is.1.0 ∙ ap (λ (ws : List Val). vstruct (of_list (ws ++ [])) ∷ []) is.1.1.0

  pub seen_made : {M : Type 1} {𝓤 : Ura M} (𝓛 : Logic 𝓤) (p : Ptr) → ent 𝓤 (emp 𝓤) (sem 𝓛 (SeenData.own_val (p, tt) (word p ∷ [])))
  seen_made 𝓛 p = makes_shadow 𝓛 (SeenData.own_val (p, tt) (word p ∷ [])) (λ vss. (tt, (tt, tt))) ((ptr_val p ∷ [], tt), (refl, (refl, tt)))

  pub seen_opens : {M : Type 1} {𝓤 : Ura M} (𝓛 : Logic 𝓤) → Opens 𝓛 SeenData
  seen_opens {M} {𝓤 = 𝓤} 𝓛 = (Struct-Copied 𝓛 (shape (seen.the_type R)) (refl, tt) (RawPtr-copy.copied M 𝓤 𝓛, tt)).opens
