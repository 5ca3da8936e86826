-- single entries, as the calls of a linked list see and change them
use Rattle.std.specs.Prelude.{◌≡◌, ◌≢◌, ℕ, Bool, true, false, Option, Some, List, [], ◌∷◌, ◌==◌, cond}
use Rattle.sdd_world.specs.State.{State, cell_at}
use Rattle.sdd_world.specs.declared.tag.Tag.{Tag}
use Rattle.sdd_world.specs.declared.tag.Tag.TheVariants as tag
use Rattle.sdd_world.specs.declared.status.Cell.TheVariants as cell
use Rattle.sdd_lists.specs.Chain.{Entry, IsItem, IsList, IsDetached, IsOut, slots, links}

-- a pointer to slot o names this entry: its item is there, and its link keeps a next one or none
pub record NamesEntry {L : Type 0} (link : L → Option ℕ) (w : State L) (o : Option ℕ) (e : Entry L) : Type 0 where
  pub names : o ≡ Some e.slot
  pub item : IsItem link w e
  pub next : Option ℕ
  pub kept : cell_at w e.link ≡ cell.OfShared next e.tag

-- it names some entry
pub record NamesSomeEntry {L : Type 0} (link : L → Option ℕ) (w : State L) (o : Option ℕ) : Type 0 where
  pub entry : Entry L
  pub is : NamesEntry link w o entry

-- it names an entry, and some list hangs behind that
pub record IsListed {L : Type 0} (link : L → Option ℕ) (w : State L) (o : Option ℕ) : Type 0 where
  pub entry : Entry L
  pub rest : List (Entry L)
  pub is : NamesEntry link w o entry
  pub hung : IsList link w entry.link entry.tag rest

abbrev pub clear : Tag → Bool
clear tag.None = true
clear tag.First = false
clear tag.Second = false
clear tag.Both = false

abbrev pub marked : Tag → Bool
marked tag.None = false
marked tag.First = true
marked tag.Second = false
marked tag.Both = false

-- the tag of a marked entry, or of a clear one
abbrev pub mark_tag : Bool → Tag
mark_tag mark = cond mark tag.First tag.None

-- a list in which the entry in slot i has another tag
abbrev pub retagged : {L : Type 0} → ℕ → Tag → List (Entry L) → List (Entry L)
retagged i u [] = []
retagged i u (e ∷ es) = cond (e.slot == i) (record e { tag = u } ∷ es) (e ∷ retagged i u es)

-- an entry of a list is in slot i
abbrev pub HasSlot : {L : Type 0} → ℕ → List (Entry L) → Type 0
HasSlot i es = IsOut i (slots es) → ⊥

-- a list in which entry x comes behind the one in slot i
abbrev pub inserted_behind : {L : Type 0} → ℕ → Entry L → List (Entry L) → List (Entry L)
inserted_behind i x [] = []
inserted_behind i x (e ∷ es) = cond (e.slot == i) (e ∷ x ∷ es) (e ∷ inserted_behind i x es)

-- an entry isn't in a list that hangs from cell c
pub record IsApart {L : Type 0} (c : ℕ) (es : List (Entry L)) (x : Entry L) : Type 0 where
  pub cell : c ≢ x.link
  pub link : IsOut x.link (links es)
  pub slot : IsOut x.slot (slots es)

-- the item in slot i is a clear entry without a next one, and isn't among an entry that o names and those behind it
pub record CanInsert {L : Type 0} (link : L → Option ℕ) (w : State L) (o : Option ℕ) (i : ℕ) : Type 0 where
  pub entry : Entry L
  pub rest : List (Entry L)
  pub is : NamesEntry link w o entry
  pub hung : IsList link w entry.link entry.tag rest
  pub new : Entry L
  pub at : i ≡ new.slot
  pub loose : IsDetached link w new
  pub clear : new.tag ≡ tag.None
  pub other : new.slot ≢ entry.slot
  pub apart : IsApart entry.link rest new

-- entry x was put behind entry e, which has another tag now
pub record Inserts {L : Type 0} (link : L → Option ℕ) (w w' : State L) (e : Entry L) (u : Tag) (x : Entry L) : Type 0 where
  pub lists : (c : ℕ) (t : Tag) (es : List (Entry L)) → IsList link w c t es → HasSlot e.slot es → IsApart c es x → IsList link w' c t (inserted_behind e.slot x (retagged e.slot u es))
  pub behind : (es : List (Entry L)) → IsList link w e.link e.tag es → IsApart e.link es x → IsList link w' e.link u (x ∷ es)

-- the tag of an entry was changed, alone and in each list that has it, and what is behind it stays
pub record Retags {L : Type 0} (link : L → Option ℕ) (w w' : State L) (e : Entry L) (u : Tag) : Type 0 where
  pub node : NamesEntry link w' (Some e.slot) (record e { tag = u })
  pub lists : (c : ℕ) (t : Tag) (es : List (Entry L)) → IsList link w c t es → HasSlot e.slot es → IsList link w' c t (retagged e.slot u es)
  pub behind : (es : List (Entry L)) → IsList link w e.link e.tag es → IsList link w' e.link u es
