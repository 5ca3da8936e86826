-- What the fields of an index keep.
use Rattle.std.specs.Prelude.{◌≡◌, ℕ, ◌≤◌, List, IfSome}
use Rattle.std.specs.declared.cmp.Ordering.{Ordering}
use Rattle.std.specs.List.{All}
use Rattle.serial_history.specs.Histories.{HistoryState}
use Rattle.serial_history.specs.Serial.{Base, after_all, latest, list_numbered}
use Rattle.local_index.specs.State.{State}
use Rattle.local_versions.specs.Store.{Store, Version}
use Rattle.serial_history.specs.declared.transaction.Transaction.{Transaction}

module _ {K V : Type 0} where
  -- an index, by its fields
  abbrev pub index_state : Store K V → HistoryState K V → State K V
  index_state store history = record {
    base = history.base;
    history = history.transactions;
    places = store.readers;
    last = history.last;
    slots = store.slots;
    used = store.used;
    raises = store.raises;
  }

  module _ (cmp : K → K → Ordering) where
    -- a version whose number isn't below the base's has the list of its number
    pub record HasListOfNumber (base : Base K V) (history : List (Transaction K V)) (v : Version K V) : Type 0 where
      pub within : v.number ≤ latest base history
      pub list : base.number ≤ v.number → v.pairs ≡ list_numbered cmp base history v.number

    -- the present version is that after all of the history, and each reader's is of some number
    pub record IsIndex (width : ℕ) (store : Store K V) (base : Base K V) (history : List (Transaction K V)) : Type 0 where
      pub some_pair : 1 ≤ width
      pub segment_fits : width ≤ 225
      pub present : store.present ≡ record { number = latest base history; pairs = after_all cmp history base.pairs }
      pub readers : All (λ r. IfSome r (HasListOfNumber base history)) store.readers
