-- What an index ends as, where it lends a reader.
use Rattle.std.specs.Prelude.{◌≡◌, ℕ, List, Result}
use Rattle.std.specs.Borrow.{Fml, MutBor, RattleType, RestsIfErr}
use Rattle.std.specs.declared.clone.Clone as clone
use Rattle.std.specs.declared.cmp.Ord as ord
use Rattle.std.specs.declared.cmp.PartialEq as equal
use Rattle.std.specs.declared.cmp.PartialOrd as partial
use Rattle.serial_history.specs.Serial.{Read}
use Rattle.local_index.specs.State.{State}
use Rattle.local_index.specs.Reading.{reference_of}
use Rattle.local_index.specs.contracts.index.LocalIndex.{the_row}
use Rattle.local_index.specs.declared.reading.Reading.{Reading}

module _ (K V S : RattleType) {n : ℕ} {k : clone.Ghosts K.Denot} {o : ord.Ghosts K.Denot} {e : equal.Ghosts K.Denot} {p : partial.Ghosts K.Denot} {v : clone.Ghosts V.Denot} {d : equal.Ghosts V.Denot} where
  -- where no reader is lent, the index stays as it is; else it ends as the reader leaves it
  abbrev pub rests_if_refused : {E : Type 0} → MutBor (State K.Denot V.Denot) → Result (Reading K.Denot V.Denot n (List (Read K.Denot V.Denot)) k o e p v d) E → Fml
  rests_if_refused index lent = RestsIfErr (the_row K V S k o e p v d) index reference_of lent (λ last. last ≡ index.now)
