use Rattle.std.proofs.Common.{◌≡◌}
use Rattle.index_script.specs.Requests.{Insert, Upsert, Remove, Delete, Clear, Discard, Commit, Open, Close, Get, Has, Range, Near, Audit, Len, Number, Reclaim, Slots, Checkpoint, name_of}
use Rattle.index_script.proofs.NumberLemmas.{unknown_only, first_alone}
use Rattle.index_script.proofs.request.bare.Goals as goal

pub returns-in_default : goal.returns-in_default
returns-in_default c =
    unknown_only c.args.word.now c.requires (λ command. elim command as (λ k. c.args.word.now ≡ name_of k → ⊥) [
      | Insert ↦ c.in_default.not-insert
      | Upsert ↦ c.in_default.not-upsert
      | Remove ↦ c.in_default.not-remove
      | Delete ↦ c.in_default.not-delete
      | Clear ↦ c.in_default.not-clear
      | Discard ↦ c.in_default.not-discard
      | Commit ↦ c.in_default.not-commit
      | Open ↦ c.in_default.not-open
      | Close ↦ c.in_default.not-close
      | Get ↦ c.in_default.not-get
      | Has ↦ c.in_default.not-has
      | Range ↦ c.in_default.not-range
      | Near ↦ c.in_default.not-near
      | Audit ↦ c.in_default.not-audit
      | Len ↦ c.in_default.not-len
      | Number ↦ c.in_default.not-number
      | Reclaim ↦ c.in_default.not-reclaim
      | Slots ↦ c.in_default.not-slots
      | Checkpoint ↦ c.in_default.not-checkpoint
    ])

pub returns-in-insert : goal.returns-in-insert
returns-in-insert c = first_alone c.args.word.now c.requires c.in-insert.is
