use Rattle.std.proofs.Common.{◌≡◌}
use Rattle.index_script.specs.Requests.{Insert, Upsert, Remove, Delete, Clear, Discard, Commit, Open, Close, Get, Has, Range, Near, Audit, Len, Number, Reclaim, Slots, Checkpoint, name_of}
use Rattle.index_script.proofs.NumberLemmas.{unknown_first, only_of_many}
use Rattle.index_script.proofs.request.read_text.Goals as goal

pub returns-in_default-word : goal.returns-in_default-word
returns-in_default-word c =
    unknown_first c.args.line.now c.in-Some.word.now c.in-Some.rest.now c.in-Some.ensures.some (λ command. elim command as (λ k. c.in-Some.word.now ≡ name_of k → ⊥) [
      | Insert ↦ c.in_default-word.not-insert
      | Upsert ↦ c.in_default-word.not-upsert
      | Remove ↦ c.in_default-word.not-remove
      | Delete ↦ c.in_default-word.not-delete
      | Clear ↦ c.in_default-word.not-clear
      | Discard ↦ c.in_default-word.not-discard
      | Commit ↦ c.in_default-word.not-commit
      | Open ↦ c.in_default-word.not-open
      | Close ↦ c.in_default-word.not-close
      | Get ↦ c.in_default-word.not-get
      | Has ↦ c.in_default-word.not-has
      | Range ↦ c.in_default-word.not-range
      | Near ↦ c.in_default-word.not-near
      | Audit ↦ c.in_default-word.not-audit
      | Len ↦ c.in_default-word.not-len
      | Number ↦ c.in_default-word.not-number
      | Reclaim ↦ c.in_default-word.not-reclaim
      | Slots ↦ c.in_default-word.not-slots
      | Checkpoint ↦ c.in_default-word.not-checkpoint
    ])

pub returns-in-clear : goal.returns-in-clear
returns-in-clear c = only_of_many c.args.line.now c.in-Some.word.now c.in-Some.rest.now c.in-Some.ensures.some c.in-clear.is
