-- for proofs that know what stands at a place: what reads there, and that a test of it passes
use Rattle.std.proofs.Common.{◌≡◌, ◌&&◌, Bool, true, ℕ, length, ap, ◌∙◌, lt-ltb}
use Rattle.sdd_steps.specs.declared.participant.Participant.{Participant}
use Rattle.sdd_steps.specs.declared.item.Item.{Item}
use Rattle.sdd_steps.specs.declared.item.Cell.{Cell}
use Rattle.sdd_steps.specs.State.{State, At, participant_at, cell_at, item_at, participant_is, cell_is, item_is, newcomer, empty_cell, no_item}
use Rattle.sdd_steps.proofs.ListLemmas.{get_at, at_inside}

pub participant_read : (s : State) (p : ℕ) (x : Participant) → At s.participants p x → participant_at s p ≡ x
participant_read s p x at = get_at s.participants p newcomer x at

pub cell_read : (s : State) (c : ℕ) (o : Cell) → At s.cells c o → cell_at s c ≡ o
cell_read s c o at = get_at s.cells c empty_cell o at

pub item_read : (s : State) (i : ℕ) (it : Item) → At s.items i it → item_at s i ≡ it
item_read s i it at = get_at s.items i no_item it at

pub participant_passes : (test : Participant → Bool) (s : State) (p : ℕ) (x : Participant) → At s.participants p x → test x ≡ true → participant_is test s p ≡ true
participant_passes test s p x at pass = ap (λ b. b && test (participant_at s p)) (lt-ltb p (length s.participants) (at_inside s.participants p x at)) ∙ (ap test (participant_read s p x at) ∙ pass)

pub cell_passes : (test : Cell → Bool) (s : State) (c : ℕ) (o : Cell) → At s.cells c o → test o ≡ true → cell_is test s c ≡ true
cell_passes test s c o at pass = ap (λ b. b && test (cell_at s c)) (lt-ltb c (length s.cells) (at_inside s.cells c o at)) ∙ (ap test (cell_read s c o at) ∙ pass)

pub item_passes : (test : Item → Bool) (s : State) (i : ℕ) (it : Item) → At s.items i it → test it ≡ true → item_is test s i ≡ true
item_passes test s i it at pass = ap (λ b. b && test (item_at s i)) (lt-ltb i (length s.items) (at_inside s.items i it at)) ∙ (ap test (item_read s i it at) ∙ pass)
