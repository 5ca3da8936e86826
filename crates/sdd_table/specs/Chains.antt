-- a bag as the chain from its head
use Rattle.std.specs.Prelude.{◌≡◌, ℕ, zero, suc, ◌≤◌, List, [], ◌∷◌, get_or, set, length, map, reverse}
use Rattle.std.specs.List.{sum_by}
use Rattle.sdd_table.specs.State.{ParticipantState, no_local, nobody}
use Rattle.sdd_table.specs.Place.{held_times}
use Rattle.sdd_table.specs.declared.bags.Participant.{Participant}
use Rattle.sdd_table.specs.declared.bags.Participants.TheInside.{Inside}

-- how many places have a link word, and the participants
pub record Shown : Type 0 where
  pub places : ℕ
  pub all : List ParticipantState

abbrev pub participant_in : List ParticipantState → ℕ → ParticipantState
participant_in ms p = get_or ms p nobody

-- participant p is changed by f
abbrev pub changed_in : ℕ → (ParticipantState → ParticipantState) → Shown → Shown
changed_in p f s = record s { all = set s.all p (f (participant_in s.all p)) }

-- the places from a head on, n of them at most
abbrev pub follow : ℕ → List ℕ → ℕ → List ℕ
follow zero links h = []
follow (suc n) links zero = []
follow (suc n) links (suc i) = i ∷ follow n links (get_or links i 0)

-- the chain from h is this list, and ends with it
abbrev pub Spells : List ℕ → ℕ → List ℕ → Type 0
Spells links h [] = h ≡ 0
Spells links h (i ∷ is) = (h ≡ suc i) × Spells links (get_or links i 0) is

abbrev pub IsChain : ℕ → List ℕ → ℕ → Type 0
IsChain n links h = Spells links h (follow n links h)

-- what came last is first in a chain: what is due is reclaimed in that order
abbrev pub participant_of : ℕ → List ℕ → Participant → ParticipantState
participant_of n links q = record {
  local = q.local;
  current = reverse (follow n links q.current);
  prior = reverse (follow n links q.prior);
  oldest = reverse (follow n links q.oldest);
  due = follow n links q.due;
}

abbrev pub shown_of : Inside → Shown
shown_of w = record {
  places = length w.links.items;
  all = map (participant_of (length w.links.items) w.links.items) w.all.items;
}

abbrev pub no_participant : Participant
no_participant = record { local = no_local; current = 0; prior = 0; oldest = 0; due = 0; newest = 0 }

-- each bag of q is a chain, and those in its current bag are counted
pub record AreChains (n : ℕ) (links : List ℕ) (q : Participant) : Type 0 where
  pub current : IsChain n links q.current
  pub prior : IsChain n links q.prior
  pub oldest : IsChain n links q.oldest
  pub due : IsChain n links q.due
  pub newest : q.newest ≡ length (follow n links q.current)

-- each bag is a chain, and each place is in one of them at most
pub record AreThreaded (w : Inside) : Type 0 where
  pub chains : (k : ℕ) → AreChains (length w.links.items) w.links.items (get_or w.all.items k no_participant)
  pub once : (j : ℕ) → sum_by (held_times j) (map (participant_of (length w.links.items) w.links.items) w.all.items) ≤ 1
  pub inside : (j : ℕ) → length w.links.items ≤ j → sum_by (held_times j) (map (participant_of (length w.links.items) w.links.items) w.all.items) ≡ 0
