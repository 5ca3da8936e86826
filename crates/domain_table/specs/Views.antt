-- what a seat at the table of a shared place knows
use Rattle.std.specs.Prelude.{◌≡◌, ◌==◌, ◌+◌, ℕ, cond, map, List, None, Some, [], ◌∷◌, ◌++◌}
use Rattle.sdd_steps.specs.declared.participant.Phase.TheVariants.{Idle, HasRead, Opened}
use Rattle.sdd_steps.specs.declared.participant.Participant.{Participant}
use Rattle.sdd_steps.specs.State.{newcomer}
use Rattle.sdd_plain.specs.declared.sizes.Sizes.{Sizes}
use Rattle.sdd_homes.specs.declared.Garbage.{Garbage}
use Rattle.sdd_homes.specs.declared.Owner.{Owner}
use Rattle.domain_table.specs.declared.board.Acting.{Acting}

-- The kinds of seats: of nobody, which has a private bag at most, of a participant, and of an owner outside of calls.
abbrev pub of_nobody : ℕ
of_nobody = 0

abbrev pub of_participant : ℕ
of_participant = 1

abbrev pub of_owner : ℕ
of_owner = 3

-- nothing: the view of a seat that acts for nobody
abbrev pub spent : Acting
spent = record { kind = of_nobody; number = 0; scan = 0; born = 0; known = newcomer; sizes = record { participants = 0; slots = 0; cells = 0; jobs = 0 }; spare = 0; hand = []; leases = []; releasing = 0; slot = 0; filling = None; waits = []; left = 0; collected = []; cell_steps = [] }

-- the view of a seat that has the owner o, and acts for nobody
abbrev pub holding : Owner → Acting
holding o = record spent { kind = of_owner; hand = o ∷ [] }

-- the view of a seat that has a private bag with these items, and acts for nobody
abbrev pub gathering : List Garbage → Acting
gathering ws = record spent { collected = ws }

-- the view of a seat that has just come to act for the participant p, which has the spare slot y
abbrev pub registered : Sizes → ℕ → ℕ → Acting
registered sizes y p = record spent { kind = of_participant; number = p; sizes = sizes; spare = y }

-- the seat has no owner, and nothing of the participant's homes
abbrev pub IsBare : Acting → Type 0
IsBare d = (d.hand ≡ []) × (d.leases ≡ []) × (d.releasing ≡ 0)

-- a participant without a guard, which found this count at its previous opening
abbrev pub rested : ℕ → Participant
rested found = record newcomer { found = found }

abbrev pub reading : ℕ → Participant → Participant
reading n x = record x { phase = HasRead n }

abbrev pub rereading : ℕ → Participant → Participant
rereading n x = record x { reread = Some n }

-- what a participant has retired is older by one
abbrev pub older_waits : List Garbage → List Garbage
older_waits ws = map (λ (w : Garbage). record w { age = w.age + 1 }) ws

-- it rotates where the count is another than the one found before
abbrev pub rotated : ℕ → ℕ → List Garbage → List Garbage
rotated e found ws = cond (e == found) ws (older_waits ws)

-- published, and the rotation is done if it was due
abbrev pub publishing : ℕ → Participant → Participant
publishing e x = record x { phase = Opened e; found = e; reread = None; looked = []; loaded = [] }

-- all that a participant has retired is due
abbrev pub settled_waits : List Garbage → List Garbage
settled_waits ws = map (λ (w : Garbage). record w { age = 3 }) ws

-- the same of a view, and the count that was read is the one found
abbrev pub settling : ℕ → Acting → Acting
settling e d = record d { known = record d.known { found = e }; waits = settled_waits d.waits }

abbrev pub looking : ℕ → Participant → Participant
looking q x = record x { looked = x.looked ++ q ∷ [] }

abbrev pub closing : Participant → Participant
closing x = record x { phase = Idle; reread = None; looked = []; loaded = [] }
