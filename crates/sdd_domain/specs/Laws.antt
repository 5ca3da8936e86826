-- what holds between any two steps of any threads, in a place of items of some type
use Rattle.std.specs.Prelude.{◌≡◌, ◌≢◌, ℕ, ◌+◌, ◌<◌, ◌≤◌, List, slice_index}
use mathlib.Core.Option.{some}
use lib.ListN.{get_elem?}
use Rattle.atomic_table.specs.Table.{State}
use Rattle.sdd_steps.specs.declared.participant.Phase.TheVariants.{Opened}
use Rattle.sdd_steps.specs.declared.item.Item.{Item}
use Rattle.sdd_steps.specs.declared.item.ItemState.TheVariants.{Live, Reclaimed}
use Rattle.sdd_steps.specs.State.{At, Has}
use Rattle.sdd_steps.specs.Invariant.{Inv, Safe}
use Rattle.sdd_homes.specs.declared.Lease.{Lease}
use Rattle.sdd_homes.specs.declared.Owner.{Owner}
use Rattle.domain_table.specs.Contents.{IsIn}
use Rattle.domain_table.specs.declared.board.Home.{Home}
use Rattle.domain_table.specs.Layout.{count_word}
use Rattle.domain_table.specs.Rule.{Runs, beginning, Shows}
use Rattle.domain_table.specs.declared.board.Acting.{Acting}
use Rattle.domain_table.specs.declared.board.Plan.{Plan}
use Rattle.domain_table.specs.Views.{of_participant}

-- The words and views show a state of the single steps that a schedule of them has led to from the beginning. It meets their invariant and keeps their promise.
abbrev pub ShowsSafe : (T : Type 0) → (T → List (ℕ × ℕ)) → Type 0
ShowsSafe T holds = (plan : Plan) (s : State (Home T) Acting) (r : Shows (IsIn holds) plan s) → Runs (beginning plan) r.state × Inv r.state × Safe r.state × (slice_index s.words count_word ≡ r.state.count)

-- a guard that was published at the count `born` is open while the count is that or the next one
abbrev pub RaisedAtMostOnce : (T : Type 0) → (T → List (ℕ × ℕ)) → Type 0
RaisedAtMostOnce T holds = (plan : Plan) (s : State (Home T) Acting) (seat : ℕ) (v : Acting) (e : ℕ) → Shows (IsIn holds) plan s → get_elem? s.views seat ≡ some v → v.kind ≡ of_participant → v.known.phase ≡ Opened e
    → (e ≤ v.born) × (v.born ≤ slice_index s.words count_word) × (slice_index s.words count_word ≤ v.born + 1)

-- what the seat of a participant has leased is an item of that round, which isn't reclaimed
abbrev pub LeasedStays : (T : Type 0) → (T → List (ℕ × ℕ)) → Type 0
LeasedStays T holds = (plan : Plan) (s : State (Home T) Acting) (seat : ℕ) (v : Acting) (l : Lease) (r : Shows (IsIn holds) plan s) → get_elem? s.views seat ≡ some v → v.kind ≡ of_participant → Has v.leases l
    → (it : Item) × At r.state.items l.item it × (it.value ≡ l.round) × (r.book.slot_of l.item ≡ l.slot) × ((q : ℕ) → it.state ≢ Reclaimed q)

-- what a seat has an owner of is an item of that round, which is live
abbrev pub OwnedStays : (T : Type 0) → (T → List (ℕ × ℕ)) → Type 0
OwnedStays T holds = (plan : Plan) (s : State (Home T) Acting) (seat : ℕ) (v : Acting) (o : Owner) (r : Shows (IsIn holds) plan s) → get_elem? s.views seat ≡ some v → Has v.hand o
    → (it : Item) × At r.state.items o.item it × (it.value ≡ o.round) × (r.book.slot_of o.item ≡ o.slot) × (it.state ≡ Live) × (0 < it.owners)
