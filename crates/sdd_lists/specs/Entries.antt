-- what an entry shows to clauses: its value and the cell of its link
use Rattle.std.specs.Prelude.{ℕ, Option, None, Some, List, [], ◌∷◌}
use Rattle.std.specs.Option.{option_map}
use Rattle.sdd_world.specs.Holding.{Hold, SharedIn}
use Rattle.sdd_world.specs.Tokens.{shared_cell}
use Rattle.sdd_lists.specs.declared.linked_entry.LinkedEntry.{LinkedEntry, out-LinkedEntry, roll-LinkedEntry}

abbrev pub entry_value : {T : Type 0} → LinkedEntry T → T
entry_value {T} e = (out-LinkedEntry T e).instance

-- the entry with another value
abbrev pub entry_with_value : {T : Type 0} → T → LinkedEntry T → LinkedEntry T
entry_with_value {T} v e = roll-LinkedEntry T (record (out-LinkedEntry T e) { instance = v })

-- the entry has no link once it handed that over
abbrev pub entry_link : {T : Type 0} → LinkedEntry T → Option ℕ
entry_link {T} e = option_map shared_cell (out-LinkedEntry T e).next

abbrev pub holds_link : Option ℕ → List Hold
holds_link None = []
holds_link (Some c) = SharedIn c ∷ []

abbrev pub entry_holds : {T : Type 0} → LinkedEntry T → List Hold
entry_holds e = holds_link (entry_link e)
