-- What a pointer to an entry shows.
use Rattle.std.proofs.Common.{◌≡◌, ◌∙◌, Option, Some, None, ap, sym, subst, ℕ}
use Rattle.std.specs.Option.{IfSome}
use Rattle.sdd_world.specs.Place.{IsReadable}
use Rattle.sdd_world.specs.State.{State}
use Rattle.sdd_world.specs.declared.tag.Tag.{Tag}
use Rattle.world_containers.specs.Chain.{Entry}
use Rattle.world_containers.specs.Entries.{entry_link}
use Rattle.world_containers.specs.Nodes.{NamesEntry, NamesSomeEntry, Retags}
use Rattle.world_containers.specs.Stacks.{IsMade}
use Rattle.sdd_lists.specs.declared.linked_entry.LinkedEntry.{LinkedEntry}
use Rattle.world_containers.proofs.ChainLemmas.{item_readable}

-- it can be read where it names an entry, or nothing
pub seen_readable : {L : Type 0} (link : L → Option ℕ) (w : State L) (o : Option ℕ) → IfSome o (λ i. NamesSomeEntry link w (Some i)) → IsReadable w o
seen_readable link w None seen = tt
seen_readable link w (Some i) seen = subst (λ (o : Option ℕ). IsReadable w o) (sym seen.is.names) (item_readable link w seen.entry seen.is.item)

-- a pointer to an entry that was made names it
pub made_named : {T : Type 0} (w w' : State (LinkedEntry T)) (v : T) (i : ℕ) (o : Option ℕ) (m : IsMade w w' v i) → o ≡ Some i → NamesEntry entry_link w' o m.entry
made_named w w' v i o m at = record { names = at ∙ ap (λ (k : ℕ). Some k) m.at; item = m.loose.item; next = None; kept = m.loose.empty }

-- a pointer to an entry whose tag was changed names it still
pub retagged_named : {L : Type 0} (link : L → Option ℕ) (w w' : State L) (u : Tag) (o : Option ℕ) (e : Entry L) → NamesEntry link w o e → Retags link w w' e u → NamesEntry link w' o (record e { tag = u })
retagged_named link w w' u o e n r = record { names = n.names; item = r.node.item; next = r.node.next; kept = r.node.kept }
