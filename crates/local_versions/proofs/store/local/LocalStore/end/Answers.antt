use Rattle.std.proofs.Common.{◌≡◌, ℕ, [], None, inl, inr, sym, ap, ◌∙◌, subst, arith}
use Rattle.std.specs.List.{All}
use Rattle.sdd_world.proofs.CountLemmas.{owners_are_counted}
use Rattle.sdd_world.specs.Steps.{shared_ended}
use Rattle.sdd_world.specs.Tokens.{shared_cell}
use Rattle.local_versions.proofs.SweepLemmas.{sweeps_leave_none}
use Rattle.local_versions.specs.Store.{Store, read_by}
use Rattle.version_views.specs.Items.{held_by}
use Rattle.version_views.proofs.OptionLemmas.{all_none}
use Rattle.local_versions.proofs.PassLemmas.{none_reads}
use Rattle.local_versions.proofs.PublishLemmas.{root_retired}
use Rattle.local_versions.proofs.store.local.LocalStore.end.Goals as goal

pub retire-requires-clause-participant : goal.retire-requires-clause-participant
retire-requires-clause-participant g c = omega (arith, c.len.ensures, c.self.inside.readers.ok.0, c.self.invariant.0.participants)

pub retire-requires-clause-cell : goal.retire-requires-clause-cell
retire-requires-clause-cell g c = (owners_are_counted held_by).cell_in_hand (shared_cell c.self.inside.root) [] c.self.inside.world c.self.invariant.0.counted

pub end_all-requires : goal.end_all-requires
end_all-requires g c = (omega arith, all_none (read_by c.self.inside.world) c.self.inside.readers.items (subst (λ (x : Store _ _). All (λ r. r ≡ None) x.readers) (sym c.self.view_is) c.requires))

pub unreachable-requires : goal.unreachable-requires
unreachable-requires g c =
    let all = all_none (read_by c.self.inside.world) c.self.inside.readers.items (subst (λ (x : Store _ _). All (λ r. r ≡ None) x.readers) (sym c.self.view_is) c.requires) in
    elim c.in-Err.ensures.back [
      | inl o ↦
          let opens = o.0.1 in
          let same = c.retire.ensures.nests o.0.0 in
          let none = none_reads g.K.Ord.cmp c.self.inside.world (shared_cell c.self.inside.root) c.self.inside.readers.items c.self.invariant.0 all o.0.0 in
          absurd (omega (arith, opens, same, none))
      | inr n ↦ n.2 (sweeps_leave_none.none c.retire.new.w c.in-Err.field-0 (root_retired g.K.Ord.cmp c.self.inside.world c.retire.new.w (shared_cell c.self.inside.root) c.self.inside.readers.items c.self.invariant.0 (c.retire.ensures.ended ∙ ap (λ (k : ℕ). shared_ended k (shared_cell c.self.inside.root) c.self.inside.world) (c.len.ensures ∙ c.self.inside.readers.ok.0)) c.laws.ensures) n.1)
    ]
