use Rattle.world_containers.proofs.Names.{◌∙◌, sym, subst, ap, ℕ, Some, shared_cell, IsList, Hangs, skip, entry_link, entry_value, behind, some_skipped, none_skipped}
use Rattle.world_containers.specs.Iters.{first_value, rest_of}
use Rattle.sdd_lists.proofs.FirstLemmas.{undeleted_skip}
use Rattle.world_containers.proofs.world.iter.next.Goals as goal

pub skip_from-requires : goal.skip_from-requires
skip_from-requires g c = subst (λ (i : ℕ). Hangs entry_link c.args.w.now i) (sym c.cell.ensures) c.requires

pub first-requires : goal.first-requires
first-requires g c =
    let r = c.requires in
    let k = c.skip_from.ensures r.tag r.entries (subst (λ (i : ℕ). IsList entry_link c.args.w.now i r.tag r.entries) (sym c.cell.ensures) r.is) in
    record { tag = k.0; entries = skip r.entries; is = subst (λ (i : ℕ). IsList entry_link c.args.w.now i k.0 (skip r.entries)) (sym (c.cell-2.ensures ∙ c.of-at.ensures)) k.1 }

pub returns-in-None-clause-gives : goal.returns-in-None-clause-gives
returns-in-None-clause-gives g c = λ t es h.
    let k = c.skip_from.ensures t es (subst (λ (i : ℕ). IsList entry_link c.args.w.now i t es) (sym c.cell.ensures) h) in
    let none = c.in-None.ensures.none k.0 (skip es) (subst (λ (i : ℕ). IsList entry_link c.args.w.now i k.0 (skip es)) (sym (c.cell-2.ensures ∙ c.of-at.ensures)) k.1) in
    sym (ap first_value (none_skipped es none))

pub returns-in-None-clause-moves : goal.returns-in-None-clause-moves
returns-in-None-clause-moves g c = λ t es h.
    let k = c.skip_from.ensures t es (subst (λ (i : ℕ). IsList entry_link c.args.w.now i t es) (sym c.cell.ensures) h) in
    let none = none_skipped es (c.in-None.ensures.none k.0 (skip es) (subst (λ (i : ℕ). IsList entry_link c.args.w.now i k.0 (skip es)) (sym (c.cell-2.ensures ∙ c.of-at.ensures)) k.1)) in
    record {
      tag = k.0;
      rest = skip es;
      hung = subst (λ (i : ℕ). IsList entry_link c.args.w.now i k.0 (skip es)) (sym c.of-at.ensures) k.1;
      same = undeleted_skip es ∙ none ∙ sym (ap rest_of none);
    }

pub returns-in-None-clause-hangs : goal.returns-in-None-clause-hangs
returns-in-None-clause-hangs g c = let m = returns-in-None-clause-moves g c c.requires.tag c.requires.entries c.requires.is in record { tag = m.tag; entries = m.rest; is = m.hung }

pub returns-clause-gives : goal.returns-clause-gives
returns-clause-gives g c = λ t es h.
    let k = c.skip_from.ensures t es (subst (λ (i : ℕ). IsList entry_link c.args.w.now i t es) (sym c.cell.ensures) h) in
    let at = subst (λ (i : ℕ). IsList entry_link c.args.w.now i k.0 (skip es)) (sym (c.cell-2.ensures ∙ c.of-at.ensures)) k.1 in
    let b = c.in-Some.ensures.some k.0 (skip es) at in
    ap (λ v. Some v) (c.as_ref.ensures ∙ ap entry_value b.item_is) ∙ ap first_value (sym (some_skipped b.first b.rest es b.is))

pub returns-clause-moves : goal.returns-clause-moves
returns-clause-moves g c = λ t es h.
    let k = c.skip_from.ensures t es (subst (λ (i : ℕ). IsList entry_link c.args.w.now i t es) (sym c.cell.ensures) h) in
    let at = subst (λ (i : ℕ). IsList entry_link c.args.w.now i k.0 (skip es)) (sym (c.cell-2.ensures ∙ c.of-at.ensures)) k.1 in
    let b = c.in-Some.ensures.some k.0 (skip es) at in
    record {
      tag = b.first.tag;
      rest = b.rest;
      hung = subst (λ (i : ℕ). IsList entry_link c.args.w.now i b.first.tag b.rest) (sym c.of.ensures) (behind entry_link c.args.w.now (shared_cell c.cell-2.result.now) (shared_cell c.in-Some.front.link.now) k.0 c.in-Some.front.item.now c.in-Some.front.deleted (skip es) at b);
      same = sym (ap rest_of (some_skipped b.first b.rest es b.is));
    }

pub returns-clause-hangs : goal.returns-clause-hangs
returns-clause-hangs g c = let m = returns-clause-moves g c c.requires.tag c.requires.entries c.requires.is in record { tag = m.tag; entries = m.rest; is = m.hung }
