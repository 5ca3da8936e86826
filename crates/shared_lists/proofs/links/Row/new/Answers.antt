use Rattle.std.proofs.Common.{◌≡◌, ◌<◌, ◌+◌, ap, ◌∙◌, sym, subst, refl, length, arith}
use Rattle.std.specs.List.{All}
use Rattle.std.proofs.lemmas.List.Elements.{All-push}
use Rattle.sdd_domain.specs.Cells.{cell_number}
use Rattle.sdd_domain.specs.Tokens.{cell_count}
use Rattle.shared_lists.proofs.StillLemmas.{as_before, but_for_misses}
use Rattle.shared_lists.proofs.links.Row.new.Goals as goal

pub loop-i-init : goal.loop-i-init
loop-i-init g c =
    let none : length c.in-Ok.cells.items ≡ 0 = ap length c.in-Ok.ensures.items in
    record {
      inside = λ k d lt. absurd (omega (arith, none, lt));
      room = c.in-Ok.ensures.exact;
      filled = c.in-Ok.ensures.len;
      same = ((refl, refl, refl), refl, λ _. refl);
    }

pub give_back-requires-clause-home : goal.give_back-requires-clause-home
give_back-requires-clause-home g c = c.null.ensures.same.0.0.0 ∙ (c.loop-i.invariant.same.0.0 ∙ c.requires.home)

pub returns-in_default-null-clause-same : goal.returns-in_default-null-clause-same
returns-in_default-null-clause-same g c =
    let old = c.args.local.now in
    let now = c.null.new.local in
    let missed = but_for_misses c.loop-i.local now c.null.ensures.same.0 c.null.ensures.same.1 in
    as_before old now c.give_back.new.local (as_before old c.loop-i.local now c.loop-i.invariant.same missed) c.give_back.ensures.same

pub push_reserved-requires : goal.push_reserved-requires
push_reserved-requires g c = omega (arith, c.loop-i.invariant.room, c.loop-i.invariant.filled, c.loop-i-test.true)

pub loop-i-preserved : goal.loop-i-preserved
loop-i-preserved g c =
    let before = c.loop-i.invariant in
    let pushed = c.push_reserved.ensures in
    record {
      inside = subst (All (λ cell. cell_number cell < cell_count c.args.domain.now)) (sym pushed.items) (All-push (λ cell. cell_number cell < cell_count c.args.domain.now) c.loop-i.cells.items c.in-Ok-null.cell before.inside c.in-Ok-null.ensures.inside);
      room = pushed.capacity ∙ before.room;
      filled = pushed.len ∙ ap (λ n. n + 1) before.filled;
      same = as_before c.args.local.now c.loop-i.local c.null.new.local before.same (but_for_misses c.loop-i.local c.null.new.local c.null.ensures.same.0 c.null.ensures.same.1);
    }

pub invariant_of-result : goal.invariant_of-result
invariant_of-result g c = record { inside = subst (λ n. All (λ cell. cell_number cell < n) c.loop-i.cells.items) (sym c.cells.ensures) c.loop-i.invariant.inside }

pub returns-clause-same : goal.returns-clause-same
returns-clause-same g c = c.loop-i.invariant.same
