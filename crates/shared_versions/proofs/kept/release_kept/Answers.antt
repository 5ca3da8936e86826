use Rattle.std.proofs.Common.{◌∙◌, subst}
use Rattle.std.specs.Prelude.{IfSome}
use Rattle.std.proofs.lemmas.List.Elements.{All-pop}
use Rattle.shared_versions.specs.Placing.{IsKeptRow}
use Rattle.shared_versions.proofs.StillLemmas.{still}
use Rattle.shared_versions.proofs.kept.release_kept.Goals as goal

pub let_go-requires-clause-home : goal.let_go-requires-clause-home
let_go-requires-clause-home g c = c.releasing.invariant.same.0 ∙ c.requires.home

pub let_go-requires-clause-mine : goal.let_go-requires-clause-mine
let_go-requires-clause-mine g c =
    let place = c.args.domain.now.table.shared.table_id in
    let popped = All-pop (IsKeptRow place) c.releasing.kept.items c.pop.new.self.items c.pop.result c.pop.ensures.items c.releasing.invariant.kept in
    (subst (IsKeptRow place) c.in-Some-owner.is (subst (λ r. IfSome r (IsKeptRow place)) c.in-Some.is popped.1)).0

pub releasing-preserved-in-Some-owner : goal.releasing-preserved-in-Some-owner
releasing-preserved-in-Some-owner g c =
    let place = c.args.domain.now.table.shared.table_id in
    let before = c.releasing.invariant in
    record {
      kept = (All-pop (IsKeptRow place) c.releasing.kept.items c.pop.new.self.items c.pop.result c.pop.ensures.items before.kept).0;
      hand = c.let_go.ensures.hand ∙ before.hand;
      same = still c.args.local.now c.releasing.local c.let_go.new.local before.same c.let_go.ensures.same;
      cells = c.let_go.ensures.cells ∙ before.cells;
    }

pub releasing-preserved : goal.releasing-preserved
releasing-preserved g c =
    let place = c.args.domain.now.table.shared.table_id in
    let before = c.releasing.invariant in
    record {
      kept = (All-pop (IsKeptRow place) c.releasing.kept.items c.pop.new.self.items c.pop.result c.pop.ensures.items before.kept).0;
      hand = before.hand;
      same = before.same;
      cells = before.cells;
    }

pub returns-clause-hand : goal.returns-clause-hand
returns-clause-hand g c = c.releasing.invariant.hand

pub returns-clause-same : goal.returns-clause-same
returns-clause-same g c = c.releasing.invariant.same

pub returns-clause-cells : goal.returns-clause-cells
returns-clause-cells g c = c.releasing.invariant.cells
