use Rattle.std.proofs.Common.{◌∙◌, ap, sym, subst}
use Rattle.std.specs.Prelude.{IfSome}
use Rattle.std.proofs.lemmas.List.Elements.{All-pop}
use Rattle.version_views.specs.declared.row.Row.{Row}
use Rattle.shared_versions.specs.Placing.{IsGrantedIn}
use Rattle.shared_versions.proofs.StillLemmas.{still}
use Rattle.shared_versions.proofs.granting.release_all.Goals as goal

pub let_go-requires-clause-home : goal.let_go-requires-clause-home
let_go-requires-clause-home g c = c.releasing.invariant.same.0 ∙ c.requires.home

pub let_go-requires-clause-mine : goal.let_go-requires-clause-mine
let_go-requires-clause-mine g c =
    let place = c.args.domain.now.table.shared.table_id in
    let Is = λ (r : Row _ _). IsGrantedIn place r.segments in
    let popped = All-pop Is c.releasing.granted.items c.pop.new.self.items c.pop.result c.pop.ensures.items c.releasing.invariant.owners in
    let here = subst (λ r. IfSome r Is) c.in-Some.is popped.1 in
    (subst (IsGrantedIn place) (sym c.into_owners.ensures ∙ c.in-Item.is) here).0

pub releasing-preserved-in-Item : goal.releasing-preserved-in-Item
releasing-preserved-in-Item g c =
    let place = c.args.domain.now.table.shared.table_id in
    let before = c.releasing.invariant in
    record {
      owners = (All-pop (λ (r : Row _ _). IsGrantedIn place r.segments) c.releasing.granted.items c.pop.new.self.items c.pop.result c.pop.ensures.items before.owners).0;
      hand = c.let_go.ensures.hand ∙ before.hand;
      same = still c.args.local.now c.releasing.local c.let_go.new.local before.same c.let_go.ensures.same;
      cells = c.let_go.ensures.cells ∙ before.cells;
    }

pub releasing-preserved : goal.releasing-preserved
releasing-preserved g c =
    let place = c.args.domain.now.table.shared.table_id in
    let before = c.releasing.invariant in
    record {
      owners = (All-pop (λ (r : Row _ _). IsGrantedIn place r.segments) c.releasing.granted.items c.pop.new.self.items c.pop.result c.pop.ensures.items before.owners).0;
      hand = before.hand;
      same = before.same;
      cells = before.cells;
    }

pub returns-clause-hand : goal.returns-clause-hand
returns-clause-hand g c = c.releasing.invariant.hand

pub returns-clause-same : goal.returns-clause-same
returns-clause-same g c = c.releasing.invariant.same

pub returns-clause-cells : goal.returns-clause-cells
returns-clause-cells g c = c.releasing.invariant.cells
