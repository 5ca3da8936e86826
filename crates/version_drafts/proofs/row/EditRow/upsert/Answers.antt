use Rattle.std.proofs.Common.{sym, subst}
use Rattle.leaf_array.proofs.ListLemmas.{IsAscending-upserted}
use Rattle.leaf_array.specs.Pairs.{IsAscending}
use Rattle.version_drafts.specs.Rows.{IsFoundAt, IsMissingAt}
use Rattle.version_drafts.proofs.RowLemmas.{put_between, put_over}
use Rattle.version_drafts.proofs.row.EditRow.upsert.Goals as goal

pub returns-in-Ok : goal.returns-in-Ok
returns-in-Ok g c =
    let found = subst (λ key. IsFoundAt g.K.Ord.cmp key c.args.self.now c.in-Ok.place) c.key.ensures c.in-Ok.ensures.found in
    rw c.self.view_is (put_over g.K.Ord.cmp c.args.noted.0 c.args.noted.1 c.args.self.now c.in-Ok.place found)

pub invariant_of-self : goal.invariant_of-self
invariant_of-self g c =
    let row = c.args.self.now in
    let found = subst (λ key. IsFoundAt g.K.Ord.cmp key row c.in-Ok.place) c.key.ensures c.in-Ok.ensures.found in
    let rising = IsAscending-upserted g.met.K.Ord.total c.args.noted.0 c.args.noted.1 row (subst (IsAscending g.K.Ord.cmp) c.self.view_is c.self.invariant) in
    rw c.self.view_is (subst (IsAscending g.K.Ord.cmp) (sym (put_over g.K.Ord.cmp c.args.noted.0 c.args.noted.1 row c.in-Ok.place found)) rising)

pub invariant_of-self-in-Continue-1 : goal.invariant_of-self-in-Continue-1
invariant_of-self-in-Continue-1 g c =
    let row = c.args.self.now in
    let missing = subst (λ key. IsMissingAt g.K.Ord.cmp key row c.in-Err.place) c.key.ensures c.in-Err.ensures.missing in
    let rising = IsAscending-upserted g.met.K.Ord.total c.args.noted.0 c.args.noted.1 row (subst (IsAscending g.K.Ord.cmp) c.self.view_is c.self.invariant) in
    rw (c.in_ok-insert-in-Err.ensures.items, c.self.view_is) (subst (IsAscending g.K.Ord.cmp) (sym (put_between g.K.Ord.cmp c.args.noted.0 c.args.noted.1 row c.in-Err.place missing)) rising)
