use Rattle.std.proofs.Common.{◌≡◌, ℕ, List, sym, ap, ◌∙◌}
use Rattle.sdd_table.specs.State.{with_status, status_at}
use Rattle.sdd_table.specs.Steps.{followed, followed_as}
use Rattle.sdd_table.specs.declared.status.Status.{Status}
use Rattle.sdd_table.specs.declared.status.Status.TheVariants as status
use Rattle.sdd_table.proofs.PrivateBagLemmas.{followed_last, names_none}
use Rattle.sdd_table.proofs.reclaim.follow_last.Goals as goal

pub returns-in-Collected : goal.returns-in-Collected
returns-in-Collected g c =
    let t = c.args.table.now in
    let i = c.args.slot in
    let e = c.in-Some.ensures.some in
    let was : status_at t c.in-Some.last ≡ status.Collected c.in-Collected.note c.in-Collected.field-1 = sym c.status_of.ensures ∙ c.in-Collected.is in
    c.set_status.ensures
    ∙ ap (λ (k : ℕ). with_status c.in-Some.last (status.Collected c.in-Collected.note k) t) c.name_of-behind.ensures
    ∙ ap (λ (s : Status). followed_as s c.in-Some.last i t) (sym was)
    ∙ sym (followed_last e.0 c.in-Some.last i t)
    ∙ ap (λ (is : List ℕ). followed is i t) (sym e.1)

pub returns-in_default-status_of : goal.returns-in_default-status_of
returns-in_default-status_of g c =
    let t = c.args.table.now in
    let i = c.args.slot in
    let e = c.in-Some.ensures.some in
    sym (names_none c.status_of.result c.in-Some.last i t c.in_default-status_of.not-Collected)
    ∙ ap (λ (s : Status). followed_as s c.in-Some.last i t) c.status_of.ensures
    ∙ sym (followed_last e.0 c.in-Some.last i t)
    ∙ ap (λ (is : List ℕ). followed is i t) (sym e.1)
