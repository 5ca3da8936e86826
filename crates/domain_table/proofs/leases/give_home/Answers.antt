use Rattle.std.proofs.Common.{◌≡◌, ◌∷◌, [], List, deque_len, eqb-true, ap, sym, refl, ◌∙◌, subst, arith}
use Rattle.std.proofs.lemmas.List.{nil_from_length}
use Rattle.sdd_homes.specs.declared.Lease.{Lease}
use Rattle.domain_table.specs.Contents.{IsIn, blanks}
use Rattle.domain_table.specs.Leases.{leased_homes}
use Rattle.domain_table.specs.Plays.{Refilled}
use Rattle.domain_table.proofs.Leased.{none_told}
use Rattle.domain_table.proofs.leases.give_home.Goals as goal

-- nothing is leased, and nothing goes home
pub returns-then-is_empty-clause-filled : goal.returns-then-is_empty-clause-filled
returns-then-is_empty-clause-filled g c = λ k is. let m = c.args.seat.now.me in let d = m.0 in let rows = c.args.rows.now in let all = rows.ok.0 in let is_0 = eqb-true (deque_len rows) 0 (sym c.if-is_empty.ensures) in let nothing : rows.items ≡ [] = nil_from_length rows.items (omega arith) in let none : d.leases ≡ [] = none_told c.args.ended.now.id rows.items d.leases nothing c.requires.rows in
    (m.1, subst (λ (ls : List Lease). Refilled (IsIn g.H.Holding.holds) d ls m.1 (blanks (k ∷ []))) (sym none) (is ∙ ap (λ (ls : List Lease). blanks (k ∷ leased_homes d ls)) none), refl)
