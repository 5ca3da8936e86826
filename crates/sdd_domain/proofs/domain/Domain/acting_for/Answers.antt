use Rattle.std.proofs.Common.{◌≡◌, ◌<◌, ◌∙◌, ℕ, List, ap, sym, subst, arith}
use Rattle.atomic_table.specs.Seated.{TableId}
use Rattle.sdd_plain.specs.declared.sizes.Sizes.{Sizes}
use Rattle.domain_table.specs.Layout.{claim_word}
use Rattle.domain_table.specs.Ledgers.{IsEmpty}
use Rattle.atomic_table.specs.Table.{Me}
use Rattle.domain_table.specs.Contents.{IsIn}
use Rattle.domain_table.specs.Views.{spent}
use Rattle.domain_table.specs.declared.board.Acting.{Acting}
use Rattle.domain_table.specs.declared.board.Home.{Home}
use Rattle.domain_table.specs.Plays.{HasRegistered}
use Rattle.sdd_domain.proofs.domain.Domain.acting_for.Goals as goal

pub registered-requires-clause-acts : goal.registered-requires-clause-acts
registered-requires-clause-acts g c = let e = c.in-Some.ensures.claimed in let empty = c.sit-seat.ensures.2 in
    (subst (λ (m : List (ℕ × Home g.row.T.Denot) × Me (Home g.row.T.Denot) Acting). HasRegistered (IsIn g.T.Holds.holds) (spent, m.0) c.args.number c.in-Some.spare m.1) (λ j. (empty j, sym c.learn.ensures.seat.2 j)) e.1, e.0)

pub registered-requires-clause-table : goal.registered-requires-clause-table
registered-requires-clause-table g c = let d = c.args.self.now in let known : c.learn.new.seat.me.0.sizes ≡ d.sizes = c.learn.ensures.learned in let low = c.requires.low in let sized = d.sized.1 in let long = d.sized.2 in let many = ap (λ (z : Sizes). z.participants) known in
    let table = c.learn.ensures.seat.0 ∙ (c.claim.ensures.seat.0 ∙ (c.sit-seat.ensures.0 ∙ c.words.ensures.0)) in (subst (λ (t : TableId). claim_word c.args.number < t.words) (sym table) (omega arith), omega arith, omega arith)

pub registered-requires-clause-empty : goal.registered-requires-clause-empty
registered-requires-clause-empty g c = subst (λ (z : Sizes). IsEmpty z.slots c.args.ledger) (sym c.learn.ensures.learned) c.requires.empty
