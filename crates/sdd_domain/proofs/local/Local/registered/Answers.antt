use Rattle.std.proofs.Common.{◌≡◌, ◌<◌, ℕ, ◌≤◌, List, [], ◌∷◌, map, ap, sym, ◌∙◌, subst, refl, arith}
use Rattle.atomic_table.specs.Table.{Me}
use Rattle.domain_table.specs.Contents.{IsIn}
use Rattle.domain_table.specs.Leases.{row_told, lease_told, leased_homes, row_slots, all_below}
use Rattle.domain_table.specs.Ledgers.{WaitsIn}
use Rattle.domain_table.specs.declared.row.Row.{Row}
use Rattle.domain_table.specs.Plays.{own_spare, HasRegistered}
use Rattle.domain_table.specs.Views.{spent}
use Rattle.domain_table.specs.declared.board.Acting.{Acting}
use Rattle.domain_table.specs.declared.board.Home.{Home}
use Rattle.domain_table.specs.declared.board.Home.TheVariants.{Blank}
use Rattle.sdd_domain.proofs.Bagged.{are_out}
use Rattle.sdd_domain.proofs.local.Local.registered.Goals as goal

-- the spare slot is out, by the name that the claim gave
placed : {T : Type 0} (holds : T → List (ℕ × ℕ)) (q y : ℕ) (m : Me (Home T) Acting) (r : HasRegistered (IsIn holds) (spent, []) q y m) → m.1 ≡ (own_spare m.0 y, Blank) ∷ []
placed holds q y m r = r.2.2 ∙ λ j. (own_spare m.0 ((ap (λ (d : Acting). d.spare) r.1) j), r.2.1 j) ∷ []

pub invariant_of-result : goal.invariant_of-result
invariant_of-result g c = let r = c.requires.acts.0 in let m = c.args.seat.me in let q : ℕ = c.args.number in let y : ℕ = c.args.spare in let is = r.1 in let t = c.requires.table in let none = ap (λ (d : Acting). d.leases) is in record {
  acts = (ap (λ (d : Acting). d.kind) is, ap (λ (d : Acting). d.number) is, ap (λ (d : Acting). d.scan) is, t.1, t.0, ap (λ (d : Acting). d.releasing) is);
  has_spare = (ap (λ (d : Acting). d.spare) is, c.requires.acts.1, are_out m (own_spare m.0 y) [] (ap (leased_homes m.0) none) (placed g.T.Holds.holds q y m r));
  lends = (ap (map row_told) c.requires.empty.0 ∙ sym (ap (map (lease_told 0)) none), c.requires.empty.1, ap (λ (rs : List (Row _)). all_below m.0.sizes.slots (row_slots rs)) c.requires.empty.0);
  shut = λ _. (refl, none);
  alive = λ f e. absurd (cc);
  phase = ap (λ (d : Acting). d.known.phase) is;
  found = ap (λ (d : Acting). d.known.found) is;
  noted = refl;
  fills = (ap (λ (d : Acting). d.filling) is, omega arith, t.2);
  waits = (subst (λ ws. WaitsIn m.0.sizes.slots ws c.new.result) (sym (ap (λ (d : Acting). d.waits) is)) (c.new.ensures.waits m.0.sizes.slots), c.new.ensures.due);
}
