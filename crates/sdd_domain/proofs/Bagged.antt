-- the spare slot of a participant, which is out with its seat, and empty
use Rattle.std.proofs.Common.{◌≡◌, true, ℕ, List, [], ◌∷◌, ap, ◌∙◌}
use Rattle.atomic_table.specs.Table.{Me}
use Rattle.sdd_homes.specs.declared.Lease.{Lease}
use Rattle.domain_table.specs.Contents.{is_blank, blanks}
use Rattle.domain_table.specs.Leases.{has_all, leased_homes}
use Rattle.domain_table.specs.declared.board.Acting.{Acting}
use Rattle.domain_table.specs.declared.board.Home.{Home}
use Rattle.domain_table.specs.declared.board.Home.TheVariants.{Blank}
use Rattle.domain_table.proofs.Told.{all_there, are_there}

module _ {T : Type 0} where
  pub spare_out : (m : Me (Home T) Acting) (k : ℕ) → m.0.leases ≡ [] → has_all is_blank (k ∷ leased_homes m.0 m.0.leases) m.1 ≡ true → m.1 ≡ (k, Blank) ∷ []
  spare_out m k none out = all_there (k ∷ leased_homes m.0 m.0.leases) m.1 out ∙ ap (λ (ls : List Lease). blanks (k ∷ leased_homes m.0 ls)) none

  -- so are the homes of what is leased behind them
  pub are_out : (m : Me (Home T) Acting) (k : ℕ) (ls : List ℕ) → leased_homes m.0 m.0.leases ≡ ls → m.1 ≡ blanks (k ∷ ls) → has_all is_blank (k ∷ leased_homes m.0 m.0.leases) m.1 ≡ true
  are_out m k ls same is = (λ j. has_all is_blank (k ∷ same j) (is j)) ∙ are_there T (k ∷ ls)
