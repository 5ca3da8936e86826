-- what a participant knows of its guards and of what it has leased
use Rattle.std.proofs.Common.{◌≡◌, ℕ, List, [], ◌∷◌, map, length, None, Some, refl, ap, ◌∙◌, arith}
use Rattle.atomic_table.specs.Table.{Me}
use Rattle.sdd_homes.specs.declared.Lease.{Lease}
use Rattle.sdd_homes.specs.Book.{home}
use Rattle.domain_table.specs.Leases.{row_told, lease_told, leased_homes}
use Rattle.domain_table.specs.Plays.{Steady}
use Rattle.domain_table.specs.declared.board.Acting.{Acting}
use Rattle.sdd_domain.specs.declared.local.Local.{Local}
use Rattle.domain_table.specs.declared.row.Row.{Row}

-- nothing is leased while no guard is open
pub none_leased : {T : Type 0} (l : Local T) → l.own.nesting ≡ 0 → l.seat.me.0.leases ≡ []
none_leased l none = (elim l.life as (λ x. l.life ≡ x → l.seat.me.0.leases ≡ []) [
  | None ↦ λ e. (l.shut e).1
  | Some f ↦ λ e. let some = (l.alive f e).0 in absurd (omega arith)
]) refl

-- then there are no rows
pub no_rows : {T : Type 0} (life : ℕ) (ls : List Lease) (rows : List (Row T)) → map row_told rows ≡ map (lease_told life) ls → ls ≡ [] → length rows ≡ 0
no_rows life ls [] told none = refl
no_rows life ls (r ∷ rows) told none = let same : map row_told (r ∷ rows) ≡ [] = told ∙ ap (map (lease_told life)) none in absurd (cc)

-- a scan leaves what is leased where it is
pub still_leased : {S : Type 0} (m m' : Me S Acting) → Steady m m' → leased_homes m'.0 m'.0.leases ≡ leased_homes m.0 m.0.leases
still_leased m m' s = λ j. map (λ (l : Lease). home (s.3 j).slots l.slot (s.1 j)) (s.6 j)
