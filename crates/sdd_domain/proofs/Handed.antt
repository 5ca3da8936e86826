-- an owner that came into the hand of a participant
use Rattle.std.proofs.Common.{◌≡◌, ℕ, List, [], ◌∷◌, map, ap, sym, ◌∙◌}
use Rattle.atomic_table.specs.Table.{Me}
use Rattle.sdd_homes.specs.declared.Lease.{Lease}
use Rattle.sdd_homes.specs.declared.Owner.{Owner}
use Rattle.domain_table.specs.Leases.{row_told, lease_told}
use Rattle.domain_table.specs.Owners.{item_in}
use Rattle.domain_table.specs.Views.{holding}
use Rattle.domain_table.specs.declared.board.Acting.{Acting}
use Rattle.domain_table.specs.declared.board.Home.{Home}
use Rattle.sdd_domain.specs.declared.local.Local.{Local}
use Rattle.sdd_domain.specs.declared.shared.Shared.{Shared}

abbrev pub owner : {T : Type 0} → Shared T → Owner
owner s = record { item = item_in s.calm.badge.views; slot = s.slot; round = s.part.part.life.id }

module _ {T : Type 0} (l : Local T) (s : Shared T) (m1 : Me (Home T) Acting) (taken : (o : Owner) → s.calm.badge.views ≡ holding o ∷ [] → m1 ≡ (record l.seat.me.0 { hand = o ∷ l.seat.me.0.hand }, l.seat.me.1)) where
  abbrev pub d : Acting
  d = l.seat.me.0

  pub mine : m1 ≡ (record d { hand = owner s ∷ d.hand }, l.seat.me.1)
  mine = taken (owner s) s.owns

  pub first : m1.0.hand ≡ owner s ∷ d.hand
  first = ap (λ (z : Me (Home T) Acting). z.0.hand) mine

  pub told : (life : ℕ) → map row_told l.rows.items ≡ map (lease_told life) d.leases → map row_told l.rows.items ≡ map (lease_told life) m1.0.leases
  told life e = e ∙ sym (ap (λ (z : Me (Home T) Acting). map (lease_told life) z.0.leases) mine)

  pub same_slots : (ls : List Lease) → map (λ (x : Lease). x.slot) ls ≡ map (λ (x : Lease). x.slot) m1.0.leases → map (λ (x : Lease). x.slot) ls ≡ map (λ (x : Lease). x.slot) d.leases
  same_slots ls e = e ∙ ap (λ (z : Me (Home T) Acting). map (λ (x : Lease). x.slot) z.0.leases) mine
