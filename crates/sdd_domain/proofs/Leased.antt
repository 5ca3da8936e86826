-- the rows of what a participant has leased
use Rattle.std.proofs.Common.{◌≡◌, ◌<◌, ℕ, zero, suc, List, [], ◌∷◌, map, length, slice_index_or, Option, None, Some, IfSome, ⊎_elim, inl, inr, refl, sym, ap, ◌∙◌, subst, arith}
use Rattle.std.specs.Prelude.{IsSome, IsSomeAnd}
use Rattle.std.specs.Mem.{manually_drop_value}
use Rattle.core.specs.declared.mem.manually_drop.ManuallyDrop.{ManuallyDrop}
use Rattle.parted.specs.declared.raw.Seen.{Seen}
use Rattle.sdd_steps.specs.State.{Has}
use Rattle.sdd_homes.specs.declared.Lease.{Lease}
use Rattle.domain_table.specs.Leases.{row_told, lease_told, row_slots, life_number}
use Rattle.domain_table.specs.declared.row.Row.{Row}
use Rattle.sdd_domain.specs.Tokens.{number_of, nest_in}
use Rattle.sdd_domain.specs.declared.local.Local.{Local}

module _ {T : Type 0} where
  -- at an index there is a row
  pub row_in : (rows : List (Row T)) (i : ℕ) → i < length rows → (r : Row T) × Has rows r × ((d : Row T) → slice_index_or rows i d ≡ r)
  row_in [] i low = absurd (omega arith)
  row_in (r ∷ rows) zero low = (r, inl refl, λ d. refl)
  row_in (r ∷ rows) (suc i) low = let f = row_in rows i (omega arith) in (f.0, inr f.1, f.2)

  -- the slot of a row is leased
  pub slot_in : (rows : List (Row T)) (r : Row T) → Has rows r → Has (row_slots rows) r.slot
  slot_in [] r has = absurd has
  slot_in (x ∷ rows) r has = ⊎_elim (λ (e : x ≡ r). inl (ap (λ (z : Row T). z.slot) e)) (λ (t : Has rows r). inr (slot_in rows r t)) has

  -- a part of each row is lent to the life that the leases are under
  lent_to : (life : ℕ) (rows : List (Row T)) (ls : List Lease) (r : Row T) → map row_told rows ≡ map (lease_told life) ls → Has rows r → r.lent.pledge.until ≡ life
  lent_to life [] ls r e has = absurd has
  lent_to life (x ∷ rows) [] r e has = absurd (cc)
  lent_to life (x ∷ rows) (l ∷ ls) r e has = let first : row_told x ≡ lease_told life l = cc in let others : map row_told rows ≡ map (lease_told life) ls = cc in
      ⊎_elim (λ (is : x ≡ r). sym (ap (λ (z : Row T). z.lent.pledge.until) is) ∙ ap (λ (t : ℕ × ℕ × ℕ × ℕ). t.3) first) (λ (t : Has rows r). lent_to life rows ls r others t) has

  -- what the row of a slot is seen as
  abbrev IsSeenOf : List (Row T) → ℕ → Seen (Option (ManuallyDrop T)) → Type 0
  IsSeenOf rows k s = (r : Row T) × Has rows r × (r.slot ≡ k) × (s.value ≡ r.lent.seen.value) × (s.life ≡ r.lent.pledge.until)

  pub in_nest : (l : Local T) (k : ℕ) (o : Option (Seen (Option (ManuallyDrop T)))) → IfSome o (IsSeenOf l.rows.items k) → IfSome o (λ s. (number_of l, s.life) ≡ nest_in l)
  in_nest l k None a = tt
  in_nest l k (Some s) a = λ j. (l.number, (a.4 ∙ lent_to (life_number l.life) l.rows.items l.seat.me.0.leases a.0 l.lends.0 a.1) j)

  pub has_row : (rows : List (Row T)) (k : ℕ) (o : Option (Seen (Option (ManuallyDrop T)))) → IfSome o (IsSeenOf rows k) → IfSome o (λ s. (r : Row T) × Has rows r × (r.slot ≡ k) × (s.value ≡ r.lent.seen.value))
  has_row rows k None a = tt
  has_row rows k (Some s) a = (a.0, a.1, a.2, a.3)

  -- a row's item is there
  pub item_of : (rows : List (Row T)) (k : ℕ) (v : Option (ManuallyDrop T)) → (r : Row T) × Has rows r × (r.slot ≡ k) × (v ≡ r.lent.seen.value)
      → (x : T) × IsSomeAnd v (λ m. manually_drop_value m ≡ x) × ((r : Row T) × Has rows r × (r.slot ≡ k) × IsSomeAnd r.lent.seen.value (λ m. manually_drop_value m ≡ x))
  item_of rows k None a = let bad = subst IsSome (sym a.3) a.0.one.1 in absurd (cc)
  item_of rows k (Some m) a = (manually_drop_value m, refl, (a.0, a.1, a.2, subst (λ o. IsSomeAnd o (λ z. manually_drop_value z ≡ manually_drop_value m)) a.3 refl))
