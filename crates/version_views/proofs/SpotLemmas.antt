-- A place among all, which the ends of rows name.
use Rattle.std.proofs.Common.{◌≡◌, ◌≢◌, ℕ, zero, suc, ◌+◌, ◌<◌, ◌≤◌, ◌⊎◌, inl, inr, false, true, List, length, get_or, refl, sym, arith}
use Rattle.std.specs.Cmp.{nat_cmp_is}
use Rattle.std.specs.Ordering.{nat_cmp}
use Rattle.std.specs.declared.cmp.Ordering.TheVariants.{Less}
use Rattle.std.proofs.lemmas.Bool.Decides.{leb_tells}
use Rattle.std.proofs.lemmas.Cmp.{ranked}
use Rattle.std.proofs.lemmas.Option.{get_or_from_slice_get}
use Rattle.std.proofs.Math.Dec.{leb}
use Rattle.version_views.specs.Rows.{count_in, start_of}
use Rattle.version_views.specs.SeparatorSearch.{IsPlaceOf}
use Rattle.version_views.proofs.SeparatorSearchLemmas.{get_some}

module _ (ends : List ℕ) (place row : ℕ) (at : IsPlaceOf nat_cmp (place + 1) ends row) where
  not_less : (k : ℕ) → nat_cmp k (place + 1) ≢ Less → place < k
  not_less k ne = split (leb_tells (place + 1) k)
    where
      split : ((leb (place + 1) k ≡ true) × (place + 1 ≤ k)) ⊎ ((leb (place + 1) k ≡ false) × (k < place + 1)) → place < k
      split (inl h) = omega (arith, h.1)
      split (inr h) = absurd (ne (sym (nat_cmp_is k (place + 1) Less h.1)))

  start_upto : (r : ℕ) → row ≡ r → start_of ends r ≤ place
  start_upto zero e = omega arith
  start_upto (suc i) e =
      let within = at.within in
      let k = get_some ends i (omega (arith, within, e)) in
      let is : get_or ends i 0 ≡ k.0 = get_or_from_slice_get ends i k.0 0 k.1 in
      let less = ranked k.0 (place + 1) Less (sym (at.before i k.0 (omega (arith, e)) k.1)) in
      omega (arith, is, less)

  -- the row that is found has the place
  pub start_found : start_of ends row ≤ place
  start_found = start_upto row refl

  pub row_found : place < count_in ends → row < length ends
  row_found h = split (leb_tells (length ends) row)
    where
      split : ((leb (length ends) row ≡ true) × (length ends ≤ row)) ⊎ ((leb (length ends) row ≡ false) × (row < length ends)) → row < length ends
      split (inl l) = let within = at.within in let all = start_upto (length ends) (omega (arith, within, l.1)) in absurd (omega (arith, all, h))
      split (inr l) = l.1

  pub end_found : place < count_in ends → place < get_or ends row 0
  end_found h =
      let k = get_some ends row (row_found h) in
      let is : get_or ends row 0 ≡ k.0 = get_or_from_slice_get ends row k.0 0 k.1 in
      let more = not_less k.0 (at.behind k.0 k.1) in
      omega (arith, is, more)
