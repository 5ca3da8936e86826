-- the homes of what is leased, as they are filled again
use Rattle.std.proofs.Common.{◌≡◌, ◌<◌, ℕ, suc, List, [], ◌∷◌, ◌++◌, map, length, drop, slice_index_or, ⊎_elim, append_assoc, refl, sym, ap, ◌∙◌, subst, arith}
use Rattle.atomic_table.specs.Table.{Me, rest, turned}
use Rattle.sdd_steps.specs.State.{Has}
use Rattle.sdd_homes.specs.declared.Lease.{Lease}
use Rattle.sdd_homes.specs.Book.{Content, part}
use Rattle.domain_table.specs.Contents.{IsIn, blanks}
use Rattle.domain_table.specs.Leases.{row_told, lease_told, leased_homes}
use Rattle.domain_table.specs.Plays.{Refilled, own_home}
use Rattle.domain_table.specs.declared.board.Acting.{Acting}
use Rattle.domain_table.specs.declared.board.Home.{Home}
use Rattle.domain_table.specs.declared.board.Home.TheVariants.{Blank}
use Rattle.domain_table.specs.declared.row.Row.{Row}
use Rattle.domain_table.proofs.Fronts.{put_in}

-- the first row tells the first lease
pub first_told : {T : Type 0} (life : ℕ) (r : Row T) (rs : List (Row T)) (ls : List Lease) → map row_told (r ∷ rs) ≡ map (lease_told life) ls
    → (l : Lease) × (ks : List Lease) × (ls ≡ l ∷ ks) × (row_told r ≡ lease_told life l) × (map row_told rs ≡ map (lease_told life) ks)
first_told life r rs [] e = absurd (cc)
first_told life r rs (l ∷ ls) e = (l, ls, refl, cc, cc)

pub none_told : {T : Type 0} (life : ℕ) (rows : List (Row T)) (ls : List Lease) → rows ≡ [] → map row_told rows ≡ map (lease_told life) ls → ls ≡ []
none_told life [] [] none e = refl
none_told life [] (l ∷ ls) none e = absurd (cc)
none_told life (r ∷ rows) ls none e = absurd (cc)

module _ {S : Type 0} (IsIn : Content → S → Type 0) (d : Acting) where
  pub more_filled : (ls : List Lease) (xs : List (ℕ × S)) (l : Lease) (u : S) → IsIn (part l.round l.count) u → Refilled IsIn d ls xs [] → Refilled IsIn d (ls ++ l ∷ []) (xs ++ (own_home d l.slot, u) ∷ []) []
  more_filled [] xs l u is e = (u, [], is, ap (λ (ys : List (ℕ × S)). ys ++ (own_home d l.slot, u) ∷ []) e, refl)
  more_filled (k ∷ ls) xs l u is r = (r.0, r.1 ++ (own_home d l.slot, u) ∷ [], r.2, ap (λ (ys : List (ℕ × S)). ys ++ (own_home d l.slot, u) ∷ []) r.3, more_filled ls r.1 l u is r.4)

  -- other slots are behind them
  pub filled_ahead : (ls : List Lease) (xs t : List (ℕ × S)) → Refilled IsIn d ls xs [] → Refilled IsIn d ls (xs ++ t) t
  filled_ahead [] xs t e = ap (λ (ys : List (ℕ × S)). ys ++ t) e
  filled_ahead (l ∷ ls) xs t r = (r.0, r.1 ++ t, r.2, ap (λ (ys : List (ℕ × S)). ys ++ t) r.3, filled_ahead ls r.1 t r.4)

-- so many empty slots in front are passed over
pub drop_blanks : {T : Type 0} (d : Acting) (ls : List Lease) (t : List (ℕ × Home T)) → drop (length ls) (blanks (leased_homes d ls) ++ t) ≡ t
drop_blanks d [] t = refl
drop_blanks d (l ∷ ls) t = drop_blanks d ls t

-- the home of the lease l is in front of what is out with the seat, and empty
module _ {T : Type 0} (m : Me (Home T) Acting) (d : Acting) (l : Lease) (next : List Lease) (t xs : List (ℕ × Home T)) (is : m ≡ (d, blanks (leased_homes d (l ∷ next)) ++ (t ++ xs))) where
  pub front : m.1 ≡ (own_home d l.slot, Blank) ∷ (blanks (leased_homes d next) ++ (t ++ xs))
  front = ap (λ (z : Me (Home T) Acting). z.1) is

  -- it gets a value, and goes behind the others
  pub turned_on : (i : ℕ) (r y : Home T) (m1 m2 : Me (Home T) Acting) → m.1 ≡ (i, r) ∷ rest m.1 → m1 ≡ (m.0, (i, y) ∷ rest m.1) → m2 ≡ (m1.0, turned m1.1) → m2 ≡ (d, blanks (leased_homes d next) ++ (t ++ (xs ++ (own_home d l.slot, y) ∷ [])))
  turned_on i r y m1 m2 f e e' = let b : List (ℕ × Home T) = blanks (leased_homes d next) in let one : List (ℕ × Home T) = (own_home d l.slot, y) ∷ [] in
      e' ∙ (ap (λ (z : Me (Home T) Acting). (z.0, turned z.1)) (put_in m m1 (own_home d l.slot) i Blank r y (b ++ (t ++ xs)) front f e)
      ∙ λ j. ((is j).0, (append_assoc b (t ++ xs) one ∙ ap (λ ys. b ++ ys) (append_assoc t xs one)) j))

-- a slot was in front of what is leased, and is behind it now
module _ {T : Type 0} (holds : T → List (ℕ × ℕ)) (m m1 : Me (Home T) Acting) (k : ℕ) (is : m.1 ≡ blanks (k ∷ leased_homes m.0 m.0.leases)) (one : m1 ≡ (m.0, turned m.1)) where
  abbrev alone : List (ℕ × Home T)
  alone = blanks (k ∷ [])

  pub is_behind : m1 ≡ (m.0, blanks (leased_homes m.0 m.0.leases) ++ alone)
  is_behind = one ∙ λ j. (m.0, ap turned is j)

  pub leased_ahead : m1.1 ≡ blanks (leased_homes m1.0 m1.0.leases) ++ drop (length m1.0.leases) m1.1
  leased_ahead = let d = m.0 in let b : List (ℕ × Home T) = blanks (leased_homes d d.leases) in let all = drop_blanks d d.leases alone in
      subst (λ (z : Me (Home T) Acting). z.1 ≡ blanks (leased_homes z.0 z.0.leases) ++ drop (length z.0.leases) z.1) (sym is_behind) (ap (λ ys. b ++ ys) (sym all))

  -- the homes are filled, and then the slot is behind them again
  pub filled_home : (xs : List (ℕ × Home T)) (m2 m3 : Me (Home T) Acting) → Refilled (IsIn holds) m1.0 m1.0.leases xs [] → m2 ≡ (m1.0, drop (length m1.0.leases) m1.1 ++ xs) → m3 ≡ (m2.0, turned m2.1)
      → (ys : List (ℕ × Home T)) × Refilled (IsIn holds) m.0 m.0.leases ys (blanks (k ∷ [])) × (m3 ≡ (m.0, ys))
  filled_home xs m2 m3 filled e e' = let d = m.0 in let same = ap (λ (z : Me (Home T) Acting). z.0) is_behind in let t : List (ℕ × Home T) = blanks (k ∷ []) in
      let rest_is : drop (length m1.0.leases) m1.1 ≡ t = ap (λ (z : Me (Home T) Acting). drop (length z.0.leases) z.1) is_behind ∙ drop_blanks d d.leases t in
      let second : m2 ≡ (d, t ++ xs) = e ∙ λ j. (same j, rest_is j ++ xs) in (
        xs ++ t,
        filled_ahead (IsIn holds) d d.leases xs t (subst (λ (z : Acting). Refilled (IsIn holds) z z.leases xs []) same filled),
        e' ∙ ap (λ (z : Me (Home T) Acting). (z.0, turned z.1)) second,
      )

-- where the row of a slot is
pub row_at : {T : Type 0} (rows : List (Row T)) (k : ℕ) → Has (map (λ (r : Row T). r.slot) rows) k → (i : ℕ) × (r : Row T) × (i < length rows) × ((d : Row T) → slice_index_or rows i d ≡ r) × (r.slot ≡ k)
row_at [] k h = absurd h
row_at (r ∷ rows) k h = ⊎_elim (λ (e : r.slot ≡ k). (0, r, omega arith, (λ d. refl), e)) (λ (t : Has (map (λ (r : Row _). r.slot) rows) k). let f = row_at rows k t in let low = f.2 in (suc f.0, f.1, omega arith, f.3, f.4)) h
