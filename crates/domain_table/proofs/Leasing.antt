-- what a load told, and the rows behind it
use Rattle.std.proofs.Common.{◌≡◌, ◌⊎◌, ◌&&◌, true, ℕ, suc, ◌+◌, ◌^◌, ◌<◌, List, [], ◌∷◌, ◌++◌, map, length, nat_lt, lt-ltb, ⊎_elim, sym, ap, ◌∙◌, subst, arith}
use lib.ListN.{length-map}
use Rattle.atomic_table.specs.Table.{Me, rest, turned}
use Rattle.sdd_steps.specs.State.{Has}
use Rattle.sdd_steps.specs.declared.participant.Loaded.{Loaded}
use Rattle.sdd_steps.proofs.ListLemmas.{both}
use Rattle.sdd_homes.specs.declared.Lease.{Lease}
use Rattle.sdd_homes.specs.Book.{Content, part, lease}
use Rattle.domain_table.specs.Contents.{IsIn}
use Rattle.domain_table.specs.Layout.{packed, Tells}
use Rattle.domain_table.specs.Leases.{row_told, lease_told, row_slots, all_below}
use Rattle.domain_table.specs.Plays.{HasLoaded, HasLeasedAt, IsLeased, takes_home, loading, own_home}
use Rattle.domain_table.specs.declared.board.Acting.{Acting}
use Rattle.domain_table.specs.declared.board.Home.{Home}
use Rattle.domain_table.specs.declared.board.Home.TheVariants.{Blank}
use Rattle.domain_table.specs.declared.row.Row.{Row}
use Rattle.domain_table.proofs.Fronts.{came_out, put_in}
use Rattle.domain_table.proofs.Rows.{slots_told, has_slot, slot_lent}

-- what the word of a cell names
module _ {S : Type 0} (IsIn : Content → S → Type 0) (m m' : Me S Acting) (w : ℕ) (loaded : HasLoaded IsIn m w m') where
  pub nothing_named : ((y t c : ℕ) → y < 2 ^ 31 → t < 4 → w ≡ packed y t c → c ≡ 0) → m' ≡ m
  nothing_named none = ⊎_elim (λ (t : Tells w loaded.0 0 × (m' ≡ m)). t.1)
      (λ t. let bad = none loaded.0 t.1.0 (suc t.0) loaded.1 t.1.1 t.1.2 in absurd (omega arith)) loaded.2

  pub slot_found : (k : ℕ) → ((y t c : ℕ) → y < 2 ^ 31 → t < 4 → w ≡ packed y t c → c ≡ k + 1) → HasLeasedAt IsIn m k m'
  slot_found k some = ⊎_elim (λ (t : Tells w loaded.0 0 × (m' ≡ m)). let bad = some loaded.0 t.0.0 0 loaded.1 t.0.1 t.0.2 in absurd (omega arith))
      (λ t. let next = some loaded.0 t.1.0 (suc t.0) loaded.1 t.1.1 t.1.2 in let same : t.0 ≡ k = omega arith in subst (λ z. HasLeasedAt IsIn m z m') same t.2) loaded.2

-- whether it was leased, as the rows tell
module _ {T : Type 0} (holds : T → List (ℕ × ℕ)) (life : ℕ) (rows : List (Row T)) (m m' : Me (Home T) Acting) (k : ℕ) (h : Loaded) (told : map row_told rows ≡ map (lease_told life) m.0.leases)
    (is : (IsLeased m.0.leases k h × (m' ≡ (loading h m.0.leases m.0, m.1))) ⊎ takes_home (IsIn holds) m k h m') where
  pub was_leased : Has (row_slots rows) k → m' ≡ (loading h m.0.leases m.0, m.1)
  was_leased has = ⊎_elim (λ (t : IsLeased m.0.leases k h × (m' ≡ (loading h m.0.leases m.0, m.1))). t.1) (λ (t : takes_home (IsIn holds) m k h m'). absurd (t.0 (slot_lent m.0.leases k (subst (λ ks. Has ks k) (slots_told life rows m.0.leases told) has)))) is

  pub is_new : ¬ Has (row_slots rows) k → takes_home (IsIn holds) m k h m'
  is_new free = ⊎_elim (λ (t : IsLeased m.0.leases k h × (m' ≡ (loading h m.0.leases m.0, m.1))). let l : Lease = t.0.0 in absurd (free (subst (λ ks. Has ks k) (sym (slots_told life rows m.0.leases told)) (subst (Has (map (λ (x : Lease). x.slot) m.0.leases)) t.0.2 (has_slot m.0.leases l t.0.1)))))
      (λ (t : takes_home (IsIn holds) m k h m'). t) is

-- the home came out, was emptied, and went behind holds the others
module _ {T : Type 0} (holds : T → List (ℕ × ℕ)) (m m1 : Me (Home T) Acting) (k : ℕ) (h : Loaded) (takes : takes_home (IsIn holds) m k h m1) where
  abbrev pub count : ℕ
  count = takes.3.0

  abbrev pub new : Lease
  new = lease k h.item count h.value

  pub front : m1.1 ≡ (own_home m.0 k, takes.3.1) ∷ m.1
  front = ap (λ (z : Me (Home T) Acting). z.1) takes.3.4

  pub had : (i : ℕ) (r : Home T) → m1.1 ≡ (i, r) ∷ rest m1.1 → IsIn holds (part h.value count) r
  had i r f = subst (IsIn holds (part h.value count)) (sym (came_out m1 (own_home m.0 k) i takes.3.1 r m.1 front f)) takes.3.2

  pub behind : (i : ℕ) (r : Home T) (m2 m3 : Me (Home T) Acting) → m1.1 ≡ (i, r) ∷ rest m1.1 → m2 ≡ (m1.0, (i, Blank) ∷ rest m1.1) → m3 ≡ (m2.0, turned m2.1) → m3 ≡ (loading h (m.0.leases ++ new ∷ []) m.0, m.1 ++ (own_home m.0 k, Blank) ∷ [])
  behind i r m2 m3 f e e' = e' ∙ (ap (λ (z : Me (Home T) Acting). (z.0, turned z.1)) (put_in m1 m2 (own_home m.0 k) i takes.3.1 r Blank m.1 front f e) ∙ λ j. ((takes.3.4 j).0, m.1 ++ (own_home m.0 k, Blank) ∷ []))

-- one row more tells one lease more
pub more_told : {T : Type 0} (life : ℕ) (rows : List (Row T)) (ls : List Lease) (r : Row T) (l : Lease) → map row_told rows ≡ map (lease_told life) ls → row_told r ≡ lease_told life l → map row_told (rows ++ r ∷ []) ≡ map (lease_told life) (ls ++ l ∷ [])
more_told life [] [] r l e one = λ j. one j ∷ []
more_told life [] (x ∷ ls) r l e one = absurd (cc)
more_told life (x ∷ rows) [] r l e one = absurd (cc)
more_told life (x ∷ rows) (y ∷ ls) r l e one = let first : row_told x ≡ lease_told life y = cc in let others : map row_told rows ≡ map (lease_told life) ls = cc in λ j. first j ∷ more_told life rows ls r l others one j

pub more_below : {T : Type 0} (n : ℕ) (rows : List (Row T)) (r : Row T) → all_below n (row_slots rows) ≡ true → r.slot < n → all_below n (row_slots (rows ++ r ∷ [])) ≡ true
more_below n [] r e low = λ j. lt-ltb r.slot n low j && true
more_below n (x ∷ rows) r e low = let f = both (nat_lt x.slot n) (all_below n (row_slots rows)) e in λ j. f.0 j && more_below n rows r f.1 low j

pub as_many : {T : Type 0} (life : ℕ) (rows : List (Row T)) (ls : List Lease) → map row_told rows ≡ map (lease_told life) ls → length rows ≡ length ls
as_many life rows ls e = sym (length-map rows row_told) ∙ (ap length e ∙ length-map ls (lease_told life))
