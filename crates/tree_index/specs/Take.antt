-- A cursor that is moved forward a limited number of times.
use Rattle.std.specs.Prelude.{◌≡◌, ◌<◌, ◌+◌, refl, ℕ, Option, None}
use Rattle.std.specs.Borrow.{Bor}
use Rattle.std.specs.Coded.{Coded, code_by, coded×, coded_ℕ}
use Rattle.std.specs.declared.cmp.Ordering.{Ordering}
use Rattle.tree_index.specs.Cursor.{Cursor, cursor_code, GoesForth}

-- the cursor, and how often it may still move
pub record Limited (K V : Type 0) : Type 0 where
  pub cursor : Cursor K V
  pub left : ℕ

abbrev pub limited_code : {K V : Type 0} → Coded K → Coded V → Coded (Limited K V)
limited_code {K} {V} k v = code_by (Cursor K V × ℕ) (coded× (cursor_code k v) coded_ℕ) (λ t. (t.cursor, t.left)) (λ p. record { cursor = p.0; left = p.1 }) (λ _. refl)

-- a step of the cursor, if one is left; else nothing
pub record TakesForth {K V : Type 0} (cmp : K → K → Ordering) (s : Limited K V) (r : Option (Bor K × Bor V)) (t : Limited K V) : Type 0 where
  pub none : s.left ≡ 0 → (r ≡ None) × (t ≡ s)
  pub moved : 0 < s.left → GoesForth cmp s.cursor r t.cursor
  pub counted : 0 < s.left → t.left + 1 ≡ s.left
