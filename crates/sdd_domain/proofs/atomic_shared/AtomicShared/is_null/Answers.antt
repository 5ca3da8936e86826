use Rattle.std.proofs.Common.{◌≡◌, ◌<◌, ◌+◌, ℕ, Bool, true, false, not, IsTrue, Option, None, Some, IfSome, IfNone, is_some, refl, arith}
use Rattle.domain_table.specs.Layout.{packed}
use Rattle.sdd_domain.proofs.atomic_shared.AtomicShared.is_null.Goals as goal

-- a word names nothing if and only if its code is 0
null_where : (w y t k : ℕ) (o : Option ℕ) (r : Bool) → y < 2147483648 → t < 4 → w ≡ packed y t k → IfSome o (λ s. (s < 2147483648) × ((y t c : ℕ) → y < 2147483648 → t < 4 → w ≡ packed y t c → c ≡ s + 1))
    → IfNone o ((y t c : ℕ) → y < 2147483648 → t < 4 → w ≡ packed y t c → c ≡ 0) → is_some o ≡ not r → (IsTrue r → k ≡ 0) × (k ≡ 0 → IsTrue r)
null_where w y t k None true low few is _ none _ = (λ _. none y t k low few is, λ _. refl)
null_where w y t k None false low few is _ none e = absurd (cc)
null_where w y t k (Some s) true low few is some _ e = absurd (cc)
null_where w y t k (Some s) false low few is some _ _ = let named : k ≡ s + 1 = some.1 y t k low few is in (λ yes. absurd (cc), λ zero. absurd (omega arith))

pub returns-clause-looked : goal.returns-clause-looked
returns-clause-looked g c = let n = c.read.ensures.named in let f = n.2 in
    (n.0, n.1, (c.read.result, f, c.read.ensures.looked), null_where c.read.result f.0 n.0 n.1 c.slot_named.result c.is_none.result f.1 f.2 f.3 c.slot_named.ensures.some c.slot_named.ensures.none c.is_none.ensures)
