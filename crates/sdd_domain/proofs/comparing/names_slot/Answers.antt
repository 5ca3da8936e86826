use Rattle.std.proofs.Common.{◌≡◌, ℕ, ◌+◌, ◌^◌, ◌<◌, Option, None, Some, IsTrue, IfSome, IfNone, eqb, eq-eqb, eqb-true, refl, sym, ◌∙◌, arith}
use Rattle.core.specs.Option.{option_eq}
use Rattle.domain_table.specs.Layout.{packed}
use Rattle.sdd_domain.specs.Comparing.{code_of}
use Rattle.sdd_domain.proofs.comparing.names_slot.Goals as goal

-- slots are the same where their codes are
same_code : (a b : Option ℕ) (k : ℕ) → k ≡ code_of a → (IsTrue (option_eq eqb a b) → k ≡ code_of b) × (k ≡ code_of b → IsTrue (option_eq eqb a b))
same_code None None k e = ((λ _. e), (λ _. refl))
same_code None (Some y) k e = ((λ t. absurd (cc)), (λ z. absurd (omega arith)))
same_code (Some x) None k e = ((λ t. absurd (cc)), (λ z. absurd (omega arith)))
same_code (Some x) (Some y) k e = ((λ t. let same = eqb-true x y t in omega arith), (λ z. eq-eqb x y (omega arith)))

-- a word's code is that of the slot that it names
coded : (word : ℕ) (a : Option ℕ) → IfSome a (λ k. (k < 2 ^ 31) × ((y t c : ℕ) → y < 2 ^ 31 → t < 4 → word ≡ packed y t c → c ≡ k + 1)) → IfNone a ((y t c : ℕ) → y < 2 ^ 31 → t < 4 → word ≡ packed y t c → c ≡ 0)
    → (y t c : ℕ) → y < 2 ^ 31 → t < 4 → word ≡ packed y t c → c ≡ code_of a
coded word None some none y t c low few is = none y t c low few is
coded word (Some k) some none y t c low few is = some.1 y t c low few is

pub returns : goal.returns
returns c = λ y t k low few is. let r = c.slot_named.ensures in let both = same_code c.slot_named.result c.args.slot k (coded c.args.word c.slot_named.result r.some r.none y t k low few is) in
    ((λ e. both.0 (sym c.eq.ensures ∙ e)), (λ z. c.eq.ensures ∙ both.1 z))
