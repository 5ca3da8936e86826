use Rattle.std.proofs.Common.{◌≡◌, ◌≢◌, ◌≤◌, ◌<◌, ◌+◌, ◌*◌, ◌-◌, ◌/◌, ◌^◌, ◌==◌, ◌⊎◌, inl, inr, ℕ, suc, Bool, true, false, length, slice_get, Some, refl, sym, ap, ◌∙◌, subst, arith}
use Rattle.std.proofs.lemmas.Bool.{false≢true}
use Rattle.std.proofs.lemmas.Bool.Decides.{leb_tells}
use Rattle.std.proofs.lemmas.Option.{get_or_from_slice_get, slice_get-get_or}
use Rattle.std.proofs.Math.Dec.{leb}
use Rattle.std.specs.declared.cmp.Ordering.{Ordering}
use Rattle.std.specs.declared.cmp.Ordering.TheVariants.{Less, Equal, Greater}
use Rattle.std.specs.Ordering.{ordering_index}
use Rattle.version_views.proofs.HalvingLemmas.{halved}
use Rattle.version_views.proofs.search.place_of_counted.Goals as goal

less_told : (o : Ordering) → true ≡ (ordering_index o == 0) → o ≡ Less
less_told Less h = refl
less_told Equal h = cc
less_told Greater h = cc

-- so many are passed and one more, or none is
abbrev Passes : Bool → ℕ → ℕ → Type 0
Passes b past half = ((b ≡ true) × (past ≡ half + 1)) ⊎ ((b ≡ false) × (past ≡ 0))

passes : (b : Bool) (past half : ℕ) → (b ≡ true → past ≡ half + 1) → (b ≡ false → past ≡ 0) → Passes b past half
passes true past half some none = inl (refl, some refl)
passes false past half some none = inr (refl, none refl)

at_most : (b : Bool) (past half : ℕ) → Passes b past half → past ≤ half + 1
at_most b past half (inl h) = omega (arith, h.1)
at_most b past half (inr h) = omega (arith, h.1)

-- what holds of the one before the rest
before_rest : (P : ℕ → Type 0) (b : Bool) (past half low i : ℕ) → Passes b past half → (i + 1 ≡ low → P i) → (b ≡ true → i ≡ low + half → P i) → i + 1 ≡ low + past → P i
before_rest P b past half low i (inl h) old new e = new h.0 (omega (arith, h.1, e))
before_rest P b past half low i (inr h) old new e = old (omega (arith, h.1, e))

-- what holds of the one behind the rest, or of its last one
abbrev Ends : (ℕ → Type 0) → ℕ → ℕ → Type 0
Ends P low left = (top : ℕ) × (low ≤ top) × (top ≤ low + left) × (low + left ≤ top + 1) × P top

behind_rest : (P : ℕ → Type 0) (b : Bool) (past low left : ℕ) → Passes b past ((left - 1) / 2) → 0 < left → Ends P low left → (b ≡ true → P (low + (left - 1) / 2) → ⊥) → (b ≡ false → P (low + (left - 1) / 2)) → Ends P (low + past) (left / 2)
behind_rest P b past low left (inl h) some old clash new = split (leb_tells (low + (left - 1) / 2 + 1) old.0)
  where
    split : ((leb (low + (left - 1) / 2 + 1) old.0 ≡ true) × (low + (left - 1) / 2 + 1 ≤ old.0)) ⊎ ((leb (low + (left - 1) / 2 + 1) old.0 ≡ false) × (old.0 < low + (left - 1) / 2 + 1)) → Ends P (low + past) (left / 2)
    split (inl l) = (old.0, omega (arith, h.1, l.1), omega (arith, h.1, old.2, some), omega (arith, h.1, old.3, some), old.4)
    split (inr l) = let same : old.0 ≡ low + (left - 1) / 2 = omega (arith, old.3, some, l.1) in absurd (clash h.0 (subst P same old.4))
behind_rest P b past low left (inr h) some old clash new = (low + (left - 1) / 2, omega (arith, h.1), omega (arith, h.1, some), omega (arith, h.1, some), new h.0)

pub loop-left-preserved : goal.loop-left-preserved
loop-left-preserved g c =
    let i = c.loop-left.invariant in
    let n : ℕ = length c.args.separators.now in
    let low : ℕ = c.loop-left.low in
    let left : ℕ = c.loop-left.left in
    let half : ℕ = (left - 1) / 2 in
    let past : ℕ = c.count_past-low.result in
    let is_less : Bool = c.eq-is_less.result in
    let some : 0 < left = omega (arith, c.loop-left-test.true) in
    let told : Passes is_less past half = passes is_less past half c.count_past-low.ensures.past c.count_past-low.ensures.none in
    let most = at_most is_less past half told in
    let since : ℕ = c.loop-left.steps.count - c.args.steps.now.count in
    let one : c.compare.new.self.count - c.args.steps.now.count ≡ suc since = omega (arith, c.compare.ensures.one, i.raised) in
    let cost = halved left (left / 2) since n some (omega arith) i.left in
    let less : is_less ≡ true → c.compare.result ≡ Less = λ e. less_told c.compare.result (sym e ∙ c.eq-is_less.ensures) in
    record {
      within = omega (arith, most, some, i.within);
      raised = omega (arith, c.compare.ensures.one, i.raised);
      left = subst (λ (k : ℕ). 2 ^ k * (left / 2) ≤ n) (sym one) cost.0;
      cost = subst (λ (k : ℕ). 2 ^ k ≤ 2 * n + 1) (sym one) cost.1;
      before = λ j k e h. before_rest (λ (j : ℕ). slice_get c.args.separators.now j ≡ Some k → g.K.Ord.cmp k c.args.key.now ≡ Less) is_less past half low j told (λ e. i.before j k e)
          (λ l at h.
          let there = subst (λ (j : ℕ). slice_get c.args.separators.now j ≡ Some k) at h in
          let same = c.index-separators-low.is ∙ get_or_from_slice_get c.args.separators.now _ k _ there in
          ap (λ s. g.K.Ord.cmp s c.args.key.now) (sym same) ∙ sym c.compare.ensures.order ∙ less l)
          e h;
      behind = behind_rest (λ (j : ℕ). (k : g.row.K.Denot) → slice_get c.args.separators.now j ≡ Some k → g.K.Ord.cmp k c.args.key.now ≢ Less) is_less past low left told some i.behind
          (λ l there. there c.index-separators-low.result (slice_get-get_or c.args.separators.now _ _ (omega (arith, some, i.within)) ∙ ap Some (sym c.index-separators-low.is)) (sym c.compare.ensures.order ∙ less l))
          (λ l k h e.
          let same = c.index-separators-low.is ∙ get_or_from_slice_get c.args.separators.now _ k _ h in
          let less = c.compare.ensures.order ∙ ap (λ s. g.K.Ord.cmp s c.args.key.now) same ∙ e in
          false≢true (sym l ∙ c.eq-is_less.ensures ∙ ap (λ o. ordering_index o == 0) less));
    }
