-- steps on cells before and behind the one that takes an item out
use Rattle.std.proofs.Common.{◌≡◌, ◌≢◌, ℕ, Option, None, Some, IfSome, true, false, eqb, eq-eqb, inr, refl, sym, ap, ◌∙◌, arith}
use Rattle.std.specs.Option.{option_eq}
use Rattle.std.proofs.lemmas.Bool.{false≢true}
use Rattle.sdd_domain.specs.CellSteps.{packed, HasMadeSome, HasExchanged, step_on}
use Rattle.sdd_domain.specs.Comparing.{owner_code, owner_slot}
use Rattle.sdd_domain.specs.Tokens.{home_of}
use Rattle.sdd_domain.specs.declared.local.Local.{Local}
use Rattle.sdd_domain.specs.declared.shared.Shared.{Shared}
pub use Rattle.shared_lists.proofs.Made.{none_made, quiet_some, read_some, kept_some, some_then, one_behind, one_before, one_made, one_since}
use Rattle.shared_containers.specs.Taken.{HasTakenOut, HasMarked, HasPopped, HasPoppedOf, IsCellAt}
use Rattle.shared_containers.specs.declared.bag.Bag.{Bag}
use Rattle.shared_lists.specs.declared.links.Links.{Links}
use Rattle.shared_containers.specs.declared.stack.Stack.{Stack}

same_option : (o : Option ℕ) → option_eq eqb o o ≡ true
same_option None = refl
same_option (Some k) = eq-eqb k k refl

-- two slots that aren't found equal
pub differ : (o p : Option ℕ) → false ≡ option_eq eqb o p → o ≢ p
differ o p not_equal e = false≢true (not_equal ∙ (ap (λ z. option_eq eqb z p) e ∙ same_option p))

module _ {T : Type 0} where
  module _ (a b c : Local T) (home : home_of b ≡ home_of a) (some_ : HasMadeSome a b) where
    pub taken_behind : (cell : ℕ) (s : Shared T) → HasTakenOut b cell s c → HasTakenOut a cell s c
    taken_behind cell s q = (q.0, q.1, q.2, q.3, q.4, q.5, q.6, q.7, one_behind a b c (step_on a cell q.0 q.1) some_ (one_since a b c cell q.0 q.1 home q.8))

    pub marked_behind : (cell : ℕ) → HasMarked b cell c → HasMarked a cell c
    marked_behind cell q = (q.0, q.1, q.2, q.3, q.4, one_behind a b c (step_on a cell q.0 q.1) some_ (one_since a b c cell q.0 q.1 home q.5))

    pub popped_behind : (stack : Stack T) (links : Links T) (s : Shared T) → HasPopped b stack links s c → HasPopped a stack links s c
    popped_behind stack links s q = (λ plain. taken_behind stack.first.cell s (q.0 plain), λ front. let m = q.1 front in (m.0, m.1, marked_behind m.0 m.2))

  module _ (a b c : Local T) (some_ : HasMadeSome b c) where
    pub taken_before : (cell : ℕ) (s : Shared T) → HasTakenOut a cell s b → HasTakenOut a cell s c
    taken_before cell s q = (q.0, q.1, q.2, q.3, q.4, q.5, q.6, q.7, one_before a b c (step_on a cell q.0 q.1) q.8 some_)

  -- an exchange of an item for another one, or none
  pub exchange_takes : (a b : Local T) (cell t k u h : ℕ) (s : Shared T) → k ≡ owner_code (Some s) → h ≢ owner_code (Some s) → HasExchanged a cell t k u h b → HasTakenOut a cell s b
  exchange_takes a b cell t k u h s is other q = let v = q.2 in (q.0, v.0, t, u, h, (let n = q.1 in (n.0, n.1, n.2, n.3 ∙ ap (λ z. packed n.0 t z) is)), v.1, other, one_made a b (step_on a cell q.0 v.0) v.2)

  -- the owner that is put in isn't one of the item that is taken out
  others_code : (owner : Option (Shared T)) (s : Shared T) (next found : Option ℕ) → IfSome owner (λ q. owner_slot (Some q) ≡ next) → next ≢ found → Some s.slot ≡ found → owner_code owner ≢ owner_code (Some s)
  others_code None s next found exact ne is = λ e. omega arith
  others_code (Some q) s next found exact ne is = λ e. let same : q.slot ≡ s.slot = omega arith in ne (sym exact ∙ (ap Some same ∙ is))

  -- an exchange for what follows, between other steps
  pub first_taken : (a b c d : Local T) (cell t u : ℕ) (o owner : Option (Shared T)) (next found : Option ℕ) → home_of b ≡ home_of a → HasMadeSome a b → HasExchanged b cell t (owner_code o) u (owner_code owner) c → HasMadeSome c d
      → IfSome owner (λ q. owner_slot (Some q) ≡ next) → next ≢ found → owner_slot o ≡ found → IfSome o (λ s. HasTakenOut a cell s d)
  first_taken a b c d cell t u None owner next found home before q behind exact ne is = tt
  first_taken a b c d cell t u (Some s) owner next found home before q behind exact ne is =
      taken_before a c d behind cell s (taken_behind a b c home before cell s (exchange_takes b c cell t (owner_code (Some s)) u (owner_code owner) s refl (others_code owner s next found exact ne is) q))

  -- a swap with nothing, behind other steps
  pub swap_takes : (a b c : Local T) (cell t : ℕ) (o : Option (Shared T)) → home_of b ≡ home_of a → HasMadeSome a b → HasExchanged b cell t (owner_code o) 0 0 c → IfSome o (λ s. HasTakenOut a cell s c)
  swap_takes a b c cell t None home before q = tt
  swap_takes a b c cell t (Some s) home before q = taken_behind a b c home before cell s (exchange_takes b c cell t (owner_code (Some s)) 0 0 s refl (λ e. omega arith) q)

  -- what comes out of the primary comes out of the bag
  pub bag_taken : {n : ℕ} (bag : Bag T n) (a b c : Local T) (o : Option (Shared T)) → home_of b ≡ home_of a → HasMadeSome a b → IfSome o (λ s. (i : ℕ) × (cell : ℕ) × IsCellAt bag.primary i cell × HasTakenOut b cell s c) → IfSome o (λ s. HasPoppedOf a bag s c)
  bag_taken bag a b c None home before q = tt
  bag_taken bag a b c (Some s) home before q = (q.1, inr (q.0, q.2), taken_behind a b c home before q.1 s q.3)
