-- Places in which versions are placed one by one, where owners can't run out.
use Rattle.std.proofs.Common.{◌≡◌, ℕ, ◌+◌, ◌<◌, ◌≤◌, None, Some, List, [], ◌∷◌, ◌++◌, length, replicate, refl, sym, ap, ◌∙◌, arith, subst}
use Rattle.std.proofs.lemmas.List.{length-append, length-replicate}
use Rattle.std.proofs.lemmas.List.Sums.{sum_by-append, sum_by-cons}
use Rattle.std.specs.declared.cmp.Ordering.{Ordering}
use Rattle.sdd_world.specs.Counting.{Counted, OwnersAreCounted, same_hold, tally}
use Rattle.sdd_world.specs.Holding.{Hold, SharedItem, OwnerGroup}
use Rattle.sdd_world.specs.Place.{IsShared}
use Rattle.sdd_world.specs.Steps.{released}
use Rattle.sdd_world.specs.State.{State, fresh, with_cell}
use Rattle.sdd_world.specs.declared.sizes.Sizes.{Sizes}
use Rattle.sdd_world.specs.declared.status.Cell.{Cell}
use Rattle.sdd_world.specs.declared.status.Cell.TheVariants as cell
use Rattle.sdd_world.specs.declared.status.Status.TheVariants as status
use Rattle.sdd_world.proofs.CountLemmas.{owners_are_counted}
use Rattle.sdd_world.proofs.GroupLemmas.{grown_rows}
use Rattle.sdd_world.proofs.PlaceLemmas.{get_or-replicate_default}
use Rattle.version_views.specs.Items.{held_by}
use Rattle.local_versions.specs.Placing.{HasVersion, IsLevelled, IsSettled, Places}
use Rattle.local_versions.specs.Staying.{Leaves}
use Rattle.version_views.specs.declared.item.Item.{Item}

module _ {K V : Type 0} {s : ℕ} where
  -- these owners are in hand, and there are at most n slots and cells
  pub record Settled (hand : List Hold) (n : ℕ) (w : State (Item K V s)) : Type 0 where
    pub counted : Counted held_by hand w
    pub levelled : IsLevelled w
    pub few : length w.states + length w.cells ≤ n
    pub ungrouped : (g : ℕ) → tally (OwnerGroup g) hand ≡ 0

  pub settled_fresh : (n : Sizes) → Settled [] (n.slots + n.jobs + n.cells) (fresh n)
  settled_fresh n = record {
    counted = (owners_are_counted held_by).fresh n;
    levelled = record {
      flat = λ i d is. absurd (none_some (sym (get_or-replicate_default (n.slots + n.jobs) i None) ∙ is));
      rows = λ i d is. absurd (none_some (sym (get_or-replicate_default (n.slots + n.jobs) i None) ∙ is));
      once = λ i d is. absurd (none_some (sym (get_or-replicate_default (n.slots + n.jobs) i None) ∙ is));
    };
    few =
        let split = length-append (replicate n.slots status.Free) (replicate n.jobs status.Idle) in
        let slots = length-replicate n.slots status.Free in
        let jobs = length-replicate n.jobs status.Idle in
        let cells = length-replicate n.cells cell.Free in
        omega (arith, split, slots, jobs, cells);
    ungrouped = λ g. refl;
  }
    where
      none_some : {y : Item K V s} → None ≡ Some y → ⊥
      none_some e = cc

  pub settled_new : (n : Sizes) (w : State (Item K V s)) → w ≡ fresh n → Settled [] (n.slots + n.jobs + n.cells) w
  settled_new n w is = subst (λ (u : State (Item K V s)). Settled [] (n.slots + n.jobs + n.cells) u) (sym is) (settled_fresh n)

  -- a version is placed
  pub settled_placed : (cmp : K → K → Ordering) (hand : List Hold) (n count number : ℕ) (pairs : List (K × V)) (slot : ℕ) (w w' : State (Item K V s)) → Settled hand n w → Places cmp count number pairs slot w w' → Settled (SharedItem slot ∷ hand) n w'
  settled_placed cmp hand n count number pairs slot w w' settled made = record {
    counted = made.counted hand settled.counted;
    levelled = made.adds.levelled hand settled.counted settled.levelled;
    few =
        let slots = made.adds.keeps.states in
        let cells = ap length made.adds.cells in
        let few = settled.few in
        omega (arith, slots, cells, few);
    ungrouped = λ g.
        let sum = sum_by-cons (λ k. same_hold (OwnerGroup g) k) (SharedItem slot) hand in
        let other : same_hold (OwnerGroup g) (SharedItem slot) ≡ 0 = refl in
        let rest = settled.ungrouped g in
        omega (arith, sum, other, rest);
  }

  -- owners can't run out in it
  pub is_settled : (hand : List Hold) (n : ℕ) (w : State (Item K V s)) → Settled hand n w → 8 + length hand + n < 4294967295 → IsSettled w
  is_settled hand n w settled few = record {
    hand = hand;
    counted = settled.counted;
    ungrouped = settled.ungrouped;
    levelled = settled.levelled;
    few = (let long = settled.few in omega (arith, long, few));
  }

  -- where a version is placed, the others stay
  pub placed_leaves : (cmp : K → K → Ordering) (hand : List Hold) (n count number : ℕ) (pairs : List (K × V)) (slot : ℕ) (w w' : State (Item K V s)) → Settled hand n w → Places cmp count number pairs slot w w' → Leaves w w'
  placed_leaves cmp hand n count number pairs slot w w' settled made = record {
    before = hand;
    counted = settled.counted;
    after = SharedItem slot ∷ hand;
    still = made.counted hand settled.counted;
    keeps = made.adds.keeps;
    rows = grown_rows w.groups w'.groups made.adds.groups;
  }

  -- a version stays where a cell changes
  pub version_with_cell : (cmp : K → K → Ordering) (c : ℕ) (kept : Cell) (slot number : ℕ) (pairs : List (K × V)) (w w' : State (Item K V s)) → w' ≡ with_cell c kept w → HasVersion cmp w slot number pairs → HasVersion cmp w' slot number pairs
  version_with_cell cmp c kept slot number pairs w w' is v = subst (λ (u : State (Item K V s)). HasVersion cmp u slot number pairs) (sym is) (record { directory = v.directory; is = v.is; whole = v.whole; numbered = v.numbered; list = v.list })

  -- in which order owners are in hand doesn't matter
  pub counted_first : (hand : List Hold) (a : Hold) (rest : List Hold) (w : State (Item K V s)) → Counted held_by (hand ++ a ∷ rest) w → Counted held_by (a ∷ hand ++ rest) w
  counted_first hand a rest w counted = record {
    each = λ h.
        let f : Hold → ℕ = λ k. same_hold h k in
        let whole = sum_by-append f hand (a ∷ rest) in
        let more = sum_by-cons f a rest in
        let turned = sum_by-cons f a (hand ++ rest) in
        let split = sum_by-append f hand rest in
        let each = counted.each h in
        omega (arith, whole, more, turned, split, each);
  }

  -- an owner in hand is there
  pub in_hand : (slot : ℕ) (rest : List Hold) (w : State (Item K V s)) → Counted held_by (SharedItem slot ∷ rest) w → IsShared w slot
  in_hand slot rest w counted =
      let owners : OwnersAreCounted {T = Item K V s} held_by = owners_are_counted held_by in
      owners.shared slot rest w counted

  -- one is given back, and the others stay counted
  pub given_back : (p slot : ℕ) (rest : List Hold) (w w' : State (Item K V s)) → Counted held_by (SharedItem slot ∷ rest) w → w' ≡ released p slot w → Counted held_by rest w'
  given_back p slot rest w w' counted is =
      let owners : OwnersAreCounted {T = Item K V s} held_by = owners_are_counted held_by in
      subst (λ (u : State (Item K V s)). Counted held_by rest u) (sym is) (owners.given p (SharedItem slot) rest w counted)
