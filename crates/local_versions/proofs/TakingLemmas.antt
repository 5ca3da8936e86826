-- Parts of a version are placed, one after the other.
use Rattle.std.proofs.Common.{◌≡◌, ◌≢◌, ◌⊎◌, inl, inr, ℕ, ◌+◌, ◌≤◌, Option, None, Some, List, [], ◌∷◌, ◌++◌, get_or, map, append_assoc, append-nil, refl, sym, ap, ◌∙◌, arith, subst, get_or-set_other}
use Rattle.std.proofs.lemmas.List.{map-append}
use Rattle.std.proofs.lemmas.List.Elements.{All-head, All-tail}
use Rattle.std.proofs.lemmas.List.Sums.{sum_by-append}
use Rattle.std.specs.Cmp.{IsTotalOrder}
use Rattle.std.specs.declared.cmp.Ordering.{Ordering}
use Rattle.std.specs.List.{All}
use Rattle.sdd_world.specs.Frame.{has_owner}
use Rattle.sdd_world.specs.Place.{AddsOwners}
use Rattle.sdd_world.specs.State.{IsFree, State, status_at, value_at}
use Rattle.sdd_world.specs.Steps.{hit, times}
use Rattle.sdd_world.specs.declared.status.Status.TheVariants as status
use Rattle.sdd_world.proofs.FrameLemmas.{keeps_added}
use Rattle.sdd_world.proofs.KeepingLemmas.{adds_others}
use Rattle.sdd_world.proofs.ListLemmas.{named_times}
use Rattle.leaf_array.specs.Pairs.{IsAscending}
use Rattle.version_views.specs.Cuts.{pairs_in}
use Rattle.version_drafts.specs.Cutting.{IsSegmentSized}
use Rattle.version_views.specs.Versions.{IsSegment, segment_pairs}
use Rattle.version_views.specs.declared.item.Item.{Item}
use Rattle.version_drafts.specs.Parts.{between, blocks_of_parts, makes, part_blocks}
use Rattle.version_drafts.specs.declared.segments.Part.{Part}
use Rattle.version_drafts.specs.declared.segments.Part.TheVariants as parts
use Rattle.version_drafts.proofs.StretchLemmas.{between_map}
use Rattle.local_versions.specs.Placing.{HasPlaced, IsTakeable, StandsIn, part_slots, taken_slots}
use Rattle.local_versions.proofs.OnceLemmas.{once_by, slots_by}
use Rattle.local_versions.proofs.PlacingLemmas.{stands_more, stands_taken}
use Rattle.local_versions.proofs.RowSlotLemmas.{all_named}

pub times_both : (i : ℕ) (xs ys : List ℕ) → times i (xs ++ ys) ≡ times i xs + times i ys
times_both i xs ys = sum_by-append (λ k. hit k i) xs ys

module _ {K V : Type 0} {s : ℕ} where
  module _ (u : State (Item K V s)) where
    abbrev pairs_there : ℕ → List (K × V)
    pairs_there i = segment_pairs (value_at u i)

    -- segments that were there stand with those before them
    stands_row : (n : ℕ) (ys xs : List ℕ) (bs : List (List (K × V))) (v w : State (Item K V s)) → All (IsTakeable u) ys → StandsIn n xs bs u v → AddsOwners ys v w → StandsIn n (xs ++ ys) (bs ++ map pairs_there ys) u w
    stands_row n [] xs bs v w all st h = subst (λ zs. StandsIn n zs (bs ++ []) u w) (sym (append-nil xs)) (subst (λ cs. StandsIn n xs cs u w) (sym (append-nil bs)) (subst (λ (y : State (Item K V s)). StandsIn n xs bs u y) (sym h) st))
    stands_row n (y ∷ ys) xs bs v w all st h =
        let here = All-head (IsTakeable u) y ys all in
        let value = st.adds.keeps.lives y (ap has_owner here.shared.is) in
        let long = st.adds.keeps.states in
        let inside = here.shared.inside in
        let one = stands_taken n u v h.0 xs bs y h.1.0 st (omega (arith, long, inside)) h.1.1 (subst (λ (o : Option (Item K V s)). IsSegment o) (sym value) here.segment) h.1.2 (keeps_added (y ∷ []) v h.0 (h.0, h.1, refl)) in
        let same = ap (λ (o : Option (Item K V s)). segment_pairs o) value in
        let one' = subst (λ (b : List (K × V)). StandsIn n (xs ++ y ∷ []) (bs ++ b ∷ []) u h.0) same one in
        let rest = stands_row n ys (xs ++ y ∷ []) (bs ++ pairs_there y ∷ []) h.0 w (All-tail (IsTakeable u) y ys all) one' h.2 in
        subst (λ zs. StandsIn n zs (bs ++ pairs_there y ∷ map pairs_there ys) u w) (append_assoc xs (y ∷ []) ys) (subst (λ cs. StandsIn n ((xs ++ y ∷ []) ++ ys) cs u w) (append_assoc bs (pairs_there y ∷ []) (map pairs_there ys)) rest)

    module _ (slots : List ℕ) where
      abbrev blocks : List (List (K × V))
      blocks = map pairs_there slots

      -- one part more is placed
      pub stands_part : (n : ℕ) (v w : State (Item K V s)) (xs ys : List ℕ) (bs : List (List (K × V))) → StandsIn n xs bs u v → (p : Part K V) → All (IsTakeable u) (part_slots slots p) → HasPlaced slots p ys v w → StandsIn (n + makes p) (xs ++ ys) (bs ++ part_blocks blocks p) u w
      stands_part n v w xs ys bs st (parts.Made t) there h = subst (λ zs. StandsIn (n + 1) (xs ++ zs) (bs ++ t.pairs ∷ []) u w) (sym h.1) (stands_more n u v w xs bs h.0 t st h.2 h.3 h.4 h.5)
      stands_part n v w xs ys bs st (parts.Taken from upto) there h =
          let none : n + 0 ≡ n = omega arith in
          let whole = stands_row n ys xs bs v w (subst (All (IsTakeable u)) (sym h.0) there) st h.1 in
          let same : map pairs_there ys ≡ between from upto blocks = ap (map pairs_there) h.0 ∙ between_map pairs_there from upto slots in
          subst (λ (m : ℕ). StandsIn m (xs ++ ys) (bs ++ between from upto blocks) u w) (sym none) (subst (λ cs. StandsIn n (xs ++ ys) (bs ++ cs) u w) same whole)

      module _ (n : ℕ) (v : State (Item K V s)) (xs : List ℕ) (bs : List (List (K × V))) (st : StandsIn n xs bs u v) (p : Part K V) (ps : List (Part K V)) (still : (i : ℕ) → 1 ≤ times i (taken_slots slots (p ∷ ps)) → status_at v i ≡ status_at u i) where
        taken_still : (i : ℕ) → status_at v i ≡ status_at u i → IsTakeable u i → IsTakeable v i
        taken_still i was there =
            let can = there.shared in
            let long = st.adds.keeps.states in
            let inside = can.inside in
            record {
              shared = record { inside = omega (arith, long, inside); owners = can.owners; is = was ∙ can.is; room = can.room };
              segment = subst (λ (o : Option (Item K V s)). IsSegment o) (sym (st.adds.keeps.lives i (ap has_owner can.is))) there.segment;
            }

        -- what can be taken over still can
        pub takeable_still : All (IsTakeable u) (part_slots slots p) → All (IsTakeable v) (part_slots slots p)
        takeable_still all k d h =
            let i = get_or (part_slots slots p) k d in
            let here = named_times (part_slots slots p) k d h in
            let both = times_both i (part_slots slots p) (taken_slots slots ps) in
            taken_still i (still i (omega (arith, here, both))) (all k d h)

        free_apart : (i j : ℕ) → IsFree v i → IsTakeable u j → status_at v j ≡ status_at u j → j ≢ i
        free_apart i j free there was e = no_free there.shared.owners (sym free.1 ∙ (ap (λ (k : ℕ). status_at v k) (sym e) ∙ (was ∙ there.shared.is)))
          where
            no_free : (m : ℕ) → status.Free ≡ status.Shared m → ⊥
            no_free m e = cc

        -- those that are yet to be taken over have their owners
        pub owners_still : (w : State (Item K V s)) (ys : List ℕ) → All (IsTakeable u) (taken_slots slots ps) → ((j : ℕ) → times j (taken_slots slots (p ∷ ps)) ≤ 1) → HasPlaced slots p ys v w → (j : ℕ) → 1 ≤ times j (taken_slots slots ps) → status_at w j ≡ status_at u j
        owners_still w ys all once h j some =
            let both = times_both j (part_slots slots p) (taken_slots slots ps) in
            let was = still j (omega (arith, both, some)) in
            placed_still p h (let one = once j in omega (arith, one, both, some)) was
          where
            placed_still : (q : Part K V) → HasPlaced slots q ys v w → times j (part_slots slots q) ≡ 0 → status_at v j ≡ status_at u j → status_at w j ≡ status_at u j
            placed_still (parts.Made t) h none was = ap (λ (x : State (Item K V s)). status_at x j) h.4 ∙ (get_or-set_other v.states h.0 j (status.Shared 1) status.Free (free_apart h.0 j h.3 (all_named (IsTakeable u) (taken_slots slots ps) j all some) was) ∙ was)
            placed_still (parts.Taken from upto) h none was = adds_others ys v w j h.1 (ap (times j) h.0 ∙ none) ∙ was

-- ---- no segment is taken over twice

module _ {K V : Type 0} where
  abbrev unit_slot : ℕ ⊎ List (K × V) → Option ℕ
  unit_slot (inl i) = Some i
  unit_slot (inr b) = None

  abbrev unit_pairs : (ℕ → List (K × V)) → ℕ ⊎ List (K × V) → List (K × V)
  unit_pairs at (inl i) = at i
  unit_pairs at (inr b) = b

  abbrev units : List ℕ → List (Part K V) → List (ℕ ⊎ List (K × V))
  units slots [] = []
  units slots (parts.Taken from upto ∷ ps) = map inl (between from upto slots) ++ units slots ps
  units slots (parts.Made t ∷ ps) = inr t.pairs ∷ units slots ps

  slots_taken : (slots : List ℕ) (ps : List (Part K V)) → slots_by unit_slot (units slots ps) ≡ taken_slots slots ps
  slots_taken slots [] = refl
  slots_taken slots (parts.Taken from upto ∷ ps) = row (between from upto slots) ∙ ap (λ is. between from upto slots ++ is) (slots_taken slots ps)
    where
      row : (xs : List ℕ) → slots_by unit_slot (map inl xs ++ units slots ps) ≡ xs ++ slots_by unit_slot (units slots ps)
      row [] = refl
      row (x ∷ xs) = ap (λ is. x ∷ is) (row xs)
  slots_taken slots (parts.Made t ∷ ps) = slots_taken slots ps

  blocks_taken : (at : ℕ → List (K × V)) (slots : List ℕ) (ps : List (Part K V)) → map (unit_pairs at) (units slots ps) ≡ blocks_of_parts (map at slots) ps
  blocks_taken at slots [] = refl
  blocks_taken at slots (parts.Taken from upto ∷ ps) =
      map-append (unit_pairs at) (map inl (between from upto slots)) (units slots ps)
      ∙ (ap (λ bs. bs ++ map (unit_pairs at) (units slots ps)) (row (between from upto slots) ∙ between_map at from upto slots)
      ∙ ap (λ bs. between from upto (map at slots) ++ bs) (blocks_taken at slots ps))
    where
      row : (xs : List ℕ) → map (unit_pairs at) (map inl xs) ≡ map at xs
      row [] = refl
      row (x ∷ xs) = ap (λ bs. at x ∷ bs) (row xs)
  blocks_taken at slots (parts.Made t ∷ ps) = ap (λ bs. t.pairs ∷ bs) (blocks_taken at slots ps)

  named_unit : (at : ℕ → List (K × V)) (x : ℕ ⊎ List (K × V)) (i : ℕ) → unit_slot x ≡ Some i → unit_pairs at x ≡ at i
  named_unit at (inl j) i e = let same : j ≡ i = cc in ap at same
  named_unit at (inr b) i e = absurd (cc)

  pub taken_once : (s : ℕ) (cmp : K → K → Ordering) (o : IsTotalOrder cmp) (at : ℕ → List (K × V)) (slots : List ℕ) (ps : List (Part K V)) → All (IsSegmentSized s) (blocks_of_parts (map at slots) ps) → IsAscending cmp (pairs_in (blocks_of_parts (map at slots) ps)) → (j : ℕ) → times j (taken_slots slots ps) ≤ 1
  taken_once s cmp o at slots ps sizes rising j =
      let same = sym (blocks_taken at slots ps) in
      subst (λ ys. times j ys ≤ 1) (slots_taken slots ps) (once_by cmp o s unit_slot (unit_pairs at) at (named_unit at) (units slots ps) (subst (All (IsSegmentSized s)) same sizes) (subst (λ bs. IsAscending cmp (pairs_in bs)) same rising) j)
