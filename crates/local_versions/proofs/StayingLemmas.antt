-- versions stay whole
use Rattle.std.proofs.Common.{◌≡◌, ℕ, zero, suc, ◌<◌, Option, List, [], ◌∷◌, ◌++◌, get_or, map, take, refl, sym, ap, ◌∙◌, arith, subst, length}
use Rattle.std.specs.declared.cmp.Ordering.{Ordering}
use Rattle.std.proofs.lemmas.List.{length-map}
use Rattle.std.proofs.lemmas.List.Elements.{All-cons, All-head, All-tail}
use Rattle.std.specs.List.{All, flat_map}
use Rattle.sdd_world.specs.Counting.{Counted}
use Rattle.sdd_world.specs.Frame.{IsLive, Frame, Protects, has_owner}
use Rattle.sdd_world.specs.Groups.{GroupState, name_of, row_at}
use Rattle.sdd_world.specs.Holding.{Hold}
use Rattle.sdd_world.specs.Place.{IsOpen, IsPlace, IsShared}
use Rattle.sdd_world.specs.State.{ParticipantState, State, nobody, value_at}
use Rattle.sdd_world.specs.declared.groups.Group.{Group}
use Rattle.sdd_world.proofs.FrameLemmas.{owned_protected}
use Rattle.version_views.specs.Cuts.{IsCut, pairs_in, separators_of, IsSeparated}
use Rattle.version_views.specs.Items.{held_by, names_of, row_keys, row_owners, slots_in, slots_of}
use Rattle.version_views.specs.Rows.{IsRow, IsRowed, end_of}
use Rattle.version_views.specs.Versions.{IsSegment, IsVersion, blocks_in, blocks_of, segment_pairs}
use Rattle.version_views.specs.declared.directory.Directory.{Directory}
use Rattle.version_views.specs.declared.item.Item.{Item}
use Rattle.version_views.specs.declared.row.Row.{Row}
use Rattle.local_versions.specs.Placing.{HasVersion}
use Rattle.local_versions.specs.Staying.{IsSeen, Leaves, VersionsStay}
use Rattle.local_versions.proofs.RowSlotLemmas.{all_front, all_rear, named_slots, owns_slots, rows_same, same_slots}

-- lists of what functions give that agree on what is there
pub map_same : {X Y : Type 0} (f g : X → Y) (xs : List X) → All (λ x. f x ≡ g x) xs → map f xs ≡ map g xs
map_same f g [] same = refl
map_same f g (x ∷ xs) same = ap (λ y. y ∷ map f xs) (All-head (λ z. f z ≡ g z) x xs same) ∙ ap (λ ys. g x ∷ ys) (map_same f g xs (All-tail (λ z. f z ≡ g z) x xs same))

-- rows of two directories that have the same blocks and the same keys
module _ {K V R Q : Type 0} (f : R → List (List (K × V))) (g : Q → List (List (K × V))) where
  abbrev blocks_by : {X : Type 0} → (X → List (List (K × V))) → List (Row K X) → List (List (List (K × V)))
  blocks_by h rows = map (λ r. h r.segments) rows

  rows_across : (xs : List (Row K R)) (ys : List (Row K Q)) → blocks_by f xs ≡ blocks_by g ys → map row_keys xs ≡ map row_keys ys → All (λ r. IsRow (f r.segments) (row_keys r)) xs → All (λ r. IsRow (g r.segments) (row_keys r)) ys
  rows_across [] [] e k all = λ i d h. absurd (omega (arith, h))
  rows_across [] (y ∷ ys) e k all = absurd (cc)
  rows_across (x ∷ xs) [] e k all = absurd (cc)
  rows_across (x ∷ xs) (y ∷ ys) e k all =
      let here : IsRow (g y.segments) (row_keys y) = subst (λ b. IsRow b (row_keys y)) (heads (f x.segments) (g y.segments) _ _ e) (subst (λ ks. IsRow (f x.segments) ks) (heads (row_keys x) (row_keys y) _ _ k) (All-head (λ r. IsRow (f r.segments) (row_keys r)) x xs all)) in
      All-cons (λ r. IsRow (g r.segments) (row_keys r)) y ys here (rows_across xs ys (tails (f x.segments) (g y.segments) _ _ e) (tails (row_keys x) (row_keys y) _ _ k) (All-tail (λ r. IsRow (f r.segments) (row_keys r)) x xs all))
    where
      heads : {X : Type 0} (a b : X) (u v : List X) → a ∷ u ≡ b ∷ v → a ≡ b
      heads a b u v e = cc

      tails : {X : Type 0} (a b : X) (u v : List X) → a ∷ u ≡ b ∷ v → u ≡ v
      tails a b u v e = cc

  lists_across : (xs : List (Row K R)) (ys : List (Row K Q)) → blocks_by f xs ≡ blocks_by g ys → map (λ r. pairs_in (f r.segments)) xs ≡ map (λ r. pairs_in (g r.segments)) ys
  lists_across xs ys e = sym (joined f xs) ∙ ap (map pairs_in) e ∙ joined g ys
    where
      joined : {X : Type 0} (h : X → List (List (K × V))) (rows : List (Row K X)) → map pairs_in (blocks_by h rows) ≡ map (λ r. pairs_in (h r.segments)) rows
      joined h [] = refl
      joined h (x ∷ rows) = ap (λ bs. pairs_in (h x.segments) ∷ bs) (joined h rows)

  flat_across : (n : ℕ) (xs : List (Row K R)) (ys : List (Row K Q)) → blocks_by f xs ≡ blocks_by g ys → flat_map (row_owners g) (take n ys) ≡ flat_map (row_owners f) (take n xs)
  flat_across zero xs ys e = refl
  flat_across (suc n) [] [] e = refl
  flat_across (suc n) [] (y ∷ ys) e = absurd (cc)
  flat_across (suc n) (x ∷ xs) [] e = absurd (cc)
  flat_across (suc n) (x ∷ xs) (y ∷ ys) e = ap (λ bs. bs ++ flat_map (row_owners g) (take n ys)) (sym (first (f x.segments) (g y.segments) _ _ e)) ∙ ap (λ bs. f x.segments ++ bs) (flat_across n xs ys (rest (f x.segments) (g y.segments) _ _ e))
    where
      first : {X : Type 0} (a b : X) (u v : List X) → a ∷ u ≡ b ∷ v → a ≡ b
      first a b u v e = cc

      rest : {X : Type 0} (a b : X) (u v : List X) → a ∷ u ≡ b ∷ v → u ≡ v
      rest a b u v e = cc

  pub rowed_across : (d : Directory K R) (e : Directory K Q) → blocks_by f d.rows.items ≡ blocks_by g e.rows.items → map row_keys d.rows.items ≡ map row_keys e.rows.items → e.separators.items ≡ d.separators.items → e.ends.items ≡ d.ends.items → IsRowed f d → IsRowed g e
  rowed_across d e blocks keys separators ends rowed =
      let long : length d.rows.items ≡ length e.rows.items = (let a = length-map d.rows.items (λ r. f r.segments) in let b = length-map e.rows.items (λ r. g r.segments) in let c = ap length blocks in omega (arith, a, b, c)) in
      record {
        rows = rows_across d.rows.items e.rows.items blocks keys rowed.rows;
        separated = subst (λ bs. IsSeparated bs e.separators.items) (lists_across d.rows.items e.rows.items blocks) (subst (λ ks. IsSeparated (map (λ r. pairs_in (f r.segments)) d.rows.items) ks) (sym separators) rowed.separated);
        ends = record {
          count = ap length ends ∙ rowed.ends.count ∙ long;
          each = λ i h. ap (λ xs. end_of xs i) ends ∙ rowed.ends.each i (omega (arith, h, long)) ∙ ap length (sym (flat_across (suc i) d.rows.items e.rows.items blocks));
        };
      }

module _ {K V : Type 0} {s : ℕ} (gs hs : List GroupState) (at bt : ℕ → Option (Item K V s)) where
  -- rows that have what they had, of slots that have what they had
  blocks_same : (rows : List (Row K Group)) → All (λ g. row_at hs g ≡ row_at gs g) (names_of rows) → All (λ j. bt j ≡ at j) (named_slots gs rows) → All (λ r. blocks_in hs bt r.segments ≡ blocks_in gs at r.segments) rows
  blocks_same [] same there = λ k e h. absurd (omega (arith, h))
  blocks_same (r ∷ rows) same there =
      let name = name_of r.segments in
      let here : blocks_in hs bt r.segments ≡ blocks_in gs at r.segments =
      ap (map (λ i. segment_pairs (bt i))) (All-head (λ g. row_at hs g ≡ row_at gs g) name (names_of rows) same)
      ∙ map_same (λ i. segment_pairs (bt i)) (λ i. segment_pairs (at i)) (row_at gs name) (λ k e h. ap segment_pairs (all_front (λ j. bt j ≡ at j) (slots_in gs r.segments) (named_slots gs rows) there k e h)) in
      All-cons (λ x. blocks_in hs bt x.segments ≡ blocks_in gs at x.segments) r rows here (blocks_same rows (All-tail (λ g. row_at hs g ≡ row_at gs g) name (names_of rows) same) (all_rear (λ j. bt j ≡ at j) (slots_in gs r.segments) (named_slots gs rows) there))

module _ {K V : Type 0} {s : ℕ} (cmp : K → K → Ordering) where
  -- where the rows and the slots of a version have what they had, it is one still, of the same blocks
  module _ (gs hs : List GroupState) (at bt : ℕ → Option (Item K V s)) (d : Directory K Group) (rows : All (λ g. row_at hs g ≡ row_at gs g) (names_of d.rows.items)) (there : All (λ j. bt j ≡ at j) (slots_of gs d)) where
    pub blocks_stay : blocks_of hs bt d ≡ blocks_of gs at d
    blocks_stay =
        ap (map (λ j. segment_pairs (bt j))) (same_slots gs hs d.rows.items rows)
        ∙ map_same (λ j. segment_pairs (bt j)) (λ j. segment_pairs (at j)) (slots_of gs d) (λ k e h. ap (λ (o : Option (Item K V s)). segment_pairs o) (there k e h))

    pub whole_stays : IsVersion cmp gs at d → IsVersion cmp hs bt d
    whole_stays whole = record {
      segments = subst (λ js. All (λ j. IsSegment (bt j)) js) (sym (same_slots gs hs d.rows.items rows)) (λ k e h. subst (λ (o : Option (Item K V s)). IsSegment o) (sym (there k e h)) (whole.segments k e h));
      cut = subst (λ (bs : List (List (K × V))). IsCut cmp s bs (separators_of bs)) (sym blocks_stay) whole.cut;
      rowed = rowed_across (blocks_in gs at) (blocks_in hs bt) d d (sym (map_same (λ r. blocks_in hs bt r.segments) (λ r. blocks_in gs at r.segments) d.rows.items (blocks_same gs hs at bt d.rows.items rows there))) refl refl refl whole.rowed;
      counted = whole.counted ∙ ap (λ (bs : List (List (K × V))). length (pairs_in bs)) (sym blocks_stay);
    }

  same_version : (w w' : State (Item K V s)) (i number : ℕ) (pairs : List (K × V)) (v : HasVersion cmp w i number pairs) → value_at w' i ≡ value_at w i → All (λ g. row_at w'.groups g ≡ row_at w.groups g) (names_of v.directory.rows.items) → All (λ j. value_at w' j ≡ value_at w j) (slots_of w.groups v.directory) → HasVersion cmp w' i number pairs
  same_version w w' i number pairs v here rows there = record {
    directory = v.directory;
    is = here ∙ v.is;
    whole = whole_stays w.groups w'.groups (value_at w) (value_at w') v.directory rows there v.whole;
    numbered = v.numbered;
    list = ap pairs_in (blocks_stay w.groups w'.groups (value_at w) (value_at w') v.directory rows there) ∙ v.list;
  }

  pub live_shared : (w : State (Item K V s)) (j : ℕ) → IsShared w j → IsLive w j
  live_shared w j sh = ap has_owner sh.is

  owned_stays : (w w' : State (Item K V s)) (i number : ℕ) (pairs : List (K × V)) → IsLive w i → HasVersion cmp w i number pairs → Leaves w w' → HasVersion cmp w' i number pairs
  owned_stays w w' i number pairs live v leaves =
      let d = v.directory in
      let here = leaves.keeps.lives i live in
      let owns = owns_slots leaves.before w leaves.counted i d v.is in
      let rows = rows_same leaves.before w leaves.counted i d v.is leaves.after w' leaves.still (here ∙ v.is) leaves.rows in
      same_version w w' i number pairs v here rows (λ k e h. leaves.keeps.lives (get_or (slots_of w.groups d) k e) (live_shared w (get_or (slots_of w.groups d) k e) (owns k e h)))

  seen_owned : (hand : List Hold) (w : State (Item K V s)) (q i number : ℕ) (pairs : List (K × V)) → Counted held_by hand w → IsPlace w → IsLive w i → (v : HasVersion cmp w i number pairs) → IsSeen w q i v.directory
  seen_owned hand w q i number pairs counted place live v =
      let owns = owns_slots hand w counted i v.directory v.is in
      record {
        item = owned_protected w q i place live;
        segments = λ k e h. owned_protected w q (get_or (slots_of w.groups v.directory) k e) place (live_shared w (get_or (slots_of w.groups v.directory) k e) (owns k e h));
      }

  seen_stays : (w w' : State (Item K V s)) (q i number : ℕ) (pairs : List (K × V)) → IsOpen w q → IsOpen w' q → (v : HasVersion cmp w i number pairs) → IsSeen w q i v.directory → Leaves w w' → (v' : HasVersion cmp w' i number pairs) × IsSeen w' q i v'.directory
  unfolding same_version
  seen_stays w w' q i number pairs opens opens' v seen leaves =
      let d = v.directory in
      let keeps = leaves.keeps in
      let here = keeps.protects q i opens opens' seen.item in
      let rows = rows_same leaves.before w leaves.counted i d v.is leaves.after w' leaves.still (here.0 ∙ v.is) leaves.rows in
      let slots : slots_of w'.groups d ≡ slots_of w.groups d = same_slots w.groups w'.groups d.rows.items rows in
      let there : (k e : ℕ) → k < length (slots_of w.groups d) → (value_at w' (get_or (slots_of w.groups d) k e) ≡ value_at w (get_or (slots_of w.groups d) k e)) × Protects w' q (get_or (slots_of w.groups d) k e) = λ k e h. keeps.protects q (get_or (slots_of w.groups d) k e) opens opens' (seen.segments k e h) in (
        same_version w w' i number pairs v here.0 rows (λ k e h. (there k e h).0),
        record { item = here.1; segments = subst (λ js. All (λ j. Protects w' q j) js) (sym slots) (λ k e h. (there k e h).1) },
      )

  pub versions_stay : VersionsStay K V s cmp
  versions_stay = record { owns = λ hand w i d counted is. owns_slots hand w counted i d is; owned = owned_stays; seen = seen_owned; stays = seen_stays }

-- one call after another
module _ {K V : Type 0} {s : ℕ} where
  pub keeps_then : (u v w : State (Item K V s)) → v.participants ≡ u.participants → ((i : ℕ) → IsLive u i → IsLive v i) → Frame u v → Frame v w → Frame u w
  keeps_then u v w same still_live a b = record {
    states = b.states ∙ a.states;
    cells = b.cells ∙ a.cells;
    participants = b.participants ∙ a.participants;
    lives = λ i l. b.lives i (still_live i l) ∙ a.lives i l;
    protects = λ q i o o' k.
        let open' : IsOpen v q = subst (λ (n : ℕ). 0 < n) (ap (λ (ms : List ParticipantState). (get_or ms q nobody).local.nesting) (sym same)) o in
        let first = a.protects q i o open' k in
        let second = b.protects q i open' o' first.1 in
        (second.0 ∙ first.0, second.1);
  }
