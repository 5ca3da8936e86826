-- A stretch of older segments is taken over.
use Rattle.std.proofs.Common.{◌≡◌, ◌⊎◌, inl, inr, ℕ, zero, suc, ◌+◌, ◌-◌, ◌≤◌, ◌<◌, List, [], ◌∷◌, ◌++◌, Some, length, take, drop, slice_get, append_assoc, append-nil, refl, sym, ap, ◌∙◌, subst, arith}
use Rattle.std.proofs.lemmas.Bool.Decides.{eqb_tells}
use Rattle.std.proofs.lemmas.List.Elements.{All-append, All-drop, All-tail, All-head, All-push, All-take}
use Rattle.std.specs.declared.cmp.Ordering.{Ordering}
use Rattle.std.specs.List.{All, AllZip}
use Rattle.leaf_array.specs.Pairs.{IsAscending}
use Rattle.leaf_array.specs.Values.{ClonesAreSame}
use Rattle.version_views.specs.Cuts.{IsCut, IsTight, pairs_in}
use Rattle.version_views.proofs.BlockListLemmas.{pairs_in-append}
use Rattle.version_views.proofs.SeparatorSearchLemmas.{get_some}
use Rattle.version_drafts.specs.Cutting.{IsCutting, IsHeld, IsSegmentRow, IsSegmentSized, StaysApart, given_pairs, last_size, one_open, trees}
use Rattle.version_drafts.specs.Parts.{LiesWithin, between, blocks_of_parts, made_in}
use Rattle.version_drafts.specs.declared.segments.Part.TheVariants as parts
use Rattle.version_drafts.specs.declared.segments.SegmentBuilder.{SegmentBuilder}
use Rattle.version_drafts.proofs.CuttingLemmas.{blocks_behind, last_behind, made_behind}
use Rattle.version_drafts.proofs.StretchLemmas.{between_at, between_more}

-- ---- clones are the values themselves

pub same_clones : {X : Type 0} (clones : X → X → Type 0) → ClonesAreSame clones → (xs ys : List X) → AllZip clones xs ys → ys ≡ xs
same_clones clones same [] [] z = refl
same_clones clones same [] (y ∷ ys) z = absurd z
same_clones clones same (x ∷ xs) [] z = absurd z
same_clones clones same (x ∷ xs) (y ∷ ys) z = ap (λ v. v ∷ ys) (same x y z.0) ∙ ap (λ vs. x ∷ vs) (same_clones clones same xs ys z.1)

-- ---- blocks in a row

module _ {K V : Type 0} (s : ℕ) where
  tight_take : (n : ℕ) (bs : List (List (K × V))) → IsTight s bs → IsTight s (take n bs)
  tight_take zero bs t = tt
  tight_take (suc n) [] t = tt
  tight_take (suc zero) (b ∷ bs) t = (tt, tt)
  tight_take (suc (suc n)) (b ∷ []) t = (tt, tt)
  tight_take (suc (suc n)) (b ∷ (c ∷ bs)) t = (t.0, tight_take (suc n) (c ∷ bs) t.1)

  tight_drop : (n : ℕ) (bs : List (List (K × V))) → IsTight s bs → IsTight s (drop n bs)
  tight_drop zero bs t = t
  tight_drop (suc n) [] t = tt
  tight_drop (suc n) (b ∷ bs) t = tight_drop n bs t.1

  -- blocks go behind blocks that don't fit into one with the first of them
  tight_both : (bs : List (List (K × V))) (b : List (K × V)) (more : List (List (K × V))) → All (IsSegmentSized s) bs → IsTight s bs → ((last_size bs ≡ 0) ⊎ (s < last_size bs + length b)) → IsTight s (b ∷ more) → IsTight s (bs ++ b ∷ more)
  tight_both [] b more sizes t h u = u
  tight_both (c ∷ []) b more sizes t h u = (
    elim h [
      | inl none ↦ let some = (All-head (IsSegmentSized s) c [] sizes).0 in absurd (omega (arith, none, some))
      | inr fits ↦ fits
    ],
    u,
  )
  tight_both (c ∷ (d ∷ bs)) b more sizes t h u = (t.0, tight_both (d ∷ bs) b more (All-tail (IsSegmentSized s) c (d ∷ bs) sizes) t.1 h u)

-- ---- the stretch

module _ {K V : Type 0} {cmp : K → K → Ordering} {s : ℕ} {blocks : List (List (K × V))} {c : SegmentBuilder K V} (h : IsCutting cmp s blocks c) (from upto : ℕ) (some : from < upto) (within : upto ≤ length blocks) (mid c' : SegmentBuilder K V) (t : c'.row.parts.items ≡ mid.row.parts.items ++ parts.Taken from upto ∷ []) (none : c'.tail.pairs ≡ []) where
  abbrev fronts : List (List (K × V))
  fronts = blocks_of_parts blocks mid.row.parts.items

  abbrev stretch : List (List (K × V))
  stretch = between from upto blocks

  blocks_more : blocks_of_parts blocks c'.row.parts.items ≡ fronts ++ stretch
  blocks_more = ap (blocks_of_parts blocks) t ∙ blocks_behind blocks mid.row.parts.items (parts.Taken from upto)

  pub given_stretch : pairs_in fronts ≡ given_pairs blocks c → given_pairs blocks c' ≡ given_pairs blocks c ++ pairs_in stretch
  given_stretch pairs = ap (λ ps. pairs_in (blocks_of_parts blocks c'.row.parts.items) ++ ps) none ∙ (append-nil (pairs_in (blocks_of_parts blocks c'.row.parts.items)) ∙ (ap pairs_in blocks_more ∙ (pairs_in-append fronts stretch ∙ ap (λ ps. ps ++ pairs_in stretch) pairs)))

  pub trees_stretch : made_in mid.row.parts.items ≡ trees c → trees c' ≡ trees c
  trees_stretch made =
      let is = ap made_in t ∙ made_behind mid.row.parts.items (parts.Taken from upto) in
      let closed = ap one_open none in
      omega (arith, made, is, closed)

  module _ (a : StaysApart cmp s blocks from c) (keys : List K) (cut : IsCut cmp s blocks keys) (row : IsSegmentRow blocks s mid.row) (pairs : pairs_in fronts ≡ given_pairs blocks c) where
    -- the segments before don't fit into one with the first of the stretch
    apart : (0 < length c.tail.pairs → length c.tail.pairs ≤ mid.row.last) → (length c.tail.pairs ≡ 0 → mid.row.last ≡ c.row.last) → (mid.row.last ≡ 0) ⊎ (s < mid.row.last + length a.block)
    apart last same = elim (eqb_tells (length c.tail.pairs) 0) [
      | inl z ↦ elim (eqb_tells c.row.last 0) [
        | inl y ↦ inl (same z.1 ∙ y.1)
        | inr y ↦ let some' = y.1 in let more = a.closed z.1 (omega (arith, some')) in let e = same z.1 in inr (omega (arith, more, e))
      ]
      | inr z ↦ let some' = z.1 in let more = a.opened (omega (arith, some')) in let e = last (omega (arith, some')) in inr (omega (arith, more, e))
    ]

    -- the last of the stretch
    abbrev final : (b : List (K × V)) × (slice_get blocks (upto - 1) ≡ Some b)
    final = get_some blocks (upto - 1) (omega (arith, some, within))

    ends : stretch ≡ between from (upto - 1) blocks ++ final.0 ∷ []
    ends = let next : upto ≡ upto - 1 + 1 = omega (arith, some) in ap (λ n. between from n blocks) next ∙ between_more from (upto - 1) blocks final.0 (omega (arith, some)) final.1

    last_of : last_size (blocks_of_parts blocks c'.row.parts.items) ≡ length final.0
    last_of = ap last_size blocks_more ∙ (ap (λ bs. last_size (fronts ++ bs)) ends ∙ (ap last_size (sym (append_assoc fronts (between from (upto - 1) blocks) (final.0 ∷ []))) ∙ last_behind (fronts ++ between from (upto - 1) blocks) final.0))

    begins : stretch ≡ a.block ∷ between (from + 1) upto blocks
    begins = between_at blocks from upto a.block some (sym a.there)

    row_stretch : (mid.row.last ≡ 0) ⊎ (s < mid.row.last + length a.block) → c'.row.last ≡ length final.0 → IsSegmentRow blocks s c'.row
    row_stretch apart' last =
        let behind : (last_size fronts ≡ 0) ⊎ (s < last_size fronts + length a.block) = subst (λ n. (n ≡ 0) ⊎ (s < n + length a.block)) row.last apart' in
        let tight = tight_take s (upto - from) (drop from blocks) (tight_drop s from blocks cut.tight) in
        record {
          sizes = subst (All (IsSegmentSized s)) (sym blocks_more) (All-append (IsSegmentSized s) fronts stretch row.sizes (All-take (IsSegmentSized s) (upto - from) (drop from blocks) (All-drop (IsSegmentSized s) from blocks cut.sizes)));
          tight = subst (IsTight s) (sym blocks_more) (subst (λ bs. IsTight s (fronts ++ bs)) (sym begins) (tight_both s fronts a.block (between (from + 1) upto blocks) row.sizes row.tight behind (subst (IsTight s) begins tight)));
          last = last ∙ sym last_of;
          within = subst (All (LiesWithin (length blocks))) (sym t) (All-push (LiesWithin (length blocks)) mid.row.parts.items (parts.Taken from upto) row.within (some, within));
        }

    held_stretch : IsHeld blocks c'.row.parts.items (Some (upto - 1))
    held_stretch = record {
      front = mid.row.parts.items;
      from = from;
      some = omega (arith, some);
      is = t ∙ (let next : upto ≡ upto - 1 + 1 = omega (arith, some) in ap (λ n. mid.row.parts.items ++ parts.Taken from n ∷ []) next);
      block = final.0;
      there = final.1;
    }

    pub cutting_stretch : (0 < length c.tail.pairs → length c.tail.pairs ≤ mid.row.last) → (length c.tail.pairs ≡ 0 → mid.row.last ≡ c.row.last)
        → ((b : List (K × V)) → Some b ≡ slice_get blocks (upto - 1) → c'.row.last ≡ length b) → c'.held ≡ Some (upto - 1) → IsAscending cmp (given_pairs blocks c ++ pairs_in stretch) → IsCutting cmp s blocks c'
    cutting_stretch last same sized held up =
        let all = given_stretch pairs in
        record {
          least = h.least;
          most = h.most;
          row = row_stretch (apart last same) (sized final.0 (sym final.1));
          room = (let z = ap length none in omega (arith, z));
          rising = subst (IsAscending cmp) (sym all) up;
          held = subst (IsHeld blocks c'.row.parts.items) (sym held) held_stretch;
          fresh = λ e. absurd (let f = sym held ∙ e in cc);
        }
