-- The greatest keys of segments that lie side by side in a row.
use Rattle.std.proofs.Common.{◌≡◌, ℕ, zero, suc, ◌+◌, ◌-◌, ◌≤◌, ◌<◌, List, [], ◌∷◌, ◌++◌, Some, length, map, take, drop, slice_get, length-append, append_assoc, refl, sym, ap, ◌∙◌, arith}
use Rattle.std.proofs.lemmas.List.{drop-drop, drop-take, length-map, map-append, take-map, take-take}
use Rattle.version_views.specs.Cuts.{IsSeparated, greatest_key}
use Rattle.version_views.specs.Items.{row_keys}
use Rattle.version_views.specs.Rows.{CutsInRows, between, end_of, row_part, start_of}
use Rattle.version_views.specs.declared.directory.Directory.{Directory}
use Rattle.version_views.specs.declared.row.Row.{Row}
use Rattle.version_views.proofs.RowSearchLemmas.{keys_count}
use Rattle.version_drafts.proofs.StretchLemmas.{between_long, between_more}

-- what lies between two places of what lies between two places
between_within : {X : Type 0} (start end i j : ℕ) (xs : List X) → i ≤ j → start + j ≤ end → between i j (between start end xs) ≡ between (start + i) (start + j) xs
between_within start end i j xs le within =
    let k = end - start - i in
    let all : i + k ≡ end - start = omega (arith, le, within) in
    let less : j - i ≤ k = omega (arith, le, within) in
    let same : j - i ≡ start + j - (start + i) = omega arith in
    ap (λ n. take (j - i) (drop i (take n (drop start xs)))) (sym all)
    ∙ (ap (take (j - i)) (drop-take i k (drop start xs))
    ∙ (take-take (j - i) k (drop i (drop start xs)) less
    ∙ (ap (take (j - i)) (drop-drop i start xs)
    ∙ ap (λ n. take n (drop (start + i) xs)) same)))

-- where the keys are those of all but the last, those before a place are a slice of them
separators_between : {K V : Type 0} (blocks : List (List (K × V))) (keys : List K) (from last : ℕ) → IsSeparated blocks keys → from ≤ last → last < length blocks → map Some (take (last - from) (drop from keys)) ≡ map greatest_key (between from last blocks)
separators_between blocks keys from last sep le inside =
    let n = length blocks - 1 in
    let k = n - from in
    let all : from + k ≡ n = omega (arith, le, inside) in
    let less : last - from ≤ k = omega (arith, le, inside) in
    sym (take-map Some (last - from) (drop from keys))
    ∙ (ap (take (last - from)) (dropped_map Some from keys)
    ∙ (ap (λ ks. take (last - from) (drop from ks)) sep
    ∙ (ap (take (last - from)) (sym (dropped_map greatest_key from (take n blocks)))
    ∙ (take-map greatest_key (last - from) (drop from (take n blocks))
    ∙ (ap (λ m. map greatest_key (take (last - from) (drop from (take m blocks)))) (sym all)
    ∙ (ap (λ bs. map greatest_key (take (last - from) bs)) (drop-take from k blocks)
    ∙ ap (map greatest_key) (take-take (last - from) k (drop from blocks) less)))))))
  where
    dropped_map : {X Y : Type 0} (f : X → Y) (n : ℕ) (xs : List X) → map f (drop n xs) ≡ drop n (map f xs)
    dropped_map f zero xs = refl
    dropped_map f (suc n) [] = refl
    dropped_map f (suc n) (x ∷ xs) = dropped_map f n xs

module _ {K V R : Type 0} (blocks : List (List (K × V))) (d : Directory K R) (cut : CutsInRows blocks d) (row : ℕ) (inside : row < length d.ends.items) (r : Row K R) (here : Some r ≡ slice_get d.rows.items row) where
  abbrev start : ℕ
  start = start_of d.ends.items row

  abbrev end : ℕ
  end = end_of d.ends.items row

  abbrev part : List (List (K × V))
  part = row_part d.ends.items row blocks

  part_long : length part ≡ end - start
  part_long = between_long start end blocks (cut.within row inside)

  -- a row has a key for each segment but the last
  pub keys_reach : (upto : ℕ) → upto ≤ end → start < upto → upto - 1 - start ≤ length (row_keys r)
  keys_reach upto stops some =
      let count = keys_count part (row_keys r) (cut.rows row r (sym here)).separated in
      let long = part_long in
      omega (arith, count, long, stops, some)

  -- a slice of the keys of a row has the greatest keys of its segments
  pub keys_between : (from upto : ℕ) → start ≤ from → from < upto → upto ≤ end → map Some (take (upto - 1 - start - (from - start)) (drop (from - start) (row_keys r))) ≡ map greatest_key (between from (upto - 1) blocks)
  keys_between from upto begins some stops =
      let long = part_long in
      let i = from - start in
      let j = upto - 1 - start in
      let first : start + i ≡ from = omega (arith, begins) in
      let last : start + j ≡ upto - 1 = omega (arith, begins, some) in
      separators_between part (row_keys r) i j (cut.rows row r (sym here)).separated (omega (arith, begins, some)) (omega (arith, long, begins, some, stops))
      ∙ (ap (map greatest_key) (between_within start end i j blocks (omega (arith, begins, some)) (omega (arith, last, stops)))
      ∙ (ap (λ n. map greatest_key (between n (start + j) blocks)) first
      ∙ ap (λ n. map greatest_key (between from n blocks)) last))

-- clones of a part of the keys go behind keys, and then the one of the last segment
pub keys_behind : {K V : Type 0} (blocks : List (List (K × V))) (from upto : ℕ) → from < upto → (b : List (K × V)) → slice_get blocks (upto - 1) ≡ Some b → (old part new : List K) (last : K) → new ≡ (old ++ part) ++ last ∷ [] → map Some part ≡ map greatest_key (between from (upto - 1) blocks) → Some last ≡ greatest_key b → map Some new ≡ map Some old ++ map greatest_key (between from upto blocks)
keys_behind blocks from upto some b here old part new last is same key =
    let front = between from (upto - 1) blocks in
    let next : upto ≡ upto - 1 + 1 = omega (arith, some) in
    let ends : between from upto blocks ≡ front ++ b ∷ [] = ap (λ n. between from n blocks) next ∙ between_more from (upto - 1) blocks b (omega (arith, some)) here in
    let whole : map greatest_key front ++ Some last ∷ [] ≡ map greatest_key (between from upto blocks) = ap (λ k. map greatest_key front ++ k ∷ []) key ∙ (sym (map-append greatest_key front (b ∷ [])) ∙ ap (map greatest_key) (sym ends)) in
    ap (map (λ k. Some k)) is ∙ (map-append (λ k. Some k) (old ++ part) (last ∷ []) ∙ (ap (λ ks. ks ++ Some last ∷ []) (map-append (λ k. Some k) old part ∙ ap (λ ks. map (λ k. Some k) old ++ ks) same) ∙ (append_assoc (map (λ k. Some k) old) (map greatest_key front) (Some last ∷ []) ∙ ap (λ ks. map (λ k. Some k) old ++ ks) whole)))

-- they are as many more as the segments are
pub keys_grow : {K V : Type 0} (blocks : List (List (K × V))) (from upto : ℕ) (old new : List K) → upto ≤ length blocks → map Some new ≡ map Some old ++ map greatest_key (between from upto blocks) → length new ≡ length old + (upto - from)
keys_grow blocks from upto old new within is =
    let more = between from upto blocks in
    let count = sym (length-map new Some) ∙ ap length is ∙ length-append (map Some old) (map greatest_key more) in
    let old_long = length-map old Some in
    let more_long = length-map more greatest_key in
    let long = between_long from upto blocks within in
    omega (arith, count, old_long, more_long, long)
