-- Rows that are being built.
use Rattle.std.proofs.Common.{◌≡◌, inl, inr, ℕ, suc, ◌+◌, ◌-◌, ◌<◌, ◌≤◌, Option, None, Some, List, [], ◌∷◌, ◌++◌, length, map, take, drop, get_or, slice_get, vec_len, append_assoc, append-nil, length-append, refl, sym, ap, ◌∙◌, subst, arith}
use Rattle.std.proofs.Math.Seq.{take-add}
use Rattle.std.proofs.lemmas.Bool.Decides.{eqb_tells}
use Rattle.std.proofs.lemmas.Grind.{flat_map-append}
use Rattle.std.proofs.lemmas.List.{drop-drop, drop_at, get_or_append_left, length-map, map-append, take-append-le, take-map, take_all, take_at}
use Rattle.std.proofs.lemmas.List.Elements.{All-drop, All-nil, All-push, All-take}
use Rattle.std.proofs.lemmas.List.Sums.{sum_by-append, sum_by-cons}
use Rattle.std.proofs.lemmas.Option.{slice_get-get_or}
use Rattle.std.specs.List.{All, flat_map}
use Rattle.std.specs.Global.{Vec}
use Rattle.std.specs.Option.{MatchOption, option_to_list}
use Rattle.tree_index.proofs.WayLemmas.{some_same}
use Rattle.version_views.specs.Cuts.{IsSeparated, greatest_key, pairs_in}
use Rattle.version_views.specs.Items.{row_keys, row_owners}
use Rattle.version_views.specs.Rows.{AreEnds, CutsInRows, IsRow, between, end_of, row_part, start_of}
use Rattle.version_views.specs.declared.directory.Directory.{Directory}
use Rattle.version_views.specs.declared.row.Row.{Row}
use Rattle.version_views.proofs.PlaceLemmas.{get_rear}
use Rattle.version_views.proofs.RowSearchLemmas.{greatest_last}
use Rattle.version_views.proofs.SeparatorSearchLemmas.{get_some}
use Rattle.version_views.proofs.SlotLemmas.{slice_map}
use Rattle.version_drafts.specs.Parts.{blocks_of_parts, made_in, makes, part_blocks}
use Rattle.version_drafts.specs.Shelves.{ClosesRow, HasPlace, IsShelved, IsShelving, IsWholeRow, LiesInside, LiesOn, TakesMore, blocks_given, made_on, made_on_all, row_lists, shelf_blocks, shelved_blocks}
use Rattle.version_drafts.specs.declared.segments.Part.{Part}
use Rattle.version_drafts.specs.declared.segments.Part.TheVariants as parts
use Rattle.version_drafts.specs.declared.shelves.Shelf.{Shelf}
use Rattle.version_drafts.specs.declared.shelves.Shelf.TheVariants as shelves
use Rattle.version_drafts.specs.declared.shelving.Shelving.{Shelving}
use Rattle.version_drafts.proofs.CuttingLemmas.{blocks_behind, made_behind}
use Rattle.version_drafts.proofs.StretchLemmas.{between_long, between_more}

-- two stretches, one behind the other
pub between_join : {X : Type 0} (xs : List X) (from mid upto : ℕ) → from ≤ mid → mid ≤ upto → between from mid xs ++ between mid upto xs ≡ between from upto xs
between_join xs from mid upto h k =
    let both : upto - from ≡ (mid - from) + (upto - mid) = omega (arith, h, k) in
    let end : from + (mid - from) ≡ mid = omega (arith, h) in
    sym (
    ap (λ n. take n (drop from xs)) both
    ∙ take-add (mid - from) (upto - mid) (drop from xs)
    ∙ ap (λ ys. between from mid xs ++ take (upto - mid) ys) (drop-drop (mid - from) from xs ∙ ap (λ n. drop n xs) end)
    )

-- a row begins where the one before it ends
pub start_behind : (ends : List ℕ) (row : ℕ) → end_of ends row ≡ start_of ends (row + 1)
start_behind ends row = let on : suc row ≡ row + 1 = omega arith in ap (start_of ends) on

pub no_length : {X : Type 0} (xs : List X) → length xs ≡ 0 → xs ≡ []
no_length [] h = refl
no_length (x ∷ xs) h = absurd (omega (arith, h))

-- ---- blocks with their greatest keys

module _ {K V : Type 0} (bs : List (List (K × V))) where
  pub keys_many : (ks : List K) → map Some ks ≡ map greatest_key bs → length ks ≡ length bs
  keys_many ks h = sym (length-map ks Some) ∙ ap length h ∙ length-map bs greatest_key

  -- a block that has a greatest key has a pair
  some_pair : (b : List (K × V)) (k : K) → greatest_key b ≡ Some k → 1 ≤ length b
  some_pair [] k e = absurd (cc)
  some_pair (p ∷ b) k e = omega arith

  module _ (ks : List K) (k : K) (h : map Some (ks ++ k ∷ []) ≡ map greatest_key bs) where
    apart : map Some ks ++ Some k ∷ [] ≡ map greatest_key bs
    apart = sym (map-append Some ks (k ∷ [])) ∙ h

    pub one_more : length bs ≡ length ks + 1
    one_more = sym (keys_many (ks ++ k ∷ []) h) ∙ length-append ks (k ∷ [])

    -- all keys but the last separate the blocks
    pub popped_separated : IsSeparated bs ks
    popped_separated =
        let size : length (map Some ks) ≡ length bs - 1 = omega (arith, length-map ks Some, one_more) in
        sym (take_at (map Some ks) (Some k ∷ []) (length bs - 1) size)
        ∙ ap (take (length bs - 1)) apart
        ∙ take-map greatest_key (length bs - 1) bs

    -- and the last one is the greatest of all
    pub popped_greatest : greatest_key (pairs_in bs) ≡ Some k
    popped_greatest =
        let b = get_some bs (length bs - 1) (omega (arith, one_more)) in
        let at : length bs - 1 ≡ length (map Some ks) + 0 = omega (arith, length-map ks Some, one_more) in
        let great = some_same (sym (slice_map greatest_key bs (length bs - 1) b.0 b.1) ∙ ap (λ os. slice_get os (length bs - 1)) (sym apart) ∙ get_rear (map Some ks) (Some k ∷ []) (length bs - 1) 0 at) in
        greatest_last bs b.0 b.1 (some_pair b.0 k great) ∙ great

    pub popped_row : length (ks ++ k ∷ []) ≤ 480 → IsRow bs ks
    popped_row few = let size = length-append ks (k ∷ []) in record { some = omega (arith, one_more); few = omega (arith, one_more, few, size); separated = popped_separated }

-- ---- the ends of rows

got_last : (ends : List ℕ) (n : ℕ) → get_or (ends ++ n ∷ []) (length ends) 0 ≡ n
got_last [] n = refl
got_last (e ∷ ends) n = got_last ends n

ends_more : {R O : Type 0} (f : R → List O) (rows : List R) (ends : List ℕ) (r : R) (n : ℕ) → AreEnds f rows ends → n ≡ length (flat_map f (rows ++ r ∷ [])) → AreEnds f (rows ++ r ∷ []) (ends ++ n ∷ [])
ends_more f rows ends r n e is =
    let size = length-append rows (r ∷ []) in
    let sizes = length-append ends (n ∷ []) in
    let same = e.count in
    record {
      count = omega (arith, size, sizes, same);
      each = λ i h. elim (eqb_tells i (length rows)) [
        | inl last ↦
            let at : i ≡ length ends = omega (arith, last.1, same) in
            ap (λ j. get_or (ends ++ n ∷ []) j 0) at ∙ got_last ends n ∙ is ∙ ap (λ rs. length (flat_map f rs)) (sym (take_all (suc i) (rows ++ r ∷ []) (omega (arith, size, last.1))))
        | inr more ↦
            let no = more.1 in
            let less : i < length rows = omega (arith, h, size, no) in
            get_or_append_left ends (n ∷ []) 0 i (omega (arith, less, same)) ∙ e.each i less ∙ ap (λ rs. length (flat_map f rs)) (sym (take-append-le (suc i) rows (r ∷ []) (omega (arith, less))))
      ];
    }

module _ {K V : Type 0} (blocks : List (List (K × V))) (ends : List ℕ) where
  -- ---- one after the other

  pub takes_none : (c : Shelving K V) → IsShelving blocks ends c → TakesMore blocks ends [] 0 c c
  takes_none c h = record { whole = h; given = sym (append-nil (blocks_given blocks c)); trees = omega arith }

  -- what is taken behind nothing
  pub takes_after : (more : List (List (K × V))) (n : ℕ) (c c' c'' : Shelving K V) → TakesMore blocks ends [] 0 c c' → TakesMore blocks ends more n c' c'' → TakesMore blocks ends more n c c''
  takes_after more n c c' c'' a b = record {
    whole = b.whole;
    given = b.given ∙ ap (λ bs. bs ++ more) (a.given ∙ append-nil (blocks_given blocks c));
    trees = (let first = a.trees in let second = b.trees in omega (arith, first, second));
  }

  -- stretches, one behind the other
  pub takes_next : (fore rear : List (List (K × V))) (c c' c'' : Shelving K V) → TakesMore blocks ends fore 0 c c' → TakesMore blocks ends rear 0 c' c'' → TakesMore blocks ends (fore ++ rear) 0 c c''
  takes_next fore rear c c' c'' a b = record {
    whole = b.whole;
    given = b.given ∙ ap (λ bs. bs ++ rear) a.given ∙ append_assoc (blocks_given blocks c) fore rear;
    trees = (let first = a.trees in let second = b.trees in omega (arith, first, second));
  }

  -- the same is there
  pub takes_same : (c c' : Shelving K V) → c'.rows.items ≡ c.rows.items → c'.greatest.items ≡ c.greatest.items → c'.ends.items ≡ c.ends.items → c'.count ≡ c.count → c'.parts.items ≡ c.parts.items → c'.keys.items ≡ c.keys.items → IsShelving blocks ends c → TakesMore blocks ends [] 0 c c'
  takes_same c c' rows greatest ends' count parts' keys h = record {
    whole = record {
      rows = subst (All (λ r. IsRow (shelf_blocks blocks r.segments) (row_keys r))) (sym rows) h.rows;
      there = subst (All (λ r. LiesOn ends r.segments)) (sym rows) h.there;
      greatest = ap (map Some) greatest ∙ h.greatest ∙ ap (λ rs. map greatest_key (row_lists blocks rs)) (sym rows);
      ends = subst (λ rs. AreEnds (row_owners (shelf_blocks blocks)) rs c'.ends.items) (sym rows) (subst (AreEnds (row_owners (shelf_blocks blocks)) c.rows.items) (sym ends') h.ends);
      count = count ∙ h.count ∙ ap (λ rs. length (shelved_blocks blocks rs)) (sym rows);
      keys = ap (map Some) keys ∙ h.keys ∙ ap (λ ps. map greatest_key (blocks_of_parts blocks ps)) (sym parts');
      inside = subst (All (LiesInside ends)) (sym parts') h.inside;
      few = subst (λ ks. length ks ≤ 480) (sym keys) h.few;
    };
    given = ap (λ rs. shelved_blocks blocks rs ++ blocks_of_parts blocks c'.parts.items) rows ∙ ap (λ ps. shelved_blocks blocks c.rows.items ++ blocks_of_parts blocks ps) parts' ∙ sym (append-nil (blocks_given blocks c));
    trees = (let same = ap made_on_all rows in let made = ap made_in parts' in omega (arith, same, made));
  }

  -- ---- the open row

  -- each tree that was made is a block
  made_few : (ps : List (Part K V)) → made_in ps ≤ length (blocks_of_parts blocks ps)
  made_few [] = omega arith
  made_few (parts.Taken from upto ∷ ps) =
      let rest = made_few ps in
      let sum = sum_by-cons makes (parts.Taken from upto) ps in
      let both = length-append (between from upto blocks) (blocks_of_parts blocks ps) in
      omega (arith, rest, sum, both)
  made_few (parts.Made tree ∷ ps) = let rest = made_few ps in let sum = sum_by-cons makes (parts.Made tree) ps in omega (arith, rest, sum)

  -- where the open row has no key it has no block
  pub none_open : (c : Shelving K V) → IsShelving blocks ends c → c.keys.items ≡ [] → blocks_of_parts blocks c.parts.items ≡ []
  none_open c h none = let many = keys_many (blocks_of_parts blocks c.parts.items) c.keys.items h.keys in let size = ap length none in no_length (blocks_of_parts blocks c.parts.items) (omega (arith, many, size))

  -- a part more in the open row
  pub takes_part : (c c' : Shelving K V) (p : Part K V) → IsShelving blocks ends c → c'.rows.items ≡ c.rows.items → c'.greatest.items ≡ c.greatest.items → c'.ends.items ≡ c.ends.items → c'.count ≡ c.count → c'.parts.items ≡ c.parts.items ++ p ∷ []
      → map Some c'.keys.items ≡ map Some c.keys.items ++ map greatest_key (part_blocks blocks p) → LiesInside ends p → length c'.keys.items ≤ 480 → TakesMore blocks ends (part_blocks blocks p) (makes p) c c'
  takes_part c c' p h rows greatest ends' count opening keys inside few =
      let f = row_owners (shelf_blocks blocks) in
      let behind : blocks_of_parts blocks c'.parts.items ≡ blocks_of_parts blocks c.parts.items ++ part_blocks blocks p = ap (blocks_of_parts blocks) opening ∙ blocks_behind blocks c.parts.items p in
      record {
        whole = record {
          rows = subst (All (λ r. IsRow (shelf_blocks blocks r.segments) (row_keys r))) (sym rows) h.rows;
          there = subst (All (λ r. LiesOn ends r.segments)) (sym rows) h.there;
          greatest = ap (map Some) greatest ∙ h.greatest ∙ ap (λ rs. map greatest_key (row_lists blocks rs)) (sym rows);
          ends = subst (λ rs. AreEnds f rs c'.ends.items) (sym rows) (subst (AreEnds f c.rows.items) (sym ends') h.ends);
          count = count ∙ h.count ∙ ap (λ rs. length (shelved_blocks blocks rs)) (sym rows);
          keys = keys ∙ ap (λ os. os ++ map greatest_key (part_blocks blocks p)) h.keys ∙ sym (map-append greatest_key (blocks_of_parts blocks c.parts.items) (part_blocks blocks p)) ∙ ap (map greatest_key) (sym behind);
          inside = subst (All (LiesInside ends)) (sym opening) (All-push (LiesInside ends) c.parts.items p h.inside inside);
          few = few;
        };
        given = ap (λ rs. shelved_blocks blocks rs ++ blocks_of_parts blocks c'.parts.items) rows ∙ ap (λ bs. shelved_blocks blocks c.rows.items ++ bs) behind ∙ sym (append_assoc (shelved_blocks blocks c.rows.items) (blocks_of_parts blocks c.parts.items) (part_blocks blocks p));
        trees = (let same = ap made_on_all rows in let made = ap made_in opening ∙ made_behind c.parts.items p in omega (arith, same, made));
      }

  -- ---- a row more, where none is opening

  module _ (c c' : Shelving K V) (row : Row K (Shelf K V)) (great : K) (size : ℕ) (h : IsShelving blocks ends c) (a : ClosesRow row great size c c') (none : blocks_of_parts blocks c.parts.items ≡ []) (is : IsRow (shelf_blocks blocks row.segments) (row_keys row)) (on : LiesOn ends row.segments)
      (last : greatest_key (pairs_in (shelf_blocks blocks row.segments)) ≡ Some great) (long : size ≡ length (shelf_blocks blocks row.segments)) where
    abbrev owned : Row K (Shelf K V) → List (List (K × V))
    owned = row_owners (shelf_blocks blocks)

    more_shelved : shelved_blocks blocks c'.rows.items ≡ shelved_blocks blocks c.rows.items ++ shelf_blocks blocks row.segments
    more_shelved = ap (shelved_blocks blocks) a.rows ∙ flat_map-append owned c.rows.items (row ∷ []) ∙ ap (λ bs. shelved_blocks blocks c.rows.items ++ bs) (append-nil (shelf_blocks blocks row.segments))

    counted : c'.count ≡ length (shelved_blocks blocks c'.rows.items)
    counted =
        let total = ap length more_shelved ∙ length-append (shelved_blocks blocks c.rows.items) (shelf_blocks blocks row.segments) in
        let count = a.count in
        let before = h.count in
        omega (arith, total, count, before, long)

    row_closed : IsShelving blocks ends c'
    row_closed = record {
      rows = subst (All (λ r. IsRow (shelf_blocks blocks r.segments) (row_keys r))) (sym a.rows) (All-push (λ r. IsRow (shelf_blocks blocks r.segments) (row_keys r)) c.rows.items row h.rows is);
      there = subst (All (λ r. LiesOn ends r.segments)) (sym a.rows) (All-push (λ r. LiesOn ends r.segments) c.rows.items row h.there on);
      greatest =
          ap (map Some) a.greatest
          ∙ map-append Some c.greatest.items (great ∷ [])
          ∙ ap (λ os. os ++ Some great ∷ []) h.greatest
          ∙ ap (λ o. map greatest_key (row_lists blocks c.rows.items) ++ o ∷ []) (sym last)
          ∙ sym (map-append greatest_key (row_lists blocks c.rows.items) (pairs_in (shelf_blocks blocks row.segments) ∷ []))
          ∙ ap (map greatest_key) (sym (map-append (λ (r : Row K (Shelf K V)). pairs_in (shelf_blocks blocks r.segments)) c.rows.items (row ∷ [])))
          ∙ ap (λ rs. map greatest_key (row_lists blocks rs)) (sym a.rows);
      ends = subst (λ rs. AreEnds owned rs c'.ends.items) (sym a.rows) (subst (AreEnds owned (c.rows.items ++ row ∷ [])) (sym a.ends) (ends_more owned c.rows.items c.ends.items row c'.count h.ends (counted ∙ ap (λ rs. length (flat_map owned rs)) a.rows)));
      count = counted;
      keys = ap (map Some) a.keys ∙ h.keys ∙ ap (λ ps. map greatest_key (blocks_of_parts blocks ps)) (sym a.parts);
      inside = subst (All (LiesInside ends)) (sym a.parts) h.inside;
      few = subst (λ ks. length ks ≤ 480) (sym a.keys) h.few;
    }

    -- it comes behind all that was given
    pub takes_row : TakesMore blocks ends (shelf_blocks blocks row.segments) (made_on row.segments) c c'
    takes_row = record {
      whole = row_closed;
      given =
          ap (λ ps. shelved_blocks blocks c'.rows.items ++ blocks_of_parts blocks ps) a.parts
          ∙ ap (λ bs. shelved_blocks blocks c'.rows.items ++ bs) none
          ∙ append-nil (shelved_blocks blocks c'.rows.items)
          ∙ more_shelved
          ∙ ap (λ bs. bs ++ shelf_blocks blocks row.segments) (sym (append-nil (shelved_blocks blocks c.rows.items)) ∙ ap (λ bs. shelved_blocks blocks c.rows.items ++ bs) (sym none));
      trees = (
          let sum = ap made_on_all a.rows ∙ sum_by-append (λ (r : Row K (Shelf K V)). made_on r.segments) c.rows.items (row ∷ []) in
          let one = sum_by-cons (λ (r : Row K (Shelf K V)). made_on r.segments) row [] in
          let same = ap made_in a.parts in
          omega (arith, sum, one, same)
          );
    }

  -- ---- the open row is closed

  module _ (c c' mid : Shelving K V) (row : Row K (Shelf K V)) (ks : List K) (great : K) (h : IsShelving blocks ends c) (all : c.keys.items ≡ ks ++ great ∷ []) (rows : mid.rows.items ≡ c.rows.items) (greatest : mid.greatest.items ≡ c.greatest.items) (ends' : mid.ends.items ≡ c.ends.items) (count : mid.count ≡ c.count) (opening : mid.parts.items ≡ [])
      (keys : mid.keys.items ≡ []) (held : shelf_blocks blocks row.segments ≡ blocks_of_parts blocks c.parts.items) (made : made_on row.segments ≡ made_in c.parts.items) (on : LiesOn ends row.segments) (their : row_keys row ≡ ks) where
    abbrev opened : List (List (K × V))
    opened = blocks_of_parts blocks c.parts.items

    named : map Some (ks ++ great ∷ []) ≡ map greatest_key opened
    named = ap (map Some) (sym all) ∙ h.keys

    emptied : IsShelving blocks ends mid
    emptied = record {
      rows = subst (All (λ r. IsRow (shelf_blocks blocks r.segments) (row_keys r))) (sym rows) h.rows;
      there = subst (All (λ r. LiesOn ends r.segments)) (sym rows) h.there;
      greatest = ap (map Some) greatest ∙ h.greatest ∙ ap (λ rs. map greatest_key (row_lists blocks rs)) (sym rows);
      ends = subst (λ rs. AreEnds (row_owners (shelf_blocks blocks)) rs mid.ends.items) (sym rows) (subst (AreEnds (row_owners (shelf_blocks blocks)) c.rows.items) (sym ends') h.ends);
      count = count ∙ h.count ∙ ap (λ rs. length (shelved_blocks blocks rs)) (sym rows);
      keys = ap (map Some) keys ∙ ap (λ ps. map greatest_key (blocks_of_parts blocks ps)) (sym opening);
      inside = subst (All (LiesInside ends)) (sym opening) (All-nil (LiesInside ends));
      few = (let none = ap length keys in omega (arith, none));
    }

    pub takes_open : (size : ℕ) → size ≡ length (ks ++ great ∷ []) → ClosesRow row great size mid c' → TakesMore blocks ends [] 0 c c'
    takes_open size long a =
        let is = popped_row opened ks great named (subst (λ xs. length xs ≤ 480) all h.few) in
        let many = keys_many opened (ks ++ great ∷ []) named in
        let none = ap (blocks_of_parts blocks) opening in
        let takes = takes_row mid c' row great size emptied a none (subst (λ xs. IsRow (shelf_blocks blocks row.segments) xs) (sym their) (subst (λ bs. IsRow bs ks) (sym held) is)) on (ap (λ bs. greatest_key (pairs_in bs)) held ∙ popped_greatest opened ks great named) (long ∙ many ∙ ap length (sym held)) in
        record {
          whole = takes.whole;
          given =
              takes.given
              ∙ ap (λ bs. bs ++ shelf_blocks blocks row.segments) (ap (λ bs. shelved_blocks blocks mid.rows.items ++ bs) none ∙ append-nil (shelved_blocks blocks mid.rows.items) ∙ ap (shelved_blocks blocks) rows)
              ∙ ap (λ bs. shelved_blocks blocks c.rows.items ++ bs) held
              ∙ sym (append-nil (blocks_given blocks c));
          trees = (let sum = takes.trees in let same = ap made_on_all rows in let nothing = ap made_in opening in omega (arith, sum, same, nothing, made));
        }

  -- ---- a row of the older version is taken over whole

  last_between : (from upto : ℕ) (b : List (K × V)) → from < upto → slice_get blocks (upto - 1) ≡ Some b → slice_get (between from upto blocks) (length (between from upto blocks) - 1) ≡ Some b
  last_between from upto b some here =
      let front = between from (upto - 1) blocks in
      let next : upto ≡ upto - 1 + 1 = omega (arith, some) in
      let all : between from upto blocks ≡ front ++ b ∷ [] = ap (λ n. between from n blocks) next ∙ between_more from (upto - 1) blocks b (omega (arith, some)) here in
      let long = length-append front (b ∷ []) in
      ap (λ bs. slice_get bs (length bs - 1)) all ∙ get_rear front (b ∷ []) (length (front ++ b ∷ []) - 1) 0 (omega (arith, long))

  -- the greatest key of a row is that of its last segment
  pub last_of_row : (row : ℕ) (great : K) → start_of ends row < end_of ends row → end_of ends row ≤ length blocks → ((b : List (K × V)) → Some b ≡ slice_get blocks (end_of ends row - 1) → greatest_key b ≡ Some great) → greatest_key (pairs_in (row_part ends row blocks)) ≡ Some great
  last_of_row row great some within last =
      let upto = end_of ends row in
      let b = get_some blocks (upto - 1) (omega (arith, within, some)) in
      let key = last b.0 (sym b.1) in
      greatest_last (row_part ends row blocks) b.0 (last_between (start_of ends row) upto b.0 some b.1) (some_pair (row_part ends row blocks) b.0 great key) ∙ key

  module _ (c c' : Shelving K V) (row from upto : ℕ) (r : Row K (Shelf K V)) (great : K) (h : IsShelving blocks ends c) (nothing : c.keys.items ≡ []) (whole : IsWholeRow ends row from upto) (some : start_of ends row < end_of ends row) (within : end_of ends row ≤ length blocks) (their : r.segments ≡ shelves.Older row from upto)
      (is : IsRow (row_part ends row blocks) (row_keys r)) (last : greatest_key (pairs_in (row_part ends row blocks)) ≡ Some great) where
    abbrev stretch : List (List (K × V))
    stretch = between from upto blocks

    as_part : stretch ≡ row_part ends row blocks
    as_part = ap (λ n. between n upto blocks) whole.begins ∙ ap (λ n. between (start_of ends row) n blocks) whole.stops

    as_held : shelf_blocks blocks r.segments ≡ stretch
    as_held = ap (shelf_blocks blocks) their

    pub takes_older : ClosesRow r great (upto - from) c c' → TakesMore blocks ends (row_part ends row blocks) 0 c c'
    takes_older a =
        let z = whole.stops in
        let long : upto - from ≡ length (shelf_blocks blocks r.segments) = sym (ap length as_held ∙ between_long from upto blocks (omega (arith, z, within))) in
        let row_is = subst (λ bs. IsRow bs (row_keys r)) (sym (as_held ∙ as_part)) is in
        let takes = takes_row c c' r great (upto - from) h a (none_open c h nothing) row_is (subst (LiesOn ends) (sym their) whole) (ap (λ bs. greatest_key (pairs_in bs)) (as_held ∙ as_part) ∙ last) long in
        subst (λ bs. TakesMore blocks ends bs 0 c c') (as_held ∙ as_part) (subst (λ n. TakesMore blocks ends (shelf_blocks blocks r.segments) n c c') (ap made_on their) takes)

  -- ---- all rows

  popped_all : (bs : List (List (K × V))) (ks ks' : List K) (r : Option K) → ks ≡ ks' ++ option_to_list r → (r ≡ None → ks' ≡ []) → map Some ks ≡ map greatest_key bs → IsSeparated bs ks'
  popped_all bs ks ks' (Some k) e none h = popped_separated bs ks' k (ap (map Some) (sym e) ∙ h)
  popped_all bs ks ks' None e none h =
      let all = e ∙ append-nil ks' ∙ none refl in
      let many = keys_many bs ks h in
      let size = ap length all in
      let empty = no_length bs (omega (arith, many, size)) in
      ap (map Some) (none refl) ∙ sym (ap (λ (xs : List (List (K × V))). map greatest_key (take (length xs - 1) xs)) empty)

  pub shelved_all : (c c' : Shelving K V) (d : Directory K (Shelf K V)) (r : Option K) → TakesMore blocks ends [] 0 c c' → c'.keys.items ≡ [] → d.rows.items ≡ c'.rows.items → d.ends.items ≡ c'.ends.items → c'.greatest.items ≡ d.separators.items ++ option_to_list r → (r ≡ None → d.separators.items ≡ []) → IsShelved blocks ends c d
  shelved_all c c' d r t none rows ends' popped empty =
      let h = t.whole in
      let nothing = none_open c' h none in
      let made = made_few c'.parts.items in
      let size = ap length nothing in
      record {
        given = ap (shelved_blocks blocks) rows ∙ sym (append-nil (shelved_blocks blocks c'.rows.items)) ∙ ap (λ bs. shelved_blocks blocks c'.rows.items ++ bs) (sym nothing) ∙ t.given ∙ append-nil (blocks_given blocks c);
        trees = (let sum = t.trees in let same = ap made_on_all rows in omega (arith, sum, same, made, size));
        rowed = record {
          rows = subst (All (λ r. IsRow (shelf_blocks blocks r.segments) (row_keys r))) (sym rows) h.rows;
          separated = subst (λ rs. IsSeparated (row_lists blocks rs) d.separators.items) (sym rows) (popped_all (row_lists blocks c'.rows.items) c'.greatest.items d.separators.items r popped empty h.greatest);
          ends = subst (λ rs. AreEnds (row_owners (shelf_blocks blocks)) rs d.ends.items) (sym rows) (subst (AreEnds (row_owners (shelf_blocks blocks)) c'.rows.items) (sym ends') h.ends);
        };
        there = subst (All (λ r. LiesOn ends r.segments)) (sym rows) h.there;
      }

-- where nothing could be taken, nothing is left
pub none_left : {X : Type 0} (old new : Vec X) (r : Option X) → MatchOption r ((vec_len old ≡ 0) × (vec_len new ≡ 0)) (λ _. vec_len new + 1 ≡ vec_len old) → r ≡ None → new.items ≡ []
none_left old new None e n = let size = new.ok.0 in no_length new.items (omega (arith, e.1, size))
none_left old new (Some x) e n = absurd (cc)

-- ---- one row behind the other

pub next_place : {K V R : Type 0} (blocks : List (List (K × V))) (d : Directory K R) → CutsInRows blocks d → (row end upto : ℕ) → row < length d.ends.items → end ≡ end_of d.ends.items row → end < upto → upto ≤ length blocks → HasPlace d.ends.items (row + 1) end
next_place blocks d cut row end upto inside is less within =
    let ends = d.ends.items in
    let on : row + 1 ≡ suc row = omega arith in
    let start : start_of ends (row + 1) ≡ end = ap (start_of ends) on ∙ sym is in
    let more : row + 1 < length ends = elim (eqb_tells (row + 1) (length ends)) [
      | inl last ↦ let all = ap (start_of ends) (sym last.1) ∙ start in let upto' = cut.upto in absurd (omega (arith, all, upto', less, within))
      | inr other ↦ let ne = other.1 in omega (arith, inside, ne)
    ] in
    let up = cut.rising (row + 1) more in
    record { inside = more; begins = omega (arith, start); stops = omega (arith, start, up) }

-- the row that begins at a place has it, where there are more
pub begun_place : {K V R : Type 0} (blocks : List (List (K × V))) (d : Directory K R) → CutsInRows blocks d → (row upto : ℕ) → row ≤ length d.ends.items → start_of d.ends.items row < upto → upto ≤ length blocks → HasPlace d.ends.items row (start_of d.ends.items row)
begun_place blocks d cut row upto inside less within =
    let ends = d.ends.items in
    let more : row < length ends = elim (eqb_tells row (length ends)) [
      | inl last ↦ let all = ap (start_of ends) (sym last.1) in let upto' = cut.upto in absurd (omega (arith, all, upto', less, within))
      | inr other ↦ let ne = other.1 in omega (arith, inside, ne)
    ] in
    record { inside = more; begins = omega arith; stops = cut.rising row more }

-- the row that was read at a place is there
pub row_read : {K V R : Type 0} (blocks : List (List (K × V))) (d : Directory K R) → CutsInRows blocks d → (row : ℕ) → row < length d.ends.items → (rows : List (Row K R)) (r : Row K R) → rows ≡ d.rows.items → r ≡ get_or rows row r → slice_get d.rows.items row ≡ Some r
row_read blocks d cut row inside rows r is read =
    let count = cut.count in
    let within : row < length d.rows.items = omega (arith, inside, count) in
    subst (λ rs. slice_get rs row ≡ Some r) is (slice_get-get_or rows row r (subst (λ rs. row < length rs) (sym is) within) ∙ ap Some (sym read))

module _ {K V : Type 0} (blocks : List (List (K × V))) (ends : List ℕ) where
  -- nothing was taken
  pub shelving_none : (c : Shelving K V) → c.rows.items ≡ [] → c.greatest.items ≡ [] → c.ends.items ≡ [] → c.count ≡ 0 → c.parts.items ≡ [] → c.keys.items ≡ [] → IsShelving blocks ends c
  shelving_none c rows greatest ends' count parts' keys = record {
    rows = subst (All (λ r. IsRow (shelf_blocks blocks r.segments) (row_keys r))) (sym rows) (All-nil (λ r. IsRow (shelf_blocks blocks r.segments) (row_keys r)));
    there = subst (All (λ r. LiesOn ends r.segments)) (sym rows) (All-nil (λ r. LiesOn ends r.segments));
    greatest = ap (map Some) greatest ∙ ap (λ rs. map greatest_key (row_lists blocks rs)) (sym rows);
    ends = record { count = ap length ends' ∙ sym (ap length rows); each = λ i h. let none = ap length rows in absurd (omega (arith, h, none)) };
    count = count ∙ ap (λ rs. length (shelved_blocks blocks rs)) (sym rows);
    keys = ap (map Some) keys ∙ ap (λ ps. map greatest_key (blocks_of_parts blocks ps)) (sym parts');
    inside = subst (All (LiesInside ends)) (sym parts') (All-nil (LiesInside ends));
    few = (let none = ap length keys in omega (arith, none));
  }

  pub given_none : (c : Shelving K V) → c.rows.items ≡ [] → c.parts.items ≡ [] → blocks_given blocks c ≡ []
  given_none c rows parts' = ap (λ rs. shelved_blocks blocks rs ++ blocks_of_parts blocks c.parts.items) rows ∙ ap (blocks_of_parts blocks) parts'

  -- one part more
  pub given_part : (c c' : Shelving K V) (ps : List (Part K V)) (p : Part K V) → blocks_given blocks c ≡ blocks_of_parts blocks ps → TakesMore blocks ends (part_blocks blocks p) (makes p) c c' → blocks_given blocks c' ≡ blocks_of_parts blocks (ps ++ p ∷ [])
  given_part c c' ps p given t = t.given ∙ ap (λ bs. bs ++ part_blocks blocks p) given ∙ sym (blocks_behind blocks ps p)

-- what all of two lists have, each has
pub both_have : {X : Type 0} (P : X → Type 0) (xs ys : List X) → All P (xs ++ ys) → All P xs × All P ys
both_have P xs ys h = (
  subst (All P) (take_at xs ys (length xs) refl) (All-take P (length xs) (xs ++ ys) h),
  subst (All P) (drop_at xs ys (length xs) refl) (All-drop P (length xs) (xs ++ ys) h),
)
