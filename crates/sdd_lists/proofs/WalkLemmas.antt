-- walks along a list that hangs in a place
use Rattle.std.proofs.Common.{◌≡◌, ℕ, zero, suc, ◌+◌, ◌<◌, ◌≤◌, Bool, true, false, Option, List, [], ◌∷◌, length, get_or, set, refl, sym, ap, ◌∙◌, arith, subst, get_or-set_other, cond}
use Rattle.std.specs.List.{sum_by}
use Rattle.std.proofs.lemmas.List.{nil_from_length}
use Rattle.std.proofs.lemmas.List.Sums.{sum_by-set}
use Rattle.sdd_world.specs.State.{State, usage, in_use}
use Rattle.sdd_world.specs.declared.tag.Tag.{Tag}
use Rattle.sdd_world.specs.declared.status.Status.{Status}
use Rattle.sdd_world.specs.declared.status.Status.TheVariants as status
use Rattle.sdd_lists.specs.Chain.{Entry, front_tag, slots, IsOut, IsList, Hangs, BeginsWithItem, Skipped, PassedEntries, deleted, skip, undeleted}

-- slots with items, none of them twice
abbrev pub AreUsed : List Status → List ℕ → Type 0
AreUsed ss [] = Unit {0}
AreUsed ss (i ∷ is) = (usage (get_or ss i status.Free) ≡ 1) × IsOut i is × AreUsed ss is

inside_used : (ss : List Status) (i : ℕ) → usage (get_or ss i status.Free) ≡ 1 → i < length ss
inside_used [] i h = absurd (omega (arith, h))
inside_used (s ∷ ss) zero h = omega arith
inside_used (s ∷ ss) (suc i) h = let r = inside_used ss i h in omega (arith, r)

used_but : (ss : List Status) (i : ℕ) (is : List ℕ) → IsOut i is → AreUsed ss is → AreUsed (set ss i status.Free) is
used_but ss i [] out h = tt
used_but ss i (j ∷ js) out h = (ap usage (get_or-set_other ss i j status.Free status.Free (λ q. out.0 (sym q))) ∙ h.0, h.1, used_but ss i js out.1 h.2)

-- there are at most as many as slots with items
pub used_slots : (ss : List Status) (is : List ℕ) → AreUsed ss is → length is ≤ sum_by usage ss
used_slots ss [] h = omega arith
used_slots ss (i ∷ is) h =
    let less = sum_by-set usage ss i status.Free status.Free (inside_used ss i h.0) in
    let rest = used_slots (set ss i status.Free) is (used_but ss i is h.1 h.2) in
    omega (arith, less, rest, h.0)

pub length-slots : {L : Type 0} (es : List (Entry L)) → length (slots es) ≡ length es
length-slots [] = refl
length-slots (e ∷ es) = let r = length-slots es in omega (arith, r)

pub skipped_first : {L : Type 0} (first : Entry L) (rest : List (Entry L)) → deleted first.tag ≡ true → skip (first ∷ rest) ≡ skip rest
skipped_first first rest e = rw e refl

module _ {L : Type 0} (link : L → Option ℕ) where
  pub hung_used : (w : State L) (c : ℕ) (t : Tag) (es : List (Entry L)) → IsList link w c t es → AreUsed w.states (slots es)
  hung_used w c t [] h = tt
  hung_used w c t (e ∷ es) h = (ap usage h.1.shared, h.3, hung_used w e.link e.tag es h.4)

  -- a list has at most as many entries as slots have items
  pub hung_length : (w : State L) (c : ℕ) (t : Tag) (es : List (Entry L)) → IsList link w c t es → length es ≤ in_use w
  hung_length w c t es h = let r = used_slots w.states (slots es) (hung_used w c t es h) in omega (arith, r, length-slots es)

  -- the rest behind the first entry
  pub behind : (w : State L) (c d : ℕ) (t : Tag) (item : L) (gone : Bool) (es : List (Entry L)) → IsList link w c t es → (b : BeginsWithItem es item d gone) → IsList link w d b.first.tag b.rest
  behind w c d t item gone es h b =
      let g = subst (λ (xs : List (Entry L)). IsList link w c t xs) b.is h in
      subst (λ (j : ℕ). IsList link w j b.first.tag b.rest) (sym b.link_is) g.4

  pub behind_hangs : (w : State L) (c d : ℕ) (item : L) (gone : Bool) → (h : Hangs link w c) → BeginsWithItem h.entries item d gone → Hangs link w d
  behind_hangs w c d item gone h b = record { tag = b.first.tag; entries = b.rest; is = behind w c d h.tag item gone h.entries h.is b }

  pub skip_none : (w : State L) (t : Tag) (es : List (Entry L)) (n c : ℕ) (k : Skipped link w t es n c) → k.rest ≡ [] → (u : Tag) × IsList link w c u (skip es) × (u ≡ front_tag t es)
  skip_none w t es n c k none = (k.tag, subst (λ (xs : List (Entry L)). IsList link w c k.tag xs) (none ∙ ap skip (sym none) ∙ k.same) k.hung, ap (λ (xs : List (Entry L)). front_tag k.tag xs) (sym none) ∙ k.tags)

  pub skip_all : (w : State L) (es : List (Entry L)) (n c c0 : ℕ) (t0 : Tag) → IsList link w c0 t0 es → in_use w ≤ n → Skipped link w t0 es n c → (u : Tag) × IsList link w c u (skip es) × (u ≡ front_tag t0 es)
  skip_all w es n c c0 t0 h enough k = let m = hung_length w c0 t0 es h in skip_none w t0 es n c k (nil_from_length k.rest (omega (arith, m, k.passed, enough)))

  gone_one : (first : Entry L) (rest : List (Entry L)) → deleted first.tag ≡ true → length (undeleted (first ∷ rest)) ≡ length (undeleted rest)
  gone_one first rest e = rw e refl

  kept_one : (first : Entry L) (rest : List (Entry L)) → deleted first.tag ≡ false → length (undeleted (first ∷ rest)) ≡ suc (length (undeleted rest))
  kept_one first rest e = rw e refl

  count_gone : (w : State L) (es : List (Entry L)) (n m c d : ℕ) (item : L) (k : PassedEntries link w es n m c) → BeginsWithItem k.rest item d true → PassedEntries link w es (n + 1) m d
  count_gone w es n m c d item k b = record {
    tag = b.first.tag;
    rest = b.rest;
    hung = behind w c d k.tag item true k.rest k.hung b;
    same = let e : length (undeleted k.rest) ≡ length (undeleted (b.first ∷ b.rest)) = ap (λ (xs : List (Entry L)). length (undeleted xs)) b.is in omega (arith, e, gone_one b.first b.rest (sym b.gone_is), k.same);
    passed = let e : length k.rest ≡ length (b.first ∷ b.rest) = ap length b.is in omega (arith, e, k.passed);
  }

  count_kept : (w : State L) (es : List (Entry L)) (n m c d : ℕ) (item : L) (k : PassedEntries link w es n m c) → BeginsWithItem k.rest item d false → PassedEntries link w es (n + 1) (m + 1) d
  count_kept w es n m c d item k b = record {
    tag = b.first.tag;
    rest = b.rest;
    hung = behind w c d k.tag item false k.rest k.hung b;
    same = let e : length (undeleted k.rest) ≡ length (undeleted (b.first ∷ b.rest)) = ap (λ (xs : List (Entry L)). length (undeleted xs)) b.is in omega (arith, e, kept_one b.first b.rest (sym b.gone_is), k.same);
    passed = let e : length k.rest ≡ length (b.first ∷ b.rest) = ap length b.is in omega (arith, e, k.passed);
  }

  pub count_next : (w : State L) (es : List (Entry L)) (n m c d : ℕ) (item : L) (gone : Bool) (k : PassedEntries link w es n m c) → BeginsWithItem k.rest item d gone → PassedEntries link w es (n + 1) (cond gone m (m + 1)) d
  count_next w es n m c d item true k b = count_gone w es n m c d item k b
  count_next w es n m c d item false k b = count_kept w es n m c d item k b

  pub count_none : (w : State L) (es : List (Entry L)) (n m c : ℕ) (k : PassedEntries link w es n m c) → k.rest ≡ [] → m ≡ length (undeleted es)
  count_none w es n m c k none = let e : length (undeleted k.rest) ≡ 0 = ap (λ (xs : List (Entry L)). length (undeleted xs)) none in omega (arith, e, k.same)

  pub count_all : (w : State L) (es : List (Entry L)) (n m c c0 : ℕ) (t0 : Tag) → IsList link w c0 t0 es → in_use w ≤ n → PassedEntries link w es n m c → m ≡ length (undeleted es)
  count_all w es n m c c0 t0 h enough k = let l = hung_length w c0 t0 es h in count_none w es n m c k (nil_from_length k.rest (omega (arith, l, k.passed, enough)))

-- counting takes at most one more
pub count_small : (gone : Bool) (m n : ℕ) → m ≤ n → cond gone m (m + 1) ≤ n + 1
count_small true m n h = omega (arith, h)
count_small false m n h = omega (arith, h)
