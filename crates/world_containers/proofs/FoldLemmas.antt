-- entries of a bag that are taken one after another
use Rattle.world_containers.proofs.Names.{◌≡◌, ◌≢◌, ◌++◌, ℕ, ◌+◌, ◌≤◌, List, [], ◌∷◌, length, refl, sym, ap, ◌∙◌, arith, subst, inl, inr, append_assoc, State, emptiness, vacancy, shared_slot, Entry, Leaves, IsDetached, IsOut, AreOut, links, slots, IsBag, AreOwn, AreSpare, Adds, Removes, CallsWith, TakesOne, entry_link, LinkedEntry, leaves_all, leaves_then, leaves_more}
use Rattle.std.proofs.lemmas.List.{length-append}
use Rattle.std.specs.List.{FoldsTo}
use Rattle.std.proofs.lemmas.Fn.{FoldsTo-push}
use Rattle.sdd_world.specs.declared.owner.Shared.{Shared}
use Rattle.world_containers.proofs.RowLemmas.{own_left, own_both, out_append, out_append_both}

module _ {X : Type 0} where
  removes_last : (xs : List X) (x : X) (ys zs rest : List X) → Removes xs ys zs → Adds x rest zs → Removes (xs ++ x ∷ []) ys rest
  removes_last [] x ys zs rest h a = (rest, subst (λ (es : List X). Adds x rest es) h a, refl)
  removes_last (e ∷ xs) x ys zs rest h a = (h.0, h.1, removes_last xs x h.0 zs rest h.2 a)

  pub adds_front : (x : X) (xs ys zs : List X) → Adds x xs ys → Adds x (xs ++ zs) (ys ++ zs)
  adds_front x xs ys zs a = record {
    before = a.before;
    after = a.after ++ zs;
    was = ap (λ (es : List X). es ++ zs) a.was ∙ append_assoc a.before a.after zs;
    now = ap (λ (es : List X). es ++ zs) a.now ∙ append_assoc a.before (x ∷ a.after) zs;
  }

  pub adds_length : (x : X) (xs ys : List X) → Adds x xs ys → length ys ≡ length xs + 1
  adds_length x xs ys a =
      let p : length xs ≡ length (a.before ++ a.after) = ap length a.was in
      let q : length ys ≡ length (a.before ++ x ∷ a.after) = ap length a.now in
      let m = length-append a.before a.after in
      let n = length-append a.before (x ∷ a.after) in
      omega (arith, p, q, m, n)

-- what isn't among the links of entries isn't among those of what is left of them
module _ {L : Type 0} (j : ℕ) where
  out_skip : (x : Entry L) (before after : List (Entry L)) → IsOut j (links (before ++ x ∷ after)) → IsOut j (links (before ++ after))
  out_skip x [] after out = out.1
  out_skip x (e ∷ es) after out = (out.0, out_skip x es after out.1)

  out_fewer : (taken ys zs : List (Entry L)) → Removes taken ys zs → IsOut j (links ys) → IsOut j (links zs)
  out_fewer [] ys zs h out = subst (λ (es : List (Entry L)). IsOut j (links es)) (sym h) out
  out_fewer (x ∷ xs) ys zs h out =
      let a = h.1 in
      let fewer : IsOut j (links (a.before ++ a.after)) = out_skip x a.before a.after (subst (λ (es : List (Entry L)). IsOut j (links es)) a.now out) in
      out_fewer xs h.0 zs h.2 (subst (λ (es : List (Entry L)). IsOut j (links es)) (sym a.was) fewer)

  -- beside the cells of a bag
  pub out_left : (cs : List ℕ) (taken ys zs : List (Entry L)) → Removes taken ys zs → IsOut j (cs ++ links ys) → IsOut j (cs ++ links zs)
  out_left cs taken ys zs h out = let both = out_append j cs (links ys) out in out_append_both j cs (links zs) both.0 (out_fewer taken ys zs h both.1)

-- the same for a whole list, and for slots
module _ {L : Type 0} where
  slots_skip : (j : ℕ) (x : Entry L) (before after : List (Entry L)) → IsOut j (slots (before ++ x ∷ after)) → (j ≢ x.slot) × IsOut j (slots (before ++ after))
  slots_skip j x [] after out = (out.0, out.1)
  slots_skip j x (e ∷ es) after out = let r = slots_skip j x es after out.1 in (r.0, (out.0, r.1))

  are_links_left : (cs xs : List ℕ) (x : Entry L) (ys zs : List (Entry L)) → Adds x zs ys → AreOut xs (cs ++ links ys) → AreOut xs (cs ++ links zs)
  are_links_left cs [] x ys zs a h = tt
  are_links_left cs (j ∷ js) x ys zs a h = (out_left j cs (x ∷ []) ys zs (zs, a, refl) h.0, are_links_left cs js x ys zs a h.1)

  slots_left : (j : ℕ) (x : Entry L) (ys zs : List (Entry L)) → Adds x zs ys → IsOut j (slots ys) → (j ≢ x.slot) × IsOut j (slots zs)
  slots_left j x ys zs a h =
      let r = slots_skip j x a.before a.after (subst (λ (es : List (Entry L)). IsOut j (slots es)) a.now h) in
      (r.0, subst (λ (es : List (Entry L)). IsOut j (slots es)) (sym a.was) r.1)

  are_slots_left : (js : List ℕ) (x : Entry L) (ys zs : List (Entry L)) → Adds x zs ys → AreOut js (slots ys) → AreOut js (slots zs)
  are_slots_left [] x ys zs a h = tt
  are_slots_left (j ∷ js) x ys zs a h = ((slots_left j x ys zs a h.0).1, are_slots_left js x ys zs a h.1)

  are_links_last : (xs : List (Entry L)) (x : Entry L) (zs : List ℕ) → AreOut (links xs) zs → IsOut x.link zs → AreOut (links (xs ++ x ∷ [])) zs
  are_links_last [] x zs h k = (k, tt)
  are_links_last (e ∷ es) x zs h k = (h.0, are_links_last es x zs h.1 k)

  are_slots_last : (xs : List (Entry L)) (x : Entry L) (zs : List ℕ) → AreOut (slots xs) zs → IsOut x.slot zs → AreOut (slots (xs ++ x ∷ [])) zs
  are_slots_last [] x zs h k = (k, tt)
  are_slots_last (e ∷ es) x zs h k = (h.0, are_slots_last es x zs h.1 k)

  slots_last : (j : ℕ) (xs : List (Entry L)) (x : Entry L) → IsOut j (slots xs) → j ≢ x.slot → IsOut j (slots (xs ++ x ∷ []))
  slots_last j [] x h k = (k, tt)
  slots_last j (e ∷ es) x h k = (h.0, slots_last j es x h.1 k)

module _ {T : Type 0} (w w' : State (LinkedEntry T)) where
  -- entries in no list stay so where their links are left
  spare_left : (cs : List ℕ) (es : List (Entry (LinkedEntry T))) → Leaves cs [] w w' → AreOut (links es) cs → AreSpare w es → AreSpare w' es
  spare_left cs [] l out h = tt
  spare_left cs (e ∷ es) l out h = (
    record {
      item = record {
        owners = h.0.item.owners;
        shared = l.uses e.slot tt (ap vacancy h.0.item.shared) ∙ h.0.item.shared;
        owned = h.0.item.owned;
        here = l.values e.slot tt (ap vacancy h.0.item.shared) ∙ h.0.item.here;
        linked = h.0.item.linked;
      };
      empty = l.cells e.link out.0 (ap emptiness h.0.empty) ∙ h.0.empty;
    },
    h.1,
    spare_left cs es l out.1 h.2,
  )

  spare_last : (xs ys : List (Entry (LinkedEntry T))) (x : Entry (LinkedEntry T)) (zs : List (Entry (LinkedEntry T))) → Adds x zs ys → AreOut (slots xs) (slots ys) → AreSpare w' xs → IsDetached entry_link w' x → AreSpare w' (xs ++ x ∷ [])
  spare_last [] ys x zs a out h k = (k, tt, tt)
  spare_last (e ∷ es) ys x zs a out h k = (h.0, slots_last e.slot es x h.1 (slots_left e.slot x ys zs a out.0).0, spare_last es ys x zs a out.1 h.2 k)

module _ {T : Type 0} (n : ℕ) (cs : List ℕ) where
  -- a bag with one entry fewer
  record Less (w : State (LinkedEntry T)) (e : Entry (LinkedEntry T)) (all : List (Entry (LinkedEntry T))) : Type 0 where
    primary : List (Entry (LinkedEntry T))
    overflow : List (Entry (LinkedEntry T))
    is : IsBag n w cs primary overflow
    adds : Adds e (overflow ++ primary) all
    alone : IsOut e.slot (slots (overflow ++ primary))
    apart : IsOut e.link (cs ++ links (overflow ++ primary))

  less : (w : State (LinkedEntry T)) (i : ℕ) (ps os : List (Entry (LinkedEntry T))) → (t : TakesOne n w cs i ps os) → Less w t.entry (os ++ ps)
  less w i ps os t = elim t.left [
    | inl l ↦ record { primary = ps; overflow = t.rest; is = l.1; adds = adds_front t.entry t.rest os ps l.0; alone = l.2; apart = l.3 }
    | inr l ↦ record { primary = t.rest; overflow = []; is = l.2; adds = subst (λ (es : List (Entry (LinkedEntry T))). Adds t.entry t.rest (es ++ ps)) (sym l.0) l.1; alone = l.3; apart = l.4 }
  ]

  module _ {B F : Type 0} (step : F → B → Shared (LinkedEntry T) → B → F → Type 0) where
    -- k entries were taken, and a closure was called with each owner
    pub record Popped (w0 w : State (LinkedEntry T)) (ps os : List (Entry (LinkedEntry T))) (start now : B × F) (k : ℕ) : Type 0 where
      pub taken : List (Entry (LinkedEntry T))
      pub primary : List (Entry (LinkedEntry T))
      pub overflow : List (Entry (LinkedEntry T))
      pub is : IsBag n w cs primary overflow
      pub removes : Removes taken (os ++ ps) (overflow ++ primary)
      pub size : k + length (overflow ++ primary) ≡ length (os ++ ps)
      pub own : AreOwn w taken
      pub spare : AreSpare w taken
      pub far : AreOut (links taken) (cs ++ links (overflow ++ primary))
      pub others : AreOut (slots taken) (slots (overflow ++ primary))
      pub leaves : Leaves (cs ++ links (os ++ ps)) [] w0 w
      pub folds : FoldsTo (CallsWith step) start taken now

    pub popped_start : (w : State (LinkedEntry T)) (ps os : List (Entry (LinkedEntry T))) (start : B × F) → IsBag n w cs ps os → Popped w w ps os start start 0
    popped_start w ps os start b = record { taken = []; primary = ps; overflow = os; is = b; removes = refl; size = omega arith; own = tt; spare = tt; far = tt; others = tt; leaves = leaves_all (cs ++ links (os ++ ps)) [] w; folds = refl }

    pub popped_next : (w0 w w' : State (LinkedEntry T)) (ps os : List (Entry (LinkedEntry T))) (start now next : B × F) (k : ℕ) (o : Shared (LinkedEntry T)) → (p : Popped w0 w ps os start now k) → ((ps' os' : List (Entry (LinkedEntry T))) → IsBag n w cs ps' os' → TakesOne n w' cs (shared_slot o) ps' os') → ((ps' os' : List (Entry (LinkedEntry T))) → IsBag n w cs ps' os' → Leaves (cs ++ links (os' ++ ps')) [] w w') → step now.1 now.0 o next.0 next.1 → Popped w0 w' ps os start next (k + 1)
    popped_next w0 w w' ps os start now next k o p takes leaves called =
        let t = takes p.primary p.overflow p.is in
        let l = less w' (shared_slot o) p.primary p.overflow t in
        record {
          taken = p.taken ++ t.entry ∷ [];
          primary = l.primary;
          overflow = l.overflow;
          is = l.is;
          removes = removes_last p.taken t.entry (os ++ ps) (p.overflow ++ p.primary) (l.overflow ++ l.primary) p.removes l.adds;
          size = let a = adds_length t.entry (l.overflow ++ l.primary) (p.overflow ++ p.primary) l.adds in let s = p.size in omega (arith, a, s);
          own = own_both w' p.taken (t.entry ∷ []) (own_left w w' (cs ++ links (p.overflow ++ p.primary)) p.taken (leaves p.primary p.overflow p.is) p.own) (t.clear, t.owners, tt);
          spare = spare_last w w' p.taken (p.overflow ++ p.primary) t.entry (l.overflow ++ l.primary) l.adds p.others (spare_left w w' (cs ++ links (p.overflow ++ p.primary)) p.taken (leaves p.primary p.overflow p.is) p.far p.spare) t.loose;
          far = are_links_last p.taken t.entry (cs ++ links (l.overflow ++ l.primary)) (are_links_left cs (links p.taken) t.entry (p.overflow ++ p.primary) (l.overflow ++ l.primary) l.adds p.far) l.apart;
          others = are_slots_last p.taken t.entry (slots (l.overflow ++ l.primary)) (are_slots_left (slots p.taken) t.entry (p.overflow ++ p.primary) (l.overflow ++ l.primary) l.adds p.others) l.alone;
          leaves = leaves_then (cs ++ links (os ++ ps)) [] w0 w w' p.leaves (leaves_more (cs ++ links (p.overflow ++ p.primary)) [] (cs ++ links (os ++ ps)) [] w w' (λ j out. out_left j cs p.taken (os ++ ps) (p.overflow ++ p.primary) p.removes out) (λ j out. out) (leaves p.primary p.overflow p.is));
          folds = FoldsTo-push (CallsWith step) start p.taken now t.entry next p.folds (o, t.at, called);
        }

-- nothing is left
pub popped_all : {X : Type 0} (ps os : List X) → length (os ++ ps) ≡ 0 → (ps ≡ []) × (os ≡ []) × (os ++ ps ≡ [])
popped_all [] [] h = (refl, refl, refl)
popped_all (p ∷ ps) [] h = absurd (omega (arith, h))
popped_all ps (o ∷ os) h = absurd (omega (arith, h))

pub popped_none : {X : Type 0} (ps os : List X) → ps ≡ [] → os ≡ [] → 1 ≤ length (os ++ ps) → ⊥
popped_none ps os e f some =
    let p : length ps ≡ 0 = ap length e in
    let o : length os ≡ 0 = ap length f in
    let b = length-append os ps in
    omega (arith, p, o, b, some)
