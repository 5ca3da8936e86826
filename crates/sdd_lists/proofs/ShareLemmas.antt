-- the first entry of a list is taken off, shared and put back
use Rattle.std.proofs.lemmas.Bool.{cases_eq}
use Rattle.std.proofs.Common.{◌≤◌, ◌+◌, None, Some, arith, get_or-set_same, inl, inr, ◌≡◌, ◌≢◌, ℕ, Option, List, [], ◌∷◌, refl, sym, ap, ◌∙◌, subst, get_or-set_other}
use Rattle.sdd_world.specs.State.{State, status_at, cell_at, with_status}
use Rattle.sdd_world.specs.declared.tag.Tag.{Tag}
use Rattle.sdd_world.specs.declared.status.Status.TheVariants as status
use Rattle.sdd_world.specs.declared.status.Cell.TheVariants as cell
use Rattle.sdd_lists.specs.Chain.{Entry, slots, links, IsOut, IsList, IsDetached, Leaves, FitsBefore, CanHang, TookFirst, MoreOwners, OneMore}
use Rattle.sdd_lists.proofs.ChainLemmas.{full_empty, kept_same, some_same, hung_out, leaves_then, leaves_more, leaves_all, inside_states}
use Rattle.sdd_lists.proofs.ReleaseLemmas.{item_owners, hung_owners}
use Rattle.sdd_lists.proofs.ListHeadLemmas.{TookSome, took_nothing, same_use}

pub shared_same : (n m : ℕ) → status.Shared n ≡ status.Shared m → n ≡ m
shared_same n m e = cc

leaves_owners : {L : Type 0} (w : State L) (i m : ℕ) → Leaves [] (i ∷ []) w (with_status i (status.Shared m) w)
leaves_owners w i m = record {
  cells = λ j out used. refl;
  uses = λ j out used. get_or-set_other w.states i j (status.Shared m) status.Free out.0;
  values = λ j out used. refl;
}

module _ {L : Type 0} (link : L → Option ℕ) (w w1 w2 : State L) (c i : ℕ) (t : Tag) (es : List (Entry L)) (h : IsList link w c t es) (k : TookSome link w w1 c i t es) where
  -- the list and its first entry, while that is off: its owners were counted, or not
  pub record Off : Type 0 where
    pub left : IsList link w2 c t k.rest
    pub loose : IsDetached link w2 k.entry
    pub leaves : Leaves [] (i ∷ []) w1 w2

  pub off_same : w2 ≡ w1 → Off
  off_same e = record {
    left = subst (λ (v : State L). IsList link v c t k.rest) (sym e) k.left;
    loose = subst (λ (v : State L). IsDetached link v k.entry) (sym e) k.loose;
    leaves = subst (λ (v : State L). Leaves [] (i ∷ []) w1 v) (sym e) (leaves_all [] (i ∷ []) w1);
  }

  pub off_more : (n m : ℕ) → 1 ≤ m → status_at w1 i ≡ status.Shared n → w2 ≡ with_status i (status.Shared m) w1 → Off
  off_more n m some is e =
      let lt = inside_states w1.states i n is in
      record {
        left = subst (λ (v : State L). IsList link v c t k.rest) (sym e) (hung_owners link i m c t k.rest w1 some lt k.left);
        loose = subst (λ (v : State L). IsDetached link v k.entry) (sym e) (record { item = item_owners link i m w1 k.entry some lt k.loose.item; empty = k.loose.empty });
        leaves = subst (λ (v : State L). Leaves [] (i ∷ []) w1 v) (sym e) (leaves_owners w1 i m);
      }

  fits_off : IsList link w2 c t k.rest → FitsBefore c k.rest k.entry
  fits_off g = record { cell = (k.apart, hung_out link w2 c t k.rest g); link = k.out; slot = k.alone }

  pub can_return : Off → CanHang link w2 c i
  can_return o = record { tag = t; entries = k.rest; entry = k.entry; hung = o.left; loose = o.loose; fits = fits_off o.left; at = k.at }

  module _ (w3 : State L) (o : Off) (put : (u : Tag) (xs : List (Entry L)) (x : Entry L) → IsList link w2 c u xs → IsDetached link w2 x → FitsBefore c xs x → i ≡ x.slot → IsList link w3 c u (x ∷ xs) × Leaves (c ∷ x.link ∷ []) [] w2 w3) where
    back : IsList link w3 c t (k.entry ∷ k.rest) × Leaves (c ∷ k.entry.link ∷ []) [] w2 w3
    back = put t k.rest k.entry o.left o.loose (fits_off o.left) k.at

    pub shared_hung : IsList link w3 c t es
    shared_hung = subst (λ (xs : List (Entry L)). IsList link w3 c t xs) (sym k.is) back.0

    -- the first entry has one owner more
    pub one_more : (n : ℕ) → status_at w1 i ≡ status.Shared n → w2 ≡ with_status i (status.Shared (n + 1)) w1 → OneMore w w3 i
    one_more n is e =
        let item = (subst (λ (xs : List (Entry L)). IsList link w c t xs) k.is h).1 in
        let was : status_at w i ≡ status.Shared item.owners = ap (λ (j : ℕ). status_at w j) k.at ∙ item.shared in
        let same : n ≡ item.owners = shared_same n item.owners (sym is ∙ same_use w w1 (c ∷ k.entry.link ∷ []) i item.owners k.leaves was) in
        let two : status_at w2 i ≡ status.Shared (n + 1) = ap (λ (v : State L). status_at v i) e ∙ get_or-set_same w1.states i (status.Shared (n + 1)) status.Free (inside_states w1.states i n is) in
        record {
          owners = n;
          was = was ∙ ap status.Shared (sym same);
          had = let o = item.owned in omega (arith, same, o);
          now = same_use w2 w3 (c ∷ k.entry.link ∷ []) i (n + 1) back.1 two;
        }

    -- no owners are lost
    pub shared_owners : MoreOwners w1 w2 → MoreOwners w w3
    shared_owners grow = λ j n is.
        let b = grow j n (same_use w w1 (c ∷ k.entry.link ∷ []) j n k.leaves is) in
        (b.0, same_use w2 w3 (c ∷ k.entry.link ∷ []) j b.0 back.1 b.1, b.2)

    pub shared_leaves : Leaves (c ∷ links es) (slots es) w w3
    shared_leaves =
        let inside : (j : ℕ) → IsOut j (links es) → IsOut j (links (k.entry ∷ k.rest)) = λ j out. subst (λ (ys : List (Entry L)). IsOut j (links ys)) k.is out in
        let inside' : (j : ℕ) → IsOut j (slots es) → j ≢ i = λ j out. subst (λ (m : ℕ). j ≢ m) (sym k.at) (subst (λ (ys : List (Entry L)). IsOut j (slots ys)) k.is out).0 in
        let one = leaves_more (c ∷ k.entry.link ∷ []) [] (c ∷ links es) (slots es) w w1 (λ j out. (out.0, ((inside j out.1).0, tt))) (λ j out. tt) k.leaves in
        let two = leaves_more [] (i ∷ []) (c ∷ links es) (slots es) w1 w2 (λ j out. tt) (λ j out. (inside' j out, tt)) o.leaves in
        let three = leaves_more (c ∷ k.entry.link ∷ []) [] (c ∷ links es) (slots es) w2 w3 (λ j out. (out.0, ((inside j out.1).0, tt))) (λ j out. tt) back.1 in
        leaves_then (c ∷ links es) (slots es) w w2 w3 (leaves_then (c ∷ links es) (slots es) w w1 w2 one two) three

pub owners_same : {L : Type 0} (w w' : State L) → w' ≡ w → MoreOwners w w'
owners_same {L} w w' e = λ j n is. (n, ap (λ (v : State L). status_at v j) e ∙ is, omega arith)

pub owners_more : {L : Type 0} (w w' : State L) (i m : ℕ) → status_at w i ≡ status.Shared m → w' ≡ with_status i (status.Shared (m + 1)) w → MoreOwners w w'
owners_more {L} w w' i m at e = λ j n is. elim (cases_eq j i) as (λ _. (k : ℕ) × (status_at w' j ≡ status.Shared k) × (n ≤ k)) [
  | inl q ↦
      let same : n ≡ m = shared_same n m (sym is ∙ ap (λ (k : ℕ). status_at w k) q ∙ at) in
      (m + 1, ap (λ (v : State L). status_at v j) e ∙ ap (λ (k : ℕ). status_at (with_status i (status.Shared (m + 1)) w) k) q ∙ get_or-set_same w.states i (status.Shared (m + 1)) status.Free (inside_states w.states i m at), omega (arith, same))
  | inr ne ↦ (n, ap (λ (v : State L). status_at v j) e ∙ get_or-set_other w.states i j (status.Shared (m + 1)) status.Free ne ∙ is, omega arith)
]

pub owners_none : {L : Type 0} (link : L → Option ℕ) (w w1 : State L) (c : ℕ) (t : Tag) (es : List (Entry L)) → TookFirst link w w1 c t es None → MoreOwners w w1
owners_none link w w1 c t es k = λ j n is. (n, same_use w w1 [] j n (took_nothing link w w1 c t es k).2 is, omega arith)

-- the first entry of a list has an owner
pub hung_owned : {L : Type 0} (link : L → Option ℕ) (w : State L) (c i n : ℕ) (t u : Tag) (es : List (Entry L)) → IsList link w c t es → cell_at w c ≡ cell.OfShared (Some i) u → status_at w i ≡ status.Shared n → 1 ≤ n
hung_owned link w c i n t u [] h kept is = absurd (full_empty None i t u (sym h ∙ kept))
hung_owned link w c i n t u (e ∷ es) h kept is =
    let at : e.slot ≡ i = some_same e.slot i (kept_same (Some e.slot) (Some i) t u (sym h.0 ∙ kept)) in
    let same : n ≡ h.1.owners = shared_same n h.1.owners (sym is ∙ ap (λ (j : ℕ). status_at w j) (sym at) ∙ h.1.shared) in
    let o = h.1.owned in
    omega (arith, same, o)
