-- the first undeleted entry of a list
use Rattle.std.proofs.Common.{◌≡◌, ◌≢◌, ◌<◌, IfSome, ℕ, true, false, Option, None, Some, List, [], ◌∷◌, sym, ap, ◌∙◌, refl, cond}
use Rattle.sdd_world.specs.State.{State, value_at, status_at, cell_at}
use Rattle.sdd_world.specs.declared.status.Status.TheVariants as status
use Rattle.sdd_world.specs.declared.tag.Tag.{Tag}
use Rattle.sdd_world.specs.declared.status.Cell.TheVariants as cell
use Rattle.sdd_lists.specs.Chain.{Entry, IsList, IsOut, Leaves, links, slots, skip, undeleted, deleted, first_item}
use Rattle.sdd_lists.proofs.ChainLemmas.{starts, starts_not, leaves_then, leaves_more}
use Rattle.sdd_lists.proofs.ListHeadLemmas.{none_skipped, some_skipped, skipped_links}

module _ {L : Type 0} (link : L → Option ℕ) where
  pub no_item : (w : State L) (c : ℕ) (t : Tag) (es : List (Entry L)) → IsList link w c t (skip es) → ((i : ℕ) (u : Tag) → cell_at w c ≡ cell.OfShared (Some i) u → false ≡ true) → None ≡ first_item (undeleted es)
  no_item w c t es h value = ap first_item (sym (none_skipped es (starts_not link w c t (skip es) h value)))

  pub some_item : {Y : Type 0} (y : Y) (w : State L) (c : ℕ) (t : Tag) (es : List (Entry L)) (item : L) → IsList link w c t (skip es) → ((u : Tag) → cell_at w c ≡ cell.OfShared None u → ◌≡◌ {A = Option Y} (Some y) None) → ((i : ℕ) (u : Tag) → cell_at w c ≡ cell.OfShared (Some i) u → Some item ≡ value_at w i) → Some item ≡ first_item (undeleted es)
  some_item y w c t es item h null value =
      let k = starts link y w c t (skip es) item h null value in
      ap (λ (i : L). Some i) k.item_is ∙ ap first_item (sym (some_skipped k.first k.rest es k.is))

pub undeleted_skip : {L : Type 0} (es : List (Entry L)) → undeleted (skip es) ≡ undeleted es
undeleted_skip [] = refl
undeleted_skip {L} (e ∷ es) = (elim (deleted e.tag) as (λ v. deleted e.tag ≡ v → undeleted (cond v (skip es) (e ∷ es)) ≡ cond v (undeleted es) (e ∷ undeleted es)) [ true ↦ λ q. undeleted_skip es | false ↦ λ q. kept_first_one e es q ]) refl
  where
    kept_first_one : (f : Entry L) (fs : List (Entry L)) → deleted f.tag ≡ false → undeleted (f ∷ fs) ≡ f ∷ undeleted fs
    kept_first_one f fs q = rw q refl

some_none_item : {L : Type 0} (x : L) → ◌≡◌ {A = Option L} (Some x) None → ⊥
some_none_item x q = cc

pub not_empty : {L : Type 0} (x : L) (es : List (Entry L)) → Some x ≡ first_item es → es ≡ [] → ⊥
not_empty x es is none = some_none_item x (is ∙ ap first_item none)

skipped_slots : {L : Type 0} (j : ℕ) (es : List (Entry L)) → IsOut j (slots es) → IsOut j (slots (skip es))
skipped_slots j [] out = tt
skipped_slots j (e ∷ es) out = elim (deleted e.tag) as (λ v. IsOut j (slots (cond v (skip es) (e ∷ es)))) [ true ↦ skipped_slots j es out.1 | false ↦ out ]

-- what is done to a list behind its deleted entries is done to the list
pub skipped_leaves : {L : Type 0} (w w1 w2 : State L) (c : ℕ) (es : List (Entry L)) → Leaves (c ∷ links es) (slots es) w w1 → Leaves (c ∷ links (skip es)) (slots (skip es)) w1 w2 → Leaves (c ∷ links es) (slots es) w w2
skipped_leaves w w1 w2 c es a b = leaves_then (c ∷ links es) (slots es) w w1 w2 a (leaves_more (c ∷ links (skip es)) (slots (skip es)) (c ∷ links es) (slots es) w1 w2 (λ j out. (out.0, skipped_links j es out.1)) (λ j out. skipped_slots j es out) b)

-- why a cell that keeps an item gives no more owners of it
pub none_more : {L : Type 0} (w : State L) (c : ℕ) (t : Tag) (o : Option ℕ) → cell_at w c ≡ cell.OfShared o t → ((i n : ℕ) (u : Tag) → cell_at w c ≡ cell.OfShared (Some i) u → n < 4294967295 → status_at w i ≢ status.Shared n) → IfSome o (λ i. (n : ℕ) → n < 4294967295 → status_at w i ≢ status.Shared n)
none_more w c t None is none = tt
none_more w c t (Some i) is none = λ n lt. none i n t is lt
