use Rattle.world_containers.proofs.Names.{◌≡◌, ℕ, [], ◌∷◌, ◌⊎◌, drop, map, refl, sym, subst, ◌∙◌, inl, inr, arith, false, length-map, drop_all, link_cell, shared_cell, IsNull, IsList, entry_link, IsLeft, Finds, head_cell, hung_there, starts, starts_not, starts_link}
use Rattle.world_containers.proofs.MutableIterationLemmas.{hangs_at, left_none, find_first}
use Rattle.world_containers.proofs.world.iter_mut.WorldLinkedEntryWalkedPlace.next_stop.Goals as goal

pub as_ref-requires-clause-cell : goal.as_ref-requires-clause-cell
as_ref-requires-clause-cell g c =
    let w = c.args.self.now in
    let ts = c.args.cells.now.items in
    let s = c.requires in
    let l = c.seek-spot.ensures.left s.entries (subst (λ (j : ℕ). IsLeft w (j ∷ drop c.args.row (map shared_cell ts)) s.entries) (sym (c.of.ensures ∙ c.cell.ensures)) s.is) in
    let h = hangs_at w (link_cell c.seek-spot.result.at) (shared_cell c.cell-2.result.now) (drop c.seek-spot.result.row (map shared_cell ts)) c.cell-2.ensures (record { entries = s.entries; is = l }) in
    head_cell entry_link w (shared_cell c.cell-2.result.now) h.tag h.entries h.is

pub as_ref-requires-clause-there : goal.as_ref-requires-clause-there
as_ref-requires-clause-there g c =
    let w = c.args.self.now in
    let ts = c.args.cells.now.items in
    let s = c.requires in
    let l = c.seek-spot.ensures.left s.entries (subst (λ (j : ℕ). IsLeft w (j ∷ drop c.args.row (map shared_cell ts)) s.entries) (sym (c.of.ensures ∙ c.cell.ensures)) s.is) in
    let h = hangs_at w (link_cell c.seek-spot.result.at) (shared_cell c.cell-2.result.now) (drop c.seek-spot.result.row (map shared_cell ts)) c.cell-2.ensures (record { entries = s.entries; is = l }) in
    hung_there entry_link w (shared_cell c.cell-2.result.now) h.tag h.entries h.is

pub returns-in_default-clause-none : goal.returns-in_default-clause-none
returns-in_default-clause-none g c = λ es l.
    let w = c.args.self.now in
    let ts = c.args.cells.now.items in
    let k = c.seek-spot.ensures.left es (subst (λ (j : ℕ). IsLeft w (j ∷ drop c.args.row (map shared_cell ts)) es) (sym (c.of.ensures ∙ c.cell.ensures)) l) in
    let last : (drop c.seek-spot.result.row (map shared_cell ts) ≡ []) ⊎ IsNull w (link_cell c.seek-spot.result.at) false = elim c.seek-spot.ensures.found [
      | inl over ↦ inl (drop_all c.seek-spot.result.row (map shared_cell ts) (let e = length-map ts shared_cell in omega (arith, e, over)))
      | inr some ↦ inr some
    ] in
    left_none w (link_cell c.seek-spot.result.at) (drop c.seek-spot.result.row (map shared_cell ts)) es (λ t fs h. starts_not entry_link w (shared_cell c.cell-2.result.now) t fs (subst (λ (j : ℕ). IsList entry_link w j t fs) (sym c.cell-2.ensures) h) c.in_default.ensures.item) last k

pub link_ref-requires : goal.link_ref-requires
link_ref-requires g c =
    let w = c.args.self.now in
    let ts = c.args.cells.now.items in
    let s = c.requires in
    let l = c.seek-spot.ensures.left s.entries (subst (λ (j : ℕ). IsLeft w (j ∷ drop c.args.row (map shared_cell ts)) s.entries) (sym (c.of.ensures ∙ c.cell.ensures)) s.is) in
    let h = hangs_at w (link_cell c.seek-spot.result.at) (shared_cell c.cell-2.result.now) (drop c.seek-spot.result.row (map shared_cell ts)) c.cell-2.ensures (record { entries = s.entries; is = l }) in
    let k = starts entry_link _ w (shared_cell c.cell-2.result.now) h.tag h.entries c.in-Some.item.now h.is c.in-Some.ensures.null c.in-Some.ensures.value in
    rw (starts_link entry_link _ _ _ _ _ k) refl

pub returns-clause-some : goal.returns-clause-some
returns-clause-some g c = λ es l.
    let w = c.args.self.now in
    let ts = c.args.cells.now.items in
    let rest = drop c.seek-spot.result.row (map shared_cell ts) in
    let k = c.seek-spot.ensures.left es (subst (λ (j : ℕ). IsLeft w (j ∷ drop c.args.row (map shared_cell ts)) es) (sym (c.of.ensures ∙ c.cell.ensures)) l) in
    let k' = subst (λ (j : ℕ). IsLeft w (j ∷ rest) es) (sym c.cell-2.ensures) k in
    let f = find_first w (shared_cell c.cell-2.result.now) (shared_cell c.link_ref.result.now) rest c.in-Some.item.now es (λ t fs h. starts entry_link _ w (shared_cell c.cell-2.result.now) t fs c.in-Some.item.now h c.in-Some.ensures.null c.in-Some.ensures.value) c.link_ref.ensures k' in
    subst (λ (j : ℕ). Finds w j (link_cell c.of-next.result ∷ rest) es) c.cell-2.ensures (subst (λ (j : ℕ). Finds w (shared_cell c.cell-2.result.now) (j ∷ rest) es) (sym c.of-next.ensures) f)
