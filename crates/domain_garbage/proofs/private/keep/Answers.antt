use Rattle.std.proofs.Common.{◌≡◌, ◌<◌, ◌≤◌, ◌+◌, ◌++◌, ◌∷◌, [], ℕ, List, map, append-nil, sym, ap, ◌∙◌, subst}
use Rattle.sdd_steps.specs.State.{Has}
use Rattle.sdd_steps.proofs.ListLemmas.{has_map}
use Rattle.sdd_homes.specs.declared.Garbage.{Garbage}
use Rattle.domain_table.proofs.WaitLemmas.{alone, below_alike, below_one, below_parts}
use Rattle.domain_garbage.specs.Bag.{garbage_told}
use Rattle.domain_garbage.proofs.Keeping.{alike_ages, alike_told}
use Rattle.domain_garbage.proofs.RunLemmas.{last_of}
use Rattle.domain_garbage.proofs.private.keep.Goals as goal

pub join_noted-kept-requires-clause-bags : goal.join_noted-kept-requires-clause-bags
join_noted-kept-requires-clause-bags g c = let q = c.requires.came in (q.0 ∷ [], q.1, [], q.2 ∙ ap (λ (zs : List Garbage). q.0 ∷ zs) (sym (append-nil q.1)), alone q.0 c.args.noted.slot q.3, q.5.chain)

pub put-requires-clause-most : goal.put-requires-clause-most
put-requires-clause-most g c = λ n has. let q = c.requires.came in let p = has_map (λ (w : Garbage). w.age) q.1 n (subst (λ (xs : List ℕ). Has xs n) q.5.notes has) in subst (λ (k : ℕ). k ≤ c.args.noted.note) p.2 (q.7 p.0 p.1)

pub put-requires-clause-young : goal.put-requires-clause-young
put-requires-clause-young g c = λ ns n e. let q = c.requires.came in let p = last_of (λ (w : Garbage). w.age) q.1 ns n (sym q.5.notes ∙ e) in subst (λ (k : ℕ). c.args.noted.note < k + 3) p.3 (q.8 p.0 p.1 p.2)

pub returns-clause-kept : goal.returns-clause-kept
returns-clause-kept g c = let q = c.requires.came in let w = q.0 in let ws = q.1 in let n = c.args.place.sizes.now.slots in let m = c.args.seat.now.me in
    let r = c.join_noted-kept.ensures.joined (w ∷ []) ws [] (q.2 ∙ ap (λ (zs : List Garbage). w ∷ zs) (sym (append-nil ws))) (alone w c.args.noted.slot q.3) q.5.chain in (
      w ∷ r.0,
      record {
        chain = r.2;
        notes = c.put.ensures ∙ (λ j. sym q.4 j ∷ (q.5.notes ∙ sym (alike_ages ws r.0 r.1)) j);
        below = below_parts n (w ∷ []) r.0 (below_one n w (subst (λ (k : ℕ). k < n) (sym q.3) c.requires.table.1)) (below_alike n ws r.0 r.1 q.5.below);
      },
      ap (λ (zs : List (ℕ × ℕ)). garbage_told w ∷ zs) (alike_told ws r.0 r.1) ∙ ap (map garbage_told) (sym q.2),
      r.3 ∙ λ j. (record m.0 { collected = w ∷ append-nil r.0 j }, m.1),
    )
