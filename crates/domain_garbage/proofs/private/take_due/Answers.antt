use Rattle.std.proofs.Common.{◌≡◌, ◌+◌, ◌≤◌, ◌++◌, ◌∷◌, [], ℕ, List, map, refl, sym, ap, ◌∙◌, subst, arith}
use Rattle.std.proofs.lemmas.List.{map-append}
use Rattle.sdd_steps.specs.State.{Has}
use Rattle.sdd_homes.specs.declared.Garbage.{Garbage}
use Rattle.domain_table.proofs.BagLemmas.{has_left}
use Rattle.domain_garbage.proofs.Keeping.{some_on}
use Rattle.domain_table.proofs.Reclaims.{snoc_same}
use Rattle.domain_garbage.proofs.private.take_due.Goals as goal

pub returns-clause-taken : goal.returns-clause-taken
returns-clause-taken g c = let k = c.requires.kept in let m = c.args.seat.now.me in let cs = m.0.collected in let o = c.in-Some.ensures.some in
    some_on c.take_noted-slot.result.0 _ _ (λ slot h. let t = h [] cs refl k.chain in let ds = t.0 in let w = t.1 in
    let ages : map (λ (v : Garbage). v.age) ds ++ w.age ∷ [] ≡ o.0 ++ c.in-Some.note ∷ [] = sym (map-append (λ (v : Garbage). v.age) ds (w ∷ [])) ∙ (ap (map (λ (v : Garbage). v.age)) (sym t.2) ∙ (sym k.notes ∙ o.1)) in
    let same = snoc_same (map (λ (v : Garbage). v.age) ds) o.0 w.age c.in-Some.note ages in let note = same.1 in
    (ds, w, t.2, t.3, omega (arith, note, c.if-count-lt3.false, c.if-note-count.false), record { chain = t.4; notes = c.take.ensures o.0 c.in-Some.note o.1 ∙ sym same.0; below = λ v has. k.below v (subst (λ (xs : List Garbage). Has xs v) (sym t.2) (has_left ds (w ∷ []) v has)) })) c.take_noted-slot.ensures.taken
