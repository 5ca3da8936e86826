use Rattle.std.proofs.Common.{◌++◌, ◌∷◌, ◌∙◌, ◌<◌, ◌+◌, List, Some, subst, sym, ap, refl, inl, map, arith}
use Rattle.sdd_steps.specs.State.{Has}
use Rattle.sdd_homes.specs.declared.Garbage.{Garbage}
use Rattle.domain_table.specs.Bags.{IsBag, without_next}
use Rattle.domain_table.proofs.BagLemmas.{newest, oldest_of, at_link, joins, has_right, has_oldest, has_left}
use Rattle.domain_table.proofs.bags.join.Goals as goal

pub follow-requires-clause-table : goal.follow-requires-clause-table
follow-requires-clause-table g c = let t = c.requires.table in let b = c.requires.bags in let n = newest b.1 c.args.older c.in-Some-older.front c.in-Some-older.is b.5 in
    let there = has_right b.0 (b.1 ++ b.2) n.0 (has_left b.1 b.2 n.0 (subst (λ (ws : List Garbage). Has ws n.0) (sym n.2) (inl refl))) in
    (t.0, t.1, t.2, t.3, subst (λ k. k < c.args.place.sizes.now.slots) (sym n.3) (c.requires.acts.1 n.0 (subst (λ (ws : List Garbage). Has ws n.0) (sym b.3) there)), t.4)

pub follow-requires-clause-acts : goal.follow-requires-clause-acts
follow-requires-clause-acts g c = let t = c.requires.table in let b = c.requires.bags in let m = newest b.0 c.args.newer c.in-Some.behind c.in-Some.is b.4 in let o = has_oldest m.0 m.1 in
    let there = has_left b.0 (b.1 ++ b.2) o.0 (subst (λ (ws : List Garbage). Has ws o.0) (sym m.2) o.1) in let low = c.requires.acts.1 o.0 (subst (λ (ws : List Garbage). Has ws o.0) (sym b.3) there) in let most = t.3.2 in let slot = o.2 in let first = m.4 in (c.requires.acts.0, omega arith)

pub follow-requires-clause-held : goal.follow-requires-clause-held
follow-requires-clause-held g c = let b = c.requires.bags in let m = newest b.0 c.args.newer c.in-Some.behind c.in-Some.is b.4 in let n = newest b.1 c.args.older c.in-Some-older.front c.in-Some-older.is b.5 in let o = oldest_of m.0 m.1 in
    (o.others, o.oldest, n.0, n.1 ++ b.2, b.3 ∙ ((λ j. m.2 j ++ (n.2 j ++ b.2)) ∙ at_link m.0 m.1 (n.0 ∷ n.1) b.2 o), o.slot ∙ sym m.4, sym n.3)

pub returns-clause-joined : goal.returns-clause-joined
returns-clause-joined g c = λ fs bs rest is new old. let m = newest fs c.args.newer c.in-Some.behind c.in-Some.is new in let n = newest bs c.args.older c.in-Some-older.front c.in-Some-older.is old in let o = oldest_of m.0 m.1 in
    let cs : List Garbage = record n.0 { next = o.oldest.slot + 1 } ∷ n.1 in (
      cs,
      ap (λ (xs : List Garbage). map without_next xs) (sym n.2),
      subst (λ (zs : List Garbage). IsBag (zs ++ cs) (Some (record { first = c.in-Some-older.front.first; last = c.in-Some.behind.last }))) (sym m.2) (joins m.0 m.1 n.0 n.1 (o.oldest.slot + 1) c.in-Some.behind c.in-Some-older.front m.3 n.4 m.5 n.5 (let a = o.slot in omega arith)),
      c.follow.ensures.followed o.others o.oldest n.0 (n.1 ++ rest) (is ∙ ((λ j. m.2 j ++ (n.2 j ++ rest)) ∙ at_link m.0 m.1 (n.0 ∷ n.1) rest o)) (o.slot ∙ sym m.4) (sym n.3)
          ∙ (λ j. (record c.args.seat.now.me.0 { waits = (sym (at_link m.0 m.1 cs rest o) ∙ ap (λ (zs : List Garbage). zs ++ (cs ++ rest)) (sym m.2)) j }, c.args.seat.now.me.1)),
    )
