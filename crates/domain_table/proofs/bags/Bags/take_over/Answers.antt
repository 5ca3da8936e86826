use Rattle.std.proofs.Common.{◌++◌, [], ◌∙◌, subst, sym, ap, length}
use Rattle.domain_table.specs.Chains.{AllBelow}
use Rattle.domain_table.specs.Plays.{taken_all}
use Rattle.domain_table.proofs.WaitLemmas.{lists_of, below_parts, taken_front, taken_new, taken_below, taken_bag, vs, more_wait, as_long}
use Rattle.domain_table.proofs.bags.Bags.take_over.Goals as goal

pub join-self-requires-clause-acts : goal.join-self-requires-clause-acts
join-self-requires-clause-acts g c = let q = c.requires.taken in let n = c.args.place.sizes.now.slots in let l = lists_of n q.1 c.args.self.now q.5 in
    (c.requires.acts, subst (AllBelow n) (sym (q.2 ∙ taken_front q.0 q.1)) (below_parts n (taken_all q.0 []) q.1 (taken_below n q.0 q.4) l.below))

pub join-self-requires-clause-bags : goal.join-self-requires-clause-bags
join-self-requires-clause-bags g c = let q = c.requires.taken in let l = lists_of c.args.place.sizes.now.slots q.1 c.args.self.now q.5 in
    (taken_all q.0 [], l.cs, l.ps ++ (l.ns ++ l.ds), q.2 ∙ (taken_front q.0 q.1 ∙ ap (λ zs. taken_all q.0 [] ++ zs) l.are), taken_bag q.0 c.args.chain q.3, l.current)

pub returns-clause-waits : goal.returns-clause-waits
returns-clause-waits g c = let q = c.requires.taken in let n = c.args.place.sizes.now.slots in let b = c.args.self.now in let fs = taken_all q.0 [] in let l = lists_of n q.1 b q.5 in let is = q.2 ∙ taken_front q.0 q.1 in
    let r = c.join-self.ensures.joined fs l.cs (l.ps ++ (l.ns ++ l.ds)) (is ∙ ap (λ zs. fs ++ zs) l.are) (taken_bag q.0 c.args.chain q.3) l.current in (
      vs n b fs q.1 r.0 c.join-self.result l (taken_new q.0) (taken_below n q.0 q.4) r.1 r.2,
      as_long n b fs q.1 r.0 c.join-self.result l (taken_new q.0) (taken_below n q.0 q.4) r.1 r.2 ∙ ap length (sym is),
      more_wait n b fs q.1 r.0 c.join-self.result l (taken_new q.0) (taken_below n q.0 q.4) r.1 r.2,
      r.3,
    )
