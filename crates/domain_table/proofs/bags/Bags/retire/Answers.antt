use Rattle.std.proofs.Common.{◌≡◌, ◌++◌, ◌∷◌, [], ◌∙◌, ◌<◌, subst, sym, ap, refl, length, ⊎_elim}
use Rattle.sdd_steps.specs.State.{Has}
use Rattle.sdd_homes.specs.declared.Garbage.{Garbage}
use Rattle.domain_table.specs.Bags.{aged}
use Rattle.domain_table.specs.Chains.{AllBelow}
use Rattle.domain_table.proofs.WaitLemmas.{lists_of, alone, below_one, vs, more_wait, as_long, as_due}
use Rattle.domain_table.proofs.bags.Bags.retire.Goals as goal

pub join-self-requires-clause-acts : goal.join-self-requires-clause-acts
join-self-requires-clause-acts g c = let q = c.requires.retired in let n = c.args.place.sizes.now.slots in let l = lists_of n q.1 c.args.self.now q.5 in
    (c.requires.acts, subst (AllBelow n) (sym q.2) (λ v h. ⊎_elim (λ (e : q.0 ≡ v). subst (λ (z : Garbage). z.slot < n) e (subst (λ k. k < n) (sym q.3) c.requires.table.1)) (λ (t : Has q.1 v). l.below v t) h))

pub join-self-requires-clause-bags : goal.join-self-requires-clause-bags
join-self-requires-clause-bags g c = let q = c.requires.retired in let l = lists_of c.args.place.sizes.now.slots q.1 c.args.self.now q.5 in (q.0 ∷ [], l.cs, l.ps ++ (l.ns ++ l.ds), q.2 ∙ ap (λ zs. q.0 ∷ zs) l.are, alone q.0 c.args.slot q.3, l.current)

pub returns-clause-waits : goal.returns-clause-waits
returns-clause-waits g c = let q = c.requires.retired in let n = c.args.place.sizes.now.slots in let b = c.args.self.now in let w = q.0 in let l = lists_of n q.1 b q.5 in let low = below_one n w (subst (λ k. k < n) (sym q.3) c.requires.table.1) in
    let r = c.join-self.ensures.joined (w ∷ []) l.cs (l.ps ++ (l.ns ++ l.ds)) (q.2 ∙ ap (λ zs. w ∷ zs) l.are) (alone w c.args.slot q.3) l.current in (
      vs n b (w ∷ []) q.1 r.0 c.join-self.result l (q.4, tt) low r.1 r.2,
      as_long n b (w ∷ []) q.1 r.0 c.join-self.result l (q.4, tt) low r.1 r.2 ∙ ap length (sym q.2),
      more_wait n b (w ∷ []) q.1 r.0 c.join-self.result l (q.4, tt) low r.1 r.2,
      r.3,
    )

pub returns-clause-due : goal.returns-clause-due
returns-clause-due g c = let q = c.requires.retired in let n = c.args.place.sizes.now.slots in let b = c.args.self.now in let w = q.0 in let l = lists_of n q.1 b q.5 in let low = below_one n w (subst (λ k. k < n) (sym q.3) c.requires.table.1) in
    let r = c.join-self.ensures.joined (w ∷ []) l.cs (l.ps ++ (l.ns ++ l.ds)) (q.2 ∙ ap (λ zs. w ∷ zs) l.are) (alone w c.args.slot q.3) l.current in
    (refl, ap (λ m. aged 3 m.0.waits) r.3 ∙ (as_due n b (w ∷ []) q.1 r.0 c.join-self.result l (q.4, tt) low r.1 r.2 ∙ ap (aged 3) (sym q.2)))
