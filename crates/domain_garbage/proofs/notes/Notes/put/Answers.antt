use Rattle.std.proofs.Common.{◌≡◌, ◌≢◌, ◌≤◌, ◌++◌, ◌∷◌, ◌<◌, ℕ, List, replicate, append-nil, sym, ap, ◌∙◌, subst, arith}
use Rattle.sdd_steps.specs.State.{Has}
use Rattle.domain_garbage.proofs.RunLemmas.{runs, has_rep, has_both, oldest_none}
use Rattle.domain_garbage.proofs.notes.Notes.put.Goals as goal

pub invariant_of-self-2 : goal.invariant_of-self-2
invariant_of-self-2 c =
    let w = c.self.inside in
    let some : 0 < w.newest.count = omega (arith, c.if-self-eq0.false) in
    let most : w.newest.note ≤ c.args.note = c.requires.most w.newest.note (subst (λ (xs : List ℕ). Has xs w.newest.note) c.self.view_is (has_both (replicate w.newest.count w.newest.note) _ w.newest.note (has_rep w.newest.count w.newest.note some))) in
    let other : w.newest.note ≢ c.args.note = c.if-self-note.false in
    record { second = λ h. (omega arith, omega (arith, most, other)); third = c.self.invariant.second }

pub returns : goal.returns
returns c =
    let w = c.self.inside in
    let some : 0 < w.newest.count = omega (arith, c.if-self-eq0.false) in
    let most : w.newest.note ≤ c.args.note = c.requires.most w.newest.note (subst (λ (xs : List ℕ). Has xs w.newest.note) c.self.view_is (has_both (replicate w.newest.count w.newest.note) _ w.newest.note (has_rep w.newest.count w.newest.note some))) in
    let none : w.oldest.count ≡ 0 = oldest_none w.newest.count w.newest.note w.middle.count w.middle.note w.oldest.count w.oldest.note c.args.note c.self.invariant.second c.self.invariant.third most c.if-self-note.false (λ ns n e. c.requires.young ns n (sym c.self.view_is ∙ e)) in
    ap (λ (zs : List ℕ). c.args.note ∷ zs) (ap (λ (zs : List ℕ). replicate w.newest.count w.newest.note ++ zs) (sym (append-nil (replicate w.middle.count w.middle.note))) ∙ (ap (λ (k : ℕ). runs w.newest.count w.newest.note w.middle.count w.middle.note k w.oldest.note) (sym none) ∙ c.self.view_is))
