use Rattle.std.proofs.Common.{◌≡◌, false, sym, ◌∙◌, subst}
use Rattle.std.proofs.lemmas.Bool.{false≢true}
use Rattle.tree_index.specs.Shape.{AllKeys}
use Rattle.version_drafts.specs.Gone.{is_gone}
use Rattle.version_drafts.proofs.MergeLemmas.{head_of, none_of}
use Rattle.version_drafts.proofs.gone.has_gone.Goals as goal

pub returns-then-is_gone-clause-some : goal.returns-then-is_gone-clause-some
returns-then-is_gone-clause-some g c = λ yes all.
    let P = AllKeys (λ k. is_gone g.K.Ord.cmp c.args.gone.now k ≡ false) in
    let p : g.row.K.Denot × g.row.V.Denot = (c.in-Some.key.now, c.in-Some.field-0-1.now) in
    let first = head_of c.loop-key.pairs p c.in-Some.ensures in
    let out = (subst P first (c.loop-key.invariant.rest all)).0 in
    false≢true (sym out ∙ (sym c.is_gone.ensures ∙ c.if-is_gone.true))

pub loop-key-preserved : goal.loop-key-preserved
loop-key-preserved g c =
    let P = AllKeys (λ k. is_gone g.K.Ord.cmp c.args.gone.now k ≡ false) in
    let p : g.row.K.Denot × g.row.V.Denot = (c.in-Some.key.now, c.in-Some.field-0-1.now) in
    let first = head_of c.loop-key.pairs p c.in-Some.ensures in
    let out = sym c.is_gone.ensures ∙ c.if-is_gone.false in
    record {
      all = λ rest. c.loop-key.invariant.all (subst P (sym first) (out, subst P c.step.ensures rest));
      rest = λ all. subst P (sym c.step.ensures) (subst P first (c.loop-key.invariant.rest all)).1;
    }

pub returns-clause-none : goal.returns-clause-none
returns-clause-none g c = λ e. c.loop-key.invariant.all (subst (AllKeys (λ k. is_gone g.K.Ord.cmp c.args.gone.now k ≡ false)) (sym (none_of c.loop-key.pairs c.in_default.ensures)) tt)
