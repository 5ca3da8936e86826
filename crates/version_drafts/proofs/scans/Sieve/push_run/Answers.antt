use Rattle.std.proofs.Common.{◌≡◌, ◌≤◌, ◌++◌, drop, length, take, sym, ap, ◌∙◌, subst, arith}
use Rattle.std.proofs.lemmas.Bool.{eqb-true}
use Rattle.leaf_array.specs.Pairs.{IsAscending}
use Rattle.version_drafts.specs.Cutting.{LiesBelow}
use Rattle.version_drafts.proofs.RunLemmas.{lies_fewer, without_none}
use Rattle.version_drafts.proofs.scans.Sieve.push_run.Goals as goal

pub push_run-requires-clause-rising : goal.push_run-requires-clause-rising
push_run-requires-clause-rising g c =
    let gone = c.self.inside.gone.now in
    let ps = c.self.inside.pairs in
    let empty : length gone ≡ 0 = eqb-true (length gone) 0 (sym c.is_empty.ensures ∙ c.if-not-is_empty.false) in
    let same : ps ≡ c.args.self.now = sym (without_none g.K.Ord.cmp gone ps empty) ∙ c.self.view_is in
    let n = c.min-count.result in
    let fewer : n ≤ c.run.result = omega (arith, c.min-count.ensures) in
    subst (λ qs. IsAscending g.K.Ord.cmp (c.args.into.now.pairs ++ take n qs)) (sym same) (c.requires.rising n (subst (λ qs. LiesBelow g.K.Ord.cmp c.args.upto (take n qs)) same (lies_fewer g.K.Ord.cmp c.args.upto c.run.result n ps fewer c.run.ensures.below)))

pub returns-clause-within : goal.returns-clause-within
returns-clause-within g c =
    let gone = c.self.inside.gone.now in
    let ps = c.self.inside.pairs in
    let empty : length gone ≡ 0 = eqb-true (length gone) 0 (sym c.is_empty.ensures ∙ c.if-not-is_empty.false) in
    let same : ps ≡ c.args.self.now = sym (without_none g.K.Ord.cmp gone ps empty) ∙ c.self.view_is in
    omega (arith, c.min-count.ensures, c.run.ensures.within, ap length same)

pub returns-clause-below : goal.returns-clause-below
returns-clause-below g c =
    let gone = c.self.inside.gone.now in
    let ps = c.self.inside.pairs in
    let empty : length gone ≡ 0 = eqb-true (length gone) 0 (sym c.is_empty.ensures ∙ c.if-not-is_empty.false) in
    let same : ps ≡ c.args.self.now = sym (without_none g.K.Ord.cmp gone ps empty) ∙ c.self.view_is in
    let n = c.min-count.result in
    let fewer : n ≤ c.run.result = omega (arith, c.min-count.ensures) in
    subst (λ qs. LiesBelow g.K.Ord.cmp c.args.upto (take n qs)) same (lies_fewer g.K.Ord.cmp c.args.upto c.run.result n ps fewer c.run.ensures.below)

pub returns-clause-pushed : goal.returns-clause-pushed
returns-clause-pushed g c =
    let gone = c.self.inside.gone.now in
    let ps = c.self.inside.pairs in
    let empty : length gone ≡ 0 = eqb-true (length gone) 0 (sym c.is_empty.ensures ∙ c.if-not-is_empty.false) in
    let same : ps ≡ c.args.self.now = sym (without_none g.K.Ord.cmp gone ps empty) ∙ c.self.view_is in
    c.in_ok-push_run.ensures.pushed ∙ ap (λ qs. c.args.into.now.pairs ++ take c.min-count.result qs) same

pub returns-clause-passed : goal.returns-clause-passed
returns-clause-passed g c =
    let gone = c.self.inside.gone.now in
    let ps = c.self.inside.pairs in
    let empty : length gone ≡ 0 = eqb-true (length gone) 0 (sym c.is_empty.ensures ∙ c.if-not-is_empty.false) in
    let same : ps ≡ c.args.self.now = sym (without_none g.K.Ord.cmp gone ps empty) ∙ c.self.view_is in
    without_none g.K.Ord.cmp gone c.push_run.new.self empty ∙ (c.in_ok-push_run.ensures.passed ∙ ap (λ qs. drop c.min-count.result qs) same)
