use Rattle.std.proofs.Common.{◌≢◌, ◌∙◌, ℕ, List, length, ap, sym, subst}
use Rattle.std.proofs.lemmas.Bool.{false≢true}
use Rattle.std.specs.Bool.{◌==◌}
use Rattle.sdd_table.specs.Groups.{GroupState, IsFreeName}
use Rattle.sdd_table.proofs.ArenaLemmas.{some_free}
use Rattle.sdd_table.proofs.groups.Groups.is_full.Goals as goal

pub returns-clause-free : goal.returns-clause-free
returns-clause-free c not_full =
    let some : length c.self.inside.free.items ≢ 0 = λ e. false≢true (sym not_full ∙ c.is_empty.ensures ∙ ap (λ (n : ℕ). n == 0) (c.self.inside.free.ok.0 ∙ e)) in
    subst (λ (x : List GroupState). (n : ℕ) × IsFreeName x n) c.self.view_is (some_free c.self.inside c.self.invariant some)
