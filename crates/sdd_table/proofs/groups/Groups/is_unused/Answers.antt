use Rattle.std.proofs.Common.{◌≡◌, ◌∙◌, sym, arith, subst, inl, inr, ap, List}
use Rattle.std.proofs.lemmas.Bool.{false≢true}
use Rattle.std.proofs.lemmas.Bool.Decides.{eqb_tells}
use Rattle.std.proofs.lemmas.List.{length-map}
use Rattle.sdd_table.specs.Groups.{GroupState, NoneOut, count_at}
use Rattle.sdd_table.specs.Arena.{group_of, groups_of}
use Rattle.sdd_table.proofs.ArenaLemmas.{all_free, none_out_free}
use Rattle.sdd_table.proofs.groups.Groups.is_unused.Goals as goal

pub returns-clause-unused : goal.returns-clause-unused
returns-clause-unused c unused =
    let a = c.self.inside in
    let same : c.len.result ≡ c.len-2.result = elim (eqb_tells c.len.result c.len-2.result) [ inl t ↦ t.1 | inr t ↦ absurd (false≢true (sym t.0 ∙ unused)) ] in
    let long = length-map a.entries.items group_of in
    subst NoneOut c.self.view_is (all_free (groups_of a) (omega (arith, same, long, c.len.ensures, c.len-2.ensures, a.entries.ok.0, a.free.ok.0, a.entries.ok, c.self.invariant.names.count)))

pub returns-clause-used : goal.returns-clause-used
returns-clause-used c used none =
    let a = c.self.inside in
    let long = length-map a.entries.items group_of in
    let all = none_out_free (groups_of a) (λ g. ap (λ (x : List GroupState). count_at x g) c.self.view_is ∙ none g) in
    elim (eqb_tells c.len.result c.len-2.result) [
      | inl t ↦ false≢true (sym used ∙ t.0)
      | inr t ↦ t.1 (omega (arith, all, long, c.len.ensures, c.len-2.ensures, a.entries.ok.0, a.free.ok.0, c.self.invariant.names.count))
    ]
