use Rattle.std.proofs.Common.{◌≡◌, ap, sym, subst, lit<, None}
use Rattle.std.specs.List.{All}
use Rattle.index_script.proofs.SessionLemmas.{cleared_idle}
use Rattle.index_script.proofs.script.Script.end.Goals as goal

pub end_index-requires : goal.end_index-requires
end_index-requires c = λ d.
    let idle = cleared_idle (record { index = d.self.inside.index; desk = d.self.inside.desk }) d.self.invariant.0 d.self.invariant.1 in
    (lit< tt, subst (λ ps. All (λ p. p ≡ None) ps) (sym (ap (λ s. s.places) d.end.ensures)) idle)
