use Rattle.std.proofs.Common.{◌≡◌, ◌∙◌, ap, sym, get_or, length, None, Option, List, ◌++◌, ◌∷◌, [], is_some, true, false}
use Rattle.sdd_table.proofs.EndLemmas.{front_none}
use Rattle.sdd_table.proofs.SlotLemmas.{value_there, unused_all, last_value}
use Rattle.sdd_table.specs.Groups.{count_at}
use Rattle.sdd_table.specs.State.{State, in_use}
use Rattle.sdd_table.proofs.table.Table.end.Goals as goal

pub loop-value-init : goal.loop-value-init
loop-value-init g c = λ k. value_there c.self.inside k c.self.invariant ∙ unused_all c.self.inside k (ap (λ (w : State _). in_use w) c.self.view_is ∙ c.requires.items)

pub unreachable-requires : goal.unreachable-requires
unreachable-requires g c =
    let ys = c.pop.new.self.items in
    let e : is_some (get_or (ys ++ c.in-Some.value ∷ []) (length ys) None) ≡ true = last_value ys c.in-Some.value _ c.in-Some-value.is in
    let i = c.in-Some.ensures.items in
    let f : is_some (get_or (ys ++ c.in-Some.value ∷ []) (length ys) None) ≡ false = ap (λ (xs : List (Option _)). is_some (get_or xs (length ys) None)) (sym i) ∙ c.loop-value.invariant (length ys) in
    cc

pub loop-value-preserved : goal.loop-value-preserved
loop-value-preserved g c =
    front_none c.pop.new.self.items c.in-Some.value (λ k. ap (λ (xs : List (Option _)). is_some (get_or xs k None)) (sym c.in-Some.ensures.items) ∙ c.loop-value.invariant k)

pub destroy_empty-requires : goal.destroy_empty-requires
destroy_empty-requires g c = c.in_default.ensures.cases.1

pub end-requires : goal.end-requires
end-requires g c = λ k. ap (λ (w : State _). count_at w.groups k) c.self.view_is ∙ c.requires.groups k
