-- Nothing is in a new one.
use Rattle.parted.proofs.Names.{◌≡◌, [], ◌∷◌, refl, Val, SProp, emp, ‵, raw, ◌⊛◌, ◌$◌, ◌∵◌, !, qed, by, keep, use0, split, fjoin, enter, no_more, returns, alloc_all, pass_all, free_all, look_at, sets, agg, fact, fact_i, tables, owns, types_at, nothing, alive, Stays, walk_of, proved, leaves, blank}
use Rattle.parted.proofs.Bytes.{ListData, list_made}
use Rattle.parted.specs.contracts.ghost_list.GhostList.new.{ended, clauses}
use Rattle.parted.specs.contracts.ghost_list.GhostList.new.Key.{name as #self}
use Rattle.parted.proofs.ghost_list.GhostList.new.Statement.{statement}
use Rattle.parted.proofs.ghost_list.GhostList.new.Code as code
use Rattle.parted.specs.contracts.ghost_list.GhostList as list

pub new_spec : {M : Type 1} → statement M
new_spec 𝓤 𝓛 𝓜 𝓡 wired =
    let H = 𝓛.H in let 𝓣 = tables 𝓤 H 𝓜 𝓡 𝓡.env in let c = clauses 𝓛 𝓜.mem 𝓡.returns in
    let hs : Stays ended.signature.params ended.kept = tt in
    proved 𝓛 ended hs c 𝓜 𝓡 tt #self code.function (code.unfolded 𝓤 H 𝓜 𝓡 wired) (λ κs. tt) (λ κs. tt) (λ κs qs bounds a gh are.
    let y : (walk_of 𝓛 ended hs c).Ghost = ((κs, qs, bounds, a, tt), gh) in let Post : Val → SProp 𝓤 = (walk_of 𝓛 ended hs c).post y in
    qed 𝓛 ((raw (alive 𝓛 ended.signature κs qs) ⊛ ‵ (owns (types_at ended.signature.params κs) a y.0.4)) ∷ raw ((c κs a).requires gh) ∷ []) ∵
    split ! $ keep ! (0 ∷ []) $ enter ! 𝓣.C 𝓣.Λ code.function [] Post $ alloc_all ! (λ l. pass_all ! refl tt $
    let fresh : list.the_row.Denot = record { items = [] } in let Told : Type 0 = fresh.items ≡ [] in
    nothing ! $
    use0 𝓛 (‵ (ListData.own_val tt (blank ∷ []))) (list_made 𝓛) $ fjoin ! $ sets ! (agg ! (no_more !)) refl (tt, tt) $
    -- [the new list; the tokens of the call]
    use0 𝓛 (raw (fact 𝓤 Told)) (fact_i 𝓤 Told (emp 𝓤) refl) $ nothing ! $
    returns ! (look_at ! 0 refl) $ free_all ! refl $ keep ! (3 ∷ 0 ∷ 2 ∷ 1 ∷ []) $ by ! (leaves 𝓛 ended hs c y blank fresh tt tt)))
