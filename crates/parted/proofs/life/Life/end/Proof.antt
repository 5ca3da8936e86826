-- A life ends by all of its tokens.
use Rattle.parted.proofs.Names.{◌≡◌, ℕ, ◌^◌, [], ◌∷◌, refl, Val, SProp, emp, ‵, raw, ◌⊛◌, later, ◌$◌, ◌∵◌, !, qed, by, move, keep, use0, use1, split, fsplit, fjoin, await, rewrite, enter, no_more, returns, alloc_all, pass_all, free_all, look_at, sets, agg, fact, fact_i, tables, yes, owns, types_at, plain, nothing, heard, alive, Stays, stay_dropped, walk_of, Goes-dropped, proved, leaves, tokens, over, all_in, blank, life_told, EndedData, ended_made}
use Rattle.parted.specs.contracts.life.Life.end.{ended, clauses}
use Rattle.parted.specs.contracts.life.Life.end.Key.{name as #self}
use Rattle.parted.proofs.life.Life.end.Statement.{statement}
use Rattle.parted.proofs.life.Life.end.Code as code
use Rattle.parted.specs.contracts.life.Life as life
use Rattle.parted.specs.contracts.life.Ended as end

pub end_spec : {M : Type 1} → statement M
end_spec 𝓤 𝓛 𝓜 𝓡 wired =
    let H = 𝓛.H in let 𝓣 = tables 𝓤 H 𝓜 𝓡 𝓡.env in let c = clauses 𝓛 𝓜.mem 𝓡.returns in
    let self = plain (λ _. life.the_row) in let hs : Stays ended.signature.params ended.kept = (stay_dropped self yes, tt) in
    proved 𝓛 ended hs c 𝓜 𝓡 (Goes-dropped 𝓛 0 self yes (λ κs x f. refl), tt) #self code.function (code.unfolded 𝓤 H 𝓜 𝓡 wired)
    (λ κs. ((λ _. blank ∷ []), tt)) (λ κs. ((λ x vs so. life_told vs so.0), tt)) (λ κs qs bounds a gh are.
    let n : ℕ = a.0.id in let Asked : Type 0 = a.0.count ≡ 2 ^ 63 in let new : end.the_row.Denot = record { id = n } in let Told : Type 0 = new.id ≡ n in
    let y : (walk_of 𝓛 ended hs c).Ghost = ((κs, qs, bounds, a, (blank ∷ [], tt)), gh) in let Post : Val → SProp 𝓤 = (walk_of 𝓛 ended hs c).post y in
    qed 𝓛 ((raw (alive 𝓛 ended.signature κs qs) ⊛ ‵ (owns (types_at ended.signature.params κs) a y.0.4)) ∷ raw (fact 𝓤 Asked) ∷ []) ∵
    move ! (1 ∷ []) $ heard ! Asked (λ all. split ! $ move ! (1 ∷ []) $ fsplit ! $ fsplit ! $ keep ! (1 ∷ 3 ∷ []) $
    rewrite ! 0 (λ (k : ℕ). ‵ (tokens n k)) all refl $
    enter ! 𝓣.C 𝓣.Λ code.function (blank ∷ []) Post $ alloc_all ! (λ l. pass_all ! refl ((tt, tt), tt) $
    use1 𝓛 (later (‵ (over n))) (all_in 𝓛 n) $ await ! tt $
    use0 𝓛 (‵ (EndedData.own_val tt (blank ∷ []))) (ended_made 𝓛) $ fjoin ! $ sets ! (agg ! (no_more !)) refl (tt, tt) $
    -- [the end; the tokens of the call]
    use0 𝓛 (raw (fact 𝓤 Told)) (fact_i 𝓤 Told (emp 𝓤) refl) $ nothing ! $ nothing ! $ fjoin ! $
    returns ! (look_at ! 0 refl) $ free_all ! refl $ keep ! (3 ∷ 0 ∷ 2 ∷ 1 ∷ []) $ by ! (leaves 𝓛 ended hs c y blank new (tt, tt) (tt, tt)))))
