-- The tokens of both are those of one.
use Rattle.parted.proofs.Names.{◌≡◌, ℕ, ◌+◌, ◌^◌, ◌<◌, ◌≤◌, List, [], ◌∷◌, refl, arith, named, Val, vunit, vptr, SProp, emp, ftrue, flft, ‵, raw, ◌⊛◌, ◌$◌, ◌∵◌, !, qed, by, move, keep, drop, use0, use2, split, join, fsplit, fsplit3, fjoin, fjoin3, feq_i, rewrite, enter, of_opd, unit_lit, returns, alloc_all, pass_all, free_all, look_at, sets, fact, fact_i, tables, yes, RattleType, owns, mut_vals, mut_Tells, types_at, plain, nothing, heard, opens, closes, Stays, stay_dropped, stay_ref, walk_of, Goes-dropped, Goes-ref, proved, leaves, tokens, joined, blank, life_told}
use Rattle.parted.specs.contracts.life.Life.join.{ended, clauses}
use Rattle.parted.specs.contracts.life.Life.join.Key.{name as #self}
use Rattle.parted.proofs.life.Life.join.Statement.{statement}
use Rattle.parted.proofs.life.Life.join.Code as code
use Rattle.parted.specs.contracts.life.Life as life

pub join_spec : {M : Type 1} → statement M
join_spec 𝓤 𝓛 𝓜 𝓡 wired =
    let H = 𝓛.H in let 𝓣 = tables 𝓤 H 𝓜 𝓡 𝓡.env in let c = clauses 𝓛 𝓜.mem 𝓡.returns in let Row : RattleType = life.the_row in
    let self = plain (λ _. Row) in let hs : Stays ended.signature.params ended.kept = (stay_ref (0 ∷ []) tt self, (stay_dropped self yes, tt)) in
    proved 𝓛 ended hs c 𝓜 𝓡 (Goes-ref 𝓛 1 0 tt self, (Goes-dropped 𝓛 1 self yes (λ κs x f. refl), tt)) #self code.function (code.unfolded 𝓤 H 𝓜 𝓡 wired)
    (λ κs. (mut_vals, ((λ _. blank ∷ []), tt))) (λ κs. (mut_Tells (named 0) κs.0 Row, ((λ e vs so. life_told vs so.0), tt))) (λ κs qs bounds a gh are.
    let b : ℕ = a.0.ref_ptr.0 in let o : ℕ = a.0.ref_ptr.1 in let d : Row.Denot = a.0.now in let n : ℕ = d.id in let k : ℕ = d.count in
    let e : Row.Denot = a.1.0 in let both : Row.Denot = record d { count = k + e.count } in
    let Asked : Type 0 = (e.id ≡ n) × (0 < k) × (k + e.count ≤ 2 ^ 63) in let Told : Type 0 = both ≡ both in
    let y : (walk_of 𝓛 ended hs c).Ghost = ((κs, qs, bounds, a, (mut_vals a.0, (blank ∷ [], tt))), gh) in let Post : Val → SProp 𝓤 = (walk_of 𝓛 ended hs c).post y in
    qed 𝓛 (((‵ (flft κs.0 qs.0) ⊛ ‵ ftrue) ⊛ ‵ (owns (types_at ended.signature.params κs) a y.0.4)) ∷ raw (fact 𝓤 Asked) ∷ []) ∵
    move ! (1 ∷ []) $ heard ! Asked (λ asked. let some = asked.1 in
    split ! $ split ! $ move ! (2 ∷ []) $ fsplit3 ! $ move ! (1 ∷ []) $ fsplit ! $ drop ! $ rewrite ! 0 (λ (m : ℕ). ‵ (tokens m e.count)) asked.0 refl $
    -- [the other tokens; self; nothing; the token of its lifetime; nothing]
    move ! (1 ∷ []) $ fsplit3 ! $ keep ! (1 ∷ 2 ∷ 5 ∷ 6 ∷ 3 ∷ []) $
    enter ! 𝓣.C 𝓣.Λ code.function (vptr b o ∷ blank ∷ []) Post $ alloc_all ! (λ l. pass_all ! refl ((tt, tt), ((tt, tt), tt)) $
    opens ! tt Row b o (λ vs. move ! (1 ∷ []) $ fsplit ! $ move ! (1 ∷ 7 ∷ []) $ use2 𝓛 (‵ (tokens n (k + e.count))) (joined 𝓛 n k e.count (omega arith) asked.2) $
    move ! (1 ∷ 0 ∷ []) $ fjoin ! $ move ! (1 ∷ 0 ∷ []) $ closes ! tt Row both vs b o $ feq_i ! (List Val) (vptr b o ∷ []) (vptr b o ∷ []) refl $ fjoin3 ! $
    nothing ! $ nothing ! $ fjoin ! $ move ! (1 ∷ 0 ∷ []) $ fjoin ! $ move ! (1 ∷ 2 ∷ []) $ join ! $
    sets ! (of_opd ! (unit_lit !)) refl (tt, tt) $ use0 𝓛 (raw (fact 𝓤 Told)) (fact_i 𝓤 Told (emp 𝓤) refl) $ feq_i ! (List Val) (vunit ∷ []) (vunit ∷ []) refl $
    returns ! (look_at ! 0 refl) $ free_all ! refl $ keep ! (2 ∷ 3 ∷ 0 ∷ 1 ∷ []) $ by ! (leaves 𝓛 ended hs c y vunit tt (both, (tt, tt)) (tt, (tt, tt)))))))
