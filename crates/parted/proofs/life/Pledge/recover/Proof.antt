-- The other life is over, so the tokens come back.
use Rattle.parted.proofs.Names.{◌≡◌, ℕ, [], ◌∷◌, refl, named, Val, vptr, SProp, emp, Lft, ftrue, flft, fhide, ‵, raw, ◌⊛◌, ◌$◌, ◌∵◌, !, qed, by, move, keep, use0, use1, split, join, fsplit, fsplit3, fjoin, rewrite, enter, no_more, returns, alloc_all, pass_all, free_all, look_at, sets, agg, lent_back, fact, fact_i, tables, RefOf, yes, hidden_shr, unhide, owns, shr_vals, shr_Tells, types_at, plain, nothing, heard, lent_out, Stays, stay_dropped, walk_of, Goes-dropped, proved, leaves, over, blank, LifeData, life_made, EndedData, pledge_told}
use Rattle.parted.specs.contracts.life.Pledge.recover.{ended, clauses}
use Rattle.parted.specs.contracts.life.Pledge.recover.Key.{name as #self}
use Rattle.parted.proofs.life.Pledge.recover.Statement.{statement}
use Rattle.parted.proofs.life.Pledge.recover.Code as code
use Rattle.parted.specs.contracts.life.Life as life
use Rattle.parted.specs.contracts.life.Ended as end
use Rattle.parted.specs.contracts.life.Pledge as pledge

pub recover_spec : {M : Type 1} → statement M
recover_spec 𝓤 𝓛 𝓜 𝓡 wired =
    let H = 𝓛.H in let 𝓣 = tables 𝓤 H 𝓜 𝓡 𝓡.env in let c = clauses 𝓛 𝓜.mem 𝓡.returns in
    let self = plain (λ _. pledge.the_row) in let ref = RefOf (0 ∷ []) tt (plain (λ _. end.the_row)) (λ _. tt) in
    let hs : Stays ended.signature.params ended.kept = (stay_dropped self yes, (stay_dropped ref yes, tt)) in
    proved 𝓛 ended hs c 𝓜 𝓡 (Goes-dropped 𝓛 1 self yes (λ κs x f. refl), (Goes-dropped 𝓛 1 ref yes (λ κs x f. refl), tt)) #self code.function (code.unfolded 𝓤 H 𝓜 𝓡 wired)
    (λ κs. ((λ _. blank ∷ []), (shr_vals, tt))) (λ κs. ((λ p vs so. pledge_told vs so.0), (shr_Tells (named 0) κs.0 end.the_row, tt))) (λ κs qs bounds a gh are.
    let p : pledge.the_row.Denot = a.0 in let n : ℕ = p.id in let k : ℕ = p.count in let b : ℕ = a.1.0.ref_ptr.0 in let o : ℕ = a.1.0.ref_ptr.1 in let κ : Lft = κs.0 in let m : ℕ = a.1.0.now.id in
    let new : life.the_row.Denot = record { id = n; count = k } in let Asked : Type 0 = m ≡ p.until in let Told : Type 0 = (n ≡ n) × (k ≡ k) in
    let y : (walk_of 𝓛 ended hs c).Ghost = ((κs, qs, bounds, a, (blank ∷ [], (shr_vals a.1.0, tt))), gh) in let Post : Val → SProp 𝓤 = (walk_of 𝓛 ended hs c).post y in
    qed 𝓛 (((‵ (flft κ qs.0) ⊛ ‵ ftrue) ⊛ ‵ (owns (types_at ended.signature.params κs) a y.0.4)) ∷ raw (fact 𝓤 Asked) ∷ []) ∵
    move ! (1 ∷ []) $ heard ! Asked (λ same. split ! $ split ! $ move ! (2 ∷ []) $ fsplit3 ! $ fsplit ! $ move ! (1 ∷ []) $ fsplit ! $ move ! (3 ∷ []) $ fsplit ! $ keep ! (2 ∷ 1 ∷ 6 ∷ 7 ∷ []) $
    -- [the right to have the tokens back; the reference; its token; nothing]
    move ! (1 ∷ []) $ use1 𝓛 (‵ (hidden_shr EndedData κ tt b o) ⊛ ‵ (fhide (over m))) (lent_out 𝓛 end.struct end.the_codes end.the_heap end.the_lent κ a.1.0.now b o) $
    split ! $ move ! (1 ∷ []) $ unhide ! $ rewrite ! 0 (λ (i : ℕ). ‵ (over i)) same refl $ keep ! (0 ∷ 2 ∷ 3 ∷ 4 ∷ []) $
    enter ! 𝓣.C 𝓣.Λ code.function (blank ∷ vptr b o ∷ []) Post $ alloc_all ! (λ l. pass_all ! refl ((tt, tt), ((tt, tt), tt)) $
    lent_back ! tt $ use0 𝓛 (‵ (LifeData.own_val tt (blank ∷ []))) (life_made 𝓛) $ fjoin ! $ move ! (1 ∷ 2 ∷ []) $ join ! $ sets ! (agg ! (no_more !)) refl (tt, tt) $
    move ! (1 ∷ []) $ use0 𝓛 (raw (fact 𝓤 Told)) (fact_i 𝓤 Told (emp 𝓤) (refl, refl)) $ nothing ! $ nothing ! $ fjoin ! $ nothing ! $ fjoin ! $
    returns ! (look_at ! 0 refl) $ free_all ! refl $ keep ! (3 ∷ 0 ∷ 2 ∷ 1 ∷ []) $ by ! (leaves 𝓛 ended hs c y blank new (tt, (tt, tt)) (tt, (tt, tt))))))
