-- The tokens are borrowed for the other life, and what a borrow of them says is kept beside the right to have them back.
use Rattle.parted.proofs.Names.{◌≡◌, ℕ, [], ◌∷◌, refl, named, Val, vptr, SProp, emp, Lft, ftrue, flft, fhide, ‵, raw, ◌⊛◌, later, ◌$◌, ◌∵◌, !, qed, by, move, keep, drop, use0, use1, use2, split, join, fsplit, fsplit3, fjoin, await, enter, no_more, returns, alloc_all, pass_all, free_all, look_at, sets, agg, bor_new, shr_bor-open, obor_close, tokens_halve, fact, fact_i, tables, RefOf, yes, hidden_shr, unhide, RattleType, owns, shr_vals, shr_Tells, types_at, plain, nothing, lent_out, Stays, stay_dropped, walk_of, Goes-dropped, proved, leaves, life_shared, borrowed, blank, LifeData, life_told, PledgeData, pledge_made}
use Rattle.parted.specs.contracts.life.Life.pledge.{ended, clauses}
use Rattle.parted.specs.contracts.life.Life.pledge.Key.{name as #self}
use Rattle.parted.proofs.life.Life.pledge.Statement.{statement}
use Rattle.parted.proofs.life.Life.pledge.Code as code
use Rattle.parted.specs.contracts.life.Life as life
use Rattle.parted.specs.contracts.life.Pledge as pledge

pub pledge_spec : {M : Type 1} → statement M
pledge_spec 𝓤 𝓛 𝓜 𝓡 wired =
    let H = 𝓛.H in let 𝓣 = tables 𝓤 H 𝓜 𝓡 𝓡.env in let c = clauses 𝓛 𝓜.mem 𝓡.returns in let Row : RattleType = life.the_row in
    let self = plain (λ _. Row) in let until = RefOf (0 ∷ []) tt self (λ _. tt) in let hs : Stays ended.signature.params ended.kept = (stay_dropped self yes, (stay_dropped until yes, tt)) in
    proved 𝓛 ended hs c 𝓜 𝓡 (Goes-dropped 𝓛 1 self yes (λ κs x f. refl), (Goes-dropped 𝓛 1 until yes (λ κs x f. refl), tt)) #self code.function (code.unfolded 𝓤 H 𝓜 𝓡 wired)
    (λ κs. ((λ _. blank ∷ []), (shr_vals, tt))) (λ κs. ((λ e vs so. life_told vs so.0), (shr_Tells (named 0) κs.0 Row, tt))) (λ κs qs bounds a gh are.
    let n : ℕ = a.0.id in let k : ℕ = a.0.count in let b : ℕ = a.1.0.ref_ptr.0 in let o : ℕ = a.1.0.ref_ptr.1 in let κ : Lft = κs.0 in let m : ℕ = a.1.0.now.id in let μ : Lft = m ∷ [] in
    let new : pledge.the_row.Denot = record { id = n; count = k; until = m } in let Kept : Type 0 = (n ≡ n) × (k ≡ k) in let Until : Type 0 = m ≡ m in
    let y : (walk_of 𝓛 ended hs c).Ghost = ((κs, qs, bounds, a, (blank ∷ [], (shr_vals a.1.0, tt))), gh) in let Post : Val → SProp 𝓤 = (walk_of 𝓛 ended hs c).post y in
    qed 𝓛 (((‵ (flft κ qs.0) ⊛ ‵ ftrue) ⊛ ‵ (owns (types_at ended.signature.params κs) a y.0.4)) ∷ raw ((c κs a).requires gh) ∷ []) ∵
    split ! $ split ! $ move ! (2 ∷ []) $ fsplit3 ! $ fsplit ! $ move ! (2 ∷ []) $ fsplit ! $ keep ! (3 ∷ 1 ∷ 5 ∷ 6 ∷ []) $
    -- [the tokens; the reference; its token; nothing]
    move ! (1 ∷ []) $ use1 𝓛 (‵ (hidden_shr LifeData κ tt b o) ⊛ ‵ (fhide (life_shared m κ))) (lent_out 𝓛 life.struct life.the_codes life.the_heap life.the_lent κ a.1.0.now b o) $
    split ! $ move ! (1 ∷ []) $ unhide ! $ keep ! (0 ∷ 3 ∷ 2 ∷ 4 ∷ []) $
    enter ! 𝓣.C 𝓣.Λ code.function (blank ∷ vptr b o ∷ []) Post $ alloc_all ! (λ l. pass_all ! refl ((tt, tt), ((tt, tt), tt)) $
    shr_bor-open ! tt (tokens_halve 𝓛 μ) (λ s. move ! (2 ∷ []) $ bor_new ! tt μ $ move ! (0 ∷ 3 ∷ []) $
    -- [the borrow of the tokens; a token of the other life; the right to have them back; the open borrow]
    use2 𝓛 (later (‵ (life_shared n μ) ⊛ ‵ (flft μ s))) (borrowed 𝓛 n k μ s) $ await ! tt $ split ! $ move ! (2 ∷ 0 ∷ []) $ fjoin ! $
    use0 𝓛 (‵ (PledgeData.own_val tt (blank ∷ []))) (pledge_made 𝓛) $ fjoin ! $
    move ! (2 ∷ 1 ∷ []) $ obor_close ! tt $ drop ! $ move ! (0 ∷ 2 ∷ []) $ join ! $ sets ! (agg ! (no_more !)) refl (tt, tt) $
    move ! (1 ∷ []) $ use0 𝓛 (raw (fact 𝓤 Until)) (fact_i 𝓤 Until (emp 𝓤) refl) $ use0 𝓛 (raw (fact 𝓤 Kept)) (fact_i 𝓤 Kept (emp 𝓤) (refl, refl)) $ join ! $
    nothing ! $ nothing ! $ fjoin ! $ nothing ! $ fjoin ! $
    returns ! (look_at ! 0 refl) $ free_all ! refl $ keep ! (3 ∷ 0 ∷ 2 ∷ 1 ∷ []) $ by ! (leaves 𝓛 ended hs c y blank new (tt, (tt, tt)) (tt, (tt, tt))))))
