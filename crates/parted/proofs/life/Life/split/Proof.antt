-- Some of the tokens go, and the rest stays.
use Rattle.parted.proofs.Names.{◌≡◌, ℕ, ◌+◌, ◌-◌, ◌^◌, ◌<◌, ◌≤◌, List, [], ◌∷◌, refl, arith, w64, named, Val, vptr, SProp, emp, ftrue, flft, ‵, raw, ◌⊛◌, ◌$◌, ◌∵◌, !, qed, by, move, keep, use0, use1, split, join, fsplit, fsplit3, fjoin, fjoin3, feq_i, rewrite, enter, no_more, returns, alloc_all, pass_all, free_all, look_at, sets, agg, fact, fact_i, tables, u64, yes, uint_vals, uint_Tells, RattleType, owns, mut_vals, mut_Tells, types_at, plain, nothing, heard, opens, closes, Stays, stay_dropped, stay_ref, walk_of, Goes-dropped, Goes-ref, proved, leaves, tokens, parted, blank, LifeData, life_made}
use Rattle.parted.specs.contracts.life.Life.split.{ended, clauses}
use Rattle.parted.specs.contracts.life.Life.split.Key.{name as #self}
use Rattle.parted.proofs.life.Life.split.Statement.{statement}
use Rattle.parted.proofs.life.Life.split.Code as code
use Rattle.parted.specs.contracts.life.Life as life

pub split_spec : {M : Type 1} → statement M
split_spec 𝓤 𝓛 𝓜 𝓡 wired =
    let H = 𝓛.H in let 𝓣 = tables 𝓤 H 𝓜 𝓡 𝓡.env in let c = clauses 𝓛 𝓜.mem 𝓡.returns in let Row : RattleType = life.the_row in
    let self = plain (λ _. Row) in let number = plain (λ _. u64) in let hs : Stays ended.signature.params ended.kept = (stay_ref (0 ∷ []) tt self, (stay_dropped number yes, tt)) in
    proved 𝓛 ended hs c 𝓜 𝓡 (Goes-ref 𝓛 1 0 tt self, (Goes-dropped 𝓛 1 number yes (λ κs x f. refl), tt)) #self code.function (code.unfolded 𝓤 H 𝓜 𝓡 wired)
    (λ κs. (mut_vals, (uint_vals w64, tt))) (λ κs. (mut_Tells (named 0) κs.0 Row, (uint_Tells w64, tt))) (λ κs qs bounds a gh are.
    let b : ℕ = a.0.ref_ptr.0 in let o : ℕ = a.0.ref_ptr.1 in let d : Row.Denot = a.0.now in let n : ℕ = d.id in let k : ℕ = d.count in let i : ℕ = a.1.0 in
    let left : Row.Denot = record d { count = k - i } in let new : Row.Denot = record d { count = i } in
    let Asked : Type 0 = (0 < i) × (i < k) × (k ≤ 2 ^ 63) in let Left : Type 0 = left ≡ left in let Taken : Type 0 = new ≡ new in
    let y : (walk_of 𝓛 ended hs c).Ghost = ((κs, qs, bounds, a, (mut_vals a.0, (uint_vals w64 i, tt))), gh) in let Post : Val → SProp 𝓤 = (walk_of 𝓛 ended hs c).post y in
    qed 𝓛 (((‵ (flft κs.0 qs.0) ⊛ ‵ ftrue) ⊛ ‵ (owns (types_at ended.signature.params κs) a y.0.4)) ∷ raw (fact 𝓤 Asked) ∷ []) ∵
    move ! (1 ∷ []) $ heard ! Asked (λ asked. let some = asked.0 in let less = asked.1 in let fits = asked.2 in let sum : k ≡ i + (k - i) = omega arith in
    split ! $ split ! $ move ! (2 ∷ []) $ fsplit ! $ fsplit3 ! $ keep ! (1 ∷ 2 ∷ 4 ∷ 5 ∷ []) $
    enter ! 𝓣.C 𝓣.Λ code.function (vptr b o ∷ uint_vals w64 i) Post $ alloc_all ! (λ l. pass_all ! refl ((tt, tt), ((tt, record { fits = are.1.0.1 }), tt)) $
    opens ! tt Row b o (λ vs. move ! (1 ∷ []) $ fsplit ! $ move ! (1 ∷ []) $ rewrite ! 0 (λ (m : ℕ). ‵ (tokens n m)) sum refl $
    use1 𝓛 (‵ (tokens n i) ⊛ ‵ (tokens n (k - i))) (parted 𝓛 n i (k - i) some (omega arith) (omega arith)) $ split ! $
    -- [what goes; what stays; no bytes; the cell; the open borrow]
    sets ! (agg ! (no_more !)) refl (tt, tt) $
    move ! (2 ∷ 1 ∷ []) $ fjoin ! $ move ! (2 ∷ 0 ∷ 3 ∷ 4 ∷ 5 ∷ []) $ closes ! tt Row left vs b o $
    feq_i ! (List Val) (vptr b o ∷ []) (vptr b o ∷ []) refl $ fjoin3 ! $ nothing ! $ nothing ! $ fjoin ! $ move ! (1 ∷ 0 ∷ []) $ fjoin ! $ move ! (1 ∷ 3 ∷ []) $ join ! $
    move ! (2 ∷ []) $ use0 𝓛 (‵ (LifeData.own_val tt (blank ∷ []))) (life_made 𝓛) $ fjoin ! $
    use0 𝓛 (raw (fact 𝓤 Taken)) (fact_i 𝓤 Taken (emp 𝓤) refl) $ use0 𝓛 (raw (fact 𝓤 Left)) (fact_i 𝓤 Left (emp 𝓤) refl) $ join ! $
    returns ! (look_at ! 0 refl) $ free_all ! refl $ keep ! (2 ∷ 3 ∷ 1 ∷ 0 ∷ []) $ by ! (leaves 𝓛 ended hs c y blank new (left, (tt, tt)) (tt, (tt, tt)))))))
