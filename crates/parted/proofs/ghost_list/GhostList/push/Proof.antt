-- One more number is at the end.
use Rattle.parted.proofs.Names.{◌≡◌, ℕ, List, [], ◌∷◌, refl, w64, named, Val, vunit, vptr, SProp, emp, ftrue, flft, ‵, raw, ◌⊛◌, ◌$◌, ◌∵◌, !, qed, by, move, keep, use0, split, join, fsplit, fsplit3, fjoin, fjoin3, feq_i, enter, of_opd, unit_lit, returns, alloc_all, pass_all, free_all, look_at, sets, fact, fact_i, tables, u64, yes, uint_vals, uint_Tells, RattleType, owns, mut_vals, mut_Tells, types_at, plain, nothing, opens, closes, Stays, stay_dropped, stay_ref, walk_of, Goes-dropped, Goes-ref, proved, leaves}
use Rattle.std.specs.Prelude.{◌++◌}
use Rattle.parted.specs.contracts.ghost_list.GhostList.push.{ended, clauses}
use Rattle.parted.specs.contracts.ghost_list.GhostList.push.Key.{name as #self}
use Rattle.parted.proofs.ghost_list.GhostList.push.Statement.{statement}
use Rattle.parted.proofs.ghost_list.GhostList.push.Code as code
use Rattle.parted.specs.contracts.ghost_list.GhostList as list

pub push_spec : {M : Type 1} → statement M
push_spec 𝓤 𝓛 𝓜 𝓡 wired =
    let H = 𝓛.H in let 𝓣 = tables 𝓤 H 𝓜 𝓡 𝓡.env in let c = clauses 𝓛 𝓜.mem 𝓡.returns in let Row : RattleType = list.the_row in
    let self = plain (λ _. Row) in let number = plain (λ _. u64) in let hs : Stays ended.signature.params ended.kept = (stay_ref (0 ∷ []) tt self, (stay_dropped number yes, tt)) in
    proved 𝓛 ended hs c 𝓜 𝓡 (Goes-ref 𝓛 1 0 tt self, (Goes-dropped 𝓛 1 number yes (λ κs x f. refl), tt)) #self code.function (code.unfolded 𝓤 H 𝓜 𝓡 wired)
    (λ κs. (mut_vals, (uint_vals w64, tt))) (λ κs. (mut_Tells (named 0) κs.0 Row, (uint_Tells w64, tt))) (λ κs qs bounds a gh are.
    let b : ℕ = a.0.ref_ptr.0 in let o : ℕ = a.0.ref_ptr.1 in let d : Row.Denot = a.0.now in let i : ℕ = a.1.0 in
    let more : Row.Denot = record { items = d.items ++ i ∷ [] } in let Told : Type 0 = more.items ≡ d.items ++ i ∷ [] in
    let y : (walk_of 𝓛 ended hs c).Ghost = ((κs, qs, bounds, a, (mut_vals a.0, (uint_vals w64 i, tt))), gh) in let Post : Val → SProp 𝓤 = (walk_of 𝓛 ended hs c).post y in
    qed 𝓛 (((‵ (flft κs.0 qs.0) ⊛ ‵ ftrue) ⊛ ‵ (owns (types_at ended.signature.params κs) a y.0.4)) ∷ raw ((c κs a).requires gh) ∷ []) ∵
    keep ! (0 ∷ []) $ split ! $ split ! $ move ! (2 ∷ []) $ fsplit ! $ fsplit3 ! $ keep ! (1 ∷ 2 ∷ 4 ∷ 5 ∷ []) $
    enter ! 𝓣.C 𝓣.Λ code.function (vptr b o ∷ uint_vals w64 i) Post $ alloc_all ! (λ l. pass_all ! refl ((tt, tt), ((tt, record { fits = are.1.0.1 }), tt)) $
    opens ! tt Row b o (λ vs. closes ! tt Row more vs b o $ feq_i ! (List Val) (vptr b o ∷ []) (vptr b o ∷ []) refl $ fjoin3 ! $
    nothing ! $ nothing ! $ fjoin ! $ move ! (1 ∷ 0 ∷ []) $ fjoin ! $ move ! (1 ∷ 2 ∷ []) $ join ! $
    sets ! (of_opd ! (unit_lit !)) refl (tt, tt) $ use0 𝓛 (raw (fact 𝓤 Told)) (fact_i 𝓤 Told (emp 𝓤) refl) $ feq_i ! (List Val) (vunit ∷ []) (vunit ∷ []) refl $
    returns ! (look_at ! 0 refl) $ free_all ! refl $ keep ! (2 ∷ 3 ∷ 0 ∷ 1 ∷ []) $ by ! (leaves 𝓛 ended hs c y vunit tt (more, (tt, tt)) (tt, (tt, tt))))))
