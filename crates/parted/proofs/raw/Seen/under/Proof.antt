-- The tokens of the life that the value is seen under are borrowed for the other one, so it is seen under that too.
use Rattle.parted.proofs.Names.{◌≡◌, ℕ, [], ◌∷◌, refl, a_type, named, Val, vptr, inst_fn, SProp, emp, Lft, Fml, ftrue, fsep, flft, fhide, ‵, raw, ◌⊛◌, ◌$◌, ◌∵◌, !, qed, by, move, keep, use0, use1, use2, split, join, fsplit, fsplit3, fjoin, rewrite, enter, of_opd, stop, fld, no_more, and_then, returns, alloc_all, pass_all, free_all, look_at, get, get_in, sets, agg, sub, whole, meet_⊑_left, fact, fact_i, tables, RefOf, yes, no, hidden_shr, moves_from, unhide, param, layouts, param_laws, RattleType, owns, Ptr, InBlock, shr_vals, shr_Tells, types_at, plain, nothing, heard, lent_at, lent_at_shr_laws, lent_out, Stays, stay_dropped, walk_of, Goes-dropped, Ptr-Good, proved, leaves, strip_good, life_shared, PledgeData, word, SeenData, seen_told, seen_made, seen_placed}
use Rattle.parted.specs.contracts.raw.Seen.under.{ended, clauses}
use Rattle.parted.specs.contracts.raw.Seen.under.Key.{name as #self}
use Rattle.parted.proofs.raw.Seen.under.Statement.{statement}
use Rattle.parted.proofs.raw.Seen.under.Code as code
use Rattle.parted.specs.contracts.raw.Seen as seen
use Rattle.parted.specs.contracts.life.Pledge as pledge

pub under_spec : {M : Type 1} → statement M
under_spec 𝓤 𝓛 𝓜 𝓡 wired X L =
    let H = 𝓛.H in let 𝓣 = tables 𝓤 H 𝓜 𝓡 𝓡.env in let R : RattleType = param 0 X in let En = ended X in let inst = layouts (a_type ∷ []) (X, tt) in let fn = inst_fn inst code.function in
    let Row : RattleType = seen.the_row R in let c = clauses X 𝓛 𝓜.mem 𝓡.returns in let laws = (param_laws 0 X L).shr_laws in
    let self = plain (λ _. Row) in let ref = RefOf (0 ∷ []) tt (plain (λ _. pledge.the_row)) (λ _. tt) in let hs : Stays En.signature.params En.kept = (stay_dropped self no, (stay_dropped ref yes, tt)) in
    proved 𝓛 En hs c 𝓜 𝓡 (Goes-dropped 𝓛 2 self no (λ κs x f. refl), (Goes-dropped 𝓛 2 ref yes (λ κs x f. refl), tt)) (#self inst) fn (code.unfolded 𝓤 H 𝓜 𝓡 wired (X, tt))
    (λ κs. ((λ d. word d.ptr ∷ []), (shr_vals, tt))) (λ κs. ((λ d vs so. seen_told R d.ptr vs so.0), (shr_Tells (named 0) κs.0 pledge.the_row, tt))) (λ κs qs bounds a gh are.
    let d : Row.Denot = a.0 in let p : Ptr = d.ptr in let x : X.Denot = d.value in let b : ℕ = a.1.0.ref_ptr.0 in let o : ℕ = a.1.0.ref_ptr.1 in let κ : Lft = κs.0 in
    let n : ℕ = a.1.0.now.id in let m : ℕ = a.1.0.now.until in let ν : Lft = n ∷ [] in let μ : Lft = m ∷ [] in let t : Lft → Fml = lent_at R p x in
    let new : Row.Denot = record { ptr = p; value = x; life = m } in let Asked : Type 0 = d.life ≡ n in let Value : Type 0 = x ≡ x in let Life : Type 0 = m ≡ m in let others : Fml = fsep (flft κs.1.0 qs.1.0) ftrue in
    let y : (walk_of 𝓛 En hs c).Ghost = ((κs, qs, bounds, a, (word p ∷ [], (shr_vals a.1.0, tt))), gh) in let Post : Val → SProp 𝓤 = (walk_of 𝓛 En hs c).post y in
    qed 𝓛 (((‵ (flft κ qs.0) ⊛ ‵ others) ⊛ ‵ (owns (types_at En.signature.params κs) a y.0.4)) ∷ raw (fact 𝓤 _) ∷ raw (fact 𝓤 Asked) ∷ []) ∵
    keep ! (2 ∷ 0 ∷ []) $ heard ! Asked (λ same. split ! $ split ! $ move ! (2 ∷ []) $ fsplit3 ! $ fsplit ! $ move ! (2 ∷ []) $ fsplit ! $ keep ! (3 ∷ 1 ∷ 5 ∷ 6 ∷ []) $
    -- [what is seen; the reference; its token; the others]
    rewrite ! 0 (λ (i : ℕ). ‵ (t (i ∷ []))) same refl $
    move ! (1 ∷ []) $ use1 𝓛 (‵ (hidden_shr PledgeData κ tt b o) ⊛ ‵ (fhide (life_shared n μ))) (lent_out 𝓛 pledge.struct pledge.the_codes pledge.the_heap pledge.the_lent κ a.1.0.now b o) $
    split ! $ move ! (1 ∷ []) $ unhide ! $ move ! (0 ∷ 2 ∷ []) $ use2 𝓛 (‵ (t μ)) (moves_from 𝓛 t (lent_at_shr_laws R laws p x) μ ν ν (meet_⊑_left ν μ)) $
    use1 𝓛 (raw (fact 𝓤 (InBlock p)) ⊛ ‵ (t μ)) (seen_placed 𝓛 R p x μ) $ split ! $ heard ! (InBlock p) (λ lies. keep ! (0 ∷ 2 ∷ 3 ∷ []) $
    enter ! 𝓣.C 𝓣.Λ fn (word p ∷ vptr b o ∷ []) Post $ alloc_all ! (λ l. pass_all ! refl (strip_good p lies, ((tt, tt), tt)) $
    sets ! (of_opd ! (get_in ! (fld ! refl (stop !)) (sub ! 0 refl (whole !)))) refl (Ptr-Good p) $ sets ! (agg ! (and_then ! (get ! refl) (no_more !))) refl (strip_good p lies) $
    use0 𝓛 (‵ ((SeenData R).own_val (p, tt) (word p ∷ []))) (seen_made R 𝓛 p) $ fjoin ! $ move ! (1 ∷ 2 ∷ []) $ join ! $ move ! (1 ∷ []) $
    use0 𝓛 (raw (fact 𝓤 Life)) (fact_i 𝓤 Life (emp 𝓤) refl) $ use0 𝓛 (raw (fact 𝓤 Value)) (fact_i 𝓤 Value (emp 𝓤) refl) $ join ! $ nothing ! $ nothing ! $ fjoin ! $ nothing ! $ fjoin ! $
    returns ! (look_at ! 0 refl) $ free_all ! refl $ keep ! (3 ∷ 0 ∷ 2 ∷ 1 ∷ []) $ by ! (leaves 𝓛 En hs c y (word p) new (tt, (tt, tt)) (tt, (tt, tt)))))))
