-- A borrowed token says that the life runs on, so the value is there for as long.
use Rattle.parted.proofs.Names.{◌≡◌, ℕ, List, [], ◌∷◌, refl, sym, ap, ◌∙◌, a_type, named, Val, vptr, inst_fn, SProp, emp, Lft, Fml, ftrue, fsep, flft, fhide, ‵, raw, ◌⊛◌, at_ret, ◌$◌, ◌∵◌, !, qed, by, move, keep, drop, use0, use1, use2, split, join, fsplit, fsplit3, fjoin, feq_i, rewrite, enter, of_opd, addr, stop, fld, hop, first, blocks, exec, returns, alloc_all, pass_all, free_all, look_at, get, through, sets, sets_last, env, sub, whole, look_in, meet_⊑_left, fact, fact_i, tables, RefOf, yes, Is, shows, cell_at, hidden_shr, moves_from, hide, unhide, param, layouts, param_laws, RattleType, owns, Ptr, InBlock, block_ptr, block_of, count_of, at_block, shr_vals, shr_Tells, types_at, plain, nothing, peeks, heard, looks, shuts, lent_at, lent_at_shr_laws, lent_out, Stays, stay_dropped, walk_of, Goes-dropped, tail, proved, leaves, life_shared, LifeData, word, SeenData, seen_told, seen_opens, seen_placed}
use Rattle.parted.specs.contracts.raw.Seen.get.{ended, clauses}
use Rattle.parted.specs.contracts.raw.Seen.get.Key.{name as #self}
use Rattle.parted.proofs.raw.Seen.get.Statement.{statement}
use Rattle.parted.proofs.raw.Seen.get.Code as code
use Rattle.parted.specs.contracts.raw.Seen as seen
use Rattle.parted.specs.contracts.life.Life as life

pub get_spec : {M : Type 1} → statement M
get_spec 𝓤 𝓛 𝓜 𝓡 wired X L =
    let H = 𝓛.H in let 𝓣 = tables 𝓤 H 𝓜 𝓡 𝓡.env in let R : RattleType = param 0 X in let En = ended X in let inst = layouts (a_type ∷ []) (X, tt) in let fn = inst_fn inst code.function in
    let Row : RattleType = seen.the_row R in let D : RattleType = SeenData R in let c = clauses X 𝓛 𝓜.mem 𝓡.returns in let laws = (param_laws 0 X L).shr_laws in
    let self = RefOf (0 ∷ []) tt (plain (λ _. Row)) (λ _. tt) in let ref = RefOf (1 ∷ []) tt (plain (λ _. life.the_row)) (λ _. tt) in let hs : Stays En.signature.params En.kept = (stay_dropped self yes, (stay_dropped ref yes, tt)) in
    proved 𝓛 En hs c 𝓜 𝓡 (Goes-dropped 𝓛 3 self yes (λ κs x f. refl), (Goes-dropped 𝓛 3 ref yes (λ κs x f. refl), tt)) (#self inst) fn (code.unfolded 𝓤 H 𝓜 𝓡 wired (X, tt))
    (λ κs. (shr_vals, (shr_vals, tt))) (λ κs. (shr_Tells (named 0) κs.0 Row, (shr_Tells (named 1) κs.1.0 life.the_row, tt))) (λ κs qs bounds a gh are.
    let b : ℕ = a.0.ref_ptr.0 in let o : ℕ = a.0.ref_ptr.1 in let b' : ℕ = a.1.0.ref_ptr.0 in let o' : ℕ = a.1.0.ref_ptr.1 in let κ : Lft = κs.0 in let κ' : Lft = κs.1.0 in
    let d : Row.Denot = a.0.now in let n : ℕ = a.1.0.now.id in let ν : Lft = n ∷ [] in let p : Ptr = d.ptr in let x : X.Denot = d.value in let t : Lft → Fml = lent_at R p x in
    let others : Fml = fsep (flft κ' qs.1.0) (fsep (flft κs.1.1.0 qs.1.1.0) ftrue) in let Asked : Type 0 = d.life ≡ n in let Told : Type 0 = x ≡ x in
    let there : Val = vptr (block_of p) (count_of p) in
    let y : (walk_of 𝓛 En hs c).Ghost = ((κs, qs, bounds, a, (shr_vals a.0, (shr_vals a.1.0, tt))), gh) in let Post : Val → SProp 𝓤 = (walk_of 𝓛 En hs c).post y in
    qed 𝓛 (((‵ (flft κ qs.0) ⊛ ‵ others) ⊛ ‵ (owns (types_at En.signature.params κs) a y.0.4)) ∷ raw (fact 𝓤 _) ∷ raw (fact 𝓤 Asked) ∷ []) ∵
    keep ! (2 ∷ 0 ∷ []) $ heard ! Asked (λ same. split ! $ split ! $ move ! (2 ∷ []) $ fsplit3 ! $ fsplit ! $ move ! (2 ∷ []) $ fsplit ! $ keep ! (1 ∷ 3 ∷ 5 ∷ 6 ∷ []) $
    -- [the life; the reference; its token; the others]
    enter ! 𝓣.C 𝓣.Λ fn (vptr b o ∷ vptr b' o' ∷ []) Post $ alloc_all ! (λ l. pass_all ! refl ((tt, tt), ((tt, tt), tt)) $ let Ev = env fn.locals l in
    use1 𝓛 (‵ (hidden_shr LifeData κ' tt b' o') ⊛ ‵ (fhide (life_shared n κ'))) (lent_out 𝓛 life.struct life.the_codes life.the_heap life.the_lent κ' a.1.0.now b' o') $
    split ! $ drop ! $ unhide ! $ move ! (1 ∷ []) $
    use1 𝓛 (‵ (hidden_shr D κ (p, tt) b o) ⊛ ‵ (fhide (t (d.life ∷ [])))) (lent_out 𝓛 (seen.struct R) (seen.the_codes X.Denot R.coded) (seen.the_heap R) (seen.the_lent R) κ d b o) $
    split ! $ move ! (1 ∷ []) $ unhide ! $ rewrite ! 0 (λ (i : ℕ). ‵ (t (i ∷ []))) same refl $
    move ! (2 ∷ 0 ∷ []) $ use2 𝓛 (‵ (t κ')) (moves_from 𝓛 t (lent_at_shr_laws R laws p x) κ' ν ν (meet_⊑_left ν κ')) $
    use1 𝓛 (raw (fact 𝓤 (InBlock p)) ⊛ ‵ (t κ')) (seen_placed 𝓛 R p x κ') $ split ! $ heard ! (InBlock p) (λ lies. fsplit ! $ drop ! $ hide ! $
    -- [the value; the reference; its token; the others]
    move ! (1 ∷ 2 ∷ []) $ looks ! tt D (seen_opens R 𝓛) (p, tt) b o (λ q vs. move ! (1 ∷ []) $ peeks ! D (Is D) (shows 𝓛 D) (p, tt) vs (λ so.
    let at : vs ≡ word (block_ptr (block_of p) (count_of p)) ∷ [] = seen_told R p vs so ∙ ap (λ (r : Ptr). word r ∷ []) (at_block p lies) in
    rewrite ! 1 (λ (ws : List Val). ‵ (cell_at q D.mir ws b o)) at refl $ first ! $ blocks ! $
    sets_last ! (addr ! (through ! refl (fld ! refl (hop ! (look_in ! 1 (sub ! 0 refl (whole !))) (stop !))))) refl (tt, tt) $ exec ! 𝓣.C 𝓣.Λ Ev (tail fn.body) (at_ret Ev Post) $ sets ! (of_opd ! (get ! refl)) refl (tt, tt) $
    rewrite ! 1 (λ (ws : List Val). ‵ (cell_at q D.mir ws b o)) (sym at) refl $ move ! (1 ∷ 0 ∷ 2 ∷ []) $ shuts ! tt D q (p, tt) vs b o $ move ! (0 ∷ 3 ∷ []) $ join ! $
    move ! (2 ∷ []) $ feq_i ! (List Val) (there ∷ []) (there ∷ []) refl $ fjoin ! $ use0 𝓛 (raw (fact 𝓤 Told)) (fact_i 𝓤 Told (emp 𝓤) refl) $ nothing ! $ nothing ! $ fjoin ! $ nothing ! $ fjoin ! $
    returns ! (look_at ! 0 refl) $ free_all ! refl $ keep ! (3 ∷ 0 ∷ 2 ∷ 1 ∷ []) $ by ! (leaves 𝓛 En hs c y there (record { ref_ptr = (block_of p, count_of p); now = x }) (tt, (tt, tt)) (tt, (tt, tt)))))))))
