-- The life is over, so the value comes back, and with it the box.
use Rattle.parted.proofs.Names.{◌≡◌, ℕ, List, [], ◌∷◌, ◌++◌, refl, sym, ap, ◌∙◌, subst, T, a_type, dcons, dnil, named, Val, vptr, vstruct, of_list, has_ty, WT, inst_fn, full_share, SProp, ent, emp, id⊢, Lft, Fml, ftrue, flft, fhide, Item, ‵, raw, ◌⊛◌, some, later, at_ret, ◌$◌, ◌∵◌, !, qed, by, move, keep, drop, use0, use1, split, split3, join, fsplit, fsplit3, fjoin, fjoin3, fpick, feq_i, feq_l, pick, await, rewrite, suffices, enter, of_opd, stop, fld, no_more, and_then, first, blocks, exec, returns, alloc_all, pass_all, free_all, look_at, get, get_in, sets, lands_last, is, env, sub, whole, lent_back, ◌⊑◌, fact, fact_i, tables, RefOf, yes, no, hidden_shr, unhide, bounded, RattleType, owns, Ptr, InBlock, block_ptr, ptr_val, block_of, count_of, at_block, lies_at, shr_Tells, types_at, plain, nothing, only, heard, lent_out, in_block_says, calls_at_last, Lasts, lasts, triple_of, Stays, stay_dropped, walk_of, Goes-dropped, tail, proved_at, leaves, fm, over, EndedData, handle_tells, Goes-blank, box_out, box_in}
use Rattle.std_alloc.proofs.BoxSteps.Form as box
use Rattle.std_alloc.specs.contracts.boxed.Box.from_raw as callee
use Rattle.std_alloc.proofs.boxed.Box.from_raw.Met as callee_met
use Rattle.parted.specs.contracts.raw.Deed.reclaim.{ended, clauses}
use Rattle.parted.specs.contracts.raw.Deed.reclaim.Key.{name as #self}
use Rattle.parted.proofs.raw.Deed.reclaim.Statement.{statement}
use Rattle.parted.proofs.raw.Deed.reclaim.Code as code
use Rattle.parted.specs.contracts.life.Ended as end
use Rattle.parted.specs.contracts.raw.Deed as deed

pub reclaim_spec : {M : Type 1} → statement M
reclaim_spec 𝓤 𝓛 𝓜 𝓡 wired X Z L LZ g dict drop_z met glue_z =
    let H = 𝓛.H in let 𝓣 = tables 𝓤 H 𝓜 𝓡 𝓡.env in let E : box.Bx = record { row = X; laws = L; al = record { row = Z; laws = LZ; g = g; d = dict; drops = drop_z } } in
    let R : RattleType = box.R E in let P : RattleType = box.P E in let B : RattleType = box.B E in let Dd : RattleType = deed.the_row R P g in
    let En = ended X Z g dict drop_z in let inst = bounded (a_type ∷ a_type ∷ []) (X, (Z, tt)) (dcons dict (dcons drop_z dnil)) in let fn = inst_fn inst code.function in let c = clauses X Z g dict drop_z 𝓛 𝓜.mem 𝓡.returns in
    let Made = triple_of 𝓛 (callee.signature X Z g dict drop_z) (callee.spec X Z g dict drop_z 𝓛 𝓜.mem 𝓡.returns) in let Ce = callee.ended X Z g dict drop_z in
    let known = callee_met.met 𝓤 𝓛 𝓜 𝓡 (code.calls-std_alloc::boxed::Box::from_raw 𝓡.env wired) X Z L LZ g dict drop_z met glue_z in
    let self = plain (λ _. Dd) in let ref = RefOf (0 ∷ []) tt (plain (λ _. end.the_row)) (λ _. tt) in let hs : Stays En.signature.params En.kept = (stay_dropped self no, (stay_dropped ref yes, tt)) in
    proved_at 𝓛 En hs c 𝓜 𝓡 (Goes-blank 𝓛 3 self no (λ κs x f. tt), (Goes-dropped 𝓛 3 ref yes (λ κs x f. refl), tt)) (#self inst) fn (code.unfolded 𝓤 H 𝓜 𝓡 wired (X, (Z, tt)) dict drop_z) (λ z are.
    let κs = z.0.0 in let qs = z.0.1 in let κ : Lft = κs.0 in let t₁ : Item 𝓤 = ‵ (flft κs.1.0 qs.1.0) in let t₂ : Item 𝓤 = ‵ (flft κs.1.1.0 qs.1.1.0) in let inX = κs.1.0 ⊑ X.lives in let inZ = κs.1.1.0 ⊑ Z.lives in
    let v : Dd.Denot = z.0.3.0 in let a : Z.Denot = v.alloc in let x : X.Denot = v.value in let p : Ptr = v.ptr in let b : ℕ = block_of p in let o : ℕ = count_of p in let value : Fml = lies_at R full_share p x in
    let done_by = z.0.3.1.0 in let m : ℕ = done_by.now.id in let be : ℕ = done_by.ref_ptr.0 in let oe : ℕ = done_by.ref_ptr.1 in let Asked : Type 0 = m ≡ v.life in
    let refers : z.0.4.1.0 ≡ vptr be oe ∷ [] = shr_Tells (named 0) κ end.the_row done_by z.0.4.1.0 are.1.0 in
    let Post : Val → SProp 𝓤 = (walk_of 𝓛 En hs c).post z in let Run : List Val → SProp 𝓤 = λ ws. prog.Wp.WpFn 𝓤 H 𝓣.C 𝓣.Λ fn ws Post in
    qed 𝓛 (((‵ (flft κ qs.0) ⊛ t₁ ⊛ t₂ ⊛ ‵ ftrue) ⊛ ‵ (owns (types_at En.signature.params κs) z.0.3 z.0.4)) ∷ raw (fact 𝓤 inX) ∷ raw (fact 𝓤 inZ) ∷ raw (fact 𝓤 Asked) ∷ []) ∵
    move ! (1 ∷ 2 ∷ 3 ∷ []) $ heard ! inX (λ leX. heard ! inZ (λ leZ. heard ! Asked (λ same. split ! $ split ! $ move ! (2 ∷ []) $ fsplit3 ! $ move ! (1 ∷ []) $ fsplit ! $ drop ! $
    -- [the reference; the deed; nothing; its token; the other tokens]
    use1 𝓛 (‵ (hidden_shr EndedData κ tt be oe) ⊛ ‵ (fhide (over m))) (lent_out 𝓛 end.struct end.the_codes end.the_heap end.the_lent κ done_by.now be oe) $
    split ! $ drop ! $ unhide ! $ rewrite ! 0 (λ (i : ℕ). ‵ (over i)) same refl $ move ! (1 ∷ []) $ fsplit ! $
    fpick ! (λ vss. fsplit ! $ feq_l ! (λ ev. fsplit ! $ feq_l ! (λ ep. fsplit ! $ handle_tells E.al ! a vss.1.0 (λ hv eh fa. move ! (2 ∷ []) $ fsplit3 ! $
    use1 𝓛 (raw (fact 𝓤 (InBlock p))) (in_block_says 𝓛 p) $ heard ! (InBlock p) (λ lies. keep ! (4 ∷ 0 ∷ 1 ∷ 2 ∷ 7 ∷ 6 ∷ []) $
    -- [that the life is over; the right to the value; the right to free; the handle; the other tokens; the token of the reference]
    let at : p ≡ block_ptr b o = at_block p lies in let w : Val = box.word E hv b o in let typed = box.box_typed E hv b o fa in let us : List Val = w ∷ vptr be oe ∷ [] in
    let ew : z.0.4.0 ≡ w ∷ [] = ev ∙ (λ j. vstruct (of_list ((ep ∙ ap (λ (π : Ptr). ptr_val π ∷ []) at) j ++ (eh j ++ []))) ∷ []) in
    let y : Made.Ghost = ((κs.1, qs.1, tt, (a, (p, tt)), (hv ∷ [], (vptr b o ∷ [], tt))), x) in
    suffices ! (Run us) (subst (λ (ws : List Val). ent 𝓤 (Run us) (Run ws)) (sym (λ i. ew i ++ (refers i ++ []))) (id⊢ 𝓤 (Run us))) $
    enter ! 𝓣.C 𝓣.Λ fn us Post $ alloc_all ! (λ l. pass_all ! refl (typed, ((tt, tt), tt)) $ let Ev = env fn.locals l in lent_back ! tt $ fjoin ! $
    sets ! (of_opd ! (get_in ! (fld ! refl (stop !)) (sub ! 0 refl (whole !)))) refl (tt, tt) $ sets ! (of_opd ! (get_in ! (fld ! refl (stop !)) (sub ! 1 refl (whole !)))) refl fa $
    first ! $ blocks ! $ sets ! (of_opd ! (get ! refl)) refl fa $
    use0 𝓛 (raw (fact 𝓤 inZ)) (fact_i 𝓤 inZ (emp 𝓤) leZ) $ join ! $ use0 𝓛 (raw (fact 𝓤 inX)) (fact_i 𝓤 inX (emp 𝓤) leX) $ join ! $
    nothing ! $ feq_i ! (List Val) (vptr b o ∷ []) (ptr_val p ∷ []) (ap (λ (π : Ptr). ptr_val π ∷ []) (sym at)) $ move ! (3 ∷ 0 ∷ 1 ∷ []) $ fjoin3 ! $ move ! (2 ∷ 0 ∷ []) $ join ! $ join ! $ use1 𝓛 (raw (Made.pre y)) (id⊢ 𝓤 _) $
    calls_at_last ! (fm 𝓛 𝓜 𝓡) Made known y (and_then ! (get ! refl) (and_then ! (get ! refl) (no_more !))) (λ u.
    use1 𝓛 (later (some (λ (r : B.Denot). ((t₁ ⊛ t₂ ⊛ ‵ ftrue) ⊛ ‵ (B.own_val r (u ∷ []))) ⊛ some (λ (ws : Lasts Ce κs.1 (a, (p, tt))). ‵ (lasts Ce κs.1 (a, (p, tt)) ws) ⊛ (raw (fact 𝓤 (r.value ≡ x)) ⊛ raw (fact 𝓤 (r.alloc ≡ a))))))) (id⊢ 𝓤 _) $
    await ! tt $ pick ! (λ r. split ! $ move ! (1 ∷ []) $ pick ! (λ _. split3 ! $ drop ! $ move ! (1 ∷ []) $ drop ! $ heard ! (r.value ≡ x) (λ back. split ! $ move ! (2 ∷ 0 ∷ []) $ join ! $ move ! (1 ∷ []) $
    box_out E ! r (u ∷ []) (λ b' o' hw e' eu fw. box_in E ! r b' o' r.value e' refl $ let w' : Val = box.word E hw b' o' in let typed' = box.box_typed E hw b' o' fw in let is_word : u ≡ w' = ap only eu in
    lands_last ! refl (subst (λ (s : Val). T (has_ty (box.box_ty E) s) × WT s) (sym is_word) typed') $ exec ! 𝓣.C 𝓣.Λ Ev (tail (tail (tail fn.body))) (at_ret Ev Post) $ sets ! (is ! (of_opd ! (get ! refl)) is_word) refl typed' $
    use0 𝓛 (raw (fact 𝓤 (r.value ≡ x))) (fact_i 𝓤 (r.value ≡ x) (emp 𝓤) back) $ nothing ! $ nothing ! $ fjoin ! $ nothing ! $ fjoin ! $
    returns ! (look_at ! 0 refl) $ free_all ! refl $ keep ! (3 ∷ 0 ∷ 2 ∷ 1 ∷ []) $ by ! (leaves 𝓛 En hs c z w' r ((tt, (tt, tt)), (tt, tt)) (tt, (tt, tt))))))))))))))))))
