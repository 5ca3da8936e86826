-- The box is taken apart, and its value is lent to the life.
use Rattle.parted.proofs.Names.{true, ◌≡◌, ℕ, List, [], ◌∷◌, ◌++◌, refl, sym, ap, ◌∙◌, subst, ◌&&◌, a_type, dcons, dnil, named, Val, vptr, vstruct, vcons, vnil, of_list, has_ty, inst_fn, bare, full_share, SProp, ent, emp, id⊢, fst∗, never, Lft, Fml, ftrue, fsep, feq, flft, fhide, flent, sem, Item, ‵, raw, ◌⊛◌, some, later, ◌$◌, ◌∵◌, !, qed, by, move, keep, drop, use0, use1, use3, split, split3, join, fsplit, fsplit3, fjoin, fjoin3, fpick, fpack, feq_i, feq_l, pick, await, rewrite, suffices, enter, of_opd, stop, fld, no_more, and_then, returns, alloc_all, pass_all, free_all, look_at, get, get_in, sets, lands_as, agg, sub, whole, shr_bor-open, obor_close, tokens_halve, ◌⊑◌, fact, fact_i, tables, RawPtr, RefOf, yes, no, hidden_shr, unhide, layout, bounded, param_laws, RattleType, Valss, owns, Ptr, block_ptr, null_ptr, ptr_val, lies_at, in_a_block, shr_Tells, types_at, plain, nothing, only, heard, lent_at, lent_out, Lends-lies, shape, within, Tuple, calls_at, triple_of, Stays, stay_dropped, walk_of, Goes-dropped, proved_at, leaves, fm, life_shared, LifeData, word, SeenData, seen_made, lends_to, α, token, handle_tells, Goes-blank, box_owns, box_out, box_in, and_tt}
use Rattle.std_alloc.proofs.BoxSteps.Form as box
use Rattle.std_alloc.specs.contracts.boxed.Box.into_raw_with_allocator as callee
use Rattle.std_alloc.proofs.boxed.Box.into_raw_with_allocator.Met as callee_met
use Rattle.parted.specs.contracts.raw.share.{ended, clauses}
use Rattle.parted.specs.contracts.raw.share.Key.{name as #self}
use Rattle.parted.proofs.raw.share.Statement.{statement}
use Rattle.parted.proofs.raw.share.Code as code
use Rattle.parted.specs.contracts.life.Life as life
use Rattle.parted.specs.contracts.raw.Deed as deed
use Rattle.parted.specs.contracts.raw.Seen as seen

pub share_spec : {M : Type 1} → statement M
share_spec 𝓤 𝓛 𝓜 𝓡 wired X Z L LZ g dict drop_x drop_z met glue_x glue_z =
    let H = 𝓛.H in let 𝓣 = tables 𝓤 H 𝓜 𝓡 𝓡.env in let E : box.Bx = record { row = X; laws = L; al = record { row = Z; laws = LZ; g = g; d = dict; drops = drop_z } } in
    let R : RattleType = box.R E in let P : RattleType = box.P E in let B : RattleType = box.B E in let Sn : RattleType = seen.the_row R in let Dd : RattleType = deed.the_row R P g in let laws = param_laws 0 X L in
    let En = ended X Z g dict drop_x drop_z in let inst = bounded (a_type ∷ a_type ∷ []) (X, (Z, tt)) (dcons dict (dcons drop_x (dcons drop_z dnil))) in let fn = inst_fn inst code.function in
    let c = clauses X Z g dict drop_x drop_z 𝓛 𝓜.mem 𝓡.returns in
    let Taken = triple_of 𝓛 (callee.signature X Z g dict drop_z drop_x) (callee.spec X Z g dict drop_z drop_x 𝓛 𝓜.mem 𝓡.returns) in
    let known = callee_met.met 𝓤 𝓛 𝓜 𝓡 (code.calls-std_alloc::boxed::Box::into_raw_with_allocator 𝓡.env wired) X Z L LZ g dict drop_z drop_x met glue_z glue_x in
    let boxed = plain (λ _. B) in let ref = RefOf (0 ∷ []) tt (plain (λ _. life.the_row)) (λ _. tt) in let hs : Stays En.signature.params En.kept = (stay_dropped boxed no, (stay_dropped ref yes, tt)) in
    proved_at 𝓛 En hs c 𝓜 𝓡 (Goes-blank 𝓛 3 boxed no (λ κs x f. tt), (Goes-dropped 𝓛 3 ref yes (λ κs x f. refl), tt)) (#self inst) fn (code.unfolded 𝓤 H 𝓜 𝓡 wired (X, (Z, tt)) dict drop_x drop_z) (λ z are.
    let κs = z.0.0 in let qs = z.0.1 in let κ : Lft = κs.0 in let t₁ : Item 𝓤 = ‵ (flft κs.1.0 qs.1.0) in let t₂ : Item 𝓤 = ‵ (flft κs.1.1.0 qs.1.1.0) in let inX = κs.1.0 ⊑ X.lives in let inZ = κs.1.1.0 ⊑ Z.lives in
    let v : B.Denot = z.0.3.0 in let a : Z.Denot = v.alloc in let x : X.Denot = v.value in let run = z.0.3.1.0 in let n : ℕ = run.now.id in let ν : Lft = n ∷ [] in
    let bl : ℕ = run.ref_ptr.0 in let ol : ℕ = run.ref_ptr.1 in let refers : z.0.4.1.0 ≡ vptr bl ol ∷ [] = shr_Tells (named 0) κ life.the_row run z.0.4.1.0 are.1.0 in
    let Post : Val → SProp 𝓤 = (walk_of 𝓛 En hs c).post z in let Run : List Val → SProp 𝓤 = λ ws. prog.Wp.WpFn 𝓤 H 𝓣.C 𝓣.Λ fn ws Post in
    qed 𝓛 (((‵ (flft κ qs.0) ⊛ t₁ ⊛ t₂ ⊛ ‵ ftrue) ⊛ ‵ (owns (types_at En.signature.params κs) z.0.3 z.0.4)) ∷ raw (fact 𝓤 inX) ∷ raw (fact 𝓤 inZ) ∷ ‵ ftrue ∷ []) ∵
    move ! (1 ∷ 2 ∷ []) $ heard ! inX (λ leX. heard ! inZ (λ leZ. split ! $ split ! $ move ! (2 ∷ []) $ fsplit3 ! $ move ! (1 ∷ []) $ fsplit ! $ drop ! $
    -- [the reference; the box; nothing; its token; the other tokens; nothing]
    use1 𝓛 (‵ (hidden_shr LifeData κ tt bl ol) ⊛ ‵ (fhide (life_shared n κ))) (lent_out 𝓛 life.struct life.the_codes life.the_heap life.the_lent κ run.now bl ol) $
    split ! $ drop ! $ unhide ! $ move ! (1 ∷ []) $ box_out E ! v z.0.4.0 (λ b o hv e ws fa. box_in E ! v b o x e refl $ keep ! (0 ∷ 4 ∷ 1 ∷ 3 ∷ []) $
    -- [the box; the other tokens; that the life runs on; the token of the reference]
    let w : Val = box.word E hv b o in let typed = box.box_typed E hv b o fa in let y : Taken.Ghost = ((κs.1, qs.1, tt, (v, tt), (w ∷ [], tt)), tt) in let us : List Val = w ∷ vptr bl ol ∷ [] in
    suffices ! (Run us) (subst (λ (ps : List Val). ent 𝓤 (Run us) (Run ps)) (sym (λ i. ws i ++ (refers i ++ []))) (id⊢ 𝓤 (Run us))) $
    enter ! 𝓣.C 𝓣.Λ fn us Post $ alloc_all ! (λ l. pass_all ! refl (typed, ((tt, tt), tt)) $ sets ! (of_opd ! (get ! refl)) refl typed $
    nothing ! $ move ! (1 ∷ 0 ∷ []) $ fjoin ! $ move ! (1 ∷ 0 ∷ []) $ join ! $ nothing ! $
    use0 𝓛 (raw (fact 𝓤 inZ)) (fact_i 𝓤 inZ (emp 𝓤) leZ) $ join ! $ use0 𝓛 (raw (fact 𝓤 inX)) (fact_i 𝓤 inX (emp 𝓤) leX) $ join ! $ move ! (1 ∷ 0 ∷ []) $ join ! $ use1 𝓛 (raw (Taken.pre y)) (id⊢ 𝓤 _) $
    calls_at ! (fm 𝓛 𝓜 𝓡) Taken known y (and_then ! (get ! refl) (no_more !)) (λ u. let Pair = Tuple (RawPtr ∷ P ∷ []) in
    use1 𝓛 (later (some (λ (r : Ptr × Z.Denot). ((t₁ ⊛ t₂ ⊛ ‵ ftrue) ⊛ ‵ (Pair.own_val r (u ∷ []))) ⊛ some (λ (_ : (Unit {0} × (Unit {0} × Unit {0})) × Unit {0}).
    ‵ (fsep (fsep ftrue (fsep ftrue ftrue)) ftrue) ⊛ (raw (fact 𝓤 (r.1 ≡ a)) ⊛ ‵ (box_owns (token E.al a) R r.0 x)))))) (id⊢ 𝓤 _) $
    await ! tt $ pick ! (λ r. split ! $ move ! (1 ∷ []) $ pick ! (λ _. split3 ! $ drop ! $ heard ! (r.1 ≡ a) (λ ea.
    in_a_block ! r.0 (λ p. box_owns (token E.al a) R p x) (fst∗ 𝓤 (never 𝓤) (sem 𝓛 (token E.al a (bare (layout X)) null_ptr))) (λ b' o' e'. let p : Ptr = block_ptr b' o' in let value : Fml = lies_at R full_share p x in
    fsplit ! $ move ! (2 ∷ []) $ split ! $ split ! $
    -- [the token of what the value outlives; the others; the pair; the value; the right to free; that the life runs on; the token of the reference]
    move ! (5 ∷ 6 ∷ []) $ shr_bor-open ! tt (tokens_halve 𝓛 ν) (λ s.
    move ! (5 ∷ 1 ∷ 2 ∷ []) $ use3 𝓛 (later (‵ (flent ν value) ⊛ ‵ (lent_at R p x ν) ⊛ ‵ (flft ν s) ⊛ t₁))
    (lends_to 𝓛 value (lent_at R p x) R.lives κs.1.0 qs.1.0 n s (Lends-lies 𝓛 R R.lives p x (laws.shares 𝓛 x)) leX) $ await ! tt $ split3 ! $ move ! (2 ∷ []) $ split ! $
    -- [a token of the life; that of what the value outlives; the right to the value; what is seen; the open borrow; the others; the pair; the right to free]
    move ! (4 ∷ 0 ∷ []) $ obor_close ! tt $ drop ! $ move ! (1 ∷ 4 ∷ []) $ join ! $ move ! (1 ∷ 0 ∷ []) $ join ! $ move ! (3 ∷ []) $
    fpick ! (λ vss. fsplit ! $ feq_l ! (λ eu. fsplit ! $ feq_l ! (λ ep. fsplit ! $ rewrite ! 0 (λ (h : Z.Denot). ‵ (Z.own_val h vss.1.0)) ea refl $ handle_tells E.al ! a vss.1.0 (λ hw eh fw.
    let w' : Val = box.word E hw b' o' in let typed' = box.box_typed E hw b' o' fw in let out : Val = vstruct (vcons w' (vcons (word p) vnil)) in
    let kept : Dd.Denot = record { ptr = p; alloc = a; value = x; life = n } in let shown : Sn.Denot = record { ptr = p; value = x; life = n } in let Told : Type 0 = (x ≡ x) × (n ≡ n) in
    lands_as ! (ap only (eu ∙ (λ j. vstruct (of_list ((ep ∙ ap (λ (π : Ptr). ptr_val π ∷ []) e') j ++ (eh j ++ []))) ∷ []))) refl typed' $
    sets ! (of_opd ! (get_in ! (fld ! refl (stop !)) (sub ! 0 refl (whole !)))) refl (tt, tt) $ sets ! (of_opd ! (get_in ! (fld ! refl (stop !)) (sub ! 1 refl (whole !)))) refl fw $ sets ! (of_opd ! (get ! refl)) refl fw $
    sets ! (agg ! (and_then ! (get ! refl) (and_then ! (get ! refl) (no_more !)))) refl typed' $ sets ! (agg ! (and_then ! (get ! refl) (no_more !))) refl (tt, (tt, tt)) $
    sets ! (agg ! (and_then ! (get ! refl) (and_then ! (get ! refl) (no_more !)))) refl (and_tt (has_ty (α E.al) hw && true) typed'.0, (typed'.1, ((tt, tt), tt))) $
    -- [the handle; nothing; the tokens; the right to the value; what is seen; the right to free]
    move ! (1 ∷ 3 ∷ 5 ∷ []) $ fjoin3 ! $ nothing ! $ move ! (2 ∷ 0 ∷ []) $ fjoin ! $
    feq_i ! (List Val) (vptr b' o' ∷ []) (vptr b' o' ∷ []) refl $ fjoin ! $ feq_i ! (List Val) (w' ∷ []) (w' ∷ []) refl $ fjoin ! $
    fpack ! (Valss (RawPtr ∷ P ∷ [])) (within (shape (deed.the_type R P g)) (p, (a, tt)) (w' ∷ [])) (vptr b' o' ∷ [], (hw ∷ [], tt)) $ fjoin ! $
    -- [the deed; the tokens; what is seen]
    move ! (2 ∷ []) $ use0 𝓛 (‵ ((SeenData R).own_val (p, tt) (word p ∷ []))) (seen_made R 𝓛 p) $ fjoin ! $ nothing ! $ move ! (2 ∷ 1 ∷ 0 ∷ []) $ fjoin3 ! $ feq_i ! (List Val) (out ∷ []) (out ∷ []) refl $ fjoin ! $
    fpack ! (Valss (Dd ∷ Sn ∷ [])) (λ uss. fsep (feq (List Val) (out ∷ []) (vstruct (of_list (uss.0 ++ (uss.1.0 ++ []))) ∷ [])) (owns (Dd ∷ Sn ∷ []) (kept, (shown, tt)) uss)) (w' ∷ [], (word p ∷ [], tt)) $
    use0 𝓛 (raw (fact 𝓤 Told)) (fact_i 𝓤 Told (emp 𝓤) (refl, refl)) $ use0 𝓛 (raw (fact 𝓤 Told)) (fact_i 𝓤 Told (emp 𝓤) (refl, refl)) $ join ! $ nothing ! $ nothing ! $ fjoin ! $ nothing ! $ fjoin ! $
    returns ! (look_at ! 0 refl) $ free_all ! refl $ keep ! (3 ∷ 0 ∷ 2 ∷ 1 ∷ []) $ by ! (leaves 𝓛 En hs c z out (kept, shown) ((tt, (tt, tt)), (tt, tt)) (tt, (tt, tt))))))))))))))))))
