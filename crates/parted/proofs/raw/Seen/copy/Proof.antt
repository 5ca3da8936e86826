-- The address is read, and what is seen there can be had twice.
use Rattle.parted.proofs.Names.{◌≡◌, ℕ, List, [], ◌∷◌, refl, sym, a_type, named, Val, vptr, inst_fn, SProp, emp, Lft, Fml, ftrue, fsep, flft, fhide, ‵, raw, ◌⊛◌, ◌$◌, ◌∵◌, !, qed, by, move, keep, use0, use1, split, join, fsplit, fjoin, rewrite, enter, of_opd, load, stop, fld, no_more, and_then, returns, alloc_all, pass_all, free_all, look_at, get, through, sets, agg, sub, whole, look_in, fact, fact_i, tables, RefOf, yes, Is, shows, cell_at, hidden_shr, unhide, param, layouts, RattleType, owns, Ptr, InBlock, shr_vals, shr_Tells, types_at, plain, nothing, peeks, heard, looks, shuts, lent_at, lent_out, Stays, stay_dropped, walk_of, Goes-dropped, Ptr-Good, proved, leaves, strip_good, word, SeenData, seen_told, seen_made, seen_opens, seen_placed}
use Rattle.parted.specs.contracts.raw.Seen.copy.{ended, clauses}
use Rattle.parted.specs.contracts.raw.Seen.copy.Key.{name as #self}
use Rattle.parted.proofs.raw.Seen.copy.Statement.{statement}
use Rattle.parted.proofs.raw.Seen.copy.Code as code
use Rattle.parted.specs.contracts.raw.Seen as seen

pub copy_spec : {M : Type 1} → statement M
copy_spec 𝓤 𝓛 𝓜 𝓡 wired X L =
    let H = 𝓛.H in let 𝓣 = tables 𝓤 H 𝓜 𝓡 𝓡.env in let R : RattleType = param 0 X in let En = ended X in let inst = layouts (a_type ∷ []) (X, tt) in let fn = inst_fn inst code.function in
    let Row : RattleType = seen.the_row R in let D : RattleType = SeenData R in let c = clauses X 𝓛 𝓜.mem 𝓡.returns in
    let self = RefOf (0 ∷ []) tt (plain (λ _. Row)) (λ _. tt) in let hs : Stays En.signature.params En.kept = (stay_dropped self yes, tt) in
    proved 𝓛 En hs c 𝓜 𝓡 (Goes-dropped 𝓛 2 self yes (λ κs x f. refl), tt) (#self inst) fn (code.unfolded 𝓤 H 𝓜 𝓡 wired (X, tt))
    (λ κs. (shr_vals, tt)) (λ κs. (shr_Tells (named 0) κs.0 Row, tt)) (λ κs qs bounds a gh are.
    let b : ℕ = a.0.ref_ptr.0 in let o : ℕ = a.0.ref_ptr.1 in let κ : Lft = κs.0 in let d : Row.Denot = a.0.now in let p : Ptr = d.ptr in let μ : Lft = d.life ∷ [] in
    let t : Lft → Fml = lent_at R p d.value in let others : Fml = fsep (flft κs.1.0 qs.1.0) ftrue in let Told : Type 0 = d ≡ d in
    let y : (walk_of 𝓛 En hs c).Ghost = ((κs, qs, bounds, a, (shr_vals a.0, tt)), gh) in let Post : Val → SProp 𝓤 = (walk_of 𝓛 En hs c).post y in
    qed 𝓛 (((‵ (flft κ qs.0) ⊛ ‵ others) ⊛ ‵ (owns (types_at En.signature.params κs) a y.0.4)) ∷ raw ((c κs a).requires gh) ∷ []) ∵
    split ! $ split ! $ move ! (2 ∷ []) $ fsplit ! $ fsplit ! $ keep ! (1 ∷ 3 ∷ 4 ∷ []) $
    -- [the reference; its token; the others]
    enter ! 𝓣.C 𝓣.Λ fn (vptr b o ∷ []) Post $ alloc_all ! (λ l. pass_all ! refl ((tt, tt), tt) $
    use1 𝓛 (‵ (hidden_shr D κ (p, tt) b o) ⊛ ‵ (fhide (t μ))) (lent_out 𝓛 (seen.struct R) (seen.the_codes X.Denot R.coded) (seen.the_heap R) (seen.the_lent R) κ d b o) $
    split ! $ move ! (1 ∷ []) $ unhide ! $ use1 𝓛 (raw (fact 𝓤 (InBlock p)) ⊛ ‵ (t μ)) (seen_placed 𝓛 R p d.value μ) $ split ! $ heard ! (InBlock p) (λ lies. move ! (1 ∷ 2 ∷ []) $
    looks ! tt D (seen_opens R 𝓛) (p, tt) b o (λ q vs. move ! (1 ∷ []) $ peeks ! D (Is D) (shows 𝓛 D) (p, tt) vs (λ so. let at : vs ≡ word p ∷ [] = seen_told R p vs so in
    rewrite ! 1 (λ (ws : List Val). ‵ (cell_at q D.mir ws b o)) at refl $
    sets ! (of_opd ! (load ! (through ! refl (fld ! refl (stop !))) (look_in ! 1 (sub ! 0 refl (whole !))))) refl (Ptr-Good p) $
    sets ! (agg ! (and_then ! (get ! refl) (no_more !))) refl (strip_good p lies) $
    rewrite ! 1 (λ (ws : List Val). ‵ (cell_at q D.mir ws b o)) (sym at) refl $ move ! (1 ∷ 0 ∷ 2 ∷ []) $ shuts ! tt D q (p, tt) vs b o $
    -- [the token; the reference; what is seen; the others]
    move ! (0 ∷ 3 ∷ []) $ join ! $ move ! (2 ∷ []) $ use0 𝓛 (‵ (D.own_val (p, tt) (word p ∷ []))) (seen_made R 𝓛 p) $ fjoin ! $
    use0 𝓛 (raw (fact 𝓤 Told)) (fact_i 𝓤 Told (emp 𝓤) refl) $ nothing ! $ nothing ! $ fjoin ! $
    returns ! (look_at ! 0 refl) $ free_all ! refl $ keep ! (3 ∷ 0 ∷ 2 ∷ 1 ∷ []) $ by ! (leaves 𝓛 En hs c y (word p) d (tt, tt) (tt, tt)))))))
