-- The badge is had back by whoever has all of it.
use Rattle.parted.proofs.Names.{◌≡◌, List, [], ◌∷◌, ◌++◌, refl, sym, ap, ◌∙◌, subst, a_type, Val, vstruct, vcons, vnil, of_list, inst_fn, SProp, ent, emp, id⊢, ftrue, fsep, ‵, raw, ◌⊛◌, ◌$◌, ◌∵◌, !, qed, by, move, keep, use0, split, fsplit, fjoin, fpick, feq_l, rewrite, suffices, stop, fld, of_opd, returns, enter, alloc_all, pass_all, free_all, look_at, get, get_in, sets, sub, whole, fact, fact_i, tables, no, Is, shows, param, layouts, RattleType, plain, nothing, peeks, alive, Stays, stay_dropped, walk_of, Goes-blank, token_val, pin_told, proved_at, leaves}
use Rattle.atomic_table.specs.contracts.badge.Badge as badge
use Rattle.parted.specs.contracts.calm.Calm as calm
use Rattle.parted.specs.contracts.calm.Calm.into_badge.{ended, clauses}
use Rattle.parted.specs.contracts.calm.Calm.into_badge.Key.{name as #self}
use Rattle.parted.proofs.calm.Calm.into_badge.Statement.{statement}
use Rattle.parted.proofs.calm.Calm.into_badge.Code as code

pub into_badge_spec : {M : Type 1} → statement M
into_badge_spec 𝓤 𝓛 𝓜 𝓡 wired X L =
    let 𝓣 = tables 𝓤 𝓛.H 𝓜 𝓡 𝓡.env in let V : RattleType = param 0 X in let En = ended X in let c = clauses X 𝓛 𝓜.mem 𝓡.returns in
    let inst = layouts (a_type ∷ []) (X, tt) in let fn = inst_fn inst code.function in
    let Bare : RattleType = badge.the_row V in let Row : RattleType = calm.the_row V in let given = plain (λ _. Row) in
    let v : Val = vstruct (vcons token_val vnil) in let hs : Stays En.signature.params En.kept = (stay_dropped given no, tt) in
    proved_at 𝓛 En hs c 𝓜 𝓡 (Goes-blank 𝓛 1 given no (λ κs x f. tt), tt) (#self inst) fn (code.unfolded 𝓤 𝓛.H 𝓜 𝓡 wired (X, tt)) (λ y are.
    let b : Bare.Denot = y.0.3.0.badge in let Told : Type 0 = b ≡ b in
    let Post : Val → SProp 𝓤 = (walk_of 𝓛 En hs c).post y in let Run : List Val → SProp 𝓤 = λ vs. prog.Wp.WpFn 𝓤 𝓛.H 𝓣.C 𝓣.Λ fn vs Post in
    qed 𝓛 ((raw (alive 𝓛 En.signature y.0.0 y.0.1) ⊛ ‵ (fsep (Row.own_val y.0.3.0 y.0.4.0) ftrue)) ∷ raw ((c y.0.0 y.0.3).requires y.1) ∷ []) ∵
    split ! $ move ! (1 ∷ []) $ fsplit ! $ fsplit ! $ fpick ! (λ vss. fsplit ! $ feq_l ! (λ lies. fsplit ! $ keep ! (0 ∷ 4 ∷ []) $
    -- [the badge; the tokens of the call]: it has no bytes, so what was passed is known
    peeks ! Bare (Is Bare) (shows 𝓛 Bare) b vss.0 (λ so. let bytes : vss.0 ≡ token_val ∷ [] = pin_told V vss.0 so.0 in
    let passed : y.0.4.0 ≡ v ∷ [] = lies ∙ ap (λ (vs : List Val). vstruct (of_list (vs ++ [])) ∷ []) bytes in
    rewrite ! 0 (λ (vs : List Val). ‵ (Bare.own_val b vs)) bytes refl $
    suffices ! (Run (v ∷ [])) (subst (λ (vs : List Val). ent 𝓤 (Run (v ∷ [])) (Run vs)) (sym (λ i. passed i ++ [])) (id⊢ 𝓤 (Run (v ∷ [])))) $
    enter ! 𝓣.C 𝓣.Λ fn (v ∷ []) Post $ alloc_all ! (λ l. pass_all ! refl ((tt, ((tt, tt), tt)), tt) $
    sets ! (of_opd ! (get_in ! (fld ! refl (stop !)) (sub ! 0 refl (whole !)))) refl (tt, (tt, tt)) $ sets ! (of_opd ! (get ! refl)) refl (tt, (tt, tt)) $
    use0 𝓛 (raw (fact 𝓤 Told)) (fact_i 𝓤 Told (emp 𝓤) refl) $ nothing ! $ nothing ! $ fjoin ! $
    returns ! (look_at ! 0 refl) $ free_all ! refl $ keep ! (3 ∷ 0 ∷ 2 ∷ 1 ∷ []) $ by ! (leaves 𝓛 En hs c y token_val b ((tt, tt), tt) (tt, tt)))))))
