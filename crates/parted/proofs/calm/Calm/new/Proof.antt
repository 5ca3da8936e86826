-- The badge is put where a `&` doesn't reach it.
use Rattle.parted.proofs.Names.{◌≡◌, List, [], ◌∷◌, refl, a_type, Val, vstruct, vcons, vnil, inst_fn, SProp, emp, ‵, raw, ◌⊛◌, ◌$◌, ◌∵◌, !, qed, by, move, keep, use0, split, fsplit, fjoin, fpack, feq_i, no_more, and_then, of_opd, returns, enter, alloc_all, pass_all, free_all, look_at, get, sets, agg, fact, fact_i, tables, no, param, layouts, RattleType, Valss, owns, types_at, plain, nothing, shape, within, alive, Stays, stay_dropped, walk_of, Goes-dropped, token_val, pin_told, proved, leaves}
use Rattle.atomic_table.specs.contracts.badge.Badge as badge
use Rattle.parted.specs.contracts.calm.Calm as calm
use Rattle.parted.specs.contracts.calm.Calm.new.{ended, clauses}
use Rattle.parted.specs.contracts.calm.Calm.new.Key.{name as #self}
use Rattle.parted.proofs.calm.Calm.new.Statement.{statement}
use Rattle.parted.proofs.calm.Calm.new.Code as code

pub new_spec : {M : Type 1} → statement M
new_spec 𝓤 𝓛 𝓜 𝓡 wired X L =
    let 𝓣 = tables 𝓤 𝓛.H 𝓜 𝓡 𝓡.env in let V : RattleType = param 0 X in let En = ended X in let c = clauses X 𝓛 𝓜.mem 𝓡.returns in
    let inst = layouts (a_type ∷ []) (X, tt) in let fn = inst_fn inst code.function in
    let Bare : RattleType = badge.the_row V in let Row : RattleType = calm.the_row V in let given = plain (λ _. Bare) in
    let hs : Stays En.signature.params En.kept = (stay_dropped given no, tt) in
    proved 𝓛 En hs c 𝓜 𝓡 (Goes-dropped 𝓛 1 given no (λ κs x f. refl), tt) (#self inst) fn (code.unfolded 𝓤 𝓛.H 𝓜 𝓡 wired (X, tt))
    (λ κs. ((λ _. token_val ∷ []), tt)) (λ κs. ((λ x vs so. pin_told V vs so.0), tt)) (λ κs qs bounds a gh are.
    let b : Bare.Denot = a.0 in let at_rest : Row.Denot = record { badge = b } in let v : Val = vstruct (vcons token_val vnil) in let Told : Type 0 = b ≡ b in
    let y : (walk_of 𝓛 En hs c).Ghost = ((κs, qs, bounds, a, (token_val ∷ [], tt)), gh) in let Post : Val → SProp 𝓤 = (walk_of 𝓛 En hs c).post y in
    qed 𝓛 ((raw (alive 𝓛 En.signature κs qs) ⊛ ‵ (owns (types_at En.signature.params κs) a y.0.4)) ∷ raw ((c κs a).requires gh) ∷ []) ∵
    split ! $ move ! (1 ∷ []) $ fsplit ! $ keep ! (0 ∷ 2 ∷ []) $
    -- [the badge; the tokens of the call]
    nothing ! $ move ! (1 ∷ 0 ∷ []) $ fjoin ! $ feq_i ! (List Val) (v ∷ []) (v ∷ []) refl $ fjoin ! $
    fpack ! (Valss (Bare ∷ [])) (within (shape (calm.the_type V)) (b, tt) (v ∷ [])) (token_val ∷ [], tt) $ nothing ! $ move ! (1 ∷ 0 ∷ []) $ fjoin ! $
    enter ! 𝓣.C 𝓣.Λ fn (token_val ∷ []) Post $ alloc_all ! (λ l. pass_all ! refl ((tt, (tt, tt)), tt) $
    sets ! (of_opd ! (get ! refl)) refl (tt, (tt, tt)) $ sets ! (agg ! (and_then ! (get ! refl) (no_more !))) refl (tt, ((tt, tt), tt)) $
    -- [the badge at rest; the tokens of the call]
    use0 𝓛 (raw (fact 𝓤 Told)) (fact_i 𝓤 Told (emp 𝓤) refl) $ nothing ! $ nothing ! $ fjoin ! $
    returns ! (look_at ! 0 refl) $ free_all ! refl $ keep ! (3 ∷ 0 ∷ 2 ∷ 1 ∷ []) $ by ! (leaves 𝓛 En hs c y v at_rest (tt, tt) (tt, tt))))
