-- A value of no bytes, whose items are those of the one that the reference shows.
use Rattle.serial_history.proofs.GhostWalkLemmas.{◌≡◌, [], ◌∷◌, refl, proved, leaves, a_type, named, inst_fn, Val, vptr, vstruct, vcons, vnil, SProp, emp, Fml, fact, fact_i, tables, ‵, raw, ◌⊛◌, ◌$◌, ◌∵◌, !, qed, by, move, keep, use0, split, fjoin, enter, no_more, and_then, returns, alloc_all, pass_all, free_all, look_at, get, sets, agg, RefOf, yes, param, layouts, RattleType, owns, shr_vals, shr_Tells, makes_shadow, types_at, type_at, plain, nothing, alive, Stays, stay_dropped, walk_of, Goes-dropped}
use Rattle.serial_history.specs.contracts.ghost_items.GhostItems.{the_row}
use Rattle.serial_history.specs.contracts.ghost_items.GhostItems.again.{ended, clauses}
use Rattle.serial_history.specs.contracts.ghost_items.GhostItems.again.Key.{name as #self}
use Rattle.serial_history.proofs.ghost_items.GhostItems.again.Statement.{statement}
use Rattle.serial_history.proofs.ghost_items.GhostItems.again.Code as code

pub again_spec : {M : Type 1} → statement M
again_spec 𝓤 𝓛 𝓜 𝓡 wired X L =
    let 𝓣 = tables 𝓤 𝓛.H 𝓜 𝓡 𝓡.env in let Row : RattleType = the_row (param 0 X) in let En = ended X in let c = clauses X 𝓛 𝓜.mem 𝓡.returns in
    let inst = layouts (a_type ∷ []) (X, tt) in let fn = inst_fn inst code.function in
    let self = RefOf (0 ∷ []) tt (plain (λ _. Row)) (λ _. tt) in let hs : Stays En.signature.params En.kept = (stay_dropped self yes, tt) in
    proved 𝓛 En hs c 𝓜 𝓡 (Goes-dropped 𝓛 2 self yes (λ κs x f. refl), tt) (#self inst) fn (code.unfolded 𝓤 𝓛.H 𝓜 𝓡 wired (X, tt))
    (λ κs. (shr_vals, tt)) (λ κs. (shr_Tells (named 0) κs.0 Row, tt)) (λ κs qs bounds a gh are.
    let b = a.0.ref_ptr.0 in let o = a.0.ref_ptr.1 in let v : Val = vstruct (vcons (vstruct vnil) vnil) in
    let seen : denote.Triple.Entry.Res En.signature κs = record { of = record {}; items = a.0.now.items } in let Seen : Type 0 = seen.items ≡ a.0.now.items in
    let O : Fml = (type_at En.signature.result κs).own_val seen (v ∷ []) in
    let y : (walk_of 𝓛 En hs c).Ghost = ((κs, qs, bounds, a, (shr_vals a.0, tt)), gh) in let Post : Val → SProp 𝓤 = (walk_of 𝓛 En hs c).post y in
    qed 𝓛 ((raw (alive 𝓛 En.signature κs qs) ⊛ ‵ (owns (types_at En.signature.params κs) a y.0.4)) ∷ raw ((c κs a).requires gh) ∷ []) ∵
    split ! $ keep ! (0 ∷ []) $ enter ! 𝓣.C 𝓣.Λ fn (vptr b o ∷ []) Post $ alloc_all ! (λ l. pass_all ! refl ((tt, tt), tt) $
    sets ! (agg ! (no_more !)) refl (tt, tt) $ sets ! (agg ! (and_then ! (get ! refl) (no_more !))) refl (tt, (tt, tt)) $
    returns ! (look_at ! 0 refl) $ free_all ! refl $
    -- [the tokens of the call]
    use0 𝓛 (raw (fact 𝓤 Seen)) (fact_i 𝓤 Seen (emp 𝓤) refl) $
    use0 𝓛 (‵ O) (makes_shadow 𝓛 O ((λ vss. (tt, ((λ uss. (tt, tt)), tt))), tt) (((vstruct vnil ∷ [], tt), (refl, ((tt, (refl, tt)), tt))), tt)) $
    nothing ! $ nothing ! $ fjoin ! $ move ! (3 ∷ 0 ∷ 1 ∷ 2 ∷ []) $ by ! (leaves 𝓛 En hs c y v seen (tt, tt) (tt, tt))))
