-- A value of no bytes, whose items are those of the slice.
use Rattle.serial_history.proofs.GhostWalkLemmas.{◌≡◌, [], ◌∷◌, refl, length, proved, leaves, a_type, named, inst_fn, Val, vstruct, vcons, vnil, SProp, emp, Fml, fact, fact_i, tables, ‵, raw, ◌⊛◌, ◌$◌, ◌∵◌, !, qed, by, move, keep, use0, split, fjoin, enter, no_more, and_then, returns, alloc_all, pass_all, free_all, look_at, get, sets, agg, SliceRefOf, yes, param, layouts, RattleType, owns, slice_val, shr_slice_vals, shr_slice_Tells, makes_shadow, types_at, type_at, plain, nothing, alive, Stays, stay_dropped, walk_of, Goes-dropped}
use Rattle.serial_history.specs.contracts.ghost_items.GhostItems.of.{ended, clauses}
use Rattle.serial_history.specs.contracts.ghost_items.GhostItems.of.Key.{name as #self}
use Rattle.serial_history.proofs.ghost_items.GhostItems.of.Statement.{statement}
use Rattle.serial_history.proofs.ghost_items.GhostItems.of.Code as code

pub of_spec : {M : Type 1} → statement M
of_spec 𝓤 𝓛 𝓜 𝓡 wired X L =
    let 𝓣 = tables 𝓤 𝓛.H 𝓜 𝓡 𝓡.env in let V : RattleType = param 0 X in let En = ended X in let c = clauses X 𝓛 𝓜.mem 𝓡.returns in
    let inst = layouts (a_type ∷ []) (X, tt) in let fn = inst_fn inst code.function in
    let given = SliceRefOf (0 ∷ []) tt (plain (λ _. V)) (λ _. tt) in let hs : Stays En.signature.params En.kept = (stay_dropped given yes, tt) in
    proved 𝓛 En hs c 𝓜 𝓡 (Goes-dropped 𝓛 2 given yes (λ κs x f. refl), tt) (#self inst) fn (code.unfolded 𝓤 𝓛.H 𝓜 𝓡 wired (X, tt))
    (λ κs. (shr_slice_vals, tt)) (λ κs. (shr_slice_Tells (named 0) κs.0 V, tt)) (λ κs qs bounds a gh are.
    let v : Val = vstruct (vcons (vstruct vnil) vnil) in
    let seen : denote.Triple.Entry.Res En.signature κs = record { of = record {}; items = a.0.now } in let Seen : Type 0 = seen.items ≡ a.0.now in
    let O : Fml = (type_at En.signature.result κs).own_val seen (v ∷ []) in
    let y : (walk_of 𝓛 En hs c).Ghost = ((κs, qs, bounds, a, (shr_slice_vals a.0, tt)), gh) in let Post : Val → SProp 𝓤 = (walk_of 𝓛 En hs c).post y in
    qed 𝓛 ((raw (alive 𝓛 En.signature κs qs) ⊛ ‵ (owns (types_at En.signature.params κs) a y.0.4)) ∷ raw ((c κs a).requires gh) ∷ []) ∵
    split ! $ keep ! (0 ∷ []) $ enter ! 𝓣.C 𝓣.Λ fn (slice_val a.0.ref_ptr (length a.0.now) ∷ []) Post $
    alloc_all ! (λ l. pass_all ! refl ((tt, (tt, (record { fits = are.0.0.1.0 }, tt))), tt) $
    sets ! (agg ! (no_more !)) refl (tt, tt) $ sets ! (agg ! (and_then ! (get ! refl) (no_more !))) refl (tt, (tt, tt)) $
    returns ! (look_at ! 0 refl) $ free_all ! refl $
    -- [the tokens of the call]
    use0 𝓛 (raw (fact 𝓤 Seen)) (fact_i 𝓤 Seen (emp 𝓤) refl) $
    use0 𝓛 (‵ O) (makes_shadow 𝓛 O ((λ vss. (tt, ((λ uss. (tt, tt)), tt))), tt) (((vstruct vnil ∷ [], tt), (refl, ((tt, (refl, tt)), tt))), tt)) $
    nothing ! $ nothing ! $ fjoin ! $ move ! (3 ∷ 0 ∷ 1 ∷ 2 ∷ []) $ by ! (leaves 𝓛 En hs c y v seen (tt, tt) (tt, tt))))
