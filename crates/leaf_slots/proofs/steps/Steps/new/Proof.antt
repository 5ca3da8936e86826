-- A value of no bytes, whose count is 0.
use Rattle.leaf_slots.proofs.CountWalkLemmas.{[], ◌∷◌, refl, proved, Fml, ftrue, Val, vstruct, vnil, tables, ‵, raw, ◌$◌, ◌∵◌, !, qed, done, keep, join, suffices, enter, no_more, agg, returns, alloc_all, pass_all, free_all, look_at, sets, use0, makes_shadow, type_at, nothing, on_entry, Stays, walk_of, says, ends_at}
use Rattle.leaf_slots.specs.contracts.steps.Steps.new as f
use Rattle.leaf_slots.proofs.steps.Steps.new.Statement.{statement}
use Rattle.leaf_slots.proofs.steps.Steps.new.Code as code

abbrev stayed : Stays f.ended.signature.params f.ended.kept
stayed = tt

pub new_spec : {M : Type 1} → statement M
new_spec 𝓤 𝓛 𝓜 𝓡 wired =
    let c = f.clauses 𝓛 𝓜.mem 𝓡.returns in let W = walk_of 𝓛 f.ended stayed c in let 𝓣 = tables 𝓤 𝓛.H 𝓜 𝓡 𝓡.env in
    proved 𝓛 f.ended stayed c 𝓜 𝓡 tt
    f.Key.name code.function (code.unfolded 𝓤 𝓛.H 𝓜 𝓡 wired)
    (λ κs. tt) (λ κs. tt) (λ κs qs bounds a _ are.
    let v : Val = vstruct vnil in let r : denote.Triple.Entry.Res f.ended.signature κs = record { count = 0 } in
    let O : Fml = (type_at f.ended.signature.result κs).own_val r (v ∷ []) in
    let y : W.Ghost = ((κs, qs, bounds, a, tt), tt) in
    qed 𝓛 (raw (on_entry 𝓛 f.signature κs qs a tt) ∷ ‵ ftrue ∷ []) ∵ keep ! [] $
    enter ! _ _ _ _ _ $ alloc_all ! (λ l. pass_all ! refl tt $
    sets ! (agg ! (no_more !)) refl (tt, tt) $
    returns ! (look_at ! 0 refl) $ free_all ! refl $
    use0 𝓛 (‵ O) (makes_shadow 𝓛 O ((λ vss. (tt, tt)), tt) ((tt, (refl, tt)), tt)) $
    suffices ! _ (ends_at 𝓛 f.ended stayed c y v r tt tt) $ says ! refl $ nothing ! $ join ! $ nothing ! $ join ! $ done !))
