use Rattle.std.proofs.Common.{◌≡◌, ◌++◌, ◌∷◌, [], Some, length, map, length-append, refl, sym, ap, ◌∙◌, subst, arith}
use Rattle.tree_index.specs.Tree.{Tree}
use Rattle.version_views.specs.Cuts.{greatest_key}
use Rattle.std.proofs.lemmas.List.{map-append}
use Rattle.version_drafts.specs.declared.segments.Part.TheVariants as parts
use Rattle.version_drafts.specs.declared.shelving.Shelving.{Shelving}
use Rattle.version_drafts.proofs.ShelfLemmas.{takes_after, takes_part}
use Rattle.version_drafts.proofs.shelving.put_made.Goals as goal

pub returns : goal.returns
returns g c = λ blocks ends h.
    let room = c.in_ok-make_room.ensures.closed blocks ends h in
    let mid = c.make_room.new.out in
    let out : Shelving g.row.K.Denot g.row.V.Denot = record mid { parts = c.push.new.self; keys = c.push-2.new.self } in
    let key = c.in_ok-key.key in
    let items = c.in_ok-push-2.ensures.items in
    let long = ap length items ∙ length-append mid.keys.items (key ∷ []) in
    let few = c.in_ok-make_room.ensures.room in
    let great = subst (λ (t : Tree _ _). greatest_key t.pairs ≡ Some key) c.tree-2.ensures.same c.in_ok-key.ensures in
    takes_after blocks ends (c.args.tree.pairs ∷ []) 1 c.args.out.now mid out room (takes_part blocks ends mid out (parts.Made c.args.tree) room.whole refl refl refl refl c.in_ok-push.ensures.items
    (ap (map Some) items ∙ map-append Some mid.keys.items (key ∷ []) ∙ ap (λ o. map Some mid.keys.items ++ o ∷ []) (sym great))
    tt (omega (arith, long, few)))
