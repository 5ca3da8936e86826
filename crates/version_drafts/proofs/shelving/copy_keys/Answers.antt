use Rattle.std.proofs.Common.{◌≡◌, ◌≤◌, ◌-◌, ◌++◌, ◌∷◌, [], Some, ℕ, List, length, map, take, drop, sym, ap, ◌∙◌, arith}
use Rattle.version_views.specs.Cuts.{greatest_key}
use Rattle.version_views.specs.Rows.{between, start_of}
use Rattle.version_views.proofs.SeparatorSearchLemmas.{get_some}
use Rattle.version_drafts.proofs.KeyLemmas.{keys_behind, keys_between, keys_reach}
use Rattle.version_drafts.proofs.ShelfLemmas.{row_read}
use Rattle.version_drafts.proofs.TakenLemmas.{same_clones}
use Rattle.version_drafts.proofs.shelving.copy_keys.Goals as goal

pub offset_bounds-told-from : goal.offset_bounds-told-from
offset_bounds-told-from g c =
    let d = c.args.rows.now in
    let r = c.index-rows-row.result in
    let here = row_read c.args.old.now d c.requires.rows c.args.row c.requires.inside c.rows.result.now r c.rows.ensures c.index-rows-row.is in
    let reach = keys_reach c.args.old.now d c.requires.rows c.args.row c.requires.inside r (sym here) c.args.upto c.requires.stops (omega (arith, c.requires.begins, c.requires.some)) in
    omega (arith, reach, ap length c.keys-told.ensures, c.start_of-first.ensures, c.requires.some)

pub slice_bounds-extend_from_slice-end : goal.slice_bounds-extend_from_slice-end
slice_bounds-extend_from_slice-end g c =
    let d = c.args.rows.now in
    let r = c.index-rows-row.result in
    let here = row_read c.args.old.now d c.requires.rows c.args.row c.requires.inside c.rows.result.now r c.rows.ensures c.index-rows-row.is in
    let reach = keys_reach c.args.old.now d c.requires.rows c.args.row c.requires.inside r (sym here) c.args.upto c.requires.stops (omega (arith, c.requires.begins, c.requires.some)) in
    let within : c.args.upto - 1 - c.start_of-first.result ≤ length c.keys-told.result.now = omega (arith, reach, ap length c.keys-told.ensures, c.start_of-first.ensures) in
    within

-- the slice has the keys of all but the last, and the key of the last one is pushed
pub returns : goal.returns
returns g c =
    let blocks = c.args.old.now in
    let d = c.args.rows.now in
    let cut = c.requires.rows in
    let from = c.args.from in
    let upto = c.args.upto in
    let some = c.requires.some in
    let stops = c.requires.stops in
    let r = c.index-rows-row.result in
    let here = row_read blocks d cut c.args.row c.requires.inside c.rows.result.now r c.rows.ensures c.index-rows-row.is in
    let b = get_some blocks (upto - 1) (omega (arith, some, stops, cut.within c.args.row c.requires.inside)) in
    let part = c.in_ok-extend_from_slice.ensures.items in
    let copied = same_clones g.K.Clone.is_clone c.requires.keys _ part.0 part.2 in
    let slice = keys_between blocks d cut c.args.row c.requires.inside r (sym here) from upto c.requires.begins some stops in
    let same : map (λ k. Some k) part.0 ≡ map greatest_key (between from (upto - 1) blocks) = ap (map (λ k. Some k)) copied ∙ (ap (λ (n : ℕ). map (λ k. Some k) (take (upto - 1 - n - (from - n)) (drop (from - n) c.keys-told.result.now))) c.start_of-first.ensures ∙ (ap (λ ks. map (λ k. Some k) (take (upto - 1 - start_of d.ends.items c.args.row - (from - start_of d.ends.items c.args.row)) (drop (from - start_of d.ends.items c.args.row) ks))) c.keys-told.ensures ∙ slice)) in
    keys_behind blocks from upto some b.0 b.1 c.args.keys.now.items part.0 c.push.new.self.items c.in_ok-last.last (c.in_ok-push.ensures.items ∙ ap (λ ks. ks ++ c.in_ok-last.last ∷ []) part.1) same (sym (c.in_ok-last.ensures b.0 (sym b.1)))
