use Rattle.std.proofs.Common.{refl, arith}
use Rattle.std.proofs.lemmas.Result.{on_ok_weaker}
use Rattle.version_drafts.specs.declared.segments.Part.TheVariants as parts
use Rattle.version_drafts.proofs.KeyLemmas.{keys_grow}
use Rattle.version_drafts.proofs.ShelfLemmas.{takes_part}
use Rattle.version_drafts.proofs.shelving.put_piece.Goals as goal

pub returns : goal.returns
returns g c =
    let blocks = c.args.old.now in
    let stops = c.requires.stops in
    let inside = c.requires.rows.within c.args.row c.requires.inside in
    on_ok_weaker c.copy_keys.result
    (λ keys ends in_row h.
    let long = keys_grow blocks c.args.from c.args.upto c.args.out.now.keys.items c.copy_keys.new.keys.items (omega (arith, stops, inside)) keys in
    takes_part blocks ends c.args.out.now _ (parts.Taken c.args.from c.args.upto) h refl refl refl refl c.in_ok-push.ensures.items keys in_row (omega (arith, long, c.requires.room)))
    c.copy_keys.ensures
