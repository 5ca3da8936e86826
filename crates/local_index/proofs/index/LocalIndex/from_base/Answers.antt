use Rattle.std.proofs.Common.{[], None, List, replicate, ap, ◌∙◌}
use Rattle.serial_history.specs.Serial.{Base}
use Rattle.local_index.proofs.FromBaseLemmas.{begun_kept}
use Rattle.local_index.proofs.index.LocalIndex.from_base.Goals as goal

pub invariant_of-result : goal.invariant_of-result
invariant_of-result g c =
    let room = c.beginning_with.result.room in
    let begins = c.beginning_with.ensures ∙ ap (λ (b : Base _ _). record { base = b; transactions = []; last = 18446744073709551615; room = room }) c.new.ensures in
    let store = c.in-Ok.ensures.store ∙ ap (λ (ps : List _). record { present = record { number = c.args.number; pairs = ps }; readers = replicate c.args.places None; slots = c.args.slots; used = c.in-Ok.store.used; raises = 0 }) c.deref-2.ensures.value in
    begun_kept g.K.Ord.cmp g.row.S c.args.places c.args.slots c.args.number c.args.pairs.items c.in-Ok.store c.beginning_with.result 18446744073709551615 room c.requires.size.some_pair c.requires.size.segment_fits store begins
