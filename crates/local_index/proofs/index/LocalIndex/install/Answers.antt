use Rattle.std.proofs.Common.{◌≡◌, ◌≢◌, ◌+◌, Err, [], List, ◌∷◌, ◌++◌, length, refl, sym, ap, ◌∙◌, subst, arith}
use Rattle.std.specs.List.{All}
use Rattle.version_views.specs.Sizes.{room_for}
use Rattle.version_views.specs.Writes.{after_writes, replies_to}
use Rattle.local_index.specs.Invariant.{IsIndex, index_state}
use Rattle.local_index.specs.State.{State, latest_number, present, transaction_of}
use Rattle.serial_history.specs.Histories.{HistoryState, transaction_on}
use Rattle.serial_history.specs.Serial.{Holds, after_all, latest}
use Rattle.serial_history.proofs.RunLemmas.{length-replies}
use Rattle.local_index.proofs.IndexLemmas.{append_shows, kept_append, present_after, present_number, present_pairs, present_whole}
use Rattle.local_index.proofs.index.LocalIndex.install.Goals as goal

-- room for a transaction is nothing that is seen
pub returns-in_default-clause-refused : goal.returns-in_default-clause-refused
returns-in_default-clause-refused g c = record {
  may = c.requires.accepted;
  given_back = refl;
  unchanged = ap (λ (h : HistoryState _ _). index_state c.self.inside.store h) c.reserve.ensures.same ∙ c.self.view_is;
}

pub returns-in-Err-Memory-clause-refused : goal.returns-in-Err-Memory-clause-refused
returns-in-Err-Memory-clause-refused g c = record {
  may = c.requires.accepted;
  given_back = refl;
  unchanged = rw c.in-Err-Memory.ensures.refused (ap (λ (h : HistoryState _ _). index_state c.self.inside.store h) c.reserve.ensures.same ∙ c.self.view_is);
}

pub returns-in-Err-NoSlot-clause-refused : goal.returns-in-Err-NoSlot-clause-refused
returns-in-Err-NoSlot-clause-refused g c =
    let store = c.self.inside.store in
    let pairs = present_pairs g.K.Ord.cmp c.self.inside.history c.self.invariant ∙ ap (λ (x : State _ _). present g.K.Ord.cmp x) c.self.view_is in
    let room = ap (λ ws. room_for g.row.S (length (after_writes g.K.Ord.cmp ws store.present.pairs))) c.as_slice.ensures.value ∙ ap (λ ps. room_for g.row.S (length (after_writes g.K.Ord.cmp c.args.writes.items ps))) pairs in
    let slots = ap (λ (x : State _ _). x.slots) c.self.view_is in
    let used = ap (λ (x : State _ _). x.used) c.self.view_is in
    let full = c.in-Err-NoSlot.ensures.full (ap (λ x. Err x) c.in-Err-NoSlot.field-0-is) in
    record {
      may = (c.requires.accepted, omega (arith, full, room, slots, used));
      given_back = refl;
      unchanged = rw c.in-Err-NoSlot.ensures.refused (ap (λ (h : HistoryState _ _). index_state store h) c.reserve.ensures.same ∙ c.self.view_is);
    }

pub returns-in-Err-NoSlot-clause-short : goal.returns-in-Err-NoSlot-clause-short
returns-in-Err-NoSlot-clause-short g c = λ e.
    let slots = ap (λ (x : State _ _). x.slots) c.self.view_is in
    let used = ap (λ (x : State _ _). x.used) c.self.view_is in
    let long = ap length c.as_slice.ensures.value in
    let short = c.in-Err-NoSlot.ensures.short (ap (λ x. Err x) c.in-Err-NoSlot.field-0-is) in
    omega (arith, short, long, slots, used)

-- there is room for as many replies as writes
pub push-requires-clause-fits : goal.push-requires-clause-fits
push-requires-clause-fits g c =
    let copied = ap length c.as_slice-2.ensures.value in
    let told = ap length c.in-Ok-write.ensures.replies in
    let each = length-replies g.K.Ord.cmp c.as_slice.result.now c.self.inside.store.present.pairs in
    let long = ap length c.as_slice.ensures.value in
    let fits = c.requires.fits in
    omega (arith, copied, told, each, long, fits)

pub push-requires-clause-room : goal.push-requires-clause-room
push-requires-clause-room g c = c.in-Ok.ensures.room

pub push-requires-clause-not_last : goal.push-requires-clause-not_last
push-requires-clause-not_last g c =
    subst (λ (h : HistoryState _ _). latest h.base h.transactions ≢ h.last) (sym c.reserve.ensures.same)
    (subst (λ (x : State _ _). latest_number x ≢ x.last) (sym c.self.view_is) c.requires.accepted.not_last)

pub push-requires-clause-reads : goal.push-requires-clause-reads
push-requires-clause-reads g c =
    let cmp = g.K.Ord.cmp in
    subst (λ (h : HistoryState _ _). All (Holds cmp (after_all cmp h.transactions h.base.pairs)) c.args.prepared.reads) (sym c.reserve.ensures.same)
    (subst (λ ps. All (Holds cmp ps) c.args.prepared.reads) (present_after cmp c.self.inside.history c.self.invariant c.args.self.now c.self.view_is) c.requires.accepted.reads_hold)

pub push-requires-clause-told : goal.push-requires-clause-told
push-requires-clause-told g c =
    let cmp = g.K.Ord.cmp in
    let store = c.self.inside.store in
    let told = c.as_slice-2.ensures.value ∙ c.in-Ok-write.ensures.replies ∙ ap (λ ws. replies_to cmp ws store.present.pairs) c.as_slice.ensures.value ∙ ap (λ ps. replies_to cmp c.args.writes.items ps) (present_whole cmp c.self.inside.history c.self.invariant) in
    subst (λ (h : HistoryState _ _). c.as_slice-2.result.now ≡ replies_to cmp c.args.writes.items (after_all cmp h.transactions h.base.pairs)) (sym c.reserve.ensures.same) told

pub invariant_of-self-2 : goal.invariant_of-self-2
invariant_of-self-2 g c =
    let cmp = g.K.Ord.cmp in
    let store = c.self.inside.store in
    let h = c.self.inside.history in
    let t = transaction_on cmp (after_all cmp h.transactions h.base.pairs) c.args.prepared.reads c.args.writes.items in
    let room = c.push.new.self.room in
    let pushed = c.push.ensures ∙ ap (λ (x : HistoryState _ _). record x { transactions = x.transactions ++ transaction_on cmp (after_all cmp x.transactions x.base.pairs) c.args.prepared.reads c.args.writes.items ∷ []; room = room }) c.reserve.ensures.same in
    subst (λ (x : HistoryState _ _). IsIndex cmp g.row.S c.write.new.self x.base x.transactions) (sym pushed)
    (kept_append cmp h c.self.invariant c.write.new.self t (record { number = store.present.number + 1; pairs = after_writes cmp c.as_slice.result.now store.present.pairs }) c.write.new.self.used c.in-Ok-write.ensures.written
    (ap (λ n. n + 1) (present_number cmp h c.self.invariant))
    (ap (λ ws. after_writes cmp ws store.present.pairs) c.as_slice.ensures.value))

pub returns-clause-told : goal.returns-clause-told
returns-clause-told g c =
    let store = c.self.inside.store in
    let pairs = present_pairs g.K.Ord.cmp c.self.inside.history c.self.invariant ∙ ap (λ (x : State _ _). present g.K.Ord.cmp x) c.self.view_is in
    c.in-Ok-write.ensures.replies ∙ ap (λ ws. replies_to g.K.Ord.cmp ws store.present.pairs) c.as_slice.ensures.value ∙ ap (λ ps. replies_to g.K.Ord.cmp c.args.writes.items ps) pairs

pub returns-clause-ok : goal.returns-clause-ok
returns-clause-ok g c =
    let cmp = g.K.Ord.cmp in
    let store = c.self.inside.store in
    let h = c.self.inside.history in
    let reads = c.args.prepared.reads in
    let writes = c.args.writes.items in
    let old : State _ _ = c.args.self.now in
    let t = transaction_on cmp (after_all cmp h.transactions h.base.pairs) reads writes in
    let room = c.push.new.self.room in
    let pushed = c.push.ensures ∙ ap (λ (x : HistoryState _ _). record x { transactions = x.transactions ++ transaction_on cmp (after_all cmp x.transactions x.base.pairs) reads writes ∷ []; room = room }) c.reserve.ensures.same in
    let same = ap (λ ps. transaction_on cmp ps reads writes) (sym (present_after cmp h c.self.invariant old c.self.view_is)) in
    append_shows cmp store c.write.new.self h c.push.new.self c.write.new.self.used room
    (record { number = store.present.number + 1; pairs = after_writes cmp c.as_slice.result.now store.present.pairs }) t (transaction_of cmp old reads writes) old
    c.in-Ok-write.ensures.written pushed same c.self.view_is

pub returns-clause-room : goal.returns-clause-room
returns-clause-room g c =
    let store = c.self.inside.store in
    let pairs = present_pairs g.K.Ord.cmp c.self.inside.history c.self.invariant ∙ ap (λ (x : State _ _). present g.K.Ord.cmp x) c.self.view_is in
    let list = ap (λ ws. room_for g.row.S (length (after_writes g.K.Ord.cmp ws store.present.pairs))) c.as_slice.ensures.value ∙ ap (λ ps. room_for g.row.S (length (after_writes g.K.Ord.cmp c.args.writes.items ps))) pairs in
    let used = ap (λ (x : State _ _). x.used) c.self.view_is in
    let room = c.in-Ok-write.ensures.room in
    omega (arith, room, list, used)

pub returns-clause-few : goal.returns-clause-few
returns-clause-few g c =
    let used = ap (λ (x : State _ _). x.used) c.self.view_is in
    let long = ap length c.as_slice.ensures.value in
    let few = c.in-Ok-write.ensures.few in
    omega (arith, few, long, used)

pub invariant_of-self : goal.invariant_of-self
invariant_of-self g c = subst (λ (h : HistoryState _ _). IsIndex g.K.Ord.cmp g.row.S c.self.inside.store h.base h.transactions) (sym c.reserve.ensures.same) c.self.invariant

pub invariant_of-self-in-Err-Memory : goal.invariant_of-self-in-Err-Memory
invariant_of-self-in-Err-Memory g c = rw c.in-Err-Memory.ensures.refused (subst (λ (h : HistoryState _ _). IsIndex g.K.Ord.cmp g.row.S c.self.inside.store h.base h.transactions) (sym c.reserve.ensures.same) c.self.invariant)

pub invariant_of-self-in-Err-NoSlot : goal.invariant_of-self-in-Err-NoSlot
invariant_of-self-in-Err-NoSlot g c = rw c.in-Err-NoSlot.ensures.refused (subst (λ (h : HistoryState _ _). IsIndex g.K.Ord.cmp g.row.S c.self.inside.store h.base h.transactions) (sym c.reserve.ensures.same) c.self.invariant)
