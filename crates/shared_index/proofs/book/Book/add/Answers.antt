use Rattle.std.proofs.Common.{◌≡◌, ◌≢◌, [], ◌∷◌, ◌++◌, length, length-append, sym, ap, ◌∙◌, subst, arith}
use Rattle.std.specs.List.{All}
use Rattle.sdd_domain.specs.CellSteps.{step_on}
use Rattle.serial_history.specs.Histories.{HistoryState, transaction_on}
use Rattle.serial_history.specs.Serial.{Holds, after_all, latest}
use Rattle.serial_history.proofs.RunLemmas.{length-replies}
use Rattle.shared_versions.specs.Drafts.{list_of}
use Rattle.version_views.specs.Writes.{after_writes, replies_to}
use Rattle.shared_index.specs.Books.{BookState, latest_number, present_list}
use Rattle.shared_index.proofs.BookLemmas.{latest_longer, still_at_rest}
use Rattle.shared_index.proofs.book.Book.add.Goals as goal

-- there is room for as many replies as writes
pub push-requires-clause-fits : goal.push-requires-clause-fits
push-requires-clause-fits g c =
    let copied = ap length c.as_slice-2.ensures.value in
    let told = ap length c.in-Ok-install.ensures.told in
    let each = length-replies g.K.Ord.cmp c.as_slice.result.now (list_of c.self.inside.present.version) in
    let long = ap length c.as_slice.ensures.value in
    let fits = c.requires.fits in
    omega (arith, copied, told, each, long, fits)

pub push-requires-clause-not_last : goal.push-requires-clause-not_last
push-requires-clause-not_last g c =
    subst (λ (h : HistoryState _ _). latest h.base h.transactions ≢ h.last) (sym c.reserve.ensures.same)
    (subst (λ (b : BookState _ _). latest_number b ≢ b.last) (sym c.self.view_is) c.requires.can.not_last)

pub push-requires-clause-reads : goal.push-requires-clause-reads
push-requires-clause-reads g c =
    let cmp = g.K.Ord.cmp in
    subst (λ (h : HistoryState _ _). All (Holds cmp (after_all cmp h.transactions h.base.pairs)) c.args.prepared.reads) (sym c.reserve.ensures.same)
    (subst (λ (b : BookState _ _). All (Holds cmp (present_list cmp b)) c.args.prepared.reads) (sym c.self.view_is) c.requires.can.reads_hold)

pub push-requires-clause-told : goal.push-requires-clause-told
push-requires-clause-told g c =
    let cmp = g.K.Ord.cmp in
    let old = list_of c.self.inside.present.version in
    let told = c.as_slice-2.ensures.value ∙ c.in-Ok-install.ensures.told ∙ ap (λ ws. replies_to cmp ws old) c.as_slice.ensures.value ∙ ap (replies_to cmp c.args.writes.items) c.self.invariant.1.list in
    subst (λ (h : HistoryState _ _). c.as_slice-2.result.now ≡ replies_to cmp c.args.writes.items (after_all cmp h.transactions h.base.pairs)) (sym c.reserve.ensures.same) told

-- the history is longer by a transaction, whose list the new version has
pub invariant_of-self-2 : goal.invariant_of-self-2
invariant_of-self-2 g c =
    let cmp = g.K.Ord.cmp in
    let h = c.self.inside.history in
    let kept = c.self.invariant in
    let reads = c.args.prepared.reads in
    let writes = c.args.writes.items in
    let t = transaction_on cmp (after_all cmp h.transactions h.base.pairs) reads writes in
    let room = c.push.new.self.room in
    let pushed = c.push.ensures ∙ ap (λ (x : HistoryState _ _). record x { transactions = x.transactions ++ transaction_on cmp (after_all cmp x.transactions x.base.pairs) reads writes ∷ []; room = room }) c.reserve.ensures.same in
    let new = c.in-Ok-install.ensures in
    let list = new.list ∙ ap (λ ws. after_writes cmp ws (list_of c.self.inside.present.version)) c.as_slice.ensures.value in
    let raised = c.raise.ensures.total in
    let counted = kept.2 in
    let long = length-append h.transactions (t ∷ []) in
    rw pushed (
      still_at_rest kept.0 new.same new.hand,
      latest_longer cmp t kept.1 new.place new.number list,
      omega (arith, raised, counted, long),
      kept.3,
    )

-- a refusal leaves all as it was, but what the participant missed
pub invariant_of-self : goal.invariant_of-self
invariant_of-self g c = rw c.reserve.ensures.same c.self.invariant

pub invariant_of-self-in-Err-Memory : goal.invariant_of-self-in-Err-Memory
invariant_of-self-in-Err-Memory g c =
    let kept = c.self.invariant in
    rw (c.in-Err-Memory.ensures.refused, c.reserve.ensures.same) (still_at_rest kept.0 c.install.ensures.same c.install.ensures.hand, kept.1, kept.2, kept.3)

pub invariant_of-self-in-Err-NoSlot : goal.invariant_of-self-in-Err-NoSlot
invariant_of-self-in-Err-NoSlot g c =
    let kept = c.self.invariant in
    rw (c.in-Err-NoSlot.ensures.refused, c.reserve.ensures.same) (still_at_rest kept.0 c.install.ensures.same c.install.ensures.hand, kept.1, kept.2, kept.3)

-- its version was put into the cell
pub returns-clause-published : goal.returns-clause-published
returns-clause-published g c =
    let put = c.in-Ok-install.ensures.published in
    let old = c.self.inside.local in
    (old, put.2.0, put.2.1.0, put.0.slot, c.self.invariant.0.home, put.2.1.1, put.2.1.2 ∙ ap (λ (b : BookState _ _). b.cell_steps ++ step_on old c.args.root.now.cell put.2.0 put.2.1.0 ∷ []) c.self.view_is)
