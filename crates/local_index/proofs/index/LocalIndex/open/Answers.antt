use Rattle.std.proofs.Common.{ℕ, List, None, Some, IsSome, refl, set, sym, ap, ◌∙◌, subst}
use Rattle.std.specs.List.{All, slice_get}
use Rattle.local_index.specs.Invariant.{IsIndex, index_state}
use Rattle.local_index.specs.State.{State, latest_number, present}
use Rattle.local_versions.specs.Store.{Store, Version}
use Rattle.local_index.proofs.DeskLemmas.{session_opened}
use Rattle.local_index.proofs.IndexLemmas.{at_get, kept_open, present_number, present_pairs}
use Rattle.local_index.proofs.PlaceLemmas.{apart, back_again, others_keep}
use Rattle.local_index.proofs.index.LocalIndex.open.Goals as goal

pub returns-in_default-clause-full : goal.returns-in_default-clause-full
returns-in_default-clause-full g c = (λ e. subst (λ (x : State _ _). All IsSome x.places) c.self.view_is c.in_default.ensures.full, λ full. refl)

pub invariant_of-self-2 : goal.invariant_of-self-2
invariant_of-self-2 g c = kept_open g.K.Ord.cmp c.self.inside.history c.self.invariant c.open.new.self c.in-Some.place c.in-Some.ensures.opened

pub returns-clause-opens : goal.returns-clause-opens
returns-clause-opens g c =
    let cmp = g.K.Ord.cmp in
    let place = c.in-Some.place in
    let number = c.present_number-number.result in
    let before : State _ _ = index_state c.self.inside.store c.self.inside.history in
    let free = sym (ap (λ (x : State _ _). slice_get x.places place) c.self.view_is) ∙ c.in-Some.ensures.free in
    let numbered = present_number cmp c.self.inside.history c.self.invariant ∙ ap (λ (x : State _ _). latest_number x) c.self.view_is ∙ sym c.present_number-number.ensures in
    let pairs = present_pairs cmp c.self.inside.history c.self.invariant ∙ ap (λ (x : State _ _). present cmp x) c.self.view_is in
    let version = ap (λ (n : ℕ). record { number = n; pairs = c.self.inside.store.present.pairs }) numbered ∙ ap (λ (ps : List _). record { number = number; pairs = ps }) pairs in
    let changed =
    ap (λ (x : Store _ _). index_state x c.self.inside.history) c.in-Some.ensures.opened
    ∙ ap (λ (v : Version _ _). record before { places = set c.self.inside.store.readers place (Some v) }) version
    ∙ ap (λ (x : State _ _). record x { places = set x.places place (Some (record { number = number; pairs = present cmp c.args.self.now })) }) c.self.view_is in
    rw (c.new-2.ensures.place, c.new-2.ensures.receipt) (record { free = free; number = c.present_number-number.ensures; unread = c.new.ensures; changed = changed })

pub returns-clause-is_open : goal.returns-clause-is_open
returns-clause-is_open g c = session_opened g.K.Ord.cmp c.args.self.now _ c.new-2.result (returns-clause-opens g c)

pub returns-clause-full : goal.returns-clause-full
returns-clause-full g c =
    let free = sym (ap (λ (x : State _ _). slice_get x.places c.in-Some.place) c.self.view_is) ∙ c.in-Some.ensures.free in
    (λ e. cc, λ full. absurd (let h = at_get IsSome c.args.self.now.places c.in-Some.place None full free in cc))

pub invariant_of-self : goal.invariant_of-self
invariant_of-self g c = subst (λ (x : Store _ _). IsIndex g.K.Ord.cmp g.row.S x c.self.inside.history.base c.self.inside.history.transactions) (sym c.in_default.ensures.refused) c.self.invariant

pub returns-clause-back : goal.returns-clause-back
returns-clause-back g c =
    let o = returns-clause-opens g c in
    back_again _ _ _ _ (ap (λ (x : State _ _). x.places) o.changed) o.free

pub returns-clause-apart : goal.returns-clause-apart
returns-clause-apart g c =
    let o = returns-clause-opens g c in
    λ place version h. apart _ _ place version o.free h

pub returns-clause-others : goal.returns-clause-others
returns-clause-others g c =
    let o = returns-clause-opens g c in
    λ place version h. others_keep _ _ _ _ (ap (λ (x : State _ _). x.places) o.changed) place version (apart _ _ place version o.free h) h
