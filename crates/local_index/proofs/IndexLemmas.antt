-- The versions of an index have the lists of their numbers, and each call keeps it an index.
use Rattle.std.proofs.Common.{length-append, ◌≡◌, ◌≢◌, ℕ, ◌+◌, ◌-◌, ◌≤◌, List, [], ◌∷◌, ◌++◌, get_or, replicate, set, refl, sym, ap, ◌∙◌, subst, arith, Option, Some, None, IfSome, Result, Ok, Err, OnOk, OnErr, ⊎_elim}
use Rattle.std.specs.declared.cmp.Ordering.{Ordering}
use Rattle.std.specs.List.{All, slice_get}
use Rattle.std.specs.Option.{unwrap_or}
use Rattle.std.proofs.lemmas.List.Elements.{All-replicate, All-set}
use Rattle.std.proofs.lemmas.Option.{slice_get_within, unwrap_or-slice_get}
use Rattle.version_views.specs.Writes.{after_writes}
use Rattle.local_index.specs.Invariant.{IsIndex, HasListOfNumber, index_state}
use Rattle.local_index.specs.State.{State, IsSessionAt, MayRefuse, latest_number, list_at, list_open, present}
use Rattle.local_versions.specs.Store.{IsKeptHere, Store, Version, no_version}
use Rattle.serial_history.specs.Histories.{HistoryState, IsDecidedFirst}
use Rattle.serial_history.specs.Histories as histories
use Rattle.serial_history.specs.declared.commit.Cause.{Cause}
use Rattle.serial_history.specs.declared.commit.Cause.TheVariants as causes
use Rattle.version_views.specs.declared.write.Write.{Write}
use Rattle.serial_history.specs.Serial.{Base, HasNumber, Read, after_all, base_at, history_behind, latest, list_numbered}
use Rattle.serial_history.specs.declared.transaction.Transaction.{Transaction}
use Rattle.serial_history.proofs.BaseLemmas.{last_kept, list_kept, list_latest, list_longer, number_kept}
use Rattle.serial_history.proofs.RunLemmas.{after_all-push}

-- that is never for want of slots
pub slots_later : (o : Option Cause) → IfSome o IsDecidedFirst → IfSome o (λ cause. cause ≢ causes.NoSlot)
slots_later None first = tt
slots_later (Some cause) first = λ e. subst IsDecidedFirst e first

-- what holds of each element holds of the one that is read
pub at_get : {X : Type 0} (P : X → Type 0) (xs : List X) (i : ℕ) (x : X) → All P xs → slice_get xs i ≡ Some x → P x
at_get P xs i x all e = subst P (sym (unwrap_or-slice_get xs i x) ∙ ap (λ o. unwrap_or o x) e) (all i x (slice_get_within xs i x e))

module _ {K V : Type 0} (cmp : K → K → Ordering) where
  -- a version has the list of its number in a longer history too
  of_longer : (base : Base K V) (history : List (Transaction K V)) (t : Transaction K V) (r : Option (Version K V)) → IfSome r (HasListOfNumber cmp base history) → IfSome r (HasListOfNumber cmp base (history ++ t ∷ []))
  of_longer base history t None h = h
  of_longer base history t (Some v) h =
      let within = h.within in
      record {
        within = omega (arith, within, length-append history (t ∷ []));
        list = λ from. h.list from ∙ sym (list_longer cmp base history t v.number within);
      }

  -- and so it has from a later base on, unless that is past it
  of_later : (base : Base K V) (history : List (Transaction K V)) (n : ℕ) (has : HasNumber base history n) (r : Option (Version K V)) → IfSome r (HasListOfNumber cmp base history) → IfSome r (HasListOfNumber cmp (base_at cmp base history n) (history_behind base history n))
  of_later base history n has None h = h
  of_later base history n has (Some v) h =
      let within = h.within in
      let same = number_kept cmp base history n has in
      let first = has.0 in
      record {
        within = omega (arith, within, same);
        list = λ from. h.list (omega (arith, first, from)) ∙ sym (list_kept cmp base history n v.number first from);
      }

  module _ {width : ℕ} {store : Store K V} (h : HistoryState K V) (kept : IsIndex cmp width store h.base h.transactions) where
    -- the present list is that of the present version
    pub present_pairs : store.present.pairs ≡ present cmp (index_state store h)
    present_pairs = ap (λ (v : Version K V). v.pairs) kept.present ∙ sym (list_latest cmp h.base h.transactions)

    pub present_number : store.present.number ≡ latest h.base h.transactions
    present_number = ap (λ (v : Version K V). v.number) kept.present

    -- and so is that after all transactions
    pub present_after : (value : State K V) → index_state store h ≡ value → present cmp value ≡ after_all cmp h.transactions h.base.pairs
    present_after value view = ap (λ (x : State K V). present cmp x) (sym view) ∙ list_latest cmp h.base h.transactions

    pub present_whole : store.present.pairs ≡ after_all cmp h.transactions h.base.pairs
    present_whole = ap (λ (v : Version K V). v.pairs) kept.present

    present_of : HasListOfNumber cmp h.base h.transactions store.present
    present_of = record {
      within = (let n = present_number in omega (arith, n));
      list = λ from. present_pairs ∙ ap (list_numbered cmp h.base h.transactions) (sym present_number);
    }

    -- what a session reads is what stands at its place
    pub session_reads : (value : State K V) (place number : ℕ) → index_state store h ≡ value → IsSessionAt value place number → (v : Version K V) × (slice_get store.readers place ≡ Some (Some v)) × (v.pairs ≡ list_open value place)
    session_reads value place number view opened = (record { number = number; pairs = list_open value place }, ap (λ (x : State K V). slice_get x.places place) view ∙ opened, refl)

    -- a version that is kept has the list of its number
    of_here : (v : Version K V) → IsKeptHere v store → HasListOfNumber cmp h.base h.transactions v
    of_here v here =
        ⊎_elim
        (λ e. subst (HasListOfNumber cmp h.base h.transactions) (sym e) present_of)
        (λ r. at_get (λ r. IfSome r (HasListOfNumber cmp h.base h.transactions)) store.readers r.0 (Some v) kept.readers r.1)
        here

    pub kept_list : (v : Version K V) (n : ℕ) → IsKeptHere v store → v.number ≡ n → h.base.number ≤ n → v.pairs ≡ list_at cmp (index_state store h) n
    kept_list v n here numbered from = (of_here v here).list (omega (arith, numbered, from)) ∙ ap (list_numbered cmp h.base h.transactions) numbered

    kept_readers : (store' : Store K V) (place : ℕ) (r : Option (Version K V)) → store' ≡ record store { readers = set store.readers place r } → IfSome r (HasListOfNumber cmp h.base h.transactions) → IsIndex cmp width store' h.base h.transactions
    kept_readers store' place r e of = record {
      some_pair = kept.some_pair;
      segment_fits = kept.segment_fits;
      present = ap (λ (x : Store K V). x.present) e ∙ kept.present;
      readers = subst (λ (x : Store K V). All (λ r. IfSome r (HasListOfNumber cmp h.base h.transactions)) x.readers) (sym e) (All-set (λ r. IfSome r (HasListOfNumber cmp h.base h.transactions)) store.readers place r of kept.readers);
    }

    -- a session opens
    pub kept_open : (store' : Store K V) (place : ℕ) → store' ≡ record store { readers = set store.readers place (Some store.present) } → IsIndex cmp width store' h.base h.transactions
    kept_open store' place e = kept_readers store' place (Some store.present) e present_of

    -- a session closes
    pub kept_close : (store' : Store K V) (place : ℕ) → store' ≡ record store { readers = set store.readers place None } → IsIndex cmp width store' h.base h.transactions
    kept_close store' place e = kept_readers store' place None e tt

    -- versions are reclaimed
    pub kept_same : (store' : Store K V) (used raises : ℕ) → store' ≡ record store { used = used; raises = raises } → IsIndex cmp width store' h.base h.transactions
    kept_same store' used raises e = subst (λ (x : Store K V). IsIndex cmp width x h.base h.transactions) (sym e) (record {
      some_pair = kept.some_pair;
      segment_fits = kept.segment_fits;
      present = kept.present;
      readers = kept.readers;
    })

    -- the list of a number becomes the base
    pub kept_rebase : (n : ℕ) → HasNumber h.base h.transactions n → IsIndex cmp width store (base_at cmp h.base h.transactions n) (history_behind h.base h.transactions n)
    kept_rebase n has =
        let later = base_at cmp h.base h.transactions n in
        let rest = history_behind h.base h.transactions n in
        let same = number_kept cmp h.base h.transactions n has in
        record {
          some_pair = kept.some_pair;
          segment_fits = kept.segment_fits;
          present = kept.present ∙ ap (λ m. record { number = m; pairs = after_all cmp h.transactions h.base.pairs }) (sym same) ∙ ap (λ ps. record { number = latest later rest; pairs = ps }) (sym (last_kept cmp h.base h.transactions n));
          readers = λ k d lt. of_later h.base h.transactions n has (get_or store.readers k d) (kept.readers k d lt);
        }

    -- whether memory was refused for that or not, it stays an index
    pub kept_begun : {A B : Type 0} (h' : HistoryState K V) (r : Result A B) (n : ℕ) → HasNumber h.base h.transactions n → OnOk r (h' ≡ record h { base = base_at cmp h.base h.transactions n; transactions = history_behind h.base h.transactions n; room = h'.room }) → OnErr r (h' ≡ h) → IsIndex cmp width store h'.base h'.transactions
    kept_begun h' (Ok x) n has begins same = subst (λ (x : HistoryState K V). IsIndex cmp width store x.base x.transactions) (sym begins) (kept_rebase n has)
    kept_begun h' (Err x) n has begins same = subst (λ (x : HistoryState K V). IsIndex cmp width store x.base x.transactions) (sym same) kept

    -- a transaction is added, and its version is published
    pub kept_append : (store' : Store K V) (t : Transaction K V) (v : Version K V) (used : ℕ) → store' ≡ record store { present = v; used = used } → v.number ≡ latest h.base h.transactions + 1 → v.pairs ≡ after_writes cmp t.writes store.present.pairs → IsIndex cmp width store' h.base (h.transactions ++ t ∷ [])
    kept_append store' t v used e number list =
        let long = length-append h.transactions (t ∷ []) in
        let next : v.number ≡ latest h.base (h.transactions ++ t ∷ []) = omega (arith, number, long) in
        let made : v.pairs ≡ after_all cmp (h.transactions ++ t ∷ []) h.base.pairs = list ∙ ap (after_writes cmp t.writes) present_whole ∙ sym (after_all-push cmp h.transactions t h.base.pairs) in
        subst (λ (x : Store K V). IsIndex cmp width x h.base (h.transactions ++ t ∷ [])) (sym e) (record {
          some_pair = kept.some_pair;
          segment_fits = kept.segment_fits;
          present = ap (λ n. record { number = n; pairs = v.pairs }) next ∙ ap (λ ps. record { number = latest h.base (h.transactions ++ t ∷ []); pairs = ps }) made;
          readers = λ k d lt. of_longer h.base h.transactions t (get_or store.readers k d) (kept.readers k d lt);
        })

  -- what is decided first refuses a commit whatever it writes
  refused_first : (width : ℕ) (s : State K V) (reads : List (Read K V)) (cause : Cause) → histories.MayRefuse cmp (latest_number s) s.last (present cmp s) reads cause → IsDecidedFirst cause → (writes : List (Write K V)) → MayRefuse cmp width s reads writes cause
  refused_first width s reads (causes.Conflict place) may first writes = may
  refused_first width s reads causes.Exhausted may first writes = may
  refused_first width s reads causes.Memory may first writes = absurd first
  refused_first width s reads causes.NoSlot may first writes = absurd first

  pub refuses_first : (width : ℕ) (s : State K V) (reads : List (Read K V)) (o : Option Cause) → IfSome o (histories.MayRefuse cmp (latest_number s) s.last (present cmp s) reads) → IfSome o IsDecidedFirst → IfSome o (λ cause. (writes : List (Write K V)) → MayRefuse cmp width s reads writes cause)
  refuses_first width s reads None may first = tt
  refuses_first width s reads (Some cause) may first = refused_first width s reads cause may first

  -- what an index shows when a transaction is added, and its version is published
  pub append_shows : (store store' : Store K V) (h h' : HistoryState K V) (used room : ℕ) (v : Version K V) (t u : Transaction K V) (value : State K V) → store' ≡ record store { present = v; used = used } → h' ≡ record h { transactions = h.transactions ++ t ∷ []; room = room } → t ≡ u → index_state store h ≡ value → index_state store' h' ≡ record value { history = value.history ++ u ∷ []; used = used }
  append_shows store store' h h' used room v t u value stored longer same view =
      ap (λ (x : Store K V). index_state x h') stored
      ∙ ap (λ (x : HistoryState K V). record (index_state store x) { used = used }) longer
      ∙ ap (λ (x : Transaction K V). record (index_state store (record h { transactions = h.transactions ++ x ∷ []; room = room })) { used = used }) same
      ∙ ap (λ (x : State K V). record x { history = x.history ++ u ∷ []; used = used }) view

  -- an index without transactions, of a store with the empty version alone
  pub kept_new : (width places slots used raises : ℕ) → 1 ≤ width → width ≤ 225 → IsIndex {V = V} cmp width (record { present = no_version; readers = replicate places None; slots = slots; used = used; raises = raises }) (record { number = 0; pairs = [] }) []
  kept_new width places slots used raises some fits = record {
    some_pair = some;
    segment_fits = fits;
    present = refl;
    readers = All-replicate (λ r. IfSome r (HasListOfNumber cmp (record { number = 0; pairs = [] }) [])) places None tt;
  }
