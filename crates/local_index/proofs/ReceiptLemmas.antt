-- Receipts of an index's own sessions.
use Rattle.std.proofs.Common.{◌≡◌, ℕ, ◌<◌, ◌≤◌, zero, suc, get_or, List, [], ◌∷◌, ◌++◌, length, set, refl, sym, ap, ◌∙◌, subst, arith, length-append, Result, Ok, Err, Some, None, ◌⊎◌, inl, inr}
use Rattle.std.specs.List.{All, slice_get}
use Rattle.std.specs.declared.cmp.Ordering.{Ordering}
use Rattle.std.proofs.lemmas.List.Elements.{All-append}
use Rattle.version_views.specs.declared.write.Write.{Write}
use Rattle.local_versions.specs.Store.{Version}
use Rattle.local_index.specs.Receipts.{IsOwnReceipt, IsOwnSession}
use Rattle.serial_history.specs.Serial.{Base, HasNumber, Holds, Read, base_at, history_behind, list_numbered}
use Rattle.local_index.specs.State.{State, OpenSession, Audits, Checkpoints, Commits, Opens, Reads, Rebases, latest_number, list_at, list_read, list_there, present, transaction_of}
use Rattle.serial_history.specs.declared.commit.Accepted.{Accepted}
use Rattle.serial_history.specs.declared.commit.CheckpointRefused.{CheckpointRefused}
use Rattle.serial_history.specs.declared.commit.Refused.{Refused}
use Rattle.serial_history.specs.declared.query.Answer.{Answer}
use Rattle.serial_history.specs.declared.query.Query.{Query}
use Rattle.serial_history.specs.declared.transaction.Audit.{Audit}
use Rattle.serial_history.specs.declared.transaction.Audit.TheVariants as audits
use Rattle.serial_history.specs.declared.transaction.Receipt.{Receipt}
use Rattle.serial_history.specs.declared.transaction.Transaction.{Transaction}
use Rattle.serial_history.proofs.BaseLemmas.{list_kept, list_longer, number_kept}
use Rattle.local_index.proofs.DeskLemmas.{set-there}

pub first_of : {X : Type 0} (xs : List X) (i : ℕ) → i < length xs → X
first_of [] i h = absurd (omega (arith, h))
first_of (x ∷ xs) i h = x

module _ {K V : Type 0} (cmp : K → K → Ordering) where
  -- ---- every call that leaves base and history

  same_list : (old new : State K V) (n : ℕ) → new.base ≡ old.base → new.history ≡ old.history → list_at cmp old n ≡ list_at cmp new n
  same_list old new n b h = ap (λ (base : Base K V). list_numbered cmp base old.history n) (sym b) ∙ ap (λ (ts : List (Transaction K V)). list_numbered cmp new.base ts n) (sym h)

  pub same_receipt : (old new : State K V) (receipt : Receipt K V) → new.base ≡ old.base → new.history ≡ old.history → IsOwnReceipt cmp old receipt → IsOwnReceipt cmp new receipt
  same_receipt old new receipt b h own =
      let number = ap (λ (base : Base K V). base.number) b in
      record {
        reached = let r = own.reached in omega (arith, r, ap length h, number);
        reads = λ from. subst (λ ps. All (Holds cmp ps) receipt.reads) (same_list old new receipt.number b h) (own.reads (omega (arith, from, number)));
      }

  pub same_session : (old new : State K V) (session : OpenSession K V) → new.base ≡ old.base → new.history ≡ old.history → list_read new session ≡ list_read old session → IsOwnSession cmp old session → IsOwnSession cmp new session
  same_session old new session b h read own =
      let number = ap (λ (base : Base K V). base.number) b in
      record {
        receipt = same_receipt old new session.receipt b h own.receipt;
        list = λ from. read ∙ own.list (omega (arith, from, number)) ∙ same_list old new session.receipt.number b h;
      }

  -- ---- a longer history

  longer_receipt : (old new : State K V) (t : Transaction K V) (receipt : Receipt K V) → new.base ≡ old.base → new.history ≡ old.history ++ t ∷ [] → IsOwnReceipt cmp old receipt → IsOwnReceipt cmp new receipt
  longer_receipt old new t receipt b e own =
      let r = own.reached in
      let number = ap (λ (base : Base K V). base.number) b in
      let list = sym (list_longer cmp old.base old.history t receipt.number r) ∙ ap (λ (base : Base K V). list_numbered cmp base (old.history ++ t ∷ []) receipt.number) (sym b) ∙ ap (λ (ts : List (Transaction K V)). list_numbered cmp new.base ts receipt.number) (sym e) in
      record {
        reached = omega (arith, r, ap length e, length-append old.history (t ∷ []), number);
        reads = λ from. subst (λ ps. All (Holds cmp ps) receipt.reads) list (own.reads (omega (arith, from, number)));
      }

  pub committed : (width : ℕ) (old new : State K V) (reads : List (Read K V)) (writes : List (Write K V)) (result : Result Accepted (Refused K V)) (receipt : Receipt K V) → Commits cmp width old reads writes result new → IsOwnReceipt cmp old receipt → IsOwnReceipt cmp new receipt
  committed width old new reads writes (Ok told) receipt accepts own = longer_receipt old new (transaction_of cmp old reads writes) receipt (ap (λ (s : State K V). s.base) accepts.changed) (ap (λ (s : State K V). s.history) accepts.changed) own
  committed width old new reads writes (Err back) receipt refuses own = subst (λ (s : State K V). IsOwnReceipt cmp s receipt) (sym refuses.unchanged) own

  longer_list : (old new : State K V) (t : Transaction K V) (n : ℕ) → n ≤ latest_number old → new.base ≡ old.base → new.history ≡ old.history ++ t ∷ [] → list_at cmp old n ≡ list_at cmp new n
  longer_list old new t n r b e = sym (list_longer cmp old.base old.history t n r) ∙ ap (λ (base : Base K V). list_numbered cmp base (old.history ++ t ∷ []) n) (sym b) ∙ ap (λ (ts : List (Transaction K V)). list_numbered cmp new.base ts n) (sym e)

  pub committed_session : (width : ℕ) (old new : State K V) (reads : List (Read K V)) (writes : List (Write K V)) (result : Result Accepted (Refused K V)) (session : OpenSession K V) → Commits cmp width old reads writes result new → IsOwnSession cmp old session → IsOwnSession cmp new session
  committed_session width old new reads writes (Ok told) session accepts own =
      let b = ap (λ (s : State K V). s.base) accepts.changed in
      let number = ap (λ (base : Base K V). base.number) b in
      record {
        receipt = committed width old new reads writes (Ok told) session.receipt accepts own.receipt;
        list = λ from. ap (λ (s : State K V). list_there (slice_get s.places session.place)) accepts.changed ∙ own.list (omega (arith, from, number)) ∙ longer_list old new (transaction_of cmp old reads writes) session.receipt.number own.receipt.reached b (ap (λ (s : State K V). s.history) accepts.changed);
      }
  committed_session width old new reads writes (Err back) session refuses own = subst (λ (s : State K V). IsOwnSession cmp s session) (sym refuses.unchanged) own

  -- ---- a later base

  module _ (old new : State K V) (n : ℕ) (r : Rebases cmp old n new) where
    first : new.base.number ≡ n
    first = ap (λ (s : State K V). s.base.number) r.changed

    later_list : (i : ℕ) → n ≤ i → list_at cmp old i ≡ list_at cmp new i
    later_list i h = sym (list_kept cmp old.base old.history n i r.has.0 h) ∙ ap (λ (s : State K V). list_at cmp s i) (sym r.changed)

    later_number : latest_number new ≡ latest_number old
    later_number = ap (λ (s : State K V). latest_number s) r.changed ∙ number_kept cmp old.base old.history n r.has

    later_receipt : (receipt : Receipt K V) → IsOwnReceipt cmp old receipt → IsOwnReceipt cmp new receipt
    later_receipt receipt own =
        let e = first in
        let has = r.has.0 in
        let same = later_number in
        record {
          reached = let m = own.reached in omega (arith, m, same);
          reads = λ from. subst (λ ps. All (Holds cmp ps) receipt.reads) (later_list receipt.number (omega (arith, from, e))) (own.reads (omega (arith, from, e, has)));
        }

    later_session : (session : OpenSession K V) → IsOwnSession cmp old session → IsOwnSession cmp new session
    later_session session own =
        let e = first in
        let has = r.has.0 in
        record {
          receipt = later_receipt session.receipt own.receipt;
          list = λ from. ap (λ (s : State K V). list_there (slice_get s.places session.place)) r.changed ∙ own.list (omega (arith, from, e, has)) ∙ later_list session.receipt.number (omega (arith, from, e));
        }

  pub rebased : (old new : State K V) (upto : ℕ) (result : Result (Unit {0}) CheckpointRefused) (receipt : Receipt K V) → Checkpoints cmp old upto result new → IsOwnReceipt cmp old receipt → IsOwnReceipt cmp new receipt
  rebased old new upto (Ok done) receipt r own = later_receipt old new upto r receipt own
  rebased old new upto (Err why) receipt r own = subst (λ (s : State K V). IsOwnReceipt cmp s receipt) (sym r.1) own

  pub rebased_session : (old new : State K V) (upto : ℕ) (result : Result (Unit {0}) CheckpointRefused) (session : OpenSession K V) → Checkpoints cmp old upto result new → IsOwnSession cmp old session → IsOwnSession cmp new session
  rebased_session old new upto (Ok done) session r own = later_session old new upto r session own
  rebased_session old new upto (Err why) session r own = subst (λ (s : State K V). IsOwnSession cmp s session) (sym r.1) own

  -- ---- sessions

  pub opened : (old new : State K V) (session : OpenSession K V) → Opens cmp old session new → IsOwnSession cmp new session
  opened old new session opens =
      let v : Version K V = record { number = session.receipt.number; pairs = present cmp old } in
      let n = opens.number in
      let read = ap (λ (s : State K V). list_there (slice_get s.places session.place)) opens.changed ∙ ap list_there (set-there old.places session.place (Some v) None opens.free) in
      record {
        receipt = record {
          reached = omega (arith, n, ap (λ (s : State K V). latest_number s) opens.changed);
          reads = λ from. subst (All (Holds cmp (list_at cmp new session.receipt.number))) (sym opens.unread) (λ place d h. absurd (omega (arith, h)));
        };
        list = λ from. read ∙ ap (list_at cmp old) (sym n) ∙ ap (λ (s : State K V). list_at cmp s session.receipt.number) (sym opens.changed);
      }

  pub read_more : (s : State K V) (old new : OpenSession K V) (query : Query K) (answer : Answer K V) → Reads cmp s old query answer new → IsOwnSession cmp s old → IsOwnSession cmp s new
  read_more s old new query answer reads own = subst (λ (x : OpenSession K V). IsOwnSession cmp s x) (sym reads.recorded) (record {
    receipt = record {
      reached = own.receipt.reached;
      reads = λ from. All-append (Holds cmp (list_at cmp s old.receipt.number)) old.receipt.reads ((query, answer) ∷ []) (own.receipt.reads from) (λ place d h. one from place d h);
    };
    list = own.list;
  })
    where
      one : s.base.number ≤ old.receipt.number → (place : ℕ) (d : Read K V) → place < length {A = Read K V} ((query, answer) ∷ []) → Holds cmp (list_at cmp s old.receipt.number) (get_or ((query, answer) ∷ []) place d)
      one from zero d h = subst (λ ps. Holds cmp ps (query, answer)) (own.list from) reads.told
      one from (suc place) d h = absurd (omega (arith, h))

  pub audited : (s : State K V) (receipt : Receipt K V) (found : Audit) → IsOwnReceipt cmp s receipt → Audits cmp s receipt found → (found ≡ audits.Yes) ⊎ (found ≡ audits.TooOld s.base.number)
  audited s receipt audits.Yes own h = inl refl
  audited s receipt (audits.No place) own h = absurd (let d = first_of receipt.reads place h.1.within in h.1.differs d (own.reads h.0.0 place d h.1.within))
  audited s receipt audits.Unknown own h = absurd (let r = own.reached in omega (arith, r, h))
  audited s receipt (audits.TooOld number) own h = inr (ap audits.TooOld h.1)
