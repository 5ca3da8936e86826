-- What a commit makes of a book.
use Rattle.std.proofs.Common.{◌≡◌, ℕ, ◌+◌, List, [], ◌∷◌, ◌++◌, Option, Some, None, IfSome, Result, Ok, Err, OnOk, OnErr, length-append, refl, sym, ap, ◌∙◌, subst, arith}
use Rattle.std.specs.declared.cmp.Ordering.{Ordering}
use Rattle.atomic_table.specs.Seated.{TableId}
use Rattle.sdd_plain.specs.declared.sizes.Sizes.{Sizes}
use Rattle.sdd_domain.specs.Tokens.{hand_of}
use Rattle.sdd_domain.specs.declared.local.Local.{Local}
use Rattle.version_views.specs.Writes.{after_writes}
use Rattle.serial_history.specs.Serial.{Base, HasNumber, RefusesCheckpoint, base_at, history_behind}
use Rattle.serial_history.specs.declared.commit.CheckpointRefused.{CheckpointRefused}
use Rattle.serial_history.specs.declared.commit.CheckpointRefused.TheVariants as checkpoints
use Rattle.serial_history.specs.declared.transaction.Transaction.{Transaction}
use Rattle.serial_history.proofs.BaseLemmas.{last_kept, number_kept}
use Rattle.serial_history.proofs.RunLemmas.{after_all-push}
use Rattle.shared_versions.specs.Drafts.{list_of}
use Rattle.shared_versions.specs.Placing.{IsStillButMisses, Placed}
use Rattle.serial_history.specs.Histories.{HistoryState, IsDecidedFirst}
use Rattle.serial_history.specs.declared.commit.Cause.{Cause}
use Rattle.serial_history.specs.declared.commit.Cause.TheVariants as causes
use Rattle.shared_index.specs.Books.{LiesOutside, misses_after}
use Rattle.shared_index.specs.SharedFeeds.{LiesOutsideFeed, RefusesFeed}
use Rattle.shared_index.specs.declared.book.feed.FeedRefused.{FeedRefused}
use Rattle.shared_index.specs.declared.book.feed.FeedRefused.TheVariants as feeds
use Rattle.shared_index.specs.SharedInvariant.{HasBounds, IsCounted, IsLatest, IsUnengaged}

-- the same guards are open, and nothing is in hand
pub still_at_rest : {T : Type 0} {place : TableId × Sizes} {old new : Local T} → IsUnengaged place old → IsStillButMisses old new → hand_of new ≡ [] → IsUnengaged place new
still_at_rest rest still bare = record {
  home = still.0 ∙ rest.home;
  closed = still.3 ∙ rest.closed;
  bare = bare;
}

module _ {K V : Type 0} (cmp : K → K → Ordering) where
  -- the writes of one more transaction make the version that is present then
  pub latest_longer : {place : TableId × Sizes} {old new : Placed K V} {base : Base K V} {history : List (Transaction K V)} (t : Transaction K V) → IsLatest cmp place old base history → new.place ≡ old.place → new.version.number ≡ old.version.number + 1 → list_of new.version ≡ after_writes cmp t.writes (list_of old.version) → IsLatest cmp place new base (history ++ t ∷ [])
  latest_longer {place} {old} {new} {base} {history} t kept here number list =
      let was = kept.number in
      let long = length-append history (t ∷ []) in
      record {
        here = here ∙ kept.here;
        number = omega (arith, number, was, long);
        list = list ∙ ap (after_writes cmp t.writes) kept.list ∙ sym (after_all-push cmp history t base.pairs);
      }

  -- ---- the list of a number becomes the base

  pub latest_rebased : {place : TableId × Sizes} {present : Placed K V} {base : Base K V} {history : List (Transaction K V)} (n : ℕ) → HasNumber base history n → IsLatest cmp place present base history → IsLatest cmp place present (base_at cmp base history n) (history_behind base history n)
  latest_rebased {place} {present} {base} {history} n has kept = record {
    here = kept.here;
    number = kept.number ∙ sym (number_kept cmp base history n has);
    list = kept.list ∙ sym (last_kept cmp base history n);
  }

module _ {K V : Type 0} (cmp : K → K → Ordering) {place : TableId × Sizes} {present : Placed K V} {total width named : ℕ} (h h' : HistoryState K V) where
  -- whether memory was refused for that or not, it stays a book
  pub kept_begun : {A B : Type 0} (r : Result A B) (n : ℕ) → HasNumber h.base h.transactions n → OnOk r (h' ≡ record h { base = base_at cmp h.base h.transactions n; transactions = history_behind h.base h.transactions n; room = h'.room }) → OnErr r (h' ≡ h) → IsLatest cmp place present h.base h.transactions → IsCounted h.base h.transactions total → HasBounds width h.last named → IsLatest cmp place present h'.base h'.transactions × IsCounted h'.base h'.transactions total × HasBounds width h'.last named
  kept_begun (Ok x) n has begins same latest counted bounds =
      let later = λ (x : HistoryState K V). IsLatest cmp place present x.base x.transactions × IsCounted x.base x.transactions total × HasBounds width x.last named in
      subst later (sym begins) (latest_rebased cmp n has latest, counted ∙ sym (number_kept cmp h.base h.transactions n has), bounds)
  kept_begun (Err x) n has begins same latest counted bounds =
      let later = λ (x : HistoryState K V). IsLatest cmp place present x.base x.transactions × IsCounted x.base x.transactions total × HasBounds width x.last named in
      subst later (sym same) (latest, counted, bounds)

-- what the reads or the last number refuse is no miss
unmissed_first : (cause : Cause) → IsDecidedFirst cause → (misses : ℕ) → misses ≡ misses_after cause misses
unmissed_first (causes.Conflict place) first misses = refl
unmissed_first causes.Exhausted first misses = refl
unmissed_first causes.Memory first misses = absurd first
unmissed_first causes.NoSlot first misses = absurd first

pub unmissed : (o : Option Cause) → IfSome o IsDecidedFirst → IfSome o (λ cause. (misses : ℕ) → misses ≡ misses_after cause misses)
unmissed None first = tt
unmissed (Some cause) first = unmissed_first cause first

-- what a book tells of a number that it hasn't
pub lies_outside : {K V : Type 0} (base : Base K V) (history : List (Transaction K V)) (upto : ℕ) (why : CheckpointRefused) → RefusesCheckpoint base history upto why → LiesOutside upto why
lies_outside base history upto (checkpoints.Behind number) h = let below = h.0 in let is = h.1 in omega (arith, below, is)
lies_outside base history upto (checkpoints.Ahead number) h = let above = h.0 in let is = h.1 in omega (arith, above, is)
lies_outside base history upto checkpoints.Memory h = tt

-- nor what came behind one
pub lies_outside_feed : {K V : Type 0} (base : Base K V) (history : List (Transaction K V)) (n : ℕ) (why : FeedRefused) → RefusesFeed base history n why → LiesOutsideFeed n why
lies_outside_feed base history n (feeds.TooOld number) h = let below = h.0 in let is = h.1 in omega (arith, below, is)
lies_outside_feed base history n (feeds.Ahead number) h = let above = h.0 in let is = h.1 in omega (arith, above, is)
lies_outside_feed base history n feeds.Memory h = tt
