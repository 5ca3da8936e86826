-- why an index that threads share doesn't return what came after a number
use Rattle.std.specs.Prelude.{◌≡◌, ℕ, ◌<◌, List}
use Rattle.serial_history.specs.Serial.{Base, HasNumber, latest}
use Rattle.serial_history.specs.declared.transaction.Transaction.{Transaction}
use Rattle.shared_index.specs.declared.book.feed.FeedRefused.{FeedRefused}
use Rattle.shared_index.specs.declared.book.feed.FeedRefused.TheVariants as feeds

abbrev pub RefusesFeed : {K V : Type 0} → Base K V → List (Transaction K V) → ℕ → FeedRefused → Type 0
RefusesFeed base history n (feeds.TooOld number) = (n < base.number) × (number ≡ base.number)
RefusesFeed base history n (feeds.Ahead number) = (latest base history < n) × (number ≡ latest base history)
RefusesFeed base history n feeds.Memory = HasNumber base history n

-- the number that was asked for lies below the base's, or above the present one, as the refusal says
abbrev pub LiesOutsideFeed : ℕ → FeedRefused → Type 0
LiesOutsideFeed n (feeds.TooOld number) = n < number
LiesOutsideFeed n (feeds.Ahead number) = number < n
LiesOutsideFeed n feeds.Memory = Unit {0}
