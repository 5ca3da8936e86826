-- What a call leaves staged.
use Rattle.std.proofs.Common.{◌≡◌, ℕ, List, refl}
use Rattle.std.specs.Ordering.{nat_cmp}
use Rattle.version_views.specs.declared.write.Write.{Write}
use Rattle.local_index.specs.Desk.{Machine, Step}
use Rattle.local_index.specs.declared.play.DeskCall.{DeskCall}
use Rattle.local_index.specs.declared.play.DeskCall.TheVariants as calls
use Rattle.local_index.specs.declared.play.DeskReply.{DeskReply}
use Rattle.local_index.specs.declared.play.DeskReply.TheVariants as replies
use Rattle.index_script.specs.Inside.{IsNoCommit}
use Rattle.index_script.specs.Script.{left_staged}

-- only a commit is accepted
pub stays_staged : (width : ℕ) (old new : Machine ℕ (List ℕ)) (call : DeskCall ℕ (List ℕ)) (reply : DeskReply ℕ (List ℕ)) (staged : List (Write ℕ (List ℕ))) → IsNoCommit call → Step nat_cmp width old call reply new → left_staged reply staged ≡ staged
stays_staged width old new (calls.Open label) (replies.Accepted told) staged other step = absurd step
stays_staged width old new (calls.Close label) (replies.Accepted told) staged other step = absurd step
stays_staged width old new (calls.Get label key) (replies.Accepted told) staged other step = absurd step
stays_staged width old new (calls.Contains label key) (replies.Accepted told) staged other step = absurd step
stays_staged width old new (calls.Range label lower upper) (replies.Accepted told) staged other step = absurd step
stays_staged width old new (calls.Locate label key) (replies.Accepted told) staged other step = absurd step
stays_staged width old new (calls.First label lower upper count) (replies.Accepted told) staged other step = absurd step
stays_staged width old new (calls.Last label lower upper count) (replies.Accepted told) staged other step = absurd step
stays_staged width old new (calls.Audit on) (replies.Accepted told) staged other step = absurd step
stays_staged width old new (calls.Commit on writes) (replies.Accepted told) staged other step = absurd other
stays_staged width old new calls.Reclaim (replies.Accepted told) staged other step = absurd step
stays_staged width old new calls.Slots (replies.Accepted told) staged other step = absurd step
stays_staged width old new (calls.Number label) (replies.Accepted told) staged other step = absurd step
stays_staged width old new (calls.Len label) (replies.Accepted told) staged other step = absurd step
stays_staged width old new (calls.Checkpoint upto) (replies.Accepted told) staged other step = absurd step
stays_staged width old new call (replies.Opened number) staged other step = refl
stays_staged width old new call replies.NoPlace staged other step = refl
stays_staged width old new call replies.Busy staged other step = refl
stays_staged width old new call (replies.Closed receipt) staged other step = refl
stays_staged width old new call (replies.NoSession back) staged other step = refl
stays_staged width old new call (replies.Answer answer) staged other step = refl
stays_staged width old new call (replies.Audit found) staged other step = refl
stays_staged width old new call (replies.Refused refused) staged other step = refl
stays_staged width old new call replies.Reclaimed staged other step = refl
stays_staged width old new call (replies.Slots count) staged other step = refl
stays_staged width old new call (replies.Number number) staged other step = refl
stays_staged width old new call (replies.Len count) staged other step = refl
stays_staged width old new call (replies.Checkpointed number) staged other step = refl
stays_staged width old new call (replies.Behind number) staged other step = refl
stays_staged width old new call (replies.Ahead number) staged other step = refl
