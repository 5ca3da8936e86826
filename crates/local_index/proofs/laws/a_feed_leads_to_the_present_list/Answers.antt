use Rattle.std.proofs.Common.{◌∙◌, sym}
use Rattle.serial_history.proofs.BaseLemmas.{last_kept, list_latest}
use Rattle.local_index.proofs.laws.a_feed_leads_to_the_present_list.Goals as goal

pub returns : goal.returns
returns g c = λ s number. last_kept g.K.Ord.cmp s.base s.history number ∙ sym (list_latest g.K.Ord.cmp s.base s.history)
