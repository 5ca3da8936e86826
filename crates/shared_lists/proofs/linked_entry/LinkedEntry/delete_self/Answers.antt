use Rattle.std.proofs.Common.{◌≤◌, ◌<◌, ℕ, refl}
use Rattle.std.proofs.lemmas.Bool.{false≢true}
use Rattle.sdd_plain.specs.Epochs.{tag_number}
use Rattle.sdd_domain.specs.Comparing.{code_of}
use Rattle.shared_lists.proofs.TagLemmas.{not_found, at_least_two}
use Rattle.shared_lists.proofs.linked_entry.LinkedEntry.delete_self.Goals as goal

pub returns-clause-set : goal.returns-clause-set
returns-clause-set g c = λ yes. let s = c.update_tag_if.ensures.set yes in let p = s.0 in (tag_number p.tag, code_of p.slot, s.1.1.0 refl, s.2)

pub returns-clause-kept : goal.returns-clause-kept
returns-clause-kept g c = λ no. not_found c.args.local.now c.update_tag_if.new.local c.args.self.now.link.now.cell 18446744073709551616 _ (λ t. 2 ≤ t) (λ p f. at_least_two (tag_number p.tag) (λ e. false≢true (f.1.1 e))) (c.update_tag_if.ensures.kept no)
