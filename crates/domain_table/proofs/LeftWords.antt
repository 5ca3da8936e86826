-- the words that tell what was left, where another word is written
use Rattle.std.proofs.Common.{◌≢◌, ℕ, ◌<◌, ◌≤◌, List, set, ◌∙◌, arith, get_or-set_other}
use Rattle.sdd_homes.specs.declared.Garbage.{Garbage}
use Rattle.domain_table.specs.Layout.{left_word, epoch_words}
use Rattle.domain_table.specs.Rule.{Lefts}

module _ {n : ℕ} {words : List ℕ} {left : ℕ → List Garbage} (l : Lefts n words left) where
  pub lefts_else : (i v : ℕ) → ((p : ℕ) → p < n → left_word p ≢ i) → Lefts n (set words i v) left
  lefts_else i v other = record {
    told = λ p low. get_or-set_other words i (left_word p) v 0 (λ e. other p low (omega arith)) ∙ l.told p low;
    chained = l.chained;
  }

  -- a word behind those of epochs
  pub lefts_behind : (i v : ℕ) → epoch_words n ≤ i → Lefts n (set words i v) left
  lefts_behind i v behind = lefts_else i v (λ p low e. omega arith)
