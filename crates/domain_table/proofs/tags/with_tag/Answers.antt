use Rattle.std.proofs.Common.{◌≡◌, ◌<◌, ◌+◌, ◌*◌, ◌/◌, ◌%◌, ℕ, ◌∙◌, arith}
use Rattle.sdd_plain.specs.Epochs.{tag_number}
use Rattle.domain_table.proofs.tags.with_tag.Goals as goal

pub returns : goal.returns
returns c = let w : ℕ = c.args.word in let y : ℕ = w % 2147483648 in let t : ℕ = w / 2147483648 % 4 in let k : ℕ = w / 8589934592 in let low : y < 2147483648 = omega arith in let few : t < 4 = omega arith in let is : w ≡ y + 2147483648 * (t + 4 * k) = omega arith in let new = c.word_with.ensures.word in
    ((y, t, tag_number c.args.tag, k, low, few, c.word_with.ensures.few, is, new), λ y' t' k' low' few' is'. let spare : y ≡ y' = omega arith in let code : k ≡ k' = omega arith in new ∙ λ j. spare j + 2147483648 * (tag_number c.args.tag + 4 * code j))
