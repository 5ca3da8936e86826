-- steps on cells, one after another
use Rattle.std.proofs.Common.{◌≡◌, ◌<◌, ◌≤◌, ◌+◌, ℕ, List, [], ◌∷◌, ◌++◌, append_assoc, append-nil, length, length-append, refl, sym, ap, ◌∙◌, subst, arith}
use Rattle.std.specs.Prelude.{All}
use Rattle.std.proofs.lemmas.List.Elements.{All-nil, All-cons, All-append}
use Rattle.atomic_table.specs.Seated.{TableId}
use Rattle.sdd_plain.specs.Epochs.{tag_number}
use Rattle.sdd_plain.specs.declared.tag.Tag.{Tag}
use Rattle.sdd_plain.specs.declared.tag.Tag.TheVariants as tags
use Rattle.sdd_plain.specs.declared.sizes.Sizes.{Sizes}
use Rattle.domain_table.specs.Layout.{cell_word}
use Rattle.domain_table.specs.declared.board.CellStep.{CellStep}
use Rattle.sdd_domain.specs.Tokens.{home_of}
use Rattle.sdd_domain.specs.CellSteps.{cell_steps_of, HasMade, StepsOnNoCell, IsReadOf, HasReadCell, HasExchanged, HasOnlyRead, HasFoundLast, HasReadOften, HasRetagged, step_on}
use Rattle.sdd_domain.specs.declared.local.Local.{Local}

pub tag_few : (t : Tag) → tag_number t < 4
tag_few tags.None = omega arith
tag_few tags.First = omega arith
tag_few tags.Second = omega arith
tag_few tags.Both = omega arith

module _ {T : Type 0} (a b c : Local T) where
  pub made_both : (xs ys : List CellStep) → HasMade a xs b → HasMade b ys c → HasMade a (xs ++ ys) c
  made_both xs ys first then = then ∙ (ap (λ zs. zs ++ ys) first ∙ append_assoc (cell_steps_of a) xs ys)

module _ {T : Type 0} (cell t k u h : ℕ) (a b c : Local T) where
  -- an exchange with nothing behind it, or before it
  pub exchanged_before : HasExchanged a cell t k u h b → StepsOnNoCell b c → HasExchanged a cell t k u h c
  exchanged_before q quiet = let v = q.2 in (q.0, q.1, (v.0, v.1, quiet ∙ v.2))

  pub exchanged_behind : home_of b ≡ home_of a → StepsOnNoCell a b → HasExchanged b cell t k u h c → HasExchanged a cell t k u h c
  exchanged_behind home quiet q = let v = q.2 in (q.0, q.1, (v.0, v.1, v.2 ∙ λ j. quiet j ++ record { word = cell_word (home j).1 cell; found = q.0; left = v.0 } ∷ []))

module _ {T : Type 0} (cell : ℕ) where
  -- steps of a participant are the same, told from another moment of it
  pub step_since : (a b : Local T) (w v : ℕ) → home_of b ≡ home_of a → step_on b cell w v ≡ step_on a cell w v
  step_since a b w v home = λ j. record { word = cell_word (home j).1 cell; found = w; left = v }

  reads_since : (a b : Local T) (xs : List CellStep) → home_of b ≡ home_of a → All (IsReadOf b cell) xs → All (IsReadOf a cell) xs
  reads_since a b xs home all = subst (λ (h : TableId × Sizes). All (λ (x : CellStep). x ≡ record { word = cell_word h.1 cell; found = x.found; left = x.found }) xs) home all

  pub one_read : (a b : Local T) (t k : ℕ) → HasReadCell a cell t k b → HasOnlyRead a cell b
  one_read a b t k r = (step_on a cell r.0 r.0 ∷ [], All-cons (IsReadOf a cell) (step_on a cell r.0 r.0) [] refl (All-nil (IsReadOf a cell)), r.2)

  -- so many reads at least, and none
  pub none_often : (a : Local T) → HasReadOften a cell 0 a
  none_often a = ([], All-nil (IsReadOf a cell), omega arith, sym (append-nil (cell_steps_of a)))

  pub word_often : (a b : Local T) (w : ℕ) → HasMade a (step_on a cell w w ∷ []) b → HasReadOften a cell 1 b
  word_often a b w made = (step_on a cell w w ∷ [], All-cons (IsReadOf a cell) (step_on a cell w w) [] refl (All-nil (IsReadOf a cell)), omega arith, made)

  pub read_often : (a b : Local T) (t k : ℕ) → HasReadCell a cell t k b → HasReadOften a cell 1 b
  read_often a b t k r = word_often a b r.0 r.2

  pub only_often : (a b : Local T) (n : ℕ) → HasReadOften a cell n b → HasOnlyRead a cell b
  only_often a b n r = (r.0, r.1, r.3)

  pub fewer_often : (a b : Local T) (n m : ℕ) → m ≤ n → HasReadOften a cell n b → HasReadOften a cell m b
  fewer_often a b n m few r = (r.0, r.1, (let many = r.2 in omega arith), r.3)

  pub often_again : (a b c : Local T) (n m : ℕ) → home_of b ≡ home_of a → HasReadOften a cell n b → HasReadOften b cell m c → HasReadOften a cell (n + m) c
  often_again a b c n m home r q = (r.0 ++ q.0, All-append (IsReadOf a cell) r.0 q.0 r.1 (reads_since a b q.0 home q.1), (let first = r.2 in let then = q.2 in simp length-append (omega arith)), made_both a b c r.0 q.0 r.3 q.3)

  pub found_behind : (a b c : Local T) (n t k : ℕ) → home_of b ≡ home_of a → HasReadOften a cell n b → HasReadCell b cell t k c → HasFoundLast a cell t k c
  found_behind a b c n t k home r q = (r.0, q.0, r.1, q.1, made_both a b c r.0 (step_on b cell q.0 q.0 ∷ []) r.3 q.2 ∙ ap (λ x. cell_steps_of a ++ (r.0 ++ x ∷ [])) (step_since a b q.0 q.0 home))

  pub read_and_set : (a b c : Local T) (t k u : ℕ) → home_of b ≡ home_of a → HasOnlyRead a cell b → HasExchanged b cell t k u k c → HasRetagged a cell t k u c
  read_and_set a b c t k u home r q = let v = q.2 in (r.0, q.0, v.0, r.1, q.1, v.1, made_both a b c r.0 (step_on a cell q.0 v.0 ∷ []) r.2 (v.2 ∙ ap (λ x. cell_steps_of b ++ x ∷ []) (step_since a b q.0 v.0 home)))

  pub read_and_tagged : (a b c : Local T) (t k u : ℕ) → home_of b ≡ home_of a → HasOnlyRead a cell b → HasRetagged b cell t k u c → HasRetagged a cell t k u c
  read_and_tagged a b c t k u home r q = (
    r.0 ++ q.0,
    q.1,
    q.2,
    All-append (IsReadOf a cell) r.0 q.0 r.1 (reads_since a b q.0 home q.3),
    q.4,
    q.5,
    made_both a b c r.0 (q.0 ++ step_on a cell q.1 q.2 ∷ []) r.2 (q.6 ∙ ap (λ x. cell_steps_of b ++ (q.0 ++ x ∷ [])) (step_since a b q.1 q.2 home)) ∙ ap (λ zs. cell_steps_of a ++ zs) (sym (append_assoc r.0 q.0 (step_on a cell q.1 q.2 ∷ []))),
  )
