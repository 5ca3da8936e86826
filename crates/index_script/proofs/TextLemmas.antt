-- Texts that are put together.
use Rattle.std.proofs.Common.{◌≡◌, ℕ, ◌+◌, ◌<◌, List, [], ◌∷◌, ◌++◌, length, take, get_or, sym, ap, ◌∙◌, append_assoc, append-nil}
use Rattle.std.proofs.lemmas.List.{take_more}
use Rattle.version_views.specs.declared.write.Reply.{Reply}
use Rattle.version_views.specs.declared.write.Reply.TheVariants.{Inserted}
use Rattle.index_script.specs.Replies.{pair_text, pair_texts, told_text, told_texts}

told_push : (xs : List Reply) (x : Reply) → told_texts (xs ++ x ∷ []) ≡ told_texts xs ++ told_text x
told_push [] x = append-nil (told_text x)
told_push (y ∷ xs) x = ap (λ t. told_text y ++ t) (told_push xs x) ∙ sym (append_assoc (told_text y) (told_texts xs) (told_text x))

-- what one more write was told
pub told_more : (head : List ℕ) (replies : List Reply) (i : ℕ) (text text' word : List ℕ) → i < length replies → text ≡ head ++ told_texts (take i replies) → word ≡ told_text (get_or replies i Inserted) → text' ≡ text ++ word → text' ≡ head ++ told_texts (take (i + 1) replies)
told_more head replies i text text' word lt before told grown =
    let all : told_texts (take (i + 1) replies) ≡ told_texts (take i replies) ++ word =
    ap told_texts (take_more replies i Inserted lt) ∙ told_push (take i replies) (get_or replies i Inserted) ∙ ap (λ w. told_texts (take i replies) ++ w) (sym told) in
    grown ∙ ap (λ t. t ++ word) before ∙ append_assoc head (told_texts (take i replies)) word ∙ ap (λ t. head ++ t) (sym all)

pairs_push : (xs : List (ℕ × List ℕ)) (x : ℕ × List ℕ) → pair_texts (xs ++ x ∷ []) ≡ pair_texts xs ++ pair_text x
pairs_push [] x = append-nil (pair_text x)
pairs_push (y ∷ xs) x = ap (λ t. pair_text y ++ t) (pairs_push xs x) ∙ sym (append_assoc (pair_text y) (pair_texts xs) (pair_text x))

-- one more pair
pub pairs_more : (head text text' : List ℕ) (pairs : List (ℕ × List ℕ)) (i : ℕ) (x : ℕ × List ℕ) → i < length pairs → x ≡ get_or pairs i x → text ≡ head ++ pair_texts (take i pairs) → text' ≡ text ++ pair_text x → text' ≡ head ++ pair_texts (take (i + 1) pairs)
pairs_more head text text' pairs i x lt is before grown =
    let all : pair_texts (take (i + 1) pairs) ≡ pair_texts (take i pairs) ++ pair_text x =
    ap pair_texts (take_more pairs i x lt) ∙ pairs_push (take i pairs) (get_or pairs i x) ∙ ap (λ w. pair_texts (take i pairs) ++ w) (ap pair_text (sym is)) in
    grown ∙ ap (λ t. t ++ pair_text x) before ∙ append_assoc head (pair_texts (take i pairs)) (pair_text x) ∙ ap (λ t. head ++ t) (sym all)
