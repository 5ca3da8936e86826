-- notes as runs: what is last, and what one more note makes of them
use Rattle.std.proofs.Common.{◌≡◌, ◌≢◌, ℕ, zero, suc, ◌+◌, ◌-◌, ◌<◌, ◌≤◌, List, [], ◌∷◌, ◌++◌, length, replicate, map, refl, sym, ap, ◌∙◌, subst, append_assoc, append-nil, inl, inr, ⊎_elim, arith}
use Rattle.std.proofs.lemmas.List.{length-append, length-replicate}
use Rattle.sdd_steps.specs.State.{Has}
use Rattle.domain_garbage.specs.Runs.{notes_of, AreRuns}
use Rattle.domain_garbage.specs.declared.notes.Notes.TheInside.{Inside}

rep_last : (n x : ℕ) → replicate (suc n) x ≡ replicate n x ++ x ∷ []
rep_last zero x = refl
rep_last (suc n) x = ap (λ zs. x ∷ zs) (rep_last n x)

abbrev pub runs : ℕ → ℕ → ℕ → ℕ → ℕ → ℕ → List ℕ
runs a x b y c z = replicate a x ++ (replicate b y ++ replicate c z)

pub third_last : (a x b y c z : ℕ) → 0 < c → runs a x b y c z ≡ runs a x b y (c - 1) z ++ z ∷ []
third_last a x b y zero z some = absurd (omega (arith, some))
third_last a x b y (suc c) z some =
    let less : suc c - 1 ≡ c = omega arith in
    ap (λ zs. replicate a x ++ (replicate b y ++ zs)) (rep_last c z ∙ ap (λ (k : ℕ). replicate k z ++ z ∷ []) (sym less)) ∙ (ap (λ zs. replicate a x ++ zs) (sym (append_assoc (replicate b y) (replicate (suc c - 1) z) (z ∷ []))) ∙ sym (append_assoc (replicate a x) (replicate b y ++ replicate (suc c - 1) z) (z ∷ [])))

pub second_last : (a x b y z : ℕ) → 0 < b → runs a x b y 0 z ≡ runs a x (b - 1) y 0 z ++ y ∷ []
second_last a x b y z some = ap (λ zs. replicate a x ++ zs) (append-nil (replicate b y)) ∙ (third_last 0 0 a x b y some ∙ ap (λ zs. (replicate a x ++ zs) ++ y ∷ []) (sym (append-nil (replicate (b - 1) y))))

pub has_rep : (n x : ℕ) → 0 < n → Has (replicate n x) x
has_rep zero x some = absurd (omega (arith, some))
has_rep (suc n) x some = inl refl

-- a list whose images end with y ends with what that is the image of
pub last_of : {A B : Type 0} (f : A → B) (ws : List A) (ys : List B) (y : B) → map f ws ≡ ys ++ y ∷ [] → (vs : List A) × (w : A) × (ws ≡ vs ++ w ∷ []) × (f w ≡ y)
last_of f [] [] y e = absurd (cc)
last_of f [] (z ∷ zs) y e = absurd (cc)
last_of f (w ∷ []) [] y e = let same : f w ≡ y = cc in ([], w, refl, same)
last_of f (w ∷ []) (z ∷ []) y e = absurd (cc)
last_of f (w ∷ []) (z ∷ x ∷ zs) y e = absurd (cc)
last_of f (w ∷ v ∷ ws) [] y e = absurd (cc)
last_of f (w ∷ v ∷ ws) (z ∷ zs) y e = let tails : map f (v ∷ ws) ≡ zs ++ y ∷ [] = cc in let t = last_of f (v ∷ ws) zs y tails in (w ∷ t.0, t.1, ap (λ xs. w ∷ xs) t.2, t.3)

-- where the newest note is another one, and the first less than three below it, the oldest run has no items
pub oldest_none : (a x b y c z note : ℕ) → (0 < b → (0 < a) × (y < x)) → (0 < c → (0 < b) × (z < y)) → x ≤ note → x ≢ note → ((ns : List ℕ) (n : ℕ) → runs a x b y c z ≡ ns ++ n ∷ [] → note < n + 3) → c ≡ 0
oldest_none a x b y zero z note second third most other young = refl
oldest_none a x b y (suc c) z note second third most other young =
    let t = third (omega arith) in
    let s = second t.0 in
    let less = young (runs a x b y (suc c - 1) z) z (third_last a x b y (suc c) z (omega arith)) in
    let low = t.1 in
    let high = s.1 in
    absurd (omega (arith, less, low, high, most, other))

pub has_both : (xs ys : List ℕ) (n : ℕ) → Has xs n → Has (xs ++ ys) n
has_both [] ys n h = absurd h
has_both (x ∷ xs) ys n h = ⊎_elim (λ (e : x ≡ n). inl e) (λ (t : Has xs n). inr (has_both xs ys n t)) h
