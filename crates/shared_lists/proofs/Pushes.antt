-- pushes behind an entry, as their steps on cells tell them
use Rattle.std.proofs.Common.{◌≡◌, ◌+◌, ℕ, ◌++◌, [], ◌∷◌, Option, None, Some, append_assoc, length-append, refl, sym, ap, ◌∙◌, arith}
use Rattle.sdd_domain.specs.CellSteps.{CellStep, cell_steps_of, HasMadeSome, HasReadCell, HasExchanged, StepsOnNoCell, step_on}
use Rattle.sdd_domain.specs.Comparing.{owner_code, owner_slot, code_of}
use Rattle.sdd_domain.specs.Tokens.{home_of}
use Rattle.sdd_domain.specs.declared.local.Local.{Local}
use Rattle.sdd_domain.specs.declared.shared.Shared.{Shared}
use Rattle.sdd_domain.proofs.CellSteps.{made_both, step_since}
use Rattle.shared_lists.specs.Entries.{HasPushed, HasFoundDeleted, HasMadeMany}

pub code_of_slot : {T : Type 0} (o : Option (Shared T)) → owner_code o ≡ code_of (owner_slot o)
code_of_slot None = refl
code_of_slot (Some s) = refl

module _ {T : Type 0} (a b c d : Local T) (own cell : ℕ) (home_b : home_of b ≡ home_of a) (home_c : home_of c ≡ home_of a) where
  -- the new link is filled, and then the other one exchanged
  pub push_made : (t k u m h code : ℕ) → HasMadeSome a b → HasExchanged b own t k 0 h c → HasExchanged c cell u h m code d → HasPushed a own cell u m code d
  push_made t k u m h code r f e = let fv = f.2 in let ev = e.2 in let x : CellStep = step_on a own f.0 fv.0 in let y : CellStep = step_on a cell e.0 ev.0 in (
    r.0,
    f.0,
    fv.0,
    e.0,
    ev.0,
    h,
    fv.1,
    e.1,
    ev.1,
    made_both a c d (r.0 ++ x ∷ []) (y ∷ []) (made_both a b c r.0 (x ∷ []) r.1 (fv.2 ∙ ap (λ z. cell_steps_of b ++ z ∷ []) (step_since own a b f.0 fv.0 home_b))) (ev.2 ∙ ap (λ z. cell_steps_of c ++ z ∷ []) (step_since cell a c e.0 ev.0 home_c))
        ∙ ap (λ zs. cell_steps_of a ++ zs) (append_assoc r.0 (x ∷ []) (y ∷ [])),
  )

module _ {T : Type 0} (a b c : Local T) (home : home_of b ≡ home_of a) where
  pub pushed_before : (own cell t m code : ℕ) → HasPushed a own cell t m code b → StepsOnNoCell b c → HasPushed a own cell t m code c
  pushed_before own cell t m code q quiet = (q.0, q.1, q.2, q.3, q.4, q.5, q.6, q.7, q.8, quiet ∙ q.9)

  pub pushed_behind : (own cell t m code : ℕ) → HasMadeSome a b → HasPushed b own cell t m code c → HasPushed a own cell t m code c
  pushed_behind own cell t m code r q = let u : ℕ = q.1 in let z : ℕ = q.2 in let w : ℕ = q.3 in let v : ℕ = q.4 in let x : CellStep = step_on a own u z in let y : CellStep = step_on a cell w v in (
    r.0 ++ q.0,
    u,
    z,
    w,
    v,
    q.5,
    q.6,
    q.7,
    q.8,
    made_both a b c r.0 (q.0 ++ x ∷ y ∷ []) r.1 (q.9 ∙ (λ j. cell_steps_of b ++ (q.0 ++ step_since own a b u z home j ∷ step_since cell a b w v home j ∷ [])))
        ∙ ap (λ zs. cell_steps_of a ++ zs) (sym (append_assoc r.0 q.0 (x ∷ y ∷ []))),
  )

  pub deleted_behind : (cell : ℕ) → HasMadeSome a b → HasFoundDeleted b cell c → HasFoundDeleted a cell c
  deleted_behind cell r q = let w : ℕ = q.1 in let x : CellStep = step_on a cell w w in (
    r.0 ++ q.0,
    w,
    q.2,
    q.3,
    q.4,
    q.5,
    made_both a b c r.0 (q.0 ++ x ∷ []) r.1 (q.6 ∙ ap (λ z. cell_steps_of b ++ (q.0 ++ z ∷ [])) (step_since cell a b w w home)) ∙ ap (λ zs. cell_steps_of a ++ zs) (sym (append_assoc r.0 q.0 (x ∷ []))),
  )

  pub many_more : (n m : ℕ) → HasMadeMany a n b → HasMadeMany b m c → HasMadeMany a (n + m) c
  many_more n m r q = (r.0 ++ q.0, (let first = r.1 in let then = q.1 in simp length-append (omega arith)), made_both a b c r.0 q.0 r.2 q.2)

module _ {T : Type 0} (a b : Local T) where
  pub many_some : (n : ℕ) → HasMadeMany a n b → HasMadeSome a b
  many_some n r = (r.0, r.2)

  pub read_many : (cell t k : ℕ) → HasReadCell a cell t k b → HasMadeMany a 1 b
  read_many cell t k r = (step_on a cell r.0 r.0 ∷ [], omega arith, r.2)

  pub some_many : HasMadeSome a b → HasMadeMany a 0 b
  some_many r = (r.0, omega arith, r.1)

pub codes_same : {T : Type 0} (o p : Option (Shared T)) (k : Option ℕ) → owner_slot o ≡ k → owner_slot p ≡ k → owner_code o ≡ owner_code p
codes_same o p k e f = code_of_slot o ∙ (ap code_of (e ∙ sym f) ∙ sym (code_of_slot p))
