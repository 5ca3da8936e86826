-- steps on cells before and behind those that put an item in
use Rattle.std.proofs.Common.{◌≡◌, ◌≢◌, ◌⊎◌, ⊎_elim, ◌+◌, ℕ, List, [], ◌∷◌, ◌++◌, Option, None, Some, IfSome, true, inl, inr, append_assoc, append-nil, refl, sym, ap, ◌∙◌, subst, arith}
use Rattle.std.specs.Option.{is_some}
use Rattle.std.proofs.lemmas.Bool.{false≢true}
use Rattle.sdd_domain.specs.Cells.{cell_number}
use Rattle.sdd_domain.specs.CellSteps.{CellStep, NamesWith, cell_steps_of, HasMade, HasMadeSome, StepsOnNoCell, HasReadCell, HasExchanged, step_on}
use Rattle.sdd_domain.specs.Comparing.{owner_code, owner_slot, code_of}
use Rattle.sdd_domain.specs.Tokens.{home_of}
use Rattle.sdd_domain.specs.declared.local.Local.{Local}
use Rattle.sdd_domain.specs.declared.shared.Shared.{Shared}
use Rattle.sdd_domain.proofs.CellSteps.{made_both, step_since}
use Rattle.shared_containers.specs.Outcomes.{IfDone}
use Rattle.shared_containers.specs.declared.outcome.Pushed.{Pushed}
use Rattle.shared_containers.specs.declared.outcome.Pushed.TheVariants.{Done, Unwanted, Slow}
use Rattle.shared_containers.specs.Put.{HasPutBy, HasPutBefore, HasFilledFirst, HasFilledLink, HasFoundIn, Reaches, HasWalked, IsEndOf, HasAppended, HasAppendedClear}
use Rattle.shared_containers.specs.declared.queue.Queue.{Queue}
use Rattle.shared_lists.specs.Lists.{IsLinkOf}
use Rattle.shared_lists.specs.declared.links.Links.{Links}

-- what follows where something was done
pub done_then : {T P Q : Type 0} → (r : Pushed T) → (P → Q) → IfDone r P → IfDone r Q
done_then Done f = f
done_then (Unwanted s) f = λ p. tt
done_then (Slow s) f = λ p. tt

module _ {T : Type 0} where
  -- an owner that is there is of the item that was found, and none is of none
  pub some_code : (o : Option (Shared T)) (found : Option ℕ) → IfSome o (λ s. owner_slot (Some s) ≡ found) → true ≡ is_some o → owner_code o ≡ code_of found
  some_code None found exact some = absurd (false≢true (sym some))
  some_code (Some s) found exact some = ap code_of exact

  pub null_code : (o : Option (Shared T)) (found : Option ℕ) → IfSome o (λ s. owner_slot (Some s) ≡ found) → found ≡ None → owner_code o ≡ code_of found
  null_code None found exact null = sym (ap code_of null)
  null_code (Some s) found exact null = ap code_of exact

  pub other_code : (found : Option ℕ) (k : ℕ) (s : Shared T) → k ≡ code_of found → found ≢ Some s.slot → k ≢ owner_code (Some s)
  other_code None k s is ne = λ e. omega (arith, is, e)
  other_code (Some j) k s is ne = λ e. let same : j ≡ s.slot = omega (arith, is, e) in ne (ap Some same)

  -- what is put before what was found, behind other steps, and before what are no steps
  module _ (a b c : Local T) (own cell : ℕ) (s : Shared T) where
    pub put_behind : home_of b ≡ home_of a → HasMadeSome a b → HasPutBy b own cell s c → HasPutBy a own cell s c
    put_behind home r q = let u : ℕ = q.1 in let z : ℕ = q.2 in let w : ℕ = q.3 in let v : ℕ = q.4 in let x : CellStep = step_on a own u z in let y : CellStep = step_on a cell w v in (
      r.0 ++ q.0,
      u,
      z,
      w,
      v,
      q.5,
      q.6,
      q.7,
      q.8,
      q.9,
      q.10,
      made_both a b c r.0 (q.0 ++ x ∷ y ∷ []) r.1 (q.11 ∙ (λ j. cell_steps_of b ++ (q.0 ++ step_since own a b u z home j ∷ step_since cell a b w v home j ∷ [])))
          ∙ ap (λ zs. cell_steps_of a ++ zs) (sym (append_assoc r.0 q.0 (x ∷ y ∷ []))),
    )

  -- the link is filled, and then the cell exchanged
  pub put_made : (a b c d : Local T) (own cell t k u h : ℕ) (s : Shared T) → home_of b ≡ home_of a → home_of c ≡ home_of a → HasMadeSome a b → HasExchanged b own t k 0 h c → h ≢ owner_code (Some s) → HasExchanged c cell u h 0 (owner_code (Some s)) d
      → HasPutBy a own cell s d
  put_made a b c d own cell t k u h s home_b home_c r f other e = let fv = f.2 in let ev = e.2 in let x : CellStep = step_on a own f.0 fv.0 in let y : CellStep = step_on a cell e.0 ev.0 in (
    r.0,
    f.0,
    fv.0,
    e.0,
    ev.0,
    u,
    h,
    fv.1,
    e.1,
    other,
    ev.1,
    made_both a c d (r.0 ++ x ∷ []) (y ∷ []) (made_both a b c r.0 (x ∷ []) r.1 (fv.2 ∙ ap (λ z. cell_steps_of b ++ z ∷ []) (step_since own a b f.0 fv.0 home_b))) (ev.2 ∙ ap (λ z. cell_steps_of c ++ z ∷ []) (step_since cell a c e.0 ev.0 home_c))
        ∙ ap (λ zs. cell_steps_of a ++ zs) (append_assoc r.0 (x ∷ []) (y ∷ [])),
  )

  -- an owner of the item in the same slot is as good
  module _ (a b : Local T) (links : Links T) (s q : Shared T) (same : s.slot ≡ q.slot) where
    pub put_same : (cell : ℕ) → HasPutBefore a links cell s b → HasPutBefore a links cell q b
    put_same cell p = let own : ℕ = p.0 in let m = p.2 in (own, subst (λ k. IsLinkOf links k own) same p.1, (m.0, m.1, m.2, m.3, m.4, m.5, m.6, m.7, m.8, subst (λ k. m.6 ≢ k + 1) same m.9, subst (λ k. NamesWith m.4 0 (k + 1)) same m.10, m.11))

    pub appended_same : (way : Queue T) (xs : List CellStep) → HasAppended a way links s xs b → HasAppended a way links q xs b
    appended_same way xs m = (m.0, m.1, m.2, m.3, m.4, m.5, subst (λ k. NamesWith m.3 0 (k + 1)) same m.6, m.7)

  -- ways along a queue behind other steps, and before others
  pub reaches_behind : (a b : Local T) (q : Queue T) (links : Links T) (pre : List CellStep) → home_of b ≡ home_of a → {xs : List CellStep} {k : ℕ} → Reaches b q links xs k → Reaches a q links (pre ++ xs) k
  reaches_behind a b q links pre home (Reaches.from xs ys cell w t k is n) =
      subst (λ zs. Reaches a q links zs k) (append_assoc pre xs (step_on a cell w w ∷ ys) ∙ ap (λ x. pre ++ (xs ++ x ∷ ys)) (sym (step_since cell a b w w home))) (Reaches.from (pre ++ xs) ys cell w t k is n)
  reaches_behind a b q links pre home (Reaches.on {xs = xs} ys cell w t k way link n) =
      subst (λ zs. Reaches a q links zs k) (append_assoc pre xs (step_on a cell w w ∷ ys) ∙ ap (λ x. pre ++ (xs ++ x ∷ ys)) (sym (step_since cell a b w w home))) (Reaches.on ys cell w t k (reaches_behind a b q links pre home way) link n)

  pub reaches_more : (a : Local T) (q : Queue T) (links : Links T) (more : List CellStep) → {xs : List CellStep} {k : ℕ} → Reaches a q links xs k → Reaches a q links (xs ++ more) k
  reaches_more a q links more (Reaches.from xs ys cell w t k is n) = subst (λ zs. Reaches a q links zs k) (sym (append_assoc xs (step_on a cell w w ∷ ys) more)) (Reaches.from xs (ys ++ more) cell w t k is n)
  reaches_more a q links more (Reaches.on {xs = xs} ys cell w t k way link n) = subst (λ zs. Reaches a q links zs k) (sym (append_assoc xs (step_on a cell w w ∷ ys) more)) (Reaches.on (ys ++ more) cell w t k way link n)

  module _ (links : Links T) where
    -- walks of no step, of one more, and with other steps behind them
    pub not_walked : (a : Local T) (o : Option ℕ) → IfSome o (λ k. HasWalked a links o k a)
    not_walked a None = tt
    not_walked a (Some k) = ([], k, refl, sym (append-nil (cell_steps_of a)), λ d q xs home way. subst (λ zs. Reaches d q links zs k) (sym (append-nil xs)) way)

    pub walked_more : (a b c : Local T) (o : Option ℕ) (k : ℕ) → HasWalked a links o k b → HasMadeSome b c → HasWalked a links o k c
    walked_more a b c o k m r = (m.0 ++ r.0, m.1, m.2, made_both a b c m.0 r.0 m.3 r.1, λ d q xs home way. subst (λ zs. Reaches d q links zs k) (append_assoc xs m.0 r.0) (reaches_more d q links r.0 (m.4 d q xs home way)))

    walked_one : (a b c : Local T) (o : Option ℕ) (j cell t k : ℕ) → home_of b ≡ home_of a → HasWalked a links o j b → IsLinkOf links j cell → HasReadCell b cell t (k + 1) c → HasWalked a links o k c
    walked_one a b c o j cell t k home m link read = let w : ℕ = read.0 in let x : CellStep = step_on a cell w w in (
      m.0 ++ x ∷ [],
      m.1,
      m.2,
      made_both a b c m.0 (x ∷ []) m.3 (read.2 ∙ ap (λ y. cell_steps_of b ++ y ∷ []) (step_since cell a b w w home)),
      λ d q xs at way. subst (λ zs. Reaches d q links zs k) (append_assoc xs m.0 (step_on d cell w w ∷ []) ∙ ap (λ y. xs ++ (m.0 ++ y ∷ [])) (sym (step_since cell d a w w at))) (Reaches.on [] cell w t k (m.4 d q xs at way) link read.1),
    )

    pub walked_next : (a b c : Local T) (o p : Option ℕ) (j cell t : ℕ) → home_of b ≡ home_of a → HasWalked a links o j b → IsLinkOf links j cell → HasReadCell b cell t (code_of p) c → IfSome p (λ k. HasWalked a links o k c)
    walked_next a b c o None j cell t home m link read = tt
    walked_next a b c o (Some k) j cell t home m link read = walked_one a b c o j cell t k home m link read

    -- where a way begins
    pub near_start : (a b : Local T) (q : Queue T) (p : Option ℕ) (t : ℕ) → HasReadCell a (cell_number q.last) t (code_of p) b → IfSome p (λ i. (xs : List CellStep) × HasMade a xs b × Reaches a q links xs i)
    near_start a b q None t read = tt
    near_start a b q (Some i) t read = (step_on a (cell_number q.last) read.0 read.0 ∷ [], read.2, Reaches.from [] [] (cell_number q.last) read.0 t i (inl refl) read.1)

    pub first_start : (a b : Local T) (q : Queue T) (p : Option ℕ) → IfSome p (λ i. HasFoundIn a (cell_number q.front.first) i b) → IfSome p (λ i. (xs : List CellStep) × HasMade a xs b × Reaches a q links xs i)
    first_start a b q None found = tt
    first_start a b q (Some i) found = let one = found.3 in let w : ℕ = found.0 in (one.0 ++ step_on a (cell_number q.front.first) w w ∷ one.1, one.2, Reaches.from one.0 one.1 (cell_number q.front.first) w found.1 i (inr refl) found.2)

    -- at the end of a way the link is filled, or the cell in front where there is none
    appended_by : (a c d : Local T) (q : Queue T) (s : Shared T) (xs : List CellStep) (cell : ℕ) → home_of c ≡ home_of a → HasMade a xs c → IsEndOf a q links xs cell → HasFilledFirst c cell s d → HasAppended a q links s xs d
    appended_by a c d q s xs cell home made end m = (
      m.0,
      cell,
      m.1,
      m.2,
      end,
      m.3,
      m.4,
      made_both a c d xs (step_on a cell m.1 m.2 ∷ m.0) made (m.5 ∙ ap (λ y. cell_steps_of c ++ y ∷ m.0) (step_since cell a c m.1 m.2 home)),
    )

    pub appended_end : (a b c d : Local T) (q : Queue T) (s : Shared T) (p o : Option ℕ) → home_of b ≡ home_of a → home_of c ≡ home_of a → IfSome p (λ i. (xs : List CellStep) × HasMade a xs b × Reaches a q links xs i) → IfSome o (λ k. HasWalked b links p k c)
        → HasFilledLink c links o s d → (xs : List CellStep) × HasAppended a q links s xs d
    appended_end a b c d q s p o home_b home_c start walked m =
        let walk = subst (λ z. IfSome z (λ k. HasWalked b links p k c)) m.2 walked in let way = subst (λ z. IfSome z (λ i. (xs : List CellStep) × HasMade a xs b × Reaches a q links xs i)) walk.2 start in
        (way.0 ++ walk.0, appended_by a c d q s (way.0 ++ walk.0) m.1 home_c (made_both a b c way.0 walk.0 way.1 walk.3) (inr (m.0, walk.4 a q way.0 home_b way.2, m.3)) m.4)

    -- behind other steps, and before what are none
    pub appended_behind : (a b c : Local T) (q : Queue T) (s : Shared T) (xs : List CellStep) → home_of b ≡ home_of a → (r : HasMadeSome a b) → HasAppended b q links s xs c → HasAppended a q links s (r.0 ++ xs) c
    appended_behind a b c q s xs home r m = let cell : ℕ = m.1 in let x : CellStep = step_on a cell m.2 m.3 in (
      m.0,
      cell,
      m.2,
      m.3,
      ⊎_elim (λ (e : cell ≡ cell_number q.front.first). inl e) (λ (e : (k : ℕ) × Reaches b q links xs k × IsLinkOf links k cell). inr (e.0, reaches_behind a b q links r.0 home e.1, e.2)) m.4,
      m.5,
      m.6,
      made_both a b c r.0 (xs ++ x ∷ m.0) r.1 (m.7 ∙ ap (λ y. cell_steps_of b ++ (xs ++ y ∷ m.0)) (step_since cell a b m.2 m.3 home)) ∙ ap (λ zs. cell_steps_of a ++ zs) (sym (append_assoc r.0 xs (x ∷ m.0))),
    )

    pub appended_quiet : (a b c : Local T) (q : Queue T) (s : Shared T) (xs : List CellStep) → HasAppended a q links s xs b → StepsOnNoCell b c → HasAppended a q links s xs c
    appended_quiet a b c q s xs m quiet = (m.0, m.1, m.2, m.3, m.4, m.5, m.6, quiet ∙ m.7)

    pub appended_quiet_both : (a b c d : Local T) (q : Queue T) (s : Shared T) → home_of b ≡ home_of a → StepsOnNoCell a b → StepsOnNoCell c d → (xs : List CellStep) × HasAppended b q links s xs c → (xs : List CellStep) × HasAppended a q links s xs d
    appended_quiet_both a b c d q s home first last m =
        let r : HasMadeSome a b = ([], first ∙ sym (append-nil (cell_steps_of a))) in (r.0 ++ m.0, appended_quiet a c d q s (r.0 ++ m.0) (appended_behind a b c q s m.0 home r m.1) last)

    -- its own link is left empty before
    abbrev pub HasCleared : Local T → Shared T → Local T → Type 0
    HasCleared old s new = (vs : List CellStep) × (own : ℕ) × (u : ℕ) × (z : ℕ) × IsLinkOf links s.slot own × NamesWith z 0 0 × HasMade old (step_on old own u z ∷ vs) new

    pub cleared_more : (a b c : Local T) (s : Shared T) → HasCleared a s b → HasMadeSome b c → HasCleared a s c
    cleared_more a b c s m r = (m.0 ++ r.0, m.1, m.2, m.3, m.4, m.5, made_both a b c (step_on a m.1 m.2 m.3 ∷ m.0) r.0 m.6 r.1)

    pub appended_clear : (a b c : Local T) (q : Queue T) (owner s : Shared T) → home_of b ≡ home_of a → s.slot ≡ owner.slot → HasCleared a owner b → (xs : List CellStep) × HasAppended b q links s xs c → HasAppendedClear a q links owner c
    appended_clear a b c q owner s home same m n = let pre : List CellStep = step_on a m.1 m.2 m.3 ∷ m.0 in let r : HasMadeSome a b = (pre, m.6) in
        (pre ++ n.0, ([], m.0 ++ n.0, m.1, m.2, m.3, m.4, m.5, refl), appended_same a c links s owner same q (pre ++ n.0) (appended_behind a b c q s n.0 home r n.1))

    pub clear_behind : (a b c : Local T) (q : Queue T) (s : Shared T) → home_of b ≡ home_of a → StepsOnNoCell a b → HasAppendedClear b q links s c → HasAppendedClear a q links s c
    clear_behind a b c q s home quiet m = let r : HasMadeSome a b = ([], quiet ∙ sym (append-nil (cell_steps_of a))) in let l = m.1 in
        (m.0, (l.0, l.1, l.2, l.3, l.4, l.5, l.6, l.7 ∙ ap (λ x. l.0 ++ x ∷ l.1) (step_since l.2 a b l.3 l.4 home)), appended_behind a b c q s m.0 home r m.2)

    pub front_behind : (a b c : Local T) (cell : ℕ) (s : Shared T) → home_of b ≡ home_of a → HasMadeSome a b → HasPutBefore b links cell s c → HasPutBefore a links cell s c
    front_behind a b c cell s home r m = (m.0, m.1, put_behind a b c m.0 cell s home r m.2)
