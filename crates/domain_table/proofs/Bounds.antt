-- what is known of the counts at publications, after a step
use Rattle.std.proofs.Common.{◌≡◌, ◌≢◌, ◌⊎◌, ℕ, ◌+◌, ◌<◌, ◌≤◌, List, length, set, sym, subst, ⊎_elim, arith}
use mathlib.Core.Logic.{dite}
use native.Mathlib.Decide.{ℕ_discrete}
use Rattle.sdd_steps.specs.declared.participant.Phase.TheVariants.{Opened}
use Rattle.sdd_steps.specs.declared.participant.Participant.{Participant}
use Rattle.sdd_steps.specs.State.{At, Has}
use Rattle.sdd_steps.proofs.ListLemmas.{put, put_here, put_else, set_all, at_inside}
use Rattle.domain_table.specs.Rule.{Bounded}

module _ (ps : List Participant) (count : ℕ) (born : ℕ → ℕ) (f : Bounded ps count born) where
  -- one participant changes
  pub changes : (p : ℕ) (x x' : Participant) (b : ℕ) → At ps p x
      → ((e : ℕ) → x'.phase ≡ Opened e → (e ≤ b) × (b ≤ count) × (count ≤ b + 1))
      → ((e : ℕ) → x'.phase ≡ Opened e → (b ≡ count) ⊎ ((x.phase ≡ Opened e) × (b ≡ born p)))
      → ((r : ℕ) (y : Participant) (e : ℕ) → x'.phase ≡ Opened count → Has x'.looked r → r ≢ p → At ps r y → y.phase ≡ Opened e → count ≤ born r)
      → Bounded (set ps p x') count (put born p b)
  changes p x x' b at inside again looks = record {
    inside = λ q y e at_q. set_all (λ q' y'. y'.phase ≡ Opened e → (e ≤ put born p b q') × (put born p b q' ≤ count) × (count ≤ put born p b q' + 1)) ps p x'
        (λ is. subst (λ z. (e ≤ z) × (z ≤ count) × (count ≤ z + 1)) (sym (put_here born p b)) (inside e is))
        (λ q' y' other here is. subst (λ z. (e ≤ z) × (z ≤ count) × (count ≤ z + 1)) (sym (put_else born p b q' other)) (f.inside q' y' e here is)) q y at_q;
    looks = λ q z r y e at_q is_q has at_r is_r. set_all (λ q' z'. z'.phase ≡ Opened count → Has z'.looked r → count ≤ put born p b r) ps p x'
        (λ is' has'. set_all (λ r' y'. y'.phase ≡ Opened e → Has x'.looked r' → count ≤ put born p b r') ps p x'
        (λ _ _. let h = put_here born p b in let g = inside count is' in let g0 = g.0 in omega arith)
        (λ r' y' other here is'' has''. let h = put_else born p b r' other in let l = looks r' y' e is' has'' other here is'' in omega arith) r y at_r is_r has')
        (λ q' z' apart there is' has'. set_all (λ r' y'. y'.phase ≡ Opened e → Has z'.looked r' → count ≤ put born p b r') ps p x'
        (λ is'' has''. let h = put_here born p b in ⊎_elim (λ (t : b ≡ count). omega arith)
        (λ (t : (x.phase ≡ Opened e) × (b ≡ born p)). let l = f.looks q' z' p x e there is' has'' at t.0 in let t1 = t.1 in omega arith) (again e is''))
        (λ r' y' other here is'' has''. let h = put_else born p b r' other in let l = f.looks q' z' r' y' e there is' has'' here is'' in omega arith) r y at_r is_r has')
        q z at_q is_q has;
  }

  -- the count is raised by p, which has looked at everybody else
  pub raised : (p : ℕ) (x : Participant) → At ps p x → x.phase ≡ Opened count → ((q : ℕ) → q < length ps → q ≢ p → Has x.looked q) → Bounded ps (count + 1) born
  raised p x at is all = record {
    inside = λ q y e at_q is_q. let i = f.inside q y e at_q is_q in let i0 = i.0 in let i1 = i.1 in let young : count ≤ born q = dite (ℕ_discrete q p)
        (λ same. subst (λ z. count ≤ born z) (sym same) (f.inside p x count at is).0)
        (λ other. f.looks p x q y e at is (all q (at_inside ps q y at_q) other) at_q is_q) in (i0, omega arith, omega arith);
    looks = λ q y r z e at_q is_q has at_r is_r. let g = f.inside q y (count + 1) at_q is_q in let g0 = g.0 in let g1 = g.1 in absurd (omega arith);
  }
