-- what waits where all of it is due: one bag has it
use Rattle.std.proofs.Common.{◌≡◌, ◌==◌, ◌&&◌, ℕ, suc, ◌<◌, List, [], ◌∷◌, Option, None, Some, sym, refl, ap, ◌∙◌, subst, ⊎_elim, inl, inr}
use Rattle.sdd_steps.specs.State.{Has}
use Rattle.sdd_homes.specs.declared.Garbage.{Garbage}
use Rattle.domain_table.specs.Views.{settled_waits}
use Rattle.domain_table.specs.Chains.{oldest_slot, is_threaded, AllBelow}
use Rattle.domain_table.specs.Bags.{ends_of, IsBag}
use Rattle.domain_table.specs.Ledgers.{WaitsIn}
use Rattle.domain_table.specs.declared.bags.Ends.{Ends}
use Rattle.domain_table.proofs.WaitLemmas.{AllAged, waits_of}

oldest_settled : (ws : List Garbage) → oldest_slot (settled_waits ws) ≡ oldest_slot ws
oldest_settled [] = refl
oldest_settled (w ∷ []) = refl
oldest_settled (w ∷ v ∷ ws) = oldest_settled (v ∷ ws)

threads_settled : (ws : List Garbage) → is_threaded (settled_waits ws) ≡ is_threaded ws
threads_settled [] = refl
threads_settled (w ∷ []) = refl
threads_settled (w ∷ v ∷ ws) = ap (λ b. (v.next == suc w.slot) && b) (threads_settled (v ∷ ws))

ends_settled : (ws : List Garbage) → ends_of (settled_waits ws) ≡ ends_of ws
ends_settled [] = refl
ends_settled (w ∷ ws) = λ j. Some (record { first = oldest_settled (w ∷ ws) j; last = w.slot })

all_settled : (ws : List Garbage) → AllAged 3 (settled_waits ws)
all_settled [] = tt
all_settled (w ∷ ws) = (refl, all_settled ws)

below_settled : (n : ℕ) (ws : List Garbage) → AllBelow n ws → AllBelow n (settled_waits ws)
below_settled n [] h w t = absurd t
below_settled n (x ∷ ws) h w t = ⊎_elim (λ (e : record x { age = 3 } ≡ w). subst (λ (z : Garbage). z.slot < n) e (h x (inl refl))) (λ (k : Has (settled_waits ws) w). below_settled n ws (λ v v_in. h v (inr v_in)) w k) t

-- the bag with all that waits is the one of what is due
pub settled_in : (n : ℕ) (ws : List Garbage) (o : Option Ends) → IsBag ws o → AllBelow n ws → WaitsIn n (settled_waits ws) (record { current = None; previous = None; next = None; due = o })
settled_in n ws o bag low = waits_of {n = n} {ws = settled_waits ws} {b = record { current = None; previous = None; next = None; due = o }} (record {
  cs = [];
  ps = [];
  ns = [];
  ds = settled_waits ws;
  are = refl;
  below = below_settled n ws low;
  current = (refl, refl);
  previous = (refl, refl);
  next = (refl, refl);
  due = (bag.0 ∙ sym (ends_settled ws), threads_settled ws ∙ bag.1);
  new = tt;
  once = tt;
  twice = tt;
  thrice = all_settled ws;
})
