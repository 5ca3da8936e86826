-- a desk without sessions serves an index without sessions
use Rattle.std.proofs.Common.{◌≡◌, ℕ, List, Option, Some, None, replicate, length, ap, sym, ◌∙◌, arith}
use Rattle.std.specs.List.{slice_get}
use Rattle.std.proofs.lemmas.List.{get_or-replicate, length-replicate}
use Rattle.std.proofs.lemmas.Option.{slice_get_within, get_or_from_slice_get}
use Rattle.local_index.specs.State.{State}
use Rattle.local_index.specs.Desk.{Serves}
use Rattle.local_index.specs.declared.desk.Ticket.{Ticket}

no_ticket : {X : Type 0} (n i : ℕ) (x : X) → slice_get (replicate n None) i ≡ Some (Some x) → ⊥
no_ticket {X = X} n i x e =
    let within = slice_get_within (replicate n None) i (Some x) e in
    let read = get_or_from_slice_get (replicate n None) i (Some x) None e in
    let none = get_or-replicate n i None None (omega (arith, within, length-replicate {A = Option X} n None)) in
    let both : None ≡ Some x = sym none ∙ read in
    cc

pub serves_new : (n : ℕ) (index : State ℕ ℕ) (desk : List (Option (Ticket ℕ ℕ))) → index.places ≡ replicate n None → desk ≡ replicate n None
    → Serves (record { index = index; desk = desk })
serves_new n index desk ps ds =
    let places : length index.places ≡ n = ap length ps ∙ length-replicate n None in
    let tickets : length desk ≡ n = ap length ds ∙ length-replicate n None in
    record {
      room = omega (arith, places, tickets);
      placed = λ place ticket e. absurd (no_ticket n place ticket (sym (ap (λ d. slice_get d place) ds) ∙ e));
      opened = λ place ticket e. absurd (no_ticket n place ticket (sym (ap (λ d. slice_get d place) ds) ∙ e));
    }
