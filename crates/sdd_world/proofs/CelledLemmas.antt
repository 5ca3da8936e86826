-- a cell was filled anew
use Rattle.std.proofs.Common.{◌≡◌, ℕ, sym, subst, ◌∙◌, length-set}
use Rattle.sdd_table.specs.State.{State, with_cell}
use Rattle.sdd_table.specs.Place.{IsPlace}
use Rattle.sdd_table.specs.Frame.{Frame}
use Rattle.sdd_table.specs.declared.status.Cell.{Cell}
use Rattle.sdd_world.proofs.FrameLemmas.{is_place, keeps_refl}

module _ {T : Type 0} (w w' : State T) (c : ℕ) (k : Cell) (now : w' ≡ with_cell c k w) where
  pub celled_place : IsPlace w → IsPlace w'
  celled_place p = is_place w' (with_cell c k w) now (record {
    sound = record { sizes = p.sound.sizes; once = p.sound.once; filled = p.sound.filled };
    some = p.some;
    idle = p.idle;
    past = p.past;
    began = p.began;
    near = p.near;
  })

  pub celled_after : (v : State T) → Frame v w → Frame v w'
  celled_after v h = subst (λ (s : State T). Frame v s) (sym now) (record {
    states = h.states;
    cells = length-set w.cells c k ∙ h.cells;
    participants = h.participants;
    lives = h.lives;
    protects = λ q i o o' p. let r = h.protects q i o o' p in (r.0, record { used = r.1.used; prior = r.1.prior; oldest = r.1.oldest; noted = r.1.noted });
  })

  pub celled_keeps : (v : State T) → w ≡ v → Frame v w'
  celled_keeps v is = celled_after v (subst (λ (s : State T). Frame s w) is (keeps_refl w))
