use Rattle.std.proofs.Common.{◌≡◌, ℕ, Bool, length, cond, refl, sym, ap, ◌∙◌, arith}
use Rattle.sdd_table.specs.State.{State, is_used, weight, status_at, with_status, retired}
use Rattle.sdd_table.specs.Steps.{followed}
use Rattle.sdd_table.specs.declared.status.Status.TheVariants as status
use Rattle.sdd_table.proofs.PrivateBagLemmas.{names, room_left}
use Rattle.sdd_table.proofs.reclaim.collect.Goals as goal

pub set_status-requires-clause-slot : goal.set_status-requires-clause-slot
set_status-requires-clause-slot g c =
    let t = c.args.table.now in
    let n = names c.args.waiting.now.items c.args.slot t in
    omega (arith, c.requires.slot, n.places, ap (λ (w : State _). length w.states) c.follow_last.ensures)

pub set_status-requires-clause-was_used : goal.set_status-requires-clause-was_used
set_status-requires-clause-was_used g c =
    let t = c.args.table.now in
    let n = names c.args.waiting.now.items c.args.slot t in
    ap (λ (w : State _). is_used (status_at w c.args.slot)) c.follow_last.ensures ∙ n.told is_used (λ m b d. refl) c.args.slot ∙ c.requires.used

pub set_status-requires-clause-waited_not : goal.set_status-requires-clause-waited_not
set_status-requires-clause-waited_not g c =
    let t = c.args.table.now in
    let n = names c.args.waiting.now.items c.args.slot t in
    ap (λ (w : State _). weight (status_at w c.args.slot)) c.follow_last.ensures ∙ n.told weight (λ m b d. refl) c.args.slot ∙ c.requires.waits_not

pub returns-then-len-room-clause-state : goal.returns-then-len-room-clause-state
returns-then-len-room-clause-state g c =
    let t = c.args.table.now in
    let i = c.args.slot in
    let a = c.args.waiting.now in
    let n = names a.items i t in
    let v : State _ = followed a.items i t in
    let note = c.count-note.ensures ∙ ap (λ (w : State _). w.count) c.follow_last.ensures ∙ n.count in
    let whole = c.set_status.ensures ∙ ap (λ (w : State _). with_status i (status.Collected c.count-note.result 0) w) c.follow_last.ensures ∙ ap (λ (k : ℕ). with_status i (status.Collected k 0) v) note in
    let room : c.args.waiting.now.room ≡ c.room.result = sym c.room.ensures in
    let some = room_left (length a.items) a.room (omega (arith, c.if-len-room.true, c.len.ensures, room)) in
    whole ∙ sym (ap (λ (b : Bool). cond b (with_status i (status.Collected t.count 0) v) (retired c.args.p i t)) some)
