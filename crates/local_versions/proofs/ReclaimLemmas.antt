-- what passes leave of versions
use Rattle.std.proofs.Common.{◌≡◌, ℕ, zero, suc, ◌+◌, ◌<◌, ◌≤◌, true, Option, None, Some, List, [], ◌∷◌, length, get_or, refl, sym, ap, ◌∙◌, arith, subst, inl, inr, length-set}
use Rattle.std.proofs.lemmas.Bool.{false≢true}
use Rattle.std.proofs.lemmas.Bool.Decides.{eqb_tells}
use Rattle.std.proofs.lemmas.List.Sums.{sum_by-cons}
use Rattle.std.specs.List.{All}
use Rattle.sdd_world.specs.Counting.{Counted, OwnersAreCounted, same_hold}
use Rattle.sdd_world.specs.Frame.{IsLive, Frame, OnlyParticipant, has_owner}
use Rattle.sdd_world.specs.Groups.{GroupsShrink}
use Rattle.sdd_world.specs.Holding.{Hold, SharedIn}
use Rattle.sdd_world.specs.Passing.{CanPass, IsLayered, NoJobWaits, PassesReclaim, accelerated, is_plain, passed, passed_times, Reaches}
use Rattle.sdd_world.specs.Place.{IsPlace}
use Rattle.sdd_world.specs.State.{State, in_use, local_at, with_local_state, participant_at, value_at}
use Rattle.sdd_world.specs.Steps.{bags_empty, guard_opened, times}
use Rattle.sdd_world.specs.declared.status.Cell.{Cell}
use Rattle.sdd_world.specs.declared.status.Cell.TheVariants as cell
use Rattle.sdd_world.specs.declared.status.Status.{Status}
use Rattle.sdd_world.specs.declared.status.Status.TheVariants as status
use Rattle.sdd_world.proofs.CellLemmas.{held_cells_stay}
use Rattle.sdd_world.proofs.CountLemmas.{counted_same, owners_are_counted}
use Rattle.sdd_world.proofs.FrameLemmas.{keeps_opened}
use Rattle.sdd_world.proofs.GroupLemmas.{groups_same, groups_then}
use Rattle.sdd_world.proofs.ListLemmas.{hit-same}
use Rattle.sdd_world.proofs.PassLemmas.{passes_reclaim}
use Rattle.sdd_world.proofs.IdleParticipantLemmas.{gives_only}
use Rattle.version_views.specs.Items.{held_by, slots_of}
use Rattle.local_versions.specs.Placing.{IsFlat, IsLevelled, IsNoDirectory}
use Rattle.local_versions.specs.Reclaiming.{IsRooted, PassesLeaveOne}
use Rattle.sdd_world.specs.declared.groups.Group.{Group}
use Rattle.version_views.specs.declared.directory.Directory.{Directory}
use Rattle.version_views.specs.declared.item.Item.{Item}
use Rattle.version_views.specs.declared.item.Item.TheVariants as items
use Rattle.local_versions.proofs.NoGarbageLemmas.{holds_groups, one_left}
use Rattle.local_versions.proofs.RowSlotLemmas.{all_named, named_in, rows_grown, same_slots}

module _ {K V : Type 0} {s : ℕ} where
  -- a directory is one level above its segments
  abbrev level : Item K V s → ℕ
  level (items.Directory d) = 1
  level (items.Segment t) = 0

  level_low : (v : Item K V s) → level v < 2
  level_low (items.Directory d) = omega arith
  level_low (items.Segment t) = omega arith

  level_none : (v : Item K V s) → IsNoDirectory (Some v) → level v ≡ 0
  level_none (items.Directory d) h = absurd h
  level_none (items.Segment t) h = refl

  layered : (w : State (Item K V s)) → IsFlat w → IsLayered held_by level w
  layered w flat i j v u h is some slot there =
      let o = holds_groups v h some in
      let d = o.0 in
      let above : level v ≡ 1 = ap level o.1 in
      let named : 1 ≤ times j (slots_of w.groups d) = named_in w.groups o.2 j d.rows.items o.4 (subst (λ (x : Hold). Reaches w x j) o.3 slot) in
      let low = all_named (λ x. IsNoDirectory (value_at w x)) (slots_of w.groups d) j (flat i d (is ∙ ap (λ (x : Item K V s). Some x) o.1)) named in
      let below = level_none u (subst (λ (x : Option (Item K V s)). IsNoDirectory x) there low) in
      omega (arith, above, below)

  -- where values and groups only go, the directories that are left have the slots that they had, and levels stay
  module _ (w w' : State (Item K V s)) (goes : (j : ℕ) (u : Item K V s) → value_at w' j ≡ Some u → value_at w j ≡ Some u) (groups : GroupsShrink w.groups w'.groups) (hand : List Hold) (counted : Counted held_by hand w') where
    pub slots_left : (i : ℕ) (d : Directory K Group) → value_at w' i ≡ Some (items.Directory d) → slots_of w.groups d ≡ slots_of w'.groups d
    slots_left i d is = same_slots w'.groups w.groups d.rows.items (rows_grown hand w' counted i d is w groups)

    pub flat_after : IsFlat w → IsFlat w'
    flat_after flat i d is =
        let was = flat i d (goes i (items.Directory d) is) in
        subst (λ js. All (λ j. IsNoDirectory (value_at w' j)) js) (slots_left i d is) (λ k e h. still (value_at w (get_or (slots_of w.groups d) k e)) (value_at w' (get_or (slots_of w.groups d) k e)) (goes (get_or (slots_of w.groups d) k e)) (was k e h))
      where
        still : (o o' : Option (Item K V s)) → ((u : Item K V s) → o' ≡ Some u → o ≡ Some u) → IsNoDirectory o → IsNoDirectory o'
        still o None f h = tt
        still o (Some (items.Directory d)) f h = subst (λ (x : Option (Item K V s)). IsNoDirectory x) (f (items.Directory d) refl) h
        still o (Some (items.Segment t)) f h = tt

    pub levelled_after : IsLevelled w → IsLevelled w'
    levelled_after levelled = record {
      flat = flat_after levelled.flat;
      rows = λ i d is. levelled.rows i d (goes i (items.Directory d) is);
      once = λ i d is j. subst (λ js. times j js ≤ 1) (slots_left i d is) (levelled.once i d (goes i (items.Directory d) is) j);
    }

  pass_on : (n p : ℕ) (w : State (Item K V s)) → CanPass (suc n) p w → CanPass n p (passed held_by p w) × OnlyParticipant p w (passed held_by p w)
  pass_on n p w can =
      let e : suc n ≡ 1 + n = omega arith in
      let r = (passes_reclaim held_by).raised 1 n p w (subst (λ (k : ℕ). CanPass k p w) e can) in
      (r.1, r.2)

  -- over one pass, owners stay counted
  pub counted_passed : (p : ℕ) (hand : List Hold) (w : State (Item K V s)) → IsPlace w → p < length w.participants → Counted held_by hand w → Counted held_by hand (passed held_by p w)
  counted_passed p hand w place known counted =
      let owners : OwnersAreCounted {T = Item K V s} held_by = owners_are_counted held_by in
      let o : State (Item K V s) = guard_opened held_by p w in
      owners.closed p hand (accelerated p o) (counted_same held_by hand o (accelerated p o) refl refl refl refl (owners.opened p hand w place known counted))

  -- over one pass, the root keeps its version
  rooted_passed : (n p c i : ℕ) (d : Directory K Group) (w : State (Item K V s)) → CanPass (suc n) p w → IsRooted p c i d w → IsRooted p c i d (passed held_by p w) × GroupsShrink w.groups (passed held_by p w).groups
  rooted_passed n p c i d w can r =
      let hand : List Hold = SharedIn c ∷ [] in
      let o : State (Item K V s) = guard_opened held_by p w in
      let a : State (Item K V s) = accelerated p o in
      let owners : OwnersAreCounted {T = Item K V s} held_by = owners_are_counted held_by in
      let opening = (gives_only held_by).opening p w can.place can.known in
      let keeps : Frame w o = (keeps_opened held_by w p can.place can.known).0 in
      let inside : p < length a.participants = (let size = length-set o.participants p (with_local_state (record (local_at o p) { accelerated = true }) (participant_at o p)) in let same = keeps.participants in let known = can.known in omega (arith, size, same, known)) in
      let closing = (gives_only held_by).closing p a inside in
      let live : IsLive w i = ap has_owner (owners.kept c i r.tag hand w r.root r.counted).is in
      let one : same_hold (SharedIn c) (SharedIn c) ≡ 1 = hit-same c in
      let sum = sum_by-cons (λ k. same_hold (SharedIn c) k) (SharedIn c) [] in
      let stays = (held_cells_stay held_by).hand c p hand w can.place can.known (omega (arith, one, sum)) r.counted in
      let only = (pass_on n p w can).1 in
      let counted = counted_passed p hand w can.place can.known r.counted in
      let groups : GroupsShrink w.groups (passed held_by p w).groups = subst (λ gs. GroupsShrink w.groups gs) (sym closing.3) opening.0.groups in
      let goes : (j : ℕ) (u : Item K V s) → value_at (passed held_by p w) j ≡ Some u → value_at w j ≡ Some u = λ j u e. opening.0.values j u (sym (ap (λ (vs : List (Option (Item K V s))). get_or vs j None) closing.0) ∙ e) in (
        record {
          counted = counted;
          plain = λ j. subst (λ (ss : List Status). is_plain (get_or ss j status.Free) ≡ true) (sym closing.1) (opening.0.plain j (r.plain j));
          flat = flat_after w (passed held_by p w) goes groups hand counted r.flat;
          tag = r.tag;
          root = ap (λ (cs : List Cell). get_or cs c cell.Free) closing.2 ∙ stays ∙ r.root;
          is = ap (λ (vs : List (Option (Item K V s))). get_or vs i None) closing.0 ∙ keeps.lives i live ∙ r.is;
          others = λ q n. ap bags_empty (only q n) ∙ r.others q n;
        },
        groups,
      )

  pub rooted_times : (n p c i : ℕ) (d : Directory K Group) (w : State (Item K V s)) → CanPass n p w → IsRooted p c i d w → IsRooted p c i d (passed_times held_by p n w) × GroupsShrink w.groups (passed_times held_by p n w).groups
  rooted_times zero p c i d w can r = (r, groups_same w.groups)
  rooted_times (suc n) p c i d w can r =
      let u : State (Item K V s) = passed held_by p w in
      let one = rooted_passed n p c i d w can r in
      let rest = rooted_times n p c i d u (pass_on n p w can).0 one.0 in
      (rest.0, groups_then (passed_times held_by p n u).groups u.groups w.groups rest.1 one.1)

  times_after : (n m p : ℕ) (w : State (Item K V s)) → passed_times held_by p (n + m) w ≡ passed_times held_by p m (passed_times held_by p n w)
  times_after zero m p w = let e : 0 + m ≡ m = omega arith in ap (λ (k : ℕ). passed_times held_by p k w) e
  times_after (suc n) m p w = let e : suc n + m ≡ suc (n + m) = omega arith in ap (λ (k : ℕ). passed_times held_by p k w) e ∙ times_after n m p (passed held_by p w)

  -- four passes reclaim the directories that waited, and four what they held
  leaves_one : (p c i : ℕ) (d : Directory K Group) (w : State (Item K V s)) → CanPass 8 p w → IsRooted p c i d w → in_use (passed_times held_by p 8 w) ≤ length (slots_of w.groups d) + 1
  leaves_one p c i d w can r =
      let reclaims : PassesReclaim {T = Item K V s} held_by = passes_reclaim held_by in
      let u : State (Item K V s) = passed_times held_by p 4 w in
      let v : State (Item K V s) = passed_times held_by p 4 u in
      let can_w : CanPass 4 p w = record { place = can.place; known = can.known; none_open = can.none_open; room = (let room = can.room in omega (arith, room)) } in
      let can_u : CanPass 4 p u = (reclaims.raised 4 4 p w can).1 in
      let can_v : CanPass 0 p v = (reclaims.raised 4 0 p u can_u).1 in
      let first = reclaims.lowered level 1 p w can_w (layered w r.flat) (λ j x t e. level_low x) in
      let second = reclaims.lowered level 0 p u can_u first.0 first.1 in
      let mid = rooted_times 4 p c i d w can_w r in
      let last = rooted_times 4 p c i d u can_u mid.0 in
      let end = last.0 in
      let slots : slots_of w.groups d ≡ slots_of v.groups d = same_slots v.groups w.groups d.rows.items (rows_grown (SharedIn c ∷ []) v end.counted i d end.is w (groups_then v.groups u.groups w.groups last.1 mid.1)) in
      let jobs : NoJobWaits v = λ j e. false≢true (sym (ap is_plain e) ∙ end.plain j) in
      let own = reclaims.emptied level p v can_v.place can_v.known jobs second.1 in
      let empty : (q : ℕ) → bags_empty (participant_at v q) ≡ true = λ q. elim (eqb_tells q p) [
        | inl t ↦ ap (λ (k : ℕ). bags_empty (participant_at v k)) t.1 ∙ own
        | inr t ↦ end.others q t.1
      ] in
      let left = one_left v c i d end.tag can_v.place end.counted end.plain end.flat end.root end.is empty in
      let few = ap length slots in
      subst (λ (x : State (Item K V s)). in_use x ≤ length (slots_of w.groups d) + 1) (sym (times_after 4 4 p w)) (omega (arith, left, few))

  pub passes_leave_one : PassesLeaveOne K V s
  passes_leave_one = record { left = leaves_one }
