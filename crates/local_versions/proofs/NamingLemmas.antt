-- names for groups come: all stays as it was
use Rattle.std.proofs.Common.{◌≡◌, ℕ, zero, suc, ◌+◌, ◌≤◌, Option, List, [], ◌∷◌, ◌++◌, replicate, refl, sym, ap, ◌∙◌, arith, subst, append-nil, append_assoc}
use Rattle.std.proofs.lemmas.List.Elements.{All-nil}
use Rattle.std.specs.List.{All}
use Rattle.std.specs.declared.cmp.Ordering.{Ordering}
use Rattle.sdd_world.specs.Counting.{Counted}
use Rattle.sdd_world.specs.Frame.{Frame, IsLive}
use Rattle.sdd_world.specs.Groups.{GroupState, GroupsGrow, IsOut, free_names, no_group, row_at}
use Rattle.sdd_world.specs.Holding.{Hold}
use Rattle.sdd_world.specs.State.{State, value_at, with_groups}
use Rattle.sdd_world.proofs.CountLemmas.{owners_are_counted}
use Rattle.sdd_world.proofs.GroupLemmas.{groups_same, groups_then, name_grows, names_grown}
use Rattle.version_views.specs.Items.{held_by}
use Rattle.version_views.specs.Versions.{IsSegment}
use Rattle.version_views.specs.declared.item.Item.{Item}
use Rattle.version_drafts.specs.Drafts.{IsPlanned}
use Rattle.local_versions.specs.Placing.{AddsItems, IsPlaceable, IsSettled, OnlyNamesCome, Plan, StandOn, blocks_at, ends_at}
use Rattle.local_versions.proofs.PlaceableRowLemmas.{blocks_stay_at, ends_stay, older_stays}
use Rattle.local_versions.proofs.PlacingLemmas.{adds_then}
use Rattle.local_versions.proofs.RowPlacingLemmas.{adds_groups}
use Rattle.local_versions.proofs.StayingLemmas.{keeps_then}

-- one name in front of others
names_after : (gs : List GroupState) (n : ℕ) → gs ++ replicate (suc n) no_group ≡ (gs ++ no_group ∷ []) ++ replicate n no_group
names_after gs n = sym (append_assoc gs (no_group ∷ []) (replicate n no_group))

names_grow : (n : ℕ) (gs : List GroupState) → GroupsGrow gs (gs ++ replicate n no_group)
names_grow zero gs = subst (λ hs. GroupsGrow gs hs) (sym (append-nil gs)) (groups_same gs)
names_grow (suc n) gs = subst (λ hs. GroupsGrow gs hs) (sym (names_after gs n)) (groups_then gs (gs ++ no_group ∷ []) ((gs ++ no_group ∷ []) ++ replicate n no_group) (name_grows gs) (names_grow n (gs ++ no_group ∷ [])))

more_free : (n : ℕ) (gs : List GroupState) → free_names gs ≤ free_names (gs ++ replicate n no_group)
more_free zero gs = let same = ap free_names (append-nil gs) in omega (arith, same)
more_free (suc n) gs =
    let rest = more_free n (gs ++ no_group ∷ []) in
    let one = names_grown gs in
    let same = ap free_names (names_after gs n) in
    omega (arith, rest, one, same)

module _ {K V : Type 0} {s : ℕ} where
  counted_named : (n : ℕ) (hand : List Hold) (w : State (Item K V s)) → Counted held_by hand w → Counted held_by hand (with_groups (w.groups ++ replicate n no_group) w)
  counted_named zero hand w c = subst (λ gs. Counted held_by hand (with_groups gs w)) (sym (append-nil w.groups)) c
  counted_named (suc n) hand w c = subst (λ gs. Counted held_by hand (with_groups gs w)) (sym (names_after w.groups n)) (counted_named n hand (with_groups (w.groups ++ no_group ∷ []) w) ((owners_are_counted held_by).groups_grown hand w c))

  -- one name more after others
  pub names_then : (u v w : State (Item K V s)) → OnlyNamesCome u v → w ≡ with_groups (v.groups ++ no_group ∷ []) v → OnlyNamesCome u w
  names_then u v w come is = (come.0 + 1, is ∙ ap (λ (x : State (Item K V s)). with_groups (x.groups ++ no_group ∷ []) x) come.1 ∙ ap (λ gs. with_groups gs u) (append_assoc u.groups (replicate come.0 no_group) (no_group ∷ []) ∙ ap (λ xs. u.groups ++ xs) (one_more come.0)))
    where
      one_more : (n : ℕ) → replicate n no_group ++ no_group ∷ [] ≡ replicate (n + 1) no_group
      one_more zero = refl
      one_more (suc n) = let more : suc n + 1 ≡ suc (n + 1) = omega arith in ap (λ xs. no_group ∷ xs) (one_more n) ∙ sym (ap (λ k. replicate k no_group) more)

  pub no_name : (w : State (Item K V s)) → OnlyNamesCome w w
  no_name w = (0, sym (ap (λ gs. with_groups gs w) (append-nil w.groups)))

  module _ (w w' : State (Item K V s)) (come : OnlyNamesCome w w') (keeps' : Frame w w') where
    abbrev y : State (Item K V s)
    y = with_groups (w.groups ++ replicate come.0 no_group) w

    -- as where no row was placed yet
    pub named_stands : StandOn 0 [] [] w w'
    named_stands = subst (λ (x : State (Item K V s)). StandOn 0 [] [] w x) (sym come.1) (record {
      adds = adds_groups w (w.groups ++ replicate come.0 no_group) (names_grow come.0 w.groups) (subst (λ (x : State (Item K V s)). Frame w x) come.1 keeps');
      out = All-nil (λ g. IsOut y.groups g);
      segments = All-nil (λ g. All (λ i. IsSegment (value_at y i)) (row_at y.groups g));
      lives = All-nil (λ g. All (λ i. IsLive y i) (row_at y.groups g));
      hold = refl;
      counted = λ hand c. counted_named come.0 hand w c;
      names = (let more = more_free come.0 w.groups in omega (arith, more));
    })

    pub named_settled : IsSettled w → IsSettled w'
    named_settled settled = record {
      hand = settled.hand;
      counted = named_stands.counted settled.hand settled.counted;
      ungrouped = settled.ungrouped;
      levelled = named_stands.adds.levelled settled.hand settled.counted settled.levelled;
      few = (let few = settled.few in let states = named_stands.adds.keeps.states in let cells = named_stands.adds.keeps.cells in omega (arith, few, states, cells));
    }

    -- the same can be placed, with the same list
    pub named_blocks : (cmp : K → K → Ordering) (older : Option ℕ) (p : Plan K V s) → IsSettled w → IsPlaceable cmp w older p → blocks_at w' older ≡ blocks_at w older
    named_blocks cmp older p settled can = blocks_stay_at cmp w w' 0 [] [] named_stands settled older can.there

    pub named_placeable : (cmp : K → K → Ordering) (older : Option ℕ) (p : Plan K V s) → IsSettled w → IsPlaceable cmp w older p → IsPlaceable cmp w' older p
    named_placeable cmp older p settled can = record {
      planned = subst (λ es. IsPlanned cmp (blocks_at w' older) es p) (sym (ends_stay cmp w w' 0 [] [] named_stands settled older can.there)) (subst (λ bs. IsPlanned cmp bs (ends_at w older) p) (sym (named_blocks cmp older p settled can)) can.planned);
      there = older_stays cmp w w' 0 [] [] named_stands settled older can.there;
    }

    -- what is placed then is placed
    pub named_then : (n : ℕ) (gs : List ℕ) (bs : List (List (List (K × V)))) (v : State (Item K V s)) → StandOn n gs bs w' v → StandOn n gs bs w v
    named_then n gs bs v st =
        let none : 0 + n ≡ n = omega arith in
        record {
          adds = subst (λ k. AddsItems k w v) none (adds_then 0 n w w' v named_stands.adds st.adds (λ hand c l. st.adds.levelled hand (named_stands.counted hand c) (named_stands.adds.levelled hand c l)));
          out = st.out;
          segments = st.segments;
          lives = st.lives;
          hold = st.hold;
          counted = λ hand c. st.counted hand (named_stands.counted hand c);
          names = (let a = named_stands.names in let b = st.names in omega (arith, a, b));
        }

  -- the frame, with one name more
  pub names_keep : (u v w : State (Item K V s)) → OnlyNamesCome u v → Frame u v → Frame v w → Frame u w
  names_keep u v w come keeps more = let st = named_stands u v come keeps in keeps_then u v w st.adds.participants st.adds.lives keeps more
