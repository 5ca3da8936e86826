-- a private bag at the seat of a participant, during a call
use Rattle.std.proofs.Common.{◌≡◌, ◌<◌, ◌≤◌, ◌+◌, Bool, true, false, cond, IsTrue, IsFalse, ℕ, List, [], ◌∷◌, ◌++◌, map, ap, sym, ◌∙◌, subst, refl}
use Rattle.std.proofs.lemmas.List.{map-append}
use Rattle.atomic_table.specs.Table.{Me}
use Rattle.sdd_homes.specs.declared.Garbage.{Garbage}
use Rattle.sdd_homes.specs.declared.Lease.{Lease}
use Rattle.sdd_homes.specs.declared.Owner.{Owner}
use Rattle.domain_table.specs.Contents.{is_blank}
use Rattle.domain_table.specs.Leases.{leased_homes, has_all}
use Rattle.domain_table.specs.Plays.{own_spare}
use Rattle.domain_table.specs.Views.{rereading}
use Rattle.domain_table.specs.declared.board.Acting.{Acting}
use Rattle.domain_table.specs.declared.board.Home.{Home}
use Rattle.domain_table.proofs.Rows.{same_homes}
use Rattle.domain_garbage.specs.Bag.{garbage_told}
use Rattle.domain_table.specs.Leases.{AreAt}
use Rattle.domain_table.proofs.BagLemmas.{has_left}
use Rattle.sdd_steps.specs.State.{Has}
use Rattle.sdd_steps.proofs.ListLemmas.{has_map}
use Rattle.sdd_domain.specs.Collecting.{IsSwept, IsSweptOf}
use Rattle.sdd_domain.specs.declared.local.Local.{Local}

module _ {T : Type 0} (l : Local T) (note : ℕ) (ws0 : List Garbage) (m1 m2 : Me (Home T) Acting) (taken : m1 ≡ (record l.seat.me.0 { collected = ws0 }, l.seat.me.1)) (reread : m2 ≡ (record m1.0 { known = rereading note m1.0.known }, m1.1)) where
  abbrev d : Acting
  d = l.seat.me.0

  pub noted : m2 ≡ (record d { known = rereading note d.known; collected = ws0 }, l.seat.me.1)
  noted = reread ∙ ap (λ (z : Me (Home T) Acting). (record z.0 { known = rereading note z.0.known }, z.1)) taken

  -- what was due is reclaimed
  module _ (m3 : Me (Home T) Acting) (k : ℕ) (ws : List Garbage) (ls : List Lease) (cs : List Garbage) (at : AreAt m2.0.leases ls) (swept : m3 ≡ (record m2.0 { slot = k; leases = ls; waits = ws; collected = cs }, m2.1)) where
    pub left : m3 ≡ (record d { known = rereading note d.known; slot = k; leases = ls; waits = ws; collected = cs }, l.seat.me.1)
    left = swept ∙ ap (λ (z : Me (Home T) Acting). (record z.0 { slot = k; leases = ls; waits = ws; collected = cs }, z.1)) noted

    pub same_at : AreAt d.leases ls
    same_at = at ∙ ap (λ (z : Me (Home T) Acting). map (λ (x : Lease). x.slot) z.0.leases) noted

    -- an owner comes into the hand, and is released
    module _ (o : Owner) (m4 m5 m6 : Me (Home T) Acting) (came : m4 ≡ (record m3.0 { hand = o ∷ m3.0.hand }, m3.1)) (cs' : List Garbage) (ls' : List Lease) (at' : AreAt m4.0.leases ls') (put : m5 ≡ (record m4.0 { hand = m3.0.hand; leases = ls'; collected = cs' }, m4.1)) (parted : m6 ≡ (record m5.0 { collected = [] }, m5.1)) where
      pub in_hand : m4 ≡ (record d { known = rereading note d.known; hand = o ∷ d.hand; slot = k; leases = ls; waits = ws; collected = cs }, l.seat.me.1)
      in_hand = came ∙ ap (λ (z : Me (Home T) Acting). (record z.0 { hand = o ∷ z.0.hand }, z.1)) left

      pub given : m5 ≡ (record d { known = rereading note d.known; slot = k; leases = ls'; waits = ws; collected = cs' }, l.seat.me.1)
      given = put ∙ (λ j. (record (in_hand j).0 { hand = (left j).0.hand; leases = ls'; collected = cs' }, (in_hand j).1))

      pub all : m6 ≡ (record d { known = rereading note d.known; slot = k; leases = ls'; waits = ws; collected = [] }, l.seat.me.1)
      all = parted ∙ ap (λ (z : Me (Home T) Acting). (record z.0 { collected = [] }, z.1)) given

      pub at_last : AreAt d.leases ls'
      at_last = at' ∙ (ap (λ (z : Me (Home T) Acting). map (λ (x : Lease). x.slot) z.0.leases) in_hand ∙ same_at)

      pub spare_there : has_all is_blank (own_spare m6.0 l.spare ∷ leased_homes m6.0 m6.0.leases) m6.1 ≡ true
      spare_there = subst (λ (z : Me (Home T) Acting). has_all is_blank (own_spare z.0 l.spare ∷ leased_homes z.0 z.0.leases) z.1 ≡ true) (sym all)
          (ap (λ ks. has_all is_blank (own_spare d l.spare ∷ ks) l.seat.me.1) (same_homes d ls' d.leases at_last) ∙ l.has_spare.2)

-- a list whose images end with t ends with what that is the image of
last_mapped : (ws : List Garbage) (ts : List (ℕ × ℕ)) (t : ℕ × ℕ) → map garbage_told ws ≡ ts ++ t ∷ [] → (vs : List Garbage) × (w : Garbage) × (ws ≡ vs ++ w ∷ []) × (garbage_told w ≡ t)
last_mapped [] [] t e = absurd (cc)
last_mapped [] (z ∷ zs) t e = absurd (cc)
last_mapped (w ∷ []) [] t e = let same : garbage_told w ≡ t = cc in ([], w, refl, same)
last_mapped (w ∷ []) (z ∷ []) t e = absurd (cc)
last_mapped (w ∷ []) (z ∷ y ∷ zs) t e = absurd (cc)
last_mapped (w ∷ v ∷ ws) [] t e = absurd (cc)
last_mapped (w ∷ v ∷ ws) (z ∷ zs) t e = let tails : map garbage_told (v ∷ ws) ≡ zs ++ t ∷ [] = cc in let r = last_mapped (v ∷ ws) zs t tails in (w ∷ r.0, r.1, ap (λ xs. w ∷ xs) r.2, r.3)

-- what was swept, as it is told
pub swept_told : (count : ℕ) (old kept : List Garbage) → IsSweptOf count old kept → IsSwept count (map garbage_told old) (map garbage_told kept)
swept_told count old kept s = (
  map garbage_told s.0,
  ap (map garbage_told) s.1 ∙ map-append garbage_told kept s.0,
  (λ t h. let p = has_map garbage_told s.0 t h in subst (λ (z : ℕ × ℕ). z.1 + 3 ≤ count) p.2 (s.2 p.0 p.1)),
  (λ ts t e. let p = last_mapped kept ts t e in subst (λ (z : ℕ × ℕ). count < z.1 + 3) p.3 (s.3 p.0 p.1 p.2)),
)

-- with the last owner the item is in front of the others
pub put_told : (b : Bool) (t : ℕ × ℕ) (old new : List Garbage) → (IsTrue b → map garbage_told new ≡ t ∷ map garbage_told old) → (IsFalse b → new ≡ old) → map garbage_told new ≡ cond b (t ∷ map garbage_told old) (map garbage_told old)
put_told true t old new last more = last refl
put_told false t old new last more = ap (map garbage_told) (more refl)

-- no note of what is left is above the count
pub kept_most : (count : ℕ) (old kept : List Garbage) → IsSweptOf count old kept → ((w : Garbage) → Has old w → w.age ≤ count) → (w : Garbage) → Has kept w → w.age ≤ count
kept_most count old kept s most w has = most w (subst (λ (ws : List Garbage). Has ws w) (sym s.1) (has_left kept s.0 w has))
