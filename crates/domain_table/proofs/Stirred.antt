-- steps that leave items as they are, but for ages and bags, leave alone what stands of items and cells
use Rattle.std.proofs.Common.{◌≡◌, ◌≢◌, ◌⊎◌, ◌==◌, cond, true, false, ℕ, ◌+◌, ◌<◌, ◌≤◌, List, [], map, length, get_or, set, sym, refl, ap, ◌∙◌, subst, ⊎_elim, arith, eq-eqb, ne_eqb, ◌∷◌}
use mathlib.Core.Logic.{dite}
use mathlib.Core.Option as maybe
use native.Mathlib.Decide.{ℕ_discrete}
use Rattle.sdd_plain.specs.declared.sizes.Sizes.{Sizes}
use Rattle.sdd_steps.specs.declared.participant.Phase.TheVariants.{Opened}
use Rattle.sdd_steps.specs.declared.participant.Participant.{Participant}
use Rattle.sdd_steps.specs.declared.participant.Loaded.{Loaded}
use Rattle.sdd_steps.specs.declared.item.Item.{Item}
use Rattle.sdd_steps.specs.declared.item.ItemState.{ItemState}
use Rattle.sdd_steps.specs.declared.item.ItemState.TheVariants.{Live, Due, Retired, Collected, Waiting, Reclaimed}
use Rattle.sdd_steps.specs.declared.item.Cell.{Cell}
use Rattle.sdd_steps.specs.State as steps
use Rattle.sdd_steps.specs.State.{At, Has}
use Rattle.sdd_steps.specs.Steps.{aged, left, settled, older, left_by, settled_by}
use Rattle.sdd_steps.specs.Invariant.{names_of}
use Rattle.sdd_steps.proofs.ListLemmas.{put, put_else, has_map, at_map, at_mapped, same_at, set_all, set_here, set_else}
use Rattle.sdd_homes.specs.declared.Lease.{Lease}
use Rattle.sdd_homes.specs.declared.Owner.{Owner}
use Rattle.sdd_homes.specs.declared.Garbage.{Garbage}
use Rattle.sdd_homes.specs.Book.{Content, Book}
use Rattle.sdd_homes.specs.Reasons.{Loads, Why}
use Rattle.sdd_homes.specs.Spares.{Spares}
use Rattle.sdd_homes.specs.Hands.{items_of, owned}
use Rattle.sdd_homes.specs.Parts.{Parts}
use Rattle.sdd_homes.specs.Lying.{Lying}
use Rattle.sdd_homes.proofs.PartLemmas as parts
use Rattle.sdd_homes.proofs.SpareLemmas.{stays_kept, refilled}
use Rattle.sdd_homes.proofs.HandLemmas.{owned_set}
use Rattle.domain_table.specs.Layout.{epoch_words, claim_word, cell_word, slot_word, link_word, all_homes, all_spares}
use Rattle.domain_table.specs.Items.{owners_in_hand, Grasps, Grip, Owns, IsWaiting, IsLeftover, IsNoted, Leftovers, Private, IsLinked, Links, IsFilling, Rests, Carries, Items, Distinct}
use Rattle.domain_table.specs.Views.{older_waits, settled_waits}
use Rattle.domain_table.proofs.Privates.{private_set}
use Rattle.domain_table.specs.declared.board.Acting.{Acting}

-- the same item, which may have aged or gone into another bag
pub record Ages (it it' : Item) : Type 0 where
  pub value : it'.value ≡ it.value
  pub hand : it'.hand ≡ it.hand
  pub owners : it'.owners ≡ it.owners
  pub holds : it'.holds ≡ it.holds
  pub due : (q : ℕ) → it'.state ≡ Due q → it.state ≡ Due q
  pub gone : (q : ℕ) → it.state ≡ Reclaimed q → it'.state ≡ Reclaimed q

pub record Stirred (items items' : List Item) : Type 0 where
  pub ahead : (i : ℕ) (it : Item) → At items i it → (it' : Item) × At items' i it' × Ages it it'
  pub back : (i : ℕ) (it' : Item) → At items' i it' → (it : Item) × At items i it × Ages it it'

pub stirred_none : (items : List Item) → Stirred items items
stirred_none items = let same : (it : Item) → Ages it it = (λ it. record { value = refl; hand = refl; owners = refl; holds = refl; due = λ q e. e; gone = λ q e. e }) in record {
  ahead = λ i it at. (it, at, same it);
  back = λ i it at. (it, at, same it);
}

stirred_map : (f : Item → Item) (items : List Item) → ((it : Item) → Ages it (f it)) → Stirred items (map f items)
stirred_map f items each = record {
  ahead = λ i it at. (f it, at_map f items i it at, each it);
  back = λ i it' at. let t = at_mapped f items i it' at in (t.0, t.1, subst (Ages t.0) t.2 (each t.0));
}

aged_due : (p q : ℕ) (f : ItemState) → aged p f ≡ Due q → f ≡ Due q
aged_due p q Live e = absurd (cc)
aged_due p q (Due r) e = e
aged_due p q (Retired r a) e = absurd (cc)
aged_due p q (Collected n) e = absurd (cc)
aged_due p q Waiting e = absurd (cc)
aged_due p q (Reclaimed r) e = absurd (cc)

left_due : (p q : ℕ) (f : ItemState) → left p f ≡ Due q → f ≡ Due q
left_due p q Live e = absurd (cc)
left_due p q (Due r) e = e
left_due p q (Retired r a) e = (elim (r == p) as (λ b. cond b Waiting (Retired r a) ≡ Due q → Retired r a ≡ Due q) [ true ↦ λ h. absurd (cc) | false ↦ λ h. h ]) e
left_due p q (Collected n) e = absurd (cc)
left_due p q Waiting e = absurd (cc)
left_due p q (Reclaimed r) e = absurd (cc)

settled_due : (p q : ℕ) (f : ItemState) → settled p f ≡ Due q → f ≡ Due q
settled_due p q Live e = absurd (cc)
settled_due p q (Due r) e = e
settled_due p q (Retired r a) e = absurd (cc)
settled_due p q (Collected n) e = absurd (cc)
settled_due p q Waiting e = absurd (cc)
settled_due p q (Reclaimed r) e = absurd (cc)

pub stirred_settled : (p : ℕ) (items : List Item) → Stirred items (map (settled_by p) items)
stirred_settled p items = stirred_map (settled_by p) items (λ it. record { value = refl; hand = refl; owners = refl; holds = refl; due = λ q e. settled_due p q it.state e; gone = λ q e. ap (settled p) e })

pub stirred_older : (p : ℕ) (items : List Item) → Stirred items (map (older p) items)
stirred_older p items = stirred_map (older p) items (λ it. record { value = refl; hand = refl; owners = refl; holds = refl; due = λ q e. aged_due p q it.state e; gone = λ q e. ap (aged p) e })

pub stirred_left : (p : ℕ) (items : List Item) → Stirred items (map (left_by p) items)
stirred_left p items = stirred_map (left_by p) items (λ it. record { value = refl; hand = refl; owners = refl; holds = refl; due = λ q e. left_due p q it.state e; gone = λ q e. ap (left p) e })

-- nothing of the first is in the second but what the views of others tell too
pub grip_set : (views : List Acting) (id : ℕ) (d d' : Acting) → At views id d → ((q i : ℕ) → Grasps d q i → Grasps d' q i) → (q i : ℕ) → Grip views q i → Grip (set views id d') q i
grip_set views id d d' at still q i g = dite (ℕ_discrete g.0 id)
    (λ e. let same : g.1 ≡ d = same_at views id g.1 d (subst (λ m. At views m g.1) e g.2) at in (id, d', set_here views id d' d at, still q i (subst (λ (v : Acting). Grasps v q i) same g.3)))
    (λ ne. (g.0, g.1, set_else views id g.0 d' ne ∙ g.2, g.3))

-- who has what it had loaded goes on so
pub loads_on : (s t : steps.State) (p : ℕ) (x x' : Participant) → At s.participants p x → t.participants ≡ set s.participants p x' → x'.phase ≡ x.phase → x'.loaded ≡ x.loaded → (i : ℕ) → Loads s p i → Loads t p i
loads_on s t p x x' at is phase loaded i l = let same : l.0 ≡ x = same_at s.participants p l.0 x l.3 at in (
  x',
  l.1,
  l.2,
  subst (λ ps. At ps p x') (sym is) (set_here s.participants p x' x at),
  phase ∙ (ap (λ (z : Participant). z.phase) (sym same) ∙ l.4),
  subst (λ (hs : List Loaded). Has hs l.2) (ap (λ (z : Participant). z.loaded) same ∙ sym loaded) l.5,
  l.6,
)

-- others go on so
pub loads_others : (s t : steps.State) (p : ℕ) (x' : Participant) → t.participants ≡ set s.participants p x' → (q i : ℕ) → q ≢ p → Loads s q i → Loads t q i
loads_others s t p x' is q i ne l = (l.0, l.1, l.2, subst (λ ps. At ps q l.0) (sym is) (set_else s.participants p q x' ne ∙ l.3), l.4, l.5, l.6)

-- without an open guard nothing is loaded
pub loads_none : (s : steps.State) (p : ℕ) (x : Participant) → At s.participants p x → ((e : ℕ) → x.phase ≢ Opened e) → (G : Type 0) (i : ℕ) → Loads s p i → G
loads_none s p x at none G i l = absurd (none l.1 (ap (λ (z : Participant). z.phase) (sym (same_at s.participants p l.0 x l.3 at)) ∙ l.4))

-- what p has retired is older by one where it rotates, and what others have stays
pub waits_older : (p : ℕ) (items : List Item) (slot_of : ℕ → ℕ) (ws : List Garbage) (w : Garbage) → ((v : Garbage) → Has ws v → IsWaiting items slot_of p v) → Has (older_waits ws) w → IsWaiting (map (older p) items) slot_of p w
waits_older p items slot_of ws w all h = let t = has_map (λ (v : Garbage). record v { age = v.age + 1 }) ws w h in let y = all t.0 t.1 in
    subst (IsWaiting (map (older p) items) slot_of p) t.2 (older p y.0, at_map (older p) items t.0.item y.0 y.1, ap (aged p) y.2 ∙ ap (λ b. Retired p (cond b (t.0.age + 1) t.0.age)) (eq-eqb p p refl), y.3, y.4)

pub distinct_older : (ws : List Garbage) → Distinct ws → Distinct (older_waits ws)
distinct_older [] h = tt
distinct_older (w ∷ ws) h = ((λ v has. let t = has_map (λ (z : Garbage). record z { age = z.age + 1 }) ws v has in λ e. h.0 t.0 t.1 (ap (λ (z : Garbage). z.item) t.2 ∙ e)), distinct_older ws h.1)

pub waits_older_else : (p q : ℕ) (items : List Item) (slot_of : ℕ → ℕ) (w : Garbage) → q ≢ p → IsWaiting items slot_of q w → IsWaiting (map (older p) items) slot_of q w
waits_older_else p q items slot_of w ne y = (older p y.0, at_map (older p) items w.item y.0 y.1, ap (aged p) y.2 ∙ ap (λ b. Retired q (cond b (w.age + 1) w.age)) (ne_eqb q p ne), y.3, y.4)

pub waits_left : (p q : ℕ) (items : List Item) (slot_of : ℕ → ℕ) (w : Garbage) → q ≢ p → IsWaiting items slot_of q w → IsWaiting (map (left_by p) items) slot_of q w
waits_left p q items slot_of w ne y = (left_by p y.0, at_map (left_by p) items w.item y.0 y.1, ap (left p) y.2 ∙ ap (λ b. cond b Waiting (Retired q w.age)) (ne_eqb q p ne), y.3, y.4)

-- what p has retired is due where it settles, and what others have stays
pub waits_settled : (p : ℕ) (items : List Item) (slot_of : ℕ → ℕ) (ws : List Garbage) (w : Garbage) → ((v : Garbage) → Has ws v → IsWaiting items slot_of p v) → Has (settled_waits ws) w → IsWaiting (map (settled_by p) items) slot_of p w
waits_settled p items slot_of ws w all h = let t = has_map (λ (v : Garbage). record v { age = 3 }) ws w h in let y = all t.0 t.1 in
    subst (IsWaiting (map (settled_by p) items) slot_of p) t.2 (settled_by p y.0, at_map (settled_by p) items t.0.item y.0 y.1, ap (settled p) y.2 ∙ ap (λ b. Retired p (cond b 3 t.0.age)) (eq-eqb p p refl), y.3, y.4)

pub distinct_settled : (ws : List Garbage) → Distinct ws → Distinct (settled_waits ws)
distinct_settled [] h = tt
distinct_settled (w ∷ ws) h = ((λ v has. let t = has_map (λ (z : Garbage). record z { age = 3 }) ws v has in λ e. h.0 t.0 t.1 (ap (λ (z : Garbage). z.item) t.2 ∙ e)), distinct_settled ws h.1)

pub waits_settled_else : (p q : ℕ) (items : List Item) (slot_of : ℕ → ℕ) (w : Garbage) → q ≢ p → IsWaiting items slot_of q w → IsWaiting (map (settled_by p) items) slot_of q w
waits_settled_else p q items slot_of w ne y = (settled_by p y.0, at_map (settled_by p) items w.item y.0 y.1, ap (settled p) y.2 ∙ ap (λ b. Retired q (cond b 3 w.age)) (ne_eqb q p ne), y.3, y.4)

pub notes_settled : (p : ℕ) (items : List Item) (slot_of : ℕ → ℕ) (w : Garbage) → IsNoted items slot_of w → IsNoted (map (settled_by p) items) slot_of w
notes_settled p items slot_of w y = (settled_by p y.0, at_map (settled_by p) items w.item y.0 y.1, ap (settled p) y.2, y.3, y.4)

pub left_settled : (p : ℕ) (items : List Item) (slot_of : ℕ → ℕ) (w : Garbage) → IsLeftover items slot_of w → IsLeftover (map (settled_by p) items) slot_of w
left_settled p items slot_of w y = (settled_by p y.0, at_map (settled_by p) items w.item y.0 y.1, ap (settled p) y.2, y.3, y.4)

-- so is what is in private bags
pub notes_older : (p : ℕ) (items : List Item) (slot_of : ℕ → ℕ) (w : Garbage) → IsNoted items slot_of w → IsNoted (map (older p) items) slot_of w
notes_older p items slot_of w y = (older p y.0, at_map (older p) items w.item y.0 y.1, ap (aged p) y.2, y.3, y.4)

pub notes_on : (p : ℕ) (items : List Item) (slot_of : ℕ → ℕ) (w : Garbage) → IsNoted items slot_of w → IsNoted (map (left_by p) items) slot_of w
notes_on p items slot_of w y = (left_by p y.0, at_map (left_by p) items w.item y.0 y.1, ap (left p) y.2, y.3, y.4)

-- what was left is so where participants rotate or end, and what p has retired is left where p ends
pub left_older : (p : ℕ) (items : List Item) (slot_of : ℕ → ℕ) (w : Garbage) → IsLeftover items slot_of w → IsLeftover (map (older p) items) slot_of w
left_older p items slot_of w y = (older p y.0, at_map (older p) items w.item y.0 y.1, ap (aged p) y.2, y.3, y.4)

pub left_on : (p : ℕ) (items : List Item) (slot_of : ℕ → ℕ) (w : Garbage) → IsLeftover items slot_of w → IsLeftover (map (left_by p) items) slot_of w
left_on p items slot_of w y = (left_by p y.0, at_map (left_by p) items w.item y.0 y.1, ap (left p) y.2, y.3, y.4)

pub waits_no_more : (p : ℕ) (items : List Item) (slot_of : ℕ → ℕ) (w : Garbage) → IsWaiting items slot_of p w → IsLeftover (map (left_by p) items) slot_of w
waits_no_more p items slot_of w y = (left_by p y.0, at_map (left_by p) items w.item y.0 y.1, ap (left p) y.2 ∙ ap (λ b. cond b Waiting (Retired p w.age)) (eq-eqb p p refl), y.3, y.4)

-- items change, and those that are left don't
pub still_left : {items items' : List Item} {slot_of slot_of' : ℕ → ℕ} {left : ℕ → List Garbage} → Leftovers items slot_of left → ((w : Garbage) → IsLeftover items slot_of w → IsLeftover items' slot_of' w) → Leftovers items' slot_of' left
still_left l on = record { waits = λ p w h. on w (l.waits p w h); once = l.once; apart = l.apart }

module _ {S : Type 0} {IsIn : Content → S → Type 0} {sizes : Sizes} {state : steps.State} {book : Book} {words : List ℕ} {homes : List (maybe.Option S)} {views : List Acting} (r : Items IsIn sizes state book words homes views) where
  -- the claim word of p is as it was
  pub rests_on : (words' : List ℕ) (p : ℕ) → p < sizes.participants → get_or words' (claim_word p) 0 ≡ get_or words (claim_word p) 0 → get_or words' (claim_word p) 0 ≢ 0 → Rests sizes book words' p
  rests_on words' p low same some_ = let t = r.free p low (λ e. some_ (same ∙ e)) in (t.0, same ∙ t.1, t.2)

  -- the link words stay, and what is in bags is told still
  pub links_all : (words' : List ℕ) (left' : ℕ → List Garbage) (views' : List Acting) → ((k : ℕ) → get_or words' (link_word sizes k) 0 ≡ get_or words (link_word sizes k) 0)
      → ((j : ℕ) (e : Acting) (w : Garbage) → At views' j e → e.kind ≡ 1 → Has e.waits w → IsLinked sizes words w) → ((j : ℕ) (e : Acting) (w : Garbage) → At views' j e → Has e.collected w → IsLinked sizes words w)
      → ((p : ℕ) (w : Garbage) → Has (left' p) w → IsLinked sizes words w) → Links sizes words' left' views'
  links_all words' left' views' same waits notes lefts = let on : (w : Garbage) → IsLinked sizes words w → IsLinked sizes words' w = (λ w h some_. same w.slot ∙ h some_) in record {
    waits = λ j e w at_j k has. on w (waits j e w at_j k has);
    notes = λ j e w at_j has. on w (notes j e w at_j has);
    lefts = λ q w has. on w (lefts q w has);
  }

  -- one view changes
  pub links_at : (words' : List ℕ) (left' : ℕ → List Garbage) (id : ℕ) (d' : Acting) → ((k : ℕ) → get_or words' (link_word sizes k) 0 ≡ get_or words (link_word sizes k) 0)
      → ((w : Garbage) → d'.kind ≡ 1 → Has d'.waits w → IsLinked sizes words w) → ((w : Garbage) → Has d'.collected w → IsLinked sizes words w) → ((p : ℕ) (w : Garbage) → Has (left' p) w → IsLinked sizes words w) → Links sizes words' left' (set views id d')
  links_at words' left' id d' same mine notes lefts = links_all words' left' (set views id d') same
      (λ j e w at_j. set_all (λ _ (e' : Acting). e'.kind ≡ 1 → Has e'.waits w → IsLinked sizes words w) views id d' (mine w) (λ j' e' _ here. r.links.waits j' e' w here) j e at_j)
      (λ j e w at_j. set_all (λ _ (e' : Acting). Has e'.collected w → IsLinked sizes words w) views id d' (notes w) (λ j' e' _ here. r.links.notes j' e' w here) j e at_j)
      lefts

  -- the same where all words behind those of epochs stay
  pub links_set : (words' : List ℕ) (left' : ℕ → List Garbage) (id : ℕ) (d' : Acting) → ((i : ℕ) → epoch_words sizes.participants ≤ i → get_or words' i 0 ≡ get_or words i 0)
      → ((w : Garbage) → d'.kind ≡ 1 → Has d'.waits w → IsLinked sizes words w) → ((w : Garbage) → Has d'.collected w → IsLinked sizes words w) → ((p : ℕ) (w : Garbage) → Has (left' p) w → IsLinked sizes words w) → Links sizes words' left' (set views id d')
  links_set words' left' id d' high = links_at words' left' id d' (λ k. high (link_word sizes k) (omega arith))

  -- the words of items and cells stay, and a participant that is freed rests
  pub record Untouched (words' : List ℕ) : Type 0 where
    pub long : length words' ≡ length words
    pub high : (i : ℕ) → epoch_words sizes.participants ≤ i → get_or words' i 0 ≡ get_or words i 0
    pub freed : (p : ℕ) → p < sizes.participants → get_or words' (claim_word p) 0 ≢ 0 → (get_or words' (claim_word p) 0 ≡ get_or words (claim_word p) 0) ⊎ Rests sizes book words' p

  -- views change, with the same owners in hand
  pub record Seated (views' : List Acting) : Type 0 where
    pub same : (i : ℕ) → owned owners_in_hand i views' ≡ owned owners_in_hand i views
    pub owners : (j : ℕ) (d : Acting) (o : Owner) → At views' j d → Has d.hand o → Owns state.items book.slot_of o
    pub seats : (j : ℕ) (d : Acting) → At views' j d → d.kind ≡ 1 → Carries sizes book d

  -- items, words, views and the items in bags change, and nothing else of the book
  pub record Anew (core : steps.State) (left' : ℕ → List Garbage) (words' : List ℕ) (views' : List Acting) : Type 0 where
    pub cells : core.cells ≡ state.cells
    pub stirred : Stirred state.items core.items
    pub why : (q : ℕ) (l : Lease) → Has (book.out q) l → Why state (Grip views) q l.item → Why core (Grip views') q l.item
    pub long : length words' ≡ length words
    pub high : (i : ℕ) → epoch_words sizes.participants ≤ i → get_or words' i 0 ≡ get_or words i 0
    pub free : (p : ℕ) → p < sizes.participants → get_or words' (claim_word p) 0 ≢ 0 → Rests sizes (record book { left = left' }) words' p
    pub same : (i : ℕ) → owned owners_in_hand i views' ≡ owned owners_in_hand i views
    pub owners : (j : ℕ) (d : Acting) (o : Owner) → At views' j d → Has d.hand o → Owns state.items book.slot_of o
    pub waiting : (j : ℕ) (d : Acting) (w : Garbage) → At views' j d → d.kind ≡ 1 → Has d.waits w → IsWaiting core.items book.slot_of d.number w
    pub leftovers : Leftovers core.items book.slot_of left'
    pub private : Private core.items book.slot_of views'
    pub links : Links sizes words' left' views'
    pub seats : (j : ℕ) (d : Acting) → At views' j d → d.kind ≡ 1 → Carries sizes (record book { left = left' }) d

  pub renewed : (core : steps.State) (left' : ℕ → List Garbage) (words' : List ℕ) (views' : List Acting) → Anew core left' words' views' → Items IsIn sizes core (record book { left = left' }) words' homes views'
  renewed core left' words' views' v = let stir = v.stirred in let m = parts.stays r.parts core.items (Why core (Grip views')) (λ i it at. let t = stir.ahead i it at in (t.0, t.1, t.2.value, t.2.owners)) v.why in
      let y = subst (λ (cs : List Cell). Spares sizes.cells sizes.participants (names_of cs) core.items book) (sym v.cells) (stays_kept r.spares core.items (λ i c _ it' at. let t = stir.back i it' at in (t.0, t.1, t.2.value))) in record {
        parts = record { full_at = m.full_at; partly_at = m.partly_at; vacant_at = m.vacant_at; leases = m.leases; once = m.once };
        spares = record { users = y.users; range = y.range; kept = y.kept };
        lying = r.lying;
        standing = λ i it' at alive. let t = stir.back i it' at in r.standing i t.0 t.1 (λ q e. alive q (t.2.gone q e));
        settled = λ i it' q at e. let t = stir.back i it' at in r.settled i t.0 q t.1 (t.2.due q e);
        many = ap length v.cells ∙ r.many;
        long = v.long ∙ r.long;
        cell_words = λ c o at. let was = r.cell_words c o (subst (λ (cs : List Cell). At (names_of cs) c o) v.cells at) in (was.0, was.1, v.high (cell_word sizes c) (omega arith) ∙ was.2);
        slot_words = λ k i it' lk is at. let t = stir.back i it' at in v.high (slot_word sizes k) (omega arith) ∙ (r.slot_words k i t.0 lk is t.1 ∙ ap (λ z. 2 + z) (sym t.2.owners));
        vacancies = λ k lk none. r.vacancies k lk (sym (v.high (slot_word sizes k) (omega arith)) ∙ none);
        alone = λ c o at. r.alone c o (subst (λ (cs : List Cell). At cs c o) v.cells at);
        free = v.free;
        hands = λ i it' at. let t = stir.back i it' at in t.2.hand ∙ (r.hands i t.0 t.1 ∙ sym (v.same i));
        owners = λ j d o at has. let t = v.owners j d o at has in let u = stir.ahead o.item t.0 t.1 in (u.0, u.1, u.2.value ∙ t.2, t.3);
        given = λ i it' at alive. let t = stir.back i it' at in let g = r.given i t.0 t.1 (λ q e. alive q (t.2.gone q e)) in (g.0 ∙ sym t.2.holds, λ o h. let w = g.1 o h in let u = stir.ahead o.item w.0 w.1 in (u.0, u.1, u.2.value ∙ w.2, w.3));
        waiting = v.waiting;
        leftovers = v.leftovers;
        private = v.private;
        links = v.links;
        seats = v.seats;
      }

  -- the same where bags stay as they are
  pub stays : (core : steps.State) (words' : List ℕ) (views' : List Acting) → core.cells ≡ state.cells → Stirred state.items core.items
      → ((q : ℕ) (l : Lease) → Has (book.out q) l → Why state (Grip views) q l.item → Why core (Grip views') q l.item)
      → Untouched words' → Seated views' → ((j : ℕ) (d : Acting) (w : Garbage) → At views' j d → d.kind ≡ 1 → Has d.waits w → IsWaiting core.items book.slot_of d.number w) → Leftovers core.items book.slot_of book.left → Private core.items book.slot_of views' → Links sizes words' book.left views' → Items IsIn sizes core book words' homes views'
  stays core words' views' same stir why w v waiting leftovers private links = renewed core book.left words' views' (record {
    cells = same;
    stirred = stir;
    why = why;
    long = w.long;
    high = w.high;
    free = λ p low some_. ⊎_elim (λ (z : get_or words' (claim_word p) 0 ≡ get_or words (claim_word p) 0). rests_on words' p low z some_) (λ (z : Rests sizes book words' p). z) (w.freed p low some_);
    same = v.same;
    owners = v.owners;
    waiting = waiting;
    leftovers = leftovers;
    private = private;
    links = links;
    seats = v.seats;
  })

  -- what lies in a slot behind the homes changes, and it is no spare slot of a participant for which nobody acts
  refitted : (y : ℕ) (x : Content) (homes' : List (maybe.Option S)) → Spares sizes.cells sizes.participants (names_of state.cells) state.items (record book { extra = put book.extra y x })
      → ((q : ℕ) → q < sizes.participants → get_or words (claim_word q) 0 ≢ 0 → book.spare (sizes.cells + q) ≢ y) → Lying IsIn (all_homes sizes) (all_spares sizes) book.what (put book.extra y x) homes'
      → Items IsIn sizes state (record book { extra = put book.extra y x }) words homes' views
  refitted y x homes' spares_now apart lies = record {
    parts = record { full_at = r.parts.full_at; partly_at = r.parts.partly_at; vacant_at = r.parts.vacant_at; leases = r.parts.leases; once = r.parts.once };
    spares = spares_now;
    lying = lies;
    standing = r.standing;
    settled = r.settled;
    many = r.many;
    long = r.long;
    cell_words = r.cell_words;
    slot_words = r.slot_words;
    vacancies = r.vacancies;
    alone = r.alone;
    free = λ q lq some_. let t = r.free q lq some_ in (t.0, t.1, put_else book.extra y x (book.spare (sizes.cells + q)) (apart q lq some_) ∙ t.2);
    hands = r.hands;
    owners = r.owners;
    given = r.given;
    waiting = r.waiting;
    leftovers = r.leftovers;
    private = r.private;
    links = r.links;
    seats = λ j d at k. let b = r.seats j d at k in record { sizes_are = b.sizes_are; leases = b.leases; spare = b.spare; fills = b.fills; distinct = b.distinct; left = b.left };
  }

  -- the spare slot of a participant for which somebody acts is out, or back
  pub respared : (p : ℕ) (x : Content) (homes' : List (maybe.Option S)) → p < sizes.participants → get_or words (claim_word p) 0 ≡ 0 → Lying IsIn (all_homes sizes) (all_spares sizes) book.what (put book.extra (book.spare (sizes.cells + p)) x) homes'
      → Items IsIn sizes state (record book { extra = put book.extra (book.spare (sizes.cells + p)) x }) words homes' views
  respared p x homes' low claimed lies = let v = sizes.cells + p in refitted (book.spare v) x homes' (refilled r.spares v x (omega arith) (omega arith))
      (λ q lq some_. let other : q ≢ p = (λ e. some_ (ap (λ z. get_or words (claim_word z) 0) e ∙ claimed)) in
      λ e. let u : sizes.cells + q ≡ v = sym (r.spares.users (sizes.cells + q) (omega arith)) ∙ (ap book.user e ∙ r.spares.users v (omega arith)) in other (omega arith)) lies

  -- one view changes, and what it and the others have retired
  pub waits_set : (items' : List Item) (id : ℕ) (d' : Acting) → ((w : Garbage) → d'.kind ≡ 1 → Has d'.waits w → IsWaiting items' book.slot_of d'.number w) → ((j : ℕ) (e : Acting) (w : Garbage) → j ≢ id → At views j e → e.kind ≡ 1 → Has e.waits w → IsWaiting items' book.slot_of e.number w)
      → (j : ℕ) (e : Acting) (w : Garbage) → At (set views id d') j e → e.kind ≡ 1 → Has e.waits w → IsWaiting items' book.slot_of e.number w
  waits_set items' id d' mine others j e w at_j = set_all (λ _ e'. e'.kind ≡ 1 → Has e'.waits w → IsWaiting items' book.slot_of e'.number w) views id d' (mine w) (λ j' e' ne here. others j' e' w ne here) j e at_j

  -- items stay, and what the seat has retired
  pub waits_stay : (id : ℕ) (d' : Acting) → ((w : Garbage) → d'.kind ≡ 1 → Has d'.waits w → IsWaiting state.items book.slot_of d'.number w) → (j : ℕ) (e : Acting) (w : Garbage) → At (set views id d') j e → e.kind ≡ 1 → Has e.waits w → IsWaiting state.items book.slot_of e.number w
  waits_stay id d' mine = waits_set state.items id d' mine (λ j e w _. r.waiting j e w)

  -- one view changes, with the same owners in hand
  pub seated : (id : ℕ) (d d' : Acting) → At views id d → d'.hand ≡ d.hand → (d'.kind ≡ 1 → Carries sizes book d') → Seated (set views id d')
  seated id d d' at hand carries = record {
    same = λ i. let h = owned_set owners_in_hand i views id d d' at in let e = ap (λ (os : List Owner). steps.times i (items_of os)) hand in omega arith;
    owners = λ j e o at_j has. set_all (λ j' e'. Has e'.hand o → Owns state.items book.slot_of o) views id d' (λ h. r.owners id d o at (subst (λ (os : List Owner). Has os o) hand h)) (λ j' e' _ here h. r.owners j' e' o here h) j e at_j has;
    seats = λ j e at_j k. set_all (λ _ e'. e'.kind ≡ 1 → Carries sizes book e') views id d' carries (λ j' e' _ here k'. r.seats j' e' here k') j e at_j k;
  }

  -- the leases of the participant change for which a view acts
  module _ (ps : List Participant) (out' : ℕ → List Lease) (what' : ℕ → Content) (words' : List ℕ) (homes' : List (maybe.Option S)) (id : ℕ) (d d' : Acting) where
    abbrev pub core_of : steps.State
    core_of = record state { participants = ps }

    abbrev pub book_of : Book
    book_of = record book { out = out'; what = what' }

    pub record Leases : Type 0 where
      pub parts : Parts sizes.participants sizes.slots state.items (Why core_of (Grip (set views id d'))) book_of
      pub lying : Lying IsIn (all_homes sizes) (all_spares sizes) what' book.extra homes'
      pub mine : out' d.number ≡ d'.leases
      pub others : (q : ℕ) → q ≢ d.number → out' q ≡ book.out q
      pub same : d' ≡ record d { known = d'.known; leases = d'.leases; releasing = d'.releasing }
      pub written : Untouched words'
      pub claimed : get_or words' (claim_word d.number) 0 ≡ 0
      pub apart : (j : ℕ) (e : Acting) → j ≢ id → At views j e → e.kind ≡ 1 → e.number ≢ d.number

    pub leased : At views id d → d.kind ≡ 1 → Leases → Items IsIn sizes core_of book_of words' homes' (set views id d')
    leased at kind l = let c = r.seats id d at kind in let hand = ap (λ (z : Acting). z.hand) l.same in let w = l.written in record {
      parts = l.parts;
      spares = record { users = r.spares.users; range = r.spares.range; kept = r.spares.kept };
      lying = l.lying;
      standing = r.standing;
      settled = r.settled;
      many = r.many;
      long = w.long ∙ r.long;
      cell_words = λ k o at_k. let was = r.cell_words k o at_k in (was.0, was.1, w.high (cell_word sizes k) (omega arith) ∙ was.2);
      slot_words = λ k i it lk is at_i. w.high (slot_word sizes k) (omega arith) ∙ r.slot_words k i it lk is at_i;
      vacancies = λ k lk none. r.vacancies k lk (sym (w.high (slot_word sizes k) (omega arith)) ∙ none);
      alone = r.alone;
      free = λ p low some_. let t = ⊎_elim (λ (z : get_or words' (claim_word p) 0 ≡ get_or words (claim_word p) 0). rests_on words' p low z some_) (λ (z : Rests sizes book words' p). z) (w.freed p low some_) in
          (l.others p (λ e. some_ (ap (λ z. get_or words' (claim_word z) 0) e ∙ l.claimed)) ∙ t.0, t.1, t.2);
      hands = λ i it at_i. let h = owned_set owners_in_hand i views id d d' at in let e = ap (λ (os : List Owner). steps.times i (items_of os)) hand in let g = r.hands i it at_i in omega arith;
      owners = λ j e o at_j has. set_all (λ j' e'. Has e'.hand o → Owns state.items book.slot_of o) views id d' (λ h. r.owners id d o at (subst (λ (os : List Owner). Has os o) hand h)) (λ j' e' _ here h. r.owners j' e' o here h) j e at_j has;
      given = r.given;
      waiting = waits_stay id d' (λ w k has. subst (λ (z : Acting). Has z.waits w → IsWaiting state.items book.slot_of z.number w) (sym l.same) (r.waiting id d w at kind) has);
      leftovers = r.leftovers;
      private = private_set r.private (λ _ h. h) id d d' at (ap (λ (z : Acting). z.collected) l.same);
      links = links_set words' book.left id d' w.high (λ v k has. subst (λ (z : Acting). Has z.waits v → IsLinked sizes words v) (sym l.same) (λ h. r.links.waits id d v at kind h) has)
          (λ v has. r.links.notes id d v at (subst (λ (ws : List Garbage). Has ws v) (ap (λ (z : Acting). z.collected) l.same) has)) r.links.lefts;
      seats = λ j e at_j k. set_all (λ _ e'. e'.kind ≡ 1 → Carries sizes book_of e') views id d'
          (λ _. record { sizes_are = ap (λ (z : Acting). z.sizes) l.same ∙ c.sizes_are; leases = ap (λ (z : Acting). out' z.number) l.same ∙ l.mine; spare = ap (λ (z : Acting). book.spare (sizes.cells + z.number)) l.same ∙ (c.spare ∙ sym (ap (λ (z : Acting). z.spare) l.same)); fills = subst (IsFilling sizes book_of) (sym l.same) c.fills; distinct = subst (λ (z : Acting). Distinct z.waits) (sym l.same) c.distinct; left = λ one. ap (λ (z : Acting). book.left z.number) l.same ∙ c.left (sym (ap (λ (z : Acting). z.left) l.same) ∙ one) })
          (λ j' e' other here k'. let x = r.seats j' e' here k' in record { sizes_are = x.sizes_are; leases = l.others e'.number (l.apart j' e' other here k') ∙ x.leases; spare = x.spare; fills = x.fills; distinct = x.distinct; left = x.left }) j e at_j k;
    }
