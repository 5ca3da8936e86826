-- a step that changes one participant, or items and cells alone, keeps what is known of guards and ages
use Rattle.std.proofs.Common.{◌≡◌, ◌≢◌, ◌⊎◌, ℕ, ◌+◌, ◌<◌, ◌≤◌, List, length, map, get_or, set, sym, refl, ap, ◌∙◌, subst, ⊎_elim, arith}
use Rattle.sdd_steps.specs.declared.participant.Phase.TheVariants.{Idle, HasRead, Opened}
use Rattle.sdd_steps.specs.declared.item.ItemState.TheVariants.{Retired, Collected}
use Rattle.sdd_steps.specs.declared.participant.Seen.{Seen}
use Rattle.sdd_steps.specs.declared.participant.Loaded.{Loaded}
use Rattle.sdd_steps.specs.declared.participant.Participant.{Participant}
use Rattle.sdd_steps.specs.declared.item.Item.{Item}
use Rattle.sdd_steps.specs.declared.item.Cell.{Cell}
use Rattle.sdd_steps.specs.State.{State, At, Has, no_item, with_participant}
use Rattle.sdd_steps.specs.Steps.{seen}
use Rattle.sdd_steps.specs.Invariant.{Guarded, Ageing, Same, Standing, Facts}
use Rattle.sdd_steps.proofs.ListLemmas.{put, put_here, put_else, put_at_most, set_all, each_set, find_at, get_at, map_alike, same_at}

abbrev as_seen : ℕ → ℕ → Seen
as_seen m v = record { item = m; value = v }

-- a loaded item as one item list shows it
abbrev pub Shows : List Item → (since : ℕ → ℕ) → ℕ → Loaded → Type 0
Shows items since born h = (it : Item) × At items h.item it × Same items h it × Standing born (since h.item) it.state

-- participant p becomes x', published at the count b
pub participant_step : (s : State) (born since : ℕ → ℕ) (f : Facts s born since) (p : ℕ) (x x' : Participant) (b : ℕ) → At s.participants p x
    → Guarded s.count b x'.found x'.phase x'.reread
    → ((e : ℕ) → x'.phase ≡ Opened e → (b ≡ s.count) ⊎ ((x.phase ≡ Opened e) × (b ≡ born p)))
    → ((r : ℕ) (y : Participant) (e : ℕ) → x'.phase ≡ Opened s.count → Has x'.looked r → r ≢ p → At s.participants r y → y.phase ≡ Opened e → s.count ≤ born r)
    → ((i : ℕ) (it : Item) (a : ℕ) → At s.items i it → it.state ≡ Retired p a → Ageing (since i) a x'.found x'.phase)
    → ((e : ℕ) (h : Loaded) → x'.phase ≡ Opened e → Has x'.loaded h → Shows s.items since b h)
    → ((q : ℕ) → x'.phase ≡ Idle → ¬ Has x'.looked q)
    → ((q : ℕ) (y : Participant) (n e : ℕ) (h : Loaded) (it : Item) (a : ℕ) → x'.phase ≡ HasRead n → Has x'.looked q → q ≢ p → At s.participants q y → y.phase ≡ Opened e → Has y.loaded h → At s.items h.item it → it.state ≢ Retired p a)
    → ((e : ℕ) (h : Loaded) (it : Item) → x'.phase ≡ Opened e → Has x'.loaded h → At s.items h.item it → ((x.phase ≡ Opened e) × Has x.loaded h) ⊎ ((r a : ℕ) → it.state ≢ Retired r a))
    → Facts (with_participant s p x') (put born p b) since
participant_step s born since f p x x' b at guard again looks ageing kept calm quiet loads = record {
  fits = f.fits;
  dated = f.dated;
  guards = set_all (λ q y. Guarded s.count (put born p b q) y.found y.phase y.reread) s.participants p x' (subst (λ z. Guarded s.count z x'.found x'.phase x'.reread) (sym (put_here born p b)) guard)
      (λ q y other here. subst (λ z. Guarded s.count z y.found y.phase y.reread) (sym (put_else born p b q other)) (f.guards q y here));
  looks = λ q z r y e at_q is_q has at_r is_r. set_all (λ q' z'. z'.phase ≡ Opened s.count → Has z'.looked r → s.count ≤ put born p b r) s.participants p x'
      (λ is' has'. set_all (λ r' y'. y'.phase ≡ Opened e → Has x'.looked r' → s.count ≤ put born p b r') s.participants p x'
      (λ _ _. let h = put_here born p b in let g = guard.inside s.count is' in let g1 = g.1 in omega arith)
      (λ r' y' other here is'' has''. let h = put_else born p b r' other in let l = looks r' y' e is' has'' other here is'' in omega arith) r y at_r is_r has')
      (λ q' z' apart there is' has'. set_all (λ r' y'. y'.phase ≡ Opened e → Has z'.looked r' → s.count ≤ put born p b r') s.participants p x'
      (λ is'' has''. let h = put_here born p b in ⊎_elim (λ (t : b ≡ s.count). omega arith)
      (λ (t : (x.phase ≡ Opened e) × (b ≡ born p)). let l = f.looks q' z' p x e there is' has'' at t.0 in let t1 = t.1 in omega arith) (again e is''))
      (λ r' y' other here is'' has''. let h = put_else born p b r' other in let l = f.looks q' z' r' y' e there is' has'' here is'' in omega arith) r y at_r is_r has')
      q z at_q is_q has;
  ageing = λ i it r a y at_i is at_r. set_all (λ r' y'. it.state ≡ Retired r' a → Ageing (since i) a y'.found y'.phase) s.participants p x'
      (λ is'. ageing i it a at_i is') (λ r' y' other here is'. f.ageing i it r' a y' at_i is' here) r y at_r is;
  noted = f.noted;
  kept = λ q y e h at_q is has. set_all (λ q' y'. y'.phase ≡ Opened e → Has y'.loaded h → Shows s.items since (put born p b q') h) s.participants p x'
      (λ is' has'. let t = kept e h is' has' in (t.0, t.1, t.2, subst (λ z. Standing z (since h.item) t.0.state) (sym (put_here born p b)) t.3))
      (λ q' y' other here is' has'. let t = f.kept q' y' e h here is' has' in (t.0, t.1, t.2, subst (λ z. Standing z (since h.item) t.0.state) (sym (put_else born p b q' other)) t.3))
      q y at_q is has;
  calm = λ q y r at_q. set_all (λ _ y'. y'.phase ≡ Idle → ¬ Has y'.looked r) s.participants p x' (calm r) (λ q' y' _ here. f.calm q' y' r here) q y at_q;
  quiet = λ q r z y n e h it a at_q is_q has at_r is_r has_h at_i. set_all (λ q' z'. z'.phase ≡ HasRead n → Has z'.looked r → it.state ≢ Retired q' a) s.participants p x'
      (λ is' has'. set_all (λ r' y'. y'.phase ≡ Opened e → Has y'.loaded h → Has x'.looked r' → it.state ≢ Retired p a) s.participants p x'
      (λ is'' _ _. let bad : HasRead n ≡ Opened e = sym is' ∙ is'' in absurd (cc))
      (λ r' y' other here is'' has_h' has''. quiet r' y' n e h it a is' has'' other here is'' has_h' at_i) r y at_r is_r has_h has')
      (λ q' z' apart there is' has'. set_all (λ r' y'. y'.phase ≡ Opened e → Has y'.loaded h → Has z'.looked r' → it.state ≢ Retired q' a) s.participants p x'
      (λ is'' has_h' has''. ⊎_elim (λ (t : (x.phase ≡ Opened e) × Has x.loaded h). f.quiet q' p z' x n e h it a there is' has'' at t.0 t.1 at_i) (λ (t : (r a : ℕ) → it.state ≢ Retired r a). t q' a) (loads e h it is'' has_h' at_i))
      (λ r' y' other here is'' has_h' has''. f.quiet q' r' z' y' n e h it a there is' has'' here is'' has_h' at_i) r y at_r is_r has_h has')
      q z at_q is_q has;
}

-- cells alone change
pub cells_step : (s : State) (cells' : List Cell) (born since : ℕ → ℕ) → Facts s born since → Facts (record s { cells = cells' }) born since
cells_step s cells' born since f = record { fits = f.fits; dated = f.dated; guards = f.guards; looks = f.looks; ageing = f.ageing; noted = f.noted; kept = f.kept; calm = f.calm; quiet = f.quiet }

-- what an item may become: its value stays, and so does what it holds, and it still stands, where it stood for an open guard
pub record Becomes (count n n' : ℕ) (it it' : Item) : Type 0 where
  pub value : it'.value ≡ it.value
  pub holds : (b : ℕ) → Standing b n it.state → it'.holds ≡ it.holds
  pub stands : (b : ℕ) → b ≤ count → count ≤ b + 1 → Standing b n it.state → Standing b n' it'.state

-- what an item holds is there
abbrev pub Holding : List Item → Type 0
Holding items = (j : ℕ) (w : Item) (i : ℕ) → At items j w → Has w.holds i → i < length items

-- items and cells change, and what open guards have loaded stands still
pub items_stand : (s : State) (born since since' : ℕ → ℕ) (holding : Holding s.items) (f : Facts s born since) (items' : List Item) (cells' : List Cell)
    → ((k : ℕ) (it : Item) → At s.items k it → (it' : Item) × At items' k it' × (it'.value ≡ it.value))
    → ((p : ℕ) (x : Participant) (e : ℕ) (h : Loaded) (it it' : Item) → At s.participants p x → x.phase ≡ Opened e → Has x.loaded h → At s.items h.item it → At items' h.item it' → Standing (born p) (since h.item) it.state → (it'.holds ≡ it.holds) × Standing (born p) (since' h.item) it'.state)
    → ((i : ℕ) → since' i ≤ s.count)
    → ((i : ℕ) (it : Item) (r a : ℕ) (x : Participant) → At items' i it → it.state ≡ Retired r a → At s.participants r x → Ageing (since' i) a x.found x.phase)
    → ((i : ℕ) (it : Item) (n : ℕ) → At items' i it → it.state ≡ Collected n → (since' i ≤ n + 1) × (n ≤ s.count))
    → ((i : ℕ) (it : Item) (p a n : ℕ) (x : Participant) → At items' i it → it.state ≡ Retired p a → At s.participants p x → x.phase ≡ HasRead n → (z : Item) × (b : ℕ) × At s.items i z × (z.state ≡ Retired p b))
    → Facts (record s { cells = cells'; items = items' }) born since'
items_stand s born since since' holding f items' cells' each stands dated ageing noted fresh = record {
  fits = f.fits;
  dated = dated;
  guards = f.guards;
  looks = f.looks;
  ageing = ageing;
  noted = noted;
  kept = λ p x e h at_p is has. let t = f.kept p x e h at_p is has in let u = each h.item t.0 t.1 in let same = t.2 in let b = stands p x e h t.0 u.0 at_p is has t.1 u.1 t.3 in
      let alike : (m : ℕ) → Has t.0.holds m → seen items' m ≡ seen s.items m = (λ m inside. let z = find_at s.items m (holding h.item t.0 m t.1 inside) in let z' = each m z.0 z.1 in
      let new : (get_or items' m no_item).value ≡ z'.0.value = ap (λ (w : Item). w.value) (get_at items' m no_item z'.0 z'.1) in
      let old : (get_or s.items m no_item).value ≡ z.0.value = ap (λ (w : Item). w.value) (get_at s.items m no_item z.0 z.1) in
      ap (as_seen m) (new ∙ (z'.2 ∙ sym old))) in
      (u.0, u.1, record { value = u.2 ∙ same.value; holds = ap (map (seen items')) b.0 ∙ (map_alike (seen items') (seen s.items) t.0.holds alike ∙ same.holds) }, b.1);
  calm = f.calm;
  quiet = λ p q x y n e h it a at_p is has at_q is_q has_h at_i retired. let o = fresh h.item it p a n x at_i retired at_p is in f.quiet p q x y n e h o.0 o.1 at_p is has at_q is_q has_h o.2 o.3;
}

-- the same where each item may become so
pub items_step : (s : State) (born since since' : ℕ → ℕ) (holding : Holding s.items) (f : Facts s born since) (items' : List Item) (cells' : List Cell)
    → ((k : ℕ) (it : Item) → At s.items k it → (it' : Item) × At items' k it' × Becomes s.count (since k) (since' k) it it')
    → ((i : ℕ) → since' i ≤ s.count)
    → ((i : ℕ) (it : Item) (r a : ℕ) (x : Participant) → At items' i it → it.state ≡ Retired r a → At s.participants r x → Ageing (since' i) a x.found x.phase)
    → ((i : ℕ) (it : Item) (n : ℕ) → At items' i it → it.state ≡ Collected n → (since' i ≤ n + 1) × (n ≤ s.count))
    → ((i : ℕ) (it : Item) (p a n : ℕ) (x : Participant) → At items' i it → it.state ≡ Retired p a → At s.participants p x → x.phase ≡ HasRead n → (z : Item) × (b : ℕ) × At s.items i z × (z.state ≡ Retired p b))
    → Facts (record s { cells = cells'; items = items' }) born since'
items_step s born since since' holding f items' cells' each dated ageing noted fresh = items_stand s born since since' holding f items' cells'
    (λ k it at. let u = each k it at in (u.0, u.1, u.2.value))
    (λ p x e h it it' at_p is has at_i at_i' st. let u = each h.item it at_i in let same : u.0 ≡ it' = same_at items' h.item u.0 it' u.1 at_i' in let g = (f.guards p x at_p).inside e is in let b = u.2 in
    (ap (λ (z : Item). z.holds) (sym same) ∙ b.holds (born p) st, subst (λ (z : Item). Standing (born p) (since' h.item) z.state) same (b.stands (born p) g.2 g.3 st)))
    dated ageing noted fresh

module _ (s : State) (born since : ℕ → ℕ) (holding : Holding s.items) (f : Facts s born since) where
  -- one item changes, and the count of its retirement becomes n
  pub item_step : (i : ℕ) (it it' : Item) (cells' : List Cell) (n : ℕ) → At s.items i it → Becomes s.count (since i) n it it' → n ≤ s.count
      → ((r a : ℕ) (y : Participant) → it'.state ≡ Retired r a → At s.participants r y → Ageing n a y.found y.phase)
      → ((m : ℕ) → it'.state ≡ Collected m → (n ≤ m + 1) × (m ≤ s.count))
      → ((p a m : ℕ) (x : Participant) → it'.state ≡ Retired p a → At s.participants p x → x.phase ≡ HasRead m → (b : ℕ) × (it.state ≡ Retired p b))
      → Facts (record s { cells = cells'; items = set s.items i it' }) born (put since i n)
  item_step i it it' cells' n at becomes dated ageing noted fresh = items_step s born since (put since i n) holding f (set s.items i it') cells'
      (each_set (λ j z z'. Becomes s.count (since j) (put since i n j) z z') s.items i it it' at (subst (λ m. Becomes s.count (since i) m it it') (sym (put_here since i n)) becomes)
      (λ j z other _. subst (λ m. Becomes s.count (since j) m z z) (sym (put_else since i n j other)) (record { value = refl; holds = λ _ _. refl; stands = λ _ _ _ st. st })))
      (put_at_most since i n s.count dated f.dated)
      (λ j z r a y at_j is at_r. set_all (λ j' z'. z'.state ≡ Retired r a → Ageing (put since i n j') a y.found y.phase) s.items i it'
      (λ is'. subst (λ k. Ageing k a y.found y.phase) (sym (put_here since i n)) (ageing r a y is' at_r))
      (λ j' z' other here is'. subst (λ k. Ageing k a y.found y.phase) (sym (put_else since i n j' other)) (f.ageing j' z' r a y here is' at_r)) j z at_j is)
      (λ j z m at_j is. set_all (λ j' z'. z'.state ≡ Collected m → (put since i n j' ≤ m + 1) × (m ≤ s.count)) s.items i it'
      (λ is'. let t = noted m is' in (subst (λ k. k ≤ m + 1) (sym (put_here since i n)) t.0, t.1))
      (λ j' z' other here is'. let t = f.noted j' z' m here is' in (subst (λ k. k ≤ m + 1) (sym (put_else since i n j' other)) t.0, t.1)) j z at_j is)
      (λ j z p a m x at_j is at_p reads. set_all (λ j' z'. z'.state ≡ Retired p a → (w : Item) × (b : ℕ) × At s.items j' w × (w.state ≡ Retired p b)) s.items i it'
      (λ is'. let t = fresh p a m x is' at_p reads in (it, t.0, at, t.1)) (λ j' z' other here is'. (z', a, here, is')) j z at_j is)

  -- one item changes, but not its state
  pub same_state : (i : ℕ) (it it' : Item) (cells' : List Cell) → At s.items i it → it'.value ≡ it.value → it'.state ≡ it.state → ((b : ℕ) → Standing b (since i) it.state → it'.holds ≡ it.holds)
      → Facts (record s { cells = cells'; items = set s.items i it' }) born (put since i (since i))
  same_state i it it' cells' at value state holds = item_step i it it' cells' (since i) at (record { value = value; holds = holds; stands = λ b _ _ st. subst (Standing b (since i)) (sym state) st }) (f.dated i)
      (λ r a y is at_r. f.ageing i it r a y at (sym state ∙ is) at_r) (λ m is. f.noted i it m at (sym state ∙ is)) (λ p a m x is _ _. (a, sym state ∙ is))
