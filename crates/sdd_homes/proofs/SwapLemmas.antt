-- a swap of a cell moves owners between hand and cell, and changes nothing else of items
use Rattle.std.proofs.Common.{◌≡◌, ℕ, zero, suc, ◌+◌, sym, refl, ap, ◌∙◌, subst, arith, List, [], ◌∷◌, set, length, get_or, Option, None, Some, length-set}
use mathlib.Core.Logic.{dite}
use mathlib.Core.Option.{some-injective}
use native.Mathlib.Decide.{ℕ_discrete}
use Rattle.sdd_steps.specs.declared.item.Item.{Item}
use Rattle.sdd_steps.specs.declared.item.Cell.{Cell}
use Rattle.sdd_steps.specs.State.{State, At, item_at, cell_at, no_item, empty_cell, times}
use Rattle.sdd_steps.specs.Steps.{handed, unhanded, emptied, filled}
use Rattle.sdd_steps.specs.Invariant.{Inv, names_of, uses, points, held}
use Rattle.sdd_steps.proofs.ListLemmas.{same_at, set_here, set_else, at_inside, get_at, find_at, set_all, read_or}
use Rattle.sdd_steps.proofs.CountLemmas.{uses_set, names_set}
use Rattle.sdd_homes.proofs.PartLemmas.{Alike}

names_again : (cells : List Cell) (c : ℕ) → (get_or cells c empty_cell).names ≡ None → set (names_of cells) c None ≡ names_of cells
names_again [] c e = refl
names_again (x ∷ l) zero e = λ k. sym e k ∷ names_of l
names_again (x ∷ l) (suc c) e = ap (λ m. x.names ∷ m) (names_again l c e)

pub set_twice : {A : Type 0} (l : List A) (i : ℕ) (a b : A) → set (set l i a) i b ≡ set l i b
set_twice [] i a b = refl
set_twice (x ∷ l) zero a b = refl
set_twice (x ∷ l) (suc i) a b = ap (λ m. x ∷ m) (set_twice l i a b)

names_emptied : (s : State) (c : ℕ) (o : Option ℕ) → (cell_at s c).names ≡ o → names_of (emptied s c o).cells ≡ set (names_of s.cells) c None
names_emptied s c None e = sym (names_again s.cells c e)
names_emptied s c (Some j) e = names_set s.cells c (record (cell_at s c) { names = None })

names_filled : (s : State) (c : ℕ) (o : Option ℕ) (l : List (Option ℕ)) → names_of s.cells ≡ set l c None → names_of (filled s c o).cells ≡ set l c o
names_filled s c None l e = e
names_filled s c (Some j) l e = names_set s.cells c (record (cell_at s c) { names = Some j }) ∙ (ap (λ m. set m c (Some j)) e ∙ set_twice l c None (Some j))

pub names_swapped : (s : State) (c : ℕ) (new : Option ℕ) → names_of (filled (emptied s c (cell_at s c).names) c new).cells ≡ set (names_of s.cells) c new
names_swapped s c new = names_filled (emptied s c (cell_at s c).names) c new (names_of s.cells) (names_emptied s c (cell_at s c).names refl)

-- but for the hand the same
abbrev pub Handy : List Item → List Item → Type 0
Handy a b = (i : ℕ) (it : Item) → At a i it → (it' : Item) × At b i it' × (it' ≡ record it { hand = it'.hand })

pub handy_alike : (a b : List Item) → Handy a b → (i : ℕ) → Alike a b i
handy_alike a b h i it at = let t = h i it at in (t.0, t.1, ap (λ (z : Item). z.value) t.2, ap (λ (z : Item). z.owners) t.2)

handy_trans : (a b c : List Item) → Handy a b → Handy b c → Handy a c
handy_trans a b c f g i it at = let t = f i it at in let u = g i t.0 t.1 in (u.0, u.1, u.2 ∙ ap (λ (z : Item). record z { hand = u.0.hand }) t.2)

handy_set : (items : List Item) (j h : ℕ) → Handy items (set items j (record (get_or items j no_item) { hand = h }))
handy_set items j h i it at = let w : Item = record (get_or items j no_item) { hand = h } in dite (ℕ_discrete i j)
    (λ e. let at_j : At items j it = subst (λ z. At items z it) e at in let is = get_at items j no_item it at_j in
    (w, subst (λ z. At (set items j w) z w) (sym e) (set_here items j w it at_j), ap (λ (z : Item). record z { hand = h }) is))
    (λ ne. (it, set_else items j i w ne ∙ at, refl))

handy_emptied : (s : State) (c : ℕ) (o : Option ℕ) → Handy s.items (emptied s c o).items
handy_emptied s c None = λ i it at. (it, at, refl)
handy_emptied s c (Some j) = handy_set s.items j (handed (item_at s j)).hand

handy_filled : (s : State) (c : ℕ) (o : Option ℕ) → Handy s.items (filled s c o).items
handy_filled s c None = λ i it at. (it, at, refl)
handy_filled s c (Some j) = handy_set s.items j (unhanded (item_at s j)).hand

pub handy_swapped : (s : State) (c : ℕ) (new : Option ℕ) → Handy s.items (filled (emptied s c (cell_at s c).names) c new).items
handy_swapped s c new = let t = emptied s c (cell_at s c).names in handy_trans s.items t.items (filled t c new).items (handy_emptied s c (cell_at s c).names) (handy_filled t c new)

long_emptied : (s : State) (c : ℕ) (o : Option ℕ) → (length (emptied s c o).items ≡ length s.items) × (length (emptied s c o).cells ≡ length s.cells) × ((emptied s c o).participants ≡ s.participants)
long_emptied s c None = (refl, refl, refl)
long_emptied s c (Some j) = (length-set s.items j (handed (item_at s j)), length-set s.cells c (record (cell_at s c) { names = None }), refl)

long_filled : (s : State) (c : ℕ) (o : Option ℕ) → (length (filled s c o).items ≡ length s.items) × (length (filled s c o).cells ≡ length s.cells) × ((filled s c o).participants ≡ s.participants)
long_filled s c None = (refl, refl, refl)
long_filled s c (Some j) = (length-set s.items j (unhanded (item_at s j)), length-set s.cells c (record (cell_at s c) { names = Some j }), refl)

pub long_swapped : (s : State) (c : ℕ) (new : Option ℕ) → let t = filled (emptied s c (cell_at s c).names) c new in (length t.items ≡ length s.items) × (length t.cells ≡ length s.cells) × (t.participants ≡ s.participants)
long_swapped s c new = let m = emptied s c (cell_at s c).names in let a = long_emptied s c (cell_at s c).names in let b = long_filled m c new in (b.0 ∙ a.0, b.1 ∙ a.1, b.2 ∙ a.2)

-- cells that stand by themselves go on so
abbrev Alone : List Cell → Type 0
Alone cells = (c : ℕ) (o : Cell) → At cells c o → o.holder ≡ None

alone_set : (cells : List Cell) (c : ℕ) (n : Option ℕ) → Alone cells → Alone (set cells c (record (get_or cells c empty_cell) { names = n }))
alone_set cells c n all = set_all (λ _ o. o.holder ≡ None) cells c (record (get_or cells c empty_cell) { names = n }) (read_or (λ (o : Cell). o.holder ≡ None) cells c empty_cell refl (λ o at. all c o at)) (λ q o _ at. all q o at)

alone_emptied : (s : State) (c : ℕ) (o : Option ℕ) → Alone s.cells → Alone (emptied s c o).cells
alone_emptied s c None = λ h. h
alone_emptied s c (Some j) = alone_set s.cells c None

alone_filled : (s : State) (c : ℕ) (o : Option ℕ) → Alone s.cells → Alone (filled s c o).cells
alone_filled s c None = λ h. h
alone_filled s c (Some j) = alone_set s.cells c (Some j)

pub alone_swapped : (s : State) (c : ℕ) (new : Option ℕ) → Alone s.cells → Alone (filled (emptied s c (cell_at s c).names) c new).cells
alone_swapped s c new h = let t = emptied s c (cell_at s c).names in alone_filled t c new (alone_emptied s c (cell_at s c).names h)

pub handy_back : (a b : List Item) → length b ≡ length a → Handy a b → (i : ℕ) (it' : Item) → At b i it' → (it : Item) × At a i it × (it' ≡ record it { hand = it'.hand })
handy_back a b same h i it' at = let l = at_inside b i it' at in let t = find_at a i (omega arith) in let u = h i t.0 t.1 in let e = same_at b i u.0 it' u.1 at in
    (t.0, t.1, sym e ∙ (u.2 ∙ ap (λ (z : Item). record t.0 { hand = z.hand }) e))

-- what items hold isn't changed
held_handy : (i : ℕ) (a b : List Item) → length b ≡ length a → Handy a b → held i b ≡ held i a
held_handy i [] [] same h = refl
held_handy i [] (y ∷ b) same h = absurd (omega arith)
held_handy i (x ∷ a) [] same h = absurd (omega arith)
held_handy i (x ∷ a) (y ∷ b) same h = let t = h 0 x refl in let e : times i y.holds ≡ times i x.holds = ap (λ (z : Item). times i z.holds) (some-injective y t.0 t.1 ∙ t.2) in
    let rec = held_handy i a b (omega arith) (λ j. h (suc j)) in omega arith

-- the hand follows from the owners, which are counted
pub hand_swapped : (s : State) (c : ℕ) (old new : Option ℕ) → let t = filled (emptied s c (cell_at s c).names) c new in Inv s → Inv t → At (names_of s.cells) c old
    → (i : ℕ) (it it' : Item) → At s.items i it → At t.items i it' → it'.hand + points i new ≡ it.hand + points i old
hand_swapped s c old new k k' at i it it' here here' = let t = filled (emptied s c (cell_at s c).names) c new in let a = (k.0.owned i it here).counted in let b = (k'.0.owned i it' here').counted in
    let n = ap (uses i) (names_swapped s c new) in let u = uses_set i (names_of s.cells) c old new at in let l = long_swapped s c new in let h = held_handy i s.items t.items l.0 (handy_swapped s c new) in
    let back = handy_back s.items t.items l.0 (handy_swapped s c new) i it' here' in let same : it'.owners ≡ it.owners = ap (λ (z : Item). z.owners) back.2 ∙ ap (λ (z : Item). z.owners) (same_at s.items i back.0 it back.1 here) in omega arith
