-- a swap of a cell exchanges the spare slots of the cell and of the participant
use Rattle.std.proofs.Common.{◌≡◌, ◌≢◌, ℕ, ◌+◌, ◌<◌, ◌≤◌, sym, refl, ap, ◌∙◌, subst, ⊎_elim, arith, List, set, Option, None, Some}
use mathlib.Core.Logic.{dite}
use native.Mathlib.Decide.{ℕ_discrete}
use Rattle.sdd_steps.specs.declared.item.Item.{Item}
use Rattle.sdd_steps.specs.State.{At}
use Rattle.sdd_steps.proofs.ListLemmas.{at_set, put, put_here, put_else, put_all}
use Rattle.sdd_homes.specs.Book.{Content, away, part, Book}
use Rattle.sdd_homes.specs.Spares.{IsKept, Spares}

-- an item that is there now was there before with the same value
abbrev pub Was : List Item → List Item → ℕ → Type 0
Was items items' i = (it' : Item) → At items' i it' → (it : Item) × At items i it × (it'.value ≡ it.value)

kept_on : (items items' : List Item) (o : Option ℕ) (x : Content) → ((i : ℕ) → o ≡ Some i → Was items items' i) → IsKept items o x → IsKept items' o x
kept_on items items' None x was is = is
kept_on items items' (Some i) x was is = λ it' at. let w = was i refl it' at in is w.0 w.1 ∙ ap (λ z. part z 1) (sym w.2)

-- the cell c and the user v have each other's spare slots; what v brought lies there, and what was in the cell's is out
abbrev pub exchanged : Book → ℕ → ℕ → Content → Book
exchanged book c v x = record book {
  spare = put (put book.spare c (book.spare v)) v (book.spare c);
  user = put (put book.user (book.spare v) c) (book.spare c) v;
  extra = put (put book.extra (book.spare v) x) (book.spare c) away;
}

module _ {cells n : ℕ} {names : List (Option ℕ)} {items : List Item} {book : Book} (r : Spares cells n names items book) where
  differ : (u v : ℕ) → u < cells + n → v < cells + n → u ≢ v → book.spare u ≢ book.spare v
  differ u v lu lv ne e = ne (sym (r.users u lu) ∙ (ap book.user e ∙ r.users v lv))

  module _ (c v : ℕ) (x : Content) (lc : c < cells) (lv : v < cells + n) (ne : c ≢ v) where
    abbrev now : Book
    now = exchanged book c v x

    inside : c < cells + n
    inside = omega arith

    apart : book.spare c ≢ book.spare v
    apart = differ c v inside lv ne

    pub spare_of_user : now.spare v ≡ book.spare c
    spare_of_user = put_here (put book.spare c (book.spare v)) v (book.spare c)

    pub spare_of_cell : now.spare c ≡ book.spare v
    spare_of_cell = put_else (put book.spare c (book.spare v)) v (book.spare c) c ne ∙ put_here book.spare c (book.spare v)

    pub spare_of_others : (u : ℕ) → u ≢ c → u ≢ v → now.spare u ≡ book.spare u
    spare_of_others u nc nv = put_else (put book.spare c (book.spare v)) v (book.spare c) u nv ∙ put_else book.spare c (book.spare v) u nc

    user_of_cell : now.user (book.spare v) ≡ c
    user_of_cell = put_else (put book.user (book.spare v) c) (book.spare c) v (book.spare v) (λ e. apart (sym e)) ∙ put_here book.user (book.spare v) c

    user_of_others : (u : ℕ) → u < cells + n → u ≢ c → u ≢ v → now.user (book.spare u) ≡ u
    user_of_others u lu nc nv = put_else (put book.user (book.spare v) c) (book.spare c) v (book.spare u) (differ u c lu inside nc) ∙ (put_else book.user (book.spare v) c (book.spare u) (differ u v lu lv nv) ∙ r.users u lu)

    users_now : (u : ℕ) → u < cells + n → now.user (now.spare u) ≡ u
    users_now u lu = dite (ℕ_discrete u v) (λ e. ap now.user (ap now.spare e ∙ spare_of_user) ∙ (put_here (put book.user (book.spare v) c) (book.spare c) v ∙ sym e))
        (λ nv. dite (ℕ_discrete u c) (λ e. ap now.user (ap now.spare e ∙ spare_of_cell) ∙ (user_of_cell ∙ sym e)) (λ nc. ap now.user (spare_of_others u nc nv) ∙ user_of_others u lu nc nv))

    range_now : (u : ℕ) → u < cells + n → now.spare u < cells + n
    range_now u lu = put_all (λ _ z. z < cells + n) (put book.spare c (book.spare v)) v (book.spare c) u (r.range c inside)
        (λ _. put_all (λ _ z. z < cells + n) book.spare c (book.spare v) u (r.range v lv) (λ _. r.range u lu))

    extra_of_cell : now.extra (now.spare c) ≡ x
    extra_of_cell = ap now.extra spare_of_cell ∙ (put_else (put book.extra (book.spare v) x) (book.spare c) away (book.spare v) (λ e. apart (sym e)) ∙ put_here book.extra (book.spare v) x)

    pub extra_of_others : (d : ℕ) → d < cells + n → d ≢ c → d ≢ v → now.extra (now.spare d) ≡ book.extra (book.spare d)
    extra_of_others d ld nc nv = ap now.extra (spare_of_others d nc nv) ∙ (put_else (put book.extra (book.spare v) x) (book.spare c) away (book.spare d) (differ d c ld inside nc) ∙ put_else book.extra (book.spare v) x (book.spare d) (differ d v ld lv nv))

    pub swapped : (new : Option ℕ) (items' : List Item) → cells ≤ v → IsKept items' new x → ((i : ℕ) → Was items items' i) → Spares cells n (set names c new) items' now
    swapped new items' behind is was = record {
      users = users_now;
      range = range_now;
      kept = λ d o ld at. ⊎_elim
          (λ (t : (d ≡ c) × (new ≡ o)). subst (λ (z : ℕ × Option ℕ). IsKept items' z.1 (now.extra (now.spare z.0))) (λ j. (sym t.0 j, t.1 j)) (subst (IsKept items' new) (sym extra_of_cell) is))
          (λ (t : (d ≢ c) × At names d o). subst (IsKept items' o) (sym (extra_of_others d (omega arith) t.0 (λ e. omega arith))) (kept_on items items' o (book.extra (book.spare d)) (λ i _. was i) (r.kept d o ld t.1)))
          (at_set names c d new o at);
    }

  -- items change, but not the values of those in cells
  pub stays_kept : (items' : List Item) → ((i : ℕ) (c : ℕ) → At names c (Some i) → Was items items' i) → Spares cells n names items' book
  stays_kept items' was = record {
    users = r.users;
    range = r.range;
    kept = λ c o lc at. kept_on items items' o (book.extra (book.spare c)) (λ i e. was i c (subst (At names c) e at)) (r.kept c o lc at);
  }

  -- what a user that is no cell has in its spare slot changes
  pub refilled : (v : ℕ) (x : Content) → cells ≤ v → v < cells + n → Spares cells n names items (record book { extra = put book.extra (book.spare v) x })
  refilled v x behind lv = record {
    users = r.users;
    range = r.range;
    kept = λ c o lc at. subst (IsKept items o) (sym (put_else book.extra (book.spare v) x (book.spare c) (differ c v (omega arith) lv (λ e. omega arith)))) (r.kept c o lc at);
  }

  -- what lies behind the spare slots changes
  pub beside : (y : ℕ) (x : Content) → cells + n ≤ y → Spares cells n names items (record book { extra = put book.extra y x })
  beside y x behind = record {
    users = r.users;
    range = r.range;
    kept = λ c o lc at. let low = r.range c (omega arith) in subst (IsKept items o) (sym (put_else book.extra y x (book.spare c) (λ e. omega arith))) (r.kept c o lc at);
  }
