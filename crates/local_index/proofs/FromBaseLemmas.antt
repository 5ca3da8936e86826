-- An index that begins with a list.
use Rattle.std.proofs.Common.{◌≡◌, ℕ, ◌+◌, ◌≤◌, List, [], None, replicate, sym, ap, ◌∙◌, subst, arith}
use Rattle.std.proofs.lemmas.List.Elements.{All-replicate}
use Rattle.std.specs.Prelude.{IfSome}
use Rattle.std.specs.declared.cmp.Ordering.{Ordering}
use Rattle.serial_history.specs.Histories.{HistoryState}
use Rattle.serial_history.specs.Serial.{Base}
use Rattle.version_views.specs.declared.directory.Directory.{Directory}
use Rattle.version_drafts.specs.declared.shelves.Shelf.{Shelf}
use Rattle.local_versions.specs.Placing.{Plan, StandsAlone, list_alone, number_of, slots_for}
use Rattle.local_versions.specs.Store.{Store}
use Rattle.local_index.specs.Invariant.{IsIndex, HasListOfNumber}

-- its fields keep what those of an index keep
module _ {K V : Type 0} (cmp : K → K → Ordering) (width places slots number : ℕ) (pairs : List (K × V)) where
  abbrev first : Base K V
  first = record { number = number; pairs = pairs }

  -- a store without readers, with so many slots in use
  abbrev unread : ℕ → Store K V
  unread used = record { present = record { number = number; pairs = pairs }; readers = replicate places None; slots = slots; used = used; raises = 0 }

  begins : (used : ℕ) → 1 ≤ width → width ≤ 225 → IsIndex cmp width (unread used) first []
  begins used some fits = record {
    some_pair = some;
    segment_fits = fits;
    present = (let same : number ≡ number + 0 = omega arith in ap (λ n. record { number = n; pairs = pairs }) same);
    readers = All-replicate (λ r. IfSome r (HasListOfNumber cmp first [])) places None tt;
  }

  pub begun_kept : (store : Store K V) (h : HistoryState K V) (last room : ℕ) → 1 ≤ width → width ≤ 225 → store ≡ unread store.used → h ≡ record { base = first; transactions = []; last = last; room = room } → IsIndex cmp width store h.base h.transactions
  begun_kept store h last room some fits stored is =
      subst (λ (s : Store K V). IsIndex cmp width s h.base h.transactions) (sym stored)
      (subst (λ (x : HistoryState K V). IsIndex cmp width (unread store.used) x.base x.transactions) (sym is) (begins store.used some fits))

-- a version that takes nothing over does so under another number
pub renumbered : {K V : Type 0} {s : ℕ} (cmp : K → K → Ordering) (p : Plan K V s) (number : ℕ) → StandsAlone cmp p → StandsAlone {s = s} cmp (record { shelves = record p.shelves { number = number } })
renumbered cmp p number alone = record {
  placeable = λ w.
      let placeable = alone.placeable w in
      let planned = placeable.planned in
      let rowed = planned.rowed in
      record {
        planned = record { cut = planned.cut; rowed = record { rows = rowed.rows; separated = rowed.separated; ends = rowed.ends }; counted = planned.counted; there = planned.there };
        there = placeable.there;
      };
  list = alone.list;
}

-- a store that holds the version of a list under a number
module _ {K V : Type 0} {s : ℕ} (built held : Plan K V s) (number places slots : ℕ) (pairs : List (K × V)) (is : held.shelves ≡ record built.shelves { number = number }) (list : list_alone built ≡ pairs) where
  -- of a directory with the rows of the plan
  abbrev plan_of : Directory K (Shelf K V) → Plan K V s
  plan_of d = record { shelves = d }

  abbrev pub Holds : Store K V → Type 0
  Holds store = store ≡ record { present = record { number = number_of held; pairs = list_alone held }; readers = replicate places None; slots = slots; used = slots_for held; raises = 0 }

  pub holds_list : (store : Store K V) → Holds store → store ≡ record { present = record { number = number; pairs = pairs }; readers = replicate places None; slots = slots; used = store.used; raises = 0 }
  holds_list store e =
      e
      ∙ ap (λ (d : Directory K (Shelf K V)). record { present = record { number = d.number; pairs = list_alone (plan_of d) }; readers = replicate places None; slots = slots; used = slots_for held; raises = 0 }) is
      ∙ ap (λ (ps : List (K × V)). record { present = record { number = number; pairs = ps }; readers = replicate places None; slots = slots; used = slots_for held; raises = 0 }) list
      ∙ ap (λ (n : ℕ). record { present = record { number = number; pairs = pairs }; readers = replicate places None; slots = slots; used = n; raises = 0 }) (sym (ap (λ (t : Store K V). t.used) e))

  pub same_slots : slots_for held ≡ slots_for built
  same_slots = ap (λ (d : Directory K (Shelf K V)). slots_for (plan_of d)) is
