-- a store where names for groups come is the same one
use Rattle.std.proofs.Common.{◌≡◌, ℕ, Option, Some, List, [], ◌∷◌, length, get_or, refl, sym, ap, ◌∙◌, arith}
use Rattle.std.specs.declared.cmp.Ordering.{Ordering}
use Rattle.sdd_world.specs.Frame.{Frame}
use Rattle.sdd_world.specs.Holding.{SharedIn}
use Rattle.sdd_world.specs.Passing.{slot_kept}
use Rattle.sdd_world.specs.Place.{IsPlace}
use Rattle.sdd_world.specs.State.{ParticipantState, State, cell_at, in_use, local_at, nobody}
use Rattle.sdd_world.specs.declared.status.Cell.{Cell}
use Rattle.sdd_world.specs.declared.status.Cell.TheVariants as cell
use Rattle.sdd_world.specs.declared.tag.Tag.TheVariants as tag
use Rattle.sdd_world.proofs.GroupLemmas.{grown_rows}
use Rattle.version_views.specs.declared.item.Item.{Item}
use Rattle.local_versions.specs.Placing.{HasVersion, OnlyNamesCome}
use Rattle.local_versions.specs.Store.{IsStore, Version, store_of, version_in}
use Rattle.local_versions.specs.declared.store.readers.Opened.{Opened}
use Rattle.local_versions.proofs.NamingLemmas.{named_stands}
use Rattle.local_versions.proofs.StoreLemmas.{Moves, moves_leave, present_shows, root_stays, store_moved, version_is, writer_closed, writer_reads, writer_shows}

module _ {K V : Type 0} {s : ℕ} (cmp : K → K → Ordering) (w w' : State (Item K V s)) (root : ℕ) (places : List (Option (Opened K V s))) (store : IsStore cmp w root places) (come : OnlyNamesCome w w') (keeps : Frame w w') (place : IsPlace w') where
  moves : Moves cmp (length places) root w w'
  moves =
      let st = named_stands w w' come keeps in
      record {
        place = place;
        keeps = keeps;
        only = λ k ne. ap (λ (ms : List ParticipantState). get_or ms k nobody) st.adds.participants;
        counted = st.counted (SharedIn root ∷ []) store.counted;
        plain = st.adds.plain store.plain;
        levelled = st.adds.levelled (SharedIn root ∷ []) store.counted store.levelled;
        rows = grown_rows w.groups w'.groups st.adds.groups;
      }

  named : cell_at w' root ≡ cell.OfShared (Some store.slot) tag.None
  named = ap (λ (cs : List Cell). get_or cs root cell.Free) (named_stands w w' come keeps).adds.cells ∙ store.named

  version : HasVersion cmp w' store.slot store.number store.pairs
  version = root_stays cmp w w' root places store (moves_leave cmp (length places) root w w' store.counted moves)

  pub store_named : IsStore cmp w' root places
  store_named =
      let closed : (local_at w' (length places)).nesting ≡ 0 = ap (λ (ms : List ParticipantState). (get_or ms (length places) nobody).local.nesting) (named_stands w w' come keeps).adds.participants ∙ writer_closed cmp w root places store in
      store_moved cmp w w' root places store (length places) places store.slot store.number store.pairs moves named version refl (λ q ne. refl) (writer_reads cmp w w' root places store moves closed) (λ ne. absurd (ne refl))

  pub named_shows : store_of w' root places ≡ store_of w root places
  named_shows =
      let present : version_in w' (slot_kept (cell_at w' root)) ≡ record { number = store.number; pairs = store.pairs } = ap (λ (k : Cell). version_in w' (slot_kept k)) named ∙ version_is cmp w' store.slot store.number store.pairs version in
      let adds = (named_stands w w' come keeps).adds in
      let used : in_use w' ≡ in_use w = (let uses = adds.uses in omega (arith, uses)) in
      writer_shows cmp w w' root places store moves
      ∙ ap (λ (v : Version K V). record (store_of w root places) { present = v; used = in_use w'; raises = w'.count }) (present ∙ sym (present_shows cmp w root places store))
      ∙ ap (λ (n : ℕ). record (store_of w root places) { used = n; raises = w'.count }) used
      ∙ ap (λ (n : ℕ). record (store_of w root places) { raises = n }) adds.count
