-- `Seen` as a type that may hold the type that holds it: its value is a ghost.
use mathlib.Core.Path.{◌≡◌, refl}
use mathlib.Core.Former.{Former, this, const, pair, via}
use Rattle.std.specs.Prelude.{ℕ}
use base.Stored.{Gv, gnil, gcons}
use base.Fml.{ftrue}
use denote.RattleType.{RattleType}
use denote.RawPtr.{Ptr}
use denote.Sharing.{nothing}
use denote.HoleLaws.{Alike}
use denote.HolePlaces.{Recodes, one_value}
use denote.Param.Weighed.{Weighed, w_const, w_pair}
use Rattle.parted.specs.declared.raw.Seen.{Seen}
use Rattle.parted.specs.contracts.raw.Seen as C

-- all of a `Seen` but its value
abbrev pub SeenWithoutValue : Type 0
SeenWithoutValue = Ptr × ℕ

abbrev pub the_former : Former {0} → Former {0}
the_former g = via (pair (const SeenWithoutValue) g) (λ X. Seen (g.Of X)) (λ X s. ((s.ptr, s.life), s.value)) (λ X v. record { ptr = v.0.0; value = v.1; life = v.0.1 }) (λ X s. refl) (λ X v. refl)

abbrev pub the_weighed : {g : Former {0}} → Weighed g → Weighed (the_former g)
the_weighed w = let both = w_pair (w_const SeenWithoutValue) w in record {
  weight = λ X μ s. both.weight X μ ((s.ptr, s.life), s.value);
  puts = λ X μ s. both.puts X μ ((s.ptr, s.life), s.value);
}

ahead : {a b c : Gv} → a ≡ b → gcons a c ≡ gcons b c
ahead {c = c} e = λ i. gcons (e i) c

beside : {a b c : Gv} → a ≡ b → gcons c a ≡ gcons c b
beside {c = c} e = λ i. gcons c (e i)

module _ (R S : RattleType) (h : R.Denot → S.Denot) where
  -- a `Seen` lies and is shared as one of no value does, but for what denotes its value
  pub the_places : Alike R S h → Alike (C.the_row R) (C.the_row S) ((the_former this).map R.Denot S.Denot h)
  the_places a = record {
    mir_same = λ i. (C.the_row (one_value R (a.mir_same i) (λ _. ftrue) (λ _ _. nothing) gnil)).mir;
    own_same = λ s i. (C.the_row (one_value R (a.mir_same i) (a.own_same s.value i) (a.shr_same s.value i) gnil)).own_val (record { ptr = s.ptr; value = tt; life = s.life });
    shr_same = λ s i. (C.the_row (one_value R (a.mir_same i) (a.own_same s.value i) (a.shr_same s.value i) gnil)).shr_at (record { ptr = s.ptr; value = tt; life = s.life });
  }

  pub the_codes_placed : Recodes R S h → Recodes (C.the_row R) (C.the_row S) ((the_former this).map R.Denot S.Denot h)
  the_codes_placed e s = beside (ahead (e s.value))
