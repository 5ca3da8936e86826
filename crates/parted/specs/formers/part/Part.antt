-- `Part` as a type that may hold the type that holds it: its value is what it sees.
use mathlib.Core.Path.{◌≡◌, refl}
use mathlib.Core.Former.{Former, this, const, pair, via}
use Rattle.std.specs.Prelude.{ℕ}
use base.Stored.{Gv, gnil, gcons}
use base.Fml.{ftrue}
use denote.RattleType.{RattleType}
use denote.RawPtr.{Ptr}
use denote.Sharing.{nothing}
use denote.HoleLaws.{Alike}
use denote.HolePlaces.{Recodes, one_value}
use denote.Param.Weighed.{Weighed, w_const, w_pair}
use Rattle.parted.specs.declared.part.Part.{Part}
use Rattle.parted.specs.contracts.part.Part as C

-- all of a part but its value: where it lies, under which life, and that the tokens are that life's
abbrev pub PartWithoutValue : Type 0
PartWithoutValue = Ptr × (life : ℕ) × (id : ℕ) × (_ : life ≡ id) × ℕ

abbrev pub the_former : Former {0} → Former {0}
the_former g = via (pair (const PartWithoutValue) g) (λ X. Part (g.Of X)) (λ X p. ((p.seen.ptr, p.seen.life, p.life.id, p.same, p.life.count), p.seen.value))
    (λ X v. record { seen = record { ptr = v.0.0; value = v.1; life = v.0.1 }; life = record { id = v.0.2; count = v.0.4 }; same = v.0.3 }) (λ X p. refl) (λ X v. refl)

abbrev pub the_weighed : {g : Former {0}} → Weighed g → Weighed (the_former g)
the_weighed w = let both = w_pair (w_const PartWithoutValue) w in record {
  weight = λ X μ p. both.weight X μ ((p.seen.ptr, p.seen.life, p.life.id, p.same, p.life.count), p.seen.value);
  puts = λ X μ p. both.puts X μ ((p.seen.ptr, p.seen.life, p.life.id, p.same, p.life.count), p.seen.value);
}

abbrev blank : {X : Type 0} → Part X → Part (Unit {0})
blank p = record { seen = record { ptr = p.seen.ptr; value = tt; life = p.seen.life }; life = p.life; same = p.same }

ahead : {a b c : Gv} → a ≡ b → gcons a c ≡ gcons b c
ahead {c = c} e = λ i. gcons (e i) c

beside : {a b c : Gv} → a ≡ b → gcons c a ≡ gcons c b
beside {c = c} e = λ i. gcons c (e i)

module _ (R S : RattleType) (h : R.Denot → S.Denot) where
  pub the_places : Alike R S h → Alike (C.the_row R) (C.the_row S) ((the_former this).map R.Denot S.Denot h)
  the_places a = record {
    mir_same = λ i. (C.the_row (one_value R (a.mir_same i) (λ _. ftrue) (λ _ _. nothing) gnil)).mir;
    own_same = λ p i. (C.the_row (one_value R (a.mir_same i) (a.own_same p.seen.value i) (a.shr_same p.seen.value i) gnil)).own_val (blank p);
    shr_same = λ p i. (C.the_row (one_value R (a.mir_same i) (a.own_same p.seen.value i) (a.shr_same p.seen.value i) gnil)).shr_at (blank p);
  }

  pub the_codes_placed : Recodes R S h → Recodes (C.the_row R) (C.the_row S) ((the_former this).map R.Denot S.Denot h)
  the_codes_placed e p = ahead (beside (ahead (e p.seen.value)))
