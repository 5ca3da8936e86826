-- `One` as a type that may hold the type that holds it: its value is what its part sees.
use mathlib.Core.Path.{◌≡◌, refl}
use mathlib.Core.Former.{Former, this, const, pair, via}
use Rattle.std.specs.Prelude.{ℕ}
use base.Stored.{Gv, gnil, gcons}
use base.Fml.{ftrue}
use denote.RattleType.{RattleType}
use denote.RawPtr.{Ptr}
use denote.Sharing.{nothing}
use denote.HoleLaws.{Alike}
use denote.HolePlaces.{Recodes, one_value}
use denote.Param.Weighed.{Weighed, w_const, w_pair}
use Rattle.parted.specs.declared.one.One.{One}
use Rattle.parted.specs.contracts.one.One as C

-- all of it but its value: where that lies, under which life, that the token is that life's, and that it is one
abbrev pub OneWithoutValue : Type 0
OneWithoutValue = Ptr × (life : ℕ) × (id : ℕ) × (_ : life ≡ id) × (count : ℕ) × (count ≡ 1)

abbrev pub the_former : Former {0} → Former {0}
the_former g = via (pair (const OneWithoutValue) g) (λ X. One (g.Of X)) (λ X p. ((p.part.seen.ptr, p.part.seen.life, p.part.life.id, p.part.same, p.part.life.count, p.one), p.part.seen.value))
    (λ X v. record { part = record { seen = record { ptr = v.0.0; value = v.1; life = v.0.1 }; life = record { id = v.0.2; count = v.0.4 }; same = v.0.3 }; one = v.0.5 }) (λ X p. refl) (λ X v. refl)

abbrev pub the_weighed : {g : Former {0}} → Weighed g → Weighed (the_former g)
the_weighed w = let both = w_pair (w_const OneWithoutValue) w in record {
  weight = λ X μ p. both.weight X μ ((p.part.seen.ptr, p.part.seen.life, p.part.life.id, p.part.same, p.part.life.count, p.one), p.part.seen.value);
  puts = λ X μ p. both.puts X μ ((p.part.seen.ptr, p.part.seen.life, p.part.life.id, p.part.same, p.part.life.count, p.one), p.part.seen.value);
}

abbrev blank : {X : Type 0} → One X → One (Unit {0})
blank p = record { part = record { seen = record { ptr = p.part.seen.ptr; value = tt; life = p.part.seen.life }; life = p.part.life; same = p.part.same }; one = p.one }

ahead : {a b c : Gv} → a ≡ b → gcons a c ≡ gcons b c
ahead {c = c} e = λ i. gcons (e i) c

beside : {a b c : Gv} → a ≡ b → gcons c a ≡ gcons c b
beside {c = c} e = λ i. gcons c (e i)

module _ (R S : RattleType) (h : R.Denot → S.Denot) where
  pub the_places : Alike R S h → Alike (C.the_row R) (C.the_row S) ((the_former this).map R.Denot S.Denot h)
  the_places a = record {
    mir_same = λ i. (C.the_row (one_value R (a.mir_same i) (λ _. ftrue) (λ _ _. nothing) gnil)).mir;
    own_same = λ p i. (C.the_row (one_value R (a.mir_same i) (a.own_same p.part.seen.value i) (a.shr_same p.part.seen.value i) gnil)).own_val (blank p);
    shr_same = λ p i. (C.the_row (one_value R (a.mir_same i) (a.own_same p.part.seen.value i) (a.shr_same p.part.seen.value i) gnil)).shr_at (blank p);
  }

  pub the_codes_placed : Recodes R S h → Recodes (C.the_row R) (C.the_row S) ((the_former this).map R.Denot S.Denot h)
  the_codes_placed e p = ahead (ahead (beside (ahead (e p.part.seen.value))))
