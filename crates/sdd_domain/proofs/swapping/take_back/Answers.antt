use Rattle.std.proofs.Common.{◌≡◌, ◌≢◌, ℕ, suc, ◌+◌, ◌-◌, ◌*◌, ◌/◌, ◌%◌, ◌<◌, List, [], ◌∷◌, take, Option, None, Some, IsSome, sym, ap, ◌∙◌, subst, arith}
use Rattle.atomic_table.specs.Table.{Me}
use Rattle.sdd_homes.specs.declared.Owner.{Owner}
use Rattle.sdd_homes.specs.Book.{part}
use Rattle.sdd_plain.specs.Epochs.{tag_number}
use Rattle.domain_table.specs.Contents.{IsIn}
use Rattle.domain_table.specs.Layout.{packed, Tells}
use Rattle.domain_table.specs.Owners.{besides, slot_code, part_of, item_in}
use Rattle.domain_table.specs.Plays.{own_spare, GetsBack}
use Rattle.domain_table.specs.Views.{spent, holding}
use Rattle.domain_table.specs.declared.board.Acting.{Acting}
use Rattle.domain_table.specs.declared.board.Home.{Home}
use Rattle.domain_table.specs.declared.board.Home.TheVariants.{Part}
use Rattle.domain_table.proofs.Fronts.{came_out}
use Rattle.sdd_domain.proofs.swapping.take_back.Goals as goal

-- the word names an owner, whose part is in the spare slot
record Came {T : Type 0} (holds : T → List (ℕ × ℕ)) (w : ℕ) (m m' : Me (Home T) Acting) (os : List Owner) (tail : List (ℕ × Home T)) : Type 0 where
  owner : Owner
  slot : w / 8589934592 ≡ owner.slot + 1
  value : Home T
  is : IsIn holds (part owner.round 1) value
  me : m' ≡ (record m.0 { spare = w % 2147483648; hand = owner ∷ os }, (own_spare m.0 (w % 2147483648), value) ∷ tail)

came : {T : Type 0} (holds : T → List (ℕ × ℕ)) (w : ℕ) (m m' : Me (Home T) Acting) (os : List Owner) (tail : List (ℕ × Home T)) (y : ℕ) → y < 2147483648 → w / 8589934592 ≢ 0 → (old : Option Owner) → Tells w y (slot_code old) → (u : Home T) → IsIn holds (part_of old) u
    → m' ≡ (record m.0 { spare = y; hand = besides old os }, (own_spare m.0 y, u) ∷ tail) → Came holds w m m' os tail
came holds w m m' os tail y low some None is u in_u e = let few = is.1 in let word = is.2 in absurd (some (omega arith))
came holds w m m' os tail y low some (Some o) is u in_u e = let next : suc o.slot ≡ o.slot + 1 = omega arith in let few = is.1 in let word : w ≡ y + 2147483648 * (is.0 + 4 * (o.slot + 1)) = is.2 ∙ ap (λ z. y + 2147483648 * (is.0 + 4 * z)) next in let spare : y ≡ w % 2147483648 = omega arith in record {
  owner = o;
  slot = omega arith;
  value = u;
  is = in_u;
  me = e ∙ λ j. (record m.0 { spare = spare j; hand = o ∷ os }, (own_spare m.0 (spare j), u) ∷ tail);
}

back : {T : Type 0} (holds : T → List (ℕ × ℕ)) (w : ℕ) (m m' : Me (Home T) Acting) (os : List Owner) (tail : List (ℕ × Home T)) → w / 8589934592 ≢ 0 → GetsBack (IsIn holds) m os w tail m' → Came holds w m m' os tail
back holds w m m' os tail some b = came holds w m m' os tail b.0 b.1 some b.2.0 b.2.1 b.2.2.0 b.2.2.1 b.2.2.2

pub parts_of-part-requires : goal.parts_of-part-requires
parts_of-part-requires g c = let r = c.requires.back in let m1 = c.args.seat.now.me in let k = back g.T.Holds.holds c.args.word r.0 m1 r.1 r.2 c.if-code-eq0.false r.3 in let e = c.exchange.ensures in
    (k.owner.round, 1, subst (IsIn g.T.Holds.holds (part k.owner.round 1)) (sym (came_out m1 (own_spare r.0.0 (c.args.word % 2147483648)) c.spare_at-at.result k.value c.exchange.result r.2 (ap (λ (z : Me _ Acting). z.1) k.me) e.2)) k.is)

pub part_with-calm-requires-clause-owner : goal.part_with-calm-requires-clause-owner
part_with-calm-requires-clause-owner g c = let r = c.requires.back in let m1 = c.args.seat.now.me in let k = back g.T.Holds.holds c.args.word r.0 m1 r.1 r.2 c.if-code-eq0.false r.3 in (k.owner, r.1, ap (λ (z : Me _ Acting). z.0.hand) c.exchange.ensures.3 ∙ ap (λ (z : Me _ Acting). z.0.hand) k.me)

pub from_part-requires : goal.from_part-requires
from_part-requires g c = let r = c.requires.back in let m1 = c.args.seat.now.me in let k = back g.T.Holds.holds c.args.word r.0 m1 r.1 r.2 c.if-code-eq0.false r.3 in let e = c.exchange.ensures in
    (c.parts_of-part.ensures k.owner.round 1 (subst (IsIn g.T.Holds.holds (part k.owner.round 1)) (sym (came_out m1 (own_spare r.0.0 (c.args.word % 2147483648)) c.spare_at-at.result k.value c.exchange.result r.2 (ap (λ (z : Me _ Acting). z.1) k.me) e.2)) k.is)).1

pub invariant_of-owner : goal.invariant_of-owner
invariant_of-owner g c = let r = c.requires.back in let m1 = c.args.seat.now.me in let k = back g.T.Holds.holds c.args.word r.0 m1 r.1 r.2 c.if-code-eq0.false r.3 in let e = c.exchange.ensures in let o : Owner = k.owner in let slot : o.slot ≡ c.args.word / 8589934592 - 1 = (let z = k.slot in omega arith) in let small = c.ranges.word.fits in
    let p = c.parts_of-part.ensures o.round 1 (subst (IsIn g.T.Holds.holds (part o.round 1)) (sym (came_out m1 (own_spare r.0.0 (c.args.word % 2147483648)) c.spare_at-at.result k.value c.exchange.result r.2 (ap (λ (z : Me _ Acting). z.1) k.me) e.2)) k.is) in
    let hand : c.exchange.new.seat.me.0.hand ≡ o ∷ r.1 = ap (λ (z : Me _ Acting). z.0.hand) e.3 ∙ ap (λ (z : Me _ Acting). z.0.hand) k.me in let views : c.part_with-calm.result.badge.views ≡ holding o ∷ [] = c.part_with-calm.ensures.owner.1 ∙ ap (λ hs. record spent { kind = 3; hand = take 1 hs } ∷ []) hand in let part_is = c.from_part.ensures in record {
      owns = views ∙ λ j. holding (record { item = item_in (sym views j); slot = slot j; round = (sym p.0 ∙ sym (ap (λ q. q.life.id) part_is)) j }) ∷ [];
      there = subst (λ q. IsSome q.seen.value) (sym part_is) p.4;
      low = omega arith;
    }

-- the part that comes back is the one that lay there
pub returns-clause-whose : goal.returns-clause-whose
returns-clause-whose g c = λ s f. let r = c.requires.back in let m1 = c.args.seat.now.me in let k = back g.T.Holds.holds c.args.word r.0 m1 r.1 r.2 c.if-code-eq0.false r.3 in let e = c.exchange.ensures in
    let p = c.parts_of-part.ensures k.owner.round 1 (subst (IsIn g.T.Holds.holds (part k.owner.round 1)) (sym (came_out m1 (own_spare r.0.0 (c.args.word % 2147483648)) c.spare_at-at.result k.value c.exchange.result r.2 (ap (λ (z : Me _ Acting). z.1) k.me) e.2)) k.is) in
    let both : Part c.parts_of-part.result.0 1 ≡ Part s.part.part 1 = sym p.5 ∙ came_out m1 f.0 c.spare_at-at.result (Part s.part.part 1) c.exchange.result f.1 f.2 e.2 in let same : c.parts_of-part.result.0 ≡ s.part.part = cc in c.from_part.ensures ∙ same

-- what is told by a word, its tag with it
told : (w tag : ℕ) → ((y t k : ℕ) → y < 2147483648 → t < 4 → w ≡ packed y t k → tag ≡ t) → (k : ℕ) → w / 8589934592 ≡ k → (w ≡ packed (w % 2147483648) tag k) × (tag < 4)
told w tag is k code = let low : w % 2147483648 < 2147483648 = omega arith in let few : w / 2147483648 % 4 < 4 = omega arith in let all : w ≡ w % 2147483648 + 2147483648 * (w / 2147483648 % 4 + 4 * (w / 8589934592)) = omega arith in let same : tag ≡ w / 2147483648 % 4 = is (w % 2147483648) (w / 2147483648 % 4) (w / 8589934592) low few all in (omega arith, omega arith)

pub returns-then-code-eq0-clause-code : goal.returns-then-code-eq0-clause-code
returns-then-code-eq0-clause-code g c = told c.args.word (tag_number c.tag_in-tag.result) c.tag_in-tag.ensures 0 c.if-code-eq0.true

pub returns-clause-code : goal.returns-clause-code
returns-clause-code g c = let some = c.if-code-eq0.false in told c.args.word (tag_number c.tag_in-tag.result) c.tag_in-tag.ensures (c.args.word / 8589934592 - 1 + 1) (omega arith)
