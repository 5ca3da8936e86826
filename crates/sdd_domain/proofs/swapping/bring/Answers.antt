use Rattle.std.proofs.Common.{◌≡◌, ℕ, suc, ◌+◌, ◌∷◌, Some, IsSome, sym, refl, ap, ◌∙◌, subst, arith}
use Rattle.atomic_table.specs.Table.{Me}
use Rattle.sdd_homes.specs.declared.Owner.{Owner}
use Rattle.sdd_plain.specs.Epochs.{tag_number}
use Rattle.domain_table.specs.Layout.{packed}
use Rattle.domain_table.specs.Owners.{item_in}
use Rattle.domain_table.specs.Plays.{own_spare}
use Rattle.domain_table.specs.declared.board.Acting.{Acting}
use Rattle.domain_table.specs.declared.board.Home.{Home}
use Rattle.domain_table.specs.declared.board.Home.TheVariants.{Blank, Part}
use Rattle.domain_table.proofs.Fronts.{put_in}
use Rattle.sdd_domain.proofs.swapping.bring.Goals as goal

-- the owner is in hand, and its part in the spare slot
pub returns-clause-brings : goal.returns-clause-brings
returns-clause-brings g c = λ tail is. let m = c.args.seat.now.me in let d = m.0 in let s = c.in-Some.owner in let spare : ℕ = c.args.spare in let o : Owner = record { item = item_in s.calm.badge.views; slot = s.slot; round = s.part.part.life.id } in
    let t = c.take_in.ensures.taken o s.owns in let e = c.exchange.ensures in let p = c.into_part.result in let y : Home _ = Part p 1 in let mine = c.into_part.ensures in let m2 = c.exchange.new.seat.me in
    let all : m2 ≡ (record d { hand = o ∷ d.hand }, (own_spare d spare, y) ∷ tail) = put_in c.take_in.new.seat.me m2 (own_spare d spare) c.spare_at-at.result Blank c.exchange.result y tail (ap (λ (z : Me _ Acting). z.1) t ∙ is) e.2 e.3 ∙ ap (λ (z : Me _ Acting). (z.0, (own_spare d spare, y) ∷ tail)) t in
    let hand : m2.0 ≡ record d { hand = o ∷ d.hand } = ap (λ (z : Me _ Acting). z.0) all in let same : m2.0.spare ≡ spare = ap (λ (z : Acting). z.spare) hand ∙ c.requires.ready.1 in let next : suc s.slot ≡ s.slot + 1 = omega arith in (
      Some o,
      (
        ap (λ (z : Acting). z.hand) hand,
        (tag_number c.args.new.1, c.word_with-2.ensures.few, c.word_with-2.ensures.word ∙ λ j. packed (sym same j) (tag_number c.args.new.1) (sym next j)),
        (
          y,
          (p, refl, ap (λ q. q.life.id) mine.0, mine.1, omega arith, subst (λ q. IsSome q.seen.value) (sym mine.0) s.there),
          ap (λ (z : Me _ Acting). z.1) all ∙ λ j. (own_spare (sym hand j) (sym same j), y) ∷ tail,
        ),
      ),
      hand,
    )
