use Rattle.std.proofs.Common.{ℕ, [], ◌∷◌, ◌++◌, ap, ◌∙◌}
use Rattle.atomic_table.specs.Table.{Me}
use Rattle.sdd_steps.specs.Steps.{is_ready}
use Rattle.domain_table.specs.Plays.{own_spare, with_step}
use Rattle.domain_table.specs.Layout.{cell_word}
use Rattle.domain_table.specs.declared.board.Acting.{Acting}
use Rattle.domain_table.specs.declared.board.Home.{Home}
use Rattle.sdd_domain.proofs.swapping.swap_owner.Goals as goal

pub swap-found-requires-clause-ready : goal.swap-found-requires-clause-ready
swap-found-requires-clause-ready g c = let b = c.bring-word.ensures.brings c.requires.out.0 c.requires.out.1 in let r = c.requires.ready in (ap (λ (z : Acting). z.kind) b.2 ∙ r.0, ap (λ (z : Acting). is_ready z.known) b.2 ∙ r.1, ap (λ (z : Acting). z.releasing) b.2 ∙ r.2)

pub swap-found-requires-clause-brings : goal.swap-found-requires-clause-brings
swap-found-requires-clause-brings g c = let b = c.bring-word.ensures.brings c.requires.out.0 c.requires.out.1 in (b.0, c.args.seat.now.me.0.hand, c.requires.out.0, b.1)

pub take_back-requires-clause-table : goal.take_back-requires-clause-table
take_back-requires-clause-table g c = let b = c.bring-word.ensures.brings c.requires.out.0 c.requires.out.1 in let back = c.swap-found.ensures.swapped b.0 c.args.seat.now.me.0.hand c.requires.out.0 b.1 in let t = c.requires.table.0 in
    (c.swap-found.ensures.seat.0 ∙ (c.bring-word.ensures.seat.0 ∙ t.0), t.1, ap (λ (z : Me _ Acting). z.0.sizes) back.2.2.2 ∙ (ap (λ (z : Acting). z.sizes) b.2 ∙ t.2), t.3, t.4)

pub take_back-requires-clause-ready : goal.take_back-requires-clause-ready
take_back-requires-clause-ready g c = let b = c.bring-word.ensures.brings c.requires.out.0 c.requires.out.1 in let back = c.swap-found.ensures.swapped b.0 c.args.seat.now.me.0.hand c.requires.out.0 b.1 in let r = c.requires.ready in
    (ap (λ (z : Me _ Acting). z.0.kind) back.2.2.2 ∙ (ap (λ (z : Acting). z.kind) b.2 ∙ r.0), ap (λ (z : Me _ Acting). z.0.releasing) back.2.2.2 ∙ (ap (λ (z : Acting). z.releasing) b.2 ∙ r.2))

pub take_back-requires-clause-back : goal.take_back-requires-clause-back
take_back-requires-clause-back g c = let b = c.bring-word.ensures.brings c.requires.out.0 c.requires.out.1 in let back = c.swap-found.ensures.swapped b.0 c.args.seat.now.me.0.hand c.requires.out.0 b.1 in (with_step (cell_word c.args.place.words.now.key.sizes c.args.cell) c.swap-found.result c.bring-word.result c.bring-word.new.seat.me, c.args.seat.now.me.0.hand, c.requires.out.0, back)

pub returns-clause-swapped : goal.returns-clause-swapped
returns-clause-swapped g c = let w : ℕ = c.swap-found.result in let v : ℕ = c.bring-word.result in let seat = c.args.seat.now.me in let i : ℕ = cell_word c.args.place.words.now.key.sizes c.args.cell in (
  w,
  v,
  (λ tail is. let b = c.bring-word.ensures.brings tail is in let back = c.swap-found.ensures.swapped b.0 seat.0.hand tail b.1 in let y : ℕ = c.take_back.result.0 in
      c.take_back.ensures.back (with_step i w v c.bring-word.new.seat.me) seat.0.hand tail back
      ∙ λ j. (record (b.2 j) { spare = y; hand = seat.0.hand; cell_steps = (b.2 j).cell_steps ++ record { word = cell_word (c.requires.table.0.1 j) c.args.cell; found = w; left = v } ∷ [] }, (own_spare (b.2 j) y, Rattle.domain_table.specs.declared.board.Home.TheVariants.Blank) ∷ tail)),
  c.take_back.ensures.code.0,
  c.bring-word.ensures.code.0,
)
