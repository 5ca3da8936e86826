use Rattle.std.proofs.Common.{ℕ, subst}
use Rattle.sdd_plain.specs.Epochs.{tag_number}
use Rattle.domain_table.specs.Contents.{IsIn}
use Rattle.domain_table.specs.Layout.{cell_word}
use Rattle.domain_table.specs.Leases.{HasLeased}
use Rattle.domain_table.specs.Plays.{with_step}
use Rattle.domain_table.proofs.Noted.{is_leased, out_now, found_as}
use Rattle.domain_table.proofs.loading.lease.Goals as goal

pub note_found-at-requires-clause-found : goal.note_found-at-requires-clause-found
note_found-at-requires-clause-found g c = let w : ℕ = c.load-word.result in (with_step (cell_word c.args.place.words.now.key.sizes c.args.cell) w w c.args.seat.now.me, c.load-word.ensures.loaded, c.requires.«open».1, c.requires.table.0.2, c.requires.rows.0)

pub returns-clause-loaded : goal.returns-clause-loaded
returns-clause-loaded g c = let w : ℕ = c.load-word.result in let m = with_step (cell_word c.args.place.words.now.key.sizes c.args.cell) w w c.args.seat.now.me in (
  w,
  subst (λ z. HasLeased (with_step (cell_word z c.args.cell) w w c.args.seat.now.me) c.note_found-at.new.seat.me) c.requires.table.0.1 (is_leased m c.note_found-at.new.seat.me (c.note_found-at.ensures.noted m c.load-word.ensures.loaded c.requires.rows.0)),
  found_as (IsIn g.H.Holding.holds) m c.load-word.new.seat.me w (tag_number c.tag_in.result) c.note_found-at.new.rows.items c.note_found-at.result c.load-word.ensures.loaded c.tag_in.ensures c.note_found-at.ensures.code,
)

pub returns-clause-out : goal.returns-clause-out
returns-clause-out g c = let w : ℕ = c.load-word.result in let m = with_step (cell_word c.args.place.words.now.key.sizes c.args.cell) w w c.args.seat.now.me in out_now m c.note_found-at.new.seat.me (c.note_found-at.ensures.noted m c.load-word.ensures.loaded c.requires.rows.0)
