use Rattle.std.proofs.Common.{List, [], ◌∷◌, ◌++◌, sym, ap, ◌∙◌, subst, lit<, arith}
use Rattle.shared_index.specs.Books.{MayAccept, MayRefuse, transaction_of}
use Rattle.shared_index.proofs.book.Book.commit.Goals as goal

pub returns-in-Some-clause-cause : goal.returns-in-Some-clause-cause
returns-in-Some-clause-cause g c = rw c.as_slice-reads.ensures at c.in-Some.ensures.some

-- what the reads or the last number refuse is no miss
pub returns-in-Some-clause-missed : goal.returns-in-Some-clause-missed
returns-in-Some-clause-missed g c = c.in-Some.ensures.unmissed c.args.self.now.misses

pub add-requires : goal.add-requires
add-requires g c =
    let room = c.in-Ok.ensures.room in
    let writes = c.len.ensures in
    let long = c.args.writes.ok.0 in
    let can = subst (λ (rs : List _). MayAccept g.K.Ord.cmp c.args.self.now rs) (sym c.in-Ok.ensures.reads) c.in_default.ensures.none in
    (lit< tt, (c.requires.place, (c.requires.inside, (c.requires.keys, (c.requires.values, (c.in-Ok.ensures.empty, (omega (arith, room, writes, long), can)))))))

pub returns-in-Err-clause-cause : goal.returns-in-Err-clause-cause
returns-in-Err-clause-cause g c =
    subst (λ (rs : List _). MayRefuse g.K.Ord.cmp c.args.self.now rs c.in-Err.refused.cause) (c.in-Ok.ensures.reads ∙ c.as_slice-reads.ensures) c.in-Err.ensures.cause

pub returns-in-Ok-add-clause-can : goal.returns-in-Ok-add-clause-can
returns-in-Ok-add-clause-can g c = subst (λ (rs : List _). MayAccept g.K.Ord.cmp c.args.self.now rs) c.as_slice-reads.ensures c.in_default.ensures.none

pub returns-in-Ok-add-clause-added : goal.returns-in-Ok-add-clause-added
returns-in-Ok-add-clause-added g c =
    let old = c.args.self.now in
    let steps = c.add.new.self.cell_steps in
    let added = λ (rs : List _). record old { history = old.history ++ transaction_of g.K.Ord.cmp old rs c.args.writes.items ∷ []; cell_steps = steps } in
    c.in-Ok-add.ensures.added ∙ ap added (c.in-Ok.ensures.reads ∙ c.as_slice-reads.ensures)

pub returns-in-Ok-add-clause-replies : goal.returns-in-Ok-add-clause-replies
returns-in-Ok-add-clause-replies g c = c.in-Ok-add.ensures.told

pub returns-in-Ok-add-clause-counted : goal.returns-in-Ok-add-clause-counted
returns-in-Ok-add-clause-counted g c = c.in-Ok-add.ensures.counted

pub returns-in-Err-clause-missed : goal.returns-in-Err-clause-missed
returns-in-Err-clause-missed g c = c.in-Err.ensures.missed

pub returns-in-Err-clause-back : goal.returns-in-Err-clause-back
returns-in-Err-clause-back g c = c.in-Err.ensures.back

pub returns-in-Err-clause-err : goal.returns-in-Err-clause-err
returns-in-Err-clause-err g c = c.in-Err.ensures.err

pub returns-in-Err-clause-uncounted : goal.returns-in-Err-clause-uncounted
returns-in-Err-clause-uncounted g c = c.in-Err.ensures.uncounted
