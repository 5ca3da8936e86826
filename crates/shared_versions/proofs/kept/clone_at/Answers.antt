use Rattle.std.proofs.Common.{Some, map, slice_set, sym, ap, ◌∙◌, subst}
use Rattle.std.specs.List.{All}
use Rattle.std.proofs.Math.Seq.{map-set_same, set-set}
use Rattle.std.proofs.lemmas.List.Elements.{All-set}
use Rattle.shared_versions.specs.Placing.{IsKeptRow, blocks_kept}
use Rattle.shared_versions.proofs.MovingLemmas.{kept_within}
use Rattle.shared_versions.proofs.kept.clone_at.Goals as goal

pub returns-clause-kept : goal.returns-clause-kept
returns-clause-kept g c =
    let IsThere = IsKeptRow c.args.domain.now.table.shared.table_id in
    let kept = c.args.kept.now.items in
    let owner = Some c.clone_row-owner.result.0 in
    let written = set-set kept c.args.number c.replace.new.dest c.replace-2.new.dest ∙ ap (slice_set kept c.args.number) c.replace-2.ensures.after in
    subst (All IsThere) (sym written) (All-set IsThere kept c.args.number owner c.clone_row-owner.ensures.own.0 c.requires.kept)

pub returns-clause-blocks : goal.returns-clause-blocks
returns-clause-blocks g c =
    let kept = c.args.kept.now.items in
    let owner = Some c.clone_row-owner.result.0 in
    let written = set-set kept c.args.number c.replace.new.dest c.replace-2.new.dest ∙ ap (slice_set kept c.args.number) c.replace-2.ensures.after in
    let taken = sym c.in-Some.is ∙ c.replace.ensures.value in
    let alike = c.clone_row-owner.ensures.own.1 ∙ (ap blocks_kept taken ∙ ap blocks_kept c.index_mut.ensures.value) in
    ap (map blocks_kept) written ∙ map-set_same blocks_kept kept c.args.number owner _ alike

pub clone_row-owner-requires-clause-mine : goal.clone_row-owner-requires-clause-mine
clone_row-owner-requires-clause-mine g c =
    let IsThere = IsKeptRow c.args.domain.now.table.shared.table_id in
    let taken = sym c.in-Some.is ∙ c.replace.ensures.value in
    subst IsThere (sym (taken ∙ c.index_mut.ensures.value)) (c.requires.kept c.args.number _ (kept_within c.args.kept.now.items c.args.number c.requires.some))

pub returns-clause-hand : goal.returns-clause-hand
returns-clause-hand g c = c.clone_row-owner.ensures.hand

pub returns-clause-hit : goal.returns-clause-hit
returns-clause-hit g c = c.clone_row-owner.ensures.hit

pub returns-clause-missed : goal.returns-clause-missed
returns-clause-missed g c = c.clone_row-owner.ensures.missed

pub returns-clause-same : goal.returns-clause-same
returns-clause-same g c = c.clone_row-owner.ensures.same
