use Rattle.std.proofs.Common.{map, ap, arith}
use Rattle.sdd_world.specs.Groups.{free_names, name_of}
use Rattle.sdd_world.specs.Tokens.{kept_slot}
use Rattle.sdd_world.proofs.GroupLemmas.{names_none}
use Rattle.local_versions.proofs.RowPlacingLemmas.{made_stands}
use Rattle.local_versions.proofs.placing.place_new.Goals as goal

pub unreachable-requires : goal.unreachable-requires
unreachable-requires g c =
    let none = names_none c.place_parts-owners.new.w.groups c.in-Err.ensures.refused.2 in
    let same = ap free_names c.place_parts-owners.ensures.same in
    let some = c.requires.names in
    omega (arith, none, same, some)

pub returns : goal.returns
returns g c = made_stands _ (map kept_slot c.place_parts-owners.result.items) _ c.args.w.now c.place_parts-owners.new.w c.make.new.w (name_of c.in-Ok.group) c.place_parts-owners.ensures c.in-Ok.ensures.free c.in-Ok.ensures.made c.in-Ok.ensures.keeps
