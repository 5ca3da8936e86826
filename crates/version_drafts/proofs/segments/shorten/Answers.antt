use Rattle.std.proofs.Common.{◌≡◌, ◌+◌, ◌<◌, ◌++◌, ◌∷◌, [], nat_lt, true, refl, sym, ◌∙◌, arith}
use Rattle.std.proofs.lemmas.Bool.Decides.{nat_tests}
use Rattle.std.proofs.lemmas.List.{same_from_push}
use Rattle.version_drafts.specs.Parts.{stretch_of}
use Rattle.version_drafts.specs.declared.segments.Part.TheVariants as parts
use Rattle.version_drafts.proofs.segments.shorten.Goals as goal

pub unreachable-requires : goal.unreachable-requires
unreachable-requires g c =
    let e = c.requires in
    let t = same_from_push c.pop.new.self.items e.0 c.in-Some-Made.field-0 (parts.Taken e.1 (c.args.place + 1)) (sym c.in-Some-Made.ensures.items ∙ e.2) in
    let other : parts.Made c.in-Some-Made.field-0-0 ≡ parts.Taken e.1 (c.args.place + 1) = sym c.in-Some-Made.field-0-is ∙ t.1 in
    cc

pub returns : goal.returns
returns g c = λ front from e.
    let taken = c.in-Some-Taken in
    let place = c.args.place in
    let t = same_from_push c.pop.new.self.items front taken.field-0 (parts.Taken from (place + 1)) (sym taken.ensures.items ∙ e) in
    let one : parts.Taken taken.from taken.field-0-1 ≡ parts.Taken from (place + 1) = sym taken.field-0-is ∙ t.1 in
    let begins : taken.from ≡ from = cc in
    let less : from < place = omega (arith, c.if-from-place.false, begins) in
    let some : nat_lt from place ≡ true = grind (arith, nat_tests) in
    let rest : c.pop.new.self.items ++ parts.Taken taken.from place ∷ [] ≡ front ++ stretch_of from place = rw (t.0, begins, some) refl in
    c.in_ok-push-in-Some-Taken.ensures.items ∙ rest
