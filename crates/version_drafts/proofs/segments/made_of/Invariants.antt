use Rattle.std.proofs.Common.{◌≡◌, ◌≤◌, take}
use Rattle.version_drafts.specs.Parts.{made_in}
use Rattle.version_drafts.proofs.segments.made_of.Given as goal

abbrev pub invariant-loop-part : goal.invariant-loop-part
invariant-loop-part g l = record {
  here : l.made ≡ made_in (take l.part-index l.parts);
  upto : l.made ≤ l.part-index;
}
