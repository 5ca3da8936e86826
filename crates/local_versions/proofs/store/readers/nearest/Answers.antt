use Rattle.std.proofs.Common.{None, Some, sym, ap, ◌∙◌, arith}
use Rattle.local_versions.specs.Store.{Version, read_by}
use Rattle.version_views.proofs.OptionLemmas.{at_some, some_mapped}
use Rattle.local_versions.proofs.store.readers.nearest.Goals as goal
use Rattle.local_versions.proofs.store.readers.nearest.Goals.{in-Some+then-number+then-is_later, in-Some+else-number, in_default}

pub loop-place-preserved : goal.loop-place-preserved
loop-place-preserved g c =
    elim c.match-readers-place.branch [
      | in-Some+then-number+then-is_later w ↦
          let there = at_some c.loop-place.place c.args.readers.now (Some w.in-Some.opened) None c.loop-place-test.true (sym w.in-Some.is) in
          rw w.found-is record {
            version = w.seen-version.ensures.version;
            reader = (c.loop-place.place, some_mapped (read_by c.args.w.now) c.args.readers.now c.loop-place.place w.in-Some.opened there ∙ ap (λ (v : Version _ _). Some (Some v)) (sym w.seen-version.ensures.is));
            number = omega (arith, w.number.ensures, w.if-number.true);
          }
      | in-Some+else-number w ↦ rw w.found-is c.loop-place.invariant
      | in_default w ↦ rw w.found-is c.loop-place.invariant
    ]
