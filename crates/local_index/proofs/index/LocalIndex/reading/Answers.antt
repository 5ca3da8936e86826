use Rattle.std.proofs.Common.{refl}
use Rattle.local_index.proofs.index.LocalIndex.reading.Goals as goal

pub returns-in-Ok : goal.returns-in-Ok
returns-in-Ok g c =
    let place = c.into_parts-place.ensures.place in
    let receipt = c.into_parts-place.ensures.receipt in (
      (refl, λ w. refl, tt),
      record { opens = rw (place, receipt) c.in-Ok.ensures.opens; back = rw place c.in-Ok.ensures.back; same_reference = refl; full = c.in-Ok.ensures.full; refused = tt },
    )
