use Rattle.version_tests.proofs.schedule.hold_up.Goals as goal

pub end_reading-requires-clause-reader : goal.end_reading-requires-clause-reader
end_reading-requires-clause-reader g c = c.play-beside.ensures.reader c.requires.reader

pub returns-clause-counted : goal.returns-clause-counted
returns-clause-counted g c = λ hand h. c.end_reading.ensures.counted hand (c.play-beside.ensures.counted hand h)
