use Rattle.std.specs.Prelude.{◌≡◌, ◌++◌, IsSome, take}
use Rattle.shared_index.specs.Participants.{reads_in}
use Rattle.shared_index.specs.Transacting.{queries_of}
use Rattle.shared_index.proofs.participant.Participant.ask_all.Given as goal

abbrev pub invariant-loop-query : goal.invariant-loop-query
invariant-loop-query g l = record {
  there : IsSome l.self;
  asked : queries_of (reads_in l.self).reads ≡ queries_of (reads_in l.fn.self).reads ++ take l.query-index l.queries;
}
