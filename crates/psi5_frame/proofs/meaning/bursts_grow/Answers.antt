-- What is told stays.
use Rattle.psi5_frame.proofs.Prefixes.{grows-bursts, grows-starts, grows-at_end}
use Rattle.psi5_frame.proofs.meaning.bursts_grow.Goals as goal

pub returns : goal.returns
returns c = record { bursts = grows-bursts; starts = grows-starts; at_end = grows-at_end }
