-- The bursts and their first edges.
use Rattle.psi5_tolerance.proofs.DataLines.{free-bursts, free-starts, line-bursts, line-starts}
use Rattle.psi5_tolerance.proofs.meaning.honest_bursts_are_read.Goals as goal

pub returns : goal.returns
returns c = record { bursts = free-bursts; starts = free-starts; line_bursts = line-bursts; line_starts = line-starts }
