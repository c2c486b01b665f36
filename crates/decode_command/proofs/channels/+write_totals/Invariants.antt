use Rattle.std.proofs.Common.{length}
use Rattle.decode_command.proofs.channels.+write_totals.Given as goal

abbrev pub decreases-write_totals : goal.decreases-write_totals
decreases-write_totals g l = length l.channels.now
