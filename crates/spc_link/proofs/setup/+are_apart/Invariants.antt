-- Windows that are left.
use Rattle.std.proofs.Common.{length}
use Rattle.spc_link.proofs.setup.+are_apart.Given as goal

abbrev pub decreases-are_apart : goal.decreases-are_apart
decreases-are_apart c = length c.windows.now
