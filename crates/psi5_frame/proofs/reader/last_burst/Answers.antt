-- No burst is open, or one is.
use Rattle.psi5_frame.proofs.Leading.{ended-fresh, ended-none, ended-open}
use Rattle.psi5_frame.proofs.reader.last_burst.Goals as goal

pub returns-in-Fresh : goal.returns-in-Fresh
returns-in-Fresh c = λ seen agrees. ended-fresh c.args.setup.now seen (rw c.in-Fresh.is at agrees)

pub returns-in-Skipping : goal.returns-in-Skipping
returns-in-Skipping c = λ seen agrees. ended-none c.args.setup.now seen (rw c.in-Skipping.is at agrees)

pub returns-in-Open : goal.returns-in-Open
returns-in-Open c = λ seen agrees. ended-open c.args.setup.now c.in-Open.burst c.concluded.result seen (rw c.in-Open.is at agrees) c.concluded.ensures
