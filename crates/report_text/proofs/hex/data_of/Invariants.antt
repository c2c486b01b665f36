use Rattle.std.proofs.Common.{drop}
use Rattle.report_text.proofs.Reading.{NibblesSoFar}
use Rattle.report_text.proofs.hex.data_of.Given as goal

abbrev pub invariant-loop-i : goal.invariant-loop-i
invariant-loop-i l = NibblesSoFar l.field l.cells l.i (drop l.i l.field)
