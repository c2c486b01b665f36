use Rattle.std.proofs.Common.{drop}
use Rattle.report_text.proofs.Reading.{NumberSoFar}
use Rattle.report_text.proofs.hex.number_of.Given as goal

abbrev pub invariant-loop-digit : goal.invariant-loop-digit
invariant-loop-digit l = NumberSoFar l.field l.number l.digit-index (drop l.digit-index l.field)
