-- The law is a lemma.
use Rattle.sent_frame.specs.Pulses.{pulses_of}
use Rattle.sent_frame.proofs.Meanings.{reports_mean}
use Rattle.sent_frame.proofs.meaning.reports_have_meaning.Goals as goal

pub returns : goal.returns
returns c = λ setup edges. reports_mean setup (pulses_of edges)
