-- The law is a lemma on each form.
use Rattle.std.proofs.Common.{[], ◌∷◌, ◌++◌}
use Rattle.line_base.proofs.ReportMeanings.{last-have}
use Rattle.sent_serial.specs.Short.{short_reading}
use Rattle.sent_serial.specs.Enhanced.{enhanced_reading}
use Rattle.sent_serial.specs.Meanings.{EnhancedMeans, ShortMeans}
use Rattle.sent_serial.proofs.EnhancedMeanings.{enhanced-grows}
use Rattle.sent_serial.proofs.ShortMeanings.{short-grows}
use Rattle.sent_serial.proofs.meaning.steps_have_meaning.Goals as goal

pub returns-clause-short : goal.returns-clause-short
returns-clause-short c = λ before status.
    last-have (ShortMeans (before ++ status ∷ [])) (short_reading before) (short_reading (before ++ status ∷ [])) (short-grows before status)

pub returns-clause-enhanced : goal.returns-clause-enhanced
returns-clause-enhanced c = λ before status.
    last-have (EnhancedMeans (before ++ status ∷ [])) (enhanced_reading before) (enhanced_reading (before ++ status ∷ [])) (enhanced-grows before status)
