-- Which statuses a reader of serial messages stands for; this project's own.
use Rattle.std.specs.Prelude.{ℕ, List}
use Rattle.line_base.specs.Standing.{StandsFor}
use Rattle.sent_serial.specs.declared.short.ShortReader.{ShortReader}
use Rattle.sent_serial.specs.declared.enhanced.EnhancedReader.{EnhancedReader}
use Rattle.sent_serial.specs.Short.{short_found}
use Rattle.sent_serial.specs.Enhanced.{enhanced_found}
use Rattle.sent_serial.specs.Kept.{AgreesShort, AgreesEnhanced}

-- the reader stands for these statuses: whatever comes next, the steps are those of these statuses and then those that the statuses which it has kept lead to
abbrev pub StandsForShort : ShortReader → List ℕ → Type 0
StandsForShort reader seen = StandsFor short_found tt (AgreesShort reader) seen

-- the reader stands for these statuses: whatever comes next, the steps are those of these statuses and then those that the statuses which it has kept lead to
abbrev pub StandsForEnhanced : EnhancedReader → List ℕ → Type 0
StandsForEnhanced reader seen = StandsFor enhanced_found tt (AgreesEnhanced reader) seen
