-- Which rises a reader of downlink frames stands for; this project's own.
use Rattle.std.specs.Prelude.{◌≡◌, List}
use Rattle.line_base.specs.Readers.{GoesOn}
use Rattle.psi5_downlink.specs.declared.reader.ToothReader.{ToothReader}
use Rattle.psi5_downlink.specs.Setup.{Settings}
use Rattle.psi5_downlink.specs.Rises.{Rise}
use Rattle.psi5_downlink.specs.Reading.{tooth_reading}
use Rattle.psi5_downlink.specs.Kept.{intervals_since, reading_on}

-- the reader has this setup and stands for these rises: whatever comes next, the steps are those of these rises and then those that what it has kept leads to
pub record StandsFor (setup : Settings) (reader : ToothReader) (seen : List Rise) : Type 0 where
  pub same_setup : reader.0 ≡ setup
  pub goes_on : GoesOn (tooth_reading setup) seen (λ more. reading_on setup.form reader.2 (intervals_since setup.period reader.1 more))
