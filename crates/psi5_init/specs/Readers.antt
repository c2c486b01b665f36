-- Which codes a reader of codes stands for; this project's own.
use Rattle.std.specs.Prelude.{◌≡◌, ℕ, ◌≤◌, List, length}
use Rattle.line_base.specs.Readers.{GoesOn}
use Rattle.psi5_init.specs.declared.code.Code.{Code}
use Rattle.psi5_init.specs.declared.reader.InitReader.{InitReader}
use Rattle.psi5_init.specs.Readings.{init_reading}
use Rattle.psi5_init.specs.Standings.{steps_from}
use Rattle.psi5_init.specs.Kept.{blocks_in, standing_of}

-- the reader reads blocks that are sent so many times and stands for these codes: whatever comes next, the steps are those of these codes and then those that what it has kept leads to
pub record StandsFor (repeats : ℕ) (reader : InitReader) (seen : List Code) : Type 0 where
  pub same_repeats : reader.0 ≡ repeats
  pub goes_on : GoesOn (init_reading repeats) seen (steps_from repeats (standing_of reader.1))
  pub bounded : blocks_in reader.1 ≤ length seen
