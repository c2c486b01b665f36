-- Which sync pulses and starts a reader of slots stands for; this project's own.
use Rattle.std.specs.Prelude.{◌≡◌, List}
use Rattle.psi5_slots.specs.declared.reader.SlotReader.{SlotReader}
use Rattle.psi5_slots.specs.Setup.{Settings}
use Rattle.psi5_slots.specs.History.{Event, last_sync, starts_since}
use Rattle.psi5_slots.specs.Kept.{AnsweredSince}

-- the reader has this setup and stands for these sync pulses and starts: it has kept the last sync pulse and which slots were answered since
pub record StandsFor (setup : Settings) (reader : SlotReader) (history : List Event) : Type 0 where
  pub same_setup : reader.0 ≡ setup
  pub last : reader.1 ≡ last_sync history
  pub answered : AnsweredSince setup.windows reader.2 (last_sync history) (starts_since history)
