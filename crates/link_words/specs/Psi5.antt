-- The keys of a PSI5 channel, and the channel that is made of them (PSI5 V2.1, base standard); the keys' names, ranges and usual values are this project's own.
use Rattle.std.specs.Prelude.{ℕ, ◌/◌, ok_or, unwrap_or, is_none, Option, None, Some, Result, Ok, Err, List, [], ◌∷◌, codes}
use Rattle.line_base.specs.declared.edge.Span.{Span}
use Rattle.line_base.specs.declared.faults.WordFault.{WordFault}
use Rattle.line_base.specs.declared.faults.WordFault.TheVariants.{Absent, Setup}
use Rattle.psi5_frame.specs.declared.setup.Parts.{Parts}
use Rattle.psi5_frame.specs.declared.setup.Check.{Check}
use Rattle.psi5_frame.specs.declared.setup.Check.TheVariants.{Parity}
use Rattle.psi5_frame.specs.Setup.{Settings, fault_of}
use Rattle.psi5_slots.specs.Setup as slots
use Rattle.receiver_core.specs.declared.setup.SyncSlots.{SyncSlots}
use Rattle.receiver_core.specs.declared.setup.ChannelSetup.{ChannelSetup}
use Rattle.receiver_core.specs.declared.setup.ChannelSetup.TheVariants.{Psi5}
use Rattle.link_words.specs.declared.value.Values.TheVariants as values
use Rattle.link_words.specs.declared.setting.Key.TheVariants as key
use Rattle.link_words.specs.declared.setting.Row.{Row}
use Rattle.link_words.specs.declared.setting.Setting.{Setting}
use Rattle.line_base.specs.Texts.{looked_up}
use Rattle.line_base.specs.Steps.{◌>>=◌, check}
use Rattle.link_words.specs.Settings.{row, count_at, time_at, spans_at, check_at}

-- the table of the keys by their names, with widths in bits and with times and windows in ns: the row that a text names
unfoldable pub psi5_row : List ℕ → Option Row
psi5_row name = looked_up
    ((codes "line", row key.Line (values.Count 0 15))
    ∷ (codes "rate", row key.Rate values.Rate)
    ∷ (codes "jitter", row key.Jitter (values.Time 1 500))
    ∷ (codes "m", row key.Messaging (values.Either 0 2))
    ∷ (codes "f", row key.Control (values.Count 0 4))
    ∷ (codes "s", row key.Status (values.Count 0 2))
    ∷ (codes "b", row key.DataB (values.Count 0 12))
    ∷ (codes "a", row key.DataA (values.Count 10 24))
    ∷ (codes "check", row key.Check values.Check)
    ∷ (codes "sync", row key.Sync (values.Count 0 15))
    ∷ (codes "slots", row key.Slots (values.Spans 10000000))
    ∷ (codes "init", row key.Init (values.Count 1 16))
    ∷ []) name

-- the nominal bit time in ns: 8,000 where no rate is set
abbrev pub bit_of : List Setting → ℕ
bit_of settings = unwrap_or (time_at key.Rate settings) 8000

-- the jitter of an edge in ns: a sixteenth of the bit time, rounded down, where none is set
abbrev pub jitter_of : List Setting → ℕ
jitter_of settings = unwrap_or (time_at key.Jitter settings) (bit_of settings / 16)

-- the widths of the parts of a frame: 10 bits of data A where nothing is said of them
abbrev pub parts_of : List Setting → Parts
parts_of settings = record {
  m = unwrap_or (count_at key.Messaging settings) 0;
  f = unwrap_or (count_at key.Control settings) 0;
  s = unwrap_or (count_at key.Status settings) 0;
  b = unwrap_or (count_at key.DataB settings) 0;
  a = unwrap_or (count_at key.DataA settings) 10;
}

-- what a frame ends with: a parity bit where nothing is said of it
abbrev pub frame_check_of : List Setting → Check
frame_check_of settings = unwrap_or (check_at key.Check settings) Parity

-- the frames that are set; Setup where their bit time, parts and jitter are refused
unfoldable pub psi5_frames : List Setting → Result Settings WordFault
psi5_frames settings = do
  _ ← check (is_none (fault_of (bit_of settings) (parts_of settings) (jitter_of settings))) Setup
  Ok (record { bit = bit_of settings; parts = parts_of settings; check = frame_check_of settings; jitter = jitter_of settings })

-- the sync line and the slots of these frames: none where neither is set; Setup where one is set without the other, and where the windows are refused
unfoldable pub psi5_slots : Settings → Option ℕ → Option (List Span) → Result (Option SyncSlots) WordFault
psi5_slots frame None None = Ok None
psi5_slots frame None (Some windows) = Err Setup
psi5_slots frame (Some line) None = Err Setup
psi5_slots frame (Some line) (Some windows) = do
  _ ← check (is_none (slots.fault_of windows frame)) Setup
  Ok (Some (record { line = line; setup = record { windows = windows; frame = frame } }))

-- the channel that is set: Absent without a line; else Setup where its frames or its slots are refused
unfoldable pub psi5_channel : List Setting → Result ChannelSetup WordFault
psi5_channel settings = do
  line ← ok_or (count_at key.Line settings) Absent
  frame ← psi5_frames settings
  slots ← psi5_slots frame (count_at key.Sync settings) (spans_at key.Slots settings)
  Ok (Psi5 line frame slots (count_at key.Init settings))
