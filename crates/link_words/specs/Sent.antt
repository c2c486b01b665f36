-- The keys of a SENT channel, and the channel that is made of them (SAE J2716); the keys' names, ranges and usual values are this project's own.
use Rattle.std.specs.Prelude.{ℕ, ◌/◌, false, ok_or, unwrap_or, is_none, Option, Result, Ok, List, [], ◌∷◌, codes}
use Rattle.line_base.specs.declared.faults.WordFault.{WordFault}
use Rattle.line_base.specs.declared.faults.WordFault.TheVariants.{Absent, Setup}
use Rattle.sent_frame.specs.declared.setup.CrcForm.TheVariants.{New}
use Rattle.sent_frame.specs.Setup.{Settings, fault_of}
use Rattle.sent_fast.specs.declared.layout.Layout.TheVariants.{Raw}
use Rattle.receiver_core.specs.declared.setup.Serial.TheVariants as serials
use Rattle.receiver_core.specs.declared.setup.ChannelSetup.{ChannelSetup}
use Rattle.receiver_core.specs.declared.setup.ChannelSetup.TheVariants.{Sent}
use Rattle.link_words.specs.declared.value.Values.TheVariants as values
use Rattle.link_words.specs.declared.setting.Key.TheVariants as key
use Rattle.link_words.specs.declared.setting.Row.{Row}
use Rattle.link_words.specs.declared.setting.Setting.{Setting}
use Rattle.line_base.specs.Texts.{looked_up}
use Rattle.link_words.specs.Settings.{row, count_at, time_at, answer_at, crc_at, layout_at, serial_at}
use Rattle.line_base.specs.Steps.{◌>>=◌, check}

-- the table of the keys by their names, with times in ns: the row that a text names
unfoldable pub sent_row : List ℕ → Option Row
sent_row name = looked_up
    ((codes "line", row key.Line (values.Count 0 15))
    ∷ (codes "tick", row key.Tick (values.Time 3000 90000))
    ∷ (codes "jitter", row key.Jitter (values.Time 1 9000))
    ∷ (codes "nibbles", row key.Nibbles (values.Count 1 6))
    ∷ (codes "pause", row key.Pause values.Answer)
    ∷ (codes "crc", row key.Crc values.Crc)
    ∷ (codes "layout", row key.Layout values.Layout)
    ∷ (codes "serial", row key.Serial values.Serial)
    ∷ []) name

-- the nominal tick in ns: 3,000 where none is set
abbrev pub tick_of : List Setting → ℕ
tick_of settings = unwrap_or (time_at key.Tick settings) 3000

-- the jitter of an edge in ns: a tenth of the tick, rounded down, where none is set
abbrev pub jitter_of : List Setting → ℕ
jitter_of settings = unwrap_or (time_at key.Jitter settings) (tick_of settings / 10)

-- the number of data nibbles: 6 where none is set
abbrev pub nibbles_of : List Setting → ℕ
nibbles_of settings = unwrap_or (count_at key.Nibbles settings) 6

-- the frames that are set: without a pause pulse and with the new form of the CRC where nothing is said of these; Setup where their tick, jitter and nibbles are refused
unfoldable pub sent_frames : List Setting → Result Settings WordFault
sent_frames settings = do
  _ ← check (is_none (fault_of (tick_of settings) (jitter_of settings) (nibbles_of settings))) Setup
  Ok (record { tick = tick_of settings; jitter = jitter_of settings; nibbles = nibbles_of settings; pause = unwrap_or (answer_at key.Pause settings) false; crc = unwrap_or (crc_at key.Crc settings) New })

-- the channel that is set: in the layout raw and without serial messages where nothing is said of these; Absent without a line; else Setup where its frames are refused
unfoldable pub sent_channel : List Setting → Result ChannelSetup WordFault
sent_channel settings = do
  line ← ok_or (count_at key.Line settings) Absent
  frames ← sent_frames settings
  Ok (Sent line frames (unwrap_or (layout_at key.Layout settings) Raw) (unwrap_or (serial_at key.Serial settings) serials.Absent))
