-- The keys of an SPC channel, and the channel that is made of them; the keys' names, ranges and usual values are this project's own, and no product's table is meant.
use Rattle.std.specs.Prelude.{ℕ, ok_or, unwrap_or, is_none, Option, Result, Ok, List, [], ◌∷◌, codes}
use Rattle.line_base.specs.declared.edge.Span.{Span}
use Rattle.line_base.specs.declared.faults.WordFault.{WordFault}
use Rattle.line_base.specs.declared.faults.WordFault.TheVariants.{Absent, Setup}
use Rattle.sent_frame.specs.declared.crc.Cover.{Cover}
use Rattle.sent_frame.specs.declared.crc.Cover.TheVariants.{Nibbles}
use Rattle.spc_link.specs.Setup.{Settings, fault_of}
use Rattle.receiver_core.specs.declared.setup.ChannelSetup.{ChannelSetup}
use Rattle.receiver_core.specs.declared.setup.ChannelSetup.TheVariants.{Spc}
use Rattle.link_words.specs.declared.value.Values.TheVariants as values
use Rattle.link_words.specs.declared.setting.Key.TheVariants as key
use Rattle.link_words.specs.declared.setting.Row.{Row}
use Rattle.link_words.specs.declared.setting.Setting.{Setting}
use Rattle.line_base.specs.Texts.{looked_up}
use Rattle.line_base.specs.Steps.{◌>>=◌, check}
use Rattle.link_words.specs.Settings.{row, count_at, time_at, span_at, spans_at, cover_at}
use Rattle.link_words.specs.Sent.{sent_frames}

-- the table of the keys by their names, with windows, delay and quiet time in tenths of a tick and other times in ns: the row that a text names
unfoldable pub spc_row : List ℕ → Option Row
spc_row name = looked_up
    ((codes "line", row key.Line (values.Count 0 15))
    ∷ (codes "tick", row key.Tick (values.Time 3000 90000))
    ∷ (codes "jitter", row key.Jitter (values.Time 1 9000))
    ∷ (codes "nibbles", row key.Nibbles (values.Count 1 6))
    ∷ (codes "crc", row key.Crc values.Crc)
    ∷ (codes "cover", row key.Cover values.Cover)
    ∷ (codes "windows", row key.Windows (values.Spans 10000))
    ∷ (codes "delay", row key.Delay (values.Span 10000))
    ∷ (codes "quiet", row key.Quiet (values.Time 0 10000))
    ∷ []) name

-- a span from one number to another
abbrev pub span : ℕ → ℕ → Span
span low high = record { low = low; high = high }

-- the trigger windows in tenths of a tick: four where none are set
abbrev pub windows_of : List Setting → List Span
windows_of settings = unwrap_or (spans_at key.Windows settings) (span 100 160 ∷ span 210 290 ∷ span 350 450 ∷ span 520 660 ∷ [])

-- the delay of an answer in tenths of a tick: 40 to 400 where none is set
abbrev pub delay_of : List Setting → Span
delay_of settings = unwrap_or (span_at key.Delay settings) (span 40 400)

-- the quiet time before a trigger in tenths of a tick: 800 where none is set
abbrev pub quiet_of : List Setting → ℕ
quiet_of settings = unwrap_or (time_at key.Quiet settings) 800

-- what the CRC covers: the data nibbles alone where nothing is said of it
abbrev pub cover_of : List Setting → Cover
cover_of settings = unwrap_or (cover_at key.Cover settings) Nibbles

-- the transactions that are set, with these windows; Setup where their frames, their windows, their delay or their quiet time are refused
unfoldable pub spc_with : List Setting → List Span → Result Settings WordFault
spc_with settings windows = do
  sent ← sent_frames settings
  _ ← check (is_none (fault_of sent windows (delay_of settings) (quiet_of settings))) Setup
  Ok (record { sent = sent; windows = windows; delay = delay_of settings; quiet = quiet_of settings; cover = cover_of settings })

-- the channel that is set: Absent without a line; else Setup where its transactions are refused
unfoldable pub spc_channel : List Setting → Result ChannelSetup WordFault
spc_channel settings = do
  line ← ok_or (count_at key.Line settings) Absent
  setup ← spc_with settings (windows_of settings)
  Ok (Spc line setup)
