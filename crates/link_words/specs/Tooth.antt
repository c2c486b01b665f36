-- The keys of a tooth-gap downlink, and the channel that is made of them; the keys' names, ranges and usual values are this project's own.
use Rattle.std.specs.Prelude.{ℕ, ◌/◌, ok_or, unwrap_or, is_none, Option, Result, Ok, List, [], ◌∷◌, codes}
use Rattle.line_base.specs.declared.faults.WordFault.{WordFault}
use Rattle.line_base.specs.declared.faults.WordFault.TheVariants.{Absent, Setup}
use Rattle.psi5_downlink.specs.declared.down.Form.{Form}
use Rattle.psi5_downlink.specs.declared.down.Form.TheVariants.{Short}
use Rattle.psi5_downlink.specs.Setup.{Settings, fault_of}
use Rattle.receiver_core.specs.declared.setup.ChannelSetup.{ChannelSetup}
use Rattle.receiver_core.specs.declared.setup.ChannelSetup.TheVariants.{Tooth}
use Rattle.link_words.specs.declared.value.Values.TheVariants as values
use Rattle.link_words.specs.declared.setting.Key.TheVariants as key
use Rattle.link_words.specs.declared.setting.Row.{Row}
use Rattle.link_words.specs.declared.setting.Setting.{Setting}
use Rattle.line_base.specs.Texts.{looked_up}
use Rattle.line_base.specs.Steps.{◌>>=◌, check}
use Rattle.link_words.specs.Settings.{row, count_at, time_at, form_at}

-- the table of the keys by their names, with times in ns: the row that a text names
unfoldable pub tooth_row : List ℕ → Option Row
tooth_row name = looked_up
    ((codes "line", row key.Line (values.Count 0 15))
    ∷ (codes "period", row key.Period (values.Time 10000 10000000))
    ∷ (codes "jitter", row key.Jitter (values.Time 1 625000))
    ∷ (codes "form", row key.Form values.Form)
    ∷ []) name

-- the nominal sync period in ns: 500,000 where none is set
abbrev pub period_of : List Setting → ℕ
period_of settings = unwrap_or (time_at key.Period settings) 500000

-- the jitter of an edge in ns: a sixteenth of the period, rounded down, where none is set
abbrev pub jitter_of : List Setting → ℕ
jitter_of settings = unwrap_or (time_at key.Jitter settings) (period_of settings / 16)

-- the form of a frame: the short one where none is set
abbrev pub form_of : List Setting → Form
form_of settings = unwrap_or (form_at key.Form settings) Short

-- the downlink that is set; Setup where its period and its jitter are refused
unfoldable pub tooth_setup : List Setting → Result Settings WordFault
tooth_setup settings = do
  _ ← check (is_none (fault_of (period_of settings) (jitter_of settings))) Setup
  Ok (record { period = period_of settings; form = form_of settings; jitter = jitter_of settings })

-- the channel that is set: Absent without a line; else Setup where its downlink is refused
unfoldable pub tooth_channel : List Setting → Result ChannelSetup WordFault
tooth_channel settings = do
  line ← ok_or (count_at key.Line settings) Absent
  setup ← tooth_setup settings
  Ok (Tooth line setup)
