-- The words that name a channel: a kind, a colon, and pairs of a key and its value; this project's own.
use Rattle.std.specs.Prelude.{ℕ, ◌==◌, not, ok_or, is_none, Option, None, Some, Result, Ok, Err, List, [], ◌∷◌, if◌then◌else◌, codes}
use Rattle.std.specs.List.{slice_split}
use Rattle.line_base.specs.declared.faults.WordFault.{WordFault}
use Rattle.line_base.specs.declared.faults.WordFault.TheVariants as fault
use Rattle.line_base.specs.Texts.{cut_at, looked_up}
use Rattle.receiver_core.specs.declared.setup.ChannelSetup.{ChannelSetup}
use Rattle.receiver_core.specs.Setups.{setup_fault_of}
use Rattle.link_words.specs.declared.setting.Row.{Row}
use Rattle.link_words.specs.declared.setting.Setting.{Setting}
use Rattle.link_words.specs.declared.spec.Kind.{Kind}
use Rattle.link_words.specs.declared.spec.Kind.TheVariants as kind
use Rattle.link_words.specs.Values.{value_in}
use Rattle.link_words.specs.Settings.{has_key}
use Rattle.link_words.specs.Sent.{sent_row, sent_channel}
use Rattle.link_words.specs.Spc.{spc_row, spc_channel}
use Rattle.link_words.specs.Psi5.{psi5_row, psi5_channel}
use Rattle.link_words.specs.Tooth.{tooth_row, tooth_channel}
use Rattle.line_base.specs.Steps.{◌>>=◌, check}

-- the table of the kinds by their names: the kind that a text names; Kind for what is no kind
unfoldable pub kind_in : List ℕ → Result Kind WordFault
kind_in text = ok_or (looked_up
    ((codes "sent", kind.Sent)
    ∷ (codes "spc", kind.Spc)
    ∷ (codes "psi5", kind.Psi5)
    ∷ (codes "tooth", kind.Tooth)
    ∷ []) text) fault.Kind

-- the row of the key that a text names, if the kind has it
abbrev pub row_in : Kind → List ℕ → Option Row
row_in kind.Sent name = sent_row name
row_in kind.Spc name = spc_row name
row_in kind.Psi5 name = psi5_row name
row_in kind.Tooth name = tooth_row name

-- the channel of a kind that is set; Absent where a required key isn't there, else Setup where its setup is refused
abbrev pub channel_set : Kind → List Setting → Result ChannelSetup WordFault
channel_set kind.Sent settings = sent_channel settings
channel_set kind.Spc settings = spc_channel settings
channel_set kind.Psi5 settings = psi5_channel settings
channel_set kind.Tooth settings = tooth_channel settings

-- what a key and its value say behind these settings: Key where there is no value, where the kind hasn't the key, or where the key stands before; else Value where the value is outside its row
unfoldable pub parts_read : Kind → List Setting → List ℕ × Option (List ℕ) → Result Setting WordFault
parts_read kind before (name, None) = Err fault.Key
parts_read kind before (name, Some text) = do
  row ← ok_or (row_in kind name) fault.Key
  _ ← check (not (has_key row.key before)) fault.Key
  value ← ok_or (value_in row.values text) fault.Value
  Ok (record { key = row.key; value = value })

-- what a pair, cut at its first `=` (0x3D), says behind these settings
abbrev pub pair_read : Kind → List Setting → List ℕ → Result Setting WordFault
pair_read kind before pair = parts_read kind before (cut_at 61 pair)

-- the settings of these pairs and of those before, latest first, or the first fault from the left
unfoldable pub pairs_read : Kind → List Setting → List (List ℕ) → Result (List Setting) WordFault
pairs_read kind before [] = Ok before
pairs_read kind before (pair ∷ pairs) = do
  setting ← pair_read kind before pair
  pairs_read kind (setting ∷ before) pairs

-- the pairs of a text: what stands between its commas (0x2C)
abbrev pub pairs_in : List ℕ → List (List ℕ)
pairs_in text = slice_split (λ byte. byte == 44) text

-- the setup, or Setup where it has a fault
unfoldable pub without_fault : ChannelSetup → Result ChannelSetup WordFault
without_fault setup = if is_none (setup_fault_of setup) then Ok setup else Err fault.Setup

-- the channel of a kind and its pairs: Kind where there is no colon; then the fault of the kind, of the pairs, of what they set, and of the channel
unfoldable pub channel_read : List ℕ × Option (List ℕ) → Result ChannelSetup WordFault
channel_read (name, None) = Err fault.Kind
channel_read (name, Some pairs) = do
  kind ← kind_in name
  settings ← pairs_read kind [] (pairs_in pairs)
  setup ← channel_set kind settings
  without_fault setup

-- the channel that a SPEC, cut at its first colon (0x3A), names, or its fault
abbrev pub spec_read : List ℕ → Result ChannelSetup WordFault
spec_read text = channel_read (cut_at 58 text)
