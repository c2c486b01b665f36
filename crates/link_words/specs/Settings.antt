-- What the pairs of a SPEC set, key by key; this project's own.
use Rattle.std.specs.Prelude.{ℕ, ◌==◌, Bool, option_and_then, is_some, Option, None, Some, List, [], ◌∷◌, if◌then◌else◌}
use Rattle.line_base.specs.declared.edge.Span.{Span}
use Rattle.psi5_frame.specs.declared.setup.Check.{Check}
use Rattle.psi5_downlink.specs.declared.down.Form.{Form}
use Rattle.sent_frame.specs.declared.crc.Cover.{Cover}
use Rattle.sent_frame.specs.declared.setup.CrcForm.{CrcForm}
use Rattle.sent_fast.specs.declared.layout.Layout.{Layout}
use Rattle.receiver_core.specs.declared.setup.Serial.{Serial}
use Rattle.link_words.specs.declared.value.Value.{Value}
use Rattle.link_words.specs.declared.value.Values.{Values}
use Rattle.link_words.specs.declared.setting.Row.{Row}
use Rattle.link_words.specs.declared.setting.Key.{Key}
use Rattle.link_words.specs.declared.setting.Key.TheVariants as key
use Rattle.link_words.specs.declared.setting.Setting.{Setting}
use Rattle.link_words.specs.Values.{as_count, as_time, as_answer, as_crc, as_layout, as_serial, as_span, as_spans, as_check, as_form, as_cover}

-- a row of a table: a key and what its value may be
abbrev pub row : Key → Values → Row
row key values = record { key = key; values = values }

-- the place of a key among all keys
unfoldable pub place_of : Key → ℕ
place_of key.Line = 0
place_of key.Tick = 1
place_of key.Jitter = 2
place_of key.Nibbles = 3
place_of key.Pause = 4
place_of key.Crc = 5
place_of key.Layout = 6
place_of key.Serial = 7
place_of key.Rate = 8
place_of key.Messaging = 9
place_of key.Control = 10
place_of key.Status = 11
place_of key.DataB = 12
place_of key.DataA = 13
place_of key.Check = 14
place_of key.Sync = 15
place_of key.Slots = 16
place_of key.Init = 17
place_of key.Cover = 18
place_of key.Windows = 19
place_of key.Delay = 20
place_of key.Quiet = 21
place_of key.Period = 22
place_of key.Form = 23

-- the first value of a key among these settings
unfoldable pub value_at : Key → List Setting → Option Value
value_at key [] = None
value_at key (setting ∷ settings) = if place_of key == place_of setting.key then Some setting.value else value_at key settings

-- the key stands among these settings
abbrev pub has_key : Key → List Setting → Bool
has_key key settings = is_some (value_at key settings)

-- the number that is set for a key
abbrev pub count_at : Key → List Setting → Option ℕ
count_at key settings = option_and_then as_count (value_at key settings)

-- the time that is set for a key, in its unit
abbrev pub time_at : Key → List Setting → Option ℕ
time_at key settings = option_and_then as_time (value_at key settings)

-- the answer that is set for a key
abbrev pub answer_at : Key → List Setting → Option Bool
answer_at key settings = option_and_then as_answer (value_at key settings)

-- the form of the CRC that is set for a key
abbrev pub crc_at : Key → List Setting → Option CrcForm
crc_at key settings = option_and_then as_crc (value_at key settings)

-- the layout that is set for a key
abbrev pub layout_at : Key → List Setting → Option Layout
layout_at key settings = option_and_then as_layout (value_at key settings)

-- the serial messages that are set for a key
abbrev pub serial_at : Key → List Setting → Option Serial
serial_at key settings = option_and_then as_serial (value_at key settings)

-- the span that is set for a key
abbrev pub span_at : Key → List Setting → Option Span
span_at key settings = option_and_then as_span (value_at key settings)

-- the spans that are set for a key
abbrev pub spans_at : Key → List Setting → Option (List Span)
spans_at key settings = option_and_then as_spans (value_at key settings)

-- the check of a PSI5 frame that is set for a key
abbrev pub check_at : Key → List Setting → Option Check
check_at key settings = option_and_then as_check (value_at key settings)

-- the form of a downlink frame that is set for a key
abbrev pub form_at : Key → List Setting → Option Form
form_at key settings = option_and_then as_form (value_at key settings)

-- what the CRC covers, where it is set for a key
abbrev pub cover_at : Key → List Setting → Option Cover
cover_at key settings = option_and_then as_cover (value_at key settings)
