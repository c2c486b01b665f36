-- What stands behind the keys of a SPEC: numbers and words; this project's own.
use Rattle.std.specs.Prelude.{ℕ, ◌==◌, ◌||◌, Bool, true, false, option_map, Option, None, Some, List, [], ◌∷◌, if◌then◌else◌, codes}
use Rattle.line_base.specs.Texts.{◌>>=◌, looked_up, number_in}
use Rattle.line_base.specs.declared.edge.Span.{Span}
use Rattle.psi5_frame.specs.declared.setup.Check.{Check}
use Rattle.psi5_frame.specs.declared.setup.Check.TheVariants as checks
use Rattle.psi5_downlink.specs.declared.down.Form.{Form}
use Rattle.psi5_downlink.specs.declared.down.Form.TheVariants as forms
use Rattle.sent_frame.specs.declared.crc.Cover.{Cover}
use Rattle.sent_frame.specs.declared.crc.Cover.TheVariants as covers
use Rattle.sent_frame.specs.declared.setup.CrcForm.{CrcForm}
use Rattle.sent_frame.specs.declared.setup.CrcForm.TheVariants as crcs
use Rattle.sent_fast.specs.declared.layout.Layout.{Layout}
use Rattle.sent_fast.specs.declared.layout.Layout.TheVariants as layouts
use Rattle.receiver_core.specs.declared.setup.Serial.{Serial}
use Rattle.receiver_core.specs.declared.setup.Serial.TheVariants as serials
use Rattle.link_words.specs.Spans.{number_within, span_in, spans_in}
use Rattle.link_words.specs.declared.value.Values.{Values}
use Rattle.link_words.specs.declared.value.Values.TheVariants as values
use Rattle.link_words.specs.declared.value.Value.{Value}
use Rattle.link_words.specs.declared.value.Value.TheVariants as value

-- one of two numbers, as decimal digits write it
unfoldable pub number_either : ℕ → ℕ → List ℕ → Option ℕ
number_either one other text = do
  number ← number_in text
  if number == one || number == other then Some number else None

-- the bit time in ns that the word for its rate, in thousands of bits a second, names: no other spelling of the number is the word
unfoldable pub rate_named : List ℕ → Option ℕ
rate_named text = looked_up ((codes "125", 8000) ∷ (codes "189", 5300) ∷ []) text

-- the check of a PSI5 frame that a text names
unfoldable pub check_named : List ℕ → Option Check
check_named text = looked_up ((codes "parity", checks.Parity) ∷ (codes "crc", checks.Crc) ∷ []) text

-- the form of a downlink frame that a text names
unfoldable pub form_named : List ℕ → Option Form
form_named text = looked_up ((codes "short", forms.Short) ∷ (codes "long", forms.Long) ∷ (codes "xlong", forms.XLong) ∷ []) text

-- what the CRC of an SPC answer covers, as a text names it
unfoldable pub cover_named : List ℕ → Option Cover
cover_named text = looked_up ((codes "data", covers.Nibbles) ∷ (codes "status", covers.Status) ∷ []) text

-- the answer that a text spells
unfoldable pub answer_in : List ℕ → Option Bool
answer_in text = looked_up ((codes "no", false) ∷ (codes "yes", true) ∷ []) text

-- the form of the CRC that a text names
unfoldable pub crc_named : List ℕ → Option CrcForm
crc_named text = looked_up ((codes "new", crcs.New) ∷ (codes "legacy", crcs.Legacy) ∷ []) text

-- the layout of the data nibbles that a text names
unfoldable pub layout_named : List ℕ → Option Layout
layout_named text = looked_up
    ((codes "raw", layouts.Raw)
    ∷ (codes "one12", layouts.One12)
    ∷ (codes "two12", layouts.Two12)
    ∷ (codes "secure12", layouts.Secure12)
    ∷ (codes "split16_8", layouts.Split16x8)
    ∷ []) text

-- the serial messages that a text names
unfoldable pub serial_named : List ℕ → Option Serial
serial_named text = looked_up ((codes "none", serials.Absent) ∷ (codes "short", serials.Short) ∷ (codes "enhanced", serials.Enhanced) ∷ []) text

-- the value that a text writes, if it is one of these: a number or a time from the lowest to the highest, one of two numbers, spans, or one of the words
unfoldable pub value_in : Values → List ℕ → Option Value
value_in (values.Count low high) text = option_map value.Count (number_within low high text)
value_in (values.Time low high) text = option_map value.Time (number_within low high text)
value_in (values.Either one other) text = option_map value.Count (number_either one other text)
value_in (values.Span most) text = option_map value.Span (span_in most text)
value_in (values.Spans most) text = option_map value.Spans (spans_in most text)
value_in values.Rate text = option_map value.Time (rate_named text)
value_in values.Check text = option_map value.Check (check_named text)
value_in values.Form text = option_map value.Form (form_named text)
value_in values.Cover text = option_map value.Cover (cover_named text)
value_in values.Answer text = option_map value.Answer (answer_in text)
value_in values.Crc text = option_map value.Crc (crc_named text)
value_in values.Layout text = option_map value.Layout (layout_named text)
value_in values.Serial text = option_map value.Serial (serial_named text)

-- the number that a value is
abbrev pub as_count : Value → Option ℕ
as_count (value.Count number) = Some number
as_count _ = None

-- the time that it is
abbrev pub as_time : Value → Option ℕ
as_time (value.Time time) = Some time
as_time _ = None

-- the answer that it is
abbrev pub as_answer : Value → Option Bool
as_answer (value.Answer answer) = Some answer
as_answer _ = None

-- the form of the CRC that it is
abbrev pub as_crc : Value → Option CrcForm
as_crc (value.Crc form) = Some form
as_crc _ = None

-- the layout that it is
abbrev pub as_layout : Value → Option Layout
as_layout (value.Layout layout) = Some layout
as_layout _ = None

-- the serial messages that it is
abbrev pub as_serial : Value → Option Serial
as_serial (value.Serial serial) = Some serial
as_serial _ = None

-- the span that it is
abbrev pub as_span : Value → Option Span
as_span (value.Span span) = Some span
as_span _ = None

-- the spans that it is
abbrev pub as_spans : Value → Option (List Span)
as_spans (value.Spans spans) = Some spans
as_spans _ = None

-- the check of a PSI5 frame that it is
abbrev pub as_check : Value → Option Check
as_check (value.Check check) = Some check
as_check _ = None

-- the form of a downlink frame that it is
abbrev pub as_form : Value → Option Form
as_form (value.Form form) = Some form
as_form _ = None

-- what the CRC of an SPC answer covers, where it says that
abbrev pub as_cover : Value → Option Cover
as_cover (value.Cover cover) = Some cover
as_cover _ = None
