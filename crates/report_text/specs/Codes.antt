-- What data A of a burst says, as fields of a line (after the 10-bit codes of PSI5); the words are this project's own.
use Rattle.std.specs.Prelude.{ℕ, ℤ, pos, neg_ℤ, ◌<◌, ◌≤◌, ◌^◌, ◌==◌, nat_le, ok_or, Option, None, Some, Result, Ok, Err, List, [], ◌∷◌, codes, decimal, if◌then◌else◌}
use Rattle.std.specs.Fmt.{signed_decimal}
use Rattle.std.specs.Int.RustNames.{unsigned_abs}
use Rattle.psi5_init.specs.declared.code.Code.{Code}
use Rattle.psi5_init.specs.declared.code.Code.TheVariants as code
use Rattle.report_text.specs.declared.fault.TextFault.{TextFault}
use Rattle.report_text.specs.declared.fault.TextFault.TheVariants.{Word, Number, Range}
use Rattle.line_base.specs.Steps.{◌>>=◌, check}
use Rattle.line_base.specs.Texts.{looked_up}
use Rattle.report_text.specs.Fields.{field_read, value_read}
use Rattle.report_text.specs.Decimals.{IsBetween, number_spelled, number_between}
use Rattle.report_text.specs.Hex.{hex_text, hex_in, hex_to}

-- the fields of a code: a hyphen where there is none, else a word and, for some, a number
abbrev pub code_fields : Option Code → List (List ℕ)
code_fields None = codes "-" ∷ []
code_fields (Some (code.Signal value)) = codes "signal" ∷ signed_decimal value ∷ []
code_fields (Some (code.Block id)) = codes "block" ∷ decimal id ∷ []
code_fields (Some (code.Value value)) = codes "value" ∷ hex_text 1 value ∷ []
code_fields (Some code.Ready) = codes "ready" ∷ []
code_fields (Some code.Busy) = codes "busy" ∷ []
code_fields (Some code.Defect) = codes "defect" ∷ []
code_fields (Some (code.Reserved number)) = codes "reserved" ∷ hex_text 3 number ∷ []

-- a signal from -480 to 480
abbrev pub IsSignal : ℤ → Type 0
IsSignal value = unsigned_abs value ≤ 480

-- a code that has fields: its number is in its range
abbrev pub IsCodeTold : Option Code → Type 0
IsCodeTold None = Unit {0}
IsCodeTold (Some (code.Signal value)) = IsSignal value
IsCodeTold (Some (code.Block id)) = IsBetween 1 16 id
IsCodeTold (Some (code.Value value)) = value < 16 ^ 1
IsCodeTold (Some code.Ready) = Unit {0}
IsCodeTold (Some code.Busy) = Unit {0}
IsCodeTold (Some code.Defect) = Unit {0}
IsCodeTold (Some (code.Reserved number)) = number ≤ 0x3FF

-- the signal below zero that the digits behind a hyphen spell; Number for another spelling and for 0, Range below -480
unfoldable pub negative_in : List ℕ → Result ℤ TextFault
negative_in digits = do
  size ← number_spelled digits
  _ ← check (nat_le 1 size) Number
  _ ← check (nat_le size 480) Range
  Ok (neg_ℤ (pos size))

-- the signal from -480 to 480 that a field spells, with a hyphen where it is below zero; Number for another spelling, Range outside
unfoldable pub signal_in : List ℕ → Result ℤ TextFault
signal_in [] = Err Number
signal_in (byte ∷ bytes) = if byte == 45 then negative_in bytes else (number_between 0 480 (byte ∷ bytes) >>= λ value. Ok (pos value))

-- what is read behind `signal`
unfoldable pub signal_read : List (List ℕ) → Result (Option Code × List (List ℕ)) TextFault
signal_read fields = do
  value ← value_read signal_in fields
  Ok (Some (code.Signal value.0), value.1)

-- what is read behind `block`
unfoldable pub block_read : List (List ℕ) → Result (Option Code × List (List ℕ)) TextFault
block_read fields = do
  id ← value_read (number_between 1 16) fields
  Ok (Some (code.Block id.0), id.1)

-- what is read behind `value`
unfoldable pub nibble_read : List (List ℕ) → Result (Option Code × List (List ℕ)) TextFault
nibble_read fields = do
  value ← value_read (hex_in 1) fields
  Ok (Some (code.Value value.0), value.1)

-- what is read behind `reserved`: any code of 10 bits
unfoldable pub reserved_read : List (List ℕ) → Result (Option Code × List (List ℕ)) TextFault
reserved_read fields = do
  number ← value_read (hex_to 3 0x3FF) fields
  Ok (Some (code.Reserved number.0), number.1)

-- a code behind whose word nothing is read
abbrev pub word_alone : Option Code → List (List ℕ) → Result (Option Code × List (List ℕ)) TextFault
word_alone said fields = Ok (said, fields)

-- the table of the words of a code, with what is read behind each
abbrev pub code_words : List (List ℕ × (List (List ℕ) → Result (Option Code × List (List ℕ)) TextFault))
code_words =
    (codes "-", word_alone None)
    ∷ (codes "signal", signal_read)
    ∷ (codes "block", block_read)
    ∷ (codes "value", nibble_read)
    ∷ (codes "ready", word_alone (Some code.Ready))
    ∷ (codes "busy", word_alone (Some code.Busy))
    ∷ (codes "defect", word_alone (Some code.Defect))
    ∷ (codes "reserved", reserved_read)
    ∷ []

-- what is read behind this word of a code; Word for no word of one
unfoldable pub code_behind : List ℕ → List (List ℕ) → Result (Option Code × List (List ℕ)) TextFault
code_behind word fields = do
  read ← ok_or (looked_up code_words word) Word
  read fields

-- the code that the next fields say
unfoldable pub code_read : List (List ℕ) → Result (Option Code × List (List ℕ)) TextFault
code_read fields = do
  word ← field_read fields
  code_behind word.0 word.1
