-- Decimal numbers in a line; this project's own.
use Rattle.std.specs.Prelude.{ℕ, ◌+◌, ◌-◌, ◌*◌, ◌/◌, ◌%◌, ◌^◌, ◌==◌, ◌≤◌, ◌&&◌, nat_lt, nat_le, Bool, false, not, ok_or, Result, Ok, Err, List, [], ◌∷◌, if◌then◌else◌}
use Rattle.line_base.specs.Texts.{is_digit, number_in}
use Rattle.report_text.specs.declared.fault.TextFault.{TextFault}
use Rattle.report_text.specs.declared.fault.TextFault.TheVariants.{Number, Range}
use Rattle.line_base.specs.Steps.{◌>>=◌, check}

-- a number below 100 in two decimal digits
abbrev pub two_digits : ℕ → List ℕ
two_digits number = (48 + number / 10) ∷ (48 + number % 10) ∷ []

-- the value of a decimal digit, or Number
abbrev pub digit_in : ℕ → Result ℕ TextFault
digit_in byte = if is_digit byte then Ok (byte - 48) else Err Number

-- the channel, 0 to 15, that a field of two decimal digits spells; Number for another spelling, Range above 15
unfoldable pub channel_in : List ℕ → Result ℕ TextFault
channel_in (first ∷ second ∷ []) = do
  tens ← digit_in first
  ones ← digit_in second
  _ ← check (nat_lt (10 * tens + ones) 16) Range
  Ok (10 * tens + ones)
channel_in _ = Err Number

-- the field begins with a zero that others follow
abbrev pub has_leading_zero : List ℕ → Bool
has_leading_zero [] = false
has_leading_zero (byte ∷ []) = false
has_leading_zero (byte ∷ next ∷ bytes) = byte == 48

-- the number below 2^64 that decimal digits without a leading zero spell; Number for another spelling, Range from 2^64 on
unfoldable pub number_spelled : List ℕ → Result ℕ TextFault
number_spelled field = do
  number ← ok_or (number_in field) Number
  _ ← check (not (has_leading_zero field)) Number
  _ ← check (nat_lt number (2 ^ 64)) Range
  Ok number

-- such a number from 1 on; Range for 0
unfoldable pub count_spelled : List ℕ → Result ℕ TextFault
count_spelled field = do
  count ← number_spelled field
  _ ← check (nat_le 1 count) Range
  Ok count

-- a number from the lowest to the highest of these
abbrev pub IsBetween : ℕ → ℕ → ℕ → Type 0
IsBetween low high number = (low ≤ number) × (number ≤ high)

-- such a number from `low` to `high`; Range outside
unfoldable pub number_between : ℕ → ℕ → List ℕ → Result ℕ TextFault
number_between low high field = do
  number ← number_spelled field
  _ ← check (nat_le low number && nat_le number high) Range
  Ok number
