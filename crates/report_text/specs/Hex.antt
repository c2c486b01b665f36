-- Hexadecimal digits in a line, in upper case; this project's own.
use Rattle.std.specs.Prelude.{ℕ, zero, suc, ◌+◌, ◌-◌, ◌*◌, ◌/◌, ◌%◌, ◌==◌, ◌&&◌, nat_le, Result, Ok, Err, List, [], ◌∷◌, ◌++◌, codes, length, map, slice_index, if◌then◌else◌}
use Rattle.line_base.specs.Texts.{is_digit}
use Rattle.report_text.specs.declared.fault.TextFault.{TextFault}
use Rattle.report_text.specs.declared.fault.TextFault.TheVariants.{Number, Range}
use Rattle.line_base.specs.Steps.{◌>>=◌, check}

-- a nibble as a hexadecimal digit
abbrev pub hex_digit : ℕ → ℕ
hex_digit nibble = slice_index (codes "0123456789ABCDEF") nibble

-- so many lowest nibbles of a number, from the highest of them down
unfoldable pub nibbles_of : ℕ → ℕ → List ℕ
nibbles_of zero number = []
nibbles_of (suc width) number = nibbles_of width (number / 16) ++ (number % 16 ∷ [])

-- a number in so many hexadecimal digits
abbrev pub hex_text : ℕ → ℕ → List ℕ
hex_text width number = map hex_digit (nibbles_of width number)

-- the nibble that a hexadecimal digit spells, or Number
unfoldable pub nibble_in : ℕ → Result ℕ TextFault
nibble_in byte = if is_digit byte then Ok (byte - 48) else (if nat_le 65 byte && nat_le byte 70 then Ok (byte - 55) else Err Number)

-- the nibbles that all these digits spell, or Number
unfoldable pub nibbles_in : List ℕ → Result (List ℕ) TextFault
nibbles_in [] = Ok []
nibbles_in (digit ∷ digits) = do
  nibble ← nibble_in digit
  nibbles ← nibbles_in digits
  Ok (nibble ∷ nibbles)

-- the number whose nibbles are those of `before` and then these
abbrev pub number_with : ℕ → List ℕ → ℕ
number_with before [] = before
number_with before (nibble ∷ nibbles) = number_with (before * 16 + nibble) nibbles

-- the number that a field of so many hexadecimal digits spells; Number for another spelling
unfoldable pub hex_in : ℕ → List ℕ → Result ℕ TextFault
hex_in width field = do
  _ ← check (length field == width) Number
  nibbles ← nibbles_in field
  Ok (number_with 0 nibbles)

-- such a number of at most `most`; Range above it
unfoldable pub hex_to : ℕ → ℕ → List ℕ → Result ℕ TextFault
hex_to width most field = do
  number ← hex_in width field
  _ ← check (nat_le number most) Range
  Ok number

-- the data nibbles that a field of 1 to 6 hexadecimal digits spells; Number for another spelling
unfoldable pub data_in : List ℕ → Result (List ℕ) TextFault
data_in field = do
  _ ← check (nat_le 1 (length field) && nat_le (length field) 6) Number
  nibbles_in field
