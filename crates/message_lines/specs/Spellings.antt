-- How the values of a message line are spelled; this project's own.
use Rattle.std.specs.Prelude.{ℕ, ◌==◌, Bool, not, ok_or, Option, None, Some, Result, Ok, Err, List, [], ◌∷◌, codes, length, if◌then◌else◌}
use Rattle.std.specs.Str.{bytes_eq}
use Rattle.line_base.specs.declared.faults.LineFault.{LineFault}
use Rattle.line_base.specs.declared.faults.LineFault.TheVariants.{Number}
use Rattle.line_base.specs.Texts.{number_in}
use Rattle.line_base.specs.Steps.{◌>>=◌, check}
use Rattle.report_text.specs.declared.fault.TextFault.{TextFault}
use Rattle.report_text.specs.Decimals.{digit_in, has_leading_zero}
use Rattle.report_text.specs.Hex.{hex_in, data_in}

-- what a field of a report line spells; Number for another spelling
abbrev pub spelled : {A : Type 0} → Result A TextFault → Result A LineFault
spelled (Ok x) = Ok x
spelled (Err fault) = Err Number

-- the number that so many hexadecimal digits spell; Number for another spelling
abbrev pub hex_spelled : ℕ → List ℕ → Result ℕ LineFault
hex_spelled width field = spelled (hex_in width field)

-- the data nibbles, so many, that as many hexadecimal digits spell; Number for another spelling
unfoldable pub nibbles_spelled : ℕ → List ℕ → Result (List ℕ) LineFault
nibbles_spelled count field = do
  _ ← check (length field == count) Number
  spelled (data_in field)

-- the number, however great, that decimal digits without a leading zero spell; Number for another spelling
unfoldable pub decimal_spelled : List ℕ → Result ℕ LineFault
decimal_spelled field = do
  number ← ok_or (number_in field) Number
  _ ← check (not (has_leading_zero field)) Number
  Ok number

-- the slot that one decimal digit spells; Number for another spelling
abbrev pub digit_spelled : List ℕ → Result (Option ℕ) LineFault
digit_spelled (byte ∷ []) = spelled (digit_in byte) >>= λ slot. Ok (Some slot)
digit_spelled _ = Err Number

-- the slot of a burst: one decimal digit where the channel has slots, and else a hyphen; Number for another spelling
unfoldable pub slot_spelled : Bool → List ℕ → Result (Option ℕ) LineFault
slot_spelled has_slots field = if has_slots then digit_spelled field else (if bytes_eq field (codes "-") then Ok None else Err Number)
