-- Decimal numbers that are compared with a bound below 255 alone.
use Rattle.std.proofs.Common.{◌≡◌, ℕ, Bool, true, false, cond, not, min, Some, None, Ok, Err, ok_or, option_map, List, ◌∙◌, ap, arith}
use Rattle.line_base.specs.declared.faults.LineFault.TheVariants.{Number}
use Rattle.line_base.specs.Texts.{number_after, number_in, capped}
use Rattle.line_base.specs.Steps.{◌>>=◌, check}
use Rattle.line_base.proofs.Numbers.{a_number, not_a_number}
use Rattle.report_text.specs.Decimals.{has_leading_zero}
use Rattle.message_lines.specs.Spellings.{decimal_spelled}
use Rattle.message_lines.specs.Readings.{IsSmall}

-- no number
pub no_decimal : (field : List ℕ) → None ≡ option_map capped (number_in field) → decimal_spelled field ≡ Err Number
unfolding decimal_spelled number_in
no_decimal field e = ap (λ (t : Bool). ok_or (cond t (Some (number_after 0 field)) None) Number >>= λ n. check (not (has_leading_zero field)) Number >>= λ _. Ok n) (not_a_number field e)

-- a number, by whether it has a leading zero
decimal_read : (field : List ℕ) (found : ℕ) (t : Bool) → Some found ≡ option_map capped (number_in field) → has_leading_zero field ≡ t → decimal_spelled field ≡ (check (not t) Number >>= λ _. Ok (number_after 0 field))
unfolding decimal_spelled number_in
decimal_read field found t e zero =
    ap (λ (t : Bool). ok_or (cond t (Some (number_after 0 field)) None) Number >>= λ n. check (not (has_leading_zero field)) Number >>= λ _. Ok n) (a_number field found e).0
    ∙ ap (λ (t : Bool). check (not t) Number >>= λ _. Ok (number_after 0 field)) zero

pub leading_zero : (field : List ℕ) (found : ℕ) → Some found ≡ option_map capped (number_in field) → has_leading_zero field ≡ true → decimal_spelled field ≡ Err Number
leading_zero field found e zero = decimal_read field found true e zero

pub small_read : (field : List ℕ) (found result : ℕ) → Some found ≡ option_map capped (number_in field) → has_leading_zero field ≡ false → result ≡ min found 255 → IsSmall result (decimal_spelled field)
small_read field found result e plain least = record {
  number = number_after 0 field;
  is = decimal_read field found false e plain;
  small_is = (let cap = (a_number field found e).1 in omega arith);
}
