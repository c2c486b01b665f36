-- What data A says is read from its own fields alone.
use Rattle.std.proofs.Common.{◌≡◌, ℕ, ℤ, pos, negsuc, neg_ℤ, zero, suc, ◌<◌, ◌≤◌, ◌^◌, ◌==◌, nat_le, Bool, true, false, cond, Option, Some, None, Result, Ok, List, [], ◌∷◌, ◌++◌, codes, length, decimal, refl, ◌∙◌, ap, subst, arith}
use Rattle.std.specs.Fmt.{signed_decimal}
use Rattle.std.specs.List.{list_all}
use Rattle.std.proofs.lemmas.Bool.{eqb-true, and_parts, ne_eqb, leb-true, le-leb}
use Rattle.std.proofs.lemmas.Fmt.{decimal_nonempty, digits_decimal}
use Rattle.psi5_init.specs.declared.code.Code.{Code}
use Rattle.psi5_init.specs.declared.code.Code.TheVariants as code
use Rattle.report_text.specs.declared.fault.TextFault.{TextFault}
use Rattle.report_text.specs.declared.fault.TextFault.TheVariants.{Number, Range}
use Rattle.line_base.specs.Texts.{is_digit}
use Rattle.line_base.proofs.Decimals.{numerals, digit_bounds}
use Rattle.line_base.specs.Steps.{◌>>=◌, check}
use Rattle.report_text.specs.Decimals.{IsBetween, number_spelled, number_between}
use Rattle.report_text.specs.Hex.{hex_text, hex_in, hex_to}
use Rattle.report_text.specs.Codes.{code_fields, IsSignal, IsCodeTold, negative_in, signal_in, signal_read, block_read, nibble_read, reserved_read, code_words, code_behind, code_read}
use Rattle.report_text.proofs.Steps.{bind_ok, check_ok, ok_is}
use Rattle.report_text.proofs.Cutting.{is_other, are_free}
use Rattle.report_text.proofs.Decimals.{number_taken, number_again, between_taken, between_again, decimal_free}
use Rattle.report_text.proofs.Spellings.{Spells, value_again, hex, hex_tos, betweens}
use Rattle.report_text.proofs.Told.{TakenAs, at_end, after_field, AreTaken, table_taken, field_free}

-- ---- signals

size_is : (size : ℕ) (digits : List ℕ) → digits ≡ decimal size → 1 ≤ size → size ≤ 480 → (45 ∷ digits ≡ signed_decimal (neg_ℤ (pos size))) × IsSignal (neg_ℤ (pos size))
size_is zero digits e some few = absurd (omega (arith, some))
size_is (suc size) digits e some few = (ap (λ (ds : List ℕ). 45 ∷ ds) e, few)

negative_taken : (digits : List ℕ) (value : ℤ) → negative_in digits ≡ Ok value → (45 ∷ digits ≡ signed_decimal value) × IsSignal value
unfolding negative_in
negative_taken digits value e =
    let size = bind_ok (number_spelled digits) (λ n. check (nat_le 1 n) Number >>= λ _. check (nat_le n 480) Range >>= λ _. Ok (neg_ℤ (pos n))) value e in
    let some = check_ok (nat_le 1 size.0) Number (check (nat_le size.0 480) Range >>= λ _. Ok (neg_ℤ (pos size.0))) value size.2 in
    let few = check_ok (nat_le size.0 480) Range (Ok (neg_ℤ (pos size.0))) value some.1 in
    let read = number_taken digits size.0 size.1 in
    subst (λ (z : ℤ). (45 ∷ digits ≡ signed_decimal z) × IsSignal z) (ok_is (neg_ℤ (pos size.0)) value few.1)
    (size_is size.0 digits read.0 (leb-true 1 size.0 some.0) (leb-true size.0 480 few.0))

positive_taken : (field : List ℕ) (value : ℤ) → (number_between 0 480 field >>= λ n. Ok (pos n)) ≡ Ok value → (field ≡ signed_decimal value) × IsSignal value
positive_taken field value e =
    let number = bind_ok (number_between 0 480 field) (λ n. Ok (pos n)) value e in
    let read = between_taken 0 480 field number.0 number.1 in
    subst (λ (z : ℤ). (field ≡ signed_decimal z) × IsSignal z) (ok_is (pos number.0) value number.2) (read.0, read.1.1)

sign_taken : (t : Bool) (byte : ℕ) (bytes : List ℕ) (value : ℤ) → (byte == 45) ≡ t → cond t (negative_in bytes) (number_between 0 480 (byte ∷ bytes) >>= λ n. Ok (pos n)) ≡ Ok value → (byte ∷ bytes ≡ signed_decimal value) × IsSignal value
sign_taken true byte bytes value sign e =
    let read = negative_taken bytes value e in
    (ap (λ (b : ℕ). b ∷ bytes) (eqb-true byte 45 sign) ∙ read.0, read.1)
sign_taken false byte bytes value sign e = positive_taken (byte ∷ bytes) value e

signal_taken : (field : List ℕ) (value : ℤ) → signal_in field ≡ Ok value → (field ≡ signed_decimal value) × IsSignal value
unfolding signal_in
signal_taken [] value e = absurd cc
signal_taken (byte ∷ bytes) value e = sign_taken (byte == 45) byte bytes value refl e

negative_again : (size : ℕ) → suc size ≤ 480 → negative_in (decimal (suc size)) ≡ Ok (negsuc size)
unfolding negative_in
negative_again size few =
    ap (λ (r : Result ℕ TextFault). r >>= λ n. check (nat_le 1 n) Number >>= λ _. check (nat_le n 480) Range >>= λ _. Ok (neg_ℤ (pos n))) (number_again (suc size) (omega (arith, few)))
    ∙ ap (λ (t : Bool). check t Number >>= λ _. check (nat_le (suc size) 480) Range >>= λ _. Ok (negsuc size)) (le-leb 1 (suc size) (omega arith))
    ∙ ap (λ (t : Bool). check t Range >>= λ _. Ok (negsuc size)) (le-leb (suc size) 480 few)

negative_signal : (size : ℕ) → suc size ≤ 480 → signal_in (45 ∷ decimal (suc size)) ≡ Ok (negsuc size)
unfolding signal_in
negative_signal size few = negative_again size few

-- the digits of a number begin with no hyphen
no_hyphen : (field : List ℕ) → list_all is_digit field ≡ true → 0 < length field → signal_in field ≡ (number_between 0 480 field >>= λ n. Ok (pos n))
unfolding signal_in
no_hyphen [] all some = absurd (omega arith)
no_hyphen (byte ∷ bytes) all some =
    let bounds = digit_bounds byte (and_parts (is_digit byte) (list_all is_digit bytes) all).0 in
    ap (λ (t : Bool). cond t (negative_in bytes) (number_between 0 480 (byte ∷ bytes) >>= λ n. Ok (pos n))) (ne_eqb byte 45 (λ e. omega (arith, e, bounds.0)))

signal_again : (value : ℤ) → IsSignal value → signal_in (signed_decimal value) ≡ Ok value
signal_again (pos number) few =
    no_hyphen (decimal number) (digits_decimal numerals number (omega (arith, few))) (decimal_nonempty number (omega (arith, few)))
    ∙ ap (λ (r : Result ℕ TextFault). r >>= λ n. Ok (pos n)) (between_again 0 480 number (omega arith, few) (omega (arith, few)))
signal_again (negsuc size) few = negative_signal size few

signal_some : (value : ℤ) → IsSignal value → 0 < length (signed_decimal value)
signal_some (pos number) few = decimal_nonempty number (omega (arith, few))
signal_some (negsuc size) few = omega arith

signal_free : (value : ℤ) → IsSignal value → list_all is_other (signed_decimal value) ≡ true
signal_free (pos number) few = decimal_free number (omega (arith, few))
signal_free (negsuc size) few = decimal_free (suc size) (omega (arith, few))

signals : Spells signed_decimal signal_in IsSignal
signals = record { taken = signal_taken; again = signal_again; some = signal_some; free = signal_free }

-- ---- the codes

words : AreTaken code_fields IsCodeTold code_words
unfolding signal_read block_read nibble_read reserved_read
words = (
  at_end code_fields IsCodeTold (codes "-" ∷ []) None refl tt,
  (
    after_field code_fields IsCodeTold (codes "signal" ∷ []) signed_decimal signal_in IsSignal signals (λ value fields. Ok (Some (code.Signal value), fields)) (λ value fits. at_end code_fields IsCodeTold (codes "signal" ∷ signed_decimal value ∷ []) (Some (code.Signal value)) refl fits),
    (
      after_field code_fields IsCodeTold (codes "block" ∷ []) decimal (number_between 1 16) (IsBetween 1 16) (betweens 1 16 (omega arith)) (λ id fields. Ok (Some (code.Block id), fields)) (λ id fits. at_end code_fields IsCodeTold (codes "block" ∷ decimal id ∷ []) (Some (code.Block id)) refl fits),
      (
        after_field code_fields IsCodeTold (codes "value" ∷ []) (hex_text 1) (hex_in 1) (λ n. n < 16 ^ 1) (hex 0) (λ value fields. Ok (Some (code.Value value), fields)) (λ value fits. at_end code_fields IsCodeTold (codes "value" ∷ hex_text 1 value ∷ []) (Some (code.Value value)) refl fits),
        (
          at_end code_fields IsCodeTold (codes "ready" ∷ []) (Some code.Ready) refl tt,
          (
            at_end code_fields IsCodeTold (codes "busy" ∷ []) (Some code.Busy) refl tt,
            (
              at_end code_fields IsCodeTold (codes "defect" ∷ []) (Some code.Defect) refl tt,
              (
                after_field code_fields IsCodeTold (codes "reserved" ∷ []) (hex_text 3) (hex_to 3 0x3FF) (λ n. n ≤ 0x3FF) (hex_tos 2 0x3FF (omega arith)) (λ number fields. Ok (Some (code.Reserved number), fields)) (λ number fits. at_end code_fields IsCodeTold (codes "reserved" ∷ hex_text 3 number ∷ []) (Some (code.Reserved number)) refl fits),
                tt,
              ),
            ),
          ),
        ),
      ),
    ),
  ),
)

-- the fields that a code is read from are its own
pub code_taken : TakenAs code_fields IsCodeTold [] code_read
unfolding code_read code_behind
code_taken = table_taken code_fields IsCodeTold code_words words

-- a code is read from its fields
pub code_again : (said : Option Code) (others : List (List ℕ)) → IsCodeTold said → code_read (code_fields said ++ others) ≡ Ok (said, others)
unfolding code_read code_behind signal_read block_read nibble_read reserved_read
code_again None others told = refl
code_again (Some (code.Signal value)) others told = rw (value_again signed_decimal signal_in IsSignal signals value others told) refl
code_again (Some (code.Block id)) others told = rw (value_again decimal (number_between 1 16) (IsBetween 1 16) (betweens 1 16 (omega arith)) id others told) refl
code_again (Some (code.Value value)) others told = rw (value_again (hex_text 1) (hex_in 1) (λ n. n < 16 ^ 1) (hex 0) value others told) refl
code_again (Some code.Ready) others told = refl
code_again (Some code.Busy) others told = refl
code_again (Some code.Defect) others told = refl
code_again (Some (code.Reserved number)) others told = rw (value_again (hex_text 3) (hex_to 3 0x3FF) (λ n. n ≤ 0x3FF) (hex_tos 2 0x3FF (omega arith)) number others told) refl

-- no space stands in the fields of a code
pub code_free : (said : Option Code) → IsCodeTold said → are_free (code_fields said) ≡ true
code_free None told = refl
code_free (Some (code.Signal value)) told = field_free signed_decimal signal_in IsSignal signals value [] told refl
code_free (Some (code.Block id)) told = field_free decimal (number_between 1 16) (IsBetween 1 16) (betweens 1 16 (omega arith)) id [] told refl
code_free (Some (code.Value value)) told = field_free (hex_text 1) (hex_in 1) (λ n. n < 16 ^ 1) (hex 0) value [] told refl
code_free (Some code.Ready) told = refl
code_free (Some code.Busy) told = refl
code_free (Some code.Defect) told = refl
code_free (Some (code.Reserved number)) told = field_free (hex_text 3) (hex_to 3 0x3FF) (λ n. n ≤ 0x3FF) (hex_tos 2 0x3FF (omega arith)) number [] told refl
