-- Decimal numbers, and the digits that spell them.
use Rattle.std.proofs.Common.{◌≡◌, ℕ, ◌+◌, ◌-◌, ◌*◌, ◌/◌, ◌%◌, ◌^◌, ◌<◌, ◌≤◌, ◌&&◌, nat_le, nat_lt, not, Bool, true, false, cond, Option, Some, None, Result, Ok, Err, ok_or, option_map, SomeIff, List, [], ◌∷◌, length, get_or, decimal, refl, sym, ◌∙◌, ap, subst, inl, inr, arith}
use Rattle.std.specs.List.{list_all}
use Rattle.std.proofs.lemmas.Bool.{and_parts, and_from, leb-true, le-leb, lt-ltb, ltb-true, ne_eqb, eq-eqb, not-true, cases_lt, false_from_ne_true}
use Rattle.std.proofs.lemmas.Fmt.{decimal_digit, first_decimal, digits_decimal, decimal-digits_value}
use Rattle.line_base.specs.Texts.{is_digit, is_number, number_after, number_in}
use Rattle.line_base.specs.Texts.{capped}
use Rattle.line_base.proofs.Numbers.{digit_true, a_number}
use Rattle.line_base.proofs.Decimals.{numerals, number_back, digit_bounds}
use Rattle.report_text.specs.declared.fault.TextFault.{TextFault}
use Rattle.report_text.specs.declared.fault.TextFault.TheVariants.{Number, Range}
use Rattle.line_base.specs.Steps.{◌>>=◌, check}
use Rattle.report_text.specs.Decimals.{two_digits, digit_in, channel_in, has_leading_zero, number_spelled, count_spelled, IsBetween, number_between}
use Rattle.report_text.proofs.Steps.{bind_ok, check_ok, some_ok, ok_is}
use Rattle.report_text.proofs.Cutting.{is_other}

-- a byte that isn't a space, since it is a digit
digit_other : (byte : ℕ) → 48 ≤ byte → is_other byte ≡ true
digit_other byte low = ap not (ne_eqb byte 32 (λ e. omega (arith, e)))

digits_free : (digits : List ℕ) → list_all is_digit digits ≡ true → list_all is_other digits ≡ true
digits_free [] all = refl
digits_free (digit ∷ digits) all =
    let parts = and_parts (is_digit digit) (list_all is_digit digits) all in
    let bounds = digit_bounds digit parts.0 in
    ap (λ t. t && list_all is_other digits) (digit_other digit bounds.0) ∙ digits_free digits parts.1

pub decimal_free : (number : ℕ) → number < 2 ^ 64 → list_all is_other (decimal number) ≡ true
decimal_free number small = digits_free (decimal number) (digits_decimal numerals number small)

-- ---- two digits

value_taken : (t : Bool) (byte value : ℕ) → is_digit byte ≡ t → ◌≡◌ {A = Result ℕ TextFault} (cond t (Ok (byte - 48)) (Err Number)) (Ok value) → (byte ≡ 48 + value) × (value < 10)
value_taken true byte value d e =
    let bounds = digit_bounds byte d in
    let low = bounds.0 in
    let high = bounds.1 in
    let same = ok_is (byte - 48) value e in
    (omega arith, omega arith)
value_taken false byte value d e = absurd cc

pub digit_taken : (byte value : ℕ) → digit_in byte ≡ Ok value → (byte ≡ 48 + value) × (value < 10)
digit_taken byte value e = value_taken (is_digit byte) byte value refl e

pub digit_again : (value : ℕ) → value < 10 → digit_in (48 + value) ≡ Ok value
digit_again value low =
    ap (λ (t : Bool). cond t (Ok (48 + value - 48)) (Err Number)) (digit_true (48 + value) (omega arith) (omega arith))
    ∙ ap (λ (n : ℕ). Ok n) (let e : 48 + value - 48 ≡ value = omega arith in e)

two_taken : (first second channel tens ones : ℕ) → first ≡ 48 + tens → tens < 10 → second ≡ 48 + ones → ones < 10 → 10 * tens + ones ≡ channel → first ∷ second ∷ [] ≡ two_digits channel
two_taken first second channel tens ones a b c d e =
    let high : first ≡ 48 + channel / 10 = omega arith in
    let low : second ≡ 48 + channel % 10 = omega arith in
    ap (λ x. x ∷ second ∷ []) high ∙ ap (λ x. (48 + channel / 10) ∷ x ∷ []) low

pub channel_taken : (field : List ℕ) (channel : ℕ) → channel_in field ≡ Ok channel → (field ≡ two_digits channel) × (channel < 16)
unfolding channel_in
channel_taken [] channel e = absurd cc
channel_taken (first ∷ []) channel e = absurd cc
channel_taken (first ∷ second ∷ []) channel e =
    let tens = bind_ok (digit_in first) (λ tens. digit_in second >>= λ ones. check (nat_lt (10 * tens + ones) 16) Range >>= λ _. Ok (10 * tens + ones)) channel e in
    let ones = bind_ok (digit_in second) (λ ones. check (nat_lt (10 * tens.0 + ones) 16) Range >>= λ _. Ok (10 * tens.0 + ones)) channel tens.2 in
    let low = check_ok (nat_lt (10 * tens.0 + ones.0) 16) Range (Ok (10 * tens.0 + ones.0)) channel ones.2 in
    let same = ok_is (10 * tens.0 + ones.0) channel low.1 in
    let below = ltb-true (10 * tens.0 + ones.0) 16 low.0 in
    let a = digit_taken first tens.0 tens.1 in
    let b = digit_taken second ones.0 ones.1 in
    (two_taken first second channel tens.0 ones.0 a.0 a.1 b.0 b.1 same, omega (arith, same, below))
channel_taken (first ∷ second ∷ third ∷ others) channel e = absurd cc

channel_sum : (channel : ℕ) → channel < 16 → 10 * (channel / 10) + channel % 10 ≡ channel
channel_sum channel low = omega arith

pub channel_again : (channel : ℕ) → channel < 16 → channel_in (two_digits channel) ≡ Ok channel
unfolding channel_in
channel_again channel low =
    let sum = channel_sum channel low in
    ap (λ (r : Result ℕ TextFault). r >>= λ tens. digit_in (48 + channel % 10) >>= λ ones. check (nat_lt (10 * tens + ones) 16) Range >>= λ _. Ok (10 * tens + ones)) (digit_again (channel / 10) (omega arith))
    ∙ ap (λ (r : Result ℕ TextFault). r >>= λ ones. check (nat_lt (10 * (channel / 10) + ones) 16) Range >>= λ _. Ok (10 * (channel / 10) + ones)) (digit_again (channel % 10) (omega arith))
    ∙ ap (λ (n : ℕ). check (nat_lt n 16) Range >>= λ _. Ok n) sum
    ∙ ap (λ (t : Bool). check t Range >>= λ _. Ok channel) (lt-ltb channel 16 low)

pub channel_free : (channel : ℕ) → channel < 16 → list_all is_other (two_digits channel) ≡ true
channel_free channel low =
    ap (λ t. t && (is_other (48 + channel % 10) && true)) (digit_other (48 + channel / 10) (omega arith))
    ∙ ap (λ t. t && true) (digit_other (48 + channel % 10) (omega arith))

-- ---- numbers without a leading zero

number_digits : (field : List ℕ) (number : ℕ) (t : Bool) → is_number field ≡ t → ◌≡◌ {A = Option ℕ} (cond t (Some (number_after 0 field)) None) (Some number) → (list_all is_digit field ≡ true) × (0 < length field) × (number_after 0 field ≡ number)
number_digits [] number true d e = absurd cc
number_digits (byte ∷ bytes) number true d e = (d, omega arith, cc)
number_digits field number false d e = absurd cc

number_read : (field : List ℕ) (number : ℕ) → number_in field ≡ Some number → (list_all is_digit field ≡ true) × (0 < length field) × (number_after 0 field ≡ number)
unfolding number_in
number_read field number e = number_digits field number (is_number field) refl e

no_zero : (field : List ℕ) → has_leading_zero field ≡ false → 0 < length field → get_or field 0 0 ≡ 48 → length field ≡ 1
no_zero [] none some e = absurd (omega arith)
no_zero (byte ∷ []) none some e = refl
no_zero (byte ∷ next ∷ bytes) none some e = absurd (let yes_zero = eq-eqb byte 48 e in cc)

pub number_taken : (field : List ℕ) (number : ℕ) → number_spelled field ≡ Ok number → (field ≡ decimal number) × (number < 2 ^ 64)
unfolding number_spelled
number_taken field number e =
    let read = bind_ok (ok_or (number_in field) Number) (λ n. check (not (has_leading_zero field)) Number >>= λ _. check (nat_lt n (2 ^ 64)) Range >>= λ _. Ok n) number e in
    let plain = check_ok (not (has_leading_zero field)) Number (check (nat_lt read.0 (2 ^ 64)) Range >>= λ _. Ok read.0) number read.2 in
    let small = check_ok (nat_lt read.0 (2 ^ 64)) Range (Ok read.0) number plain.1 in
    let same = ok_is read.0 number small.1 in
    let digits = number_read field read.0 (some_ok (number_in field) Number read.0 read.1) in
    let value : number_after 0 field ≡ number = digits.2 ∙ same in
    let below : number < 2 ^ 64 = subst (λ n. n < 2 ^ 64) same (ltb-true read.0 (2 ^ 64) small.0) in
    (sym (decimal-digits_value numerals field digits.0 digits.1 (no_zero field (not-true (has_leading_zero field) plain.0) digits.1) (subst (λ n. n < 2 ^ 64) (sym value) below)) ∙ ap decimal value, below)

first_no_zero : (field : List ℕ) → 48 < get_or field 0 0 → has_leading_zero field ≡ false
first_no_zero [] large = refl
first_no_zero (byte ∷ []) large = refl
first_no_zero (byte ∷ next ∷ bytes) large = ne_eqb byte 48 (λ e. omega (arith, e))

decimal_plain : (number : ℕ) → number < 2 ^ 64 → has_leading_zero (decimal number) ≡ false
decimal_plain number small = elim (cases_lt number 10) [
  | inl low ↦ ap has_leading_zero (decimal_digit number low)
  | inr high ↦ first_no_zero (decimal number) (first_decimal number (omega arith) small)
]

pub number_again : (number : ℕ) → number < 2 ^ 64 → number_spelled (decimal number) ≡ Ok number
unfolding number_spelled
number_again number small =
    ap (λ (o : Option ℕ). ok_or o Number >>= λ n. check (not (has_leading_zero (decimal number))) Number >>= λ _. check (nat_lt n (2 ^ 64)) Range >>= λ _. Ok n) (sym (number_back number small))
    ∙ ap (λ (t : Bool). check (not t) Number >>= λ _. check (nat_lt number (2 ^ 64)) Range >>= λ _. Ok number) (decimal_plain number small)
    ∙ ap (λ (t : Bool). check t Range >>= λ _. Ok number) (lt-ltb number (2 ^ 64) small)

pub count_taken : (field : List ℕ) (count : ℕ) → count_spelled field ≡ Ok count → (field ≡ decimal count) × (1 ≤ count) × (count < 2 ^ 64)
unfolding count_spelled
count_taken field count e =
    let read = bind_ok (number_spelled field) (λ n. check (nat_le 1 n) Range >>= λ _. Ok n) count e in
    let some = check_ok (nat_le 1 read.0) Range (Ok read.0) count read.2 in
    let same = ok_is read.0 count some.1 in
    let number = number_taken field count (read.1 ∙ ap (λ (n : ℕ). Ok n) same) in
    (number.0, subst (λ n. 1 ≤ n) same (leb-true 1 read.0 some.0), number.1)

pub count_again : (count : ℕ) → 1 ≤ count → count < 2 ^ 64 → count_spelled (decimal count) ≡ Ok count
unfolding count_spelled
count_again count some small =
    ap (λ (r : Result ℕ TextFault). r >>= λ n. check (nat_le 1 n) Range >>= λ _. Ok n) (number_again count small)
    ∙ ap (λ (t : Bool). check t Range >>= λ _. Ok count) (le-leb 1 count some)

pub between_taken : (low high : ℕ) (field : List ℕ) (number : ℕ) → number_between low high field ≡ Ok number → (field ≡ decimal number) × IsBetween low high number
unfolding number_between
between_taken low high field number e =
    let read = bind_ok (number_spelled field) (λ n. check (nat_le low n && nat_le n high) Range >>= λ _. Ok n) number e in
    let within = check_ok (nat_le low read.0 && nat_le read.0 high) Range (Ok read.0) number read.2 in
    let same = ok_is read.0 number within.1 in
    let parts = and_parts (nat_le low read.0) (nat_le read.0 high) within.0 in
    let bounds : IsBetween low high read.0 = (leb-true low read.0 parts.0, leb-true read.0 high parts.1) in
    ((number_taken field number (read.1 ∙ ap (λ (n : ℕ). Ok n) same)).0, subst (λ n. IsBetween low high n) same bounds)

pub between_again : (low high number : ℕ) → IsBetween low high number → number < 2 ^ 64 → number_between low high (decimal number) ≡ Ok number
unfolding number_between
between_again low high number bounds small =
    ap (λ (r : Result ℕ TextFault). r >>= λ n. check (nat_le low n && nat_le n high) Range >>= λ _. Ok n) (number_again number small)
    ∙ ap (λ (t : Bool). check t Range >>= λ _. Ok number) (and_from (nat_le low number) (nat_le number high) (le-leb low number bounds.0) (le-leb number high bounds.1))

-- the value of digits without a leading zero
ranged : (o : Option ℕ) (number : ℕ) → SomeIff o (number < 2 ^ 64) number → ok_or o Range ≡ (check (nat_lt number (2 ^ 64)) Range >>= λ _. Ok number)
ranged None number large = sym (ap (λ (t : Bool). check t Range >>= λ _. Ok number) (false_from_ne_true (nat_lt number (2 ^ 64)) (λ e. large (ltb-true number (2 ^ 64) e))))
ranged (Some found) number value = ap (λ (n : ℕ). Ok n) value.1 ∙ sym (ap (λ (t : Bool). check t Range >>= λ _. Ok number) (lt-ltb number (2 ^ 64) value.0))

pub value_ranged : (field : List ℕ) (found : ℕ) (o : Option ℕ) → Some found ≡ option_map capped (number_in field) → has_leading_zero field ≡ false → SomeIff o (number_after 0 field < 2 ^ 64) (number_after 0 field) → ok_or o Range ≡ number_spelled field
unfolding number_spelled number_in
value_ranged field found o read plain value =
    ranged o (number_after 0 field) value
    ∙ sym (ap (λ (t : Bool). ok_or (cond t (Some (number_after 0 field)) None) Number >>= λ n. check (not (has_leading_zero field)) Number >>= λ _. check (nat_lt n (2 ^ 64)) Range >>= λ _. Ok n) (a_number field found read).0
    ∙ ap (λ (t : Bool). check (not t) Number >>= λ _. check (nat_lt (number_after 0 field) (2 ^ 64)) Range >>= λ _. Ok (number_after 0 field)) plain)
