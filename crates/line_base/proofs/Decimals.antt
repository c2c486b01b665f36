-- A number is read back from its decimal digits.
use Rattle.std.proofs.Common.{◌≡◌, ℕ, ◌^◌, ◌<◌, ◌≤◌, ◌&&◌, nat_le, true, cond, Some, None, List, [], ◌∷◌, length, decimal, refl, sym, ◌∙◌, ap, arith}
use Rattle.std.specs.List.{list_all}
use Rattle.std.proofs.lemmas.Bool.{leb-true, and_parts}
use Rattle.std.proofs.lemmas.Fmt.{decimal_nonempty, digits_decimal, digits_value-decimal}
use Rattle.std.proofs.lemmas.Str.Parse.{IsDigitsTest, FoldsDigits, IsNumeralModel, numerals_by_fold}
use Rattle.line_base.specs.Texts.{is_digit, number_after, number_in}
use Rattle.line_base.proofs.Numbers.{digit_true}

-- a digit is a byte from `0` to `9`
pub digit_bounds : (byte : ℕ) → is_digit byte ≡ true → (48 ≤ byte) × (byte ≤ 57)
digit_bounds byte e =
    let parts = and_parts (nat_le 48 byte) (nat_le byte 57) e in
    (leb-true 48 byte parts.0, leb-true byte 57 parts.1)

-- the digits are those of std, and so is the number that they write
digits_test : IsDigitsTest (λ ds. list_all is_digit ds ≡ true)
digits_test = record {
  empty = refl;
  parts = λ c cs e. (let both = and_parts (is_digit c) (list_all is_digit cs) e in let range = and_parts (nat_le 48 c) (nat_le c 57) both.0 in ((leb-true 48 c range.0, leb-true c 57 range.1), both.1));
  more = λ c cs range e. ap (λ t. t && list_all is_digit cs) (digit_true c range.0 range.1) ∙ e;
}

digits_fold : FoldsDigits number_after
digits_fold = record { empty = λ n. refl; more = λ n c cs range. refl }

pub numerals : IsNumeralModel (λ ds. list_all is_digit ds ≡ true) (number_after 0)
numerals = numerals_by_fold (λ ds. list_all is_digit ds ≡ true) digits_test number_after digits_fold

number_digits : (ds : List ℕ) → 0 < length ds → list_all is_digit ds ≡ true → Some (number_after 0 ds) ≡ number_in ds
unfolding number_in
number_digits [] some all = absurd (omega arith)
number_digits (d ∷ ds) some all = sym (ap (λ t. cond t (Some (number_after 0 (d ∷ ds))) None) all)

-- a number reads back from its digits
pub number_back : (n : ℕ) → n < 2 ^ 64 → Some n ≡ number_in (decimal n)
number_back n small = ap (λ k. Some k) (sym (digits_value-decimal numerals n small)) ∙ number_digits (decimal n) (decimal_nonempty n small) (digits_decimal numerals n small)
