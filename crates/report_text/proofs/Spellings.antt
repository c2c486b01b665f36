-- How the values of fields are spelled: each has one spelling, and is read from that one alone.
use Rattle.std.proofs.Common.{◌≡◌, ℕ, suc, ◌^◌, ◌<◌, ◌≤◌, ◌&&◌, nat_le, Bool, true, Result, Ok, List, ◌∷◌, ◌==◌, length, map, decimal, sym, ◌∙◌, ap, subst, arith}
use Rattle.std.specs.List.{list_all}
use Rattle.std.proofs.lemmas.Bool.{and_parts, and_from, leb-true, le-leb, eqb-true, eq-eqb}
use Rattle.std.proofs.lemmas.List.{length-map}
use Rattle.std.proofs.lemmas.Fmt.{decimal_nonempty}
use Rattle.line_base.specs.Nibbles.{AreNibbles}
use Rattle.report_text.specs.declared.fault.TextFault.{TextFault}
use Rattle.report_text.specs.declared.fault.TextFault.TheVariants.{Number, Range}
use Rattle.line_base.specs.Steps.{◌>>=◌, check}
use Rattle.report_text.specs.Fields.{field_read, value_read}
use Rattle.report_text.specs.Decimals.{two_digits, channel_in, number_spelled, count_spelled, IsBetween, number_between}
use Rattle.report_text.specs.Hex.{hex_digit, hex_text, nibbles_of, nibbles_in, number_with, hex_in, hex_to, data_in}
use Rattle.report_text.specs.Rules.{rule_name, rule_in}
use Rattle.report_text.specs.Gaps.{IsGapTold}
use Rattle.report_text.proofs.Steps.{bind_ok, check_ok, ok_is}
use Rattle.report_text.proofs.Cutting.{is_other, field_taken, field_again}
use Rattle.report_text.proofs.Decimals.{channel_taken, channel_again, channel_free, number_taken, number_again, count_taken, count_again, between_taken, between_again, decimal_free}
use Rattle.report_text.proofs.Nibbles.{nibbles_taken, nibbles_again, nibbles_free, has_nibbles, nibbles_back}
use Rattle.report_text.proofs.RuleNames.{name_taken, name_again, name_free, name_some}

-- each value in its range has a text of its own, which isn't empty and has no space, and a field gives a value where it is that text alone
pub record Spells {A : Type 0} (text : A → List ℕ) (spelled : List ℕ → Result A TextFault) (Fits : A → Type 0) : Type 0 where
  pub taken : (field : List ℕ) (x : A) → spelled field ≡ Ok x → (field ≡ text x) × Fits x
  pub again : (x : A) → Fits x → spelled (text x) ≡ Ok x
  pub some : (x : A) → Fits x → 0 < length (text x)
  pub free : (x : A) → Fits x → list_all is_other (text x) ≡ true

-- the field that a value was read from is its text
pub value_taken : {A : Type 0} (text : A → List ℕ) (spelled : List ℕ → Result A TextFault) (Fits : A → Type 0) (s : Spells text spelled Fits) (fields : List (List ℕ)) (found : A × List (List ℕ)) → value_read spelled fields ≡ Ok found → (fields ≡ text found.0 ∷ found.1) × Fits found.0
unfolding value_read
value_taken {A} text spelled Fits s fields found e =
    let field = bind_ok (field_read fields) (λ field. spelled field.0 >>= λ value. Ok (value, field.1)) found e in
    let value = bind_ok (spelled field.0.0) (λ value. Ok (value, field.0.1)) found field.2 in
    let read = s.taken field.0.0 value.0 value.1 in
    let made : A × List (List ℕ) = (value.0, field.0.1) in
    subst (λ (f : A × List (List ℕ)). (fields ≡ text f.0 ∷ f.1) × Fits f.0) (ok_is made found value.2)
    (field_taken fields field.0.0 field.0.1 field.1 ∙ ap (λ f. f ∷ field.0.1) read.0, read.1)

-- a value is read from its text
pub value_again : {A : Type 0} (text : A → List ℕ) (spelled : List ℕ → Result A TextFault) (Fits : A → Type 0) (s : Spells text spelled Fits) (x : A) (others : List (List ℕ)) → Fits x → value_read spelled (text x ∷ others) ≡ Ok (x, others)
unfolding value_read
value_again {A} text spelled Fits s x others fits =
    ap (λ (r : Result (List ℕ × List (List ℕ)) TextFault). r >>= λ field. spelled field.0 >>= λ value. Ok (value, field.1)) (field_again (text x) others (s.some x fits))
    ∙ ap (λ (r : Result A TextFault). r >>= λ value. Ok (value, others)) (s.again x fits)

-- ---- the spellings

pub channels : Spells two_digits channel_in (λ channel. channel < 16)
channels = record { taken = channel_taken; again = channel_again; some = λ channel low. omega arith; free = channel_free }

pub numbers : Spells decimal number_spelled (λ number. number < 2 ^ 64)
numbers = record { taken = number_taken; again = number_again; some = decimal_nonempty; free = decimal_free }

pub betweens : (low high : ℕ) → high < 2 ^ 64 → Spells decimal (number_between low high) (IsBetween low high)
betweens low high small = record {
  taken = between_taken low high;
  again = λ number fits. between_again low high number fits (omega (arith, fits.1));
  some = λ number fits. decimal_nonempty number (omega (arith, fits.1));
  free = λ number fits. decimal_free number (omega (arith, fits.1));
}

pub counts : Spells decimal count_spelled IsGapTold
counts = record {
  taken = λ field count e. (let read = count_taken field count e in (read.0, record { some = read.1; below = read.2 }));
  again = λ count fits. count_again count fits.some fits.below;
  some = λ count fits. decimal_nonempty count fits.below;
  free = λ count fits. decimal_free count fits.below;
}

pub rules : Spells rule_name rule_in (λ rule. Unit {0})
rules = record { taken = λ field rule e. (name_taken field rule e, tt); again = λ rule fits. name_again rule; some = λ rule fits. name_some rule; free = λ rule fits. name_free rule }

hex_taken : (width : ℕ) (field : List ℕ) (number : ℕ) → hex_in width field ≡ Ok number → (field ≡ hex_text width number) × (number < 16 ^ width)
unfolding hex_in
hex_taken width field number e =
    let long = check_ok (length field == width) Number (nibbles_in field >>= λ ns. Ok (number_with 0 ns)) number e in
    let read = bind_ok (nibbles_in field) (λ ns. Ok (number_with 0 ns)) number long.1 in
    let digits = nibbles_taken field read.0 read.1 in
    let count : length read.0 ≡ width = sym (length-map read.0 hex_digit) ∙ sym (ap length digits.0) ∙ eqb-true (length field) width long.0 in
    let own = nibbles_back read.0 digits.1 in
    let made : (field ≡ hex_text (length read.0) (number_with 0 read.0)) × (number_with 0 read.0 < 16 ^ length read.0) = (digits.0 ∙ ap (map hex_digit) (sym own.same), own.below) in
    let wide : (field ≡ hex_text width (number_with 0 read.0)) × (number_with 0 read.0 < 16 ^ width) = subst (λ w. (field ≡ hex_text w (number_with 0 read.0)) × (number_with 0 read.0 < 16 ^ w)) count made in
    subst (λ n. (field ≡ hex_text width n) × (n < 16 ^ width)) (ok_is (number_with 0 read.0) number read.2) wide

hex_long : (width number : ℕ) → length (hex_text width number) ≡ width
hex_long width number = length-map (nibbles_of width number) hex_digit ∙ (has_nibbles width number).long

hex_again : (width number : ℕ) → number < 16 ^ width → hex_in width (hex_text width number) ≡ Ok number
unfolding hex_in
hex_again width number below =
    let own = has_nibbles width number in
    ap (λ (t : Bool). check t Number >>= λ _. nibbles_in (hex_text width number) >>= λ ns. Ok (number_with 0 ns)) (eq-eqb (length (hex_text width number)) width (hex_long width number))
    ∙ ap (λ (r : Result (List ℕ) TextFault). r >>= λ ns. Ok (number_with 0 ns)) (nibbles_again (nibbles_of width number) own.low)
    ∙ ap (λ (n : ℕ). Ok n) (own.back below)

pub hex : (width : ℕ) → Spells (hex_text (suc width)) (hex_in (suc width)) (λ number. number < 16 ^ suc width)
hex width = record {
  taken = hex_taken (suc width);
  again = hex_again (suc width);
  some = λ number below. (let long = hex_long (suc width) number in omega (arith, long));
  free = λ number below. nibbles_free (nibbles_of (suc width) number) (has_nibbles (suc width) number).low;
}

hex_to_taken : (width most : ℕ) (field : List ℕ) (number : ℕ) → hex_to width most field ≡ Ok number → (field ≡ hex_text width number) × (number ≤ most)
unfolding hex_to
hex_to_taken width most field number e =
    let read = bind_ok (hex_in width field) (λ n. check (nat_le n most) Range >>= λ _. Ok n) number e in
    let within = check_ok (nat_le read.0 most) Range (Ok read.0) number read.2 in
    let same = ok_is read.0 number within.1 in
    ((hex_taken width field number (read.1 ∙ ap (λ (n : ℕ). Ok n) same)).0, subst (λ n. n ≤ most) same (leb-true read.0 most within.0))

hex_to_again : (width most number : ℕ) → number ≤ most → number < 16 ^ width → hex_to width most (hex_text width number) ≡ Ok number
unfolding hex_to
hex_to_again width most number low below =
    ap (λ (r : Result ℕ TextFault). r >>= λ n. check (nat_le n most) Range >>= λ _. Ok n) (hex_again width number below)
    ∙ ap (λ (t : Bool). check t Range >>= λ _. Ok number) (le-leb number most low)

pub hex_tos : (width most : ℕ) → most < 16 ^ suc width → Spells (hex_text (suc width)) (hex_to (suc width) most) (λ number. number ≤ most)
hex_tos width most small = record {
  taken = hex_to_taken (suc width) most;
  again = λ number low. hex_to_again (suc width) most number low (omega (arith, low, small));
  some = λ number low. (hex width).some number (omega (arith, low, small));
  free = λ number low. (hex width).free number (omega (arith, low, small));
}

data_taken : (field nibbles : List ℕ) → data_in field ≡ Ok nibbles → (field ≡ map hex_digit nibbles) × AreNibbles nibbles
unfolding data_in
data_taken field nibbles e =
    let few = check_ok (nat_le 1 (length field) && nat_le (length field) 6) Number (nibbles_in field) nibbles e in
    let bounds = and_parts (nat_le 1 (length field)) (nat_le (length field) 6) few.0 in
    let least = leb-true 1 (length field) bounds.0 in
    let most = leb-true (length field) 6 bounds.1 in
    let digits = nibbles_taken field nibbles few.1 in
    let long : length field ≡ length nibbles = ap length digits.0 ∙ length-map nibbles hex_digit in
    (digits.0, record { some = omega (arith, long, least); few = omega (arith, long, most); each = digits.1 })

data_again : (nibbles : List ℕ) → AreNibbles nibbles → data_in (map hex_digit nibbles) ≡ Ok nibbles
unfolding data_in
data_again nibbles own =
    let long = length-map nibbles hex_digit in
    let least = own.some in
    let most = own.few in
    ap (λ (t : Bool). check t Number >>= λ _. nibbles_in (map hex_digit nibbles))
    (and_from (nat_le 1 (length (map hex_digit nibbles))) (nat_le (length (map hex_digit nibbles)) 6) (le-leb 1 _ (omega (arith, long, least))) (le-leb _ 6 (omega (arith, long, most))))
    ∙ nibbles_again nibbles own.each

pub data_nibbles : Spells (map hex_digit) data_in AreNibbles
data_nibbles = record {
  taken = data_taken;
  again = data_again;
  some = λ nibbles own. (let long = length-map nibbles hex_digit in let least = own.some in omega (arith, long, least));
  free = λ nibbles own. nibbles_free nibbles own.each;
}
