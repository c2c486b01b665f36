-- Hexadecimal digits that are read one by one, and written one by one.
use Rattle.std.proofs.Common.{◌≡◌, ℕ, zero, suc, ◌+◌, ◌-◌, ◌*◌, ◌/◌, ◌%◌, ◌^◌, ◌<◌, ◌≤◌, nat_le, Bool, true, Option, Some, None, Result, Ok, Err, ok_or, is_some, IfSome, IsSome, ◌↔◌, List, [], ◌∷◌, ◌++◌, length, get_or, take, drop, set, refl, sym, ◌∙◌, ap, subst, arith}
use Rattle.std.proofs.Math.Nat.{pow-suc, pow-le-pow_right}
use Rattle.std.proofs.lemmas.Bool.{false≢true, eq-eqb, ne_eqb, le-leb, lt-leb, and_from, and_left, and_right}
use Rattle.std.proofs.lemmas.List.{append_assoc, append-nil, drop_more, drop_all, take_more_set, map-append, length-map}
use Rattle.line_base.specs.Nibbles.{AreNibbles}
use Rattle.report_text.specs.declared.fault.TextFault.{TextFault}
use Rattle.report_text.specs.declared.fault.TextFault.TheVariants.{Number}
use Rattle.line_base.specs.Steps.{◌>>=◌, check}
use Rattle.report_text.specs.Hex.{hex_digit, hex_text, nibbles_of, nibbles_in, nibble_in, number_with, hex_in, data_in}
use Rattle.report_text.proofs.Nibbles.{nibbles_taken}

-- the number so far and the digits that are left give what all digits give, and it has no more nibbles than digits were read
pub record NumberSoFar (digits : List ℕ) (number count : ℕ) (left : List ℕ) : Type 0 where
  pub whole : (nibbles_in left >>= λ ns. Ok (number_with number ns)) ≡ (nibbles_in digits >>= λ ns. Ok (number_with 0 ns))
  pub below : number < 16 ^ count

with_first : (r : Result (List ℕ) TextFault) (number nibble : ℕ) → ((r >>= λ ns. Ok (nibble ∷ ns)) >>= λ ns. Ok (number_with number ns)) ≡ (r >>= λ ns. Ok (number_with (number * 16 + nibble) ns))
with_first (Ok ns) number nibble = refl
with_first (Err fault) number nibble = refl

digits_more : (digit nibble : ℕ) (digits : List ℕ) → Ok nibble ≡ nibble_in digit → nibbles_in (digit ∷ digits) ≡ (nibbles_in digits >>= λ ns. Ok (nibble ∷ ns))
unfolding nibbles_in
digits_more digit nibble digits e = ap (λ (r : Result ℕ TextFault). r >>= λ n. nibbles_in digits >>= λ ns. Ok (n ∷ ns)) (sym e)

digits_bad : (digit : ℕ) (digits : List ℕ) (fault : TextFault) → Err fault ≡ nibble_in digit → nibbles_in (digit ∷ digits) ≡ Err fault
unfolding nibbles_in
digits_bad digit digits fault e = ap (λ (r : Result ℕ TextFault). r >>= λ n. nibbles_in digits >>= λ ns. Ok (n ∷ ns)) (sym e)

digits_none : nibbles_in [] ≡ Ok []
unfolding nibbles_in
digits_none = refl

pub none_read : (digits : List ℕ) → NumberSoFar digits 0 0 digits
none_read digits = record { whole = refl; below = omega arith }

pub one_more : (digits : List ℕ) (number i nibble : ℕ) → NumberSoFar digits number i (drop i digits) → i < length digits → Ok nibble ≡ nibble_in (get_or digits i 0) → nibble < 16 → NumberSoFar digits (number * 16 + nibble) (i + 1) (drop (i + 1) digits)
one_more digits number i nibble so_far within read low =
    let below = so_far.below in
    let step : i + 1 ≡ suc i = omega arith in
    record {
      whole = sym (ap (λ (r : Result (List ℕ) TextFault). r >>= λ ns. Ok (number_with number ns)) (ap nibbles_in (drop_more digits i 0 within) ∙ digits_more (get_or digits i 0) nibble (drop (i + 1) digits) read)
          ∙ with_first (nibbles_in (drop (i + 1) digits)) number nibble) ∙ so_far.whole;
      below = subst (λ k. number * 16 + nibble < 16 ^ k) (sym step) (subst (λ p. number * 16 + nibble < p) (sym (pow-suc 16 i)) (omega arith));
    }

-- there is room for a digit more
pub has_room : (digits : List ℕ) (number i : ℕ) → NumberSoFar digits number i (drop i digits) → i < length digits → length digits ≤ 7 → number < 16777216
has_room digits number i so_far within few =
    let below = so_far.below in
    let pos : 0 < 16 = omega arith in
    let le : i ≤ 6 = omega arith in
    let most : 16 ^ i ≤ 16 ^ 6 = pow-le-pow_right pos le in
    omega (arith, below, most)

number_bad : (r : Result (List ℕ) TextFault) (fault : TextFault) → (nibbles : Result (List ℕ) TextFault) (number : ℕ) → (nibbles >>= λ ns. Ok (number_with number ns)) ≡ (r >>= λ ns. Ok (number_with 0 ns)) → nibbles ≡ Err fault → (r >>= λ ns. Ok (number_with 0 ns)) ≡ Err fault
number_bad r fault nibbles number whole bad = sym whole ∙ ap (λ (n : Result (List ℕ) TextFault). n >>= λ ns. Ok (number_with number ns)) bad

-- a wrong digit
pub bad_digit : (width : ℕ) (digits : List ℕ) (number i : ℕ) (fault : TextFault) → length digits ≡ width → NumberSoFar digits number i (drop i digits) → i < length digits → Err fault ≡ nibble_in (get_or digits i 0) → Err fault ≡ hex_in width digits
unfolding hex_in
bad_digit width digits number i fault long so_far within read =
    sym (ap (λ (t : Bool). check t Number >>= λ _. nibbles_in digits >>= λ ns. Ok (number_with 0 ns)) (eq-eqb (length digits) width long)
    ∙ number_bad (nibbles_in digits) fault (nibbles_in (drop i digits)) number so_far.whole (ap nibbles_in (drop_more digits i 0 within) ∙ digits_bad (get_or digits i 0) (drop (i + 1) digits) fault read))

-- all digits
pub all_read : (width : ℕ) (digits : List ℕ) (number i : ℕ) → length digits ≡ width → NumberSoFar digits number i (drop i digits) → length digits ≤ i → Ok number ≡ hex_in width digits
unfolding hex_in
all_read width digits number i long so_far past =
    sym (ap (λ (t : Bool). check t Number >>= λ _. nibbles_in digits >>= λ ns. Ok (number_with 0 ns)) (eq-eqb (length digits) width long)
    ∙ sym so_far.whole ∙ ap (λ (ds : List ℕ). nibbles_in ds >>= λ ns. Ok (number_with number ns)) (drop_all i digits past)
    ∙ ap (λ (r : Result (List ℕ) TextFault). r >>= λ ns. Ok (number_with number ns)) digits_none)

-- another number of digits
pub other_width : (width : ℕ) (digits : List ℕ) → (length digits ≡ width → ⊥) → Err Number ≡ hex_in width digits
unfolding hex_in
other_width width digits ne = sym (ap (λ (t : Bool). check t Number >>= λ _. nibbles_in digits >>= λ ns. Ok (number_with 0 ns)) (ne_eqb (length digits) width ne))

-- the nibbles so far and the digits that are left give what all digits give
pub record NibblesSoFar (digits cells : List ℕ) (count : ℕ) (left : List ℕ) : Type 0 where
  pub whole : (nibbles_in left >>= λ ns. Ok (take count cells ++ ns)) ≡ nibbles_in digits
  pub long : length cells ≡ 6

behind_first : (r : Result (List ℕ) TextFault) (front : List ℕ) (nibble : ℕ) → ((r >>= λ ns. Ok (nibble ∷ ns)) >>= λ ns. Ok (front ++ ns)) ≡ (r >>= λ ns. Ok ((front ++ nibble ∷ []) ++ ns))
behind_first (Ok ns) front nibble = ap (λ (l : List ℕ). Ok l) (sym (append_assoc front (nibble ∷ []) ns))
behind_first (Err fault) front nibble = refl

behind_nothing : (r : Result (List ℕ) TextFault) → (r >>= λ ns. Ok ([] ++ ns)) ≡ r
behind_nothing (Ok ns) = refl
behind_nothing (Err fault) = refl

pub none_kept : (digits cells : List ℕ) → length cells ≡ 6 → NibblesSoFar digits cells 0 digits
none_kept digits cells long = record { whole = behind_nothing (nibbles_in digits); long = long }

pub one_kept : (digits cells : List ℕ) (i nibble : ℕ) → NibblesSoFar digits cells i (drop i digits) → i < length digits → length digits ≤ 6 → Ok nibble ≡ nibble_in (get_or digits i 0) → length (set cells i nibble) ≡ length cells → NibblesSoFar digits (set cells i nibble) (i + 1) (drop (i + 1) digits)
one_kept digits cells i nibble so_far within few read kept =
    let long = so_far.long in
    let rest = nibbles_in (drop (i + 1) digits) in
    record {
      whole = ap (λ (front : List ℕ). rest >>= λ ns. Ok (front ++ ns)) (take_more_set cells i nibble (omega arith))
          ∙ sym (ap (λ (r : Result (List ℕ) TextFault). r >>= λ ns. Ok (take i cells ++ ns)) (ap nibbles_in (drop_more digits i 0 within) ∙ digits_more (get_or digits i 0) nibble (drop (i + 1) digits) read)
          ∙ behind_first rest (take i cells) nibble) ∙ so_far.whole;
      long = kept ∙ long;
    }

data_test : (digits : List ℕ) → 1 ≤ length digits → length digits ≤ 6 → data_in digits ≡ nibbles_in digits
unfolding data_in
data_test digits some few =
    ap (λ (t : Bool). check t Number >>= λ _. nibbles_in digits) (and_from (nat_le 1 (length digits)) (nat_le (length digits) 6) (le-leb 1 (length digits) some) (le-leb (length digits) 6 few))

-- a wrong digit
pub bad_nibble : (digits cells : List ℕ) (i : ℕ) (fault : TextFault) → 1 ≤ length digits → length digits ≤ 6 → NibblesSoFar digits cells i (drop i digits) → i < length digits → Err fault ≡ nibble_in (get_or digits i 0) → Err fault ≡ data_in digits
bad_nibble digits cells i fault some few so_far within read =
    sym (data_test digits some few ∙ sym so_far.whole
    ∙ ap (λ (r : Result (List ℕ) TextFault). r >>= λ ns. Ok (take i cells ++ ns)) (ap nibbles_in (drop_more digits i 0 within) ∙ digits_bad (get_or digits i 0) (drop (i + 1) digits) fault read))

-- all digits
pub all_kept : (digits cells : List ℕ) (i : ℕ) → NibblesSoFar digits cells i (drop i digits) → length digits ≤ i → nibbles_in digits ≡ Ok (take i cells)
all_kept digits cells i so_far past =
    sym so_far.whole ∙ ap (λ (ds : List ℕ). nibbles_in ds >>= λ ns. Ok (take i cells ++ ns)) (drop_all i digits past)
    ∙ ap (λ (r : Result (List ℕ) TextFault). r >>= λ ns. Ok (take i cells ++ ns)) digits_none
    ∙ ap (λ (l : List ℕ). Ok l) (append-nil (take i cells))

are_data : (digits nibbles : List ℕ) → 1 ≤ length digits → length digits ≤ 6 → nibbles_in digits ≡ Ok nibbles → AreNibbles nibbles
are_data digits nibbles some few e =
    let read = nibbles_taken digits nibbles e in
    let long : length digits ≡ length nibbles = ap length read.0 ∙ length-map nibbles hex_digit in
    record { some = omega arith; few = omega arith; each = read.1 }

data_is : (digits nibbles : List ℕ) (o : Option (List ℕ)) → 1 ≤ length digits → length digits ≤ 6 → nibbles_in digits ≡ Ok nibbles → IfSome o (λ found. found ≡ nibbles) → (AreNibbles nibbles → is_some o ≡ true) → ok_or o Number ≡ data_in digits
data_is digits nibbles None some few e value accepted = absurd (false≢true (accepted (are_data digits nibbles some few e)))
data_is digits nibbles (Some found) some few e value accepted = ap (λ (l : List ℕ). Ok l) value ∙ sym (data_test digits some few ∙ e)

pub data_kept : (digits cells : List ℕ) (i : ℕ) (o : Option (List ℕ)) → NibblesSoFar digits cells i (drop i digits) → i ≤ length digits → length digits ≤ i → 1 ≤ length digits → length digits ≤ 6 → IfSome o (λ found. found ≡ take (length digits) cells) → IsSome o ↔ AreNibbles (take (length digits) cells) → ok_or o Number ≡ data_in digits
data_kept digits cells i o so_far within past some few value accepted =
    let all : length digits ≡ i = omega arith in
    data_is digits (take (length digits) cells) o some few (subst (λ n. nibbles_in digits ≡ Ok (take n cells)) (sym all) (all_kept digits cells i so_far past)) value accepted.1

-- too few digits, or too many
pub no_digits : (digits : List ℕ) → length digits ≡ 0 → Err Number ≡ data_in digits
unfolding data_in
no_digits digits none = sym (ap (λ (t : Bool). check t Number >>= λ _. nibbles_in digits) (and_left (nat_le 1 (length digits)) (nat_le (length digits) 6) (lt-leb 1 (length digits) (omega arith))))

pub many_digits : (digits : List ℕ) → 6 < length digits → Err Number ≡ data_in digits
unfolding data_in
many_digits digits many = sym (ap (λ (t : Bool). check t Number >>= λ _. nibbles_in digits) (and_right (nat_le 1 (length digits)) (nat_le (length digits) 6) (lt-leb (length digits) 6 many)))

-- the digits of a number, written from the highest down
pub written_none : (width number : ℕ) (out : List ℕ) → width ≡ 0 → out ≡ out ++ hex_text width number
unfolding nibbles_of
written_none zero number out e = sym (append-nil out)
written_none (suc width) number out e = absurd (omega arith)

written_next : (width number : ℕ) (out : List ℕ) → (width ≡ 0 → ⊥) → (out ++ hex_text (width - 1) (number / 16)) ++ (hex_digit (number % 16) ∷ []) ≡ out ++ hex_text width number
unfolding nibbles_of
written_next zero number out ne = absurd (ne refl)
written_next (suc width) number out ne =
    let less : suc width - 1 ≡ width = omega arith in
    ap (λ w. (out ++ hex_text w (number / 16)) ++ (hex_digit (number % 16) ∷ [])) less
    ∙ append_assoc out (hex_text width (number / 16)) (hex_digit (number % 16) ∷ [])
    ∙ ap (λ (t : List ℕ). out ++ t) (sym (map-append hex_digit (nibbles_of width (number / 16)) (number % 16 ∷ [])))

pub written_more : (width number : ℕ) (out front whole : List ℕ) → (width ≡ 0 → ⊥) → front ≡ out ++ hex_text (width - 1) (number / 16) → whole ≡ front ++ (hex_digit (number % 16) ∷ []) → whole ≡ out ++ hex_text width number
written_more width number out front whole ne before last = last ∙ ap (λ (f : List ℕ). f ++ (hex_digit (number % 16) ∷ [])) before ∙ written_next width number out ne
