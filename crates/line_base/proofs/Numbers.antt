-- Numbers that are read digit by digit and stay at 10^15 + 1 once they are greater.
use Rattle.std.proofs.Common.{◌≡◌, ℕ, ◌+◌, ◌-◌, ◌*◌, ◌<◌, ◌≤◌, Bool, true, false, ◌&&◌, Some, None, cond, List, [], ◌∷◌, ◌++◌, length, get_or, drop, refl, sym, ◌∙◌, ap, subst, inl, inr, arith}
use Rattle.std.proofs.lemmas.Bool.{cases_lt, le-leb}
use Rattle.std.proofs.lemmas.List.{drop_more}
use Rattle.std.specs.List.{list_all}
use Rattle.std.specs.Option.{option_map}
use Rattle.line_base.specs.Texts.{is_digit, is_number, number_after, number_in, capped}

-- more digits never make a number less
pub number_after_ge : (n : ℕ) (digits : List ℕ) → n ≤ number_after n digits
number_after_ge n [] = omega arith
number_after_ge n (digit ∷ digits) =
    let more = number_after_ge (n * 10 + (digit - 48)) digits in
    omega (arith, more)

-- digits behind digits
pub number_after_append : (n : ℕ) (front digits : List ℕ) → number_after n (front ++ digits) ≡ number_after (number_after n front) digits
number_after_append n [] digits = refl
number_after_append n (digit ∷ front) digits = number_after_append (n * 10 + (digit - 48)) front digits

-- a number may be capped before its last digits are read
pub capped_first : (n : ℕ) (digits : List ℕ) → capped (number_after (capped n) digits) ≡ capped (number_after n digits)
capped_first n digits = elim (cases_lt n 1000000000000001) [
  | inl small ↦ (let e : capped n ≡ n = omega arith in ap (λ k. capped (number_after k digits)) e)
  | inr large ↦ (let e : capped n ≡ 1000000000000001 = omega arith in
      let own = number_after_ge n digits in
      let cap = number_after_ge 1000000000000001 digits in
      ap (λ k. capped (number_after k digits)) e ∙ omega (arith, own, cap))
]

-- the number so far and the digits that are left give what all digits give
pub record DigitsSoFar (before : ℕ) (digits : List ℕ) (number : ℕ) (left : List ℕ) : Type 0 where
  pub digital : list_all is_digit left ≡ list_all is_digit digits
  pub value : capped (number_after number left) ≡ capped (number_after before digits)
  pub small : number ≤ 1000000000000001

-- a byte from `0` to `9` is a digit
pub digit_true : (byte : ℕ) → 48 ≤ byte → byte ≤ 57 → is_digit byte ≡ true
digit_true byte low high = rw (le-leb 48 byte low, le-leb byte 57 high) refl

-- one more digit
one_more_cons : (before : ℕ) (digits : List ℕ) (number digit : ℕ) (left : List ℕ) → DigitsSoFar before digits number (digit ∷ left) → 48 ≤ digit → digit ≤ 57 → DigitsSoFar before digits (capped (number * 10 + (digit - 48))) left
one_more_cons before digits number digit left so_far low high = record {
  digital = ap (λ t. t && list_all is_digit left) (sym (digit_true digit low high)) ∙ so_far.digital;
  value = capped_first (number * 10 + (digit - 48)) left ∙ so_far.value;
  small = omega arith;
}

pub one_more : (before : ℕ) (digits : List ℕ) (number i : ℕ) → DigitsSoFar before digits number (drop i digits) → i < length digits → 48 ≤ get_or digits i 0 → get_or digits i 0 ≤ 57 → DigitsSoFar before digits (capped (number * 10 + (get_or digits i 0 - 48))) (drop (i + 1) digits)
one_more before digits number i so_far within low high =
    one_more_cons before digits number (get_or digits i 0) (drop (i + 1) digits) (subst (λ (left : List ℕ). DigitsSoFar before digits number left) (drop_more digits i 0 within) so_far) low high

-- a number that is read or not, and capped
cap_option : (t : Bool) (number : ℕ) → cond t (Some (capped number)) None ≡ option_map capped (cond t (Some number) None)
cap_option true number = refl
cap_option false number = refl

pub number_none : (field : List ℕ) → length field ≡ 0 → None ≡ option_map capped (number_in field)
unfolding number_in
number_none [] e = refl
number_none (byte ∷ bytes) e = absurd (omega arith)

pub number_some : (field : List ℕ) → (length field ≡ 0 → ⊥) → cond (list_all is_digit field) (Some (capped (number_after 0 field))) None ≡ option_map capped (number_in field)
unfolding number_in
number_some [] ne = absurd (ne refl)
number_some (byte ∷ bytes) ne = cap_option (list_all is_digit (byte ∷ bytes)) (number_after 0 (byte ∷ bytes))

is_number_from : (digits : List ℕ) → (length digits ≡ 0 → ⊥) → list_all is_digit digits ≡ is_number digits
is_number_from [] ne = absurd (ne refl)
is_number_from (digit ∷ digits) ne = refl

cap_none : (t : Bool) (number : ℕ) → None ≡ option_map capped (cond t (Some number) None) → t ≡ false
cap_none true number e = cc
cap_none false number e = refl

cap_some : (t : Bool) (number found : ℕ) → Some found ≡ option_map capped (cond t (Some number) None) → (t ≡ true) × (found ≡ capped number)
cap_some true number found e = (refl, cc)
cap_some false number found e = cc

pub not_a_number : (field : List ℕ) → None ≡ option_map capped (number_in field) → is_number field ≡ false
unfolding number_in
not_a_number field e = cap_none (is_number field) (number_after 0 field) e

pub a_number : (field : List ℕ) (found : ℕ) → Some found ≡ option_map capped (number_in field) → (is_number field ≡ true) × (found ≡ capped (number_after 0 field))
unfolding number_in
a_number field found e = cap_some (is_number field) (number_after 0 field) found e

none_cond : (t : Bool) (x : ℕ) → None ≡ cond t (Some x) None → t ≡ false
none_cond true x e = cc
none_cond false x e = refl

pub digits_none : (before : ℕ) (digits : List ℕ) → None ≡ cond (list_all is_digit digits) (Some (capped (number_after before digits))) None → (length digits ≡ 0 → ⊥) → is_number digits ≡ false
digits_none before digits e ne = rw (← is_number_from digits ne) (none_cond (list_all is_digit digits) _ e)

some_cond : (t : Bool) (x y : ℕ) → Some y ≡ cond t (Some x) None → (t ≡ true) × (y ≡ x)
some_cond true x y e = (refl, cc)
some_cond false x y e = cc

pub digits_some : (before : ℕ) (digits : List ℕ) (found : ℕ) → Some found ≡ cond (list_all is_digit digits) (Some (capped (number_after before digits))) None → (length digits ≡ 0 → ⊥) → (is_number digits ≡ true) × (found ≡ capped (number_after before digits))
digits_some before digits found e ne =
    let h = some_cond (list_all is_digit digits) _ found e in
    (sym (is_number_from digits ne) ∙ h.0, h.1)
