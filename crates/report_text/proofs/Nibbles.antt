-- Hexadecimal digits, and the nibbles that they spell.
use Rattle.std.proofs.Common.{◌≡◌, ℕ, zero, suc, ◌+◌, ◌-◌, ◌*◌, ◌/◌, ◌%◌, ◌^◌, ◌<◌, ◌≤◌, ◌==◌, ◌&&◌, nat_le, Bool, true, false, cond, Result, Ok, Err, List, [], ◌∷◌, ◌++◌, All, length, map, refl, sym, ◌∙◌, ap, subst, arith}
use Rattle.std.specs.List.{list_all}
use Rattle.std.proofs.lemmas.Bool.{agree_below_at, eqb-true, leb-true, le-leb, lt-leb, and_parts}
use Rattle.std.proofs.lemmas.List.{length-append}
use Rattle.std.proofs.lemmas.List.Elements.{All-nil, All-cons, All-head, All-tail, All-push}
use Rattle.std.proofs.Math.Nat.{pow-suc}
use Rattle.std.proofs.lemmas.Nat.{div_below, div-mul-add, mod-mul-add, div-add-mod', mod_below}
use Rattle.report_text.specs.declared.fault.TextFault.{TextFault}
use Rattle.report_text.specs.declared.fault.TextFault.TheVariants.{Number}
use Rattle.line_base.specs.Steps.{◌>>=◌}
use Rattle.report_text.specs.Hex.{hex_digit, nibbles_of, nibble_in, nibbles_in, number_with}
use Rattle.report_text.proofs.Steps.{bind_ok, ok_is}
use Rattle.report_text.proofs.Cutting.{is_other}

-- a digit of ten, and one of six letters
abbrev digit_of : ℕ → ℕ
digit_of nibble = cond (nat_le nibble 9) (48 + nibble) (55 + nibble)

digit_is : (nibble : ℕ) → nibble < 16 → hex_digit nibble ≡ digit_of nibble
digit_is nibble low = eqb-true (hex_digit nibble) (digit_of nibble) (agree_below_at (λ n. hex_digit n == digit_of n) (λ n. true) 16 nibble refl low)

abbrev is_nibble : Result ℕ TextFault → ℕ → Bool
is_nibble (Ok n) nibble = n == nibble
is_nibble (Err fault) nibble = false

nibble_is : (r : Result ℕ TextFault) (nibble : ℕ) → is_nibble r nibble ≡ true → r ≡ Ok nibble
nibble_is (Ok n) nibble e = ap (λ k. Ok k) (eqb-true n nibble e)
nibble_is (Err fault) nibble e = absurd cc

-- a nibble is read back from its digit
pub nibble_again : (nibble : ℕ) → nibble < 16 → nibble_in (hex_digit nibble) ≡ Ok nibble
unfolding nibble_in
nibble_again nibble low = nibble_is (nibble_in (hex_digit nibble)) nibble (agree_below_at (λ n. is_nibble (nibble_in (hex_digit n)) n) (λ n. true) 16 nibble refl low)

digit_free : (nibble : ℕ) → nibble < 16 → is_other (hex_digit nibble) ≡ true
digit_free nibble low = agree_below_at (λ n. is_other (hex_digit n)) (λ n. true) 16 nibble refl low

letter_taken : (byte nibble : ℕ) → 65 ≤ byte → byte ≤ 70 → byte - 55 ≡ nibble → (byte ≡ hex_digit nibble) × (nibble < 16)
letter_taken byte nibble low high e =
    let below : nibble < 16 = omega arith in
    (sym (digit_is nibble below ∙ ap (λ t. cond t (48 + nibble) (55 + nibble)) (lt-leb nibble 9 (omega arith)) ∙ omega arith), below)

number_taken : (byte nibble : ℕ) → 48 ≤ byte → byte ≤ 57 → byte - 48 ≡ nibble → (byte ≡ hex_digit nibble) × (nibble < 16)
number_taken byte nibble low high e =
    let below : nibble < 16 = omega arith in
    (sym (digit_is nibble below ∙ ap (λ t. cond t (48 + nibble) (55 + nibble)) (le-leb nibble 9 (omega arith)) ∙ omega arith), below)

digit_taken : (t u : Bool) (byte nibble : ℕ) → (nat_le 48 byte && nat_le byte 57) ≡ t → (nat_le 65 byte && nat_le byte 70) ≡ u → ◌≡◌ {A = Result ℕ TextFault} (cond t (Ok (byte - 48)) (cond u (Ok (byte - 55)) (Err Number))) (Ok nibble) → (byte ≡ hex_digit nibble) × (nibble < 16)
digit_taken true u byte nibble d l e =
    let parts = and_parts (nat_le 48 byte) (nat_le byte 57) d in
    number_taken byte nibble (leb-true 48 byte parts.0) (leb-true byte 57 parts.1) (ok_is (byte - 48) nibble e)
digit_taken false true byte nibble d l e =
    let parts = and_parts (nat_le 65 byte) (nat_le byte 70) l in
    letter_taken byte nibble (leb-true 65 byte parts.0) (leb-true byte 70 parts.1) (ok_is (byte - 55) nibble e)
digit_taken false false byte nibble d l e = absurd cc

-- the byte that a nibble is read from is its digit
pub nibble_taken : (byte nibble : ℕ) → nibble_in byte ≡ Ok nibble → (byte ≡ hex_digit nibble) × (nibble < 16)
unfolding nibble_in
nibble_taken byte nibble e = digit_taken (nat_le 48 byte && nat_le byte 57) (nat_le 65 byte && nat_le byte 70) byte nibble refl refl e

-- the bytes that nibbles are read from are their digits
pub nibbles_taken : (digits nibbles : List ℕ) → nibbles_in digits ≡ Ok nibbles → (digits ≡ map hex_digit nibbles) × All (λ n. n < 16) nibbles
unfolding nibbles_in
nibbles_taken [] nibbles e = subst (λ (ns : List ℕ). ([] ≡ map hex_digit ns) × All (λ n. n < 16) ns) (ok_is [] nibbles e) (refl, All-nil (λ n. n < 16))
nibbles_taken (digit ∷ digits) nibbles e =
    let first = bind_ok (nibble_in digit) (λ n. nibbles_in digits >>= λ ns. Ok (n ∷ ns)) nibbles e in
    let others = bind_ok (nibbles_in digits) (λ ns. Ok (first.0 ∷ ns)) nibbles first.2 in
    let one = nibble_taken digit first.0 first.1 in
    let rest = nibbles_taken digits others.0 others.1 in
    subst (λ (ns : List ℕ). (digit ∷ digits ≡ map hex_digit ns) × All (λ n. n < 16) ns) (ok_is (first.0 ∷ others.0) nibbles others.2)
    (ap (λ d. d ∷ digits) one.0 ∙ ap (λ ds. hex_digit first.0 ∷ ds) rest.0, All-cons (λ n. n < 16) first.0 others.0 one.1 rest.1)

-- nibbles are read back from their digits
pub nibbles_again : (nibbles : List ℕ) → All (λ n. n < 16) nibbles → nibbles_in (map hex_digit nibbles) ≡ Ok nibbles
unfolding nibbles_in
nibbles_again [] low = refl
nibbles_again (nibble ∷ nibbles) low =
    ap (λ (r : Result ℕ TextFault). r >>= λ n. nibbles_in (map hex_digit nibbles) >>= λ ns. Ok (n ∷ ns)) (nibble_again nibble (All-head (λ n. n < 16) nibble nibbles low))
    ∙ ap (λ (r : Result (List ℕ) TextFault). r >>= λ ns. Ok (nibble ∷ ns)) (nibbles_again nibbles (All-tail (λ n. n < 16) nibble nibbles low))

-- no digit is a space
pub nibbles_free : (nibbles : List ℕ) → All (λ n. n < 16) nibbles → list_all is_other (map hex_digit nibbles) ≡ true
nibbles_free [] low = refl
nibbles_free (nibble ∷ nibbles) low =
    ap (λ t. t && list_all is_other (map hex_digit nibbles)) (digit_free nibble (All-head (λ n. n < 16) nibble nibbles low))
    ∙ nibbles_free nibbles (All-tail (λ n. n < 16) nibble nibbles low)

number_append : (before : ℕ) (front others : List ℕ) → number_with before (front ++ others) ≡ number_with (number_with before front) others
number_append before [] others = refl
number_append before (nibble ∷ front) others = number_append (before * 16 + nibble) front others

-- a number of so many nibbles: they are as many, each below 16, and it is the number that they give
pub record HasNibbles (width number : ℕ) : Type 0 where
  pub long : length (nibbles_of width number) ≡ width
  pub low : All (λ n. n < 16) (nibbles_of width number)
  pub back : number < 16 ^ width → number_with 0 (nibbles_of width number) ≡ number

pub has_nibbles : (width number : ℕ) → HasNibbles width number
unfolding nibbles_of
has_nibbles zero number = record { long = refl; low = All-nil (λ n. n < 16); back = λ below. omega arith }
has_nibbles (suc width) number =
    let front = has_nibbles width (number / 16) in
    record {
      long = length-append (nibbles_of width (number / 16)) (number % 16 ∷ []) ∙ (let long = front.long in omega arith);
      low = All-push (λ n. n < 16) (nibbles_of width (number / 16)) (number % 16) front.low (mod_below number 16 (omega arith));
      back = λ below. (let whole : number < 16 ^ width * 16 = subst (λ p. number < p) (pow-suc 16 width) below in
          number_append 0 (nibbles_of width (number / 16)) (number % 16 ∷ [])
          ∙ ap (λ n. n * 16 + number % 16) (front.back (div_below number 16 (16 ^ width) (omega arith) whole)) ∙ div-add-mod' number 16);
    }

-- a list that isn't empty, up to its last element
record UpToLast (xs : List ℕ) : Type 0 where
  front : List ℕ
  last : ℕ
  is : xs ≡ front ++ last ∷ []

up_to_last : (x : ℕ) (xs : List ℕ) → UpToLast (x ∷ xs)
up_to_last x [] = record { front = []; last = x; is = refl }
up_to_last x (y ∷ ys) = (let later = up_to_last y ys in record { front = x ∷ later.front; last = later.last; is = ap (λ zs. x ∷ zs) later.is })

front_low : (front : List ℕ) (last : ℕ) → All (λ n. n < 16) (front ++ last ∷ []) → All (λ n. n < 16) front × (last < 16)
front_low [] last low = (All-nil (λ n. n < 16), All-head (λ n. n < 16) last [] low)
front_low (nibble ∷ front) last low =
    let rest = front_low front last (All-tail (λ n. n < 16) nibble (front ++ last ∷ []) low) in
    (All-cons (λ n. n < 16) nibble front (All-head (λ n. n < 16) nibble (front ++ last ∷ []) low) rest.0, rest.1)

-- nibbles are those of their number, which is as small as their count says
pub record AreNibblesOf (width : ℕ) (nibbles : List ℕ) : Type 0 where
  pub same : nibbles_of width (number_with 0 nibbles) ≡ nibbles
  pub below : number_with 0 nibbles < 16 ^ width

number_low : (width number nibble : ℕ) → number < 16 ^ width → nibble < 16 → number * 16 + nibble < 16 ^ suc width
number_low width number nibble below low = subst (λ p. number * 16 + nibble < p) (sym (pow-suc 16 width)) (omega arith)

last_more : (width number last : ℕ) (front : List ℕ) → last < 16 → nibbles_of width number ≡ front → nibbles_of (suc width) (number * 16 + last) ≡ front ++ last ∷ []
unfolding nibbles_of
last_more width number last front low e =
    ap (λ n. nibbles_of width n ++ ((number * 16 + last) % 16 ∷ [])) (div-mul-add number 16 last low)
    ∙ ap (λ n. nibbles_of width number ++ (n ∷ [])) (mod-mul-add number 16 last low) ∙ ap (λ f. f ++ last ∷ []) e

are_nibbles_of : (width : ℕ) (nibbles : List ℕ) → length nibbles ≡ width → All (λ n. n < 16) nibbles → AreNibblesOf width nibbles
unfolding nibbles_of
are_nibbles_of zero [] e low = record { same = refl; below = omega arith }
are_nibbles_of zero (nibble ∷ nibbles) e low = absurd (omega arith)
are_nibbles_of (suc width) [] e low = absurd (omega arith)
are_nibbles_of (suc width) (nibble ∷ nibbles) e low =
    let parts = up_to_last nibble nibbles in
    let long : length parts.front ≡ width = (let split = sym (ap length parts.is) ∙ e in omega (arith, split, length-append parts.front (parts.last ∷ []))) in
    let each = front_low parts.front parts.last (subst (All (λ n. n < 16)) parts.is low) in
    let front = are_nibbles_of width parts.front long each.0 in
    let number : number_with 0 (nibble ∷ nibbles) ≡ number_with 0 parts.front * 16 + parts.last = ap (number_with 0) parts.is ∙ number_append 0 parts.front (parts.last ∷ []) in
    record {
      same = ap (nibbles_of (suc width)) number ∙ last_more width (number_with 0 parts.front) parts.last parts.front each.1 front.same ∙ sym parts.is;
      below = subst (λ n. n < 16 ^ suc width) (sym number) (number_low width (number_with 0 parts.front) parts.last front.below each.1);
    }

pub nibbles_back : (nibbles : List ℕ) → All (λ n. n < 16) nibbles → AreNibblesOf (length nibbles) nibbles
nibbles_back nibbles low = are_nibbles_of (length nibbles) nibbles refl low
