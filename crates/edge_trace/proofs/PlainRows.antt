-- Rows whose fields are digits alone.
use Rattle.std.proofs.Common.{◌≡◌, ℕ, ◌+◌, ◌-◌, ◌*◌, ◌%◌, ◌^◌, ◌<◌, ◌≤◌, ◌==◌, ◌&&◌, Bool, true, false, cond, nat_le, Some, None, Ok, List, [], ◌∷◌, ◌++◌, length, get_or, take, drop, refl, sym, ◌∙◌, ap, subst, inl, inr, arith, add-one}
use Rattle.std.proofs.Math.Nat.{pow-suc, pow-le-pow_right}
use Rattle.std.proofs.lemmas.Bool.{le-leb, ne_eqb, cases_eq, false≢true}
use Rattle.std.proofs.lemmas.List.{take_more, length-take-le}
use Rattle.std.specs.List.{list_all}
use Rattle.line_base.specs.declared.edge.Edge.{Edge}
use Rattle.line_base.specs.declared.faults.LineFault.TheVariants.{TooLarge}
use Rattle.line_base.specs.Texts.{cut_at, is_digit, number_after, number_in}
use Rattle.edge_trace.specs.Fields.{fields, without_blanks, level_in}
use Rattle.line_base.specs.Steps.{◌>>=◌, check}
use Rattle.edge_trace.specs.Rows.{Narrow, line_field, narrow_row}
use Rattle.edge_trace.specs.Readings.{stamp_time, time_behind, IsStamped}
use Rattle.edge_trace.specs.PlainRows.{BeginsWithNumber, SpellsEdge}
use Rattle.line_base.proofs.Cuts.{CutSoFar, cut_none, cut_more, cut_found}
use Rattle.line_base.proofs.Numbers.{number_after_append, digit_true}
use Rattle.edge_trace.proofs.Judging.{all_three, stamped, narrow_time}

-- the bytes so far are digits, and this is their number
pub record NumberSoFar (mark : ℕ) (text : List ℕ) (i number : ℕ) : Type 0 where
  pub cut : CutSoFar mark text i
  pub digital : list_all is_digit (take i text) ≡ true
  pub value : number ≡ number_after 0 (take i text)
  pub small : number < 10 ^ i

pub no_number : (mark : ℕ) (text : List ℕ) → NumberSoFar mark text 0 0
no_number mark text = record { cut = cut_none mark text; digital = refl; value = refl; small = omega arith }

one_digit : (t : Bool) (xs ys : List ℕ) → (list_all is_digit xs ≡ true → list_all is_digit ys ≡ true) → (t && list_all is_digit xs) ≡ true → (t && list_all is_digit ys) ≡ true
one_digit true xs ys later e = later e
one_digit false xs ys later e = e

all_push : (xs : List ℕ) (byte : ℕ) → is_digit byte ≡ true → list_all is_digit xs ≡ true → list_all is_digit (xs ++ byte ∷ []) ≡ true
all_push [] byte d e = ap (λ t. t && true) d
all_push (x ∷ xs) byte d e = one_digit (is_digit x) xs (xs ++ byte ∷ []) (all_push xs byte d) e

pub one_more_digit : (mark : ℕ) (text : List ℕ) (i number : ℕ) → mark < 48 → NumberSoFar mark text i number → i < length text → 48 ≤ get_or text i 0 → get_or text i 0 ≤ 57 → NumberSoFar mark text (i + 1) (number * 10 + (get_or text i 0 - 48))
one_more_digit mark text i number below so_far within low high =
    let byte : ℕ = get_or text i 0 in
    let more : take (i + 1) text ≡ take i text ++ byte ∷ [] = take_more text i 0 within in
    let power : 10 ^ (i + 1) ≡ 10 ^ i * 10 = ap (λ (n : ℕ). 10 ^ n) (add-one i) ∙ pow-suc 10 i in
    record {
      cut = cut_more mark text i so_far.cut within (λ e. omega arith);
      digital = ap (list_all is_digit) more ∙ all_push (take i text) byte (digit_true byte low high) so_far.digital;
      value = ap (λ (n : ℕ). n * 10 + (byte - 48)) so_far.value ∙ sym (ap (number_after 0) more ∙ number_after_append 0 (take i text) (byte ∷ []));
      small = (let small = so_far.small in omega arith);
    }

-- a byte that is at most 9 above `0`, at 64 bits, is a digit
pub record IsDigitOf (byte value : ℕ) : Type 0 where
  pub low : 48 ≤ byte
  pub high : byte ≤ 57
  pub value_is : value ≡ byte - 48

pub wrapped_digit : (byte value : ℕ) → byte < 256 → value ≡ (byte + 18446744073709551568) % 18446744073709551616 → value ≤ 9 → IsDigitOf byte value
wrapped_digit byte value small e digit = record {
  low = omega arith;
  high = omega arith;
  value_is = omega arith;
}

pub digit_fits : (mark : ℕ) (text : List ℕ) (i number : ℕ) → NumberSoFar mark text i number → i < 16 → number < 1000000000000000
digit_fits mark text i number so_far few =
    let most : 10 ^ i ≤ 10 ^ 15 = pow-le-pow_right {n = 10} (omega arith) {i = i} {j = 15} (omega arith) in
    let small = so_far.small in
    omega arith

spelled_number : (field : List ℕ) → 0 < length field → list_all is_digit field ≡ true → number_in field ≡ Some (number_after 0 field)
unfolding number_in
spelled_number [] some digital = absurd (omega arith)
spelled_number (byte ∷ bytes) some digital = ap (λ t. cond t (Some (number_after 0 (byte ∷ bytes))) None) digital

no_blank : (field : List ℕ) → list_all is_digit field ≡ true → without_blanks field ≡ field
no_blank [] digital = refl
no_blank (byte ∷ bytes) digital = elim (cases_eq byte 32) [
  | inl blank ↦ absurd (false≢true (subst (λ (b : ℕ). list_all is_digit (b ∷ bytes) ≡ true) blank digital))
  | inr other ↦ ap (λ t. cond t (without_blanks bytes) (byte ∷ bytes)) (ne_eqb byte 32 other)
]

pub number_found : (mark : ℕ) (text : List ℕ) (i number : ℕ) → NumberSoFar mark text i number → i < length text → 0 < i → get_or text i 0 ≡ mark → BeginsWithNumber mark text number (drop (i + 1) text)
number_found mark text i number so_far within some marked =
    let long = length-take-le i text (omega arith) in
    record {
      front = take i text;
      cut = cut_found mark text i so_far.cut within marked;
      spelled = spelled_number (take i text) (omega arith) so_far.digital ∙ ap (λ (n : ℕ). Some n) (sym so_far.value);
      no_blanks = no_blank (take i text) so_far.digital;
    }

-- a field that is a level stands alone
pub record IsLast (field : List ℕ) : Type 0 where
  pub cut : (field, None) ≡ cut_at 44 field
  pub no_blanks : without_blanks field ≡ field

last_zero : IsLast (48 ∷ [])
unfolding cut_at
last_zero = record { cut = refl; no_blanks = refl }

last_one : IsLast (49 ∷ [])
unfolding cut_at
last_one = record { cut = refl; no_blanks = refl }

pub level_last : (field : List ℕ) (high : Bool) → Some high ≡ level_in field → IsLast field
level_last [] high e = absurd (cc)
level_last (byte ∷ []) high e = elim (cases_eq byte 48) [
  | inl low ↦ subst (λ (b : ℕ). IsLast (b ∷ [])) (sym low) last_zero
  | inr other ↦ elim (cases_eq byte 49) [
    | inl one ↦ subst (λ (b : ℕ). IsLast (b ∷ [])) (sym one) last_one
    | inr neither ↦ (let none : Some high ≡ None = e ∙ ap (λ t. cond t (Some false) (cond (byte == 49) (Some true) None)) (ne_eqb byte 48 other) ∙ ap (λ t. cond t (Some true) None) (ne_eqb byte 49 neither) in absurd (cc))
  ]
]
level_last (byte ∷ next ∷ bytes) high e = absurd (cc)

-- the edge of a plain row
pub plain_edge : (content rest last : List ℕ) (time line : ℕ) (level : Bool) → BeginsWithNumber 44 content time rest → BeginsWithNumber 44 rest line last → Some level ≡ level_in last → SpellsEdge content (record { line = line; time = time; level = level })
plain_edge content rest last time line level first second e =
    let end = level_last last level e in
    record {
      time = first.front;
      line = second.front;
      level = last;
      parts = all_three content first.front rest second.front last last first.cut second.cut end.cut
          ∙ ap (λ (f : List ℕ). f ∷ without_blanks second.front ∷ without_blanks last ∷ []) first.no_blanks
          ∙ ap (λ (f : List ℕ). first.front ∷ f ∷ without_blanks last ∷ []) second.no_blanks
          ∙ ap (λ (f : List ℕ). first.front ∷ second.front ∷ f ∷ []) end.no_blanks;
      time_is = first.spelled;
      line_is = second.spelled;
      level_is = sym e;
    }

pub time_is_in_range : (time : ℕ) → time ≤ 10 ^ 15 → Ok time ≡ time_behind 0 1 (Some time)
time_is_in_range time le =
    let same : 0 + 1 * time ≡ time = omega arith in
    sym (ap (λ (n : ℕ). check (nat_le n (10 ^ 15)) TooLarge >>= λ _. Ok n) same ∙ ap (λ (t : Bool). check t TooLarge >>= λ _. Ok time) (le-leb time (10 ^ 15) le))

pub line_is_in_range : (field : List ℕ) (line : ℕ) → number_in field ≡ Some line → line ≤ 15 → Ok line ≡ line_field field
line_is_in_range field line e le = sym (rw (e, le-leb line 15 le) refl)

-- a plain row in ns without a fault
pub plain_stamped : (before : ℕ) (content : List ℕ) (edge : Edge) → SpellsEdge content edge → before ≤ edge.time → edge.time ≤ 10 ^ 15 → edge.line ≤ 15
    → IsStamped (stamp_time 1 before) (narrow_row Narrow (stamp_time 1 before) before (fields content)) edge.time (edge ∷ [])
plain_stamped before content edge spells later in_range line =
    stamped Narrow (stamp_time 1 before) before content spells.time spells.line spells.level edge.time edge.line edge.level spells.parts
    (time_is_in_range edge.time in_range ∙ ap (time_behind 0 1) (sym spells.time_is) ∙ narrow_time before spells.time)
    (line_is_in_range spells.line edge.line spells.line_is line) (sym spells.level_is) later
