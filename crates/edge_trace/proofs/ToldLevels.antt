-- The levels of a row's lines, as the digits of a number.
use Rattle.std.proofs.Common.{◌≡◌, ℕ, zero, suc, ◌+◌, ◌-◌, ◌*◌, ◌/◌, ◌%◌, ◌^◌, ◌<◌, ◌≤◌, ◌==◌, Bool, true, false, nat_lt, Option, None, Some, List, [], ◌∷◌, ◌++◌, ◌⊎◌, inl, inr, length, set, get_or, filter, refl, sym, ◌∙◌, ap, arith}
use Rattle.std.specs.Option.{option_to_list}
use Rattle.std.proofs.lemmas.Nat.{shr-shr, pow-add}
use Rattle.std.proofs.lemmas.Bool.{eq-eqb, ne_eqb, lt-ltb, cases_lt}
use Rattle.line_base.specs.declared.edge.Edge.{Edge}
use Rattle.edge_trace.specs.RowEdges.{edges_from, level_told, levels_told, digit_for, levels_kept, time_kept, IsKept, AreBelow}
use Rattle.edge_trace.proofs.KeptEdges.{few_edges, put_level, edge_on_line}

-- there is one for each line
pub length_told : (lines number : ℕ) → length (levels_told lines number) ≡ lines
unfolding levels_told
length_told zero number = refl
length_told (suc lines) number = ap suc (length_told lines (number / 4))

-- a line's digit
pub level_at : (lines k number : ℕ) → k < lines → get_or (levels_told lines number) k None ≡ level_told (number / 2 ^ (2 * k) % 4)
unfolding levels_told
level_at zero k number lt = absurd (omega arith)
level_at (suc lines) zero number lt = ap (λ (n : ℕ). level_told (n % 4)) (let e : number ≡ number / 1 = omega arith in e)
level_at (suc lines) (suc k) number lt =
    let p : 2 + 2 * k ≡ 2 * suc k = omega arith in
    level_at lines k (number / 4) (omega arith) ∙ ap (λ (n : ℕ). level_told (n % 4)) (shr-shr number 2 (2 * k) ∙ ap (λ (j : ℕ). number / 2 ^ j) p)

four : (k : ℕ) → 2 ^ (2 * suc k) ≡ 4 * 2 ^ (2 * k)
four k = (let e : 2 * suc k ≡ 2 + 2 * k = omega arith in ap (λ (j : ℕ). 2 ^ j) e ∙ pow-add 2 2 (2 * k))

no_digit : (digit : ℕ) → None ≡ level_told digit → digit ≡ 0
no_digit zero e = refl
no_digit (suc zero) e = (let p : ◌≡◌ {A = ℕ} 0 1 = ap (λ (o : Option Bool). length (option_to_list o)) e in absurd (omega arith))
no_digit (suc (suc digit)) e = (let p : ◌≡◌ {A = ℕ} 0 1 = ap (λ (o : Option Bool). length (option_to_list o)) e in absurd (omega arith))

-- no digits, no edges
pub none_told : (base time lines : ℕ) → edges_from base time (levels_told lines 0) ≡ []
unfolding edges_from levels_told
none_told base time zero = refl
none_told base time (suc lines) = none_told (base + 1) time lines

-- how many edges a digit is
no_more : (base time digit : ℕ) (levels : List (Option Bool)) → digit ≡ 0 → length (edges_from base time (level_told digit ∷ levels)) ≡ length (edges_from (base + 1) time levels)
unfolding edges_from
no_more base time zero levels e = refl
no_more base time (suc digit) levels e = absurd (omega arith)

one_more : (base time digit : ℕ) (levels : List (Option Bool)) → 0 < digit → length (edges_from base time (level_told digit ∷ levels)) ≡ suc (length (edges_from (base + 1) time levels))
unfolding edges_from
one_more base time zero levels lt = absurd (omega arith)
one_more base time (suc zero) levels lt = refl
one_more base time (suc (suc digit)) levels lt = refl

-- how many edges this number tells of so many lines
abbrev pub count_told : ℕ → ℕ → ℕ
count_told lines number = length (edges_from 0 0 (levels_told lines number))

-- the base and the time don't count
alike : (base time : ℕ) (levels : List (Option Bool)) → length (edges_from base time levels) ≡ length (edges_from 0 0 levels)
unfolding edges_from
alike base time [] = refl
alike base time (None ∷ levels) = alike (base + 1) time levels ∙ sym (alike (0 + 1) 0 levels)
alike base time (Some level ∷ levels) = ap suc (alike (base + 1) time levels ∙ sym (alike (0 + 1) 0 levels))

pub count_of_row : (time number : ℕ) → length (edges_from 0 time (levels_told 16 number)) ≡ count_told 16 number
count_of_row time number = alike 0 time (levels_told 16 number)

pub few_told : (lines number : ℕ) → count_told lines number ≤ lines
few_told lines number = omega (arith, few_edges 0 0 (levels_told lines number), length_told lines number)

pub told_all : (number : ℕ) → count_told 0 number ≡ 0
unfolding edges_from levels_told
told_all number = refl

pub told_none_more : (lines number : ℕ) → number % 4 ≡ 0 → count_told (suc lines) number ≡ count_told lines (number / 4)
unfolding levels_told
told_none_more lines number e = no_more 0 0 (number % 4) (levels_told lines (number / 4)) e ∙ alike (0 + 1) 0 (levels_told lines (number / 4))

pub told_one_more : (lines number : ℕ) → 0 < number % 4 → count_told (suc lines) number ≡ suc (count_told lines (number / 4))
unfolding levels_told
told_one_more lines number lt = one_more 0 0 (number % 4) (levels_told lines (number / 4)) lt ∙ ap suc (alike (0 + 1) 0 (levels_told lines (number / 4)))

-- the lines before this one are counted, and the number tells of the others
pub record CountSoFar (whole line count rest : ℕ) : Type 0 where
  pub all : count + count_told (16 - line) rest ≡ count_told 16 whole
  pub few : count ≤ line

pub counted_none : (whole line count rest : ℕ) → CountSoFar whole line count rest → line < 16 → rest % 4 ≡ 0 → CountSoFar whole (line + 1) count (rest / 4)
counted_none whole line count rest so_far lt e =
    let before = so_far.all in
    let few = so_far.few in
    let n : 16 - line ≡ suc (16 - (line + 1)) = omega arith in
    let now = ap (λ (lines : ℕ). count_told lines rest) n ∙ told_none_more (16 - (line + 1)) rest e in
    record { all = omega arith; few = omega arith }

pub counted_one : (whole line count rest : ℕ) → CountSoFar whole line count rest → line < 16 → 0 < rest % 4 → CountSoFar whole (line + 1) (count + 1) (rest / 4)
counted_one whole line count rest so_far lt e =
    let before = so_far.all in
    let few = so_far.few in
    let n : 16 - line ≡ suc (16 - (line + 1)) = omega arith in
    let now = ap (λ (lines : ℕ). count_told lines rest) n ∙ told_one_more (16 - (line + 1)) rest e in
    record { all = omega arith; few = omega arith }

pub counted_all : (time whole line count rest : ℕ) → CountSoFar whole line count rest → 16 ≤ line → count ≡ length (edges_from 0 time (levels_told 16 whole))
counted_all time whole line count rest so_far le =
    let all = so_far.all in
    let n : 16 - line ≡ 0 = omega arith in
    let now = ap (λ (lines : ℕ). count_told lines rest) n ∙ told_all rest in
    let row = count_of_row time whole in
    omega arith

-- where there are no edges, there are no digits
no_digits_more : (lines number : ℕ) → ((0 < number % 4) ⊎ (number % 4 ≤ 0)) → (number / 4 < 2 ^ (2 * lines) → count_told lines (number / 4) ≡ 0 → number / 4 ≡ 0) → number < 2 ^ (2 * suc lines) → count_told (suc lines) number ≡ 0 → number ≡ 0
no_digits_more lines number (inl lt) later few none = (let e = told_one_more lines number lt in absurd (omega arith))
no_digits_more lines number (inr le) later few none =
    let e = told_none_more lines number (omega arith) in
    let p : 2 ^ (2 * suc lines) ≡ 4 * 2 ^ (2 * lines) = four lines in
    let q = later (omega arith) (omega arith) in
    omega arith

no_digits : (lines number : ℕ) → number < 2 ^ (2 * lines) → count_told lines number ≡ 0 → number ≡ 0
no_digits zero number lt e = omega arith
no_digits (suc lines) number lt e = no_digits_more lines number (cases_lt 0 (number % 4)) (no_digits lines (number / 4)) lt e

empty_count : (number : ℕ) → number < 2 ^ 32 → (number == 0) ≡ (count_told 16 number == 0)
empty_count zero lt = sym (eq-eqb (count_told 16 0) 0 (ap length (none_told 0 0 16)))
empty_count (suc number) lt = ne_eqb (suc number) 0 (λ e. absurd (omega arith)) ∙ sym (ne_eqb (count_told 16 (suc number)) 0 (λ e. let p = no_digits 16 (suc number) lt e in absurd (omega arith)))

-- whether there are edges is told by the number
pub empty_row : (time number : ℕ) → number < 2 ^ 32 → (number == 0) ≡ (length (edges_from 0 time (levels_told 16 number)) == 0)
empty_row time number lt = empty_count number lt ∙ ap (λ (n : ℕ). n == 0) (sym (count_of_row time number))

-- a line above those that have an edge has none
no_level : (base told line at k : ℕ) (levels : List (Option Bool)) → line ≡ base + k → AreBelow line at (edges_from base told levels) → None ≡ get_or levels k None
unfolding edges_from AreBelow
no_level base told line at k [] e below = refl
no_level base told line at zero (None ∷ levels) e below = refl
no_level base told line at zero (Some level ∷ levels) e below = (let lt : base < line = below.0 in absurd (omega arith))
no_level base told line at (suc k) (None ∷ levels) e below = no_level (base + 1) told line at k levels (omega arith) below
no_level base told line at (suc k) (Some level ∷ levels) e below = no_level (base + 1) told line at k levels (omega arith) below.2

pub no_digit_at : (told line at number : ℕ) → line < 16 → AreBelow line at (edges_from 0 told (levels_told 16 number)) → number / 2 ^ (2 * line) % 4 ≡ 0
no_digit_at told line at number lt below = no_digit _ (no_level 0 told line at line (levels_told 16 number) (omega arith) below ∙ level_at 16 line number lt)

-- one more digit, where there was none
with_digit : (lines k number digit power : ℕ) → digit < 4 → levels_told lines (number / 4 + digit * power) ≡ set (levels_told lines (number / 4)) k (level_told digit) → levels_told (suc lines) (number + digit * (4 * power)) ≡ set (levels_told (suc lines) number) (suc k) (level_told digit)
unfolding levels_told
with_digit lines k number digit power small later =
    let low : (number + digit * (4 * power)) % 4 ≡ number % 4 = omega arith in
    let high : (number + digit * (4 * power)) / 4 ≡ number / 4 + digit * power = omega arith in
    ap (λ (n : ℕ). level_told n ∷ levels_told lines ((number + digit * (4 * power)) / 4)) low
    ∙ ap (λ (n : ℕ). level_told (number % 4) ∷ levels_told lines n) high
    ∙ ap (λ ls. level_told (number % 4) ∷ ls) later

first_digit : (lines number digit : ℕ) → digit < 4 → number % 4 ≡ 0 → levels_told (suc lines) (number + digit) ≡ set (levels_told (suc lines) number) 0 (level_told digit)
unfolding levels_told
first_digit lines number digit small none =
    let low : (number + digit) % 4 ≡ digit = omega arith in
    let high : (number + digit) / 4 ≡ number / 4 = omega arith in
    ap (λ (n : ℕ). level_told n ∷ levels_told lines ((number + digit) / 4)) low
    ∙ ap (λ (n : ℕ). level_told digit ∷ levels_told lines n) high

no_digit_later : (number k : ℕ) → number / 2 ^ (2 * suc k) % 4 ≡ 0 → number / 4 / 2 ^ (2 * k) % 4 ≡ 0
no_digit_later number k none =
    let p : 2 + 2 * k ≡ 2 * suc k = omega arith in
    ap (λ (n : ℕ). n % 4) (shr-shr number 2 (2 * k) ∙ ap (λ (j : ℕ). number / 2 ^ j) p) ∙ none

pub digit_put : (lines k number digit : ℕ) → k < lines → digit < 4 → number / 2 ^ (2 * k) % 4 ≡ 0 → levels_told lines (number + digit * 2 ^ (2 * k)) ≡ set (levels_told lines number) k (level_told digit)
digit_put zero k number digit lt small none = absurd (omega arith)
digit_put (suc lines) zero number digit lt small none =
    let one : number + digit * 1 ≡ number + digit = omega arith in
    ap (levels_told (suc lines)) one ∙ first_digit lines number digit small (omega arith)
digit_put (suc lines) (suc k) number digit lt small none =
    ap (λ (power : ℕ). levels_told (suc lines) (number + digit * power)) (four k)
    ∙ with_digit lines k number digit (2 ^ (2 * k)) small (digit_put lines k (number / 4) digit (omega arith) small (no_digit_later number k none))

-- the number with one more digit has no more digits than lines
pub digit_fits : (lines k number digit : ℕ) → k < lines → digit < 4 → number / 2 ^ (2 * k) % 4 ≡ 0 → number < 2 ^ (2 * lines) → number + digit * 2 ^ (2 * k) < 2 ^ (2 * lines)
digit_fits zero k number digit lt small none few = absurd (omega arith)
digit_fits (suc lines) zero number digit lt small none few = (let p = four lines in omega arith)
digit_fits (suc lines) (suc k) number digit lt small none few =
    let p = four lines in
    let later = digit_fits lines k (number / 4) digit (omega arith) small (no_digit_later number k none) (omega arith) in
    let q : digit * 2 ^ (2 * suc k) ≡ digit * (4 * 2 ^ (2 * k)) = ap (λ (power : ℕ). digit * power) (four k) in
    omega arith

pub digit_level : (digit : ℕ) → 0 < digit → level_told digit ≡ Some (nat_lt 1 digit)
digit_level zero lt = absurd (omega arith)
digit_level (suc zero) lt = refl
digit_level (suc (suc digit)) lt = ap Some (sym (lt-ltb 1 (suc (suc digit)) (omega arith)))

-- a level's digit
pub digit_told : (level : Bool) → level_told (digit_for level) ≡ Some level
digit_told true = refl
digit_told false = refl

digit_small : (level : Bool) → digit_for level < 4
digit_small true = omega arith
digit_small false = omega arith

pow_four : (k : ℕ) → 4 ^ k ≡ 2 ^ (2 * k)
pow_four zero = refl
pow_four (suc k) =
    let e : suc k ≡ 1 + k = omega arith in
    let same = pow_four k in
    let more : 4 ^ suc k ≡ 4 * 4 ^ k = ap (λ (j : ℕ). 4 ^ j) e ∙ pow-add 4 1 k in
    omega (arith, four k)

-- what is kept of one more edge
kept_push : (edges : List Edge) (edge : Edge) → levels_kept (edges ++ edge ∷ []) ≡ levels_kept edges + digit_for edge.level * 2 ^ (2 * edge.line)
unfolding levels_kept
kept_push [] edge = let power = ap (λ (n : ℕ). digit_for edge.level * n) (pow_four edge.line) in omega arith
kept_push (first ∷ edges) edge = let others = kept_push edges edge in omega arith

time_push : (edges : List Edge) (edge : Edge) → AreBelow edge.line edge.time edges → time_kept (edges ++ edge ∷ []) ≡ edge.time
unfolding time_kept AreBelow
time_push [] edge below = refl
time_push (first ∷ edges) edge below = below.1

-- one more edge, by the digit that is put
pub record HasPut (told time line number : ℕ) (level : Bool) : Type 0 where
  pub fits : number + digit_for level * 2 ^ (2 * line) % 4294967296 < 4294967296
  pub edges : edges_from 0 time (levels_told 16 (number + digit_for level * 2 ^ (2 * line) % 4294967296)) ≡ edges_from 0 told (levels_told 16 number) ++ record { line = line; time = time; level = level } ∷ []
  pub is_kept : IsKept time (number + digit_for level * 2 ^ (2 * line) % 4294967296)

pub has_put : (told time line number : ℕ) (level : Bool) → IsKept told number → line < 16 → number < 4294967296 → AreBelow line time (edges_from 0 told (levels_told 16 number)) → HasPut told time line number level
has_put told time line number level kept lt few below =
    let small = digit_small level in
    let none = no_digit_at told line time number lt below in
    let fits : number + digit_for level * 2 ^ (2 * line) < 4294967296 = digit_fits 16 line number (digit_for level) lt small none few in
    let whole : digit_for level * 2 ^ (2 * line) % 4294967296 ≡ digit_for level * 2 ^ (2 * line) = omega arith in
    let edge : Edge = record { line = line; time = time; level = level } in
    let edges : edges_from 0 time (levels_told 16 (number + digit_for level * 2 ^ (2 * line) % 4294967296)) ≡ edges_from 0 told (levels_told 16 number) ++ edge ∷ []
    = ap (λ (n : ℕ). edges_from 0 time (levels_told 16 (number + n))) whole
    ∙ ap (edges_from 0 time) (digit_put 16 line number (digit_for level) lt small none ∙ ap (set (levels_told 16 number) line) (digit_told level))
    ∙ put_level 0 told time line line level (levels_told 16 number) (omega arith) (omega (arith, length_told 16 number)) below in
    record {
      fits = omega arith;
      edges = edges;
      is_kept = record {
        time_is = ap time_kept edges ∙ time_push (edges_from 0 told (levels_told 16 number)) edge below;
        number_is = ap levels_kept edges ∙ kept_push (edges_from 0 told (levels_told 16 number)) edge
            ∙ ap (λ (n : ℕ). n + digit_for level * 2 ^ (2 * line)) kept.number_is ∙ ap (λ (n : ℕ). number + n) (sym whole);
      };
    }

-- nothing is kept of no edges
pub nothing_kept : IsKept 0 0
unfolding time_kept levels_kept
nothing_kept = record { time_is = ap time_kept (none_told 0 0 16); number_is = ap levels_kept (none_told 0 0 16) }
