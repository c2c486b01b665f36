-- What is told of one list of lines behind another.
use Rattle.std.proofs.Common.{◌≡◌, ℕ, suc, ◌+◌, Bool, true, false, cond, Option, Some, None, Result, Ok, Err, List, [], ◌∷◌, ◌++◌, length, is_some, refl, sym, ◌∙◌, ap, arith, add-zero}
use Rattle.line_base.specs.declared.faults.LineFault.{LineFault}
use Rattle.text_lines.specs.Inputs.{Numbered, fault_in, unless_fault, line_read, line_with, lines_from}

-- a fault isn't none
pub some_is : {A : Type 0} (o : Option A) (x : A) → o ≡ Some x → is_some o ≡ true
some_is o x e = ap is_some e

pub not_both : {A : Type 0} (o : Option A) (x : A) → o ≡ Some x → o ≡ None → ⊥
not_both o x e f = cc

-- more is told where there was no fault, and nothing more behind a fault
pub unless_none : {A : Type 0} (told more : List (Numbered A)) → fault_in told ≡ None → unless_fault told more ≡ told ++ more
unless_none told more e = ap (λ t. cond t told (told ++ more)) (ap is_some e)

pub unless_some : {A : Type 0} (told more : List (Numbered A)) (fault : ℕ × LineFault) → fault_in told ≡ Some fault → unless_fault told more ≡ told
unless_some told more fault e = ap (λ t. cond t told (told ++ more)) (ap is_some e)

cons_cond : {A : Type 0} (t : Bool) (x : A) (xs ys : List A) → x ∷ cond t xs ys ≡ cond t (x ∷ xs) (x ∷ ys)
cons_cond true x xs ys = refl
cons_cond false x xs ys = refl

-- what is told behind something without a fault
pub unless_cons : {A : Type 0} (number : ℕ) (x : A) (told more : List (Numbered A)) → (number, Ok x) ∷ unless_fault told more ≡ unless_fault ((number, Ok x) ∷ told) more
unless_cons number x told more = cons_cond (is_some (fault_in told)) (number, Ok x) told (told ++ more)

lines_step : (number : ℕ) (read : Result (List ℕ) LineFault) (front more : List (List ℕ)) → lines_from (number + 1) (front ++ more) ≡ unless_fault (lines_from (number + 1) front) (lines_from (number + 1 + length front) more)
    → line_with number read (lines_from (number + 1) (front ++ more)) ≡ unless_fault (line_with number read (lines_from (number + 1) front)) (lines_from (number + suc (length front)) more)
lines_step number (Err fault) front more later = refl
lines_step number (Ok content) front more later =
    let e : number + 1 + length front ≡ number + suc (length front) = omega arith in
    ap (λ lines. (number, Ok content) ∷ lines) later
    ∙ unless_cons number content (lines_from (number + 1) front) (lines_from (number + 1 + length front) more)
    ∙ ap (λ n. unless_fault ((number, Ok content) ∷ lines_from (number + 1) front) (lines_from n more)) e

-- more lines stand behind the ones before
pub lines_append : (number : ℕ) (front more : List (List ℕ)) → lines_from number (front ++ more) ≡ unless_fault (lines_from number front) (lines_from (number + length front) more)
unfolding lines_from
lines_append number [] more = ap (λ n. lines_from n more) (sym (add-zero number))
lines_append number (line ∷ front) more = lines_step number (line_read line) front more (lines_append (number + 1) front more)

-- the first fault behind what has none
pub fault_behind : {A : Type 0} (front more : List (Numbered A)) → fault_in front ≡ None → fault_in (front ++ more) ≡ fault_in more
fault_behind [] more e = refl
fault_behind ((number, Ok x) ∷ front) more e = fault_behind front more e
fault_behind ((number, Err fault) ∷ front) more e = absurd (cc)

-- a fault that was told stays the first
pub fault_stays : {A : Type 0} (front more : List (Numbered A)) (fault : ℕ × LineFault) → fault_in front ≡ Some fault → fault_in (front ++ more) ≡ Some fault
fault_stays [] more fault e = absurd (cc)
fault_stays ((number, Ok x) ∷ front) more fault e = fault_stays front more fault e
fault_stays ((number, Err other) ∷ front) more fault e = e
