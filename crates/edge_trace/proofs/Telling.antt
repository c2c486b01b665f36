-- What is told of one list of lines behind another.
use Rattle.std.proofs.Common.{◌≡◌, ℕ, suc, ◌+◌, true, Option, Some, None, Result, Ok, Err, List, [], ◌∷◌, ◌++◌, length, is_some, refl, sym, ◌∙◌, ap, arith, add-zero}
use Rattle.std.proofs.lemmas.List.{append_assoc}
use Rattle.line_base.specs.declared.edge.Edge.{Edge}
use Rattle.line_base.specs.declared.faults.LineFault.{LineFault}
use Rattle.edge_trace.specs.EdgeLists.{Standing, Read, line_read, Told, told_row, told_with, told_from, after_with, standing_after}
use Rattle.edge_trace.specs.Limits.{fault_in}

-- what is told of further lines, where no fault came before
abbrev pub told_on : ℕ → Option Standing → List (List ℕ) → List Told
told_on number None lines = []
told_on number (Some standing) lines = told_from number standing lines

-- how far a list goes on behind further lines
abbrev pub standing_on : Option Standing → List (List ℕ) → Option Standing
standing_on None lines = None
standing_on (Some standing) lines = standing_after standing lines

told_step : (number : ℕ) (read : Result Read LineFault) (front more : List (List ℕ)) → ((next : Standing) → told_from (number + 1) next (front ++ more) ≡ told_from (number + 1) next front ++ told_on (number + 1 + length front) (standing_after next front) more)
    → told_with number read (λ next. told_from (number + 1) next (front ++ more)) ≡ told_with number read (λ next. told_from (number + 1) next front) ++ told_on (number + suc (length front)) (after_with read (λ next. standing_after next front)) more
told_step number (Err fault) front more later = refl
told_step number (Ok read) front more later =
    let e : number + 1 + length front ≡ number + suc (length front) = omega arith in
    ap (λ told. told_row number read.edges ++ told) (later read.standing)
    ∙ sym (append_assoc (told_row number read.edges) (told_from (number + 1) read.standing front) (told_on (number + 1 + length front) (standing_after read.standing front) more))
    ∙ ap (λ n. (told_row number read.edges ++ told_from (number + 1) read.standing front) ++ told_on n (standing_after read.standing front) more) e

-- what is told of more lines stands behind what was told
pub told_append : (number : ℕ) (standing : Standing) (front more : List (List ℕ)) → told_from number standing (front ++ more) ≡ told_from number standing front ++ told_on (number + length front) (standing_after standing front) more
unfolding told_from standing_after
told_append number standing [] more = ap (λ n. told_from n standing more) (sym (add-zero number))
told_append number standing (line ∷ front) more = told_step number (line_read standing line) front more (λ next. told_append (number + 1) next front more)

standing_step : (read : Result Read LineFault) (front more : List (List ℕ)) → ((next : Standing) → standing_after next (front ++ more) ≡ standing_on (standing_after next front) more) → after_with read (λ next. standing_after next (front ++ more)) ≡ standing_on (after_with read (λ next. standing_after next front)) more
standing_step (Err fault) front more later = refl
standing_step (Ok read) front more later = later read.standing

pub standing_append : (standing : Standing) (front more : List (List ℕ)) → standing_after standing (front ++ more) ≡ standing_on (standing_after standing front) more
unfolding standing_after
standing_append standing [] more = refl
standing_append standing (line ∷ front) more = standing_step (line_read standing line) front more (λ next. standing_append next front more)

-- a row has no fault
no_fault_in_row : (number : ℕ) (edges : List Edge) (told : List Told) → fault_in (told_row number edges ++ told) ≡ fault_in told
no_fault_in_row number [] told = refl
no_fault_in_row number (edge ∷ edges) told = refl

no_fault_step : (number : ℕ) (read : Result Read LineFault) (lines : List (List ℕ)) (last : Standing) → ((next : Standing) → standing_after next lines ≡ Some last → fault_in (told_from (number + 1) next lines) ≡ None) → after_with read (λ next. standing_after next lines) ≡ Some last → fault_in (told_with number read (λ next. told_from (number + 1) next lines)) ≡ None
no_fault_step number (Err fault) lines last later e = cc
no_fault_step number (Ok read) lines last later e = no_fault_in_row number read.edges (told_from (number + 1) read.standing lines) ∙ later read.standing e

-- lines behind which the list goes on have no fault
pub no_fault_told : (number : ℕ) (standing : Standing) (lines : List (List ℕ)) (last : Standing) → standing_after standing lines ≡ Some last → fault_in (told_from number standing lines) ≡ None
unfolding told_from standing_after
no_fault_told number standing [] last e = refl
no_fault_told number standing (line ∷ lines) last e = no_fault_step number (line_read standing line) lines last (λ next. no_fault_told (number + 1) next lines last) e

fault_step : (number : ℕ) (read : Result Read LineFault) (lines : List (List ℕ)) → ((next : Standing) → standing_after next lines ≡ None → is_some (fault_in (told_from (number + 1) next lines)) ≡ true) → after_with read (λ next. standing_after next lines) ≡ None → is_some (fault_in (told_with number read (λ next. told_from (number + 1) next lines))) ≡ true
fault_step number (Err fault) lines later e = refl
fault_step number (Ok read) lines later e = ap is_some (no_fault_in_row number read.edges (told_from (number + 1) read.standing lines)) ∙ later read.standing e

-- lines behind which the list doesn't go on have a fault
pub fault_told : (number : ℕ) (standing : Standing) (lines : List (List ℕ)) → standing_after standing lines ≡ None → is_some (fault_in (told_from number standing lines)) ≡ true
unfolding told_from standing_after
fault_told number standing [] e = cc
fault_told number standing (line ∷ lines) e = fault_step number (line_read standing line) lines (λ next. fault_told (number + 1) next lines) e

-- the first fault of what is told behind rows
pub fault_behind : (front more : List Told) → fault_in front ≡ None → fault_in (front ++ more) ≡ fault_in more
fault_behind [] more e = refl
fault_behind ((number, Ok row) ∷ front) more e = fault_behind front more e
fault_behind ((number, Err fault) ∷ front) more e = cc

-- a fault that was told stays the first
pub fault_stays : (front more : List Told) (fault : ℕ × LineFault) → fault_in front ≡ Some fault → fault_in (front ++ more) ≡ Some fault
fault_stays [] more fault e = cc
fault_stays ((number, Ok row) ∷ front) more fault e = fault_stays front more fault e
fault_stays ((number, Err other) ∷ front) more fault e = e
