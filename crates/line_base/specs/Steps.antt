-- Steps of which the first that fails tells its fault.
use Rattle.std.specs.Prelude.{Bool, true, false, Result, Ok, Err}

infixl 10 ◌>>=◌
-- what a step on a good value gives, and the first fault where there is one
abbrev pub ◌>>=◌ : {A B E : Type 0} → Result A E → (A → Result B E) → Result B E
(Ok x) >>= next = next x
(Err fault) >>= next = Err fault

-- the fault where the test fails
abbrev pub check : {E : Type 0} → Bool → E → Result (Unit {0}) E
check true fault = Ok tt
check false fault = Err fault
