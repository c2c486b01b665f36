-- The fields of a message line, from the left; this project's own.
use Rattle.std.specs.Prelude.{ℕ, Result, Ok, Err, List, [], ◌∷◌}
use Rattle.line_base.specs.declared.faults.LineFault.{LineFault}
use Rattle.line_base.specs.declared.faults.LineFault.TheVariants.{Field}
use Rattle.line_base.specs.Steps.{◌>>=◌}

-- the next field, and those behind it; Field where there is none
abbrev pub next_field : List (List ℕ) → Result (List ℕ × List (List ℕ)) LineFault
next_field [] = Err Field
next_field (field ∷ fields) = Ok (field, fields)

-- the value that the next field spells, and the fields behind it
unfoldable pub value_read : {A : Type 0} → (List ℕ → Result A LineFault) → List (List ℕ) → Result (A × List (List ℕ)) LineFault
value_read spelled fields = do
  field ← next_field fields
  value ← spelled field.0
  Ok (value, field.1)
