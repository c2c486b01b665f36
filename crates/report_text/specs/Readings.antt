-- How what the code reads of a text is seen: a value, and the fields that are left.
use Rattle.std.specs.Prelude.{◌≡◌, Option, option_copied, Result, Ok, Err, List, ℕ}
use denote.Ref.{Bor}
use Rattle.report_text.specs.declared.fault.TextFault.{TextFault}
use Rattle.report_text.specs.Fields.{fields_left}

-- the fields that are left of a text
abbrev pub left : Option (Bor (List ℕ)) → List (List ℕ)
left rest = fields_left (option_copied rest)

-- what was read is what this reading gives: the value and the fields behind it, or the fault
abbrev pub Reads : {A : Type 0} → Result (A × Option (Bor (List ℕ))) TextFault → Result (A × List (List ℕ)) TextFault → Type 0
Reads (Ok found) read = read ≡ Ok (found.0, left found.1)
Reads (Err fault) read = read ≡ Err fault

-- the same of a field: its bytes and the fields behind it, or the fault
abbrev pub FieldReads : Result (Bor (List ℕ) × Option (Bor (List ℕ))) TextFault → Result (List ℕ × List (List ℕ)) TextFault → Type 0
FieldReads (Ok found) read = read ≡ Ok (found.0.now, left found.1)
FieldReads (Err fault) read = read ≡ Err fault
