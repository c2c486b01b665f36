-- The numbers of the faults of a line; this project's own.
use Rattle.std.specs.Prelude.{ℕ}
use Rattle.report_text.specs.declared.fault.TextFault.{TextFault}
use Rattle.report_text.specs.declared.fault.TextFault.TheVariants.{Word, Number, Range, End}

-- the number of a fault, 1 to 4
abbrev pub text_fault_number : TextFault → ℕ
text_fault_number Word = 1
text_fault_number Number = 2
text_fault_number Range = 3
text_fault_number End = 4
