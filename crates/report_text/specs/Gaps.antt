-- The line of a gap; this project's own.
use Rattle.std.specs.Prelude.{ℕ, ◌<◌, ◌≤◌, ◌^◌, Result, Ok, List, [], ◌∷◌, codes, decimal}
use Rattle.receiver_core.specs.declared.report.What.{What}
use Rattle.receiver_core.specs.declared.report.What.TheVariants.{Gap}
use Rattle.report_text.specs.declared.fault.TextFault.{TextFault}
use Rattle.line_base.specs.Steps.{◌>>=◌}
use Rattle.report_text.specs.Fields.{value_read}
use Rattle.report_text.specs.Decimals.{count_spelled}

-- the fields of a gap: how many edges were lost
abbrev pub gap_fields : ℕ → List (List ℕ)
gap_fields count = codes "gap" ∷ decimal count ∷ []

-- a gap that has a line: one edge at least, and fewer than 2^64
pub record IsGapTold (count : ℕ) : Type 0 where
  pub some : 1 ≤ count
  pub below : count < 2 ^ 64

-- what is read behind `gap`
unfoldable pub gap_read : List (List ℕ) → Result (What × List (List ℕ)) TextFault
gap_read fields = do
  count ← value_read count_spelled fields
  Ok (Gap count.0, count.1)
