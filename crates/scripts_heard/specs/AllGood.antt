-- That reports are good, and none is bad; this project's own.
use Rattle.std.specs.Prelude.{◌≡◌, ℕ, List}
use Rattle.receiver_core.specs.declared.report.Report.{Report}
use Rattle.receiver_core.specs.Tallies.{tally_of}

-- so many of these reports count as good, and none as bad
pub record AllGood (reports : List Report) (count : ℕ) : Type 0 where
  pub good : (tally_of reports).good ≡ count
  pub bad : (tally_of reports).bad ≡ 0
