-- Which reports are told of which channels, in the order of the text; this project's own.
use Rattle.std.specs.Prelude.{ℕ, zero, suc, ◌+◌, nat_eq, List, [], ◌++◌, filter, flat_map, length, map}
use Rattle.receiver_core.specs.declared.report.Report.{Report}
use Rattle.receiver_core.specs.Tallies.{tally_of}
use Rattle.report_text.specs.Reports.{report_line}
use Rattle.report_text.specs.Totals.{total_line}
use Rattle.decode_command.specs.Channels.{Decoding, told_lines}

-- a report that is told of the channel with this number
pub record Telling : Type 0 where
  pub channel : ℕ
  pub report : Report

-- the lines of what is told, in its order
unfoldable pub lines_told : List Telling → List ℕ
lines_told tellings = flat_map (λ (telling : Telling). report_line telling.channel telling.report) tellings

-- the reports that are told of the channel with this number
unfoldable pub told_of : ℕ → List Telling → List Report
told_of channel tellings = map (λ (telling : Telling). telling.report) (filter (λ (telling : Telling). nat_eq telling.channel channel) tellings)

-- the total lines of so many channels, of which the first has this number, each of what is told of it
unfoldable pub totals_told : ℕ → ℕ → List Telling → List ℕ
totals_told zero channel tellings = []
totals_told (suc count) channel tellings = total_line channel (tally_of (told_of channel tellings)) ++ totals_told count (channel + 1) tellings

-- the text of what is told: a line for each report, where lines are told, and then the total line of each channel
unfoldable pub whole_text_told : Decoding → List Telling → List ℕ
whole_text_told decoding tellings = told_lines decoding.told (lines_told tellings) ++ totals_told (length decoding.setups) 0 tellings

-- the same without the total lines
unfoldable pub text_told : Decoding → List Telling → List ℕ
text_told decoding tellings = told_lines decoding.told (lines_told tellings)
