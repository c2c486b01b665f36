-- The line of a channel's totals; this project's own.
use Rattle.std.specs.Prelude.{ℕ, List, ◌++◌, codes, decimal}
use Rattle.receiver_core.specs.declared.tally.Tally.{Tally}
use Rattle.report_text.specs.Decimals.{two_digits}

-- a channel's total line, without its end
unfoldable pub total_text : ℕ → Tally → List ℕ
total_text channel tally =
    two_digits channel ++ codes " total good " ++ decimal tally.good ++ codes " bad " ++ decimal tally.bad ++ codes " messages " ++ decimal tally.messages
    ++ codes " gaps " ++ decimal tally.gaps ++ codes " lost " ++ decimal tally.lost

-- the total line of the channel with this number, with its LF
unfoldable pub total_line : ℕ → Tally → List ℕ
total_line channel tally = total_text channel tally ++ codes "\n"
