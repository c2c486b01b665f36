-- What is counted of a channel's reports; this project's own.
use Rattle.std.specs.Prelude.{◌≡◌, ℕ, ◌+◌, ◌^◌, ◌<◌, Bool, true, false, List, [], ◌∷◌, count_by, sum_by, if◌then◌else◌}
use Rattle.receiver_core.specs.declared.report.Report.{Report}
use Rattle.receiver_core.specs.declared.report.What.{What}
use Rattle.receiver_core.specs.declared.report.What.TheVariants as what
use Rattle.receiver_core.specs.declared.tally.Tally.{Tally}

-- what a report counts as: good, bad, a message, a gap of so many lost edges, or nothing
pub data Counts : Type 0 where
  Good : Counts
  Bad : Counts
  Message : Counts
  Gap : ℕ → Counts
  Nothing : Counts

-- a frame, an answer, a burst and a downlink frame are good; a violated rule, a counter that doesn't follow and a trigger without an answer are bad; a serial message and a block are messages; what a frame's nibbles say counts with the frame, and the end of an initialisation as nothing
abbrev pub counts_as : What → Counts
counts_as (what.Frame frame) = Good
counts_as (what.Fast value) = Nothing
counts_as (what.Counter before now) = Bad
counts_as (what.Short id value) = Message
counts_as (what.Enhanced id value wide) = Message
counts_as (what.Answer code frame) = Good
counts_as (what.NoAnswer code) = Bad
counts_as (what.Burst slot payload code) = Good
counts_as (what.Block id value) = Message
counts_as (what.Done blocks) = Nothing
counts_as (what.Down down) = Good
counts_as (what.Bad rule) = Bad
counts_as (what.Gap count) = Gap count

-- it counts as good
abbrev pub is_good : Counts → Bool
is_good Good = true
is_good _ = false

-- it counts as bad
abbrev pub is_bad : Counts → Bool
is_bad Bad = true
is_bad _ = false

-- it counts as a message
abbrev pub is_message : Counts → Bool
is_message Message = true
is_message _ = false

-- it counts as a gap
abbrev pub is_gap : Counts → Bool
is_gap (Gap count) = true
is_gap _ = false

-- how many lost edges it counts
abbrev pub lost_in : Counts → ℕ
lost_in (Gap count) = count
lost_in _ = 0

-- a tally with one more counted
abbrev pub counted_as : Tally → Counts → Tally
counted_as tally counts = record {
  good = tally.good + (if is_good counts then 1 else 0);
  bad = tally.bad + (if is_bad counts then 1 else 0);
  messages = tally.messages + (if is_message counts then 1 else 0);
  gaps = tally.gaps + (if is_gap counts then 1 else 0);
  lost = tally.lost + lost_in counts;
}

-- a tally with one more report counted
abbrev pub counted_with : Tally → Report → Tally
counted_with tally report = counted_as tally (counts_as report.what)

-- the tally of these reports: how many are good, bad, messages and gaps, and how many edges were lost
abbrev pub tally_of : List Report → Tally
tally_of reports = record {
  good = count_by (λ report. is_good (counts_as report.what)) reports;
  bad = count_by (λ report. is_bad (counts_as report.what)) reports;
  messages = count_by (λ report. is_message (counts_as report.what)) reports;
  gaps = count_by (λ report. is_gap (counts_as report.what)) reports;
  lost = sum_by (λ report. lost_in (counts_as report.what)) reports;
}

-- how many reports a tally has counted: each as one of good, bad, a message or a gap, or not at all
abbrev pub counted_in : Tally → ℕ
counted_in tally = tally.good + tally.bad + tally.messages + tally.gaps

-- how many lost edges these reports tell of
abbrev pub lost_told : List Report → ℕ
lost_told reports = sum_by (λ report. lost_in (counts_as report.what)) reports

-- each sum of a tally is below 2^64
pub record HasRoom (tally : Tally) : Type 0 where
  pub good : tally.good < 2 ^ 64
  pub bad : tally.bad < 2 ^ 64
  pub messages : tally.messages < 2 ^ 64
  pub gaps : tally.gaps < 2 ^ 64
  pub lost : tally.lost < 2 ^ 64

-- none of these reports tells of a gap, or of lost edges
abbrev pub TellNoGap : List Report → Type 0
TellNoGap [] = Unit {0}
TellNoGap (report ∷ reports) = (lost_in (counts_as report.what) ≡ 0) × (is_gap (counts_as report.what) ≡ false) × TellNoGap reports
