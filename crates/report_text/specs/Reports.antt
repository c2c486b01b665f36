-- The line of a report, and what is read of a text as one; this project's own.
use Rattle.std.specs.Prelude.{ℕ, ◌<◌, ◌^◌, ◌==◌, ok_or, Result, Ok, List, [], ◌∷◌, ◌++◌, codes, decimal, flat_map, length}
use Rattle.receiver_core.specs.declared.report.Report.{Report}
use Rattle.receiver_core.specs.declared.report.What.{What}
use Rattle.receiver_core.specs.declared.report.What.TheVariants as what
use Rattle.report_text.specs.declared.fault.TextFault.{TextFault}
use Rattle.report_text.specs.declared.fault.TextFault.TheVariants.{Word, End}
use Rattle.line_base.specs.Steps.{◌>>=◌, check}
use Rattle.line_base.specs.Texts.{looked_up}
use Rattle.report_text.specs.Fields.{line_of, fields_of, field_read, value_read}
use Rattle.report_text.specs.Decimals.{IsBetween, two_digits, channel_in, number_spelled}
use Rattle.report_text.specs.Sent.{IsFrameTold, IsValueTold, IsEnhancedTold, frame_fields, value_fields, counter_fields, short_fields, enhanced_fields, frame_read, one_read, two_read, secure_read, split_read, counter_read, short_read, narrow_read, wide_read}
use Rattle.report_text.specs.Spc.{IsAnswerTold, answer_fields, no_answer_fields, answer_read, no_answer_read}
use Rattle.report_text.specs.Psi5.{IsBurstTold, burst_fields, block_fields, done_fields, burst_read, init_read, done_read}
use Rattle.report_text.specs.Downlink.{IsDownTold, down_fields, down_read}
use Rattle.report_text.specs.Rules.{bad_fields, bad_read}
use Rattle.report_text.specs.Gaps.{IsGapTold, gap_fields, gap_read}

-- the fields of what a report says: a keyword, and what stands behind it
abbrev pub says : What → List (List ℕ)
says (what.Frame frame) = frame_fields frame
says (what.Fast value) = value_fields value
says (what.Counter before now) = counter_fields before now
says (what.Short id value) = short_fields id value
says (what.Enhanced id value wide) = enhanced_fields id value wide
says (what.Answer code frame) = answer_fields code frame
says (what.NoAnswer code) = no_answer_fields code
says (what.Burst slot payload code) = burst_fields slot payload code
says (what.Block id value) = block_fields id value
says (what.Done blocks) = done_fields blocks
says (what.Down down) = down_fields down
says (what.Bad rule) = bad_fields rule
says (what.Gap count) = gap_fields count

-- what has a line: each value fits into its field, and it is no value that the nibbles alone tell
abbrev pub IsTold : What → Type 0
IsTold (what.Frame frame) = IsFrameTold frame
IsTold (what.Fast value) = IsValueTold value
IsTold (what.Counter before now) = (before < 16 ^ 2) × (now < 16 ^ 2)
IsTold (what.Short id value) = (id < 16 ^ 1) × (value < 16 ^ 2)
IsTold (what.Enhanced id value wide) = IsEnhancedTold id value wide
IsTold (what.Answer code frame) = IsAnswerTold code frame
IsTold (what.NoAnswer code) = IsBetween 0 7 code
IsTold (what.Burst slot payload code) = IsBurstTold slot payload code
IsTold (what.Block id value) = IsBetween 1 16 id × (value < 16 ^ 1)
IsTold (what.Done blocks) = blocks < 2 ^ 64
IsTold (what.Down down) = IsDownTold down
IsTold (what.Bad rule) = Unit {0}
IsTold (what.Gap count) = IsGapTold count

-- a report that has a line: a place below 2^64, and what it says has a line
pub record IsTellable (report : Report) : Type 0 where
  pub place : report.place < 2 ^ 64
  pub said : IsTold report.what

-- the line of a report of a channel, without its end: the channel, the place and what it says
unfoldable pub report_text : ℕ → Report → List ℕ
report_text channel report = line_of (two_digits channel ∷ decimal report.place ∷ says report.what)

-- the table of the keywords, with what is read behind each
abbrev pub keywords : List (List ℕ × (List (List ℕ) → Result (What × List (List ℕ)) TextFault))
keywords =
    (codes "frame", frame_read)
    ∷ (codes "one", one_read)
    ∷ (codes "two", two_read)
    ∷ (codes "secure", secure_read)
    ∷ (codes "split", split_read)
    ∷ (codes "counter", counter_read)
    ∷ (codes "short", short_read)
    ∷ (codes "enhanced8", narrow_read)
    ∷ (codes "enhanced4", wide_read)
    ∷ (codes "answer", answer_read)
    ∷ (codes "noanswer", no_answer_read)
    ∷ (codes "psi5", burst_read)
    ∷ (codes "init", init_read)
    ∷ (codes "initdone", done_read)
    ∷ (codes "down", down_read)
    ∷ (codes "bad", bad_read)
    ∷ (codes "gap", gap_read)
    ∷ []

-- what is read behind this word; Word for no keyword
unfoldable pub behind_word : List ℕ → List (List ℕ) → Result (What × List (List ℕ)) TextFault
behind_word word fields = do
  read ← ok_or (looked_up keywords word) Word
  read fields

-- what these fields say: a keyword, and what is read behind it
unfoldable pub what_read : List (List ℕ) → Result (What × List (List ℕ)) TextFault
what_read fields = do
  word ← field_read fields
  behind_word word.0 word.1

-- the channel and the report whose line a text is, or the first fault from the left: that of a field, and End where the text goes on behind the last one
unfoldable pub report_read : List ℕ → Result (ℕ × Report) TextFault
report_read text = do
  channel ← value_read channel_in (fields_of text)
  place ← value_read number_spelled channel.1
  said ← what_read place.1
  _ ← check (length said.1 == 0) End
  Ok (channel.0, record { place = place.0; what = said.0 })

-- the line of a report of the channel with this number, with its LF
unfoldable pub report_line : ℕ → Report → List ℕ
report_line channel report = report_text channel report ++ codes "\n"

-- the lines of these reports of the channel with this number
unfoldable pub lines_of : ℕ → List Report → List ℕ
lines_of channel reports = flat_map (report_line channel) reports
