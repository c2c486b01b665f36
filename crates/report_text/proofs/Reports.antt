-- A report has one line, and is read from that line alone.
use Rattle.std.proofs.Common.{◌≡◌, ℕ, ◌<◌, ◌^◌, ◌==◌, ◌↔◌, Result, Ok, List, [], ◌∷◌, ◌++◌, length, decimal, refl, sym, ◌∙◌, ap, subst}
use Rattle.std.specs.List.{list_all}
use Rattle.std.proofs.lemmas.Bool.{eqb-true, and_from}
use Rattle.std.proofs.lemmas.List.{append-nil, nil_from_length}
use Rattle.std.proofs.lemmas.List.Splits.{join_with_byte-slice_split}
use Rattle.receiver_core.specs.declared.report.Report.{Report}
use Rattle.report_text.specs.declared.fault.TextFault.{TextFault}
use Rattle.report_text.specs.declared.fault.TextFault.TheVariants.{End}
use Rattle.line_base.specs.Steps.{◌>>=◌, check}
use Rattle.report_text.specs.Fields.{line_of, fields_of, value_read}
use Rattle.report_text.specs.Decimals.{two_digits, channel_in, number_spelled}
use Rattle.report_text.specs.Reports.{says, IsTellable, report_text, what_read, report_read}
use Rattle.report_text.proofs.Steps.{bind_ok, check_ok, ok_is}
use Rattle.report_text.proofs.Cutting.{is_other, are_free, fields_back}
use Rattle.report_text.proofs.Decimals.{channel_free, decimal_free}
use Rattle.report_text.proofs.Spellings.{value_taken, value_again, channels, numbers}
use Rattle.report_text.proofs.Lines.{said_taken, said_again, said_free}

-- the text is the report's line, and the report has one
pub record IsLineOf (text : List ℕ) (channel : ℕ) (report : Report) : Type 0 where
  pub spelled : text ≡ report_text channel report
  pub low : channel < 16
  pub tellable : IsTellable report

line_is : (text : List ℕ) (channel : ℕ) (report : Report) → fields_of text ≡ two_digits channel ∷ decimal report.place ∷ says report.what → text ≡ report_text channel report
unfolding report_text
line_is text channel report e = sym (join_with_byte-slice_split 32 text) ∙ ap line_of e

-- a text from which a report is read is its line
pub report_taken : (text : List ℕ) (found : ℕ × Report) → report_read text ≡ Ok found → IsLineOf text found.0 found.1
unfolding report_read
report_taken text found e =
    let channel = bind_ok (value_read channel_in (fields_of text)) (λ channel. value_read number_spelled channel.1 >>= λ place. what_read place.1 >>= λ said. check (length said.1 == 0) End >>= λ _. Ok (channel.0, record { place = place.0; what = said.0 })) found e in
    let place = bind_ok (value_read number_spelled channel.0.1) (λ place. what_read place.1 >>= λ said. check (length said.1 == 0) End >>= λ _. Ok (channel.0.0, record { place = place.0; what = said.0 })) found channel.2 in
    let said = bind_ok (what_read place.0.1) (λ said. check (length said.1 == 0) End >>= λ _. Ok (channel.0.0, record { place = place.0.0; what = said.0 })) found place.2 in
    let made : ℕ × Report = (channel.0.0, record { place = place.0.0; what = said.0.0 }) in
    let ended = check_ok (length said.0.1 == 0) End (Ok made) found said.2 in
    let a = value_taken two_digits channel_in (λ n. n < 16) channels (fields_of text) channel.0 channel.1 in
    let b = value_taken decimal number_spelled (λ n. n < 2 ^ 64) numbers channel.0.1 place.0 place.1 in
    let c = said_taken place.0.1 said.0 said.1 in
    let nothing : said.0.1 ≡ [] = nil_from_length said.0.1 (eqb-true (length said.0.1) 0 ended.0) in
    let fields : fields_of text ≡ two_digits made.0 ∷ decimal made.1.place ∷ says made.1.what =
    a.0 ∙ ap (λ (fs : List (List ℕ)). two_digits channel.0.0 ∷ fs) (b.0 ∙ ap (λ (fs : List (List ℕ)). decimal place.0.0 ∷ fs) (c.0 ∙ ap (λ (fs : List (List ℕ)). says said.0.0 ++ fs) nothing ∙ append-nil (says said.0.0))) in
    subst (λ (f : ℕ × Report). IsLineOf text f.0 f.1) (ok_is made found ended.1)
    (record { spelled = line_is text made.0 made.1 fields; low = a.1; tellable = record { place = b.1; said = c.1 } })

fields_are : (channel : ℕ) (report : Report) → channel < 16 → IsTellable report → fields_of (report_text channel report) ≡ two_digits channel ∷ decimal report.place ∷ says report.what
unfolding report_text
fields_are channel report low own =
    fields_back (two_digits channel) (decimal report.place ∷ says report.what)
    (and_from (list_all is_other (two_digits channel)) (are_free (decimal report.place ∷ says report.what)) (channel_free channel low)
    (and_from (list_all is_other (decimal report.place)) (are_free (says report.what)) (decimal_free report.place own.place) (said_free report.what own.said)))

-- a report is read from its line
pub report_again : (channel : ℕ) (report : Report) → channel < 16 → IsTellable report → report_read (report_text channel report) ≡ Ok (channel, report)
unfolding report_read
report_again channel report low own =
    let said = subst (λ (fs : List (List ℕ)). what_read fs ≡ Ok (report.what, [])) (append-nil (says report.what)) (said_again report.what [] own.said) in
    let place = value_again decimal number_spelled (λ n. n < 2 ^ 64) numbers report.place (says report.what) own.place in
    let first = value_again two_digits channel_in (λ n. n < 16) channels channel (decimal report.place ∷ says report.what) low in
    rw (fields_are channel report low own, first, place, said) refl

-- so each report has one spelling
pub exactly : (text : List ℕ) (result : Result (ℕ × Report) TextFault) → result ≡ report_read text → (channel : ℕ) (report : Report) → (result ≡ Ok (channel, report)) ↔ ((text ≡ report_text channel report) × (channel < 16) × IsTellable report)
exactly text result e channel report = (
  λ found. (let line = report_taken text (channel, report) (sym e ∙ found) in (line.spelled, line.low, line.tellable)),
  λ line. e ∙ ap report_read line.0 ∙ report_again channel report line.1 line.2,
)
