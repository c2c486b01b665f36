-- The tally of one report more.
use Rattle.std.proofs.Common.{◌≡◌, ℕ, List, [], ◌∷◌, ◌++◌, cond, ap, sym, ◌∙◌}
use Rattle.std.proofs.lemmas.List.Sums.{sum_by_push}
use Rattle.receiver_core.specs.declared.report.Report.{Report}
use Rattle.receiver_core.specs.declared.tally.Tally.{Tally}
use Rattle.receiver_core.specs.Tallies.{counts_as, is_good, is_bad, is_message, is_gap, lost_in, counted_with, tally_of}

same-counts : (good bad messages gaps lost good' bad' messages' gaps' lost' : ℕ) → good ≡ good' → bad ≡ bad' → messages ≡ messages' → gaps ≡ gaps' → lost ≡ lost'
    → (let tally : Tally = record { good = good; bad = bad; messages = messages; gaps = gaps; lost = lost } in tally)
    ≡ record { good = good'; bad = bad'; messages = messages'; gaps = gaps'; lost = lost' }
same-counts good bad messages gaps lost good' bad' messages' gaps' lost' a b c d e = rw (a, b, c, d, e)

-- the tally of reports and one more is the tally of the reports with the one counted
pub tally_of-more : (reports : List Report) (next : Report) → tally_of (reports ++ next ∷ []) ≡ counted_with (tally_of reports) next
tally_of-more reports next =
    same-counts _ _ _ _ _ _ _ _ _ _
    (sum_by_push (λ (report : Report). cond (is_good (counts_as report.what)) 1 0) reports next)
    (sum_by_push (λ (report : Report). cond (is_bad (counts_as report.what)) 1 0) reports next)
    (sum_by_push (λ (report : Report). cond (is_message (counts_as report.what)) 1 0) reports next)
    (sum_by_push (λ (report : Report). cond (is_gap (counts_as report.what)) 1 0) reports next)
    (sum_by_push (λ (report : Report). lost_in (counts_as report.what)) reports next)

-- a tally of reports, with one more counted, is the tally of these reports
pub counted-whole : (new old : Tally) (next : Report) (reports : List Report) → new ≡ counted_with old next → old ≡ tally_of reports → new ≡ tally_of (reports ++ next ∷ [])
counted-whole new old next reports counted whole = counted ∙ ap (λ (tally : Tally). counted_with tally next) whole ∙ sym (tally_of-more reports next)
