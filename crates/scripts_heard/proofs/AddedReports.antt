-- What reports count together.
--     none-good       no report is bad where there is none
--     one-good        a report that counts as good
--     one-beside      a report that counts as neither
--     added-good      reports, and others behind them
use Rattle.std.proofs.Common.{◌≡◌, ℕ, ◌+◌, Bool, true, false, List, [], ◌∷◌, ◌++◌, cond, sum_by, ap, ap₂, refl, ◌∙◌}
use Rattle.std.proofs.lemmas.List.Sums.{sum_by-append, sum_by-cons}
use Rattle.receiver_core.specs.declared.report.Report.{Report}
use Rattle.receiver_core.specs.Tallies.{counts_as, is_bad, is_good}
use Rattle.scripts_heard.specs.AllGood.{AllGood}

-- no report is good or bad where there is none
pub none-good : AllGood [] 0
none-good = record { good = refl; bad = refl }

-- a report alone is counted once, by what it counts as
one-counted : (counts : Report → Bool) (report : Report) (is : Bool) → counts report ≡ is → sum_by (λ (r : Report). cond (counts r) 1 0) (report ∷ []) ≡ cond is 1 0 + 0
one-counted counts report is same = sum_by-cons (λ (r : Report). cond (counts r) 1 0) report [] ∙ ap (λ b. cond b 1 0 + 0) same

-- one report that counts as good is good
pub one-good : (report : Report) → is_good (counts_as report.what) ≡ true → is_bad (counts_as report.what) ≡ false → AllGood (report ∷ []) 1
one-good report good never = record {
  good = one-counted (λ (r : Report). is_good (counts_as r.what)) report true good;
  bad = one-counted (λ (r : Report). is_bad (counts_as r.what)) report false never;
}

-- one that counts as neither adds nothing
pub one-beside : (report : Report) → is_good (counts_as report.what) ≡ false → is_bad (counts_as report.what) ≡ false → AllGood (report ∷ []) 0
one-beside report neither never = record {
  good = one-counted (λ (r : Report). is_good (counts_as r.what)) report false neither;
  bad = one-counted (λ (r : Report). is_bad (counts_as r.what)) report false never;
}

-- where reports are good, and others behind them, all of them are
pub added-good : (reports later : List Report) (count more : ℕ) → AllGood reports count → AllGood later more → AllGood (reports ++ later) (count + more)
added-good reports later count more first second = record {
  good = sum_by-append (λ (report : Report). cond (is_good (counts_as report.what)) 1 0) reports later ∙ ap₂ (λ a b. a + b) first.good second.good;
  bad = sum_by-append (λ (report : Report). cond (is_bad (counts_as report.what)) 1 0) reports later ∙ ap₂ (λ a b. a + b) first.bad second.bad;
}
