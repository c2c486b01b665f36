-- The reports of the bursts in a slot: one good report each, and none is bad.
--     IsRead            an initialisation as a channel may have it
--     FollowsBy, burst-follows      the codes of a slot, with an initialisation or without
--     quiet-reports     what a code ends in an initialisation is no good report, and no bad one
--     read-channel      of a channel without fault
use Rattle.std.proofs.Common.{◌≡◌, ℕ, ◌+◌, ◌*◌, ◌≤◌, Bool, true, false, if◌then◌else◌, cond, Option, None, Some, List, [], ◌∷◌, ◌++◌, length, drop, flat_map, refl, ap, ap₂, sym, subst, ◌∙◌, ltb-true, ltb-false, arith}
use Rattle.std.specs.Prelude.{nat_eq, nat_lt}
use Rattle.std.proofs.lemmas.Bool.Decides.{nat_tests}
use Rattle.std.proofs.lemmas.List.Sums.{sum_by-cons}
use Rattle.rand_pcg.specs.Lcg.{Lcg}
use Rattle.line_base.specs.declared.faults.SetupFault.TheVariants as fault
use Rattle.psi5_frame.specs.declared.setup.Parts.{Parts}
use Rattle.psi5_frame.specs.Setup.{Settings}
use Rattle.psi5_init.specs.declared.code.Code.{Code}
use Rattle.psi5_init.specs.declared.step.InitStep.{InitStep}
use Rattle.psi5_init.specs.declared.step.InitStep.TheVariants as step
use Rattle.psi5_init.specs.Codes.{class_in}
use Rattle.psi5_init.specs.Readings.{init_reading}
use Rattle.receiver_core.specs.declared.report.Report.{Report}
use Rattle.receiver_core.specs.declared.setup.ChannelSetup.TheVariants.{Psi5}
use Rattle.receiver_core.specs.declared.setup.SyncSlots.{SyncSlots}
use Rattle.receiver_core.specs.Psi5Reports.{init_report, init_reports}
use Rattle.receiver_core.specs.Setups.{are_other_slots, are_wrong_lines, are_wrong_repeats, setup_fault_of}
use Rattle.receiver_core.specs.Tallies.{counts_as, is_bad, is_good}
use Rattle.sim_base.specs.Wobbles.{word}
use Rattle.sensor_script.specs.Draws.{init_code, signal_code, value}
use Rattle.sensor_script.specs.Scripts.{burst_a, data_a, has_code, next_place}
use Rattle.sensor_script.proofs.SignalCodes.{signal-is}
use Rattle.scripts_heard.specs.AllGood.{AllGood}
use Rattle.scripts_heard.proofs.AddedReports.{none-good}
use Rattle.scripts_heard.proofs.SlotCodes.{AreFaultless, Follows, IsSignal, code-follows, faultless-drop, follows-faultless, follows-none, signal-follows}

-- ---- reports
-- a good report more
pub good-more : (report : Report) (reports : List Report) (count : ℕ) → is_good (counts_as report.what) ≡ true → is_bad (counts_as report.what) ≡ false → AllGood reports count → AllGood (report ∷ reports) (1 + count)
good-more report reports count is isnt all = record {
  good = sum_by-cons (λ (r : Report). cond (is_good (counts_as r.what)) 1 0) report reports ∙ ap₂ (λ b n. cond b 1 0 + n) is all.good;
  bad = sum_by-cons (λ (r : Report). cond (is_bad (counts_as r.what)) 1 0) report reports ∙ ap₂ (λ b n. cond b 1 0 + n) isnt all.bad;
}

-- a report more that is neither good nor bad
other-more : (report : Report) (reports : List Report) (count : ℕ) → is_good (counts_as report.what) ≡ false → is_bad (counts_as report.what) ≡ false → AllGood reports count → AllGood (report ∷ reports) count
other-more report reports count is isnt all = record {
  good = sum_by-cons (λ (r : Report). cond (is_good (counts_as r.what)) 1 0) report reports ∙ ap₂ (λ b n. cond b 1 0 + n) is all.good ∙ zero-add count;
  bad = sum_by-cons (λ (r : Report). cond (is_bad (counts_as r.what)) 1 0) report reports ∙ ap₂ (λ b n. cond b 1 0 + n) isnt all.bad;
}
  where
    zero-add : (n : ℕ) → 0 + n ≡ n
    zero-add n = omega arith

-- steps that violate no rule
faultless-reports : (place : ℕ) (steps : List InitStep) → AreFaultless steps → AllGood (flat_map (init_report place) steps) 0
faultless-reports place [] faultless = none-good
faultless-reports place (step.Nothing ∷ steps) faultless = faultless-reports place steps faultless.1
faultless-reports place (step.Block id value ∷ steps) faultless = other-more _ _ 0 refl refl (faultless-reports place steps faultless.1)
faultless-reports place (step.Done blocks ∷ steps) faultless = other-more _ _ 0 refl refl (faultless-reports place steps faultless.1)
faultless-reports place (step.Bad rule ∷ steps) faultless = absurd faultless.0

-- ---- an initialisation
-- data A is a code, and each block is sent 1 to 16 times
pub record IsCoded (parts : Parts) (repeats : ℕ) : Type 0 where
  pub ten : parts.a ≡ 10
  pub some : 1 ≤ repeats
  pub few : repeats ≤ 16

-- so it is where an initialisation is read
abbrev pub IsRead : Parts → Option ℕ → Type 0
IsRead parts None = Unit {0}
IsRead parts (Some repeats) = IsCoded parts repeats

-- where one is read, the codes of a slot are those of its first bursts
abbrev pub FollowsBy : Option ℕ → ℕ → ℕ → List Code → Type 0
FollowsBy None number place codes = Unit {0}
FollowsBy (Some repeats) number place codes = Follows repeats number place codes

-- no burst came yet
pub none-follows : (init : Option ℕ) (number : ℕ) → FollowsBy init number 0 []
none-follows None number = tt
none-follows (Some repeats) number = follows-none repeats number

-- data A that is drawn is a signal
data-signal : (width : ℕ) (g : Lcg) → width ≡ 10 → IsSignal (class_in (data_a width g))
unfolding data_a
data-signal width g ten = by-width (nat_eq width 10) (ap (λ n. nat_eq n 10) ten)
  where
    by-width : (b : Bool) → b ≡ true → IsSignal (class_in (if b then signal_code (word g) else value width g))
    by-width true is = subst IsSignal (sym (signal-is (word g))) tt
    by-width false is = absurd cc

-- the next burst's code, by whether the initialisation has one
code-by : (repeats number place : ℕ) (parts : Parts) (g : Lcg) (codes : List Code) → IsCoded parts repeats → Follows repeats number place codes → (has : Bool) → nat_lt place (32 * repeats + 1) ≡ has
    → Follows repeats number (next_place place) (codes ++ class_in (if has then init_code repeats number place else data_a parts.a g) ∷ [])
code-by repeats number place parts g codes read f true is = code-follows repeats number place codes read.few (ltb-true place (32 * repeats + 1) is) f
code-by repeats number place parts g codes read f false is = signal-follows repeats number place codes (class_in (data_a parts.a g)) read.few (ltb-false place (32 * repeats + 1) is) (data-signal parts.a g read.ten) f

-- with the next burst's code they are those of one burst more
pub burst-follows : (parts : Parts) (init : Option ℕ) (number place : ℕ) (g : Lcg) (codes : List Code) → IsRead parts init → FollowsBy init number place codes
    → FollowsBy init number (next_place place) (codes ++ class_in (burst_a parts init number place g) ∷ [])
unfolding burst_a
burst-follows parts None number place g codes read f = tt
burst-follows parts (Some repeats) number place g codes read f = code-by repeats number place parts g codes read f (has_code (Some repeats) place) refl

-- what a code ends in an initialisation is no good report, and no bad one
pub quiet-reports : (parts : Parts) (init : Option ℕ) (number place edge : ℕ) (codes : List Code) (c : Code) → IsRead parts init → FollowsBy init number place (codes ++ c ∷ []) → AllGood (init_reports init edge codes c) 0
quiet-reports parts None number place edge codes c read f = none-good
quiet-reports parts (Some repeats) number place edge codes c read f =
    let steps = init_reading repeats (codes ++ c ∷ []) in
    let old = length (init_reading repeats codes) in
    faultless-reports edge (drop old steps) (faultless-drop old steps (follows-faultless repeats number place (codes ++ c ∷ []) read.some f))

-- ---- a channel
-- the last of three tests
by-tests : (a b c : Bool) → (if a then Some fault.Lines else (if b then Some fault.Slots else (if c then Some fault.Repeats else None))) ≡ None → c ≡ false
by-tests true b c e = absurd cc
by-tests false true c e = absurd cc
by-tests false false true e = absurd cc
by-tests false false false e = refl

-- the repeats of a setup without fault
read-setup : (s : Settings) (init : Option ℕ) → are_wrong_repeats s init ≡ false → IsRead s.parts init
read-setup s None right = tt
read-setup s (Some repeats) right = record { ten = grind (arith, nat_tests, right); some = grind (arith, nat_tests, right); few = grind (arith, nat_tests, right) }

-- a channel's initialisation is such, where its setup has no fault
pub read-channel : (line : ℕ) (s : Settings) (slots : Option SyncSlots) (init : Option ℕ) → setup_fault_of (Psi5 line s slots init) ≡ None → IsRead s.parts init
read-channel line s slots init no_fault = read-setup s init (by-tests (are_wrong_lines line slots) (are_other_slots s slots) (are_wrong_repeats s init) no_fault)
