-- Where the next interval leads a reader, and what it stands for then.
--     outside-start, outside-other      outside a frame
--     within-on      in a frame
--     tooth-none      no rise has a step
--     stands-fresh, forgotten      a reader that has seen no rise, or has forgotten all
--     first-pushed      the first rise
--     later-pushed      one rise more
use Rattle.std.proofs.Common.{◌≡◌, ℕ, suc, ◌-◌, Bool, false, nat_eq, Option, None, Some, List, [], ◌∷◌, ◌++◌, refl, sym, ◌∙◌, ap, subst}
use Rattle.line_base.specs.Readings.{go_on, read_past}
use Rattle.line_base.proofs.Readers.{goes_on, grows}
use Rattle.link_math.specs.Periods.{periods_in}
use Rattle.psi5_downlink.specs.declared.down.Form.{Form}
use Rattle.psi5_downlink.specs.declared.step.ToothStep.{ToothStep}
use Rattle.psi5_downlink.specs.declared.step.ToothStep.TheVariants.{Good, Bad}
use Rattle.psi5_downlink.specs.declared.verdict.Verdict.{Verdict}
use Rattle.psi5_downlink.specs.declared.verdict.Verdict.TheVariants.{Unfinished, Whole, Broken}
use Rattle.psi5_downlink.specs.declared.reader.State.{State}
use Rattle.psi5_downlink.specs.declared.reader.State.TheVariants.{Outside, Within}
use Rattle.psi5_downlink.specs.declared.reader.ToothReader.{ToothReader}
use Rattle.psi5_downlink.specs.Setup.{Settings}
use Rattle.psi5_downlink.specs.Rises.{Interval, Rise, intervals_after}
use Rattle.psi5_downlink.specs.Reading.{found_at, frame_after, frame_on, interval_reading, tooth_reading, verdict}
use Rattle.psi5_downlink.specs.Kept.{intervals_since, reading_on}
use Rattle.psi5_downlink.specs.Readers.{StandsFor}

-- ---- outside a frame
pub outside-start : (form : Form) (number : ℕ) (later : List Interval) → reading_on form Outside (record { number = number; periods = 6 } ∷ later) ≡ reading_on form (Within []) later
unfolding reading_on interval_reading read_past found_at
outside-start form number later = refl

pub outside-other : (form : Form) (number periods : ℕ) (later : List Interval) → nat_eq periods 6 ≡ false → reading_on form Outside (record { number = number; periods = periods } ∷ later) ≡ reading_on form Outside later
unfolding reading_on interval_reading read_past found_at
outside-other form number periods later other = rw other refl

-- ---- in a frame
-- what is read behind a frame, of which so many intervals are used up
abbrev behind : Form → List Interval → ℕ → Unit {0} → List ToothStep
behind form intervals used next = read_past (found_at form) used next intervals

-- a frame that begins one interval later
one_later : (form : Form) (bits : List Bool) (used : ℕ) (first : Interval) (frame later : List Interval) → go_on (frame_after form bits (suc used) frame) (behind form (first ∷ later)) ≡ go_on (frame_after form bits used frame) (behind form later)
unfolding frame_after read_past
one_later form bits used first [] later = refl
one_later form bits used first (interval ∷ frame) later = by_verdict (verdict form bits interval.periods) (λ more. one_later form more (suc used) first frame later)
  where
    by_verdict : (v : Verdict) → ((more : List Bool) → go_on (frame_after form more (suc (suc used)) frame) (behind form (first ∷ later)) ≡ go_on (frame_after form more (suc used) frame) (behind form later))
        → go_on (frame_on interval.number (suc used) v (λ more. frame_after form more (suc (suc used)) frame)) (behind form (first ∷ later))
        ≡ go_on (frame_on interval.number used v (λ more. frame_after form more (suc used) frame)) (behind form later)
    by_verdict (Unfinished more) on = on more
    by_verdict (Whole down) on = refl
    by_verdict (Broken rule) on = refl

-- what an interval in a frame comes to, by its verdict
abbrev pub reading_by : Form → Interval → Verdict → List Interval → List ToothStep
reading_by form interval (Unfinished bits) later = reading_on form (Within bits) later
reading_by form interval (Whole down) later = Good interval.number down ∷ reading_on form Outside later
reading_by form interval (Broken rule) later = Bad interval.number rule ∷ reading_on form Outside (interval ∷ later)

pub within-on : (form : Form) (bits : List Bool) (interval : Interval) (later : List Interval) (v : Verdict) → v ≡ verdict form bits interval.periods
    → reading_on form (Within bits) (interval ∷ later) ≡ reading_by form interval v later
unfolding reading_on interval_reading frame_after read_past
within-on form bits interval later (Unfinished more) is = rw (sym is) (one_later form more 0 interval later later)
within-on form bits interval later (Whole down) is = rw (sym is) refl
within-on form bits interval later (Broken rule) is = rw (sym is) refl

-- ---- what a reader stands for
-- no rise has a step
pub tooth-none : (setup : Settings) → tooth_reading setup [] ≡ []
unfolding tooth_reading interval_reading read_past
tooth-none setup = refl

pub stands-fresh : (setup : Settings) → StandsFor setup (setup, None, Outside) []
unfolding tooth_reading interval_reading reading_on read_past
stands-fresh setup = record { same_setup = refl; goes_on = record { each = λ more. refl } }

pub forgotten : (setup inside : Settings) (last : Option ℕ) (state : State) (old : ToothReader) (seen : List Rise) → (inside, last, state) ≡ old → StandsFor setup old seen → StandsFor setup (inside, None, Outside) []
forgotten setup inside last state old seen view before =
    let same : inside ≡ setup = (subst (λ (r : ToothReader). StandsFor setup r seen) (sym view) before).same_setup in
    let fresh = stands-fresh setup in
    record { same_setup = same; goes_on = fresh.goes_on }

no_more : (form : Form) (state : State) → reading_on form state [] ≡ []
unfolding reading_on interval_reading read_past frame_after
no_more form Outside = refl
no_more form (Within bits) = refl

none_after : (period : ℕ) (last : Option ℕ) → intervals_since period last [] ≡ []
unfolding intervals_after
none_after period None = refl
none_after period (Some before) = refl

-- what a reader goes on with
abbrev next_steps : Settings → Option ℕ → State → List Rise → List ToothStep
next_steps setup last state more = reading_on setup.form state (intervals_since setup.period last more)

none_next : (setup : Settings) (last : Option ℕ) (state : State) → next_steps setup last state [] ≡ []
none_next setup last state = ap (reading_on setup.form state) (none_after setup.period last) ∙ no_more setup.form state

-- this is where the next rise leads
abbrev pub LeadsTo : Settings → Option ℕ → State → Rise → List ToothStep → State → Type 0
LeadsTo setup last state rise steps next = (more : List Rise) → next_steps setup last state (rise ∷ more) ≡ steps ++ next_steps setup (Some rise.time) next more

-- all that a push has to show
pub record Pushed (setup : Settings) (next : State) (steps : List ToothStep) (seen : List Rise) (rise : Rise) : Type 0 where
  pub stands : StandsFor setup (setup, Some rise.time, next) (seen ++ rise ∷ [])
  pub grown : tooth_reading setup (seen ++ rise ∷ []) ≡ tooth_reading setup seen ++ steps

pushed : (setup : Settings) (last : Option ℕ) (state next : State) (steps : List ToothStep) (seen : List Rise) (rise : Rise) → StandsFor setup (setup, last, state) seen → LeadsTo setup last state rise steps next → Pushed setup next steps seen rise
pushed setup last state next steps seen rise before leads = record {
  stands = record { same_setup = refl; goes_on = goes_on rise steps (next_steps setup (Some rise.time) next) before.goes_on leads (none_next setup (Some rise.time) next) };
  grown = grows rise steps (next_steps setup (Some rise.time) next) before.goes_on leads (none_next setup (Some rise.time) next);
}

-- the same of a reader that is seen as its model
pushed_as : (setup inside : Settings) (last : Option ℕ) (state next : State) (steps : List ToothStep) (old : ToothReader) (seen : List Rise) (rise : Rise) → (inside, last, state) ≡ old → StandsFor setup old seen
    → LeadsTo inside last state rise steps next → StandsFor setup (inside, Some rise.time, next) (seen ++ rise ∷ []) × (tooth_reading setup (seen ++ rise ∷ []) ≡ tooth_reading setup seen ++ steps)
pushed_as setup inside last state next steps old seen rise view before leads =
    let now = subst (λ (r : ToothReader). StandsFor setup r seen) (sym view) before in
    let all = pushed setup last state next steps seen rise (record { same_setup = refl; goes_on = now.goes_on }) (subst (λ (s : Settings). LeadsTo s last state rise steps next) now.same_setup leads) in
    (subst (λ (s : Settings). StandsFor setup (s, Some rise.time, next) (seen ++ rise ∷ [])) (sym now.same_setup) all.stands, all.grown)

-- the first rise ends no interval
first_leads : (setup : Settings) (state : State) (rise : Rise) → LeadsTo setup None state rise [] state
first_leads setup state rise = λ more. refl

pub first-pushed : (setup inside : Settings) (last : Option ℕ) (state : State) (old : ToothReader) (seen : List Rise) (rise : Rise) → (inside, last, state) ≡ old → last ≡ None → StandsFor setup old seen
    → StandsFor setup (inside, Some rise.time, state) (seen ++ rise ∷ []) × (tooth_reading setup (seen ++ rise ∷ []) ≡ tooth_reading setup seen ++ [])
first-pushed setup inside last state old seen rise view none before =
    pushed_as setup inside last state state [] old seen rise view before (rw none (first_leads inside state rise))

-- each later one does
later_leads : (setup : Settings) (before : ℕ) (state next : State) (rise : Rise) (periods : ℕ) (steps : List ToothStep) → periods ≡ periods_in (rise.time - before) setup.period
    → ((later : List Interval) → reading_on setup.form state (record { number = rise.number; periods = periods } ∷ later) ≡ steps ++ reading_on setup.form next later) → LeadsTo setup (Some before) state rise steps next
unfolding intervals_after
later_leads setup before state next rise periods steps is leads = λ more.
    ap (λ n. reading_on setup.form state (record { number = rise.number; periods = n } ∷ intervals_after setup.period rise.time more)) (sym is) ∙ leads (intervals_after setup.period rise.time more)

pub later-pushed : (setup inside : Settings) (last : Option ℕ) (earlier : ℕ) (state next : State) (periods : ℕ) (steps : List ToothStep) (old : ToothReader) (seen : List Rise) (rise : Rise)
    → (inside, last, state) ≡ old → last ≡ Some earlier → periods ≡ periods_in (rise.time - earlier) inside.period
    → ((later : List Interval) → reading_on inside.form state (record { number = rise.number; periods = periods } ∷ later) ≡ steps ++ reading_on inside.form next later) → StandsFor setup old seen
    → StandsFor setup (inside, Some rise.time, next) (seen ++ rise ∷ []) × (tooth_reading setup (seen ++ rise ∷ []) ≡ tooth_reading setup seen ++ steps)
later-pushed setup inside last earlier state next periods steps old seen rise view some is leads before =
    pushed_as setup inside last state next steps old seen rise view before (rw some (later_leads inside earlier state next rise periods steps is leads))
