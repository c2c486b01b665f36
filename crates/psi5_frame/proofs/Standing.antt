-- What a reader stands for.
--     stands-fresh, forgotten      a reader that has seen no edge, or has forgotten all
--     pushed-stands, pushed-grows, pushed-began      one edge more
--     finished      the end
use Rattle.std.proofs.Common.{◌≡◌, ℕ, Option, option_to_list, List, [], ◌∷◌, ◌++◌, refl, sym, ap, subst, ◌∙◌}
use Rattle.line_base.specs.Edges.{NumberedEdge}
use Rattle.line_base.proofs.Readers.{grows, goes_on}
use Rattle.psi5_frame.specs.declared.burst.Burst.{Burst}
use Rattle.psi5_frame.specs.declared.burst.BurstStep.{BurstStep}
use Rattle.psi5_frame.specs.declared.reader.State.{State}
use Rattle.psi5_frame.specs.declared.reader.State.TheVariants.{Fresh, Skipping, Open}
use Rattle.psi5_frame.specs.declared.reader.BurstReader.{BurstReader}
use Rattle.psi5_frame.specs.Setup.{Settings}
use Rattle.psi5_frame.specs.Edges.{Change, changes_of, changes_after}
use Rattle.psi5_frame.specs.Bursts.{complete_bursts, all_bursts, starts_in, bursts_so_far, bursts_at_end, burst_starts}
use Rattle.psi5_frame.specs.Kept.{AgreesWith, Leads, began_at, next_changes}
use Rattle.psi5_frame.specs.Readers.{StandsFor}

pub stands-fresh : (s : Settings) → StandsFor s (s, Fresh) []
unfolding changes_of next_changes
stands-fresh s = record { same_setup = refl; measured = record { each = λ more. refl }; agrees = refl }

next-none : (bit : ℕ) (state : State) → next_changes bit state [] ≡ []
unfolding changes_of changes_after next_changes
next-none bit Fresh = refl
next-none bit (Skipping time) = refl
next-none bit (Open time burst) = refl

-- one edge more, whatever a reader in this state has seen
abbrev pub LeadsOn : Settings → State → State → NumberedEdge → BurstStep → Type 0
LeadsOn s state next e step = (seen : List Change) → AgreesWith s state seen → Leads s state next e seen step

-- all that a push has to show
record Pushed (setup : Settings) (next : State) (seen : List NumberedEdge) (e : NumberedEdge) (step : BurstStep) : Type 0 where
  stands : StandsFor setup (setup, next) (seen ++ e ∷ [])
  grows : bursts_so_far setup (seen ++ e ∷ []) ≡ bursts_so_far setup seen ++ option_to_list step.ended
  began : burst_starts setup (seen ++ e ∷ []) ≡ burst_starts setup seen ++ began_at e.number step

pushed : (setup : Settings) (state next : State) (seen : List NumberedEdge) (e : NumberedEdge) (step : BurstStep)
    → StandsFor setup (setup, state) seen → LeadsOn setup state next e step → Pushed setup next seen e step
pushed setup state next seen e step before leads =
    let h = leads (changes_of setup.bit seen) before.agrees in
    let grown : changes_of setup.bit (seen ++ e ∷ []) ≡ changes_of setup.bit seen ++ h.arrived =
    grows e h.arrived (next_changes setup.bit next) before.measured h.measured (next-none setup.bit next) in
    record {
      stands = record {
        same_setup = refl;
        measured = goes_on e h.arrived (next_changes setup.bit next) before.measured h.measured (next-none setup.bit next);
        agrees = subst (λ (l : List Change). AgreesWith setup next l) (sym grown) h.agreed;
      };
      grows = ap (complete_bursts setup) grown ∙ h.grows;
      began = ap starts_in grown ∙ h.began;
    }

-- ---- the same of a reader that is seen as its model
stands_as : (setup inside : Settings) (state : State) (old : BurstReader) (seen : List NumberedEdge) → (inside, state) ≡ old → StandsFor setup old seen → StandsFor setup (inside, state) seen
stands_as setup inside state old seen view before = subst (λ (r : BurstReader). StandsFor setup r seen) (sym view) before

pushed_as : (setup inside : Settings) (state next : State) (old : BurstReader) (seen : List NumberedEdge) (e : NumberedEdge) (step : BurstStep)
    → (inside, state) ≡ old → StandsFor setup old seen → LeadsOn inside state next e step → Pushed setup next seen e step
pushed_as setup inside state next old seen e step view before leads =
    let stands = stands_as setup inside state old seen view before in
    pushed setup state next seen e step (record { same_setup = refl; measured = stands.measured; agrees = stands.agrees })
    (subst (λ (s : Settings). LeadsOn s state next e step) stands.same_setup leads)

pub pushed-stands : (setup inside : Settings) (state next : State) (old : BurstReader) (seen : List NumberedEdge) (e : NumberedEdge) (step : BurstStep)
    → (inside, state) ≡ old → StandsFor setup old seen → LeadsOn inside state next e step → StandsFor setup (inside, next) (seen ++ e ∷ [])
pushed-stands setup inside state next old seen e step view before leads =
    let h = (pushed_as setup inside state next old seen e step view before leads).stands in
    record { same_setup = (stands_as setup inside state old seen view before).same_setup; measured = h.measured; agrees = h.agrees }

pub pushed-grows : (setup inside : Settings) (state next : State) (old : BurstReader) (seen : List NumberedEdge) (e : NumberedEdge) (step : BurstStep)
    → (inside, state) ≡ old → StandsFor setup old seen → LeadsOn inside state next e step → bursts_so_far setup (seen ++ e ∷ []) ≡ bursts_so_far setup seen ++ option_to_list step.ended
pushed-grows setup inside state next old seen e step view before leads = (pushed_as setup inside state next old seen e step view before leads).grows

pub pushed-began : (setup inside : Settings) (state next : State) (old : BurstReader) (seen : List NumberedEdge) (e : NumberedEdge) (step : BurstStep)
    → (inside, state) ≡ old → StandsFor setup old seen → LeadsOn inside state next e step → burst_starts setup (seen ++ e ∷ []) ≡ burst_starts setup seen ++ began_at e.number step
pushed-began setup inside state next old seen e step view before leads = (pushed_as setup inside state next old seen e step view before leads).began

pub forgotten : (setup inside : Settings) (state : State) (old : BurstReader) (seen : List NumberedEdge) → (inside, state) ≡ old → StandsFor setup old seen → StandsFor setup (inside, Fresh) []
forgotten setup inside state old seen view before =
    let fresh = stands-fresh setup in
    record { same_setup = (stands_as setup inside state old seen view before).same_setup; measured = fresh.measured; agrees = fresh.agrees }

pub finished : (setup inside : Settings) (state : State) (said : Option Burst) (old : BurstReader) (seen : List NumberedEdge) → (inside, state) ≡ old → StandsFor setup old seen
    → ((edges : List Change) → AgreesWith inside state edges → all_bursts inside edges ≡ complete_bursts inside edges ++ option_to_list said)
    → bursts_at_end setup seen ≡ bursts_so_far setup seen ++ option_to_list said
finished setup inside state said old seen view before ends =
    let stands = stands_as setup inside state old seen view before in
    let ends_here = subst (λ (s : Settings). (edges : List Change) → AgreesWith s state edges → all_bursts s edges ≡ complete_bursts s edges ++ option_to_list said) stands.same_setup ends in
    ends_here (changes_of setup.bit seen) stands.agrees
