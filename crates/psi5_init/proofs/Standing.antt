-- What a reader stands for.
--     stands-fresh, forgotten      a reader that has seen no code, or has forgotten all
--     pushed-stands, pushed-grows      one code more
use Rattle.std.proofs.Common.{◌≡◌, ℕ, ◌+◌, ◌≤◌, List, [], ◌∷◌, ◌++◌, refl, sym, ap, ◌∙◌, subst, arith}
use Rattle.std.proofs.lemmas.List.{length-append}
use Rattle.line_base.proofs.Readers.{grows, goes_on}
use Rattle.psi5_init.specs.declared.code.Code.{Code}
use Rattle.psi5_init.specs.declared.step.InitStep.{InitStep}
use Rattle.psi5_init.specs.declared.reader.State.{State}
use Rattle.psi5_init.specs.declared.reader.State.TheVariants.{Fresh}
use Rattle.psi5_init.specs.declared.reader.InitReader.{InitReader}
use Rattle.psi5_init.specs.Readings.{init_reading}
use Rattle.psi5_init.specs.Standings.{Led, led_by, steps_from}
use Rattle.psi5_init.proofs.LookingBack.{reading-none, reading-stands}
use Rattle.psi5_init.specs.Kept.{blocks_in, standing_of}
use Rattle.psi5_init.specs.Readers.{StandsFor}
use Rattle.psi5_init.proofs.PhaseSteps.{stepped, no_steps}

pub stands-fresh : (k : ℕ) → StandsFor k (k, Fresh) []
unfolding steps_from
stands-fresh k = record { same_repeats = refl; goes_on = record { each = λ more. reading-stands k more ∙ ap (λ steps. steps ++ steps_from k (standing_of Fresh) more) (sym (reading-none k)) }; bounded = omega arith }

-- this is where the code leads from the state, and what it ends
abbrev pub LeadsTo : ℕ → State → State → InitStep → Code → Type 0
LeadsTo k state next said c = ◌≡◌ {A = Led} (record { step = said; next = standing_of next }) (led_by k (standing_of state) c)

-- all that a push has to show
record Pushed (k : ℕ) (next : State) (said : InitStep) (seen : List Code) (c : Code) : Type 0 where
  stands : StandsFor k (k, next) (seen ++ c ∷ [])
  grown : init_reading k (seen ++ c ∷ []) ≡ init_reading k seen ++ said ∷ []

pushed : (k : ℕ) (state next : State) (said : InitStep) (seen : List Code) (c : Code) → StandsFor k (k, state) seen → LeadsTo k state next said c → blocks_in next ≤ blocks_in state + 1 → Pushed k next said seen c
pushed k state next said seen c before leads more =
    let from = standing_of state in
    let to = standing_of next in
    record {
      stands = record {
        same_repeats = refl;
        goes_on = goes_on c (said ∷ []) (steps_from k to) before.goes_on (λ codes. stepped k from to c said codes (sym leads)) (no_steps k to);
        bounded = omega (arith, more, before.bounded, length-append seen (c ∷ []));
      };
      grown = grows c (said ∷ []) (steps_from k to) before.goes_on (λ codes. stepped k from to c said codes (sym leads)) (no_steps k to);
    }

-- ---- the same of a reader that is seen as its model
stands_as : (k inside : ℕ) (state : State) (old : InitReader) (seen : List Code) → (inside, state) ≡ old → StandsFor k old seen → StandsFor k (inside, state) seen
stands_as k inside state old seen view before = subst (λ (r : InitReader). StandsFor k r seen) (sym view) before

pushed_as : (k inside : ℕ) (state next : State) (said : InitStep) (old : InitReader) (seen : List Code) (c : Code) → (inside, state) ≡ old → StandsFor k old seen
    → LeadsTo inside state next said c → blocks_in next ≤ blocks_in state + 1 → Pushed k next said seen c
pushed_as k inside state next said old seen c view before leads more =
    let stands = stands_as k inside state old seen view before in
    pushed k state next said seen c (record { same_repeats = refl; goes_on = stands.goes_on; bounded = stands.bounded })
    (subst (λ (n : ℕ). LeadsTo n state next said c) stands.same_repeats leads) more

pub pushed-stands : (k inside : ℕ) (state next : State) (said : InitStep) (old : InitReader) (seen : List Code) (c : Code) → (inside, state) ≡ old → StandsFor k old seen
    → LeadsTo inside state next said c → blocks_in next ≤ blocks_in state + 1 → StandsFor k (inside, next) (seen ++ c ∷ [])
pushed-stands k inside state next said old seen c view before leads more =
    let h = (pushed_as k inside state next said old seen c view before leads more).stands in
    record { same_repeats = (stands_as k inside state old seen view before).same_repeats; goes_on = h.goes_on; bounded = h.bounded }

pub pushed-grows : (k inside : ℕ) (state next : State) (said : InitStep) (old : InitReader) (seen : List Code) (c : Code) → (inside, state) ≡ old → StandsFor k old seen
    → LeadsTo inside state next said c → blocks_in next ≤ blocks_in state + 1 → init_reading k (seen ++ c ∷ []) ≡ init_reading k seen ++ said ∷ []
pushed-grows k inside state next said old seen c view before leads more = (pushed_as k inside state next said old seen c view before leads more).grown

pub forgotten : (k inside : ℕ) (state : State) (old : InitReader) (seen : List Code) → (inside, state) ≡ old → StandsFor k old seen → StandsFor k (inside, Fresh) []
forgotten k inside state old seen view before =
    let fresh = stands-fresh k in
    record { same_repeats = (stands_as k inside state old seen view before).same_repeats; goes_on = fresh.goes_on; bounded = fresh.bounded }
