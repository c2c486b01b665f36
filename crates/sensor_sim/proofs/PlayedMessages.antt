-- What is played of messages, one after the other.
--     played-sent, accepted-sent, refusal-sent             of a message that is sent
--     played-refused, accepted-refused, refusal-refused    of one that is refused
--     played-run       a simulator has run what is accepted and played
--     played-all       where none is refused all are accepted
--     played-before    else those before the one that is refused
use Rattle.std.proofs.Common.{◌≡◌, ℕ, zero, suc, ◌+◌, None, Some, List, [], ◌∷◌, ◌++◌, take, refl, ap, sym, subst, ◌∙◌, append_assoc, append-nil, arith}
use Rattle.rand_pcg.specs.Lcg.{Lcg}
use Rattle.line_base.specs.declared.edge.Edge.{Edge}
use Rattle.receiver_core.specs.declared.message.Message.{Message}
use Rattle.sim_base.specs.declared.sim_fault.SimFault.{SimFault}
use Rattle.sim_base.specs.Outcomes.{Outcome, Sent, Refused}
use Rattle.sim_base.specs.Runs.{HasRun, NotYet, OneMore}
use Rattle.sensor_sim.specs.Sims.{SimState, sim_next}
use Rattle.sensor_sim.specs.Played.{accepted_from, accepted_then, and_then, played_from, refusal_from, refused_or}

module _ (state : SimState) (g : Lcg) (m : Message) (messages : List Message) where
  -- ---- a message that is sent
  pub played-sent : (edges : List Edge) (behind : SimState) (later : Lcg) → sim_next state m g ≡ Sent edges behind later → played_from state g (m ∷ messages) ≡ edges ++ played_from behind later messages
  unfolding played_from
  played-sent edges behind later is = ap (λ o. and_then o (λ s h. played_from s h messages)) is

  pub accepted-sent : (edges : List Edge) (behind : SimState) (later : Lcg) → sim_next state m g ≡ Sent edges behind later → accepted_from state g (m ∷ messages) ≡ m ∷ accepted_from behind later messages
  unfolding accepted_from
  accepted-sent edges behind later is = ap (λ o. accepted_then m o (λ s h. accepted_from s h messages)) is

  pub refusal-sent : (index : ℕ) (edges : List Edge) (behind : SimState) (later : Lcg) → sim_next state m g ≡ Sent edges behind later → refusal_from index state g (m ∷ messages) ≡ refusal_from (suc index) behind later messages
  unfolding refusal_from
  refusal-sent index edges behind later is = ap (λ o. refused_or index o (λ s h. refusal_from (suc index) s h messages)) is

  -- ---- a message that is refused
  pub played-refused : (fault : SimFault) (behind : SimState) (later : Lcg) → sim_next state m g ≡ Refused fault behind later → played_from state g (m ∷ messages) ≡ []
  unfolding played_from
  played-refused fault behind later is = ap (λ o. and_then o (λ s h. played_from s h messages)) is

  pub accepted-refused : (fault : SimFault) (behind : SimState) (later : Lcg) → sim_next state m g ≡ Refused fault behind later → accepted_from state g (m ∷ messages) ≡ []
  unfolding accepted_from
  accepted-refused fault behind later is = ap (λ o. accepted_then m o (λ s h. accepted_from s h messages)) is

  pub refusal-refused : (index : ℕ) (fault : SimFault) (behind : SimState) (later : Lcg) → sim_next state m g ≡ Refused fault behind later → refusal_from index state g (m ∷ messages) ≡ Some (index, fault)
  unfolding refusal_from
  refusal-refused index fault behind later is = ap (λ o. refused_or index o (λ s h. refusal_from (suc index) s h messages)) is

-- ---- a run
-- behind messages that were accepted, so is what is accepted of these
module _ (first : SimState) where
  abbrev Ran : List Message → List Edge → Type 0
  Ran seen edges = (end : SimState) × HasRun SimState sim_next first end seen edges

  run-over : (seen messages : List Message) (edges more : List Edge) (m : Message) (sent : List Edge) → Ran ((seen ++ m ∷ []) ++ messages) ((edges ++ sent) ++ more) → Ran (seen ++ m ∷ messages) (edges ++ (sent ++ more))
  run-over seen messages edges more m sent ran = subst (λ (l : List Message). Ran l (edges ++ (sent ++ more))) (append_assoc seen (m ∷ []) messages) (subst (Ran ((seen ++ m ∷ []) ++ messages)) (append_assoc edges sent more) ran)

  run-step : (state : SimState) (g : Lcg) (seen : List Message) (edges : List Edge) → HasRun SimState sim_next first state seen edges → (m : Message) (messages : List Message)
      → ((behind : SimState) (later : Lcg) (more : List Edge) → HasRun SimState sim_next first behind (seen ++ m ∷ []) (edges ++ more) → Ran ((seen ++ m ∷ []) ++ accepted_from behind later messages) ((edges ++ more) ++ played_from behind later messages))
      → (outcome : Outcome SimState) → sim_next state m g ≡ outcome → Ran (seen ++ accepted_from state g (m ∷ messages)) (edges ++ played_from state g (m ∷ messages))
  run-step state g seen edges run m messages goes_on (Sent more behind later) is =
      subst (λ (l : List Message). Ran (seen ++ l) (edges ++ played_from state g (m ∷ messages))) (sym (accepted-sent state g m messages more behind later is))
      (subst (λ (l : List Edge). Ran (seen ++ m ∷ accepted_from behind later messages) (edges ++ l)) (sym (played-sent state g m messages more behind later is))
      (run-over seen (accepted_from behind later messages) edges (played_from behind later messages) m more (goes_on behind later more (OneMore run m g later is))))
  run-step state g seen edges run m messages goes_on (Refused fault behind later) is =
      subst (λ (l : List Message). Ran (seen ++ l) (edges ++ played_from state g (m ∷ messages))) (sym (accepted-refused state g m messages fault behind later is))
      (subst (λ (l : List Edge). Ran (seen ++ []) (edges ++ l)) (sym (played-refused state g m messages fault behind later is))
      (state, subst (λ (l : List Message). HasRun SimState sim_next first state l (edges ++ [])) (sym (append-nil seen)) (subst (HasRun SimState sim_next first state seen) (sym (append-nil edges)) run)))

  run-from : (state : SimState) (g : Lcg) (seen : List Message) (edges : List Edge) → HasRun SimState sim_next first state seen edges → (messages : List Message) → Ran (seen ++ accepted_from state g messages) (edges ++ played_from state g messages)
  unfolding accepted_from played_from
  run-from state g seen edges run [] =
      (state, subst (λ (l : List Message). HasRun SimState sim_next first state l (edges ++ [])) (sym (append-nil seen)) (subst (HasRun SimState sim_next first state seen) (sym (append-nil edges)) run))
  run-from state g seen edges run (m ∷ messages) =
      run-step state g seen edges run m messages (λ behind later more ran. run-from behind later (seen ++ m ∷ []) (edges ++ more) ran messages) (sim_next state m g) refl

  pub played-run : (g : Lcg) (messages : List Message) → Ran (accepted_from first g messages) (played_from first g messages)
  played-run g messages = run-from first g [] [] NotYet messages

-- ---- which messages are accepted
never-none : (place : ℕ × SimFault) {X : Type 0} → Some place ≡ None → X
never-none place same = absurd cc

same-place : (one other : ℕ × SimFault) → Some one ≡ Some other → one ≡ other
same-place one other same = cc

all-step : (index : ℕ) (state : SimState) (g : Lcg) (m : Message) (messages : List Message) → ((behind : SimState) (later : Lcg) → refusal_from (suc index) behind later messages ≡ None → accepted_from behind later messages ≡ messages)
    → (outcome : Outcome SimState) → sim_next state m g ≡ outcome → refusal_from index state g (m ∷ messages) ≡ None → accepted_from state g (m ∷ messages) ≡ m ∷ messages
all-step index state g m messages goes_on (Sent edges behind later) is none =
    accepted-sent state g m messages edges behind later is ∙ ap (λ l. m ∷ l) (goes_on behind later (sym (refusal-sent state g m messages index edges behind later is) ∙ none))
all-step index state g m messages goes_on (Refused fault behind later) is none =
    never-none (index, fault) (sym (refusal-refused state g m messages index fault behind later is) ∙ none)

pub played-all : (index : ℕ) (state : SimState) (g : Lcg) (messages : List Message) → refusal_from index state g messages ≡ None → accepted_from state g messages ≡ messages
unfolding accepted_from
played-all index state g [] none = refl
played-all index state g (m ∷ messages) none = all-step index state g m messages (λ behind later rest. played-all (suc index) behind later messages rest) (sim_next state m g) refl none

-- so many messages are accepted behind the first
abbrev AreFirst : ℕ → ℕ → List Message → List Message → Type 0
AreFirst index refused messages front = (count : ℕ) × (refused ≡ index + count) × (front ≡ take count messages)

first-more : (index refused : ℕ) (m : Message) (messages front : List Message) → AreFirst (suc index) refused messages front → AreFirst index refused (m ∷ messages) (m ∷ front)
first-more index refused m messages front first = (suc first.0, omega (arith, first.1), ap (λ l. m ∷ l) first.2)

before-step : (index refused : ℕ) (fault : SimFault) (state : SimState) (g : Lcg) (m : Message) (messages : List Message)
    → ((behind : SimState) (later : Lcg) → refusal_from (suc index) behind later messages ≡ Some (refused, fault) → AreFirst (suc index) refused messages (accepted_from behind later messages))
    → (outcome : Outcome SimState) → sim_next state m g ≡ outcome → refusal_from index state g (m ∷ messages) ≡ Some (refused, fault) → AreFirst index refused (m ∷ messages) (accepted_from state g (m ∷ messages))
before-step index refused fault state g m messages goes_on (Sent edges behind later) is some =
    subst (AreFirst index refused (m ∷ messages)) (sym (accepted-sent state g m messages edges behind later is))
    (first-more index refused m messages (accepted_from behind later messages) (goes_on behind later (sym (refusal-sent state g m messages index edges behind later is) ∙ some)))
before-step index refused fault state g m messages goes_on (Refused here behind later) is some =
    let at : index ≡ refused = ap (λ (p : ℕ × SimFault). p.0) (same-place (index, here) (refused, fault) (sym (refusal-refused state g m messages index here behind later is) ∙ some)) in
    subst (AreFirst index refused (m ∷ messages)) (sym (accepted-refused state g m messages here behind later is)) (zero, omega (arith, at), refl)

before-from : (index refused : ℕ) (fault : SimFault) (state : SimState) (g : Lcg) (messages : List Message) → refusal_from index state g messages ≡ Some (refused, fault) → AreFirst index refused messages (accepted_from state g messages)
unfolding refusal_from
before-from index refused fault state g [] some = never-none (refused, fault) (sym some)
before-from index refused fault state g (m ∷ messages) some = before-step index refused fault state g m messages (λ behind later rest. before-from (suc index) refused fault behind later messages rest) (sim_next state m g) refl some

pub played-before : (refused : ℕ) (fault : SimFault) (state : SimState) (g : Lcg) (messages : List Message) → refusal_from 0 state g messages ≡ Some (refused, fault) → accepted_from state g messages ≡ take refused messages
played-before refused fault state g messages some =
    let first = before-from 0 refused fault state g messages some in
    let count : first.0 ≡ refused = omega (arith, first.1) in
    first.2 ∙ ap (λ n. take n messages) count
