-- What a sensor sends of what lines tell, and of more behind it.
use Rattle.std.proofs.Common.{◌≡◌, ℕ, suc, Some, None, Ok, Err, List, [], ◌∷◌, ◌++◌, refl, sym, ◌∙◌, ap, subst}
use Rattle.std.proofs.lemmas.List.{append_assoc, append-nil}
use Rattle.rand_pcg.specs.Lcg.{Lcg}
use Rattle.line_base.specs.Streams.{IsFrontOf}
use Rattle.line_base.specs.declared.edge.Edge.{Edge}
use Rattle.line_base.specs.declared.faults.LineFault.{LineFault}
use Rattle.text_lines.specs.Inputs.{Numbered, fault_in}
use Rattle.receiver_core.specs.declared.message.Message.{Message}
use Rattle.sim_base.specs.declared.sim_fault.SimFault.{SimFault}
use Rattle.sim_base.specs.Outcomes.{Outcome, Sent, Refused}
use Rattle.sim_base.specs.Runs.{HasRun, NotYet, OneMore}
use Rattle.sensor_sim.specs.Sims.{SimState, sim_next}
use Rattle.sensor_sim.specs.Played.{and_then, played_from, refused_or, refusal_from}
use Rattle.simulate_command.specs.Playing.{fault_told, edges_played, fault_with, fault_played, messages_told}
use Rattle.simulate_command.specs.Runs.{Plays}

-- ---- a fault ends what is sent

fault_stays_with : (number : ℕ) (o : Outcome SimState) (told more : List (Numbered Message)) (fault : ℕ × LineFault) → ((s : SimState) (g : Lcg) → fault_played s g told ≡ Some fault → fault_played s g (told ++ more) ≡ Some fault)
    → fault_with number o (λ s g. fault_played s g told) ≡ Some fault → fault_with number o (λ s g. fault_played s g (told ++ more)) ≡ Some fault
fault_stays_with number (Sent edges s g) told more fault later e = later s g e
fault_stays_with number (Refused own s g) told more fault later e = e

-- a fault stays when more is told
pub fault-stays : (s : SimState) (g : Lcg) (told more : List (Numbered Message)) (fault : ℕ × LineFault) → fault_played s g told ≡ Some fault → fault_played s g (told ++ more) ≡ Some fault
unfolding fault_played
fault-stays s g [] more fault e = absurd (cc)
fault-stays s g ((number, Ok message) ∷ told) more fault e = fault_stays_with number (sim_next s message g) told more fault (λ behind later. fault-stays behind later told more fault) e
fault-stays s g ((number, Err own) ∷ told) more fault e = e

edges_stay_with : (number : ℕ) (o : Outcome SimState) (told more : List (Numbered Message)) (fault : ℕ × LineFault) → ((s : SimState) (g : Lcg) → fault_played s g told ≡ Some fault → edges_played s g (told ++ more) ≡ edges_played s g told)
    → fault_with number o (λ s g. fault_played s g told) ≡ Some fault → and_then o (λ s g. edges_played s g (told ++ more)) ≡ and_then o (λ s g. edges_played s g told)
edges_stay_with number (Sent edges s g) told more fault later e = ap (λ es. edges ++ es) (later s g e)
edges_stay_with number (Refused own s g) told more fault later e = refl

-- and nothing more is sent
pub edges-stay : (s : SimState) (g : Lcg) (told more : List (Numbered Message)) (fault : ℕ × LineFault) → fault_played s g told ≡ Some fault → edges_played s g (told ++ more) ≡ edges_played s g told
unfolding fault_played played_from messages_told
edges-stay s g [] more fault e = absurd (cc)
edges-stay s g ((number, Ok message) ∷ told) more fault e = edges_stay_with number (sim_next s message g) told more fault (λ behind later. edges-stay behind later told more fault) e
edges-stay s g ((number, Err own) ∷ told) more fault e = refl

-- what was sent stays
front_behind : (edges front whole : List Edge) → IsFrontOf front whole → IsFrontOf (edges ++ front) (edges ++ whole)
front_behind edges front whole stands = record { rest = stands.rest; is = ap (λ es. edges ++ es) stands.is ∙ sym (append_assoc edges front stands.rest) }

edges_front_with : (o : Outcome SimState) (told more : List (Numbered Message)) → ((s : SimState) (g : Lcg) → IsFrontOf (edges_played s g told) (edges_played s g (told ++ more)))
    → IsFrontOf (and_then o (λ s g. edges_played s g told)) (and_then o (λ s g. edges_played s g (told ++ more)))
edges_front_with (Sent edges s g) told more later = front_behind edges (edges_played s g told) (edges_played s g (told ++ more)) (later s g)
edges_front_with (Refused own s g) told more later = record { rest = []; is = refl }

pub edges-front : (s : SimState) (g : Lcg) (told more : List (Numbered Message)) → IsFrontOf (edges_played s g told) (edges_played s g (told ++ more))
unfolding played_from messages_told
edges-front s g [] more = record { rest = edges_played s g more; is = refl }
edges-front s g ((number, Ok message) ∷ told) more = edges_front_with (sim_next s message g) told more (λ behind later. edges-front behind later told more)
edges-front s g ((number, Err own) ∷ told) more = record { rest = []; is = refl }

-- where no fault is told, no line has one
no_fault_with : (number : ℕ) (o : Outcome SimState) (told : List (Numbered Message)) → ((s : SimState) (g : Lcg) → fault_played s g told ≡ None → fault_in told ≡ None) → fault_with number o (λ s g. fault_played s g told) ≡ None → fault_in told ≡ None
no_fault_with number (Sent edges s g) told later e = later s g e
no_fault_with number (Refused own s g) told later e = absurd (cc)

pub no-fault : (s : SimState) (g : Lcg) (told : List (Numbered Message)) → fault_played s g told ≡ None → fault_in told ≡ None
unfolding fault_played
no-fault s g [] e = refl
no-fault s g ((number, Ok message) ∷ told) e = no_fault_with number (sim_next s message g) told (λ behind later. no-fault behind later told) e
no-fault s g ((number, Err own) ∷ told) e = absurd (cc)

-- a line's fault is a fault
fault_too_with : (number : ℕ) (o : Outcome SimState) (told : List (Numbered Message)) (fault : ℕ × LineFault) → fault_in told ≡ Some fault → ((s : SimState) (g : Lcg) → (found : ℕ × LineFault) × (fault_played s g told ≡ Some found))
    → (found : ℕ × LineFault) × (fault_with number o (λ s g. fault_played s g told) ≡ Some found)
fault_too_with number (Sent edges s g) told fault e later = later s g
fault_too_with number (Refused own s g) told fault e later = ((number, fault_told own), refl)

pub fault-too : (s : SimState) (g : Lcg) (told : List (Numbered Message)) (fault : ℕ × LineFault) → fault_in told ≡ Some fault → (found : ℕ × LineFault) × (fault_played s g told ≡ Some found)
unfolding fault_played
fault-too s g [] fault e = absurd (cc)
fault-too s g ((number, Ok message) ∷ told) fault e = fault_too_with number (sim_next s message g) told fault e (λ behind later. fault-too behind later told fault e)
fault-too s g ((number, Err own) ∷ told) fault e = ((number, own), refl)

-- where no fault is told, no message is refused
no_refusal_with : (number index : ℕ) (o : Outcome SimState) (told : List (Numbered Message)) → ((s : SimState) (g : Lcg) → fault_played s g told ≡ None → refusal_from (suc index) s g (messages_told told) ≡ None)
    → fault_with number o (λ s g. fault_played s g told) ≡ None → refused_or index o (λ behind later. refusal_from (suc index) behind later (messages_told told)) ≡ None
no_refusal_with number index (Sent edges s g) told later e = later s g e
no_refusal_with number index (Refused own s g) told later e = absurd (cc)

pub no-refusal : (index : ℕ) (s : SimState) (g : Lcg) (told : List (Numbered Message)) → fault_played s g told ≡ None → refusal_from index s g (messages_told told) ≡ None
unfolding fault_played messages_told refusal_from
no-refusal index s g [] e = refl
no-refusal index s g ((number, Ok message) ∷ told) e = no_refusal_with number index (sim_next s message g) told (λ behind later. no-refusal (suc index) behind later told) e
no-refusal index s g ((number, Err own) ∷ told) e = absurd (cc)

-- ---- the messages of more lines
pub messages-append : (told more : List (Numbered Message)) → fault_in told ≡ None → messages_told (told ++ more) ≡ messages_told told ++ messages_told more
unfolding messages_told
messages-append [] more none = refl
messages-append ((number, Ok message) ∷ told) more none = ap (λ ms. message ∷ ms) (messages-append told more none)
messages-append ((number, Err fault) ∷ told) more none = absurd (cc)

-- ---- a sensor that has sent what lines told, and goes on

-- a sensor that was told nothing
pub plays-nothing : (first : SimState) (g : Lcg) → Plays first g first g []
unfolding fault_played played_from messages_told
plays-nothing first g = record { sound = refl; edges_go_on = λ more. refl; faults_go_on = λ more. refl; ran = NotYet }

-- what is sent of one message, and of the later ones
edges_of_one : (s : SimState) (g : Lcg) (number : ℕ) (message : Message) (told : List (Numbered Message)) (o : Outcome SimState) → sim_next s message g ≡ o → edges_played s g ((number, Ok message) ∷ told) ≡ and_then o (λ behind later. edges_played behind later told)
unfolding played_from messages_told
edges_of_one s g number message told o e = ap (λ o. and_then o (λ behind later. edges_played behind later told)) e

fault_of_one : (s : SimState) (g : Lcg) (number : ℕ) (message : Message) (told : List (Numbered Message)) (o : Outcome SimState) → sim_next s message g ≡ o → fault_played s g ((number, Ok message) ∷ told) ≡ fault_with number o (λ behind later. fault_played behind later told)
unfolding fault_played
fault_of_one s g number message told o e = ap (λ o. fault_with number o (λ behind later. fault_played behind later told)) e

nothing_sent : (s : SimState) (g : Lcg) → edges_played s g [] ≡ []
unfolding played_from messages_told
nothing_sent s g = refl

nothing_wrong : (s : SimState) (g : Lcg) → fault_played s g [] ≡ None
unfolding fault_played
nothing_wrong s g = refl

one_message : (number : ℕ) (message : Message) → messages_told ((number, Ok message) ∷ []) ≡ message ∷ []
unfolding messages_told
one_message number message = refl

fault_of_line : (s : SimState) (g : Lcg) (number : ℕ) (fault : LineFault) → fault_played s g ((number, Err fault) ∷ []) ≡ Some (number, fault)
unfolding fault_played
fault_of_line s g number fault = refl

edges_of_line : (s : SimState) (g : Lcg) (number : ℕ) (fault : LineFault) → edges_played s g ((number, Err fault) ∷ []) ≡ []
unfolding played_from messages_told
edges_of_line s g number fault = refl

module _ (first : SimState) (first_wobble : Lcg) (state : SimState) (g : Lcg) (told : List (Numbered Message)) (before : Plays first first_wobble state g told) where
  -- nothing more is told
  pub plays-same : Plays first first_wobble state g (told ++ [])
  plays-same = subst (λ (ts : List (Numbered Message)). Plays first first_wobble state g ts) (sym (append-nil told)) before

  -- a message is sent
  pub edges-sent : (number : ℕ) (message : Message) (edges : List Edge) (behind : SimState) (later : Lcg) → sim_next state message g ≡ Sent edges behind later → edges_played first first_wobble (told ++ (number, Ok message) ∷ []) ≡ edges_played first first_wobble told ++ edges
  edges-sent number message edges behind later e =
      before.edges_go_on ((number, Ok message) ∷ [])
      ∙ ap (λ es. edges_played first first_wobble told ++ es) (edges_of_one state g number message [] (Sent edges behind later) e ∙ ap (λ es. edges ++ es) (nothing_sent behind later) ∙ append-nil edges)

  pub plays-more : (number : ℕ) (message : Message) (edges : List Edge) (behind : SimState) (later : Lcg) → sim_next state message g ≡ Sent edges behind later → Plays first first_wobble behind later (told ++ (number, Ok message) ∷ [])
  plays-more number message edges behind later e =
      let one = (number, Ok message) ∷ [] in
      let grown = edges-sent number message edges behind later e in
      record {
        sound = before.faults_go_on one ∙ fault_of_one state g number message [] (Sent edges behind later) e ∙ nothing_wrong behind later;
        edges_go_on = λ more.
            ap (edges_played first first_wobble) (append_assoc told one more)
            ∙ before.edges_go_on ((number, Ok message) ∷ more)
            ∙ ap (λ es. edges_played first first_wobble told ++ es) (edges_of_one state g number message more (Sent edges behind later) e)
            ∙ sym (append_assoc (edges_played first first_wobble told) edges (edges_played behind later more))
            ∙ ap (λ es. es ++ edges_played behind later more) (sym grown);
        faults_go_on = λ more.
            ap (fault_played first first_wobble) (append_assoc told one more)
            ∙ before.faults_go_on ((number, Ok message) ∷ more)
            ∙ fault_of_one state g number message more (Sent edges behind later) e;
        ran =
            subst (λ (ms : List Message). HasRun SimState sim_next first behind ms (edges_played first first_wobble (told ++ one))) (sym (messages-append told one (no-fault first first_wobble told before.sound) ∙ ap (λ ms. messages_told told ++ ms) (one_message number message)))
            (subst (λ (es : List Edge). HasRun SimState sim_next first behind (messages_told told ++ message ∷ []) es) (sym grown) (OneMore before.ran message g later e));
      }

  -- a message is refused
  pub refused-fault : (number : ℕ) (message : Message) (fault : SimFault) (behind : SimState) (later : Lcg) → sim_next state message g ≡ Refused fault behind later → fault_played first first_wobble (told ++ (number, Ok message) ∷ []) ≡ Some (number, fault_told fault)
  refused-fault number message fault behind later e = before.faults_go_on ((number, Ok message) ∷ []) ∙ fault_of_one state g number message [] (Refused fault behind later) e

  pub refused-edges : (number : ℕ) (message : Message) (fault : SimFault) (behind : SimState) (later : Lcg) → sim_next state message g ≡ Refused fault behind later → edges_played first first_wobble (told ++ (number, Ok message) ∷ []) ≡ edges_played first first_wobble told
  refused-edges number message fault behind later e =
      before.edges_go_on ((number, Ok message) ∷ [])
      ∙ ap (λ es. edges_played first first_wobble told ++ es) (edges_of_one state g number message [] (Refused fault behind later) e)
      ∙ append-nil (edges_played first first_wobble told)

  -- a line has a fault
  pub line-fault : (number : ℕ) (fault : LineFault) → fault_played first first_wobble (told ++ (number, Err fault) ∷ []) ≡ Some (number, fault)
  line-fault number fault = before.faults_go_on ((number, Err fault) ∷ []) ∙ fault_of_line state g number fault

  pub line-edges : (number : ℕ) (fault : LineFault) → edges_played first first_wobble (told ++ (number, Err fault) ∷ []) ≡ edges_played first first_wobble told
  line-edges number fault =
      before.edges_go_on ((number, Err fault) ∷ [])
      ∙ ap (λ es. edges_played first first_wobble told ++ es) (edges_of_line state g number fault)
      ∙ append-nil (edges_played first first_wobble told)
