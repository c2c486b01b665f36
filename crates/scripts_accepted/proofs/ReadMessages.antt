-- A message that fits is never refused for what it is.
--     sent-of, spc-of, psi5-of, tooth-of     link by link
--     read-of                                by the channel
use Rattle.std.proofs.Common.{◌≡◌, ℕ, ◌*◌, ◌^◌, Bool, true, false, not, Option, None, Some, List, [], length, refl, ap, sym, subst, ◌∙◌, if◌then◌else◌, ltb, eqb}
use Rattle.rand_pcg.specs.Lcg.{Lcg}
use Rattle.line_base.specs.declared.edge.Edge.{Edge}
use Rattle.psi5_downlink.specs.declared.down.Down.{Down}
use Rattle.psi5_downlink.specs.Setup as downlink
use Rattle.psi5_frame.specs.Setup as psi5_frame
use Rattle.psi5_tolerance.specs.Trains.{Sending, SyncAt, FrameAt}
use Rattle.sent_frame.specs.Setup as sent_frame
use Rattle.sent_serial.specs.declared.step.SerialStep.TheVariants as step
use Rattle.sent_serial.specs.SentStatuses.{statuses_sent}
use Rattle.spc_link.specs.Setup as spc_link
use Rattle.sent_frame.specs.declared.frame.SentFrame.{SentFrame}
use Rattle.psi5_frame.specs.declared.burst.Payload.{Payload}
use Rattle.spc_tolerance.specs.Trains.{Transaction, Answered, Unanswered, ends_at, last_of}
use Rattle.receiver_core.specs.declared.message.Message.{Message}
use Rattle.receiver_core.specs.declared.message.Message.TheVariants as message
use Rattle.receiver_core.specs.declared.setup.Serial.{Serial}
use Rattle.receiver_core.specs.declared.setup.Serial.TheVariants as serial
use Rattle.receiver_core.specs.declared.setup.SyncSlots.{SyncSlots}
use Rattle.receiver_core.specs.declared.setup.ChannelSetup.{ChannelSetup}
use Rattle.receiver_core.specs.declared.setup.ChannelSetup.TheVariants as channel
use Rattle.message_lines.specs.Messages.{HasNibbles, message_fits, payload_fits, psi5_fits, sent_fits, slot_count, slot_fits, spc_fits, tooth_fits}
use Rattle.sim_base.specs.Outcomes.{Outcome, Sent, Refused}
use Rattle.sim_base.specs.Runs.{HasRun}
use Rattle.sim_base.specs.declared.sim_fault.SimFault.TheVariants as fault
use Rattle.sim_base.specs.Wobbles.{behind_word, past, word, words}
use Rattle.sim_base.proofs.FittingNibbles.{both}
use Rattle.sent_sim.specs.SentSims as sent
use Rattle.sent_sim.specs.SentSims.{begun, falls_sent, frame_next, sent_next}
use Rattle.sent_sim.specs.SentStates.{SentState}
use Rattle.sent_sim.proofs.SentOutcomes.{begins-enhanced, begins-short, sends-frame}
use Rattle.psi5_sim.specs.Psi5Sims as psi5
use Rattle.psi5_sim.specs.Psi5Sims.{burst_next, edges_sent as psi5_sent, psi5_next}
use Rattle.psi5_sim.specs.Psi5States.{Psi5State}
use Rattle.psi5_sim.proofs.Psi5Outcomes.{burst-is, sync-is}
use Rattle.spc_sim.specs.SpcSims as spc
use Rattle.spc_sim.specs.SpcSims.{answer_next, edges_sent as spc_sent, silent_next, spc_next}
use Rattle.spc_sim.specs.SpcStates.{SpcState}
use Rattle.spc_sim.proofs.SpcOutcomes.{sends-answer, sends-silent}
use Rattle.psi5_downlink_sim.specs.ToothSims as tooth
use Rattle.psi5_downlink_sim.specs.ToothSims.{down_next, rises_sent, tooth_next}
use Rattle.psi5_downlink_sim.specs.ToothStates.{ToothState}
use Rattle.psi5_downlink_sim.proofs.ToothOutcomes.{sends-down}
use Rattle.sensor_sim.specs.Sims.{SimState, sim_next, started_by}
use Rattle.sensor_sim.specs.declared.sim.Sim.TheVariants as sim
use Rattle.sensor_sim.proofs.HonestRuns.{psi5-sends, sent-sends, spc-sends, tooth-sends}
use Rattle.sensor_sim.proofs.LinkRuns.{LinkSends, link-run}
use Rattle.scripts_accepted.specs.Taken.{IsOfSetup}
use Rattle.scripts_accepted.proofs.Outcomes.{Leaves, kept, late-of, of-by}
use Rattle.scripts_accepted.proofs.KeptSetups.{IsPsi5Of, IsSentOf, IsSpcOf, IsToothOf, psi5-kept, sent-kept, spc-kept, tooth-kept}
use Rattle.scripts_accepted.proofs.FittingMessages.{answer-fits, burst-fits, frame-fits}

-- ---- SENT
module _ (state : SentState) (g : Lcg) where
  -- a frame that fits is one of the setup
  frame-of : (frame : SentFrame) → IsOfSetup (frame_next state frame g)
  unfolding frame_next falls_sent
  frame-of frame =
      let f = sent.frame_sent state.setup state.tick (sent.completed state.left frame) (sent.frame_words state.setup g) in
      let own = sent.past_frame state.setup g in
      let count = length (sent.ideal_of state.setup state.last f) in
      late-of SentState (λ s. Unit {0}) state (sent.behind_frame state f) (sent.frame_edges state f (words count own)) own (past count own) (ltb (9 * 10 ^ 17) (sent.ends_at state.setup state.last f))

  -- a serial message is one of the setup, by whether it comes in order
  by-order : (statuses : List ℕ) (order : Bool) → IsOfSetup (if order then Sent [] (record state { left = statuses }) g else Refused fault.Order state g)
  by-order statuses true = tt
  by-order statuses false = tt

  -- so a serial message that fits is one of the setup
  begun-of : (statuses : List ℕ) → IsOfSetup (begun state statuses g)
  unfolding begun
  begun-of statuses = by-order statuses (eqb (length state.left) 0)

  -- a message that fits SENT is one of the setup
  sent-of : (s : sent_frame.Settings) (form : Serial) → IsSentOf s form state → (m : Message) → HasNibbles m → sent_fits s.nibbles form m ≡ true → IsOfSetup (sent_next state m g)
  sent-of s form is (message.Frame frame) nibbles fits =
      let there : sent.fits_frame state.setup state.serial frame ≡ true = ap (λ (u : sent_frame.Settings). sent.fits_frame u state.serial frame) is.0 ∙ ap (λ (u : Serial). sent.fits_frame s u frame) is.1 ∙ frame-fits s form frame nibbles fits in
      subst IsOfSetup (sends-frame state g (message.Frame frame) frame refl there) (frame-of frame)
  sent-of s serial.Absent is (message.Short id value) nibbles fits = absurd cc
  sent-of s serial.Short is (message.Short id value) nibbles fits =
      subst IsOfSetup (begins-short state g (message.Short id value) id value (statuses_sent (step.Short id value)) refl (ap sent.are_short is.1) fits refl) (begun-of (statuses_sent (step.Short id value)))
  sent-of s serial.Enhanced is (message.Short id value) nibbles fits = absurd cc
  sent-of s serial.Absent is (message.Enhanced id value wide) nibbles fits = absurd cc
  sent-of s serial.Short is (message.Enhanced id value wide) nibbles fits = absurd cc
  sent-of s serial.Enhanced is (message.Enhanced id value true) nibbles fits =
      subst IsOfSetup (begins-enhanced state g (message.Enhanced id value true) id value true (statuses_sent (step.Enhanced id value true)) refl (ap sent.are_enhanced is.1) fits refl) (begun-of (statuses_sent (step.Enhanced id value true)))
  sent-of s serial.Enhanced is (message.Enhanced id value false) nibbles fits =
      subst IsOfSetup (begins-enhanced state g (message.Enhanced id value false) id value false (statuses_sent (step.Enhanced id value false)) refl (ap sent.are_enhanced is.1) fits refl) (begun-of (statuses_sent (step.Enhanced id value false)))
  sent-of s form is (message.Answer code frame) nibbles fits = absurd cc
  sent-of s form is (message.Silent code) nibbles fits = absurd cc
  sent-of s form is message.Sync nibbles fits = absurd cc
  sent-of s form is (message.Burst slot payload) nibbles fits = absurd cc
  sent-of s form is (message.Down down) nibbles fits = absurd cc

-- ---- SPC
module _ (state : SpcState) (g : Lcg) where
  -- a transaction is one of the setup
  edges-of : (t : Transaction) (own : Lcg) → IsOfSetup (spc_sent state t own)
  unfolding spc_sent
  edges-of t own =
      let count = length (spc.falls_in state.setup t) in
      let drawn = behind_word (behind_word own) in
      late-of SpcState (λ s. Unit {0}) state (spc.behind_transaction state t) (spc.transaction_edges state t (word own) (word (behind_word own)) (words count drawn)) own (past count drawn) (ltb (9 * 10 ^ 17) (ends_at state.setup t))

  -- so an answer that fits is
  answer-of : (code : ℕ) (frame : SentFrame) → IsOfSetup (answer_next state code frame g)
  unfolding answer_next
  answer-of code frame =
      let trigger = spc.next_sent state code g in
      edges-of (Answered trigger (spc.answer_sent state.setup trigger frame (spc.trigger_words g).tick (spc.answer_words state.setup (spc.past_trigger g)))) (spc.past_answer state.setup (spc.past_trigger g))

  -- and a trigger that nobody answers
  silent-of : (code : ℕ) → IsOfSetup (silent_next state code g)
  unfolding silent_next
  silent-of code = edges-of (Unanswered (spc.next_sent state code g)) (spc.past_trigger g)

  -- a message that fits SPC is one of the setup
  spc-of : (s : spc_link.Settings) → IsSpcOf s state → (m : Message) → HasNibbles m → spc_fits (length s.windows) s.sent.nibbles m ≡ true → IsOfSetup (spc_next state m g)
  spc-of s is (message.Frame frame) nibbles fits = absurd cc
  spc-of s is (message.Short id value) nibbles fits = absurd cc
  spc-of s is (message.Enhanced id value wide) nibbles fits = absurd cc
  spc-of s is (message.Answer code frame) nibbles fits =
      let there : spc.fits_answer state.setup code frame ≡ true = ap (λ (u : spc_link.Settings). spc.fits_answer u code frame) is ∙ answer-fits s code frame nibbles fits in
      subst IsOfSetup (sends-answer state g (message.Answer code frame) code frame refl there) (answer-of code frame)
  spc-of s is (message.Silent code) nibbles fits =
      let there : spc.fits_code state.setup code ≡ true = ap (λ (u : spc_link.Settings). spc.fits_code u code) is ∙ fits in
      subst IsOfSetup (sends-silent state g (message.Silent code) code refl there) (silent-of code)
  spc-of s is message.Sync nibbles fits = absurd cc
  spc-of s is (message.Burst slot payload) nibbles fits = absurd cc
  spc-of s is (message.Down down) nibbles fits = absurd cc

-- ---- tooth gap
module _ (state : ToothState) (g : Lcg) where
  -- a downlink frame that fits is one of the setup
  down-of : (down : Down) → IsOfSetup (down_next state down g)
  unfolding down_next rises_sent
  down-of down =
      let period = tooth.period_drawn state.setup.period (tooth.tooth_words g).period in
      let missing = tooth.missing_drawn (tooth.tooth_words g).gap in
      let own = tooth.past_words g in
      let end = tooth.ends_at state.setup state.last down period missing in
      let count = length (tooth.ideal_of state.setup state.last down period missing) in
      late-of ToothState (λ s. Unit {0}) state (record state { last = Some end }) (tooth.message_edges state down period missing (words count own)) own (past count own) (ltb (9 * 10 ^ 17) end)

  -- a message that fits the tooth gap is one of the setup
  tooth-of : (s : downlink.Settings) → IsToothOf s state → (m : Message) → tooth_fits s.form m ≡ true → IsOfSetup (tooth_next state m g)
  tooth-of s is (message.Frame frame) fits = absurd cc
  tooth-of s is (message.Short id value) fits = absurd cc
  tooth-of s is (message.Enhanced id value wide) fits = absurd cc
  tooth-of s is (message.Answer code frame) fits = absurd cc
  tooth-of s is (message.Silent code) fits = absurd cc
  tooth-of s is message.Sync fits = absurd cc
  tooth-of s is (message.Burst slot payload) fits = absurd cc
  tooth-of s is (message.Down down) fits =
      let there : tooth.fits_down state.setup.form down ≡ true = ap (λ (u : downlink.Settings). tooth.fits_down u.form down) is ∙ fits in
      subst IsOfSetup (sends-down state g (message.Down down) down refl there) (down-of down)

-- ---- PSI5
module _ (state : Psi5State) (g : Lcg) where
  -- a sync pulse or a frame is one of the setup
  times-of : (sending : Sending) (own : Lcg) → IsOfSetup (psi5_sent state sending own)
  unfolding psi5_sent
  times-of sending own =
      let times = psi5.times_sent state.setup sending in
      late-of Psi5State (λ s. Unit {0}) state (psi5.behind state sending) (psi5.message_edges state sending (words (length times) own)) own (past (length times) own) (ltb (9 * 10 ^ 17) (last_of 0 times))

  -- so a sync pulse is where there are slots
  sync-of : (slots : Option SyncSlots) (has : Option SyncSlots) → has ≡ slots → psi5_fits state.setup.parts (slot_count slots) message.Sync ≡ true → IsOfSetup (psi5.sync_next state has g)
  sync-of None has is fits = absurd cc
  sync-of (Some slots) None is fits = absurd cc
  sync-of (Some slots) (Some has) is fits = times-of (SyncAt (psi5.next_sync state.setup has state.before.sync)) g

  -- a burst that fits is one of the setup, by whether it comes in order
  by-tests : (slot : Option ℕ) (next : Outcome Psi5State) (fits order : Bool) → fits ≡ true → IsOfSetup next → IsOfSetup (if not fits then Refused fault.Range state g else (if not order then Refused fault.Order state g else next))
  by-tests slot next false order fits of = absurd cc
  by-tests slot next true false fits of = tt
  by-tests slot next true true fits of = of

  -- so a burst that fits is
  burst-of : (slot : Option ℕ) (payload : Payload) → psi5.fits_burst state.setup state.slots slot payload ≡ true → IsOfSetup (burst_next state slot payload g)
  unfolding burst_next
  burst-of slot payload fits =
      let own = behind_word (behind_word g) in
      let frame = psi5.frame_drawn state slot payload g in
      by-tests slot (psi5_sent state (FrameAt frame) own) (psi5.fits_burst state.setup state.slots slot payload) (psi5.is_in_order state.before slot) fits (times-of (FrameAt frame) own)

  -- a message that fits PSI5 is one of the setup
  psi5-of : (s : psi5_frame.Settings) (slots : Option SyncSlots) → IsPsi5Of s slots state → (m : Message) → psi5_fits s.parts (slot_count slots) m ≡ true → IsOfSetup (psi5_next state m g)
  psi5-of s slots is (message.Frame frame) fits = absurd cc
  psi5-of s slots is (message.Short id value) fits = absurd cc
  psi5-of s slots is (message.Enhanced id value wide) fits = absurd cc
  psi5-of s slots is (message.Answer code frame) fits = absurd cc
  psi5-of s slots is (message.Silent code) fits = absurd cc
  psi5-of s slots is message.Sync fits = subst IsOfSetup (sync-is state g message.Sync refl) (sync-of slots state.slots is.1 fits)
  psi5-of s slots is (message.Burst slot payload) fits =
      let parts = both (slot_fits (slot_count slots) slot) (payload_fits s.parts payload) fits in
      let there : psi5.fits_burst state.setup state.slots slot payload ≡ true =
      ap (λ (u : psi5_frame.Settings). psi5.fits_burst u state.slots slot payload) is.0 ∙ ap (λ (u : Option SyncSlots). psi5.fits_burst s u slot payload) is.1 ∙ burst-fits s slots slot payload parts.0 parts.1 in
      subst IsOfSetup (burst-is state g (message.Burst slot payload) slot payload refl) (burst-of slot payload there)
  psi5-of s slots is (message.Down down) fits = absurd cc

-- ---- by the channel
-- a link's simulator that has run to this leaves the channel so
by-link : (A : Type 0) (link : A → SimState) (next : A → Message → Lcg → Outcome A) → LinkSends A link next → (first : A) (P : A → Type 0) → P first → ((state : A) (m : Message) (g : Lcg) → P state → Leaves P (next state m g))
    → (m : Message) (g : Lcg) → ((state : A) → P state → IsOfSetup (next state m g)) → (state : SimState) (messages : List Message) (edges : List Edge) → HasRun SimState sim_next (link first) state messages edges → IsOfSetup (sim_next state m g)
by-link A link next sends first P start step m g of state messages edges run =
    let by = link-run A link next sends first state messages edges run in
    let is : P by.0 = kept A next first (λ count s. P s) start (λ count s n h holds. step s n h holds) by.0 messages edges by.2 in
    subst (λ s. IsOfSetup (sim_next s m g)) (sym by.1) (subst IsOfSetup (sym (sends by.0 m g)) (of-by link (next by.0 m g) (of by.0 is)))

-- a message that fits a channel is one of its setup
pub read-of : (setup : ChannelSetup) (state : SimState) (messages : List Message) (edges : List Edge) (m : Message) (g : Lcg) → HasNibbles m → message_fits setup m ≡ true → HasRun SimState sim_next (started_by setup) state messages edges → IsOfSetup (sim_next state m g)
read-of (channel.Sent line s layout form) state messages edges m g nibbles fits run =
    by-link SentState sim.Sent sent_next sent-sends (sent.started line s form) (IsSentOf s form) (refl, refl) (λ now n h is. sent-kept s form now h is n) m g (λ now is. sent-of now g s form is m nibbles fits) state messages edges run
read-of (channel.Psi5 line s slots init) state messages edges m g nibbles fits run =
    by-link Psi5State sim.Psi5 psi5_next psi5-sends (psi5.started line s slots) (IsPsi5Of s slots) (refl, refl) (λ now n h is. psi5-kept s slots now h is n) m g (λ now is. psi5-of now g s slots is m fits) state messages edges run
read-of (channel.Spc line s) state messages edges m g nibbles fits run =
    by-link SpcState sim.Spc spc_next spc-sends (spc.started line s) (IsSpcOf s) refl (λ now n h is. spc-kept s now h is n) m g (λ now is. spc-of now g s is m nibbles fits) state messages edges run
read-of (channel.Tooth line s) state messages edges m g nibbles fits run =
    by-link ToothState sim.Tooth tooth_next tooth-sends (tooth.started line s) (IsToothOf s) refl (λ now n h is. tooth-kept s now h is n) m g (λ now is. tooth-of now g s is m fits) state messages edges run
