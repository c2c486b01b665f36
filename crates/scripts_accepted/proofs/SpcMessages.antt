-- The first messages of an SPC simulator are in time.
--     fit-sent      a message that fits is sent by the link
--     in-time       and by the channel
use Rattle.std.proofs.Common.{◌≡◌, ℕ, ◌<◌, true, None, List, length, sym, subst}
use Rattle.rand_pcg.specs.Lcg.{Lcg}
use Rattle.line_base.specs.declared.edge.Edge.{Edge}
use Rattle.sent_frame.specs.Setup as sent_frame
use Rattle.spc_link.specs.Setup.{Settings, fault_of}
use Rattle.receiver_core.specs.declared.message.Message.{Message}
use Rattle.receiver_core.specs.declared.message.Message.TheVariants as message
use Rattle.receiver_core.specs.declared.setup.ChannelSetup.TheVariants.{Spc}
use Rattle.message_lines.specs.Messages.{HasNibbles, spc_fits}
use Rattle.sim_base.specs.Runs.{HasRun}
use Rattle.spc_sim.specs.SpcSims.{spc_next, started}
use Rattle.spc_sim.specs.SpcStates.{SpcState}
use Rattle.sensor_sim.specs.Sims.{SimState, sim_next, started_by}
use Rattle.sensor_sim.specs.declared.sim.Sim.TheVariants as sim
use Rattle.sensor_sim.proofs.HonestRuns.{spc-sends}
use Rattle.sensor_sim.proofs.LinkRuns.{link-run}
use Rattle.scripts_accepted.specs.Taken.{IsSent}
use Rattle.scripts_accepted.proofs.FittingMessages.{answer-fits}
use Rattle.scripts_accepted.proofs.Outcomes.{kept, sent-by}
use Rattle.scripts_accepted.proofs.SpcBounds.{SpcSoon, answer-soon, silent-soon, soon-next, soon-started}

module _ (line : ℕ) (s : Settings) (accepted : fault_of s.sent s.windows s.delay s.quiet ≡ None) (frame_accepted : sent_frame.fault_of s.sent.tick s.sent.jitter s.sent.nibbles ≡ None) where
  -- a message that fits is sent by the link
  fit-sent : (count : ℕ) (state : SpcState) (m : Message) (g : Lcg) → SpcSoon s count state → count < 300000 → HasNibbles m → spc_fits (length s.windows) s.sent.nibbles m ≡ true → IsSent (spc_next state m g)
  fit-sent count state (message.Frame frame) g soon few nibbles fits = absurd cc
  fit-sent count state (message.Short id value) g soon few nibbles fits = absurd cc
  fit-sent count state (message.Enhanced id value wide) g soon few nibbles fits = absurd cc
  fit-sent count state (message.Answer code frame) g soon few nibbles fits = answer-soon line s accepted frame_accepted count state code frame g soon few (answer-fits s code frame nibbles fits)
  fit-sent count state (message.Silent code) g soon few nibbles fits = silent-soon line s accepted frame_accepted count state code g soon few fits
  fit-sent count state message.Sync g soon few nibbles fits = absurd cc
  fit-sent count state (message.Burst slot payload) g soon few nibbles fits = absurd cc
  fit-sent count state (message.Down down) g soon few nibbles fits = absurd cc

  -- a message that fits is sent by the channel
  pub in-time : (state : SimState) (messages : List Message) (edges : List Edge) (m : Message) (g : Lcg) → HasNibbles m → spc_fits (length s.windows) s.sent.nibbles m ≡ true → length messages < 300000
      → HasRun SimState sim_next (started_by (Spc line s)) state messages edges → IsSent (sim_next state m g)
  in-time state messages edges m g nibbles fits few run =
      let by = link-run SpcState sim.Spc spc_next spc-sends (started line s) state messages edges run in
      let soon = kept SpcState spc_next (started line s) (SpcSoon s) (soon-started line s accepted frame_accepted) (soon-next line s accepted frame_accepted) by.0 messages edges by.2 in
      subst (λ s. IsSent (sim_next s m g)) (sym by.1) (subst IsSent (sym (spc-sends by.0 m g)) (sent-by sim.Spc (spc_next by.0 m g) (fit-sent (length messages) by.0 m g soon few nibbles fits)))
