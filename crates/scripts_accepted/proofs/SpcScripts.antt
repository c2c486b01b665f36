-- The messages of a script for SPC are sent.
--     spc-scripted
use Rattle.std.proofs.Common.{◌≡◌, ℕ, suc, ◌+◌, ◌%◌, ◌<◌, true, None, length, refl, sym, subst, ltb, lt-ltb, arith}
use Rattle.std.specs.Prelude.{◌&&◌}
use Rattle.std.proofs.lemmas.Nat.{mod_below}
use Rattle.rand_pcg.specs.Lcg.{Lcg}
use Rattle.sent_frame.specs.Setup as sent_frame
use Rattle.spc_link.specs.Setup.{Settings, fault_of}
use Rattle.receiver_core.specs.declared.setup.ChannelSetup.TheVariants.{Spc}
use Rattle.sim_base.specs.FittingNibbles.{fits_nibbles}
use Rattle.sim_base.specs.Outcomes.{Outcome, Sent, Refused}
use Rattle.sim_base.specs.Wobbles.{behind_word, word}
use Rattle.spc_sim.specs.SpcSims.{fits_answer, spc_next as sim_spc_next, started}
use Rattle.spc_sim.specs.SpcStates.{SpcState}
use Rattle.sensor_sim.specs.Sims.{SimState, sim_next}
use Rattle.sensor_sim.specs.declared.sim.Sim.TheVariants as sim
use Rattle.sensor_sim.proofs.HonestRuns.{spc-sends}
use Rattle.sensor_script.specs.Draws.{nibbles_by, value}
use Rattle.sensor_script.specs.Scripts.{ScriptState, Scripted, script_next, spc_next}
use Rattle.scripts_accepted.specs.Taken.{IsSent}
use Rattle.scripts_accepted.specs.Followed.{HasFollowed}
use Rattle.scripts_accepted.proofs.FittingMessages.{and-true}
use Rattle.scripts_accepted.proofs.FollowedLinks.{LeavesBoth, followed-sent, script-by}
use Rattle.scripts_accepted.proofs.Outcomes.{Leaves}
use Rattle.scripts_accepted.proofs.ScriptValues.{nibbles-fit-by, value-fits}
use Rattle.scripts_accepted.proofs.SpcBounds.{SpcSoon, answer-soon, some-windows, soon-next, soon-started}

-- the script keeps its setup, and the simulator's next trigger falls soon
pub record SpcBoth (line : ℕ) (s : Settings) (script : ScriptState) (now : SpcState) (count : ℕ) : Type 0 where
  pub script_is : script.setup ≡ Spc line s
  pub soon : SpcSoon s count now

module _ (line : ℕ) (s : Settings) (accepted : fault_of s.sent s.windows s.delay s.quiet ≡ None) (frame_accepted : sent_frame.fault_of s.sent.tick s.sent.jitter s.sent.nibbles ≡ None) where
  -- an answer that is drawn fits
  drawn-fits : (code : ℕ) (g h : Lcg) → fits_answer s (code % length s.windows) (record { status = value 4 g; nibbles = nibbles_by s.sent.nibbles h }) ≡ true
  drawn-fits code g h =
      let nibbles = nibbles_by s.sent.nibbles h in
      and-true (ltb (code % length s.windows) (length s.windows)) (fits_nibbles s.sent nibbles && ltb (value 4 g) 16) (lt-ltb (code % length s.windows) (length s.windows) (mod_below code (length s.windows) (some-windows s accepted)))
      (and-true (fits_nibbles s.sent nibbles) (ltb (value 4 g) 16) (nibbles-fit-by s.sent h) (value-fits 4 g))

  -- behind an answer both still hold
  behind-answer : (script : ScriptState) (count : ℕ) (o : Outcome SpcState) → script.setup ≡ Spc line s → Leaves (SpcSoon s (suc count)) o → Leaves (λ behind. SpcBoth line s script behind (count + 1)) o
  behind-answer script count (Sent edges behind later) is soon =
      let more : suc count ≡ count + 1 = omega arith in
      record { script_is = is; soon = subst (λ n. SpcSoon s n behind) more soon }
  behind-answer script count (Refused refused behind later) is soon = tt

  -- so behind the script's answer
  spc-step : (script : ScriptState) (now : SpcState) (count : ℕ) (g : Lcg) → SpcBoth line s script now count → LeavesBoth (SpcBoth line s) count (sim_spc_next now) (spc_next script s) g
  unfolding spc_next
  spc-step script now count g both =
      behind-answer (spc_next script s).script count (sim_spc_next now (spc_next script s).message g) both.script_is (soon-next line s accepted frame_accepted count now (spc_next script s).message g both.soon)

  -- and the answer is sent
  spc-last : (script : ScriptState) (now : SpcState) (count : ℕ) (g : Lcg) → SpcBoth line s script now count → count < 100000 → IsSent (sim_spc_next now (spc_next script s).message g)
  unfolding spc_next
  spc-last script now count g both few =
      answer-soon line s accepted frame_accepted count now (word script.wobble % length s.windows) (record { status = value 4 (behind_word script.wobble); nibbles = nibbles_by s.sent.nibbles (behind_word (behind_word script.wobble)) }) g both.soon (omega (arith, few))
      (drawn-fits (word script.wobble) (behind_word script.wobble) (behind_word (behind_word script.wobble)))

  -- the messages of a script for SPC are sent
  pub spc-scripted : (words : Lcg) (script : ScriptState) (state : SimState) (count : ℕ) (g : Lcg) → HasFollowed (Spc line s) words script state count → count < 100000 → IsSent (sim_next state (script_next script).message g)
  spc-scripted words script state count g run few =
      followed-sent SpcState sim.Spc sim_spc_next spc-sends (Spc line s) words (started line s) refl (SpcBoth line s) (record { script_is = refl; soon = soon-started line s accepted frame_accepted })
      (λ script now count g both. subst (λ x. LeavesBoth (SpcBoth line s) count (sim_spc_next now) x g) (sym (script-by script (Spc line s) both.script_is)) (spc-step script now count g both))
      100000 (λ script now count g both few. subst (λ (x : Scripted). IsSent (sim_spc_next now x.message g)) (sym (script-by script (Spc line s) both.script_is)) (spc-last script now count g both few)) script state count g run few
