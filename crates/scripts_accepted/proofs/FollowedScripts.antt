-- The messages of a script are sent, by its link.
--     scripted-sent
use Rattle.std.proofs.Common.{◌≡◌, ℕ, ◌<◌, None}
use Rattle.rand_pcg.specs.Lcg.{Lcg}
use Rattle.receiver_core.specs.declared.setup.ChannelSetup.{ChannelSetup}
use Rattle.receiver_core.specs.declared.setup.ChannelSetup.TheVariants.{Sent, Psi5, Spc, Tooth}
use Rattle.receiver_core.specs.Setups.{setup_fault_of}
use Rattle.sensor_sim.specs.Sims.{IsAccepted, SimState, sim_next}
use Rattle.sensor_script.specs.Scripts.{ScriptState, script_next}
use Rattle.scripts_accepted.specs.Taken.{IsSent}
use Rattle.scripts_accepted.specs.Followed.{HasFollowed}
use Rattle.scripts_accepted.proofs.BurstScripts.{psi5-scripted}
use Rattle.scripts_accepted.proofs.SentScripts.{sent-scripted}
use Rattle.scripts_accepted.proofs.SpcScripts.{spc-scripted}
use Rattle.scripts_accepted.proofs.ToothScripts.{tooth-scripted}

-- the messages of a script are sent
pub scripted-sent : (setup : ChannelSetup) (words : Lcg) (script : ScriptState) (state : SimState) (count : ℕ) (g : Lcg) → IsAccepted setup → setup_fault_of setup ≡ None → HasFollowed setup words script state count → count < 100000
    → IsSent (sim_next state (script_next script).message g)
scripted-sent (Sent line s layout form) words script state count g accepted no_fault run few = sent-scripted line s layout accepted form no_fault words script state count g run few
scripted-sent (Psi5 line s slots init) words script state count g accepted no_fault run few = psi5-scripted line s slots init accepted.0 accepted.1 no_fault words script state count g run few
scripted-sent (Spc line s) words script state count g accepted no_fault run few = spc-scripted line s accepted.0 accepted.1 words script state count g run few
scripted-sent (Tooth line s) words script state count g accepted no_fault run few = tooth-scripted line s accepted words script state count g run few
