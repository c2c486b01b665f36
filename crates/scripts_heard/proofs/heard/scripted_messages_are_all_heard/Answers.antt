-- The laws of the links, put together.
use Rattle.std.proofs.Common.{◌≡◌, None, arith}
use Rattle.receiver_core.specs.declared.setup.ChannelSetup.{ChannelSetup}
use Rattle.receiver_core.specs.declared.setup.ChannelSetup.TheVariants.{Sent, Psi5, Spc, Tooth}
use Rattle.receiver_core.specs.Setups.{setup_fault_of}
use Rattle.sensor_sim.specs.Played.{wobble_of}
use Rattle.sensor_sim.specs.Sims.{IsAccepted, started_by}
use Rattle.sensor_script.specs.Scripts.{script_from}
use Rattle.scripts_heard.specs.Heard.{AreHeard}
use Rattle.scripts_accepted.specs.Followed.{NotYet}
use Rattle.scripts_heard.proofs.HeardScripts.{all-heard}
use Rattle.scripts_heard.proofs.SentScripts.{never-refused}
use Rattle.scripts_heard.proofs.heard.scripted_messages_are_all_heard.Goals as goal

pub returns-clause-sent : goal.returns-clause-sent
returns-clause-sent c = λ setup first seed count messages is_accepted no_fault few scripted.
    never-refused setup first (λ script state so_far g followed below. c.scripted_messages_are_never_refused.ensures setup first script state so_far g is_accepted no_fault followed below)
    (script_from setup first) (started_by setup) 0 count 0 (wobble_of seed) messages NotYet (omega (arith, few)) scripted

pub returns-clause-heard : goal.returns-clause-heard
returns-clause-heard c = λ setup first seed count messages is_accepted no_fault few scripted.
    all-heard setup first seed count messages is_accepted no_fault (by_link setup is_accepted no_fault) scripted
    (never-refused setup first (λ script state so_far g followed below. c.scripted_messages_are_never_refused.ensures setup first script state so_far g is_accepted no_fault followed below)
    (script_from setup first) (started_by setup) 0 count 0 (wobble_of seed) messages NotYet (omega (arith, few)) scripted)
  where
    by_link : (setup : ChannelSetup) → IsAccepted setup → setup_fault_of setup ≡ None → AreHeard setup
    by_link (Sent line s layout form) is_accepted no_fault = c.scripted_frames_are_heard.ensures line s layout form
    by_link (Psi5 line s slots init) is_accepted no_fault = c.scripted_bursts_are_heard.ensures line s slots init is_accepted no_fault
    by_link (Spc line s) is_accepted no_fault = c.scripted_answers_are_heard.ensures line s is_accepted
    by_link (Tooth line s) is_accepted no_fault = c.scripted_downlinks_are_heard.ensures line s is_accepted
