use Rattle.std.proofs.Common.{ℕ, ◌-◌}
use Rattle.receiver_core.specs.declared.setup.ChannelSetup.{ChannelSetup}
use Rattle.loop_command.specs.Running.{HasLeft}
use Rattle.loop_command.proofs.script_loop.ScriptLoop.send_all.Given as goal

abbrev pub invariant-loop-sent : goal.invariant-loop-sent
invariant-loop-sent l = (seed : ℕ) (setup : ChannelSetup) → HasLeft l.fn.self seed l.fn.count setup l.fn.count → HasLeft l.self seed l.fn.count setup (l.fn.count - l._sent)
