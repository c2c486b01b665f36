-- What a command did with its source and its output; this project's own.
use Rattle.std.specs.Prelude.{◌≡◌, ℕ, true, false, List, Option, IfSome}
use Rattle.line_base.specs.declared.reason.Reason.{Reason}
use Rattle.line_base.specs.declared.reason.Reason.TheVariants as reason
use Rattle.command_base.specs.Ended.{Ended}
use Rattle.receiver_core.specs.declared.setup.ChannelSetup.{ChannelSetup}
use Rattle.link_words.specs.declared.command.Command.{Command}
use Rattle.link_words.specs.declared.command.Command.TheVariants.{Decode, Check, Simulate, Loop}
use Rattle.decode_command.specs.Channels.{Decoding, decoding_task}
use Rattle.decode_command.specs.Traces.{ToldTraces}
use Rattle.loop_command.specs.Ended.{LoopEnded}
use Rattle.simulate_command.specs.Simulations.{WroteHonest, simulation}

-- what a source had left and has left, and what an output held and holds, where they tell it
pub record Ran : Type 0 where
  pub left : Option (List ℕ)
  pub left_now : Option (List ℕ)
  pub got : Option (List ℕ)
  pub got_now : Option (List ℕ)

-- what decoding did, where the source told its bytes: how it ended on them, and what it told of honest traces in them
pub record Decoded (decoding : Decoding) (why : Reason) (ran : Ran) : Type 0 where
  pub ended : IfSome ran.left (λ bytes. Ended (decoding_task decoding) why bytes ran.left_now ran.got ran.got_now)
  pub tolerance : IfSome ran.left (λ bytes. ToldTraces decoding why bytes ran.got ran.got_now)

-- what a simulation did, where the source told its bytes: how it ended on them, and, where all was read and written, that the rows are those of edges that are an honest trace of the messages
pub record Simulated (setup : ChannelSetup) (seed : ℕ) (why : Reason) (ran : Ran) : Type 0 where
  pub ended : IfSome ran.left (λ bytes. Ended (simulation setup seed) why bytes ran.left_now ran.got ran.got_now)
  pub sends : why ≡ reason.Clean → IfSome ran.left (λ bytes. WroteHonest setup bytes ran.got ran.got_now)

-- what a loop did, whatever its source holds: its line was written, or a front of it, and its source is as before
pub record Looped (seed count : ℕ) (setup : ChannelSetup) (why : Reason) (ran : Ran) (as_before : Type 0) : Type 0 where
  pub looped : LoopEnded seed count setup why ran.got ran.got_now
  pub unread : as_before

-- what a command did, by its reason, where it was said of its source that it is as before: `decode` has told a line of each report and then the totals, `check` the totals alone, `simulate` the rows of the messages, and `loop` its line
abbrev pub CommandDid : Command → Reason → Ran → Type 0 → Type 0
CommandDid (Decode setups) why ran as_before = Decoded (record { setups = setups; told = true }) why ran
CommandDid (Check setups) why ran as_before = Decoded (record { setups = setups; told = false }) why ran
CommandDid (Simulate seed setup) why ran as_before = Simulated setup seed why ran
CommandDid (Loop seed count setup) why ran as_before = Looped seed count setup why ran as_before
