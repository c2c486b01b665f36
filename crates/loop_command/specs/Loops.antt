-- What a loop writes of the edges that it has simulated; this project's own.
use Rattle.std.specs.Prelude.{ℕ, ◌+◌, ◌%◌, ◌^◌, List, [], ◌∷◌, ◌++◌, codes, decimal, length, map}
use Rattle.line_base.specs.Thinned.{thinned}
use Rattle.line_base.specs.declared.edge.Edge.{Edge}
use Rattle.line_base.specs.declared.edge.Item.TheVariants as item
use Rattle.receiver_core.specs.declared.setup.ChannelSetup.{ChannelSetup}
use Rattle.receiver_core.specs.declared.tally.Tally.{Tally}
use Rattle.receiver_core.specs.Channels.{final}
use Rattle.receiver_core.specs.Tallies.{tally_of}
use Rattle.sensor_script.specs.Scripts.{ScriptState, script_from}
use Rattle.sensor_sim.specs.Played.{wobble_of}
use Rattle.loop_command.specs.LostRuns.{lost_runs}

-- the script of a loop, whose seed is one more than the loop's, and 0 where that would be 2^64
abbrev pub script_of : ℕ → ChannelSetup → ScriptState
script_of seed setup = script_from setup (wobble_of ((seed + 1) % 2 ^ 64))

-- the tally of a receiver that gets all edges
abbrev pub whole_tally : ChannelSetup → List Edge → Tally
whole_tally setup edges = tally_of (final setup (map item.Edge edges))

-- the tally of a receiver that gets them with a gap in the place of each lost run
abbrev pub thinned_tally : ChannelSetup → List Edge → Tally
thinned_tally setup edges = tally_of (final setup (thinned edges (lost_runs (length edges))))

-- the time of the last edge, and 0 where there is none
abbrev pub last_time : List Edge → ℕ
last_time [] = 0
last_time (edge ∷ []) = edge.time
last_time (edge ∷ next ∷ edges) = last_time (next ∷ edges)

-- the line of so many counted messages, with its LF: what a receiver counts as good and bad, how many edges there are, the time of the last one, and what a receiver with gaps counts
unfoldable pub loop_line : ℕ → Tally → ℕ → ℕ → Tally → List ℕ
loop_line count tally edges last with_gaps =
    codes "sent " ++ decimal count ++ codes " good " ++ decimal tally.good ++ codes " bad " ++ decimal tally.bad ++ codes " edges " ++ decimal edges ++ codes " last " ++ decimal last
    ++ codes " thinned good " ++ decimal with_gaps.good ++ codes " bad " ++ decimal with_gaps.bad ++ codes "\n"

-- the line of these edges
abbrev pub line_of_edges : ChannelSetup → ℕ → List Edge → List ℕ
line_of_edges setup count edges = loop_line count (whole_tally setup edges) (length edges) (last_time edges) (thinned_tally setup edges)
