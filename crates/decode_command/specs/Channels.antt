-- What is read of an edge list on its channels, and what is told of each; this project's own.
use Rattle.std.specs.Prelude.{ℕ, ◌+◌, ◌||◌, nat_lt, Bool, is_some, List, [], ◌∷◌, ◌++◌, length, drop, filter, map, if◌then◌else◌}
use Rattle.std.specs.List.{list_any}
use Rattle.line_base.specs.declared.edge.Edge.{Edge}
use Rattle.line_base.specs.declared.edge.Item.{Item}
use Rattle.line_base.specs.declared.edge.Item.TheVariants as item
use Rattle.edge_trace.specs.Limits.{edges_of, fault_of, whole_edges_of, whole_fault_of}
use Rattle.receiver_core.specs.declared.report.Report.{Report}
use Rattle.receiver_core.specs.declared.setup.ChannelSetup.{ChannelSetup}
use Rattle.receiver_core.specs.declared.tally.Tally.{Tally}
use Rattle.receiver_core.specs.Setups.{reads_line}
use Rattle.receiver_core.specs.Channels.{so_far, final}
use Rattle.receiver_core.specs.Tallies.{tally_of}
use Rattle.report_text.specs.Reports.{lines_of}
use Rattle.report_text.specs.Totals.{total_line}
use Rattle.command_base.specs.Tasks.{Task}

-- the edge is on a line that the channel reads
abbrev pub is_on : ChannelSetup → Edge → Bool
is_on setup edge = reads_line setup edge.line

-- the items of a channel: the edges of its lines, in order
unfoldable pub items_on : ChannelSetup → List Edge → List Item
items_on setup edges = map item.Edge (filter (is_on setup) edges)

-- the reports of a channel so far
unfoldable pub reports_on : ChannelSetup → List Edge → List Report
reports_on setup edges = so_far setup (items_on setup edges)

-- the reports of a channel, with those that the end adds
unfoldable pub final_on : ChannelSetup → List Edge → List Report
final_on setup edges = final setup (items_on setup edges)

-- the reports by which those of a channel grow with one edge more
unfoldable pub reports_added : ChannelSetup → List Edge → Edge → List Report
reports_added setup before edge = drop (length (reports_on setup before)) (reports_on setup (before ++ edge ∷ []))

-- the reports by which those of a channel grow at the end
unfoldable pub reports_of_end : ChannelSetup → List Edge → List Report
reports_of_end setup edges = drop (length (reports_on setup edges)) (final_on setup edges)

-- the lines that an edge adds behind others, channel by channel, of which the first has this number
unfoldable pub edge_lines : ℕ → List ChannelSetup → List Edge → Edge → List ℕ
edge_lines channel [] before edge = []
edge_lines channel (setup ∷ setups) before edge = lines_of channel (reports_added setup before edge) ++ edge_lines (channel + 1) setups before edge

-- the lines that edges add behind others, edge by edge
unfoldable pub lines_behind : List ChannelSetup → List Edge → List Edge → List ℕ
lines_behind setups before [] = []
lines_behind setups before (edge ∷ edges) = edge_lines 0 setups before edge ++ lines_behind setups (before ++ edge ∷ []) edges

-- the lines that the end adds, channel by channel, of which the first has this number
unfoldable pub end_lines : ℕ → List ChannelSetup → List Edge → List ℕ
end_lines channel [] edges = []
end_lines channel (setup ∷ setups) edges = lines_of channel (reports_of_end setup edges) ++ end_lines (channel + 1) setups edges

-- the total lines, channel by channel, of which the first has this number
unfoldable pub total_lines : ℕ → List ChannelSetup → List Edge → List ℕ
total_lines channel [] edges = []
total_lines channel (setup ∷ setups) edges = total_line channel (tally_of (final_on setup edges)) ++ total_lines (channel + 1) setups edges

-- what is decoded: these channels, and whether a line is told of each report, or the totals alone
pub record Decoding : Type 0 where
  pub setups : List ChannelSetup
  pub told : Bool

-- these lines, where lines are told
abbrev pub told_lines : Bool → List ℕ → List ℕ
told_lines told lines = if told then lines else []

-- the report lines of these edges
unfoldable pub text_so_far : Decoding → List Edge → List ℕ
text_so_far decoding edges = told_lines decoding.told (lines_behind decoding.setups [] edges)

-- the report lines of these edges and of the end, and then the total line of each channel
unfoldable pub whole_text : Decoding → List Edge → List ℕ
whole_text decoding edges = text_so_far decoding edges ++ (told_lines decoding.told (end_lines 0 decoding.setups edges) ++ total_lines 0 decoding.setups edges)

-- the text of a whole input: the report lines of its edges, and then, where the edge list has no fault, those of the end and the total lines
unfoldable pub text_of : Decoding → List ℕ → List ℕ
text_of decoding bytes = if is_some (whole_fault_of bytes) then text_so_far decoding (whole_edges_of bytes) else whole_text decoding (whole_edges_of bytes)

-- a tally counts something bad, or a gap
abbrev pub has_marks : Tally → Bool
has_marks tally = nat_lt 0 tally.bad || nat_lt 0 tally.gaps

-- a report of some channel tells of something bad, or of a gap
unfoldable pub is_marked : List ChannelSetup → List Edge → Bool
is_marked setups edges = list_any (λ setup. has_marks (tally_of (final_on setup edges))) setups

-- what decoding makes of an edge list: its first fault, and the text of its edges
abbrev pub decoding_task : Decoding → Task
decoding_task decoding = record {
  fault = fault_of;
  text = λ bytes. text_so_far decoding (edges_of bytes);
  whole_fault = whole_fault_of;
  whole_text = text_of decoding;
  is_marked = λ bytes. is_marked decoding.setups (whole_edges_of bytes);
}
