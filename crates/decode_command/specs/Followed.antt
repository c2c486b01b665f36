-- Which edges of a list channels have taken; this project's own.
use Rattle.std.specs.Prelude.{◌≡◌, List, [], ◌∷◌, map}
use Rattle.line_base.specs.declared.edge.Edge.{Edge}
use Rattle.receiver_core.specs.declared.setup.ChannelSetup.{ChannelSetup}
use Rattle.receiver_core.specs.CountedReceivers.{HasTaken}
use Rattle.receiver_core.specs.declared.counted_receiver.CountedReceiver.{CountedReceiver}
use Rattle.receiver_core.specs.Tallies.{tally_of}
use Rattle.decode_command.specs.Channels.{final_on, items_on}

-- the channel has taken these edges: its receiver has taken those of its lines
abbrev pub Follows : CountedReceiver → List Edge → Type 0
Follows channel edges = HasTaken channel (items_on channel.setup edges)

-- each of these channels has taken these edges
abbrev pub AllFollow : List CountedReceiver → List Edge → Type 0
AllFollow [] edges = Unit {0}
AllFollow (channel ∷ channels) edges = Follows channel edges × AllFollow channels edges

-- the setups of these channels
abbrev pub setups_of : List CountedReceiver → List ChannelSetup
setups_of channels = map (λ channel. channel.setup) channels

-- each of these channels has counted all reports of these edges, with those of the end
abbrev pub AllCounted : List CountedReceiver → List Edge → Type 0
AllCounted [] edges = Unit {0}
AllCounted (channel ∷ channels) edges = (channel.tally ≡ tally_of (final_on channel.setup edges)) × AllCounted channels edges
