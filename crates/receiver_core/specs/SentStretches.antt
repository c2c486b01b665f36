-- Which edges a SENT channel stands for between two gaps; this project's own.
use Rattle.std.specs.Prelude.{◌≡◌, List, [], true}
use Rattle.line_base.specs.Edges.{NumberedEdge}
use Rattle.sent_frame.specs.Setup.{Settings}
use Rattle.sent_frame.specs.Reading.{sent_reading}
use Rattle.sent_frame.specs.Readers.{StandsFor}
use Rattle.sent_fast.specs.declared.layout.Layout.{Layout}
use Rattle.receiver_core.specs.declared.sent_channel.SentChannel.{SentChannel}
use Rattle.receiver_core.specs.Setups.{nibbles_fit}
use Rattle.receiver_core.specs.declared.setup.Serial.{Serial}
use Rattle.receiver_core.specs.Serials.{SerialStandsFor}
use Rattle.receiver_core.specs.SentReports.{last_counter, statuses_of, frames_past}

-- the channel has this setup and this layout, which fit, reads these serial messages, and stands for these edges: its reader does, its watch has the counter of the last frame since the last break, and its serial reader stands for the statuses since then
pub record StandsForStretch (setup : Settings) (layout : Layout) (serial : Serial) (channel : SentChannel) (stretch : List NumberedEdge) : Type 0 where
  pub fits : nibbles_fit layout setup.nibbles ≡ true
  pub same_layout : channel.layout ≡ layout
  pub reads : StandsFor setup channel.reader stretch
  pub watches : channel.watch ≡ last_counter layout (frames_past [] (sent_reading setup stretch))
  pub has_read : SerialStandsFor serial channel.serial (statuses_of (frames_past [] (sent_reading setup stretch)))
