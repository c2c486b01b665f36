-- The rows of a whole input are those of honest edges.
use Rattle.std.proofs.Common.{◌≡◌, ℕ, Option, Some, None, List, IfSome, map, refl, subst}
use Rattle.std.specs.Io.KnownBytes.{Appends}
use Rattle.line_base.specs.Orderly.{IsOrderly}
use Rattle.line_base.specs.declared.edge.Item.TheVariants as Item
use Rattle.line_base.specs.declared.reason.Reason.{Reason}
use Rattle.line_base.specs.declared.reason.Reason.TheVariants as reason
use Rattle.receiver_core.specs.declared.message.Message.{Message}
use Rattle.receiver_core.specs.declared.setup.ChannelSetup.{ChannelSetup}
use Rattle.receiver_core.specs.Traces.{IsHonest}
use Rattle.message_lines.specs.Inputs.{whole_told_of}
use Rattle.sensor_sim.specs.Sims.{started_by, lines_of}
use Rattle.sensor_sim.specs.Played.{wobble_of, played, accepted, refusal}
use Rattle.command_base.specs.Ended.{Ended}
use Rattle.simulate_command.specs.Rows.{rows_of}
use Rattle.simulate_command.specs.Simulations.{whole_messages_of, whole_edges_of, whole_fault_of, simulation, WroteHonest}
use Rattle.simulate_command.proofs.Playing.{no-refusal}

-- what is played of messages is honest, and orderly
pub record IsPlayedWell (setup : ChannelSetup) (seed : ℕ) : Type 0 where
  pub all : (messages : List Message) → refusal setup seed messages ≡ None → accepted setup seed messages ≡ messages
  pub honest : (messages : List Message) → IsHonest setup (accepted setup seed messages) (played setup seed messages)
  pub orderly : (messages : List Message) → IsOrderly (lines_of setup) (map Item.Edge (played setup seed messages))

edges_are : (setup : ChannelSetup) (seed : ℕ) (bytes : List ℕ) → whole_edges_of setup seed bytes ≡ played setup seed (whole_messages_of setup bytes)
unfolding whole_edges_of
edges_are setup seed bytes = refl

none_refused : (setup : ChannelSetup) (seed : ℕ) (bytes : List ℕ) → whole_fault_of setup seed bytes ≡ None → refusal setup seed (whole_messages_of setup bytes) ≡ None
unfolding whole_fault_of whole_messages_of
none_refused setup seed bytes none = no-refusal 0 (started_by setup) (wobble_of seed) (whole_told_of setup bytes) none

wrote_honest : (setup : ChannelSetup) (seed : ℕ) (bytes : List ℕ) (got got' : Option (List ℕ)) → IsPlayedWell setup seed → whole_fault_of setup seed bytes ≡ None → Appends got got' (rows_of (whole_edges_of setup seed bytes)) → WroteHonest setup bytes got got'
wrote_honest setup seed bytes got got' well none written =
    let messages = whole_messages_of setup bytes in
    record {
      edges = played setup seed messages;
      written = rw (edges_are setup seed bytes) at written;
      honest = subst (λ (ms : List Message). IsHonest setup ms (played setup seed messages)) (well.all messages (none_refused setup seed bytes none)) (well.honest messages);
      orderly = well.orderly messages;
    }

clean_honest : (setup : ChannelSetup) (seed : ℕ) (bytes : List ℕ) (left' got got' : Option (List ℕ)) → IsPlayedWell setup seed → Ended (simulation setup seed) reason.Clean bytes left' got got' → WroteHonest setup bytes got got'
unfolding Ended
clean_honest setup seed bytes left' got got' well ended = wrote_honest setup seed bytes got got' well ended.1 ended.3

pub honest-clean : (setup : ChannelSetup) (seed : ℕ) (why : Reason) (left left' got got' : Option (List ℕ)) → IsPlayedWell setup seed → IfSome left (λ bytes. Ended (simulation setup seed) why bytes left' got got') → why ≡ reason.Clean
    → IfSome left (λ bytes. WroteHonest setup bytes got got')
honest-clean setup seed why None left' got got' well ended clean = tt
honest-clean setup seed why (Some bytes) left' got got' well ended clean =
    clean_honest setup seed bytes left' got got' well (subst (λ (r : Reason). Ended (simulation setup seed) r bytes left' got got') clean ended)
