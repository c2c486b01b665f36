-- Messages that fit have an honest trace.
--     sent-honest, spc-honest, psi5-honest, tooth-honest      of each kind
use Rattle.std.proofs.Common.{◌≡◌, ℕ, ◌+◌, ◌≤◌, None, Some, Option, List, ◌∷◌, map, flat_map, sym, subst}
use Rattle.sent_frame.specs.Setup as sent
use Rattle.sent_fast.specs.declared.layout.Layout.{Layout}
use Rattle.sent_tolerance.specs.Nominal as frames_of_sent
use Rattle.sent_tolerance.specs.Traces as traces_of_sent
use Rattle.std.proofs.lemmas.List.Elements.{All-nil}
use Rattle.sent_tolerance.proofs.NominalFrames.{are_honest as frames_honest, not_jittered}
use Rattle.spc_link.specs.Setup as spc
use Rattle.spc_tolerance.specs.Nominal as transactions
use Rattle.spc_tolerance.specs.Traces as traces_of_spc
use Rattle.spc_tolerance.proofs.NominalTrains.{nominal_honest}
use Rattle.psi5_frame.specs.Setup as frames
use Rattle.psi5_tolerance.specs.Exact.{AreTwoLines, exact_trace}
use Rattle.psi5_tolerance.specs.Traces as traces_of_psi5
use Rattle.psi5_tolerance.specs.Trains.{IsTrain, Sending}
use Rattle.psi5_tolerance.proofs.ExactTraces.{trains-honest}
use Rattle.psi5_downlink.specs.Setup as tooth
use Rattle.psi5_downlink_tolerance.specs.Nominal.{nominal_sending, times_behind}
use Rattle.psi5_downlink_tolerance.specs.Trains.{train_periods}
use Rattle.psi5_downlink_tolerance.specs.Traces as traces_of_tooth
use Rattle.psi5_downlink_tolerance.proofs.NominalTrains.{are_honest}
use Rattle.receiver_core.specs.declared.message.Message.{Message}
use Rattle.receiver_core.specs.declared.setup.Serial.{Serial}
use Rattle.receiver_core.specs.declared.setup.SyncSlots.{SyncSlots}
use Rattle.receiver_core.specs.declared.setup.ChannelSetup.TheVariants.{Sent, Psi5, Spc, Tooth}
use Rattle.receiver_core.specs.SentTraces.{SentTurn, sent_turns}
use Rattle.receiver_core.specs.SpcTraces.{spc_message_in}
use Rattle.receiver_core.specs.Psi5Traces.{psi5_message_in, windows_of}
use Rattle.receiver_core.specs.ToothTraces.{down_in}
use Rattle.receiver_core.specs.Traces.{IsHonest, numbered}
use Rattle.receiver_core.specs.Nominal.{FitsSent, FitsSpc, FitsTooth, HasPause, SaysPsi5, psi5_edges, sent_edges, spc_edges, tooth_edges, without_numbers}
use Rattle.receiver_core.proofs.UnnumberedEdges.{next-number, psi5-numbers, sent-from, spc-from, tooth-rises}

pub sent-honest : (line start pause : ℕ) (s : sent.Settings) (layout : Layout) (form : Serial) (messages : List Message) → FitsSent s form messages → HasPause s pause → IsHonest (Sent line s layout form) messages (sent_edges s start pause messages)
sent-honest line start pause s layout form messages fits has =
    let sending = map (λ (turn : SentTurn). turn.frame) (sent_turns messages) in
    let edges = frames_of_sent.nominal_edges s start pause sending in
    let falls = frames_of_sent.nominal_falls s start pause sending in
    let numbers : numbered 0 (without_numbers edges) ≡ edges = next-number 0 _ _ (sent-from s.tick 1 (frames_of_sent.nominal_falls s start pause sending)) in
    record {
      all_sent = fits.all_sent;
      serial_fits = fits.serial_fits;
      honest = subst (λ es. traces_of_sent.IsHonest s sending es) (sym numbers) (frames_honest s start pause 0 0 sending falls fits.accepted fits.frames_fit has (All-nil (λ fall. fall ≤ 0 + s.jitter)) (not_jittered s.jitter falls));
    }

pub spc-honest : (line start : ℕ) (s : spc.Settings) (messages : List Message) → FitsSpc s messages → IsHonest (Spc line s) messages (spc_edges s start messages)
spc-honest line start s messages fits =
    let sending = flat_map spc_message_in messages in
    let edges = transactions.nominal_edges s start sending in
    let numbers : numbered 0 (without_numbers edges) ≡ edges = next-number 0 _ _ (spc-from s.sent.tick 1 0 _) in
    record {
      all_sent = fits.all_sent;
      honest = subst (λ es. traces_of_spc.IsHonest s sending es) (sym numbers) (nominal_honest s start sending fits.accepted fits.accepted_frame fits.fit);
    }

pub psi5-honest : (line : ℕ) (s : frames.Settings) (slots : Option SyncSlots) (init : Option ℕ) (sent : List Sending) (messages : List Message) → frames.fault_of s.bit s.parts s.jitter ≡ None
    → traces_of_psi5.AreSlots s (windows_of slots) → AreTwoLines line (windows_of slots) → IsTrain s (windows_of slots) sent → SaysPsi5 sent messages
    → IsHonest (Psi5 line s slots init) messages (psi5_edges line s slots sent)
psi5-honest line s slots init sent messages accepted fit two train says =
    let edges = exact_trace line s (windows_of slots) sent in
    let honest = trains-honest line s (windows_of slots) sent accepted fit two train in
    record {
      all_sent = says.all_sent;
      honest = subst (λ es. traces_of_psi5.IsHonest s (windows_of slots) (flat_map psi5_message_in messages) es) (sym (psi5-numbers line s (windows_of slots) sent))
          (subst (λ ms. traces_of_psi5.IsHonest s (windows_of slots) ms edges) says.says honest);
    }

pub tooth-honest : (line start idle : ℕ) (s : tooth.Settings) (messages : List Message) → FitsTooth s messages → 1 ≤ idle → IsHonest (Tooth line s) messages (tooth_edges s start idle messages)
unfolding numbered
tooth-honest line start idle s messages fits some =
    let downs = flat_map down_in messages in
    let times = start ∷ times_behind s.period start (train_periods s.form (map (nominal_sending idle) downs) idle) in
    record {
      all_sent = fits.all_sent;
      honest = subst (λ rises. traces_of_tooth.IsHonest s downs (Some 0) rises) (sym (tooth-rises 1 times)) (are_honest s (Some 0) start idle downs fits.accepted fits.fit some);
    }
