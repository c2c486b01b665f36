-- The frames of messages as they are sent, with one message more.
--     frames-push                  with a frame more, that frame with its serial bits is the last
--     frames-same                  with a serial message more they are the same
use Rattle.std.proofs.Common.{◌≡◌, ℕ, suc, ◌+◌, List, [], ◌∷◌, ◌++◌, None, length, map, flat_map, refl, ap, ap₂, ◌∙◌, append-nil, arith}
use Rattle.std.proofs.lemmas.List.{map-append}
use Rattle.std.proofs.lemmas.Grind.{flat_map-append}
use Rattle.sent_frame.specs.declared.frame.SentFrame.{SentFrame}
use Rattle.sent_serial.specs.declared.step.SerialStep.{SerialStep}
use Rattle.sent_serial.specs.declared.step.SerialStep.TheVariants as step
use Rattle.sent_serial.specs.SentStatuses.{statuses_sent}
use Rattle.sent_serial.specs.Sendings.{SentStatus, ended_by, sent_from, sent_statuses}
use Rattle.sent_serial.specs.Sendings as serials
use Rattle.sent_serial.specs.Sendings.Sending.{Frame as FrameSending, Message as MessageSending}
use Rattle.receiver_core.specs.declared.message.Message.{Message}
use Rattle.receiver_core.specs.declared.message.Message.TheVariants as message
use Rattle.receiver_core.specs.SentTraces.{SentTurn, frame_in, sending_in, sent_turns, turns_of}
use Rattle.sent_sim.specs.SentSims.{completed}
use Rattle.sent_sim.proofs.SerialSendings.{left_behind, message_behind, sent-append}

-- the frames of turns
abbrev pub frames_in : List SentTurn → List SentFrame
frames_in turns = map (λ (turn : SentTurn). turn.frame) turns

-- what messages send in the status nibbles
abbrev pub sendings_of : List Message → List serials.Sending
sendings_of messages = flat_map sending_in messages

-- as many statuses are sent as frames
as-many-sent : (on_its_way : SerialStep) (left : List ℕ) (messages : List Message) → length (flat_map frame_in messages) ≡ length (sent_from on_its_way left (sendings_of messages))
unfolding sent_from
as-many-sent m left [] = refl
as-many-sent m [] (message.Frame frame ∷ messages) = ap suc (as-many-sent m [] messages)
as-many-sent m (bits ∷ left) (message.Frame frame ∷ messages) = ap suc (as-many-sent m left messages)
as-many-sent m [] (message.Short id value ∷ messages) = as-many-sent (step.Short id value) (statuses_sent (step.Short id value)) messages
as-many-sent m (bits ∷ left) (message.Short id value ∷ messages) = as-many-sent (step.Short id value) (statuses_sent (step.Short id value)) messages
as-many-sent m [] (message.Enhanced id value wide ∷ messages) = as-many-sent (step.Enhanced id value wide) (statuses_sent (step.Enhanced id value wide)) messages
as-many-sent m (bits ∷ left) (message.Enhanced id value wide ∷ messages) = as-many-sent (step.Enhanced id value wide) (statuses_sent (step.Enhanced id value wide)) messages
as-many-sent m left (message.Answer code frame ∷ messages) = as-many-sent m left messages
as-many-sent m left (message.Silent code ∷ messages) = as-many-sent m left messages
as-many-sent m left (message.Sync ∷ messages) = as-many-sent m left messages
as-many-sent m left (message.Burst slot payload ∷ messages) = as-many-sent m left messages
as-many-sent m left (message.Down down ∷ messages) = as-many-sent m left messages

-- one turn more
turns-push : (frames : List SentFrame) (statuses : List SentStatus) (frame : SentFrame) (status : SentStatus) → length frames ≡ length statuses
    → turns_of (frames ++ frame ∷ []) (statuses ++ status ∷ []) ≡ turns_of frames statuses ++ record { frame = record { status = status.status; nibbles = frame.nibbles }; ends = status.ends } ∷ []
turns-push [] [] frame status same = refl
turns-push [] (other ∷ statuses) frame status same = absurd (omega arith)
turns-push (first ∷ frames) [] frame status same = absurd (omega arith)
turns-push (first ∷ frames) (other ∷ statuses) frame status same =
    ap (λ l. record { frame = record { status = other.status; nibbles = first.nibbles }; ends = other.ends } ∷ l) (turns-push frames statuses frame status (omega arith))

-- the status of the next frame is that of the frame with its serial bits
pub record IsNextStatus (on_its_way : SerialStep) (left : List ℕ) (frame : SentFrame) : Type 0 where
  pub status : SentStatus
  pub is_sent : sent_from on_its_way left (FrameSending frame.status ∷ []) ≡ status ∷ []
  pub completes : record { status = status.status; nibbles = frame.nibbles } ≡ completed left frame

next-status : (on_its_way : SerialStep) (left : List ℕ) (frame : SentFrame) → IsNextStatus on_its_way left frame
unfolding sent_from
next-status m [] frame = record { status = record { status = frame.status; ends = None }; is_sent = refl; completes = refl }
next-status m (bits ∷ left) frame = record { status = record { status = bits + frame.status; ends = ended_by m left }; is_sent = refl; completes = refl }

pub frames-push : (messages : List Message) (frame : SentFrame)
    → frames_in (sent_turns (messages ++ message.Frame frame ∷ [])) ≡ frames_in (sent_turns messages) ++ completed (left_behind [] (sendings_of messages)) frame ∷ []
frames-push messages frame =
    let sendings = sendings_of messages in
    let next = next-status (message_behind step.Nothing sendings) (left_behind [] sendings) frame in
    let frames : flat_map frame_in (messages ++ message.Frame frame ∷ []) ≡ flat_map frame_in messages ++ frame ∷ [] = flat_map-append frame_in messages (message.Frame frame ∷ []) in
    let statuses : sent_statuses (sendings_of (messages ++ message.Frame frame ∷ [])) ≡ sent_statuses sendings ++ next.status ∷ [] =
    ap sent_statuses (flat_map-append sending_in messages (message.Frame frame ∷ [])) ∙ sent-append step.Nothing [] sendings (FrameSending frame.status ∷ []) ∙ ap (λ l. sent_statuses sendings ++ l) next.is_sent in
    ap₂ (λ fs ss. frames_in (turns_of fs ss)) frames statuses
    ∙ ap frames_in (turns-push (flat_map frame_in messages) (sent_statuses sendings) frame next.status (as-many-sent step.Nothing [] messages))
    ∙ map-append (λ (turn : SentTurn). turn.frame) (sent_turns messages) (record { frame = record { status = next.status.status; nibbles = frame.nibbles }; ends = next.status.ends } ∷ [])
    ∙ ap (λ f. frames_in (sent_turns messages) ++ f ∷ []) next.completes

-- a message alone is sent with no frame
next-none : (on_its_way : SerialStep) (left : List ℕ) (serial : SerialStep) → sent_from on_its_way left (MessageSending serial ∷ []) ≡ []
unfolding sent_from
next-none m [] serial = refl
next-none m (bits ∷ left) serial = refl

-- a message sends no frame, and this in the status nibbles
pub frames-same : (messages : List Message) (m : Message) (serial : SerialStep) → frame_in m ≡ [] → sending_in m ≡ MessageSending serial ∷ [] → frames_in (sent_turns (messages ++ m ∷ [])) ≡ frames_in (sent_turns messages)
unfolding sent_from
frames-same messages m serial no_frame sends =
    let sendings = sendings_of messages in
    let frames : flat_map frame_in (messages ++ m ∷ []) ≡ flat_map frame_in messages =
    flat_map-append frame_in messages (m ∷ []) ∙ ap (λ l. flat_map frame_in messages ++ (l ++ [])) no_frame ∙ append-nil (flat_map frame_in messages) in
    let more : sendings_of (messages ++ m ∷ []) ≡ sendings ++ MessageSending serial ∷ [] = flat_map-append sending_in messages (m ∷ []) ∙ ap (λ l. sendings ++ (l ++ [])) sends in
    let none : sent_from (message_behind step.Nothing sendings) (left_behind [] sendings) (MessageSending serial ∷ []) ≡ [] = next-none (message_behind step.Nothing sendings) (left_behind [] sendings) serial in
    let statuses : sent_statuses (sendings_of (messages ++ m ∷ [])) ≡ sent_statuses sendings =
    ap sent_statuses more ∙ sent-append step.Nothing [] sendings (MessageSending serial ∷ []) ∙ ap (λ l. sent_statuses sendings ++ l) none ∙ append-nil (sent_statuses sendings) in
    ap₂ (λ fs ss. frames_in (turns_of fs ss)) frames statuses
