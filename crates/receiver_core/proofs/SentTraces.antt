-- What a SENT channel reports of an honest trace is exactly its messages, from the first whole frame on.
--     sent-traces      from what is read of the frames and of their statuses
--     sent-trace      the law
use Rattle.std.proofs.Common.{◌≡◌, ℕ, zero, suc, ◌+◌, List, [], ◌∷◌, ◌++◌, Option, None, Some, length, map, take, drop, flat_map, refl, sym, ap, ap₂, subst, ◌∙◌, append_assoc, arith}
use Rattle.std.specs.List.{All, last_or}
use Rattle.std.proofs.Math.Seq.{drop-append_seam}
use Rattle.std.proofs.lemmas.List.{drop-map, length-append, length-map, map-append, take_at}
use Rattle.std.proofs.lemmas.List.Elements.{All-head, All-tail}
use Rattle.line_base.specs.Edges.{NumberedEdge}
use Rattle.sent_frame.specs.declared.frame.SentFrame.{SentFrame}
use Rattle.sent_frame.specs.Setup.{Settings}
use Rattle.sent_frame.specs.Reading.{sent_reading}
use Rattle.sent_fast.specs.declared.layout.Layout.{Layout}
use Rattle.sent_fast.specs.Layouts.{fast_of}
use Rattle.sent_serial.specs.declared.step.SerialStep.{SerialStep}
use Rattle.sent_serial.specs.declared.step.SerialStep.TheVariants as step
use Rattle.sent_serial.specs.SentStatuses.{statuses_sent}
use Rattle.sent_serial.specs.Enhanced.{enhanced_reading}
use Rattle.sent_serial.specs.Short.{short_reading}
use Rattle.sent_serial.specs.Sendings.{IsEnhanced, IsShort, Sending, SentStatus, ended_by, sent_from, sent_statuses, statuses_in, told_at, messages_told}
use Rattle.sent_serial.specs.Sendings.Sending.{Frame as FrameSending, Message as MessageSending}
use Rattle.sent_serial.proofs.MessagesTold.{told-append}
use Rattle.sent_serial.proofs.SentEnhanced.{enhanced-is_reading}
use Rattle.sent_serial.proofs.SentParts.{part_reads}
use Rattle.sent_serial.proofs.SentShort.{short-is_reading}
use Rattle.sent_tolerance.specs.FromFirst.{Heard, heard_of, good_step}
use Rattle.sent_tolerance.proofs.HeardTrains.{read_honest}
use Rattle.sent_tolerance.proofs.Hearing.{heard_as, heard-map, heard-rest}
use Rattle.receiver_core.specs.declared.message.Message.{Message}
use Rattle.receiver_core.specs.declared.message.Message.TheVariants as message
use Rattle.receiver_core.specs.declared.report.What.TheVariants as what
use Rattle.receiver_core.specs.declared.setup.Serial.{Serial}
use Rattle.receiver_core.specs.declared.setup.Serial.TheVariants as serial
use Rattle.receiver_core.specs.Serials.{serial_reading, serial_steps}
use Rattle.receiver_core.specs.SentReports.{last_counter, report, sent_reports, serial_report, statuses_of, value_reports}
use Rattle.receiver_core.specs.SentTraces.{FitSerial, IsFrame, IsSentTrace, SentTurn, frame_in, heard_reports, sending_in, sent_from_first, sent_turns, turns_of}

-- ---- frames as they are sent
-- the status of a frame as it is sent, and the message that ends with it
abbrev status_sent : SentTurn → SentStatus
status_sent turn = record { status = turn.frame.status; ends = turn.ends }

-- the frames of messages have the statuses that are sent
turns-statuses : (on_its_way : SerialStep) (left : List ℕ) (messages : List Message)
    → map status_sent (turns_of (flat_map frame_in messages) (sent_from on_its_way left (flat_map sending_in messages))) ≡ sent_from on_its_way left (flat_map sending_in messages)
unfolding sent_from
turns-statuses m left [] = refl
turns-statuses m [] (message.Frame frame ∷ messages) = ap (λ l. record { status = frame.status; ends = None } ∷ l) (turns-statuses m [] messages)
turns-statuses m (bits ∷ left) (message.Frame frame ∷ messages) = ap (λ l. record { status = bits + frame.status; ends = ended_by m left } ∷ l) (turns-statuses m left messages)
turns-statuses m [] (message.Short id value ∷ messages) = turns-statuses (step.Short id value) (statuses_sent (step.Short id value)) messages
turns-statuses m (bits ∷ left) (message.Short id value ∷ messages) = turns-statuses (step.Short id value) (statuses_sent (step.Short id value)) messages
turns-statuses m [] (message.Enhanced id value wide ∷ messages) = turns-statuses (step.Enhanced id value wide) (statuses_sent (step.Enhanced id value wide)) messages
turns-statuses m (bits ∷ left) (message.Enhanced id value wide ∷ messages) = turns-statuses (step.Enhanced id value wide) (statuses_sent (step.Enhanced id value wide)) messages
turns-statuses m left (message.Answer code frame ∷ messages) = turns-statuses m left messages
turns-statuses m left (message.Silent code ∷ messages) = turns-statuses m left messages
turns-statuses m left (message.Sync ∷ messages) = turns-statuses m left messages
turns-statuses m left (message.Burst slot payload ∷ messages) = turns-statuses m left messages
turns-statuses m left (message.Down down ∷ messages) = turns-statuses m left messages

-- ---- what is read of the statuses
-- of each front of these frames the serial messages that are read are those told
abbrev ReadsFronts : Serial → List SentTurn → Type 0
ReadsFronts form turns = (count : ℕ) → serial_reading form (statuses_in (take count (map status_sent turns))) ≡ messages_told 0 (take count (map status_sent turns))

statuses-are : (turns : List SentTurn) → statuses_in (map status_sent turns) ≡ statuses_of (map (λ (turn : SentTurn). turn.frame) turns)
statuses-are [] = refl
statuses-are (turn ∷ turns) = ap (λ l. turn.frame.status ∷ l) (statuses-are turns)

-- of a front of them
front-read : (form : Serial) (front rest : List SentTurn) → ReadsFronts form (front ++ rest) → serial_reading form (statuses_of (map (λ (turn : SentTurn). turn.frame) front)) ≡ messages_told 0 (map status_sent front)
front-read form front rest reads =
    let parts : map status_sent (front ++ rest) ≡ map status_sent front ++ map status_sent rest = map-append status_sent front rest in
    let first : take (length front) (map status_sent (front ++ rest)) ≡ map status_sent front =
    ap (take (length front)) parts ∙ take_at (map status_sent front) (map status_sent rest) (length front) (length-map front status_sent) in
    ap (serial_reading form) (sym (statuses-are front) ∙ ap statuses_in (sym first))
    ∙ reads (length front)
    ∙ ap (messages_told 0) first

-- one status more tells the message that ends with it
next-step : (form : Serial) (front : List SentTurn) (turn : SentTurn) (rest : List SentTurn) → ReadsFronts form (front ++ turn ∷ rest)
    → serial_steps form (statuses_of (map (λ (turn : SentTurn). turn.frame) front)) turn.frame.status ≡ told_at (length front) turn.ends
unfolding serial_steps
next-step form front turn rest reads =
    let frames = map (λ (turn : SentTurn). turn.frame) in
    let before = front-read form front (turn ∷ rest) reads in
    let longer : front ++ turn ∷ rest ≡ (front ++ turn ∷ []) ++ rest = sym (append_assoc front (turn ∷ []) rest) in
    let after = front-read form (front ++ turn ∷ []) rest (subst (λ turns. ReadsFronts form turns) longer reads) in
    let statuses : statuses_of (frames front) ++ turn.frame.status ∷ [] ≡ statuses_of (frames (front ++ turn ∷ [])) =
    sym (ap (map (λ (frame : SentFrame). frame.status)) (map-append (λ (turn : SentTurn). turn.frame) front (turn ∷ [])) ∙ map-append (λ (frame : SentFrame). frame.status) (frames front) (turn.frame ∷ [])) in
    let none : 0 + length (map status_sent front) ≡ length front = omega (arith, length-map front status_sent) in
    let now : serial_reading form (statuses_of (frames front) ++ turn.frame.status ∷ []) ≡ messages_told 0 (map status_sent front) ++ told_at (length front) turn.ends =
    ap (serial_reading form) statuses ∙ after ∙ ap (messages_told 0) (map-append status_sent front (turn ∷ []))
    ∙ told-append 0 (map status_sent front) (status_sent turn) ∙ ap (λ n. messages_told 0 (map status_sent front) ++ told_at n turn.ends) none in
    ap₂ drop (ap length before) now ∙ drop-append_seam (messages_told 0 (map status_sent front)) (told_at (length front) turn.ends)

-- ---- the reports
-- the last of a list that has grown
last-more : {A : Type 0} (o : Option A) (xs : List A) (x : A) → last_or o (xs ++ x ∷ []) ≡ Some x
last-more o [] x = refl
last-more o (y ∷ xs) x = last-more (Some y) xs x

-- behind these frames that were heard, the others give what they have to
heard-report : (layout : Layout) (form : Serial) (front : List SentTurn) (hs : List (Heard SentTurn)) → ReadsFronts form (front ++ map (λ (heard : Heard SentTurn). heard.sent) hs)
    → sent_reports layout form (map (λ (turn : SentTurn). turn.frame) front) (map good_step (map (heard_as (λ (turn : SentTurn). turn.frame)) hs))
    ≡ heard_reports layout (last_or None (map (λ (turn : SentTurn). turn.frame) front)) (length front) hs
unfolding sent_reports heard_reports
heard-report layout form front [] reads = refl
heard-report layout form front (h ∷ hs) reads =
    let frame = λ (turn : SentTurn). turn.frame in
    let rest = map (λ (heard : Heard SentTurn). heard.sent) hs in
    let longer : front ++ h.sent ∷ rest ≡ (front ++ h.sent ∷ []) ++ rest = sym (append_assoc front (h.sent ∷ []) rest) in
    let frames : map frame front ++ h.sent.frame ∷ [] ≡ map frame (front ++ h.sent ∷ []) = sym (map-append frame front (h.sent ∷ [])) in
    let last : last_or None (map frame (front ++ h.sent ∷ [])) ≡ Some h.sent.frame = ap (last_or None) (sym frames) ∙ last-more None (map frame front) h.sent.frame in
    let one_more : length (front ++ h.sent ∷ []) ≡ suc (length front) = omega (arith, length-append front (h.sent ∷ [])) in
    let steps = next-step form front h.sent rest reads in
    let value = value_reports h.place (last_counter layout (map frame front)) (fast_of layout h.sent.frame.nibbles) in
    ap₂ (λ a b. (report h.place (what.Frame h.sent.frame) ∷ (value ++ flat_map (serial_report h.place) a)) ++ b) steps
    (ap (λ fs. sent_reports layout form fs (map good_step (map (heard_as frame) hs))) frames
    ∙ heard-report layout form (front ++ h.sent ∷ []) hs (subst (λ turns. ReadsFronts form turns) longer reads)
    ∙ ap₂ (λ before count. heard_reports layout before count hs) last one_more)

-- the reports of what is read of frames of messages that are heard
pub sent-traces : (s : Settings) (layout : Layout) (form : Serial) (messages : List Message) (edges : List NumberedEdge)
    → sent_reading s edges ≡ map good_step (heard_of s (map (λ (turn : SentTurn). turn.frame) (sent_turns messages)) edges)
    → ((from count : ℕ) → serial_reading form (statuses_in (take count (drop from (sent_statuses (flat_map sending_in messages))))) ≡ messages_told 0 (take count (drop from (sent_statuses (flat_map sending_in messages)))))
    → sent_reports layout form [] (sent_reading s edges) ≡ heard_reports layout None 0 (heard_of s (sent_turns messages) edges)
sent-traces s layout form messages edges reads told =
    let turns = sent_turns messages in
    let heard = heard_of s turns edges in
    let rest = heard-rest s turns edges in
    let statuses : map status_sent (map (λ (h : Heard SentTurn). h.sent) heard) ≡ drop rest.0 (sent_statuses (flat_map sending_in messages)) =
    ap (map status_sent) rest.1 ∙ sym (drop-map status_sent rest.0 turns) ∙ ap (drop rest.0) (turns-statuses step.Nothing [] messages) in
    ap (sent_reports layout form []) (reads ∙ ap (map good_step) (heard-map (λ (turn : SentTurn). turn.frame) s turns edges))
    ∙ heard-report layout form [] heard (λ count. subst (λ sents. serial_reading form (statuses_in (take count sents)) ≡ messages_told 0 (take count sents)) (sym statuses) (told rest.0 count))

-- ---- the statuses of each form of serial messages
none-of : (count before : ℕ) → messages_told before (take count []) ≡ []
unfolding messages_told
none-of zero before = refl
none-of (suc count) before = refl

-- frames alone end no message
frames-none : (before count from : ℕ) (sendings : List Sending) → All IsFrame sendings → messages_told before (take count (drop from (sent_statuses sendings))) ≡ []
unfolding messages_told sent_from
frames-none before count zero [] frames = none-of count before
frames-none before count (suc from) [] frames = none-of count before
frames-none before zero zero (FrameSending own ∷ sendings) frames = refl
frames-none before (suc count) zero (FrameSending own ∷ sendings) frames = frames-none (suc before) count zero sendings (All-tail IsFrame (FrameSending own) sendings frames)
frames-none before count (suc from) (FrameSending own ∷ sendings) frames = frames-none before count from sendings (All-tail IsFrame (FrameSending own) sendings frames)
frames-none before count from (MessageSending message ∷ sendings) frames = absurd (All-head IsFrame (MessageSending message) sendings frames)

-- what is read of the statuses of messages of a form
statuses-read : (form : Serial) (sendings : List Sending) → FitSerial form sendings → (from count : ℕ)
    → serial_reading form (statuses_in (take count (drop from (sent_statuses sendings)))) ≡ messages_told 0 (take count (drop from (sent_statuses sendings)))
statuses-read serial.Absent sendings fits from count = sym (frames-none 0 count from sendings fits)
statuses-read serial.Short sendings fits from count = part_reads IsShort short_reading short-is_reading sendings from count fits
statuses-read serial.Enhanced sendings fits from count = part_reads IsEnhanced enhanced_reading enhanced-is_reading sendings from count fits

pub sent-trace : (s : Settings) (layout : Layout) (form : Serial) (messages : List Message) (edges : List NumberedEdge) → IsSentTrace s form messages edges
    → sent_reports layout form [] (sent_reading s edges) ≡ sent_from_first s layout messages edges
sent-trace s layout form messages edges trace =
    sent-traces s layout form messages edges (read_honest s (map (λ (turn : SentTurn). turn.frame) (sent_turns messages)) edges trace.honest)
    (statuses-read form (flat_map sending_in messages) trace.serial_fits)
