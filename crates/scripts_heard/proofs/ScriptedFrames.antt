-- The frames of a script for SENT.
--     FollowOn            frames that break no rule of their layout, and whose counters follow
--     nibbles-follow      the nibbles of a frame do
--     leads-next          so does each next message
--     frames-follow       so the frames of a script do
use Rattle.std.proofs.Common.{◌≡◌, ℕ, zero, suc, ◌+◌, ◌-◌, ◌*◌, ◌/◌, ◌%◌, Bool, true, false, Option, None, Some, Result, Ok, Err, List, [], ◌∷◌, refl, ap, sym, subst, if◌then◌else◌, eq-eqb, arith}
use Rattle.std.specs.Prelude.{nat_eq}
use Rattle.rand_pcg.specs.Lcg.{Lcg}
use Rattle.line_base.specs.declared.rule.Rule.{Rule}
use Rattle.line_base.specs.declared.rule.Rule.TheVariants.{Copy}
use Rattle.sent_frame.specs.Setup.{Settings}
use Rattle.sent_fast.specs.Layouts.{fast_of}
use Rattle.sent_fast.specs.declared.layout.Fast.{Fast}
use Rattle.sent_fast.specs.declared.layout.Fast.TheVariants as fast
use Rattle.sent_fast.specs.declared.layout.Layout.{Layout}
use Rattle.sent_fast.specs.declared.layout.Layout.TheVariants as layout
use Rattle.receiver_core.specs.declared.message.Message.{Message}
use Rattle.receiver_core.specs.declared.message.Message.TheVariants as message
use Rattle.receiver_core.specs.declared.report.What.TheVariants as what
use Rattle.receiver_core.specs.declared.setup.ChannelSetup.{ChannelSetup}
use Rattle.receiver_core.specs.declared.setup.ChannelSetup.TheVariants.{Sent as SentSetup}
use Rattle.receiver_core.specs.declared.setup.Serial.{Serial}
use Rattle.receiver_core.specs.declared.setup.Serial.TheVariants as serial
use Rattle.receiver_core.specs.SentReports.{counter_in, counter_reports, report, value_reports}
use Rattle.sim_base.specs.Wobbles.{behind_word, word, words}
use Rattle.sensor_script.specs.Draws.{value}
use Rattle.sensor_script.specs.Scripts.{ScriptState, Scripted, enhanced_next, frame_next, frame_nibbles, script_next, sent_next, short_next}
use Rattle.scripts_heard.specs.AllGood.{AllGood}
use Rattle.sensor_script.specs.Counted.{script_messages}
use Rattle.scripts_heard.proofs.AddedReports.{added-good, none-good, one-beside}
use Rattle.scripts_heard.proofs.ScriptedMessages.{script-by}

-- ---- what follows
-- a counter comes next, behind a frame that says this one, if it says one
abbrev pub Follows : Option ℕ → ℕ → Type 0
Follows None counter = Unit {0}
Follows (Some before) counter = counter ≡ (before + 1) % 256

-- what a frame says breaks no rule behind this counter, wherever it is read
abbrev pub BreaksNone : Option ℕ → Result Fast Rule → Type 0
BreaksNone before said = (place : ℕ) → AllGood (value_reports place before said) 0

-- these are frames and serial messages; no frame breaks a rule of the layout, and each counter follows the one before, the first of all this one
abbrev pub FollowOn : Layout → Option ℕ → List Message → Type 0
FollowOn form before [] = Unit {0}
FollowOn form before (message.Frame frame ∷ messages) = BreaksNone before (fast_of form frame.nibbles) × FollowOn form (counter_in (fast_of form frame.nibbles)) messages
FollowOn form before (message.Short id value ∷ messages) = FollowOn form before messages
FollowOn form before (message.Enhanced id value wide ∷ messages) = FollowOn form before messages
FollowOn form before (other ∷ messages) = ⊥

-- ---- nibbles
-- what a frame says follows the counter before, and the next counter follows it
abbrev SaysNext : Option ℕ → ℕ → Result Fast Rule → Type 0
SaysNext before counter said = BreaksNone before said × Follows (counter_in said) ((counter + 1) % 256)

-- a value alone breaks no rule
value-beside : (before : Option ℕ) (place : ℕ) (said : Fast) → AllGood (report place (what.Fast said) ∷ []) 0
value-beside before place said = one-beside (report place (what.Fast said)) refl refl

-- a counter that follows has no report
counter-follows : (before : Option ℕ) (counter place : ℕ) → Follows before counter → AllGood (counter_reports place before counter) 0
counter-follows None counter place follows = none-good
counter-follows (Some before) counter place follows =
    subst (λ b. AllGood (if b then [] else report place (what.Counter before counter) ∷ []) 0) (sym (eq-eqb counter ((before + 1) % 256) follows)) none-good

-- a value with a counter
secure-follows : (before : Option ℕ) (counter a said : ℕ) → Follows before counter → said ≡ counter → SaysNext before counter (Ok (fast.Secure a said))
secure-follows before counter a said follows is = (
  λ place. added-good (report place (what.Fast (fast.Secure a said)) ∷ []) (counter_reports place before said) 0 0 (value-beside before place (fast.Secure a said))
      (counter-follows before said place (subst (Follows before) (sym is) follows)),
  ap (λ n. (n + 1) % 256) (sym is),
)

-- three nibbles, a counter and 15 less the first nibble say the counter
secure-next : (before : Option ℕ) (counter a b c : ℕ) → Follows before counter → SaysNext before counter (fast_of layout.Secure12 (a ∷ b ∷ c ∷ counter / 16 ∷ counter % 16 ∷ (15 - a) ∷ []))
secure-next before counter a b c follows =
    let said : Result Fast Rule = Ok (fast.Secure (256 * a + 16 * b + c) (16 * (counter / 16) + counter % 16)) in
    subst (λ t. SaysNext before counter (if t then said else Err Copy)) (sym (eq-eqb (15 - a) (15 - a) refl))
    (secure-follows before counter (256 * a + 16 * b + c) (16 * (counter / 16) + counter % 16) follows (omega arith))

-- the nibbles of a frame say what comes next
nibbles-follow : (form : Layout) (count counter : ℕ) (g : Lcg) (before : Option ℕ) → Follows before counter → SaysNext before counter (fast_of form (frame_nibbles form count counter g))
unfolding frame_nibbles words
nibbles-follow layout.Raw count counter g before follows = (λ place. none-good, tt)
nibbles-follow layout.One12 count counter g before follows = (λ place. value-beside before place _, tt)
nibbles-follow layout.Two12 count counter g before follows = (λ place. value-beside before place _, tt)
nibbles-follow layout.Secure12 count counter g before follows =
    secure-next before counter (word g % 16) (word (behind_word g) % 16) (word (behind_word (behind_word g)) % 16) follows
nibbles-follow layout.Split16x8 count counter g before follows = (λ place. value-beside before place _, tt)

-- ---- messages
-- a message leads on to this script: a frame's counter follows, and a serial message leaves the counter as it is
abbrev LeadsOn : Layout → Option ℕ → Message → ScriptState → Type 0
LeadsOn form before (message.Frame frame) script = BreaksNone before (fast_of form frame.nibbles) × Follows (counter_in (fast_of form frame.nibbles)) script.counter
LeadsOn form before (message.Short id value) script = Follows before script.counter
LeadsOn form before (message.Enhanced id value wide) script = Follows before script.counter
LeadsOn form before other script = ⊥

module _ (line : ℕ) (s : Settings) (form : Layout) (kind : Serial) where
  -- the setup of the channel
  abbrev setup : ChannelSetup
  setup = SentSetup line s form kind

  -- what a script gives keeps the setup and leads on
  abbrev Leads : Option ℕ → Scripted → Type 0
  Leads before x = (x.script.setup ≡ setup) × LeadsOn form before x.message x.script

  -- a frame leads on
  leads-frame : (width : ℕ) (script : ScriptState) (before : Option ℕ) → script.setup ≡ setup → Follows before script.counter → Leads before (frame_next script s form width)
  unfolding frame_next
  leads-frame width script before is follows = (is, nibbles-follow form s.nibbles script.counter (behind_word script.wobble) before follows)

  -- a short message leads on
  leads-short : (script : ScriptState) (before : Option ℕ) → script.setup ≡ setup → Follows before script.counter → Leads before (short_next script)
  unfolding short_next
  leads-short script before is follows = (is, follows)

  -- an enhanced one leads on, whether it is wide or not
  leads-either : (before : Option ℕ) (script : ScriptState) (wide : Bool) (id value id' value' : ℕ) → Follows before script.counter → LeadsOn form before (if wide then message.Enhanced id value true else message.Enhanced id' value' false) script
  leads-either before script true id value id' value' follows = follows
  leads-either before script false id value id' value' follows = follows

  -- an enhanced message leads on
  leads-enhanced : (script : ScriptState) (before : Option ℕ) → script.setup ≡ setup → Follows before script.counter → Leads before (enhanced_next script)
  unfolding enhanced_next
  leads-enhanced script before is follows =
      let g = behind_word script.wobble in
      (is, leads-either before (enhanced_next script).script (nat_eq (value 1 script.wobble) 1) (value 4 g) (value 16 (behind_word g)) (value 8 g) (value 12 (behind_word g)) follows)

  -- a serial message or a frame leads on
  leads-by : (before : Option ℕ) (due : Bool) (message frame : Scripted) → Leads before message → Leads before frame → Leads before (if due then message else frame)
  leads-by before true message frame first second = first
  leads-by before false message frame first second = second

-- each next message leads on
leads-next : (line : ℕ) (s : Settings) (form : Layout) (kind : Serial) (script : ScriptState) (before : Option ℕ) → script.setup ≡ SentSetup line s form kind → Follows before script.counter → Leads line s form kind before (sent_next script s form kind)
unfolding sent_next
leads-next line s form serial.Absent script before is follows = leads-frame line s form serial.Absent 4 script before is follows
leads-next line s form serial.Short script before is follows =
    leads-by line s form serial.Short before (nat_eq script.left 0) (short_next script) (frame_next script s form 2) (leads-short line s form serial.Short script before is follows) (leads-frame line s form serial.Short 2 script before is follows)
leads-next line s form serial.Enhanced script before is follows =
    leads-by line s form serial.Enhanced before (nat_eq script.left 0) (enhanced_next script) (frame_next script s form 2) (leads-enhanced line s form serial.Enhanced script before is follows) (leads-frame line s form serial.Enhanced 2 script before is follows)

-- a message that leads on stands before messages that follow on
on-one : (form : Layout) (before : Option ℕ) (m : Message) (script : ScriptState) (messages : List Message) → LeadsOn form before m script → ((next : Option ℕ) → Follows next script.counter → FollowOn form next messages) → FollowOn form before (m ∷ messages)
on-one form before (message.Frame frame) script messages leads later = (leads.0, later (counter_in (fast_of form frame.nibbles)) leads.1)
on-one form before (message.Short id value) script messages leads later = later before leads
on-one form before (message.Enhanced id value wide) script messages leads later = later before leads
on-one form before (message.Answer code frame) script messages leads later = absurd leads
on-one form before (message.Silent code) script messages leads later = absurd leads
on-one form before message.Sync script messages leads later = absurd leads
on-one form before (message.Burst slot payload) script messages leads later = absurd leads
on-one form before (message.Down down) script messages leads later = absurd leads

-- the frames of a script follow on
pub frames-follow : (line : ℕ) (s : Settings) (form : Layout) (kind : Serial) (count : ℕ) (script : ScriptState) (before : Option ℕ) → script.setup ≡ SentSetup line s form kind → Follows before script.counter
    → FollowOn form before (script_messages script count)
unfolding script_messages
frames-follow line s form kind zero script before is follows = tt
frames-follow line s form kind (suc count) script before is follows =
    let next = script_next script in
    let leads : Leads line s form kind before next = subst (Leads line s form kind before) (sym (script-by script (SentSetup line s form kind) is)) (leads-next line s form kind script before is follows) in
    on-one form before next.message next.script (script_messages next.script count) leads.1 (λ counter after. frames-follow line s form kind count next.script counter leads.0 after)
