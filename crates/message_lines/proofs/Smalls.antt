-- A message that fits with small numbers has these numbers.
use Rattle.std.proofs.Common.{◌≡◌, ℕ, ◌≤◌, nat_lt, Bool, true, Result, Ok, Err, List, length, refl, sym, ◌∙◌, ap, arith}
use Rattle.std.proofs.lemmas.Bool.{and_parts, ltb-true, false≢true}
use Rattle.line_base.specs.declared.faults.LineFault.{LineFault}
use Rattle.line_base.specs.declared.faults.LineFault.TheVariants.{TooLarge}
use Rattle.line_base.specs.Steps.{◌>>=◌, check}
use Rattle.psi5_downlink.specs.declared.down.Down.{Down}
use Rattle.receiver_core.specs.declared.message.Message.{Message}
use Rattle.receiver_core.specs.declared.message.Message.TheVariants as message
use Rattle.receiver_core.specs.declared.setup.ChannelSetup.{ChannelSetup}
use Rattle.receiver_core.specs.declared.setup.ChannelSetup.TheVariants.{Sent, Psi5, Spc, Tooth}
use Rattle.report_text.specs.Fields.{fields_of}
use Rattle.message_lines.specs.Messages.{message_fits, IsMade}
use Rattle.message_lines.specs.Lines.{words_of, message_spelled, message_in}
use Rattle.message_lines.specs.Readings.{small, with_small, small_message}

-- a small number below such a bound is the number
below_is : (number limit : ℕ) → limit ≤ 8 → nat_lt (small number) limit ≡ true → small number ≡ number
below_is number limit few e = let below = ltb-true (small number) limit e in omega arith

down_is : (down : Down) (rest : Bool) (more : Bool) → nat_lt (small down.address) 8 ≡ true → nat_lt (small down.function) 8 ≡ true → with_small (message.Down down) ≡ message.Down down
down_is down rest more a f =
    ap (λ (n : ℕ). message.Down (record { address = n; function = small down.function; register = down.register; value = down.value })) (below_is down.address 8 (omega arith) a)
    ∙ ap (λ (n : ℕ). message.Down (record { address = down.address; function = n; register = down.register; value = down.value })) (below_is down.function 8 (omega arith) f)

fits_small : (setup : ChannelSetup) (m : Message) → IsMade setup → message_fits setup (with_small m) ≡ true → with_small m ≡ m
fits_small setup (message.Frame frame) few e = refl
fits_small setup (message.Short id value) few e = refl
fits_small setup (message.Enhanced id value wide) few e = refl
fits_small setup message.Sync few e = refl
fits_small setup (message.Burst slot payload) few e = refl
fits_small (Spc line setup) (message.Answer code frame) few e = ap (λ (n : ℕ). message.Answer n frame) (below_is code (length setup.windows) few (and_parts (nat_lt (small code) (length setup.windows)) _ e).0)
fits_small (Spc line setup) (message.Silent code) few e = ap (λ (n : ℕ). message.Silent n) (below_is code (length setup.windows) few e)
fits_small (Spc line setup) (message.Down down) few e = absurd (false≢true e)
fits_small (Tooth line setup) (message.Down down) few e =
    let first = and_parts (nat_lt (small down.address) 8) _ e in
    down_is down true true first.0 (and_parts (nat_lt (small down.function) 8) _ first.1).0
fits_small (Tooth line setup) (message.Answer code frame) few e = absurd (false≢true e)
fits_small (Tooth line setup) (message.Silent code) few e = absurd (false≢true e)
fits_small (Sent line setup layout form) (message.Answer code frame) few e = absurd (false≢true e)
fits_small (Sent line setup layout form) (message.Silent code) few e = absurd (false≢true e)
fits_small (Sent line setup layout form) (message.Down down) few e = absurd (false≢true e)
fits_small (Psi5 line setup slots init) (message.Answer code frame) few e = absurd (false≢true e)
fits_small (Psi5 line setup slots init) (message.Silent code) few e = absurd (false≢true e)
fits_small (Psi5 line setup slots init) (message.Down down) few e = absurd (false≢true e)

ok_is : {A : Type 0} (x y : A) → ◌≡◌ {A = Result A LineFault} (Ok x) (Ok y) → x ≡ y
ok_is x y e = cc

judged : (setup : ChannelSetup) (spelled : Result Message LineFault) (m : Message) → IsMade setup → Ok m ≡ small_message spelled → message_fits setup m ≡ true → Ok m ≡ (spelled >>= λ message. check (message_fits setup message) TooLarge >>= λ _. Ok message)
judged setup (Ok own) m few e fits =
    let same : m ≡ with_small own = ok_is m (with_small own) e in
    let whole : with_small own ≡ own = fits_small setup own few (ap (message_fits setup) (sym same) ∙ fits) in
    let found : m ≡ own = same ∙ whole in
    ap (λ (n : Message). Ok n) found ∙ sym (ap (λ (t : Bool). check t TooLarge >>= λ _. Ok own) (ap (message_fits setup) (sym found) ∙ fits))
judged setup (Err fault) m few e fits = absurd (cc)

-- a message that was spelled with small numbers, and fits, is the line's
pub message_judged : (setup : ChannelSetup) (line : List ℕ) (m : Message) → IsMade setup → Ok m ≡ small_message (message_spelled (words_of setup) (fields_of line)) → message_fits setup m ≡ true → Ok m ≡ message_in setup line
unfolding message_in
message_judged setup line m few e fits = judged setup (message_spelled (words_of setup) (fields_of line)) m few e fits
