-- Each message that is told fits the channel.
use Rattle.std.proofs.Common.{◌≡◌, ℕ, Bool, true, false, cond, Option, Some, None, Result, Ok, Err, List, [], ◌∷◌, All, refl}
use Rattle.std.proofs.lemmas.List.Elements.{All-nil, All-cons, All-map}
use Rattle.line_base.specs.Steps.{◌>>=◌, check}
use Rattle.line_base.specs.declared.faults.LineFault.{LineFault}
use Rattle.line_base.specs.declared.faults.LineFault.TheVariants.{TooLarge}
use Rattle.text_lines.specs.Lines.{is_blank}
use Rattle.text_lines.specs.Inputs.{Numbered, lines_of, whole_lines_of}
use Rattle.receiver_core.specs.declared.message.Message.{Message}
use Rattle.receiver_core.specs.declared.setup.ChannelSetup.{ChannelSetup}
use Rattle.report_text.specs.Fields.{fields_of}
use Rattle.message_lines.specs.Messages.{message_fits}
use Rattle.message_lines.specs.Lines.{words_of, message_spelled, message_in}
use Rattle.message_lines.specs.Inputs.{said_in, told_with, told_in, told_of, whole_told_of, answers_of, whole_answers_of, FitsIn}

-- what a line says is a fault, nothing, or a message that fits
abbrev Says : ChannelSetup → Result (Option Message) LineFault → Type 0
Says setup (Err fault) = Unit {0}
Says setup (Ok None) = Unit {0}
Says setup (Ok (Some message)) = message_fits setup message ≡ true

checked : (setup : ChannelSetup) (message : Message) (t : Bool) → message_fits setup message ≡ t → Says setup ((check t TooLarge >>= λ _. Ok message) >>= λ message. Ok (Some message))
checked setup message true e = e
checked setup message false e = tt

judged : (setup : ChannelSetup) (spelled : Result Message LineFault) → Says setup ((spelled >>= λ message. check (message_fits setup message) TooLarge >>= λ _. Ok message) >>= λ message. Ok (Some message))
judged setup (Ok message) = checked setup message (message_fits setup message) refl
judged setup (Err fault) = tt

said_fits : (setup : ChannelSetup) (line : List ℕ) (t : Bool) → Says setup (cond t (Ok None) (message_in setup line >>= λ message. Ok (Some message)))
unfolding message_in
said_fits setup line true = tt
said_fits setup line false = judged setup (message_spelled (words_of setup) (fields_of line))

line_fits : (setup : ChannelSetup) (line : Result (List ℕ) LineFault) → Says setup (line >>= said_in setup)
line_fits setup (Ok line) = said_fits setup line (is_blank line)
line_fits setup (Err fault) = tt

-- what is told of a line fits, where what is told of the later ones does
abbrev Fits : ChannelSetup → Numbered Message → Type 0
Fits setup told = FitsIn setup told.1

with_fits : (setup : ChannelSetup) (number : ℕ) (said : Result (Option Message) LineFault) (later : List (Numbered Message)) → Says setup said → All (Fits setup) later → All (Fits setup) (told_with number said later)
with_fits setup number (Err fault) later says fits = All-cons (Fits setup) (number, Err fault) [] tt (All-nil (Fits setup))
with_fits setup number (Ok None) later says fits = fits
with_fits setup number (Ok (Some message)) later says fits = All-cons (Fits setup) (number, Ok message) later says fits

told_fits : (setup : ChannelSetup) (lines : List (Numbered (List ℕ))) → All (Fits setup) (told_in setup lines)
unfolding told_in
told_fits setup [] = All-nil (Fits setup)
told_fits setup (line ∷ lines) = with_fits setup line.0 (line.1 >>= said_in setup) (told_in setup lines) (line_fits setup line.1) (told_fits setup lines)

pub answers_fit : (setup : ChannelSetup) (bytes : List ℕ) → All (FitsIn setup) (answers_of setup bytes)
unfolding answers_of told_of
answers_fit setup bytes = All-map (FitsIn setup) (λ (t : Numbered Message). t.1) (told_in setup (lines_of bytes)) (told_fits setup (lines_of bytes))

pub whole_answers_fit : (setup : ChannelSetup) (bytes : List ℕ) → All (FitsIn setup) (whole_answers_of setup bytes)
unfolding whole_answers_of whole_told_of
whole_answers_fit setup bytes = All-map (FitsIn setup) (λ (t : Numbered Message). t.1) (told_in setup (whole_lines_of bytes)) (told_fits setup (whole_lines_of bytes))
