-- Which words of the command line are accepted; this project's own.
use Rattle.std.specs.Prelude.{ℕ, ◌+◌, ◌≤◌, nat_le, nat_eq, ok_or, Bool, true, false, Result, Ok, Err, List, [], ◌∷◌, length, take, if◌then◌else◌, codes}
use Rattle.std.specs.Str.{bytes_eq}
use Rattle.line_base.specs.declared.faults.WordFault.{WordFault}
use Rattle.line_base.specs.declared.faults.WordFault.TheVariants as fault
use Rattle.receiver_core.specs.declared.setup.ChannelSetup.{ChannelSetup}
use Rattle.link_words.specs.declared.command.Command.{Command}
use Rattle.link_words.specs.declared.command.Command.TheVariants.{Decode, Check, Simulate, Loop}
use Rattle.link_words.specs.declared.command.WordsFault.{WordsFault}
use Rattle.link_words.specs.Seeds.{seed_in}
use Rattle.link_words.specs.Spans.{number_within}
use Rattle.link_words.specs.Specs.{spec_read}
use Rattle.line_base.specs.Steps.{◌>>=◌, check}

-- the fault of a word, told by the word's number from 1
abbrev pub fault_at : ℕ → WordFault → WordsFault
fault_at place fault = record { place = place; fault = fault }

-- a refused word
abbrev pub refused : {A : Type 0} → ℕ → WordFault → Result A WordsFault
refused place fault = Err (fault_at place fault)

-- what was read of the word of this number
abbrev pub told_at : {A : Type 0} → ℕ → Result A WordFault → Result A WordsFault
told_at place (Ok x) = Ok x
told_at place (Err fault) = refused place fault

-- the setup that a SPEC, the word of this number, names
abbrev pub spec_at : ℕ → List ℕ → Result ChannelSetup WordsFault
spec_at place spec = told_at place (spec_read spec)

-- the setups that SPECs name, of which the first is the word of this number; the first fault from the left
unfoldable pub specs_at : ℕ → List (List ℕ) → Result (List ChannelSetup) WordsFault
specs_at place [] = Ok []
specs_at place (spec ∷ specs) = do
  setup ← spec_at place spec
  setups ← specs_at (place + 1) specs
  Ok (setup ∷ setups)

-- the setups that the words behind the command name: 1 to 16 SPECs from word 2 on; the seventeenth is refused unread, behind sixteen good ones
unfoldable pub setups_read : List (List ℕ) → Result (List ChannelSetup) WordsFault
setups_read words = do
  _ ← check (nat_le 1 (length words)) (fault_at 2 fault.Missing)
  setups ← specs_at 2 (take 16 words)
  _ ← check (nat_le (length words) 16) (fault_at 18 fault.Channels)
  Ok setups

-- the seed that the word of this number writes; Value for any other word
abbrev pub seed_at : ℕ → List ℕ → Result ℕ WordsFault
seed_at place text = ok_or (seed_in text) (fault_at place fault.Value)

-- the setup that a SPEC, the word of this number, names, where it is the last word: Missing where it isn't there, then the fault of the SPEC, and Extra for a word behind it
unfoldable pub last_spec_at : ℕ → List (List ℕ) → Result ChannelSetup WordsFault
last_spec_at place [] = refused place fault.Missing
last_spec_at place (spec ∷ others) = do
  setup ← spec_at place spec
  _ ← check (nat_eq (length others) 0) (fault_at (place + 1) fault.Extra)
  Ok setup

-- the simulation that the words behind the command ask for: a seed at word 2, and a SPEC at word 3, which is the last
unfoldable pub simulation_read : List (List ℕ) → Result Command WordsFault
simulation_read [] = refused 2 fault.Missing
simulation_read (seed ∷ words) = do
  number ← seed_at 2 seed
  setup ← last_spec_at 3 words
  Ok (Simulate number setup)

-- the count that the word of this number writes, 0 to 100,000; Value for any other word
abbrev pub count_at : ℕ → List ℕ → Result ℕ WordsFault
count_at place text = ok_or (number_within 0 100000 text) (fault_at place fault.Value)

-- the loop by this seed that the words behind it ask for: a count at word 3, and a SPEC at word 4, which is the last
unfoldable pub loop_behind : ℕ → List (List ℕ) → Result Command WordsFault
loop_behind seed [] = refused 3 fault.Missing
loop_behind seed (count ∷ words) = do
  number ← count_at 3 count
  setup ← last_spec_at 4 words
  Ok (Loop seed number setup)

-- the loop that the words behind the command ask for: a seed at word 2, and what comes behind it
unfoldable pub loop_read : List (List ℕ) → Result Command WordsFault
loop_read [] = refused 2 fault.Missing
loop_read (seed ∷ words) = do
  number ← seed_at 2 seed
  loop_behind number words

-- the fault of a first word that is no command which is built: NotBuilt for a command that isn't built yet, and Command for what is no command
unfoldable pub command_fault : List ℕ → WordFault
command_fault command = if bytes_eq command (codes "capture") then fault.NotBuilt else fault.Command

-- what the words ask for, or the first refused word
unfoldable pub words_read : List (List ℕ) → Result Command WordsFault
words_read [] = refused 1 fault.Missing
words_read (command ∷ words) =
    if bytes_eq command (codes "decode") then (setups_read words >>= λ setups. Ok (Decode setups))
    else (if bytes_eq command (codes "check") then (setups_read words >>= λ setups. Ok (Check setups))
    else (if bytes_eq command (codes "simulate") then simulation_read words
    else (if bytes_eq command (codes "loop") then loop_read words
    else refused 1 (command_fault command))))

-- the channels of a command, numbered from 0 in the order of their SPECs
abbrev pub setups_of_command : Command → List ChannelSetup
setups_of_command (Decode setups) = setups
setups_of_command (Check setups) = setups
setups_of_command (Simulate seed setup) = setup ∷ []
setups_of_command (Loop seed count setup) = setup ∷ []

-- a loop counts at most 100,000 messages
abbrev pub CountsFew : Command → Type 0
CountsFew (Decode setups) = Unit {0}
CountsFew (Check setups) = Unit {0}
CountsFew (Simulate seed setup) = Unit {0}
CountsFew (Loop seed count setup) = count ≤ 100000
