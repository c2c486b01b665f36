-- Values of a script's messages, by words of its wobble; which words are drawn for what is this project's own.
use Rattle.std.specs.Prelude.{ℕ, zero, suc, ◌+◌, ◌%◌, ◌^◌, Option, Some, None, List, map, slice_get}
use Rattle.std.specs.List.{range_with_len}
use Rattle.rand_pcg.specs.Lcg.{Lcg}
use Rattle.psi5_init.specs.declared.code.Code.{Code}
use Rattle.psi5_init.specs.declared.code.Code.TheVariants.{Block, Value, Ready}
use Rattle.psi5_init.specs.Phases.{phase}
use Rattle.sim_base.specs.Wobbles.{behind_word, word, words}

-- a value of so many bits, by the next word; 0 where there are none
unfoldable pub value : ℕ → Lcg → ℕ
value zero g = 0
value (suc width) g = word g % 2 ^ suc width

-- the generator behind it: no word is drawn for a value without bits
unfoldable pub behind_value : ℕ → Lcg → Lcg
behind_value zero g = g
behind_value (suc width) g = behind_word g

-- so many nibbles, by a word for each
abbrev pub nibbles_by : ℕ → Lcg → List ℕ
nibbles_by count g = map (λ word. word % 16) (words count g)

-- the code of a signal of -480 to 480, by a word: a two's complement number of 10 bits
unfoldable pub signal_code : ℕ → ℕ
signal_code word = (word % 961 + 544) % 1024

-- ---- an initialisation (blocks of an ID code and a value code: PSI5 V2.1, base standard)
-- the nibbles that are sent in a slot: 16, from the slot's number on
abbrev pub init_nibbles : ℕ → List ℕ
init_nibbles slot = map (λ place. (place + slot) % 16) (range_with_len 0 16)

-- the 10-bit code of a block's ID, of a value or of the end of a phase; a phase has no others
abbrev pub code_of : Code → ℕ
code_of (Block id) = 0x1FF + id
code_of (Value nibble) = 0x210 + nibble
code_of Ready = 0x1E7
code_of other = 0

-- the code of what is sent; 0 where nothing is
abbrev pub code_or_none : Option Code → ℕ
code_or_none None = 0
code_or_none (Some code) = code_of code

-- the code at a place of the initialisation of a slot, whose blocks are each sent so many times
unfoldable pub init_code : ℕ → ℕ → ℕ → ℕ
init_code repeats slot place = code_or_none (slice_get (phase repeats (init_nibbles slot)) place)
