-- The codes of an initialisation phase (blocks of an ID code and a value code: PSI5 V2.1, base standard; how often a block is sent and how IDs go on is this project's own).
use Rattle.std.specs.Prelude.{ℕ, zero, suc, ◌+◌, ◌%◌, List, [], ◌∷◌, ◌++◌}
use Rattle.psi5_init.specs.declared.code.Code.{Code}
use Rattle.psi5_init.specs.declared.code.Code.TheVariants.{Block, Value, Ready}

-- the ID of the block at this index: 1 to 16, and then 1 again
abbrev pub id_at : ℕ → ℕ
id_at index = index % 16 + 1

-- the codes of a block that is sent so many times: its ID and its value each time
unfoldable pub block_codes : ℕ → ℕ → ℕ → List Code
block_codes zero id value = []
block_codes (suc repeats) id value = Block id ∷ Value value ∷ block_codes repeats id value

-- the codes of the blocks of these nibbles, from the block at this index on, each sent so many times, and then Ready
unfoldable pub codes_from : ℕ → ℕ → List ℕ → List Code
codes_from repeats index [] = Ready ∷ []
codes_from repeats index (nibble ∷ nibbles) = block_codes repeats (id_at index) nibble ++ codes_from repeats (suc index) nibbles

-- the codes of a phase that sends these nibbles, each in a block that is sent so many times
abbrev pub phase : ℕ → List ℕ → List Code
phase repeats nibbles = codes_from repeats 0 nibbles
