-- Which words ask for a text about the program; this project's own.
use Rattle.std.specs.Prelude.{◌||◌, Option, None, Some, List, ℕ, [], ◌∷◌, codes, if◌then◌else◌}
use Rattle.std.specs.Str.{bytes_eq}
use Rattle.pulselink.specs.declared.about.TheConstants.{VERSION}
use Rattle.pulselink.specs.declared.help.TheConstants.{HELP}
use Rattle.pulselink.specs.declared.about.About.{About}
use Rattle.pulselink.specs.declared.about.About.TheVariants.{Help, Version}

-- the text that a word asks for: `--help` or `-h`, `--version` or `-V`
unfoldable pub word_asks : List ℕ → Option About
word_asks word =
    if bytes_eq word (codes "--help") || bytes_eq word (codes "-h") then Some Help
    else (if bytes_eq word (codes "--version") || bytes_eq word (codes "-V") then Some Version
    else None)

-- the text that the words ask for, which only one word alone does
unfoldable pub words_ask : List (List ℕ) → Option About
words_ask [] = None
words_ask (word ∷ []) = word_asks word
words_ask (word ∷ next ∷ words) = None

-- a text about the program: that of the help, or its name and version
abbrev pub about_text : About → List ℕ
about_text Help = HELP.now
about_text Version = VERSION.now
