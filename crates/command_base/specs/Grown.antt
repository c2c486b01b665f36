-- How an output grows along a text; this project's own.
use Rattle.std.specs.Prelude.{◌≡◌, ℕ, List, ◌++◌, Option}
use Rattle.std.specs.Io.KnownBytes.{Appends}
use Rattle.line_base.specs.Streams.{AppendsFront}

-- the output, where it tells its bytes, has grown by what the later text has after the earlier one
pub record GrowsAlong (got got' : Option (List ℕ)) (earlier later : List ℕ) : Type 0 where
  pub more : List ℕ
  pub is : later ≡ earlier ++ more
  pub appended : Appends got got' more

-- it has grown by some front of that
pub record GrowsTowards (got got' : Option (List ℕ)) (earlier later : List ℕ) : Type 0 where
  pub more : List ℕ
  pub is : later ≡ earlier ++ more
  pub front : AppendsFront got got' more
