-- How a text goes to an output, some of which is gathered first; this project's own.
use Rattle.std.specs.Prelude.{◌≡◌, ℕ, List, ◌++◌, Option}
use Rattle.std.specs.Io.KnownBytes.{Appends}
use Rattle.line_base.specs.Streams.{AppendsFront}

-- what an output holds, where it tells that, and what is gathered for it
pub record Written : Type 0 where
  pub got : Option (List ℕ)
  pub gathered : List ℕ

-- this text was written: it went to the output behind what was gathered, but for what is gathered now
pub record Takes (old new : Written) (text : List ℕ) : Type 0 where
  pub put : List ℕ
  pub appended : Appends old.got new.got put
  pub parts : old.gathered ++ text ≡ put ++ new.gathered

-- a put failed: of what was gathered and of this text some front went to the output
abbrev pub TakesFront : Written → Option (List ℕ) → List ℕ → Type 0
TakesFront old got text = AppendsFront old.got got (old.gathered ++ text)

-- what the later text has after the earlier one was written
pub record GrowsAlong (old new : Written) (earlier later : List ℕ) : Type 0 where
  pub more : List ℕ
  pub is : later ≡ earlier ++ more
  pub taken : Takes old new more

-- some front of what was gathered, and of what the later text has after the earlier one, went to the output
pub record GrowsTowards (old : Written) (got : Option (List ℕ)) (earlier later : List ℕ) : Type 0 where
  pub more : List ℕ
  pub is : later ≡ earlier ++ more
  pub front : TakesFront old got more
