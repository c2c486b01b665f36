-- Sources and sinks in memory, whose faults come at chosen calls; this project's own.
use Rattle.std.specs.Prelude.{ℕ, List}

-- a source in memory: the bytes left, the most that a pull gives, the numbers of the pulls that fail, and how many pulls and faults there were
pub record Supply : Type 0 where
  pub left : List ℕ
  pub piece : ℕ
  pub failing : List ℕ
  pub pulls : ℕ
  pub faults : ℕ

-- a sink in memory: the bytes taken, how many fit in all, the numbers of the puts that fail, and how many puts and faults there were
pub record Holding : Type 0 where
  pub got : List ℕ
  pub room : ℕ
  pub failing : List ℕ
  pub puts : ℕ
  pub faults : ℕ
