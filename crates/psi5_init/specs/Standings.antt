-- Where a reader of codes stands between two codes, and where the next leads; this project's own. What the codes come to is said of their list, in `Readings`.
use Rattle.std.specs.Prelude.{ℕ, suc, ◌+◌, ◌%◌, Bool, true, false, ◌||◌, nat_eq, nat_lt, if◌then◌else◌, List, [], ◌∷◌}
use Rattle.line_base.specs.declared.rule.Rule.{Rule}
use Rattle.line_base.specs.declared.rule.Rule.TheVariants.{InitOrder, InitRepeat}
use Rattle.psi5_init.specs.declared.code.Code.{Code}
use Rattle.psi5_init.specs.declared.code.Code.TheVariants as code
use Rattle.psi5_init.specs.declared.step.InitStep.{InitStep}
use Rattle.psi5_init.specs.declared.step.InitStep.TheVariants as step

-- a block that is being read: its ID, whether it is loose (its beginning wasn't seen), how many whole pairs of ID and value were seen, the value of these pairs, and how many blocks were told since the reading last left Fresh or Idle
pub record BlockRead : Type 0 where
  pub id : ℕ
  pub loose : Bool
  pub pairs : ℕ
  pub value : ℕ
  pub blocks : ℕ

-- where a reading stands: no code yet that tells; outside a phase; or in a block, where its value or an ID comes next
pub data Standing : Type 0 where
  Fresh : Standing
  Idle : Standing
  AwaitsValue : BlockRead → Standing
  AwaitsId : BlockRead → Standing

-- what a code leads to: its step, and where the reading stands then
pub record Led : Type 0 where
  pub step : InitStep
  pub next : Standing

-- nothing is told
abbrev pub quietly : Standing → Led
quietly next = record { step = step.Nothing; next = next }

-- in the block of this ID, none of whose pairs was seen
abbrev pub begun : ℕ → Bool → ℕ → Standing
begun id loose blocks = AwaitsValue (record { id = id; loose = loose; pairs = 0; value = 0; blocks = blocks })

-- the ID after this one: 16 is followed by 1
abbrev pub next_id : ℕ → ℕ
next_id id = id % 16 + 1

-- Fresh: a value is passed over, an ID begins a loose block, all else leads to Idle
abbrev pub after_fresh : Code → Standing
after_fresh (code.Value value) = Fresh
after_fresh (code.Block id) = begun id true 0
after_fresh (code.Signal n) = Idle
after_fresh code.Ready = Idle
after_fresh code.Busy = Idle
after_fresh code.Defect = Idle
after_fresh (code.Reserved n) = Idle

-- the rule is told, and the same code is read as in Fresh
abbrev pub again : Rule → Code → Led
again rule c = record { step = step.Bad rule; next = after_fresh c }

-- Idle: ID 1 begins a phase, another ID or a value may not stand here
abbrev pub after_idle : Code → Led
after_idle (code.Block id) = if nat_eq id 1 then quietly (begun 1 false 0) else again InitOrder (code.Block id)
after_idle (code.Value value) = again InitOrder (code.Value value)
after_idle (code.Signal n) = quietly Idle
after_idle code.Ready = quietly Idle
after_idle code.Busy = quietly Idle
after_idle code.Defect = quietly Idle
after_idle (code.Reserved n) = quietly Idle

-- one pair more with this value: the block is told where that makes so many
abbrev pub with_pair : ℕ → BlockRead → ℕ → Led
with_pair repeats b value =
    if nat_eq (suc b.pairs) repeats
    then record { step = step.Block b.id value; next = AwaitsId (record { id = b.id; loose = b.loose; pairs = suc b.pairs; value = value; blocks = suc b.blocks }) }
    else quietly (AwaitsId (record { id = b.id; loose = b.loose; pairs = suc b.pairs; value = value; blocks = b.blocks }))

-- a value comes next: the block's, or any where no pair was seen; another value is a wrong repeat, and all else may not stand here
abbrev pub after_id : ℕ → BlockRead → Code → Led
after_id repeats b (code.Value value) = if nat_eq b.pairs 0 || nat_eq value b.value then with_pair repeats b value else again InitRepeat (code.Value value)
after_id repeats b (code.Block id) = again InitOrder (code.Block id)
after_id repeats b (code.Signal n) = again InitOrder (code.Signal n)
after_id repeats b code.Ready = again InitOrder code.Ready
after_id repeats b code.Busy = again InitOrder code.Busy
after_id repeats b code.Defect = again InitOrder code.Defect
after_id repeats b (code.Reserved n) = again InitOrder (code.Reserved n)

-- the block may end: all its pairs were seen, or it is loose
abbrev pub may_end : ℕ → BlockRead → Bool
may_end repeats b = nat_eq b.pairs repeats || b.loose

-- an ID comes next: the block's while pairs are missing; the next one, or Ready, where the block may end; too few or too many pairs are a wrong repeat, and all else may not stand here
abbrev pub after_value : ℕ → BlockRead → Code → Led
after_value repeats b (code.Block id) =
    if nat_eq id b.id then (if nat_lt b.pairs repeats then quietly (AwaitsValue b) else again InitRepeat (code.Block id))
    else (if nat_eq id (next_id b.id) then (if may_end repeats b then quietly (begun id false b.blocks) else again InitRepeat (code.Block id))
    else again InitOrder (code.Block id))
after_value repeats b code.Ready = if may_end repeats b then record { step = step.Done b.blocks; next = Idle } else again InitRepeat code.Ready
after_value repeats b (code.Value value) = again InitOrder (code.Value value)
after_value repeats b (code.Signal n) = again InitOrder (code.Signal n)
after_value repeats b code.Busy = again InitOrder code.Busy
after_value repeats b code.Defect = again InitOrder code.Defect
after_value repeats b (code.Reserved n) = again InitOrder (code.Reserved n)

-- what a code leads to, where each block is sent so many times
unfoldable pub led_by : ℕ → Standing → Code → Led
led_by repeats Fresh c = quietly (after_fresh c)
led_by repeats Idle c = after_idle c
led_by repeats (AwaitsValue b) c = after_id repeats b c
led_by repeats (AwaitsId b) c = after_value repeats b c

-- the steps of codes, one for each, from a standing on
unfoldable pub steps_from : ℕ → Standing → List Code → List InitStep
steps_from repeats standing [] = []
steps_from repeats standing (c ∷ codes) = (led_by repeats standing c).step ∷ steps_from repeats (led_by repeats standing c).next codes
