-- What the codes before a place say is where the reading stands there, so the steps are those of the standings.
--     leads-on      one code more
--     reading-stands, reading-none      all codes, and none
use Rattle.std.proofs.Common.{◌≡◌, ℕ, suc, Bool, true, false, ◌||◌, nat_eq, nat_lt, if◌then◌else◌, List, [], ◌∷◌, refl, sym, subst, ◌∙◌, ap, arith}
use Rattle.std.proofs.lemmas.Bool.{eq-eqb, eqb-true, ne_eqb}
use Rattle.line_base.specs.declared.rule.Rule.{Rule}
use Rattle.line_base.specs.declared.rule.Rule.TheVariants.{InitOrder, InitRepeat}
use Rattle.psi5_init.specs.declared.code.Code.{Code}
use Rattle.psi5_init.specs.declared.code.Code.TheVariants as code
use Rattle.psi5_init.specs.declared.step.InitStep.{InitStep}
use Rattle.psi5_init.specs.declared.step.InitStep.TheVariants as step
use Rattle.psi5_init.specs.Standings.{BlockRead, Standing, Led, led_by, steps_from, after_fresh}
use Rattle.psi5_init.specs.Standings.Standing.{Fresh, Idle, AwaitsValue, AwaitsId}
use Rattle.psi5_init.specs.Standings as standings
use Rattle.psi5_init.specs.Readings.{are_values, pairs_of, is_loose, is_repeated, whole_blocks, may_end, outside, next_id, step_behind, since, steps_behind, init_reading}

-- the value of the pair that these codes end in, if it has this ID
value_before : ℕ → List Code → ℕ
value_before id (code.Value value ∷ code.Block other ∷ codes) = if nat_eq other id then value else 0
value_before id codes = 0

-- where the reading stands behind these codes
standing_behind : ℕ → List Code → Standing
standing_behind k [] = Fresh
standing_behind k (code.Block id ∷ before) =
    AwaitsValue (record { id = id; loose = is_loose id before; pairs = pairs_of id before; value = value_before id before; blocks = whole_blocks k before })
standing_behind k (code.Value value ∷ code.Block id ∷ before) =
    AwaitsId (record { id = id; loose = is_loose id before; pairs = suc (pairs_of id before); value = value; blocks = whole_blocks k (code.Value value ∷ code.Block id ∷ before) })
standing_behind k (code.Value value ∷ before) = Fresh
standing_behind k (other ∷ before) = Idle

-- a value behind no ID stands behind values alone
IsSince : List Code → Type 0
IsSince (code.Value value ∷ code.Block id ∷ before) = Unit {0}
IsSince (code.Value value ∷ before) = are_values before ≡ true
IsSince before = Unit {0}

-- this is where the code leads, and the codes with it may be looked back at
record LeadsOn (k : ℕ) (before : List Code) (c : Code) : Type 0 where
  leads : led_by k (standing_behind k before) c ≡ record { step = step_behind k before c; next = standing_behind k (since before c (step_behind k before c)) }
  allowed : IsSince (since before c (step_behind k before c))

-- ---- two numbers
same : (a b : ℕ) → nat_eq a b ≡ true → a ≡ b
same a b e = eqb-true a b e

turned : (a b : ℕ) → nat_eq a b ≡ false → nat_eq b a ≡ false
turned a b e = ne_eqb b a (λ (is : b ≡ a). absurd (let yes' : nat_eq a b ≡ true = eq-eqb a b (sym is) in cc))

-- ---- while nothing but values were read
first-id : (k v j : ℕ) (before : List Code) → are_values before ≡ true
    → standing_behind k (code.Block j ∷ code.Value v ∷ before) ≡ standings.begun j true 0
unfolding are_values pairs_of is_loose whole_blocks standing_behind value_before
first-id k v j [] h = refl
first-id k v j (code.Value w ∷ before) h = ap (λ (b : Bool). standings.begun j b 0) h
first-id k v j (code.Block i ∷ before) h = absurd (cc)
first-id k v j (code.Signal n ∷ before) h = absurd (cc)
first-id k v j (code.Ready ∷ before) h = absurd (cc)
first-id k v j (code.Busy ∷ before) h = absurd (cc)
first-id k v j (code.Defect ∷ before) h = absurd (cc)
first-id k v j (code.Reserved n ∷ before) h = absurd (cc)

-- ---- one code more
abbrev led_to : InitStep → Standing → Led
led_to says next = record { step = says; next = next }

-- by where the reading stands, and what the code comes to
leads-as : (k : ℕ) (before : List Code) (c : Code) (standing : Standing) (says : InitStep) (next : Standing) → standing_behind k before ≡ standing → step_behind k before c ≡ says
    → led_by k standing c ≡ record { step = says; next = next } → standing_behind k (since before c says) ≡ next → IsSince (since before c says) → LeadsOn k before c
leads-as k before c standing says next stands is leads follows allowed = record {
  leads = ap (λ s. led_by k s c) stands ∙ leads
      ∙ ap (λ n. led_to says n) (sym follows)
      ∙ ap (λ s. led_to s (standing_behind k (since before c s))) (sym is);
  allowed = subst (λ (s : InitStep). IsSince (since before c s)) (sym is) allowed;
}

-- ---- behind values alone
behind-values : (k v : ℕ) (before : List Code) (c : Code) → are_values before ≡ true → standing_behind k (code.Value v ∷ before) ≡ Fresh → step_behind k (code.Value v ∷ before) c ≡ step.Nothing → LeadsOn k (code.Value v ∷ before) c
unfolding led_by IsSince standing_behind are_values
behind-values k v before (code.Value w) h fresh none = leads-as k (code.Value v ∷ before) (code.Value w) Fresh step.Nothing Fresh fresh none refl refl h
behind-values k v before (code.Block j) h fresh none = leads-as k (code.Value v ∷ before) (code.Block j) Fresh step.Nothing (standings.begun j true 0) fresh none refl (first-id k v j before h) tt
behind-values k v before (code.Signal n) h fresh none = leads-as k (code.Value v ∷ before) (code.Signal n) Fresh step.Nothing Idle fresh none refl refl tt
behind-values k v before code.Ready h fresh none = leads-as k (code.Value v ∷ before) code.Ready Fresh step.Nothing Idle fresh none refl refl tt
behind-values k v before code.Busy h fresh none = leads-as k (code.Value v ∷ before) code.Busy Fresh step.Nothing Idle fresh none refl refl tt
behind-values k v before code.Defect h fresh none = leads-as k (code.Value v ∷ before) code.Defect Fresh step.Nothing Idle fresh none refl refl tt
behind-values k v before (code.Reserved n) h fresh none = leads-as k (code.Value v ∷ before) (code.Reserved n) Fresh step.Nothing Idle fresh none refl refl tt

-- ---- at the start, and behind a fault
behind-none : (k : ℕ) (c : Code) → LeadsOn k [] c
unfolding led_by IsSince standing_behind step_behind are_values pairs_of is_loose whole_blocks value_before
behind-none k (code.Value w) = record { leads = refl; allowed = refl }
behind-none k (code.Block j) = record { leads = refl; allowed = tt }
behind-none k (code.Signal n) = record { leads = refl; allowed = tt }
behind-none k code.Ready = record { leads = refl; allowed = tt }
behind-none k code.Busy = record { leads = refl; allowed = tt }
behind-none k code.Defect = record { leads = refl; allowed = tt }
behind-none k (code.Reserved n) = record { leads = refl; allowed = tt }

-- a fault's code is read again as the first
again-first : (k : ℕ) (c : Code) → standing_behind k (c ∷ []) ≡ after_fresh c
unfolding standing_behind are_values pairs_of is_loose whole_blocks value_before
again-first k (code.Value w) = refl
again-first k (code.Block j) = refl
again-first k (code.Signal n) = refl
again-first k code.Ready = refl
again-first k code.Busy = refl
again-first k code.Defect = refl
again-first k (code.Reserved n) = refl

alone : (c : Code) → IsSince (c ∷ [])
unfolding IsSince are_values
alone (code.Value w) = refl
alone (code.Block j) = tt
alone (code.Signal n) = tt
alone code.Ready = tt
alone code.Busy = tt
alone code.Defect = tt
alone (code.Reserved n) = tt

faulty : (k : ℕ) (before : List Code) (c : Code) (standing : Standing) (rule : Rule) → standing_behind k before ≡ standing → step_behind k before c ≡ step.Bad rule
    → led_by k standing c ≡ standings.again rule c → LeadsOn k before c
faulty k before c standing rule stands is leads = leads-as k before c standing (step.Bad rule) (after_fresh c) stands is leads (again-first k c) (alone c)

-- ---- outside a phase
-- a code that is neither an ID nor a value
IsOther : Code → Type 0
IsOther (code.Value value) = ⊥
IsOther (code.Block id) = ⊥
IsOther other = Unit {0}

idle-again : (k : ℕ) (before : List Code) (c : Code) → IsOther c → standing_behind k (c ∷ before) ≡ Idle
unfolding standing_behind IsOther
idle-again k before (code.Value value) other = absurd other
idle-again k before (code.Block id) other = absurd other
idle-again k before (code.Signal n) other = refl
idle-again k before code.Ready other = refl
idle-again k before code.Busy other = refl
idle-again k before code.Defect other = refl
idle-again k before (code.Reserved n) other = refl

-- by whether the ID is 1
idle-id : (k : ℕ) (before : List Code) (j : ℕ) (b : Bool) → nat_eq j 1 ≡ b → standing_behind k before ≡ Idle → step_behind k before (code.Block j) ≡ outside (code.Block j)
    → standing_behind k (code.Block j ∷ before) ≡ standings.begun j false 0 → LeadsOn k before (code.Block j)
unfolding led_by IsSince
idle-id k before j true one stands is begins =
    leads-as k before (code.Block j) Idle step.Nothing (standings.begun j false 0) stands (is ∙ rw one refl)
    (rw one (ap (λ n. led_to step.Nothing (standings.begun n false 0)) (sym (same j 1 one)))) begins tt
idle-id k before j false one stands is begins = faulty k before (code.Block j) Idle InitOrder stands (is ∙ rw one refl) (rw one refl)

behind-idle : (k : ℕ) (before : List Code) (c : Code) → standing_behind k before ≡ Idle → step_behind k before c ≡ outside c → ((j : ℕ) → standing_behind k (code.Block j ∷ before) ≡ standings.begun j false 0) → LeadsOn k before c
unfolding led_by IsSince IsOther
behind-idle k before (code.Block j) stands is begins = idle-id k before j (nat_eq j 1) refl stands is (begins j)
behind-idle k before (code.Value v) stands is begins = faulty k before (code.Value v) Idle InitOrder stands is refl
behind-idle k before (code.Signal n) stands is begins = leads-as k before (code.Signal n) Idle step.Nothing Idle stands is refl (idle-again k before (code.Signal n) tt) tt
behind-idle k before code.Ready stands is begins = leads-as k before code.Ready Idle step.Nothing Idle stands is refl (idle-again k before code.Ready tt) tt
behind-idle k before code.Busy stands is begins = leads-as k before code.Busy Idle step.Nothing Idle stands is refl (idle-again k before code.Busy tt) tt
behind-idle k before code.Defect stands is begins = leads-as k before code.Defect Idle step.Nothing Idle stands is refl (idle-again k before code.Defect tt) tt
behind-idle k before (code.Reserved n) stands is begins = leads-as k before (code.Reserved n) Idle step.Nothing Idle stands is refl (idle-again k before (code.Reserved n) tt) tt

-- ---- behind an ID
by_id : (b : Bool) (pairs value w : ℕ) → (if b then nat_eq value w else true) ≡ (nat_eq (if b then suc pairs else 0) 0 || nat_eq value (if b then w else 0))
by_id true pairs value w = rw (ne_eqb (suc pairs) 0 (λ e. omega (arith, e))) refl
by_id false pairs value w = refl

-- the value may follow where none came before, or where it is the same
repeated-as : (id : ℕ) (before : List Code) (value : ℕ) → is_repeated id before value ≡ (nat_eq (pairs_of id before) 0 || nat_eq value (value_before id before))
unfolding is_repeated pairs_of value_before
repeated-as id (code.Value w ∷ code.Block j ∷ before) value = by_id (nat_eq j id) (pairs_of id before) value w
repeated-as id [] value = refl
repeated-as id (code.Block j ∷ before) value = refl
repeated-as id (code.Signal n ∷ before) value = refl
repeated-as id (code.Ready ∷ before) value = refl
repeated-as id (code.Busy ∷ before) value = refl
repeated-as id (code.Defect ∷ before) value = refl
repeated-as id (code.Reserved n ∷ before) value = refl
repeated-as id (code.Value w ∷ []) value = refl
repeated-as id (code.Value w ∷ code.Value x ∷ before) value = refl
repeated-as id (code.Value w ∷ code.Signal n ∷ before) value = refl
repeated-as id (code.Value w ∷ code.Ready ∷ before) value = refl
repeated-as id (code.Value w ∷ code.Busy ∷ before) value = refl
repeated-as id (code.Value w ∷ code.Defect ∷ before) value = refl
repeated-as id (code.Value w ∷ code.Reserved n ∷ before) value = refl

-- the block of this ID behind these codes, before its next value
abbrev block_at : ℕ → ℕ → List Code → BlockRead
block_at k id before = record { id = id; loose = is_loose id before; pairs = pairs_of id before; value = value_before id before; blocks = whole_blocks k before }

-- what a value comes to, by whether it may follow and whether it makes the block whole
value-comes : (k id v : ℕ) (before : List Code) (may whole : Bool) → is_repeated id before v ≡ may → nat_eq (suc (pairs_of id before)) k ≡ whole → LeadsOn k (code.Block id ∷ before) (code.Value v)
unfolding led_by standing_behind step_behind IsSince whole_blocks
value-comes k id v before false whole may is = faulty k (code.Block id ∷ before) (code.Value v) (AwaitsValue (block_at k id before)) InitRepeat refl (rw may refl) (rw (sym (repeated-as id before v) ∙ may) refl)
value-comes k id v before true true may is =
    leads-as k (code.Block id ∷ before) (code.Value v) (AwaitsValue (block_at k id before)) (step.Block id v)
    (AwaitsId (record { id = id; loose = is_loose id before; pairs = suc (pairs_of id before); value = v; blocks = suc (whole_blocks k before) }))
    refl (rw (may, is) refl) (rw (sym (repeated-as id before v) ∙ may, is) refl) (rw is refl) tt
value-comes k id v before true false may is =
    leads-as k (code.Block id ∷ before) (code.Value v) (AwaitsValue (block_at k id before)) step.Nothing
    (AwaitsId (record { id = id; loose = is_loose id before; pairs = suc (pairs_of id before); value = v; blocks = whole_blocks k before }))
    refl (rw (may, is) refl) (rw (sym (repeated-as id before v) ∙ may, is) refl) (rw is refl) tt

behind-an-id : (k id : ℕ) (before : List Code) (c : Code) → LeadsOn k (code.Block id ∷ before) c
unfolding led_by standing_behind step_behind
behind-an-id k id before (code.Value v) = value-comes k id v before (is_repeated id before v) (nat_eq (suc (pairs_of id before)) k) refl refl
behind-an-id k id before (code.Block j) = faulty k (code.Block id ∷ before) (code.Block j) (AwaitsValue (block_at k id before)) InitOrder refl refl refl
behind-an-id k id before (code.Signal n) = faulty k (code.Block id ∷ before) (code.Signal n) (AwaitsValue (block_at k id before)) InitOrder refl refl refl
behind-an-id k id before code.Ready = faulty k (code.Block id ∷ before) code.Ready (AwaitsValue (block_at k id before)) InitOrder refl refl refl
behind-an-id k id before code.Busy = faulty k (code.Block id ∷ before) code.Busy (AwaitsValue (block_at k id before)) InitOrder refl refl refl
behind-an-id k id before code.Defect = faulty k (code.Block id ∷ before) code.Defect (AwaitsValue (block_at k id before)) InitOrder refl refl refl
behind-an-id k id before (code.Reserved n) = faulty k (code.Block id ∷ before) (code.Reserved n) (AwaitsValue (block_at k id before)) InitOrder refl refl refl

-- ---- behind a value of a block
-- the codes of a value of this block and what came before
abbrev valued : ℕ → ℕ → List Code → List Code
valued id v before = code.Value v ∷ code.Block id ∷ before

-- the block of this ID behind a value
abbrev block_behind : ℕ → ℕ → ℕ → List Code → BlockRead
block_behind k id v before = record { id = id; loose = is_loose id before; pairs = suc (pairs_of id before); value = v; blocks = whole_blocks k (valued id v before) }

itself : (id : ℕ) → nat_eq id id ≡ true
itself id = eq-eqb id id refl

pairs-now : (id v : ℕ) (before : List Code) → pairs_of id (valued id v before) ≡ suc (pairs_of id before)
unfolding pairs_of
pairs-now id v before = rw (itself id) refl

loose-now : (id v : ℕ) (before : List Code) → is_loose id (valued id v before) ≡ is_loose id before
unfolding is_loose
loose-now id v before = rw (itself id) refl

value-now : (id v : ℕ) (before : List Code) → value_before id (valued id v before) ≡ v
unfolding value_before
value-now id v before = rw (itself id) refl

may-end : (k id v : ℕ) (before : List Code) → may_end k id (valued id v before) ≡ standings.may_end k (block_behind k id v before)
may-end k id v before = rw (pairs-now id v before, loose-now id v before) refl

-- the same ID again
same-id : (k id v : ℕ) (before : List Code) → standing_behind k (code.Block id ∷ valued id v before) ≡ AwaitsValue (block_behind k id v before)
unfolding standing_behind whole_blocks
same-id k id v before = rw (pairs-now id v before, loose-now id v before, value-now id v before) refl

-- another ID
other-id : (k id j v : ℕ) (before : List Code) → nat_eq id j ≡ false → standing_behind k (code.Block j ∷ valued id v before) ≡ standings.begun j false (whole_blocks k (valued id v before))
unfolding standing_behind pairs_of is_loose value_before whole_blocks
other-id k id j v before other = rw other refl

-- the same ID, by whether pairs are missing
same-comes : (k id v : ℕ) (before : List Code) (fewer : Bool) → nat_lt (suc (pairs_of id before)) k ≡ fewer → LeadsOn k (valued id v before) (code.Block id)
unfolding led_by standing_behind step_behind IsSince
same-comes k id v before true fewer =
    leads-as k (valued id v before) (code.Block id) (AwaitsId (block_behind k id v before)) step.Nothing (AwaitsValue (block_behind k id v before)) refl
    (rw (itself id, pairs-now id v before, fewer) refl) (rw (itself id, fewer) refl) (same-id k id v before) tt
same-comes k id v before false fewer =
    faulty k (valued id v before) (code.Block id) (AwaitsId (block_behind k id v before)) InitRepeat refl
    (rw (itself id, pairs-now id v before, fewer) refl) (rw (itself id, fewer) refl)

-- another ID, by whether it is the next and whether the block may end
other-comes : (k id v j : ℕ) (before : List Code) (next may : Bool) → nat_eq j id ≡ false → nat_eq j (next_id id) ≡ next → standings.may_end k (block_behind k id v before) ≡ may → LeadsOn k (valued id v before) (code.Block j)
unfolding led_by standing_behind step_behind IsSince
other-comes k id v j before true true other is may =
    leads-as k (valued id v before) (code.Block j) (AwaitsId (block_behind k id v before)) step.Nothing (standings.begun j false (whole_blocks k (valued id v before))) refl
    (rw (other, is, may-end k id v before ∙ may) refl) (rw (other, is, may) refl) (other-id k id j v before (turned j id other)) tt
other-comes k id v j before true false other is may =
    faulty k (valued id v before) (code.Block j) (AwaitsId (block_behind k id v before)) InitRepeat refl
    (rw (other, is, may-end k id v before ∙ may) refl) (rw (other, is, may) refl)
other-comes k id v j before false may other is h =
    faulty k (valued id v before) (code.Block j) (AwaitsId (block_behind k id v before)) InitOrder refl
    (rw (other, is) refl) (rw (other, is) refl)

id-comes : (k id v j : ℕ) (before : List Code) (equal : Bool) → nat_eq j id ≡ equal → LeadsOn k (valued id v before) (code.Block j)
id-comes k id v j before true equal = subst (λ n. LeadsOn k (valued id v before) (code.Block n)) (sym (same j id equal)) (same-comes k id v before (nat_lt (suc (pairs_of id before)) k) refl)
id-comes k id v j before false equal = other-comes k id v j before (nat_eq j (next_id id)) (standings.may_end k (block_behind k id v before)) equal refl refl

-- the end of a phase, by whether the block may end
ready-comes : (k id v : ℕ) (before : List Code) (may : Bool) → standings.may_end k (block_behind k id v before) ≡ may → LeadsOn k (valued id v before) code.Ready
unfolding led_by standing_behind step_behind IsSince
ready-comes k id v before true may =
    leads-as k (valued id v before) code.Ready (AwaitsId (block_behind k id v before)) (step.Done (whole_blocks k (valued id v before))) Idle refl
    (rw (may-end k id v before ∙ may) refl) (rw may refl) refl tt
ready-comes k id v before false may =
    faulty k (valued id v before) code.Ready (AwaitsId (block_behind k id v before)) InitRepeat refl (rw (may-end k id v before ∙ may) refl) (rw may refl)

behind-a-value : (k id v : ℕ) (before : List Code) (c : Code) → LeadsOn k (valued id v before) c
unfolding led_by standing_behind step_behind
behind-a-value k id v before (code.Block j) = id-comes k id v j before (nat_eq j id) refl
behind-a-value k id v before code.Ready = ready-comes k id v before (standings.may_end k (block_behind k id v before)) refl
behind-a-value k id v before (code.Value w) = faulty k (valued id v before) (code.Value w) (AwaitsId (block_behind k id v before)) InitOrder refl refl refl
behind-a-value k id v before (code.Signal n) = faulty k (valued id v before) (code.Signal n) (AwaitsId (block_behind k id v before)) InitOrder refl refl refl
behind-a-value k id v before code.Busy = faulty k (valued id v before) code.Busy (AwaitsId (block_behind k id v before)) InitOrder refl refl refl
behind-a-value k id v before code.Defect = faulty k (valued id v before) code.Defect (AwaitsId (block_behind k id v before)) InitOrder refl refl refl
behind-a-value k id v before (code.Reserved n) = faulty k (valued id v before) (code.Reserved n) (AwaitsId (block_behind k id v before)) InitOrder refl refl refl

-- ---- behind any codes
leads-on : (k : ℕ) (before : List Code) (c : Code) → IsSince before → LeadsOn k before c
unfolding IsSince standing_behind step_behind are_values pairs_of is_loose whole_blocks value_before
leads-on k [] c allowed = behind-none k c
leads-on k (code.Block id ∷ before) c allowed = behind-an-id k id before c
leads-on k (code.Value v ∷ []) c allowed = behind-values k v [] c allowed refl refl
leads-on k (code.Value v ∷ code.Block id ∷ before) c allowed = behind-a-value k id v before c
leads-on k (code.Value v ∷ code.Value w ∷ before) c allowed = behind-values k v (code.Value w ∷ before) c allowed refl refl
leads-on k (code.Value v ∷ code.Signal n ∷ before) c allowed = absurd (cc)
leads-on k (code.Value v ∷ code.Ready ∷ before) c allowed = absurd (cc)
leads-on k (code.Value v ∷ code.Busy ∷ before) c allowed = absurd (cc)
leads-on k (code.Value v ∷ code.Defect ∷ before) c allowed = absurd (cc)
leads-on k (code.Value v ∷ code.Reserved n ∷ before) c allowed = absurd (cc)
leads-on k (code.Signal n ∷ before) c allowed = behind-idle k (code.Signal n ∷ before) c refl refl (λ j. refl)
leads-on k (code.Ready ∷ before) c allowed = behind-idle k (code.Ready ∷ before) c refl refl (λ j. refl)
leads-on k (code.Busy ∷ before) c allowed = behind-idle k (code.Busy ∷ before) c refl refl (λ j. refl)
leads-on k (code.Defect ∷ before) c allowed = behind-idle k (code.Defect ∷ before) c refl refl (λ j. refl)
leads-on k (code.Reserved n ∷ before) c allowed = behind-idle k (code.Reserved n ∷ before) c refl refl (λ j. refl)

-- the steps behind these codes are those of where they stand
steps-stand : (k : ℕ) (before codes : List Code) → IsSince before → steps_behind k before codes ≡ steps_from k (standing_behind k before) codes
unfolding steps_behind steps_from
steps-stand k before [] allowed = refl
steps-stand k before (c ∷ codes) allowed =
    let on = leads-on k before c allowed in
    ap (λ steps. step_behind k before c ∷ steps) (steps-stand k (since before c (step_behind k before c)) codes on.allowed)
    ∙ sym (ap (λ (l : Led). l.step ∷ steps_from k l.next codes) on.leads)

pub reading-stands : (k : ℕ) (codes : List Code) → init_reading k codes ≡ steps_from k Fresh codes
unfolding init_reading standing_behind IsSince
reading-stands k codes = steps-stand k [] codes tt

pub reading-none : (k : ℕ) → init_reading k [] ≡ []
unfolding init_reading steps_behind
reading-none k = refl
