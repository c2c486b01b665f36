-- What the codes of a phase give, from any place on. Each block is sent `suc k` times.
--     block_whole, block_part      the rest of a block, all of whose pairs are seen, or not
--     phase_goes_on      the next blocks
--     phase_begins       a phase that is read from the beginning of a block on
--     block_from      a phase that is read from within a block on
--     phase_from      a phase that is read from any place on
use Rattle.std.proofs.Common.{◌≡◌, ℕ, zero, suc, ◌+◌, ◌-◌, ◌*◌, ◌<◌, ◌≤◌, Bool, true, false, ◌||◌, nat_eq, nat_le, if◌then◌else◌, List, [], ◌∷◌, ◌++◌, length, drop, refl, sym, ◌∙◌, ap, ap₂, inl, inr, arith}
use Rattle.std.proofs.lemmas.Bool.{cases_lt, eq-eqb, ne_eqb, lt-ltb, le-leb, lt-leb}
use Rattle.std.proofs.lemmas.Bool.Decides.{nat_tests}
use Rattle.psi5_init.specs.declared.code.Code.{Code}
use Rattle.psi5_init.specs.declared.code.Code.TheVariants as code
use Rattle.psi5_init.specs.declared.step.InitStep.{InitStep}
use Rattle.psi5_init.specs.declared.step.InitStep.TheVariants as step
use Rattle.psi5_init.specs.Phases.{id_at, block_codes, codes_from}
use Rattle.psi5_init.specs.Standings.{BlockRead, Standing, Led, led_by, steps_from, begun, after_fresh, next_id}
use Rattle.psi5_init.specs.Standings.Standing.{Fresh, Idle, AwaitsValue, AwaitsId}

-- ---- what a phase comes to, block by block
-- what so many pairs come to: this at the last code, and nothing before
unfoldable pub pair_steps : ℕ → InitStep → List InitStep
pair_steps zero last = []
pair_steps (suc zero) last = step.Nothing ∷ last ∷ []
pair_steps (suc (suc n)) last = step.Nothing ∷ step.Nothing ∷ pair_steps (suc n) last

-- what the codes of a phase come to that is read from place p on, from the block at this place and index on, where so many blocks were told before
unfoldable pub phase_told : ℕ → ℕ → ℕ → ℕ → ℕ → List ℕ → List InitStep
phase_told k p place index blocks [] = (if nat_le (p + 2) place then step.Done blocks else step.Nothing) ∷ []
phase_told k p place index blocks (value ∷ nibbles) =
    pair_steps k (if nat_le p place then step.Block (id_at index) value else step.Nothing)
    ++ phase_told k p (place + 2 * k) (suc index) (if nat_le p place then suc blocks else blocks) nibbles

-- ---- one code
abbrev in_block : ℕ → Bool → ℕ → ℕ → ℕ → BlockRead
in_block id loose seen value blocks = record { id = id; loose = loose; pairs = seen; value = value; blocks = blocks }

self_eq : (n : ℕ) → nat_eq n n ≡ true
self_eq n = eq-eqb n n refl

or_true : (a : Bool) → (a || true) ≡ true
or_true true = refl
or_true false = refl

-- the first of a pair's two steps
first_nothing : (n : ℕ) (last : InitStep) → step.Nothing ∷ drop 1 (pair_steps (suc n) last) ≡ pair_steps (suc n) last
unfolding pair_steps
first_nothing zero last = refl
first_nothing (suc n) last = refl

-- one code
pub stepped : (k : ℕ) (standing next : Standing) (c : Code) (said : InitStep) (codes : List Code) → led_by k standing c ≡ record { next = next; step = said } → steps_from k standing (c ∷ codes) ≡ said ∷ steps_from k next codes
unfolding steps_from
stepped k standing next c said codes e = ap (λ (n : Led). n.step ∷ steps_from k n.next codes) e

one_next : (k id seen w v blocks : ℕ) (loose : Bool) → (nat_eq seen 0 || nat_eq v w) ≡ true → suc seen ≡ k
    → led_by k (AwaitsValue (in_block id loose seen w blocks)) (code.Value v) ≡ record { next = AwaitsId (in_block id loose k v (suc blocks)); step = step.Block id v }
unfolding led_by
one_next k id seen w v blocks loose ok all = rw (ok, all, self_eq k) refl

one_value : (k id seen w v blocks : ℕ) (loose : Bool) (rest : List Code) → (nat_eq seen 0 || nat_eq v w) ≡ true → suc seen ≡ k
    → steps_from k (AwaitsValue (in_block id loose seen w blocks)) (code.Value v ∷ rest) ≡ step.Block id v ∷ steps_from k (AwaitsId (in_block id loose k v (suc blocks))) rest
one_value k id seen w v blocks loose rest ok all = stepped k _ _ (code.Value v) (step.Block id v) rest (one_next k id seen w v blocks loose ok all)

next_next : (k id seen w v blocks : ℕ) (loose : Bool) → (nat_eq seen 0 || nat_eq v w) ≡ true → suc seen < k
    → led_by k (AwaitsValue (in_block id loose seen w blocks)) (code.Value v) ≡ record { next = AwaitsId (in_block id loose (suc seen) v blocks); step = step.Nothing }
unfolding led_by
next_next k id seen w v blocks loose ok more = rw (ok, ne_eqb (suc seen) k (λ e. omega (arith, e, more))) refl

next_value : (k id seen w v blocks : ℕ) (loose : Bool) (rest : List Code) → (nat_eq seen 0 || nat_eq v w) ≡ true → suc seen < k
    → steps_from k (AwaitsValue (in_block id loose seen w blocks)) (code.Value v ∷ rest) ≡ step.Nothing ∷ steps_from k (AwaitsId (in_block id loose (suc seen) v blocks)) rest
next_value k id seen w v blocks loose rest ok more = stepped k _ _ (code.Value v) step.Nothing rest (next_next k id seen w v blocks loose ok more)

same_next : (k id seen v blocks : ℕ) (loose : Bool) → seen < k
    → led_by k (AwaitsId (in_block id loose seen v blocks)) (code.Block id) ≡ record { next = AwaitsValue (in_block id loose seen v blocks); step = step.Nothing }
unfolding led_by
same_next k id seen v blocks loose more = rw (self_eq id, lt-ltb seen k more) refl

same_block : (k id seen v blocks : ℕ) (loose : Bool) (rest : List Code) → seen < k
    → steps_from k (AwaitsId (in_block id loose seen v blocks)) (code.Block id ∷ rest) ≡ step.Nothing ∷ steps_from k (AwaitsValue (in_block id loose seen v blocks)) rest
same_block k id seen v blocks loose rest more = stepped k _ _ (code.Block id) step.Nothing rest (same_next k id seen v blocks loose more)

again : (seen v : ℕ) → (nat_eq seen 0 || nat_eq v v) ≡ true
again seen v = rw (self_eq v) (or_true (nat_eq seen 0))

-- the rest of a block, all of whose pairs are seen
block_whole : (n k id seen w v blocks : ℕ) (loose : Bool) (rest : List Code) → (nat_eq seen 0 || nat_eq v w) ≡ true → seen + suc n ≡ k
    → steps_from k (AwaitsValue (in_block id loose seen w blocks)) (code.Value v ∷ (block_codes n id v ++ rest))
    ≡ drop 1 (pair_steps (suc n) (step.Block id v)) ++ steps_from k (AwaitsId (in_block id loose k v (suc blocks))) rest
unfolding block_codes pair_steps
block_whole zero k id seen w v blocks loose rest ok all = one_value k id seen w v blocks loose rest ok (omega (arith, all))
block_whole (suc n) k id seen w v blocks loose rest ok all =
    next_value k id seen w v blocks loose (code.Block id ∷ code.Value v ∷ (block_codes n id v ++ rest)) ok (omega (arith, all))
    ∙ ap (λ l. step.Nothing ∷ l) (same_block k id (suc seen) v blocks loose (code.Value v ∷ (block_codes n id v ++ rest)) (omega (arith, all))
    ∙ ap (λ l. step.Nothing ∷ l) (block_whole n k id (suc seen) v v blocks loose rest (again (suc seen) v) (omega (arith, all))))
    ∙ ap (λ l. step.Nothing ∷ (l ++ steps_from k (AwaitsId (in_block id loose k v (suc blocks))) rest)) (first_nothing n (step.Block id v))

-- the rest of a block, some of whose pairs weren't seen
block_part : (n k id seen w v blocks : ℕ) (loose : Bool) (rest : List Code) → (nat_eq seen 0 || nat_eq v w) ≡ true → seen + suc n < k
    → steps_from k (AwaitsValue (in_block id loose seen w blocks)) (code.Value v ∷ (block_codes n id v ++ rest))
    ≡ drop 1 (pair_steps (suc n) step.Nothing) ++ steps_from k (AwaitsId (in_block id loose (seen + suc n) v blocks)) rest
unfolding block_codes pair_steps
block_part zero k id seen w v blocks loose rest ok less =
    next_value k id seen w v blocks loose rest ok (omega (arith, less))
    ∙ (let e : suc seen ≡ seen + 1 = omega arith in ap (λ m. step.Nothing ∷ steps_from k (AwaitsId (in_block id loose m v blocks)) rest) e)
block_part (suc n) k id seen w v blocks loose rest ok less =
    next_value k id seen w v blocks loose (code.Block id ∷ code.Value v ∷ (block_codes n id v ++ rest)) ok (omega (arith, less))
    ∙ ap (λ l. step.Nothing ∷ l) (same_block k id (suc seen) v blocks loose (code.Value v ∷ (block_codes n id v ++ rest)) (omega (arith, less))
    ∙ ap (λ l. step.Nothing ∷ l) (block_part n k id (suc seen) v v blocks loose rest (again (suc seen) v) (omega (arith, less))))
    ∙ ap (λ l. step.Nothing ∷ (l ++ steps_from k (AwaitsId (in_block id loose (suc seen + suc n) v blocks)) rest)) (first_nothing n step.Nothing)
    ∙ (let e : suc seen + suc n ≡ seen + suc (suc n) = omega arith in ap (λ m. step.Nothing ∷ (pair_steps (suc n) step.Nothing ++ steps_from k (AwaitsId (in_block id loose m v blocks)) rest)) e)

-- ---- the next blocks
-- what the blocks from this index on give, and then, where a block was seen, the end of the phase
abbrev whole : ℕ → Bool → ℕ → ℕ → List ℕ → List InitStep
whole k seen index blocks [] = (if seen then step.Done blocks else step.Nothing) ∷ []
whole k seen index blocks (v ∷ vs) = pair_steps k (step.Block (id_at index) v) ++ whole k true (suc index) (suc blocks) vs

ready_next : (k id seen v blocks : ℕ) (loose : Bool) → (nat_eq seen k || loose) ≡ true → led_by k (AwaitsId (in_block id loose seen v blocks)) code.Ready ≡ record { next = Idle; step = step.Done blocks }
unfolding led_by
ready_next k id seen v blocks loose ends = rw ends refl

pub no_steps : (k : ℕ) (standing : Standing) → steps_from k standing [] ≡ []
unfolding steps_from
no_steps k standing = refl

ready : (k id seen v blocks : ℕ) (loose : Bool) → (nat_eq seen k || loose) ≡ true → steps_from k (AwaitsId (in_block id loose seen v blocks)) (code.Ready ∷ []) ≡ step.Done blocks ∷ []
ready k id seen v blocks loose ends = stepped k _ Idle code.Ready (step.Done blocks) [] (ready_next k id seen v blocks loose ends) ∙ ap (λ l. step.Done blocks ∷ l) (no_steps k Idle)

other_next : (k id id' seen v blocks : ℕ) (loose : Bool) → (id' ≡ id → ⊥) → id' ≡ next_id id → (nat_eq seen k || loose) ≡ true
    → led_by k (AwaitsId (in_block id loose seen v blocks)) (code.Block id') ≡ record { next = begun id' false blocks; step = step.Nothing }
unfolding led_by
other_next k id id' seen v blocks loose other next ends = rw (ne_eqb id' id other, eq-eqb id' (next_id id) next, ends) refl

next_block : (k index seen v blocks : ℕ) (loose : Bool) (rest : List Code) → (nat_eq seen k || loose) ≡ true
    → steps_from k (AwaitsId (in_block (id_at index) loose seen v blocks)) (code.Block (id_at (suc index)) ∷ rest) ≡ step.Nothing ∷ steps_from k (begun (id_at (suc index)) false blocks) rest
next_block k index seen v blocks loose rest ends =
    stepped k _ _ (code.Block (id_at (suc index))) step.Nothing rest (other_next k (id_at index) (id_at (suc index)) seen v blocks loose (λ e. omega (arith, e)) (omega arith) ends)

-- the blocks after this one
phase_goes_on : (n index seen v blocks : ℕ) (loose : Bool) (vs : List ℕ) → (nat_eq seen (suc n) || loose) ≡ true
    → steps_from (suc n) (AwaitsId (in_block (id_at index) loose seen v blocks)) (codes_from (suc n) (suc index) vs) ≡ whole (suc n) true (suc index) blocks vs
unfolding codes_from block_codes
phase_goes_on n index seen v blocks loose [] ends = ready (suc n) (id_at index) seen v blocks loose ends
phase_goes_on n index seen v blocks loose (w ∷ vs) ends =
    let k = suc n in
    let id = id_at (suc index) in
    let rest = codes_from k (suc (suc index)) vs in
    next_block k index seen v blocks loose (code.Value w ∷ (block_codes n id w ++ rest)) ends
    ∙ ap (λ l. step.Nothing ∷ l) (block_whole n k id 0 0 w blocks false rest refl (omega arith)
    ∙ ap (λ l. drop 1 (pair_steps k (step.Block id w)) ++ l) (phase_goes_on n (suc index) k w (suc blocks) false vs (whole_ends k)))
    ∙ ap (λ l. l ++ whole k true (suc (suc index)) (suc blocks) vs) (first_nothing n (step.Block id w))
  where
    whole_ends : (k : ℕ) → (nat_eq k k || false) ≡ true
    whole_ends k = rw (self_eq k) refl

-- a phase that is read from the beginning of a block on
fresh_next : (k : ℕ) (c : Code) → led_by k Fresh c ≡ record { next = after_fresh c; step = step.Nothing }
unfolding led_by
fresh_next k c = refl

phase_begins : (n index : ℕ) (vs : List ℕ) → steps_from (suc n) Fresh (codes_from (suc n) index vs) ≡ whole (suc n) false index 0 vs
unfolding codes_from block_codes
phase_begins n index [] = stepped (suc n) Fresh Idle code.Ready step.Nothing [] (fresh_next (suc n) code.Ready) ∙ ap (λ l. step.Nothing ∷ l) (no_steps (suc n) Idle)
phase_begins n index (w ∷ vs) =
    let k = suc n in
    let id = id_at index in
    let rest = codes_from k (suc index) vs in
    stepped k Fresh (begun id true 0) (code.Block id) step.Nothing (code.Value w ∷ (block_codes n id w ++ rest)) (fresh_next k (code.Block id))
    ∙ ap (λ l. step.Nothing ∷ l) (block_whole n k id 0 0 w 0 true rest refl (omega arith)
    ∙ ap (λ l. drop 1 (pair_steps k (step.Block id w)) ++ l) (phase_goes_on n index k w 1 true vs (or_true (nat_eq k k))))
    ∙ ap (λ l. l ++ whole k true (suc index) 1 vs) (first_nothing n (step.Block id w))

-- ---- from within a block on
abbrev some : ℕ → Bool
some zero = false
some (suc n) = true

-- the last so many pairs of a block, but not all
pairs_left : (m n index v : ℕ) (vs : List ℕ) → m < suc n
    → steps_from (suc n) Fresh (block_codes m (id_at index) v ++ codes_from (suc n) (suc index) vs) ≡ pair_steps m step.Nothing ++ whole (suc n) (some m) (suc index) 0 vs
unfolding block_codes pair_steps
pairs_left zero n index v vs less = phase_begins n (suc index) vs
pairs_left (suc m) n index v vs less =
    let k = suc n in
    let id = id_at index in
    let rest = codes_from k (suc index) vs in
    stepped k Fresh (begun id true 0) (code.Block id) step.Nothing (code.Value v ∷ (block_codes m id v ++ rest)) (fresh_next k (code.Block id))
    ∙ ap (λ l. step.Nothing ∷ l) (block_part m k id 0 0 v 0 true rest refl (omega (arith, less))
    ∙ ap (λ l. drop 1 (pair_steps (suc m) step.Nothing) ++ l) (phase_goes_on n index (0 + suc m) v 0 true vs (or_true (nat_eq (0 + suc m) k))))
    ∙ ap (λ l. l ++ whole k true (suc index) 0 vs) (first_nothing m step.Nothing)

-- and a value before them
value_left : (m n index v : ℕ) (vs : List ℕ) → m < suc n
    → steps_from (suc n) Fresh (code.Value v ∷ (block_codes m (id_at index) v ++ codes_from (suc n) (suc index) vs)) ≡ step.Nothing ∷ (pair_steps m step.Nothing ++ whole (suc n) (some m) (suc index) 0 vs)
value_left m n index v vs less =
    stepped (suc n) Fresh Fresh (code.Value v) step.Nothing (block_codes m (id_at index) v ++ codes_from (suc n) (suc index) vs) (fresh_next (suc n) (code.Value v))
    ∙ ap (λ l. step.Nothing ∷ l) (pairs_left m n index v vs less)

dropped_value : (m : ℕ) (last : InitStep) → step.Nothing ∷ pair_steps m step.Nothing ≡ drop 1 (pair_steps (suc m) step.Nothing)
unfolding pair_steps
dropped_value zero last = refl
dropped_value (suc m) last = refl

dropped_pair : (m p : ℕ) → drop p (pair_steps m step.Nothing) ≡ drop (suc (suc p)) (pair_steps (suc m) step.Nothing)
unfolding pair_steps
dropped_pair zero p = refl
dropped_pair (suc m) p = refl

-- what is left of a block from a place in it on
block_from : (m p n index v : ℕ) (vs : List ℕ) → m ≤ suc n → m < suc n + p → p ≤ 2 * m
    → steps_from (suc n) Fresh (drop p (block_codes m (id_at index) v) ++ codes_from (suc n) (suc index) vs) ≡ drop p (pair_steps m step.Nothing) ++ whole (suc n) (nat_le (p + 2) (2 * m)) (suc index) 0 vs
unfolding block_codes
block_from m zero n index v vs few less within = pairs_left m n index v vs (omega (arith, less)) ∙ ap (λ b. pair_steps m step.Nothing ++ whole (suc n) b (suc index) 0 vs) (some_is m)
  where
    some_is : (m : ℕ) → some m ≡ nat_le (0 + 2) (2 * m)
    some_is zero = refl
    some_is (suc m) = sym (le-leb (0 + 2) (2 * suc m) (omega arith))
block_from zero (suc p) n index v vs few less within = absurd (omega (arith, within))
block_from (suc m) (suc zero) n index v vs few less within =
    value_left m n index v vs (omega (arith, few))
    ∙ ap₂ (λ l b. l ++ whole (suc n) b (suc index) 0 vs) (dropped_value m step.Nothing) (some_is m)
  where
    some_is : (m : ℕ) → some m ≡ nat_le (1 + 2) (2 * suc m)
    some_is zero = refl
    some_is (suc m) = sym (le-leb (1 + 2) (2 * suc (suc m)) (omega arith))
block_from (suc m) (suc (suc p)) n index v vs few less within =
    block_from m p n index v vs (omega (arith, few)) (omega (arith, few)) (omega (arith, within))
    ∙ ap₂ (λ l b. l ++ whole (suc n) b (suc index) 0 vs) (dropped_pair m p) (two_on m p)
  where
    two_on : (m p : ℕ) → nat_le (p + 2) (2 * m) ≡ nat_le (suc (suc p) + 2) (2 * suc m)
    two_on m p = grind (arith, nat_tests)

-- ---- from any place on
pub length-block_codes : (m id v : ℕ) → length (block_codes m id v) ≡ 2 * m
unfolding block_codes
length-block_codes zero id v = omega arith
length-block_codes (suc m) id v = omega (arith, length-block_codes m id v)

pub length-pair_steps : (m : ℕ) (last : InitStep) → length (pair_steps m last) ≡ 2 * m
unfolding pair_steps
length-pair_steps zero last = omega arith
length-pair_steps (suc zero) last = omega arith
length-pair_steps (suc (suc m)) last = omega (arith, length-pair_steps (suc m) last)

drop_past : {A : Type 0} (n : ℕ) (front back : List A) → length front ≤ n → drop n (front ++ back) ≡ drop (n - length front) back
drop_past n [] back within = let e : n ≡ n - 0 = omega arith in ap (λ k. drop k back) e
drop_past zero (x ∷ front) back within = absurd (omega arith)
drop_past (suc n) (x ∷ front) back within = let e : n - length front ≡ suc n - suc (length front) = omega arith in drop_past n front back (omega arith) ∙ ap (λ k. drop k back) e

drop_in : {A : Type 0} (n : ℕ) (front back : List A) → n ≤ length front → drop n (front ++ back) ≡ drop n front ++ back
drop_in zero front back within = refl
drop_in (suc n) [] back within = absurd (omega arith)
drop_in (suc n) (x ∷ front) back within = drop_in n front back (omega arith)

-- once the reading has begun two places before, all blocks are there
told_whole : (k p place index blocks : ℕ) (vs : List ℕ) → p + 2 ≤ place → phase_told k p place index blocks vs ≡ whole k true index blocks vs
unfolding phase_told
told_whole k p place index blocks [] before = rw (le-leb (p + 2) place before) refl
told_whole k p place index blocks (v ∷ vs) before =
    rw (le-leb p place (omega (arith, before)))
    (ap (λ l. pair_steps k (step.Block (id_at index) v) ++ l) (told_whole k p (place + 2 * k) (suc index) (suc blocks) vs (omega (arith, before))))

-- from a block's place on
told_from : (k p place index : ℕ) (b : Bool) (vs : List ℕ) → 1 ≤ k → p ≤ place → nat_le (p + 2) place ≡ b → phase_told k p place index 0 vs ≡ whole k b index 0 vs
unfolding phase_told
told_from k p place index b [] some_times before is = rw is refl
told_from k p place index b (v ∷ vs) some_times before is =
    rw (le-leb p place before)
    (ap (λ l. pair_steps k (step.Block (id_at index) v) ++ l) (told_whole k p (place + 2 * k) (suc index) 1 vs (omega (arith, before, some_times))))

told_past : (k p place index v : ℕ) (vs : List ℕ) → place < p → phase_told k p place index 0 (v ∷ vs) ≡ pair_steps k step.Nothing ++ phase_told k p (place + 2 * k) (suc index) 0 vs
unfolding phase_told
told_past k p place index v vs after = rw (lt-leb p place after) refl

same_test : (p place k : ℕ) → place < p → nat_le (p + 2) (place + 2 * k) ≡ nat_le (p - place + 2) (2 * k)
same_test p place k on = grind (arith, nat_tests)

drop_none : {A : Type 0} (d : ℕ) (x : A) → 1 ≤ d → drop d (x ∷ []) ≡ []
drop_none zero x positive = absurd (omega arith)
drop_none (suc zero) x positive = refl
drop_none (suc (suc d)) x positive = refl

none_left : (n p place index : ℕ) → place < p → steps_from (suc n) Fresh (drop (p - place) (codes_from (suc n) index [])) ≡ drop (p - place) (phase_told (suc n) p place index 0 [])
unfolding codes_from phase_told
none_left n p place index on =
    ap (steps_from (suc n) Fresh) (drop_none (p - place) code.Ready (omega (arith, on))) ∙ no_steps (suc n) Fresh
    ∙ sym (drop_none (p - place) (if nat_le (p + 2) place then step.Done 0 else step.Nothing) (omega (arith, on)))

-- a phase that is read from a place within its first block
within_block : (n p place index v : ℕ) (vs : List ℕ) → place < p → p < place + 2 * suc n
    → steps_from (suc n) Fresh (drop (p - place) (block_codes (suc n) (id_at index) v ++ codes_from (suc n) (suc index) vs)) ≡ drop (p - place) (phase_told (suc n) p place index 0 (v ∷ vs))
within_block n p place index v vs on before =
    let k = suc n in
    let d = p - place in
    let rest = codes_from k (suc index) vs in
    let after = phase_told k p (place + 2 * k) (suc index) 0 vs in
    let in_pairs : d ≤ length (block_codes k (id_at index) v) = omega (arith, before, length-block_codes k (id_at index) v) in
    let in_steps : d ≤ length (pair_steps k step.Nothing) = omega (arith, before, length-pair_steps k step.Nothing) in
    let seen : nat_le (p + 2) (place + 2 * k) ≡ nat_le (d + 2) (2 * k) = same_test p place k on in
    ap (steps_from k Fresh) (drop_in d (block_codes k (id_at index) v) rest in_pairs)
    ∙ block_from k d n index v vs (omega arith) (omega (arith, on)) (omega (arith, before))
    ∙ ap (λ l. drop d (pair_steps k step.Nothing) ++ l) (sym (told_from k p (place + 2 * k) (suc index) (nat_le (d + 2) (2 * k)) vs (omega arith) (omega (arith, before)) seen))
    ∙ sym (drop_in d (pair_steps k step.Nothing) after in_steps)
    ∙ ap (drop d) (sym (told_past k p place index v vs on))

-- a phase that is read from a place past its first block
past_block : (n p place index v : ℕ) (vs : List ℕ) → place + 2 * suc n ≤ p
    → steps_from (suc n) Fresh (drop (p - (place + 2 * suc n)) (codes_from (suc n) (suc index) vs)) ≡ drop (p - (place + 2 * suc n)) (phase_told (suc n) p (place + 2 * suc n) (suc index) 0 vs)
    → steps_from (suc n) Fresh (drop (p - place) (block_codes (suc n) (id_at index) v ++ codes_from (suc n) (suc index) vs)) ≡ drop (p - place) (phase_told (suc n) p place index 0 (v ∷ vs))
past_block n p place index v vs past later =
    let k = suc n in
    let d = p - place in
    let rest = codes_from k (suc index) vs in
    let after = phase_told k p (place + 2 * k) (suc index) 0 vs in
    let left : d - length (block_codes k (id_at index) v) ≡ p - (place + 2 * k) = omega (arith, past, length-block_codes k (id_at index) v) in
    let left2 : d - length (pair_steps k step.Nothing) ≡ p - (place + 2 * k) = omega (arith, past, length-pair_steps k step.Nothing) in
    ap (steps_from k Fresh) (drop_past d (block_codes k (id_at index) v) rest (omega (arith, past, length-block_codes k (id_at index) v)) ∙ ap (λ e. drop e rest) left)
    ∙ later
    ∙ sym (ap (drop d) (told_past k p place index v vs (omega (arith, past)))
    ∙ drop_past d (pair_steps k step.Nothing) after (omega (arith, past, length-pair_steps k step.Nothing)) ∙ ap (λ e. drop e after) left2)

from_here : (n p place index : ℕ) (vs : List ℕ) → p ≡ place → steps_from (suc n) Fresh (drop (p - place) (codes_from (suc n) index vs)) ≡ drop (p - place) (phase_told (suc n) p place index 0 vs)
from_here n p place index vs here =
    let none : p - place ≡ 0 = omega (arith, here) in
    let not_yet : nat_le (p + 2) place ≡ false = lt-leb (p + 2) place (omega (arith, here)) in
    ap (λ d. steps_from (suc n) Fresh (drop d (codes_from (suc n) index vs))) none
    ∙ phase_begins n index vs ∙ sym (told_from (suc n) p place index false vs (omega arith) (omega (arith, here)) not_yet)
    ∙ ap (λ d. drop d (phase_told (suc n) p place index 0 vs)) (sym none)

pub phase_from : (n p place index : ℕ) (vs : List ℕ) → place ≤ p
    → steps_from (suc n) Fresh (drop (p - place) (codes_from (suc n) index vs)) ≡ drop (p - place) (phase_told (suc n) p place index 0 vs)
unfolding codes_from
phase_from n p place index [] after = elim (cases_lt place p) [
  | inl on ↦ none_left n p place index on
  | inr here ↦ from_here n p place index [] (omega (arith, after, here))
]
phase_from n p place index (v ∷ vs) after = elim (cases_lt place p) [
  | inl on ↦ elim (cases_lt p (place + 2 * suc n)) [
    | inl before ↦ within_block n p place index v vs on before
    | inr past ↦ past_block n p place index v vs past (phase_from n p (place + 2 * suc n) (suc index) vs past)
  ]
  | inr here ↦ from_here n p place index (v ∷ vs) (omega (arith, after, here))
]

pub whole_phase : (k p : ℕ) (nibbles : List ℕ) → 1 ≤ k → steps_from k Fresh (drop p (codes_from k 0 nibbles)) ≡ drop p (phase_told k p 0 0 0 nibbles)
whole_phase zero p nibbles some_times = absurd (omega arith)
whole_phase (suc n) p nibbles some_times =
    let all : p - 0 ≡ p = omega arith in
    ap (λ d. steps_from (suc n) Fresh (drop d (codes_from (suc n) 0 nibbles))) (sym all)
    ∙ phase_from n p 0 0 nibbles (omega arith) ∙ ap (λ d. drop d (phase_told (suc n) p 0 0 0 nibbles)) all
