-- An evaluator of the rules with its soundness, and the gate program run by it. Assumes nothing.
use Rattle.std.proofs.Common.{◌≡◌, ℕ, zero, suc, Bool, true, false, cond, ◌&&◌, eqb, ltb, length, Some, None, Option, sym, refl, ap, subst, inl, arith}
use Rattle.std.proofs.lemmas.Bool.{ltb-true, eqb-true, and_parts}
use Rattle.rules.specs.Program.{Program, op_at, input_module, main_module, init_module, unit_of, Own}
use Rattle.rules.specs.declared.unit.UnitId.{UnitId}
use Rattle.rules.specs.declared.unit.UnitId.TheVariants.{Module, Mechanism}
use Rattle.rules.specs.Run.{Memory, Place, at, over, Config, enter, effected, carried, Step, step, Runs, here, on, Passes}
use Rattle.rules.specs.declared.session.Phase.{Phase}
use Rattle.rules.specs.declared.session.Phase.TheVariants.{Idle}
use Rattle.rules.specs.declared.session.Answer.TheVariants.{Done}
use Rattle.rules.specs.Session.{Machine, fresh, with_inputs, BlockPart, idle, Scans, Starts}
use Rattle.theory.specs.Gate.{gate, inputs_of, GateWorks}

abbrev same_part : UnitId → UnitId → Bool
same_part (Module a) (Module b) = eqb a b
same_part (Module a) (Mechanism b) = false
same_part (Mechanism a) (Module b) = false
same_part (Mechanism a) (Mechanism b) = eqb a b

same_part_true : (u v : UnitId) → same_part u v ≡ true → u ≡ v
same_part_true (Module a) (Module b) h = ap Module (eqb-true a b h)
same_part_true (Module a) (Mechanism b) h = cc
same_part_true (Mechanism a) (Module b) h = cc
same_part_true (Mechanism a) (Mechanism b) h = ap Mechanism (eqb-true a b h)

abbrev owns : Program → UnitId → ℕ → Bool
owns p u l = ltb l (length p.lines) && same_part (unit_of p l) u

owns_true : (p : Program) (u : UnitId) (l : ℕ) → owns p u l ≡ true → Own p u l
owns_true p u l h =
    let g = and_parts (ltb l (length p.lines)) (same_part (unit_of p l) u) h in
    record { within = ltb-true l (length p.lines) g.0; part = same_part_true (unit_of p l) u g.1 }

abbrev next_at : Program → Config → Place → Option Config
next_at p c (over b) = None
next_at p c (at u l) = cond (owns p u l) (carried p u l c.memory (effected p l c.registers c.memory (op_at p l))) None

abbrev and_then : Program → Option Config → Option Config
and_then p None = None
and_then p (Some c) = next_at p c c.place

abbrev pub eval : Program → ℕ → Config → Option Config
eval p zero c = Some c
eval p (suc n) c = and_then p (eval p n c)

next_sound : (p : Program) (c d : Config) (q : Place) → c.place ≡ q → next_at p c q ≡ Some d → Step p c d
next_sound p c d (over b) h e = absurd (let z : ◌≡◌ {A = ℕ} 0 1 = cc in omega arith)
next_sound p c d (at u l) h e = go (owns p u l) refl e
  where
    go : (b : Bool) → owns p u l ≡ b → cond b (carried p u l c.memory (effected p l c.registers c.memory (op_at p l))) None ≡ Some d → Step p c d
    go true o e = step h (owns_true p u l o) e
    go false o e = absurd (let z : ◌≡◌ {A = ℕ} 0 1 = cc in omega arith)

pub eval_sound : (p : Program) (n : ℕ) (c d : Config) → eval p n c ≡ Some d → Runs p c n d
eval_sound p zero c d h = subst (λ (x : Config). Runs p c 0 x) (cc h) here
eval_sound p (suc n) c d h = go (eval p n c) refl h (eval_sound p n c)
  where
    go : (o : Option Config) → eval p n c ≡ o → and_then p o ≡ Some d → ((f : Config) → eval p n c ≡ Some f → Runs p c n f) → Runs p c (suc n) d
    go None q h ih = absurd (let z : ◌≡◌ {A = ℕ} 0 1 = cc in omega arith)
    go (Some f) q h ih = on (ih f q) (next_sound p f d f.place refl h)

abbrev result : Option Config → Config → Config
result None c = c
result (Some d) c = d

abbrev ending : Program → UnitId → Memory → ℕ → Config
ending p u m n = result (eval p n (enter p u m)) (enter p u m)

pub passes : (p : Program) (u : UnitId) (m : Memory) (n : ℕ) (b : Bool) → eval p n (enter p u m) ≡ Some (ending p u m n) → (ending p u m n).place ≡ over b → Passes p u m n b (ending p u m n).memory
passes p u m n b h o = record { last = ending p u m n; runs = eval_sound p n (enter p u m) (ending p u m n) h; over_at = o; memory_after = refl }

abbrev started : Machine
started = record { memory = (ending gate (Module init_module) (fresh gate) 1).memory; phase = Idle }

abbrev fed : Machine → ℕ → Memory
fed before b = (ending gate (Module input_module) (with_inputs before.memory (inputs_of b)) 0).memory

abbrev scanned : Machine → ℕ → ℕ → Machine
scanned before b n = record { memory = (ending gate (Module main_module) (fed before b) n).memory; phase = Idle }

abbrev one : Machine
one = scanned started 1 5

abbrev two : Machine
two = scanned one 1 5

abbrev three : Machine
three = scanned two 2 7

starts : Starts gate (Done Idle) started
starts = record { steps = 1; init_pass = passes gate (Module init_module) (fresh gate) 1 true refl refl; phase_zero = refl; answers = refl }

scans : (before : Machine) (b n : ℕ) → before.phase ≡ Idle → Passes gate (Module input_module) (with_inputs before.memory (inputs_of b)) 0 true (fed before b) → Passes gate (Module main_module) (fed before b) n true (scanned before b n).memory → Scans gate (inputs_of b) before n (scanned before b n)
scans before b n z i m = record { after_input = fed before b; after_block = fed before b; input_steps = 0; block_steps = 0; main_steps = n; input_pass = i; block_part = subst (λ (q : Phase). BlockPart gate (fed before b) 0 (fed before b) q Idle) (sym z) (idle (inl refl) refl refl); main_pass = m; counted = omega arith }

fed_by : (before : Machine) (b : ℕ) → Passes gate (Module input_module) (with_inputs before.memory (inputs_of b)) 0 true (fed before b)
fed_by before b = passes gate (Module input_module) (with_inputs before.memory (inputs_of b)) 0 true refl refl

first_scan : Scans gate (inputs_of 1) started 5 one
first_scan = scans started 1 5 refl (fed_by started 1) (passes gate (Module main_module) (fed started 1) 5 true refl refl)

second_scan : Scans gate (inputs_of 1) one 5 two
second_scan = scans one 1 5 refl (fed_by one 1) (passes gate (Module main_module) (fed one 1) 5 true refl refl)

third_scan : Scans gate (inputs_of 2) two 7 three
third_scan = scans two 2 7 refl (fed_by two 2) (passes gate (Module main_module) (fed two 2) 7 true refl refl)

pub gate_works : GateWorks
gate_works = (started, one, two, three, starts, (first_scan, refl), (second_scan, refl), (third_scan, refl))
