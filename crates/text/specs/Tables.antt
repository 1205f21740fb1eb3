-- What a formed program keeps, and what its tables say. Assumes nothing.
use Rattle.std.specs.Prelude.{◌≡◌, ℕ, ◌<◌, ◌≤◌, Bool, true, false, List, length, ◌==◌, slice_index, slice_index_or}
use Rattle.rules.specs.Refusal.{rule_number}
use Rattle.rules.specs.declared.refusal.Rule.TheVariants.{BadInit}
use Rattle.rules.specs.declared.unit.UnitId.{UnitId}
use Rattle.rules.specs.declared.unit.UnitId.TheVariants.{Module, Mechanism}
use Rattle.rules.specs.Program.{Program, module_first, begin_line, end_line, flag_at, unit_of}
use Rattle.rules.specs.Verdict.{Breaks}
use Rattle.rules.specs.Named.{unit_named}
use Rattle.text.specs.declared.bracket.Bracket.{Bracket}
use Rattle.text.specs.declared.marks.Mark.{Mark}
use Rattle.text.specs.Marks.{mark_at}

-- no rule of the text up to that of MECH_INIT is broken
abbrev pub Unbroken : Program → Type 0
Unbroken p = (rule place : ℕ) → rule ≤ rule_number BadInit → Breaks p rule place → ⊥

-- the first line of each module, and the number of lines behind them
abbrev pub StartsAre : Program → List ℕ → Type 0
StartsAre p starts = (m : ℕ) → m < 8 → slice_index starts m ≡ module_first p m

-- what stands where no mechanism is
abbrev pub no_bracket : Bracket
no_bracket = record { begin = 0; end = 0 }

-- where mechanism k is begun and ended
abbrev pub bracket_at : List Bracket → ℕ → Bracket
bracket_at brackets k = slice_index_or brackets k no_bracket

-- the MECH_BEGIN of each mechanism
abbrev pub BeginsAre : Program → List Bracket → Type 0
BeginsAre p brackets = (k : ℕ) → k < length p.activation → (bracket_at brackets k).begin ≡ begin_line p k

-- the MECH_END of each mechanism
abbrev pub EndsAre : Program → List Bracket → Type 0
EndsAre p brackets = (k : ℕ) → k < length p.activation → (bracket_at brackets k).end ≡ end_line p k

-- the text flag at each line
abbrev pub FlagsAre : Program → List Mark → Type 0
FlagsAre p marks = (l : ℕ) → l < length p.lines → (mark_at marks l).flag ≡ flag_at p l

-- whether two units are the same
abbrev pub same_unit : UnitId → UnitId → Bool
same_unit (Module m) (Module n) = m == n
same_unit (Module m) (Mechanism k) = false
same_unit (Mechanism k) (Module m) = false
same_unit (Mechanism j) (Mechanism k) = j == k

-- the unit of each line
abbrev pub UnitsAre : Program → List Mark → Type 0
UnitsAre p marks = (l : ℕ) → l < length p.lines → same_unit (unit_named (mark_at marks l).unit) (unit_of p l) ≡ true
