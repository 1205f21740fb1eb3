-- Units of different names are different units of the rules.
use Rattle.std.proofs.Common.{◌≡◌, ℕ, zero, suc, ◌<◌, cond, List, [], ◌∷◌, get_or, refl, sym, ap, ◌∙◌, ◌==◌, arith, lit<}
use Rattle.rules.specs.declared.unit.UnitId.TheVariants as rules
use Rattle.rules.specs.declared.unit.UnitId.{UnitId}
use Rattle.rules.specs.declared.unit.Module.{Module}
use Rattle.rules.specs.declared.unit.Module.TheVariants.{Input, BlockInit, BlockDone, Main, Init, Clear, Halt}
use Rattle.rules.specs.declared.unit.NamedUnit as named
use Rattle.rules.specs.declared.unit.NamedUnit.TheVariants as named_unit
use Rattle.rules.specs.Named.{module_number, unit_named}

-- the module of a number; HALT where none has it
abbrev pub module_at : ℕ → Module
module_at n = cond (n == 0) Input (cond (n == 1) BlockInit (cond (n == 2) BlockDone (cond (n == 3) Main (cond (n == 4) Init (cond (n == 5) Clear Halt)))))

-- the name of a unit
abbrev pub named_by : UnitId → named.NamedUnit
named_by (rules.Module n) = named_unit.Module (module_at n)
named_by (rules.Mechanism k) = named_unit.Mechanism k

-- the module of a module's number is that module
pub module_back : (m : Module) → module_at (module_number m) ≡ m
module_back Input = refl
module_back BlockInit = refl
module_back BlockDone = refl
module_back Main = refl
module_back Init = refl
module_back Clear = refl
module_back Halt = refl

-- the name of the unit that a name stands for is that name
pub back : (u : named.NamedUnit) → named_by (unit_named u) ≡ u
back (named_unit.Module m) = ap named_unit.Module (module_back m)
back (named_unit.Mechanism k) = refl

-- two names of one unit are one
pub unit_named-injective : (u v : named.NamedUnit) → unit_named u ≡ unit_named v → u ≡ v
unit_named-injective u v e = sym (back u) ∙ (ap named_by e ∙ back v)

-- there are seven modules
pub module_number-below : (m : Module) → module_number m < 7
module_number-below Input = lit< tt
module_number-below BlockInit = lit< tt
module_number-below BlockDone = lit< tt
module_number-below Main = lit< tt
module_number-below Init = lit< tt
module_number-below Clear = lit< tt
module_number-below Halt = lit< tt

-- two modules of one number are one
pub module_number-injective : (m n : Module) → module_number m ≡ module_number n → m ≡ n
module_number-injective m n e = sym (module_back m) ∙ (ap module_at e ∙ module_back n)

-- the modules in their order
abbrev pub all_modules : List Module
all_modules = Input ∷ BlockInit ∷ BlockDone ∷ Main ∷ Init ∷ Clear ∷ Halt ∷ []

-- each module stands at the place of its number
pub module_number-nth : (i : ℕ) → i < 7 → module_number (get_or all_modules i Input) ≡ i
module_number-nth zero h = refl
module_number-nth (suc zero) h = refl
module_number-nth (suc (suc zero)) h = refl
module_number-nth (suc (suc (suc zero))) h = refl
module_number-nth (suc (suc (suc (suc zero)))) h = refl
module_number-nth (suc (suc (suc (suc (suc zero))))) h = refl
module_number-nth (suc (suc (suc (suc (suc (suc zero)))))) h = refl
module_number-nth (suc (suc (suc (suc (suc (suc (suc i))))))) h = absurd (omega arith)
