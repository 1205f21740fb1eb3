-- The modules and the units as the code names them. Assumes nothing.
use Rattle.std.specs.Prelude.{◌≡◌, ℕ, ◌≤◌, Result, MatchResult}
use Rattle.rules.specs.declared.unit.UnitId.TheVariants as rules
use Rattle.rules.specs.declared.unit.UnitId.{UnitId}
use Rattle.rules.specs.Program.{input_module, block_init, block_done, main_module, init_module, clear_module, halt_module}
use Rattle.rules.specs.declared.unit.Module.{Module}
use Rattle.rules.specs.declared.unit.Module.TheVariants.{Input, BlockInit, BlockDone, Main, Init, Clear, Halt}
use Rattle.rules.specs.declared.unit.NoModule.{NoModule}
use Rattle.rules.specs.declared.unit.NamedUnit as named
use Rattle.rules.specs.declared.unit.NamedUnit.TheVariants as named_unit

-- the number of a module, which is its place in the text
abbrev pub module_number : Module → ℕ
module_number Input = input_module
module_number BlockInit = block_init
module_number BlockDone = block_done
module_number Main = main_module
module_number Init = init_module
module_number Clear = clear_module
module_number Halt = halt_module

-- the module of a number, or the word that none has it
abbrev pub IsModuleOf : ℕ → Result Module NoModule → Type 0
IsModuleOf n r = MatchResult r (λ m. n ≡ module_number m) (λ _. 7 ≤ n)

-- the unit of the rules that a name stands for
abbrev pub unit_named : named.NamedUnit → UnitId
unit_named (named_unit.Module m) = rules.Module (module_number m)
unit_named (named_unit.Mechanism k) = rules.Mechanism k
