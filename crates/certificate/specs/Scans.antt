-- The routes of a longest scan. Assumes nothing.
use Rattle.std.specs.Prelude.{◌≡◌, ℕ, ◌+◌, ◌<◌, ◌⊎◌, List, reverse, length, vec_items, Vec, slice_index_or}
use Rattle.std.specs.declared.alloc.Global.{Global}
use Rattle.rules.specs.declared.unit.UnitId.TheVariants.{Module, Mechanism}
use Rattle.rules.specs.declared.unit.Module as named
use Rattle.rules.specs.declared.unit.Module.TheVariants.{BlockInit, BlockDone}
use Rattle.rules.specs.Named.{module_number}
use Rattle.rules.specs.Program.{Program, input_module, main_module}
use Rattle.rules.specs.Route.{Route, Steps, Takes, BlockTakes, ScanTakes, Greatest}
use Rattle.certificate.specs.declared.contents.LongestScan.{LongestScan}
use Rattle.certificate.specs.Longest.{Longest}

-- module m is one of a scan's block part, and its routes have as many steps as that part can have
pub record LongerBlock (p : Program) (m : named.Module) : Type 0 where
  pub which : (m ≡ BlockInit) ⊎ (m ≡ BlockDone)
  pub most : (n : ℕ) → Greatest (Takes p (Module (module_number m))) n → Greatest (BlockTakes p) n

-- a longest route of each mechanism
pub record MechanismRoutes (p : Program) (routes : List (Vec ℕ Global)) : Type 0 where
  pub long : length routes ≡ length p.activation
  pub each : (k : ℕ) (other : Vec ℕ Global) → k < length p.activation → Longest p (Mechanism k) (reverse (vec_items (slice_index_or routes k other)))

-- the routes of one scan, with as many steps as any scan's, and a longest route of each mechanism
pub record ScanRoutes (p : Program) (s : LongestScan) : Type 0 where
  pub input_steps : ℕ
  pub block_steps : ℕ
  pub main_steps : ℕ
  pub input_route : Route p (Module input_module) (reverse (vec_items s.input))
  pub input_takes : Steps p (reverse (vec_items s.input)) input_steps
  pub block_module : (s.block_module ≡ BlockInit) ⊎ (s.block_module ≡ BlockDone)
  pub block_route : Route p (Module (module_number s.block_module)) (reverse (vec_items s.block))
  pub block_takes : Steps p (reverse (vec_items s.block)) block_steps
  pub main_route : Route p (Module main_module) (reverse (vec_items s.main))
  pub main_takes : Steps p (reverse (vec_items s.main)) main_steps
  pub longest : Greatest (ScanTakes p) (input_steps + block_steps + main_steps)
  pub each_mechanism : MechanismRoutes p (vec_items s.mechanisms)
