-- The programs that the tests are made of. Assumes nothing.
use Rattle.std.specs.Prelude.{◌≡◌, ℕ, List, replicate, vec_items}
use Rattle.rules.specs.declared.line.Line.{Line}
use Rattle.image.specs.declared.program.Program.{Program}

-- a program with 18 data bytes of 0, and the activation bits, module lengths and lines given
pub record Built (p : Program) (activation lengths : List ℕ) (lines : List Line) : Type 0 where
  pub initial_is : vec_items p.initial ≡ replicate 18 0
  pub activation_is : vec_items p.activation ≡ activation
  pub lengths_are : vec_items p.lengths ≡ lengths
  pub lines_are : vec_items p.lines ≡ lines
