-- The longest scan, from the bounds of its units, which are small. Assumes nothing.
use Rattle.std.proofs.Common.{◌≡◌, ℕ, ◌+◌, ◌<◌, ◌≤◌, max, refl, subst, inl, inr, arith}
use Rattle.std.proofs.lemmas.Bool.{cases_lt}
use Rattle.rules.specs.declared.unit.UnitId.TheVariants.{Module}
use Rattle.rules.specs.declared.unit.Module.TheVariants.{BlockInit, BlockDone}
use Rattle.rules.specs.Program.{Program, input_module, block_init, block_done, main_module}
use Rattle.rules.specs.Route.{Takes, BlockTakes, ScanTakes, Greatest}
use Rattle.image.specs.Held.{meant}
use Rattle.text.specs.declared.formed.Formed.{Formed}
use Rattle.text.proofs.Shape.{formed_by_rules}
use Rattle.theory.proofs.Text.{named, end_within}
use Rattle.theory.proofs.Orderly.{orderly}
use Rattle.theory.proofs.Ends.{takes_bound}
use Rattle.walk.proofs.Givens.{lines_few}
use Rattle.certificate.specs.Scans.{LongerBlock}

-- a module of a formed program has few steps
pub few_steps : (f : Formed) (t n : ℕ) → t < 7 → Greatest (Takes (meant f.layout.program) (Module t)) n → n ≤ 2048
few_steps f t n h g =
    let p = meant f.layout.program in
    let by = formed_by_rules f in
    let real = named p by.shaped t h in
    let a = takes_bound p by.shaped (orderly p by) t n real g.attained in
    let b = end_within p t by.shaped.all_lines in
    let m = lines_few f in
    omega arith

module _ (p : Program) where
  block_within : {b c : ℕ} → Greatest (Takes p (Module block_init)) b → Greatest (Takes p (Module block_done)) c → (n : ℕ) → BlockTakes p n → n ≤ max b c
  block_within before behind n (inl e) = omega arith
  block_within before behind n (inr (inl t)) = let h = before.none_above n t in omega arith
  block_within before behind n (inr (inr t)) = let h = behind.none_above n t in omega arith

  -- the block part's steps, from those of its two modules
  block_greatest : {b c : ℕ} → Greatest (Takes p (Module block_init)) b → Greatest (Takes p (Module block_done)) c → Greatest (BlockTakes p) (max b c)
  block_greatest {b} {c} before behind = record {
    none_above = block_within before behind;
    attained = elim (cases_lt b c) [ inl h ↦ (let e : c ≡ max b c = omega arith in subst (BlockTakes p) e (inr (inr behind.attained))) | inr h ↦ (let e : b ≡ max b c = omega arith in subst (BlockTakes p) e (inr (inl before.attained))) ];
  }

  -- the module with more steps has as many as the block part
  pub longer_init : {b c : ℕ} → Greatest (Takes p (Module block_init)) b → Greatest (Takes p (Module block_done)) c → c ≤ b → LongerBlock p BlockInit
  longer_init {b} {c} before behind h = record {
    which = inl refl;
    most = λ n g. (let x = g.none_above b before.attained in let y = before.none_above n g.attained in let e : max b c ≡ n = omega arith in subst (Greatest (BlockTakes p)) e (block_greatest before behind));
  }

  pub longer_done : {b c : ℕ} → Greatest (Takes p (Module block_init)) b → Greatest (Takes p (Module block_done)) c → b < c → LongerBlock p BlockDone
  longer_done {b} {c} before behind h = record {
    which = inr refl;
    most = λ n g. (let x = g.none_above c behind.attained in let y = behind.none_above n g.attained in let e : max b c ≡ n = omega arith in subst (Greatest (BlockTakes p)) e (block_greatest before behind));
  }

  -- a scan's steps, from those of its parts
  pub parts_greatest : {a b d : ℕ} → Greatest (Takes p (Module input_module)) a → Greatest (BlockTakes p) b → Greatest (Takes p (Module main_module)) d → Greatest (ScanTakes p) (a + b + d)
  parts_greatest {a} {b} {d} input block main = record {
    none_above = λ n s. (let e = s.adds_up in let h = input.none_above s.input s.input_takes in let g = block.none_above s.block s.block_takes in let k = main.none_above s.main s.main_takes in omega arith);
    attained = record { input = a; block = b; main = d; input_takes = input.attained; block_takes = block.attained; main_takes = main.attained; adds_up = refl };
  }

  pub scan_greatest : {a b c d : ℕ} → Greatest (Takes p (Module input_module)) a → Greatest (Takes p (Module block_init)) b → Greatest (Takes p (Module block_done)) c → Greatest (Takes p (Module main_module)) d → Greatest (ScanTakes p) (a + max b c + d)
  scan_greatest input before behind main = parts_greatest input (block_greatest before behind) main
