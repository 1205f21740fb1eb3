-- The block part of a scan, at a phase that is known by an equation. Assumes nothing.
use Rattle.std.proofs.Common.{◌≡◌, ℕ, Bool, sym, subst}
use Rattle.rules.specs.declared.session.Phase.{Phase}
use Rattle.rules.specs.declared.session.Phase.TheVariants.{Preparing, Closing}
use Rattle.rules.specs.declared.unit.UnitId.TheVariants.{Module}
use Rattle.rules.specs.Program.{Program, block_init, block_done}
use Rattle.rules.specs.Run.{Memory, Passes}
use Rattle.rules.specs.Session.{BlockPart, prepares, closes, after_preparing, after_closing}

module _ {p : Program} {m m' : Memory} {n : ℕ} {whole : Bool} {b a : Phase} where
  pub preparing : b ≡ Preparing → Passes p (Module block_init) m n whole m' → a ≡ after_preparing whole → BlockPart p m n m' b a
  preparing e q f = subst (λ (x : Phase). BlockPart p m n m' x a) (sym e) (prepares q f)

  pub closing : b ≡ Closing → Passes p (Module block_done) m n whole m' → a ≡ after_closing whole → BlockPart p m n m' b a
  closing e q f = subst (λ (x : Phase). BlockPart p m n m' x a) (sym e) (closes q f)
