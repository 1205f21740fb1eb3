use Rattle.std.proofs.Common.{ℕ, sym, subst}
use Rattle.std.proofs.lemmas.Result.{err_from_is_err_and}
use Rattle.rules.specs.Verdict.{IsBadDepth, MissesInit, TextRefused}
use Rattle.image.specs.declared.program.Program.{Program}
use Rattle.image.specs.Held.{meant}
use Rattle.text.specs.declared.fault.CheckFault.{CheckFault}
use Rattle.text.specs.declared.fault.CheckFault.TheVariants.{Text, Memory}
use Rattle.text.specs.Finds.{Finds}
use Rattle.text.specs.Verdicts.{RefusedBy, Told}
use Rattle.verdict.specs.Judged.{TellsMissed}
use Rattle.verdict.proofs.Refused.{refused_depth, refused_init, refused_clear, unbroken}
use Rattle.verdict.proofs.judging.judge.Goals as goal

-- what is told of a module is told of the program, where the module is the first that misses
told : (q : Program) (m : ℕ) → (MissesInit (meant q) m → TextRefused (meant q) 14 m) → (e : CheckFault) → TellsMissed (meant q) m e → Told q e
told q m f (Text e) t = subst (RefusedBy (meant q)) (sym t.0) (f t.1)
told q m f Memory t = tt

pub returns-in-Some : goal.returns-in-Some
returns-in-Some c =
    let f = c.args.formed in
    let p = meant f.layout.program in
    let found = subst (Finds (IsBadDepth p)) c.in-Some.is c.in_ok-line.ensures in
    subst (Told f.layout.program) (sym c.into.ensures) (refused_depth p f.unbroken c.in-Some.line found.0 found.1)

pub returns-in_err-initialised : goal.returns-in_err-initialised
returns-in_err-initialised c =
    let f = c.args.formed in
    let p = meant f.layout.program in
    let level = subst (Finds (IsBadDepth p)) c.in_default.is c.in_ok-line.ensures in
    let e = err_from_is_err_and c.from_residual-in_err-initialised.result c.from_residual-in_err-initialised.ensures.1 in
    rw e.1 (subst (Told f.layout.program) (sym e.2) (told f.layout.program 4 (refused_init p f.unbroken level) c.in_err-initialised.field-0.0 c.in_err-initialised.ensures))

pub returns-in_err-initialised-2 : goal.returns-in_err-initialised-2
returns-in_err-initialised-2 c =
    let f = c.args.formed in
    let p = meant f.layout.program in
    let level = subst (Finds (IsBadDepth p)) c.in_default.is c.in_ok-line.ensures in
    let e = err_from_is_err_and c.from_residual-in_err-initialised-2.result c.from_residual-in_err-initialised-2.ensures.1 in
    rw e.1 (subst (Told f.layout.program) (sym e.2) (told f.layout.program 5 (refused_clear p f.unbroken level c.in_ok-initialised.ensures) c.in_err-initialised-2.field-0.0 c.in_err-initialised-2.ensures))

pub invariant_of-result : goal.invariant_of-result
invariant_of-result c =
    let f = c.args.formed in
    let p = meant f.layout.program in
    let level = subst (Finds (IsBadDepth p)) c.in_default.is c.in_ok-line.ensures in
    record { unbroken = unbroken p f.unbroken level c.in_ok-initialised.ensures c.in_ok-initialised-2.ensures }
