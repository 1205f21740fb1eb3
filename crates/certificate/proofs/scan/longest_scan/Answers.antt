use Rattle.std.proofs.Common.{ℕ, List, get_or, sym, subst}
use Rattle.rules.specs.declared.unit.UnitId.TheVariants.{Mechanism}
use Rattle.rules.specs.Route.{Takes, Greatest}
use Rattle.image.specs.Held.{meant}
use Rattle.certificate.proofs.Scanning.{parts_greatest}
use Rattle.certificate.proofs.scan.longest_scan.Goals as goal

pub route_of-requires-3-clause-bounded : goal.route_of-requires-3-clause-bounded
route_of-requires-3-clause-bounded c e k h =
    subst (λ (xs : List ℕ). Greatest (Takes (meant c.args.program.now.formed.layout.program) (Mechanism k)) (get_or xs k 0)) (sym c.deref-3.ensures.value) (c.in_ok-bounds.ensures.each k h)

pub returns : goal.returns
returns c =
    let p = meant c.args.program.now.formed.layout.program in
    let input = c.in_ok-input.ensures in
    let which = c.in_ok-block_module.ensures in
    let block = c.in_ok-block.ensures in
    let main = c.in_ok-main.ensures in
    record {
      input_steps = input.steps;
      block_steps = block.steps;
      main_steps = main.steps;
      input_route = input.route;
      input_takes = input.takes;
      block_module = which.which;
      block_route = block.route;
      block_takes = block.takes;
      main_route = main.route;
      main_takes = main.takes;
      longest = parts_greatest p input.most (which.most block.steps block.most) main.most;
      each_mechanism = c.in_ok-mechanisms.ensures;
    }
