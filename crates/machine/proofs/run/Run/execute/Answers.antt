use Rattle.std.proofs.Common.{vec_items, sym, ◌∙◌, arith}
use Rattle.std.proofs.lemmas.List.{with_items_is}
use Rattle.lines.specs.Views.{registers_of, turn_of}
use Rattle.machine.specs.Standing.{program_in, unit_in, registers_in, memory_in}
use Rattle.verdict.proofs.Kept.{accepted}
use Rattle.machine.proofs.Lookups.{line_read, effect_read}
use Rattle.machine.proofs.Executions.{mechanism_inside, served, stepped}
use Rattle.machine.proofs.run.Run.execute.Goals as goal

pub step-turn-requires-clause-mechanism : goal.step-turn-requires-clause-mechanism
step-turn-requires-clause-mechanism c =
    let a = c.args.self.now.program.now in
    let within = c.requires.own.within in
    rw (line_read a.formed c.args.line within c.index.result.now c.index.ensures, c.deref.ensures.value)
    (mechanism_inside (program_in c.args.self.now) (accepted a) c.args.line within)

pub take_turn-requires-clause-turn : goal.take_turn-requires-clause-turn
take_turn-requires-clause-turn c =
    let s = c.args.self.now in
    let same = effect_read s.program.now.formed c.args.line c.requires.own.within (registers_in s) (vec_items s.memory.now.bytes) c.deref_mut.result.now c.index-2.result.now c.index.result.now c.deref.result.now c.index-2.ensures c.index.ensures c.deref.ensures.value c.deref_mut.ensures.value in
    served (program_in s) (accepted s.program.now) c.args.line c.requires.own.within (registers_in s) (registers_of c.step-turn.new.registers) (vec_items s.memory.now.bytes) c.step-turn.new.bytes c.step-turn.result (sym same ∙ c.step-turn.ensures)

pub returns-clause-step : goal.returns-clause-step
returns-clause-step c =
    let s = c.args.self.now in
    let bytes = c.step-turn.new.bytes in
    let same = effect_read s.program.now.formed c.args.line c.requires.own.within (registers_in s) (vec_items s.memory.now.bytes) c.deref_mut.result.now c.index-2.result.now c.index.result.now c.deref.result.now c.index-2.ensures c.index.ensures c.deref.ensures.value c.deref_mut.ensures.value in
    rw (c.take_turn.ensures.holds, with_items_is s.memory.now.bytes bytes (omega arith))
    (stepped (program_in s) (unit_in s) c.args.line (registers_in s) (registers_of c.step-turn.new.registers) (memory_in s) bytes (turn_of c.step-turn.result) c.requires.own (sym same ∙ c.step-turn.ensures))
