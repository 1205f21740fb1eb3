use Rattle.std.proofs.Common.{rules}
use Rattle.rules.specs.declared.op.Op.TheVariants.{Ldr, Fl, Fl1, Lod, Sto, Ad, Abs, Ge}
use Rattle.rules.proofs.Decoding.{unnamed}
use Rattle.rules.proofs.line.Line.decode.Goals as goal

pub returns-in_err-mnemonic : goal.returns-in_err-mnemonic
returns-in_err-mnemonic c = let e = unnamed c.args.self c.in_err-mnemonic.ensures in search rules

pub returns-in-Ldr : goal.returns-in-Ldr
returns-in-Ldr c = let e = c.negation.ensures (λ s. Ldr s c.args.self.operand) in search rules

pub returns-in-Fl : goal.returns-in-Fl
returns-in-Fl c = let e = c.negation-in-Fl.ensures (λ s. Fl s c.args.self.operand) in search rules

pub returns-in-Fl1 : goal.returns-in-Fl1
returns-in-Fl1 c = let e = c.negation-in-Fl1.ensures (λ s. Fl1 s c.args.self.operand) in search rules

pub returns-in-Lod : goal.returns-in-Lod
returns-in-Lod c = let e = c.named.ensures (λ w. Lod w c.args.self.operand) in search rules

pub returns-in-Sto : goal.returns-in-Sto
returns-in-Sto c = let e = c.named-in-Sto.ensures (λ w. Sto w c.args.self.operand) in search rules

pub returns-in-Ad : goal.returns-in-Ad
returns-in-Ad c = let e = c.named-in-Ad.ensures (λ w. Ad w c.args.self.operand) in search rules

pub returns-in-Ge : goal.returns-in-Ge
returns-in-Ge c = let e = c.named-in-Ge.ensures (λ w. Ge w c.args.self.operand) in search rules

pub returns-in-Abs : goal.returns-in-Abs
returns-in-Abs c = let e = c.named-in-Abs.ensures (λ w. Abs w) in search rules
