-- A line whose code stands for no name has no operation.
use Rattle.std.specs.Prelude.{◌≡◌, false, None, refl}
use Rattle.rules.specs.declared.line.Line.{Line}
use Rattle.rules.specs.declared.op.Mnemonic.{Mnemonic}
use Rattle.rules.specs.declared.op.Mnemonic.TheVariants as name
use Rattle.rules.specs.Op.{is, decode}

-- none of the names has an operation for it
pub unnamed : (x : Line) → ((n : Mnemonic) → is n x ≡ false) → decode x ≡ None
unnamed x h =
    rw (h name.Ldr, h name.La, h name.Lo, h name.Lx, h name.Ca, h name.Wr, h name.Fl, h name.Fl1, h name.Jl0, h name.Jl1, h name.Ex, h name.Ex0, h name.Ex1, h name.Lod, h name.Sto, h name.Ad, h name.Abs, h name.Ge, h name.MechBegin, h name.MechEnd, h name.MechInit) refl
