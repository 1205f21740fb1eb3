-- The worked programs, all in one result. Assumes nothing.
use Rattle.std.specs.Prelude.{[], ◌∷◌, true, false}
use Rattle.rules.specs.Effect.{follows}
use Rattle.rules.specs.declared.op.Op.TheVariants.{Ad, Abs, Ge}
use Rattle.rules.specs.declared.op.Width.TheVariants.{One}
use Rattle.theory.specs.Worked.{Does, regs}
use Rattle.theory.specs.Null.{NullAccepted, NullLoads, CutRefused, LongerRefused}
use Rattle.theory.specs.Texts.{NineAccepted, TenRefused, LeftRefused, MeetingRefused}
use Rattle.theory.specs.Gate.{GateWorks, GateAccepted, GateCertified}

pub record Worked : Type 0 where
  -- the null image has 39 bytes, is loaded, and the null program is accepted with all fields 0
  pub null_loads : NullLoads
  pub null_accepted : NullAccepted
  -- of its first 38 bytes: 1 at 37; with one byte more: 4 at 39
  pub cut_refused : CutRefused
  pub longer_refused : LongerRefused
  -- nine LDR, eight LA of mode 2 and WR in INPUT: accepted, STACK 8
  pub nine_accepted : NineAccepted
  -- ten LDR: 13 at line 9; LDR, LDR, WR: 13 at line 3; LDR, JL1 to 4, LDR, LDR, LA of mode 2: 13 at line 4
  pub ten_refused : TenRefused
  pub left_refused : LeftRefused
  pub meeting_refused : MeetingRefused
  -- at width 1, 250 AD 10 gives 4, ABS of 128 gives 128, and 255 GE 0 gives RLO 0
  pub sum_wraps : Does (Ad One 0) (regs false 250 []) (10 ∷ []) (regs false 4 []) (10 ∷ []) follows
  pub smallest_stays : Does (Abs One) (regs false 128 []) [] (regs false 128 []) [] follows
  pub signed_order : Does (Ge One 0) (regs true 255 []) (0 ∷ []) (regs false 255 []) (0 ∷ []) follows
  -- the gate program with input 0 as 1, 1, 2 in three scans: steps 5, 5, 7, and terminal 0 shows 1, 1, 0; it is accepted with LINES 11, STACK 0, SCAN 7
  pub gate_works : GateWorks
  pub gate_accepted : GateAccepted
  pub gate_certified : GateCertified
