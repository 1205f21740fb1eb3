-- The calls that a session makes, as the rules have them. Assumes nothing.
use Rattle.std.specs.Prelude.{Bool, true, false, List, [], ◌∷◌}
use Rattle.rules.specs.declared.session.Call as rules
use Rattle.session.specs.declared.call.SessionCall.{SessionCall}
use Rattle.session.specs.declared.call.SessionCall.TheVariants.{Scan, Clear, BlockStart, PositionReport}

-- the call of the rules
abbrev pub call_of : SessionCall → rules.Call
call_of Scan = rules.TheVariants.Scan
call_of Clear = rules.TheVariants.Clear
call_of BlockStart = rules.TheVariants.BlockStart
call_of PositionReport = rules.TheVariants.PositionReport

-- the halt, where a session ends with one
abbrev pub last_call : Bool → List rules.Call
last_call true = rules.TheVariants.Halt ∷ []
last_call false = []
