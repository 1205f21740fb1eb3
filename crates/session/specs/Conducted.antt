-- A whole session as it was conducted, and what is promised of it. Assumes nothing.
use Rattle.std.specs.Prelude.{◌≡◌, ℕ, Bool, List, ◌++◌, map, reverse, drop, vec_items}
use Rattle.rules.specs.declared.session.Phase.TheVariants.{Idle}
use Rattle.rules.specs.declared.session.Call.{Call}
use Rattle.rules.specs.declared.session.Answer.{Answer}
use Rattle.rules.specs.declared.session.Answer.TheVariants.{Done}
use Rattle.rules.specs.Program.{Program}
use Rattle.rules.specs.Verdict.{Certified}
use Rattle.rules.specs.Cabinet.{Meaning}
use Rattle.rules.specs.Session.{Machine, Session}
use Rattle.rules.specs.Kept.{Kept, Guaranteed}
use Rattle.machine.specs.Views.{memory_of}
use Rattle.session.specs.declared.call.SessionCall.{SessionCall}
use Rattle.session.specs.declared.conduct.Conducted.{Conducted}
use Rattle.session.specs.Calls.{call_of, last_call}

module _ {C : Type 0} where
  -- the calls with their answers, the oldest first
  abbrev pub transcript_of : Conducted C → List (Call × Answer)
  transcript_of t = vec_items t.transcript

  -- the data, points and phase that a session left
  abbrev pub machine_left : Conducted C → Machine
  machine_left t = record { memory = memory_of t.left.memory; phase = t.left.phase }

module _ {C : Type 0} (M : Meaning C) where
  -- a session so far, with so many of its calls, and all that a certificate guarantees of it there
  pub record Stands (p : Program) (stack scan : ℕ) (x₀ : C) (done : List (Call × Answer)) : Type 0 where
    pub machine : Machine
    pub cabinet : C
    pub session : Session M p x₀ (Done Idle) done machine cabinet
    pub kept : Kept M p stack scan (Done Idle) done machine cabinet

  -- what is promised of a session that was conducted
  pub record Promised (p : Program) (x₀ : C) (calls : List SessionCall) (halts : Bool) (t : Conducted C) : Type 0 where
    -- the certificate is the program's: LINES and STACK as defined, no choice of a scan's routes has more steps than SCAN, and some choice has as many
    pub certified : Certified p t.certificate.lines t.certificate.stack t.certificate.scan
    -- the calls were made in their order
    pub calls_are : map (λ e. e.0) (transcript_of t) ≡ map call_of calls ++ last_call halts
    -- the session is one by the rules: its answers, its data, points and phase, and its cabinet
    pub session : Session M p x₀ (Done Idle) (reverse (transcript_of t)) (machine_left t) t.left.cabinet
    -- after the start and after each call, so without the last k of them for any k, the session is one by the rules and keeps all that is guaranteed
    pub throughout : (k : ℕ) → Stands p t.certificate.stack t.certificate.scan x₀ (drop k (reverse (transcript_of t)))
    -- and so does every other session of the program on a cabinet of this kind
    pub guaranteed : Guaranteed M p t.certificate.stack t.certificate.scan
