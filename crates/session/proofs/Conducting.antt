-- A session as it goes on, call by call. Assumes nothing.
use Rattle.std.proofs.Common.{◌≡◌, ℕ, zero, suc, ◌+◌, ◌<◌, ◌≤◌, Bool, true, false, List, [], ◌∷◌, ◌++◌, map, reverse, length, get_or, take, drop, sym, refl, ap, ◌∙◌, subst, append-nil, arith}
use mathlib.Core.List.{reverse_aux-append}
use Rattle.std.proofs.lemmas.List.{map-append, take_more, take_all}
use Rattle.rules.specs.declared.session.Phase.TheVariants.{Idle}
use Rattle.rules.specs.declared.session.Call.{Call}
use Rattle.rules.specs.declared.session.Call.TheVariants.{Halt}
use Rattle.rules.specs.declared.session.Answer.{Answer}
use Rattle.rules.specs.declared.session.Answer.TheVariants.{Done}
use Rattle.rules.specs.Program.{Program}
use Rattle.rules.specs.Cabinet.{Meaning, Lawful}
use Rattle.rules.specs.Verdict.{Certified}
use Rattle.rules.specs.Kept.{Guaranteed}
use Rattle.theory.proofs.Sessions.{guarantee}
use Rattle.verdict.specs.declared.accepted.Accepted.{Accepted}
use Rattle.verdict.proofs.Kept.{accepted}
use Rattle.machine.specs.Views.{program_of}
use Rattle.rules.specs.Session as rules
use Rattle.rules.specs.Session.{Machine, Session, started, called, Outcome, CabinetAfter}
use Rattle.session.specs.declared.call.SessionCall.{SessionCall}
use Rattle.session.specs.declared.call.SessionCall.TheVariants.{Scan, Clear, BlockStart, PositionReport}
use Rattle.session.specs.declared.running.Running.{Running}
use Rattle.session.specs.declared.running.Left.{Left}
use Rattle.session.specs.Calls.{call_of, last_call}
use Rattle.session.specs.States.{program_in, machine_in, machine_at_halt}
use Rattle.session.specs.Called.{Started, Called, HaltedFrom}
use Rattle.session.specs.Conducted.{Stands}

no_halt : (s : SessionCall) → call_of s ≡ Halt → ⊥
no_halt Scan e = let z : ◌≡◌ {A = ℕ} 0 1 = cc in omega arith
no_halt Clear e = let z : ◌≡◌ {A = ℕ} 0 1 = cc in omega arith
no_halt BlockStart e = let z : ◌≡◌ {A = ℕ} 0 1 = cc in omega arith
no_halt PositionReport e = let z : ◌≡◌ {A = ℕ} 0 1 = cc in omega arith

module _ {C : Type 0} (M : Meaning C) (p : Program) (x₀ : C) where
  -- so many of the calls have been made of a running program, and answered
  pub record Going (calls : List SessionCall) (i : ℕ) (done : List (Call × Answer)) (r : Running C) : Type 0 where
    pub same_program : program_in r ≡ p
    pub calls_are : map (λ e. e.0) done ≡ map call_of (take i calls)
    pub session : Session M p x₀ (Done Idle) (reverse done) (machine_in r) r.cabinet
    pub unhalted : rules.Running (reverse done)

  pub begun : (calls : List SessionCall) (done : List (Call × Answer)) (r : Running C) → done ≡ [] → Started M p x₀ r → Going calls 0 done r
  begun calls done r e s = subst (λ (d : List (Call × Answer)). Going calls 0 d r) (sym e) (record { same_program = s.same_program; calls_are = refl; session = started s.starts s.sends; unhalted = tt })

  -- one call more, the newest
  newest : (done : List (Call × Answer)) (e : Call × Answer) → e ∷ reverse done ≡ reverse (done ++ e ∷ [])
  newest done e = sym (reverse_aux-append done (e ∷ []) [])

  further : (done : List (Call × Answer)) (machine after : Machine) (x y : C) (q : Program) (c : Call) (a : Answer) → q ≡ p → Session M p x₀ (Done Idle) (reverse done) machine x → rules.Running (reverse done) → Outcome q (M.inputs x) machine c a after → CabinetAfter M c x after.memory y → Session M p x₀ (Done Idle) (reverse (done ++ (c, a) ∷ [])) after y
  further done machine after x y q c a e s u o v =
      subst (λ (d : List (Call × Answer)). Session M p x₀ (Done Idle) d after y) (newest done (c, a)) (called s u (subst (λ (z : Program). Outcome z (M.inputs x) machine c a after) e o) v)

  pub more : (calls : List SessionCall) (i : ℕ) (d : SessionCall) (done done' : List (Call × Answer)) (r r' : Running C) (c : Call) (a : Answer) → i < length calls → done' ≡ done ++ (c, a) ∷ [] → c ≡ call_of (get_or calls i d) → Going calls i done r → Called M r (call_of (get_or calls i d)) a r' → Going calls (i + 1) done' r'
  more calls i d done done' r r' c a h e f w s =
      let b = call_of (get_or calls i d) in
      let q : done' ≡ done ++ (b, a) ∷ [] = e ∙ ap (λ (z : Call). done ++ (z, a) ∷ []) f in
      subst (λ (x : List (Call × Answer)). Going calls (i + 1) x r') (sym q) (record {
        same_program = s.same_program ∙ w.same_program;
        calls_are = map-append (λ e. e.0) done ((b, a) ∷ []) ∙ ap (λ (x : List Call). x ++ b ∷ []) w.calls_are ∙ sym (map-append call_of (take i calls) (get_or calls i d ∷ [])) ∙ ap (map call_of) (sym (take_more calls i d h));
        session = further done (machine_in r) (machine_in r') r.cabinet r'.cabinet (program_in r) b a w.same_program w.session w.unhalted s.comes s.cabinet_after;
        unhalted = subst rules.Running (newest done (b, a)) (no_halt (get_or calls i d));
      })

  -- all calls have been made
  all_calls : (calls : List SessionCall) (i : ℕ) (done : List (Call × Answer)) (r : Running C) → length calls ≤ i → Going calls i done r → map (λ e. e.0) done ≡ map call_of calls
  all_calls calls i done r h w = w.calls_are ∙ ap (map call_of) (take_all i calls h)

  -- all calls have been made and answered, a halt last if there was to be one, and this is left
  abbrev pub Ends : List SessionCall → Bool → List (Call × Answer) → Left C → Type 0
  Ends calls halts done l = (map (λ e. e.0) done ≡ map call_of calls ++ last_call halts) × Session M p x₀ (Done Idle) (reverse done) (machine_at_halt l) l.cabinet

  -- how a session ends that is not halted, and one that is
  pub unhalted_end : (calls : List SessionCall) (i : ℕ) (done done' : List (Call × Answer)) (r : Running C) (halts : Bool) (l : Left C) → length calls ≤ i → halts ≡ false → done' ≡ done → l ≡ record { cabinet = r.cabinet; memory = r.fitted.memory; phase = r.phase } → Going calls i done r → Ends calls halts done' l
  unhalted_end calls i done done' r halts l h e q f w = (
    ap (map (λ e. e.0)) q ∙ all_calls calls i done r h w ∙ sym (append-nil (map call_of calls)) ∙ ap (λ (b : Bool). map call_of calls ++ last_call b) (sym e),
    subst (λ (d : List (Call × Answer)). Session M p x₀ (Done Idle) (reverse d) (machine_at_halt l) l.cabinet) (sym q)
        (subst (λ (k : Left C). Session M p x₀ (Done Idle) (reverse done) (machine_at_halt k) k.cabinet) (sym f) w.session),
  )

  pub halted_end : (calls : List SessionCall) (i : ℕ) (done done' : List (Call × Answer)) (r : Running C) (halts : Bool) (l k : Left C) → length calls ≤ i → halts ≡ true → done' ≡ done ++ (Halt, Done k.phase) ∷ [] → l ≡ k → Going calls i done r → HaltedFrom M r k → Ends calls halts done' l
  halted_end calls i done done' r halts l k h e q f w s = (
    ap (map (λ e. e.0)) q ∙ map-append (λ e. e.0) done ((Halt, Done k.phase) ∷ []) ∙ ap (λ (x : List Call). x ++ Halt ∷ []) (all_calls calls i done r h w) ∙ ap (λ (b : Bool). map call_of calls ++ last_call b) (sym e),
    subst (λ (d : List (Call × Answer)). Session M p x₀ (Done Idle) (reverse d) (machine_at_halt l) l.cabinet) (sym q)
        (subst (λ (x : Left C). Session M p x₀ (Done Idle) (reverse (done ++ (Halt, Done k.phase) ∷ [])) (machine_at_halt x) x.cabinet) (sym f)
        (further done (machine_in r) (machine_at_halt k) r.cabinet k.cabinet (program_in r) Halt (Done k.phase) w.same_program w.session w.unhalted s.comes s.cabinet_after)),
  )

-- THE PROMISE

module _ {C : Type 0} (M : Meaning C) (law : Lawful M) (a : Accepted) (x₀ : C) (lines stack scan : ℕ) (cert : Certified (program_of a) lines stack scan) where
  pub guaranteed : Guaranteed M (program_of a) stack scan
  guaranteed = guarantee M law (program_of a) lines stack scan (accepted a) cert

  -- a session without its last calls is a session
  pub throughout : (k : ℕ) (done : List (Call × Answer)) (machine : Machine) (x : C) → Session M (program_of a) x₀ (Done Idle) done machine x → Stands M (program_of a) stack scan x₀ (drop k done)
  throughout zero done machine x s = record { machine = machine; cabinet = x; session = s; kept = guaranteed.kept x₀ (Done Idle) done machine x s }
  throughout (suc k) [] machine x s = record { machine = machine; cabinet = x; session = s; kept = guaranteed.kept x₀ (Done Idle) [] machine x s }
  throughout (suc k) (e ∷ done) machine x (called {before = b} {x = w} s u o v) = throughout k done b w s
