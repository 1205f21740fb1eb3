-- The whole routes of a unit. Assumes nothing.
use Rattle.std.proofs.Common.{◌≡◌, ℕ, ◌+◌, ◌-◌, ◌<◌, ◌≤◌, true, ◌⊎◌, List, ◌∷◌, get_or, Some, None, Option, refl, ap, ◌∙◌, subst, inl, inr, ⊎_elim, arith}
use Rattle.std.specs.Option.{IsSome}
use Rattle.std.proofs.lemmas.Bool.{cases_lt}
use Rattle.rules.specs.declared.line.Line.{Line}
use Rattle.rules.specs.declared.unit.UnitId.{UnitId}
use Rattle.rules.specs.Op.{is_exit}
use Rattle.rules.specs.Program.{Program, line_at, first, end}
use Rattle.rules.specs.Route.{Arrives, Route, to_end, stopped}
use Rattle.walk.specs.Joins.{Laws, JoinOf}
use Rattle.walk.specs.Walked.{OwnOrEnd, along, Brought, Whole, Walked}
use Rattle.walk.specs.Stages.{Stopped, ended, stopped_before}
use Rattle.walk.proofs.Sound.{Sound}
use Rattle.walk.proofs.Covering.{Image, joinof_image, joinof_same, covers_more}
use Rattle.walk.proofs.Walking.{none_some, some_same, own_before, Out}

module _ (p : Program) (u : UnitId) (sound : Sound p u) {V : Type 0} (start : V) (effect : ℕ → Line → V → V) {join : V → V → V} (t : List (Option V)) (table : Walked start effect join p u t) where
  -- a line with an entry is an own line or the end
  pub entry_own : (l : ℕ) (v : V) → first p u ≤ l → get_or t (l - first p u) None ≡ Some v → OwnOrEnd p u l
  entry_own l v low read =
      let q : first p u + (l - first p u) ≡ l = omega arith in
      subst (OwnOrEnd p u) q (table.nowhere_else (l - first p u) v read)

  -- and its entry is the join over the routes that arrive there
  pub entry_joins : (l : ℕ) (v : V) → first p u ≤ l → get_or t (l - first p u) None ≡ Some v → JoinOf join (Brought start effect p u l) v
  entry_joins l v low read =
      let e = table.entry l (entry_own l v low read) in
      subst (JoinOf join (Brought start effect p u l)) (some_same e.1 read) e.2

  wider : (i : ℕ) (v : V) → Stopped start effect p u i v → Stopped start effect p u (i + 1) v
  wider i v (ended a e) = ended a e
  wider i v (stopped_before a o b x e) = stopped_before a o (omega arith) x e

  narrower : (i : ℕ) (v : V) → Stopped start effect p u (i + 1) v → Stopped start effect p u i v ⊎ ((is_exit (line_at p i) ≡ true) × Out p u sound start effect i v)
  narrower i v (ended a e) = inl (ended a e)
  narrower i v (stopped_before {a} {path} r o b x e) =
      ⊎_elim (λ lt. inl (stopped_before r o lt x e))
      (λ ge. let q : a ≡ i = omega arith in inr (subst (λ z. (is_exit (line_at p z) ≡ true) × Image (effect z (line_at p z)) (Brought start effect p u z) v) q (x, (_, (path, r, refl), e))))
      (cases_lt a i)

  -- no route stops at line i
  pub keeps : (i : ℕ) (best : V) → ((path : List ℕ) → Arrives p u path i → is_exit (line_at p i) ≡ true → ⊥) → JoinOf join (Stopped start effect p u i) best → JoinOf join (Stopped start effect p u (i + 1)) best
  keeps i best not-here j = joinof_same (wider i) (λ x s. ⊎_elim (λ y. y) (λ m. absurd (not-here m.1.1.0 m.1.1.1 m.0)) (narrower i x s)) j

  pub nobody : (i : ℕ) → get_or t (i - first p u) None ≡ None → (path : List ℕ) → Arrives p u path i → ⊥
  nobody i read path a = none_some read (table.entry i (sound.stays a)).1

  -- those that stop at line i are taken in
  pub takes : (laws : Laws join effect) (i : ℕ) (best v : V) → first p u ≤ i → i < end p u → is_exit (line_at p i) ≡ true → get_or t (i - first p u) None ≡ Some v → JoinOf join (Stopped start effect p u i) best → JoinOf join (Stopped start effect p u (i + 1)) (join best (effect i (line_at p i) v))
  takes laws i best v low h exit read j =
      joinof_same (λ x m. ⊎_elim (wider i x) (λ o. new x o) m) (λ x s. ⊎_elim inl (λ m. inr m.1) (narrower i x s))
      (covers_more laws (Stopped start effect p u i) (Out p u sound start effect i) (Some best) (effect i (line_at p i) v) j (joinof_image laws i (line_at p i) (entry_joins i v low read)))
    where
      new : (x : V) → Out p u sound start effect i x → Stopped start effect p u (i + 1) x
      new x o = stopped_before o.1.1 (own_before p u sound i h (entry_own i v low read)) (omega arith) exit (ap (effect i (line_at p i)) o.1.2 ∙ o.2)

  pub end_some : (o : Option V) → get_or t (end p u - first p u) None ≡ o → IsSome o
  end_some None read = absurd (none_some read (table.entry (end p u) (inr refl)).1)
  end_some (Some v) read = refl

  pub from_end : (v : V) → get_or t (end p u - first p u) None ≡ Some v → JoinOf join (Stopped start effect p u (first p u)) v
  from_end v read = joinof_same (λ x b. ended b.1 b.2) back (entry_joins (end p u) v sound.order read)
    where
      back : (x : V) → Stopped start effect p u (first p u) x → Brought start effect p u (end p u) x
      back x (ended a e) = (_, a, e)
      back x (stopped_before {a} r o b y e) = let l = sound.low a o in absurd (omega arith)

  pub in_total : (best : V) → JoinOf join (Stopped start effect p u (end p u)) best → JoinOf join (Whole start effect p u) best
  in_total best j = joinof_same there (λ x m. back x m.0 m.1 m.2) j
    where
      there : (x : V) → Stopped start effect p u (end p u) x → Whole start effect p u x
      there x (ended a e) = (_, to_end a, e)
      there x (stopped_before a o b y e) = (_, stopped a o y, e)

      back : (x : V) (path : List ℕ) → Route p u path → along start effect p path ≡ x → Stopped start effect p u (end p u) x
      back x path (to_end a) e = ended a e
      back x (i ∷ path) (stopped a o y) e = stopped_before a o (sound.high i o) y e
