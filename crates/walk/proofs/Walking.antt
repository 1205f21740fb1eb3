-- What each line hands on to the lines after it. Assumes nothing.
use Rattle.std.proofs.Common.{◌≡◌, ℕ, ◌+◌, ◌-◌, ◌<◌, ◌≤◌, true, false, ◌⊎◌, List, [], ◌∷◌, length, get_or, replicate, Some, None, Option, sym, refl, ap, ◌∙◌, subst, inl, inr, ⊎_elim, arith}
use lib.ListN.{length-replicate, get_or-replicate}
use Rattle.std.proofs.lemmas.List.{get_or_past}
use Rattle.std.proofs.lemmas.Bool.{cases_lt, cond-false}
use Rattle.rules.specs.declared.line.Line.{Line}
use Rattle.rules.specs.declared.unit.UnitId.{UnitId}
use Rattle.rules.specs.Op.{is_begin, is_jump, is_exit, is_ex}
use Rattle.rules.specs.Program.{Program, Own, line_at, first, end, end_line, after}
use Rattle.rules.specs.Route.{Way, Entry, Arrives, at_entry, passed}
use Rattle.walk.specs.Joins.{Laws, Built, one, both, JoinOf}
use Rattle.walk.specs.Walked.{OwnOrEnd, along, Brought, Walked}
use Rattle.walk.specs.Stages.{Covers, Holds, Recent, Stage, Staged}
use Rattle.walk.proofs.Codes.{exits_begins}
use Rattle.walk.proofs.Sound.{Sound, place_low, place_high}
use Rattle.walk.proofs.Covering.{Image, Plus, put, joinof_one, joinof_image, joinof_same, Added, holds_more, holds_same, holds_if}

-- a set that has a join has a member
member : {V : Type 0} {join : V → V → V} {S : V → Type 0} {v : V} → Built join S v → (x : V) × S x
member (one s) = (_, s)
member (both p q) = member p

pub none_some : {V : Type 0} {o : Option V} {v : V} → o ≡ None → o ≡ Some v → ⊥
none_some p q = let z : ◌≡◌ {A = ℕ} 0 1 = cc in omega arith

pub some_same : {V : Type 0} {o : Option V} {v w : V} → o ≡ Some v → o ≡ Some w → v ≡ w
some_same p q = cc

-- the line after one of EX type is the next
after_exit : (p : Program) (l : ℕ) → is_exit (line_at p l) ≡ true → after p l ≡ l + 1
after_exit p l x = cond-false (is_begin (line_at p l)) (end_line p (line_at p l).operand + 1) (l + 1) (exits_begins (line_at p l) x)

module _ (p : Program) (u : UnitId) (sound : Sound p u) where
  -- a place before the end is an own line
  pub own_before : (l : ℕ) → l < end p u → OwnOrEnd p u l → Own p u l
  own_before l h (inl o) = o
  own_before l h (inr e) = absurd (omega arith)

  module _ {V : Type 0} (start : V) (effect : ℕ → Line → V → V) where
    -- at its own turn a line has all its routes
    turn_in : (k : ℕ) (v : V) → Stage start effect p u k k v → Brought start effect p u k v
    turn_in k v s = (s.0, s.1, s.3)

    turn_out : (k : ℕ) (v : V) → Brought start effect p u k v → Stage start effect p u k k v
    turn_out k v s = go s.0 s.1 s.2
      where
        go : (path : List ℕ) → Arrives p u path k → along start effect p path ≡ v → Stage start effect p u k k v
        go [] (at_entry b) e = ([], at_entry b, omega arith, e)
        go (i ∷ path) (passed a o w) e = (i ∷ path, passed a o w, sound.way_rises i k o w, e)

    -- at the end all have
    end_in : (k : ℕ) (v : V) → Stage start effect p u (end p u) k v → Brought start effect p u k v
    end_in k v s = (s.0, s.1, s.3)

    end_out : (k : ℕ) (v : V) → k ≤ end p u → Brought start effect p u k v → Stage start effect p u (end p u) k v
    end_out k v b s = go s.0 s.1 s.2
      where
        go : (path : List ℕ) → Arrives p u path k → along start effect p path ≡ v → Stage start effect p u (end p u) k v
        go [] (at_entry c) e = ([], at_entry c, b, e)
        go (i ∷ path) (passed a o w) e = (i ∷ path, passed a o w, sound.high i o, e)

    -- the values that line i hands on
    abbrev pub Out : ℕ → V → Type 0
    Out i = Image (effect i (line_at p i)) (Brought start effect p u i)

    -- what line i brings to line k
    abbrev News : ℕ → ℕ → V → Type 0
    News i k v = (Own p u i × Way p i k × Out i v) ⊎ (Own p u i × (is_exit (line_at p i) ≡ true) × (k ≡ after p i) × (start ≡ v))

    split : (i k : ℕ) (v : V) → first p u ≤ i → Stage start effect p u (i + 1) k v → Stage start effect p u i k v ⊎ News i k v
    split i k v low s = go s.0 s.1 s.2 s.3
      where
        begin : Entry p u k → i < k → k ≤ i + 1 → start ≡ v → News i k v
        begin (inl z) n b e = absurd (omega arith)
        begin (inr (a, o, x, z)) n b e =
            let f = after_exit p a x in
            let q : a ≡ i = omega arith in
            inr (subst (Own p u) q o, subst (λ m. is_exit (line_at p m) ≡ true) q x, z ∙ ap (after p) q, e)

        go : (path : List ℕ) → Arrives p u path k → Recent (i + 1) k path → along start effect p path ≡ v → Stage start effect p u i k v ⊎ News i k v
        go [] (at_entry c) b e = ⊎_elim (λ h. inr (begin c h b e)) (λ h. inl ([], at_entry c, h, e)) (cases_lt i k)
        go (a ∷ path) (passed r o w) b e = ⊎_elim (λ h. inl (a ∷ path, passed r o w, h, e)) (λ h. inr (inl (moved (omega arith)))) (cases_lt a i)
          where
            moved : a ≡ i → Own p u i × Way p i k × Out i v
            moved q = subst (λ z. Own p u z × Way p z k × Image (effect z (line_at p z)) (Brought start effect p u z) v) q (o, w, (_, (path, r, refl), e))

    unsplit : (i k : ℕ) (v : V) → Stage start effect p u i k v ⊎ News i k v → Stage start effect p u (i + 1) k v
    unsplit i k v (inl s) = (s.0, s.1, wider s.0 s.2, s.3)
      where
        wider : (path : List ℕ) → Recent i k path → Recent (i + 1) k path
        wider [] b = omega arith
        wider (a ∷ path) b = omega arith
    unsplit i k v (inr (inl n)) =
        let m = n.2 in
        (i ∷ m.1.0, passed m.1.1 n.0 n.1, omega arith, ap (effect i (line_at p i)) m.1.2 ∙ m.2)
    unsplit i k v (inr (inr n)) =
        let f = after_exit p i n.1 in
        let z = n.2 in
        ([], at_entry (inr (i, n.0, n.1, n.2)), omega arith, n.3)

    module _ {join : V → V → V} (i : ℕ) (low : first p u ≤ i) (inside : i < end p u) (t : List (Option V)) (staged : Staged start effect join p u i t) where
      abbrev Old : ℕ → V → Type 0
      Old = Stage start effect p u i

      abbrev Done : List (Option V) → Type 0
      Done w = Staged start effect join p u (i + 1) w

      -- a table that has what was there and what line i brings
      done : {w : List (Option V)} (S : ℕ → V → Type 0) → ((k : ℕ) (x : V) → S k x → Old k x ⊎ News i k x) → ((k : ℕ) (x : V) → Old k x ⊎ News i k x → S k x) → Holds join (first p u) (end p u) S w → Done w
      done S f g h =
          holds_same S (Stage start effect p u (i + 1)) (λ k x a b s. unsplit i k x (f k x s)) (λ k x a b s. g k x (split i k x low s)) h

      -- where no route arrives, the line brings nothing
      pub passing : get_or t (i - first p u) None ≡ None → Done t
      passing read = done Old (λ k x s. inl s) back staged
        where
          empty : (x : V) → Old i x → ⊥
          empty = subst (Covers join (Old i)) read (staged.at i low (omega arith))

          nobody : {path : List ℕ} → Arrives p u path i → ⊥
          nobody {path} a = empty _ (turn_out i _ (path, a, refl))

          back : (k : ℕ) (x : V) → Old k x ⊎ News i k x → Old k x
          back k x (inl s) = s
          back k x (inr (inl m)) = absurd (nobody m.2.1.1)
          back k x (inr (inr m)) = absurd (nobody (sound.reached i (inl m.0)).1)

      module _ (v : V) (read : get_or t (i - first p u) None ≡ Some v) where
        joins_old : JoinOf join (Brought start effect p u i) v
        joins_old = joinof_same (turn_in i) (turn_out i) (subst (Covers join (Old i)) read (staged.at i low (omega arith)))

        -- a line with an entry is an own line
        pub some_own : Own p u i
        some_own = own_before i inside (sound.stays (member joins_old.built).1.1)

        module _ (laws : Laws join effect) where
          abbrev out : V
          out = effect i (line_at p i) v

          joins_here : JoinOf join (Out i) out
          joins_here = joinof_image laws i (line_at p i) joins_old

          next_low : first p u ≤ after p i
          next_low = place_low sound (after p i) (sound.after_stays i some_own)

          next_high : after p i ≤ end p u
          next_high = place_high sound (after p i) (sound.after_stays i some_own)

          abbrev pub target : ℕ
          target = (line_at p i).operand

          target_place : is_jump (line_at p i) ≡ true → (first p u ≤ target) × (target ≤ end p u)
          target_place e =
              let stays = sound.jump_stays i some_own e in
              (place_low sound target stays, place_high sound target stays)

          -- where the line's value goes to the line that follows, and to a jump's target, and where a route begins
          abbrev Next : ℕ → V → Type 0
          Next = Plus Old (after p i) (λ y. (is_ex (line_at p i) ≡ false) × Out i y)

          abbrev Jumped : ℕ → V → Type 0
          Jumped = Plus Next target (λ y. (is_jump (line_at p i) ≡ true) × Out i y)

          abbrev Begun : ℕ → V → Type 0
          Begun = Plus Jumped (after p i) (λ y. (is_exit (line_at p i) ≡ true) × (start ≡ y))

          pub visited : {t₁ t₂ t₃ : List (Option V)} → Added join (first p u) (is_ex (line_at p i) ≡ false) t (after p i) out t₁ → Added join (first p u) (is_jump (line_at p i) ≡ true) t₁ target out t₂ → Added join (first p u) (is_exit (line_at p i) ≡ true) t₂ (after p i) start t₃ → Done t₃
          visited went_on jumped begun =
              done Begun there back
              (holds_if laws _ _ (after p i) start (λ _. (next_low, next_high))
              (holds_if laws _ _ target _ target_place (holds_if laws _ _ (after p i) _ (λ _. (next_low, next_high)) staged joins_here went_on) joins_here jumped)
              (joinof_one laws start) begun)
            where
              there : (k : ℕ) (x : V) → Begun k x → Old k x ⊎ News i k x
              there k x (inl (inl (inl s))) = inl s
              there k x (inl (inl (inr m))) = inr (inl (some_own, inl (m.1.0, m.0), m.1.1))
              there k x (inl (inr m)) = inr (inl (some_own, inr (m.1.0, m.0), m.1.1))
              there k x (inr m) = inr (inr (some_own, m.1.0, m.0, m.1.1))

              goes : (k : ℕ) (x : V) → Way p i k → Out i x → Begun k x
              goes k x (inl w) m = inl (inl (inr (w.1, (w.0, m))))
              goes k x (inr w) m = inl (inr (w.1, (w.0, m)))

              back : (k : ℕ) (x : V) → Old k x ⊎ News i k x → Begun k x
              back k x (inl s) = inl (inl (inl s))
              back k x (inr (inl m)) = goes k x m.1 m.2
              back k x (inr (inr m)) = inr (m.2, (m.1, m.3))

    -- before the first line: nothing but the start value there
    pub before : {join : V → V → V} (laws : Laws join effect) (t : List (Option V)) → t ≡ put join (replicate (end p u - first p u + 1) None) 0 start → Staged start effect join p u (first p u) t
    before {join} laws t is =
        subst (Staged start effect join p u (first p u)) (sym (is ∙ ap (λ n. put join blank n start) none))
        (holds_same (Plus (λ _ _. ⊥) (first p u) (λ y. start ≡ y)) _ (λ k v a b. there k v) (λ k v a b. back k v) (holds_more laws _ (first p u) start (omega arith) sound.order nothing (joinof_one laws start)))
      where
        blank : List (Option V)
        blank = replicate (end p u - first p u + 1) None

        none : 0 ≡ first p u - first p u
        none = omega arith

        nothing : Holds join (first p u) (end p u) (λ _ _. ⊥) (replicate (end p u - first p u + 1) None)
        nothing = record {
          long = ap (λ n. first p u + n) (length-replicate (end p u - first p u + 1) None) ∙ (let o = sound.order in omega arith);
          at = λ k a b. subst (Covers join (λ _. ⊥)) (sym (get_or-replicate (end p u - first p u + 1) (k - first p u) None None (omega arith))) (λ x z. z);
        }

        there : (k : ℕ) (v : V) → Plus (λ _ _. ⊥) (first p u) (λ y. start ≡ y) k v → Stage start effect p u (first p u) k v
        there k v (inl z) = absurd z
        there k v (inr m) = ([], at_entry (inl m.0), omega (arith, m.0), m.1)

        begin : (k : ℕ) → Entry p u k → k ≤ first p u → k ≡ first p u
        begin k (inl e) b = e
        begin k (inr (a, o, x, z)) b =
            let l = sound.low a o in
            let r = sound.after_rises a o in
            absurd (omega arith)

        go : (k : ℕ) (v : V) (path : List ℕ) → Arrives p u path k → Recent (first p u) k path → along start effect p path ≡ v → Plus (λ _ _. ⊥) (first p u) (λ y. start ≡ y) k v
        go k v [] (at_entry c) b e = inr (begin k c b, e)
        go k v (a ∷ path) (passed r o w) b e = let l = sound.low a o in absurd (omega arith)

        back : (k : ℕ) (v : V) → Stage start effect p u (first p u) k v → Plus (λ _ _. ⊥) (first p u) (λ y. start ≡ y) k v
        back k v s = go k v s.0 s.1 s.2 s.3

    -- past the last line
    pub walked : {join : V → V → V} (t : List (Option V)) → Staged start effect join p u (end p u) t → Walked start effect join p u t
    walked {join} t staged = record {
      long = staged.long;
      entry = λ l s. entry l s (get_or t (l - first p u) None) refl;
      nowhere_else = λ k v e. ⊎_elim (λ h. place k v (omega (arith, staged.long)) e) (λ h. absurd (none_some (get_or_past t k None h) e)) (cases_lt k (length t));
    }
      where
        covers : (l : ℕ) → OwnOrEnd p u l → Covers join (Stage start effect p u (end p u) l) (get_or t (l - first p u) None)
        covers l s = staged.at l (place_low sound l s) (place_high sound l s)

        entry : (l : ℕ) → OwnOrEnd p u l → (o : Option V) → get_or t (l - first p u) None ≡ o → (v : V) × (get_or t (l - first p u) None ≡ Some v) × JoinOf join (Brought start effect p u l) v
        entry l s None e =
            let r = sound.reached l s in
            absurd (subst (Covers join (Stage start effect p u (end p u) l)) e (covers l s) _ (end_out l _ (place_high sound l s) (r.0, r.1, refl)))
        entry l s (Some v) e =
            (v, e, joinof_same (end_in l) (λ x. end_out l x (place_high sound l s)) (subst (Covers join (Stage start effect p u (end p u) l)) e (covers l s)))

        place : (k : ℕ) (v : V) → first p u + k ≤ end p u → get_or t k None ≡ Some v → OwnOrEnd p u (first p u + k)
        place k v b e =
            let q : first p u + k - first p u ≡ k = omega arith in
            let j = subst (Covers join (Stage start effect p u (end p u) (first p u + k))) (ap (λ n. get_or t n None) q ∙ e) (staged.at (first p u + k) (omega arith) b) in
            sound.stays (member j.built).1.1
