-- Going back along a longest route of a unit, by the table of its walk. Assumes nothing.
use Rattle.std.proofs.Common.{◌≡◌, ℕ, ◌+◌, ◌-◌, ◌^◌, ◌<◌, ◌≤◌, min, max, List, [], ◌∷◌, ◌++◌, length, Some, None, MatchOption, Option, sym, refl, ap, ◌∙◌, subst, inl, inr, append_assoc, append-nil, arith}
use Rattle.rules.specs.declared.unit.UnitId.{UnitId}
use Rattle.std.proofs.Math.Logic.{∥∥₁_elim}
use Rattle.std.proofs.Props.{props}
use Rattle.std.specs.Option.{option_map_or}
use Rattle.rules.specs.Program.{Program, Own, line_at, first, end}
use Rattle.rules.specs.Route.{Arrives, passed, Route, to_end, stopped, Greatest}
use Rattle.walk.specs.Joins.{JoinOf}
use Rattle.walk.specs.Walked.{OwnOrEnd, along, Brought, Whole, Walked}
use Rattle.walk.proofs.Sound.{Sound, place_low}
use Rattle.walk.proofs.Totals.{entry_own, entry_joins}
use Rattle.walk.proofs.Walking.{none_some, some_same, own_before}
use Rattle.measures.specs.Models.{bound_of, steps_after}
use Rattle.measures.proofs.Longest.{largest}
use Rattle.certificate.specs.Longest.{entry_of, LongestAt, GoesPast, Leads, Stops, GoesOn, Precedes, Traced}

-- more steps before a line are more after it
rises : (n a b : ℕ) → a ≤ b → min (a + 1 + n) (2 ^ 32 - 1) ≤ min (b + 1 + n) (2 ^ 32 - 1)
rises n a b h = omega arith

-- after a line there is a step
some_step : (n a : ℕ) → 0 < min (a + 1 + n) (2 ^ 32 - 1)
some_step n a = omega arith

-- the first place of a range where P holds, where it holds nowhere else
pub found : {P : ℕ → Type 0} (a b : ℕ) (r : Option ℕ) → MatchOption r ((k : ℕ) → a ≤ k → k < b → P k → ⊥) (λ i. (a ≤ i) × (i < b) × P i × ((k : ℕ) → a ≤ k → k < i → P k → ⊥)) → ((k : ℕ) → P k → (a ≤ k) × (k < b)) → MatchOption r ((k : ℕ) → P k → ⊥) P
found a b None f within = λ k x. f k (within k x).0 (within k x).1 x
found a b (Some i) f within = f.2

module _ (p : Program) (u : UnitId) (sound : Sound p u) (bounds : List ℕ) (t : List (Option ℕ)) where
  abbrev counted : List ℕ → ℕ
  counted path = along 0 (steps_after bounds) p path

  pub from_end : (n : ℕ) → GoesOn p u bounds n [] (end p u) n
  from_end n path a e = (to_end a, e)

  pub from_stop : (n l : ℕ) (s : Stops p u bounds t n l) → GoesOn p u bounds n (l ∷ []) l s.0.value
  from_stop n l s path a e = (stopped a s.0.own s.1, ap (steps_after bounds l (line_at p l)) e ∙ s.0.adds)

  -- one line back
  pub one_back : (n m v l : ℕ) (lines : List ℕ) (s : Leads p u bounds t m v l) → GoesOn p u bounds n lines m v → GoesOn p u bounds n (lines ++ l ∷ []) l s.0.value
  one_back n m v l lines s h path a e =
      subst (λ (z : List ℕ). Route p u z × (counted z ≡ n)) (sym (append_assoc lines (l ∷ []) path))
      (h (l ∷ path) (passed a s.0.own s.1) (ap (steps_after bounds l (line_at p l)) e ∙ s.0.adds))

  -- what the lines found so far, the newest first, and the next line back are on the way to
  abbrev pub Ahead : ℕ → List ℕ → Option ℕ → Type 0
  Ahead n lines None = Traced p u bounds t n lines
  Ahead n lines (Some l) = (v : ℕ) × LongestAt p u t l v × GoesOn p u bounds n (lines ++ l ∷ []) l v

  -- the newest line of a whole route that stops at it
  pub newest_stop : (n l : ℕ) → Stops p u bounds t n l → Ahead n [] (Some l)
  newest_stop n l s = (s.0.value, record { place = inl s.0.own; read = s.0.read }, from_stop n l s)

  pub from_place : (n m v : ℕ) (lines : List ℕ) (r : Option ℕ) → LongestAt p u t m v → GoesOn p u bounds n lines m v → Precedes p u bounds t m r → Ahead n lines r
  from_place n m v lines None at h e = record { from = m; begins = e; goes_on = subst (GoesOn p u bounds n lines m) (some_same at.read e.read) h }
  from_place n m v lines (Some l) at h (w, here, s) =
      (s.0.value, record { place = inl s.0.own; read = s.0.read }, one_back n m w l lines s (subst (GoesOn p u bounds n lines m) (some_same at.read here.read) h))

  -- it stands before that place
  pub nearer : (l : ℕ) (r : Option ℕ) → Precedes p u bounds t l r → option_map_or (λ k. k + 1) r 0 < l + 1
  nearer l None s = omega arith
  nearer l (Some k) s = let h = sound.way_rises k l s.2.0.own s.2.1 in omega arith

  module _ (walked : Walked 0 (steps_after bounds) max p u t) where
    at_place : (m v : ℕ) → LongestAt p u t m v → Greatest (Brought 0 (steps_after bounds) p u m) v
    at_place m v h = largest (entry_joins p u sound 0 (steps_after bounds) t walked m v (place_low sound m h.place) h.read)

    -- where a route passes a line, a longest one may
    past : (l : ℕ) (path : List ℕ) → Arrives p u path l → (o : Own p u l) → (v : ℕ) → steps_after bounds l (line_at p l) (counted path) ≡ v → ((w : ℕ) → Brought 0 (steps_after bounds) p u l w → steps_after bounds l (line_at p l) w ≤ v) → GoesPast p u bounds t v l
    past l path a o v e most =
        let here = walked.entry l (inl o) in
        let g = largest here.2 in
        let x = rises (bound_of bounds (line_at p l)) (counted path) here.0 (g.none_above (counted path) (path, a, refl)) in
        let y = most here.0 g.attained in
        record { own = o; value = here.0; read = here.1; adds = omega arith }

    -- a longest route to m that comes from no line has no step
    unled : (m v : ℕ) → LongestAt p u t m v → ((l : ℕ) → Leads p u bounds t m v l → ⊥) → v ≡ 0
    unled m v h none = go g.attained.0 g.attained.1 g.attained.2
      where
        g : Greatest (Brought 0 (steps_after bounds) p u m) v
        g = at_place m v h

        go : (path : List ℕ) → Arrives p u path m → counted path ≡ v → v ≡ 0
        go [] a e = sym e
        go (l ∷ path) (passed a o w) e =
            absurd (none l (past l path a o v e (λ x b. g.none_above _ (l ∷ b.0, passed b.1 o w, ap (steps_after bounds l (line_at p l)) b.2)), w))

    -- a longest route of the unit that stops at no line comes to the end
    unstopped : (n : ℕ) → JoinOf max (Whole 0 (steps_after bounds) p u) n → ((l : ℕ) → Stops p u bounds t n l → ⊥) → entry_of p u t (end p u) ≡ Some n
    unstopped n j none = go g.attained.0 g.attained.1 g.attained.2
      where
        g : Greatest (Whole 0 (steps_after bounds) p u) n
        g = largest j

        go : (path : List ℕ) → Route p u path → counted path ≡ n → entry_of p u t (end p u) ≡ Some n
        go path (to_end a) e =
            let here = walked.entry (end p u) (inr refl) in
            let most = largest here.2 in
            let top = most.attained in
            let x = most.none_above n (path, a, e) in
            let y = g.none_above here.0 (top.0, to_end top.1, top.2) in
            let same : here.0 ≡ n = omega arith in
            here.1 ∙ ap Some same
        go (l ∷ path) (stopped a o x) e =
            absurd (none l (past l path a o n e (λ w b. g.none_above _ (l ∷ b.0, stopped b.1 o x, ap (steps_after bounds l (line_at p l)) b.2)), x))

    -- at a place to which a longest route has no step, a route begins
    pub begun : (n m : ℕ) (lines : List ℕ) → LongestAt p u t m 0 → GoesOn p u bounds n lines m 0 → Route p u lines × (counted lines ≡ n)
    begun n m lines at h = go g.attained.0 g.attained.1 g.attained.2
      where
        g : Greatest (Brought 0 (steps_after bounds) p u m) 0
        g = at_place m 0 at

        go : (path : List ℕ) → Arrives p u path m → counted path ≡ 0 → Route p u lines × (counted lines ≡ n)
        go [] a e = subst (λ (z : List ℕ). Route p u z × (counted z ≡ n)) (append-nil lines) (h [] a refl)
        go (l ∷ path) a e = let x = some_step (bound_of bounds (line_at p l)) (counted path) in absurd (omega arith)

  -- what a search keeps of its walk: that there is one
  module _ (kept : ∥ Walked 0 (steps_after bounds) max p u t ∥₁) where
    pub long : first p u + length t ≡ end p u + 1
    long = ∥∥₁_elim kept (hlevel props) (λ w. w.long)

    -- a place of the unit has an entry
    pub some_entry : (m : ℕ) → OwnOrEnd p u m → entry_of p u t m ≡ None → ⊥
    some_entry m o e = ∥∥₁_elim kept (hlevel props) (λ w. none_some e (w.entry m o).1)

    -- a line before the end that has one is an own line
    pub own_entry : (l v : ℕ) → first p u ≤ l → l < end p u → entry_of p u t l ≡ Some v → Own p u l
    own_entry l v a b e = ∥∥₁_elim kept (hlevel props) (λ w. own_before p u sound l b (entry_own p u sound 0 (steps_after bounds) t w l v a e))

    -- the line before a place, where one was looked for
    pub before_place : (m v : ℕ) (r : Option ℕ) → LongestAt p u t m v → MatchOption r ((l : ℕ) → Leads p u bounds t m v l → ⊥) (λ l. Leads p u bounds t m v l) → Precedes p u bounds t m r
    before_place m v None h none =
        let e : v ≡ 0 = ∥∥₁_elim kept (hlevel props) (λ w. unled w m v h none) in
        subst (LongestAt p u t m) e h
    before_place m v (Some l) h s = (v, h, s)

    -- the newest line of a whole route that stops at no line: the one before the end
    pub newest : (n : ℕ) (last : Option ℕ) → JoinOf max (Whole 0 (steps_after bounds) p u) n → ((l : ℕ) → Stops p u bounds t n l → ⊥) → Precedes p u bounds t (end p u) last → Ahead n [] last
    newest n last j none before =
        from_place n (end p u) n [] last (record { place = inr refl; read = ∥∥₁_elim kept (hlevel props) (λ w. unstopped w n j none) }) (from_end n) before
