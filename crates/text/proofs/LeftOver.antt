-- What is left over at MAIN's end: a mechanism that is open, or one that is begun nowhere. Assumes nothing.
use Rattle.std.proofs.Common.{◌≡◌, ℕ, ◌+◌, ◌<◌, ◌≤◌, min, Bool, true, false, cond, not, ◌&&◌, eqb, ◌⊎◌, List, length, Some, None, MatchBool, Decides, Option, unwrap_or, sym, refl, ap, ◌∙◌, subst, inl, inr, arith, lit<}
use Rattle.std.specs.List.{HoldsAt, AllWithin}
use Rattle.std.proofs.lemmas.Bool.{cases_lt, true≢false}
use Rattle.rules.specs.declared.unit.UnitId.TheVariants.{Module}
use Rattle.rules.specs.Op.{is_begin, is_end}
use Rattle.rules.specs.Program.{Program, Own, line_at, main_module, module_first, module_end, module_of, open_at, begin_line}
use Rattle.rules.specs.Form.{Shaped, Begun, LeftOver, IsBadMechanism}
use Rattle.theory.proofs.Text.{named, open_more, module_is, end_within}
use Rattle.theory.proofs.Orderly.{clash}
use Rattle.theory.proofs.Spans.{next_begin, next_end, next_quiet, begins_not_ends}
use Rattle.theory.proofs.Units.{own_module, make_module}
use Rattle.text.specs.Finds.{Finds}
use Rattle.text.specs.Mechanisms.{Unpaired, Misses}
use Rattle.text.specs.declared.bracket.Bracket.{Bracket}
use Rattle.text.specs.Tables.{no_bracket, bracket_at, BeginsAre}
use Rattle.text.proofs.Firsts.{find_within}
use Rattle.text.proofs.Pairing.{begun_by, begun_there}

-- MECHANISMS THAT ARE LEFT OPEN

-- a mechanism is open at MAIN's end
abbrev pub OpenEnd : Program → Type 0
OpenEnd p = open_at p (module_end p main_module) ≡ None → ⊥

module _ (p : Program) (sec : Shaped p) where
  -- l is MAIN's last line
  module _ (l : ℕ) (from : module_first p main_module ≤ l) (last : l + 1 ≡ module_end p main_module) where
    within : l < length p.lines
    within = let e = end_within p main_module sec.all_lines in omega arith

    step : open_at p (module_end p main_module) ≡ cond (is_begin (line_at p l)) (Some (line_at p l).operand) (cond (is_end (line_at p l)) None (open_at p l))
    step = ap (open_at p) (sym last) ∙ open_more p l from within

    pub open_by_begin : is_begin (line_at p l) ≡ true → Decides true (OpenEnd p)
    open_by_begin b = (λ _ o. clash ⊥ (line_at p l).operand (sym (step ∙ next_begin (line_at p l) (open_at p l) b) ∙ o), λ _. refl)

    pub shut_by_end : is_end (line_at p l) ≡ true → Decides false (OpenEnd p)
    shut_by_end e = (λ q. absurd (true≢false (sym q)), λ n. absurd (n (step ∙ next_end (line_at p l) (open_at p l) (begins_not_ends (line_at p l) e) e)))

    pub open_by_unit : (owned : Bool) → Decides owned (Own p (Module main_module) l) → is_begin (line_at p l) ≡ false → is_end (line_at p l) ≡ false → Decides (not owned) (OpenEnd p)
    open_by_unit true d b e = (λ q. absurd (true≢false (sym q)), λ n. absurd (n (step ∙ next_quiet (line_at p l) (open_at p l) b e ∙ (own_module p main_module l (d.0 refl)).1 refl)))
    open_by_unit false d b e =
        let here : module_of p.lengths l ≡ main_module = module_is p l main_module (named p sec main_module (lit< tt)) from (omega arith) in
        (λ _ o. true≢false (sym (d.1 (make_module p main_module l within here (λ _. sym (step ∙ next_quiet (line_at p l) (open_at p l) b e) ∙ o)))), λ _. refl)

-- MECHANISMS THAT ARE BEGUN NOWHERE

pub missing : (p : Program) (brackets : List Bracket) (n : ℕ) (r : Bool) → length brackets ≡ length p.activation → n ≡ length p.lines → BeginsAre p brackets → MatchBool r ((k : ℕ) × (k < length brackets) × HoldsAt (λ (b : Bracket). b.begin ≡ n) brackets k) (AllWithin (λ (b : Bracket). b.begin ≡ n → ⊥) brackets 0 (length brackets)) → Decides r (Misses p)
missing p brackets n r long count are h = go r h
  where
    to : (k : ℕ) × (k < length brackets) × HoldsAt (λ (b : Bracket). b.begin ≡ n) brackets k → Misses p
    to (k, g, e) = let q = are k (omega arith) in let z = e no_bracket in (k, omega arith, λ j b. (let u = begun_by p k j b in let v = b.0 in omega arith))

    outside : (k : ℕ) → k < length p.activation → ((j : ℕ) → Begun p k j → ⊥) → (bracket_at brackets k).begin ≡ n
    outside k g none = are k g ∙ whole (cases_lt (begin_line p k) (length p.lines))
      where
        whole : (begin_line p k < length p.lines) ⊎ (length p.lines ≤ begin_line p k) → begin_line p k ≡ n
        whole (inl b) = absurd (none (begin_line p k) (begun_there p k b))
        whole (inr b) = let u = find_within (λ x. is_begin x && eqb x.operand k) p.lines in omega arith

    go : (r : Bool) → MatchBool r ((k : ℕ) × (k < length brackets) × HoldsAt (λ (b : Bracket). b.begin ≡ n) brackets k) (AllWithin (λ (b : Bracket). b.begin ≡ n → ⊥) brackets 0 (length brackets)) → Decides r (Misses p)
    go true h = (λ _. to h, λ _. refl)
    go false h = (λ q. absurd (true≢false (sym q)), λ m. absurd (h m.0 no_bracket (omega arith) (let g = m.1 in omega arith) (outside m.0 m.1 m.2)))

-- BOTH TOGETHER WITH THE LINES

module _ (p : Program) where
  elsewhere : (l : ℕ) → (LeftOver p (module_end p main_module) → ⊥) → LeftOver p l → ⊥
  elsewhere l n h = n (subst (LeftOver p) h.0 h)

  pub none_left : (r : Option ℕ) → Finds (Unpaired p) r → (LeftOver p (module_end p main_module) → ⊥) → Finds (IsBadMechanism p) r
  none_left None f n = bad
    where
      bad : (l : ℕ) → IsBadMechanism p l → ⊥
      bad l (inl u) = f l u
      bad l (inr h) = elsewhere l n h
  none_left (Some i) f n = (inl f.0, bad)
    where
      bad : (l : ℕ) → l < i → IsBadMechanism p l → ⊥
      bad l g (inl u) = f.1 l g u
      bad l g (inr h) = elsewhere l n h

  -- the first of a line and MAIN's end
  at_end : (e : ℕ) → e ≡ module_end p main_module → LeftOver p (module_end p main_module) → ((l : ℕ) → l < e → Unpaired p l → ⊥) → Finds (IsBadMechanism p) (Some e)
  at_end e is h before = (inr (subst (LeftOver p) (sym is) h), bad)
    where
      bad : (l : ℕ) → l < e → IsBadMechanism p l → ⊥
      bad l g (inl u) = before l g u
      bad l g (inr k) = let q = k.0 in omega arith

  pub one_left : (r : Option ℕ) (e : ℕ) → e ≡ module_end p main_module → Finds (Unpaired p) r → LeftOver p (module_end p main_module) → Finds (IsBadMechanism p) (Some (min (unwrap_or r e) e))
  one_left None e is f h = let q : min e e ≡ e = omega arith in subst (λ (i : ℕ). Finds (IsBadMechanism p) (Some i)) (sym q) (at_end e is h (λ l _. f l))
  one_left (Some i) e is f h = go (cases_lt i e)
    where
      bad : i < e → (l : ℕ) → l < i → IsBadMechanism p l → ⊥
      bad s l g (inl u) = f.1 l g u
      bad s l g (inr k) = let q = k.0 in omega arith

      go : (i < e) ⊎ (e ≤ i) → Finds (IsBadMechanism p) (Some (min i e))
      go (inl s) = let q : min i e ≡ i = omega arith in subst (λ (j : ℕ). Finds (IsBadMechanism p) (Some j)) (sym q) (inl f.0, bad s)
      go (inr s) = let q : min i e ≡ e = omega arith in subst (λ (j : ℕ). Finds (IsBadMechanism p) (Some j)) (sym q) (at_end e is h (λ l g. f.1 l (omega arith)))
