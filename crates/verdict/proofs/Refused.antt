-- From what the checks found to the refusal, and to acceptance. Assumes nothing.
use Rattle.std.proofs.Common.{◌≡◌, ℕ, ◌<◌, ◌⊎◌, refl, subst, inl, inr, arith}
use Rattle.rules.specs.Program.{Program, init_module, clear_module}
use Rattle.rules.specs.Verdict.{IsBadDepth, MissesInit, Breaks, by_unknown_line, by_bad_operand, by_bad_mechanism, by_bad_jump, by_bad_exit, by_bad_init, by_bad_depth, by_uninitialised, TextRefused}
use Rattle.text.specs.Tables.{Unbroken}

module _ (p : Program) (form : Unbroken p) where
  -- a rule that is broken is that of the depths, or the last, at INIT or at CLEAR
  broken : (r l : ℕ) → Breaks p r l → ((r ≡ 13) × IsBadDepth p l) ⊎ ((r ≡ 14) × ((l ≡ init_module) ⊎ (l ≡ clear_module)) × MissesInit p l)
  broken r l (by_unknown_line e u) = absurd (form r l (omega arith) (by_unknown_line e u))
  broken r l (by_bad_operand e u) = absurd (form r l (omega arith) (by_bad_operand e u))
  broken r l (by_bad_mechanism e u) = absurd (form r l (omega arith) (by_bad_mechanism e u))
  broken r l (by_bad_jump e u) = absurd (form r l (omega arith) (by_bad_jump e u))
  broken r l (by_bad_exit e u) = absurd (form r l (omega arith) (by_bad_exit e u))
  broken r l (by_bad_init e u) = absurd (form r l (omega arith) (by_bad_init e u))
  broken r l (by_bad_depth e u) = inl (e, u)
  broken r l (by_uninitialised e w u) = inr (e, w, u)

  pub refused_depth : (l : ℕ) → IsBadDepth p l → ((k : ℕ) → k < l → IsBadDepth p k → ⊥) → TextRefused p 13 l
  refused_depth l b f = record {
    broken = by_bad_depth refl b;
    lowest = λ r k h x. elim (broken r k x) [ inl d ↦ (let e = d.0 in omega arith) | inr d ↦ (let e = d.0 in omega arith) ];
    foremost = λ k h x. elim (broken 13 k x) [ inl d ↦ f k h d.1 | inr d ↦ (let e = d.0 in omega arith) ];
  }

  module _ (level : (l : ℕ) → IsBadDepth p l → ⊥) where
    -- only the last rule can be broken
    last : (r l : ℕ) → Breaks p r l → (r ≡ 14) × ((l ≡ init_module) ⊎ (l ≡ clear_module)) × MissesInit p l
    last r l x = elim (broken r l x) [ inl d ↦ absurd (level l d.1) | inr d ↦ d ]

    pub refused_init : MissesInit p 4 → TextRefused p 14 4
    refused_init m = record {
      broken = by_uninitialised refl (inl refl) m;
      lowest = λ r l h x. (let e = (last r l x).0 in omega arith);
      foremost = λ k h x. elim (last 14 k x).1 [ inl e ↦ omega arith | inr e ↦ omega arith ];
    }

    module _ (init : MissesInit p 4 → ⊥) where
      pub refused_clear : MissesInit p 5 → TextRefused p 14 5
      refused_clear m = record {
        broken = by_uninitialised refl (inr refl) m;
        lowest = λ r l h x. (let e = (last r l x).0 in omega arith);
        foremost = λ k h x. (let d = last 14 k x in elim d.1 [ inl e ↦ init (subst (MissesInit p) e d.2) | inr e ↦ omega arith ]);
      }

      pub unbroken : (MissesInit p 5 → ⊥) → (rule place : ℕ) → Breaks p rule place → ⊥
      unbroken clear r l x = let d = last r l x in elim d.1 [ inl e ↦ init (subst (MissesInit p) e d.2) | inr e ↦ clear (subst (MissesInit p) e d.2) ]
