-- Which rule a breach is of, and the refusal that is given once the rules before it are tested. Assumes nothing.
use Rattle.std.proofs.Common.{◌≡◌, ℕ, ◌+◌, ◌<◌, ◌≤◌, true, false, eqb, ◌⊎◌, length, Some, None, Option, sym, refl, ap, ◌∙◌, subst, inl, inr, arith, lit<}
use Rattle.std.proofs.lemmas.Bool.{cases_eq, cases_lt, eqb-true, cases_Bool, cond-true, cond-false}
use Rattle.std.specs.Option.{option_map}
use Rattle.std.proofs.lemmas.Option.{none-some}
use Rattle.rules.specs.Refusal.{rule_number}
use Rattle.rules.specs.declared.op.Op.{Op}
use Rattle.rules.specs.declared.op.Op.TheVariants.{MechBegin}
use Rattle.rules.specs.Op.{plain, decode}
use Rattle.rules.specs.Program.{Program, line_at, op_at}
use Rattle.rules.specs.Form.{Reaches, Unknown, IsBadOperand, IsBadMechanism, IsBadJump, IsBadExit, IsBadInit}
use Rattle.rules.specs.Verdict.{Breaks, by_unknown_line, by_bad_operand, by_bad_mechanism, by_bad_jump, by_bad_exit, by_bad_init, by_bad_depth, by_uninitialised, TextRefused}
use Rattle.text.specs.Finds.{Finds}
use Rattle.text.specs.Mechanisms.{Named}
use Rattle.text.specs.declared.fault.TextFault.{TextFault}
use Rattle.text.specs.declared.fault.TextFault.TheVariants.{UnknownLine, BadOperand, BadMechanism, BadJump, BadExit, BadInit}
use Rattle.text.specs.Faults.{fault_rule, fault_place}
use Rattle.text.specs.Verdicts.{Keeps, RefusedBy}

-- a breach by its rule
breach : {p : Program} {r l : ℕ} (Q : Type 0) → Breaks p r l → (r ≡ 6 → Unknown p l → Q) → (r ≡ 7 → IsBadOperand p l → Q) → (r ≡ 8 → IsBadMechanism p l → Q) → (r ≡ 9 → IsBadJump p l → Q) → (r ≡ 10 → IsBadExit p l → Q) → (r ≡ 11 → IsBadInit p l → Q) → (13 ≤ r → Q) → Q
breach Q (by_unknown_line e h) f6 f7 f8 f9 f10 f11 more = f6 e h
breach Q (by_bad_operand e h) f6 f7 f8 f9 f10 f11 more = f7 e h
breach Q (by_bad_mechanism e h) f6 f7 f8 f9 f10 f11 more = f8 e h
breach Q (by_bad_jump e h) f6 f7 f8 f9 f10 f11 more = f9 e h
breach Q (by_bad_exit e h) f6 f7 f8 f9 f10 f11 more = f10 e h
breach Q (by_bad_init e h) f6 f7 f8 f9 f10 f11 more = f11 e h
breach Q (by_bad_depth e h) f6 f7 f8 f9 f10 f11 more = more (omega arith)
breach Q (by_uninitialised e m h) f6 f7 f8 f9 f10 f11 more = more (omega arith)

-- a rule of the text by its number: where it is broken, and the fault that tells so
pub record Rule (p : Program) (n : ℕ) (P : ℕ → Type 0) (fault : ℕ → TextFault) : Type 0 where
  to : (l : ℕ) → P l → Breaks p n l
  back : (l : ℕ) → Breaks p n l → P l
  number : (l : ℕ) → rule_number (fault_rule (fault l)) ≡ n
  place : (l : ℕ) → fault_place (fault l) ≡ l

module _ {p : Program} {n : ℕ} {P : ℕ → Type 0} {fault : ℕ → TextFault} (is : Rule p n P fault) (keeps : Keeps p n) where
  -- the first place where the rule is broken is refused
  pub refused : (r : Option ℕ) → Finds P r → {o : Option TextFault} → o ≡ option_map fault r → (e : TextFault) → o ≡ Some e → RefusedBy p e
  refused None f q e s = absurd (none-some e (sym q ∙ s))
  refused (Some l) f q e s =
      let same : fault l ≡ e = cc in
      let h : TextRefused p n l = record { broken = is.to l f.0; lowest = keeps; foremost = λ k g b. f.1 k g (is.back k b) } in
      subst (RefusedBy p) same (subst (λ (i : ℕ). TextRefused p i (fault_place (fault l))) (sym (is.number l)) (subst (TextRefused p n) (sym (is.place l)) h))

  -- where it is broken nowhere, the next rule is due
  pub past : (r : Option ℕ) → Finds P r → {o : Option TextFault} → o ≡ option_map fault r → o ≡ None → Keeps p (n + 1)
  past (Some l) f q s = absurd (none-some (fault l) (sym s ∙ q))
  past None f q s = λ r l h b. elim (cases_eq r n) [ inl t ↦ f l (is.back l (subst (λ (i : ℕ). Breaks p i l) t b)) | inr d ↦ keeps r l (omega arith) b ]

module _ (p : Program) where
  -- no rule of the text has a number below 6
  pub keeps_6 : Keeps p 6
  keeps_6 r l h b = breach ⊥ b (λ e _. omega arith) (λ e _. omega arith) (λ e _. omega arith) (λ e _. omega arith) (λ e _. omega arith) (λ e _. omega arith) (λ g. omega arith)

  pub rule_6 : Rule p 6 (Unknown p) UnknownLine
  rule_6 = record { to = λ l. by_unknown_line refl; back = λ l b. breach (Unknown p l) b (λ _ h. h) (λ e _. absurd (omega arith)) (λ e _. absurd (omega arith)) (λ e _. absurd (omega arith)) (λ e _. absurd (omega arith)) (λ e _. absurd (omega arith)) (λ g. absurd (omega arith)); number = λ l. refl; place = λ l. refl }

  pub rule_7 : Rule p 7 (IsBadOperand p) BadOperand
  rule_7 = record { to = λ l. by_bad_operand refl; back = λ l b. breach (IsBadOperand p l) b (λ e _. absurd (omega arith)) (λ _ h. h) (λ e _. absurd (omega arith)) (λ e _. absurd (omega arith)) (λ e _. absurd (omega arith)) (λ e _. absurd (omega arith)) (λ g. absurd (omega arith)); number = λ l. refl; place = λ l. refl }

  pub rule_8 : Rule p 8 (IsBadMechanism p) BadMechanism
  rule_8 = record { to = λ l. by_bad_mechanism refl; back = λ l b. breach (IsBadMechanism p l) b (λ e _. absurd (omega arith)) (λ e _. absurd (omega arith)) (λ _ h. h) (λ e _. absurd (omega arith)) (λ e _. absurd (omega arith)) (λ e _. absurd (omega arith)) (λ g. absurd (omega arith)); number = λ l. refl; place = λ l. refl }

  pub rule_9 : Rule p 9 (IsBadJump p) BadJump
  rule_9 = record { to = λ l. by_bad_jump refl; back = λ l b. breach (IsBadJump p l) b (λ e _. absurd (omega arith)) (λ e _. absurd (omega arith)) (λ e _. absurd (omega arith)) (λ _ h. h) (λ e _. absurd (omega arith)) (λ e _. absurd (omega arith)) (λ g. absurd (omega arith)); number = λ l. refl; place = λ l. refl }

  pub rule_10 : Rule p 10 (IsBadExit p) BadExit
  rule_10 = record { to = λ l. by_bad_exit refl; back = λ l b. breach (IsBadExit p l) b (λ e _. absurd (omega arith)) (λ e _. absurd (omega arith)) (λ e _. absurd (omega arith)) (λ e _. absurd (omega arith)) (λ _ h. h) (λ e _. absurd (omega arith)) (λ g. absurd (omega arith)); number = λ l. refl; place = λ l. refl }

  pub rule_11 : Rule p 11 (IsBadInit p) BadInit
  rule_11 = record { to = λ l. by_bad_init refl; back = λ l b. breach (IsBadInit p l) b (λ e _. absurd (omega arith)) (λ e _. absurd (omega arith)) (λ e _. absurd (omega arith)) (λ e _. absurd (omega arith)) (λ e _. absurd (omega arith)) (λ _ h. h) (λ g. absurd (omega arith)); number = λ l. refl; place = λ l. refl }

  -- a MECH_BEGIN that is known names a mechanism that serves
  pub named_by : Keeps p 8 → Named p
  named_by keeps l h b =
      let x = line_at p l in
      let code : x.code ≡ 22 = eqb-true x.code 22 b in
      let says : decode x ≡ plain x.mode (MechBegin x.operand) = ap (λ (c : ℕ). decode (record { code = c; mode = x.mode; operand = x.operand })) code in
      go says (cases_Bool (eqb x.mode 0)) (cases_lt x.operand (length p.activation))
    where
      go : decode (line_at p l) ≡ plain (line_at p l).mode (MechBegin (line_at p l).operand) → (eqb (line_at p l).mode 0 ≡ true) ⊎ (eqb (line_at p l).mode 0 ≡ false) → ((line_at p l).operand < length p.activation) ⊎ (length p.activation ≤ (line_at p l).operand) → (line_at p l).operand < length p.activation
      go says m (inl s) = s
      go says (inr m) (inr s) = absurd (keeps 6 l (lit< tt) (by_unknown_line refl (h, says ∙ cond-false (eqb (line_at p l).mode 0) (Some (MechBegin (line_at p l).operand)) None m)))
      go says (inl m) (inr s) =
          let op : op_at p l ≡ Some (MechBegin (line_at p l).operand) = says ∙ cond-true (eqb (line_at p l).mode 0) (Some (MechBegin (line_at p l).operand)) None m in
          absurd (keeps 7 l (lit< tt) (by_bad_operand refl (h, λ r. (let q : (line_at p l).operand < length p.activation = subst (λ (o : Option Op). Reaches p (line_at p l) o) op r in omega arith))))
