-- What a decoded line says of its code, its operand and its mode. Assumes nothing.
use Rattle.std.proofs.Common.{◌≡◌, ℕ, Bool, true, false, cond, ◌&&◌, eqb, Some, None, Option, sym, refl, ap, ◌∙◌, subst, arith}
use Rattle.std.proofs.lemmas.Bool.{eqb-true, and_right, and_from}
use Rattle.rules.specs.declared.line.Line.{Line}
use Rattle.rules.specs.declared.op.Logic.{Logic}
use Rattle.rules.specs.declared.op.Op.{Op}
use Rattle.rules.specs.declared.op.Logic.TheVariants.{And, Or, Xor}
use Rattle.rules.specs.declared.op.Op.TheVariants.{Ldr, Combine, CombineCell, Ca, Wr, Fl, Fl1, Jl, Ex, ExIf, Lod, Sto, Ad, Ge, Abs, MechBegin, MechEnd, MechInit}
use Rattle.rules.specs.declared.op.Width.{Width}
use Rattle.rules.specs.declared.op.Width.TheVariants.{One, Two, Four}
use Rattle.rules.specs.Op.{code_of, logic_name, jump_name, exit_name, name_of, by_negation, by_cell, plain, by_width, decode}
use Rattle.theory.specs.Decoded.{arg_of, pop_of, cell_code, Says, LinesSay}

-- the code of each operation
abbrev pub op_code : Op → ℕ
op_code o = code_of (name_of o)

-- the codes of the joins, the jumps and the exits
abbrev pub logic_code : Logic → ℕ
logic_code f = code_of (logic_name f)

abbrev pub exit_code : Bool → ℕ
exit_code w = code_of (exit_name w)

abbrev pub jump_code : Bool → ℕ
jump_code w = code_of (jump_name w)

pick : {A : Type 0} (P : Type 0) (b : Bool) (x y : Option A) (o : Option A) → cond b x y ≡ o → (b ≡ true → x ≡ o → P) → (b ≡ false → y ≡ o → P) → P
pick P true x y o h f g = f refl h
pick P false x y o h f g = g refl h

none_some : {A : Type 0} (P : Type 0) (a : A) → None ≡ Some a → P
none_some P a h = absurd (let z : ◌≡◌ {A = ℕ} 0 1 = cc in omega arith)

from_some : {A : Type 0} (P : A → Type 0) (a b : A) → Some a ≡ Some b → P a → P b
from_some P a b h x = subst P (cc h) x

negation_says : (P : Op → Type 0) (m : ℕ) (f : Bool → Op) (o : Op) → by_negation m f ≡ Some o → P (f false) → P (f true) → P o
negation_says P m f o h x y =
    pick (P o) (eqb m 0) (Some (f false)) (cond (eqb m 1) (Some (f true)) None) (Some o) h (λ _ e. from_some P (f false) o e x)
    (λ _ h₂. pick (P o) (eqb m 1) (Some (f true)) None (Some o) h₂ (λ _ e. from_some P (f true) o e y) (λ _ e. none_some (P o) o e))

plain_says : (P : Op → Type 0) (m : ℕ) (g : Op) (o : Op) → plain m g ≡ Some o → P g → P o
plain_says P m g o h x = pick (P o) (eqb m 0) (Some g) None (Some o) h (λ _ e. from_some P g o e x) (λ _ e. none_some (P o) o e)

width_says : (P : Op → Type 0) (m : ℕ) (f : Width → Op) (o : Op) → by_width m f ≡ Some o → ((w : Width) → P (f w)) → P o
width_says P m f o h x =
    pick (P o) (eqb m 1) (Some (f One)) (cond (eqb m 2) (Some (f Two)) (cond (eqb m 4) (Some (f Four)) None)) (Some o) h (λ _ e. from_some P (f One) o e (x One))
    (λ _ h₂. pick (P o) (eqb m 2) (Some (f Two)) (cond (eqb m 4) (Some (f Four)) None) (Some o) h₂ (λ _ e. from_some P (f Two) o e (x Two))
    (λ _ h₃. pick (P o) (eqb m 4) (Some (f Four)) None (Some o) h₃ (λ _ e. from_some P (f Four) o e (x Four)) (λ _ e. none_some (P o) o e)))

cell_says : (P : Op → Type 0) (m : ℕ) (f : Bool → Op) (g : Op) (o : Op) → by_cell m f g ≡ Some o → (eqb m 2 ≡ true → P g) → (eqb m 2 ≡ false → (s : Bool) → P (f s)) → P o
cell_says P m f g o h x y =
    pick (P o) (eqb m 2) (Some g) (by_negation m f) (Some o) h (λ t e. from_some P g o e (x t)) (λ t e. negation_says P m f o e (y t false) (y t true))

module _ (x : Line) where
  -- a line with a code and no cell
  no_cell : (c : ℕ) → x.code ≡ c → cell_code c ≡ false → (eqb x.mode 2 && cell_code x.code) ≡ false
  no_cell c e h = and_right (eqb x.mode 2) (cell_code x.code) (ap cell_code e ∙ h)

  cell : (c : ℕ) → x.code ≡ c → cell_code c ≡ true → eqb x.mode 2 ≡ true → (eqb x.mode 2 && cell_code x.code) ≡ true
  cell c e h m = and_from (eqb x.mode 2) (cell_code x.code) m (ap cell_code e ∙ h)

  bare : (c : ℕ) → x.code ≡ c → eqb x.mode 2 ≡ false → (eqb x.mode 2 && cell_code x.code) ≡ false
  bare c e m = ap (λ (b : Bool). b && cell_code x.code) m

  found : (c : ℕ) → eqb x.code c ≡ true → x.code ≡ c
  found c h = eqb-true x.code c h

  -- a line of a code that takes no cell, at whatever mode
  says : (q : Op) → x.operand ≡ arg_of q x.operand → cell_code (op_code q) ≡ false → pop_of q ≡ false → eqb x.code (op_code q) ≡ true → Says x q
  says q a n z t = record { code_is = found (op_code q) t; arg_is = a; pop_is = no_cell (op_code q) (found (op_code q) t) n ∙ sym z }

  popping : (g : Logic) → cell_code (logic_code g) ≡ true → eqb x.code (logic_code g) ≡ true → eqb x.mode 2 ≡ true → Says x (CombineCell g)
  popping g n t m = record { code_is = found (logic_code g) t; arg_is = refl; pop_is = cell (logic_code g) (found (logic_code g) t) n m }

  sparing : (g : Logic) (s : Bool) → eqb x.code (logic_code g) ≡ true → eqb x.mode 2 ≡ false → Says x (Combine g s x.operand)
  sparing g s t m = record { code_is = found (logic_code g) t; arg_is = refl; pop_is = bare (logic_code g) (found (logic_code g) t) m }

  logic_says : (g : Logic) (o : Op) → cell_code (logic_code g) ≡ true → eqb x.code (logic_code g) ≡ true → by_cell x.mode (λ s. Combine g s x.operand) (CombineCell g) ≡ Some o → Says x o
  logic_says g o n t e = cell_says (λ q. Says x q) x.mode (λ s. Combine g s x.operand) (CombineCell g) o e (λ m. popping g n t m) (λ m s. sparing g s t m)

  pub decode_says : (o : Op) → decode x ≡ Some o → Says x o
  decode_says o h1 =
      let P : Op → Type 0 = λ q. Says x q in
      pick (P o) (eqb x.code 1) _ _ (Some o) h1 (λ t e. negation_says P x.mode (λ s. Ldr s x.operand) o e (says (Ldr false x.operand) refl refl refl t) (says (Ldr true x.operand) refl refl refl t))
      (λ _ h2. pick (P o) (eqb x.code 2) _ _ (Some o) h2 (λ t e. logic_says And o refl t e)
      (λ _ h3. pick (P o) (eqb x.code 3) _ _ (Some o) h3 (λ t e. logic_says Or o refl t e)
      (λ _ h4. pick (P o) (eqb x.code 4) _ _ (Some o) h4 (λ t e. logic_says Xor o refl t e)
      (λ _ h5. pick (P o) (eqb x.code 5) _ _ (Some o) h5 (λ t e. plain_says P x.mode (Ca) o e (says (Ca) refl refl refl t))
      (λ _ h6. pick (P o) (eqb x.code 6) _ _ (Some o) h6 (λ t e. plain_says P x.mode (Wr x.operand) o e (says (Wr x.operand) refl refl refl t))
      (λ _ h7. pick (P o) (eqb x.code 7) _ _ (Some o) h7 (λ t e. negation_says P x.mode (λ s. Fl s x.operand) o e (says (Fl false x.operand) refl refl refl t) (says (Fl true x.operand) refl refl refl t))
      (λ _ h8. pick (P o) (eqb x.code 8) _ _ (Some o) h8 (λ t e. negation_says P x.mode (λ s. Fl1 s x.operand) o e (says (Fl1 false x.operand) refl refl refl t) (says (Fl1 true x.operand) refl refl refl t))
      (λ _ h9. pick (P o) (eqb x.code 9) _ _ (Some o) h9 (λ t e. plain_says P x.mode (Jl false x.operand) o e (says (Jl false x.operand) refl refl refl t))
      (λ _ h10. pick (P o) (eqb x.code 10) _ _ (Some o) h10 (λ t e. plain_says P x.mode (Jl true x.operand) o e (says (Jl true x.operand) refl refl refl t))
      (λ _ h11. pick (P o) (eqb x.code 11) _ _ (Some o) h11 (λ t e. plain_says P x.mode (Ex) o e (says (Ex) refl refl refl t))
      (λ _ h12. pick (P o) (eqb x.code 12) _ _ (Some o) h12 (λ t e. plain_says P x.mode (ExIf false) o e (says (ExIf false) refl refl refl t))
      (λ _ h13. pick (P o) (eqb x.code 13) _ _ (Some o) h13 (λ t e. plain_says P x.mode (ExIf true) o e (says (ExIf true) refl refl refl t))
      (λ _ h14. pick (P o) (eqb x.code 16) _ _ (Some o) h14 (λ t e. width_says P x.mode (λ w. Lod w x.operand) o e (λ w. says (Lod w x.operand) refl refl refl t))
      (λ _ h15. pick (P o) (eqb x.code 17) _ _ (Some o) h15 (λ t e. width_says P x.mode (λ w. Sto w x.operand) o e (λ w. says (Sto w x.operand) refl refl refl t))
      (λ _ h16. pick (P o) (eqb x.code 19) _ _ (Some o) h16 (λ t e. width_says P x.mode (λ w. Ad w x.operand) o e (λ w. says (Ad w x.operand) refl refl refl t))
      (λ _ h17. pick (P o) (eqb x.code 20) _ _ (Some o) h17 (λ t e. width_says P x.mode (λ w. Abs w) o e (λ w. says (Abs w) refl refl refl t))
      (λ _ h18. pick (P o) (eqb x.code 21) _ _ (Some o) h18 (λ t e. width_says P x.mode (λ w. Ge w x.operand) o e (λ w. says (Ge w x.operand) refl refl refl t))
      (λ _ h19. pick (P o) (eqb x.code 22) _ _ (Some o) h19 (λ t e. plain_says P x.mode (MechBegin x.operand) o e (says (MechBegin x.operand) refl refl refl t))
      (λ _ h20. pick (P o) (eqb x.code 23) _ _ (Some o) h20 (λ t e. plain_says P x.mode (MechEnd x.operand) o e (says (MechEnd x.operand) refl refl refl t))
      (λ _ h21. pick (P o) (eqb x.code 24) _ _ (Some o) h21 (λ t e. plain_says P x.mode (MechInit x.operand) o e (says (MechInit x.operand) refl refl refl t))
      (λ _ e. none_some (P o) o e)))))))))))))))))))))

pub lines_say : LinesSay
lines_say x o h = decode_says x o h
