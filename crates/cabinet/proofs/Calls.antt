-- Bytes that calls of one closure gave, one for each port. Assumes nothing.
use Rattle.std.proofs.Common.{◌≡◌, ℕ, zero, suc, ◌+◌, ◌<◌, Bool, true, false, cond, ltb, List, get_or, length, Ok, Err, sym, refl, subst, ◌∙◌, arith}
use Rattle.std.proofs.lemmas.List.{ext_get_or}
use Rattle.std.specs.Array.{IsFromFnResult, IsFromFnResultFrom}
use Rattle.std.specs.Fn.{Called}
use denote.Param.Members.{Mut}
use Rattle.cabinet.specs.declared.fault.PortFault.TheVariants.{PortAboveSeven}
use Rattle.cabinet.specs.Ports.{answer_read}

-- an answer that is no refusal has the byte of the port
pub answered : (bytes : List ℕ) (port y : ℕ) → answer_read bytes port ≡ Ok y → y ≡ get_or bytes port 0
answered bytes port y e = go (ltb port 8) e
  where
    go : (t : Bool) → cond t (Ok (get_or bytes port 0)) (Err PortAboveSeven) ≡ Ok y → y ≡ get_or bytes port 0
    go true h = cc
    go false h = cc

-- f stays as it is at each call, and gives the byte of the port that it is called at
module _ {F : Type 0} (g : Mut F (ℕ × Unit {0}) ℕ) (bytes : List ℕ) (f : F) (one : (i y : ℕ) (q : F) → Called g f (i, tt) y q → (y ≡ get_or bytes i 0) × (q ≡ f)) where
  each_port : (ys : List ℕ) (n i : ℕ) (q : F) → q ≡ f → IsFromFnResultFrom g q ys i n → (k j : ℕ) → i + k ≡ j → k < n → get_or ys j 0 ≡ get_or bytes j 0
  each_port ys zero i q e r k j at h = absurd (omega arith)
  each_port ys (suc n) i q e r zero j at h =
      let call = one i r.1 r.0 (subst (λ (x : F). Called g x (i, tt) r.1 r.0) e r.3) in
      let here : i ≡ j = omega arith in
      subst (λ (x : ℕ). get_or ys x 0 ≡ get_or bytes x 0) here (r.2.1 0 ∙ call.0)
  each_port ys (suc n) i q e r (suc k) j at h =
      let call = one i r.1 r.0 (subst (λ (x : F). Called g x (i, tt) r.1 r.0) e r.3) in
      each_port ys n (i + 1) r.0 call.1 r.4 k j (omega arith) (omega arith)

  pub made : (ys : List ℕ) → length bytes ≡ 8 → IsFromFnResult g f ys 8 → ys ≡ bytes
  made ys e r = ext_get_or 0 ys bytes (r.long ∙ sym e) (λ k h. let long = r.long in each_port ys 8 0 f refl r.each k k (omega arith) (omega arith))
