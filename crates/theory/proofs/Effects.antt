-- What each line's effect keeps: the length of the data, the count of the cells, and where control may go. Assumes nothing.
use Rattle.std.proofs.Common.{◌≡◌, ℕ, zero, suc, ◌+◌, ◌*◌, ◌/◌, ◌%◌, ◌<◌, ◌≤◌, Bool, true, false, cond, not, ◌&&◌, eqb, ltb, List, [], ◌∷◌, length, get_or, set, ℤ, pos, negsuc, ◌+ℤ◌, Some, None, Option, sym, refl, ap, ◌∙◌, subst, arith}
use lib.Signed.{le_z}
use Rattle.std.proofs.lemmas.Bool.{ltb-true, lt-ltb, le-leb, cond-true}
use Rattle.std.proofs.lemmas.List.{length-set}
use Rattle.std.proofs.lemmas.Int.{ints}
use Rattle.rules.specs.declared.line.Line.{Line}
use Rattle.rules.specs.declared.op.Logic.{Logic}
use Rattle.rules.specs.declared.op.Op.{Op}
use Rattle.rules.specs.declared.op.Logic.TheVariants.{And, Or, Xor}
use Rattle.rules.specs.declared.op.Op.TheVariants.{Ldr, Combine, CombineCell, Ca, Wr, Fl, Fl1, Jl, Ex, ExIf, Lod, Sto, Ad, Ge, Abs, MechBegin, MechEnd, MechInit}
use Rattle.rules.specs.Op.{bytes_of}
use Rattle.rules.specs.Program.{Program}
use Rattle.rules.specs.Number.{bit, with_bit, number, with_number, modulus, signed, absolute_value}
use Rattle.rules.specs.Form.{Reaches}
use Rattle.rules.specs.Effect.{Registers, Turn, follows, goes, stops, waits, resumes, enters, skips, resets, Done, joined, negated_if, rlo_is, bit_in, number_in, provided, keeping, pushed, loaded, popped, effect}
use Rattle.theory.specs.Decoded.{pop_of}
use Rattle.theory.proofs.Decode.{op_code, logic_code, jump_code, exit_code}
use Rattle.theory.proofs.Orderly.{clash}

abbrev pub push_of : Bool → Op → Bool
push_of f o = eqb (op_code o) 1 && f

abbrev pub delta : Bool → Bool → ℤ
delta a b = cond a (pos 1) (cond b (negsuc 0) (pos 0))

-- where an operation can lead
abbrev pub Turns : Op → Turn → Type 0
Turns o follows = eqb (op_code o) 11 ≡ false
Turns o (goes t) = (w : Bool) × (o ≡ Jl w t)
Turns o stops = o ≡ Ex
Turns o waits = (w : Bool) × (o ≡ ExIf w)
Turns o resumes = (w : Bool) × (o ≡ ExIf w)
Turns o (enters k) = o ≡ MechBegin k
Turns o (skips k) = o ≡ MechBegin k
Turns o (resets k) = o ≡ MechInit k

pub record Did (f : Bool) (o : Op) (r : Registers) (m : List ℕ) (d : Done) : Type 0 where
  pub same_length : length d.bytes ≡ length m
  pub balance : pos (length d.registers.cells) ≡ pos (length r.cells) +ℤ delta (push_of f o) (pop_of o)
  pub at_most : length r.cells ≤ 8 → length d.registers.cells ≤ 8
  pub turns : Turns o d.turn

length-with_bit : (m : List ℕ) (a : ℕ) (v : Bool) → length (with_bit m a v) ≡ length m
length-with_bit m a v = length-set m (a / 8) _

length-with_number : (m : List ℕ) (a w n : ℕ) → length (with_number m a w n) ≡ length m
length-with_number m a zero n = refl
length-with_number m a (suc w) n = length-with_number (set m a (n % 256)) (a + 1) w (n / 256) ∙ length-set m a (n % 256)

pub from_provided : {A : Type 0} (P : A → Type 0) (b : Bool) (x d : A) → provided b x ≡ Some d → P x → P d
from_provided P true x d h y = subst P (cc h) y
from_provided P false x d h y = clash (P d) d (sym h)

pub from_some : {A : Type 0} (P : A → Type 0) (x d : A) → Some x ≡ Some d → P x → P d
from_some P x d h y = subst P (cc h) y

-- an effect that keeps the cells
keeps_cells : (f : Bool) (o : Op) (r : Registers) (m bytes : List ℕ) (b : Bool) (n : ℕ) (t : Turn) → push_of f o ≡ false → pop_of o ≡ false → length bytes ≡ length m → Turns o t → Did f o r m (keeping (record { rlo = b; dr = n; cells = r.cells }) bytes t)
keeps_cells f o r m bytes b n t x y l q =
    record { same_length = l; balance = rw (x, y) (omega (arith, ints)); at_most = λ h. h; turns = q }

load_did : (f : Bool) (s : Bool) (a : ℕ) (r : Registers) (m : List ℕ) (b : Bool) (d : Done) → loaded (pushed f r) r b m ≡ Some d → Did f (Ldr s a) r m d
load_did false s a r m b d h = from_some (Did false (Ldr s a) r m) _ d h (keeps_cells false (Ldr s a) r m m b r.dr follows refl refl refl refl)
load_did true s a r m b d h = go (ltb (length r.cells) 8) refl h
  where
    go : (t : Bool) → ltb (length r.cells) 8 ≡ t → loaded (provided t (r.rlo ∷ r.cells)) r b m ≡ Some d → Did true (Ldr s a) r m d
    go false e h = clash (Did true (Ldr s a) r m d) d (sym h)
    go true e h = from_some (Did true (Ldr s a) r m) _ d h (let q = ltb-true (length r.cells) 8 e in record { same_length = refl; balance = omega (arith, ints); at_most = λ _. omega arith; turns = refl })

minus_one : (n k : ℕ) → n ≡ suc k → pos k ≡ pos n +ℤ negsuc 0
minus_one n k e = omega (arith, ints)

pop_did : (f : Bool) (g : Logic) (r : Registers) (m : List ℕ) (cells : List Bool) (d : Done) → r.cells ≡ cells → popped g r cells m ≡ Some d → eqb (op_code (CombineCell g)) 11 ≡ false → push_of f (CombineCell g) ≡ false → Did f (CombineCell g) r m d
pop_did f g r m [] d e h z y = clash (Did f (CombineCell g) r m d) d (sym h)
pop_did f g r m (c ∷ cells) d e h z y =
    let q : length r.cells ≡ suc (length cells) = ap length e in
    from_some (Did f (CombineCell g) r m) _ d h (record { same_length = refl; balance = rw y (minus_one (length r.cells) (length cells) q); at_most = λ h. omega arith; turns = z })

jump_turns : (w : Bool) (t : ℕ) (b : Bool) → Turns (Jl w t) (cond b (goes t) follows)
jump_turns w t true = (w, refl)
jump_turns false t false = refl
jump_turns true t false = refl

exit_turns : (w b : Bool) → Turns (ExIf w) (cond b waits resumes)
exit_turns w true = (w, refl)
exit_turns w false = (w, refl)

begin_turns : (k : ℕ) (b : Bool) → Turns (MechBegin k) (cond b (enters k) (skips k))
begin_turns k true = refl
begin_turns k false = refl

length-if : (m : List ℕ) (a : ℕ) (v b : Bool) → length (cond b (with_bit m a v) m) ≡ length m
length-if m a v true = length-with_bit m a v
length-if m a v false = refl

not_load : (g : Logic) (f : Bool) → (eqb (logic_code g) 1 && f) ≡ false
not_load And f = refl
not_load Or f = refl
not_load Xor f = refl

not_exit : (g : Logic) → eqb (logic_code g) 11 ≡ false
not_exit And = refl
not_exit Or = refl
not_exit Xor = refl

no_jump_load : (w : Bool) (f : Bool) → (eqb (jump_code w) 1 && f) ≡ false
no_jump_load true f = refl
no_jump_load false f = refl

no_exit_load : (w : Bool) (f : Bool) → (eqb (exit_code w) 1 && f) ≡ false
no_exit_load true f = refl
no_exit_load false f = refl

pub did : (f : Bool) (activation : List ℕ) (o : Op) (r : Registers) (m : List ℕ) (d : Done) → effect f activation o r m ≡ Some d → Did f o r m d
did f activation (Ldr s a) r m d h = go (bit_in m a) h
  where
    go : (b : Bool) → cond b (loaded (pushed f r) r (negated_if s (bit m a)) m) None ≡ Some d → Did f (Ldr s a) r m d
    go true h = load_did f s a r m (negated_if s (bit m a)) d h
    go false h = clash (Did f (Ldr s a) r m d) d (sym h)
did f activation (Combine g s a) r m d h = from_provided (Did f (Combine g s a) r m) (bit_in m a) _ d h (keeps_cells f (Combine g s a) r m m (joined g r.rlo (negated_if s (bit m a))) r.dr follows (not_load g f) refl refl (not_exit g))
did f activation (CombineCell g) r m d h = pop_did f g r m r.cells d refl h (not_exit g) (not_load g f)
did f activation Ca r m d h = from_some (Did f Ca r m) _ d h (keeps_cells f Ca r m m (not r.rlo) r.dr follows refl refl refl refl)
did f activation (Wr a) r m d h = from_provided (Did f (Wr a) r m) (bit_in m a) _ d h (keeps_cells f (Wr a) r m (with_bit m a r.rlo) r.rlo r.dr follows refl refl (length-with_bit m a r.rlo) refl)
did f activation (Fl v a) r m d h = from_provided (Did f (Fl v a) r m) (bit_in m a) _ d h (keeps_cells f (Fl v a) r m (with_bit m a v) r.rlo r.dr follows refl refl (length-with_bit m a v) refl)
did f activation (Fl1 v a) r m d h = from_provided (Did f (Fl1 v a) r m) (bit_in m a) _ d h (keeps_cells f (Fl1 v a) r m (cond r.rlo (with_bit m a v) m) r.rlo r.dr follows refl refl (length-if m a v r.rlo) refl)
did f activation (Jl w t) r m d h = from_some (Did f (Jl w t) r m) _ d h (keeps_cells f (Jl w t) r m m r.rlo r.dr (cond (rlo_is w r) (goes t) follows) (no_jump_load w f) refl refl (jump_turns w t (rlo_is w r)))
did f activation Ex r m d h = from_some (Did f Ex r m) _ d h (keeps_cells f Ex r m m r.rlo r.dr stops refl refl refl refl)
did f activation (ExIf w) r m d h = from_some (Did f (ExIf w) r m) _ d h (keeps_cells f (ExIf w) r m m r.rlo r.dr (cond (rlo_is w r) waits resumes) (no_exit_load w f) refl refl (exit_turns w (rlo_is w r)))
did f activation (Lod w a) r m d h = from_provided (Did f (Lod w a) r m) (number_in m (bytes_of w) a) _ d h (keeps_cells f (Lod w a) r m m r.rlo (number m a (bytes_of w)) follows refl refl refl refl)
did f activation (Sto w a) r m d h = from_provided (Did f (Sto w a) r m) (number_in m (bytes_of w) a) _ d h (keeps_cells f (Sto w a) r m (with_number m a (bytes_of w) r.dr) r.rlo r.dr follows refl refl (length-with_number m a (bytes_of w) r.dr) refl)
did f activation (Ad w a) r m d h = from_provided (Did f (Ad w a) r m) (number_in m (bytes_of w) a) _ d h (keeps_cells f (Ad w a) r m m r.rlo ((r.dr % modulus (bytes_of w) + number m a (bytes_of w)) % modulus (bytes_of w)) follows refl refl refl refl)
did f activation (Ge w a) r m d h = from_provided (Did f (Ge w a) r m) (number_in m (bytes_of w) a) _ d h (keeps_cells f (Ge w a) r m m (le_z (signed (bytes_of w) (number m a (bytes_of w))) (signed (bytes_of w) (r.dr % modulus (bytes_of w)))) r.dr follows refl refl refl refl)
did f activation (Abs w) r m d h = from_some (Did f (Abs w) r m) _ d h (keeps_cells f (Abs w) r m m r.rlo (absolute_value (bytes_of w) (r.dr % modulus (bytes_of w))) follows refl refl refl refl)
did f activation (MechBegin k) r m d h = from_provided (Did f (MechBegin k) r m) (bit_in m (get_or activation k 0)) _ d h (keeps_cells f (MechBegin k) r m m r.rlo r.dr (cond (bit m (get_or activation k 0)) (enters k) (skips k)) refl refl refl (begin_turns k (bit m (get_or activation k 0))))
did f activation (MechEnd k) r m d h = from_provided (Did f (MechEnd k) r m) (bit_in m (get_or activation k 0)) _ d h (keeps_cells f (MechEnd k) r m (with_bit m (get_or activation k 0) false) r.rlo r.dr follows refl refl (length-with_bit m (get_or activation k 0) false) refl)
did f activation (MechInit k) r m d h = from_provided (Did f (MechInit k) r m) (bit_in m (get_or activation k 0)) _ d h (keeps_cells f (MechInit k) r m (with_bit m (get_or activation k 0) false) r.rlo r.dr (resets k) refl refl (length-with_bit m (get_or activation k 0) false) refl)

-- WHERE A RULE EXISTS

given_works : {A : Type 0} (b : Bool) (x : A) → b ≡ true → (d : A) × (provided b x ≡ Some d)
given_works b x h = (x, cond-true b (Some x) None h)

push_works : (f : Bool) (r : Registers) (b : Bool) (m : List ℕ) → (f ≡ true → length r.cells < 8) → (d : Done) × (loaded (pushed f r) r b m ≡ Some d)
push_works false r b m h = (_, refl)
push_works true r b m h = (keeping (record { rlo = b; dr = r.dr; cells = r.rlo ∷ r.cells }) m follows, ap (λ (o : Option (List Bool)). loaded o r b m) (cond-true (ltb (length r.cells) 8) (Some (r.rlo ∷ r.cells)) None (lt-ltb (length r.cells) 8 (h refl))))

pop_works : (g : Logic) (r : Registers) (cells : List Bool) (m : List ℕ) → (cells ≡ [] → ⊥) → (d : Done) × (popped g r cells m ≡ Some d)
pop_works g r [] m h = absurd (h refl)
pop_works g r (c ∷ cells) m h = (_, refl)

module _ (p : Program) (x : Line) (f : Bool) (r : Registers) (m : List ℕ) (len : length m ≡ length p.initial) (inside : (k : ℕ) → k < length p.activation → get_or p.activation k 0 < 8 * length p.initial) where
  bit_works : (a : ℕ) → a < 8 * length p.initial → bit_in m a ≡ true
  bit_works a h = lt-ltb a (8 * length m) (rw len h)

  number_works : (w a : ℕ) → a + w ≤ length p.initial → number_in m w a ≡ true
  number_works w a h = le-leb (a + w) (length m) (rw len h)

  abbrev Works : Op → Type 0
  Works o = (d : Done) × (effect f p.activation o r m ≡ Some d)

  pub works : (o : Op) → Reaches p x (Some o) → (push_of f o ≡ true → length r.cells < 8) → (pop_of o ≡ true → r.cells ≡ [] → ⊥) → Works o
  works (Ldr s a) h u v =
      let w = push_works f r (negated_if s (bit m a)) m u in
      (w.0, cond-true (bit_in m a) (loaded (pushed f r) r (negated_if s (bit m a)) m) None (bit_works a h) ∙ w.1)
  works (Combine g s a) h u v = given_works (bit_in m a) _ (bit_works a h)
  works (CombineCell g) h u v = pop_works g r r.cells m (v refl)
  works Ca h u v = (_, refl)
  works (Wr a) h u v = given_works (bit_in m a) _ (bit_works a h)
  works (Fl b a) h u v = given_works (bit_in m a) _ (bit_works a h)
  works (Fl1 b a) h u v = given_works (bit_in m a) _ (bit_works a h)
  works (Jl w t) h u v = (_, refl)
  works Ex h u v = (_, refl)
  works (ExIf w) h u v = (_, refl)
  works (Lod w a) h u v = given_works (number_in m (bytes_of w) a) _ (number_works (bytes_of w) a h)
  works (Sto w a) h u v = given_works (number_in m (bytes_of w) a) _ (number_works (bytes_of w) a h)
  works (Ad w a) h u v = given_works (number_in m (bytes_of w) a) _ (number_works (bytes_of w) a h)
  works (Ge w a) h u v = given_works (number_in m (bytes_of w) a) _ (number_works (bytes_of w) a h)
  works (Abs w) h u v = (_, refl)
  works (MechBegin k) h u v = given_works (bit_in m (get_or p.activation k 0)) _ (bit_works (get_or p.activation k 0) (inside k h))
  works (MechEnd k) h u v = given_works (bit_in m (get_or p.activation k 0)) _ (bit_works (get_or p.activation k 0) (inside k h))
  works (MechInit k) h u v = given_works (bit_in m (get_or p.activation k 0)) _ (bit_works (get_or p.activation k 0) (inside k h))
