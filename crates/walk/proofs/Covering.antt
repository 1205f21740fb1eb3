-- Joins over sets, and over the sets of a table. Assumes nothing.
use Rattle.std.proofs.Common.{◌≡◌, ℕ, ◌+◌, ◌-◌, ◌<◌, ◌≤◌, ◌⊎◌, List, length, get_or, set, Some, None, Option, sym, refl, ap, ◌∙◌, subst, inl, inr, ⊎_elim, arith, length-set, get_or-set_other, get_or-set_same}
use Rattle.std.proofs.lemmas.Bool.{cases_eq}
use Rattle.rules.specs.declared.line.Line.{Line}
use Rattle.walk.specs.Joins.{Laws, Built, one, both, JoinOf}
use Rattle.walk.specs.Stages.{merged, Covers, Holds}

-- what f makes of the members of S
abbrev pub Image : {V : Type 0} → (V → V) → (V → Type 0) → V → Type 0
Image {V} f S y = (x : V) × S x × (f x ≡ y)

-- S with T added at place k
abbrev pub Plus : {V : Type 0} → (ℕ → V → Type 0) → ℕ → (V → Type 0) → ℕ → V → Type 0
Plus S k T j v = S j v ⊎ ((j ≡ k) × T v)

-- one value more at a place of a table
abbrev pub put : {V : Type 0} → (V → V → V) → List (Option V) → ℕ → V → List (Option V)
put join t k x = set t k (merged join (get_or t k None) x)

pub put_same : {V : Type 0} (join : V → V → V) {s t : List (Option V)} {k n : ℕ} {x y : V} → s ≡ t → k ≡ n → x ≡ y → put join s k x ≡ put join t n y
put_same join e f h = cc

built_in : {V : Type 0} {join : V → V → V} {S T : V → Type 0} {v : V} → ((x : V) → S x → T x) → Built join S v → Built join T v
built_in f (one s) = one (f _ s)
built_in f (both p q) = both (built_in f p) (built_in f q)

pub joinof_same : {V : Type 0} {join : V → V → V} {S T : V → Type 0} {v : V} → ((x : V) → S x → T x) → ((x : V) → T x → S x) → JoinOf join S v → JoinOf join T v
joinof_same f g j = record { built = built_in f j.built; takes_in = λ x t. j.takes_in x (g x t) }

pub covers_same : {V : Type 0} (join : V → V → V) (S T : V → Type 0) (o : Option V) → ((x : V) → S x → T x) → ((x : V) → T x → S x) → Covers join S o → Covers join T o
covers_same join S T None f g c = λ x t. c x (g x t)
covers_same join S T (Some v) f g c = joinof_same f g c

module _ {V : Type 0} {join : V → V → V} {effect : ℕ → Line → V → V} (laws : Laws join effect) where
  pub joinof_one : (x : V) → JoinOf join (λ y. x ≡ y) x
  joinof_one x = record { built = one refl; takes_in = λ y e. subst (λ z. join z x ≡ x) e (laws.idem x) }

  image_built : (i : ℕ) (l : Line) {S : V → Type 0} {v : V} → Built join S v → Built join (Image (effect i l) S) (effect i l v)
  image_built i l (one s) = one (_, s, refl)
  image_built i l (both {x} {y} p q) =
      subst (Built join (Image (effect i l) _)) (sym (laws.spread i l x y)) (both (image_built i l p) (image_built i l q))

  pub joinof_image : (i : ℕ) (l : Line) {S : V → Type 0} {v : V} → JoinOf join S v → JoinOf join (Image (effect i l) S) (effect i l v)
  joinof_image i l {S} {v} j = record {
    built = image_built i l j.built;
    takes_in = λ y m. ap (λ z. join z (effect i l v)) (sym m.2) ∙ sym (laws.spread i l m.0 v) ∙ ap (effect i l) (j.takes_in m.0 m.1);
  }

  -- one more set at an entry
  pub covers_more : (S T : V → Type 0) (o : Option V) (x : V) → Covers join S o → JoinOf join T x → Covers join (λ y. S y ⊎ T y) (merged join o x)
  covers_more S T None x c j = record {
    built = built_in (λ _ t. inr t) j.built;
    takes_in = λ y m. ⊎_elim (λ s. absurd (c y s)) (j.takes_in y) m;
  }
  covers_more S T (Some a) x c j = record {
    built = both (built_in (λ _ s. inl s) c.built) (built_in (λ _ t. inr t) j.built);
    takes_in = λ y m. ⊎_elim (λ s. sym (laws.assoc y a x) ∙ ap (λ z. join z x) (c.takes_in y s))
        (λ t. ap (join y) (laws.comm a x) ∙ sym (laws.assoc y x a) ∙ ap (λ z. join z a) (j.takes_in y t) ∙ laws.comm x a)
        m;
  }

  -- one more set at a line's place of the table
  pub holds_more : {from to : ℕ} {S : ℕ → V → Type 0} {t : List (Option V)} (T : V → Type 0) (k : ℕ) (x : V) → from ≤ k → k ≤ to → Holds join from to S t → JoinOf join T x → Holds join from to (Plus S k T) (put join t (k - from) x)
  holds_more {from} {to} {S} {t} T k x low within h j = record {
    long = ap (λ n. from + n) (length-set t (k - from) _) ∙ h.long;
    at = λ m a b. ⊎_elim (here m) (there m a b) (cases_eq m k);
  }
    where
      room : k - from < length t
      room = omega (arith, h.long)

      At : ℕ → Type 0
      At m = Covers join (Plus S k T m) (get_or (put join t (k - from) x) (m - from) None)

      at_k : At k
      at_k =
          subst (Covers join (Plus S k T k)) (sym (get_or-set_same t (k - from) _ None room))
          (covers_same join _ _ _ (λ _. ⊎_elim inl (λ y. inr (refl, y))) (λ _. ⊎_elim inl (λ y. inr y.1))
          (covers_more (S k) T (get_or t (k - from) None) x (h.at k low within) j))

      here : (m : ℕ) → m ≡ k → At m
      here m e = subst At (sym e) at_k

      there : (m : ℕ) → from ≤ m → m ≤ to → (m ≡ k → ⊥) → At m
      there m a b ne =
          subst (Covers join (Plus S k T m)) (sym (get_or-set_other t (k - from) (m - from) _ None (λ e. ne (omega arith))))
          (covers_same join _ _ _ (λ _ s. inl s) (λ _. ⊎_elim (λ s. s) (λ y. absurd (ne y.0))) (h.at m a b))

pub holds_same : {V : Type 0} {join : V → V → V} {from to : ℕ} {t : List (Option V)} (S T : ℕ → V → Type 0) → ((k : ℕ) (v : V) → from ≤ k → k ≤ to → S k v → T k v) → ((k : ℕ) (v : V) → from ≤ k → k ≤ to → T k v → S k v) → Holds join from to S t → Holds join from to T t
holds_same S T f g h = record {
  long = h.long;
  at = λ k a b. covers_same _ (S k) (T k) _ (λ v. f k v a b) (λ v. g k v a b) (h.at k a b);
}

-- one value more at a line's place, where P holds, and else the table as it was
abbrev pub Added : {V : Type 0} → (V → V → V) → ℕ → Type 0 → List (Option V) → ℕ → V → List (Option V) → Type 0
Added join from P t k x w = (P × (w ≡ put join t (k - from) x)) ⊎ ((P → ⊥) × (w ≡ t))

pub holds_if : {V : Type 0} {join : V → V → V} {effect : ℕ → Line → V → V} (laws : Laws join effect) {from to : ℕ} {S : ℕ → V → Type 0} {t w : List (Option V)} (P : Type 0) (T : V → Type 0) (k : ℕ) (x : V) → (P → (from ≤ k) × (k ≤ to)) → Holds join from to S t → JoinOf join T x → Added join from P t k x w → Holds join from to (Plus S k (λ y. P × T y)) w
holds_if laws P T k x place h j (inl (p, e)) =
    let q = place p in
    subst (Holds _ _ _ _) (sym e) (holds_more laws _ k x q.0 q.1 h (joinof_same (λ y m. (p, m)) (λ y m. m.1) j))
holds_if laws P T k x place h j (inr (n, e)) =
    subst (Holds _ _ _ _) (sym e) (holds_same _ _ (λ m y a b s. inl s) (λ m y a b s. ⊎_elim (λ z. z) (λ z. absurd (n z.1.0)) s) h)
