-- Eight bytes stay eight bytes when ports are written. Assumes nothing.
use Rattle.std.proofs.Common.{◌≡◌, ℕ, ◌<◌, Bool, true, false, cond, ltb, leb, List, [], ◌∷◌, length, set, refl, ◌∙◌, arith, length-set, ltb-true}
use Rattle.std.proofs.lemmas.List.{places, get_or-set_same}
use Rattle.std.proofs.lemmas.Bool.{cases_eq}
use Rattle.rules.specs.Number.{Bytes}
use Rattle.rules.specs.Cabinet.{Eight}
use Rattle.cabinet.specs.declared.row.Row.{Row}
use Rattle.cabinet.specs.Ports.{written}
use Rattle.cabinet.specs.Rows.{applied}

pub set_small : (bs : List ℕ) (i b : ℕ) → i < length bs → Bytes bs → b < 256 → Bytes (set bs i b)
set_small bs i b h g s = λ k. let small = g k in grind (arith, places, get_or-set_same, cases_eq k i)

pub written_eight : (bs : List ℕ) (port b : ℕ) → Eight bs → b < 256 → Eight (written bs port b)
written_eight bs port b e s = go (ltb port 8) refl
  where
    go : (t : Bool) → ltb port 8 ≡ t → Eight (cond t (set bs port b) bs)
    go true h =
        let inside : port < 8 = ltb-true port 8 h in
        let long = e.eight in
        record { eight = length-set bs port b ∙ e.eight; small = set_small bs port b (omega (arith, long)) e.small s }
    go false h = e

-- either of two, by a test
either_eight : (t : Bool) (xs ys : List ℕ) → Eight xs → Eight ys → Eight (cond t xs ys)
either_eight true xs ys e f = e
either_eight false xs ys e f = f

pub applied_eight : (n : ℕ) (rows : List Row) (inputs : List ℕ) → Eight inputs → Eight (applied n rows inputs)
applied_eight n [] inputs e = e
applied_eight n (r ∷ rows) inputs e = either_eight (leb r.scan n) _ inputs (applied_eight n rows _ (written_eight inputs r.port r.byte e r.small)) e
