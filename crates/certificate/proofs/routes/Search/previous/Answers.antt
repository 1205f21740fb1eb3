use Rattle.std.proofs.Common.{◌≡◌, ℕ, ◌-◌, ◌<◌, length, get_or, vec_items, Some, Option, sym, ap, ◌∙◌, arith, rules}
use Rattle.std.proofs.lemmas.Iterator.{first_from_Range, serves_from_Range}
use Rattle.walk.specs.UnitTexts.{program_of, id_of}
use Rattle.walk.proofs.Givens.{unit_sound, read_at}
use Rattle.walk.proofs.Sound.{place_low, place_high}
use Rattle.walk.specs.Walked.{OwnOrEnd}
use Rattle.certificate.specs.declared.routes.Search.{Search}
use Rattle.certificate.specs.Longest.{entry_of, Leads, LongestAt}
use Rattle.certificate.proofs.Back.{found, long, some_entry, before_place}
use Rattle.certificate.proofs.routes.Search.previous.Goals as goal

pub overflow_sub-m : goal.overflow_sub-m
overflow_sub-m c = let u = c.args.self.now.unit in omega (arith, place_low (unit_sound u) _ c.requires, u.first_is)

pub index-requires : goal.index-requires
index-requires c =
    let s = c.args.self.now in
    let u = s.unit in
    omega (arith, long (program_of u) (id_of u) (unit_sound u) s.steps.bounds.now (vec_items s.table) s.walked, place_low (unit_sound u) _ c.requires, place_high (unit_sound u) _ c.requires, u.first_is, u.end_is, s.table.ok.0)

-- what is read at place m is its entry
entry_is : (s : Search) (m : ℕ) (x : Option ℕ) → OwnOrEnd (program_of s.unit) (id_of s.unit) m → x ≡ get_or (vec_items s.table) (m - s.unit.first) x → entry_of (program_of s.unit) (id_of s.unit) (vec_items s.table) m ≡ x
entry_is s m x o r =
    let u = s.unit in
    let room : m - u.first < length (vec_items s.table) = omega (arith, long (program_of u) (id_of u) (unit_sound u) s.steps.bounds.now (vec_items s.table) s.walked, place_low (unit_sound u) m o, place_high (unit_sound u) m o, u.first_is, u.end_is) in
    read_at u (vec_items s.table) m x room (sym r)

pub returns-in_err-v : goal.returns-in_err-v
returns-in_err-v c =
    let s = c.args.self.now in
    let u = s.unit in
    absurd (some_entry (program_of u) (id_of u) (unit_sound u) s.steps.bounds.now (vec_items s.table) s.walked c.args.m c.requires (entry_is s c.args.m _ c.requires c.index.ensures ∙ c.in_err-v.was))

pub returns-then-v-eq0 : goal.returns-then-v-eq0
returns-then-v-eq0 c =
    let s = c.args.self.now in
    record { place = c.requires; read = entry_is s c.args.m _ c.requires c.index.ensures ∙ c.in_ok-v.was ∙ ap Some c.if-v-eq0.true }

pub find-requires-clause-callable : goal.find-requires-clause-callable
find-requires-clause-callable c =
    let u = c.args.self.now.unit in
    serves_from_Range (λ x q k. search rules) (λ x low high. (let top = place_high (unit_sound u) c.args.m c.requires in let e = u.end_is in search rules))

pub returns : goal.returns
returns c =
    let s = c.args.self.now in
    let u = s.unit in
    let p = program_of u in
    let m = c.args.m in
    let v = c.in_ok-v.v in
    let bounds = s.steps.bounds.now in
    let t = vec_items s.table in
    let P = λ (k : ℕ). Leads p (id_of u) bounds t m v k in
    let here : LongestAt p (id_of u) t m v = record { place = c.requires; read = entry_is s m _ c.requires c.index.ensures ∙ c.in_ok-v.was } in
    before_place p (id_of u) (unit_sound u) bounds t s.walked m v c.find.result here
    (found u.first m c.find.result
    (first_from_Range _ _ _ c.find.result P (λ (k : ℕ). P k → ⊥) c.find.ensures.ran (λ x q k. search rules) (λ x q k. search rules))
    (λ k x. (omega (arith, (unit_sound u).low k x.0.own, u.first_is), (unit_sound u).way_rises k m x.0.own x.1)))
