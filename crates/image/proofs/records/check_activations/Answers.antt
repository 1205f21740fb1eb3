use Rattle.std.proofs.Common.{◌≡◌, ℕ, ◌*◌, ◌/◌, ◌<◌, ◌≤◌, List, [], length, get_or, refl, ap, ◌∙◌, zero-add, sym, map, rules, arith}
use Rattle.std.specs.Int.{w16, from_le_bytes}
use Rattle.std.specs.List.{AllWithin, HoldsAt}
use Rattle.std.specs.Option.{MatchOption}
use Rattle.std.proofs.lemmas.Iterator.{YieldsList-from_slice, IsFirst-from_position}
use Rattle.std.proofs.lemmas.List.{get_or-map}
use Rattle.std.proofs.lemmas.Option.{MatchOption-at_none, MatchOption-at_some}
use Rattle.rules.specs.Image.{pair_at}
use borrow.Author.Tests.{tests}
use Rattle.theory.proofs.Images.{pairs_at}
use Rattle.image.proofs.Pairs.{pairs_are}
use Rattle.image.proofs.records.check_activations.Goals as goal
use Rattle.image.proofs.records.check_activations.Goals.{After-position-outside}

-- the first record whose number is not below the limit
first : (c : After-position-outside) → MatchOption c.position-outside.result (AllWithin (λ (r : List ℕ). from_le_bytes w16 r < c.args.bits) c.as_chunks.result.0.now 0 (length c.as_chunks.result.0.now)) (λ i. (i < length c.as_chunks.result.0.now) × HoldsAt (λ (r : List ℕ). c.args.bits ≤ from_le_bytes w16 r) c.as_chunks.result.0.now i × AllWithin (λ (r : List ℕ). from_le_bytes w16 r < c.args.bits) c.as_chunks.result.0.now 0 i)
first c = IsFirst-from_position _ _ _ (λ (r : List ℕ). c.args.bits ≤ from_le_bytes w16 r) (λ (r : List ℕ). from_le_bytes w16 r < c.args.bits) c.position-outside.ensures.ran (YieldsList-from_slice c.as_chunks.result.0.now cc) (λ x q k. search (rules, tests)) (λ x q k. search (rules, tests))

-- the number that such a record is
number : (c : After-position-outside) (k : ℕ) → k < length c.args.part.bytes.now / 2 → from_le_bytes w16 (get_or c.as_chunks.result.0.now k []) ≡ pair_at c.args.part.bytes.now (2 * k)
number c k h =
    let bytes = c.args.part.bytes.now in
    let n = length bytes / 2 in
    let few : k < length c.as_chunks.result.0.now = (let l = c.as_chunks.ensures.front_len in omega arith) in
    let numbers = ap (map (from_le_bytes w16)) c.as_chunks.ensures.front ∙ pairs_are bytes n 0 in
    sym (get_or-map (from_le_bytes w16) c.as_chunks.result.0.now k [] 0 few) ∙ ap (λ (l : List ℕ). get_or l k 0) numbers ∙ pairs_at bytes 0 n k h ∙ ap (pair_at bytes) (zero-add (2 * k))

pub returns-in-Some : goal.returns-in-Some
returns-in-Some c =
    let at = (goal.at.returns-in-Some c).After-position-outside in
    let i = c.in-Some.i in
    let found = MatchOption-at_some _ _ i c.in-Some.is (first at) in
    let long = c.as_chunks.ensures.front_len in
    let few : i < length c.args.part.bytes.now / 2 = omega arith in
    record {
      index = i;
      within = few;
      before = λ k h. (let e = number at k (omega arith) in let q = found.2 k [] (omega arith) h in omega arith);
      outside = (let e = number at i few in let q = found.1 [] in omega arith);
      named = refl;
    }

pub returns-in-None : goal.returns-in-None
returns-in-None c =
    let at = (goal.at.returns-in-None c).After-position-outside in
    let none = MatchOption-at_none _ _ c.in-None.is (first at) in
    λ k h. (let e = number at k h in let q = none k [] (omega arith) (let l = c.as_chunks.ensures.front_len in omega arith) in omega arith)
