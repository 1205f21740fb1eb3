use Rattle.std.proofs.Common.{sym, ◌∙◌, subst, arith}
use Rattle.rules.specs.Program.{Program}
use Rattle.rules.specs.Verdict.{Breaks}
use Rattle.theory.proofs.Null.{null_accepted}
use Rattle.verdict.proofs.NullTables.{same_null, null_unbroken, null_starts, null_begins, null_ends, null_flags, null_units}
use Rattle.verdict.proofs.null.null_program.Goals as goal

pub invariant_of-layout : goal.invariant_of-layout
invariant_of-layout c =
    let e = same_null _ _ _ _ (c.in_ok-initial.ensures.items_if_clones_equal (λ y h. h)) c.new.ensures.items (c.in_ok-lengths.ensures.items_if_clones_equal (λ y h. h)) c.new-2.ensures.items in
    let starts = c.in_ok-starts.ensures in
    let no_mechanism = c.new.ensures.len in
    let no_line = c.new-2.ensures.len in record {
      keeps = λ rule place l b. null_unbroken _ e rule place (omega arith) b;
      starts_count = starts.len;
      starts_are = null_starts _ e _ (starts.items_if_clones_equal (λ y h. h));
      brackets_count = c.new-3.ensures.len ∙ sym no_mechanism;
      begins_are = null_begins _ e _;
      ends_are = null_ends _ e _;
      marks_count = c.new-4.ensures.len ∙ sym no_line;
      flags_are = null_flags _ e _;
      units_are = null_units _ e _;
    }

pub invariant_of-result : goal.invariant_of-result
invariant_of-result c =
    let e = same_null _ _ _ _ (c.in_ok-initial.ensures.items_if_clones_equal (λ y h. h)) c.new.ensures.items (c.in_ok-lengths.ensures.items_if_clones_equal (λ y h. h)) c.new-2.ensures.items in
    record { unbroken = null_unbroken _ e }

pub invariant_of-result-2 : goal.invariant_of-result-2
invariant_of-result-2 c =
    let e = same_null _ _ _ _ (c.in_ok-initial.ensures.items_if_clones_equal (λ y h. h)) c.new.ensures.items (c.in_ok-lengths.ensures.items_if_clones_equal (λ y h. h)) c.new-2.ensures.items in
    record { unbroken = λ rule place b. null_accepted.0.unbroken rule place (subst (λ (q : Program). Breaks q rule place) e b) }
