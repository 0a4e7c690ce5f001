use Rattle.std.proofs.Common.{◌≡◌, ℕ, vec_len, false}
use Rattle.jn_memdisk.specs.Pages.{marks_at}
use Rattle.jn_memdisk.proofs.pages.new_marks.Given as goal

abbrev pub invariant-loop-made : goal.invariant-loop-made
invariant-loop-made l = record {
  len : vec_len l.marks ≡ l._made;
  new : (q : ℕ) → marks_at l.marks.items q ≡ record { missed = false; fails = 0 };
}
