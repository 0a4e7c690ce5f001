use Rattle.jn_image.proofs.Common.{◌≡◌, ℕ, ◌-◌, List, seen, AreEntries, pages_noted}
use Rattle.jn_image.proofs.written.note_pages.Given as goal

abbrev pub invariant-loop-i : goal.invariant-loop-i
invariant-loop-i l = (entries : ℕ → List ℕ) → AreEntries (seen l.image) entries → pages_noted l.named entries l.times.items l.i (l.image.leaves - l.i) ≡ pages_noted l.named entries l.fn.times.items 0 l.image.leaves
