-- The pages of a disk in memory, as the device's.
use Rattle.std.specs.Prelude.{ℕ, ◌≤◌, false, List, [], slice_index_or}
use Rattle.jn_device.specs.declared.Half.{Half}
use Rattle.jn_device.specs.Device.{PageState}
use Rattle.jn_memdisk.specs.declared.call.Marks.{Marks}

abbrev pub page_state : Half → Marks → PageState
page_state half marks = record { good = half.good; bytes = half.bytes; missed = marks.missed; fails = marks.fails }

-- what stands past the end
abbrev pub half_at : List Half → ℕ → Half
half_at halves q = slice_index_or halves q (record { good = false; bytes = [] })

abbrev pub marks_at : List Marks → ℕ → Marks
marks_at marks q = slice_index_or marks q (record { missed = false; fails = 0 })

abbrev pub pages_at : List Half → List Marks → ℕ → PageState
pages_at halves marks q = page_state (half_at halves q) (marks_at marks q)

abbrev pub AllFew : List Marks → Type 0
AllFew marks = (q : ℕ) → (marks_at marks q).fails ≤ 3
