-- The names of images.
use Rattle.std.specs.Prelude.{◌≤◌, ◌&&◌, List, ℕ, length, Option, Some, None, nat_le, if◌then◌else◌}

-- a name has 1 to 100 bytes
abbrev pub IsName : List ℕ → Type 0
IsName name = (1 ≤ length name) × (length name ≤ 100)

-- the name that a text is
abbrev pub name_in : List ℕ → Option (List ℕ)
name_in text = if nat_le 1 (length text) && nat_le (length text) 100 then Some text else None
