-- What a crash may leave of bytes that were written over zeros, and of which no sync has told that they are on the disk.
use Rattle.std.specs.Prelude.{◌≡◌, ◌⊎◌, ℕ, List, [], ◌∷◌, ◌++◌}

-- Each byte is as it was written, or still zero. The file may end early, and behind what was written there are zeros.
-- So a prefix of what was written is one case, and one without some of its sectors is another.
abbrev pub IsTorn : (written file : List ℕ) → Type 0
IsTorn written [] = Unit {0}
IsTorn [] (c ∷ cs) = (c ≡ 0) × IsTorn [] cs
IsTorn (w ∷ ws) (c ∷ cs) = ((c ≡ w) ⊎ (c ≡ 0)) × IsTorn ws cs

-- what was synced stands there; of what was written since, a crash has left some
abbrev pub Leaves : (synced loose file : List ℕ) → Type 0
Leaves synced loose file = (rest : List ℕ) × (file ≡ synced ++ rest) × IsTorn loose rest
