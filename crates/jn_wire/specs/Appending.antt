-- What is appended to a list of bytes, and what an append that runs out of memory leaves.
use Rattle.std.specs.Prelude.{◌≡◌, ◌≤◌, ◌+◌, ℕ, List, ◌++◌, length, take, Result, OnOk, OnErr}

-- what was there is still there, at the front
abbrev pub IsFrontKept : List ℕ → List ℕ → Type 0
IsFrontKept old new = take (length old) new ≡ old

-- These bytes are appended, which are at most so many. Without memory some of them may be there.
pub record Appends {E : Type 0} (bytes : List ℕ) (most : ℕ) (old : List ℕ) (result : Result Unit E) (new : List ℕ) : Type 0 where
  pub ok : OnOk result (new ≡ old ++ bytes)
  pub size : OnOk result (length new ≤ length old + most)
  pub err : OnErr result (IsFrontKept old new)
