-- The outside of the program: a source of bytes, a sink of bytes, and a keeper of named byte strings.
use Rattle.std.specs.Prelude.{◌≡◌, ◌≢◌, ℕ, ◌+◌, ◌≤◌, ◌<◌, true, false, List, [], ◌++◌, length, take, drop, Option, Some, None, Result, Ok, Err, is_ok, is_some, Vec}
use Rattle.jn_base.specs.Counts.{Rose}
use Rattle.std.specs.Option.{option_map}
use Rattle.std.specs.Io.KnownBytes.{append_known}
use Rattle.std.specs.declared.alloc.Global.{Global}
use Rattle.jn_host.specs.declared.Failed.{Failed}
use Rattle.jn_host.specs.declared.KeepFailure.{KeepFailure}
use Rattle.jn_host.specs.declared.KeepFailure.TheVariants.{Failed as CallFailed}

-- a source that had these bytes left put the first n of them into the room, and has the others left
pub record Took (bytes : List ℕ) (room : List ℕ) (n : ℕ) (left : Option (List ℕ)) (room' : List ℕ) : Type 0 where
  pub enough : n ≤ length bytes
  pub filled : room' ≡ take n bytes ++ drop n room
  pub rest : left ≡ Some (drop n bytes)
  -- no byte comes for room that isn't empty at the end alone
  pub ended : 0 < length room → n ≡ 0 → bytes ≡ []

-- a read into a room: what was left, the faults and the room before it, its answer, and the same after it
pub record SourceRead (left : Option (List ℕ)) (faults : ℕ) (room : List ℕ) (answer : Result ℕ Failed) (left' : Option (List ℕ)) (faults' : ℕ) (room' : List ℕ) : Type 0 where
  pub count : faults ≤ faults'
  pub fits : (n : ℕ) → answer ≡ Ok n → n ≤ length room
  pub told : (n : ℕ) → answer ≡ Ok n → (bytes : List ℕ) → left ≡ Some bytes → Took bytes room n left' room'
  pub untold : left ≡ None → left' ≡ None
  pub rose : is_ok answer ≡ false → Rose faults faults'
  pub no_fault : is_ok answer ≡ true → faults' ≡ faults
  pub kept : is_ok answer ≡ false → left' ≡ left

-- a write of a piece: the bytes taken and the faults before it, its answer, and the same after it
pub record SinkWrote (taken : Option (List ℕ)) (faults : ℕ) (piece : List ℕ) (answer : Result ℕ Failed) (taken' : Option (List ℕ)) (faults' : ℕ) : Type 0 where
  pub count : faults ≤ faults'
  pub fits : (n : ℕ) → answer ≡ Ok n → n ≤ length piece
  pub some : (n : ℕ) → answer ≡ Ok n → 0 < length piece → 0 < n
  pub took : (n : ℕ) → answer ≡ Ok n → taken' ≡ append_known taken (take n piece)
  pub rose : is_ok answer ≡ false → Rose faults faults'
  pub no_fault : is_ok answer ≡ true → faults' ≡ faults
  pub kept : is_ok answer ≡ false → taken' ≡ taken

-- what each name holds, by the name's bytes
abbrev pub Contents : Type 0
Contents = List ℕ → Option (List ℕ)

-- what one name holds, where the keeper tells it
abbrev pub kept_at : Option Contents → List ℕ → Option (Option (List ℕ))
kept_at kept name = option_map (λ (holds : Contents). holds name) kept

-- the bytes of what a load found
abbrev pub found_bytes : Option (Vec ℕ Global) → Option (List ℕ)
found_bytes found = option_map (λ (v : Vec ℕ Global). v.items) found

-- a load of a name: what was kept and the faults before it, its answer, and the same after it
pub record KeeperLoaded (kept : Option Contents) (faults : ℕ) (name : List ℕ) (answer : Result (Option (Vec ℕ Global)) KeepFailure) (kept' : Option Contents) (faults' : ℕ) : Type 0 where
  pub count : faults ≤ faults'
  pub same : kept' ≡ kept
  pub found : (content : Option (Vec ℕ Global)) → answer ≡ Ok content → is_some kept ≡ true → kept_at kept name ≡ Some (found_bytes content)
  pub rose : answer ≡ Err CallFailed → Rose faults faults'
  pub no_fault : answer ≢ Err CallFailed → faults' ≡ faults

-- a save of bytes under a name: what was kept and the faults before it, its answer, and the same after it
pub record KeeperSaved (kept : Option Contents) (faults : ℕ) (name : List ℕ) (bytes : List ℕ) (answer : Result (Unit {0}) KeepFailure) (kept' : Option Contents) (faults' : ℕ) : Type 0 where
  pub count : faults ≤ faults'
  -- a keeper that tells goes on to tell, and one that doesn't goes on so
  pub told : is_some kept' ≡ is_some kept
  pub saved : is_ok answer ≡ true → is_some kept ≡ true → kept_at kept' name ≡ Some (Some bytes)
  -- a call that failed has changed nothing
  pub unsaved : is_ok answer ≡ false → kept_at kept' name ≡ kept_at kept name
  pub others : (other : List ℕ) → other ≢ name → kept_at kept' other ≡ kept_at kept other
  pub rose : answer ≡ Err CallFailed → Rose faults faults'
  pub no_fault : answer ≢ Err CallFailed → faults' ≡ faults
