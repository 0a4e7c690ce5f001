-- What is read of a source that a server serves: bytes, and the frames among them.
use Rattle.std.specs.Prelude.{◌≡◌, ◌≤◌, ◌<◌, ℕ, ◌+◌, true, List, length, take, drop, Option, Some, None, is_some, option_map, IfSome}
use Rattle.jn_base.specs.declared.names.ServerNo.{ServerNo}
use Rattle.jn_wire.specs.declared.frame.Framed.{Framed}
use Rattle.jn_wire.specs.Unframing.{Held, nothing_held, unframed, given}
use Rattle.jn_writing.specs.Outside.{SourceState}

-- the longest input
abbrev pub most_bytes : ℕ
most_bytes = 4194304

-- the most bytes that one read asks for
abbrev pub most_piece : ℕ
most_piece = 65536

-- the bytes that the source had, where it tells them
abbrev pub IsText : Option (List ℕ) → List ℕ → Type 0
IsText None text = Unit {0}
IsText (Some bytes) text = text ≡ bytes

-- The source gave these bytes, at most one more than an input may have, and has the others left. It isn't said whether a call failed then.
pub record Gave (read : List ℕ) (before after : SourceState) : Type 0 where
  pub most : length read ≤ most_bytes + 1
  pub front : IfSome before.left (λ (bytes : List ℕ). take (length read) bytes ≡ read)
  pub left : after.left ≡ option_map (λ (bytes : List ℕ). drop (length read) bytes) before.left

-- the frames that a server is given by these bytes: the byte that is one too many is in none
abbrev pub frames_of : ServerNo → List ℕ → List Framed
frames_of s read = given s (nothing_held 0) (take most_bytes read)

-- what is held behind the last whole frame, or the fault that was met
abbrev pub held_of : ServerNo → List ℕ → Held
held_of s read = (unframed s (nothing_held 0) (take most_bytes read)).held

-- all of the input was read, it isn't too long, and it ends behind a whole frame
pub record IsAtEnd (s : ServerNo) (left : Option (List ℕ)) (read : List ℕ) : Type 0 where
  pub all : IsText left read
  pub fits : length read ≤ most_bytes
  pub whole : held_of s read ≡ nothing_held (length read)

-- Bytes that are no frame were met, and no more than one read asks for was read behind bytes without a fault; or the input ends inside a frame.
pub data MeetsFault (s : ServerNo) (left : Option (List ℕ)) (read : List ℕ) : Type 0 where
  inside : (front : ℕ) → length read ≤ front + most_piece → (held_of s (take front read)).fault ≡ None → is_some (held_of s read).fault ≡ true → MeetsFault s left read
  at_end : IsText left read → length read ≤ most_bytes → (held_of s read).fault ≡ None → 0 < length (held_of s read).bytes → MeetsFault s left read
