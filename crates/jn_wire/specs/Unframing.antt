-- The frames of a stream of bytes, however it comes in pieces.
use Rattle.std.specs.Prelude.{◌≡◌, ◌<◌, ◌+◌, ◌&&◌, ◌||◌, not, ℕ, Bool, true, nat_eq, nat_le, nat_lt, if◌then◌else◌, List, [], ◌∷◌, ◌++◌, length, drop, Option, Some, None, Result, Ok, Err}
use Rattle.byteorder.specs.Endian.{big_number}
use Rattle.jn_base.specs.declared.names.ServerNo.{ServerNo}
use Rattle.jn_wire.specs.declared.frame.Framed.{Framed}
use Rattle.jn_wire.specs.declared.fault.WireFault.{WireFault}
use Rattle.jn_wire.specs.Decoding.{decode}

-- What an unframer has: the bytes behind the last whole frame, the place of the first of them, and the fault that it met.
-- With a fault it keeps the place alone.
pub record Held : Type 0 where
  pub at : ℕ
  pub bytes : List ℕ
  pub fault : Option WireFault

-- bytes of a frame that isn't whole
abbrev pub waiting : ℕ → List ℕ → Held
waiting at bytes = record { at = at; bytes = bytes; fault = None }

abbrev pub nothing_held : ℕ → Held
nothing_held at = waiting at []

-- behind a fault nothing is read
abbrev pub stopped : WireFault → Held
stopped f = record { at = f.at; bytes = []; fault = Some f }

-- the length of a frame that begins so, with the two bytes of the length itself
abbrev pub whole_length : List ℕ → ℕ
whole_length bytes = 2 + big_number 2 bytes

abbrev pub is_whole : List ℕ → Bool
is_whole bytes = nat_le 2 (length bytes) && nat_eq (length bytes) (whole_length bytes)

-- fewer bytes than a frame's
abbrev pub is_unfinished : List ℕ → Bool
is_unfinished bytes = not (nat_le 2 (length bytes)) || nat_lt (length bytes) (whole_length bytes)

-- what was held and what was given out
pub record Unframed : Type 0 where
  pub held : Held
  pub frames : List Framed

abbrev pub holds : Held → Unframed
holds h = record { held = h; frames = [] }

-- a frame is whole
abbrev pub met : ℕ → List ℕ → Result Framed ℕ → Unframed
met at bytes (Ok f) = record { held = nothing_held (at + length bytes); frames = f ∷ [] }
met at bytes (Err n) = holds (stopped (record { at = at; number = n }))

-- by what a reader makes of the bytes behind a frame's length
abbrev pub with_bytes : (List ℕ → Result Framed ℕ) → ℕ → List ℕ → Unframed
with_bytes read at bytes = if is_whole bytes then met at bytes (read (drop 2 bytes)) else holds (waiting at bytes)

abbrev pub after_byte : (List ℕ → Result Framed ℕ) → Held → Option WireFault → ℕ → Unframed
after_byte read h (Some fault) b = holds h
after_byte read h None b = with_bytes read h.at (h.bytes ++ b ∷ [])

abbrev pub in_front : List Framed → Unframed → Unframed
in_front fs u = record { held = u.held; frames = fs ++ u.frames }

-- byte by byte
abbrev pub unframed_by : (List ℕ → Result Framed ℕ) → Held → List ℕ → Unframed
unframed_by read h [] = holds h
unframed_by read h (b ∷ bytes) = let u = after_byte read h h.fault b in in_front u.frames (unframed_by read u.held bytes)

-- as this server reads
abbrev pub unframed : ServerNo → Held → List ℕ → Unframed
unframed s h bytes = unframed_by (decode s) h bytes

abbrev pub given : ServerNo → Held → List ℕ → List Framed
given s h bytes = (unframed s h bytes).frames

-- more bytes come
abbrev pub joined : ServerNo → Unframed → List ℕ → Unframed
joined s u bytes = in_front u.frames (unframed s u.held bytes)

-- ---- what that means

-- a frame that isn't whole: fewer bytes than its length tells
abbrev pub IsUnfinished : List ℕ → Type 0
IsUnfinished bytes = nat_le 2 (length bytes) ≡ true → length bytes < whole_length bytes

-- the bytes from this place on are these whole frames, and then one that isn't whole, or the first bytes that aren't a frame
pub data IsUnframed (s : ServerNo) : ℕ → List ℕ → Unframed → Type 0 where
  Waits : (at : ℕ) (bytes : List ℕ) → IsUnfinished bytes
      → IsUnframed s at bytes (holds (waiting at bytes))
  Frame : (at : ℕ) (frame rest : List ℕ) (f : Framed) (u : Unframed) → is_whole frame ≡ true → decode s (drop 2 frame) ≡ Ok f
      → IsUnframed s (at + length frame) rest u → IsUnframed s at (frame ++ rest) (in_front (f ∷ []) u)
  Fault : (at : ℕ) (frame rest : List ℕ) (n : ℕ) → is_whole frame ≡ true → decode s (drop 2 frame) ≡ Err n
      → IsUnframed s at (frame ++ rest) (holds (stopped (record { at = at; number = n })))
