-- What one read of a source leads to.
use Rattle.std.specs.Prelude.{◌≡◌, ◌≢◌, ◌≤◌, ℕ, ◌+◌, ◌-◌, List, [], length, take, Result, Ok, Err}
use Rattle.std.specs.Io.KnownBytes.{prepend_known}
use Rattle.jn_base.specs.Counts.{Rose}
use Rattle.jn_node.specs.Running.{Running}
use Rattle.jn_wire.specs.Stream.{Stream, with_held}
use Rattle.jn_wire.specs.Unframing.{Unframed, unframed}
use Rattle.jn_serving.specs.Input.{IsText, most_bytes, most_piece}
use Rattle.jn_serving.specs.Streams.{ServesPiece, Start}
use Rattle.jn_writing.specs.Outside.{SourceState, SinkState}
use Rattle.jn_serving.specs.declared.fault.StreamFault.{StreamFault}
use Rattle.jn_serving.specs.declared.fault.StreamFault.TheVariants as streams

-- of the bytes that come behind so many others, those that may be in a frame
abbrev pub fitting : ℕ → List ℕ → List ℕ
fitting count bytes = take (most_bytes - count) bytes

-- These bytes came behind so many others, no more than are asked for. Where none came, the source is at its end.
pub record Came (count : ℕ) (bytes : List ℕ) (before after : SourceState) : Type 0 where
  pub most : length bytes ≤ most_piece
  pub room : count + length bytes ≤ most_bytes + 1
  pub left : before.left ≡ prepend_known bytes after.left
  pub ended : bytes ≡ [] → IsText before.left []
  pub faults : after.faults ≡ before.faults

-- a read failed, and no byte came
pub record FailsToRead (before after : SourceState) : Type 0 where
  pub left : after.left ≡ before.left
  pub rose : Rose before.faults after.faults

abbrev pub done_of : Result ℕ StreamFault → Result (Unit {0}) StreamFault
done_of (Ok given) = Ok tt
done_of (Err e) = Err e

-- what an unframer makes of the bytes that come behind so many others
abbrev pub unframed_piece : Stream → ℕ → List ℕ → Unframed
unframed_piece u count bytes = unframed u.server u.held (fitting count bytes)

-- these bytes came, and what they bring is served
pub record ServesRead (a : Start) (u : Stream) (count : ℕ) (answer : Result ℕ StreamFault) (y : Running) (u' : Stream) (source : SourceState) (sink : SinkState) : Type 0 where
  pub bytes : List ℕ
  pub came : Came count bytes a.source source
  pub serves : ServesPiece a.server a.counts a.running a.sink (unframed_piece u count bytes) (done_of answer) y sink
  pub given : (n : ℕ) → answer ≡ Ok n → length bytes ≡ n
  pub held : (n : ℕ) → answer ≡ Ok n → u' ≡ with_held u (unframed_piece u count bytes).held

-- one read behind so many bytes: it failed and nothing was done, or what it brings is served
pub record ReadsPiece (a : Start) (u : Stream) (count : ℕ) (answer : Result ℕ StreamFault) (y : Running) (u' : Stream) (source : SourceState) (sink : SinkState) : Type 0 where
  pub failed : answer ≡ Err streams.Read → FailsToRead a.source source × (y ≡ a.running) × (sink ≡ a.sink)
  pub came : answer ≢ Err streams.Read → ServesRead a u count answer y u' source sink
