-- What is served of a source, piece by piece.
use Rattle.std.specs.Prelude.{◌≡◌, ◌≢◌, ◌≤◌, ◌<◌, ℕ, ◌+◌, true, List, [], ◌∷◌, length, take, None, is_some, Result, Ok, Err}
use Rattle.jn_base.specs.declared.names.ServerNo.{ServerNo}
use Rattle.jn_base.specs.Counts.{Rose}
use Rattle.jn_node.specs.Running.{Running}
use Rattle.jn_node.specs.Serving.{ServesFrame, ServesFrames, sent_bytes}
use Rattle.jn_records.specs.StablePages.{Counts}
use Rattle.jn_rows.specs.Outcomes.{Sent}
use Rattle.jn_wire.specs.declared.frame.Body.{Body}
use Rattle.jn_wire.specs.declared.frame.Framed.{Framed}
use Rattle.jn_wire.specs.Unframing.{Unframed}
use Rattle.jn_serving.specs.Input.{Gave, IsAtEnd, MeetsFault, frames_of, held_of, most_piece, most_bytes}
use Rattle.jn_writing.specs.Outside.{SourceState, SinkState, Writes, WritesFront, FailsToWrite}
use Rattle.jn_serving.specs.declared.fault.AnswerFault.{AnswerFault}
use Rattle.jn_serving.specs.declared.fault.AnswerFault.TheVariants as answers
use Rattle.jn_serving.specs.declared.fault.StreamFault.{StreamFault}
use Rattle.jn_serving.specs.declared.fault.StreamFault.TheVariants as streams

-- ---- frames

-- these frames were served, and so much of what the server sent to others by that was written
pub record ServesTo (s : ServerNo) (g : Counts) (x : Running) (sink : SinkState) (frames : List Framed) (Written : List ℕ → SinkState → SinkState → Type 0) (y : Running) (sink' : SinkState) : Type 0 where
  pub sent : List Sent
  pub serves : ServesFrames s g x frames sent y
  pub written : Written (sent_bytes s sent) sink sink'

-- the first of these frames were served, and it isn't said what the server is then
pub record ServesFirst (s : ServerNo) (g : Counts) (x : Running) (sink : SinkState) (frames : List Framed) (Written : List ℕ → SinkState → SinkState → Type 0) (sink' : SinkState) : Type 0 where
  pub count : ℕ
  pub last : Running
  pub serves : ServesTo s g x sink (take count frames) Written last sink'

-- a frame was served, or not, by what was answered
pub record ServesOne (s : ServerNo) (g : Counts) (x : Running) (sink : SinkState) (body : Body) (answer : Result (Unit {0}) AnswerFault) (y : Running) (sink' : SinkState) : Type 0 where
  pub whole : answer ≡ Ok tt → (sent : List Sent) × ServesFrame s g x body sent y × Writes (sent_bytes s sent) sink sink'
  pub write : answer ≡ Err answers.Write → (sent : List Sent) × ServesFrame s g x body sent y × FailsToWrite (sent_bytes s sent) sink sink'
  pub memory : answer ≡ Err answers.Memory → sink' ≡ sink

-- frames were served one after another, or only the first of them, by what was answered
pub record ServesAll (s : ServerNo) (g : Counts) (x : Running) (sink : SinkState) (frames : List Framed) (answer : Result (Unit {0}) AnswerFault) (y : Running) (sink' : SinkState) : Type 0 where
  pub whole : answer ≡ Ok tt → ServesTo s g x sink frames Writes y sink'
  pub write : answer ≡ Err answers.Write → ServesFirst s g x sink frames FailsToWrite sink'
  pub memory : answer ≡ Err answers.Memory → ServesFirst s g x sink frames WritesFront sink'

-- what that is to a stream
abbrev pub told_of : Result (Unit {0}) AnswerFault → Result (Unit {0}) StreamFault
told_of (Ok done) = Ok done
told_of (Err answers.Write) = Err streams.Write
told_of (Err answers.Memory) = Err streams.Memory

-- ---- a stream

-- which server is served, how many pages it has, and what it, the source and the sink are at first
pub record Start : Type 0 where
  pub server : ServerNo
  pub counts : Counts
  pub running : Running
  pub source : SourceState
  pub sink : SinkState

abbrev pub start_of : ServerNo → Counts → Running → SourceState → SinkState → Start
start_of s g x source sink = record { server = s; counts = g; running = x; source = source; sink = sink }

-- these bytes were read, each whole frame among them was served, and all that the server sent to others was written
pub record Streamed (a : Start) (y : Running) (source : SourceState) (sink : SinkState) : Type 0 where
  pub read : List ℕ
  pub gave : Gave read a.source source
  pub serves : ServesTo a.server a.counts a.running a.sink (frames_of a.server read) Writes y sink

-- each whole frame among the first of them was served, and so much of what the server sent by that was written
pub record StreamedFront (a : Start) (Written : List ℕ → SinkState → SinkState → Type 0) (source : SourceState) (sink : SinkState) : Type 0 where
  pub read : List ℕ
  pub gave : Gave read a.source source
  pub front : ℕ
  pub near : length read ≤ front + most_piece
  pub last : Running
  pub serves : ServesTo a.server a.counts a.running a.sink (frames_of a.server (take front read)) Written last sink
  pub calls : source.faults ≡ a.source.faults

-- a stream was served to its end, or why it wasn't
pub record StreamsTo (a : Start) (answer : Result (Unit {0}) StreamFault) (y : Running) (source : SourceState) (sink : SinkState) : Type 0 where
  pub whole : answer ≡ Ok tt → (t : Streamed a y source sink) × IsAtEnd a.server a.source.left t.read × (source.faults ≡ a.source.faults)
  pub not_read : answer ≡ Err streams.Read → (t : Streamed a y source sink) × ((held_of a.server t.read).fault ≡ None) × (length t.read ≤ most_bytes) × Rose a.source.faults source.faults
  pub too_long : answer ≡ Err streams.TooLong → (t : Streamed a y source sink) × ((held_of a.server t.read).fault ≡ None) × (most_bytes < length t.read) × (source.faults ≡ a.source.faults)
  pub no_frame : answer ≡ Err streams.NoFrame → (t : Streamed a y source sink) × MeetsFault a.server a.source.left t.read × (source.faults ≡ a.source.faults)
  pub write : answer ≡ Err streams.Write → StreamedFront a FailsToWrite source sink
  pub memory : answer ≡ Err streams.Memory → StreamedFront a WritesFront source sink

-- ---- a piece of it

-- a piece is read by an unframer that held this: its frames are served, and then the bytes that are no frame are met, if they stand there
pub record ServesPiece (s : ServerNo) (g : Counts) (x : Running) (sink : SinkState) (u : Unframed) (answer : Result (Unit {0}) StreamFault) (y : Running) (sink' : SinkState) : Type 0 where
  pub whole : answer ≡ Ok tt → (u.held.fault ≡ None) × ServesTo s g x sink u.frames Writes y sink'
  pub no_frame : answer ≡ Err streams.NoFrame → (is_some u.held.fault ≡ true) × ServesTo s g x sink u.frames Writes y sink'
  pub write : answer ≡ Err streams.Write → ServesFirst s g x sink u.frames FailsToWrite sink'
  pub memory : answer ≡ Err streams.Memory → ServesFirst s g x sink u.frames WritesFront sink'
  pub no_read : answer ≢ Err streams.Read
  pub no_end : answer ≢ Err streams.TooLong

-- the stream ends, where these bytes are held
abbrev pub EndsStream : List ℕ → Result (Unit {0}) StreamFault → Type 0
EndsStream [] answer = answer ≡ Ok tt
EndsStream (b ∷ bytes) answer = answer ≡ Err streams.NoFrame
