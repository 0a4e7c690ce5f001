-- What the calls say that an unframer is made of.
use Rattle.std.specs.Prelude.{◌≡◌, ⊤, ℕ, true, false, List, [], ◌++◌, Result, Ok, Err}
use Rattle.jn_wire.specs.declared.frame.Framed.{Framed}
use Rattle.jn_wire.specs.declared.fault.WireError.{WireError}
use Rattle.jn_wire.specs.declared.fault.WireError.TheVariants as errors
use Rattle.jn_wire.specs.declared.fields.ReadFault.{ReadFault}
use Rattle.jn_wire.specs.declared.fields.ReadFault.TheVariants as faults
use Rattle.jn_wire.specs.Unframing.{Unframed, is_whole, is_unfinished, stopped, waiting}

-- what decoding returned is what the bytes say, or there was no memory
abbrev pub Decodes : Result Framed ReadFault → Result Framed ℕ → Type 0
Decodes (Ok f) said = said ≡ Ok f
Decodes (Err (faults.Wrong n)) said = said ≡ Err n
Decodes (Err faults.Memory) said = ⊤

-- these bytes are held, and these frames were given
abbrev pub read_to : ℕ → List ℕ → List Framed → Unframed
read_to at bytes out = record { held = waiting at bytes; frames = out }

-- Where frames are read, what all bytes give is what the answer says, or it is the fault. Without memory a front of the frames was given.
abbrev pub Leads : {X : Type 0} → (X → Unframed) → Unframed → Result X WireError → List Framed → Type 0
Leads next u (Ok x) out = u ≡ next x
Leads next u (Err (errors.Fault f)) out = u ≡ record { held = stopped f; frames = out }
Leads next u (Err errors.Memory) out = (more : List Framed) × (u.frames ≡ out ++ more)

-- bytes are those of a whole frame, and others
pub record Splits (bytes frame rest : List ℕ) : Type 0 where
  pub whole : is_whole frame ≡ true
  pub same : bytes ≡ frame ++ rest

-- The first bytes of a piece are held, up to the end of the frame. Where it doesn't end, none is left.
pub record Fills (old piece new rest : List ℕ) : Type 0 where
  pub moved : List ℕ
  pub held : new ≡ old ++ moved
  pub left : piece ≡ moved ++ rest
  pub waits : is_whole new ≡ false → (is_unfinished new ≡ true) × (rest ≡ [])
