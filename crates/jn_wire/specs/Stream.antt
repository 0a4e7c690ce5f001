-- What an unframer's calls do with a stream of bytes.
use Rattle.std.specs.Prelude.{◌≡◌, ℕ, Bool, true, false, List, [], ◌∷◌, ◌++◌, take, Option, Some, None, Result, Ok, Err}
use Rattle.jn_base.specs.declared.names.ServerNo.{ServerNo}
use Rattle.jn_wire.specs.declared.frame.Framed.{Framed}
use Rattle.jn_wire.specs.declared.fault.WireFault.{WireFault}
use Rattle.jn_wire.specs.declared.fault.WireError.{WireError}
use Rattle.jn_wire.specs.declared.fault.WireError.TheVariants as errors
use Rattle.jn_wire.specs.Unframing.{Held, Unframed, stopped, unframed}

-- an unframer: whose stream it reads, what it has, and whether memory ran out before
pub record Stream : Type 0 where
  pub server : ServerNo
  pub held : Held
  pub over : Bool

abbrev pub with_held : Stream → Held → Stream
with_held x held = record x { held = held }

-- the error that each later call answers, once there is one: memory ran out, or a fault was met
abbrev pub kept_by : Bool → Option WireFault → Option WireError
kept_by true fault = Some errors.Memory
kept_by false (Some f) = Some (errors.Fault f)
kept_by false None = None

abbrev pub kept_error : Stream → Option WireError
kept_error x = kept_by x.over x.held.fault

-- without memory the first of the frames may have been given, and what is held isn't said
pub record StopsShort (x : Stream) (met out : List Framed) (y : Stream) (out' : List Framed) : Type 0 where
  pub server : y.server ≡ x.server
  pub over : y.over ≡ true
  pub count : ℕ
  pub given : out' ≡ out ++ take count met

-- what a piece gave, by what was answered
abbrev pub Fed : Stream → Unframed → List Framed → Result Unit WireError → Stream → List Framed → Type 0
Fed x u out (Ok done) y out' = (u.held.fault ≡ None) × (y ≡ with_held x u.held) × (out' ≡ out ++ u.frames)
Fed x u out (Err (errors.Fault f)) y out' = (u.held.fault ≡ Some f) × (y ≡ with_held x u.held) × (out' ≡ out ++ u.frames)
Fed x u out (Err errors.Memory) y out' = StopsShort x u.frames out y out'

abbrev pub FeedsWhere : Option WireError → Stream → List ℕ → List Framed → Result Unit WireError → Stream → List Framed → Type 0
FeedsWhere (Some e) x piece out result y out' = (result ≡ Err e) × (y ≡ x) × (out' ≡ out)
FeedsWhere None x piece out result y out' = Fed x (unframed x.server x.held piece) out result y out'

-- A piece is fed: the frames that end in it are given, in order, and then the fault that stands behind them, if there is
-- one. Once an error is kept, nothing is done any more.
abbrev pub Feeds : Stream → List ℕ → List Framed → Result Unit WireError → Stream → List Framed → Type 0
Feeds x piece out result y out' = FeedsWhere (kept_error x) x piece out result y out'

-- a stream that ends inside a frame
abbrev pub cut_off : ℕ → WireFault
cut_off at = record { at = at; number = 1 }

abbrev pub EndsWhere : Option WireError → Stream → List ℕ → Result Unit WireError → Stream → Type 0
EndsWhere (Some e) x bytes result y = (result ≡ Err e) × (y ≡ x)
EndsWhere None x [] result y = (result ≡ Ok tt) × (y ≡ x)
EndsWhere None x (b ∷ bytes) result y = (result ≡ Err (errors.Fault (cut_off x.held.at)))
    × (y ≡ with_held x (stopped (cut_off x.held.at)))

-- The stream ends: the error that is kept, or a fault where bytes are held, which is kept from now on.
abbrev pub Ends : Stream → Result Unit WireError → Stream → Type 0
Ends x result y = EndsWhere (kept_error x) x x.held.bytes result y
