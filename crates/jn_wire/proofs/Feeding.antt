-- What feeding a piece does with a stream, by what reading it leads to.
use Rattle.std.proofs.Common.{◌≡◌, ◌≤◌, ◌<◌, ◌+◌, ◌-◌, ◌^◌, ℕ, true, false, List, [], ◌∷◌, ◌++◌, length, take, sym, ◌∙◌, ap, subst, arith, Result, Err, Option, Some, Bool, refl}
use Rattle.std.specs.Prelude.{None}
use Rattle.std.proofs.Math.Seq.{take-append_seam}
use Rattle.jn_base.specs.declared.names.ServerNo.{ServerNo}
use Rattle.jn_wire.specs.declared.frame.Framed.{Framed}
use Rattle.jn_wire.specs.declared.fault.WireFault.{WireFault}
use Rattle.jn_wire.specs.declared.fault.WireError.{WireError}
use Rattle.jn_wire.specs.declared.fault.WireError.TheVariants as errors
use Rattle.jn_wire.specs.Unframing.{Held, Unframed, unframed, in_front, waiting, stopped}
use Rattle.jn_wire.specs.Reading.{Leads}
use Rattle.jn_wire.specs.Stream.{Stream, Fed, Feeds, FeedsWhere, kept_by, kept_error, with_held}

goes : (x : Stream) (piece : List ℕ) (out : List Framed) (result : Result Unit WireError) (y : Stream) (out' : List Framed) → kept_error x ≡ None → Fed x (unframed x.server x.held piece) out result y out' → Feeds x piece out result y out'
goes x piece out result y out' e h = subst (λ (k : Option WireError). FeedsWhere k x piece out result y out') (sym e) h

-- nothing is kept of a stream that is read
reads-on : (x : Stream) (at : ℕ) (bytes : List ℕ) → x.over ≡ false → x.held ≡ waiting at bytes → kept_error x ≡ None
reads-on x at bytes e held = ap (λ (c : Bool). kept_by c x.held.fault) e ∙ ap (λ (h : Held). kept_by false h.fault) held

-- a stream that is read has places for the piece
pub has-places : (x : Stream) (n at : ℕ) (bytes : List ℕ) → x.over ≡ false → x.held ≡ waiting at bytes → (kept_error x ≡ None → x.held.at + length x.held.bytes + n < 2 ^ 64) → at + length bytes + n < 2 ^ 64
has-places x n at bytes e held h = subst (λ (k : Held). k.at + length k.bytes + n < 2 ^ 64) held (h (reads-on x at bytes e held))

-- what reading leads to where it failed so
pub at-error : {X : Type 0} (next : X → Unframed) (u : Unframed) (r : Result X WireError) (out : List Framed) (e f : WireError) → r ≡ Err e → e ≡ f → Leads next u r out → Leads next u (Err f) out
at-error {X} next u r out e f failed same h = subst (λ (x : Result X WireError). Leads next u x out) (failed ∙ ap (λ (x : WireError). Err x) same) h

-- a fault that was met before
pub keeps-fault : (x : Stream) (piece : List ℕ) (out : List Framed) (f : WireFault) → x.over ≡ false → x.held.fault ≡ Some f → Feeds x piece out (Err (errors.Fault f)) x out
keeps-fault x piece out f e met =
    let kept : kept_error x ≡ Some (errors.Fault f) = ap (λ (c : Bool). kept_by c x.held.fault) e ∙ ap (kept_by false) met in
    subst (λ (k : Option WireError). FeedsWhere k x piece out (Err (errors.Fault f)) x out) (sym kept) (refl, refl, refl)

-- what is kept of a fault that is met
pub stops-there : (z x : Stream) (f : WireFault) (at : ℕ) (bytes : List ℕ) → z ≡ x → at ≡ f.at → bytes ≡ [] → with_held z (record { at = at; bytes = bytes; fault = Some f }) ≡ with_held x (stopped f)
stops-there z x f at bytes same place nothing = ap (λ (n : ℕ). with_held z (record { at = n; bytes = bytes; fault = Some f })) place ∙ ap (λ (l : List ℕ). with_held z (record { at = f.at; bytes = l; fault = Some f })) nothing ∙ ap (λ (w : Stream). with_held w (stopped f)) same

-- a fault that is met now
pub meets-fault : (x : Stream) (piece : List ℕ) (out : List Framed) (f : WireFault) (y : Stream) (out' : List Framed) (s : ServerNo) (at : ℕ) (bytes : List ℕ) → x.over ≡ false → x.server ≡ s → x.held ≡ waiting at bytes
    → in_front out (unframed s (waiting at bytes) piece) ≡ record { held = stopped f; frames = out' } → y ≡ with_held x (stopped f) → Feeds x piece out (Err (errors.Fault f)) y out'
meets-fault x piece out f y out' s at bytes e own held h is = goes x piece out (Err (errors.Fault f)) y out' (reads-on x at bytes e held) (ap (λ (u : Unframed). u.held.fault) all, is ∙ ap (λ (u : Unframed). with_held x u.held) (sym all), ap (λ (u : Unframed). u.frames) (sym all))
  where
    all : in_front out (unframed x.server x.held piece) ≡ record { held = stopped f; frames = out' }
    all = ap (λ (q : ServerNo). in_front out (unframed q x.held piece)) own ∙ ap (λ (k : Held). in_front out (unframed s k piece)) held ∙ h

front-of : (out fs out' more : List Framed) → out ++ fs ≡ out' ++ more → length out ≤ length out' → out' ≡ out ++ take (length out' - length out) fs
front-of [] fs out' more e le =
    let all : length out' - length {A = Framed} [] ≡ length out' = omega arith in
    sym (ap (take (length out')) e ∙ take-append_seam out' more) ∙ ap (λ (n : ℕ). take n fs) (sym all)
front-of (f ∷ out) fs [] more e le = absurd (omega (arith, le))
front-of (f ∷ out) fs (g ∷ out') more e le =
    let tail : out ++ fs ≡ out' ++ more = cc in
    let head : f ≡ g = cc in
    let rest : out' ≡ out ++ take (length out' - length out) fs = front-of out fs out' more tail (omega (arith, le)) in
    let same : length (g ∷ out') - length (f ∷ out) ≡ length out' - length out = omega arith in
    ap (λ (x : Framed). x ∷ out') (sym head) ∙ ap (λ (l : List Framed). f ∷ l) rest ∙ ap (λ (n : ℕ). f ∷ (out ++ take n fs)) (sym same)

-- there is no memory
pub lacks-memory : (x : Stream) (piece : List ℕ) (out : List Framed) (y : Stream) (out' : List Framed) (s : ServerNo) (at : ℕ) (bytes : List ℕ) → x.over ≡ false → x.server ≡ s → x.held ≡ waiting at bytes
    → (more : List Framed) × (out ++ (unframed s (waiting at bytes) piece).frames ≡ out' ++ more) → length out ≤ length out' → y.server ≡ s → y.over ≡ true → Feeds x piece out (Err errors.Memory) y out'
lacks-memory x piece out y out' s at bytes e own held h kept same over = goes x piece out (Err errors.Memory) y out' (reads-on x at bytes e held) (record {
  server = same ∙ sym own;
  over = over;
  count = length out' - length out;
  given = front-of out (unframed x.server x.held piece).frames out' h.0 (ap (λ (fs : List Framed). out ++ fs) all ∙ h.1) kept;
})
  where
    all : (unframed x.server x.held piece).frames ≡ (unframed s (waiting at bytes) piece).frames
    all = ap (λ (q : ServerNo). (unframed q x.held piece).frames) own ∙ ap (λ (k : Held). (unframed s k piece).frames) held
