-- What calls that read one behind another lead to.
use Rattle.std.proofs.Common.{◌≡◌, ℕ, true, false, List, [], ◌++◌, refl, sym, ◌∙◌, ap, subst, append_assoc, append-nil, Result, Err}
use Rattle.std.specs.Prelude.{drop}
use Rattle.jn_base.specs.declared.names.ServerNo.{ServerNo}
use Rattle.jn_wire.specs.declared.frame.Framed.{Framed}
use Rattle.jn_wire.specs.declared.fault.WireError.{WireError}
use Rattle.jn_wire.specs.declared.fault.WireError.TheVariants as errors
use Rattle.jn_wire.specs.Decoding.{decode}
use Rattle.jn_wire.specs.Unframing.{Unframed, unframed, in_front, joined, met, nothing_held, waiting, stopped, is_whole, is_unfinished}
use Rattle.jn_wire.specs.Reading.{Fills, Leads, Splits, read_to}
use Rattle.jn_wire.proofs.Joining.{in_front-twice, unframed-append}
use Rattle.jn_wire.proofs.Meaning.{faulty-stays}
use Rattle.jn_wire.proofs.Whole.{frame-is-met, bytes-are-held}

-- frames in front of what more bytes give
front-joined : (s : ServerNo) (out : List Framed) (u : Unframed) (rest : List ℕ) → in_front out (joined s u rest) ≡ joined s (in_front out u) rest
front-joined s out u rest = in_front-twice out u.frames (unframed s u.held rest)

-- a frame that becomes whole, and the bytes behind it
pub frame-behind : (s : ServerNo) (out : List Framed) (at : ℕ) (h moved rest : List ℕ) → is_unfinished h ≡ true → is_whole (h ++ moved) ≡ true
    → in_front out (unframed s (waiting at h) (moved ++ rest)) ≡ joined s (in_front out (met at (h ++ moved) (decode s (drop 2 (h ++ moved))))) rest
frame-behind s out at h moved rest u w = ap (in_front out) (unframed-append (decode s) (waiting at h) moved rest ∙ ap (λ (m : Unframed). joined s m rest) (frame-is-met (decode s) at h moved u w))
    ∙ front-joined s out (met at (h ++ moved) (decode s (drop 2 (h ++ moved)))) rest

-- reading ends with this error
abbrev Stops : Unframed → WireError → List Framed → Type 0
Stops u e out = Leads {X = Unframed} (λ x. x) u (Err e) out

-- behind an error nothing is read
stops-behind : (s : ServerNo) (u : Unframed) (rest : List ℕ) (e : WireError) (out : List Framed) → Stops u e out → Stops (joined s u rest) e out
stops-behind s u rest (errors.Fault f) out h = ap (λ (m : Unframed). joined s m rest) h ∙ ap (in_front out) (faulty-stays s f.at [] f rest) ∙ ap (λ (fs : List Framed). record { held = stopped f; frames = fs }) (append-nil out)
stops-behind s u rest errors.Memory out h = (h.0 ++ (unframed s u.held rest).frames, ap (λ (fs : List Framed). fs ++ (unframed s u.held rest).frames) h.1 ∙ append_assoc out h.0 (unframed s u.held rest).frames)

any-value : {X : Type 0} (later : X → Unframed) (u : Unframed) (e : WireError) (out : List Framed) → Stops u e out → Leads later u (Err e) out
any-value later u (errors.Fault f) out h = h
any-value later u errors.Memory out h = h

-- the error of a part is that of the whole
pub behind-stop : {X : Type 0} (s : ServerNo) (later : X → Unframed) (u v : Unframed) (rest : List ℕ) (e : WireError) (r : Result X WireError) (out : List Framed) → r ≡ Err e → v ≡ joined s u rest → Stops u e out → Leads later v r out
behind-stop {X} s later u v rest e r out failed same h = subst (λ (x : Result X WireError). Leads later v x out) (sym failed) (any-value later v e out (subst (λ (m : Unframed). Stops m e out) (sym same) (stops-behind s u rest e out h)))

pub same-leads : {X : Type 0} (next : X → Unframed) (u v : Unframed) (r : Result X WireError) (out : List Framed) → v ≡ u → Leads next u r out → Leads next v r out
same-leads next u v r out same h = subst (λ (m : Unframed). Leads next m r out) (sym same) h

-- a whole frame in front
pub turn : (s : ServerNo) (out : List Framed) (at : ℕ) (bytes frame rest : List ℕ) → Splits bytes frame rest → in_front out (unframed s (nothing_held at) bytes) ≡ joined s (in_front out (met at frame (decode s (drop 2 frame)))) rest
turn s out at bytes frame rest h = ap (λ (b : List ℕ). in_front out (unframed s (nothing_held at) b)) h.same ∙ frame-behind s out at [] frame rest refl h.whole

waits-there : (s : ServerNo) (out : List Framed) (at : ℕ) (h more : List ℕ) → is_unfinished (h ++ more) ≡ true → in_front out (unframed s (waiting at h) more) ≡ read_to at (h ++ more) out
waits-there s out at h more u = ap (in_front out) (bytes-are-held (decode s) at h more u) ∙ ap (read_to at (h ++ more)) (append-nil out)

-- no whole frame in front
pub rests : (s : ServerNo) (out : List Framed) (at : ℕ) (bytes : List ℕ) → is_unfinished bytes ≡ true → in_front out (unframed s (nothing_held at) bytes) ≡ read_to at bytes out
rests s out at bytes u = waits-there s out at [] bytes u

-- the frame that was held is whole now
pub filled : (s : ServerNo) (out : List Framed) (at now : ℕ) (h piece new rest : List ℕ) → now ≡ at → is_unfinished h ≡ true → Fills h piece new rest → is_whole new ≡ true
    → in_front out (unframed s (waiting at h) piece) ≡ joined s (in_front out (met now new (decode s (drop 2 new)))) rest
filled s out at now h piece new rest same u f w =
    ap (λ (b : List ℕ). in_front out (unframed s (waiting at h) b)) f.left
    ∙ frame-behind s out at h f.moved rest u (ap is_whole (sym f.held) ∙ w)
    ∙ ap (λ (b : List ℕ). joined s (in_front out (met at b (decode s (drop 2 b)))) rest) (sym f.held)
    ∙ ap (λ (n : ℕ). joined s (in_front out (met n new (decode s (drop 2 new)))) rest) (sym same)

-- it still isn't
pub unfilled : (s : ServerNo) (out : List Framed) (at now : ℕ) (h piece new rest : List ℕ) → now ≡ at → Fills h piece new rest → is_whole new ≡ false → in_front out (unframed s (waiting at h) piece) ≡ read_to now new out
unfilled s out at now h piece new rest same f w =
    let (u, none) = f.waits w in
    ap (λ (b : List ℕ). in_front out (unframed s (waiting at h) b)) (f.left ∙ ap (λ (b : List ℕ). f.moved ++ b) none ∙ append-nil f.moved)
    ∙ waits-there s out at h f.moved (ap is_unfinished (sym f.held) ∙ u)
    ∙ ap (λ (b : List ℕ). read_to at b out) (sym f.held) ∙ ap (λ (n : ℕ). read_to n new out) (sym same)
