-- Frames that are written one behind another are read back, and no other bytes are read as a frame.
use Rattle.std.proofs.Common.{◌≡◌, ◌≤◌, ◌<◌, ◌+◌, ◌*◌, ◌^◌, ℕ, true, List, [], ◌∷◌, ◌++◌, length, drop, refl, sym, ◌∙◌, ap, subst, arith, length-append, Ok, Some}
use Rattle.std.specs.Prelude.{None}
use Rattle.std.specs.List.{AllByRecursion}
use Rattle.std.proofs.lemmas.Bool.Decides.{nat_tests}
use Rattle.std.proofs.Math.Seq.{drop-append_seam}
use Rattle.byteorder.specs.Endian.{big_number, big_bytes}
use Rattle.byteorder.specs.Numbers.{length-bytes_high_first, big_number-reads_back}
use Rattle.jn_base.specs.declared.names.ServerNo.{ServerNo}
use Rattle.jn_base.specs.declared.names.ClientNo.{ClientNo}
use Rattle.jn_base.specs.declared.names.Cause.TheVariants as causes
use Rattle.jn_base.specs.declared.names.Party.{Party}
use Rattle.jn_base.specs.declared.names.Party.TheVariants.{Client, Server}
use Rattle.jn_base.specs.declared.names.Tid.{Tid}
use Rattle.jn_base.specs.declared.names.WorkId.{WorkId}
use Rattle.jn_base.specs.declared.names.LockUnit.{LockUnit}
use Rattle.jn_base.specs.declared.op.Op.{Op}
use Rattle.jn_base.specs.declared.op.Op.TheVariants as ops
use Rattle.jn_base.specs.declared.op.Answer.{Answer}
use Rattle.jn_base.specs.declared.op.Answer.TheVariants as answers
use Rattle.jn_fields.specs.Names.{tid_bytes, work_bytes, unit_bytes}
use Rattle.jn_fields.proofs.NamesAgain.{length-unit}
use Rattle.jn_msgs.specs.declared.message.Message.{Message}
use Rattle.jn_msgs.specs.declared.message.Message.TheVariants as messages
use Rattle.jn_msgs.specs.declared.message.Outcome.{Outcome}
use Rattle.jn_msgs.specs.declared.message.Outcome.TheVariants as outcomes
use Rattle.jn_msgs.specs.declared.message.Vote.{Vote}
use Rattle.jn_msgs.specs.declared.message.Vote.TheVariants as votes
use Rattle.jn_wire.specs.declared.frame.Body.{Body}
use Rattle.jn_wire.specs.declared.frame.Body.TheVariants as bodies
use Rattle.jn_wire.specs.declared.frame.Framed.{Framed}
use Rattle.jn_wire.specs.Spelling.{works_bytes, held_bytes, op_bytes, vote_bytes, answer_bytes, outcome_bytes, message_bytes, carried_bytes, party_bytes, body_bytes, frame_bytes, stream_bytes, AreBytes, OpIn, MessageIn, BodyIn, IsSent}
use Rattle.jn_wire.specs.Decoding.{decode}
use Rattle.jn_wire.specs.Answering.{AnswerIn, BodyToldIn, IsSentTo, ToldIn, decode_by}
use Rattle.jn_wire.specs.Unframing.{Unframed, unframed_by, in_front, met, nothing_held, is_whole}
use Rattle.jn_wire.proofs.Joining.{unframed-append}
use Rattle.jn_wire.proofs.ToldBack.{sent-back}
use Rattle.jn_wire.proofs.Whole.{frame-is-met}
use Rattle.jn_wire.proofs.Numbers.{number-again}
use Rattle.jn_wire.proofs.Spelled.{decoded}

-- ---- how long the parts are

of-tid : (t : Tid) → length (tid_bytes t) ≡ 9
of-tid t = refl

of-work : (w : WorkId) → length (work_bytes w) ≡ 9
of-work w = refl

of-works : (ws : List WorkId) → length (works_bytes ws) ≡ 9 * length ws
of-works [] = refl
of-works (w ∷ ws) = let rest = of-works ws in let one = length-append (work_bytes w) (works_bytes ws) in omega (arith, rest, one, of-work w)

of-held : (u : LockUnit) (t : Tid) → length (held_bytes u t) ≡ 15
of-held u t = let one = length-append (unit_bytes u) (tid_bytes t) in omega (arith, one, length-unit u, of-tid t)

of-op : (o : Op) → OpIn o → length (op_bytes o) ≤ 455
of-op (ops.Create f) h = omega arith
of-op (ops.Remove f) h = omega arith
of-op (ops.Cut f n) h = omega arith
of-op (ops.Read f p) h = omega arith
of-op (ops.Write f p bytes) h = let size = h.2 in omega (arith, size)

of-vote : (v : Vote) → length (vote_bytes v) ≤ 16
of-vote votes.Ready = omega arith
of-vote (votes.Waiting u t) = omega (arith, of-held u t)
of-vote (votes.Broken u t) = omega (arith, of-held u t)
of-vote (votes.Lost then now) = omega arith
of-vote (votes.Full resource free need) = omega arith

of-message : (from : Party) (m : Message) → MessageIn from m → length (message_bytes m) ≤ 474
of-message from (messages.Begin c r) h = omega arith
of-message from (messages.Open c r t) h = omega arith
of-message from (messages.Op c r w n o) h = omega (arith, of-op o h.4)
of-message from (messages.End c r t ws) h = let few = h.3.0 in omega (arith, of-works ws, few)
of-message from (messages.Abort c r t ws) h = let few = h.3.0 in omega (arith, of-works ws, few)
of-message from (messages.Thanks c t) h = omega arith
of-message from (messages.Begun c r t) h = absurd h
of-message from (messages.Opened c r t w) h = absurd h
of-message from (messages.Answer c r a) h = absurd h
of-message from (messages.Outcome c t o) h = absurd h
of-message from (messages.Prepare t c w) h = omega arith
of-message from (messages.Commit t w) h = omega arith
of-message from (messages.Drop t w) h = omega arith
of-message from (messages.Vote t w v) h = omega (arith, of-vote v)
of-message from (messages.Done t w) h = omega arith
of-message from (messages.Inquire t w) h = omega arith

of-body : (from : Party) (body : Body) → BodyIn from body → length (carried_bytes body) ≤ 474
of-body from (bodies.Message m) h = of-message from m h
of-body from bodies.Nudge h = omega arith
of-body from (bodies.Timeout t) h = omega arith

of-party : (p : Party) → length (party_bytes p) ≡ 2
of-party (Client c) = refl
of-party (Server s) = refl

-- what a client is told
of-answer : (a : Answer) → AnswerIn a → length (answer_bytes a) ≤ 449
of-answer answers.Did h = omega arith
of-answer (answers.Read bytes) h = let size : length bytes ≡ 448 = h in omega (arith, size)
of-answer answers.NoFile h = omega arith
of-answer answers.Exists h = omega arith
of-answer (answers.Locked u t) h = omega (arith, of-held u t)
of-answer answers.TooManyReads h = omega arith
of-answer answers.TooManyWrites h = omega arith
of-answer (answers.Broken u t) h = omega (arith, of-held u t)
of-answer (answers.Lost then now) h = omega arith
of-answer answers.Closing h = omega arith

of-outcome : (o : Outcome) → length (outcome_bytes o) ≤ 17
of-outcome outcomes.Committed = omega arith
of-outcome (outcomes.Aborted causes.Requested) = omega arith
of-outcome (outcomes.Aborted (causes.Broken s u t)) = omega (arith, of-held u t)
of-outcome (outcomes.Aborted (causes.Lost s)) = omega arith
of-outcome (outcomes.Aborted (causes.Full s r free need)) = omega arith
of-outcome (outcomes.Waiting s u t) = omega (arith, of-held u t)
of-outcome (outcomes.NotKnown s epoch) = omega arith

of-told : (c : ClientNo) (m : Message) → ToldIn c m → length (message_bytes m) ≤ 474
of-told c (messages.Begun d r None) h = omega arith
of-told c (messages.Begun d r (Some t)) h = omega arith
of-told c (messages.Opened d r t None) h = omega arith
of-told c (messages.Opened d r t (Some w)) h = omega arith
of-told c (messages.Answer d r a) h = omega (arith, of-answer a h.2)
of-told c (messages.Outcome d t o) h = omega (arith, of-outcome o)
of-told c (messages.Begin d r) h = absurd h
of-told c (messages.Open d r t) h = absurd h
of-told c (messages.Op d r w n o) h = absurd h
of-told c (messages.End d r t ws) h = absurd h
of-told c (messages.Abort d r t ws) h = absurd h
of-told c (messages.Thanks d t) h = absurd h
of-told c (messages.Prepare t d w) h = absurd h
of-told c (messages.Commit t w) h = absurd h
of-told c (messages.Drop t w) h = absurd h
of-told c (messages.Vote t w v) h = absurd h
of-told c (messages.Done t w) h = absurd h
of-told c (messages.Inquire t w) h = absurd h

of-body-told : (c : ClientNo) (body : Body) → BodyToldIn c body → length (carried_bytes body) ≤ 474
of-body-told c (bodies.Message m) h = of-told c m h
of-body-told c bodies.Nudge h = absurd h
of-body-told c (bodies.Timeout t) h = absurd h

of-sent : (p : Party) (f : Framed) → IsSentTo p f → length (carried_bytes f.body) ≤ 474
of-sent (Server s) f h = of-body f.from f.body h.body
of-sent (Client c) f h = of-body-told c f.body h.body

of-frame : (p : Party) (f : Framed) → IsSentTo p f → length (body_bytes f) ≤ 478
of-frame p f h = let one = length-append (party_bytes f.from) (party_bytes f.to ++ carried_bytes f.body) in let two = length-append (party_bytes f.to) (carried_bytes f.body) in
    omega (arith, one, two, of-party f.from, of-party f.to, of-sent p f h)

-- ---- a frame

length-is-read : (n : ℕ) (body : List ℕ) → n ≡ length body → n < 256 ^ 2 → is_whole (big_bytes 2 n ++ body) ≡ true
length-is-read n body e small =
    let all = length-append (big_bytes 2 n) body in
    let two = length-bytes_high_first 2 n in
    let back = big_number-reads_back 2 n body small in
    grind (arith, all, two, back, e, nat_tests)

behind-length : (n : ℕ) (body : List ℕ) → drop 2 (big_bytes 2 n ++ body) ≡ body
behind-length n body = subst (λ (k : ℕ). drop k (big_bytes 2 n ++ body) ≡ body) (length-bytes_high_first 2 n) (drop-append_seam (big_bytes 2 n) body)

one-back : (p : Party) (at : ℕ) (f : Framed) → IsSentTo p f → unframed_by (decode_by p) (nothing_held at) (frame_bytes f) ≡ record { held = nothing_held (at + length (frame_bytes f)); frames = f ∷ [] }
unfolding frame_bytes
one-back p at f h =
    let n = length (body_bytes f) in
    let size = of-frame p f h in
    frame-is-met (decode_by p) at [] (frame_bytes f) refl (length-is-read n (body_bytes f) refl (omega (arith, size)))
    ∙ ap (met at (frame_bytes f)) (ap (decode_by p) (behind-length n (body_bytes f)) ∙ sent-back p f h)

further : (at a b c : ℕ) → c ≡ a + b → (at + a) + b ≡ at + c
further at a b c e = omega (arith, e)

pub stream-back : (p : Party) (at : ℕ) (fs : List Framed) → AllByRecursion (IsSentTo p) fs → unframed_by (decode_by p) (nothing_held at) (stream_bytes fs) ≡ record { held = nothing_held (at + length (stream_bytes fs)); frames = fs }
stream-back p at [] h = ap (λ (n : ℕ). record { held = nothing_held n; frames = [] }) (omega arith)
stream-back p at (f ∷ fs) h =
    let next = at + length (frame_bytes f) in
    unframed-append (decode_by p) (nothing_held at) (frame_bytes f) (stream_bytes fs)
    ∙ ap (λ (u : Unframed). in_front u.frames (unframed_by (decode_by p) u.held (stream_bytes fs))) (one-back p at f h.0)
    ∙ ap (in_front (f ∷ [])) (stream-back p next fs h.1)
    ∙ ap (λ (n : ℕ). record { held = nothing_held n; frames = f ∷ fs }) (further at (length (frame_bytes f)) (length (stream_bytes fs)) _ (length-append (frame_bytes f) (stream_bytes fs)))

-- ---- no other bytes

pub frame-spelled : (s : ServerNo) (frame : List ℕ) (f : Framed) → AreBytes frame → is_whole frame ≡ true → decode s (drop 2 frame) ≡ Ok f → (frame ≡ frame_bytes f) × IsSent s f
unfolding frame_bytes
frame-spelled s [] f h w e = absurd (cc w)
frame-spelled s (x ∷ []) f h w e = absurd (cc w)
frame-spelled s (x ∷ y ∷ body) f h w e =
    let (same, sent) = decoded s body f h.1.1 e in
    let n = big_number 2 (x ∷ y ∷ body) in
    let size : n ≡ length body = grind (arith, w, nat_tests) in
    let front : x ∷ y ∷ [] ≡ big_bytes 2 n = number-again 2 (x ∷ y ∷ body) (omega arith) h in
    (ap (λ (l : List ℕ). l ++ body) front ∙ ap (λ (k : ℕ). big_bytes 2 k ++ body) (size ∙ ap length (sym same)) ∙ ap (λ (l : List ℕ). big_bytes 2 (length (body_bytes f)) ++ l) (sym same), sent)
