-- What a server tells a client is read back.
use Rattle.std.proofs.Common.{◌≡◌, ℕ, true, ◌&&◌, List, [], ◌∷◌, ◌++◌, refl, sym, ◌∙◌, ap, subst, Ok, Option, Some}
use Rattle.std.specs.Prelude.{None, not, nat_le}
use Rattle.jn_base.specs.Names.{refusal_number}
use Rattle.jn_base.specs.declared.names.ServerNo.{ServerNo}
use Rattle.jn_base.specs.declared.names.ClientNo.{ClientNo}
use Rattle.jn_base.specs.declared.names.RequestNo.{RequestNo}
use Rattle.jn_base.specs.declared.names.Cause.TheVariants as causes
use Rattle.jn_base.specs.declared.names.Tid.{Tid}
use Rattle.jn_base.specs.declared.names.WorkId.{WorkId}
use Rattle.jn_base.specs.declared.names.Party.{Party}
use Rattle.jn_base.specs.declared.names.Party.TheVariants.{Client, Server}
use Rattle.jn_base.specs.declared.op.Answer.{Answer}
use Rattle.jn_base.specs.declared.op.Answer.TheVariants as answers
use Rattle.jn_fields.specs.Names.{tid_bytes, work_bytes}
use Rattle.jn_msgs.specs.declared.message.Message.{Message}
use Rattle.jn_msgs.specs.declared.message.Message.TheVariants as messages
use Rattle.jn_msgs.specs.declared.message.Outcome.{Outcome}
use Rattle.jn_msgs.specs.declared.message.Outcome.TheVariants as outcomes
use Rattle.jn_wire.specs.declared.frame.Body.{Body}
use Rattle.jn_wire.specs.declared.frame.Body.TheVariants as bodies
use Rattle.jn_wire.specs.declared.frame.Framed.{Framed}
use Rattle.jn_wire.specs.Fields.{Reading, Got, and_then, byte, number, tid, work, resource}
use Rattle.jn_wire.specs.Spelling.{u32, held_bytes, answer_bytes, outcome_bytes, tid_or, work_or, message_bytes, carried_bytes, body_bytes, party_bytes, Is32, ClientIn, ServerIn, TidIn, WorkIn, IsOfServer}
use Rattle.jn_wire.specs.Decoding.{closed}
use Rattle.jn_wire.specs.Answering.{AnswerIn, BodyToldIn, IfNamed, IsSentTo, OutcomeIn, ToldIn, answer, answer_by, answer_of, begun_by, decode_by, decode_told, held, is_client, named_or, opened_by, outcome, outcome_by, outcome_of, server, told_body, told_by, two}
use Rattle.jn_wire.proofs.ReadBack.{at-most, began, content-back, equal, frame-back, held-back, if-false, if-true, last, onward, party-client, party-server, resource-back, sender-back, tid-back, told, two-back, u32-back, work-back}

server-back : (s : ServerNo) (rest : List ℕ) → ServerIn s → server (s.0 ∷ rest) ≡ Got s rest
unfolding server byte
server-back s rest h = if-true _ _ _ (at-most s.0 7 h)

answer-back : (a : Answer) (rest : List ℕ) → AnswerIn a → answer (answer_bytes a ++ rest) ≡ Got a rest
unfolding answer answer_of byte
answer-back answers.Did rest h = refl
answer-back (answers.Read bytes) rest h = onward (λ b xs. Got (answers.Read b) xs) (content-back bytes rest h)
answer-back answers.NoFile rest h = refl
answer-back answers.Exists rest h = refl
answer-back (answers.Locked u t) rest h = held-back answers.Locked u t rest h
answer-back answers.TooManyReads rest h = refl
answer-back answers.TooManyWrites rest h = refl
answer-back (answers.Broken u t) rest h = held-back answers.Broken u t rest h
answer-back (answers.Lost a b) rest h = two-back answers.Lost a b rest h.0 h.1
answer-back answers.Closing rest h = refl

outcome-back : (o : Outcome) (rest : List ℕ) → OutcomeIn o → outcome (outcome_bytes o ++ rest) ≡ Got o rest
unfolding outcome outcome_of byte
outcome-back outcomes.Committed rest h = refl
outcome-back (outcomes.Aborted causes.Requested) rest h = refl
outcome-back (outcomes.Aborted (causes.Broken s u t)) rest h = onward (λ q xs. held (λ v x. outcomes.Aborted (causes.Broken q v x)) xs) (server-back s (held_bytes u t ++ rest) h.0)
    ∙ held-back (λ v x. outcomes.Aborted (causes.Broken s v x)) u t rest h.1
outcome-back (outcomes.Aborted (causes.Lost s)) rest h = onward (λ q xs. Got (outcomes.Aborted (causes.Lost q)) xs) (server-back s rest h)
outcome-back (outcomes.Aborted (causes.Full s r a b)) rest h = onward (λ q xs. and_then (resource xs) (λ p ys. two (λ n m. outcomes.Aborted (causes.Full q p n m)) ys)) (server-back s (refusal_number r ∷ ((u32 a ++ u32 b) ++ rest)) h.0)
    ∙ onward (λ p ys. two (λ n m. outcomes.Aborted (causes.Full s p n m)) ys) (resource-back r ((u32 a ++ u32 b) ++ rest)) ∙ two-back (λ n m. outcomes.Aborted (causes.Full s r n m)) a b rest h.1 h.2
outcome-back (outcomes.Waiting s u t) rest h = onward (λ q xs. held (outcomes.Waiting q) xs) (server-back s (held_bytes u t ++ rest) h.0) ∙ held-back (outcomes.Waiting s) u t rest h.1
outcome-back (outcomes.NotKnown s epoch) rest h = onward (λ q xs. and_then (number 4 xs) (λ n ys. Got (outcomes.NotKnown q n) ys)) (server-back s (u32 epoch ++ rest) h.0)
    ∙ onward (λ n ys. Got (outcomes.NotKnown s n) ys) (u32-back epoch rest h.1)

-- 0 and what is named, or its refusal, at the end of a frame
tid-or-back : {A : Type 0} (make : Option Tid → A) (o : Option Tid) → IfNamed TidIn o → and_then (byte (tid_or 21 o)) (λ code xs. and_then (named_or tid 21 code xs) (λ x ys. Got (make x) ys)) ≡ Got (make o) []
unfolding byte
tid-or-back make None h = refl
tid-or-back make (Some t) h = ap (λ (r : Reading Tid). and_then (and_then r (λ a xs. Got (Some a) xs)) (λ x ys. Got (make x) ys)) (last tid (tid_bytes t) t (tid-back t [] h))

work-or-back : {A : Type 0} (make : Option WorkId → A) (o : Option WorkId) → IfNamed WorkIn o → and_then (byte (work_or 22 o)) (λ code xs. and_then (named_or work 22 code xs) (λ x ys. Got (make x) ys)) ≡ Got (make o) []
unfolding byte
work-or-back make None h = refl
work-or-back make (Some w) h = ap (λ (r : Reading WorkId). and_then (and_then r (λ a xs. Got (Some a) xs)) (λ x ys. Got (make x) ys)) (last work (work_bytes w) w (work-back w [] h))

begun-back : (c : ClientNo) (r : RequestNo) (t : Option Tid) → ClientIn c → Is32 r.0 → IfNamed TidIn t → told_body c 7 (c.0 ∷ u32 r.0 ++ tid_or 21 t) ≡ told (messages.Begun c r t)
unfolding told_body begun_by
begun-back c r t it h k = began (λ d q xs. and_then (byte xs) (λ code ys. and_then (named_or tid 21 code ys) (λ x zs. Got (bodies.Message (messages.Begun d q x)) zs))) c r (tid_or 21 t) it h
    ∙ tid-or-back (λ x. bodies.Message (messages.Begun c r x)) t k

opened-back : (c : ClientNo) (r : RequestNo) (t : Tid) (w : Option WorkId) → ClientIn c → Is32 r.0 → TidIn t → IfNamed WorkIn w → told_body c 8 (c.0 ∷ u32 r.0 ++ tid_bytes t ++ work_or 22 w) ≡ told (messages.Opened c r t w)
unfolding told_body opened_by
opened-back c r t w it h k l = began (λ d q xs. and_then (tid xs) (λ x ys. and_then (byte ys) (λ code zs. and_then (named_or work 22 code zs) (λ v ts. Got (bodies.Message (messages.Opened d q x v)) ts)))) c r (tid_bytes t ++ work_or 22 w) it h
    ∙ onward (λ x ys. and_then (byte ys) (λ code zs. and_then (named_or work 22 code zs) (λ v ts. Got (bodies.Message (messages.Opened c r x v)) ts))) (tid-back t (work_or 22 w) k)
    ∙ work-or-back (λ v. bodies.Message (messages.Opened c r t v)) w l

answered-back : (c : ClientNo) (r : RequestNo) (a : Answer) → ClientIn c → Is32 r.0 → AnswerIn a → told_body c 9 (c.0 ∷ u32 r.0 ++ answer_bytes a) ≡ told (messages.Answer c r a)
unfolding told_body answer_by
answered-back c r a it h k = began (λ d q xs. and_then (answer xs) (λ x ys. Got (bodies.Message (messages.Answer d q x)) ys)) c r (answer_bytes a) it h
    ∙ onward (λ x ys. Got (bodies.Message (messages.Answer c r x)) ys) (last answer (answer_bytes a) a (answer-back a [] k))

ended-back : (c : ClientNo) (t : Tid) (o : Outcome) → ClientIn c → TidIn t → OutcomeIn o → told_body c 10 (c.0 ∷ tid_bytes t ++ outcome_bytes o) ≡ told (messages.Outcome c t o)
unfolding told_body outcome_by
ended-back c t o it h k = onward (λ d xs. and_then (tid xs) (λ x ys. and_then (outcome ys) (λ y zs. Got (bodies.Message (messages.Outcome d x y)) zs))) (sender-back c (tid_bytes t ++ outcome_bytes o) it)
    ∙ onward (λ x ys. and_then (outcome ys) (λ y zs. Got (bodies.Message (messages.Outcome c x y)) zs)) (tid-back t (outcome_bytes o) h)
    ∙ onward (λ y zs. Got (bodies.Message (messages.Outcome c t y)) zs) (last outcome (outcome_bytes o) o (outcome-back o [] k))

-- ---- frames

abbrev IsToldBack : ServerNo → ClientNo → Message → Type 0
IsToldBack s c m = decode_told c (2 ∷ s.0 ∷ 1 ∷ c.0 ∷ message_bytes m) ≡ Ok (record { from = Server s; to = Client c; body = bodies.Message m })

to-client : (s : ServerNo) (c : ClientNo) (kind : ℕ) (fields : List ℕ) (m : Message) → (nat_le 7 kind && nat_le kind 10) ≡ true → ServerIn s → ClientIn c → told_body c kind fields ≡ told m
    → decode_told c (2 ∷ s.0 ∷ 1 ∷ c.0 ∷ kind ∷ fields) ≡ Ok (record { from = Server s; to = Client c; body = bodies.Message m })
unfolding decode_told
to-client s c kind fields m known from it e = if-false _ _ _ (ap not known)
    ∙ if-false _ _ _ (ap (λ (x : Option Party). not (is_client c x)) (party-client c it) ∙ ap not (equal c.0))
    ∙ ap (λ (x : Option Party). told_by c x (told_body c kind fields)) (party-server s from) ∙ ap (closed (Server s) (Client c)) e

message-told : (s : ServerNo) (c : ClientNo) (m : Message) → ServerIn s → ClientIn c → ToldIn c m → IsToldBack s c m
message-told s c (messages.Begun d r t) from it h = subst (λ (e : ClientNo). IsToldBack s c (messages.Begun e r t)) (sym h.0) (to-client s c 7 _ (messages.Begun c r t) refl from it (begun-back c r t it h.1 h.2))
message-told s c (messages.Opened d r t w) from it h = subst (λ (e : ClientNo). IsToldBack s c (messages.Opened e r t w)) (sym h.0) (to-client s c 8 _ (messages.Opened c r t w) refl from it (opened-back c r t w it h.1 h.2 h.3))
message-told s c (messages.Answer d r a) from it h = subst (λ (e : ClientNo). IsToldBack s c (messages.Answer e r a)) (sym h.0) (to-client s c 9 _ (messages.Answer c r a) refl from it (answered-back c r a it h.1 h.2))
message-told s c (messages.Outcome d t o) from it h = subst (λ (e : ClientNo). IsToldBack s c (messages.Outcome e t o)) (sym h.0) (to-client s c 10 _ (messages.Outcome c t o) refl from it (ended-back c t o it h.1 h.2))
message-told s c (messages.Begin d r) from it h = absurd h
message-told s c (messages.Open d r t) from it h = absurd h
message-told s c (messages.Op d r w n o) from it h = absurd h
message-told s c (messages.End d r t ws) from it h = absurd h
message-told s c (messages.Abort d r t ws) from it h = absurd h
message-told s c (messages.Thanks d t) from it h = absurd h
message-told s c (messages.Prepare t d w) from it h = absurd h
message-told s c (messages.Commit t w) from it h = absurd h
message-told s c (messages.Drop t w) from it h = absurd h
message-told s c (messages.Vote t w v) from it h = absurd h
message-told s c (messages.Done t w) from it h = absurd h
message-told s c (messages.Inquire t w) from it h = absurd h

body-told : (c : ClientNo) (from : Party) (body : Body) → ClientIn c → IsOfServer from → BodyToldIn c body
    → decode_told c (party_bytes from ++ (party_bytes (Client c) ++ carried_bytes body)) ≡ Ok (record { from = from; to = Client c; body = body })
body-told c (Client d) body it h k = absurd h
body-told c (Server s) (bodies.Message m) it h k = message-told s c m h it k
body-told c (Server s) bodies.Nudge it h k = absurd k
body-told c (Server s) (bodies.Timeout t) it h k = absurd k

-- a frame, as its receiver reads it
pub sent-back : (p : Party) (f : Framed) → IsSentTo p f → decode_by p (body_bytes f) ≡ Ok f
sent-back (Server s) f h = frame-back s f h
sent-back (Client c) f h = subst (λ (x : Party). decode_told c (party_bytes f.from ++ (party_bytes x ++ carried_bytes f.body)) ≡ Ok (record { from = f.from; to = x; body = f.body }))
    (sym h.to) (body-told c f.from f.body h.client h.from h.body)
