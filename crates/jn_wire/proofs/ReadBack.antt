-- Each field is read back, whatever follows it.
use Rattle.std.proofs.Common.{◌≡◌, ◌≤◌, ◌<◌, ◌^◌, ℕ, suc, Bool, true, false, ◌&&◌, List, [], ◌∷◌, ◌++◌, length, refl, sym, ◌∙◌, ap, subst, arith, append_assoc, append-nil, Ok, Option, Some, if◌then◌else◌}
use Rattle.std.specs.Prelude.{not, nat_le, nat_eq, nat_lt}
use Rattle.std.specs.List.{AllByRecursion}
use Rattle.std.proofs.lemmas.Bool.Decides.{nat_tests}
use Rattle.byteorder.specs.Endian.{big_bytes}
use Rattle.jn_base.specs.Limits.{most_blocks}
use Rattle.jn_base.specs.Names.{refusal_number}
use Rattle.jn_base.specs.declared.names.ServerNo.{ServerNo}
use Rattle.jn_base.specs.declared.names.ClientNo.{ClientNo}
use Rattle.jn_base.specs.declared.names.FileNo.{FileNo}
use Rattle.jn_base.specs.declared.names.BlockNo.{BlockNo}
use Rattle.jn_base.specs.declared.names.Tid.{Tid}
use Rattle.jn_base.specs.declared.names.WorkId.{WorkId}
use Rattle.jn_base.specs.declared.names.RequestNo.{RequestNo}
use Rattle.jn_base.specs.declared.names.OperationNo.{OperationNo}
use Rattle.jn_base.specs.declared.names.LockUnit.{LockUnit}
use Rattle.jn_base.specs.declared.names.LockUnit.TheVariants as units
use Rattle.jn_base.specs.declared.names.Resource.{Resource}
use Rattle.jn_base.specs.declared.names.Resource.TheVariants as resources
use Rattle.jn_base.specs.declared.names.Party.{Party}
use Rattle.jn_base.specs.declared.names.Party.TheVariants.{Client, Server}
use Rattle.jn_base.specs.declared.op.Op.{Op}
use Rattle.jn_base.specs.declared.op.Op.TheVariants as ops
use Rattle.jn_fields.specs.Names.{tid_bytes, work_bytes, unit_bytes, unit_in_range}
use Rattle.jn_fields.proofs.Fields.{number_again, bytes_again}
use Rattle.jn_fields.proofs.NamesAgain.{tid_again, work_again, unit_again}
use Rattle.jn_msgs.specs.declared.message.Message.{Message}
use Rattle.jn_msgs.specs.declared.message.Message.TheVariants as messages
use Rattle.jn_msgs.specs.declared.message.Vote.{Vote}
use Rattle.jn_msgs.specs.declared.message.Vote.TheVariants as votes
use Rattle.jn_wire.specs.declared.frame.Body.{Body}
use Rattle.jn_wire.specs.declared.frame.Body.TheVariants as bodies
use Rattle.jn_wire.specs.declared.frame.Framed.{Framed}
use Rattle.jn_wire.specs.Fields.{Reading, Got, Wrong, and_then, in_range, byte, number, content, client, sender, request, operation, tid, work, works, works_from, file, block, unit, resource, out_of_range}
use Rattle.jn_wire.specs.Spelling.{u32, works_bytes, held_bytes, op_bytes, vote_bytes, carried_bytes, body_bytes, party_bytes, Is32, ClientIn, ServerIn, TidIn, WorkIn, WorksIn, UnitIn, HeldIn, OpIn, VoteIn, IsParty, MessageIn, BodyIn, IsSent}
use Rattle.jn_wire.specs.Decoding.{decode, op, op_of, vote, vote_of, client_body, server_body, any_body, begin_by, open_by, op_by, end_by, abort_by, thanks_by, prepare_in, vote_in, names_in, party_of, is_server, body_by, closed, framed_by, is_taken, is_of_client, is_of_server}

-- the next field is read behind one that was
pub onward : {A B : Type 0} {r : Reading A} {a : A} {rest : List ℕ} (next : A → List ℕ → Reading B) → r ≡ Got a rest → and_then r next ≡ next a rest
onward next e = ap (λ r. and_then r next) e

pub if-true : {A : Type 0} (b : Bool) (x y : A) → b ≡ true → (if b then x else y) ≡ x
if-true b x y e = ap (λ (c : Bool). if c then x else y) e

pub if-false : {A : Type 0} (b : Bool) (x y : A) → b ≡ false → (if b then x else y) ≡ y
if-false b x y e = ap (λ (c : Bool). if c then x else y) e

-- ---- numbers

pub number-back : (n x : ℕ) (rest : List ℕ) → x < 256 ^ n → number n (big_bytes n x ++ rest) ≡ Got x rest
unfolding number
number-back n x rest small = ap (in_range (λ k. true)) (number_again n x rest small)

pub u32-back : (x : ℕ) (rest : List ℕ) → Is32 x → number 4 (u32 x ++ rest) ≡ Got x rest
u32-back x rest small = number-back 4 x rest (omega (arith, small))

pub content-back : (bytes rest : List ℕ) → length bytes ≡ 448 → content (bytes ++ rest) ≡ Got bytes rest
unfolding content
content-back bytes rest e = ap (in_range (λ b. true)) (bytes_again 448 bytes rest e)

-- ---- names

pub request-back : (r : RequestNo) (rest : List ℕ) → Is32 r.0 → request (u32 r.0 ++ rest) ≡ Got r rest
unfolding request
request-back r rest small = onward (λ n bytes. Got (record { 0 = n }) bytes) (u32-back r.0 rest small)

pub operation-back : (n : OperationNo) (rest : List ℕ) → Is32 n.0 → operation (u32 n.0 ++ rest) ≡ Got n rest
unfolding operation
operation-back r rest small = onward (λ n bytes. Got (record { 0 = n }) bytes) (u32-back r.0 rest small)

pub file-back : (f : FileNo) (rest : List ℕ) → Is32 f.0 → file (u32 f.0 ++ rest) ≡ Got f rest
unfolding file
file-back f rest small = onward (λ n bytes. Got (record { 0 = n }) bytes) (u32-back f.0 rest small)

client-fits : (c : ClientNo) → ClientIn c → (nat_le 1 c.0 && nat_le c.0 8) ≡ true
client-fits c h = let one = h.0 in let eight = h.1 in grind (arith, one, eight, nat_tests)

pub equal : (n : ℕ) → nat_eq n n ≡ true
equal n = grind (arith, nat_tests)

fits-below : (n m : ℕ) → n < m → nat_lt n m ≡ true
fits-below n m h = grind (arith, h, nat_tests)

pub at-most : (n m : ℕ) → n ≤ m → nat_le n m ≡ true
at-most n m h = grind (arith, h, nat_tests)

no-file : (p : ℕ) → p < most_blocks → nat_eq p 65535 ≡ false
no-file p h = grind (arith, h, nat_tests)

pub client-back : (c : ClientNo) (rest : List ℕ) → ClientIn c → client (c.0 ∷ rest) ≡ Got c rest
unfolding client byte
client-back c rest h = if-true _ _ _ (client-fits c h)

pub sender-back : (c : ClientNo) (rest : List ℕ) → ClientIn c → sender c (c.0 ∷ rest) ≡ Got c rest
unfolding sender
sender-back c rest h = onward (λ d bytes. if nat_eq d.0 c.0 then Got d bytes else Wrong out_of_range) (client-back c rest h) ∙ if-true _ _ _ (equal c.0)

pub tid-back : (t : Tid) (rest : List ℕ) → TidIn t → tid (tid_bytes t ++ rest) ≡ Got t rest
unfolding tid
tid-back t rest h =
    let few = h.server in
    ap (in_range (λ (x : Tid). nat_le x.server.0 7)) (tid_again t rest (record { server = omega (arith, few); epoch = h.epoch; ticket = h.ticket })) ∙ if-true _ _ _ (at-most t.server.0 7 few)

pub work-back : (w : WorkId) (rest : List ℕ) → WorkIn w → work (work_bytes w ++ rest) ≡ Got w rest
unfolding work
work-back w rest h =
    let few = h.server in
    ap (in_range (λ (x : WorkId). nat_le x.server.0 7)) (work_again w rest (record { server = omega (arith, few); epoch = h.epoch; ticket = h.ticket })) ∙ if-true _ _ _ (at-most w.server.0 7 few)

works_from-back : (ws : List WorkId) (rest : List ℕ) → AllByRecursion WorkIn ws → works_from (length ws) (works_bytes ws ++ rest) ≡ Got ws rest
unfolding works_from
works_from-back [] rest h = refl
works_from-back (w ∷ ws) rest h = ap (works_from (suc (length ws))) (append_assoc (work_bytes w) (works_bytes ws) rest)
    ∙ onward (λ v bytes. and_then (works_from (length ws) bytes) (λ vs bytes. Got (v ∷ vs) bytes)) (work-back w (works_bytes ws ++ rest) h.0)
    ∙ onward (λ vs bytes. Got (w ∷ vs) bytes) (works_from-back ws rest h.1)

pub works-back : (ws : List WorkId) (rest : List ℕ) → WorksIn ws → works (length ws ∷ works_bytes ws ++ rest) ≡ Got ws rest
unfolding works byte
works-back ws rest h = if-true _ _ _ (at-most (length ws) 8 h.0) ∙ works_from-back ws rest h.1

-- ---- units and what is in the messages

pub block-back : (p : BlockNo) (rest : List ℕ) → p.0 < most_blocks → block (big_bytes 2 p.0 ++ rest) ≡ Got p rest
unfolding block
block-back p rest small = onward (λ n bytes. if nat_lt n most_blocks then Got (record { 0 = n }) bytes else Wrong out_of_range) (number-back 2 p.0 rest (omega (arith, small))) ∙ if-true _ _ _ (fits-below p.0 most_blocks small)

pub unit-back : (u : LockUnit) (rest : List ℕ) → UnitIn u → unit (unit_bytes u ++ rest) ≡ Got u rest
unfolding unit
unit-back (units.File f) rest h = ap (in_range unit_in_range) (unit_again (units.File f) rest (h, refl))
unit-back (units.Block f p) rest h =
    let small = h.1 in
    ap (in_range unit_in_range) (unit_again (units.Block f p) rest ((h.0, omega (arith, small)), ap not (no-file p.0 small))) ∙ if-true _ _ _ (fits-below p.0 most_blocks small)

pub resource-back : (r : Resource) (rest : List ℕ) → resource (refusal_number r ∷ rest) ≡ Got r rest
unfolding resource byte
resource-back resources.Records rest = refl
resource-back resources.Pages rest = refl
resource-back resources.Heads rest = refl

-- at the end of a frame nothing follows
pub last : {A : Type 0} (read : List ℕ → Reading A) (bytes : List ℕ) (a : A) → read (bytes ++ []) ≡ Got a [] → read bytes ≡ Got a []
last read bytes a e = ap read (sym (append-nil bytes)) ∙ e

op-back : (o : Op) (rest : List ℕ) → OpIn o → op (op_bytes o ++ rest) ≡ Got o rest
unfolding op op_of byte
op-back (ops.Create f) rest h = onward (λ g bytes. Got (ops.Create g) bytes) (file-back f rest h)
op-back (ops.Remove f) rest h = onward (λ g bytes. Got (ops.Remove g) bytes) (file-back f rest h)
op-back (ops.Cut f p) rest h = ap (op_of 3) (append_assoc (u32 f.0) (big_bytes 2 p.0) rest)
    ∙ onward (λ g bytes. and_then (block bytes) (λ q bytes. Got (ops.Cut g q) bytes)) (file-back f (big_bytes 2 p.0 ++ rest) h.0) ∙ onward (λ q bytes. Got (ops.Cut f q) bytes) (block-back p rest h.1)
op-back (ops.Read f p) rest h = ap (op_of 4) (append_assoc (u32 f.0) (big_bytes 2 p.0) rest)
    ∙ onward (λ g bytes. and_then (block bytes) (λ q bytes. Got (ops.Read g q) bytes)) (file-back f (big_bytes 2 p.0 ++ rest) h.0) ∙ onward (λ q bytes. Got (ops.Read f q) bytes) (block-back p rest h.1)
op-back (ops.Write f p bytes) rest h = ap (op_of 5) (append_assoc (u32 f.0) (big_bytes 2 p.0 ++ bytes) rest ∙ ap (λ (x : List ℕ). u32 f.0 ++ x) (append_assoc (big_bytes 2 p.0) bytes rest))
    ∙ onward (λ g xs. and_then (block xs) (λ q xs. and_then (content xs) (λ b xs. Got (ops.Write g q b) xs))) (file-back f (big_bytes 2 p.0 ++ bytes ++ rest) h.0)
    ∙ onward (λ q xs. and_then (content xs) (λ b xs. Got (ops.Write f q b) xs)) (block-back p (bytes ++ rest) h.1) ∙ onward (λ b xs. Got (ops.Write f p b) xs) (content-back bytes rest h.2)

pub held-back : {A : Type 0} (make : LockUnit → Tid → A) (u : LockUnit) (t : Tid) (rest : List ℕ) → HeldIn u t
    → and_then (unit (held_bytes u t ++ rest)) (λ v bytes. and_then (tid bytes) (λ x bytes. Got (make v x) bytes)) ≡ Got (make u t) rest
held-back make u t rest h = ap (λ (x : List ℕ). and_then (unit x) (λ v bytes. and_then (tid bytes) (λ x bytes. Got (make v x) bytes))) (append_assoc (unit_bytes u) (tid_bytes t) rest)
    ∙ onward (λ v bytes. and_then (tid bytes) (λ x bytes. Got (make v x) bytes)) (unit-back u (tid_bytes t ++ rest) h.0) ∙ onward (λ x bytes. Got (make u x) bytes) (tid-back t rest h.1)

pub two-back : {A : Type 0} (make : ℕ → ℕ → A) (a b : ℕ) (rest : List ℕ) → Is32 a → Is32 b
    → and_then (number 4 ((u32 a ++ u32 b) ++ rest)) (λ n bytes. and_then (number 4 bytes) (λ m bytes. Got (make n m) bytes)) ≡ Got (make a b) rest
two-back make a b rest h k = ap (λ (x : List ℕ). and_then (number 4 x) (λ n bytes. and_then (number 4 bytes) (λ m bytes. Got (make n m) bytes))) (append_assoc (u32 a) (u32 b) rest)
    ∙ onward (λ n bytes. and_then (number 4 bytes) (λ m bytes. Got (make n m) bytes)) (u32-back a (u32 b ++ rest) h) ∙ onward (λ m bytes. Got (make a m) bytes) (u32-back b rest k)

vote-back : (v : Vote) (rest : List ℕ) → VoteIn v → vote (vote_bytes v ++ rest) ≡ Got v rest
unfolding vote vote_of byte
vote-back votes.Ready rest h = refl
vote-back (votes.Waiting u t) rest h = held-back votes.Waiting u t rest h
vote-back (votes.Broken u t) rest h = held-back votes.Broken u t rest h
vote-back (votes.Lost a b) rest h = two-back votes.Lost a b rest h.0 h.1
vote-back (votes.Full r a b) rest h = onward (λ q bytes. and_then (number 4 bytes) (λ n bytes. and_then (number 4 bytes) (λ m bytes. Got (votes.Full q n m) bytes))) (resource-back r ((u32 a ++ u32 b) ++ rest)) ∙ two-back (votes.Full r) a b rest h.0 h.1

-- ---- frames

both-names : {A : Type 0} (make : Tid → WorkId → A) (t : Tid) (w : WorkId) → TidIn t → WorkIn w
    → and_then (tid (tid_bytes t ++ work_bytes w)) (λ x bytes. and_then (work bytes) (λ v bytes. Got (make x v) bytes)) ≡ Got (make t w) []
both-names make t w h k = onward (λ x bytes. and_then (work bytes) (λ v bytes. Got (make x v) bytes)) (tid-back t (work_bytes w) h) ∙ onward (λ v bytes. Got (make t v) bytes) (last work (work_bytes w) w (work-back w [] k))

abbrev pub told : Message → Reading Body
told m = Got (bodies.Message m) []

pub began : {A : Type 0} (next : ClientNo → RequestNo → List ℕ → Reading A) (c : ClientNo) (r : RequestNo) (rest : List ℕ) → ClientIn c → Is32 r.0
    → and_then (sender c (c.0 ∷ u32 r.0 ++ rest)) (λ d bytes. and_then (request bytes) (λ q bytes. next d q bytes)) ≡ next c r rest
began next c r rest h k = onward (λ d bytes. and_then (request bytes) (λ q bytes. next d q bytes)) (sender-back c (u32 r.0 ++ rest) h) ∙ onward (λ q bytes. next c q bytes) (request-back r rest k)

begin-back : (c : ClientNo) (r : RequestNo) → ClientIn c → Is32 r.0 → client_body c 1 (c.0 ∷ u32 r.0) ≡ told (messages.Begin c r)
unfolding client_body begin_by
begin-back c r h k = ap (λ (x : List ℕ). client_body c 1 (c.0 ∷ x)) (sym (append-nil (u32 r.0))) ∙ began (λ d q bytes. Got (bodies.Message (messages.Begin d q)) bytes) c r [] h k

open-back : (c : ClientNo) (r : RequestNo) (t : Tid) → ClientIn c → Is32 r.0 → TidIn t → client_body c 2 (c.0 ∷ u32 r.0 ++ tid_bytes t) ≡ told (messages.Open c r t)
unfolding client_body open_by
open-back c r t h k l = began (λ d q bytes. and_then (tid bytes) (λ x bytes. Got (bodies.Message (messages.Open d q x)) bytes)) c r (tid_bytes t) h k
    ∙ onward (λ x bytes. Got (bodies.Message (messages.Open c r x)) bytes) (last tid (tid_bytes t) t (tid-back t [] l))

operate-back : (c : ClientNo) (r : RequestNo) (w : WorkId) (n : OperationNo) (o : Op) → ClientIn c → Is32 r.0 → WorkIn w → Is32 n.0 → OpIn o
    → client_body c 3 (c.0 ∷ u32 r.0 ++ work_bytes w ++ u32 n.0 ++ op_bytes o) ≡ told (messages.Op c r w n o)
unfolding client_body op_by
operate-back c r w n o h k l m i = began (λ d q bytes. and_then (work bytes) (λ x bytes. and_then (operation bytes) (λ y bytes. and_then (op bytes) (λ z bytes. Got (bodies.Message (messages.Op d q x y z)) bytes)))) c r (work_bytes w ++ u32 n.0 ++ op_bytes o) h k
    ∙ onward (λ x bytes. and_then (operation bytes) (λ y bytes. and_then (op bytes) (λ z bytes. Got (bodies.Message (messages.Op c r x y z)) bytes))) (work-back w (u32 n.0 ++ op_bytes o) l)
    ∙ onward (λ y bytes. and_then (op bytes) (λ z bytes. Got (bodies.Message (messages.Op c r w y z)) bytes)) (operation-back n (op_bytes o) m)
    ∙ onward (λ z bytes. Got (bodies.Message (messages.Op c r w n z)) bytes) (last op (op_bytes o) o (op-back o [] i))

named : {A : Type 0} (make : ClientNo → RequestNo → Tid → List WorkId → A) (c : ClientNo) (r : RequestNo) (t : Tid) (ws : List WorkId) → ClientIn c → Is32 r.0 → TidIn t → WorksIn ws
    → and_then (sender c (c.0 ∷ u32 r.0 ++ tid_bytes t ++ length ws ∷ works_bytes ws)) (λ d bytes. and_then (request bytes) (λ q bytes. and_then (tid bytes) (λ x bytes. and_then (works bytes) (λ vs bytes. Got (make d q x vs) bytes)))) ≡ Got (make c r t ws) []
named make c r t ws h k l m = began (λ d q bytes. and_then (tid bytes) (λ x bytes. and_then (works bytes) (λ vs bytes. Got (make d q x vs) bytes))) c r (tid_bytes t ++ length ws ∷ works_bytes ws) h k
    ∙ onward (λ x bytes. and_then (works bytes) (λ vs bytes. Got (make c r x vs) bytes)) (tid-back t (length ws ∷ works_bytes ws) l)
    ∙ onward (λ vs bytes. Got (make c r t vs) bytes) (last works (length ws ∷ works_bytes ws) ws (works-back ws [] m))

thank-back : (c : ClientNo) (t : Tid) → ClientIn c → TidIn t → client_body c 6 (c.0 ∷ tid_bytes t) ≡ told (messages.Thanks c t)
unfolding client_body thanks_by
thank-back c t h l = onward (λ d bytes. and_then (tid bytes) (λ x bytes. Got (bodies.Message (messages.Thanks d x)) bytes)) (sender-back c (tid_bytes t) h)
    ∙ onward (λ x bytes. Got (bodies.Message (messages.Thanks c x)) bytes) (last tid (tid_bytes t) t (tid-back t [] l))

prepare-back : (t : Tid) (c : ClientNo) (w : WorkId) → TidIn t → ClientIn c → WorkIn w → server_body 11 (tid_bytes t ++ c.0 ∷ work_bytes w) ≡ told (messages.Prepare t c w)
unfolding server_body prepare_in
prepare-back t c w h k l = onward (λ x bytes. and_then (client bytes) (λ d bytes. and_then (work bytes) (λ v bytes. Got (bodies.Message (messages.Prepare x d v)) bytes))) (tid-back t (c.0 ∷ work_bytes w) h)
    ∙ onward (λ d bytes. and_then (work bytes) (λ v bytes. Got (bodies.Message (messages.Prepare t d v)) bytes)) (client-back c (work_bytes w) k)
    ∙ onward (λ v bytes. Got (bodies.Message (messages.Prepare t c v)) bytes) (last work (work_bytes w) w (work-back w [] l))

voted-back : (t : Tid) (w : WorkId) (v : Vote) → TidIn t → WorkIn w → VoteIn v → server_body 14 (tid_bytes t ++ work_bytes w ++ vote_bytes v) ≡ told (messages.Vote t w v)
unfolding server_body vote_in
voted-back t w v h k l = onward (λ x bytes. and_then (work bytes) (λ y bytes. and_then (vote bytes) (λ z bytes. Got (bodies.Message (messages.Vote x y z)) bytes))) (tid-back t (work_bytes w ++ vote_bytes v) h)
    ∙ onward (λ y bytes. and_then (vote bytes) (λ z bytes. Got (bodies.Message (messages.Vote t y z)) bytes)) (work-back w (vote_bytes v) k)
    ∙ onward (λ z bytes. Got (bodies.Message (messages.Vote t w z)) bytes) (last vote (vote_bytes v) v (vote-back v [] l))

timeout-back : (t : Tid) → TidIn t → any_body 18 (tid_bytes t) ≡ Got (bodies.Timeout t) []
unfolding any_body
timeout-back t h = onward (λ x bytes. Got (bodies.Timeout x) bytes) (last tid (tid_bytes t) t (tid-back t [] h))

-- ---- frames

abbrev IsBack : ServerNo → Party → Body → Type 0
IsBack s from body = decode s (party_bytes from ++ (party_bytes (Server s) ++ carried_bytes body)) ≡ Ok (record { from = from; to = Server s; body = body })

pub party-client : (c : ClientNo) → ClientIn c → party_of 1 c.0 ≡ Some (Client c)
party-client c h = if-true _ _ _ (client-fits c h)

pub party-server : (s : ServerNo) → ServerIn s → party_of 2 s.0 ≡ Some (Server s)
party-server s h = if-true _ _ _ (at-most s.0 7 h)

-- what is decided by the kind, then by the receiver, then by the sender
by-parties : (s : ServerNo) (a b kind : ℕ) (fields : List ℕ) (from : Party) (body : Body) → is_taken kind ≡ true → ServerIn s → party_of a b ≡ Some from → body_by (Some from) kind fields ≡ Got body []
    → decode s (a ∷ b ∷ 2 ∷ s.0 ∷ kind ∷ fields) ≡ Ok (record { from = from; to = Server s; body = body })
unfolding decode
by-parties s a b kind fields from body taken here sent e = if-false _ _ _ (ap not taken)
    ∙ if-false _ _ _ (ap (λ (x : Option Party). not (is_server s x)) (party-server s here) ∙ ap not (equal s.0))
    ∙ ap (λ (x : Option Party). framed_by s x (body_by x kind fields)) sent ∙ ap (closed from (Server s)) e

of-client : (s : ServerNo) (c : ClientNo) (kind : ℕ) (fields : List ℕ) (m : Message) → is_of_client kind ≡ true → is_taken kind ≡ true → ServerIn s → ClientIn c → client_body c kind fields ≡ told m
    → decode s (1 ∷ c.0 ∷ 2 ∷ s.0 ∷ kind ∷ fields) ≡ Ok (record { from = Client c; to = Server s; body = bodies.Message m })
of-client s c kind fields m by taken here it e = by-parties s 1 c.0 kind fields (Client c) (bodies.Message m) taken here (party-client c it) (if-true _ _ _ by ∙ e)

of-server : (s q : ServerNo) (kind : ℕ) (fields : List ℕ) (m : Message) → is_of_server kind ≡ true → is_taken kind ≡ true → ServerIn s → ServerIn q → server_body kind fields ≡ told m
    → decode s (2 ∷ q.0 ∷ 2 ∷ s.0 ∷ kind ∷ fields) ≡ Ok (record { from = Server q; to = Server s; body = bodies.Message m })
of-server s q kind fields m by taken here it e = by-parties s 2 q.0 kind fields (Server q) (bodies.Message m) taken here (party-server q it) (if-true _ _ _ by ∙ e)

-- from whoever is that client
as-client : (s : ServerNo) (from : Party) (c : ClientNo) (m : Message) → from ≡ Client c → IsBack s (Client c) (bodies.Message m) → IsBack s from (bodies.Message m)
as-client s from c m e back = subst (λ (x : Party). IsBack s x (bodies.Message m)) (sym e) back

message-back : (s : ServerNo) (from : Party) (m : Message) → ServerIn s → MessageIn from m → IsBack s from (bodies.Message m)
unfolding client_body server_body end_by abort_by names_in
message-back s from (messages.Begin c r) here h = as-client s from c (messages.Begin c r) h.0.0 (of-client s c 1 (c.0 ∷ u32 r.0) (messages.Begin c r) refl refl here h.0.1 (begin-back c r h.0.1 h.1))
message-back s from (messages.Open c r t) here h = as-client s from c (messages.Open c r t) h.0.0 (of-client s c 2 (c.0 ∷ u32 r.0 ++ tid_bytes t) (messages.Open c r t) refl refl here h.0.1 (open-back c r t h.0.1 h.1 h.2))
message-back s from (messages.Op c r w n o) here h = as-client s from c (messages.Op c r w n o) h.0.0 (of-client s c 3 (c.0 ∷ u32 r.0 ++ work_bytes w ++ u32 n.0 ++ op_bytes o) (messages.Op c r w n o) refl refl here h.0.1 (operate-back c r w n o h.0.1 h.1 h.2 h.3 h.4))
message-back s from (messages.End c r t ws) here h = as-client s from c (messages.End c r t ws) h.0.0 (of-client s c 4 (c.0 ∷ u32 r.0 ++ tid_bytes t ++ length ws ∷ works_bytes ws) (messages.End c r t ws) refl refl here h.0.1 (named (λ d q x vs. bodies.Message (messages.End d q x vs)) c r t ws h.0.1 h.1 h.2 h.3))
message-back s from (messages.Abort c r t ws) here h = as-client s from c (messages.Abort c r t ws) h.0.0 (of-client s c 5 (c.0 ∷ u32 r.0 ++ tid_bytes t ++ length ws ∷ works_bytes ws) (messages.Abort c r t ws) refl refl here h.0.1 (named (λ d q x vs. bodies.Message (messages.Abort d q x vs)) c r t ws h.0.1 h.1 h.2 h.3))
message-back s from (messages.Thanks c t) here h = as-client s from c (messages.Thanks c t) h.0.0 (of-client s c 6 (c.0 ∷ tid_bytes t) (messages.Thanks c t) refl refl here h.0.1 (thank-back c t h.0.1 h.1))
message-back s (Client d) (messages.Prepare t c w) here h = absurd h.0
message-back s (Client d) (messages.Commit t w) here h = absurd h.0
message-back s (Client d) (messages.Drop t w) here h = absurd h.0
message-back s (Client d) (messages.Vote t w v) here h = absurd h.0
message-back s (Client d) (messages.Done t w) here h = absurd h.0
message-back s (Client d) (messages.Inquire t w) here h = absurd h.0
message-back s (Server q) (messages.Prepare t c w) here h = of-server s q 11 (tid_bytes t ++ c.0 ∷ work_bytes w) (messages.Prepare t c w) refl refl here h.0 (prepare-back t c w h.1 h.2 h.3)
message-back s (Server q) (messages.Commit t w) here h = of-server s q 12 (tid_bytes t ++ work_bytes w) (messages.Commit t w) refl refl here h.0 (both-names (λ x v. bodies.Message (messages.Commit x v)) t w h.1 h.2)
message-back s (Server q) (messages.Drop t w) here h = of-server s q 13 (tid_bytes t ++ work_bytes w) (messages.Drop t w) refl refl here h.0 (both-names (λ x v. bodies.Message (messages.Drop x v)) t w h.1 h.2)
message-back s (Server q) (messages.Vote t w v) here h = of-server s q 14 (tid_bytes t ++ work_bytes w ++ vote_bytes v) (messages.Vote t w v) refl refl here h.0 (voted-back t w v h.1 h.2 h.3)
message-back s (Server q) (messages.Done t w) here h = of-server s q 15 (tid_bytes t ++ work_bytes w) (messages.Done t w) refl refl here h.0 (both-names (λ x v. bodies.Message (messages.Done x v)) t w h.1 h.2)
message-back s (Server q) (messages.Inquire t w) here h = of-server s q 16 (tid_bytes t ++ work_bytes w) (messages.Inquire t w) refl refl here h.0 (both-names (λ x v. bodies.Message (messages.Inquire x v)) t w h.1 h.2)
message-back s from (messages.Begun c r t) here h = absurd h
message-back s from (messages.Opened c r t w) here h = absurd h
message-back s from (messages.Answer c r a) here h = absurd h
message-back s from (messages.Outcome c t o) here h = absurd h

party-back : (s : ServerNo) (from : Party) (kind : ℕ) (fields : List ℕ) (body : Body) → is_taken kind ≡ true → is_of_client kind ≡ false → is_of_server kind ≡ false → ServerIn s → IsParty from → any_body kind fields ≡ Got body []
    → decode s (party_bytes from ++ (2 ∷ s.0 ∷ kind ∷ fields)) ≡ Ok (record { from = from; to = Server s; body = body })
party-back s (Client c) kind fields body taken one two here it e = by-parties s 1 c.0 kind fields (Client c) body taken here (party-client c it) (if-false _ _ _ one ∙ if-false _ _ _ two ∙ e)
party-back s (Server q) kind fields body taken one two here it e = by-parties s 2 q.0 kind fields (Server q) body taken here (party-server q it) (if-false _ _ _ two ∙ if-false _ _ _ one ∙ e)

told-back : (s : ServerNo) (from : Party) (body : Body) → ServerIn s → BodyIn from body → IsBack s from body
unfolding any_body
told-back s from (bodies.Message m) here h = message-back s from m here h
told-back s from bodies.Nudge here h = party-back s from 17 [] bodies.Nudge refl refl refl here h refl
told-back s from (bodies.Timeout t) here h = party-back s from 18 (tid_bytes t) (bodies.Timeout t) refl refl refl here h.0 (timeout-back t h.1)

pub frame-back : (s : ServerNo) (f : Framed) → IsSent s f → decode s (body_bytes f) ≡ Ok f
frame-back s f h = subst (λ (x : Party). decode s (party_bytes f.from ++ (party_bytes x ++ carried_bytes f.body)) ≡ Ok (record { from = f.from; to = x; body = f.body }))
    (sym h.to) (told-back s f.from f.body h.server h.body)
