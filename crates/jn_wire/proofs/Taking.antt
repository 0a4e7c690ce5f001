-- What is read can be taken: whatever the bytes are, each field that is found is in its range.
use Rattle.std.proofs.Common.{◌≡◌, ◌≤◌, ◌<◌, ℕ, zero, suc, Bool, true, false, ◌&&◌, List, [], ◌∷◌, ◌++◌, length, drop, refl, ap, subst, arith, length-append, Result, Ok, Err, Option, Some, if◌then◌else◌}
use Rattle.std.specs.Prelude.{None, not, nat_le, nat_eq, nat_lt, ⊤}
use Rattle.std.specs.List.{AllByRecursion}
use Rattle.std.proofs.lemmas.Bool.Decides.{nat_tests}
use Rattle.jn_base.specs.Limits.{most_blocks}
use Rattle.jn_base.specs.Ops.{BlockInRange}
use Rattle.jn_base.specs.declared.names.ServerNo.{ServerNo}
use Rattle.jn_base.specs.declared.names.ClientNo.{ClientNo}
use Rattle.jn_base.specs.declared.names.BlockNo.{BlockNo}
use Rattle.jn_base.specs.declared.names.Tid.{Tid}
use Rattle.jn_base.specs.declared.names.WorkId.{WorkId}
use Rattle.jn_base.specs.declared.names.Party.{Party}
use Rattle.jn_base.specs.declared.names.Party.TheVariants.{Client, Server}
use Rattle.jn_base.specs.declared.op.Op.{Op}
use Rattle.jn_base.specs.declared.op.Op.TheVariants as ops
use Rattle.jn_msgs.specs.declared.message.Message.{Message}
use Rattle.jn_msgs.specs.declared.message.Message.TheVariants as messages
use Rattle.jn_msgs.specs.Ranges.{is_near, are_near, are_both_near, is_few}
use Rattle.jn_wire.specs.declared.frame.Body.{Body}
use Rattle.jn_wire.specs.declared.frame.Body.TheVariants as bodies
use Rattle.jn_wire.specs.declared.frame.Framed.{Framed}
use Rattle.jn_wire.specs.declared.fault.WireFault.{WireFault}
use Rattle.jn_fields.specs.Names.{tid_at, work_at}
use Rattle.jn_wire.specs.Fields.{Reading, Got, Wrong, and_then, in_range, byte, number, content, client, sender, request, operation, tid, work, works, works_from, file, block}
use Rattle.jn_wire.specs.Decoding.{decode, op, op_of, vote, client_body, server_body, any_body, begin_by, open_by, op_by, end_by, abort_by, thanks_by, prepare_in, vote_in, names_in, party_of, is_server, body_by, closed, framed_by, is_taken, is_of_client, is_of_server}
use Rattle.jn_wire.specs.Unframing.{Held, Unframed, unframed, after_byte, met, is_whole, holds, waiting}
use Rattle.jn_wire.specs.Taking.{MayCome}

-- ---- what reading finds

-- this holds of what was read, if it was
data Finds {A : Type 0} (P : A → Type 0) : Reading A → Type 0 where
  Found : (a : A) (rest : List ℕ) → P a → Finds P (Got a rest)
  Fails : (n : ℕ) → Finds P (Wrong n)

-- a field, and then what is behind it
onwards : {A B : Type 0} {r : Reading A} (P : A → Type 0) (Q : B → Type 0) (next : A → List ℕ → Reading B) → Finds P r → ((a : A) (rest : List ℕ) → P a → Finds Q (next a rest)) → Finds Q (and_then r next)
onwards P Q next (Found a rest p) k = k a rest p
onwards P Q next (Fails n) k = Fails n

abbrev Any : {A : Type 0} → A → Type 0
Any a = ⊤

whatever : {A : Type 0} (r : Reading A) → Finds Any r
whatever (Got a rest) = Found a rest tt
whatever (Wrong n) = Fails n

either : {A : Type 0} (P : A → Type 0) (b : Bool) (x y : Reading A) → (b ≡ true → Finds P x) → (b ≡ false → Finds P y) → Finds P (if b then x else y)
either P true x y t f = t refl
either P false x y t f = f refl

weaker : {A : Type 0} {r : Reading A} (P Q : A → Type 0) → Finds P r → ((a : A) → P a → Q a) → Finds Q r
weaker P Q (Found a rest p) k = Found a rest (k a p)
weaker P Q (Fails n) k = Fails n

is-found : {A : Type 0} {P : A → Type 0} {a : A} {rest : List ℕ} → Finds P (Got a rest) → P a
is-found (Found a rest p) = p

-- ---- names

both : (a b : Bool) → a ≡ true → b ≡ true → (a && b) ≡ true
both a b h k = grind (arith, h, k)

below-8 : (s : ℕ) → nat_le s 7 ≡ true → nat_lt s 8 ≡ true
below-8 s h = grind (arith, h, nat_tests)

are-few : (n : ℕ) (ws : List WorkId) → nat_le n 8 ≡ true → length ws ≡ n → are_near 8 ws ≡ true → is_few 8 ws ≡ true
are-few n ws h e k = grind (arith, h, e, k, nat_tests)

few-length : (ws : List WorkId) → is_few 8 ws ≡ true → length ws ≤ 8
few-length ws h = grind (arith, h, nat_tests)

abbrev IsNear : Tid → Type 0
IsNear t = is_near 8 t.server ≡ true

abbrev IsWorkNear : WorkId → Type 0
IsWorkNear w = is_near 8 w.server ≡ true

abbrev AreFew : List WorkId → Type 0
AreFew ws = is_few 8 ws ≡ true

-- what is in its range passes the test
in-range : {A : Type 0} (test : A → Bool) (o : Option (A × List ℕ)) → Finds (λ a. test a ≡ true) (in_range test o)
in-range test None = Fails _
in-range test (Some x) = either (λ a. test a ≡ true) (test x.0) _ _ (λ fits. Found x.0 x.1 fits) (λ no. Fails _)

tid-near : (bytes : List ℕ) → Finds IsNear (tid bytes)
unfolding tid
tid-near bytes = weaker (λ (t : Tid). nat_le t.server.0 7 ≡ true) IsNear (in-range (λ (t : Tid). nat_le t.server.0 7) (tid_at bytes)) (λ t fits. below-8 t.server.0 fits)

work-near : (bytes : List ℕ) → Finds IsWorkNear (work bytes)
unfolding work
work-near bytes = weaker (λ (w : WorkId). nat_le w.server.0 7 ≡ true) IsWorkNear (in-range (λ (w : WorkId). nat_le w.server.0 7) (work_at bytes)) (λ w fits. below-8 w.server.0 fits)

abbrev AreWorks : ℕ → List WorkId → Type 0
AreWorks n ws = (length ws ≡ n) × (are_near 8 ws ≡ true)

works_from-near : (n : ℕ) (bytes : List ℕ) → Finds (AreWorks n) (works_from n bytes)
unfolding works_from
works_from-near zero bytes = Found [] bytes (refl, refl)
works_from-near (suc n) bytes = onwards IsWorkNear (AreWorks (suc n)) _ (work-near bytes) (λ w r1 p1.
    onwards (AreWorks n) (AreWorks (suc n)) _ (works_from-near n r1) (λ ws r2 p2. Found (w ∷ ws) r2 (ap suc p2.0, both (is_near 8 w.server) (are_near 8 ws) p1 p2.1)))

works-few : (bytes : List ℕ) → Finds AreFew (works bytes)
unfolding works
works-few bytes = onwards Any AreFew _ (whatever (byte bytes)) (λ n r p.
    either AreFew (nat_le n 8) _ _ (λ fits. weaker (AreWorks n) AreFew (works_from-near n r) (λ ws q. are-few n ws fits q.0 q.1)) (λ no. Fails _))

-- ---- operations

abbrev IsBlock : BlockNo → Type 0
IsBlock p = p.0 < most_blocks

is-below : (n m : ℕ) → nat_lt n m ≡ true → n < m
is-below n m e = grind (arith, e, nat_tests)

block-below : (bytes : List ℕ) → Finds IsBlock (block bytes)
unfolding block
block-below bytes = onwards Any IsBlock _ (whatever (number 2 bytes)) (λ n r p. either IsBlock (nat_lt n most_blocks) _ _ (λ fits. Found _ r (is-below n most_blocks fits)) (λ no. Fails _))

op_of-below : (code : ℕ) (bytes : List ℕ) → Finds BlockInRange (op_of code bytes)
unfolding op_of
op_of-below code bytes = either BlockInRange (nat_eq code 1) _ _ (λ is. onwards Any BlockInRange _ (whatever (file bytes)) (λ f r p. Found (ops.Create f) r (omega arith)))
    (λ no. either BlockInRange (nat_eq code 2) _ _ (λ is. onwards Any BlockInRange _ (whatever (file bytes)) (λ f r p. Found (ops.Remove f) r (omega arith)))
    (λ no. either BlockInRange (nat_eq code 3) _ _ (λ is. onwards Any BlockInRange _ (whatever (file bytes)) (λ f r1 p1. onwards IsBlock BlockInRange _ (block-below r1) (λ n r2 p2. Found (ops.Cut f n) r2 p2)))
    (λ no. either BlockInRange (nat_eq code 4) _ _ (λ is. onwards Any BlockInRange _ (whatever (file bytes)) (λ f r1 p1. onwards IsBlock BlockInRange _ (block-below r1) (λ n r2 p2. Found (ops.Read f n) r2 p2)))
    (λ no. either BlockInRange (nat_eq code 5) _ _ (λ is. onwards Any BlockInRange _ (whatever (file bytes)) (λ f r1 p1. onwards IsBlock BlockInRange _ (block-below r1) (λ n r2 p2.
    onwards Any BlockInRange _ (whatever (content r2)) (λ b r3 p3. Found (ops.Write f n b) r3 p2))))
    (λ no. Fails _)))))

op-below : (bytes : List ℕ) → Finds BlockInRange (op bytes)
unfolding op
op-below bytes = onwards Any BlockInRange _ (whatever (byte bytes)) (λ code r p. op_of-below code r)

-- ---- messages

begins-may : (bytes : List ℕ) (c : ClientNo) → Finds MayCome (begin_by c bytes)
unfolding begin_by
begins-may bytes c = onwards Any MayCome _ (whatever (sender c bytes)) (λ d r1 p1. onwards Any MayCome _ (whatever (request r1)) (λ q r2 p2.
    Found (bodies.Message (messages.Begin d q)) r2 (record { in_range = tt; few = tt }, refl)))

opens-may : (bytes : List ℕ) (c : ClientNo) → Finds MayCome (open_by c bytes)
unfolding open_by
opens-may bytes c = onwards Any MayCome _ (whatever (sender c bytes)) (λ d r1 p1. onwards Any MayCome _ (whatever (request r1)) (λ q r2 p2. onwards IsNear MayCome _ (tid-near r2) (λ t r3 p3.
    Found (bodies.Message (messages.Open d q t)) r3 (record { in_range = tt; few = tt }, p3))))

operates-may : (bytes : List ℕ) (c : ClientNo) → Finds MayCome (op_by c bytes)
unfolding op_by
operates-may bytes c = onwards Any MayCome _ (whatever (sender c bytes)) (λ d r1 p1. onwards Any MayCome _ (whatever (request r1)) (λ q r2 p2. onwards IsWorkNear MayCome _ (work-near r2) (λ w r3 p3.
    onwards Any MayCome _ (whatever (operation r3)) (λ n r4 p4. onwards BlockInRange MayCome _ (op-below r4) (λ o r5 p5.
    Found (bodies.Message (messages.Op d q w n o)) r5 (record { in_range = p5; few = tt }, p3))))))

ends-may : (bytes : List ℕ) (c : ClientNo) → Finds MayCome (end_by c bytes)
unfolding end_by
ends-may bytes c = onwards Any MayCome _ (whatever (sender c bytes)) (λ d r1 p1. onwards Any MayCome _ (whatever (request r1)) (λ q r2 p2. onwards IsNear MayCome _ (tid-near r2) (λ t r3 p3.
    onwards AreFew MayCome _ (works-few r3) (λ ws r4 p4.
    Found (bodies.Message (messages.End d q t ws)) r4 (record { in_range = tt; few = few-length ws p4 }, both (is_near 8 t.server) (is_few 8 ws) p3 p4)))))

aborts-may : (bytes : List ℕ) (c : ClientNo) → Finds MayCome (abort_by c bytes)
unfolding abort_by
aborts-may bytes c = onwards Any MayCome _ (whatever (sender c bytes)) (λ d r1 p1. onwards Any MayCome _ (whatever (request r1)) (λ q r2 p2. onwards IsNear MayCome _ (tid-near r2) (λ t r3 p3.
    onwards AreFew MayCome _ (works-few r3) (λ ws r4 p4.
    Found (bodies.Message (messages.Abort d q t ws)) r4 (record { in_range = tt; few = tt }, both (is_near 8 t.server) (is_few 8 ws) p3 p4)))))

thanks-may : (bytes : List ℕ) (c : ClientNo) → Finds MayCome (thanks_by c bytes)
unfolding thanks_by
thanks-may bytes c = onwards Any MayCome _ (whatever (sender c bytes)) (λ d r1 p1. onwards IsNear MayCome _ (tid-near r1) (λ t r2 p2.
    Found (bodies.Message (messages.Thanks d t)) r2 (record { in_range = tt; few = tt }, p2)))

prepares-may : (bytes : List ℕ) → Finds MayCome (prepare_in bytes)
unfolding prepare_in
prepares-may bytes = onwards IsNear MayCome _ (tid-near bytes) (λ t r1 p1. onwards Any MayCome _ (whatever (client r1)) (λ c r2 p2. onwards IsWorkNear MayCome _ (work-near r2) (λ w r3 p3.
    Found (bodies.Message (messages.Prepare t c w)) r3 (record { in_range = tt; few = tt }, both (is_near 8 t.server) (is_near 8 w.server) p1 p3))))

votes-may : (bytes : List ℕ) → Finds MayCome (vote_in bytes)
unfolding vote_in
votes-may bytes = onwards IsNear MayCome _ (tid-near bytes) (λ t r1 p1. onwards IsWorkNear MayCome _ (work-near r1) (λ w r2 p2. onwards Any MayCome _ (whatever (vote r2)) (λ v r3 p3.
    Found (bodies.Message (messages.Vote t w v)) r3 (record { in_range = tt; few = tt }, both (is_near 8 t.server) (is_near 8 w.server) p1 p2))))

-- a transaction and its work
abbrev AreTaken : (Tid → WorkId → Message) → Type 0
AreTaken make = (t : Tid) (w : WorkId) → are_both_near 8 t w ≡ true → MayCome (bodies.Message (make t w))

names-may : (make : Tid → WorkId → Message) (bytes : List ℕ) → AreTaken make → Finds MayCome (names_in make bytes)
unfolding names_in
names-may make bytes may = onwards IsNear MayCome _ (tid-near bytes) (λ t r1 p1. onwards IsWorkNear MayCome _ (work-near r1) (λ w r2 p2.
    Found (bodies.Message (make t w)) r2 (may t w (both (is_near 8 t.server) (is_near 8 w.server) p1 p2))))

client_body-may : (c : ClientNo) (kind : ℕ) (bytes : List ℕ) → Finds MayCome (client_body c kind bytes)
unfolding client_body
client_body-may c kind bytes = either MayCome (nat_eq kind 1) _ _ (λ is. begins-may bytes c)
    (λ no. either MayCome (nat_eq kind 2) _ _ (λ is. opens-may bytes c)
    (λ no. either MayCome (nat_eq kind 3) _ _ (λ is. operates-may bytes c)
    (λ no. either MayCome (nat_eq kind 4) _ _ (λ is. ends-may bytes c)
    (λ no. either MayCome (nat_eq kind 5) _ _ (λ is. aborts-may bytes c)
    (λ no. either MayCome (nat_eq kind 6) _ _ (λ is. thanks-may bytes c)
    (λ no. Fails _))))))

server_body-may : (kind : ℕ) (bytes : List ℕ) → Finds MayCome (server_body kind bytes)
unfolding server_body
server_body-may kind bytes = either MayCome (nat_eq kind 11) _ _ (λ is. prepares-may bytes)
    (λ no. either MayCome (nat_eq kind 12) _ _ (λ is. names-may messages.Commit bytes (λ t w near. (record { in_range = tt; few = tt }, near)))
    (λ no. either MayCome (nat_eq kind 13) _ _ (λ is. names-may messages.Drop bytes (λ t w near. (record { in_range = tt; few = tt }, near)))
    (λ no. either MayCome (nat_eq kind 14) _ _ (λ is. votes-may bytes)
    (λ no. either MayCome (nat_eq kind 15) _ _ (λ is. names-may messages.Done bytes (λ t w near. (record { in_range = tt; few = tt }, near)))
    (λ no. either MayCome (nat_eq kind 16) _ _ (λ is. names-may messages.Inquire bytes (λ t w near. (record { in_range = tt; few = tt }, near)))
    (λ no. Fails _))))))

any_body-may : (kind : ℕ) (bytes : List ℕ) → Finds MayCome (any_body kind bytes)
unfolding any_body
any_body-may kind bytes = either MayCome (nat_eq kind 17) _ _ (λ is. Found bodies.Nudge bytes tt)
    (λ no. either MayCome (nat_eq kind 18) _ _ (λ is. onwards Any MayCome _ (whatever (tid bytes)) (λ t r p. Found (bodies.Timeout t) r tt))
    (λ no. Fails _))

body-may : (from : Option Party) (kind : ℕ) (bytes : List ℕ) → Finds MayCome (body_by from kind bytes)
body-may None kind bytes = Fails _
body-may (Some (Client c)) kind bytes = either MayCome (is_of_client kind) _ _ (λ is. client_body-may c kind bytes) (λ no. either MayCome (is_of_server kind) _ _ (λ is. Fails _) (λ neither. any_body-may kind bytes))
body-may (Some (Server s)) kind bytes = either MayCome (is_of_server kind) _ _ (λ is. server_body-may kind bytes) (λ no. either MayCome (is_of_client kind) _ _ (λ is. Fails _) (λ neither. any_body-may kind bytes))

-- ---- frames

closed-may : (from to : Party) (r : Reading Body) (f : Framed) → Finds MayCome r → closed from to r ≡ Ok f → MayCome f.body
closed-may from to (Got body []) f may e =
    let is : record { from = from; to = to; body = body } ≡ f = cc in
    subst (λ (g : Framed). MayCome g.body) is (is-found may)
closed-may from to (Got body (b ∷ rest)) f may e = absurd (cc e)
closed-may from to (Wrong n) f may e = absurd (cc e)

framed-may : (s : ServerNo) (from : Option Party) (r : Reading Body) (f : Framed) → Finds MayCome r → framed_by s from r ≡ Ok f → MayCome f.body
framed-may s None r f may e = absurd (cc e)
framed-may s (Some from) r f may e = closed-may from (Server s) r f may e

-- behind a test that refuses nothing here
behind : {A : Type 0} (b : Bool) (n : ℕ) (x : Result A ℕ) (a : A) → (if b then Err n else x) ≡ Ok a → x ≡ Ok a
behind true n x a e = absurd (cc e)
behind false n x a e = e

pub decoded-may : (s : ServerNo) (bytes : List ℕ) (f : Framed) → decode s bytes ≡ Ok f → MayCome f.body
unfolding decode
decoded-may s [] f e = absurd (cc e)
decoded-may s (a ∷ []) f e = absurd (cc e)
decoded-may s (a ∷ b ∷ []) f e = absurd (cc e)
decoded-may s (a ∷ b ∷ c ∷ []) f e = absurd (cc e)
decoded-may s (a ∷ b ∷ c ∷ d ∷ []) f e = absurd (cc e)
decoded-may s (a ∷ b ∷ c ∷ d ∷ kind ∷ fields) f e = framed-may s (party_of a b) (body_by (party_of a b) kind fields) f (body-may (party_of a b) kind fields)
    (behind (not (is_server s (party_of c d))) _ _ f (behind (not (is_taken kind)) _ _ f e))

-- ---- streams

abbrev AllMayCome : List Framed → Type 0
AllMayCome fs = AllByRecursion (λ (f : Framed). MayCome f.body) fs

all-both : (fs gs : List Framed) → AllMayCome fs → AllMayCome gs → AllMayCome (fs ++ gs)
all-both [] gs h k = k
all-both (f ∷ fs) gs h k = (h.0, all-both fs gs h.1 k)

-- one frame at most, which may come
record IsBrought (u : Unframed) : Type 0 where
  may : AllMayCome u.frames
  few : length u.frames ≤ 1

met-brings : (s : ServerNo) (at : ℕ) (bytes : List ℕ) (d : Result Framed ℕ) → decode s (drop 2 bytes) ≡ d → IsBrought (met at bytes d)
met-brings s at bytes (Ok f) e = record { may = (decoded-may s (drop 2 bytes) f e, tt); few = omega arith }
met-brings s at bytes (Err n) e = record { may = tt; few = omega arith }

byte-brings : (s : ServerNo) (h : Held) (o : Option WireFault) (b : ℕ) → IsBrought (after_byte (decode s) h o b)
byte-brings s h (Some fault) b = record { may = tt; few = omega arith }
byte-brings s h None b = by (is_whole (h.bytes ++ b ∷ []))
  where
    by : (c : Bool) → IsBrought (if c then met h.at (h.bytes ++ b ∷ []) (decode s (drop 2 (h.bytes ++ b ∷ []))) else holds (waiting h.at (h.bytes ++ b ∷ [])))
    by true = met-brings s h.at (h.bytes ++ b ∷ []) (decode s (drop 2 (h.bytes ++ b ∷ []))) refl
    by false = record { may = tt; few = omega arith }

pub given-may : (s : ServerNo) (h : Held) (bytes : List ℕ) → AllMayCome (unframed s h bytes).frames
given-may s h [] = tt
given-may s h (b ∷ bytes) = let u = after_byte (decode s) h h.fault b in let brings = byte-brings s h h.fault b in all-both u.frames (unframed s u.held bytes).frames brings.may (given-may s u.held bytes)

pub given-few : (s : ServerNo) (h : Held) (bytes : List ℕ) → length (unframed s h bytes).frames ≤ length bytes
given-few s h [] = omega arith
given-few s h (b ∷ bytes) = let u = after_byte (decode s) h h.fault b in let brings = byte-brings s h h.fault b in let one = brings.few in let rest = given-few s u.held bytes in
    let all = length-append u.frames (unframed s u.held bytes).frames in omega (arith, one, rest, all)
