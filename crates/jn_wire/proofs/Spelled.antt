-- Bytes that are decoded are those of the frame that they give: no others say the same.
use Rattle.std.proofs.Common.{◌≡◌, ◌≤◌, ◌<◌, ◌^◌, ℕ, zero, suc, Bool, true, false, ◌&&◌, List, [], ◌∷◌, ◌++◌, length, take, drop, refl, sym, ◌∙◌, ap, subst, arith, append_assoc, append-nil, Result, Ok, Err, Option, Some, if◌then◌else◌}
use Rattle.std.specs.Prelude.{None, not, nat_le, nat_eq, nat_lt, ⊤}
use Rattle.std.specs.List.{AllByRecursion}
use Rattle.std.proofs.lemmas.Bool.{false≢true}
use Rattle.std.proofs.lemmas.Bool.Decides.{nat_tests}
use Rattle.std.proofs.lemmas.List.{take-append-drop, length-take-le}
use Rattle.byteorder.specs.Endian.{big_number, big_bytes}
use Rattle.jn_base.specs.Limits.{most_blocks}
use Rattle.jn_base.specs.Names.{refusal_number}
use Rattle.jn_base.specs.declared.names.ServerNo.{ServerNo}
use Rattle.jn_base.specs.declared.names.ClientNo.{ClientNo}
use Rattle.jn_base.specs.declared.names.FileNo.{FileNo}
use Rattle.jn_base.specs.declared.names.BlockNo.{BlockNo}
use Rattle.jn_base.specs.declared.names.Tid.{Tid}
use Rattle.jn_base.specs.declared.names.WorkId.{WorkId}
use Rattle.jn_base.specs.declared.names.RequestNo.{RequestNo}
use Rattle.jn_base.specs.declared.names.OperationNo.{OperationNo}
use Rattle.jn_base.specs.declared.names.LockUnit.{LockUnit}
use Rattle.jn_base.specs.declared.names.LockUnit.TheVariants as units
use Rattle.jn_base.specs.declared.names.Resource.{Resource}
use Rattle.jn_base.specs.declared.names.Resource.TheVariants as resources
use Rattle.jn_base.specs.declared.names.Party.{Party}
use Rattle.jn_base.specs.declared.names.Party.TheVariants.{Client, Server}
use Rattle.jn_base.specs.declared.op.Op.TheVariants as ops
use Rattle.jn_fields.specs.Names.{tid_bytes, work_bytes, unit_bytes, unit_in_range}
unfoldable use Rattle.jn_fields.specs.Names.{tid_at, work_at, unit_at}
use Rattle.jn_fields.specs.Reading.{◌>>=◌}
unfoldable use Rattle.jn_fields.specs.Reading.{number_at, bytes_at}
use Rattle.jn_msgs.specs.declared.message.Message.{Message}
use Rattle.jn_msgs.specs.declared.message.Message.TheVariants as messages
use Rattle.jn_msgs.specs.declared.message.Vote.{Vote}
use Rattle.jn_msgs.specs.declared.message.Vote.TheVariants as votes
use Rattle.jn_wire.specs.declared.frame.Body.{Body}
use Rattle.jn_wire.specs.declared.frame.Body.TheVariants as bodies
use Rattle.jn_wire.specs.declared.frame.Framed.{Framed}
use Rattle.jn_wire.specs.Fields.{Reading, Got, Wrong, and_then, in_range, byte, number, content, client, sender, request, operation, tid, work, works, works_from, file, block, unit, resource, wrong_length, wrong_party, wrong_kind}
use Rattle.jn_wire.specs.Spelling.{u32, works_bytes, held_bytes, op_bytes, vote_bytes, carried_bytes, body_bytes, party_bytes, AreBytes, Is32, ClientIn, ServerIn, TidIn, WorkIn, WorksIn, UnitIn, HeldIn, OpIn, VoteIn, IsBy, IsParty, BodyIn, IsSent}
use Rattle.jn_wire.specs.Decoding.{decode, op, op_of, vote, vote_of, client_body, server_body, any_body, begin_by, open_by, op_by, end_by, abort_by, thanks_by, prepare_in, vote_in, names_in, party_of, is_server, body_by, closed, framed_by, is_taken, is_of_client, is_of_server}
use Rattle.jn_wire.proofs.Numbers.{back-bytes, number-below, number-again}

abbrev pub u8 : ℕ → List ℕ
u8 n = n ∷ []

-- ---- what reading took

-- what was read, and the bytes that it was read from
data Took {A : Type 0} (P : A → List ℕ → Type 0) (bytes : List ℕ) : Reading A → Type 0 where
  Takes : (a : A) (taken rest : List ℕ) → bytes ≡ taken ++ rest → AreBytes rest → P a taken → Took P bytes (Got a rest)
  Fails : (n : ℕ) → Took P bytes (Wrong n)

-- it is spelled so, and within its range
pub record Says {A : Type 0} (spelled : A → List ℕ) (In : A → Type 0) (a : A) (taken : List ℕ) : Type 0 where
  pub same : taken ≡ spelled a
  pub within : In a

moved : {B : Type 0} {x : Reading B} (Q : B → List ℕ → Type 0) (bytes taken rest : List ℕ) → bytes ≡ taken ++ rest → Took (λ b more. Q b (taken ++ more)) rest x → Took Q bytes x
moved Q bytes taken rest e (Takes b more last f d q) = Takes b (taken ++ more) last (e ∙ ap (λ (xs : List ℕ). taken ++ xs) f ∙ sym (append_assoc taken more last)) d q
moved Q bytes taken rest e (Fails n) = Fails n

-- a field, and then what is behind it
onwards : {A B : Type 0} {r : Reading A} (P : A → List ℕ → Type 0) (Q : B → List ℕ → Type 0) (bytes : List ℕ) (next : A → List ℕ → Reading B) → Took P bytes r
    → ((a : A) (taken rest : List ℕ) → AreBytes rest → P a taken → Took (λ b more. Q b (taken ++ more)) rest (next a rest)) → Took Q bytes (and_then r next)
onwards P Q bytes next (Takes a taken rest e d p) k = moved Q bytes taken rest e (k a taken rest d p)
onwards P Q bytes next (Fails n) k = Fails n

done : {A : Type 0} (P : A → List ℕ → Type 0) (a : A) (bytes : List ℕ) → AreBytes bytes → P a [] → Took P bytes (Got a bytes)
done P a bytes b p = Takes a [] bytes refl b p

either : {A : Type 0} (P : A → List ℕ → Type 0) (bytes : List ℕ) (b : Bool) (x y : Reading A) → (b ≡ true → Took P bytes x) → (b ≡ false → Took P bytes y) → Took P bytes (if b then x else y)
either P bytes true x y t f = t refl
either P bytes false x y t f = f refl

weaker : {A : Type 0} {r : Reading A} (P Q : A → List ℕ → Type 0) (bytes : List ℕ) → Took P bytes r → ((a : A) (taken : List ℕ) → P a taken → Q a taken) → Took Q bytes r
weaker P Q bytes (Takes a taken rest e d p) k = Takes a taken rest e d (k a taken p)
weaker P Q bytes (Fails n) k = Fails n

took : {A : Type 0} {P : A → List ℕ → Type 0} {bytes : List ℕ} {a : A} {rest : List ℕ} → Took P bytes (Got a rest) → (taken : List ℕ) × (bytes ≡ taken ++ rest) × P a taken
took (Takes a taken rest e d p) = (taken, e, p)

-- a number or bytes, where there are so many
enough : {A : Type 0} (P : A → List ℕ → Type 0) (bytes : List ℕ) (short : Bool) (x : A × List ℕ) → (short ≡ false → Took P bytes (Got x.0 x.1)) → Took P bytes (in_range (λ a. true) (if short then None else Some x))
enough P bytes true x k = Fails wrong_length
enough P bytes false x k = k refl

-- a part of a field, and then what is behind it; its range is tested at its end
parts : {A B : Type 0} (read : Option (A × List ℕ)) (P : A → List ℕ → Type 0) (Q : B → List ℕ → Type 0) (bytes : List ℕ) (test : B → Bool) (next : A × List ℕ → Option (B × List ℕ)) → Took P bytes (in_range (λ a. true) read)
    → ((a : A) (taken rest : List ℕ) → AreBytes rest → P a taken → Took (λ b more. Q b (taken ++ more)) rest (in_range test (next (a, rest)))) → Took Q bytes (in_range test (read >>= next))
parts (Some x) P Q bytes test next took k = onwards P Q bytes (λ a rest. in_range test (next (a, rest))) took k
parts None P Q bytes test next took k = Fails wrong_length

-- ---- lists of bytes

both : {a x b y : List ℕ} → a ≡ x → b ≡ y → a ++ b ≡ x ++ y
both {a} {x} {b} {y} e f = ap (λ (l : List ℕ). l ++ b) e ∙ ap (λ (l : List ℕ). x ++ l) f

onto : {b y : List ℕ} (a : List ℕ) → b ≡ y → a ++ b ≡ a ++ y
onto a f = ap (λ (l : List ℕ). a ++ l) f

ends : {a x : List ℕ} → a ≡ x → a ++ [] ≡ x
ends {a} {x} e = append-nil a ∙ e

behind : {a b : List ℕ} (n m : ℕ) → n ≡ m → a ≡ b → n ∷ a ≡ m ∷ b
behind {a} {b} n m e f = ap (λ (k : ℕ). k ∷ a) e ∙ ap (λ (l : List ℕ). m ∷ l) f

-- ---- tests

is-number : (n m : ℕ) → nat_eq n m ≡ true → n ≡ m
is-number n m e = grind (arith, e, nat_tests)

is-below : (n m : ℕ) → nat_lt n m ≡ true → n < m
is-below n m e = grind (arith, e, nat_tests)

is-within : (n m : ℕ) → nat_le n m ≡ true → n ≤ m
is-within n m e = grind (arith, e, nat_tests)

not-below : (n m : ℕ) → nat_lt n m ≡ false → m ≤ n
not-below n m e = grind (arith, e, nat_tests)

both-within : (n : ℕ) → (nat_le 1 n && nat_le n 8) ≡ true → (1 ≤ n) × (n ≤ 8)
both-within n e = (grind (arith, e, nat_tests), grind (arith, e, nat_tests))

-- ---- fields

byte-took : (bytes : List ℕ) → AreBytes bytes → Took (Says u8 (λ b. b < 256)) bytes (byte bytes)
unfolding byte
byte-took [] h = Fails wrong_length
byte-took (b ∷ bytes) h = Takes b (b ∷ []) bytes refl h.1 (record { same = refl; within = h.0 })

number-took : (n : ℕ) (bytes : List ℕ) → AreBytes bytes → Took (Says (big_bytes n) (λ x. x < 256 ^ n)) bytes (number n bytes)
unfolding number number_at
number-took n bytes h = enough (Says (big_bytes n) (λ x. x < 256 ^ n)) bytes (nat_lt (length bytes) n) (big_number n bytes, drop n bytes) (λ long.
    Takes (big_number n bytes) (take n bytes) (drop n bytes) (sym (take-append-drop n bytes)) (back-bytes (take n bytes) (drop n bytes) (subst AreBytes (sym (take-append-drop n bytes)) h))
    (record { same = number-again n bytes (not-below (length bytes) n long) h; within = number-below n bytes h }))

u32-took : (bytes : List ℕ) → AreBytes bytes → Took (Says u32 Is32) bytes (number 4 bytes)
u32-took bytes h = weaker (Says (big_bytes 4) (λ x. x < 256 ^ 4)) (Says u32 Is32) bytes (number-took 4 bytes h) (λ x taken p. record { same = p.same; within = let w = p.within in omega (arith, w) })

content-took : (bytes : List ℕ) → AreBytes bytes → Took (Says (λ b. b) (λ b. length b ≡ 448)) bytes (content bytes)
unfolding content bytes_at
content-took bytes h = enough (Says (λ b. b) (λ b. length b ≡ 448)) bytes (nat_lt (length bytes) 448) (take 448 bytes, drop 448 bytes) (λ long.
    Takes (take 448 bytes) (take 448 bytes) (drop 448 bytes) (sym (take-append-drop 448 bytes)) (back-bytes (take 448 bytes) (drop 448 bytes) (subst AreBytes (sym (take-append-drop 448 bytes)) h))
    (record { same = refl; within = length-take-le 448 bytes (not-below (length bytes) 448 long) }))

client-took : (bytes : List ℕ) → AreBytes bytes → Took (Says (λ c. u8 c.0) ClientIn) bytes (client bytes)
unfolding client
client-took bytes h = onwards (Says u8 (λ b. b < 256)) (Says (λ (c : ClientNo). u8 c.0) ClientIn) bytes _ (byte-took bytes h) (λ n t r b p.
    either _ r (nat_le 1 n && nat_le n 8) _ _ (λ fits. done _ _ r b (record { same = ends p.same; within = both-within n fits })) (λ no. Fails _))

abbrev IsSender : ClientNo → ClientNo → Type 0
IsSender c d = (d.0 ≡ c.0) × ClientIn d

sender-took : (c : ClientNo) (bytes : List ℕ) → AreBytes bytes → Took (Says (λ d. u8 d.0) (IsSender c)) bytes (sender c bytes)
unfolding sender
sender-took c bytes h = onwards (Says (λ (d : ClientNo). u8 d.0) ClientIn) (Says (λ (d : ClientNo). u8 d.0) (IsSender c)) bytes _ (client-took bytes h) (λ d t r b p.
    either _ r (nat_eq d.0 c.0) _ _ (λ is. done _ d r b (record { same = ends p.same; within = (is-number d.0 c.0 is, p.within) })) (λ no. Fails _))

request-took : (bytes : List ℕ) → AreBytes bytes → Took (Says (λ n. u32 n.0) (λ n. Is32 n.0)) bytes (request bytes)
unfolding request
request-took bytes h = onwards (Says u32 Is32) (Says (λ (n : RequestNo). u32 n.0) (λ n. Is32 n.0)) bytes _ (u32-took bytes h) (λ n t r b p. done _ _ r b (record { same = ends p.same; within = p.within }))

operation-took : (bytes : List ℕ) → AreBytes bytes → Took (Says (λ n. u32 n.0) (λ n. Is32 n.0)) bytes (operation bytes)
unfolding operation
operation-took bytes h = onwards (Says u32 Is32) (Says (λ (n : OperationNo). u32 n.0) (λ n. Is32 n.0)) bytes _ (u32-took bytes h) (λ n t r b p. done _ _ r b (record { same = ends p.same; within = p.within }))

file-took : (bytes : List ℕ) → AreBytes bytes → Took (Says (λ n. u32 n.0) (λ n. Is32 n.0)) bytes (file bytes)
unfolding file
file-took bytes h = onwards (Says u32 Is32) (Says (λ (n : FileNo). u32 n.0) (λ n. Is32 n.0)) bytes _ (u32-took bytes h) (λ n t r b p. done _ _ r b (record { same = ends p.same; within = p.within }))

block-took : (bytes : List ℕ) → AreBytes bytes → Took (Says (λ p. big_bytes 2 p.0) (λ p. p.0 < most_blocks)) bytes (block bytes)
unfolding block
block-took bytes h = onwards (Says (big_bytes 2) (λ x. x < 256 ^ 2)) (Says (λ (p : BlockNo). big_bytes 2 p.0) (λ p. p.0 < most_blocks)) bytes _ (number-took 2 bytes h) (λ n t r b p.
    either _ r (nat_lt n most_blocks) _ _ (λ fits. done _ _ r b (record { same = ends p.same; within = is-below n most_blocks fits })) (λ no. Fails _))

tid-took : (bytes : List ℕ) → AreBytes bytes → Took (Says tid_bytes TidIn) bytes (tid bytes)
unfolding tid tid_at number
tid-took bytes h = parts (number_at 1 bytes) (Says (big_bytes 1) (λ x. x < 256 ^ 1)) (Says tid_bytes TidIn) bytes _ _ (number-took 1 bytes h) (λ s t1 r1 b1 p1.
    parts (number_at 4 r1) (Says u32 Is32) _ r1 _ _ (u32-took r1 b1) (λ epoch t2 r2 b2 p2.
    parts (number_at 4 r2) (Says u32 Is32) _ r2 _ _ (u32-took r2 b2) (λ ticket t3 r3 b3 p3.
    either _ r3 (nat_le s 7) _ _ (λ fits. done _ _ r3 b3 (record { same = both p1.same (both p2.same (ends p3.same)); within = record { server = is-within s 7 fits; epoch = p2.within; ticket = p3.within } })) (λ no. Fails _))))

work-took : (bytes : List ℕ) → AreBytes bytes → Took (Says work_bytes WorkIn) bytes (work bytes)
unfolding work work_at number
work-took bytes h = parts (number_at 1 bytes) (Says (big_bytes 1) (λ x. x < 256 ^ 1)) (Says work_bytes WorkIn) bytes _ _ (number-took 1 bytes h) (λ s t1 r1 b1 p1.
    parts (number_at 4 r1) (Says u32 Is32) _ r1 _ _ (u32-took r1 b1) (λ epoch t2 r2 b2 p2.
    parts (number_at 4 r2) (Says u32 Is32) _ r2 _ _ (u32-took r2 b2) (λ ticket t3 r3 b3 p3.
    either _ r3 (nat_le s 7) _ _ (λ fits. done _ _ r3 b3 (record { same = both p1.same (both p2.same (ends p3.same)); within = record { server = is-within s 7 fits; epoch = p2.within; ticket = p3.within } })) (λ no. Fails _))))

abbrev AreWorks : ℕ → List WorkId → Type 0
AreWorks n ws = (length ws ≡ n) × AllByRecursion WorkIn ws

works_from-took : (n : ℕ) (bytes : List ℕ) → AreBytes bytes → Took (Says works_bytes (AreWorks n)) bytes (works_from n bytes)
unfolding works_from
works_from-took zero bytes h = done _ _ bytes h (record { same = refl; within = (refl, tt) })
works_from-took (suc n) bytes h = onwards (Says work_bytes WorkIn) (Says works_bytes (AreWorks (suc n))) bytes _ (work-took bytes h) (λ w t1 r1 b1 p1.
    onwards (Says works_bytes (AreWorks n)) _ r1 _ (works_from-took n r1 b1) (λ ws t2 r2 b2 p2.
    done _ _ r2 b2 (record { same = both p1.same (ends p2.same); within = (ap suc p2.within.0, (p1.within, p2.within.1)) })))

abbrev counted_works : List WorkId → List ℕ
counted_works ws = length ws ∷ works_bytes ws

works-took : (bytes : List ℕ) → AreBytes bytes → Took (Says counted_works WorksIn) bytes (works bytes)
unfolding works
works-took bytes h = onwards (Says u8 (λ b. b < 256)) (Says counted_works WorksIn) bytes _ (byte-took bytes h) (λ n t r b p.
    either _ r (nat_le n 8) _ _ (λ fits. weaker (Says works_bytes (AreWorks n)) _ r (works_from-took n r b) (λ ws more q.
    record { same = both p.same q.same ∙ ap (λ (k : ℕ). k ∷ works_bytes ws) (sym q.within.0); within = (subst (λ (k : ℕ). k ≤ 8) (sym q.within.0) (is-within n 8 fits), q.within.1) })) (λ no. Fails _))

-- a unit, by its file and its block's number
unit-behind : (f : FileNo) (n : ℕ) (t1 t2 rest : List ℕ) (whole : Bool) → nat_eq n 65535 ≡ whole → Is32 f.0 → t1 ≡ u32 f.0 → t2 ≡ big_bytes 2 n → AreBytes rest
    → Took (λ u more. Says unit_bytes UnitIn u (t1 ++ (t2 ++ more))) rest (in_range unit_in_range (Some ((if whole then units.File f else units.Block f (record { 0 = n })), rest)))
unit-behind f n t1 t2 rest true is small one two h = done _ (units.File f) rest h (record { same = both one (ends (two ∙ ap (big_bytes 2) (is-number n 65535 is))); within = small })
unit-behind f n t1 t2 rest false is small one two h = either _ rest (nat_lt n most_blocks) _ _
    (λ fits. done _ (units.Block f (record { 0 = n })) rest h (record { same = both one (ends two); within = (small, is-below n most_blocks fits) })) (λ no. Fails _)

unit-took : (bytes : List ℕ) → AreBytes bytes → Took (Says unit_bytes UnitIn) bytes (unit bytes)
unfolding unit unit_at number
unit-took bytes h = parts (number_at 4 bytes) (Says u32 Is32) (Says unit_bytes UnitIn) bytes _ _ (u32-took bytes h) (λ f t1 r1 b1 p1.
    parts (number_at 2 r1) (Says (big_bytes 2) (λ x. x < 256 ^ 2)) _ r1 _ _ (number-took 2 r1 b1) (λ n t2 r2 b2 p2.
    unit-behind (record { 0 = f }) n t1 t2 r2 (nat_eq n 65535) refl p1.within p1.same p2.same b2))

resource-took : (bytes : List ℕ) → AreBytes bytes → Took (Says (λ r. u8 (refusal_number r)) (λ r. ⊤)) bytes (resource bytes)
unfolding resource
resource-took bytes h = onwards (Says u8 (λ b. b < 256)) (Says (λ (x : Resource). u8 (refusal_number x)) (λ x. ⊤)) bytes _ (byte-took bytes h) (λ n t r b p.
    either _ r (nat_eq n 31) _ _ (λ is. done _ resources.Records r b (record { same = ends (p.same ∙ ap u8 (is-number n 31 is)); within = tt }))
    (λ no. either _ r (nat_eq n 32) _ _ (λ is. done _ resources.Pages r b (record { same = ends (p.same ∙ ap u8 (is-number n 32 is)); within = tt }))
    (λ no. either _ r (nat_eq n 33) _ _ (λ is. done _ resources.Heads r b (record { same = ends (p.same ∙ ap u8 (is-number n 33 is)); within = tt })) (λ no. Fails _))))

-- ---- operations and votes

-- behind a code
abbrev Coded : {A : Type 0} → ℕ → (A → List ℕ) → (A → Type 0) → A → List ℕ → Type 0
Coded code spelled In a taken = Says spelled In a (code ∷ taken)

op_of-took : (code : ℕ) (bytes : List ℕ) → AreBytes bytes → Took (Coded code op_bytes OpIn) bytes (op_of code bytes)
unfolding op_of
op_of-took code bytes h = either _ bytes (nat_eq code 1) _ _ (λ is. onwards (Says (λ (n : FileNo). u32 n.0) (λ n. Is32 n.0)) _ bytes _ (file-took bytes h) (λ f t r b p.
    done _ (ops.Create f) r b (record { same = behind code 1 (is-number code 1 is) (ends p.same); within = p.within })))
    (λ no. either _ bytes (nat_eq code 2) _ _ (λ is. onwards (Says (λ (n : FileNo). u32 n.0) (λ n. Is32 n.0)) _ bytes _ (file-took bytes h) (λ f t r b p.
    done _ (ops.Remove f) r b (record { same = behind code 2 (is-number code 2 is) (ends p.same); within = p.within })))
    (λ no. either _ bytes (nat_eq code 3) _ _ (λ is. onwards (Says (λ (n : FileNo). u32 n.0) (λ n. Is32 n.0)) _ bytes _ (file-took bytes h) (λ f t r b p.
    onwards (Says (λ (n : BlockNo). big_bytes 2 n.0) (λ n. n.0 < most_blocks)) _ r _ (block-took r b) (λ n u q d k.
    done _ (ops.Cut f n) q d (record { same = behind code 3 (is-number code 3 is) (both p.same (ends k.same)); within = (p.within, k.within) }))))
    (λ no. either _ bytes (nat_eq code 4) _ _ (λ is. onwards (Says (λ (n : FileNo). u32 n.0) (λ n. Is32 n.0)) _ bytes _ (file-took bytes h) (λ f t r b p.
    onwards (Says (λ (n : BlockNo). big_bytes 2 n.0) (λ n. n.0 < most_blocks)) _ r _ (block-took r b) (λ n u q d k.
    done _ (ops.Read f n) q d (record { same = behind code 4 (is-number code 4 is) (both p.same (ends k.same)); within = (p.within, k.within) }))))
    (λ no. either _ bytes (nat_eq code 5) _ _ (λ is. onwards (Says (λ (n : FileNo). u32 n.0) (λ n. Is32 n.0)) _ bytes _ (file-took bytes h) (λ f t r b p.
    onwards (Says (λ (n : BlockNo). big_bytes 2 n.0) (λ n. n.0 < most_blocks)) _ r _ (block-took r b) (λ n u q d k.
    onwards (Says (λ (c : List ℕ). c) (λ c. length c ≡ 448)) _ q _ (content-took q d) (λ c v w e m.
    done _ (ops.Write f n c) w e (record { same = behind code 5 (is-number code 5 is) (both p.same (both k.same (ends m.same))); within = (p.within, k.within, m.within) })))))
    (λ no. Fails _)))))

op-took : (bytes : List ℕ) → AreBytes bytes → Took (Says op_bytes OpIn) bytes (op bytes)
unfolding op
op-took bytes h = onwards (Says u8 (λ b. b < 256)) (Says op_bytes OpIn) bytes op_of (byte-took bytes h) (λ code t r b p.
    weaker (Coded code op_bytes OpIn) _ r (op_of-took code r b) (λ o more q. record { same = both p.same refl ∙ q.same; within = q.within }))

held-took : (make : LockUnit → Tid → Vote) (code : ℕ) → ((u : LockUnit) (t : Tid) → HeldIn u t → Says vote_bytes VoteIn (make u t) (code ∷ held_bytes u t)) → (bytes : List ℕ) → AreBytes bytes
    → Took (Coded code vote_bytes VoteIn) bytes (and_then (unit bytes) (λ u rest. and_then (tid rest) (λ t rest. Got (make u t) rest)))
held-took make code says bytes h = onwards (Says unit_bytes UnitIn) _ bytes _ (unit-took bytes h) (λ u t r b p.
    onwards (Says tid_bytes TidIn) _ r _ (tid-took r b) (λ x v q d k.
    done _ (make u x) q d (let s = says u x (p.within, k.within) in record { same = behind code code refl (both p.same (ends k.same)) ∙ s.same; within = s.within })))

vote_of-took : (code : ℕ) (bytes : List ℕ) → AreBytes bytes → Took (Coded code vote_bytes VoteIn) bytes (vote_of code bytes)
unfolding vote_of
vote_of-took code bytes h = either _ bytes (nat_eq code 0) _ _ (λ is. done _ votes.Ready bytes h (record { same = behind code 0 (is-number code 0 is) refl; within = tt }))
    (λ no. either _ bytes (nat_eq code 1) _ _ (λ is. held-took votes.Waiting code (λ u t w. record { same = behind code 1 (is-number code 1 is) refl; within = w }) bytes h)
    (λ no. either _ bytes (nat_eq code 2) _ _ (λ is. held-took votes.Broken code (λ u t w. record { same = behind code 2 (is-number code 2 is) refl; within = w }) bytes h)
    (λ no. either _ bytes (nat_eq code 3) _ _ (λ is. onwards (Says u32 Is32) _ bytes _ (u32-took bytes h) (λ n t r b p.
    onwards (Says u32 Is32) _ r _ (u32-took r b) (λ m v q d k.
    done _ (votes.Lost n m) q d (record { same = behind code 3 (is-number code 3 is) (both p.same (ends k.same)); within = (p.within, k.within) }))))
    (λ no. either _ bytes (nat_eq code 4) _ _ (λ is. onwards (Says (λ (x : Resource). u8 (refusal_number x)) (λ x. ⊤)) _ bytes _ (resource-took bytes h) (λ x t r b p.
    onwards (Says u32 Is32) _ r _ (u32-took r b) (λ n v q d k.
    onwards (Says u32 Is32) _ q _ (u32-took q d) (λ m y w e l.
    done _ (votes.Full x n m) w e (record { same = behind code 4 (is-number code 4 is) (both p.same (both k.same (ends l.same))); within = (k.within, l.within) })))))
    (λ no. Fails _)))))

vote-took : (bytes : List ℕ) → AreBytes bytes → Took (Says vote_bytes VoteIn) bytes (vote bytes)
unfolding vote
vote-took bytes h = onwards (Says u8 (λ b. b < 256)) (Says vote_bytes VoteIn) bytes vote_of (byte-took bytes h) (λ code t r b p.
    weaker (Coded code vote_bytes VoteIn) _ r (vote_of-took code r b) (λ v more q. record { same = both p.same refl ∙ q.same; within = q.within }))

-- ---- messages

same-client : (c d : ClientNo) → d.0 ≡ c.0 → Client c ≡ Client d
same-client c d e = ap (λ (n : ℕ). Client (record { 0 = n })) (sym e)

module _ (c : ClientNo) where
  -- what this client sends, behind its kind
  abbrev Sent : ℕ → Body → List ℕ → Type 0
  Sent kind body taken = Says carried_bytes (BodyIn (Client c)) body (kind ∷ taken)

  by : (d : ClientNo) → IsSender c d → IsBy (Client c) d
  by d h = (same-client c d h.0, h.1)

  -- the sender and its request, and then what is behind them
  asked : (kind : ℕ) (bytes : List ℕ) (next : ClientNo → RequestNo → List ℕ → Reading Body) → AreBytes bytes
      → ((d : ClientNo) (q : RequestNo) (rest : List ℕ) → AreBytes rest → IsSender c d → Is32 q.0 → Took (λ body more. Sent kind body (u8 d.0 ++ (u32 q.0 ++ more))) rest (next d q rest))
      → Took (Sent kind) bytes (and_then (sender c bytes) (λ d rest. and_then (request rest) (λ q rest. next d q rest)))
  asked kind bytes next h k = onwards (Says (λ (d : ClientNo). u8 d.0) (IsSender c)) (Sent kind) bytes _ (sender-took c bytes h) (λ d t1 r1 b1 p1.
      onwards (Says (λ (n : RequestNo). u32 n.0) (λ n. Is32 n.0)) _ r1 _ (request-took r1 b1) (λ q t2 r2 b2 p2.
      weaker (λ body more. Sent kind body (u8 d.0 ++ (u32 q.0 ++ more))) _ r2 (k d q r2 b2 p1.within p2.within) (λ body more s.
      record { same = behind kind kind refl (both p1.same (both p2.same refl)) ∙ s.same; within = s.within })))

  begin-took : (bytes : List ℕ) → AreBytes bytes → Took (Sent 1) bytes (begin_by c bytes)
  unfolding begin_by
  begin-took bytes h = asked 1 bytes _ h (λ d q r b is small. done _ _ r b (record { same = behind 1 1 refl (onto (u8 d.0) (append-nil (u32 q.0))); within = (by d is, small) }))

  open-took : (bytes : List ℕ) → AreBytes bytes → Took (Sent 2) bytes (open_by c bytes)
  unfolding open_by
  open-took bytes h = asked 2 bytes _ h (λ d q r b is small. onwards (Says tid_bytes TidIn) _ r _ (tid-took r b) (λ t t1 r1 b1 p1.
      done _ _ r1 b1 (record { same = behind 2 2 refl (onto (u8 d.0) (onto (u32 q.0) (ends p1.same))); within = (by d is, small, p1.within) })))

  op_by-took : (bytes : List ℕ) → AreBytes bytes → Took (Sent 3) bytes (op_by c bytes)
  unfolding op_by
  op_by-took bytes h = asked 3 bytes _ h (λ d q r b is small. onwards (Says work_bytes WorkIn) _ r _ (work-took r b) (λ w t1 r1 b1 p1.
      onwards (Says (λ (n : OperationNo). u32 n.0) (λ n. Is32 n.0)) _ r1 _ (operation-took r1 b1) (λ n t2 r2 b2 p2.
      onwards (Says op_bytes OpIn) _ r2 _ (op-took r2 b2) (λ o t3 r3 b3 p3.
      done _ _ r3 b3 (record { same = behind 3 3 refl (onto (u8 d.0) (onto (u32 q.0) (both p1.same (both p2.same (ends p3.same))))); within = (by d is, small, p1.within, p2.within, p3.within) })))))

  end-took : (bytes : List ℕ) → AreBytes bytes → Took (Sent 4) bytes (end_by c bytes)
  unfolding end_by
  end-took bytes h = asked 4 bytes _ h (λ d q r b is small. onwards (Says tid_bytes TidIn) _ r _ (tid-took r b) (λ t t1 r1 b1 p1.
      onwards (Says counted_works WorksIn) _ r1 _ (works-took r1 b1) (λ ws t2 r2 b2 p2.
      done _ _ r2 b2 (record { same = behind 4 4 refl (onto (u8 d.0) (onto (u32 q.0) (both p1.same (ends p2.same)))); within = (by d is, small, p1.within, p2.within) }))))

  abort-took : (bytes : List ℕ) → AreBytes bytes → Took (Sent 5) bytes (abort_by c bytes)
  unfolding abort_by
  abort-took bytes h = asked 5 bytes _ h (λ d q r b is small. onwards (Says tid_bytes TidIn) _ r _ (tid-took r b) (λ t t1 r1 b1 p1.
      onwards (Says counted_works WorksIn) _ r1 _ (works-took r1 b1) (λ ws t2 r2 b2 p2.
      done _ _ r2 b2 (record { same = behind 5 5 refl (onto (u8 d.0) (onto (u32 q.0) (both p1.same (ends p2.same)))); within = (by d is, small, p1.within, p2.within) }))))

  thanks-took : (bytes : List ℕ) → AreBytes bytes → Took (Sent 6) bytes (thanks_by c bytes)
  unfolding thanks_by
  thanks-took bytes h = onwards (Says (λ (d : ClientNo). u8 d.0) (IsSender c)) (Sent 6) bytes _ (sender-took c bytes h) (λ d t1 r1 b1 p1.
      onwards (Says tid_bytes TidIn) _ r1 _ (tid-took r1 b1) (λ t t2 r2 b2 p2.
      done _ _ r2 b2 (record { same = behind 6 6 refl (both p1.same (ends p2.same)); within = (by d p1.within, p2.within) })))

  client_body-took : (kind : ℕ) (bytes : List ℕ) → AreBytes bytes → Took (Sent kind) bytes (client_body c kind bytes)
  unfolding client_body
  client_body-took kind bytes h = either _ bytes (nat_eq kind 1) _ _ (λ is. at_kind _ 1 is (begin-took bytes h))
      (λ no. either _ bytes (nat_eq kind 2) _ _ (λ is. at_kind _ 2 is (open-took bytes h))
      (λ no. either _ bytes (nat_eq kind 3) _ _ (λ is. at_kind _ 3 is (op_by-took bytes h))
      (λ no. either _ bytes (nat_eq kind 4) _ _ (λ is. at_kind _ 4 is (end-took bytes h))
      (λ no. either _ bytes (nat_eq kind 5) _ _ (λ is. at_kind _ 5 is (abort-took bytes h))
      (λ no. either _ bytes (nat_eq kind 6) _ _ (λ is. at_kind _ 6 is (thanks-took bytes h))
      (λ no. Fails _))))))
    where
      at_kind : (r : Reading Body) (n : ℕ) → nat_eq kind n ≡ true → Took (Sent n) bytes r → Took (Sent kind) bytes r
      at_kind r n is took = subst (λ (k : ℕ). Took (Sent k) bytes r) (sym (is-number kind n is)) took

module _ (s : ServerNo) (there : ServerIn s) where
  -- what a server sends, behind its kind
  abbrev Told : ℕ → Body → List ℕ → Type 0
  Told kind body taken = Says carried_bytes (BodyIn (Server s)) body (kind ∷ taken)

  prepare-took : (bytes : List ℕ) → AreBytes bytes → Took (Told 11) bytes (prepare_in bytes)
  unfolding prepare_in
  prepare-took bytes h = onwards (Says tid_bytes TidIn) (Told 11) bytes _ (tid-took bytes h) (λ t t1 r1 b1 p1.
      onwards (Says (λ (c : ClientNo). u8 c.0) ClientIn) _ r1 _ (client-took r1 b1) (λ c t2 r2 b2 p2.
      onwards (Says work_bytes WorkIn) _ r2 _ (work-took r2 b2) (λ w t3 r3 b3 p3.
      done _ _ r3 b3 (record { same = behind 11 11 refl (both p1.same (both p2.same (ends p3.same))); within = (there, p1.within, p2.within, p3.within) }))))

  names-took : (make : Tid → WorkId → Message) (kind : ℕ) → ((t : Tid) (w : WorkId) → TidIn t → WorkIn w → Says carried_bytes (BodyIn (Server s)) (bodies.Message (make t w)) (kind ∷ tid_bytes t ++ work_bytes w))
      → (bytes : List ℕ) → AreBytes bytes → Took (Told kind) bytes (names_in make bytes)
  unfolding names_in
  names-took make kind says bytes h = onwards (Says tid_bytes TidIn) (Told kind) bytes _ (tid-took bytes h) (λ t t1 r1 b1 p1.
      onwards (Says work_bytes WorkIn) _ r1 _ (work-took r1 b1) (λ w t2 r2 b2 p2.
      done _ _ r2 b2 (let x = says t w p1.within p2.within in record { same = behind kind kind refl (both p1.same (ends p2.same)) ∙ x.same; within = x.within })))

  voted-took : (bytes : List ℕ) → AreBytes bytes → Took (Told 14) bytes (vote_in bytes)
  unfolding vote_in
  voted-took bytes h = onwards (Says tid_bytes TidIn) (Told 14) bytes _ (tid-took bytes h) (λ t t1 r1 b1 p1.
      onwards (Says work_bytes WorkIn) _ r1 _ (work-took r1 b1) (λ w t2 r2 b2 p2.
      onwards (Says vote_bytes VoteIn) _ r2 _ (vote-took r2 b2) (λ v t3 r3 b3 p3.
      done _ _ r3 b3 (record { same = behind 14 14 refl (both p1.same (both p2.same (ends p3.same))); within = (there, p1.within, p2.within, p3.within) }))))

  server_body-took : (kind : ℕ) (bytes : List ℕ) → AreBytes bytes → Took (Told kind) bytes (server_body kind bytes)
  unfolding server_body
  server_body-took kind bytes h = either _ bytes (nat_eq kind 11) _ _ (λ is. at_kind _ 11 is (prepare-took bytes h))
      (λ no. either _ bytes (nat_eq kind 12) _ _ (λ is. at_kind _ 12 is (names-took messages.Commit 12 (λ t w x y. record { same = refl; within = (there, x, y) }) bytes h))
      (λ no. either _ bytes (nat_eq kind 13) _ _ (λ is. at_kind _ 13 is (names-took messages.Drop 13 (λ t w x y. record { same = refl; within = (there, x, y) }) bytes h))
      (λ no. either _ bytes (nat_eq kind 14) _ _ (λ is. at_kind _ 14 is (voted-took bytes h))
      (λ no. either _ bytes (nat_eq kind 15) _ _ (λ is. at_kind _ 15 is (names-took messages.Done 15 (λ t w x y. record { same = refl; within = (there, x, y) }) bytes h))
      (λ no. either _ bytes (nat_eq kind 16) _ _ (λ is. at_kind _ 16 is (names-took messages.Inquire 16 (λ t w x y. record { same = refl; within = (there, x, y) }) bytes h))
      (λ no. Fails _))))))
    where
      at_kind : (r : Reading Body) (n : ℕ) → nat_eq kind n ≡ true → Took (Told n) bytes r → Took (Told kind) bytes r
      at_kind r n is took = subst (λ (k : ℕ). Took (Told k) bytes r) (sym (is-number kind n is)) took

-- what a party sends, behind its kind
abbrev Carried : Party → ℕ → Body → List ℕ → Type 0
Carried from kind body taken = Says carried_bytes (BodyIn from) body (kind ∷ taken)

any_body-took : (from : Party) → IsParty from → (kind : ℕ) (bytes : List ℕ) → AreBytes bytes → Took (Carried from kind) bytes (any_body kind bytes)
unfolding any_body
any_body-took from there kind bytes h = either _ bytes (nat_eq kind 17) _ _ (λ is. done _ bodies.Nudge bytes h (record { same = behind kind 17 (is-number kind 17 is) refl; within = there }))
    (λ no. either _ bytes (nat_eq kind 18) _ _ (λ is. onwards (Says tid_bytes TidIn) _ bytes _ (tid-took bytes h) (λ t t1 r1 b1 p1.
    done _ (bodies.Timeout t) r1 b1 (record { same = behind kind 18 (is-number kind 18 is) (ends p1.same); within = (there, p1.within) })))
    (λ no. Fails _))

body-took : (from : Party) → IsParty from → (kind : ℕ) (bytes : List ℕ) → AreBytes bytes → Took (Carried from kind) bytes (body_by (Some from) kind bytes)
body-took (Client c) there kind bytes h = either _ bytes (is_of_client kind) _ _ (λ is. client_body-took c kind bytes h) (λ no. either _ bytes (is_of_server kind) _ _ (λ is. Fails _) (λ neither. any_body-took (Client c) there kind bytes h))
body-took (Server s) there kind bytes h = either _ bytes (is_of_server kind) _ _ (λ is. server_body-took s there kind bytes h) (λ no. either _ bytes (is_of_client kind) _ _ (λ is. Fails _) (λ neither. any_body-took (Server s) there kind bytes h))

-- ---- frames

-- a party of two bytes
party-spelled : (a b : ℕ) (from : Party) → party_of a b ≡ Some from → (party_bytes from ≡ a ∷ b ∷ []) × IsParty from
party-spelled a b from e = by (nat_eq a 1 && (nat_le 1 b && nat_le b 8)) refl (nat_eq a 2 && nat_le b 7) refl e
  where
    by : (x : Bool) → (nat_eq a 1 && (nat_le 1 b && nat_le b 8)) ≡ x → (y : Bool) → (nat_eq a 2 && nat_le b 7) ≡ y
        → (if x then Some (Client (record { 0 = b })) else (if y then Some (Server (record { 0 = b })) else None)) ≡ Some from → (party_bytes from ≡ a ∷ b ∷ []) × IsParty from
    by true p y q h =
        let one : a ≡ 1 = grind (arith, p, nat_tests) in
        let low : 1 ≤ b = grind (arith, p, nat_tests) in
        let high : b ≤ 8 = grind (arith, p, nat_tests) in
        let is : Client (record { 0 = b }) ≡ from = cc in
        subst (λ (q : Party). (party_bytes q ≡ a ∷ b ∷ []) × IsParty q) is (ap (λ (n : ℕ). n ∷ b ∷ []) (sym one), (low, high))
    by false p true q h =
        let two : a ≡ 2 = grind (arith, q, nat_tests) in
        let high : b ≤ 7 = grind (arith, q, nat_tests) in
        let is : Server (record { 0 = b }) ≡ from = cc in
        subst (λ (q : Party). (party_bytes q ≡ a ∷ b ∷ []) × IsParty q) is (ap (λ (n : ℕ). n ∷ b ∷ []) (sym two), high)
    by false p false q h = absurd (cc h)

some-server : (s : ServerNo) (p : Option Party) → is_server s p ≡ true → p ≡ Some (Server s)
some-server s (Some (Server q)) h = ap (λ (n : ℕ). Some (Server (record { 0 = n }))) (is-number q.0 s.0 h)
some-server s (Some (Client c)) h = absurd (false≢true h)
some-server s None h = absurd (false≢true h)

-- a test that is passed
passed : {A : Type 0} (b : Bool) (n : ℕ) (x : Result A ℕ) (a : A) → (if not b then Err n else x) ≡ Ok a → (b ≡ true) × (x ≡ Ok a)
passed true n x a e = (refl, e)
passed false n x a e = absurd (cc e)

closed-spelled : (s : ServerNo) (from : Party) (kind : ℕ) (fields : List ℕ) (f : Framed) (r : Reading Body) → ServerIn s → Took (Carried from kind) fields r → closed from (Server s) r ≡ Ok f
    → (body_bytes f ≡ party_bytes from ++ (party_bytes (Server s) ++ (kind ∷ fields))) × IsSent s f
closed-spelled s from kind fields f (Got body []) here h e =
    let is : record { from = from; to = Server s; body = body } ≡ f = cc in
    let (taken, all, says) = took h in
    let same : fields ≡ taken = all ∙ append-nil taken in
    subst (λ (g : Framed). (body_bytes g ≡ party_bytes from ++ (party_bytes (Server s) ++ (kind ∷ fields))) × IsSent s g) is
    (ap (λ (l : List ℕ). party_bytes from ++ (party_bytes (Server s) ++ l)) (sym says.same ∙ ap (λ (l : List ℕ). kind ∷ l) (sym same)), record { server = here; to = refl; body = says.within })
closed-spelled s from kind fields f (Got body (b ∷ rest)) here h e = absurd (cc e)
closed-spelled s from kind fields f (Wrong n) here h e = absurd (cc e)

framed-spelled : (s : ServerNo) (a b kind : ℕ) (fields : List ℕ) (f : Framed) (p : Option Party) → party_of a b ≡ p → ServerIn s → AreBytes fields → framed_by s p (body_by p kind fields) ≡ Ok f
    → (body_bytes f ≡ a ∷ b ∷ (party_bytes (Server s) ++ (kind ∷ fields))) × IsSent s f
framed-spelled s a b kind fields f None is here h e = absurd (cc e)
framed-spelled s a b kind fields f (Some from) is here h e =
    let (spelled, there) = party-spelled a b from is in
    let (same, sent) = closed-spelled s from kind fields f (body_by (Some from) kind fields) here (body-took from there kind fields h) e in
    (same ∙ ap (λ (l : List ℕ). l ++ (party_bytes (Server s) ++ (kind ∷ fields))) spelled, sent)

-- what is decoded may be sent, and is spelled so
pub decoded : (s : ServerNo) (bytes : List ℕ) (f : Framed) → AreBytes bytes → decode s bytes ≡ Ok f → (body_bytes f ≡ bytes) × IsSent s f
unfolding decode
decoded s [] f h e = absurd (cc e)
decoded s (a ∷ []) f h e = absurd (cc e)
decoded s (a ∷ b ∷ []) f h e = absurd (cc e)
decoded s (a ∷ b ∷ c ∷ []) f h e = absurd (cc e)
decoded s (a ∷ b ∷ c ∷ d ∷ []) f h e = absurd (cc e)
decoded s (a ∷ b ∷ c ∷ d ∷ kind ∷ fields) f h e =
    let taken = passed (is_taken kind) wrong_kind _ f e in
    let received = passed (is_server s (party_of c d)) wrong_party _ f taken.1 in
    let (to, here) = party-spelled c d (Server s) (some-server s (party_of c d) received.0) in
    let (same, sent) = framed-spelled s a b kind fields f (party_of a b) refl here h.1.1.1.1.1 received.1 in
    (same ∙ ap (λ (l : List ℕ). a ∷ b ∷ (l ++ (kind ∷ fields))) to, sent)
