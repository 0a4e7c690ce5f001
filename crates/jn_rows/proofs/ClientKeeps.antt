-- Every row keeps a client's works at different servers.
use Rattle.std.proofs.Common.{◌≡◌, ℕ, Bool, true, ◌≤◌, List, [], ◌∷◌, ◌++◌, length, Option, Some, None, refl, arith}
use Rattle.std.proofs.lemmas.Bool.Decides.{nat_tests}
use Rattle.jn_base.specs.declared.names.WorkId.{WorkId}
use Rattle.jn_base.specs.declared.op.Command.{Command}
use Rattle.jn_base.specs.declared.op.Command.TheVariants.{Begin, Open, Do, End, Abort}
use Rattle.jn_base.proofs.Tells.{server_tells}
use Rattle.jn_msgs.specs.declared.message.Message.{Message}
use Rattle.jn_msgs.specs.declared.message.Message.TheVariants as messages
use Rattle.jn_rows.specs.declared.client.OpenWork.{OpenWork}
use Rattle.jn_rows.specs.declared.client.Outstanding.{Outstanding}
use Rattle.jn_rows.specs.Client.{ClientTable, command_row, take_row, names_of, opens, opened_row, if_waits}
use Rattle.jn_rows.specs.ClientLaws.{IsClient, after_command, are_apart, may_open, may_wait}
use Rattle.jn_rows.proofs.Apart.{few, found_none, apart_counted, apart_more}

pub command_apart : (t : ClientTable) (j : ℕ) (c : Command) → IsClient t
    → are_apart (after_command (command_row t j c) t).servers (after_command (command_row t j c) t).works ≡ true
command_apart t j (Begin s) h = grind (arith, h.works)
command_apart t j (Open s) h = grind (arith, h.works)
command_apart t j (Do s op) h = grind (arith, h.works, apart_counted t.servers s t.works)
command_apart t j End h = grind (arith, h.works)
command_apart t j Abort h = grind (arith, h.works)

pub command_waits : (t : ClientTable) (j : ℕ) (c : Command) → IsClient t
    → may_wait (after_command (command_row t j c) t).servers (after_command (command_row t j c) t).works (after_command (command_row t j c) t).outstanding ≡ true
command_waits t j (Begin s) h = grind (arith, h.waits)
command_waits t j (Open s) h = grind (arith, h.waits, found_none s t.works)
command_waits t j (Do s op) h = grind (arith, h.waits)
command_waits t j End h = grind (arith, h.waits)
command_waits t j Abort h = grind (arith, h.waits)

pub command_keeps : (t : ClientTable) (j : ℕ) (c : Command) → IsClient t → IsClient (after_command (command_row t j c) t)
command_keeps t j c h = record { works = command_apart t j c h; waits = command_waits t j c h }

-- ---- messages

abbrev first_of_work : WorkId → OpenWork
first_of_work W = record { work = W; last = 0 }

pub opened_apart : (n : ℕ) (ws : List OpenWork) (c : Command) (W : WorkId) → are_apart n ws ≡ true → may_open n ws c ≡ true → opens (Some W) c ≡ true
    → are_apart n (ws ++ first_of_work W ∷ []) ≡ true
opened_apart n ws (Begin s) W h may is = cc
opened_apart n ws (Open s) W h may is = grind (arith, nat_tests, server_tells, apart_more n ws (first_of_work W))
opened_apart n ws (Do s op) W h may is = cc
opened_apart n ws End W h may is = cc
opened_apart n ws Abort W h may is = cc

pub opened_keeps : (t : ClientTable) (x : Option Outstanding) (test : Outstanding → Bool) (answer : Option WorkId) → IsClient t → may_wait t.servers t.works x ≡ true
    → ((o : Outstanding) → test o ≡ true → opens answer o.command ≡ true)
    → are_apart (if_waits t x test (λ j. opened_row t j answer)).0.servers (if_waits t x test (λ j. opened_row t j answer)).0.works ≡ true
opened_keeps t None test answer h waits only = h.works
opened_keeps t (Some o) test None h waits only = grind (arith, h.works)
opened_keeps t (Some o) test (Some W) h waits only = grind (arith, h.works, only o, opened_apart t.servers t.works o.command W)

pub take_keeps : (t : ClientTable) (m : Message) → IsClient t → IsClient (take_row t m).0
take_keeps t (messages.Begun c request answer) h = record { works = grind (arith, h.works); waits = grind (arith, h.waits) }
take_keeps t (messages.Opened c request T answer) h = record { works = opened_keeps t t.outstanding _ answer h h.waits (λ o is. grind (arith, is)); waits = grind (arith, h.waits) }
take_keeps t (messages.Answer c request answer) h = record { works = grind (arith, h.works); waits = grind (arith, h.waits) }
take_keeps t (messages.Outcome c T outcome) h = record { works = grind (arith, h.works); waits = grind (arith, h.waits) }
take_keeps t m h = h

-- ---- how many there are

pub as_many : (ws : List OpenWork) → length (names_of ws) ≡ length ws
as_many [] = refl
as_many (w ∷ ws) = grind (arith, as_many ws)

pub names_are_few : (t : ClientTable) → IsClient t → length (names_of t.works) ≤ t.servers
names_are_few t h = let bound = few t.servers t.works h.works in let same = as_many t.works in omega (arith, bound, same)
