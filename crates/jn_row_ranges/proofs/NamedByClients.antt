-- A client names servers that there are.
use Rattle.jn_row_ranges.proofs.Common.{◌≡◌, ℕ, Bool, true, false, List, [], ◌∷◌, Option, Some, None, refl, ◌∙◌, subst, arith, ◌&&◌, if◌then◌else◌, nat_tests, ServerNo, ClientNo, WorkId, Command, client_eq, Message, OpenWork, Outstanding, Taken, ClientTable, Commanded, Refuses, Sends, new_table, command_row, take_row, names_of, over, if_waits, is_current, opens, opened_row, work_at, IsClient, are_apart, after_command, command_keeps, take_keeps, names_are_few, sent_for, are_near, is_few, is_near, is_any_near, names_near, is_within, are_within, is_again_within, ClientWithin, CommandWithin, request_eq}
use Rattle.jn_base.specs.declared.op.Command.TheVariants as commands
use Rattle.jn_msgs.specs.declared.message.Message.TheVariants as messages
use Rattle.jn_msgs.specs.declared.message.Outcome.TheVariants as outcomes
use Rattle.jn_rows.specs.declared.client.Taken.TheVariants as taken

-- ---- commands

names-near : (n : ℕ) (ws : List OpenWork) → are_apart n ws ≡ true → are_near n (names_of ws) ≡ true
names-near n [] h = refl
names-near n (w ∷ ws) h = let again = names-near n ws in grind (arith, h)

-- what it names in an End
its-names : (n : ℕ) (t : ClientTable) → ClientWithin n t → is_few n (names_of t.works) ≡ true
its-names n t h = let few = names_are_few t h.client in let same = h.servers_are in let near = subst (λ k. are_near k (names_of t.works) ≡ true) same (names-near t.servers t.works h.client.works) in grind (arith, nat_tests, near)

found-near : (n : ℕ) (s : ServerNo) (ws : List OpenWork) (w : OpenWork) → are_apart n ws ≡ true → work_at s ws ≡ Some w → is_near n w.work.server ≡ true
found-near n s [] w h e = absurd (cc e)
found-near n s (v ∷ ws) w h e = let again = found-near n s ws w in grind (arith, h, e)

abbrev asked : ℕ → Commanded → Bool
asked n (Refuses refusal) = true
asked n (Sends t to message) = is_within n (to, message) && (is_any_near n t.transaction && is_again_within n t.outstanding)

command-asked : (n : ℕ) (t : ClientTable) (j : ℕ) (c : Command) → ClientWithin n t → asked n (command_row t j c) ≡ true
command-asked n t j (commands.Begin s) h = grind (arith, h.servers_are, h.transaction)
command-asked n t j (commands.Open s) h = grind (arith, h.servers_are, h.transaction)
command-asked n t j (commands.Do s op) h = let works = subst (λ k. are_apart k t.works ≡ true) h.servers_are h.client.works in grind (arith, h.servers_are, h.transaction, found-near n s t.works, works)
command-asked n t j commands.End h = let few = its-names n t h in grind (arith, h.transaction)
command-asked n t j commands.Abort h = let few = its-names n t h in grind (arith, h.transaction)

same-servers : (t : ClientTable) (j : ℕ) (c : Command) → (after_command (command_row t j c) t).servers ≡ t.servers
same-servers t j (commands.Begin s) = grind arith
same-servers t j (commands.Open s) = grind arith
same-servers t j (commands.Do s op) = grind arith
same-servers t j commands.End = grind arith
same-servers t j commands.Abort = grind arith

pub command-within : (n : ℕ) (t : ClientTable) (j : ℕ) (c : Command) → ClientWithin n t → CommandWithin n (command_row t j c)
command-within n t j c h = by (command_row t j c) (command-asked n t j c h) (same-servers t j c ∙ h.servers_are) (command_keeps t j c h.client)
  where
    by : (r : Commanded) → asked n r ≡ true → (after_command r t).servers ≡ n → IsClient (after_command r t) → CommandWithin n r
    by (Refuses refusal) a same is = tt
    by (Sends u to message) a same is = (record { client = is; servers_are = same; transaction = grind (arith, a); again = grind (arith, a) }, grind (arith, a))

-- ---- messages

abbrev taken_near : ℕ → ClientTable × Taken → Bool
taken_near n r = (is_any_near n r.0.transaction && is_again_within n r.0.outstanding) && are_within n (sent_for r.1)

take-near : (n : ℕ) (t : ClientTable) (m : Message) → is_any_near n t.transaction ≡ true → is_again_within n t.outstanding ≡ true → names_near n m ≡ true → taken_near n (take_row t m) ≡ true
take-near n t (messages.Begun c request answer) h k l = grind (arith, h, k, l)
take-near n t (messages.Opened c request T answer) h k l = by t.outstanding
  where
    opened : (j : ℕ) (answer : Option WorkId) → taken_near n (opened_row t j answer) ≡ true
    opened j (Some W) = grind (arith, h)
    opened j None = grind (arith, h)

    on : (o : Outstanding) (b : Bool) → taken_near n (if b then opened_row t o.event answer else (t, taken.Ignored)) ≡ true
    on o true = opened o.event answer
    on o false = grind (arith, h, k)

    by : (o : Option Outstanding) → taken_near n (if_waits t o (λ o. client_eq c t.client && (request_eq o.request request && (is_current t T && opens answer o.command))) (λ j. opened_row t j answer)) ≡ true
    by None = grind (arith, h, k)
    by (Some o) = on o (client_eq c t.client && (request_eq o.request request && (is_current t T && opens answer o.command)))
take-near n t (messages.Answer c request answer) h k l = grind (arith, h, k)
take-near n t (messages.Outcome c T outcomes.Committed) h k l = grind (arith, h, k, l)
take-near n t (messages.Outcome c T (outcomes.Aborted cause)) h k l = grind (arith, h, k, l)
take-near n t (messages.Outcome c T (outcomes.Waiting s u held)) h k l = grind (arith, h, k)
take-near n t (messages.Outcome c T (outcomes.NotKnown s epoch)) h k l = grind (arith, h, k)
take-near n t m h k l = grind (arith, h, k)

first-of : (a b : Bool) → (a && b) ≡ true → a ≡ true
first-of a b h = grind arith

second-of : (a b : Bool) → (a && b) ≡ true → b ≡ true
second-of a b h = grind arith

pub take-within : (n : ℕ) (t : ClientTable) (m : Message) → ClientWithin n t → names_near n m ≡ true → ClientWithin n (take_row t m).0 × (are_within n (sent_for (take_row t m).1) ≡ true)
take-within n t m h l = let near = take-near n t m h.transaction h.again l in let table = first-of _ _ near in
    (record { client = take_keeps t m h.client; servers_are = same m ∙ h.servers_are; transaction = first-of _ _ table; again = second-of _ _ table }, second-of _ _ near)
  where
    same : (m : Message) → (take_row t m).0.servers ≡ t.servers
    same (messages.Begun c request answer) = grind arith
    same (messages.Opened c request T answer) = grind arith
    same (messages.Answer c request answer) = grind arith
    same (messages.Outcome c T outcome) = grind arith
    same m = refl

pub new-within : (n : ℕ) (c : ClientNo) → ClientWithin n (new_table c n)
new-within n c = record { client = record { works = refl; waits = refl }; servers_are = refl; transaction = refl; again = refl }

pub over-within : (n : ℕ) (t : ClientTable) → ClientWithin n t → ClientWithin n (over t)
over-within n t h = record { client = record { works = refl; waits = refl }; servers_are = h.servers_are; transaction = refl; again = refl }
