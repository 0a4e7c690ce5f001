-- What a client's rows send is small, and weighs less than the message that it takes.
use Rattle.jn_system_settling.proofs.Common.{◌≡◌, ◌≤◌, ℕ, ◌+◌, Bool, true, List, [], ◌∷◌, refl, ◌∙◌, subst, arith, ◌&&◌, nat_tests, Command, Begin, Do, End, Abort, Message, OpenWork, Taken, Sent, ClientTable, Commanded, Refuses, Sends, command_row, take_row, names_of, are_apart, IsClient, after_command, sent_now, weight, are_near, is_few, is_small, sends_small, ClientSizes, weigh_all}
use Rattle.jn_base.specs.declared.op.Command.TheVariants.{Open}
use Rattle.jn_msgs.specs.declared.message.Message.TheVariants as messages
use Rattle.jn_rows.specs.declared.client.Taken.TheVariants as taken
use Rattle.jn_rows.proofs.ClientKeeps.{command_keeps, take_keeps, names_are_few}

-- ---- commands

abbrev small_commanded : ℕ → Commanded → Bool
small_commanded n (Refuses refusal) = true
small_commanded n (Sends t to message) = is_small n message && sends_small n t.outstanding

names-near : (n : ℕ) (ws : List OpenWork) → are_apart n ws ≡ true → are_near n (names_of ws) ≡ true
names-near n [] h = refl
names-near n (w ∷ ws) h = let again = names-near n ws in grind (arith, h)

-- what a client names in an end
its-names : (n : ℕ) (t : ClientTable) → ClientSizes n t → is_few n (names_of t.works) ≡ true
its-names n t h = let few = names_are_few t h.client in let same = h.servers_are in let near = subst (λ k. are_near k (names_of t.works) ≡ true) same (names-near t.servers t.works h.client.works) in grind (arith, nat_tests, near)

command-small : (n : ℕ) (t : ClientTable) (j : ℕ) (c : Command) → ClientSizes n t → small_commanded n (command_row t j c) ≡ true
command-small n t j (Begin s) h = grind arith
command-small n t j (Open s) h = grind arith
command-small n t j (Do s op) h = grind arith
command-small n t j End h = let few = its-names n t h in grind arith
command-small n t j Abort h = let few = its-names n t h in grind arith

same-servers : (t : ClientTable) (j : ℕ) (c : Command) → (after_command (command_row t j c) t).servers ≡ t.servers
same-servers t j (Begin s) = grind arith
same-servers t j (Open s) = grind arith
same-servers t j (Do s op) = grind arith
same-servers t j End = grind arith
same-servers t j Abort = grind arith

abbrev pub CommandedSizes : ℕ → Commanded → Type 0
CommandedSizes n (Refuses refusal) = Unit {0}
CommandedSizes n (Sends t to message) = ClientSizes n t × (is_small n message ≡ true)

pub command-sizes : (n : ℕ) (t : ClientTable) (j : ℕ) (c : Command) → ClientSizes n t → CommandedSizes n (command_row t j c)
command-sizes n t j c h = by (command_row t j c) (command-small n t j c h) (same-servers t j c ∙ h.servers_are) (command_keeps t j c h.client)
  where
    by : (r : Commanded) → small_commanded n r ≡ true → (after_command r t).servers ≡ n → IsClient (after_command r t) → CommandedSizes n r
    by (Refuses refusal) small same is = tt
    by (Sends u to message) small same is = (record { client = is; servers_are = same; again = grind (arith, small) }, grind (arith, small))

-- ---- messages

abbrev pub sent_with : Taken → List Sent
sent_with taken.Ignored = []
sent_with (taken.Send to message) = (to, message) ∷ []
sent_with (taken.Told line answer) = sent_now answer

pub take-light : (t : ClientTable) (m : Message) → weigh_all (sent_with (take_row t m).1) + 1 ≤ weight m
take-light t (messages.Begun c request answer) = grind arith
take-light t (messages.Opened c request T answer) = grind arith
take-light t (messages.Answer c request answer) = grind arith
take-light t (messages.Outcome c T outcome) = grind arith
take-light t m = grind arith

pub take-sizes : (n : ℕ) (t : ClientTable) (m : Message) → ClientSizes n t → ClientSizes n (take_row t m).0
take-sizes n t m h = record { client = take_keeps t m h.client; servers_are = same m ∙ h.servers_are; again = again m h.again }
  where
    same : (m : Message) → (take_row t m).0.servers ≡ t.servers
    same (messages.Begun c request answer) = grind arith
    same (messages.Opened c request T answer) = grind arith
    same (messages.Answer c request answer) = grind arith
    same (messages.Outcome c T outcome) = grind arith
    same m = refl

    again : (m : Message) → sends_small n t.outstanding ≡ true → sends_small n (take_row t m).0.outstanding ≡ true
    again (messages.Begun c request answer) k = grind (arith, k)
    again (messages.Opened c request T answer) k = grind (arith, k)
    again (messages.Answer c request answer) k = grind (arith, k)
    again (messages.Outcome c T outcome) k = grind (arith, k)
    again m k = k
