-- Runs at which nothing strikes: what each step of them needs, so that no chance matters.
use Rattle.jn_wrong.proofs.Common.{not, nat_eq, nat_lt, ◌&&◌, slice_get, ServerNo, FileNo, File, Client, Server, Message, Pick, Sent, World, Memory, prints_of, Setup, Chance, none_free, Task, Begins, Meets, Acts, Rests, ComesUp, Dismisses, GoesDown, ClosesClients, CountsCommits, State, next_task, last_epoch, servers_of, first_busy, most_messages, next, calm, blank, no_maps}
use Rattle.std.specs.Prelude.{◌≡◌, ℕ, zero, suc, Bool, true, false, List, [], ◌∷◌, length, Option, Some, None, is_some}
use Rattle.jn_schedule.specs.declared.Event.TheVariants as events
use Rattle.jn_msgs.specs.declared.message.Message.TheVariants as messages
use Rattle.jn_machine.specs.Chances.{Free}

-- nothing strikes, a restart finds nothing, a show prints nothing, and nothing is free
abbrev pub still : Chance
still = record calm { found = Free none_free no_maps }

-- so many steps
abbrev pub goes : Setup → ℕ → State → State
goes x zero s = s
goes x (suc n) s = goes x n (next x still s)

-- what the message does hangs on no room
abbrev pub is_fixed : Message → Bool
is_fixed (messages.Open c request T) = true
is_fixed (messages.Op c request W number op) = true
is_fixed (messages.Drop T W) = true
is_fixed (messages.Begin c request) = true
is_fixed (messages.Abort c request T works) = true
is_fixed (messages.Thanks c T) = true
is_fixed (messages.Inquire T W) = true
is_fixed message = false

-- a server that is up takes such a message
abbrev pub is_sent_so : Setup → World → Option Sent → Bool
is_sent_so x w None = false
is_sent_so x w (Some (Client c, message)) = true
is_sent_so x w (Some (Server q, message)) = nat_lt q.0 x.servers && (is_some (w.memory q) && is_fixed message)

abbrev pub rests_so : Setup → World → List ℕ → Bool
rests_so x w [] = not (is_some (first_busy (λ q. false) w (servers_of x))) && not (nat_lt most_messages (length w.sent))
rests_so x w (k ∷ waiting) = is_sent_so x w (slice_get w.sent k)

-- no chance matters to the next task
abbrev pub does_so : Setup → Task → State → Bool
does_so x (Begins event) s = true
does_so x (Meets (events.Command c command)) s = true
does_so x (Meets events.Settle) s = true
does_so x (Acts (events.Again c)) s = true
does_so x (Acts (events.Nudge q)) s = true
does_so x (Acts (events.Scrub q)) s = nat_lt q.0 x.servers
does_so x Rests s = rests_so x s.course.world s.course.waiting
does_so x Dismisses s = true
does_so x (GoesDown q) s = nat_lt q.0 x.servers
does_so x (ClosesClients q) s = nat_lt q.0 x.servers
does_so x CountsCommits s = true
does_so x task s = false

-- whatever a restart of the server reads, nothing is stored
pub record IsBlank (x : Setup) (w : World) (q : ServerNo) : Type 0 where
  pub epoch : ℕ
  pub below : nat_lt q.0 x.servers ≡ true
  pub found : (c : Pick) → w.found q c ≡ blank epoch
  pub not_last : nat_eq epoch last_epoch ≡ false

-- there is nothing to print
pub record PrintsNothing (x : Setup) (w : World) (q : ServerNo) : Type 0 where
  pub memory : Memory
  pub below : nat_lt q.0 x.servers ≡ true
  pub up : w.memory q ≡ Some memory
  pub nothing : (f : FileNo) → prints_of q w memory (File f) ≡ None

abbrev pub DoesSo : Setup → Task → State → Type 0
DoesSo x (ComesUp q) s = IsBlank x s.course.world q
DoesSo x (Acts (events.Show q)) s = PrintsNothing x s.course.world q
DoesSo x (Meets (events.Show q)) s = PrintsNothing x s.course.world q
DoesSo x task s = does_so x task s ≡ true

abbrev pub DoesNext : Setup → Option Task → State → Type 0
DoesNext x None s = Unit {0}
DoesNext x (Some task) s = DoesSo x task s

-- so to so many steps
abbrev pub GoesSo : Setup → ℕ → State → Type 0
GoesSo x zero s = Unit {0}
GoesSo x (suc n) s = DoesNext x (next_task s) s × GoesSo x n (next x still s)
