-- Steps of clients without a message: each is told a command, or sends once more.
use Rattle.jn_world_refines.proofs.Common.{◌≡◌, ◌-◌, ℕ, Bool, true, false, List, [], ◌++◌, append-nil, length, slice_get, drop, Some, None, refl, sym, ◌∙◌, ap, subst, arith, if◌then◌else◌, nat_tests, ClientNo, Client, client_eq, DeviceState, Tell, Again, after, commanded, sent_now, World, commits_in, Line, ClientTable, Commanded, Refuses, command_row, again_row, pairs_view, StoreView, Setup, Moment, message_texts, traced, lines_at, Task, when_of, Standing, is_client_number, Stands, posted_by, with_sent, with_client, texts_commanded, sent_commanded, ActsNext, IsStepTo, tables_commanded}
use Rattle.jn_rows.specs.ClientLaws.{after_command}
use Rattle.jn_base.specs.declared.op.Command.{Command}
use Rattle.jn_rows.specs.Client.{Sends}
use Rattle.jn_world_refines.proofs.Core.{client-is}
use Rattle.jn_schedule.specs.declared.Event.TheVariants as events
use Rattle.jn_world_refines.proofs.Servers.{servers-same, clients-same}
use Rattle.jn_world_refines.proofs.Clients.{one-of, client-moved}
use Rattle.jn_world_refines.proofs.Plain.{plain-step}

same-client : (c : ClientNo) → client_eq c c ≡ true
same-client c = grind (arith, nat_tests)

-- what a client does with a command, in the system
record DoesSo (c : ClientNo) (t : ClientTable) (row : Commanded) (v now : World) : Type 0 where
  pub memory : now.memory ≡ v.memory
  pub found : now.found ≡ v.found
  pub here : now.clients c ≡ after_command row t
  pub others : (d : ClientNo) → client_eq c d ≡ false → now.clients d ≡ v.clients d
  pub sent : now.sent ≡ v.sent ++ sent_commanded row
  pub lines : now.lines ≡ v.lines ++ texts_commanded c v.event row

does-so : (c : ClientNo) (t : ClientTable) (row : Commanded) (v : World) → v.clients c ≡ t → DoesSo c t row v (commanded c row v)
does-so c t (Refuses refusal) v e = record { memory = refl; found = refl; here = e; others = λ d o. refl; sent = sym (append-nil v.sent); lines = refl }
does-so c t (Sends now to message) v e = record {
  memory = refl;
  found = refl;
  here = ap (λ (b : Bool). if b then now else v.clients c) (same-client c);
  others = λ d o. ap (λ (b : Bool). if b then now else v.clients d) o;
  sent = refl;
  lines = sym (append-nil v.lines);
}

names-none : (c : ClientNo) (event : ℕ) (row : Commanded) → commits_in (texts_commanded c event row) ≡ []
names-none c event (Refuses refusal) = refl
names-none c event (Sends t to message) = refl

module _ {S : Type 0} (look : S → StoreView) (device : S → DeviceState) (seen : (s : S) → look s ≡ pairs_view (device s)) (x : Setup) (w : Standing S) (m : Moment) (stand : Stands look device x w m)
    (c : ClientNo) (is : is_client_number c.0 ≡ true) (t : ClientTable) (at : slice_get w.clients (c.0 - 1) ≡ Some t) (more : List Task) where
  abbrev v : World
  v = m.state.course.world

  here-is : v.clients c ≡ t
  here-is = subst (λ (n : ℕ). v.clients (record { 0 = n }) ≡ t) (one-of c is) (client-is look device x w m stand (c.0 - 1) t at)

  -- A client is told a command: it is refused with its line, or its message is sent.
  pub told-step : (command : Command) → ActsNext x m (events.Command c command) more → (row : Commanded) → command_row t v.event command ≡ row → (lines : List Line)
      → IsStepTo look device x m (more ++ drop 1 m.state.tasks) (with_sent (posted_by (Client c) (sent_commanded row)) (with_client c (after_command row t) w))
      lines (lines ++ lines_at (when_of m.state) (texts_commanded c v.event row ++ traced w.trace (message_texts (Client c) (length w.net.sent) (sent_commanded row))))
  told-step command next row row-is lines = plain-step look device seen x w m stand (events.Command c command) more next (Client c) (Tell c command) (tables_commanded c (command_row (m.state.clients c) v.event command)) (Some (texts_commanded c v.event (command_row (m.state.clients c) v.event command))) refl tt (λ s reads n. refl) (sent_commanded row) (texts_commanded c v.event row) (names-none c v.event row) so.sent so.lines
      w.places (servers-same look device seen x w m stand _ (record { memory = λ q. ap (λ f. f q) so.memory; found = λ q. ap (λ f. f q) so.found; devices = λ q. refl }))
      _ (client-moved look device seen x w m stand c is (after_command row t) (after (Tell c command) v) so.here so.others) w.net.sent refl lines
    where
      so : DoesSo c t row v (after (Tell c command) v)
      so = subst (λ (u : World). DoesSo c t row v u) (sym (ap (λ (a : ClientTable). commanded c (command_row a v.event command) v) here-is ∙ ap (λ (r : Commanded). commanded c r v) row-is)) (does-so c t row v here-is)

  -- A client sends its outstanding message once more.
  pub asked-step : ActsNext x m (events.Again c) more → (lines : List Line)
      → IsStepTo look device x m (more ++ drop 1 m.state.tasks) (with_sent (posted_by (Client c) (sent_now (again_row t))) w)
      lines (lines ++ lines_at (when_of m.state) (traced w.trace (message_texts (Client c) (length w.net.sent) (sent_now (again_row t)))))
  asked-step next lines = plain-step look device seen x w m stand (events.Again c) more next (Client c) (Again c) (λ f. f) None refl tt (λ s reads n. refl) (sent_now (again_row t)) [] refl
      (ap (λ (a : ClientTable). v.sent ++ sent_now (again_row a)) here-is) (sym (append-nil v.lines))
      w.places (servers-same look device seen x w m stand _ (record { memory = λ q. refl; found = λ q. refl; devices = λ q. refl }))
      w.clients (clients-same look device seen x w m stand (after (Again c) v) refl) w.net.sent refl lines
