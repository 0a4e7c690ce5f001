-- Each step of the whole system sends a message for each name and each number that it draws.
use Rattle.jn_row_ranges.proofs.Common.{Left, ◌≡◌, ◌∙◌, sym, ◌≤◌, ℕ, List, [], ◌∷◌, length, length-append, Option, Some, None, ap, subst, arith, ServerNo, ClientNo, Tickets, AllFiles, Taken, ClientTable, take_row, RowOutcome, Sent, Pick, stable, World, Memory, at_server, new_memory, opening, server_timeout, restored, Step, after, run, DrawsOne, AreCovered, Text, Message, one-server, one-client, ClientRow, by_command, by_ignoring, by_answering, by_telling, ServerRow, of_message, of_work, of_closing, StepCase, client_row, row_done, row_stopped, gone_late, gone_down, come_up, found_anew, dismissed, quietly, step-case}
use Rattle.std.proofs.Common.{◌+◌}
use Rattle.jn_rows.specs.declared.client.Taken.TheVariants as taken
use Rattle.jn_system.proofs.WholeSystem.Grows.{Grows, grows}
use Rattle.jn_row_ranges.proofs.Taking.{command-draws, take-number}
use Rattle.jn_row_ranges.proofs.ServerRows.{row-drawn, step-tickets, timeout-tickets}

some : (a b : Memory) → Some a ≡ Some b → a ≡ b
some a b q = cc

module _ (w : World) (h : AreCovered w) where
  abbrev Few : ℕ → Option Memory → Type 0
  Few most o = (m : Memory) → o ≡ Some m → m.tickets.next ≤ most

  few-of : (most : ℕ) (a : Memory) → a.tickets.next ≤ most → Few most (Some a)
  few-of most a l m e = subst (λ (z : Memory). z.tickets.next ≤ most) (some a m e) l

  few-gone : (most : ℕ) → Few most None
  few-gone most m e = absurd (cc e)

  -- no fewer messages were sent then
  module _ (most : ℕ) (long : length w.sent ≤ most) where
    names-still : (q : ServerNo) → Few most (w.memory q)
    names-still q m e = let old = h.names q m e in omega (arith, old, long)

    names-one : (s : ServerNo) (o : Option Memory) → Few most o → (q : ServerNo) → Few most (at_server w.memory s o q)
    names-one s o l = one-server (λ q z. Few most z) w.memory s o l (λ q other. names-still q)

    requests-still : (c : ClientNo) → (w.clients c).next ≤ most + 1
    requests-still c = let old = h.requests c in omega (arith, old, long)

    taken-still : (c : ClientNo) (message : Message) (t : ClientTable) (r : Taken) → take_row (w.clients c) message ≡ (t, r) → t.next ≤ most + 1
    taken-still c message t r is = subst (λ (z : ClientTable × Taken). z.0.next ≤ most + 1) is (subst (λ (k : ℕ). k ≤ most + 1) (sym (take-number (w.clients c) message)) (requests-still c))

  client-covered : (step : Step) (c : ClientNo) (t : ClientTable) (sent : List Sent) (lines : List Text) → ClientRow w c step t sent lines → length w.sent ≤ length sent → t.next ≤ length sent + 1
  client-covered _ c _ _ _ (by_command command t to message is) long = let one = subst (DrawsOne (w.clients c)) is (command-draws (w.clients c) w.event command) in
      let old = h.requests c in let more = length-append w.sent ((to, message) ∷ []) in omega (arith, one, old, more)
  client-covered _ c _ _ _ (by_ignoring k room stop message t e is) long = taken-still _ long c message t taken.Ignored is
  client-covered _ c _ _ _ (by_answering k room stop message t to answer e is) long = taken-still _ long c message t (taken.Send to answer) is
  client-covered _ c _ _ _ (by_telling k room stop message t line answer e is) long = taken-still _ long c message t (taken.Told line answer) is

  row-draws : (s : ServerNo) (m : Memory) (stop : Option (Pick → Left)) (step : Step) (k : Option ℕ) (row : RowOutcome Memory) → ServerRow w s m stop step k row → row.table.tickets.next ≤ m.tickets.next + length row.messages
  row-draws s m _ _ _ _ (of_message stop k room message is) = let drawn = row-drawn m (stable (w.found s)) room message in drawn.next
  row-draws s m _ _ _ _ (of_work stop room row is) = let same = ap (λ (k : Tickets). k.next) (step-tickets m (stable (w.found s)) room row is) in omega (arith, same)
  row-draws s m _ _ _ _ of_closing = omega arith

  by-case : (step : Step) (now : World) → StepCase w step now → length w.sent ≤ length now.sent → AreCovered now
  by-case step _ (client_row _ c t sent lines row) long = record {
    names = names-still (length sent) long;
    requests = one-client (λ d (z : ClientTable). z.next ≤ length sent + 1) w.clients c t (client-covered step c t sent lines row long) (λ d other. requests-still (length sent) long d);
  }
  by-case step _ (row_done _ s m k row e is) long = record {
    names = names-one _ long s (Some row.table) (few-of _ row.table (let new = row-draws s m None step k row is in let old = h.names s m e in let more = length-append w.sent row.messages in omega (arith, new, old, more)));
    requests = requests-still _ long;
  }
  by-case step _ (row_stopped _ s m k row made e is) long = record { names = names-one _ long s None (few-gone _); requests = h.requests }
  by-case _ _ (gone_late s m T e) long = record {
    names = names-one _ long s (Some (server_timeout m T)) (few-of _ (server_timeout m T) (let same = ap (λ (k : Tickets). k.next) (timeout-tickets m T) in let old = h.names s m e in omega (arith, same, old)));
    requests = h.requests;
  }
  by-case _ _ (gone_down s m e) long = record { names = names-one _ long s None (few-gone _); requests = h.requests }
  by-case _ _ (come_up s pick Ws Ts e) long = record { names = names-one _ long s (Some (restored s (w.found s pick) Ws Ts)) (few-of _ _ (omega arith)); requests = h.requests }
  by-case step _ (found_anew _ s found lines e is) long = record { names = h.names; requests = h.requests }
  by-case _ _ dismissed long = record { names = h.names; requests = h.requests }
  by-case step _ (quietly _ event sent lines is) long = record { names = names-still (length sent) long; requests = requests-still (length sent) long }

  pub after-covered : (step : Step) → AreCovered (after step w)
  after-covered step = by-case step (after step w) (step-case w step) (longer (grows w step))
    where
      longer : Grows w (after step w) → length w.sent ≤ length (after step w).sent
      longer g = let more = ap length g.sent ∙ length-append w.sent g.new in omega (arith, more)

pub run-covered : (steps : List Step) (w : World) → AreCovered w → AreCovered (run steps w)
run-covered [] w h = h
run-covered (step ∷ steps) w h = run-covered steps (after step w) (after-covered w h step)

pub opening-covered : (servers : ℕ) (files : AllFiles) (epochs : ServerNo → ℕ) → AreCovered (opening servers files epochs)
opening-covered servers files epochs = record {
  names = λ s m e. subst (λ (z : Memory). z.tickets.next ≤ 0) (some (new_memory s (epochs s)) m e) (omega arith);
  requests = λ c. omega arith;
}
