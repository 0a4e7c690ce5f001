-- Nothing that was sent is forgotten.
use Rattle.jn_system.proofs.Common.{Text, ◌≡◌, ℕ, List, [], ◌∷◌, ◌++◌, append-nil, refl, sym, ClientNo, stable, Sent, ClientTable, again_row, server_again, Step, sent_now}
use Rattle.jn_system.specs.WholeSystem.World.{World}
use Rattle.jn_system.specs.WholeSystem.Steps.{after}
use Rattle.jn_system.proofs.WholeSystem.StepCases.{ClientRow, by_command, by_ignoring, by_answering, by_telling, Quiet, client_repeats, server_repeats, StepCase, client_row, row_done, quietly, step-case}

pub record Grows (w now : World) : Type 0 where
  pub new : List Sent
  pub sent : now.sent ≡ w.sent ++ new

module _ (w : World) where
  client-sent : (step : Step) (c : ClientNo) (t : ClientTable) (sent : List Sent) (lines : List Text) → ClientRow w c step t sent lines → (new : List Sent) × (sent ≡ w.sent ++ new)
  client-sent _ c _ _ _ (by_command command t to message is) = ((to, message) ∷ [], refl)
  client-sent _ c _ _ _ (by_ignoring k room stop message t e is) = ([], sym (append-nil w.sent))
  client-sent _ c _ _ _ (by_answering k room stop message t to answer e is) = ((to, answer) ∷ [], refl)
  client-sent _ c _ _ _ (by_telling k room stop message t line answer e is) = (sent_now answer, refl)

  quiet-sent : (step : Step) (event : ℕ) (sent : List Sent) (lines : List Text) → Quiet w step event sent lines → (new : List Sent) × (sent ≡ w.sent ++ new)
  quiet-sent _ _ _ _ (client_repeats c) = (sent_now (again_row (w.clients c)), refl)
  quiet-sent _ _ _ _ (server_repeats s m e) = (server_again m (stable (w.found s)), refl)
  quiet-sent _ _ _ _ is = ([], sym (append-nil w.sent))

  by-case : (step : Step) (now : World) → StepCase w step now → Grows w now
  by-case step _ (client_row _ c t sent lines row) = let new = client-sent step c t sent lines row in record { new = new.0; sent = new.1 }
  by-case step _ (row_done _ s m k row e is) = record { new = row.messages; sent = refl }
  by-case step _ (quietly _ event sent lines is) = let new = quiet-sent step event sent lines is in record { new = new.0; sent = new.1 }
  by-case _ _ is = record { new = []; sent = sym (append-nil w.sent) }

  pub grows : (step : Step) → Grows w (after step w)
  grows step = by-case step (after step w) (step-case w step)
