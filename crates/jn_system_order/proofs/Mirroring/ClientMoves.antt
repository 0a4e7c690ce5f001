-- What a client does, as steps of the machine: it sends what is true, and where it thanks, it asks nothing more.
use Rattle.jn_system_order.proofs.Common.{◌≡◌, subst, arith, not, slice_get, Step, is_shown, Bool, true, false, List, [], ◌∷◌, ◌++◌, append-nil, ℕ, Option, Some, None, refl, sym, ◌∙◌, ap, All, All-nil, All-cons, All-append, ClientNo, Client, Server, Message, Text, Outstanding, Taken, Sent, ClientTable, take_row, is_end, sent_again, Machine, Atom, Close, run, MayRun, Says, at_tid_here, World, at_client, commits_in, committed_in, again, sent_now, Mirrors, MovesTo, IsTrue, IsAddressed, IsOutstanding, IsClient, commits_of, one-client, ClientRow, by_command, by_ignoring, by_answering, by_telling}
use Rattle.jn_msgs.specs.declared.message.Message.TheVariants as messages
use Rattle.jn_report.specs.declared.line.Text.TheVariants as says
use Rattle.jn_system_order.proofs.Mirroring.Mirrored.{All-grows, transactions-still, client-still, commits-more}
use Rattle.jn_system_order.proofs.Mirroring.ClientRows.{Tells, commands-tell, IsThanks, TakesRow, takes}

-- the machine's steps have changed only what has happened
pub record SameServers (w v : Machine) : Type 0 where
  pub up : v.up ≡ w.up
  pub found : v.found ≡ w.found
  pub active : v.active ≡ w.active
  pub next : v.next ≡ w.next
  pub ticket : v.ticket ≡ w.ticket
  pub knowledge : v.knowledge ≡ w.knowledge
  pub history : v.history ≡ w.history

same-servers : (w : Machine) → SameServers w w
same-servers w = record { up = refl; found = refl; active = refl; next = refl; ticket = refl; knowledge = refl; history = refl }

-- a line that reports no commit
pub quiet-line : (lines : List Text) (line : Text) → committed_in line ≡ [] → commits_in (lines ++ line ∷ []) ≡ commits_in lines
quiet-line lines line h = commits-more lines (line ∷ []) ∙ ap (λ z. commits_in lines ++ (z ++ [])) h ∙ append-nil (commits_in lines)

not-of : (b : Bool) → not b ≡ true → b ≡ false
not-of b h = grind arith

module _ (r : World) (w : Machine) (h : Mirrors r w) (grow : (atoms : List Atom) → MayRun atoms w → (message : Message) → Says w message → Says (run atoms w) message) where
  pub mirrors-still : (v : Machine) → SameServers w v → ((message : Message) → Says w message → Says v message) → (clients : ClientNo → ClientTable) → ((c : ClientNo) → IsClient v (clients c))
      → (sent : List Sent) → All (IsTrue v) sent → All IsAddressed sent → (lines : List Text) → commits_in lines ≡ commits_in r.lines → Mirrors (record r { clients = clients; sent = sent; lines = lines }) v
  mirrors-still v same g clients are sent says addressed lines quiet = record {
    up = λ s. ap (λ f. f s) same.up ∙ h.up s;
    found = λ s c. ap (λ f. f s c) same.found ∙ h.found s c;
    active = λ W. ap (λ f. f W) same.active ∙ h.active W;
    next = λ W. ap (λ f. f W) same.next ∙ h.next W;
    ticket = λ s m e. ap (λ f. f s) same.ticket ∙ h.ticket s m e;
    knowledge = λ T. ap (λ f. f T) same.knowledge ∙ h.knowledge T;
    owner = λ s m W x e k. g (messages.Inquire x.tid W) (h.owner s m W x e k);
    transactions = λ s m e. transactions-still w v g s m.coordinator.transactions (h.transactions s m e);
    clients = are;
    commits = ap commits_of same.history ∙ h.commits ∙ sym quiet;
    says = says;
    addressed = addressed;
  }

  -- one client changes
  pub at-one : (v : Machine) → ((message : Message) → Says w message → Says v message) → (c : ClientNo) (t : ClientTable) → IsClient v t → (d : ClientNo) → IsClient v (at_client r.clients c t d)
  at-one v g c t now = one-client (λ d x. IsClient v x) r.clients c t now (λ d ne. client-still w v g (r.clients d) (h.clients d))

  one : (P : Sent → Type 0) (sent : Sent) → P sent → All P (sent ∷ [])
  one P sent k = All-cons P sent [] k (All-nil P)

  -- nothing happens in the machine
  pub stays-with : (clients : ClientNo → ClientTable) → ((c : ClientNo) → IsClient w (clients c)) → (sent : List Sent) → All (IsTrue w) sent → All IsAddressed sent → (lines : List Text) → commits_in lines ≡ commits_in r.lines
      → MovesTo (record r { clients = clients; sent = sent; lines = lines }) w
  stays-with clients are sent says addressed lines quiet = record { atoms = []; may = tt; ended = refl; mirrors = mirrors-still w (same-servers w) (λ message k. k) clients are sent says addressed lines quiet }

  -- a line is reported
  pub line-moves : (line : Text) → committed_in line ≡ [] → MovesTo (record r { lines = r.lines ++ line ∷ [] }) w
  line-moves line none = stays-with r.clients h.clients r.sent h.says h.addressed (r.lines ++ line ∷ []) (quiet-line r.lines line none)

  -- its transaction is closed
  thanks-with : (c : ClientNo) (t : ClientTable) (sent : Sent) (lines : List Text) → IsClient w t → IsThanks sent → commits_in lines ≡ commits_in r.lines → MovesTo (record r { clients = at_client r.clients c t; sent = r.sent ++ sent ∷ []; lines = lines }) w
  thanks-with c t (Server q, messages.Thanks d T) lines now to quiet = let atoms : List Atom = Close T ∷ [] in let v = run atoms w in let g = grow atoms (tt, tt) in record {
    atoms = atoms;
    may = (tt, tt);
    ended = refl;
    mirrors = mirrors-still v (record { up = refl; found = refl; active = refl; next = refl; ticket = refl; knowledge = refl; history = refl }) g (at_client r.clients c t) (at-one v g c t (client-still w v g t now)) (r.sent ++ (Server q, messages.Thanks d T) ∷ [])
        (All-append (IsTrue v) r.sent ((Server q, messages.Thanks d T) ∷ []) (All-grows w v g r.sent h.says) (one (IsTrue v) (Server q, messages.Thanks d T) (at_tid_here w.closed T true)))
        (All-append IsAddressed r.sent ((Server q, messages.Thanks d T) ∷ []) h.addressed (one IsAddressed (Server q, messages.Thanks d T) to)) lines quiet;
  }
  thanks-with c t (Client e, message) lines now to quiet = absurd to
  thanks-with c t (Server q, _) lines now to quiet = absurd to

  -- ---- once more

  again-true : (o : Option Outstanding) → IsOutstanding w o → All (IsTrue w) (sent_now (sent_again o)) × All IsAddressed (sent_now (sent_again o))
  again-true None k = (All-nil (IsTrue w), All-nil IsAddressed)
  again-true (Some o) k = (one (IsTrue w) (o.to, o.message) k.0, one IsAddressed (o.to, o.message) k.1)

  pub again-moves : (c : ClientNo) → MovesTo (again c r) w
  again-moves c = let k = again-true (r.clients c).outstanding (h.clients c).waits in
      stays-with r.clients h.clients (r.sent ++ sent_now (sent_again (r.clients c).outstanding)) (All-append (IsTrue w) r.sent (sent_now (sent_again (r.clients c).outstanding)) h.says k.0)
      (All-append IsAddressed r.sent (sent_now (sent_again (r.clients c).outstanding)) h.addressed k.1) r.lines refl

  -- ---- a row, of a command or of a message that is true

  module _ (c : ClientNo) (said : (k : ℕ) (message : Message) → slice_get r.sent k ≡ Some (Client c, message) → Says w message) where
    so-takes : (k : ℕ) (message : Message) (row : ClientTable × Taken) → slice_get r.sent k ≡ Some (Client c, message) → take_row (r.clients c) message ≡ row → TakesRow w row
    so-takes k message row is e = subst (λ z. TakesRow w z) e (takes w (r.clients c) (h.clients c) message (said k message is))

    pub row-moves : (step : Step) (t : ClientTable) (sent : List Sent) (lines : List Text) → ClientRow r c step t sent lines → is_shown step ≡ true → MovesTo (record r { clients = at_client r.clients c t; sent = sent; lines = lines }) w
    row-moves _ _ _ _ (by_command command t to message e) shown = let k = subst (λ row. Tells w row) e (commands-tell w (r.clients c) (h.clients c) r.event command (not-of (is_end command) shown)) in
        stays-with (at_client r.clients c t) (at-one w (λ m l. l) c t k.0) (r.sent ++ (to, message) ∷ []) (All-append (IsTrue w) r.sent ((to, message) ∷ []) h.says (one (IsTrue w) (to, message) k.1))
        (All-append IsAddressed r.sent ((to, message) ∷ []) h.addressed (one IsAddressed (to, message) k.2)) r.lines refl
    row-moves _ _ _ _ (by_ignoring k room stop message t is e) shown =
        stays-with (at_client r.clients c t) (at-one w (λ m l. l) c t (so-takes k message _ is e)) r.sent h.says h.addressed (r.lines ++ says.Ignored k ∷ []) (quiet-line r.lines (says.Ignored k) refl)
    row-moves _ _ _ _ (by_answering k room stop message t to answer is e) shown = let now = so-takes k message _ is e in thanks-with c t (to, answer) r.lines now.0 now.1 refl
    row-moves _ _ _ _ (by_telling k room stop message t line None is e) shown = let now = so-takes k message _ is e in
        stays-with (at_client r.clients c t) (at-one w (λ m l. l) c t now.0) (r.sent ++ []) (All-append (IsTrue w) r.sent [] h.says (All-nil (IsTrue w)))
        (All-append IsAddressed r.sent [] h.addressed (All-nil IsAddressed)) (r.lines ++ line ∷ []) (quiet-line r.lines line now.1)
    row-moves _ _ _ _ (by_telling k room stop message t line (Some sent) is e) shown = let now = so-takes k message _ is e in thanks-with c t sent (r.lines ++ line ∷ []) now.0 now.2 (quiet-line r.lines line now.1)
