-- Every step keeps the talk, whatever steps come one after another.
use Rattle.jn_system_reports.proofs.Common.{◌≡◌, ℕ, true, List, [], ◌∷◌, ◌++◌, append-nil, Option, Some, None, refl, sym, ◌∙◌, ap, subst, is_some, ServerNo, ClientNo, Tid, Client, Server, Command, Begin, Open, Do, End, Abort, AllFiles, Event, CommandOf, event_at, Message, Refusal, Text, Outstanding, Taken, ClientTable, Commanded, Refuses, Sends, if_idle, if_transaction, names_of, sends, Machine, Invariant, Atom, Ends, run_atoms, opening_world, MayRun, Says, has_committed, run_kept, opening_kept, run_grows, says_still, run_told, opening_told, World, commits_in, Step, Tell, IsStep, after, commanded, took, LockFacts, Mirrors, MovesTo, IsAddressed, IsTrue, is_shown, active_in, next_in, known_in, All-grows, client-still, Takes, takes, quiet-line, stays-with, step-moves, holds-of, Facts, still-facts, is_own, not_both, parts_of, end-may, end-mirrors, end-facts, step-facts, ServerFact, work_at, taken_by, request_of}
use Rattle.jn_system_reports.proofs.Telling.TransactionLines.{ops_in}
use Rattle.jn_msgs.specs.declared.message.Message.TheVariants as messages
use Rattle.jn_report.specs.declared.line.Refusal.TheVariants as refusals
use Rattle.jn_report.specs.declared.line.Text.TheVariants as says
use Rattle.jn_rows.specs.declared.client.Taken.TheVariants as taken
use Rattle.jn_system_reports.proofs.Reporting.Hearing.{Commands, commands}
use Rattle.jn_system_reports.proofs.Telling.Facts.{IsDrawn, Talk}
use Rattle.jn_system_reports.proofs.Telling.Quiet.{same-told, IsDumb, Moved, of-quiet, serving-talks}
use Rattle.jn_system_reports.proofs.Telling.ServerSteps.{nothing-quiet, TellCase, is_quiet, client_is_told, client_takes, client_asks_again, clients_dismissed, server_operates, tell-case}
use Rattle.jn_system_reports.proofs.Telling.OpSteps.{Serves, still-serves, moved-by, op-serves}
use Rattle.jn_system_reports.proofs.Telling.Clients.{no-client-talks, dismiss-talks}
use Rattle.jn_system_reports.proofs.Telling.ClientTells.{tell-talks, again-talks}
use Rattle.jn_system_reports.proofs.Telling.ClientTakes.{take-talks}
use Rattle.jn_system_reports.proofs.Telling.Ends.{end-talks}

-- a client is told in the event of its command
abbrev pub TellsAs : List Event → Step → World → Type 0
TellsAs events (Tell c command) w = event_at events w.event ≡ Some (CommandOf c command)
TellsAs events step w = Unit {0}

-- steps of the machine, after which all holds again
pub record Goes (events : List Event) (before : List Text) (r : World) (w : Machine) : Type 0 where
  pub atoms : List Atom
  pub may : MayRun atoms w
  pub mirrors : Mirrors r (run_atoms atoms w)
  pub facts : Facts r (run_atoms atoms w)
  pub talk : Talk events r (run_atoms atoms w)
  -- of what was ended nothing more is reported
  pub kept : (T : Tid) → w.ended T ≡ true → ops_in events T None r.lines ≡ ops_in events T None before

-- ---- a client's step changes no server

record SameServers (r r' : World) : Type 0 where
  memory : r'.memory ≡ r.memory
  found : r'.found ≡ r.found
  commits : commits_in r'.lines ≡ commits_in r.lines

commanded-same : (c : ClientNo) (row : Commanded) (r : World) → SameServers r (commanded c row r)
commanded-same c (Refuses refusal) r = record { memory = refl; found = refl; commits = quiet-line r.lines (says.Refused c r.event refusal) refl }
commanded-same c (Sends t to message) r = record { memory = refl; found = refl; commits = refl }

took-same : (w : Machine) (c : ClientNo) (k : ℕ) (t : ClientTable) (x : Taken) (r : World) → Takes w t x → SameServers r (took c k t x r)
took-same w c k t taken.Ignored r h = record { memory = refl; found = refl; commits = quiet-line r.lines (says.Ignored k) refl }
took-same w c k t (taken.Send to message) r h = record { memory = refl; found = refl; commits = refl }
took-same w c k t (taken.Told line None) r h = record { memory = refl; found = refl; commits = quiet-line r.lines line h.1 }
took-same w c k t (taken.Told line (Some sent)) r h = record { memory = refl; found = refl; commits = quiet-line r.lines line h.1 }

-- a refusal of a command is no answer of the files
own-dumb : (c : ClientNo) (j : ℕ) (refusal : Refusal) → is_own refusal ≡ true → IsDumb (says.Refused c j refusal)
own-dumb c j refusals.NoFile h = absurd (not_both true refl (sym h))
own-dumb c j refusals.Exists h = absurd (not_both true refl (sym h))
own-dumb c j _ h = tt

command-keeps : (events : List Event) (T : Tid) (c : ClientNo) (command : Command) (row : Commanded) (r : World) → Commands r.event command row → ops_in events T None (commanded c row r).lines ≡ ops_in events T None r.lines
command-keeps events T c command (Refuses refusal) r h = (same-told r.lines (says.Refused c r.event refusal ∷ []) (own-dumb c r.event refusal h, tt)).ops events T
command-keeps events T c command (Sends u to message) r h = refl

module _ (events : List Event) (files : AllFiles) (epochs : ServerNo → ℕ) (before : List Atom) (may : MayRun before (opening_world files epochs)) where
  abbrev w : Machine
  w = run_atoms before (opening_world files epochs)

  inv : Invariant w
  inv = run_kept before (opening_world files epochs) may (opening_kept files epochs)

  grow : (atoms : List Atom) → MayRun atoms w → (message : Message) → Says w message → Says (run_atoms atoms w) message
  grow atoms further message h = says_still w (run_atoms atoms w) (run_grows atoms w further inv) message h

  told : (atoms : List Atom) → MayRun atoms w → (T : Tid) → (run_atoms atoms w).named T ≡ has_committed T (run_atoms atoms w).history
  told atoms further T = (run_told files atoms w further inv (run_told files before (opening_world files epochs) may (opening_kept files epochs) (opening_told files epochs)).1).1.named T

  begun-on : (atoms : List Atom) → MayRun atoms w → (T : Tid) → w.begun T ≡ true → (run_atoms atoms w).begun T ≡ true
  begun-on atoms further T h = grow atoms further (messages.Open (record { 0 = 0 }) (record { 0 = 0 }) T) h

  module _ (r : World) (mirrors : Mirrors r w) (facts : Facts r w) (locks : LockFacts r) (talk : Talk events r w) where
    -- what holds of the openings whatever the machine's steps are
    abbrev FactsAfter : World → Type 0
    FactsAfter r' = (v : Machine) → v.ended ≡ w.ended → ((T : Tid) → w.begun T ≡ true → v.begun T ≡ true) → Facts r' v

    moves-so : (r' : World) (atoms : List Atom) → MayRun atoms w → Mirrors r' (run_atoms atoms w) → Moved r r' w (run_atoms atoms w)
    moves-so r' atoms further h = moved-by r w mirrors locks inv grow told r' atoms further h

    -- a server's step
    serves-on : (r' : World) → Serves r r' w → FactsAfter r' → Goes events r.lines r' w
    serves-on r' s f = record {
      atoms = s.atoms;
      may = s.may;
      mirrors = s.mirrors;
      facts = f (run_atoms s.atoms w) s.ended (begun-on s.atoms s.may);
      talk = serving-talks r r' w (run_atoms s.atoms w) (moves-so r' s.atoms s.may s.mirrors) events s.serves s.ended talk;
      kept = λ T e. s.serves.told.ops events T;
    }

    -- a client's step, after which nothing more is reported of what is ended
    abbrev TalksOn : World → Machine → Type 0
    TalksOn r' v = Talk events r' v × ((T : Tid) → v.ended T ≡ true → ops_in events T None r'.lines ≡ ops_in events T None r.lines)

    client-on : (r' : World) → MovesTo r' w → SameServers r r' → FactsAfter r' → ((v : Machine) → Mirrors r v → Facts r v → Invariant v → Talk events r v → TalksOn r' v) → Goes events r.lines r' w
    client-on r' m same f on = record {
      atoms = m.atoms;
      may = m.may;
      mirrors = m.mirrors;
      facts = f v m.ended (begun-on m.atoms m.may);
      talk = now.0;
      kept = λ T e. now.1 T (subst (λ f. f T ≡ true) (sym m.ended) e);
    }
      where
        v : Machine
        v = run_atoms m.atoms w

        back : Mirrors r (run_atoms m.atoms w)
        back = let h = m.mirrors in record {
          up = λ s. h.up s ∙ ap (λ g. is_some (g s)) same.memory;
          found = λ s c. h.found s c ∙ ap (λ g. g s c) same.found;
          active = λ W. h.active W ∙ ap (λ g. active_in (g W.server) W) same.memory;
          next = λ W. h.next W ∙ ap (λ g. next_in (g W.server) W) same.memory;
          ticket = λ s n e. h.ticket s n (ap (λ g. g s) same.memory ∙ e);
          knowledge = λ T. h.knowledge T ∙ ap (λ g. known_in (g T.server) T) same.memory;
          owner = λ s n W x e k. h.owner s n W x (ap (λ g. g s) same.memory ∙ e) k;
          transactions = λ s n e. h.transactions s n (ap (λ g. g s) same.memory ∙ e);
          clients = λ c. client-still w (run_atoms m.atoms w) (grow m.atoms m.may) (r.clients c) (mirrors.clients c);
          commits = h.commits ∙ same.commits;
          says = All-grows w (run_atoms m.atoms w) (grow m.atoms m.may) r.sent mirrors.says;
          addressed = mirrors.addressed;
        }

        now : TalksOn r' (run_atoms m.atoms w)
        now = on v back (still-facts r w v mirrors facts inv m.ended (begun-on m.atoms m.may) r refl refl facts.tables) (run_kept m.atoms w m.may inv)
            (serving-talks r r w v (moves-so r m.atoms m.may back) events (of-quiet r r w v (nothing-quiet r locks)) m.ended talk)

    -- ---- an End

    refused-on : (c : ClientNo) (refusal : Refusal) → IsDumb (says.Refused c r.event refusal) → Goes events r.lines (commanded c (Refuses refusal) r) w
    refused-on c refusal dumb = client-on _ (stays-with r w mirrors grow r.clients mirrors.clients r.sent mirrors.says mirrors.addressed (r.lines ++ says.Refused c r.event refusal ∷ []) (quiet-line r.lines (says.Refused c r.event refusal) refl))
        (commanded-same c (Refuses refusal) r) (λ v ended g. still-facts r w v mirrors facts inv ended g _ refl refl facts.tables)
        (λ v h f i t. (subst (λ l. Talk events (record r { sent = l; lines = r.lines ++ says.Refused c r.event refusal ∷ [] }) v) (append-nil r.sent) (no-client-talks events r v c [] (says.Refused c r.event refusal ∷ []) t tt (dumb, tt)), λ T e. (same-told r.lines (says.Refused c r.event refusal ∷ []) (dumb, tt)).ops events T))

    end-on : (c : ClientNo) (o : Option Outstanding) (x : Option Tid) → (r.clients c).outstanding ≡ o → (r.clients c).transaction ≡ x
        → Talk events (commanded c (if_idle o (if_transaction x (λ T. sends (r.clients c) r.event End (Server T.server) (messages.End (r.clients c).client (request_of (r.clients c).next) T (names_of (r.clients c).works))))) r) w
        → Goes events r.lines (commanded c (if_idle o (if_transaction x (λ T. sends (r.clients c) r.event End (Server T.server) (messages.End (r.clients c).client (request_of (r.clients c).next) T (names_of (r.clients c).works))))) r) w
    end-on c (Some o) x e f t = refused-on c refusals.ClientBusy tt
    end-on c None None e f t = refused-on c refusals.NoTransaction tt
    end-on c None (Some T) e f t = record {
      atoms = Ends T (parts_of (r.clients c).works) ∷ [];
      may = end-may r w mirrors facts inv grow c T e f;
      mirrors = end-mirrors r w mirrors facts inv grow c T e f;
      facts = end-facts r w mirrors facts inv grow c T e f;
      talk = end-talks r w mirrors facts inv grow c T e f events talk t;
      kept = λ U g. refl;
    }

    -- ---- every step

    by-case : (step : Step) (now : World) → TellCase r step now → MovesTo now w → FactsAfter now → TellsAs events step r → Goes events r.lines now w
    by-case _ _ (is_quiet step now q) m f e = serves-on now (still-serves r now w m (of-quiet r now w (run_atoms m.atoms w) q)) f
    by-case _ _ (client_is_told c command row is) m f e = client-on _ m (commanded-same c row r) f
        (λ v h g i t. (subst (λ x. Talk events (commanded c x r) v) is (tell-talks events r v h g i t c command e), λ T k. command-keeps events T c command row r (subst (Commands r.event command) is (commands (r.clients c) r.event command))))
    by-case _ _ (client_takes step c k message row sent is) m f e = client-on _ m (took-same w c k row.0 row.1 r (subst (λ x. Takes w x.0 x.1) is (takes w (r.clients c) (mirrors.clients c) message (holds-of (IsTrue w) r.sent k (Client c, message) mirrors.says sent)))) f
        (λ v h g i t. subst (λ x. TalksOn (taken_by c k x r) v) is (take-talks events r v h g t c k message sent (holds-of (IsTrue v) r.sent k (Client c, message) h.says sent)))
    by-case _ _ (client_asks_again c) m f e = client-on _ m (record { memory = refl; found = refl; commits = refl }) f (λ v h g i t. (again-talks events r v h g i t c, λ T k. refl))
    by-case _ _ clients_dismissed m f e = client-on _ m (record { memory = refl; found = refl; commits = refl }) f (λ v h g i t. (dismiss-talks events r v t, λ T k. refl))
    by-case _ _ (server_operates step s m k d request W number op e is) moves f _ = serves-on _ (op-serves r w mirrors locks inv grow told s m e (subst (λ o. ServerFact s o (r.found s)) e (locks s)) k d request W number op is
        (holds-of IsAddressed r.sent k (Server s, messages.Op d request W number op) mirrors.addressed is) (holds-of (IsDrawn r) r.sent k (Server s, messages.Op d request W number op) talk.drawn is) (work_at W m.worker) refl moves) f

    shown : (step : Step) → IsStep step r → is_shown step ≡ true → TellsAs events step r → Goes events r.lines (after step r) w
    shown step i s e = by-case step (after step r) (tell-case r locks step) (step-moves files epochs before r may mirrors locks step i s) (λ v ended g. step-facts r w v mirrors facts inv ended g locks step) e

    pub goes-on : (step : Step) → IsStep step r → TellsAs events step r → Goes events r.lines (after step r) w
    goes-on (Tell c End) i e = end-on c (r.clients c).outstanding (r.clients c).transaction refl refl (tell-talks events r w mirrors facts inv talk c End e)
    goes-on (Tell c (Begin s)) i e = shown (Tell c (Begin s)) i refl e
    goes-on (Tell c (Open s)) i e = shown (Tell c (Open s)) i refl e
    goes-on (Tell c (Do s op)) i e = shown (Tell c (Do s op)) i refl e
    goes-on (Tell c Abort) i e = shown (Tell c Abort) i refl e
    goes-on step i e = shown step i refl e
