-- A coordinator closes a transaction, as steps of the machine.
use Rattle.jn_system_order.proofs.Common.{◌≡◌, ◌≢◌, ◌⊎◌, inl, inr, ℕ, Bool, true, false, List, [], ◌∷◌, ◌++◌, Option, Some, None, true≢false, refl, sym, ◌∙◌, ap, subst, if◌then◌else◌, take, ServerNo, Tid, server_eq, tid_eq, server_tells, tid_tells, Message, Transaction, Stage, Open, Voting, Committed, Aborted, Commitment, StableState, Change, Pick, DropFlag, made_by, made_all, at_tid, all_in, Machine, Knowledge, Unknown, AllOver, Knows, Invariant, Atom, Close, Learn, Make, always, run, MayRun, Says, run_grows, says_still, at_tid_here, is_committed, IsStage, IsTransaction, knowledge_in, knowledge_of}
use Rattle.jn_system.specs.SmallSteps.Steps.{Abort}
use Rattle.jn_system_order.proofs.Mirroring.Mirrored.{some_made, made-one}
use Rattle.jn_system_order.proofs.Mirroring.Transactions.{in-all}

abbrev IsTid : Tid → Tid → Type 0
IsTid T U = ((tid_eq T U ≡ true) × (T ≡ U)) ⊎ ((tid_eq T U ≡ false) × (T ≢ U))

abbrev IsServer : ServerNo → ServerNo → Type 0
IsServer s q = ((server_eq s q ≡ true) × (s ≡ q)) ⊎ ((server_eq s q ≡ false) × (s ≢ q))

-- what a message says stays so
pub still-says : (atoms : List Atom) (w : Machine) → MayRun atoms w → Invariant w → (message : Message) → Says w message → Says (run atoms w) message
still-says atoms w may inv message h = says_still w (run atoms w) (run_grows atoms w may inv) message h

-- all but the stable states and what is known is as before
pub record Keeps (w v : Machine) : Type 0 where
  pub up : v.up ≡ w.up
  pub active : v.active ≡ w.active
  pub next : v.next ≡ w.next
  pub ticket : v.ticket ≡ w.ticket
  pub history : v.history ≡ w.history
  pub ended : v.ended ≡ w.ended

pub keeps-on : (a b c : Machine) → Keeps a b → Keeps b c → Keeps a c
keeps-on a b c f g = record { up = g.up ∙ f.up; active = g.active ∙ f.active; next = g.next ∙ f.next; ticket = g.ticket ∙ f.ticket; history = g.history ∙ f.history; ended = g.ended ∙ f.ended }

pub keeps-same : (w : Machine) → Keeps w w
keeps-same w = record { up = refl; active = refl; next = refl; ticket = refl; history = refl; ended = refl }

pub made-append : (a b : List Change) (x : StableState) → made_all (a ++ b) x ≡ made_all b (made_all a x)
made-append [] b x = refl
made-append (c ∷ a) b x = made-append a b (made_by c x)

pub same-server : (s : ServerNo) → server_eq s s ≡ true
same-server s = by (server_tells s s)
  where
    by : IsServer s s → server_eq s s ≡ true
    by (inl p) = p.0
    by (inr p) = absurd (p.1 refl)

pub found-still : (s q : ServerNo) (w : Machine) (p : Pick) → w.found q p ≡ (if server_eq s q then w.found s p else w.found q p)
found-still s q w p = by (server_tells s q)
  where
    by : IsServer s q → w.found q p ≡ (if server_eq s q then w.found s p else w.found q p)
    by (inl e) = ap (λ (z : ServerNo). w.found z p) (sym e.1) ∙ sym (ap (λ (b : Bool). if b then w.found s p else w.found q p) e.0)
    by (inr e) = sym (ap (λ (b : Bool). if b then w.found s p else w.found q p) e.0)

pub at-same : (f : Tid → Knowledge) (T U : Tid) (k : Knowledge) → f T ≡ k → f U ≡ at_tid f T k U
at-same f T U k e = by (tid_tells T U)
  where
    by : IsTid T U → f U ≡ (if tid_eq T U then k else f U)
    by (inl p) = ap f (sym p.1) ∙ e ∙ sym (ap (λ (b : Bool). if b then k else f U) p.0)
    by (inr p) = sym (ap (λ (b : Bool). if b then k else f U) p.0)

-- ---- one transaction

abbrev pub listed : Option Transaction → List Transaction
listed None = []
listed (Some x) = x ∷ []

-- this is left of it in the table, and these changes are made
pub record OneCloses (s : ServerNo) (x : Transaction) (kept : Option Transaction) (cs : List Change) (w : Machine) : Type 0 where
  pub atoms : List Atom
  pub may : MayRun atoms w
  pub keeps : Keeps w (run atoms w)
  pub found : (q : ServerNo) (p : Pick) → (run atoms w).found q p ≡ (if server_eq s q then made_all cs (w.found s p) else w.found q p)
  pub same : (y : Transaction) → kept ≡ Some y → (y.tid ≡ x.tid) × IsTransaction (run atoms w) s y
  pub knowledge : (U : Tid) → (run atoms w).knowledge U ≡ at_tid w.knowledge x.tid (knowledge_of kept) U

-- a server stops while it makes these changes
pub record Stops (s : ServerNo) (cs : List Change) (made : Pick → ℕ) (w : Machine) : Type 0 where
  pub atoms : List Atom
  pub now : Machine
  pub ran : run atoms w ≡ now
  pub may : MayRun atoms w
  pub keeps : Keeps w now
  pub known : now.knowledge ≡ w.knowledge
  pub found : (q : ServerNo) (p : Pick) → now.found q p ≡ (if server_eq s q then made_all (take (made p) cs) (w.found s p) else w.found q p)

module _ (s : ServerNo) (x : Transaction) (w : Machine) (inv : Invariant w) (up : w.up s ≡ true) (h : IsTransaction w s x) (known : w.knowledge x.tid ≡ knowledge_in x.stage) where
  is-up : w.up x.tid.server ≡ true
  is-up = ap w.up h.place ∙ up

  knows : (stage : Stage) → x.stage ≡ stage → Knows w x.tid (knowledge_in stage)
  knows stage e = subst (λ (z : Stage). Knows w x.tid (knowledge_in z)) e (subst (λ k. Knows w x.tid k) known (inv.core.knowledge x.tid is-up h.begun))

  stands : (stage : Stage) → x.stage ≡ stage → IsStage w x.tid stage
  stands stage e = subst (λ (z : Stage). IsStage w x.tid z) e h.is

  some-transaction : (y z : Transaction) → Some y ≡ Some z → y ≡ z
  some-transaction y z e = cc

  none-transaction : (y : Transaction) → None ≡ Some y → ⊥
  none-transaction y e = cc

  pub stays-one : OneCloses s x (Some x) [] w
  stays-one = record {
    atoms = [];
    may = tt;
    keeps = keeps-same w;
    found = λ q p. found-still s q w p;
    same = λ y e. let f = some-transaction x y e in (ap (λ (z : Transaction). z.tid) (sym f), subst (λ (z : Transaction). IsTransaction w s z) f h);
    knowledge = λ U. at-same w.knowledge x.tid U (knowledge_in x.stage) known;
  }

  aborts-one : w.named x.tid ≡ false → OneCloses s x None [] w
  aborts-one not-named = record {
    atoms = Abort x.tid ∷ [];
    may = (record { up = is-up; begun = h.begun; not_named = not-named }, tt);
    keeps = record { up = refl; active = refl; next = refl; ticket = refl; history = refl; ended = refl };
    found = λ q p. found-still s q w p;
    same = λ y e. absurd (none-transaction y e);
    knowledge = λ U. refl;
  }

  -- an undecided one is aborted; of an aborted one its client knows
  pub goes-one : (stage : Stage) → x.stage ≡ stage → is_committed stage ≡ false → OneCloses s x None [] w
  goes-one Open e f = aborts-one (knows Open e).0
  goes-one (Voting b) e f = aborts-one (knows (Voting b) e).0
  goes-one (Committed d) e f = absurd (true≢false f)
  goes-one (Aborted cause) e f = record {
    atoms = [];
    may = tt;
    keeps = keeps-same w;
    found = λ q p. found-still s q w p;
    same = λ y q. absurd (none-transaction y q);
    knowledge = λ U. at-same w.knowledge x.tid U Unknown (known ∙ ap knowledge_in e);
  }

  module _ (d : Commitment) (e : x.stage ≡ Committed d) where
    abbrev now-thanked : Transaction
    now-thanked = record x { stage = Committed (record d { thanked = true }) }

    -- it stays until all its works are done
    pub waits-one : OneCloses s x (Some now-thanked) [] w
    waits-one = record {
      atoms = Close x.tid ∷ [];
      may = (tt, tt);
      keeps = record { up = refl; active = refl; next = refl; ticket = refl; history = refl; ended = refl };
      found = λ q p. found-still s q w p;
      same = λ y q. let f = some-transaction now-thanked y q in (ap (λ (z : Transaction). z.tid) (sym f), subst (λ (z : Transaction). IsTransaction (run (Close x.tid ∷ []) w) s z) f its);
      knowledge = λ U. at-same w.knowledge x.tid U (knowledge_in (Committed d)) (known ∙ ap knowledge_in e);
    }
      where
        its : IsTransaction (run (Close x.tid ∷ []) w) s now-thanked
        its = record { place = h.place; begun = h.begun; is = ((stands (Committed d) e).0, (stands (Committed d) e).1, λ q. at_tid_here w.closed x.tid true) }

    module _ (g : all_in d.works d.done ≡ true) where
      all-over : AllOver (run (Close x.tid ∷ []) w) x.tid
      all-over = (λ q W k. (knows (Committed d) e).2 W (in-all W d.works d.done g ((stands (Committed d) e).1.all q W k)), at_tid_here w.closed x.tid true)

      -- and then it goes
      pub forgets-one : OneCloses s x None (DropFlag x.tid ∷ []) w
      forgets-one = record {
        atoms = Close x.tid ∷ Make always (DropFlag x.tid) ∷ Learn x.tid Unknown ∷ [];
        may = (tt, (λ c. all-over, (record { up = is-up; begun = h.begun; not_aborted = (knows (Committed d) e).1; knows = inr ((knows (Committed d) e).0, all-over) }, tt)));
        keeps = record { up = refl; active = refl; next = refl; ticket = refl; history = refl; ended = refl };
        found = λ q p. ap (λ (z : ServerNo). if server_eq z q then made_by (DropFlag x.tid) (w.found z p) else w.found q p) h.place;
        same = λ y q. absurd (none-transaction y q);
        knowledge = λ U. refl;
      }

      pub forgets-stops : (made : Pick → ℕ) → Stops s (DropFlag x.tid ∷ []) made w
      forgets-stops made = record {
        atoms = Close x.tid ∷ Make (λ p. some_made (made p)) (DropFlag x.tid) ∷ [];
        now = run (Close x.tid ∷ Make (λ p. some_made (made p)) (DropFlag x.tid) ∷ []) w;
        ran = refl;
        may = (tt, (λ c. all-over, tt));
        keeps = record { up = refl; active = refl; next = refl; ticket = refl; history = refl; ended = refl };
        known = refl;
        found = λ q p. ap (λ (z : ServerNo). if server_eq z q then (if some_made (made p) then made_by (DropFlag x.tid) (w.found z p) else w.found z p) else w.found q p) h.place
            ∙ ap (λ z. if server_eq s q then z else w.found q p) (made-one (DropFlag x.tid) (made p) (w.found s p));
      }
