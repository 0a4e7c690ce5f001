-- A coordinator closes transactions of its table, one after another, as steps of the machine.
use Rattle.jn_system_order.proofs.Common.{BlockNo, ◌≡◌, ◌≢◌, ◌⊎◌, inl, inr, ℕ, zero, suc, Bool, true, false, List, [], ◌∷◌, ◌++◌, append-nil, Option, Some, None, refl, sym, ◌∙◌, ap, subst, if◌then◌else◌, take, All, All-nil, ServerNo, ClientNo, Tid, server_eq, tid_eq, tid_tells, Message, Transaction, StableState, Change, DropFlag, Pick, made_all, at_tid, RowOutcome, Sent, CoordinatorTable, transaction_at, close_clients_row, Machine, Knowledge, Invariant, Atom, run, MayRun, Says, run_kept, World, Memory, of_coordinator, UpFact, Mirrors, IsTrue, IsAddressed, IsTransaction, AreTransactions, commits_of, knowledge_in, knowledge_of, Closes, Empty, Stays, Goes, Waits, Forgets, outcomes-close, Left, left_of, part_of, slice_get, LockUnit, left-is}
use Rattle.jn_system_order.proofs.Mirroring.Losing.{run-append, may-append}
use Rattle.jn_system_order.proofs.Mirroring.Mirrored.{StopsServer, transaction-still, transactions-still}
use Rattle.jn_system_order.proofs.Mirroring.QuietMoves.{ServerMoves, ServerStops}
use Rattle.jn_system_order.proofs.Mirroring.Transactions.{found-is}
use Rattle.jn_system_order.proofs.Mirroring.StageMoves.{DoesTable, table-does, all-here, known-here, is-up}
use Rattle.jn_system_order.proofs.Mirroring.Closing.{still-says, Keeps, keeps-on, keeps-same, made-append, same-server, found-still, at-same, listed, OneCloses, stays-one, goes-one, waits-one, forgets-one, Stops, forgets-stops}

abbrev IsTid : Tid → Tid → Type 0
IsTid T U = ((tid_eq T U ≡ true) × (T ≡ U)) ⊎ ((tid_eq T U ≡ false) × (T ≢ U))

-- each transaction of a table is known as it says
abbrev Known : Machine → List Transaction → Type 0
Known w xs = (U : Tid) (y : Transaction) → transaction_at U xs ≡ Some y → w.knowledge U ≡ knowledge_in y.stage

-- these are left, and these changes are made
pub record AllClose (s : ServerNo) (xs ys : List Transaction) (cs : List Change) (w : Machine) : Type 0 where
  pub atoms : List Atom
  pub now : Machine
  pub ran : run atoms w ≡ now
  pub may : MayRun atoms w
  pub keeps : Keeps w now
  pub found : (q : ServerNo) (p : Pick) → now.found q p ≡ (if server_eq s q then made_all cs (w.found s p) else w.found q p)
  pub gone : (U : Tid) → transaction_at U xs ≡ None → transaction_at U ys ≡ None
  pub out : (U : Tid) → transaction_at U xs ≡ None → now.knowledge U ≡ w.knowledge U
  pub inside : (U : Tid) (y : Transaction) → transaction_at U xs ≡ Some y → now.knowledge U ≡ knowledge_of (transaction_at U ys)
  pub transactions : AreTransactions now s ys

-- so many less are made of the rest
abbrev less : List Change → ℕ → ℕ
less [] n = n
less (d ∷ ds) zero = zero
less (d ∷ ds) (suc n) = less ds n

none-taken : (ds : List Change) → take zero ds ≡ []
none-taken [] = refl
none-taken (d ∷ ds) = refl

take-append : (a b : List Change) (n : ℕ) (x : StableState) → made_all (take n (a ++ b)) x ≡ made_all (take (less a n) b) (made_all (take n a) x)
take-append [] b zero x = refl
take-append [] b (suc n) x = refl
take-append (d ∷ a) b zero x = sym (ap (λ cs. made_all cs x) (none-taken b))
take-append (d ∷ a) b (suc n) x = take-append a b n _

-- found in two steps
two-found : (s q : ServerNo) (first second : StableState → StableState) (a b c : ServerNo → Pick → StableState) (p : Pick)
    → ((z : ServerNo) → b z p ≡ (if server_eq s z then first (a s p) else a z p)) → ((z : ServerNo) → c z p ≡ (if server_eq s z then second (b s p) else b z p))
    → c q p ≡ (if server_eq s q then second (first (a s p)) else a q p)
two-found s q first second a b c p f g = g q ∙ by (server_eq s q) (f q) ∙ refl
  where
    here : b s p ≡ first (a s p)
    here = f s ∙ ap (λ (t : Bool). if t then first (a s p) else a s p) (same-server s)

    by : (t : Bool) → b q p ≡ (if t then first (a s p) else a q p) → (if t then second (b s p) else b q p) ≡ (if t then second (first (a s p)) else a q p)
    by true h = ap second here
    by false h = h

none-some : (y : Transaction) → None ≡ Some y → ⊥
none-some y e = cc

some-none : (y : Transaction) → Some y ≡ None → ⊥
some-none y e = cc

-- one of a list is not the first, or it is
module _ (s : ServerNo) (x : Transaction) (xs : List Transaction) (w : Machine) where
  not-first : (U : Tid) → transaction_at U (x ∷ xs) ≡ None → (tid_eq x.tid U ≡ false) × (transaction_at U xs ≡ None)
  not-first U h = by (tid_tells x.tid U) h
    where
      by : IsTid x.tid U → (if tid_eq x.tid U then Some x else transaction_at U xs) ≡ None → (tid_eq x.tid U ≡ false) × (transaction_at U xs ≡ None)
      by (inl p) k = absurd (some-none x (subst (λ (b : Bool). (if b then Some x else transaction_at U xs) ≡ None) p.0 k))
      by (inr p) k = (p.0, subst (λ (b : Bool). (if b then Some x else transaction_at U xs) ≡ None) p.0 k)

  other-known : (f : Tid → Knowledge) (k : Knowledge) (U : Tid) → tid_eq x.tid U ≡ false → at_tid f x.tid k U ≡ f U
  other-known f k U e = ap (λ (b : Bool). if b then k else f U) e

  -- what is left of one, before the rest
  kept-other : (kept : Option Transaction) (ys : List Transaction) (U : Tid) → ((y : Transaction) → kept ≡ Some y → y.tid ≡ x.tid) → tid_eq x.tid U ≡ false → transaction_at U (listed kept ++ ys) ≡ transaction_at U ys
  kept-other None ys U same e = refl
  kept-other (Some y) ys U same e = ap (λ (T : Tid). if tid_eq T U then Some y else transaction_at U ys) (same y refl) ∙ ap (λ (b : Bool). if b then Some y else transaction_at U ys) e

  kept-here : (kept : Option Transaction) (ys : List Transaction) (U : Tid) → ((y : Transaction) → kept ≡ Some y → y.tid ≡ x.tid) → tid_eq x.tid U ≡ true → transaction_at U ys ≡ None → transaction_at U (listed kept ++ ys) ≡ kept
  kept-here None ys U same e none = none
  kept-here (Some y) ys U same e none = ap (λ (T : Tid). if tid_eq T U then Some y else transaction_at U ys) (same y refl) ∙ ap (λ (b : Bool). if b then Some y else transaction_at U ys) e

  kept-are : (v : Machine) (kept : Option Transaction) (ys : List Transaction) → ((y : Transaction) → kept ≡ Some y → (y.tid ≡ x.tid) × IsTransaction v s y) → transaction_at x.tid ys ≡ None → AreTransactions v s ys → AreTransactions v s (listed kept ++ ys)
  kept-are v None ys same none h = h
  kept-are v (Some y) ys same none h = ((same y refl).1, subst (λ (T : Tid). transaction_at T ys ≡ None) (sym (same y refl).0) none, h)

  first-known : Known w (x ∷ xs) → w.knowledge x.tid ≡ knowledge_in x.stage
  first-known known = known x.tid x (by (tid_tells x.tid x.tid))
    where
      by : IsTid x.tid x.tid → (if tid_eq x.tid x.tid then Some x else transaction_at x.tid xs) ≡ Some x
      by (inl p) = ap (λ (b : Bool). if b then Some x else transaction_at x.tid xs) p.0
      by (inr p) = absurd (p.1 refl)

  -- the others are known as before
  rest-known : (v : Machine) (k : Knowledge) → transaction_at x.tid xs ≡ None → ((U : Tid) → v.knowledge U ≡ at_tid w.knowledge x.tid k U) → Known w (x ∷ xs) → Known v xs
  rest-known v k alone same known U y h = by (tid_tells x.tid U)
    where
      by : IsTid x.tid U → v.knowledge U ≡ knowledge_in y.stage
      by (inl p) = absurd (none-some y (sym (subst (λ (T : Tid). transaction_at T xs ≡ None) p.1 alone) ∙ h))
      by (inr p) = same U ∙ other-known w.knowledge k U p.0 ∙ known U y (ap (λ (b : Bool). if b then Some x else transaction_at U xs) p.0 ∙ h)

  same-known : (U : Tid) → w.knowledge U ≡ at_tid w.knowledge x.tid (w.knowledge x.tid) U
  same-known U = at-same w.knowledge x.tid U (w.knowledge x.tid) refl

  module _ (inv : Invariant w) (up : w.up s ≡ true) (are : AreTransactions w s (x ∷ xs)) (known : Known w (x ∷ xs)) where
    -- one, and then the others
    closes-more : (kept : Option Transaction) (ds : List Change) (ys : List Transaction) (cs : List Change) → OneCloses s x kept ds w
        → ((v : Machine) → Invariant v → v.up s ≡ true → AreTransactions v s xs → Known v xs → AllClose s xs ys cs v) → AllClose s (x ∷ xs) (listed kept ++ ys) (ds ++ cs) w
    closes-more kept ds ys cs one again = join (again (run one.atoms w) (run_kept one.atoms w one.may inv) (ap (λ f. f s) one.keeps.up ∙ up)
        (transactions-still w (run one.atoms w) (still-says one.atoms w one.may inv) s xs are.2) (rest-known (run one.atoms w) (knowledge_of kept) are.1 one.knowledge known))
      where
        join : AllClose s xs ys cs (run one.atoms w) → AllClose s (x ∷ xs) (listed kept ++ ys) (ds ++ cs) w
        join rest = record {
          atoms = one.atoms ++ rest.atoms;
          now = rest.now;
          ran = run-append one.atoms rest.atoms w ∙ rest.ran;
          may = may-append one.atoms rest.atoms w one.may rest.may;
          keeps = keeps-on w (run one.atoms w) rest.now one.keeps rest.keeps;
          found = λ q p. two-found s q (made_all ds) (made_all cs) w.found (run one.atoms w).found rest.now.found p (λ z. one.found z p) (λ z. rest.found z p)
              ∙ ap (λ z. if server_eq s q then z else w.found q p) (sym (made-append ds cs (w.found s p)));
          gone = λ U h. let n = not-first U h in kept-other kept ys U (λ y e. (one.same y e).0) n.0 ∙ rest.gone U n.1;
          out = λ U h. let n = not-first U h in rest.out U n.1 ∙ one.knowledge U ∙ other-known w.knowledge (knowledge_of kept) U n.0;
          inside = λ U y h. by U y (tid_tells x.tid U) h;
          transactions = kept-are rest.now kept ys (λ y e. ((one.same y e).0, transaction-still (run one.atoms w) rest.now later s y (one.same y e).1)) (rest.gone x.tid are.1) rest.transactions;
        }
          where
            later : (message : Message) → Says (run one.atoms w) message → Says rest.now message
            later message h = subst (λ (v : Machine). Says v message) rest.ran (still-says rest.atoms (run one.atoms w) rest.may (run_kept one.atoms w one.may inv) message h)

            by : (U : Tid) (y : Transaction) → IsTid x.tid U → (if tid_eq x.tid U then Some x else transaction_at U xs) ≡ Some y → rest.now.knowledge U ≡ knowledge_of (transaction_at U (listed kept ++ ys))
            by U y (inl p) h = let alone = subst (λ (T : Tid). transaction_at T xs ≡ None) p.1 are.1 in rest.out U alone ∙ one.knowledge U ∙ ap (λ (b : Bool). if b then knowledge_of kept else w.knowledge U) p.0
                ∙ sym (ap knowledge_of (kept-here kept ys U (λ z e. (one.same z e).0) p.0 (rest.gone U alone)))
            by U y (inr p) h = rest.inside U y (subst (λ (b : Bool). (if b then Some x else transaction_at U xs) ≡ Some y) p.0 h) ∙ sym (ap knowledge_of (kept-other kept ys U (λ z e. (one.same z e).0) p.0))

    -- a stop changes no knowledge
    stops-more : (made : Pick → ℕ) (ds cs : List Change) → Stops s ds made w → ((v : Machine) → Invariant v → v.up s ≡ true → AreTransactions v s xs → Known v xs → Stops s cs (λ p. less ds (made p)) v) → Stops s (ds ++ cs) made w
    stops-more made ds cs one again = join (again one.now (subst (λ (v : Machine). Invariant v) one.ran (run_kept one.atoms w one.may inv)) (ap (λ f. f s) one.keeps.up ∙ up)
        (transactions-still w one.now (λ message h. subst (λ (v : Machine). Says v message) one.ran (still-says one.atoms w one.may inv message h)) s xs are.2)
        (rest-known one.now (w.knowledge x.tid) are.1 (λ U. ap (λ f. f U) one.known ∙ same-known U) known))
      where
        join : Stops s cs (λ p. less ds (made p)) one.now → Stops s (ds ++ cs) made w
        join rest = record {
          atoms = one.atoms ++ rest.atoms;
          now = rest.now;
          ran = run-append one.atoms rest.atoms w ∙ ap (λ (v : Machine). run rest.atoms v) one.ran ∙ rest.ran;
          may = may-append one.atoms rest.atoms w one.may (subst (λ (v : Machine). MayRun rest.atoms v) (sym one.ran) rest.may);
          keeps = keeps-on w one.now rest.now one.keeps rest.keeps;
          known = rest.known ∙ one.known;
          found = λ q p. two-found s q (λ z. made_all (take (made p) ds) z) (λ z. made_all (take (less ds (made p)) cs) z) w.found one.now.found rest.now.found p (λ z. one.found z p) (λ z. rest.found z p)
              ∙ ap (λ z. if server_eq s q then z else w.found q p) (sym (take-append ds cs (made p) (w.found s p)));
        }

    first : w.knowledge x.tid ≡ knowledge_in x.stage
    first = first-known known

    -- nothing is known otherwise
    same-rest : Known w xs
    same-rest = rest-known w (w.knowledge x.tid) are.1 same-known known

closes-all : {P : Transaction → Type 0} {xs ys : List Transaction} {cs : List Change} → Closes P xs ys cs → (s : ServerNo) (w : Machine) → Invariant w → w.up s ≡ true → AreTransactions w s xs → Known w xs → AllClose s xs ys cs w
closes-all Empty s w inv up are known = record {
  atoms = [];
  now = w;
  ran = refl;
  may = tt;
  keeps = keeps-same w;
  found = λ q p. found-still s q w p;
  gone = λ U h. h;
  out = λ U h. refl;
  inside = λ U y h. absurd (none-some y h);
  transactions = tt;
}
closes-all (Stays {xs = xs} {ys = ys} {cs = cs} x h) s w inv up are known =
    closes-more s x xs w inv up are known (Some x) [] ys cs (stays-one s x w inv up are.0 (first s x xs w inv up are known)) (λ v. closes-all h s v)
closes-all (Goes {xs = xs} {ys = ys} {cs = cs} x p e h) s w inv up are known =
    closes-more s x xs w inv up are known None [] ys cs (goes-one s x w inv up are.0 (first s x xs w inv up are known) x.stage refl e) (λ v. closes-all h s v)
closes-all (Waits {xs = xs} {ys = ys} {cs = cs} x d p e h) s w inv up are known =
    closes-more s x xs w inv up are known _ [] ys cs (waits-one s x w inv up are.0 (first s x xs w inv up are known) d e) (λ v. closes-all h s v)
closes-all (Forgets {xs = xs} {ys = ys} {cs = cs} x d p e g h) s w inv up are known =
    closes-more s x xs w inv up are known None (DropFlag x.tid ∷ []) ys cs (forgets-one s x w inv up are.0 (first s x xs w inv up are known) d e g) (λ v. closes-all h s v)

stops-all : {P : Transaction → Type 0} {xs ys : List Transaction} {cs : List Change} → Closes P xs ys cs → (s : ServerNo) (made : Pick → ℕ) (w : Machine) → Invariant w → w.up s ≡ true → AreTransactions w s xs → Known w xs → Stops s cs made w
stops-all Empty s made w inv up are known = record {
  atoms = [];
  now = w;
  ran = refl;
  may = tt;
  keeps = keeps-same w;
  known = refl;
  found = λ q p. found-still s q w p ∙ ap (λ z. if server_eq s q then z else w.found q p) (nothing (made p) (w.found s p));
}
  where
    nothing : (n : ℕ) (x : StableState) → x ≡ made_all (take n []) x
    nothing zero x = refl
    nothing (suc n) x = refl
stops-all (Stays {xs = xs} x h) s made w inv up are known = stops-all h s made w inv up are.2 (same-rest s x xs w inv up are known)
stops-all (Goes {xs = xs} x p e h) s made w inv up are known = stops-all h s made w inv up are.2 (same-rest s x xs w inv up are known)
stops-all (Waits {xs = xs} x d p e h) s made w inv up are known = stops-all h s made w inv up are.2 (same-rest s x xs w inv up are known)
stops-all (Forgets {xs = xs} {cs = cs} x d p e g h) s made w inv up are known =
    stops-more s x xs w inv up are known made (DropFlag x.tid ∷ []) cs (forgets-stops s x w inv up are.0 (first s x xs w inv up are known) d e g made) (λ v. stops-all h s (λ p. less (DropFlag x.tid ∷ []) (made p)) v)

-- none of these changes is found in part
closes-whole : {P : Transaction → Type 0} {xs ys : List Transaction} {cs : List Change} → Closes P xs ys cs → (n : ℕ) (gone : BlockNo → Bool) (u : LockUnit) → part_of gone (slice_get cs n) u ≡ None
closes-whole Empty zero gone u = refl
closes-whole Empty (suc n) gone u = refl
closes-whole (Stays x h) n gone u = closes-whole h n gone u
closes-whole (Goes x p e h) n gone u = closes-whole h n gone u
closes-whole (Waits x d p e h) n gone u = closes-whole h n gone u
closes-whole (Forgets x d p e g h) zero gone u = refl
closes-whole (Forgets x d p e g h) (suc n) gone u = closes-whole h n gone u

-- ---- the row

module _ (r : World) (w : Machine) (s : ServerNo) (m : Memory) (mirrors : Mirrors r w) (is : r.memory s ≡ Some m) (up : UpFact s m (r.found s))
    (grow : (atoms : List Atom) → MayRun atoms w → (message : Message) → Says w message → Says (run atoms w) message) (inv : Invariant w) where
  abbrev xs : List Transaction
  xs = m.coordinator.transactions

  are : AreTransactions w s xs
  are = all-here r w s m mirrors is up grow inv

  all-known : Known w xs
  all-known U y h = let f = found-is w s U xs y are h in known-here r w s m mirrors is up grow inv U (ap (λ (T : Tid). T.server) (sym f.1) ∙ f.0.place) ∙ ap knowledge_of h

  module _ {P : Transaction → Type 0} {ys : List Transaction} {cs : List Change} (h : Closes P xs ys cs) where
    pub closing : AllClose s xs ys cs w
    closing = closes-all h s w inv (is-up r w s m mirrors is up grow inv s refl) are all-known

    pub closing-stops : (row : RowOutcome CoordinatorTable) → row.changes ≡ cs → (made : Pick → Left) → ServerStops s (of_coordinator m row) made w
    closing-stops row same made = let stop = stops-all h s (λ p. (made p).whole) w inv (is-up r w s m mirrors is up grow inv s refl) are all-known in record {
      atoms = stop.atoms;
      may = stop.may;
      does = subst (λ (v : Machine). StopsServer s (of_coordinator m row) made w v) (sym stop.ran) (record {
        up = λ q ne. ap (λ f. f q) stop.keeps.up;
        found = λ q p. stop.found q p ∙ ap (λ z. if server_eq s q then z else w.found q p) (sym (left-is (made p) cs (w.found s p) (λ g u. closes-whole h (made p).whole g u))) ∙ ap (λ cs. if server_eq s q then left_of (made p) cs (w.found s p) else w.found q p) (sym same);
        elsewhere = λ W ne. ap (λ f. f W) stop.keeps.active;
        next = λ W ne. ap (λ f. f W) stop.keeps.next;
        ticket = λ q ne. ap (λ f. f q) stop.keeps.ticket;
        knowledge = λ T ne. ap (λ f. f T) stop.known;
        history = stop.keeps.history;
        ended = stop.keeps.ended;
        grows = λ message h. subst (λ (v : Machine). Says v message) stop.ran (grow stop.atoms stop.may message h);
      });
    }

    abbrev v : Machine
    v = closing.now

    closed-grows : (message : Message) → Says w message → Says v message
    closed-grows message h = subst (λ (z : Machine). Says z message) closing.ran (grow closing.atoms closing.may message h)

    pub closed-known : (U : Tid) → U.server ≡ s → v.knowledge U ≡ knowledge_of (transaction_at U ys)
    closed-known U e = by (transaction_at U xs) refl
      where
        by : (o : Option Transaction) → transaction_at U xs ≡ o → v.knowledge U ≡ knowledge_of (transaction_at U ys)
        by None h = closing.out U h ∙ known-here r w s m mirrors is up grow inv U e ∙ ap knowledge_of h ∙ sym (ap knowledge_of (closing.gone U h))
        by (Some y) h = closing.inside U y h

    pub closed-elsewhere : (U : Tid) → s ≢ U.server → v.knowledge U ≡ w.knowledge U
    closed-elsewhere U ne = by (transaction_at U xs) refl
      where
        by : (o : Option Transaction) → transaction_at U xs ≡ o → v.knowledge U ≡ w.knowledge U
        by None h = closing.out U h
        by (Some y) h = let f = found-is w s U xs y are h in absurd (ne (sym f.0.place ∙ ap (λ (T : Tid). T.server) f.1))

    module _ (seen : ClientNo → ℕ) (sent : List Sent) (says : All (IsTrue v) sent) (addressed : All IsAddressed sent) where
      abbrev row : RowOutcome CoordinatorTable
      row = record { table = record { transactions = ys; seen = seen }; changes = cs; messages = sent; notes = []; tickets = m.tickets }

      does : DoesTable s row w v
      does = record {
        up = λ q. ap (λ f. f q) closing.keeps.up;
        found = closing.found;
        active = λ W. ap (λ f. f W) closing.keeps.active;
        next = λ W. ap (λ f. f W) closing.keeps.next;
        ticket_here = ap (λ f. f s) closing.keeps.ticket ∙ mirrors.ticket s m is;
        ticket_elsewhere = λ q ne. ap (λ f. f q) closing.keeps.ticket;
        knowledge_here = closed-known;
        knowledge_elsewhere = closed-elsewhere;
        transactions = closing.transactions;
        commits = ap commits_of closing.keeps.history ∙ sym (append-nil (commits_of w.history));
        ended = closing.keeps.ended;
        grows = closed-grows;
        says = says;
        addressed = addressed;
      }

      -- a row that does nothing else
      pub closing-moves : ServerMoves s (of_coordinator m row) w
      closing-moves = record {
        atoms = closing.atoms;
        may = closing.may;
        does = table-does r w s m mirrors is up grow inv row (run closing.atoms w) (subst (λ (z : Machine). DoesTable s row w z) (sym closing.ran) does);
        stops = closing-stops row refl;
      }

  -- every outcome counts as thanked
  pub close-moves : ServerMoves s (of_coordinator m (close_clients_row m.coordinator m.tickets)) w
  close-moves = let h = outcomes-close xs in closing-moves h m.coordinator.seen [] (All-nil (IsTrue (closing h).now)) (All-nil IsAddressed)
