-- A client that knows of its transactions.
use Rattle.jn_coord.proofs.Common.{◌≡◌, Bool, true, false, ◌&&◌, if◌then◌else◌, List, [], ◌∷◌, ◌++◌, Option, Some, None, Result, Ok, Err, length, refl, sym, ◌∙◌, ap, subst, arith, append-nil, is_some, is_ok, ClientNo, Tid, Tickets, tid_eq, Collected, Transaction, Stage, Open, Voting, Committed, Aborted, transaction_at, is_voting, promised, all_in, closed, thanked, close_clients_row, StorageView, CallFault, Memory, Stopped, Remembered, table_of, are_above, rises, Longer, committed_as, committed_at, ballot_fits, ballots_fit, FitsStorage, IsStopped, goes, is_decided, is_of, next_closing, known_stage, known, knowing, left_by, changes_by, ClosesOn, ClientClosed, ClosesClient, longer_same}
use Rattle.jn_coord.proofs.ClosingLemmas.{changes-none}

-- what is the same of a transaction that is known of
record AreAlike (x y : Transaction) : Type 0 where
  tid : x.tid ≡ y.tid
  voting : is_voting x.stage ≡ is_voting y.stage
  committed : committed_as x.client x.stage ≡ committed_as y.client y.stage
  ballot : ballot_fits x.stage ≡ ballot_fits y.stage

alike : (c : Option ClientNo) (x : Transaction) → AreAlike (known c x) x
alike c x = by (is_of c x.client)
  where
    here : (s : Stage) → (is_voting (known_stage s) ≡ is_voting s) × (committed_as x.client (known_stage s) ≡ committed_as x.client s) × (ballot_fits (known_stage s) ≡ ballot_fits s)
    here Open = (refl, refl, refl)
    here (Voting b) = (refl, refl, refl)
    here (Committed d) = (refl, refl, refl)
    here (Aborted cause) = (refl, refl, refl)

    by : (b : Bool) → AreAlike (if b then record x { stage = known_stage x.stage } else x) x
    by true = let h = here x.stage in record { tid = refl; voting = h.0; committed = h.1; ballot = h.2 }
    by false = record { tid = refl; voting = refl; committed = refl; ballot = refl }

length-known : (c : Option ClientNo) (xs : List Transaction) → length (knowing c xs) ≡ length xs
length-known c [] = refl
length-known c (x ∷ xs) = let again = length-known c xs in omega (arith, again)

above-known : (c : Option ClientNo) (T : Tid) (xs : List Transaction) → are_above T (knowing c xs) ≡ are_above T xs
above-known c T [] = refl
above-known c T (x ∷ xs) = rw ((alike c x).tid, above-known c T xs) refl

rises-known : (c : Option ClientNo) (xs : List Transaction) → rises (knowing c xs) ≡ rises xs
rises-known c [] = refl
rises-known c (x ∷ xs) = rw ((alike c x).tid, above-known c x.tid xs, rises-known c xs) refl

promised-known : (c : Option ClientNo) (xs : List Transaction) → promised (knowing c xs) ≡ promised xs
promised-known c [] = refl
promised-known c (x ∷ xs) = rw ((alike c x).voting, promised-known c xs) refl

committed-known : (c : Option ClientNo) (T : Tid) (xs : List Transaction) → committed_at T (knowing c xs) ≡ committed_at T xs
committed-known c T [] = refl
committed-known c T (x ∷ xs) = rw ((alike c x).tid, (alike c x).committed, committed-known c T xs) refl

ballots-known : (c : Option ClientNo) (xs : List Transaction) → ballots_fit (knowing c xs) ≡ ballots_fit xs
ballots-known c [] = refl
ballots-known c (x ∷ xs) = rw ((alike c x).ballot, ballots-known c xs) refl

named-known : (c : Option ClientNo) (T : Tid) (xs : List Transaction) → is_some (transaction_at T (knowing c xs)) ≡ is_some (transaction_at T xs)
named-known c T [] = refl
named-known c T (x ∷ xs) = rw (alike c x).tid (by (tid_eq x.tid T) (named-known c T xs))
  where
    by : (b : Bool) → is_some (transaction_at T (knowing c xs)) ≡ is_some (transaction_at T xs) → is_some (if b then Some (known c x) else transaction_at T (knowing c xs)) ≡ is_some (if b then Some x else transaction_at T xs)
    by true h = refl
    by false h = h

fits-known : (c : Option ClientNo) (r : Remembered) (v : StorageView) → FitsStorage r v → FitsStorage (record r { transactions = knowing c r.transactions }) v
fits-known c r v f = record {
  serving = f.serving;
  clients = f.clients;
  few = rw (length-known c r.transactions) f.few;
  rising = rises-known c r.transactions ∙ f.rising;
  flags = λ T. f.flags T ∙ sym (committed-known c T r.transactions);
  promises = rw (promised-known c r.transactions) f.promises;
  ballots = ballots-known c r.transactions ∙ f.ballots;
  given = λ T h. f.given T (sym (named-known c T r.transactions) ∙ h);
}

stays-known : (x : Transaction) (s : Stage) → goes s ≡ false → closed s x ≡ record x { stage = known_stage s } ∷ []
stays-known x Open h = absurd (cc h)
stays-known x (Voting b) h = absurd (cc h)
stays-known x (Committed d) h = rw h refl
stays-known x (Aborted cause) h = absurd (cc h)

thanked-known : (x : Transaction) (s : Stage) → x.stage ≡ s → (is_decided s && goes s) ≡ false → thanked s x ≡ record x { stage = known_stage s } ∷ []
thanked-known x Open is h = ap (λ s. record x { stage = s } ∷ []) is
thanked-known x (Voting b) is h = ap (λ s. record x { stage = s } ∷ []) is
thanked-known x (Committed d) is h = let all : all_in d.works d.done ≡ false = h in rw all refl
thanked-known x (Aborted cause) is h = absurd (cc h)

-- where none goes, what is left is known of
left-known : (c : Option ClientNo) (xs : List Transaction) → next_closing c xs ≡ None → knowing c xs ≡ left_by c xs
left-known (Some c) [] e = refl
left-known None [] e = refl
left-known (Some c) (x ∷ xs) e = let again = left-known (Some c) xs in let stays = stays-known x x.stage in grind (arith, e)
left-known None (x ∷ xs) e = let again = left-known None xs in let stays = thanked-known x x.stage refl in grind (arith, e)

pub client-closed : (c : Option ClientNo) (r s t : Remembered) (v w : StorageView) → ClosesOn c r v s w → next_closing c s.transactions ≡ None → t ≡ record s { transactions = knowing c s.transactions } → ClientClosed c r v t w
client-closed c r s t v w f none ts = subst (λ q. ClientClosed c r v q w) (sym ts) (record {
  table = rw (f.requests, left-known c s.transactions none, f.left) refl;
  made = rw all f.made;
  calls = rw all f.calls;
  fits = fits-known c s w f.fits;
  accounts = f.accounts;
  later = f.later;
  no_stop = f.no_stop;
})
  where
    all : changes_by c r.transactions ≡ f.first
    all = f.split ∙ ap (λ cs. f.first ++ cs) (changes-none c s.transactions none) ∙ append-nil f.first

-- ---- every client knows

pub clients-stopped : (r s : Remembered) (v w : StorageView) (a : Result (Unit {0}) CallFault) → ClosesClient None r v a s w → is_ok a ≡ false → (k : Tickets) (before : Collected) → IsStopped (close_clients_row (table_of r) k) v w × Longer before before
clients-stopped r s v w (Ok x) f e k before = absurd (cc e)
clients-stopped r s v w (Err Memory) f e k before = absurd f
clients-stopped r s v w (Err Stopped) f e k before = (record { some = f.some; loadable = f.loadable; reaches = record { later = f.later; calls = f.calls }; stop = f.stop }, longer_same before before refl)
