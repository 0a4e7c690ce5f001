-- A client's transactions are closed one by one.
use Rattle.jn_coord.proofs.Common.{◌≡◌, Bool, true, false, ◌+◌, ◌≤◌, ◌&&◌, if◌then◌else◌, List, [], ◌∷◌, ◌++◌, Option, Some, None, Result, Ok, Err, length, refl, sym, ◌∙◌, ap, subst, arith, length-append, append_assoc, ClientNo, Tid, tid_eq, tid_tells, Transaction, Stage, Open, Voting, Committed, Aborted, Change, DropFlag, StableState, made_all, made_by, transaction_at, without, is_voting, all_in, closed, thanked, thanked_changes, StorageView, IsLoadable, state, FlagDropped, storage_refl, storage_trans, Remembered, are_above, rises, is_ok, CallFault, Memory, Stopped, flag_told, committed_as, FitsStorage, Releases, goes, is_committed, is_decided, takes_part, next_closing, tid_in, left_by, changes_by, going_in, LetsGo, GoneFrom, StaysOrGoes, ClosesOn, ClosesNext, ClosingStopped, ClosesAll, left_of}
use Rattle.jn_rows.proofs.Left.{stop-first, left-past}
use Rattle.jn_store.proofs.Laws.{stop_since}
use Rattle.jn_coord.proofs.Tables.{at-named, for-found, counted, counted-then}
use Rattle.jn_coord.proofs.Fitting.{below-not, flags-without, no-votes, promise_held, fits-without}
use Rattle.jn_coord.proofs.Rows.{released-reaches, told-but}

above-apart : (T : Tid) (x : Transaction) (xs : List Transaction) (c : Option ClientNo) → are_above T xs ≡ true → next_closing c xs ≡ Some x → tid_eq T x.tid ≡ false
above-apart T x [] c h e = absurd (cc e)
above-apart T x (y ∷ ys) c h e = let again = above-apart T x ys c in let n = below-not T in let t = tid_tells T y.tid in grind (arith, h, e)

pub next-at : (c : Option ClientNo) (x : Transaction) (xs : List Transaction) → rises xs ≡ true → next_closing c xs ≡ Some x → transaction_at x.tid xs ≡ Some x
next-at c x [] h e = absurd (cc e)
next-at c x (y ∷ ys) h e = let again = next-at c x ys in let apart = above-apart y.tid x ys c in let t = tid_tells x.tid x.tid in grind (arith, h, e)

closed-none : (x : Transaction) (s : Stage) → goes s ≡ true → closed s x ≡ []
closed-none x Open h = refl
closed-none x (Voting b) h = refl
closed-none x (Committed d) h = rw h refl
closed-none x (Aborted cause) h = refl

thanked-none : (x : Transaction) (s : Stage) → (is_decided s && goes s) ≡ true → thanked s x ≡ []
thanked-none x Open h = absurd (cc h)
thanked-none x (Voting b) h = absurd (cc h)
thanked-none x (Committed d) h = let all : all_in d.works d.done ≡ true = h in rw all refl
thanked-none x (Aborted cause) h = refl

pub left-same : (c : Option ClientNo) (x : Transaction) (xs : List Transaction) → rises xs ≡ true → next_closing c xs ≡ Some x → left_by c (without x.tid xs) ≡ left_by c xs
left-same c x [] h e = absurd (cc e)
left-same (Some c) x (y ∷ ys) h e = let again = left-same (Some c) x ys in let apart = above-apart y.tid x ys (Some c) in let t = tid_tells x.tid x.tid in let none = closed-none y y.stage in grind (arith, h, e)
left-same None x (y ∷ ys) h e = let again = left-same None x ys in let apart = above-apart y.tid x ys None in let t = tid_tells x.tid x.tid in let none = thanked-none y y.stage in grind (arith, h, e)

changes-stay : (x : Transaction) (s : Stage) → goes s ≡ false → thanked_changes s x ≡ []
changes-stay x Open h = absurd (cc h)
changes-stay x (Voting b) h = absurd (cc h)
changes-stay x (Committed d) h = rw h refl
changes-stay x (Aborted cause) h = absurd (cc h)

changes-stay-thanked : (x : Transaction) (s : Stage) → (is_decided s && goes s) ≡ false → thanked_changes s x ≡ []
changes-stay-thanked x Open h = refl
changes-stay-thanked x (Voting b) h = refl
changes-stay-thanked x (Committed d) h = let all : all_in d.works d.done ≡ false = h in rw all refl
changes-stay-thanked x (Aborted cause) h = absurd (cc h)

pub changes-first : (c : Option ClientNo) (x : Transaction) (xs : List Transaction) → rises xs ≡ true → next_closing c xs ≡ Some x → changes_by c xs ≡ thanked_changes x.stage x ++ changes_by c (without x.tid xs)
changes-first c x [] h e = absurd (cc e)
changes-first (Some c) x (y ∷ ys) h e = let again = changes-first (Some c) x ys in let apart = above-apart y.tid x ys (Some c) in let t = tid_tells x.tid x.tid in let stay = changes-stay y y.stage in grind (arith, h, e)
changes-first None x (y ∷ ys) h e = let again = changes-first None x ys in let apart = above-apart y.tid x ys None in let t = tid_tells x.tid x.tid in let stay = changes-stay-thanked y y.stage in grind (arith, h, e)

pub changes-none : (c : Option ClientNo) (xs : List Transaction) → next_closing c xs ≡ None → changes_by c xs ≡ []
changes-none (Some c) [] e = refl
changes-none None [] e = refl
changes-none (Some c) (y ∷ ys) e = let again = changes-none (Some c) ys in let stay = changes-stay y y.stage in grind (arith, e)
changes-none None (y ∷ ys) e = let again = changes-none None ys in let stay = changes-stay-thanked y y.stage in grind (arith, e)

pub length-less : (T : Tid) (xs : List Transaction) (x : Transaction) → transaction_at T xs ≡ Some x → length (without T xs) + 1 ≡ length xs
length-less T [] x e = absurd (cc e)
length-less T (y ∷ ys) x e = let again = length-less T ys x in grind (arith, e)

-- ---- one transaction goes

pub went-released : (r : Remembered) (v w : StorageView) (T : Tid) (y x : Transaction) → FitsStorage r v → transaction_at T r.transactions ≡ Some y → transaction_at T r.transactions ≡ Some x
    → is_committed y.stage ≡ false → Releases (is_voting y.stage) v w → GoneFrom x v w
went-released r v w T y x fits found at undecided p = for-found T r.transactions (λ z. GoneFrom z v w) y found (by (is_voting y.stage) refl p) x at
  where
    named : y.tid ≡ T
    named = at-named T r.transactions y found

    none : (s : Stage) → is_committed s ≡ false → (committed_as y.client s ≡ None) × (thanked_changes s y ≡ [])
    none Open e = (refl, refl)
    none (Voting b) e = (refl, refl)
    none (Committed d) e = absurd (cc e)
    none (Aborted cause) e = (refl, refl)

    flags : (U : Tid) → flag_told ((state v).flags U) ≡ (if tid_eq y.tid U then None else flag_told ((state v).flags U))
    flags U = rw named (flags-without r v T y fits found (none y.stage undecided).0 U)

    by : (b : Bool) → is_voting y.stage ≡ b → Releases b v w → GoneFrom y v w
    by false still e = subst (λ z. GoneFrom y v z) (sym e) (record {
      serving = fits.serving;
      epoch = refl;
      flags = flags;
      promises = no-votes v _ y.stage still refl;
      accounts = refl;
      made = rw (none y.stage undecided).1 refl;
      calls = omega arith;
      later = storage_refl v;
      no_stop = refl;
    })
    by true voting p = record {
      serving = p.serving;
      epoch = ap (λ u. (state u).epoch) p.released;
      flags = λ U. ap (λ u. flag_told ((state u).flags U)) p.released ∙ flags U;
      promises = rw voting (let less = ap (λ u. u.accounts.promised_records) p.released in let held = promise_held T r.transactions y found voting in omega (arith, less, held, fits.promises));
      accounts = counted v.accounts w.accounts _ _ (ap (λ u. u.accounts) p.released);
      made = rw (none y.stage undecided).1 (ap (λ u. state u) p.released);
      calls = let same = ap (λ u. u.store.calls) p.released in omega (arith, same);
      later = (released-reaches v w p).later;
      no_stop = ap (λ u. u.store.stops) p.released;
    }

going-changes : (x : Transaction) (s : Stage) → is_committed s ≡ true → goes s ≡ true → thanked_changes s x ≡ DropFlag x.tid ∷ []
going-changes x Open c g = absurd (cc c)
going-changes x (Voting b) c g = absurd (cc c)
going-changes x (Committed d) c g = rw g refl
going-changes x (Aborted cause) c g = absurd (cc c)

quiet-committed : (s : Stage) → is_committed s ≡ true → is_voting s ≡ false
quiet-committed Open c = absurd (cc c)
quiet-committed (Voting b) c = absurd (cc c)
quiet-committed (Committed d) c = refl
quiet-committed (Aborted cause) c = absurd (cc c)

pub went-dropped : (r : Remembered) (v w : StorageView) (T : Tid) (y x : Transaction) (ok : Bool) → transaction_at T r.transactions ≡ Some y → transaction_at T r.transactions ≡ Some x
    → is_committed y.stage ≡ true → goes y.stage ≡ true → FlagDropped v T ok w → ok ≡ true → GoneFrom x v w
went-dropped r v w T y x ok found at committed going put went = for-found T r.transactions (λ z. GoneFrom z v w) y found (record {
  serving = p.called.serving refl;
  epoch = ap (λ x. x.epoch) is;
  flags = λ U. ap (λ x. flag_told (x.flags U)) is ∙ told-but (tid_eq y.tid U) ((state v).flags U) None;
  promises = no-votes v _ y.stage (quiet-committed y.stage committed) (ap (λ a. a.promised_records) (p.accounts refl));
  accounts = counted v.accounts w.accounts _ _ (p.accounts refl);
  made = rw changes is;
  calls = rw changes p.called.calls;
  later = p.called.later;
  no_stop = p.called.no_stop refl;
}) x at
  where
    p : FlagDropped v y.tid true w
    p = subst (λ U. FlagDropped v U true w) (sym (at-named T r.transactions y found)) (subst (λ b. FlagDropped v T b w) went put)

    is : state w ≡ made_by (DropFlag y.tid) (state v)
    is = p.change.done refl (λ n. false)

    changes : thanked_changes y.stage y ≡ DropFlag y.tid ∷ []
    changes = going-changes y y.stage committed going

pub not-dropped : (r : Remembered) (v w : StorageView) (T : Tid) (y x : Transaction) (ok : Bool) → transaction_at T r.transactions ≡ Some y → transaction_at T r.transactions ≡ Some x
    → is_committed y.stage ≡ true → goes y.stage ≡ true → FlagDropped v T ok w → ok ≡ false → StaysOrGoes x v w
not-dropped r v w T y x ok found at committed going put fell = for-found T r.transactions (λ z. StaysOrGoes z v w) y found (record {
  one = going-changes y y.stage committed going;
  dropped = rw (at-named T r.transactions y found) (subst (λ b. FlagDropped v T b w) fell put);
}) x at

made-then : (cs ds : List Change) (x : StableState) → made_all (cs ++ ds) x ≡ made_all ds (made_all cs x)
made-then [] ds x = refl
made-then (c ∷ cs) ds x = made-then cs ds (made_by c x)

pub closes-next : (c : Option ClientNo) (r r' : Remembered) (v w : StorageView) (x : Transaction) → FitsStorage r v → next_closing c r.transactions ≡ Some x → GoneFrom x v w → r' ≡ record r { transactions = without x.tid r.transactions }
    → ClosesOn c r v r' w × (length r'.transactions + 1 ≤ length r.transactions)
closes-next c r r' v w x fits next gone ts = subst (λ q. ClosesOn c r v q w × (length q.transactions + 1 ≤ length r.transactions)) (sym ts) (
  record {
    requests = refl;
    left = left-same c x r.transactions fits.rising next;
    first = thanked_changes x.stage x;
    split = changes-first c x r.transactions fits.rising next;
    made = gone.made;
    calls = gone.calls;
    fits = fits-without r v w x.tid x fits at gone.serving gone.later.server gone.epoch gone.flags gone.promises;
    accounts = gone.accounts;
    later = gone.later;
    no_stop = gone.no_stop;
  },
  omega (arith, length-less x.tid r.transactions x at),
)
  where
    at : transaction_at x.tid r.transactions ≡ Some x
    at = next-at c x r.transactions fits.rising next

pub closing-stopped : (c : Option ClientNo) (r : Remembered) (v w : StorageView) (x : Transaction) → FitsStorage r v → next_closing c r.transactions ≡ Some x → StaysOrGoes x v w → ClosingStopped c r v w
closing-stopped c r v w x fits next s = record {
  some = λ p. rw first (stop-first (state v) (DropFlag x.tid) rest (w.found p) (s.dropped.change.stop refl p));
  loadable = s.dropped.called.loadable;
  calls = rw first (let few = s.dropped.called.calls in omega (arith, few));
  later = s.dropped.called.later;
  stop = s.dropped.called.stop refl;
}
  where
    rest : List Change
    rest = changes_by c (without x.tid r.transactions)

    first : changes_by c r.transactions ≡ DropFlag x.tid ∷ rest
    first = changes-first c x r.transactions fits.rising next ∙ ap (λ cs. cs ++ rest) s.one

-- ---- by their names

pub next-named : (o : Option Transaction) (T : Tid) → tid_in o ≡ Some T → (x : Transaction) × (o ≡ Some x) × (x.tid ≡ T)
next-named None T e = absurd (cc e)
next-named (Some x) T e = (x, refl, cc e)

takes-goes : (c : Option ClientNo) (x : Transaction) → takes_part c x ≡ true → goes x.stage ≡ true
takes-goes (Some c) x h = grind (arith, h)
takes-goes None x h = grind (arith, h)

next-goes : (c : Option ClientNo) (x : Transaction) (xs : List Transaction) → next_closing c xs ≡ Some x → goes x.stage ≡ true
next-goes c x [] e = absurd (cc e)
next-goes c x (y ∷ ys) e = let again = next-goes c x ys in let goes-too = takes-goes c y in grind (arith, e)

pub going-next : (c : Option ClientNo) (T : Tid) (xs : List Transaction) → rises xs ≡ true → tid_in (next_closing c xs) ≡ Some T → going_in (transaction_at T xs) ≡ true
going-next c T xs h e = let n = next-named (next_closing c xs) T e in subst (λ U. going_in (transaction_at U xs) ≡ true) n.2 (ap going_in (next-at c n.0 xs h n.1) ∙ next-goes c n.0 xs n.1)

gone-of : (x : Transaction) (v w : StorageView) (a : Result (Unit {0}) CallFault) → LetsGo x v a w → is_ok a ≡ true → GoneFrom x v w
gone-of x v w (Ok y) g e = g
gone-of x v w (Err f) g e = absurd (cc e)

stays-of : (x : Transaction) (v w : StorageView) (a : Result (Unit {0}) CallFault) → LetsGo x v a w → is_ok a ≡ false → StaysOrGoes x v w
stays-of x v w (Ok y) g e = absurd (cc e)
stays-of x v w (Err Memory) g e = absurd g
stays-of x v w (Err Stopped) g e = g

pub next-closed : (c : Option ClientNo) (r r' : Remembered) (v w : StorageView) (T : Tid) (a : Result (Unit {0}) CallFault) → FitsStorage r v → tid_in (next_closing c r.transactions) ≡ Some T
    → ((x : Transaction) → transaction_at T r.transactions ≡ Some x → LetsGo x v a w) → is_ok a ≡ true → r' ≡ record r { transactions = without T r.transactions }
    → ClosesOn c r v r' w × (length r'.transactions + 1 ≤ length r.transactions)
next-closed c r r' v w T a fits e goes ok ts = let n = next-named (next_closing c r.transactions) T e in let at = next-at c n.0 r.transactions fits.rising n.1 in
    closes-next c r r' v w n.0 fits n.1 (gone-of n.0 v w a (goes n.0 (subst (λ U. transaction_at U r.transactions ≡ Some n.0) n.2 at)) ok) (ts ∙ ap (λ U. record r { transactions = without U r.transactions }) (sym n.2))

pub next-stopped : (c : Option ClientNo) (r : Remembered) (v w : StorageView) (T : Tid) (a : Result (Unit {0}) CallFault) → FitsStorage r v → tid_in (next_closing c r.transactions) ≡ Some T
    → ((x : Transaction) → transaction_at T r.transactions ≡ Some x → LetsGo x v a w) → is_ok a ≡ false → ClosingStopped c r v w
next-stopped c r v w T a fits e goes fell = let n = next-named (next_closing c r.transactions) T e in let at = next-at c n.0 r.transactions fits.rising n.1 in
    closing-stopped c r v w n.0 fits n.1 (stays-of n.0 v w a (goes n.0 (subst (λ U. transaction_at U r.transactions ≡ Some n.0) n.2 at)) fell)

-- ---- one after another

pub closes-none : (c : Option ClientNo) (r : Remembered) (v : StorageView) → FitsStorage r v → ClosesOn c r v r v
closes-none c r v fits = record { requests = refl; left = refl; first = []; split = refl; made = refl; calls = omega arith; fits = fits; accounts = refl; later = storage_refl v; no_stop = refl }

pub closes-more : (c : Option ClientNo) (r s t : Remembered) (u v w : StorageView) → ClosesOn c r u s v → ClosesOn c s v t w → ClosesOn c r u t w
closes-more c r s t u v w f g = record {
  requests = g.requests ∙ f.requests;
  left = g.left ∙ f.left;
  first = f.first ++ g.first;
  split = f.split ∙ ap (λ cs. f.first ++ cs) g.split ∙ sym (append_assoc f.first g.first (changes_by c t.transactions));
  made = g.made ∙ ap (made_all g.first) f.made ∙ sym (made-then f.first g.first (state u));
  calls = let more = length-append f.first g.first in let calls = f.calls in let again = g.calls in omega (arith, more, calls, again);
  fits = g.fits;
  accounts = counted-then u.accounts v.accounts w.accounts f.accounts g.accounts;
  later = storage_trans u v w f.later g.later;
  no_stop = g.no_stop ∙ f.no_stop;
}

pub stopped-after : (c : Option ClientNo) (r s : Remembered) (u v w : StorageView) → ClosesOn c r u s v → ClosingStopped c s v w → ClosingStopped c r u w
stopped-after c r s u v w f g = record {
  some = λ p. let q = g.some p in record {
    left = record { whole = length f.first + q.left.whole; gone = q.left.gone };
    is_after = q.is_after ∙ ap (left_of q.left (changes_by c s.transactions)) f.made ∙ sym (left-past f.first (changes_by c s.transactions) q.left (state u))
        ∙ ap (λ cs. left_of (record { whole = length f.first + q.left.whole; gone = q.left.gone }) cs (state u)) (sym f.split);
  };
  loadable = λ p. subst (λ n. IsLoadable n u.accounts.heads (w.found p)) f.later.server (subst (λ n. IsLoadable v.accounts.server n (w.found p)) f.later.heads (g.loadable p));
  calls = let more = length-append f.first (changes_by c s.transactions) in let all = ap (λ cs. length cs) f.split in let calls = f.calls in let again = g.calls in omega (arith, more, all, calls, again);
  later = storage_trans u v w f.later g.later;
  stop = stop_since u.store v.store w.store f.later.store g.later.store g.stop;
}

-- where s is the table before the step
pub step-on : (c : Option ClientNo) (r s t : Remembered) (u v w : StorageView) (a : Result Bool CallFault) (b : Bool) → ClosesOn c r u s v → ClosesNext c s v a t w → a ≡ Ok b → b ≡ true → ClosesOn c r u t w × (length t.transactions + 1 ≤ length s.transactions)
step-on c r s t u v w a b f g e go = let h = subst (λ d. ClosesNext c s v (Ok d) t w) go (subst (λ d. ClosesNext c s v d t w) e g) in (closes-more c r s t u v w f h.0, h.1)

pub step-stopped : (c : Option ClientNo) (r s t : Remembered) (u v w : StorageView) (a : Result Bool CallFault) (fault : CallFault) → ClosesOn c r u s v → ClosesNext c s v a t w → a ≡ Err fault → ClosingStopped c r u w
step-stopped c r s t u v w a Memory f g e = absurd (subst (λ d. ClosesNext c s v d t w) e g)
step-stopped c r s t u v w a Stopped f g e = stopped-after c r s u v w f (subst (λ d. ClosesNext c s v d t w) e g)

pub all-stopped : (c : Option ClientNo) (r s : Remembered) (v w : StorageView) (a : Result (Unit {0}) CallFault) → ClosesAll c r v a s w → is_ok a ≡ false → ClosingStopped c r v w
all-stopped c r s v w (Ok x) h e = absurd (cc e)
all-stopped c r s v w (Err Memory) h e = absurd h
all-stopped c r s v w (Err Stopped) h e = h

pub all-closed : (c : Option ClientNo) (r s : Remembered) (v w : StorageView) (a : Result (Unit {0}) CallFault) → ClosesAll c r v a s w → is_ok a ≡ true → ClosesOn c r v s w × (next_closing c s.transactions ≡ None)
all-closed c r s v w (Ok x) h e = h
all-closed c r s v w (Err f) h e = absurd (cc e)
