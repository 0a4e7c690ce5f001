-- What stands before an abort: events with their numbers, and lines.
use Rattle.jn_system_reports.proofs.Common.{◌≡◌, ◌⊎◌, inl, inr, ◌<◌, ◌≤◌, ℕ, suc, ◌+◌, Bool, true, false, List, [], ◌∷◌, ◌++◌, Some, append-nil, length, refl, ◌∙◌, ap, subst, arith, ◌||◌, ◌&&◌, not, if◌then◌else◌, nat_lt, list_any, nat_tests, ServerNo, ClientNo, Tid, Cause, Requested, BrokenAt, LostAt, FullAt, client_eq, server_eq, tid_eq, tid_tells, Event, AtEvent, Text, Line, lines_at, lines_before, says, last_begun, is_in, any_event, lines_after, aborts, asks, begins, joins, goes_down, loses, breaks, is_caused_by, refuses_own, AreWithin, lines_at-earlier, lines_at-outside, lines_before-later, lines_before-whole, lines_before-append, at_event}
use Rattle.jn_base.specs.declared.op.Command.TheVariants as commands
use Rattle.jn_schedule.specs.declared.Event.TheVariants as events
use Rattle.jn_serial.specs.Lines.{is_before}
use Rattle.jn_serial.specs.Begun.{is_tid}
use Rattle.jn_system_reports.proofs.Reporting.Following.{texts-within}

-- ---- an event of this number, among these from a number on

abbrev pub Stands : ℕ → List Event → ℕ → Event → Type 0
Stands k [] j e = ⊥
Stands k (d ∷ es) j e = ((k ≡ j) × (d ≡ e)) ⊎ Stands (k + 1) es j e

pub stands-more : (k : ℕ) (es fs : List Event) (j : ℕ) (e : Event) → Stands k es j e → Stands k (es ++ fs) j e
stands-more k [] fs j e h = absurd h
stands-more k (d ∷ es) fs j e (inl h) = inl h
stands-more k (d ∷ es) fs j e (inr h) = inr (stands-more (k + 1) es fs j e h)

pub stands-last : (k : ℕ) (es : List Event) (e : Event) → Stands k (es ++ e ∷ []) (k + length es) e
stands-last k [] e = inl (none k, refl)
  where
    none : (k : ℕ) → k ≡ k + 0
    none k = omega arith
stands-last k (d ∷ es) e = inr (subst (λ n. Stands (k + 1) (es ++ e ∷ []) n e) (shift k (length es)) (stands-last (k + 1) es e))
  where
    shift : (k n : ℕ) → k + 1 + n ≡ k + suc n
    shift k n = omega arith

pub stands-below : (k : ℕ) (es : List Event) (j : ℕ) (e : Event) → Stands k es j e → j < k + length es
stands-below k [] j e h = absurd h
stands-below k (d ∷ es) j e (inl h) = here k j (length es) h.0
  where
    here : (k j n : ℕ) → k ≡ j → j < k + suc n
    here k j n e = omega (arith, e)
stands-below k (d ∷ es) j e (inr h) = on k j (length es) (stands-below (k + 1) es j e h)
  where
    on : (k j n : ℕ) → j < k + 1 + n → j < k + suc n
    on k j n l = omega (arith, l)

any-first : (a b : Bool) → a ≡ true → (a || b) ≡ true
any-first a b h = grind arith

any-second : (a b : Bool) → b ≡ true → (a || b) ≡ true
any-second a b h = grind arith

stands-any : (test : ℕ → Event → Bool) (k : ℕ) (es : List Event) (j : ℕ) (e : Event) → Stands k es j e → test j e ≡ true → any_event test k es ≡ true
stands-any test k [] j e h t = absurd h
stands-any test k (d ∷ es) j e (inl h) t = any-first (test k d) (any_event test (k + 1) es) (ap (λ n. test n d) h.0 ∙ ap (λ z. test j z) h.1 ∙ t)
stands-any test k (d ∷ es) j e (inr h) t = any-second (test k d) (any_event test (k + 1) es) (stands-any test (k + 1) es j e h t)

-- ---- what stands

pub record WasAborted (es : List Event) (ls : List Line) (c : ClientNo) (T : Tid) : Type 0 where
  pub number : ℕ
  pub event : Event
  pub stands : Stands 1 es number event
  pub is : aborts c T ls number event ≡ true

-- an event by which the transaction came to the server
pub record Came (es : List Event) (ls : List Line) (c : ClientNo) (T : Tid) (s : ServerNo) (number : ℕ) : Type 0 where
  pub event : Event
  pub stands : Stands 1 es number event
  pub is : joins c T s ls number event ≡ true

abbrev pub DownAfter : List Line → ServerNo → ℕ → Type 0
DownAfter ls s j = says (goes_down s) (lines_after (AtEvent j) ls) ≡ true

-- and the server went down after it
pub record WasLost (es : List Event) (ls : List Line) (c : ClientNo) (T : Tid) (s : ServerNo) : Type 0 where
  pub number : ℕ
  pub came : Came es ls c T s number
  pub down : DownAfter ls s number

abbrev pub Stood : List Event → List Line → ClientNo → Tid → Cause → Type 0
Stood es ls c T Requested = WasAborted es ls c T
Stood es ls c T (BrokenAt s u by) = says (breaks s T u by) ls ≡ true
Stood es ls c T (LostAt s) = WasLost es ls c T s
Stood es ls c T (FullAt s n free need) = nat_lt free need ≡ true

-- it is a cause of each line of the next event
pub stood-causes : (es fs : List Event) (ls : List Line) (c : ClientNo) (T : Tid) (cause : Cause) → Stood es ls c T cause → is_caused_by (es ++ fs) ls (AtEvent (1 + length es)) c T cause ≡ true
stood-causes es fs ls c T Requested h = stands-any (asks c T ls (AtEvent (1 + length es))) 1 (es ++ fs) h.number h.event (stands-more 1 es fs h.number h.event h.stands)
    (both (is_before (AtEvent h.number) (AtEvent (1 + length es))) (aborts c T ls h.number h.event) (is-less h.number (1 + length es) (stands-below 1 es h.number h.event h.stands)) h.is)
  where
    is-less : (i j : ℕ) → i < j → nat_lt i j ≡ true
    is-less i j l = grind (arith, nat_tests)

    both : (a b : Bool) → a ≡ true → b ≡ true → (a && b) ≡ true
    both a b h k = grind arith
stood-causes es fs ls c T (BrokenAt s u by) h = h
stood-causes es fs ls c T (LostAt s) h = stands-any (loses c T s ls) 1 (es ++ fs) h.number h.came.event (stands-more 1 es fs h.number h.came.event h.came.stands)
    (both (joins c T s ls h.number h.came.event) (says (goes_down s) (lines_after (AtEvent h.number) ls)) h.came.is h.down)
  where
    both : (a b : Bool) → a ≡ true → b ≡ true → (a && b) ≡ true
    both a b h k = grind arith
stood-causes es fs ls c T (FullAt s n free need) h = h

-- ---- more lines

pub any-more : {A : Type 0} (test : A → Bool) (xs ys : List A) → list_any test xs ≡ true → list_any test (xs ++ ys) ≡ true
any-more test [] ys h = absurd (grind arith)
any-more test (x ∷ xs) ys h = by (test x) h (any-more test xs ys)
  where
    by : (b : Bool) → (b || list_any test xs) ≡ true → (list_any test xs ≡ true → list_any test (xs ++ ys) ≡ true) → (b || list_any test (xs ++ ys)) ≡ true
    by true k on = refl
    by false k on = on k

pub any-last : {A : Type 0} (test : A → Bool) (xs ys : List A) → list_any test ys ≡ true → list_any test (xs ++ ys) ≡ true
any-last test [] ys h = h
any-last test (x ∷ xs) ys h = any-second (test x) (list_any test (xs ++ ys)) (any-last test xs ys h)

-- a line says what its text does
pub any-line : (test : Text → Bool) (n : ℕ) (texts : List Text) → list_any test texts ≡ true → says test (at_event n texts) ≡ true
any-line test n [] h = h
any-line test n (x ∷ texts) h = by (test x) h (any-line test n texts)
  where
    by : (b : Bool) → (b || list_any test texts) ≡ true → (list_any test texts ≡ true → says test (at_event n texts) ≡ true) → (b || says test (at_event n texts)) ≡ true
    by true k on = refl
    by false k on = on k

pub down-more : (s : ServerNo) (j : ℕ) (ls ms : List Line) → DownAfter ls s j → DownAfter (ls ++ ms) s j
down-more s j [] ms h = absurd (grind arith)
down-more s j (l ∷ ls) ms h = by (is_before (AtEvent j) l.when) h (down-more s j ls ms)
  where
    by : (b : Bool) → says (goes_down s) (if b then l ∷ lines_after (AtEvent j) ls else lines_after (AtEvent j) ls) ≡ true → (DownAfter ls s j → DownAfter (ls ++ ms) s j)
        → says (goes_down s) (if b then l ∷ lines_after (AtEvent j) (ls ++ ms) else lines_after (AtEvent j) (ls ++ ms)) ≡ true
    by false k on = on k
    by true k on = or (goes_down s l.text) k on
      where
        or : (a : Bool) → (a || says (goes_down s) (lines_after (AtEvent j) ls)) ≡ true → (DownAfter ls s j → DownAfter (ls ++ ms) s j) → (a || says (goes_down s) (lines_after (AtEvent j) (ls ++ ms))) ≡ true
        or true k on = refl
        or false k on = on k

-- a later event's lines
down-last : (s : ServerNo) (n j : ℕ) (texts : List Text) → j < n → list_any (goes_down s) texts ≡ true → DownAfter (at_event n texts) s j
down-last s n j [] l h = h
down-last s n j (x ∷ texts) l h = ap (λ (b : Bool). says (goes_down s) (if b then record { when = AtEvent n; text = x } ∷ lines_after (AtEvent j) (at_event n texts) else lines_after (AtEvent j) (at_event n texts))) (is-less j n l)
    ∙ by (goes_down s x) h (down-last s n j texts l)
  where
    is-less : (i j : ℕ) → i < j → nat_lt i j ≡ true
    is-less i j l = grind (arith, nat_tests)

    by : (b : Bool) → (b || list_any (goes_down s) texts) ≡ true → (list_any (goes_down s) texts ≡ true → DownAfter (at_event n texts) s j) → (b || says (goes_down s) (lines_after (AtEvent j) (at_event n texts))) ≡ true
    by true k on = refl
    by false k on = on k

pub down-now : (s : ServerNo) (n j : ℕ) (ls : List Line) (texts : List Text) → j < n → list_any (goes_down s) texts ≡ true → DownAfter (ls ++ at_event n texts) s j
down-now s n j [] texts l h = down-last s n j texts l h
down-now s n j (x ∷ ls) texts l h = by (is_before (AtEvent j) x.when) (down-now s n j ls texts l h)
  where
    by : (b : Bool) → DownAfter (ls ++ at_event n texts) s j → says (goes_down s) (if b then x ∷ lines_after (AtEvent j) (ls ++ at_event n texts) else lines_after (AtEvent j) (ls ++ at_event n texts)) ≡ true
    by true on = any-second (goes_down s x.text) _ on
    by false on = on

-- ---- a command of the next event

-- it is given in what its client began last
pub in-here : (n : ℕ) (ls : List Line) (new : List Text) (c : ClientNo) (T : Tid) → AreWithin 0 n ls → last_begun c ls ≡ Some T → is_in c T n (ls ++ at_event n new) ≡ true
in-here n ls new c T within last = ap (λ m. is_tid (last_begun c m) T) (lines_before-append (AtEvent n) ls (at_event n new) ∙ ap (λ m. lines_before (AtEvent n) ls ++ m) (lines_before-later n (n + 1) n (at_event n new) (texts-within n new) (self n)) ∙ append-nil (lines_before (AtEvent n) ls) ∙ lines_before-whole 0 n ls within)
    ∙ ap (λ o. is_tid o T) last ∙ same T
  where
    self : (n : ℕ) → n ≤ n
    self n = omega arith

    same : (T : Tid) → tid_eq T T ≡ true
    same T = grind (arith, tid_tells T T)

-- and nothing is reported in its event
pub none-here : (n : ℕ) (ls : List Line) (c : ClientNo) → AreWithin 0 n ls → not (says (refuses_own c n) (lines_at (AtEvent n) (ls ++ []))) ≡ true
none-here n ls c within = ap (λ m. not (says (refuses_own c n) m)) (ap (λ m. lines_at (AtEvent n) m) (append-nil ls) ∙ lines_at-outside 0 n n ls within (inr (self n)))
  where
    self : (n : ℕ) → n ≤ n
    self n = omega arith

-- ---- more events, with lines of the next one on

module _ (es es' : List Event) (on : (j : ℕ) (e : Event) → Stands 1 es j e → Stands 1 es' j e) (ls ms : List Line) (high : ℕ) (within : AreWithin (1 + length es) high ms) where
  same-in : (c : ClientNo) (T : Tid) (j : ℕ) → j < 1 + length es → is_in c T j (ls ++ ms) ≡ is_in c T j ls
  same-in c T j l = ap (λ m. is_tid (last_begun c m) T) (lines_before-append (AtEvent j) ls ms ∙ ap (λ m. lines_before (AtEvent j) ls ++ m) (lines_before-later (1 + length es) high j ms within (most j (1 + length es) l)) ∙ append-nil (lines_before (AtEvent j) ls))
    where
      most : (i j : ℕ) → i < j → i ≤ j
      most i j l = omega (arith, l)

  aborts-more : (c : ClientNo) (T : Tid) (j : ℕ) (e : Event) → j < 1 + length es → aborts c T ls j e ≡ true → aborts c T (ls ++ ms) j e ≡ true
  aborts-more c T j (events.Command d commands.Abort) l h = ap (λ (b : Bool). client_eq c d && b) (same-in c T j l) ∙ h
  aborts-more c T j (events.Command d (commands.Begin s)) l h = h
  aborts-more c T j (events.Command d (commands.Open s)) l h = h
  aborts-more c T j (events.Command d (commands.Do s op)) l h = h
  aborts-more c T j (events.Command d commands.End) l h = h
  aborts-more c T j _ l h = h

  joins-more : (c : ClientNo) (T : Tid) (s : ServerNo) (j : ℕ) (e : Event) → j < 1 + length es → joins c T s ls j e ≡ true → joins c T s (ls ++ ms) j e ≡ true
  joins-more c T s j (events.Command d (commands.Begin r)) l h = three (client_eq c d) (server_eq r s) (says (begins c j T) ls) (says (begins c j T) (ls ++ ms)) (any-more (λ (x : Line). begins c j T x.text) ls ms) h
    where
      three : (a b p q : Bool) → (p ≡ true → q ≡ true) → (a && (b && p)) ≡ true → (a && (b && q)) ≡ true
      three true true true q f k = f refl
      three true true false q f k = absurd (grind arith)
      three true false p q f k = absurd (grind arith)
      three false b p q f k = absurd (grind arith)
  joins-more c T s j (events.Command d (commands.Open r)) l h = ap (λ (b : Bool). client_eq c d && (server_eq r s && (b && not (says (refuses_own c j) (lines_at (AtEvent j) (ls ++ ms)))))) (same-in c T j l)
      ∙ ap (λ m. client_eq c d && (server_eq r s && (is_in c T j ls && not (says (refuses_own c j) m)))) (lines_at-earlier (1 + length es) high j ls ms within l) ∙ h
  joins-more c T s j (events.Command d (commands.Do r op)) l h = h
  joins-more c T s j (events.Command d commands.End) l h = h
  joins-more c T s j (events.Command d commands.Abort) l h = h
  joins-more c T s j _ l h = h

  pub came-more : (c : ClientNo) (T : Tid) (s : ServerNo) (j : ℕ) → Came es ls c T s j → Came es' (ls ++ ms) c T s j
  came-more c T s j h = record { event = h.event; stands = on j h.event h.stands; is = joins-more c T s j h.event (stands-below 1 es j h.event h.stands) h.is }

  pub stood-more : (c : ClientNo) (T : Tid) (cause : Cause) → Stood es ls c T cause → Stood es' (ls ++ ms) c T cause
  stood-more c T Requested h = record { number = h.number; event = h.event; stands = on h.number h.event h.stands; is = aborts-more c T h.number h.event (stands-below 1 es h.number h.event h.stands) h.is }
  stood-more c T (BrokenAt s u by) h = any-more (λ (x : Line). breaks s T u by x.text) ls ms h
  stood-more c T (LostAt s) h = record { number = h.number; came = came-more c T s h.number h.came; down = down-more s h.number ls ms h.down }
  stood-more c T (FullAt s n free need) h = h
