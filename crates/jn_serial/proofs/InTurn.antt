-- Where each answer follows its command, what a transaction did by its lines is what it did by its commands.
use Rattle.jn_serial.proofs.Common.{◌≡◌, ◌≢◌, ◌⊎◌, inl, inr, ℕ, zero, suc, ◌+◌, ◌<◌, ◌≤◌, nat_eq, nat_lt, Bool, true, false, ◌&&◌, if◌then◌else◌, List, [], ◌∷◌, ◌++◌, length, Option, Some, None, refl, sym, ◌∙◌, ap, subst, arith, append_assoc, append-nil, length-append, true≢false, nat_tests, ClientNo, Tid, Answer, client_eq, client_tells, Performed, Event, When, AtEvent, End, Text, Line, when_eq, is_before, lines_at, lines_before, says, event_at, begun_after, begun_then, last_begun, is_tid, is_in, answer_told, first_answer_told, performed, operation_in, operations_from, operations_of, is_call, Outstanding, Asked, nothing_asked, with_asked, answers_command, answers_order, answer_in, fits, fits_asked, after_answer, after_answers, after_event, refuses_own, AllOwnInPlace, own_in_place, FollowsEvent, after_one, FollowsFrom, is_answer, IsOfEvent, AllOfEvents, Follows, list_any, or_also, ServerNo, Op, AllFit}
use Rattle.jn_serial.proofs.LineByLine.{performed_in, answered, answered_by, is_its_client, operations_told}
use Rattle.jn_base.specs.declared.op.Answer.TheVariants as answers
use Rattle.jn_base.specs.declared.op.Command.{Command}
use Rattle.jn_base.specs.declared.op.Command.TheVariants as commands
use Rattle.jn_calls.specs.declared.order.Order.{Order}
use Rattle.jn_calls.specs.declared.order.Order.TheVariants as orders
use Rattle.jn_schedule.specs.declared.Event.TheVariants as events
use Rattle.jn_report.specs.declared.line.Refusal.TheVariants as refusals
use Rattle.jn_report.specs.declared.line.Text.TheVariants as says
use Rattle.jn_serial.proofs.WithCalls.{no-call-first, no-call-rest}
use Rattle.jn_serial.proofs.Growth.{IsWithin, AreWithin, AreWithin-wider, AreWithin-append, lines_at-outside, lines_at-whole}
use Rattle.jn_serial.proofs.Ops.{AnswersWithin, AllAnswerWithin, AllAnswerWithin-append, AllAnswerWithin-wider, told_from-events}
use Rattle.jn_serial.proofs.Orders.{owner_then, operations_told-append, lines_at-append, lines_before-append}
use Rattle.jn_serial.proofs.Beginners.{HasOneClient, one-front, owner-is, in-says, not-both, self-client}

-- ---- the lines so far

first_answer_told-more : (c : ClientNo) (j : ℕ) (ls : List Line) (l : Line) → first_answer_told c j (ls ++ l ∷ []) ≡ or_also (first_answer_told c j ls) (answer_told c j l.text)
first_answer_told-more c j [] l = last (answer_told c j l.text)
  where
    last : (o : Option Answer) → or_also o None ≡ o
    last None = refl
    last (Some a) = refl
first_answer_told-more c j (x ∷ ls) l = by (answer_told c j x.text) (first_answer_told-more c j ls l)
  where
    by : (o : Option Answer) → first_answer_told c j (ls ++ l ∷ []) ≡ or_also (first_answer_told c j ls) (answer_told c j l.text) → or_also o (first_answer_told c j (ls ++ l ∷ [])) ≡ or_also (or_also o (first_answer_told c j ls)) (answer_told c j l.text)
    by None on = on
    by (Some a) on = refl

-- no line answers a later command
if-same : (c d : ClientNo) (n j k : ℕ) (o : Option Answer) → k ≤ n → n < j → (if client_eq c d && nat_eq j k then o else None) ≡ None
if-same c d n j k o h l = grind (arith, nat_tests)

told-later : (n : ℕ) (c : ClientNo) (j : ℕ) (text : Text) → n < j → AnswersWithin n text → answer_told c j text ≡ None
told-later n c j (says.Did d k) l h = if-same c d n j k _ h l
told-later n c j (says.Read d k bytes) l h = if-same c d n j k _ h l
told-later n c j (says.Refused d k refusals.NoFile) l h = if-same c d n j k _ h l
told-later n c j (says.Refused d k refusals.Exists) l h = if-same c d n j k _ h l
told-later n c j _ l h = refl

untold-later : (n : ℕ) (c : ClientNo) (j : ℕ) (ls : List Line) → n < j → AllAnswerWithin n ls → first_answer_told c j ls ≡ None
untold-later n c j [] l h = refl
untold-later n c j (x ∷ ls) l h = ap (λ o. or_also o (first_answer_told c j ls)) (told-later n c j x.text l h.0) ∙ untold-later n c j ls l h.1

before-all : (n : ℕ) (ls : List Line) → AreWithin 0 n ls → lines_before (AtEvent n) ls ≡ ls
before-all n [] h = refl
before-all n (l ∷ ls) h = by l.when h.0 (before-all n ls h.1)
  where
    by : (w : When) → IsWithin 0 n w → lines_before (AtEvent n) ls ≡ ls → (if is_before w (AtEvent n) then l ∷ lines_before (AtEvent n) ls else lines_before (AtEvent n) ls) ≡ l ∷ ls
    by (AtEvent i) k on = let yes : nat_lt i n ≡ true = grind (arith, nat_tests, k) in ap (λ (b : Bool). if b then l ∷ lines_before (AtEvent n) ls else lines_before (AtEvent n) ls) yes ∙ ap (λ m. l ∷ m) on
    by End k on = absurd k

before-more : (n i : ℕ) (ls : List Line) (l : Line) → i ≤ n → ((i : ℕ) → i ≤ n → is_before l.when (AtEvent i) ≡ false) → lines_before (AtEvent i) (ls ++ l ∷ []) ≡ lines_before (AtEvent i) ls
before-more n i ls l h w = lines_before-append (AtEvent i) ls (l ∷ []) ∙ ap (λ m. lines_before (AtEvent i) ls ++ m) (ap (λ (b : Bool). if b then l ∷ [] else []) (w i h)) ∙ append-nil (lines_before (AtEvent i) ls)

in-more : (c : ClientNo) (t : Tid) (n i : ℕ) (ls : List Line) (l : Line) → i ≤ n → ((i : ℕ) → i ≤ n → is_before l.when (AtEvent i) ≡ false) → is_in c t i (ls ++ l ∷ []) ≡ is_in c t i ls
in-more c t n i ls l h w = ap (λ m. is_tid (last_begun c m) t) (before-more n i ls l h w)

begun_then-more : (c : ClientNo) (b : Option Tid) (ls : List Line) (l : Line) → begun_then c b (ls ++ l ∷ []) ≡ begun_after c (begun_then c b ls) l.text
begun_then-more c b [] l = refl
begun_then-more c b (x ∷ ls) l = begun_then-more c (begun_after c b x.text) ls l

-- ---- an event among others

abbrev pub StandsAt : ℕ → List Event → ℕ → Event → Type 0
StandsAt j [] k e = ⊥
StandsAt j (d ∷ es) k e = ((j ≡ k) × (d ≡ e)) ⊎ StandsAt (j + 1) es k e

stands-from : (j : ℕ) (es : List Event) (k : ℕ) (e : Event) → StandsAt j es k e → (j ≤ k) × (k < j + length es)
stands-from j [] k e h = absurd h
stands-from j (d ∷ es) k e (inl h) = let is = h.0 in (omega (arith, is), omega (arith, is))
stands-from j (d ∷ es) k e (inr h) = let r = stands-from (j + 1) es k e h in let a = r.0 in let b = r.1 in (omega (arith, a), omega (arith, b))

stands-at : (m j : ℕ) (es : List Event) (k : ℕ) (e : Event) → StandsAt j es k e → k ≡ j + m → event_at es (suc m) ≡ Some e
stands-at m j [] k e h is = absurd h
stands-at zero j (d ∷ es) k e (inl h) is = ap Some h.1
stands-at (suc m) j (d ∷ es) k e (inl h) is = let p = h.0 in absurd (omega (arith, p, is))
stands-at zero j (d ∷ es) k e (inr h) is = let r = (stands-from (j + 1) es k e h).0 in absurd (omega (arith, r, is))
stands-at (suc m) j (d ∷ es) k e (inr h) is = stands-at m (j + 1) es k e h (omega (arith, is))

stands-event : (es : List Event) (k : ℕ) (e : Event) → StandsAt 1 es k e → event_at es k ≡ Some e
stands-event es zero e h = let r = (stands-from 1 es zero e h).0 in absurd (omega (arith, r))
stands-event es (suc k) e h = stands-at k 1 es (suc k) e h (omega arith)

stands-more : (j : ℕ) (es fs : List Event) (k : ℕ) (e : Event) → StandsAt j es k e → StandsAt j (es ++ fs) k e
stands-more j [] fs k e h = absurd h
stands-more j (d ∷ es) fs k e (inl h) = inl h
stands-more j (d ∷ es) fs k e (inr h) = inr (stands-more (j + 1) es fs k e h)

stands-last : (j : ℕ) (es : List Event) (e : Event) → StandsAt j (es ++ e ∷ []) (j + length es) e
stands-last j [] e = inl (omega arith, refl)
stands-last j (d ∷ es) e = inr (subst (λ n. StandsAt (j + 1) (es ++ e ∷ []) n e) (shift j (length es)) (stands-last (j + 1) es e))
  where
    shift : (a b : ℕ) → (a + 1) + b ≡ a + suc b
    shift a b = omega arith

operations_from-append : (t : Tid) (ls : List Line) (j : ℕ) (es fs : List Event) → operations_from t ls j (es ++ fs) ≡ operations_from t ls j es ++ operations_from t ls (j + length es) fs
operations_from-append t ls j [] fs = ap (λ n. operations_from t ls n fs) (omega arith)
operations_from-append t ls j (e ∷ es) fs = ap (λ z. operation_in t ls j e ++ z) (operations_from-append t ls (j + 1) es fs ∙ ap (λ n. operations_from t ls (j + 1) es ++ operations_from t ls n fs) (shift j (length es)))
    ∙ sym (append_assoc (operation_in t ls j e) (operations_from t ls (j + 1) es) (operations_from t ls (j + suc (length es)) fs))
  where
    shift : (a b : ℕ) → (a + 1) + b ≡ a + suc b
    shift a b = omega arith

-- ---- one more line

-- an event does the same by other lines, where the client is in the same transaction and was told the same
op-same : (t : Tid) (ls ms : List Line) (i : ℕ) (e : Event) → ((c : ClientNo) → is_in c t i ms ≡ is_in c t i ls) → ((c : ClientNo) → first_answer_told c i ms ≡ first_answer_told c i ls) → operation_in t ms i e ≡ operation_in t ls i e
op-same t ls ms i (events.Command c (commands.Do s op)) f g = ap (λ (b : Bool). if b then performed s op (first_answer_told c i ms) else []) (f c) ∙ ap (λ o. if is_in c t i ls then performed s op o else []) (g c)
op-same t ls ms i (events.Command c (commands.Begin s)) f g = refl
op-same t ls ms i (events.Command c (commands.Open s)) f g = refl
op-same t ls ms i (events.Command c commands.End) f g = refl
op-same t ls ms i (events.Command c commands.Abort) f g = refl
op-same t ls ms i _ f g = refl

-- an event in which no client that is in T was answered
op-none : (t : Tid) (ls : List Line) (i : ℕ) (e : Event) → ((c : ClientNo) → is_in c t i ls ≡ true → first_answer_told c i ls ≡ None) → operation_in t ls i e ≡ []
op-none t ls i (events.Command c (commands.Do s op)) f = by (is_in c t i ls) (f c)
  where
    by : (b : Bool) → (b ≡ true → first_answer_told c i ls ≡ None) → (if b then performed s op (first_answer_told c i ls) else []) ≡ []
    by true g = ap (performed s op) (g refl)
    by false g = refl
op-none t ls i (events.Command c (commands.Begin s)) f = refl
op-none t ls i (events.Command c (commands.Open s)) f = refl
op-none t ls i (events.Command c commands.End) f = refl
op-none t ls i (events.Command c commands.Abort) f = refl
op-none t ls i _ f = refl

abbrev pub NoneFrom : Tid → List Line → ℕ → Type 0
NoneFrom t ls k = (i : ℕ) (c : ClientNo) → k ≤ i → is_in c t i ls ≡ true → first_answer_told c i ls ≡ None

ops-none : (t : Tid) (ls : List Line) (j : ℕ) (es : List Event) → NoneFrom t ls j → operations_from t ls j es ≡ []
ops-none t ls j [] f = refl
ops-none t ls j (e ∷ es) f = ap (λ z. z ++ operations_from t ls (j + 1) es) (op-none t ls j e (λ c. f j c (omega arith))) ∙ ops-none t ls (j + 1) es (λ i c l. f i c (omega (arith, l)))

module _ (t : Tid) (n : ℕ) (ls : List Line) (l : Line) (w : (i : ℕ) → i ≤ n → is_before l.when (AtEvent i) ≡ false) where
  -- a line that answers no command from the files
  ops-quiet : (j : ℕ) (es : List Event) → j + length es ≤ n + 1 → ((c : ClientNo) (i : ℕ) → answer_told c i l.text ≡ None) → operations_from t (ls ++ l ∷ []) j es ≡ operations_from t ls j es
  ops-quiet j [] h none = refl
  ops-quiet j (e ∷ es) h none = ap (λ z. z ++ operations_from t (ls ++ l ∷ []) (j + 1) es) (op-same t ls (ls ++ l ∷ []) j e (λ c. in-more c t n j ls l (omega (arith, h)) w) (λ c. first_answer_told-more c j ls l ∙ ap (λ o. or_also (first_answer_told c j ls) o) (none c j) ∙ last (first_answer_told c j ls)))
      ∙ ap (λ z. operation_in t ls j e ++ z) (ops-quiet (j + 1) es (omega (arith, h)) none)
    where
      last : (o : Option Answer) → or_also o None ≡ o
      last None = refl
      last (Some a) = refl

  -- a line that answers one command
  module _ (d : ClientNo) (k : ℕ) (s : ServerNo) (op : Op) (a : Answer) (its : answer_told d k l.text ≡ Some a) (others : (c : ClientNo) (i : ℕ) → (c ≢ d) ⊎ (i ≢ k) → answer_told c i l.text ≡ None)
      (untold : first_answer_told d k ls ≡ None) (after : is_in d t k ls ≡ true → NoneFrom t ls (k + 1)) where
    abbrev more : List Performed
    more = if is_in d t k ls then performed s op (Some a) else []

    told-same : (i : ℕ) (c : ClientNo) → (c ≢ d) ⊎ (i ≢ k) → first_answer_told c i (ls ++ l ∷ []) ≡ first_answer_told c i ls
    told-same i c ne = first_answer_told-more c i ls l ∙ ap (λ o. or_also (first_answer_told c i ls) o) (others c i ne) ∙ last (first_answer_told c i ls)
      where
        last : (o : Option Answer) → or_also o None ≡ o
        last None = refl
        last (Some x) = refl

    ops-other : (j : ℕ) (es : List Event) → k < j → j + length es ≤ n + 1 → operations_from t (ls ++ l ∷ []) j es ≡ operations_from t ls j es
    ops-other j [] b h = refl
    ops-other j (e ∷ es) b h = ap (λ z. z ++ operations_from t (ls ++ l ∷ []) (j + 1) es) (op-same t ls (ls ++ l ∷ []) j e (λ c. in-more c t n j ls l (omega (arith, h)) w) (λ c. told-same j c (inr (λ z. omega (arith, z, b)))))
        ∙ ap (λ z. operation_in t ls j e ++ z) (ops-other (j + 1) es (omega (arith, b)) (omega (arith, h)))

    ops-one : (j : ℕ) (es : List Event) → StandsAt j es k (events.Command d (commands.Do s op)) → j + length es ≤ n + 1 → operations_from t (ls ++ l ∷ []) j es ≡ operations_from t ls j es ++ more
    ops-one j [] st h = absurd st
    ops-one j (e ∷ es) (inl st) h = ap (λ z. z ++ operations_from t (ls ++ l ∷ []) (j + 1) es) new ∙ ap (λ z. more ++ z) (ops-other (j + 1) es (let p = st.0 in omega (arith, p)) (omega (arith, h))) ∙ turn (is_in d t k ls) refl
        ∙ ap (λ z. (z ++ operations_from t ls (j + 1) es) ++ more) (sym old)
      where
        new : operation_in t (ls ++ l ∷ []) j e ≡ more
        new = ap (λ i. operation_in t (ls ++ l ∷ []) i e) st.0 ∙ ap (λ z. operation_in t (ls ++ l ∷ []) k z) st.1
            ∙ ap (λ (b : Bool). if b then performed s op (first_answer_told d k (ls ++ l ∷ [])) else []) (in-more d t n k ls l (let p = st.0 in omega (arith, h, p)) w)
            ∙ ap (λ o. if is_in d t k ls then performed s op o else []) (first_answer_told-more d k ls l ∙ ap (λ o. or_also o (answer_told d k l.text)) untold ∙ its)

        old : operation_in t ls j e ≡ []
        old = ap (λ i. operation_in t ls i e) st.0 ∙ ap (λ z. operation_in t ls k z) st.1 ∙ ap (λ o. if is_in d t k ls then performed s op o else []) untold ∙ none (is_in d t k ls)
          where
            none : (b : Bool) → (if b then performed s op None else []) ≡ []
            none true = refl
            none false = refl

        turn : (b : Bool) → is_in d t k ls ≡ b → (if b then performed s op (Some a) else []) ++ operations_from t ls (j + 1) es ≡ operations_from t ls (j + 1) es ++ (if b then performed s op (Some a) else [])
        turn false e = sym (append-nil (operations_from t ls (j + 1) es))
        turn true e = let rest = ops-none t ls (j + 1) es (λ i c b. after e i c (let p = st.0 in omega (arith, b, p))) in ap (λ z. performed s op (Some a) ++ z) rest ∙ ap (λ z. z ++ performed s op (Some a)) (sym rest)
    ops-one j (e ∷ es) (inr st) h = ap (λ z. z ++ operations_from t (ls ++ l ∷ []) (j + 1) es) (op-same t ls (ls ++ l ∷ []) j e (λ c. in-more c t n j ls l (omega (arith, h)) w) (λ c. told-same j c (inr (λ z. let b = (stands-from (j + 1) es k _ st).0 in omega (arith, z, b)))))
        ∙ ap (λ z. operation_in t ls j e ++ z) (ops-one (j + 1) es st (omega (arith, h))) ∙ sym (append_assoc (operation_in t ls j e) (operations_from t ls (j + 1) es) more)

-- ---- what holds after some events and their lines

-- what a client waits for is a command, which stands among the events, no line has answered it or a later one, and the client has begun nothing since
pub record IsOpen (es : List Event) (ls : List Line) (c : ClientNo) (a : Asked) : Type 0 where
  command : Command
  is : a.order ≡ orders.Command command
  stands : StandsAt 1 es a.number (events.Command c command)
  untold : (j : ℕ) → a.number ≤ j → first_answer_told c j ls ≡ None
  begun : last_begun c (lines_before (AtEvent a.number) ls) ≡ last_begun c ls

pub record InTurnSoFar (es : List Event) (ls : List Line) (out : Outstanding) : Type 0 where
  pub within : AreWithin 0 (length es + 1) ls
  pub below : AllAnswerWithin (length es) ls
  pub waits : (c : ClientNo) (a : Asked) → out c ≡ Some a → IsOpen es ls c a
  pub same : (t : Tid) → HasOneClient t ls → operations_of es ls t ≡ operations_told es ls t

length-more : (es : List Event) (e : Event) → length (es ++ e ∷ []) ≡ length es + 1
length-more es e = length-append es (e ∷ [])

some-asked : (a b : Asked) → Some a ≡ Some b → a ≡ b
some-asked a b e = cc

none-asked : (a : Asked) → None ≡ Some a → ⊥
none-asked a e = cc

-- one more event, which is no call and of which nothing is reported yet
event-so-far : (es : List Event) (ls : List Line) (out : Outstanding) (e : Event) (here : List Line) → is_call e ≡ false → InTurnSoFar es ls out → InTurnSoFar (es ++ e ∷ []) ls (after_event out (length es + 1) e here)
event-so-far es ls out e here plain h = record {
  within = subst (λ n. AreWithin 0 (n + 1) ls) (sym (length-more es e)) (AreWithin-wider 0 (length es + 1) 0 (length es + 1 + 1) ls (omega arith) (omega arith) h.within);
  below = subst (λ n. AllAnswerWithin n ls) (sym (length-more es e)) (AllAnswerWithin-wider (length es) (length es + 1) ls (omega arith) h.below);
  waits = waits e refl;
  same = λ t one. operations_from-append t ls 1 es (e ∷ []) ∙ ap (λ z. operations_of es ls t ++ (z ++ [])) (op-none t ls (1 + length es) e (λ c k. untold-later (length es) c (1 + length es) ls (omega arith) h.below)) ∙ append-nil (operations_of es ls t)
      ∙ h.same t one ∙ sym (told_from-events es (e ∷ []) t None ls h.below);
}
  where
    old : (c : ClientNo) (a : Asked) → out c ≡ Some a → IsOpen (es ++ e ∷ []) ls c a
    old c a k = let o = h.waits c a k in record { command = o.command; is = o.is; stands = stands-more 1 es (e ∷ []) a.number (events.Command c o.command) o.stands; untold = o.untold; begun = o.begun }

    waits : (x : Event) → e ≡ x → (c : ClientNo) (a : Asked) → after_event out (length es + 1) x here c ≡ Some a → IsOpen (es ++ e ∷ []) ls c a
    waits (events.Command d command) is c a k = by (says (refuses_own d (length es + 1)) here) k
      where
        new : d ≡ c → record { number = length es + 1; order = orders.Command command } ≡ a → IsOpen (es ++ e ∷ []) ls c a
        new f g = subst (λ (z : ClientNo). IsOpen (es ++ e ∷ []) ls z a) f (subst (λ (z : Asked). IsOpen (es ++ e ∷ []) ls d z) g (record {
          command = command;
          is = refl;
          stands = subst (λ n. StandsAt 1 (es ++ e ∷ []) n (events.Command d command)) (omega arith) (subst (λ (z : Event). StandsAt 1 (es ++ e ∷ []) (1 + length es) z) is (stands-last 1 es e));
          untold = λ j l. untold-later (length es) d j ls (omega (arith, l)) h.below;
          begun = ap (λ m. last_begun d m) (before-all (length es + 1) ls h.within);
        }))

        by : (b : Bool) → (if b then out else with_asked out d (Some (record { number = length es + 1; order = orders.Command command }))) c ≡ Some a → IsOpen (es ++ e ∷ []) ls c a
        by true k = old c a k
        by false k = elim (client_tells d c) [
          | inl f ↦ new f.1 (some-asked _ a (sym (ap (λ (b : Bool). if b then Some (record { number = length es + 1; order = orders.Command command }) else out c) f.0) ∙ k))
          | inr f ↦ old c a (sym (ap (λ (b : Bool). if b then Some (record { number = length es + 1; order = orders.Command command }) else out c) f.0) ∙ k)
        ]
    waits (events.Again d) is c a k = old c a k
    waits (events.Call d s call) is c a k = absurd (true≢false (sym (ap is_call is) ∙ plain))
    waits (events.Deliver n) is c a k = old c a k
    waits events.Settle is c a k = old c a k
    waits (events.Step s) is c a k = old c a k
    waits (events.Nudge s) is c a k = old c a k
    waits (events.Timeout s T) is c a k = old c a k
    waits (events.Scrub s) is c a k = old c a k
    waits (events.Decay s p) is c a k = old c a k
    waits (events.Revive s p) is c a k = old c a k
    waits (events.Arm s n kind) is c a k = old c a k
    waits (events.Crash s) is c a k = old c a k
    waits (events.Restart s) is c a k = old c a k
    waits (events.Show s) is c a k = old c a k

-- what one more line does
record Adds (es : List Event) (ls : List Line) (out : Outstanding) (l : Line) (out' : Outstanding) : Type 0 where
  within : AnswersWithin (length es) l.text
  waits : (c : ClientNo) (a : Asked) → out' c ≡ Some a → (out c ≡ Some a) × (((j : ℕ) → answer_told c j l.text ≡ None) × ((b : Option Tid) → begun_after c b l.text ≡ b))
  same : (t : Tid) → HasOneClient t (ls ++ l ∷ []) → operations_of es (ls ++ l ∷ []) t ≡ operations_told es (ls ++ l ∷ []) t

line-so-far : (es : List Event) (ls : List Line) (out out' : Outstanding) (l : Line) → InTurnSoFar es ls out → ((i : ℕ) → i ≤ length es → is_before l.when (AtEvent i) ≡ false) → IsWithin 0 (length es + 1) l.when → Adds es ls out l out' → InTurnSoFar es (ls ++ l ∷ []) out'
line-so-far es ls out out' l h w at adds = record {
  within = AreWithin-append 0 (length es + 1) ls (l ∷ []) h.within (at, tt);
  below = AllAnswerWithin-append (length es) ls (l ∷ []) h.below (adds.within, tt);
  waits = λ c a k. let n = adds.waits c a k in let o = h.waits c a n.0 in let low = stands-from 1 es a.number (events.Command c o.command) o.stands in let most = low.1 in record {
    command = o.command;
    is = o.is;
    stands = o.stands;
    untold = λ j b. first_answer_told-more c j ls l ∙ ap (λ x. or_also x (answer_told c j l.text)) (o.untold j b) ∙ n.1.0 j;
    begun = ap (λ m. last_begun c m) (before-more (length es) a.number ls l (omega (arith, most)) w) ∙ o.begun ∙ sym (begun_then-more c None ls l ∙ n.1.1 (last_begun c ls));
  };
  same = adds.same;
}

-- a line that no command is answered by, from the files
quiet-adds : (es : List Event) (ls : List Line) (out out' : Outstanding) (l : Line) → InTurnSoFar es ls out → ((i : ℕ) → i ≤ length es → is_before l.when (AtEvent i) ≡ false) → AnswersWithin (length es) l.text
    → ((c : ClientNo) (i : ℕ) → answer_told c i l.text ≡ None) → ((o : Option ClientNo) → answered_by es o l.text ≡ [])
    → ((c : ClientNo) (a : Asked) → out' c ≡ Some a → (out c ≡ Some a) × ((b : Option Tid) → begun_after c b l.text ≡ b)) → Adds es ls out l out'
quiet-adds es ls out out' l h w within none silent waits = record {
  within = within;
  waits = λ c a k. ((waits c a k).0, (λ j. none c j, (waits c a k).1));
  same = λ t one. ops-quiet t (length es) ls l w 1 es (omega arith) none ∙ h.same t (one-front t ls (l ∷ []) one)
      ∙ sym (operations_told-append es t ls (l ∷ []) ∙ ap (λ z. operations_told es ls t ++ (z ++ [])) (silent (owner_then t None ls)) ∙ append-nil (operations_told es ls t));
}

same-command : (a b : Command) → orders.Command a ≡ orders.Command b → a ≡ b
same-command a b e = cc

-- a line that answers a client's operation from the files
told-adds : (es : List Event) (ls : List Line) (out : Outstanding) (l : Line) (d : ClientNo) (x : Asked) (s : ServerNo) (op : Op) (a : Answer) → InTurnSoFar es ls out → ((i : ℕ) → i ≤ length es → is_before l.when (AtEvent i) ≡ false)
    → out d ≡ Some x → x.order ≡ orders.Command (commands.Do s op) → AnswersWithin x.number l.text
    → answer_told d x.number l.text ≡ Some a → ((c : ClientNo) (i : ℕ) → (c ≢ d) ⊎ (i ≢ x.number) → answer_told c i l.text ≡ None)
    → ((o : Option ClientNo) → answered_by es o l.text ≡ (if is_its_client o d then performed_in d a (event_at es x.number) else []))
    → ((c : ClientNo) (b : Option Tid) → begun_after c b l.text ≡ b) → Adds es ls out l (with_asked out d None)
told-adds es ls out l d x s op a h w asked command within its others told none = record {
  within = AnswersWithin-most l.text (omega (arith, most)) within;
  waits = λ c y k. by c y k (client_tells d c);
  same = λ t one. let alone = one-front t ls (l ∷ []) one in
      ops-one t (length es) ls l w d x.number s op a its others (o.untold x.number (omega arith)) (later t alone) 1 es stands (omega arith)
      ∙ ap (λ z. z ++ (if is_in d t x.number ls then performed s op (Some a) else [])) (h.same t alone)
      ∙ sym (operations_told-append es t ls (l ∷ []) ∙ ap (λ z. operations_told es ls t ++ z) (append-nil (answered_by es (owner_then t None ls) l.text) ∙ told (owner_then t None ls)
      ∙ ap (λ (b : Bool). if b then performed_in d a (event_at es x.number) else []) (owner-is t d ls alone ∙ ap (λ m. is_tid m t) (sym o.begun))
      ∙ ap (λ z. if is_in d t x.number ls then z else []) (ap (λ z. performed_in d a z) (stands-event es x.number (events.Command d (commands.Do s op)) stands) ∙ ap (λ (b : Bool). if b then (record { server = s; op = op; answer = a }) ∷ [] else []) (self-client d))));
}
  where
    o : IsOpen es ls d x
    o = h.waits d x asked

    stands : StandsAt 1 es x.number (events.Command d (commands.Do s op))
    stands = subst (λ (z : Command). StandsAt 1 es x.number (events.Command d z)) (same-command o.command (commands.Do s op) (sym o.is ∙ command)) o.stands

    most : x.number < 1 + length es
    most = (stands-from 1 es x.number (events.Command d o.command) o.stands).1

    AnswersWithin-most : (text : Text) → x.number ≤ length es → AnswersWithin x.number text → AnswersWithin (length es) text
    AnswersWithin-most text le k = (AllAnswerWithin-wider x.number (length es) ((record { when = End; text = text }) ∷ []) le (k, tt)).0

    by : (c : ClientNo) (y : Asked) → with_asked out d None c ≡ Some y → ((client_eq d c ≡ true) × (d ≡ c)) ⊎ ((client_eq d c ≡ false) × (d ≢ c)) → (out c ≡ Some y) × (((j : ℕ) → answer_told c j l.text ≡ None) × ((b : Option Tid) → begun_after c b l.text ≡ b))
    by c y k (inl f) = absurd (none-asked y (sym (ap (λ (b : Bool). if b then None else out c) f.0) ∙ k))
    by c y k (inr f) = (sym (ap (λ (b : Bool). if b then None else out c) f.0) ∙ k, (λ j. others c j (inl (λ g. f.1 (sym g))), none c))

    later : (t : Tid) → HasOneClient t ls → is_in d t x.number ls ≡ true → NoneFrom t ls (x.number + 1)
    later t alone k i c b e = subst (λ (z : ClientNo). first_answer_told z i ls ≡ None) (alone d c (in-says d t x.number ls k) (in-says c t i ls e)) (o.untold i (omega (arith, b)))

-- ---- each line by what it says

asked-is : (o : Option Asked) (j : ℕ) (text : Text) → fits_asked o j text ≡ true → (x : Asked) × ((o ≡ Some x) × ((x.number ≡ j) × (answers_order x.order text ≡ true)))
asked-is None j text h = absurd (true≢false (sym h))
asked-is (Some x) j text h = (x, (refl, (grind (arith, nat_tests, h), grind (arith, h))))

-- whatever server a client begins at or opens, the same lines answer it
begin-any : (s r : ServerNo) (text : Text) → answers_command (commands.Begin s) text ≡ answers_command (commands.Begin r) text
begin-any s r (says.Refused c j refusals.TooManyTransactions) = refl
begin-any s r (says.Refused c j refusal) = refl
begin-any s r text = refl

open-any : (s r : ServerNo) (text : Text) → answers_command (commands.Open s) text ≡ answers_command (commands.Open r) text
open-any s r (says.Refused c j refusals.TooManyWorks) = refl
open-any s r (says.Refused c j refusal) = refl
open-any s r text = refl

-- where it answers no other command it answers an operation
op-is : (command : Command) (text : Text) → answers_command (commands.Begin (record { 0 = 0 })) text ≡ false → answers_command (commands.Open (record { 0 = 0 })) text ≡ false → answers_command commands.End text ≡ false → answers_command commands.Abort text ≡ false
    → answers_command command text ≡ true → (s : ServerNo) × ((op : Op) × (command ≡ commands.Do s op))
op-is (commands.Do s op) text a b c d h = (s, (op, refl))
op-is (commands.Begin s) text a b c d h = absurd (not-both (answers_command (commands.Begin s) text) h (begin-any s (record { 0 = 0 }) text ∙ a))
op-is (commands.Open s) text a b c d h = absurd (not-both (answers_command (commands.Open s) text) h (open-any s (record { 0 = 0 }) text ∙ b))
op-is commands.End text a b c d h = absurd (not-both _ h c)
op-is commands.Abort text a b c d h = absurd (not-both _ h d)

module _ (es : List Event) (ls : List Line) (out : Outstanding) (l : Line) (h : InTurnSoFar es ls out) (w : (i : ℕ) → i ≤ length es → is_before l.when (AtEvent i) ≡ false) where
  asked-within : (d : ClientNo) (j : ℕ) (text : Text) → fits_asked (out d) j text ≡ true → j ≤ length es
  asked-within d j text k = let a = asked-is (out d) j text k in let o = h.waits d a.0 a.1.0 in let low = (stands-from 1 es a.0.number (events.Command d o.command) o.stands).1 in let is = a.1.1.0 in omega (arith, low, is)

  clears : (d c : ClientNo) (a : Asked) → with_asked out d None c ≡ Some a → (out c ≡ Some a) × (client_eq d c ≡ false)
  clears d c a = by (client_eq d c) refl
    where
      by : (b : Bool) → client_eq d c ≡ b → (if b then None else out c) ≡ Some a → (out c ≡ Some a) × (client_eq d c ≡ false)
      by true e k = absurd (none-asked a k)
      by false e k = (k, e)

  -- an answer to a client that isn't one from the files
  plain-answer : (d : ClientNo) (x : Text) → l.text ≡ x → AnswersWithin (length es) x → ((c : ClientNo) (i : ℕ) → answer_told c i x ≡ None) → ((c : ClientNo) → answered es c x ≡ []) → ((c : ClientNo) → client_eq d c ≡ false → (b : Option Tid) → begun_after c b x ≡ b) → Adds es ls out l (with_asked out d None)
  plain-answer d x is within none silent keeps = quiet-adds es ls out (with_asked out d None) l h w (subst (λ z. AnswersWithin (length es) z) (sym is) within) (λ c i. ap (λ z. answer_told c i z) is ∙ none c i)
      (λ o. ap (λ z. answered_by es o z) is ∙ by o)
      (λ c a k. let q = clears d c a k in (q.0, λ b. ap (λ z. begun_after c b z) is ∙ keeps c q.1 b))
    where
      by : (o : Option ClientNo) → answered_by es o x ≡ []
      by None = refl
      by (Some c) = silent c

  -- a line that ends no waiting
  plain-line : (x : Text) → l.text ≡ x → AnswersWithin (length es) x → ((c : ClientNo) (i : ℕ) → answer_told c i x ≡ None) → ((c : ClientNo) → answered es c x ≡ []) → ((c : ClientNo) (b : Option Tid) → begun_after c b x ≡ b) → Adds es ls out l out
  plain-line x is within none silent keeps = quiet-adds es ls out out l h w (subst (λ z. AnswersWithin (length es) z) (sym is) within) (λ c i. ap (λ z. answer_told c i z) is ∙ none c i)
      (λ o. ap (λ z. answered_by es o z) is ∙ by o) (λ c a k. (k, λ b. ap (λ z. begun_after c b z) is ∙ keeps c b))
    where
      by : (o : Option ClientNo) → answered_by es o x ≡ []
      by None = refl
      by (Some c) = silent c

  -- an answer from the files
  from-files : (d : ClientNo) (j : ℕ) (a : Answer) (x : Text) → l.text ≡ x → fits_asked (out d) j x ≡ true
      → answers_command (commands.Begin (record { 0 = 0 })) x ≡ false → answers_command (commands.Open (record { 0 = 0 })) x ≡ false → answers_command commands.End x ≡ false → answers_command commands.Abort x ≡ false
      → ((n : ℕ) → j ≤ n → AnswersWithin n x) → ((c : ClientNo) (i : ℕ) → answer_told c i x ≡ (if client_eq c d && nat_eq i j then Some a else None)) → ((c : ClientNo) → answered es c x ≡ (if client_eq c d then performed_in c a (event_at es j) else []))
      → ((c : ClientNo) (b : Option Tid) → begun_after c b x ≡ b) → Adds es ls out l (with_asked out d None)
  from-files d j a x is fit p q r u within told does keeps =
      let y = asked-is (out d) j x fit in let open-so = h.waits d y.0 y.1.0 in
      let o = op-is open-so.command x p q r u (subst (λ (z : Order). answers_order z x ≡ true) open-so.is y.1.1.1) in
      told-adds es ls out l d y.0 o.0 o.1.0 a h w y.1.0 (open-so.is ∙ ap (λ (z : Command). orders.Command z) o.1.1) (subst (λ z. AnswersWithin y.0.number z) (sym is) (within y.0.number (let e = y.1.1.0 in omega (arith, e))))
      (ap (λ z. answer_told d y.0.number z) is ∙ told d y.0.number ∙ ap (λ (b : Bool). if b then Some a else None) (both (client_eq d d) (nat_eq y.0.number j) (self-client d) (let e = y.1.1.0 in grind (arith, nat_tests, e))))
      (λ c i ne. ap (λ z. answer_told c i z) is ∙ told c i ∙ ap (λ (b : Bool). if b then Some a else None) (other c i y.0.number y.1.1.0 ne))
      (λ o. ap (λ z. answered_by es o z) is ∙ does-by o ∙ ap (λ i. if is_its_client o d then performed_in d a (event_at es i) else []) (sym y.1.1.0))
      (λ c b. ap (λ z. begun_after c b z) is ∙ keeps c b)
    where
      both : (b c : Bool) → b ≡ true → c ≡ true → (b && c) ≡ true
      both b c e f = grind arith

      other : (c : ClientNo) (i n : ℕ) → n ≡ j → (c ≢ d) ⊎ (i ≢ n) → (client_eq c d && nat_eq i j) ≡ false
      other c i n e (inl ne) = elim (client_tells c d) [ inl f ↦ absurd (ne f.1) | inr f ↦ ap (λ (b : Bool). b && nat_eq i j) f.0 ]
      other c i n e (inr ne) = let no : nat_eq i j ≡ false = grind (arith, nat_tests, e, ne) in second (client_eq c d) (nat_eq i j) no
        where
          second : (b c : Bool) → c ≡ false → (b && c) ≡ false
          second b c e = grind arith

      does-by : (o : Option ClientNo) → answered_by es o x ≡ (if is_its_client o d then performed_in d a (event_at es j) else [])
      does-by None = refl
      does-by (Some c) = does c ∙ same (client_tells c d)
        where
          same : ((client_eq c d ≡ true) × (c ≡ d)) ⊎ ((client_eq c d ≡ false) × (c ≢ d)) → (if client_eq c d then performed_in c a (event_at es j) else []) ≡ (if client_eq c d then performed_in d a (event_at es j) else [])
          same (inl f) = ap (λ (z : ClientNo). if client_eq c d then performed_in z a (event_at es j) else []) f.1
          same (inr f) = ap (λ (b : Bool). if b then performed_in c a (event_at es j) else []) f.0 ∙ sym (ap (λ (b : Bool). if b then performed_in d a (event_at es j) else []) f.0)

  not-own : (n : ℕ) (j : ℕ) (b : Bool) → (nat_eq n j && b) ≡ true → j ≤ n
  not-own n j b k = grind (arith, nat_tests, k)

  line-adds : (e : Event) (x : Text) → l.text ≡ x → fits out (answer_in x) x ≡ true → own_in_place (length es) e x ≡ true → Adds es ls out l (after_answer out (answer_in x) x)
  line-adds e (says.Begun d j t) is fit own = plain-answer d (says.Begun d j t) is tt (λ c i. refl) (λ c. refl) (λ c ne b. ap (λ (z : Bool). if z then Some t else b) (turned c ne))
    where
      turned : (c : ClientNo) → client_eq d c ≡ false → client_eq c d ≡ false
      turned c ne = grind (arith, client_tells c d, client_tells d c, ne)
  line-adds e (says.Opened d j s) is fit own = plain-answer d (says.Opened d j s) is tt (λ c i. refl) (λ c. refl) (λ c ne b. refl)
  line-adds e (says.Committed d j t) is fit own = plain-answer d (says.Committed d j t) is tt (λ c i. refl) (λ c. refl) (λ c ne b. refl)
  line-adds e (says.Aborted d j t cause) is fit own = plain-answer d (says.Aborted d j t cause) is tt (λ c i. refl) (λ c. refl) (λ c ne b. refl)
  line-adds e (says.Waiting d j s u t) is fit own = plain-line (says.Waiting d j s u t) is tt (λ c i. refl) (λ c. refl) (λ c b. refl)
  line-adds e (says.Did d j) is fit own = from-files d j answers.Did (says.Did d j) is fit refl refl refl refl (λ n k. k) (λ c i. refl) (λ c. refl) (λ c b. refl)
  line-adds e (says.Read d j bytes) is fit own = from-files d j (answers.Read bytes) (says.Read d j bytes) is fit refl refl refl refl (λ n k. k) (λ c i. refl) (λ c. refl) (λ c b. refl)
  line-adds e (says.Bytes d j bytes) is fit own = plain-answer d (says.Bytes d j bytes) is tt (λ c i. refl) (λ c. refl) (λ c ne b. refl)
  line-adds e (says.Found d j f) is fit own = plain-answer d (says.Found d j f) is tt (λ c i. refl) (λ c. refl) (λ c ne b. refl)
  line-adds e (says.Name d j name f) is fit own = plain-answer d (says.Name d j name f) is tt (λ c i. refl) (λ c. refl) (λ c ne b. refl)
  line-adds e (says.Refused d j refusals.NoFile) is fit own = from-files d j answers.NoFile (says.Refused d j refusals.NoFile) is fit refl refl refl refl (λ n k. k) (λ c i. refl) (λ c. refl) (λ c b. refl)
  line-adds e (says.Refused d j refusals.Exists) is fit own = from-files d j answers.Exists (says.Refused d j refusals.Exists) is fit refl refl refl refl (λ n k. k) (λ c i. refl) (λ c. refl) (λ c b. refl)
  line-adds e (says.Refused d j refusals.ClientBusy) is fit own = plain-line (says.Refused d j refusals.ClientBusy) is (not-own (length es) j _ own) (λ c i. refl) (λ c. refl) (λ c b. refl)
  line-adds e (says.Refused d j refusals.NoTransaction) is fit own = plain-line (says.Refused d j refusals.NoTransaction) is (not-own (length es) j _ own) (λ c i. refl) (λ c. refl) (λ c b. refl)
  line-adds e (says.Refused d j refusals.HasTransaction) is fit own = plain-line (says.Refused d j refusals.HasTransaction) is (not-own (length es) j _ own) (λ c i. refl) (λ c. refl) (λ c b. refl)
  line-adds e (says.Refused d j refusals.NotOpen) is fit own = plain-line (says.Refused d j refusals.NotOpen) is (not-own (length es) j _ own) (λ c i. refl) (λ c. refl) (λ c b. refl)
  line-adds e (says.Refused d j refusals.AlreadyOpen) is fit own = plain-line (says.Refused d j refusals.AlreadyOpen) is (not-own (length es) j _ own) (λ c i. refl) (λ c. refl) (λ c b. refl)
  line-adds e (says.Refused d j refusals.NoSuchServer) is fit own = plain-line (says.Refused d j refusals.NoSuchServer) is (not-own (length es) j _ own) (λ c i. refl) (λ c. refl) (λ c b. refl)
  line-adds e (says.Refused d j refusals.Spoiled) is fit own = plain-line (says.Refused d j refusals.Spoiled) is (not-own (length es) j _ own) (λ c i. refl) (λ c. refl) (λ c b. refl)
  line-adds e (says.Refused d j refusals.TooFar) is fit own = plain-line (says.Refused d j refusals.TooFar) is (not-own (length es) j _ own) (λ c i. refl) (λ c. refl) (λ c b. refl)
  line-adds e (says.Refused d j refusals.TooManyTransactions) is fit own = plain-answer d (says.Refused d j refusals.TooManyTransactions) is (asked-within d j _ fit) (λ c i. refl) (λ c. refl) (λ c ne b. refl)
  line-adds e (says.Refused d j refusals.TooManyWorks) is fit own = plain-answer d (says.Refused d j refusals.TooManyWorks) is (asked-within d j _ fit) (λ c i. refl) (λ c. refl) (λ c ne b. refl)
  line-adds e (says.Refused d j (refusals.Locked u t)) is fit own = plain-answer d (says.Refused d j (refusals.Locked u t)) is (asked-within d j _ fit) (λ c i. refl) (λ c. refl) (λ c ne b. refl)
  line-adds e (says.Refused d j refusals.TooManyReads) is fit own = plain-answer d (says.Refused d j refusals.TooManyReads) is (asked-within d j _ fit) (λ c i. refl) (λ c. refl) (λ c ne b. refl)
  line-adds e (says.Refused d j refusals.TooManyWrites) is fit own = plain-answer d (says.Refused d j refusals.TooManyWrites) is (asked-within d j _ fit) (λ c i. refl) (λ c. refl) (λ c ne b. refl)
  line-adds e (says.Refused d j (refusals.Broken u t)) is fit own = plain-answer d (says.Refused d j (refusals.Broken u t)) is (asked-within d j _ fit) (λ c i. refl) (λ c. refl) (λ c ne b. refl)
  line-adds e (says.Refused d j (refusals.Lost epoch now)) is fit own = plain-answer d (says.Refused d j (refusals.Lost epoch now)) is (asked-within d j _ fit) (λ c i. refl) (λ c. refl) (λ c ne b. refl)
  line-adds e (says.Refused d j refusals.Closing) is fit own = plain-answer d (says.Refused d j refusals.Closing) is (asked-within d j _ fit) (λ c i. refl) (λ c. refl) (λ c ne b. refl)
  line-adds e (says.Refused d j refusals.NotBytes) is fit own = plain-answer d (says.Refused d j refusals.NotBytes) is (asked-within d j _ fit) (λ c i. refl) (λ c. refl) (λ c ne b. refl)
  line-adds e (says.Refused d j (refusals.PastEnd n)) is fit own = plain-answer d (says.Refused d j (refusals.PastEnd n)) is (asked-within d j _ fit) (λ c i. refl) (λ c. refl) (λ c ne b. refl)
  line-adds e (says.Refused d j refusals.BucketFull) is fit own = plain-answer d (says.Refused d j refusals.BucketFull) is (asked-within d j _ fit) (λ c i. refl) (λ c. refl) (λ c ne b. refl)
  line-adds e (says.Refused d j refusals.NoName) is fit own = plain-answer d (says.Refused d j refusals.NoName) is (asked-within d j _ fit) (λ c i. refl) (λ c. refl) (λ c ne b. refl)
  line-adds e (says.Refused d j refusals.NotDirectory) is fit own = plain-answer d (says.Refused d j refusals.NotDirectory) is (asked-within d j _ fit) (λ c i. refl) (λ c. refl) (λ c ne b. refl)
  line-adds e x is fit own = plain-line x is tt (λ c i. refl) (λ c. refl) (λ c b. refl)

-- ---- the lines of an event, and all events

it-stands : (n : ℕ) (w : When) → IsWithin n (n + 1) w → (i : ℕ) → i ≤ n → is_before w (AtEvent i) ≡ false
it-stands n (AtEvent k) h i le = grind (arith, nat_tests, h, le)
it-stands n End h i le = refl

it-is-within : (n : ℕ) (w : When) → IsWithin n (n + 1) w → IsWithin 0 (n + 1) w
it-is-within n (AtEvent k) h = let b = h.1 in (omega arith, omega (arith, b))
it-is-within n End h = absurd h

lines-so-far : (es : List Event) (e : Event) (ls here : List Line) (out : Outstanding) → InTurnSoFar es ls out → AreWithin (length es) (length es + 1) here → AllFit out here → AllOwnInPlace (length es) e here → InTurnSoFar es (ls ++ here) (after_answers out here)
lines-so-far es e ls [] out h within fit own = subst (λ m. InTurnSoFar es m out) (sym (append-nil ls)) h
lines-so-far es e ls (l ∷ here) out h within fit own =
    subst (λ m. InTurnSoFar es m (after_answers (after_answer out (answer_in l.text) l.text) here)) (append_assoc ls (l ∷ []) here)
    (lines-so-far es e (ls ++ l ∷ []) here (after_answer out (answer_in l.text) l.text)
    (line-so-far es ls out (after_answer out (answer_in l.text) l.text) l h (it-stands (length es) l.when within.0) (it-is-within (length es) l.when within.0) (line-adds es ls out l h (it-stands (length es) l.when within.0) e l.text refl fit.0 own.0)) within.1 fit.1 own.1)

abbrev pub AreAtEnd : List Line → Type 0
AreAtEnd [] = Unit {0}
AreAtEnd (l ∷ ls) = (l.when ≡ End) × AreAtEnd ls

-- the lines of each event after those of the one before, and those of the end last
abbrev pub AreInTurn : ℕ → List Event → List Line → Type 0
AreInTurn n [] ls = AreAtEnd ls
AreInTurn n (e ∷ es) ls = (here : List Line) × ((later : List Line) × ((ls ≡ here ++ later) × (AreWithin n (n + 1) here × AreInTurn (n + 1) es later)))

pub ends-append : (ls ms : List Line) → AreAtEnd ls → AreAtEnd ms → AreAtEnd (ls ++ ms)
ends-append [] ms h k = k
ends-append (l ∷ ls) ms h k = (h.0, ends-append ls ms h.1 k)

pub turn-to-end : (n : ℕ) (es : List Event) (ls ends : List Line) → AreInTurn n es ls → AreAtEnd ends → AreInTurn n es (ls ++ ends)
turn-to-end n [] ls ends h k = ends-append ls ends h k
turn-to-end n (e ∷ es) ls ends (here, (later, (is, (within, rest)))) k = (here, (later ++ ends, (ap (λ m. m ++ ends) is ∙ append_assoc here later ends, (within, turn-to-end (n + 1) es later ends rest k))))

end-elsewhere : (i : ℕ) (ls : List Line) → AreAtEnd ls → lines_at (AtEvent i) ls ≡ []
end-elsewhere i [] h = refl
end-elsewhere i (l ∷ ls) h = ap (λ (b : Bool). if b then l ∷ lines_at (AtEvent i) ls else lines_at (AtEvent i) ls) (ap (λ w. when_eq w (AtEvent i)) h.0) ∙ end-elsewhere i ls h.1

later-elsewhere : (n i : ℕ) (es : List Event) (ls : List Line) → i < n → AreInTurn n es ls → lines_at (AtEvent i) ls ≡ []
later-elsewhere n i [] ls b h = end-elsewhere i ls h
later-elsewhere n i (e ∷ es) ls b (here, (later, (is, (within, rest)))) = ap (λ m. lines_at (AtEvent i) m) is ∙ lines_at-append (AtEvent i) here later
    ∙ ap (λ m. m ++ lines_at (AtEvent i) later) (lines_at-outside n (n + 1) i here within (inl b)) ∙ later-elsewhere (n + 1) i es later (omega (arith, b)) rest

no-answer : (x : Text) → is_answer x ≡ false → ((c : ClientNo) (i : ℕ) → answer_told c i x ≡ None) × ((es : List Event) (c : ClientNo) → answered es c x ≡ [])
no-answer (says.Begun c j t) h = absurd (true≢false h)
no-answer (says.Opened c j s) h = absurd (true≢false h)
no-answer (says.Did c j) h = absurd (true≢false h)
no-answer (says.Read c j bytes) h = absurd (true≢false h)
no-answer (says.Bytes c j bytes) h = absurd (true≢false h)
no-answer (says.Found c j f) h = absurd (true≢false h)
no-answer (says.Name c j name f) h = absurd (true≢false h)
no-answer (says.Refused c j r) h = absurd (true≢false h)
no-answer (says.Waiting c j s u t) h = absurd (true≢false h)
no-answer (says.Committed c j t) h = absurd (true≢false h)
no-answer (says.Aborted c j t cause) h = absurd (true≢false h)
no-answer x h = (λ c i. refl, λ es c. refl)

-- lines of the end, none of which answers a client
end-same : (es : List Event) (t : Tid) (n : ℕ) (ls ends : List Line) → AreAtEnd ends → AllOfEvents n ends → operations_of es ls t ≡ operations_told es ls t → operations_of es (ls ++ ends) t ≡ operations_told es (ls ++ ends) t
end-same es t n ls [] at of h = subst (λ m. operations_of es m t ≡ operations_told es m t) (sym (append-nil ls)) h
end-same es t n ls (l ∷ ends) at of h = subst (λ m. operations_of es m t ≡ operations_told es m t) (append_assoc ls (l ∷ []) ends) (end-same es t n (ls ++ l ∷ []) ends at.1 of.1
    (ops-quiet t (length es) ls l (λ i le. ap (λ w. is_before w (AtEvent i)) at.0) 1 es (omega arith) quiet.0 ∙ h ∙ sym (operations_told-append es t ls (l ∷ []) ∙ ap (λ z. operations_told es ls t ++ (z ++ [])) (silent (owner_then t None ls)) ∙ append-nil (operations_told es ls t))))
  where
    quiet : ((c : ClientNo) (i : ℕ) → answer_told c i l.text ≡ None) × ((es : List Event) (c : ClientNo) → answered es c l.text ≡ [])
    quiet = by (is_answer l.text) refl
      where
        by : (b : Bool) → is_answer l.text ≡ b → ((c : ClientNo) (i : ℕ) → answer_told c i l.text ≡ None) × ((es : List Event) (c : ClientNo) → answered es c l.text ≡ [])
        by true e = absurd (subst (λ w. IsOfEvent n w) at.0 (of.0 e))
        by false e = no-answer l.text e

    silent : (o : Option ClientNo) → answered_by es o l.text ≡ []
    silent None = refl
    silent (Some c) = quiet.1 es c

of-later : (n : ℕ) (here later : List Line) → AllOfEvents n (here ++ later) → AllOfEvents n later
of-later n [] later h = h
of-later n (l ∷ here) later h = of-later n here later h.1

pub all-in-turn : (count : ℕ) (t : Tid) (es rest : List Event) (ls later : List Line) (out : Outstanding) → list_any is_call rest ≡ false → InTurnSoFar es ls out → AreInTurn (length es + 1) rest later → FollowsFrom out (length es + 1) rest (ls ++ later) → AllOfEvents count later → HasOneClient t (ls ++ later)
    → operations_of (es ++ rest) (ls ++ later) t ≡ operations_told (es ++ rest) (ls ++ later) t
all-in-turn count t es [] ls later out plain h turn follows of one = subst (λ m. operations_of m (ls ++ later) t ≡ operations_told m (ls ++ later) t) (sym (append-nil es)) (end-same es t count ls later turn of (h.same t (one-front t ls later one)))
all-in-turn count t es (e ∷ rest) ls later out plain h (here, (after, (is, (within, turn)))) follows of one =
    subst (λ m. operations_of m (ls ++ later) t ≡ operations_told m (ls ++ later) t) (append_assoc es (e ∷ []) rest)
    (subst (λ m. operations_of ((es ++ e ∷ []) ++ rest) m t ≡ operations_told ((es ++ e ∷ []) ++ rest) m t) lines
    (all-in-turn count t (es ++ e ∷ []) rest (ls ++ here) after (after_one out (length es + 1) e here) (no-call-rest e rest plain) now
    (subst (λ n. AreInTurn (n + 1) rest after) (sym (length-more es e)) turn)
    (subst (λ m. FollowsFrom (after_one out (length es + 1) e here) (length (es ++ e ∷ []) + 1) rest m) (sym lines)
    (subst (λ n. FollowsFrom (after_one out (length es + 1) e here) (n + 1) rest (ls ++ later)) (sym (length-more es e)) (subst (λ m. FollowsFrom (after_one out (length es + 1) e m) (length es + 1 + 1) rest (ls ++ later)) its follows.1)))
    (of-later count here after (subst (λ m. AllOfEvents count m) is of)) (subst (λ m. HasOneClient t m) (sym lines) one)))
  where
    lines : (ls ++ here) ++ after ≡ ls ++ later
    lines = append_assoc ls here after ∙ ap (λ m. ls ++ m) (sym is)

    its : lines_at (AtEvent (length es + 1)) (ls ++ later) ≡ here
    its = lines_at-append (AtEvent (length es + 1)) ls later ∙ ap (λ m. m ++ lines_at (AtEvent (length es + 1)) later) (lines_at-outside 0 (length es + 1) (length es + 1) ls h.within (inr (omega arith)))
        ∙ ap (λ m. lines_at (AtEvent (length es + 1)) m) is ∙ lines_at-append (AtEvent (length es + 1)) here after ∙ ap (λ m. m ++ lines_at (AtEvent (length es + 1)) after) (lines_at-whole (length es + 1) here within)
        ∙ ap (λ m. here ++ m) (later-elsewhere (length es + 1 + 1) (length es + 1) rest after (omega arith) turn) ∙ append-nil here

    event : FollowsEvent out (length es + 1) e here
    event = subst (λ m. FollowsEvent out (length es + 1) e m) its follows.0

    now : InTurnSoFar (es ++ e ∷ []) (ls ++ here) (after_one out (length es + 1) e here)
    now = lines-so-far (es ++ e ∷ []) e ls here (after_event out (length es + 1) e here) (event-so-far es ls out e here (no-call-first e rest plain) h)
        (subst (λ n. AreWithin n (n + 1) here) (sym (length-more es e)) within) event.fit (subst (λ n. AllOwnInPlace n e here) (sym (length-more es e)) event.own)

-- Where no event is a call and the lines stand in turn and answer what clients were told to do, a transaction that no two clients have did by its
-- commands what its lines report, one after another.
pub ops-in-turn : (events : List Event) (lines : List Line) (t : Tid) → list_any is_call events ≡ false → AreInTurn 1 events lines → Follows events lines → HasOneClient t lines → operations_of events lines t ≡ operations_told events lines t
ops-in-turn events lines t plain turn follows one = all-in-turn (length events) t [] events [] lines nothing_asked plain (record {
  within = tt;
  below = tt;
  waits = λ c a k. absurd (none-asked a k);
  same = λ t one. refl;
}) turn follows.answers follows.of_events one
