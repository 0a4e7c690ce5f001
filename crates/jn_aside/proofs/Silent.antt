-- One more event, that no line reports.
use Rattle.jn_aside.proofs.Common.{◌≡◌, ◌⊎◌, inl, inr, ℕ, zero, suc, ◌+◌, ◌<◌, ◌≤◌, Bool, true, false, nat_eq, ◌&&◌, if◌then◌else◌, List, [], ◌∷◌, ◌++◌, append-nil, length, Option, Some, None, refl, sym, ◌∙◌, ap, subst, arith, cases_Bool, ServerNo, ClientNo, Tid, client_eq, AllFiles, Event, When, AtEvent, End, Text, Line, when_eq, lines_at, lines_before, event_at, says_it, history_of, is_in, answer_told, or_also, reply_told, names_listed, first_reply, replied, done_in, done_from, done_of, Agrees, ShowsFiles, ShownSoFar, Outstanding, nothing_asked, with_asked, answer_in, is_last, fits_asked, fits, after_answer, AllFit, after_answers, refuses_own, after_event, FollowsEvent, after_one, FollowsFrom, is_answer, IsOfEvent, AllOfEvents, Follows, is_show, option_map, is_some, Entry, Wish, call_fits, speaks_to, is_own_refusal, is_addressed, call_reply, DoneTheSame, replay-by_done, AgreesFrom-by_done}
use Rattle.std.proofs.lemmas.Bool.Decides.{nat_tests}
use Rattle.jn_base.specs.declared.op.Answer.{Answer}
use Rattle.jn_base.specs.declared.op.Command.TheVariants as commands
use Rattle.jn_calls.specs.declared.order.Order.TheVariants as orders
use Rattle.jn_calls.specs.declared.reply.Reply.TheVariants as replies
use Rattle.jn_calls.specs.declared.reply.Wish.TheVariants as wishes
use Rattle.jn_replay.specs.declared.replied.Replied.{Replied}
use Rattle.jn_schedule.specs.declared.Event.TheVariants as events
use Rattle.jn_report.specs.declared.line.Refusal.TheVariants as refusals
use Rattle.jn_report.specs.declared.line.Text.TheVariants as says
use Rattle.jn_serial.specs.declared.following.Asked.{Asked}
use Rattle.jn_report.specs.declared.kinds.Addressed.{Addressed}
use Rattle.jn_serial.proofs.Growth.{outstanding_after, follows-more}

abbrev In : Line → List Line → Type 0
In l [] = ⊥
In l (x ∷ xs) = (x ≡ l) ⊎ In l xs

-- ---- numbers of commands that are outstanding, and of those that are answered

-- of a command up to n
abbrev Below : ℕ → Option Asked → Type 0
Below n None = Unit {0}
Below n (Some a) = a.number ≤ n

abbrev AreBelow : ℕ → Outstanding → Type 0
AreBelow n out = (c : ClientNo) → Below n (out c)

below-wider : (n m : ℕ) (o : Option Asked) → n ≤ m → Below n o → Below m o
below-wider n m None l h = tt
below-wider n m (Some a) l h = omega (arith, l, h)

below-with : (n : ℕ) (out : Outstanding) (c : ClientNo) (o : Option Asked) → Below n o → AreBelow n out → AreBelow n (with_asked out c o)
below-with n out c o h k d = by (client_eq c d)
  where
    by : (b : Bool) → Below n (if b then o else out d)
    by true = h
    by false = k d

below-event : (n : ℕ) (out : Outstanding) (number : ℕ) (e : Event) (ls : List Line) → number ≤ n → AreBelow n out → AreBelow n (after_event out number e ls)
below-event n out number (events.Command c command) ls l h = by (says_it (refuses_own c number) ls)
  where
    by : (b : Bool) → AreBelow n (if b then out else with_asked out c (Some (record { number = number; order = orders.Command command })))
    by true = h
    by false = below-with n out c _ l h
below-event n out number (events.Call c s call) ls l h = by (says_it (refuses_own c number) ls)
  where
    by : (b : Bool) → AreBelow n (if b then out else with_asked out c (Some (record { number = number; order = orders.Call s call })))
    by true = h
    by false = below-with n out c _ l h
below-event n out number _ ls l h = h

below-answer : (n : ℕ) (out : Outstanding) (x : Text) → AreBelow n out → AreBelow n (after_answer out (answer_in x) x)
below-answer n out x h = by (answer_in x)
  where
    by : (o : Option Addressed) → AreBelow n (after_answer out o x)
    by None = h
    by (Some a) = last (is_last x)
      where
        last : (b : Bool) → AreBelow n (if b then with_asked out a.client None else out)
        last true = below-with n out a.client None tt h
        last false = h

below-answers : (n : ℕ) (out : Outstanding) (ls : List Line) → AreBelow n out → AreBelow n (after_answers out ls)
below-answers n out [] h = h
below-answers n out (l ∷ ls) h = below-answers n (after_answer out (answer_in l.text) l.text) ls (below-answer n out l.text h)

-- it answers no later operation from the files
abbrev IsSilent : ℕ → Text → Type 0
IsSilent n x = (c : ClientNo) (j : ℕ) → n < j → answer_told c j x ≡ None

-- nor a later call
abbrev IsUntold : ℕ → Text → Type 0
IsUntold n x = (wish : Wish) (c : ClientNo) (j : ℕ) (es : List Entry) → n < j → reply_told wish c j es x ≡ None

untold-wider : (n m : ℕ) (x : Text) → n ≤ m → IsUntold n x → IsUntold m x
untold-wider n m x l h wish c j es k = h wish c j es (omega (arith, l, k))

both-untold : (n : ℕ) (x : Text) → IsSilent n x → ((c : ClientNo) (j : ℕ) → n < j → is_addressed c j (answer_in x) ≡ false) → IsUntold n x
both-untold n x h k (wishes.Operation op) c j es l = ap (option_map (λ a. replies.Answered a)) (h c j l)
both-untold n x h k (wishes.Call call) c j es l = ap (λ (b : Bool). if b then call_reply call es x else None) (k c j l)

fits-below : (n : ℕ) (o : Option Asked) (k : ℕ) (x : Text) → Below n o → fits_asked o k x ≡ true → k ≤ n
fits-below n None k x h f = absurd (cc f)
fits-below n (Some a) k x h f = grind (arith, nat_tests, h, f)

other-number : (n : ℕ) (c d : ClientNo) (j k : ℕ) (a : Answer) → k ≤ n → n < j → (if client_eq c d && nat_eq j k then Some a else None) ≡ None
other-number n c d j k a l h = grind (arith, nat_tests, l, h)

fit-silent : (n : ℕ) (out : Outstanding) (x : Text) → AreBelow n out → fits out (answer_in x) x ≡ true → IsSilent n x
fit-silent n out (says.Did d k) h f = λ c j l. other-number n c d j k _ (fits-below n (out d) k _ (h d) f) l
fit-silent n out (says.Read d k bytes) h f = λ c j l. other-number n c d j k _ (fits-below n (out d) k _ (h d) f) l
fit-silent n out (says.Refused d k refusals.NoFile) h f = λ c j l. other-number n c d j k _ (fits-below n (out d) k _ (h d) f) l
fit-silent n out (says.Refused d k refusals.Exists) h f = λ c j l. other-number n c d j k _ (fits-below n (out d) k _ (h d) f) l
fit-silent n out _ h f = λ c j l. refl

other-addressed : (n : ℕ) (out : Outstanding) (o : Option Addressed) (x : Text) → AreBelow n out → fits out o x ≡ true → (c : ClientNo) (j : ℕ) → n < j → is_addressed c j o ≡ false
other-addressed n out None x h f c j l = refl
other-addressed n out (Some a) x h f c j l = let b = fits-below n (out a.client) a.number x (h a.client) f in grind (arith, nat_tests, b, l)

fit-untold : (n : ℕ) (out : Outstanding) (x : Text) → AreBelow n out → fits out (answer_in x) x ≡ true → IsUntold n x
fit-untold n out x h f = both-untold n x (fit-silent n out x h f) (other-addressed n out (answer_in x) x h f)

fit-lines : (n : ℕ) (out : Outstanding) (ls : List Line) → AreBelow n out → AllFit out ls → (l : Line) → In l ls → IsUntold n l.text
fit-lines n out [] h f l i = absurd i
fit-lines n out (x ∷ xs) h f l (inl e) = subst (λ (z : Line). IsUntold n z.text) e (fit-untold n out x.text h f.0)
fit-lines n out (x ∷ xs) h f l (inr i) = fit-lines n (after_answer out (answer_in x.text) x.text) xs (below-answer n out x.text h) f.1 l i

-- lines of these events answer none after them
follow-lines : (out : Outstanding) (number : ℕ) (es : List Event) (ls : List Line) → AreBelow number out → FollowsFrom out number es ls → (i : ℕ) → number ≤ i → i < number + length es → (l : Line) → In l (lines_at (AtEvent i) ls) → IsUntold i l.text
follow-lines out number [] ls h f i low high l k = absurd (none number i low high)
  where
    none : (n i : ℕ) → n ≤ i → i < n + 0 → ⊥
    none n i low high = omega (arith, low, high)
follow-lines out number (e ∷ es) ls h f i low high l k = by (nat_eq number i) refl (λ low high. follow-lines (after_one out number e (lines_at (AtEvent number) ls)) (number + 1) es ls after f.1 i low high l k)
  where
    self : (n : ℕ) → n ≤ n
    self n = omega arith

    above : (n i : ℕ) → n ≤ i → nat_eq n i ≡ false → n + 1 ≤ i
    above n i low q = grind (arith, nat_tests, low, q)

    below : (n i m : ℕ) → i < n + suc m → i < n + 1 + m
    below n i m high = omega (arith, high)

    wider : (n : ℕ) → n ≤ n + 1
    wider n = omega arith

    same : (n i : ℕ) → nat_eq n i ≡ true → n ≡ i
    same n i q = grind (arith, nat_tests, q)

    given : AreBelow number (after_event out number e (lines_at (AtEvent number) ls))
    given = below-event number out number e (lines_at (AtEvent number) ls) (self number) h

    after : AreBelow (number + 1) (after_one out number e (lines_at (AtEvent number) ls))
    after c = below-wider number (number + 1) _ (wider number) (below-answers number (after_event out number e (lines_at (AtEvent number) ls)) (lines_at (AtEvent number) ls) given c)

    by : (b : Bool) → nat_eq number i ≡ b → (number + 1 ≤ i → i < number + 1 + length es → IsUntold i l.text) → IsUntold i l.text
    by true q on = subst (λ n. IsUntold n l.text) (same number i q)
        (fit-lines number (after_event out number e (lines_at (AtEvent number) ls)) (lines_at (AtEvent number) ls) given f.0.fit l (subst (λ n. In l (lines_at (AtEvent n) ls)) (sym (same number i q)) k))
    by false q on = on (above number i low q) (below number i (length es) high)

at-its-event : (w : When) (ls : List Line) (l : Line) → when_eq l.when w ≡ true → In l ls → In l (lines_at w ls)
at-its-event w [] l e i = absurd i
at-its-event w (x ∷ xs) l e (inl q) = subst (λ (z : List Line). In l z) (sym (taken x xs (ap (λ (z : Line). when_eq z.when w) q ∙ e))) (inl q)
  where
    taken : (x : Line) (xs : List Line) → when_eq x.when w ≡ true → lines_at w (x ∷ xs) ≡ x ∷ lines_at w xs
    taken x xs h = rw h refl
at-its-event w (x ∷ xs) l e (inr i) = elim (cases_Bool (when_eq x.when w)) [ inl h ↦ rw h (inr (at-its-event w xs l e i)) | inr h ↦ rw h (at-its-event w xs l e i) ]

silent-unless : (x : Text) → is_answer x ≡ false → (n : ℕ) → IsSilent n x
silent-unless (says.Did d k) e n = absurd (cc e)
silent-unless (says.Read d k bytes) e n = absurd (cc e)
silent-unless (says.Refused d k refusal) e n = absurd (cc e)
silent-unless _ e n = λ c j l. refl

unaddressed : (b : Bool) (o : Option Addressed) → is_some o ≡ false → (c : ClientNo) (j : ℕ) → is_addressed c j (if b then None else o) ≡ false
unaddressed true o e c j = refl
unaddressed false None e c j = refl
unaddressed false (Some a) e c j = absurd (cc e)

unanswered : (x : Text) → is_answer x ≡ false → (n : ℕ) → IsUntold n x
unanswered x e n = both-untold n x (silent-unless x e n) (λ c j l. unaddressed (is_own_refusal x) (speaks_to x) e c j)

first-untold : (n : ℕ) (ls : List Line) → ((l : Line) → In l ls → IsUntold n l.text) → (wish : Wish) (c : ClientNo) (j : ℕ) (es : List Entry) → n < j → first_reply wish c j es ls ≡ None
first-untold n [] h wish c j es l = refl
first-untold n (x ∷ xs) h wish c j es l =
    ap (λ o. or_also o (first_reply wish c j (es ++ names_listed c j x.text) xs)) (h x (inl refl) wish c j es l) ∙ first-untold n xs (λ z i. h z (inr i)) wish c j (es ++ names_listed c j x.text) l

-- ---- what a transaction did

abbrev nothing : List Replied
nothing = []

nothing-by : (b : Bool) → (if b then nothing else []) ≡ []
nothing-by true = refl
nothing-by false = refl

done-none : (t : Tid) (ls : List Line) (j : ℕ) (e : Event) → ((wish : Wish) (c : ClientNo) → first_reply wish c j [] ls ≡ None) → done_in t ls j e ≡ []
done-none t ls j (events.Command c (commands.Do s op)) h = ap (λ o. if is_in c t j ls then replied s (wishes.Operation op) o else []) (h (wishes.Operation op) c) ∙ nothing-by (is_in c t j ls)
done-none t ls j (events.Call c s call) h = ap (λ o. if is_in c t j ls && call_fits call then replied s (wishes.Call call) o else []) (h (wishes.Call call) c) ∙ nothing-by (is_in c t j ls && call_fits call)
done-none t ls j _ h = refl

done-last : (t : Tid) (ls : List Line) (j : ℕ) (es : List Event) (e : Event) → done_in t ls (j + length es) e ≡ [] → done_from t ls j (es ++ e ∷ []) ≡ done_from t ls j es
done-last t ls j [] e h = append-nil (done_in t ls j e) ∙ ap (λ n. done_in t ls n e) (plus-none j) ∙ h
  where
    plus-none : (n : ℕ) → n ≡ n + 0
    plus-none n = omega arith
done-last t ls j (x ∷ es) e h = ap (λ rs. done_in t ls j x ++ rs) (done-last t ls (j + 1) es e (ap (λ n. done_in t ls n e) (shift j (length es)) ∙ h))
  where
    shift : (a b : ℕ) → a + 1 + b ≡ a + suc b
    shift a b = omega arith

module _ (es : List Event) (e : Event) (ls : List Line) (h : Follows es ls) where
  all-untold : (l : Line) → In l ls → IsUntold (length es) l.text
  all-untold l i = by (is_answer l.text) refl (of-event ls l h.of_events i)
    where
      of-event : (xs : List Line) (x : Line) → AllOfEvents (length es) xs → In x xs → is_answer x.text ≡ true → IsOfEvent (length es) x.when
      of-event [] x k j a = absurd j
      of-event (y ∷ xs) x k (inl q) a = subst (λ (z : Line). is_answer z.text ≡ true → IsOfEvent (length es) z.when) q k.0 a
      of-event (y ∷ xs) x k (inr j) a = of-event xs x k.1 j a

      self : (n : ℕ) → nat_eq n n ≡ true
      self n = grind (arith, nat_tests)

      within : (n i : ℕ) → i ≤ n → i < 1 + n
      within n i k = omega (arith, k)

      at : (w : When) → l.when ≡ w → IsOfEvent (length es) w → IsUntold (length es) l.text
      at (AtEvent n) q k = untold-wider n (length es) l.text k.1 (follow-lines nothing_asked 1 es ls (λ c. tt) h.answers n k.0 (within (length es) n k.1) l (at-its-event (AtEvent n) ls l (ap (λ w. when_eq w (AtEvent n)) q ∙ self n) i))
      at End q k = absurd k

      by : (b : Bool) → is_answer l.text ≡ b → (is_answer l.text ≡ true → IsOfEvent (length es) l.when) → IsUntold (length es) l.text
      by true q k = at l.when refl (k q)
      by false q k = unanswered l.text q (length es)

  same-done : (t : Tid) → done_of (es ++ e ∷ []) ls t ≡ done_of es ls t
  same-done t = done-last t ls 1 es e (done-none t ls (1 + length es) e (λ wish c. first-untold (length es) ls all-untold wish c (1 + length es) [] (next (length es))))
    where
      next : (n : ℕ) → n < 1 + n
      next n = omega arith

  did-the-same : (ts : List Tid) → DoneTheSame es ls (es ++ e ∷ []) ls ts
  did-the-same [] = tt
  did-the-same (t ∷ ts) = (same-done t, did-the-same ts)

  pub silent-agrees : (files : AllFiles) → Agrees files es ls → Agrees files (es ++ e ∷ []) ls
  silent-agrees files a = AgreesFrom-by_done files es ls (es ++ e ∷ []) ls (history_of ls) (did-the-same (history_of ls)) a

  pub silent-shown : (files : AllFiles) → is_show e ≡ false → ShownSoFar files es ls → ShownSoFar files (es ++ e ∷ []) ls
  silent-shown files other shown i s k n = subst (λ f. ShowsFiles f s (lines_at (AtEvent i) ls)) (sym (replay-by_done files es ls (es ++ e ∷ []) ls (history_of (lines_before (AtEvent i) ls)) (did-the-same (history_of (lines_before (AtEvent i) ls))))) (shown i s (before es i s other k) n)
    where
      no-show : (x : Event) (s : ServerNo) → is_show x ≡ false → Some x ≡ Some (events.Show s) → ⊥
      no-show (events.Show r) s a b = cc a
      no-show x s a b = cc b

      before : (xs : List Event) (i : ℕ) (s : ServerNo) → is_show e ≡ false → event_at (xs ++ e ∷ []) i ≡ Some (events.Show s) → event_at xs i ≡ Some (events.Show s)
      before [] zero s a b = absurd (cc b)
      before [] (suc zero) s a b = absurd (no-show e s a b)
      before [] (suc (suc i)) s a b = absurd (cc b)
      before (x ∷ xs) zero s a b = b
      before (x ∷ xs) (suc zero) s a b = b
      before (x ∷ xs) (suc (suc i)) s a b = before xs (suc i) s a b

  pub silent-follows : lines_at (AtEvent (1 + length es)) ls ≡ [] → Follows (es ++ e ∷ []) ls
  silent-follows silent = record {
    answers = follows-more nothing_asked 1 es e ls h.answers (subst (λ l. FollowsEvent (outstanding_after nothing_asked 1 es ls) (1 + length es) e l) (sym silent) (record { fit = tt; own = tt; once = omega arith }));
    of_events = wider ls h.of_events;
  }
    where
      longer : (xs : List Event) → length xs ≤ length (xs ++ e ∷ [])
      longer [] = omega arith
      longer (x ∷ xs) = omega (arith, longer xs)

      event-wider : (n m : ℕ) (w : When) → n ≤ m → IsOfEvent n w → IsOfEvent m w
      event-wider n m (AtEvent i) l k = (k.0, omega (arith, l, k.1))
      event-wider n m End l k = absurd k

      wider : (xs : List Line) → AllOfEvents (length es) xs → AllOfEvents (length (es ++ e ∷ [])) xs
      wider [] k = tt
      wider (x ∷ xs) k = (λ a. event-wider (length es) (length (es ++ e ∷ [])) x.when (longer es) (k.0 a), wider xs k.1)
