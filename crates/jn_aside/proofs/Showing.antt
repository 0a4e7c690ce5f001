-- What transactions did, and what shows print, without lines aside.
use Rattle.jn_aside.proofs.Common.{◌≡◌, inl, inr, ℕ, ◌+◌, Bool, true, ◌&&◌, append-nil, List, [], ◌∷◌, ◌++◌, None, refl, sym, ◌∙◌, ap, subst, if◌then◌else◌, cases_Bool, ServerNo, ClientNo, Tid, AllFiles, Event, AtEvent, End, Text, Line, when_eq, is_before, lines_at, lines_before, says_it, history_of, is_in, answer_told, or_also, first_answer_told, performed, operation_in, operations_from, operations_of, reply_told, names_listed, first_reply, replied, done_in, done_from, done_of, replay, AgreesFrom, Agrees, IsAsIn, AllAsIn, prints_file, accounts_file, accounts_block, ShowsFiles, is_no_show, is_locked, ShownSoFar, ShownAtEnd, is_aside, plain, option_map, Entry, Wish, call_fits, replay_operations, DoneTheSame, replay-by_done, AgreesFrom-by_done}
use Rattle.jn_base.specs.declared.op.Command.TheVariants as commands
use Rattle.jn_calls.specs.declared.reply.Reply.TheVariants as replies
use Rattle.jn_calls.specs.declared.reply.Wish.TheVariants as wishes
use Rattle.jn_serial.proofs.Ops.{DidTheSame, replay_operations-by_ops}
use Rattle.jn_schedule.specs.declared.Event.TheVariants as events
use Rattle.jn_aside.proofs.Plain.{of-aside, IsMute, mute, same-of, filter-aside, says-plain, history-plain, is_in-plain, Passes, passes-aside, whole}

-- ---- what a transaction did, operation by operation

told-plain : (c : ClientNo) (j : ℕ) (xs : List Line) → first_answer_told c j (plain xs) ≡ first_answer_told c j xs
told-plain c j [] = refl
told-plain c j (l ∷ xs) = elim (cases_Bool (is_aside l.text)) [
  | inl e ↦ rw (e, of-aside (λ x. answer_told c j x ≡ None) (λ s n. refl) (λ k a b kind. refl) l.text e) (told-plain c j xs)
  | inr e ↦ rw e (ap (or_also (answer_told c j l.text)) (told-plain c j xs))
]

op-plain : (t : Tid) (xs : List Line) (j : ℕ) (e : Event) → operation_in t (plain xs) j e ≡ operation_in t xs j e
op-plain t xs j (events.Command c (commands.Do s op)) = ap (λ (b : Bool). if b then performed s op (first_answer_told c j (plain xs)) else []) (is_in-plain c t j xs) ∙ ap (λ o. if is_in c t j xs then performed s op o else []) (told-plain c j xs)
op-plain t xs j _ = refl

ops-plain : (t : Tid) (xs : List Line) (j : ℕ) (es : List Event) → operations_from t (plain xs) j es ≡ operations_from t xs j es
ops-plain t xs j [] = refl
ops-plain t xs j (e ∷ es) = ap (λ ps. ps ++ operations_from t (plain xs) (j + 1) es) (op-plain t xs j e) ∙ ap (λ ps. operation_in t xs j e ++ ps) (ops-plain t xs (j + 1) es)

-- ---- and call by call

none-told : (wish : Wish) (c : ClientNo) (j : ℕ) (es : List Entry) (x : Text) → is_aside x ≡ true → reply_told wish c j es x ≡ None
none-told (wishes.Operation op) c j es x e = ap (option_map (λ a. replies.Answered a)) (of-aside (λ z. answer_told c j z ≡ None) (λ s n. refl) (λ k a b kind. refl) x e)
none-told (wishes.Call call) c j es x e = of-aside (λ z. reply_told (wishes.Call call) c j es z ≡ None) (λ s n. refl) (λ k a b kind. refl) x e

none-listed : (c : ClientNo) (j : ℕ) (x : Text) → is_aside x ≡ true → names_listed c j x ≡ []
none-listed c j = of-aside (λ z. names_listed c j z ≡ []) (λ s n. refl) (λ k a b kind. refl)

reply-plain : (wish : Wish) (c : ClientNo) (j : ℕ) (es : List Entry) (xs : List Line) → first_reply wish c j es (plain xs) ≡ first_reply wish c j es xs
reply-plain wish c j es [] = refl
reply-plain wish c j es (l ∷ xs) = elim (cases_Bool (is_aside l.text)) [
  | inl e ↦ rw (e, none-told wish c j es l.text e, none-listed c j l.text e, append-nil es) (reply-plain wish c j es xs)
  | inr e ↦ rw e (ap (or_also (reply_told wish c j es l.text)) (reply-plain wish c j (es ++ names_listed c j l.text) xs))
]

done-plain : (t : Tid) (xs : List Line) (j : ℕ) (e : Event) → done_in t (plain xs) j e ≡ done_in t xs j e
done-plain t xs j (events.Command c (commands.Do s op)) =
    ap (λ (b : Bool). if b then replied s (wishes.Operation op) (first_reply (wishes.Operation op) c j [] (plain xs)) else []) (is_in-plain c t j xs)
    ∙ ap (λ o. if is_in c t j xs then replied s (wishes.Operation op) o else []) (reply-plain (wishes.Operation op) c j [] xs)
done-plain t xs j (events.Call c s call) =
    ap (λ (b : Bool). if b && call_fits call then replied s (wishes.Call call) (first_reply (wishes.Call call) c j [] (plain xs)) else []) (is_in-plain c t j xs)
    ∙ ap (λ o. if is_in c t j xs && call_fits call then replied s (wishes.Call call) o else []) (reply-plain (wishes.Call call) c j [] xs)
done-plain t xs j _ = refl

all-done-plain : (t : Tid) (xs : List Line) (j : ℕ) (es : List Event) → done_from t (plain xs) j es ≡ done_from t xs j es
all-done-plain t xs j [] = refl
all-done-plain t xs j (e ∷ es) = ap (λ rs. rs ++ done_from t (plain xs) (j + 1) es) (done-plain t xs j e) ∙ ap (λ rs. done_in t xs j e ++ rs) (all-done-plain t xs (j + 1) es)

module _ (events : List Event) (a b : List Line) (same : plain a ≡ plain b) where
  pub ops-aside : (t : Tid) → operations_of events a t ≡ operations_of events b t
  ops-aside t = same-of (λ xs. operations_of events xs t) (λ xs. ops-plain t xs 1 events) a b same

  pub done-aside : (t : Tid) → done_of events a t ≡ done_of events b t
  done-aside t = same-of (λ xs. done_of events xs t) (λ xs. all-done-plain t xs 1 events) a b same

  pub history-aside : history_of a ≡ history_of b
  history-aside = same-of history_of history-plain a b same

  -- ---- the commits one after another

  done-the-same : (ts : List Tid) → DoneTheSame events a events b ts
  done-the-same [] = tt
  done-the-same (t ∷ ts) = (sym (done-aside t), done-the-same ts)

  pub replay-aside : (files : AllFiles) (ts : List Tid) → replay files events a ts ≡ replay files events b ts
  replay-aside files ts = sym (replay-by_done files events a events b ts (done-the-same ts))

  did-the-same : (ts : List Tid) → DidTheSame events a events b ts
  did-the-same [] = tt
  did-the-same (t ∷ ts) = (sym (ops-aside t), did-the-same ts)

  pub operations-aside : (files : AllFiles) (ts : List Tid) → replay_operations files events a ts ≡ replay_operations files events b ts
  operations-aside files ts = sym (replay_operations-by_ops files events a events b ts (did-the-same ts))

  pub agrees-aside : (files : AllFiles) → Agrees files events a → Agrees files events b
  agrees-aside files h = subst (λ ts. AgreesFrom files events b ts) history-aside (AgreesFrom-by_done files events a events b (history_of a) (done-the-same (history_of a)) h)

-- ---- the lines of a show

as-in : (files : AllFiles) → Passes (Unit {0}) (λ s ls. AllAsIn files ls) (λ s (l : Line). IsAsIn files l.text) (λ s l. s) (λ s. s)
as-in files = whole (Unit {0}) (λ s ls. AllAsIn files ls) _ _ (λ s. tt) (λ s l ls h k. (h, k)) (λ s l ls h. h)
    (λ s l. of-aside (IsAsIn files) (λ s n. tt) (λ k a b kind. tt) l.text) (λ s l e. refl)

says-aside : (test : Text → Bool) → IsMute test → (a b : List Line) → plain a ≡ plain b → says_it test a ≡ says_it test b
says-aside test h a b e = same-of (says_it test) (says-plain test h) a b e

shows-aside : (files : AllFiles) (s : ServerNo) (a b : List Line) → plain a ≡ plain b → ShowsFiles files s a → ShowsFiles files s b
shows-aside files s a b e h = record {
  printed = passes-aside (Unit {0}) (λ z ls. AllAsIn files ls) _ _ _ (as-in files) tt a b e h.printed;
  no_other_file = λ f k. h.no_other_file f (says-aside (accounts_file s f) (mute (accounts_file s f) (λ r n. refl) (λ j x y kind. refl)) a b e ∙ k);
  no_other_block = λ f p j k. h.no_other_block f p (says-aside (prints_file s f) (mute (prints_file s f) (λ r n. refl) (λ i x y kind. refl)) a b e ∙ j)
      (says-aside (accounts_block s f p) (mute (accounts_block s f p) (λ r n. refl) (λ i x y kind. refl)) a b e ∙ k);
}

-- ---- shows, and the end

module _ (files : AllFiles) (events : List Event) (a b : List Line) (same : plain a ≡ plain b) where
  pub so-far-aside : ShownSoFar files events a → ShownSoFar files events b
  so-far-aside h i s e silent =
      let here = filter-aside (λ w. when_eq w (AtEvent i)) a b same in
      let earlier = filter-aside (λ w. is_before w (AtEvent i)) a b same in
      subst (λ f. ShowsFiles f s (lines_at (AtEvent i) b)) (replay-aside events a b same files (history_of (lines_before (AtEvent i) a)) ∙ ap (replay files events b) (same-of history_of history-plain (lines_before (AtEvent i) a) (lines_before (AtEvent i) b) earlier))
      (shows-aside _ s (lines_at (AtEvent i) a) (lines_at (AtEvent i) b) here (h i s e (says-aside is_no_show (mute is_no_show (λ r n. refl) (λ j x y kind. refl)) (lines_at (AtEvent i) a) (lines_at (AtEvent i) b) here ∙ silent)))

  pub at-end-aside : ShownAtEnd files events a → ShownAtEnd files events b
  at-end-aside h = let here = filter-aside (λ w. when_eq w End) a b same in record {
    all = λ s. subst (λ f. ShowsFiles f s (lines_at End b)) (replay-aside events a b same files (history_of a) ∙ ap (replay files events b) (history-aside events a b same)) (shows-aside _ s (lines_at End a) (lines_at End b) here (h.all s));
    unlocked = sym (says-aside is_locked (mute is_locked (λ r n. refl) (λ j x y kind. refl)) (lines_at End a) (lines_at End b) here) ∙ h.unlocked;
  }
