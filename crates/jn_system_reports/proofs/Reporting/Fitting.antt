-- What each step tells a client answers the command that it waits for.
use Rattle.jn_system_reports.proofs.Common.{◌≡◌, ℕ, Bool, true, false, List, [], ◌∷◌, ◌++◌, Option, Some, None, refl, sym, ◌∙◌, ap, subst, arith, ◌&&◌, if◌then◌else◌, ServerNo, ClientNo, Tid, WorkId, Op, Answer, Command, Begin, Open, Do, End, Abort, client_eq, Message, Note, Outcome, Text, Outstanding, Taken, ClientTable, take_row, if_waits, is_begin, is_operation, is_end, is_end_or_abort, is_current, opens, begun_row, opened_row, answer_line, outcome_row, Waited, is_own, answers_command, addressed, answer_in, is_last, fits, after_answer, has_line, line_of, lines_of, named_now, after, ends, request_eq}
use Rattle.jn_serial.specs.declared.following.Asked.{Asked}
use Rattle.jn_base.specs.declared.op.Answer.TheVariants as answers
use Rattle.jn_msgs.specs.declared.message.Message.TheVariants as messages
use Rattle.jn_msgs.specs.declared.message.Note.TheVariants as notes
use Rattle.jn_msgs.specs.declared.message.Outcome.TheVariants as outcomes
use Rattle.jn_report.specs.declared.line.Refusal.TheVariants as refusals
use Rattle.jn_report.specs.declared.line.Text.TheVariants as says
use Rattle.jn_rows.specs.declared.client.Taken.TheVariants as taken
use Rattle.jn_calls.specs.declared.order.Order.TheVariants as orders
use Rattle.jn_system_reports.proofs.Reporting.Lists.{Each, each-append}
use Rattle.jn_system_reports.proofs.Reporting.Asking.{can_answer, fits-op}
use Rattle.jn_system_reports.proofs.Reporting.Known.{Does}

-- ---- what clients wait for

abbrev pub asked_of : Option Outstanding → Option Asked
asked_of None = None
asked_of (Some o) = Some (record { number = o.event; order = orders.Command o.command })

abbrev pub Waits : Waited → (ClientNo → ClientTable) → Type 0
Waits out clients = (c : ClientNo) → out c ≡ asked_of (clients c).outstanding

abbrev pub Fit : Waited → List Text → Type 0
Fit out [] = Unit {0}
Fit out (x ∷ xs) = (fits out (answer_in x) x ≡ true) × Fit (after_answer out (answer_in x) x) xs

abbrev pub left : Waited → List Text → Waited
left out [] = out
left out (x ∷ xs) = left (after_answer out (answer_in x) x) xs

-- no refusal of a command by its client
abbrev pub IsOther : Text → Type 0
IsOther (says.Refused c j refusal) = is_own refusal ≡ false
IsOther text = Unit {0}

-- the lines answer what is waited for, after which the clients wait for what is left
pub record Heard (out : Waited) (texts : List Text) (clients : ClientNo → ClientTable) : Type 0 where
  pub fit : Fit out texts
  pub now : Waits (left out texts) clients
  pub others : Each IsOther texts

fit-more : (out : Waited) (xs ys : List Text) → Fit out xs → Fit (left out xs) ys → Fit out (xs ++ ys)
fit-more out [] ys h k = k
fit-more out (x ∷ xs) ys h k = (h.0, fit-more (after_answer out (answer_in x) x) xs ys h.1 k)

left-more : (out : Waited) (xs ys : List Text) → left out (xs ++ ys) ≡ left (left out xs) ys
left-more out [] ys = refl
left-more out (x ∷ xs) ys = left-more (after_answer out (answer_in x) x) xs ys

pub heard-then : (out : Waited) (xs ys : List Text) (between after : ClientNo → ClientTable) → Heard out xs between → Heard (left out xs) ys after → Heard out (xs ++ ys) after
heard-then out xs ys between after h k = record {
  fit = fit-more out xs ys h.fit k.fit;
  now = λ c. ap (λ (f : Waited). f c) (left-more out xs ys) ∙ k.now c;
  others = each-append IsOther xs ys h.others k.others;
}

-- ---- lines that answer nobody

abbrev pub IsMute : Text → Type 0
IsMute text = (answer_in text ≡ None) × IsOther text

pub mute-heard : (out : Waited) (texts : List Text) (clients : ClientNo → ClientTable) → Waits out clients → Each IsMute texts → Heard out texts clients
mute-heard out texts clients waits h = record { fit = fit texts h; now = λ c. ap (λ (f : Waited). f c) (none texts h) ∙ waits c; others = others texts h }
  where
    fit : (xs : List Text) → Each IsMute xs → Fit out xs
    fit [] k = tt
    fit (x ∷ xs) k = (ap (λ o. fits out o x) k.0.0, subst (λ o. Fit (after_answer out o x) xs) (sym k.0.0) (fit xs k.1))

    none : (xs : List Text) → Each IsMute xs → left out xs ≡ out
    none [] k = refl
    none (x ∷ xs) k = ap (λ o. left (after_answer out o x) xs) k.0.0 ∙ none xs k.1

    others : (xs : List Text) → Each IsMute xs → Each IsOther xs
    others [] k = tt
    others (x ∷ xs) k = (k.0.1, others xs k.1)

line-mute : (s : ServerNo) (k : Option ℕ) (note : Note) → Each IsMute (line_of s k note)
line-mute s k (notes.Commit T) = ((refl, tt), tt)
line-mute s k (notes.Broke T u by) = ((refl, tt), tt)
line-mute s (Some k) notes.Ignored = ((refl, tt), tt)
line-mute s None notes.Ignored = tt

pub lines-mute : (s : ServerNo) (k : Option ℕ) (told : List Note) → Each IsMute (lines_of s k told)
lines-mute s k [] = tt
lines-mute s k (note ∷ told) = each-append IsMute (line_of s k note) (lines_of s k told) (line-mute s k note) (lines-mute s k told)

pub now-mute : (Ts : List Tid) (lines : List Text) → Each IsMute (named_now Ts lines)
now-mute [] lines = tt
now-mute (T ∷ Ts) lines = by (has_line T lines) (now-mute Ts lines)
  where
    by : (b : Bool) → Each IsMute (named_now Ts lines) → Each IsMute (if b then named_now Ts lines else says.Commit T ∷ named_now Ts lines)
    by true h = h
    by false h = ((refl, tt), h)

-- ---- what a client reports

-- the line answers the outstanding command, which stays outstanding where it isn't its last answer
pub record TellsIt (t u : ClientTable) (line : Text) : Type 0 where
  pub outstanding : Outstanding
  pub was : t.outstanding ≡ Some outstanding
  pub addressed_it : answer_in line ≡ addressed t.client outstanding.event
  pub fits_it : answers_command outstanding.command line ≡ true
  pub then_is : u.outstanding ≡ (if is_last line then None else Some outstanding)
  pub other : IsOther line

abbrev pub TakeFits : ClientTable → ClientTable × Taken → Type 0
TakeFits t (u, taken.Ignored) = u.outstanding ≡ t.outstanding
TakeFits t (u, taken.Send to message) = u.outstanding ≡ t.outstanding
TakeFits t (u, taken.Told line answer) = TellsIt t u line

-- an answer to the outstanding request is one of its operation
abbrev pub AnswerFits : ClientTable → Message → Type 0
AnswerFits t (messages.Answer d q answer) = (o : Outstanding) → t.outstanding ≡ Some o → client_eq d t.client ≡ true → request_eq o.request q ≡ true → (op : Op) × (Does o.command op × (can_answer op answer ≡ true))
AnswerFits t message = Unit {0}

module _ (t : ClientTable) where
  where-waits : (o : Option Outstanding) (test : Outstanding → Bool) (row : ℕ → ClientTable × Taken) → t.outstanding ≡ o → ((x : Outstanding) → t.outstanding ≡ Some x → test x ≡ true → TakeFits t (row x.event)) → TakeFits t (if_waits t o test row)
  where-waits None test row e k = refl
  where-waits (Some o) test row e k = by (test o) refl
    where
      by : (b : Bool) → test o ≡ b → TakeFits t (if b then row o.event else (t, taken.Ignored))
      by true f = k o e f
      by false f = refl

  either : (b : Bool) (p q : ClientTable × Taken) → TakeFits t p → TakeFits t q → TakeFits t (if b then p else q)
  either true p q k l = k
  either false p q k l = l

  first-of : (a b : Bool) → (a && b) ≡ true → a ≡ true
  first-of a b h = grind arith

  second-of : (a b : Bool) → (a && b) ≡ true → b ≡ true
  second-of a b h = grind arith

  begun-fits : (x : Outstanding) (o : Option Tid) → t.outstanding ≡ Some x → is_begin x.command ≡ true → TakeFits t (begun_row t x.event o)
  begun-fits x None e k = record { outstanding = x; was = e; addressed_it = refl; fits_it = by x.command k; then_is = refl; other = refl }
    where
      by : (command : Command) → is_begin command ≡ true → answers_command command (says.Refused t.client x.event refusals.TooManyTransactions) ≡ true
      by (Begin s) h = refl
      by (Open s) h = absurd (grind arith)
      by (Do s op) h = absurd (grind arith)
      by End h = absurd (grind arith)
      by Abort h = absurd (grind arith)
  begun-fits x (Some T) e k = record { outstanding = x; was = e; addressed_it = refl; fits_it = by x.command k; then_is = refl; other = tt }
    where
      by : (command : Command) → is_begin command ≡ true → answers_command command (says.Begun t.client x.event T) ≡ true
      by (Begin s) h = refl
      by (Open s) h = absurd (grind arith)
      by (Do s op) h = absurd (grind arith)
      by End h = absurd (grind arith)
      by Abort h = absurd (grind arith)

  opened-fits : (x : Outstanding) (o : Option WorkId) → t.outstanding ≡ Some x → opens o x.command ≡ true → TakeFits t (opened_row t x.event o)
  opened-fits x None e k = record { outstanding = x; was = e; addressed_it = refl; fits_it = by x.command k; then_is = refl; other = refl }
    where
      by : (command : Command) → opens None command ≡ true → answers_command command (says.Refused t.client x.event refusals.TooManyWorks) ≡ true
      by (Begin s) h = absurd (grind arith)
      by (Open s) h = refl
      by (Do s op) h = absurd (grind arith)
      by End h = absurd (grind arith)
      by Abort h = absurd (grind arith)
  opened-fits x (Some W) e k = record { outstanding = x; was = e; addressed_it = refl; fits_it = by x.command k; then_is = refl; other = tt }
    where
      by : (command : Command) → opens (Some W) command ≡ true → answers_command command (says.Opened t.client x.event W.server) ≡ true
      by (Begin s) h = absurd (grind arith)
      by (Open s) h = refl
      by (Do s op) h = absurd (grind arith)
      by End h = absurd (grind arith)
      by Abort h = absurd (grind arith)

  answer-addressed : (j : ℕ) (answer : Answer) → answer_in (answer_line t.client j answer) ≡ addressed t.client j
  answer-addressed j answers.Did = refl
  answer-addressed j (answers.Read bytes) = refl
  answer-addressed j answers.NoFile = refl
  answer-addressed j answers.Exists = refl
  answer-addressed j (answers.Locked u T) = refl
  answer-addressed j answers.TooManyReads = refl
  answer-addressed j answers.TooManyWrites = refl
  answer-addressed j (answers.Broken u T) = refl
  answer-addressed j (answers.Lost m n) = refl
  answer-addressed j answers.Closing = refl

  answer-last : (j : ℕ) (answer : Answer) → is_last (answer_line t.client j answer) ≡ true
  answer-last j answers.Did = refl
  answer-last j (answers.Read bytes) = refl
  answer-last j answers.NoFile = refl
  answer-last j answers.Exists = refl
  answer-last j (answers.Locked u T) = refl
  answer-last j answers.TooManyReads = refl
  answer-last j answers.TooManyWrites = refl
  answer-last j (answers.Broken u T) = refl
  answer-last j (answers.Lost m n) = refl
  answer-last j answers.Closing = refl

  answer-other : (j : ℕ) (answer : Answer) → IsOther (answer_line t.client j answer)
  answer-other j answers.Did = tt
  answer-other j (answers.Read bytes) = tt
  answer-other j answers.NoFile = refl
  answer-other j answers.Exists = refl
  answer-other j (answers.Locked u T) = refl
  answer-other j answers.TooManyReads = refl
  answer-other j answers.TooManyWrites = refl
  answer-other j (answers.Broken u T) = refl
  answer-other j (answers.Lost m n) = refl
  answer-other j answers.Closing = refl

  answer-fits : (x : Outstanding) (answer : Answer) → t.outstanding ≡ Some x → ((op : Op) × (Does x.command op × (can_answer op answer ≡ true))) → TellsIt t (record t { outstanding = None }) (answer_line t.client x.event answer)
  answer-fits x answer e k = record {
    outstanding = x;
    was = e;
    addressed_it = answer-addressed x.event answer;
    fits_it = ap (λ (command : Command). answers_command command (answer_line t.client x.event answer)) k.1.0.1 ∙ fits-op k.1.0.0 k.0 t.client x.event answer k.1.1;
    then_is = ap (λ (b : Bool). if b then None else Some x) (sym (answer-last x.event answer));
    other = answer-other x.event answer;
  }

  closing-fits : (x : Outstanding) (u : ClientTable) (line : Text) → t.outstanding ≡ Some x → u.outstanding ≡ None → answer_in line ≡ addressed t.client x.event → is_last line ≡ true → IsOther line → answers_command End line ≡ true → answers_command Abort line ≡ true → is_end_or_abort x.command ≡ true → TellsIt t u line
  closing-fits x u line e none to last other ends aborts k = record { outstanding = x; was = e; addressed_it = to; fits_it = by x.command k; then_is = none ∙ ap (λ (b : Bool). if b then None else Some x) (sym last); other = other }
    where
      by : (command : Command) → is_end_or_abort command ≡ true → answers_command command line ≡ true
      by (Begin s) h = absurd (grind arith)
      by (Open s) h = absurd (grind arith)
      by (Do s op) h = absurd (grind arith)
      by End h = ends
      by Abort h = aborts

  waiting-fits : (x : Outstanding) (s : ServerNo) (T : Tid) (line : Text) → t.outstanding ≡ Some x → answer_in line ≡ addressed t.client x.event → is_last line ≡ false → IsOther line → answers_command End line ≡ true → is_end x.command ≡ true → TellsIt t t line
  waiting-fits x s T line e to last other ends k = record { outstanding = x; was = e; addressed_it = to; fits_it = by x.command k; then_is = e ∙ ap (λ (b : Bool). if b then None else Some x) (sym last); other = other }
    where
      by : (command : Command) → is_end command ≡ true → answers_command command line ≡ true
      by (Begin s) h = absurd (grind arith)
      by (Open s) h = absurd (grind arith)
      by (Do s op) h = absurd (grind arith)
      by End h = ends
      by Abort h = absurd (grind arith)

  outcome-fits : (T : Tid) (outcome : Outcome) → TakeFits t (outcome_row t T outcome)
  outcome-fits T outcomes.Committed = either (is_current t T) _ _ (where-waits t.outstanding _ _ refl (λ x e k. closing-fits x _ _ e refl refl refl tt refl refl k)) refl
  outcome-fits T (outcomes.Aborted cause) = either (is_current t T) _ _ (where-waits t.outstanding _ _ refl (λ x e k. closing-fits x _ _ e refl refl refl tt refl refl k)) refl
  outcome-fits T (outcomes.Waiting s u by) = either (is_current t T) _ _ (where-waits t.outstanding _ _ refl (λ x e k. waiting-fits x s T _ e refl refl tt refl k)) refl
  outcome-fits T (outcomes.NotKnown s epoch) = either (is_current t T) _ _ (where-waits t.outstanding _ _ refl (λ x e k. closing-fits x _ _ e refl refl refl tt refl refl k)) refl

  pub take-fits : (message : Message) → AnswerFits t message → TakeFits t (take_row t message)
  take-fits (messages.Begun d q o) fit = where-waits t.outstanding _ _ refl (λ x e k. begun-fits x o e (second-of (request_eq x.request q) (is_begin x.command) (second-of (client_eq d t.client) (request_eq x.request q && is_begin x.command) k)))
  take-fits (messages.Opened d q T o) fit = where-waits t.outstanding _ _ refl (λ x e k. opened-fits x o e
      (second-of (is_current t T) (opens o x.command) (second-of (request_eq x.request q) (is_current t T && opens o x.command) (second-of (client_eq d t.client) (request_eq x.request q && (is_current t T && opens o x.command)) k))))
  take-fits (messages.Answer d q answer) fit = where-waits t.outstanding _ _ refl (λ x e k. answer-fits x answer e
      (fit x e (first-of (client_eq d t.client) (request_eq x.request q && is_operation x.command) k) (first-of (request_eq x.request q) (is_operation x.command) (second-of (client_eq d t.client) (request_eq x.request q && is_operation x.command) k))))
  take-fits (messages.Outcome d T outcome) fit = either (client_eq d t.client) _ _ (outcome-fits T outcome) refl
  take-fits _ fit = refl
