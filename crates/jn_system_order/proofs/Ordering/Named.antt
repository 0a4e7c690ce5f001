-- Each step keeps that a client is told of a commit only once its line was reported.
use Rattle.jn_system_order.proofs.Common.{◌≡◌, ℕ, ◌+◌, Bool, true, false, List, [], ◌∷◌, ◌++◌, append-nil, Option, Some, None, refl, sym, ◌∙◌, ap, subst, if◌then◌else◌, ServerNo, ClientNo, Tid, WorkId, Client, Answer, client_eq, Message, Note, Outcome, Text, Outstanding, Taken, StableState, Pick, Sent, ClientTable, take_row, if_waits, is_current, begun_row, opened_row, answer_line, decided_row, outcome_row, Machine, Says, OutcomeSays, World, has_line, line_of, lines_of, named_now, Step, Mirrors, IsTrue, IsNamedBefore, AreNamed, ClientRow, by_command, by_ignoring, by_answering, by_telling, FoundThen, by_narrowing, by_raising, Quiet, is_refused, is_lost, StepCase, client_row, row_done, row_stopped, gone_late, gone_down, come_up, found_anew, dismissed, quietly, step-case, after}
use Rattle.jn_base.specs.declared.op.Answer.TheVariants as answers
use Rattle.jn_msgs.specs.declared.message.Message.TheVariants as messages
use Rattle.jn_msgs.specs.declared.message.Note.TheVariants as notes
use Rattle.jn_msgs.specs.declared.message.Outcome.TheVariants as outcomes
use Rattle.jn_report.specs.declared.line.Text.TheVariants as says
use Rattle.jn_rows.specs.declared.client.Taken.TheVariants as taken
use Rattle.jn_system_order.proofs.Mirroring.StepMoves.{holds-of}

append-append : (a b c : List Text) → (a ++ b) ++ c ≡ a ++ (b ++ c)
append-append [] b c = refl
append-append (x ∷ a) b c = ap (λ z. x ∷ z) (append-append a b c)

named-more : (before a b : List Text) → AreNamed before a → AreNamed (before ++ a) b → AreNamed before (a ++ b)
named-more before [] b h k = subst (λ z. AreNamed z b) (append-nil before) k
named-more before (x ∷ a) b h k = (h.0, named-more (before ++ x ∷ []) a b h.1 (subst (λ z. AreNamed z b) (sym (append-append before (x ∷ []) a)) k))

-- ---- lines that acknowledge nothing

abbrev IsPlain : Text → Type 0
IsPlain (says.Committed c event T) = ⊥
IsPlain text = Unit {0}

abbrev ArePlain : List Text → Type 0
ArePlain [] = Unit {0}
ArePlain (text ∷ texts) = IsPlain text × ArePlain texts

plain-one : (before : List Text) (text : Text) → IsPlain text → IsNamedBefore before text
plain-one before (says.Committed c event T) h = absurd h
plain-one before _ h = tt

plain-named : (before texts : List Text) → ArePlain texts → AreNamed before texts
plain-named before [] h = tt
plain-named before (text ∷ texts) h = (plain-one before text h.0, plain-named (before ++ text ∷ []) texts h.1)

plain-more : (a b : List Text) → ArePlain a → ArePlain b → ArePlain (a ++ b)
plain-more [] b h k = k
plain-more (x ∷ a) b h k = (h.0, plain-more a b h.1 k)

line-plain : (s : ServerNo) (k : Option ℕ) (note : Note) → ArePlain (line_of s k note)
line-plain s k (notes.Commit T) = (tt, tt)
line-plain s k (notes.Broke T u by) = (tt, tt)
line-plain s (Some k) notes.Ignored = (tt, tt)
line-plain s None notes.Ignored = tt

lines-plain : (s : ServerNo) (k : Option ℕ) (told : List Note) → ArePlain (lines_of s k told)
lines-plain s k [] = tt
lines-plain s k (note ∷ told) = plain-more (line_of s k note) (lines_of s k told) (line-plain s k note) (lines-plain s k told)

now-plain : (Ts : List Tid) (lines : List Text) → ArePlain (named_now Ts lines)
now-plain [] lines = tt
now-plain (T ∷ Ts) lines = by (has_line T lines) (now-plain Ts lines)
  where
    by : (b : Bool) → ArePlain (named_now Ts lines) → ArePlain (if b then named_now Ts lines else says.Commit T ∷ named_now Ts lines)
    by true h = h
    by false h = (tt, h)

answer-plain : (c : ClientNo) (j : ℕ) (answer : Answer) → IsPlain (answer_line c j answer)
answer-plain c j answers.Did = tt
answer-plain c j (answers.Read bytes) = tt
answer-plain c j answers.NoFile = tt
answer-plain c j answers.Exists = tt
answer-plain c j (answers.Locked u T) = tt
answer-plain c j answers.TooManyReads = tt
answer-plain c j answers.TooManyWrites = tt
answer-plain c j (answers.Broken u T) = tt
answer-plain c j (answers.Lost m n) = tt
answer-plain c j answers.Closing = tt

-- ---- what a client reports

module _ (w : Machine) (lines : List Text) (named : (T : Tid) → w.named T ≡ has_line T lines) (t : ClientTable) where
  abbrev TellsNamed : Taken → Type 0
  TellsNamed (taken.Told line answer) = IsNamedBefore lines line
  TellsNamed what = Unit {0}

  abbrev RowNamed : ClientTable × Taken → Type 0
  RowNamed row = TellsNamed row.1

  where-waits : (o : Option Outstanding) (test : Outstanding → Bool) (row : ℕ → ClientTable × Taken) → ((j : ℕ) → RowNamed (row j)) → RowNamed (if_waits t o test row)
  where-waits None test row h = tt
  where-waits (Some o) test row h = by (test o)
    where
      by : (b : Bool) → RowNamed (if b then row o.event else (t, taken.Ignored))
      by true = h o.event
      by false = tt

  either : (b : Bool) (p q : ClientTable × Taken) → RowNamed p → RowNamed q → RowNamed (if b then p else q)
  either true p q h k = h
  either false p q h k = k

  begun-named : (j : ℕ) (o : Option Tid) → RowNamed (begun_row t j o)
  begun-named j (Some T) = tt
  begun-named j None = tt

  opened-named : (j : ℕ) (o : Option WorkId) → RowNamed (opened_row t j o)
  opened-named j (Some W) = tt
  opened-named j None = tt

  decided-named : (T : Tid) (line : ℕ → Text) → ((j : ℕ) → IsNamedBefore lines (line j)) → RowNamed (decided_row t T line)
  decided-named T line h = either (is_current t T) _ _ (where-waits t.outstanding _ _ h) tt

  outcome-named : (T : Tid) (outcome : Outcome) → OutcomeSays w T outcome → RowNamed (outcome_row t T outcome)
  outcome-named T outcomes.Committed said = decided-named T _ (λ j. sym (named T) ∙ said)
  outcome-named T (outcomes.Aborted cause) said = decided-named T _ (λ j. tt)
  outcome-named T (outcomes.Waiting s u by) said = either (is_current t T) _ _ (where-waits t.outstanding _ _ (λ j. tt)) tt
  outcome-named T (outcomes.NotKnown s epoch) said = either (is_current t T) _ _ (where-waits t.outstanding _ _ (λ j. tt)) tt

  takes-named : (message : Message) → Says w message → RowNamed (take_row t message)
  takes-named (messages.Begun c request answer) said = where-waits t.outstanding _ _ (λ j. begun-named j answer)
  takes-named (messages.Opened c request T answer) said = where-waits t.outstanding _ _ (λ j. opened-named j answer)
  takes-named (messages.Answer c request answer) said = where-waits t.outstanding _ _ (λ j. plain-one lines (answer_line t.client j answer) (answer-plain t.client j answer))
  takes-named (messages.Outcome c T outcome) said = either (client_eq c t.client) _ _ (outcome-named T outcome said) tt
  takes-named _ said = tt

-- ---- every step

module _ (r : World) (w : Machine) (mirrors : Mirrors r w) (named : (T : Tid) → w.named T ≡ has_line T r.lines) (names : AreNamed [] r.lines) where
  plainly : (texts : List Text) → ArePlain texts → AreNamed [] (r.lines ++ texts)
  plainly texts h = named-more [] r.lines texts names (plain-named r.lines texts h)

  client-names : (c : ClientNo) (step : Step) (t : ClientTable) (sent : List Sent) (lines : List Text) → ClientRow r c step t sent lines → AreNamed [] lines
  client-names c _ _ _ _ (by_command command t to message e) = names
  client-names c _ _ _ _ (by_ignoring k room stop message t is e) = plainly _ (tt, tt)
  client-names c _ _ _ _ (by_answering k room stop message t to answer is e) = names
  client-names c _ _ _ _ (by_telling k room stop message t line answer is e) = named-more [] r.lines (line ∷ []) names
      (subst (λ row. RowNamed w r.lines named (r.clients c) row) e (takes-named w r.lines named (r.clients c) message (holds-of (IsTrue w) r.sent k (Client c, message) mirrors.says is)), tt)

  found-names : (s : ServerNo) (step : Step) (found : Pick → StableState) (lines : List Text) → FoundThen r s step found lines → AreNamed [] lines
  found-names s _ _ _ (by_narrowing g) = names
  found-names s _ _ _ (by_raising raise) = plainly _ (tt, tt)

  quiet-names : (step : Step) (event : ℕ) (sent : List Sent) (lines : List Text) → Quiet r step event sent lines → AreNamed [] lines
  quiet-names _ _ _ _ (is_refused c command refusal e) = plainly _ (tt, tt)
  quiet-names _ _ _ _ (is_lost k room stop s message is e) = plainly _ (tt, tt)
  quiet-names _ _ _ _ _ = names

  by-case : (step : Step) (now : World) → StepCase r step now → AreNamed [] now.lines
  by-case step _ (client_row _ c t sent lines row) = client-names c step t sent lines row
  by-case step _ (row_done _ s m k row e is) = plainly (lines_of s k row.notes) (lines-plain s k row.notes)
  by-case step _ (row_stopped _ s m k row made e is) = plainly _ (tt, tt)
  by-case _ _ (gone_late s m T e) = names
  by-case _ _ (gone_down s m e) = plainly _ (tt, tt)
  by-case _ _ (come_up s pick Ws Ts e) = plainly (says.Up s ((r.found s pick).epoch + 1) ∷ named_now Ts r.lines) (tt, now-plain Ts r.lines)
  by-case step _ (found_anew _ s found lines e is) = found-names s step found lines is
  by-case _ _ dismissed = names
  by-case step _ (quietly _ event sent lines is) = quiet-names step event sent lines is

  pub step-names : (step : Step) → AreNamed [] (after step r).lines
  step-names step = by-case step (after step r) (step-case r step)
