-- What transactions did, call by call: each call is one that a client makes, and where no event is a call, what they did is their operations.
use Rattle.jn_serial.proofs.Common.{◌≡◌, ℕ, ◌+◌, ◌<◌, ◌↔◌, Bool, true, false, ◌||◌, ◌&&◌, if◌then◌else◌, List, [], ◌∷◌, ◌++◌, length, drop, get_or, Option, Some, None, refl, sym, ◌∙◌, ap, subst, true≢false, ClientNo, Tid, Answer, AllFiles, Performed, AreSame, files_then, GivesAnswers, drop_here, same_files, Event, Line, is_in, answer_told, first_answer_told, performed, operation_in, operations_from, operations_of, replay_operations, OperationsAgreeFrom, names_listed, first_reply, replied, done_in, done_from, done_of, replay, AgreesFrom, is_call, as_replied, map, option_map, list_any, ServerNo, Op, or_also, all_files_after, call_fits, wish_fits, CallsFit, files_by_all, GivesReplies}
use Rattle.jn_base.specs.declared.op.Command.TheVariants as commands
use Rattle.jn_names.specs.declared.entry.Entry.{Entry}
use Rattle.jn_calls.specs.declared.reply.Reply.{Reply}
use Rattle.jn_calls.specs.declared.reply.Reply.TheVariants as replies
use Rattle.jn_calls.specs.declared.reply.Wish.{Wish}
use Rattle.jn_calls.specs.declared.reply.Wish.TheVariants as wishes
use Rattle.jn_replay.specs.declared.replied.Replied.{Replied}
use Rattle.std.proofs.Math.Path.{fun_ext}
use Rattle.jn_schedule.specs.declared.Event.TheVariants as events
use Rattle.jn_serial.specs.Shown.{ShownSoFarBy, ShownAtEndBy, ShownSoFar, ShownAtEnd, OperationsShownSoFar, OperationsShownAtEnd}

-- ---- calls that a client makes

fit-append : (rs qs : List Replied) → CallsFit rs → CallsFit qs → CallsFit (rs ++ qs)
fit-append [] qs h k = k
fit-append (r ∷ rs) qs h k = (h.0, fit-append rs qs h.1 k)

pub fit_front : (rs qs : List Replied) → CallsFit (rs ++ qs) → CallsFit rs
fit_front [] qs h = tt
fit_front (r ∷ rs) qs h = (h.0, fit_front rs qs h.1)

fit-one : (s : ServerNo) (wish : Wish) (o : Option Reply) → wish_fits wish ≡ true → CallsFit (replied s wish o)
fit-one s wish None h = tt
fit-one s wish (Some reply) h = (h, tt)

fit-in : (t : Tid) (lines : List Line) (j : ℕ) (e : Event) → CallsFit (done_in t lines j e)
fit-in t lines j (events.Command c (commands.Do s op)) = by (is_in c t j lines)
  where
    by : (b : Bool) → CallsFit (if b then replied s (wishes.Operation op) (first_reply (wishes.Operation op) c j [] lines) else [])
    by true = fit-one s (wishes.Operation op) (first_reply (wishes.Operation op) c j [] lines) refl
    by false = tt
fit-in t lines j (events.Command c (commands.Begin s)) = tt
fit-in t lines j (events.Command c (commands.Open s)) = tt
fit-in t lines j (events.Command c commands.End) = tt
fit-in t lines j (events.Command c commands.Abort) = tt
fit-in t lines j (events.Call c s call) = by (is_in c t j lines) (call_fits call) refl
  where
    by : (b d : Bool) → call_fits call ≡ d → CallsFit (if b && d then replied s (wishes.Call call) (first_reply (wishes.Call call) c j [] lines) else [])
    by true true h = fit-one s (wishes.Call call) (first_reply (wishes.Call call) c j [] lines) h
    by true false h = tt
    by false d h = tt
fit-in t lines j _ = tt

fit-from : (t : Tid) (lines : List Line) (j : ℕ) (es : List Event) → CallsFit (done_from t lines j es)
fit-from t lines j [] = tt
fit-from t lines j (e ∷ es) = fit-append (done_in t lines j e) (done_from t lines (j + 1) es) (fit-in t lines j e) (fit-from t lines (j + 1) es)

pub done_fits : (es : List Event) (lines : List Line) (t : Tid) → CallsFit (done_of es lines t)
done_fits es lines t = fit-from t lines 1 es

-- one step of a loop over committed transactions
pub AgreesFrom-step : (events : List Event) (lines : List Line) (ts : List Tid) (i : ℕ) (d : Tid) (rs : List Replied) (before after : AllFiles) → i < length ts → rs ≡ done_of events lines (get_or ts i d) → GivesReplies before rs → AreSame after (files_by_all rs before) → AgreesFrom before events lines (drop i ts) ↔ AgreesFrom after events lines (drop (i + 1) ts)
AgreesFrom-step events lines ts i d rs before after h e gives same =
    rw (drop_here ts i d h, same_files after (files_by_all rs before) same, ← e) (λ k. k.1, λ k. (gives, k))

-- the commits depend on what their transactions did alone
abbrev pub DoneTheSame : List Event → List Line → List Event → List Line → List Tid → Type 0
DoneTheSame es ls fs ms [] = Unit {0}
DoneTheSame es ls fs ms (t ∷ ts) = (done_of fs ms t ≡ done_of es ls t) × DoneTheSame es ls fs ms ts

pub replay-by_done : (files : AllFiles) (es : List Event) (ls : List Line) (fs : List Event) (ms : List Line) (ts : List Tid) → DoneTheSame es ls fs ms ts → replay files fs ms ts ≡ replay files es ls ts
replay-by_done files es ls fs ms [] h = refl
replay-by_done files es ls fs ms (t ∷ ts) h =
    replay-by_done (files_by_all (done_of fs ms t) files) es ls fs ms ts h.1 ∙ ap (λ (rs : List Replied). replay (files_by_all rs files) es ls ts) h.0

pub AgreesFrom-by_done : (files : AllFiles) (es : List Event) (ls : List Line) (fs : List Event) (ms : List Line) (ts : List Tid) → DoneTheSame es ls fs ms ts → AgreesFrom files es ls ts → AgreesFrom files fs ms ts
AgreesFrom-by_done files es ls fs ms [] h a = tt
AgreesFrom-by_done files es ls fs ms (t ∷ ts) h a = (
  subst (λ (rs : List Replied). GivesReplies files rs) (sym h.0) a.0,
  AgreesFrom-by_done (files_by_all (done_of fs ms t) files) es ls fs ms ts h.1 (subst (λ (rs : List Replied). AgreesFrom (files_by_all rs files) es ls ts) (sym h.0) a.1),
)

-- ---- where no event is a call

abbrev answered : Option Answer → Option Reply
answered o = option_map (λ a. replies.Answered a) o

or-answered : (o p : Option Answer) → or_also (answered o) (answered p) ≡ answered (or_also o p)
or-answered None p = refl
or-answered (Some a) p = refl

first-told : (op : Op) (c : ClientNo) (j : ℕ) (es : List Entry) (ls : List Line) → first_reply (wishes.Operation op) c j es ls ≡ answered (first_answer_told c j ls)
first-told op c j es [] = refl
first-told op c j es (l ∷ ls) = ap (λ (o : Option Reply). or_also (answered (answer_told c j l.text)) o) (first-told op c j (es ++ names_listed c j l.text) ls) ∙ or-answered (answer_told c j l.text) (first_answer_told c j ls)

replied-operation : (s : ServerNo) (op : Op) (o : Option Answer) → replied s (wishes.Operation op) (answered o) ≡ map as_replied (performed s op o)
replied-operation s op None = refl
replied-operation s op (Some a) = refl

in-operation : (t : Tid) (lines : List Line) (j : ℕ) (e : Event) → is_call e ≡ false → done_in t lines j e ≡ map as_replied (operation_in t lines j e)
in-operation t lines j (events.Command c (commands.Do s op)) h =
    ap (λ (o : Option Reply). if is_in c t j lines then replied s (wishes.Operation op) o else []) (first-told op c j [] lines) ∙ by (is_in c t j lines)
  where
    by : (b : Bool) → (if b then replied s (wishes.Operation op) (answered (first_answer_told c j lines)) else []) ≡ map as_replied (if b then performed s op (first_answer_told c j lines) else [])
    by true = replied-operation s op (first_answer_told c j lines)
    by false = refl
in-operation t lines j (events.Command c (commands.Begin s)) h = refl
in-operation t lines j (events.Command c (commands.Open s)) h = refl
in-operation t lines j (events.Command c commands.End) h = refl
in-operation t lines j (events.Command c commands.Abort) h = refl
in-operation t lines j (events.Call c s call) h = absurd (true≢false h)
in-operation t lines j _ h = refl

map-append : (ps qs : List Performed) → map as_replied (ps ++ qs) ≡ map as_replied ps ++ map as_replied qs
map-append [] qs = refl
map-append (p ∷ ps) qs = ap (λ (rs : List Replied). as_replied p ∷ rs) (map-append ps qs)

pub no-call-first : (e : Event) (es : List Event) → list_any is_call (e ∷ es) ≡ false → is_call e ≡ false
no-call-first e es h = by (is_call e) (list_any is_call es) h
  where
    by : (a b : Bool) → (a || b) ≡ false → a ≡ false
    by true b k = k
    by false b k = refl

pub no-call-rest : (e : Event) (es : List Event) → list_any is_call (e ∷ es) ≡ false → list_any is_call es ≡ false
no-call-rest e es h = by (is_call e) (list_any is_call es) h
  where
    by : (a b : Bool) → (a || b) ≡ false → b ≡ false
    by true b k = absurd (true≢false k)
    by false b k = k

from-operations : (t : Tid) (lines : List Line) (j : ℕ) (es : List Event) → list_any is_call es ≡ false → done_from t lines j es ≡ map as_replied (operations_from t lines j es)
from-operations t lines j [] h = refl
from-operations t lines j (e ∷ es) h =
    ap (λ (rs : List Replied). rs ++ done_from t lines (j + 1) es) (in-operation t lines j e (no-call-first e es h))
    ∙ ap (λ (rs : List Replied). map as_replied (operation_in t lines j e) ++ rs) (from-operations t lines (j + 1) es (no-call-rest e es h))
    ∙ sym (map-append (operation_in t lines j e) (operations_from t lines (j + 1) es))

pub done_is_operations : (es : List Event) (lines : List Line) (t : Tid) → list_any is_call es ≡ false → done_of es lines t ≡ map as_replied (operations_of es lines t)
done_is_operations es lines t h = from-operations t lines 1 es h

files_as_operations : (ps : List Performed) (files : AllFiles) → files_by_all (map as_replied ps) files ≡ files_then ps files
files_as_operations [] files = refl
files_as_operations (p ∷ ps) files = files_as_operations ps _

files-done : (es : List Event) (lines : List Line) (t : Tid) (files : AllFiles) → list_any is_call es ≡ false → files_by_all (done_of es lines t) files ≡ files_then (operations_of es lines t) files
files-done es lines t files h = ap (λ (rs : List Replied). files_by_all rs files) (done_is_operations es lines t h) ∙ files_as_operations (operations_of es lines t) files

pub replay_is_of_operations : (files : AllFiles) (es : List Event) (lines : List Line) (ts : List Tid) → list_any is_call es ≡ false → replay files es lines ts ≡ replay_operations files es lines ts
replay_is_of_operations files es lines [] h = refl
replay_is_of_operations files es lines (t ∷ ts) h =
    ap (λ (f : AllFiles). replay f es lines ts) (files-done es lines t files h) ∙ replay_is_of_operations (files_then (operations_of es lines t) files) es lines ts h

same-answer : (a b : Answer) → replies.Answered a ≡ replies.Answered b → a ≡ b
same-answer a b e = cc

pub gives-answered : (files : AllFiles) (ps : List Performed) → GivesReplies files (map as_replied ps) ↔ GivesAnswers files ps
gives-answered files [] = (λ h. tt, λ h. tt)
gives-answered files (p ∷ ps) =
    let rest = gives-answered (all_files_after p.server p.op files) ps in
    (λ h. (same-answer _ _ h.0, rest.0 h.1), λ h. (ap (λ (a : Answer). replies.Answered a) h.0, rest.1 h.1))

pub agrees_as_operations : (files : AllFiles) (es : List Event) (lines : List Line) (ts : List Tid) → list_any is_call es ≡ false → AgreesFrom files es lines ts ↔ OperationsAgreeFrom files es lines ts
agrees_as_operations files es lines [] h = (λ k. tt, λ k. tt)
agrees_as_operations files es lines (t ∷ ts) h =
    let done = done_is_operations es lines t h in
    let gives = gives-answered files (operations_of es lines t) in
    let after = files-done es lines t files h in
    let rest = agrees_as_operations (files_then (operations_of es lines t) files) es lines ts h in (
      λ k. (gives.0 (subst (λ (rs : List Replied). GivesReplies files rs) done k.0), rest.0 (subst (λ (f : AllFiles). AgreesFrom f es lines ts) after k.1)),
      λ k. (subst (λ (rs : List Replied). GivesReplies files rs) (sym done) (gives.1 k.0), subst (λ (f : AllFiles). AgreesFrom f es lines ts) (sym after) (rest.1 k.1)),
    )

-- ---- and what is shown

replays-same : (files : AllFiles) (es : List Event) (lines : List Line) → list_any is_call es ≡ false → replay files es lines ≡ replay_operations files es lines
replays-same files es lines h = fun_ext (λ ts. replay_is_of_operations files es lines ts h)

pub so_far_as_operations : (files : AllFiles) (es : List Event) (lines : List Line) → list_any is_call es ≡ false → ShownSoFar files es lines ↔ OperationsShownSoFar files es lines
so_far_as_operations files es lines h = let same = replays-same files es lines h in
    (λ k. subst (λ (r : List Tid → AllFiles). ShownSoFarBy r es lines) same k, λ k. subst (λ (r : List Tid → AllFiles). ShownSoFarBy r es lines) (sym same) k)

pub at_end_as_operations : (files : AllFiles) (es : List Event) (lines : List Line) → list_any is_call es ≡ false → ShownAtEnd files es lines ↔ OperationsShownAtEnd files es lines
at_end_as_operations files es lines h = let same = replays-same files es lines h in
    (λ k. subst (λ (r : List Tid → AllFiles). ShownAtEndBy r lines) same k, λ k. subst (λ (r : List Tid → AllFiles). ShownAtEndBy r lines) (sym same) k)
