-- What a transaction did, and what the commits give, with more events and more lines.
use Rattle.jn_serial.proofs.Common.{◌≡◌, ℕ, ◌≤◌, cond, List, [], ◌∷◌, ◌++◌, length, Option, Some, None, refl, ◌∙◌, ap, arith, ClientNo, Tid, Answer, client_eq, AllFiles, files_then, Event, Text, Line, Performed, event_at, operations_of, replay_operations}
use Rattle.jn_serial.proofs.LineByLine.{performed_in, answered, answered_by, owner_after, told_from}
use Rattle.jn_report.specs.declared.line.Refusal.TheVariants as refusals
use Rattle.jn_report.specs.declared.line.Text.TheVariants as says
use Rattle.jn_serial.proofs.Growth.{event_at-front}

-- the number of the command that a line answers from the files, if it does so, is at most n
abbrev pub AnswersWithin : ℕ → Text → Type 0
AnswersWithin n (says.Did c j) = j ≤ n
AnswersWithin n (says.Read c j bytes) = j ≤ n
AnswersWithin n (says.Refused c j refusal) = j ≤ n
AnswersWithin n _ = Unit {0}

abbrev pub AllAnswerWithin : ℕ → List Line → Type 0
AllAnswerWithin n [] = Unit {0}
AllAnswerWithin n (l ∷ ls) = AnswersWithin n l.text × AllAnswerWithin n ls

AnswersWithin-wider : (n m : ℕ) (text : Text) → n ≤ m → AnswersWithin n text → AnswersWithin m text
AnswersWithin-wider n m (says.Did c j) h w = omega arith
AnswersWithin-wider n m (says.Read c j bytes) h w = omega arith
AnswersWithin-wider n m (says.Refused c j refusal) h w = omega arith
AnswersWithin-wider n m (says.Up s e) h w = tt
AnswersWithin-wider n m (says.Down s) h w = tt
AnswersWithin-wider n m (says.Stopped s) h w = tt
AnswersWithin-wider n m (says.Outside s o) h w = tt
AnswersWithin-wider n m (says.Ignored k) h w = tt
AnswersWithin-wider n m (says.Lost k) h w = tt
AnswersWithin-wider n m (says.Commit t) h w = tt
AnswersWithin-wider n m (says.Broke s t u by) h w = tt
AnswersWithin-wider n m (says.Begun c j t) h w = tt
AnswersWithin-wider n m (says.Opened c j s) h w = tt
AnswersWithin-wider n m (says.Bytes c j bytes) h w = tt
AnswersWithin-wider n m (says.Found c j f) h w = tt
AnswersWithin-wider n m (says.Name c j name f) h w = tt
AnswersWithin-wider n m (says.Waiting c j s u t) h w = tt
AnswersWithin-wider n m (says.Committed c j t) h w = tt
AnswersWithin-wider n m (says.Aborted c j t cause) h w = tt
AnswersWithin-wider n m (says.RefusedEvent r) h w = tt
AnswersWithin-wider n m (says.File s f) h w = tt
AnswersWithin-wider n m (says.Page s f p bytes) h w = tt
AnswersWithin-wider n m (says.Locked s u t) h w = tt
AnswersWithin-wider n m (says.Commits k) h w = tt
AnswersWithin-wider n m (says.Message k a b kind) h w = tt

pub AllAnswerWithin-wider : (n m : ℕ) (ls : List Line) → n ≤ m → AllAnswerWithin n ls → AllAnswerWithin m ls
AllAnswerWithin-wider n m [] h w = tt
AllAnswerWithin-wider n m (l ∷ ls) h w = (AnswersWithin-wider n m l.text h w.0, AllAnswerWithin-wider n m ls h w.1)

pub AllAnswerWithin-append : (n : ℕ) (ls ms : List Line) → AllAnswerWithin n ls → AllAnswerWithin n ms → AllAnswerWithin n (ls ++ ms)
AllAnswerWithin-append n [] ms a b = b
AllAnswerWithin-append n (l ∷ ls) ms a b = (a.0, AllAnswerWithin-append n ls ms a.1 b)

performed-events : (es fs : List Event) (c d : ClientNo) (a : Answer) (j : ℕ) → j ≤ length es
    → cond (client_eq c d) (performed_in c a (event_at (es ++ fs) j)) [] ≡ cond (client_eq c d) (performed_in c a (event_at es j)) []
performed-events es fs c d a j h = ap (λ (e : Option Event). cond (client_eq c d) (performed_in c a e) []) (event_at-front es fs j h)

-- later events don't change what an earlier line answers
answered-events : (es fs : List Event) (c : ClientNo) (text : Text) → AnswersWithin (length es) text → answered (es ++ fs) c text ≡ answered es c text
answered-events es fs c (says.Did d j) h = performed-events es fs c d _ j h
answered-events es fs c (says.Read d j bytes) h = performed-events es fs c d _ j h
answered-events es fs c (says.Refused d j refusals.NoFile) h = performed-events es fs c d _ j h
answered-events es fs c (says.Refused d j refusals.Exists) h = performed-events es fs c d _ j h
answered-events es fs c _ h = refl

answered_by-events : (es fs : List Event) (owner : Option ClientNo) (text : Text) → AnswersWithin (length es) text → answered_by (es ++ fs) owner text ≡ answered_by es owner text
answered_by-events es fs None text h = refl
answered_by-events es fs (Some c) text h = answered-events es fs c text h

pub told_from-events : (es fs : List Event) (t : Tid) (owner : Option ClientNo) (ls : List Line) → AllAnswerWithin (length es) ls → told_from (es ++ fs) t owner ls ≡ told_from es t owner ls
told_from-events es fs t owner [] h = refl
told_from-events es fs t owner (l ∷ ls) h =
    ap (λ (ps : List Performed). ps ++ told_from (es ++ fs) t (owner_after t owner l.text) ls) (answered_by-events es fs owner l.text h.0)
    ∙ ap (λ (ps : List Performed). answered_by es owner l.text ++ ps) (told_from-events es fs t (owner_after t owner l.text) ls h.1)

-- the commits depend on what their transactions did alone
abbrev pub DidTheSame : List Event → List Line → List Event → List Line → List Tid → Type 0
DidTheSame es ls fs ms [] = Unit {0}
DidTheSame es ls fs ms (t ∷ ts) = (operations_of fs ms t ≡ operations_of es ls t) × DidTheSame es ls fs ms ts

pub replay_operations-by_ops : (files : AllFiles) (es : List Event) (ls : List Line) (fs : List Event) (ms : List Line) (ts : List Tid) → DidTheSame es ls fs ms ts → replay_operations files fs ms ts ≡ replay_operations files es ls ts
replay_operations-by_ops files es ls fs ms [] h = refl
replay_operations-by_ops files es ls fs ms (t ∷ ts) h =
    replay_operations-by_ops (files_then (operations_of fs ms t) files) es ls fs ms ts h.1 ∙ ap (λ (ps : List Performed). replay_operations (files_then ps files) es ls ts) h.0
