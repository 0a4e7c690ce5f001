-- The order of commits, on the same files and on lists joined end to end.
use Rattle.jn_serial.proofs.Common.{ℕ, length, ◌≡◌, Bool, ◌||◌, List, [], ◌∷◌, ◌++◌, filter, refl, sym, ap, ◌∙◌, inl, inr, append_assoc, ◌+◌, ◌<◌, ◌↔◌, drop, get_or, Option, None, cases_Bool, ClientNo, Tid, tid_eq, AllFiles, Performed, AreSame, files_then, GivesAnswers, drop_here, Event, When, Text, Line, when_eq, is_before, lines_at, lines_before, says, has_tid, operations_of, OperationsAgreeFrom, NamesNone, list_any, same_files}
use Rattle.jn_serial.proofs.LineByLine.{answered_by, owner_after, told_from, operations_told}

-- whose transaction T is after these lines
abbrev pub owner_then : Tid → Option ClientNo → List Line → Option ClientNo
owner_then t owner [] = owner
owner_then t owner (l ∷ ls) = owner_then t (owner_after t owner l.text) ls

pub told_from-append : (events : List Event) (t : Tid) (owner : Option ClientNo) (xs ys : List Line) → told_from events t owner (xs ++ ys) ≡ told_from events t owner xs ++ told_from events t (owner_then t owner xs) ys
told_from-append events t owner [] ys = refl
told_from-append events t owner (l ∷ xs) ys =
    ap (λ (ps : List Performed). answered_by events owner l.text ++ ps) (told_from-append events t (owner_after t owner l.text) xs ys)
    ∙ sym (append_assoc (answered_by events owner l.text) (told_from events t (owner_after t owner l.text) xs) (told_from events t (owner_then t (owner_after t owner l.text) xs) ys))

pub operations_told-append : (events : List Event) (t : Tid) (xs ys : List Line) → operations_told events (xs ++ ys) t ≡ operations_told events xs t ++ told_from events t (owner_then t None xs) ys
operations_told-append events t xs ys = told_from-append events t None xs ys

filter-append : {X : Type 0} (p : X → Bool) (xs ys : List X) → filter p (xs ++ ys) ≡ filter p xs ++ filter p ys
filter-append p [] ys = refl
filter-append {X} p (x ∷ xs) ys = elim (cases_Bool (p x)) [ inl e ↦ rw e (ap (λ (zs : List X). x ∷ zs) (filter-append p xs ys)) | inr e ↦ rw e (filter-append p xs ys) ]

pub lines_at-append : (w : When) (xs ys : List Line) → lines_at w (xs ++ ys) ≡ lines_at w xs ++ lines_at w ys
lines_at-append w xs ys = filter-append (λ (l : Line). when_eq l.when w) xs ys

pub lines_before-append : (w : When) (xs ys : List Line) → lines_before w (xs ++ ys) ≡ lines_before w xs ++ lines_before w ys
lines_before-append w xs ys = filter-append (λ (l : Line). is_before l.when w) xs ys

pub any-append : {X : Type 0} (p : X → Bool) (xs ys : List X) → list_any p (xs ++ ys) ≡ (list_any p xs || list_any p ys)
any-append p [] ys = refl
any-append p (x ∷ xs) ys = elim (cases_Bool (p x)) [ inl e ↦ rw e | inr e ↦ rw e (any-append p xs ys) ]

pub says-append : (test : Text → Bool) (xs ys : List Line) → says test (xs ++ ys) ≡ (says test xs || says test ys)
says-append test xs ys = any-append (λ (l : Line). test l.text) xs ys

pub has_tid-append : (ts us : List Tid) (t : Tid) → has_tid (ts ++ us) t ≡ (has_tid ts t || has_tid us t)
has_tid-append ts us t = any-append (λ u. tid_eq u t) ts us

pub NamesNone-append : (named : List Tid) (xs ys : List Line) → NamesNone named xs → NamesNone named ys → NamesNone named (xs ++ ys)
NamesNone-append named [] ys h k = k
NamesNone-append named (l ∷ xs) ys h k = (h.0, NamesNone-append named xs ys h.1 k)

-- one step of a loop over committed transactions
pub OperationsAgreeFrom-step : (events : List Event) (lines : List Line) (ts : List Tid) (i : ℕ) (d : Tid) (ps : List Performed) (before after : AllFiles) → i < length ts → ps ≡ operations_of events lines (get_or ts i d) → GivesAnswers before ps → AreSame after (files_then ps before) → OperationsAgreeFrom before events lines (drop i ts) ↔ OperationsAgreeFrom after events lines (drop (i + 1) ts)
OperationsAgreeFrom-step events lines ts i d ps before after h e gives same =
    rw (drop_here ts i d h, same_files after (files_then ps before) same, ← e) (λ k. k.1, λ k. (gives, k))
