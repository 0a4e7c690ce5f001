-- What the lines report of a transaction, with more lines, and what its operations do at each server.
use Rattle.jn_system_reports.proofs.Common.{◌≡◌, ◌≢◌, ◌⊎◌, inl, inr, Bool, true, false, List, [], ◌∷◌, ◌++◌, Option, Some, None, refl, sym, ◌∙◌, ap, subst, arith, if◌then◌else◌, map, ◌||◌, ◌&&◌, ServerNo, ClientNo, Tid, server_eq, client_eq, tid_eq, server_tells, Files, AllFiles, change, answer_to, files_after, all_files_after, Event, Text, Line, Performed, files_then, GivesAnswers, answered_by, begins_for, owner_after, told_from, Answered, effect_of, effects, FilesAnswer, says_of, at_place, answers-front}
use Rattle.jn_system_reports.proofs.Telling.TransactionLines.{ops_in, owner_in, begins_it, is_begun, begun_by}
use Rattle.jn_order.specs.Changes.{and_then}
use Rattle.jn_order.proofs.ChangeLemmas.{change-then, change-nothing, and_then-assoc, nothing-then}
use Rattle.jn_report.specs.declared.line.Text.TheVariants as says
use Rattle.jn_system.proofs.SmallSteps.TraceLemmas.{after_answer, agrees_more}

-- ---- lists

append-append : {A : Type 0} → (a b c : List A) → (a ++ b) ++ c ≡ a ++ (b ++ c)
append-append [] b c = refl
append-append (x ∷ a) b c = ap (λ z. x ∷ z) (append-append a b c)

abbrev pub texts_of : List Line → List Text
texts_of lines = map (λ (l : Line). l.text) lines

pub ops-of-texts : (events : List Event) (T : Tid) (owner : Option ClientNo) (lines : List Line) → told_from events T owner lines ≡ ops_in events T owner (texts_of lines)
ops-of-texts events T owner [] = refl
ops-of-texts events T owner (l ∷ lines) = ap (λ z. answered_by events owner l.text ++ z) (ops-of-texts events T (owner_after T owner l.text) lines)

pub owner-more : (T : Tid) (owner : Option ClientNo) (a b : List Text) → owner_in T owner (a ++ b) ≡ owner_in T (owner_in T owner a) b
owner-more T owner [] b = refl
owner-more T owner (x ∷ a) b = owner-more T (owner_after T owner x) a b

pub ops-more : (events : List Event) (T : Tid) (owner : Option ClientNo) (a b : List Text) → ops_in events T owner (a ++ b) ≡ ops_in events T owner a ++ ops_in events T (owner_in T owner a) b
ops-more events T owner [] b = refl
ops-more events T owner (x ∷ a) b = ap (λ z. answered_by events owner x ++ z) (ops-more events T (owner_after T owner x) a b)
    ∙ sym (append-append (answered_by events owner x) (ops_in events T (owner_after T owner x) a) (ops_in events T (owner_in T (owner_after T owner x) a) b))

pub begun-more : (T : Tid) (a b : List Text) → is_begun T (a ++ b) ≡ (is_begun T a || is_begun T b)
begun-more T [] b = refl
begun-more T (x ∷ a) b = ap (λ z. begins_it T x || z) (begun-more T a b) ∙ assoc (begins_it T x) (is_begun T a) (is_begun T b)
  where
    assoc : (a b c : Bool) → (a || (b || c)) ≡ ((a || b) || c)
    assoc a b c = grind arith

-- a client that was told so was told
pub by-begun : (c : ClientNo) (T : Tid) (texts : List Text) → begun_by c T texts ≡ true → is_begun T texts ≡ true
by-begun c T [] h = h
by-begun c T (x ∷ texts) h = by x h (by-begun c T texts)
  where
    first : (a b : Bool) → (a && b) ≡ true → b ≡ true
    first a b k = grind arith

    by : (x : Text) → (begins_for c T x || begun_by c T texts) ≡ true → (begun_by c T texts ≡ true → is_begun T texts ≡ true) → (begins_it T x || is_begun T texts) ≡ true
    by (says.Begun d j U) k on = at (client_eq c d && tid_eq T U) refl k
      where
        at : (b : Bool) → (client_eq c d && tid_eq T U) ≡ b → (b || begun_by c T texts) ≡ true → (tid_eq T U || is_begun T texts) ≡ true
        at true e l = ap (λ (b : Bool). b || is_begun T texts) (first (client_eq c d) (tid_eq T U) e)
        at false e l = ap (λ (b : Bool). tid_eq T U || b) (on l) ∙ or-true (tid_eq T U)
          where
            or-true : (b : Bool) → (b || true) ≡ true
            or-true b = grind arith
    by _ k on = on k

pub by-texts : (c : ClientNo) (T : Tid) (lines : List Line) → says_of (begins_for c T) lines ≡ begun_by c T (texts_of lines)
by-texts c T [] = refl
by-texts c T (l ∷ lines) = ap (λ (b : Bool). begins_for c T l.text || b) (by-texts c T lines)

pub place-more : (s : ServerNo) (a b : List Performed) → at_place s (a ++ b) ≡ at_place s a ++ at_place s b
place-more s [] b = refl
place-more s (p ∷ a) b = by (server_eq p.server s) (place-more s a b)
  where
    by : (t : Bool) → at_place s (a ++ b) ≡ at_place s a ++ at_place s b → (if t then (record { op = p.op; answer = p.answer }) ∷ at_place s (a ++ b) else at_place s (a ++ b)) ≡ (if t then (record { op = p.op; answer = p.answer }) ∷ at_place s a else at_place s a) ++ at_place s b
    by true on = ap (λ z. (record { op = p.op; answer = p.answer }) ∷ z) on
    by false on = on

-- of a transaction that no client was told of nothing is reported
not-begun-after : (T : Tid) (text : Text) → begins_it T text ≡ false → owner_after T None text ≡ None
not-begun-after T (says.Begun c event U) h = ap (λ (b : Bool). if b then Some c else None) h
not-begun-after T _ h = refl

pub first-false : (a b : Bool) → (a || b) ≡ false → a ≡ false
first-false a b h = grind arith

pub second-false : (a b : Bool) → (a || b) ≡ false → b ≡ false
second-false a b h = grind arith

pub none-told : (events : List Event) (T : Tid) (texts : List Text) → is_begun T texts ≡ false → (ops_in events T None texts ≡ []) × (owner_in T None texts ≡ None)
none-told events T [] h = (refl, refl)
none-told events T (x ∷ texts) h =
    let e = not-begun-after T x (first-false (begins_it T x) (is_begun T texts) h) in let on = none-told events T texts (second-false (begins_it T x) (is_begun T texts) h) in
    (ap (λ o. ops_in events T o texts) e ∙ on.0, ap (λ o. owner_in T o texts) e ∙ on.1)

-- ---- what is reported says as much as what was done

-- Operations that change as much as others, and that are answered so by whatever files answer those so.
pub record SaysAs (told trace : List Answered) : Type 0 where
  pub effects : effects told ≡ effects trace
  pub agrees : (files : Files) → FilesAnswer files trace → FilesAnswer files told

pub as-itself : (trace : List Answered) → SaysAs trace trace
as-itself trace = record { effects = refl; agrees = λ files h. h }

effects-append : (a b : List Answered) → effects (a ++ b) ≡ and_then (effects a) (effects b)
effects-append [] b = sym (nothing-then (effects b))
effects-append (x ∷ a) b = ap (λ z. and_then (effect_of x) z) (effects-append a b) ∙ sym (and_then-assoc (effect_of x) (effects a) (effects b))

agrees-last : (a : List Answered) (x : Answered) (files : Files) → FilesAnswer files (a ++ x ∷ []) → answer_to x.op (change (effects a) files) ≡ x.answer
agrees-last [] x files h = ap (λ f. answer_to x.op f) (change-nothing files) ∙ h.0
agrees-last (y ∷ a) x files h = ap (λ f. answer_to x.op f) (change-then (effect_of y) (effects a) files) ∙ agrees-last a x (change (effect_of y) files) (rw (← after_answer y files h.0) h.1)

-- one more operation on both sides
pub both-more : (told trace : List Answered) (x : Answered) → SaysAs told trace → SaysAs (told ++ x ∷ []) (trace ++ x ∷ [])
both-more told trace x h = record {
  effects = effects-append told (x ∷ []) ∙ ap (λ z. and_then z (effects (x ∷ []))) h.effects ∙ sym (effects-append trace (x ∷ []));
  agrees = λ files k. agrees_more told x files (h.agrees files (answers-front trace (x ∷ []) files k)) (ap (λ z. answer_to x.op (change z files)) h.effects ∙ agrees-last trace x files k);
}

-- operations more, which change nothing in all
pub trace-more : (told trace more : List Answered) → effects (trace ++ more) ≡ effects trace → SaysAs told trace → SaysAs told (trace ++ more)
trace-more told trace more same h = record { effects = h.effects ∙ sym same; agrees = λ files k. h.agrees files (answers-front trace more files k) }

-- ---- servers share no files

abbrev Tells : ServerNo → ServerNo → Type 0
Tells s q = ((server_eq s q ≡ true) × (s ≡ q)) ⊎ ((server_eq s q ≡ false) × (s ≢ q))

-- Where each server's files give its operations their answers, all files give all of them theirs, and change at each server
-- as its own operations say.
pub all-answers : (ops : List Performed) (files : AllFiles) → ((s : ServerNo) → FilesAnswer (files s) (at_place s ops))
    → GivesAnswers files ops × ((s : ServerNo) → files_then ops files s ≡ change (effects (at_place s ops)) (files s))
all-answers [] files h = (tt, λ s. sym (change-nothing (files s)))
all-answers (p ∷ ops) files h = let rest = all-answers ops (all_files_after p.server p.op files) (λ s. on s (server_tells p.server s)) in
    ((gives, rest.0), λ s. rest.1 s ∙ one s (server_tells p.server s))
  where
    a : Answered
    a = record { op = p.op; answer = p.answer }

    here : Tells p.server p.server → answer_to p.op (files p.server) ≡ p.answer
    here (inl (t, e)) = (subst (λ (b : Bool). FilesAnswer (files p.server) (if b then a ∷ at_place p.server ops else at_place p.server ops)) t (h p.server)).0
    here (inr (t, ne)) = absurd (ne refl)

    gives : answer_to p.op (files p.server) ≡ p.answer
    gives = here (server_tells p.server p.server)

    its : (s : ServerNo) → p.server ≡ s → files_after p.op (files s) ≡ change (effect_of a) (files s)
    its s e = after_answer a (files s) (subst (λ (q : ServerNo). answer_to p.op (files q) ≡ p.answer) e gives)

    on : (s : ServerNo) → Tells p.server s → FilesAnswer (all_files_after p.server p.op files s) (at_place s ops)
    on s (inl (t, e)) = subst (λ (b : Bool). FilesAnswer (if b then files_after p.op (files s) else files s) (at_place s ops)) (sym t)
        (subst (λ (b : Bool). FilesAnswer (files s) (if b then a ∷ at_place s ops else at_place s ops)) t (h s)).1
    on s (inr (t, ne)) = subst (λ (b : Bool). FilesAnswer (if b then files_after p.op (files s) else files s) (at_place s ops)) (sym t)
        (subst (λ (b : Bool). FilesAnswer (files s) (if b then a ∷ at_place s ops else at_place s ops)) t (h s))

    one : (s : ServerNo) → Tells p.server s → change (effects (at_place s ops)) (all_files_after p.server p.op files s) ≡ change (effects (at_place s (p ∷ ops))) (files s)
    one s (inl (t, e)) = ap (λ (b : Bool). change (effects (at_place s ops)) (if b then files_after p.op (files s) else files s)) t ∙ ap (λ f. change (effects (at_place s ops)) f) (its s e)
        ∙ sym (change-then (effect_of a) (effects (at_place s ops)) (files s)) ∙ sym (ap (λ (b : Bool). change (effects (if b then a ∷ at_place s ops else at_place s ops)) (files s)) t)
    one s (inr (t, ne)) = ap (λ (b : Bool). change (effects (at_place s ops)) (if b then files_after p.op (files s) else files s)) t
        ∙ sym (ap (λ (b : Bool). change (effects (if b then a ∷ at_place s ops else at_place s ops)) (files s)) t)
