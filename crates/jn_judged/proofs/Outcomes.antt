-- What is reported of outcomes, line by line.
use Rattle.jn_judged.proofs.Common.{◌≡◌, Bool, true, false, ◌||◌, not, List, [], ◌∷◌, ◌++◌, refl, sym, ◌∙◌, ap, subst, append_assoc, append-nil, list_any, ◌↔◌, Tid, Text, Line, commit_in, has_tid, history_of, IsNamedWhere, NamesBefore, NamesOnce, IsNotNamedWhere, NamesNone, Told, failed_in, acknowledged_in, failed_of, breaks_outcomes}
use Rattle.jn_report.specs.declared.line.Text.TheVariants as says
use Rattle.jn_judged.proofs.Sets.{In, Out, or-false, or-both, out-parts, out-join, in-left, in-right, clash, not-so, each-out, all-out, once-front, once-back, once-join}
use Rattle.jn_judged.proofs.Splits.{NoneBreaksFrom, NoneBreaks}

-- ---- what one text says

one-commit : (text : Text) → NamesOnce (commit_in text)
one-commit (says.Commit t) = (refl, tt)
one-commit _ = tt

apart : (text : Text) (t : Tid) → In (failed_in text) t → Out (commit_in text) t
apart (says.Commit u) t i = cc i
apart _ t i = refl

named-to : (named : List Tid) (text : Text) → IsNamedWhere named text → list_any (λ t. not (has_tid named t)) (acknowledged_in text) ≡ false
named-to named (says.Committed c j t) h = rw h refl
named-to named _ h = refl

named-from : (named : List Tid) (text : Text) → list_any (λ t. not (has_tid named t)) (acknowledged_in text) ≡ false → IsNamedWhere named text
named-from named (says.Committed c j t) h = by (has_tid named t) h
  where
    by : (b : Bool) → (not b || false) ≡ false → b ≡ true
    by true k = refl
    by false k = cc k
named-from named _ h = tt

unnamed-to : (named : List Tid) (text : Text) → IsNotNamedWhere named text → (t : Tid) → In (failed_in text) t → Out named t
unnamed-to named (says.Broke s u unit by) h t i = each-out (has_tid named) (u ∷ []) (rw h refl) t i
unnamed-to named (says.Aborted c j u cause) h t i = each-out (has_tid named) (u ∷ []) (rw h refl) t i
unnamed-to named _ h t i = cc i

unnamed-from : (named : List Tid) (text : Text) → ((t : Tid) → In (failed_in text) t → Out named t) → IsNotNamedWhere named text
unnamed-from named (says.Broke s u unit by) h = (or-false (has_tid named u) false (all-out (has_tid named) (u ∷ []) h)).0
unnamed-from named (says.Aborted c j u cause) h = (or-false (has_tid named u) false (all-out (has_tid named) (u ∷ []) h)).0
unnamed-from named _ h = tt

-- ---- lines in front

history-append : (xs ys : List Line) → history_of (xs ++ ys) ≡ history_of xs ++ history_of ys
history-append [] ys = refl
history-append (l ∷ xs) ys = ap (λ (ts : List Tid). commit_in l.text ++ ts) (history-append xs ys) ∙ sym (append_assoc (commit_in l.text) (history_of xs) (history_of ys))

failed-append : (xs ys : List Line) → failed_of (xs ++ ys) ≡ failed_of xs ++ failed_of ys
failed-append [] ys = refl
failed-append (l ∷ xs) ys = ap (λ (ts : List Tid). failed_in l.text ++ ts) (failed-append xs ys) ∙ sym (append_assoc (failed_in l.text) (failed_of xs) (failed_of ys))

history-one : (before : List Line) (l : Line) → history_of (before ++ l ∷ []) ≡ history_of before ++ commit_in l.text
history-one before l = history-append before (l ∷ []) ∙ ap (λ (ts : List Tid). history_of before ++ ts) (append-nil (commit_in l.text))

failed-one : (before : List Line) (l : Line) → failed_of (before ++ l ∷ []) ≡ failed_of before ++ failed_in l.text
failed-one before l = failed-append before (l ∷ []) ∙ ap (λ (ts : List Tid). failed_of before ++ ts) (append-nil (failed_in l.text))

-- what holds of the lines that are left, behind these
record Holds (before rest : List Line) : Type 0 where
  named : NamesBefore (history_of before) rest
  new : (t : Tid) → In (history_of rest) t → Out (history_of before) t
  once : NamesOnce (history_of rest)
  clear : (t : Tid) → In (failed_of before) t → Out (history_of rest) t
  none : NamesNone (history_of before ++ history_of rest) rest

module _ (before : List Line) (l : Line) (ls : List Line) where
  same-all : history_of (before ++ l ∷ []) ++ history_of ls ≡ history_of before ++ (commit_in l.text ++ history_of ls)
  same-all = ap (λ (ts : List Tid). ts ++ history_of ls) (history-one before l) ∙ append_assoc (history_of before) (commit_in l.text) (history_of ls)

  onward : Holds before (l ∷ ls) → (breaks_outcomes before l ls ≡ false) × Holds (before ++ l ∷ []) ls
  onward h = (
    or-both (list_any (λ t. has_tid (history_of before) t || has_tid (failed_of before) t) (commit_in l.text)) (list_any (λ t. has_tid (history_of before) t) (failed_in l.text) || list_any (λ t. not (has_tid (history_of before) t)) (acknowledged_in l.text))
        (all-out (λ t. has_tid (history_of before) t || has_tid (failed_of before) t) (commit_in l.text) (λ t i. or-both (has_tid (history_of before) t) (has_tid (failed_of before) t) (h.new t (in-left (commit_in l.text) (history_of ls) t i)) (not-so (has_tid (failed_of before) t) (λ j. clash (has_tid (commit_in l.text) t) i (out-parts (commit_in l.text) (history_of ls) t (h.clear t j)).0))))
        (or-both (list_any (λ t. has_tid (history_of before) t) (failed_in l.text)) (list_any (λ t. not (has_tid (history_of before) t)) (acknowledged_in l.text))
        (all-out (λ t. has_tid (history_of before) t) (failed_in l.text) (λ t i. (out-parts (history_of before) (commit_in l.text ++ history_of ls) t (unnamed-to (history_of before ++ (commit_in l.text ++ history_of ls)) l.text h.none.0 t i)).0))
        (named-to (history_of before) l.text h.named.0)),
    record {
      named = subst (λ (ts : List Tid). NamesBefore ts ls) (sym (history-one before l)) h.named.1;
      new = λ t i. subst (λ (ts : List Tid). Out ts t) (sym (history-one before l)) (out-join (history_of before) (commit_in l.text) t (h.new t (in-right (commit_in l.text) (history_of ls) t i)) (once-front (commit_in l.text) (history_of ls) h.once t i));
      once = once-back (commit_in l.text) (history_of ls) h.once;
      clear = λ t i. not-so (has_tid (history_of ls) t) (λ j. clash (has_tid (failed_of (before ++ l ∷ [])) t) i (subst (λ (ts : List Tid). Out ts t) (sym (failed-one before l)) (out-join (failed_of before) (failed_in l.text) t
          (not-so (has_tid (failed_of before) t) (λ k. clash (has_tid (history_of ls) t) j (out-parts (commit_in l.text) (history_of ls) t (h.clear t k)).1))
          (not-so (has_tid (failed_in l.text) t) (λ k. clash (has_tid (history_of ls) t) j (out-parts (commit_in l.text) (history_of ls) t (out-parts (history_of before) (commit_in l.text ++ history_of ls) t (unnamed-to (history_of before ++ (commit_in l.text ++ history_of ls)) l.text h.none.0 t k)).1).1)))));
      none = subst (λ (ts : List Tid). NamesNone ts ls) (sym same-all) h.none.1;
    },
  )

  backward : breaks_outcomes before l ls ≡ false → Holds (before ++ l ∷ []) ls → Holds before (l ∷ ls)
  backward ok h = record {
    named = (named-from (history_of before) l.text acks, subst (λ (ts : List Tid). NamesBefore ts ls) (history-one before l) h.named);
    new = λ t i. not-so (has_tid (history_of before) t) (λ j. clash (has_tid (commit_in l.text ++ history_of ls) t) i (out-join (commit_in l.text) (history_of ls) t
        (not-so (has_tid (commit_in l.text) t) (λ k. clash (has_tid (history_of before) t) j (or-false (has_tid (history_of before) t) (has_tid (failed_of before) t) (commits t k)).0))
        (not-so (has_tid (history_of ls) t) (λ k. clash (has_tid (history_of before) t) j (old t k).0))));
    once = once-join (commit_in l.text) (history_of ls) (one-commit l.text) h.once (λ t i. not-so (has_tid (history_of ls) t) (λ j. clash (has_tid (commit_in l.text) t) i (old t j).1));
    clear = λ t i. out-join (commit_in l.text) (history_of ls) t
        (not-so (has_tid (commit_in l.text) t) (λ k. clash (has_tid (failed_of before) t) i (or-false (has_tid (history_of before) t) (has_tid (failed_of before) t) (commits t k)).1))
        (h.clear t (subst (λ (ts : List Tid). In ts t) (sym (failed-one before l)) (in-left (failed_of before) (failed_in l.text) t i)));
    none = (
      unnamed-from (history_of before ++ (commit_in l.text ++ history_of ls)) l.text (λ t i. out-join (history_of before) (commit_in l.text ++ history_of ls) t (against t i) (out-join (commit_in l.text) (history_of ls) t (apart l.text t i)
          (h.clear t (subst (λ (ts : List Tid). In ts t) (sym (failed-one before l)) (in-right (failed_of before) (failed_in l.text) t i))))),
      subst (λ (ts : List Tid). NamesNone ts ls) same-all h.none,
    );
  }
    where
      parts : (list_any (λ t. has_tid (history_of before) t || has_tid (failed_of before) t) (commit_in l.text) ≡ false) × ((list_any (λ t. has_tid (history_of before) t) (failed_in l.text) || list_any (λ t. not (has_tid (history_of before) t)) (acknowledged_in l.text)) ≡ false)
      parts = or-false (list_any (λ t. has_tid (history_of before) t || has_tid (failed_of before) t) (commit_in l.text)) (list_any (λ t. has_tid (history_of before) t) (failed_in l.text) || list_any (λ t. not (has_tid (history_of before) t)) (acknowledged_in l.text)) ok

      commits : (t : Tid) → In (commit_in l.text) t → (has_tid (history_of before) t || has_tid (failed_of before) t) ≡ false
      commits t i = each-out (λ t. has_tid (history_of before) t || has_tid (failed_of before) t) (commit_in l.text) parts.0 t i

      others : (list_any (λ t. has_tid (history_of before) t) (failed_in l.text) ≡ false) × (list_any (λ t. not (has_tid (history_of before) t)) (acknowledged_in l.text) ≡ false)
      others = or-false (list_any (λ t. has_tid (history_of before) t) (failed_in l.text)) (list_any (λ t. not (has_tid (history_of before) t)) (acknowledged_in l.text)) parts.1

      against : (t : Tid) → In (failed_in l.text) t → Out (history_of before) t
      against t i = each-out (λ t. has_tid (history_of before) t) (failed_in l.text) others.0 t i

      acks : list_any (λ t. not (has_tid (history_of before) t)) (acknowledged_in l.text) ≡ false
      acks = others.1

      old : (t : Tid) → In (history_of ls) t → Out (history_of before) t × Out (commit_in l.text) t
      old t i = out-parts (history_of before) (commit_in l.text) t (subst (λ (ts : List Tid). Out ts t) (history-one before l) (h.new t i))

to-none : (before rest : List Line) → Holds before rest → NoneBreaksFrom breaks_outcomes before rest
to-none before [] h = tt
to-none before (l ∷ ls) h = let next = onward before l ls h in (next.0, to-none (before ++ l ∷ []) ls next.1)

from-none : (before rest : List Line) → NoneBreaksFrom breaks_outcomes before rest → Holds before rest
from-none before [] h = record { named = tt; new = λ t i. cc i; once = tt; clear = λ t i. refl; none = tt }
from-none before (l ∷ ls) h = backward before l ls h.0 (from-none (before ++ l ∷ []) ls h.1)

pub told-by-lines : (lines : List Line) → NoneBreaks breaks_outcomes lines ↔ Told lines
told-by-lines lines = (
  λ h. let k = from-none [] lines h in record { before = k.named; once = k.once; not_lost = k.none },
  λ h. to-none [] lines (record { named = h.before; new = λ t i. refl; once = h.once; clear = λ t i. cc i; none = h.not_lost }),
)
