-- Outcomes, without lines aside.
use Rattle.jn_aside.proofs.Common.{◌≡◌, List, [], ◌++◌, append-nil, refl, subst, Tid, Line, commit_in, history_of, plain}
use Rattle.jn_serial.specs.Told.{IsNamedWhere, NamesBefore, NamesOnce, IsNotNamedWhere, NamesNone, Told}
use Rattle.jn_aside.proofs.Plain.{of-aside, same-of, history-plain, Passes, passes-aside, whole}

before : Passes (List Tid) NamesBefore (λ named (l : Line). IsNamedWhere named l.text) (λ named (l : Line). named ++ commit_in l.text) (λ named. named)
before = whole (List Tid) NamesBefore _ _ (λ named. tt) (λ named l ls h k. (h, k)) (λ named l ls h. h)
    (λ named l. of-aside (IsNamedWhere named) (λ s n. tt) (λ k a b kind. tt) l.text)
    (λ named l. of-aside (λ x. named ++ commit_in x ≡ named) (λ s n. append-nil named) (λ k a b kind. append-nil named) l.text)

not-lost : Passes (List Tid) NamesNone (λ named (l : Line). IsNotNamedWhere named l.text) (λ named l. named) (λ named. named)
not-lost = whole (List Tid) NamesNone _ _ (λ named. tt) (λ named l ls h k. (h, k)) (λ named l ls h. h)
    (λ named l. of-aside (IsNotNamedWhere named) (λ s n. tt) (λ k a b kind. tt) l.text) (λ named l e. refl)

pub told-aside : (a b : List Line) → plain a ≡ plain b → Told a → Told b
told-aside a b e h = let same = same-of history_of history-plain a b e in record {
  before = passes-aside (List Tid) NamesBefore _ _ _ before [] a b e h.before;
  once = subst NamesOnce same h.once;
  not_lost = subst (λ named. NamesNone named b) same (passes-aside (List Tid) NamesNone _ _ _ not-lost (history_of a) a b e h.not_lost);
}
