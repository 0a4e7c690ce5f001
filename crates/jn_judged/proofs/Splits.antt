-- The lines of a report one by one, each behind those before it.
use Rattle.jn_judged.proofs.Common.{◌≡◌, true, false, List, [], ◌∷◌, ◌++◌, refl, sym, ap, subst, append_assoc, append-nil, When, Line, lines_at, when_eq, Rule}

abbrev pub NoneBreaksFrom : Rule → List Line → List Line → Type 0
NoneBreaksFrom breaks before [] = Unit {0}
NoneBreaksFrom breaks before (l ∷ ls) = (breaks before l ls ≡ false) × NoneBreaksFrom breaks (before ++ l ∷ []) ls

-- no line breaks the rule
abbrev pub NoneBreaks : Rule → List Line → Type 0
NoneBreaks breaks lines = NoneBreaksFrom breaks [] lines

all-splits : (breaks : Rule) (pre rest : List Line) → ((before : List Line) (l : Line) (after : List Line) → rest ≡ before ++ l ∷ after → breaks (pre ++ before) l after ≡ false) → NoneBreaksFrom breaks pre rest
all-splits breaks pre [] h = tt
all-splits breaks pre (l ∷ ls) h = (
  subst (λ (xs : List Line). breaks xs l ls ≡ false) (append-nil pre) (h [] l ls refl),
  all-splits breaks (pre ++ l ∷ []) ls (λ before x after e. subst (λ (xs : List Line). breaks xs x after ≡ false) (sym (append_assoc pre (l ∷ []) before)) (h (l ∷ before) x after (ap (λ (xs : List Line). l ∷ xs) e))),
)

at-split : (breaks : Rule) (pre before : List Line) (l : Line) (after : List Line) → NoneBreaksFrom breaks pre (before ++ l ∷ after) → breaks (pre ++ before) l after ≡ false
at-split breaks pre [] l after h = subst (λ (xs : List Line). breaks xs l after ≡ false) (sym (append-nil pre)) h.0
at-split breaks pre (x ∷ before) l after h = subst (λ (xs : List Line). breaks xs l after ≡ false) (append_assoc pre (x ∷ []) before) (at-split breaks (pre ++ x ∷ []) before l after h.1)

pub none-breaks : (breaks : Rule) (lines : List Line) → ((before : List Line) (l : Line) (after : List Line) → lines ≡ before ++ l ∷ after → breaks before l after ≡ false) → NoneBreaks breaks lines
none-breaks breaks lines h = all-splits breaks [] lines h

pub split-of : (breaks : Rule) (lines before : List Line) (l : Line) (after : List Line) → NoneBreaks breaks lines → lines ≡ before ++ l ∷ after → breaks before l after ≡ false
split-of breaks lines before l after h e = at-split breaks [] before l after (subst (NoneBreaksFrom breaks []) e h)

-- ---- the lines of one event

pub lines_at-take : (l : Line) (w : When) (ls : List Line) → when_eq l.when w ≡ true → lines_at w (l ∷ ls) ≡ l ∷ lines_at w ls
lines_at-take l w ls h = rw h refl

pub lines_at-skip : (l : Line) (w : When) (ls : List Line) → when_eq l.when w ≡ false → lines_at w (l ∷ ls) ≡ lines_at w ls
lines_at-skip l w ls h = rw h refl
