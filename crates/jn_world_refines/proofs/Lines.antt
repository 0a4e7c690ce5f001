-- Commits in texts and lines that are joined.
use Rattle.jn_world_refines.proofs.Common.{◌≡◌, ◌+◌, Bool, List, [], ◌∷◌, ◌++◌, append-nil, append_assoc, length, length-append, refl, sym, ◌∙◌, ap, arith, ◌||◌, list_any, Tid, tid_eq, When, Text, Line, history_of, commits_in, has_line, lines_at}
use Rattle.jn_report.specs.Kinds.{commit_in, commit_in as committed_in}
use Rattle.jn_report.specs.declared.line.Text.TheVariants as says

same : (text : Text) → commit_in text ≡ committed_in text
same (says.Commit T) = refl
same text = refl

pub commits-append : (a b : List Text) → commits_in (a ++ b) ≡ commits_in a ++ commits_in b
commits-append [] b = refl
commits-append (text ∷ a) b = ap (λ (Ts : List Tid). committed_in text ++ Ts) (commits-append a b) ∙ sym (append_assoc (committed_in text) (commits_in a) (commits_in b))

pub history-append : (a b : List Line) → history_of (a ++ b) ≡ history_of a ++ history_of b
history-append [] b = refl
history-append (l ∷ a) b = ap (λ (Ts : List Tid). commit_in l.text ++ Ts) (history-append a b) ∙ sym (append_assoc (commit_in l.text) (history_of a) (history_of b))

pub history-lines : (w : When) (texts : List Text) → history_of (lines_at w texts) ≡ commits_in texts
history-lines w [] = refl
history-lines w (text ∷ texts) = ap (λ (Ts : List Tid). Ts ++ history_of (lines_at w texts)) (same text) ∙ ap (λ (Ts : List Tid). committed_in text ++ Ts) (history-lines w texts)

-- lines that name no commit
pub history-same : (w : When) (lines : List Line) (texts : List Text) → commits_in texts ≡ [] → history_of (lines ++ lines_at w texts) ≡ history_of lines
history-same w lines texts e = history-append lines (lines_at w texts) ∙ ap (λ (Ts : List Tid). history_of lines ++ Ts) (history-lines w texts ∙ e) ∙ append-nil (history_of lines)

any-append : (test : Tid → Bool) (a b : List Tid) → list_any test (a ++ b) ≡ (list_any test a || list_any test b)
any-append test [] b = refl
any-append test (T ∷ a) b = ap (λ c. test T || c) (any-append test a b) ∙ turn (test T) (list_any test a) (list_any test b)
  where
    turn : (p q r : Bool) → (p || (q || r)) ≡ ((p || q) || r)
    turn p q r = grind arith

pub line-append : (T : Tid) (a b : List Text) → has_line T (a ++ b) ≡ (has_line T a || has_line T b)
line-append T a b = ap (list_any (λ U. tid_eq U T)) (commits-append a b) ∙ any-append (λ U. tid_eq U T) (commits_in a) (commits_in b)

pub count-append : (a b : List Text) → length (commits_in (a ++ b)) ≡ length (commits_in a) + length (commits_in b)
count-append a b = ap length (commits-append a b) ∙ length-append (commits_in a) (commits_in b)
