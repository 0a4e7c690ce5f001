-- Lines at the end that answer nobody leave what the answers before them are.
use Rattle.jn_system_reports.proofs.Common.{◌≡◌, ℕ, Bool, true, false, List, [], ◌∷◌, ◌++◌, append-nil, length, refl, ◌∙◌, ap, arith, Event, AtEvent, Text, Line, lines_at, history_of, is_answer, AllOfEvents, Follows, follows-same, lines_at-append, at_end}
use Rattle.jn_report.specs.declared.line.Text.TheVariants.{Commits}
use Rattle.jn_system_reports.specs.Reporting.Ending.{counted}
use Rattle.jn_system_reports.proofs.Reporting.Lists.{Each}
use Rattle.jn_system_reports.proofs.Causing.Ends.{IsOfEnd}

none-at : (n : ℕ) (texts : List Text) → lines_at (AtEvent n) (at_end texts) ≡ []
none-at n [] = refl
none-at n (x ∷ texts) = none-at n texts

answers-more : (count : ℕ) (ls : List Line) (texts : List Text) → Each IsOfEnd texts → AllOfEvents count ls → AllOfEvents count (ls ++ at_end texts)
answers-more count [] [] h k = tt
answers-more count [] (x ∷ texts) h k = (λ e. absurd (not-both (is_answer x) e h.0.1), answers-more count [] texts h.1 tt)
  where
    not-both : (b : Bool) → b ≡ true → b ≡ false → ⊥
    not-both b e f = grind arith
answers-more count (l ∷ ls) texts h k = (k.0, answers-more count ls texts h k.1)

pub follows-to-end : (es : List Event) (ls : List Line) (texts : List Text) → Each IsOfEnd texts → Follows es ls → Follows es (ls ++ at_end texts)
follows-to-end es ls texts h k = record {
  answers = follows-same _ 1 es ls (ls ++ at_end texts) (λ i. lines_at-append (AtEvent i) ls (at_end texts) ∙ ap (λ l. lines_at (AtEvent i) ls ++ l) (none-at i texts) ∙ append-nil (lines_at (AtEvent i) ls)) k.answers;
  of_events = answers-more (length es) ls texts h k.of_events;
}

pub counted-follows : (es : List Event) (ls : List Line) → Follows es ls → Follows es (counted ls)
counted-follows es ls k = follows-to-end es ls (Commits (length (history_of ls)) ∷ []) ((refl, refl), tt) k
