-- Causes, line by line.
use Rattle.jn_judged.proofs.Common.{List, [], ◌∷◌, ◌++◌, ap, not, ◌↔◌, Event, Line, is_caused, CausedFrom, Caused, breaks_causes}
use Rattle.jn_judged.proofs.Sets.{not-false}
use Rattle.jn_judged.proofs.Splits.{NoneBreaksFrom, NoneBreaks}

caused-to : (es : List Event) (before ls : List Line) → NoneBreaksFrom (breaks_causes es) before ls → CausedFrom es before ls
caused-to es before [] h = tt
caused-to es before (l ∷ ls) h = (not-false (is_caused es (before ++ l ∷ []) l.when l.text) h.0, caused-to es (before ++ l ∷ []) ls h.1)

caused-from : (es : List Event) (before ls : List Line) → CausedFrom es before ls → NoneBreaksFrom (breaks_causes es) before ls
caused-from es before [] h = tt
caused-from es before (l ∷ ls) h = (ap not h.0, caused-from es (before ++ l ∷ []) ls h.1)

pub caused-by-lines : (es : List Event) (lines : List Line) → NoneBreaks (breaks_causes es) lines ↔ Caused es lines
caused-by-lines es lines = (caused-to es [] lines, caused-from es [] lines)
