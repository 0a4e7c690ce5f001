-- What is reported of outcomes.
use Rattle.std.specs.Prelude.{◌≡◌, true, false, List, [], ◌∷◌, ◌++◌}
use Rattle.jn_base.specs.declared.names.Tid.{Tid}
use Rattle.jn_report.specs.declared.line.Text.{Text}
use Rattle.jn_report.specs.declared.line.Text.TheVariants.{Committed, Aborted, Broke}
use Rattle.jn_report.specs.declared.line.Line.{Line}
use Rattle.jn_serial.specs.Lines.{has_tid, history_of}
use Rattle.jn_report.specs.Kinds.{commit_in}

-- a line that acknowledges a commit has it named before
abbrev pub IsNamedWhere : List Tid → Text → Type 0
IsNamedWhere named (Committed c j t) = has_tid named t ≡ true
IsNamedWhere named _ = Unit {0}

abbrev pub NamesBefore : List Tid → List Line → Type 0
NamesBefore named [] = Unit {0}
NamesBefore named (l ∷ ls) = IsNamedWhere named l.text × NamesBefore (named ++ commit_in l.text) ls

abbrev pub NamesOnce : List Tid → Type 0
NamesOnce [] = Unit {0}
NamesOnce (t ∷ ts) = (has_tid ts t ≡ false) × NamesOnce ts

-- a transaction reported aborted or broken isn't named
abbrev pub IsNotNamedWhere : List Tid → Text → Type 0
IsNotNamedWhere named (Aborted c j t cause) = has_tid named t ≡ false
IsNotNamedWhere named (Broke s t u by) = has_tid named t ≡ false
IsNotNamedWhere named _ = Unit {0}

abbrev pub NamesNone : List Tid → List Line → Type 0
NamesNone named [] = Unit {0}
NamesNone named (l ∷ ls) = IsNotNamedWhere named l.text × NamesNone named ls

-- each acknowledged commit is named once, before; none reported aborted or broken is named
pub record Told (lines : List Line) : Type 0 where
  pub before : NamesBefore [] lines
  pub once : NamesOnce (history_of lines)
  pub not_lost : NamesNone (history_of lines) lines
