-- A summary as the output of a report.
use Rattle.std.proofs.Common.{ℕ, ◌+◌, List, ◌++◌, length, take, append_assoc, append-nil, sym, subst}
use Rattle.std.proofs.Math.Seq.{take-append-add, take-length}
use Rattle.jn_report.specs.declared.line.Line.{Line}
use Rattle.jn_summary.specs.declared.summary.Summary.{Summary}
use Rattle.jn_summary.specs.Taken.{HasTaken}
use Rattle.jn_writing.specs.Reporting.{Reporting, Joins}

-- whatever it had taken before, it has taken these lines behind that
abbrev pub Adds : Summary → Summary → List Line → Type 0
Adds before after lines = (ls : List Line) → HasTaken before ls → HasTaken after (ls ++ lines)

-- a summary never fails
abbrev pub sums_up : Reporting Summary
sums_up = record {
  took = Adds;
  front = λ before after lines. (n : ℕ) × Adds before after (take n lines);
  faults = λ s. 0;
}

adds-then : (a b c : Summary) (xs ys : List Line) → Adds a b xs → Adds b c ys → Adds a c (xs ++ ys)
adds-then a b c xs ys first second = λ ls has. subst (λ (all : List Line). HasTaken c all) (append_assoc ls xs ys) (second (ls ++ xs) (first ls has))

pub sums_join : Joins sums_up
sums_join = record {
  nothing = λ a ls has. subst (λ (all : List Line). HasTaken a all) (sym (append-nil ls)) has;
  more = adds-then;
  part = λ a b c xs ys first second. (length xs + second.0, subst (λ (ls : List Line). Adds a c ls) (sym (take-append-add xs ys second.0)) (adds-then a b c xs (take second.0 ys) first second.1));
  all = λ a b xs took. (length xs, subst (λ (ls : List Line). Adds a b ls) (sym (take-length xs)) took);
}
