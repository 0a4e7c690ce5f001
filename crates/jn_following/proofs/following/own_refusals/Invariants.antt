use Rattle.std.proofs.Common.{◌≡◌, ℕ, ◌+◌, ◌≤◌, if◌then◌else◌, fold, drop}
use Rattle.jn_report.specs.declared.line.Line.{Line}
use Rattle.jn_report.specs.Kinds.{is_own_refusal}
use Rattle.jn_serial.specs.Lines.{count_lines}
use Rattle.jn_following.proofs.following.own_refusals.Given as goal

abbrev pub invariant-loop-line : goal.invariant-loop-line
invariant-loop-line l = record {
  counted : fold (λ (n : ℕ) (x : Line). n + (if is_own_refusal x.text then 1 else 0)) l.count (drop l.line-index l.here) ≡ count_lines is_own_refusal l.here;
  few : l.count ≤ l.line-index;
}
