-- What the calls that write leave.
use Rattle.std.specs.Prelude.{◌≡◌, ◌≤◌, ℕ, Bool, true, false, List, Option}
use Rattle.jn_report.specs.Text.{report_text}
use Rattle.jn_base.specs.Counts.{Rose}
use Rattle.jn_writing.specs.Reporting.{Reporting}
use Rattle.jn_writing.specs.Writing.{Took, TookFront}

-- bytes were written to a sink
pub record WritesAll (taken : Option (List ℕ)) (faults : ℕ) (bytes : List ℕ) (ok : Bool) (taken' : Option (List ℕ)) (faults' : ℕ) : Type 0 where
  pub count : faults ≤ faults'
  pub whole : ok ≡ true → Took taken taken' bytes
  pub front : ok ≡ false → TookFront taken taken' bytes
  pub rose : ok ≡ false → Rose faults faults'
  pub no_fault : ok ≡ true → faults' ≡ faults

-- A sink takes lines as their text. A front of that may end within a line.
abbrev pub writes_to : {K : Type 0} → (K → Option (List ℕ)) → (K → ℕ) → Reporting K
writes_to taken faults = record {
  took = λ before after lines. Took (taken before) (taken after) (report_text lines);
  front = λ before after lines. TookFront (taken before) (taken after) (report_text lines);
  faults = faults;
}
