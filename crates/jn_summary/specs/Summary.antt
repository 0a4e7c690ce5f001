-- What a summary reports of a report's lines.
use Rattle.std.specs.Prelude.{ℕ, ◌+◌, ◌-◌, ◌^◌, ◌++◌, Bool, List, [], ◌∷◌, codes, count_by, decimal, min, if◌then◌else◌}
use Rattle.hex.specs.Hex.{encode_lower}
use Rattle.sha2.specs.Sha256.{sha256}
use Rattle.jn_report.specs.declared.line.Line.{Line}
use Rattle.jn_report.specs.declared.line.Text.{Text}
use Rattle.jn_report.specs.Text.{report_text, spaced}
use Rattle.jn_summary.specs.declared.counts.Counts.{Counts}
use Rattle.jn_report.specs.Kinds.{is_commit, is_aborted, is_refused, is_outside, is_stopped}

-- ---- the kinds of lines that are counted

-- how many lines are of a kind; the last number of 64 bits where there are more
abbrev pub count_of : (Text → Bool) → List Line → ℕ
count_of kind ls = min (count_by (λ (l : Line). kind l.text) ls) (2 ^ 64 - 1)

abbrev pub line_counts : List Line → Counts
line_counts ls = record {
  commits = count_of is_commit ls;
  aborted = count_of is_aborted ls;
  refused = count_of is_refused ls;
  stopped = count_of is_stopped ls;
  outside = count_of is_outside ls;
}

-- ---- the line that is reported

abbrev pub count_words : Counts → List (List ℕ)
count_words c =
    codes "commits" ∷ decimal c.commits
    ∷ codes "aborted" ∷ decimal c.aborted
    ∷ codes "refused" ∷ decimal c.refused
    ∷ codes "stopped" ∷ decimal c.stopped
    ∷ codes "outside" ∷ decimal c.outside
    ∷ []

-- of a trial with these counts and this digest; each word but the first has a space before it
abbrev pub told : ℕ → ℕ → Counts → List ℕ → List ℕ
told seed events c digest =
    codes "trial" ++ spaced (decimal seed ∷ decimal events ∷ [])
    ++ spaced (count_words c)
    ++ spaced (codes "sha256" ∷ digest ∷ [])
    ++ 10 ∷ []

abbrev pub summary_text : ℕ → ℕ → List Line → List ℕ
summary_text seed events ls = told seed events (line_counts ls) (encode_lower (sha256 (report_text ls)))

-- ---- counting, line by line

abbrev pub more : Bool → ℕ → ℕ
more one n = if one then min (n + 1) (2 ^ 64 - 1) else n

abbrev pub counted : Counts → Text → Counts
counted c t = record {
  commits = more (is_commit t) c.commits;
  aborted = more (is_aborted t) c.aborted;
  refused = more (is_refused t) c.refused;
  stopped = more (is_stopped t) c.stopped;
  outside = more (is_outside t) c.outside;
}
