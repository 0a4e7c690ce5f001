-- One line more.
use Rattle.std.proofs.Common.{◌≡◌, ◌∙◌, ℕ, ◌+◌, ◌-◌, ◌^◌, Bool, true, false, List, [], ◌∷◌, ◌++◌, count_by, cond, min, ap, sym, subst, arith, append_assoc, zero-add}
use Rattle.std.proofs.lemmas.List.{append-nil}
use Rattle.std.proofs.lemmas.List.Sums.{sum_by-append}
use Rattle.hex.specs.Hex.{encode_lower}
use Rattle.sha2.specs.Hashers.{Holds256}
use Rattle.sha2.specs.Sha256.{sha256}
use Rattle.jn_report.specs.declared.line.Line.{Line}
use Rattle.jn_report.specs.declared.line.Text.{Text}
use Rattle.jn_report.specs.Text.{report_text, text_of}
use Rattle.jn_summary.specs.declared.counts.Counts.{Counts}
use Rattle.jn_summary.specs.declared.summary.Summary.{Summary}
use Rattle.jn_summary.specs.Summary.{count_of, counted, line_counts, more, summary_text, told}
use Rattle.jn_report.specs.Kinds.{is_stopped, is_aborted, is_commit, is_outside, is_refused}
use Rattle.jn_summary.specs.Taken.{HasTaken}

capped : (n : ℕ) (one : Bool) → min (n + cond one 1 0) (2 ^ 64 - 1) ≡ more one (min n (2 ^ 64 - 1))
capped n true = omega arith
capped n false = omega arith

count_more : (kind : Text → Bool) (ls : List Line) (l : Line) → count_of kind (ls ++ l ∷ []) ≡ more (kind l.text) (count_of kind ls)
count_more kind ls l =
    let sum : count_by (λ (m : Line). kind m.text) (ls ++ l ∷ []) ≡ count_by (λ (m : Line). kind m.text) ls + cond (kind l.text) 1 0 =
    sum_by-append (λ (m : Line). cond (kind m.text) 1 0) ls (l ∷ []) ∙ ap (λ (n : ℕ). count_by (λ (m : Line). kind m.text) ls + n) (zero-add (cond (kind l.text) 1 0)) in
    ap (λ (n : ℕ). min n (2 ^ 64 - 1)) sum ∙ capped (count_by (λ (m : Line). kind m.text) ls) (kind l.text)

report_more : (ls : List Line) (l : Line) → report_text (ls ++ l ∷ []) ≡ report_text ls ++ text_of l
report_more [] l = append-nil (text_of l)
report_more (m ∷ ls) l = ap (λ (t : List ℕ). text_of m ++ t) (report_more ls l) ∙ sym (append_assoc (text_of m) (report_text ls) (text_of l))

same_five : (f : ℕ → ℕ → ℕ → ℕ → ℕ → Counts) (a a' b b' c c' d d' e e' : ℕ) → a ≡ a' → b ≡ b' → c ≡ c' → d ≡ d' → e ≡ e' → f a b c d e ≡ f a' b' c' d' e'
same_five f a a' b b' c c' d d' e e' p q r s t = cc

counts_more : (ls : List Line) (l : Line) → line_counts (ls ++ l ∷ []) ≡ counted (line_counts ls) l.text
counts_more ls l =
    same_five (λ a b c d e. record { commits = a; aborted = b; refused = c; stopped = d; outside = e })
    (count_of is_commit (ls ++ l ∷ [])) (more (is_commit l.text) (count_of is_commit ls))
    (count_of is_aborted (ls ++ l ∷ [])) (more (is_aborted l.text) (count_of is_aborted ls))
    (count_of is_refused (ls ++ l ∷ [])) (more (is_refused l.text) (count_of is_refused ls))
    (count_of is_stopped (ls ++ l ∷ [])) (more (is_stopped l.text) (count_of is_stopped ls))
    (count_of is_outside (ls ++ l ∷ [])) (more (is_outside l.text) (count_of is_outside ls))
    (count_more is_commit ls l) (count_more is_aborted ls l) (count_more is_refused ls l) (count_more is_stopped ls l) (count_more is_outside ls l)

-- the counts and the digest of a line more
pub taken : (s s' : Summary) (l : Line) (text : List ℕ) → s'.counts ≡ counted s.counts l.text → text ≡ text_of l
    → ((m : List ℕ) → Holds256 s.hasher m → Holds256 s'.hasher (m ++ text))
    → (ls : List Line) → HasTaken s ls → HasTaken s' (ls ++ l ∷ [])
taken s s' l text counts line more_text ls has = record {
  counts = counts ∙ ap (λ (c : Counts). counted c l.text) has.counts ∙ sym (counts_more ls l);
  text = subst (Holds256 s'.hasher) (ap (λ (t : List ℕ). report_text ls ++ t) line ∙ sym (report_more ls l)) (more_text (report_text ls) has.text);
}

-- what is reported of the lines
pub told_of : (s : Summary) (seed events : ℕ) (digest hash : List ℕ) → ((m : List ℕ) → Holds256 s.hasher m → hash ≡ sha256 m) → digest ≡ encode_lower hash
    → (ls : List Line) → HasTaken s ls → told seed events s.counts digest ≡ summary_text seed events ls
told_of s seed events digest hash hashed spelled ls has =
    ap (told seed events s.counts) (spelled ∙ ap encode_lower (hashed (report_text ls) has.text))
    ∙ ap (λ (c : Counts). told seed events c (encode_lower (sha256 (report_text ls)))) has.counts
