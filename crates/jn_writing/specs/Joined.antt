-- Texts that a sink takes one after another are one text.
use Rattle.std.proofs.Common.{◌≡◌, ℕ, ◌+◌, List, [], ◌∷◌, ◌++◌, length, take, Option, Some, None, refl, sym, ◌∙◌, ap, subst, append-nil, append_assoc}
use Rattle.std.proofs.Math.Seq.{take-append-add, take-length}
use Rattle.std.specs.Io.KnownBytes.{append_known}
use Rattle.jn_host.proofs.Writing.{append_twice}
use Rattle.jn_report.specs.declared.line.Line.{Line}
use Rattle.jn_report.specs.Text.{text_of, report_text}
use Rattle.jn_writing.specs.Reporting.{Joins}
use Rattle.jn_writing.specs.Writing.{Took, TookFront}
use Rattle.jn_writing.specs.Calls.{writes_to}

pub report_text-append : (xs ys : List Line) → report_text (xs ++ ys) ≡ report_text xs ++ report_text ys
report_text-append [] ys = refl
report_text-append (x ∷ xs) ys = ap (λ (t : List ℕ). text_of x ++ t) (report_text-append xs ys) ∙ sym (append_assoc (text_of x) (report_text xs) (report_text ys))

took-then : (a b c : Option (List ℕ)) (xs ys : List ℕ) → Took a b xs → Took b c ys → Took a c (xs ++ ys)
took-then a b c xs ys first second = second ∙ ap (λ (t : Option (List ℕ)). append_known t ys) first ∙ append_twice a xs ys

front-then : (a b c : Option (List ℕ)) (xs ys : List ℕ) → Took a b xs → TookFront b c ys → TookFront a c (xs ++ ys)
front-then a b c xs ys first second = (length xs + second.0, took-then a b c xs (take second.0 ys) first second.1 ∙ ap (λ (t : List ℕ). append_known a t) (sym (take-append-add xs ys second.0)))

front-all : (a b : Option (List ℕ)) (text : List ℕ) → Took a b text → TookFront a b text
front-all a b text h = (length text, h ∙ ap (λ (t : List ℕ). append_known a t) (sym (take-length text)))

took-nothing : (a : Option (List ℕ)) → Took a a []
took-nothing None = refl
took-nothing (Some xs) = ap (λ (t : List ℕ). Some t) (sym (append-nil xs))

pub writes_join : {K : Type 0} (taken : K → Option (List ℕ)) (faults : K → ℕ) → Joins (writes_to taken faults)
writes_join taken faults = record {
  nothing = λ a. took-nothing (taken a);
  more = λ a b c xs ys first second. subst (λ (t : List ℕ). Took (taken a) (taken c) t) (sym (report_text-append xs ys)) (took-then (taken a) (taken b) (taken c) (report_text xs) (report_text ys) first second);
  part = λ a b c xs ys first second. subst (λ (t : List ℕ). TookFront (taken a) (taken c) t) (sym (report_text-append xs ys)) (front-then (taken a) (taken b) (taken c) (report_text xs) (report_text ys) first second);
  all = λ a b xs took. front-all (taken a) (taken b) (report_text xs) took;
}
