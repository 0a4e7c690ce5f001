-- What is written behind what was written.
use Rattle.jn_serving.proofs.Common.{ℕ, ◌+◌, List, [], ◌++◌, length, take, Option, Some, refl, sym, ◌∙◌, ap, subst, append-nil, take-append-add, take-length, append_known, Rose, SinkState, Writes, WritesFront, FailsToWrite}
use Rattle.std.proofs.Common.{None}
use Rattle.jn_host.proofs.Writing.{append_twice}
use Rattle.jn_writing.specs.Writing.{Took, TookFront}

-- texts taken one behind another
took-then : (a b c : Option (List ℕ)) (xs ys : List ℕ) → Took a b xs → Took b c ys → Took a c (xs ++ ys)
took-then a b c xs ys first second = second ∙ ap (λ (t : Option (List ℕ)). append_known t ys) first ∙ append_twice a xs ys

front-then : (a b c : Option (List ℕ)) (xs ys : List ℕ) → Took a b xs → TookFront b c ys → TookFront a c (xs ++ ys)
front-then a b c xs ys first second =
    (length xs + second.0, took-then a b c xs (take second.0 ys) first second.1 ∙ ap (λ (t : List ℕ). append_known a t) (sym (take-append-add xs ys second.0)))

-- so it goes on behind what was written
abbrev pub GoesBehind : (List ℕ → SinkState → SinkState → Type 0) → Type 0
GoesBehind W = (a b c : SinkState) (xs ys : List ℕ) → Writes xs a b → W ys b c → W (xs ++ ys) a c

-- each way to write does
pub writes-behind : GoesBehind Writes
writes-behind a b c xs ys first second = record { took = took-then a.taken b.taken c.taken xs ys first.took second.took; faults = second.faults ∙ first.faults }

pub front-behind : GoesBehind WritesFront
front-behind a b c xs ys first second = record { took = front-then a.taken b.taken c.taken xs ys first.took second.took; faults = second.faults ∙ first.faults }

pub fails-behind : GoesBehind FailsToWrite
fails-behind a b c xs ys first second = record {
  took = front-then a.taken b.taken c.taken xs ys first.took second.took;
  rose = subst (λ (n : ℕ). Rose n c.faults) first.faults second.rose;
}

-- all of it is a front of it
pub as-front : (a b : SinkState) (text : List ℕ) → Writes text a b → WritesFront text a b
as-front a b text h = record { took = (length text, h.took ∙ ap (λ (t : List ℕ). append_known a.taken t) (sym (take-length text))); faults = h.faults }

took-nothing : (a : Option (List ℕ)) → Took a a []
took-nothing None = refl
took-nothing (Some xs) = ap (λ (t : List ℕ). Some t) (sym (append-nil xs))

pub writes-nothing : (a : SinkState) → Writes [] a a
writes-nothing a = record { took = took-nothing a.taken; faults = refl }
