-- What an operation that is granted does, as the machine's step sees it.
use Rattle.jn_system_order.proofs.Common.{◌≡◌, ◌⊎◌, inl, inr, Bool, true, false, List, Option, Some, None, is_some, refl, sym, ◌∙◌, ap, subst, arith, if◌then◌else◌, LockUnit, Op, Answer, file_eq, file_tells, Files, nothing, effect, file_of, answer_to, is_did, and_then, Intention, InOrder, list_change, net_change, net_of, Read, is_unit, wants_of, units_for, is_fit, reads-file, File, Block}
use Rattle.jn_system.specs.SmallSteps.Traces.{asks, effect_of}
use Rattle.jn_records.specs.NetEdits.{list_after}
use Rattle.jn_base.specs.declared.names.FileNo.{FileNo}
use Rattle.jn_base.specs.declared.op.Op.TheVariants as ops
use Rattle.jn_base.specs.declared.op.Answer.TheVariants as answers
use Rattle.jn_order.specs.Files.{Change}
use Rattle.jn_records.specs.NetEdits.{intention_for, with_intention}
use Rattle.jn_records.proofs.EditLemmas.{edited-in_order, edited-net}
use Rattle.jn_records.proofs.NetLemmas.{list-net, added-change}

-- only a read has an answer that is neither done nor a refusal
fit-did : (op : Op) (list : List Intention) (files : Files) → (is_fit (answer_to op files) ≡ is_did (answer_to op files)) ⊎ ((intention_for list op ≡ None) × (effect op ≡ nothing))
fit-did (ops.Create f) list files = inl (by (is_some (files (File f))))
  where
    by : (b : Bool) → is_fit (if b then answers.Exists else answers.Did) ≡ is_did (if b then answers.Exists else answers.Did)
    by true = refl
    by false = refl
fit-did (ops.Remove f) list files = inl (by (is_some (files (File f))))
  where
    by : (b : Bool) → is_fit (if b then answers.Did else answers.NoFile) ≡ is_did (if b then answers.Did else answers.NoFile)
    by true = refl
    by false = refl
fit-did (ops.Cut f n) list files = inl (by (is_some (files (File f))))
  where
    by : (b : Bool) → is_fit (if b then answers.Did else answers.NoFile) ≡ is_did (if b then answers.Did else answers.NoFile)
    by true = refl
    by false = refl
fit-did (ops.Write f p bytes) list files = inl (by (is_some (files (File f))))
  where
    by : (b : Bool) → is_fit (if b then answers.Did else answers.NoFile) ≡ is_did (if b then answers.Did else answers.NoFile)
    by true = refl
    by false = refl
fit-did (ops.Read f p) list files = inr (refl, refl)

-- the list with an intention more
added-list : (op : Op) (list : List Intention) (new : Intention) → intention_for list op ≡ Some new → InOrder list → list_change (with_intention op list new) ≡ and_then (list_change list) (effect op)
added-list op list new e h =
    list-net (with_intention op list new) (edited-in_order op list new e h).order
    ∙ ap net_change (edited-net op list new e)
    ∙ added-change (net_of list) op
    ∙ ap (λ (c : Change). and_then c (effect op)) (sym (list-net list h.order))

no-effect : (op : Op) (list : List Intention) → intention_for list op ≡ None → effect op ≡ nothing
no-effect (ops.Read f p) list h = refl
no-effect (ops.Create f) list h = absurd (grind arith)
no-effect (ops.Remove f) list h = absurd (grind arith)
no-effect (ops.Cut f n) list h = absurd (grind arith)
no-effect (ops.Write f p bytes) list h = absurd (grind arith)

with-list : (o : Option Intention) (op : Op) (list : List Intention) → intention_for list op ≡ o → InOrder list → list_change (list_after o op list) ≡ and_then (list_change list) (effect op)
with-list (Some new) op list e h = added-list op list new e h
with-list None op list e h = ap (λ (c : Change). and_then (list_change list) c) (sym (no-effect op list e))

pub done-changes : (op : Op) (list : List Intention) (files : Files) → InOrder list
    → list_change (if is_fit (answer_to op files) then list_after (intention_for list op) op list else list) ≡ and_then (list_change list) (effect_of (record { op = op; answer = answer_to op files }))
done-changes op list files h = by (is_fit (answer_to op files)) (is_did (answer_to op files)) (fit-did op list files)
  where
    by : (fit did : Bool) → (fit ≡ did) ⊎ ((intention_for list op ≡ None) × (effect op ≡ nothing))
        → list_change (if fit then list_after (intention_for list op) op list else list) ≡ and_then (list_change list) (if did then effect op else nothing)
    by true true e = with-list (intention_for list op) op list refl h
    by false false e = refl
    by true false (inl e) = absurd (grind arith)
    by false true (inl e) = absurd (grind arith)
    by true false (inr e) = ap (λ o. list_change (list_after o op list)) e.0
    by false true (inr e) = ap (λ (c : Change). and_then (list_change list) c) (sym e.1)

-- what its answer depends on it wants to read
pub wants-asked : (op : Op) (answer : Answer) (u : LockUnit) → asks (record { op = op; answer = answer }) u ≡ true → is_unit (units_for Read (wants_of op (is_fit answer))) u ≡ true
wants-asked op answer (File g) h = subst (λ (f : FileNo). is_unit (units_for Read (wants_of op (is_fit answer))) (File f) ≡ true) (is (file_of op) g h) (reads-file op (is_fit answer))
  where
    is : (f g : FileNo) → file_eq f g ≡ true → f ≡ g
    is f g e = grind (arith, file_tells f g)
wants-asked (ops.Read f p) (answers.Read bytes) (Block g q) h = grind (arith, h)
wants-asked (ops.Read f p) answers.Did (Block g q) h = absurd (grind arith)
wants-asked (ops.Read f p) answers.NoFile (Block g q) h = absurd (grind arith)
wants-asked (ops.Read f p) answers.Exists (Block g q) h = absurd (grind arith)
wants-asked (ops.Read f p) (answers.Locked x T) (Block g q) h = absurd (grind arith)
wants-asked (ops.Read f p) answers.TooManyReads (Block g q) h = absurd (grind arith)
wants-asked (ops.Read f p) answers.TooManyWrites (Block g q) h = absurd (grind arith)
wants-asked (ops.Read f p) (answers.Broken x T) (Block g q) h = absurd (grind arith)
wants-asked (ops.Read f p) (answers.Lost n m) (Block g q) h = absurd (grind arith)
wants-asked (ops.Read f p) answers.Closing (Block g q) h = absurd (grind arith)
wants-asked (ops.Create f) answer (Block g q) h = absurd (grind arith)
wants-asked (ops.Remove f) answer (Block g q) h = absurd (grind arith)
wants-asked (ops.Cut f n) answer (Block g q) h = absurd (grind arith)
wants-asked (ops.Write f p bytes) answer (Block g q) h = absurd (grind arith)
