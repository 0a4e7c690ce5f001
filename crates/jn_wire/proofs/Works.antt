-- Names one after another, as the loop reads them.
use Rattle.std.proofs.Common.{◌≡◌, ℕ, suc, ◌-◌, ◌+◌, ◌≤◌, ◌<◌, List, [], ◌∷◌, ◌++◌, refl, sym, ap, ◌∙◌, append_assoc, append-nil, arith}
use Rattle.jn_base.specs.declared.names.WorkId.{WorkId}
use Rattle.std.specs.Prelude.{Err}
use Rattle.jn_wire.specs.declared.fields.ReadFault.{ReadFault}
use Rattle.jn_wire.specs.declared.fields.ReadFault.TheVariants as faults
use Rattle.jn_wire.specs.Fields.{Reading, Got, Wrong, Gives, and_then, work, works_from}

-- what was read before, and what is still read
abbrev pub with_front : List WorkId → Reading (List WorkId) → Reading (List WorkId)
with_front front read = and_then read (λ ws rest. Got (front ++ ws) rest)

regroup : (front : List WorkId) (w : WorkId) (read : Reading (List WorkId)) → with_front front (and_then read (λ ws rest. Got (w ∷ ws) rest)) ≡ with_front (front ++ w ∷ []) read
regroup front w (Got ws rest) = ap (λ (xs : List WorkId). Got xs rest) (sym (append_assoc front (w ∷ []) ws))
regroup front w (Wrong n) = refl

pub goes_on : (front : List WorkId) (count i : ℕ) (bytes : List ℕ) (w : WorkId) (after : List ℕ) (total : Reading (List WorkId)) → i < count → work bytes ≡ Got w after
    → with_front front (works_from (count - i) bytes) ≡ total → with_front (front ++ w ∷ []) (works_from (count - (i + 1)) after) ≡ total
unfolding works_from
goes_on front count i bytes w after total lt h so_far =
    let k : count - i ≡ suc (count - (i + 1)) = omega arith in
    let one : with_front front (works_from (count - i) bytes) ≡ with_front (front ++ w ∷ []) (works_from (count - (i + 1)) after) = rw (k, h) (regroup front w (works_from (count - (i + 1)) after)) in
    sym one ∙ so_far

pub ends : (front : List WorkId) (count i : ℕ) (bytes : List ℕ) (n : ℕ) (total : Reading (List WorkId)) → i < count → work bytes ≡ Wrong n
    → with_front front (works_from (count - i) bytes) ≡ total → total ≡ Wrong n
unfolding works_from
ends front count i bytes n total lt h so_far =
    let k : count - i ≡ suc (count - (i + 1)) = omega arith in
    let one : with_front front (works_from (count - i) bytes) ≡ Wrong n = rw (k, h) refl in
    sym so_far ∙ one

pub is_done : (front : List WorkId) (count i : ℕ) (bytes : List ℕ) (total : Reading (List WorkId)) → count ≤ i → with_front front (works_from (count - i) bytes) ≡ total → total ≡ Got front bytes
unfolding works_from
is_done front count i bytes total le so_far =
    let k : count - i ≡ 0 = omega arith in
    let one : with_front front (works_from (count - i) bytes) ≡ Got front bytes = rw k (ap (λ (xs : List WorkId). Got xs bytes) (append-nil front)) in
    sym so_far ∙ one

pub fails : {X Y : Type 0} (view : X → List WorkId × List ℕ) (named : Y → WorkId × List ℕ) (front : List WorkId) (count i : ℕ) (bytes : List ℕ) (total : Reading (List WorkId)) (e : ReadFault) → i < count
    → Gives named (Err e) (work bytes) → with_front front (works_from (count - i) bytes) ≡ total → Gives view (Err e) total
fails view named front count i bytes total (faults.Wrong n) lt h so_far = ends front count i bytes n total lt h so_far
fails view named front count i bytes total faults.Memory lt h so_far = tt
