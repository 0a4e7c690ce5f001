-- What is put into each block that a write touches, and what puts one after another leave.
use Rattle.std.proofs.Common.{◌≡◌, inl, inr, ℕ, ◌+◌, ◌-◌, ◌≤◌, ◌<◌, Bool, List, [], ◌∷◌, ◌++◌, length, take, drop, Option, Some, None, refl, sym, ◌∙◌, ap, subst, arith, append_assoc, append-nil}
use Rattle.std.specs.Prelude.{min, nat_eq, nat_lt, if◌then◌else◌}
use Rattle.std.proofs.Math.Path.{fun_ext}
use Rattle.std.proofs.lemmas.Bool.{cases_Bool}
use Rattle.std.proofs.lemmas.Bool.Decides.{nat_tests}
use Rattle.std.proofs.lemmas.List.{length-drop, drop_all, length-take, take_all, drop-drop}
use Rattle.jn_base.specs.declared.names.FileNo.{FileNo}
use Rattle.jn_base.specs.declared.names.LockUnit.{LockUnit}
use Rattle.jn_base.specs.declared.names.LockUnit.TheVariants.{File, Block}
use Rattle.jn_base.specs.Names.{file_eq}
use Rattle.jn_order.specs.Files.{Files, change, written, or_else}
use Rattle.jn_order.specs.Changes.{or_also}
use Rattle.jn_bytes.specs.ByteFiles.{laid_over}
use Rattle.jn_bytes.specs.Calls.{block_change, bytes_written}
use Rattle.jn_bytes.specs.Turns.{filled}
use Rattle.jn_bytes.proofs.Laid.{laid-before, laid-from}
use Rattle.jn_bytes.proofs.ComesTo.{Put, put_all}

-- ---- what is laid over the first block, and over the second

pub first-filled : (offset base from : ℕ) (bytes old : List ℕ) → base + from ≡ offset → from ≤ 448 → length old ≡ 448 → laid_over offset bytes base old ≡ filled from (take (448 - from) bytes) old
first-filled offset base from bytes old e l k =
    laid-before offset bytes base from old e (omega (arith, l, k))
    ∙ ap (λ (ys : List ℕ). take from old ++ ys)
    (ap (λ (n : ℕ). laid_over offset bytes n (drop from old)) (let z : offset ≡ offset + 0 = omega arith in z) ∙ laid-from offset bytes 0 (drop from old)
    ∙ ap (λ (n : ℕ). take n bytes ++ drop (length bytes - 0) (drop from old)) (length-drop from old ∙ ap (λ (n : ℕ). n - from) k)
    ∙ ap (λ (ys : List ℕ). take (448 - from) bytes ++ ys) (drop-drop (length bytes - 0) from old ∙ rest))
    ∙ sym (append_assoc (take from old) (take (448 - from) bytes) (drop (from + length (take (448 - from) bytes)) old))
  where
    size : length (take (448 - from) bytes) ≡ min (448 - from) (length bytes)
    size = length-take (448 - from) bytes

    rest : drop (from + (length bytes - 0)) old ≡ drop (from + length (take (448 - from) bytes)) old
    rest = elim (cases_Bool (nat_lt (448 - from) (length bytes))) [
      | inl h ↦ (let more : 448 - from < length bytes = grind (arith, nat_tests, h) in
          drop_all (from + (length bytes - 0)) old (omega (arith, more, k, l)) ∙ sym (drop_all (from + length (take (448 - from) bytes)) old (omega (arith, more, k, l, size))))
      | inr h ↦ (let less : length bytes ≤ 448 - from = grind (arith, nat_tests, h) in
          ap (λ (n : ℕ). drop n old) (let z : from + (length bytes - 0) ≡ from + length (take (448 - from) bytes) = omega (arith, less, size) in z))
    ]

pub second-filled : (offset base from : ℕ) (bytes old : List ℕ) → base ≡ offset + from → length old ≡ 448 → length bytes - from ≤ 448 → laid_over offset bytes base old ≡ filled 0 (drop from bytes) old
second-filled offset base from bytes old e k l =
    ap (λ (n : ℕ). laid_over offset bytes n old) e ∙ laid-from offset bytes from old
    ∙ ap (λ (ys : List ℕ). ys ++ drop (length bytes - from) old) (take_all (length old) (drop from bytes) (let d = length-drop from bytes in omega (arith, d, l, k)))
    ∙ ap (λ (n : ℕ). drop from bytes ++ drop n old) (sym (length-drop from bytes) ∙ (let z : length (drop from bytes) ≡ 0 + length (drop from bytes) = omega arith in z))

-- a block that is covered whole has nothing of what was there
pub whole-filled : (from : ℕ) (bytes old : List ℕ) → from ≤ 448 → length (take (448 - from) bytes) ≡ 448 → length old ≡ 448 → take (448 - from) bytes ≡ filled from (take (448 - from) bytes) old
whole-filled from bytes old l e k = by from (let m = length-take (448 - from) bytes in omega (arith, e, m, l))
  where
    by : (n : ℕ) → n ≡ 0 → take (448 - from) bytes ≡ filled n (take (448 - from) bytes) old
    by n z = subst (λ (m : ℕ). take (448 - from) bytes ≡ filled m (take (448 - from) bytes) old) (sym z)
        (sym (ap (λ (ys : List ℕ). take (448 - from) bytes ++ ys) (drop_all (0 + length (take (448 - from) bytes)) old (omega (arith, e, k))) ∙ append-nil (take (448 - from) bytes)))

-- ---- what puts leave

abbrev pub put_last : List Put → ℕ → Option (Option (List ℕ))
put_last [] p = None
put_last (w ∷ ws) p = or_also (put_last ws p) (if nat_eq w.place p then Some (Some w.bytes) else None)

abbrev pub puts_change : FileNo → List Put → LockUnit → Option (Option (List ℕ))
puts_change f ws (File g) = None
puts_change f ws (Block g p) = if file_eq f g then put_last ws p.0 else None

puts-leave : (f : FileNo) (ws : List Put) (files : Files) (u : LockUnit) → put_all f ws files u ≡ change (puts_change f ws) files u
puts-leave f [] files (File g) = refl
puts-leave f [] files (Block g p) = elim (cases_Bool (file_eq f g)) [ inl h ↦ rw h refl | inr h ↦ rw h refl ]
puts-leave f (w ∷ ws) files (File g) = puts-leave f ws (change (written f (record { 0 = w.place }) w.bytes) files) (File g)
puts-leave f (w ∷ ws) files (Block g p) = puts-leave f ws (change (written f (record { 0 = w.place }) w.bytes) files) (Block g p) ∙ elim (cases_Bool (file_eq f g)) [
  | inl h ↦ rw h (by (put_last ws p.0) (nat_eq w.place p.0))
  | inr h ↦ rw h refl
]
  where
    by : (o : Option (Option (List ℕ))) (b : Bool) → or_else o (or_else (if b then Some (Some w.bytes) else None) (files (Block g p))) ≡ or_else (or_also o (if b then Some (Some w.bytes) else None)) (files (Block g p))
    by (Some x) b = refl
    by None b = refl

-- puts whose last at each block is the write's leave what the write leaves
pub puts-write : (f : FileNo) (offset n : ℕ) (bytes : List ℕ) (ws : List Put) (files : Files) → ((p : ℕ) → put_last ws p ≡ block_change files f offset bytes n p) → put_all f ws files ≡ change (bytes_written files f offset bytes n) files
puts-write f offset n bytes ws files same = fun_ext (λ u. puts-leave f ws files u ∙ at u)
  where
    at : (u : LockUnit) → change (puts_change f ws) files u ≡ change (bytes_written files f offset bytes n) files u
    at (File g) = refl
    at (Block g p) = rw (same p.0) refl
