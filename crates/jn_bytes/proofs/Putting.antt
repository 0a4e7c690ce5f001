-- The writes of a call: one or two blocks, and block 0 where there are more bytes then.
use Rattle.std.proofs.Common.{◌≡◌, ◌≢◌, inl, inr, ℕ, ◌+◌, ◌-◌, ◌*◌, ◌≤◌, ◌<◌, Bool, true, false, List, [], ◌∷◌, length, take, drop, Option, Some, None, refl, sym, ◌∙◌, ap, subst, arith}
use Rattle.std.specs.Prelude.{nat_eq, nat_lt, if◌then◌else◌}
use Rattle.std.proofs.lemmas.Bool.{cases_Bool}
use Rattle.std.proofs.lemmas.Bool.Decides.{nat_tests}
use Rattle.jn_base.specs.declared.names.FileNo.{FileNo}
use Rattle.jn_order.specs.Files.{Files}
use Rattle.jn_order.specs.Changes.{or_also}
use Rattle.jn_bytes.specs.ByteFiles.{block_in, laid_over}
unfoldable use Rattle.jn_bytes.specs.ByteFiles.{length_block}
use Rattle.jn_bytes.specs.Calls.{is_touched, block_change}
use Rattle.jn_bytes.specs.Turns.{filled}
use Rattle.jn_bytes.proofs.Sized.{length-sized}
use Rattle.jn_bytes.proofs.ComesTo.{Put}
use Rattle.jn_bytes.proofs.Puts.{first-filled, second-filled, put_last}

abbrev pub put : ℕ → List ℕ → Put
put p bytes = record { place = p; bytes = bytes }

abbrev pub grown_puts : ℕ → ℕ → List Put
grown_puts n end = if nat_lt n end then put 0 (length_block end) ∷ [] else []

or-none : (o : Option (Option (List ℕ))) → or_also o None ≡ o
or-none None = refl
or-none (Some x) = refl

module _ (f : FileNo) (offset n : ℕ) (bytes : List ℕ) (files : Files) (q from : ℕ) (place : 448 * q + from ≡ offset) (below : from < 448) (one : 1 ≤ length bytes) (few : length bytes ≤ 448) where
  abbrev pub first : List ℕ
  first = filled from (take (448 - from) bytes) (block_in files f (q + 1))

  abbrev pub second : List ℕ
  second = filled 0 (drop (448 - from) bytes) (block_in files f (q + 1 + 1))

  first-is : (p : ℕ) → q + 1 ≡ p → laid_over offset bytes (448 * (p - 1)) (block_in files f p) ≡ first
  first-is p e = subst (λ (k : ℕ). laid_over offset bytes (448 * (k - 1)) (block_in files f k) ≡ first) e
      (first-filled offset (448 * (q + 1 - 1)) from bytes (block_in files f (q + 1)) (omega (arith, place)) (omega (arith, below)) (length-sized _))

  second-is : (p : ℕ) → q + 1 + 1 ≡ p → laid_over offset bytes (448 * (p - 1)) (block_in files f p) ≡ second
  second-is p e = subst (λ (k : ℕ). laid_over offset bytes (448 * (k - 1)) (block_in files f k) ≡ second) e
      (second-filled offset (448 * (q + 1 + 1 - 1)) (448 - from) bytes (block_in files f (q + 1 + 1)) (omega (arith, place, below)) (length-sized _) (omega (arith, few)))

  touched-first : (p : ℕ) → q + 1 ≡ p → is_touched offset (length bytes) p ≡ true
  touched-first p e = grind (arith, nat_tests, e, place, below, one)

  touched-second : (p : ℕ) → q + 1 + 1 ≡ p → 448 - from < length bytes → is_touched offset (length bytes) p ≡ true
  touched-second p e l = grind (arith, nat_tests, e, place, below, one, l)

  untouched-second : (p : ℕ) → q + 1 + 1 ≡ p → length bytes ≤ 448 - from → is_touched offset (length bytes) p ≡ false
  untouched-second p e l = grind (arith, nat_tests, e, place, below, one, l)

  untouched : (p : ℕ) → p ≢ 0 → q + 1 ≢ p → q + 1 + 1 ≢ p → is_touched offset (length bytes) p ≡ false
  untouched p z a b = grind (arith, nat_tests, z, a, b, place, below, one, few)

  -- block 0
  end-puts : (p : ℕ) → p ≡ 0 → put_last (grown_puts n (offset + length bytes)) p ≡ block_change files f offset bytes n p
  end-puts p e = subst (λ (k : ℕ). put_last (grown_puts n (offset + length bytes)) k ≡ block_change files f offset bytes n k) (sym e) (by (nat_lt n (offset + length bytes)))
    where
      by : (b : Bool) → put_last (if b then put 0 (length_block (offset + length bytes)) ∷ [] else []) 0 ≡ (if b then Some (Some (length_block (offset + length bytes))) else None)
      by true = refl
      by false = refl

  no-end : (p : ℕ) → p ≢ 0 → put_last (grown_puts n (offset + length bytes)) p ≡ None
  no-end p z = by (nat_lt n (offset + length bytes))
    where
      other : nat_eq 0 p ≡ false
      other = grind (arith, nat_tests, z)

      by : (b : Bool) → put_last (if b then put 0 (length_block (offset + length bytes)) ∷ [] else []) p ≡ None
      by true = rw other refl
      by false = refl

  -- any other block, and the first and the second one
  at-other : (p : ℕ) → p ≢ 0 → is_touched offset (length bytes) p ≡ false → block_change files f offset bytes n p ≡ None
  at-other p z t = let no : nat_eq p 0 ≡ false = grind (arith, nat_tests, z) in rw (no, t) refl

  at-touched : (p : ℕ) → p ≢ 0 → is_touched offset (length bytes) p ≡ true → (new : List ℕ) → laid_over offset bytes (448 * (p - 1)) (block_in files f p) ≡ new → block_change files f offset bytes n p ≡ Some (Some new)
  at-touched p z t new e = let no : nat_eq p 0 ≡ false = grind (arith, nat_tests, z) in rw (no, t) (ap (λ (b : List ℕ). Some (Some b)) e)

  -- where the bytes end in the first block
  pub one-block : length bytes ≤ 448 - from → (p : ℕ) → put_last (put (q + 1) first ∷ grown_puts n (offset + length bytes)) p ≡ block_change files f offset bytes n p
  one-block l p = elim (cases_Bool (nat_eq p 0)) [
    | inl h ↦ (let z : p ≡ 0 = grind (arith, nat_tests, h) in let no : nat_eq (q + 1) p ≡ false = grind (arith, nat_tests, z) in rw no (or-none _ ∙ end-puts p z))
    | inr h ↦ (let z : p ≢ 0 = grind (arith, nat_tests, h) in rw (no-end p z) (elim (cases_Bool (nat_eq (q + 1) p)) [
      | inl k ↦ (let e : q + 1 ≡ p = grind (arith, nat_tests, k) in rw k (sym (at-touched p z (touched-first p e) first (first-is p e))))
      | inr k ↦ (let a : q + 1 ≢ p = grind (arith, nat_tests, k) in rw k (sym (at-other p z (elim (cases_Bool (nat_eq (q + 1 + 1) p)) [
        | inl m ↦ (let e : q + 1 + 1 ≡ p = grind (arith, nat_tests, m) in untouched-second p e l)
        | inr m ↦ (let b : q + 1 + 1 ≢ p = grind (arith, nat_tests, m) in untouched p z a b)
      ]))))
    ]))
  ]

  -- where they pass it
  pub two-blocks : 448 - from < length bytes → (p : ℕ) → put_last (put (q + 1) first ∷ put (q + 1 + 1) second ∷ grown_puts n (offset + length bytes)) p ≡ block_change files f offset bytes n p
  two-blocks l p = elim (cases_Bool (nat_eq p 0)) [
    | inl h ↦ (let z : p ≡ 0 = grind (arith, nat_tests, h) in let no : nat_eq (q + 1) p ≡ false = grind (arith, nat_tests, z) in let no_second : nat_eq (q + 1 + 1) p ≡ false = grind (arith, nat_tests, z) in
        rw (no, no_second) (or-none _ ∙ or-none _ ∙ end-puts p z))
    | inr h ↦ (let z : p ≢ 0 = grind (arith, nat_tests, h) in rw (no-end p z) (elim (cases_Bool (nat_eq (q + 1) p)) [
      | inl k ↦ (let e : q + 1 ≡ p = grind (arith, nat_tests, k) in let no : nat_eq (q + 1 + 1) p ≡ false = grind (arith, nat_tests, e) in rw (no, k) (sym (at-touched p z (touched-first p e) first (first-is p e))))
      | inr k ↦ (let a : q + 1 ≢ p = grind (arith, nat_tests, k) in rw k (elim (cases_Bool (nat_eq (q + 1 + 1) p)) [
        | inl m ↦ (let e : q + 1 + 1 ≡ p = grind (arith, nat_tests, m) in rw m (sym (at-touched p z (touched-second p e l) second (second-is p e))))
        | inr m ↦ (let b : q + 1 + 1 ≢ p = grind (arith, nat_tests, m) in rw m (sym (at-other p z (untouched p z a b))))
      ]))
    ]))
  ]
