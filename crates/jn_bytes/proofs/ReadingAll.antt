-- A read gives the bytes of the blocks, one behind the other.
use Rattle.std.proofs.Common.{◌≡◌, inl, inr, ℕ, zero, suc, ◌+◌, ◌-◌, ◌*◌, ◌/◌, ◌%◌, ◌≤◌, ◌<◌, true, false, List, [], ◌++◌, length, take, drop, Option, Some, None, refl, sym, ◌∙◌, ap, subst, arith, append_assoc, append-nil, length-append}
use Rattle.std.specs.Prelude.{min, is_some, nat_eq, nat_lt, option_map}
use Rattle.std.proofs.Math.Nat.{div-add-mod}
use Rattle.std.proofs.Math.Seq.{drop-append-add}
use Rattle.std.proofs.lemmas.Nat.{mod_below}
use Rattle.std.proofs.lemmas.Bool.{cases_Bool}
use Rattle.std.proofs.lemmas.Bool.Decides.{nat_tests}
use Rattle.jn_base.specs.declared.names.FileNo.{FileNo}
use Rattle.jn_base.specs.declared.names.LockUnit.TheVariants.{File, Block}
use Rattle.jn_order.specs.Files.{Files, or_else}
unfoldable use Rattle.jn_order.specs.Files.{zeros}
use Rattle.jn_base.specs.declared.call.ByteCommand.{ByteCommand}
use Rattle.jn_base.specs.declared.call.ByteCommand.TheVariants.{ReadBytes}
use Rattle.jn_bytes.specs.declared.next.Next.TheVariants.{Done, Refused}
use Rattle.jn_bytes.specs.declared.next.ByteRefusal.TheVariants.{NotBytes}
use Rattle.jn_bytes.specs.declared.stage.Stage.TheVariants.{Block as AsksBlock}
use Rattle.jn_bytes.specs.ByteFiles.{block_in, stretch, places}
unfoldable use Rattle.jn_bytes.specs.ByteFiles.{data_blocks}
use Rattle.jn_bytes.specs.Calls.{reply_of}
use Rattle.jn_bytes.specs.Turns.{block_at, place_in_block, read_from, read_of, with_length}
use Rattle.jn_bytes.proofs.Sized.{length-sized}
use Rattle.jn_bytes.proofs.Takes.{wanted, take-of}
use Rattle.jn_bytes.proofs.ComesTo.{ComesTo, over, reads}

-- ---- from any place

-- so many whole blocks are passed over
drop-blocks : (f : FileNo) (files : Files) (q r p m : ℕ) → drop (448 * q + r) (stretch files f p (q + m)) ≡ drop r (stretch files f (p + q) m)
drop-blocks f files zero r p m = ap (λ (n : ℕ). drop n (stretch files f p (0 + m))) (let e : 448 * 0 + r ≡ r = omega arith in e)
    ∙ ap (λ (n : ℕ). drop r (stretch files f p n)) (let e : 0 + m ≡ m = omega arith in e) ∙ ap (λ (n : ℕ). drop r (stretch files f n m)) (let e : p ≡ p + 0 = omega arith in e)
drop-blocks f files (suc q) r p m = ap (λ (n : ℕ). drop (448 * suc q + r) (stretch files f p n)) (let e : suc q + m ≡ suc (q + m) = omega arith in e)
    ∙ ap (λ (n : ℕ). drop n (stretch files f p (suc (q + m)))) (let e : 448 * suc q + r ≡ length (block_in files f p) + (448 * q + r) = omega (arith, length-sized (or_else (files (Block f (record { 0 = p }))) zeros)) in e)
    ∙ drop-append-add (block_in files f p) (stretch files f (p + 1) (q + m)) (448 * q + r)
    ∙ drop-blocks f files q r (p + 1) m ∙ ap (λ (n : ℕ). drop r (stretch files f n m)) (let e : p + 1 + q ≡ p + suc q = omega arith in e)

drop-places : (f : FileNo) (files : Files) (q r m : ℕ) → q + m ≡ 2519 → drop (448 * q + r) (places files f) ≡ drop r (stretch files f (1 + q) m)
unfolding data_blocks
drop-places f files q r m e = subst (λ (n : ℕ). drop (448 * q + r) (stretch files f 1 n) ≡ drop r (stretch files f (1 + q) m)) e (drop-blocks f files q r 1 m)

-- ---- how many places there are

pub length-stretch : (files : Files) (f : FileNo) (p m : ℕ) → length (stretch files f p m) ≡ 448 * m
length-stretch files f p zero = omega arith
length-stretch files f p (suc m) = let again = length-stretch files f (p + 1) m in let l = length-sized (or_else (files (Block f (record { 0 = p }))) zeros) in
    let both = length-append (block_in files f p) (stretch files f (p + 1) m) in omega (arith, again, l, both)

pub length-places : (files : Files) (f : FileNo) → length (places files f) ≡ 1128512
unfolding data_blocks
length-places files f = by 2519 refl
  where
    by : (m : ℕ) → m ≡ data_blocks → length (stretch files f 1 m) ≡ 1128512
    by m e = let l = length-stretch files f 1 m in omega (arith, l, e)

-- ---- block by block

module _ (f : FileNo) (offset count : ℕ) (files : Files) (there : is_some (files (File f)) ≡ true) where
  abbrev its_read : ByteCommand
  its_read = ReadBytes f offset count

  read-all : (m p from left : ℕ) (out : List ℕ) → from < 448 → from + left ≤ 448 * m
      → ComesTo its_read (read_from f p from left out) files (Done (out ++ take left (drop from (stretch files f p m)))) files
  read-all m p from zero out k l = rw (append-nil out) (over its_read (Done out) files)
  read-all zero p from (suc left) out k l = absurd (omega (arith, l))
  read-all (suc m) p from (suc left) out k l =
      let again = read-all m (p + 1) 0 (suc left - (448 - from)) (out ++ take (suc left) (drop from (block_in files f p))) (omega arith) (omega (arith, l, k)) in
      let joined : (out ++ take (suc left) (drop from (block_in files f p))) ++ take (suc left - (448 - from)) (stretch files f (p + 1) m) ≡ out ++ take (suc left) (drop from (stretch files f p (suc m)))
      = append_assoc out _ _ ∙ ap (λ (bytes : List ℕ). out ++ bytes) (sym (take-of from (suc left) (block_in files f p) (stretch files f (p + 1) m) (length-sized _) (omega (arith, k)))) in
      let some : nat_eq (suc left) 0 ≡ false = grind (arith, nat_tests) in
      rw some (reads its_read f p (AsksBlock p from (suc left) out) files _ files there
      (subst (λ (bytes : List ℕ). ComesTo its_read (read_from f (p + 1) 0 (suc left - (448 - from)) (out ++ take (suc left) (drop from (block_in files f p)))) files (Done bytes) files) joined again))

  -- where bytes are wanted that there are
  some-bytes : (n : ℕ) → offset < n → n ≤ 1128512 → ComesTo its_read (read_of f offset count n) files (Done (take count (drop offset (take n (places files f))))) files
  some-bytes n l k =
      let place : 448 * (offset / 448) + offset % 448 ≡ offset = div-add-mod offset 448 in
      let below : offset % 448 < 448 = mod_below offset 448 (omega arith) in
      let all : offset / 448 + (2519 - offset / 448) ≡ 2519 = omega (arith, place, l, k) in
      let read = read-all (2519 - offset / 448) (block_at offset) (place_in_block offset) (min count (n - offset)) [] below (omega (arith, place, below, l, k)) in
      subst (λ (bytes : List ℕ). ComesTo its_read (read_of f offset count n) files (Done bytes) files)
      (ap (take (min count (n - offset))) (ap (λ (p : ℕ). drop (offset % 448) (stretch files f p (2519 - offset / 448))) (let e : offset / 448 + 1 ≡ 1 + offset / 448 = omega arith in e)
      ∙ sym (drop-places f files (offset / 448) (offset % 448) (2519 - offset / 448) all) ∙ ap (λ (o : ℕ). drop o (places files f)) place) ∙ sym (wanted offset count n (places files f))) read

  no-more : (n : ℕ) → n ≤ offset → ComesTo its_read (read_of f offset count n) files (Done (take count (drop offset (take n (places files f))))) files
  no-more n l = let z : min count (n - offset) ≡ 0 = omega (arith, l) in
      rw (wanted offset count n (places files f), z) (over its_read (Done []) files)

  pub read-by-length : (o : Option ℕ) → ((n : ℕ) → o ≡ Some n → n ≤ 1128512)
      → ComesTo its_read (with_length o (λ n. read_of f offset count n)) files (reply_of its_read (option_map (λ n. take n (places files f)) o)) files
  read-by-length None most = over its_read (Refused NotBytes) files
  read-by-length (Some n) most = elim (cases_Bool (nat_lt offset n)) [
    | inl h ↦ some-bytes n (grind (arith, nat_tests, h)) (most n refl)
    | inr h ↦ no-more n (grind (arith, nat_tests, h))
  ]
