-- The bytes of a file once a write is done.
use Rattle.std.proofs.Common.{◌≡◌, inl, inr, ℕ, zero, suc, ◌+◌, ◌-◌, ◌*◌, ◌≤◌, Bool, true, false, List, [], ◌∷◌, ◌++◌, length, take, drop, Option, Some, None, refl, sym, ◌∙◌, ap, arith, length-append}
use Rattle.std.specs.Prelude.{max, is_some, nat_eq, nat_lt, nat_le, bytes_eq, option_map, replicate, if◌then◌else◌}
use Rattle.std.proofs.lemmas.Bool.{cases_Bool}
use Rattle.std.proofs.lemmas.Bool.Decides.{nat_tests}
use Rattle.std.proofs.lemmas.List.{length-replicate, length-take-le, take_all, take-take}
use Rattle.std.proofs.lemmas.Slice.Eq.{bytes_eq-Decides}
use Rattle.byteorder.specs.Endian.{big_bytes}
use Rattle.byteorder.specs.Numbers.{big_number-reads_back, length-bytes_high_first}
use Rattle.jn_base.specs.declared.names.FileNo.{FileNo}
use Rattle.jn_base.specs.declared.names.LockUnit.{LockUnit}
use Rattle.jn_base.specs.declared.names.LockUnit.TheVariants.{File, Block}
use Rattle.jn_base.specs.declared.op.Answer.TheVariants.{NoFile}
use Rattle.jn_base.specs.Names.{file_eq}
use Rattle.jn_order.specs.Files.{Files, change, or_else}
unfoldable use Rattle.jn_order.specs.Files.{zeros}
use Rattle.jn_base.specs.declared.call.ByteCommand.TheVariants.{WriteBytes}
use Rattle.jn_bytes.specs.declared.next.Next.{Next}
use Rattle.jn_bytes.specs.declared.next.Next.TheVariants.{Did, Refused}
use Rattle.jn_bytes.specs.declared.next.ByteRefusal.{ByteRefusal}
use Rattle.jn_bytes.specs.declared.next.ByteRefusal.TheVariants.{Operation, PastEnd}
use Rattle.jn_bytes.specs.ByteFiles.{told_length, block_in, stretch, places, bytes_of, laid_over}
unfoldable use Rattle.jn_bytes.specs.ByteFiles.{length_block, length_in, data_blocks}
use Rattle.jn_bytes.specs.Calls.{reply_of, reply_to, is_touched, bytes_written, files_left, files_after_call}
use Rattle.jn_bytes.specs.Exchanges.{is_aside, ReadIsOfItsBytes, WriteIsOfItsBytes}
use Rattle.jn_bytes.proofs.Sized.{length-sized, sized_same}
use Rattle.jn_bytes.proofs.Laid.{length-laid, laid-past, laid-earlier, laid-nothing, laid-append, laid-within}
use Rattle.jn_bytes.proofs.Takes.{take-both, drop-first}
use Rattle.jn_bytes.proofs.Ranges.{length-most}
use Rattle.jn_bytes.proofs.ReadingAll.{length-places}

-- ---- block by block

module _ (f : FileNo) (offset n : ℕ) (bytes : List ℕ) (files : Files) where
  abbrev its_files : Files
  its_files = change (bytes_written files f offset bytes n) files

  -- a block that isn't touched
  untouched : (p : ℕ) (b : List ℕ) → 1 ≤ p → length b ≡ 448 → is_touched offset (length bytes) p ≡ false → b ≡ laid_over offset bytes (448 * (p - 1)) b
  untouched p b one l t = elim (cases_Bool (nat_lt (448 * (p - 1)) (offset + length bytes))) [
    | inr h ↦ sym (laid-past offset bytes (448 * (p - 1)) b (grind (arith, nat_tests, h)))
    | inl h ↦ elim (cases_Bool (nat_lt offset (448 * p))) [
      | inr k ↦ sym (laid-earlier offset bytes (448 * (p - 1)) b (let m : 448 * p ≤ offset = grind (arith, nat_tests, k) in omega (arith, m, one, l)))
      | inl k ↦ none bytes (grind (arith, nat_tests, h, k, t))
    ]
  ]
    where
      none : (xs : List ℕ) → length xs ≡ 0 → b ≡ laid_over offset xs (448 * (p - 1)) b
      none [] z = sym (laid-nothing offset (448 * (p - 1)) b)
      none (x ∷ xs) z = absurd (omega (arith, z))

  each-block : (p : ℕ) → 1 ≤ p → block_in its_files f p ≡ laid_over offset bytes (448 * (p - 1)) (block_in files f p)
  each-block p one =
      let same : file_eq f f ≡ true = grind (arith, nat_tests) in
      let some : nat_eq p 0 ≡ false = grind (arith, nat_tests, one) in
      elim (cases_Bool (is_touched offset (length bytes) p)) [
        | inl h ↦ rw (same, some, h) (sized_same (laid_over offset bytes (448 * (p - 1)) (block_in files f p)) (length-laid offset bytes (448 * (p - 1)) (block_in files f p) ∙ length-sized _))
        | inr h ↦ rw (same, some, h) (untouched p (block_in files f p) one (length-sized _) h)
      ]

  all-blocks : (m p : ℕ) → 1 ≤ p → stretch its_files f p m ≡ laid_over offset bytes (448 * (p - 1)) (stretch files f p m)
  all-blocks zero p one = refl
  all-blocks (suc m) p one = ap (λ (b : List ℕ). b ++ stretch its_files f (p + 1) m) (each-block p one)
      ∙ ap (λ (s : List ℕ). laid_over offset bytes (448 * (p - 1)) (block_in files f p) ++ s) (all-blocks m (p + 1) (omega arith) ∙ ap (λ (at : ℕ). laid_over offset bytes at (stretch files f (p + 1) m)) base)
      ∙ sym (laid-append offset bytes (448 * (p - 1)) (block_in files f p) (stretch files f (p + 1) m))
    where
      base : 448 * (p + 1 - 1) ≡ 448 * (p - 1) + length (block_in files f p)
      base = let l = length-sized (or_else (files (Block f (record { 0 = p }))) zeros) in omega (arith, l, one)

  all-places : places its_files f ≡ laid_over offset bytes 0 (places files f)
  all-places = all-blocks data_blocks 1 (omega arith) ∙ ap (λ (at : ℕ). laid_over offset bytes at (places files f)) (let e : 448 * (1 - 1) ≡ 0 = omega arith in e)

-- ---- block 0

-- it tells the number that it was made of
told-again : (n : ℕ) → n ≤ 1128512 → told_length (length_block n) ≡ n
unfolding length_block
told-again n most = big_number-reads_back 4 n (replicate 440 0) (omega (arith, most))

not-zeros : (n : ℕ) → bytes_eq (length_block n) zeros ≡ false
unfolding length_block zeros
not-zeros n = refl

length-read : (n : ℕ) → n ≤ 1128512 → length_in (length_block n) ≡ Some n
unfolding length_in
length-read n most =
    let same : bytes_eq (length_block n) (length_block n) ≡ true = (bytes_eq-Decides (length_block n) (length_block n)).1 refl in
    let few : nat_le n 1128512 ≡ true = grind (arith, nat_tests, most) in
    rw (not-zeros n, told-again n most, same, few) refl

length-size : (n : ℕ) → length (length_block n) ≡ 448
unfolding length_block
length-size n = let l = length-append (big_bytes 4 n) (replicate 440 0) in let b = length-bytes_high_first 4 n in let z = length-replicate {A = ℕ} 440 0 in omega (arith, l, b, z)

-- ---- the bytes of the file

-- bytes laid over the first n
laid-first : (offset n : ℕ) (bytes xs : List ℕ) → offset ≤ n → offset + length bytes ≤ length xs → n ≤ length xs
    → take (max n (offset + length bytes)) (laid_over offset bytes 0 xs) ≡ take offset (take n xs) ++ bytes ++ drop (offset + length bytes) (take n xs)
laid-first offset n bytes xs l fits k =
    ap (take (max n (offset + length bytes))) (laid-within offset bytes xs fits)
    ∙ take-both (max n (offset + length bytes)) (take offset xs ++ bytes) (drop (offset + length bytes) xs)
    ∙ ap (λ (ys : List ℕ). ys ++ take (max n (offset + length bytes) - length (take offset xs ++ bytes)) (drop (offset + length bytes) xs)) (take_all (max n (offset + length bytes)) (take offset xs ++ bytes) (omega (arith, front)))
    ∙ ap (λ (m : ℕ). (take offset xs ++ bytes) ++ take m (drop (offset + length bytes) xs)) (let e : max n (offset + length bytes) - length (take offset xs ++ bytes) ≡ n - (offset + length bytes) = omega (arith, front) in e)
    ∙ ap (λ (ys : List ℕ). (take offset xs ++ bytes) ++ ys) (sym (drop-first (offset + length bytes) n xs))
    ∙ ap (λ (ys : List ℕ). (ys ++ bytes) ++ drop (offset + length bytes) (take n xs)) (sym (take-take offset n xs l))
  where
    front : length (take offset xs ++ bytes) ≡ offset + length bytes
    front = length-append (take offset xs) bytes ∙ ap (λ (m : ℕ). m + length bytes) (length-take-le offset xs (omega (arith, l, k)))

module _ (f : FileNo) (offset n : ℕ) (bytes : List ℕ) (files : Files) (told : length_in (block_in files f 0) ≡ Some n) (fits : offset + length bytes ≤ 1128512) where
  abbrev now : Files
  now = change (bytes_written files f offset bytes n) files

  many : n ≤ 1128512
  many = length-most (block_in files f 0) n told

  length-now : length_in (block_in now f 0) ≡ Some (max n (offset + length bytes))
  length-now =
      let same : file_eq f f ≡ true = grind (arith, nat_tests) in
      elim (cases_Bool (nat_lt n (offset + length bytes))) [
        | inl h ↦ (let m : offset + length bytes ≡ max n (offset + length bytes) = grind (arith, nat_tests, h) in
            rw (same, h) (ap length_in (sized_same (length_block (offset + length bytes)) (length-size (offset + length bytes))) ∙ length-read (offset + length bytes) fits ∙ ap Some m))
        | inr h ↦ (let m : n ≡ max n (offset + length bytes) = grind (arith, nat_tests, h) in rw (same, h) (told ∙ ap Some m))
      ]

  bytes-now : offset ≤ n → bytes_of now f ≡ Some (take offset (take n (places files f)) ++ bytes ++ drop (offset + length bytes) (take n (places files f)))
  bytes-now l = let room = length-places files f in
      ap (option_map (λ m. take m (places now f))) length-now
      ∙ ap (λ (xs : List ℕ). Some (take (max n (offset + length bytes)) xs)) (all-places f offset n bytes files)
      ∙ ap Some (laid-first offset n bytes (places files f) l (omega (arith, fits, room)) (omega (arith, many, room)))

-- a write that is done begins where there are bytes, or at their end
begins-within : (f : FileNo) (offset : ℕ) (bytes had : List ℕ) (files : Files) → bytes_of files f ≡ Some had → reply_to (WriteBytes f offset bytes) files ≡ Did → offset ≤ length had
begins-within f offset bytes had files b r =
    let e : nat_lt (length had) offset ≡ false = by (is_some (files (File f))) (nat_lt (length had) offset)
    (sym (ap (λ (o : Option (List ℕ)). if is_some (files (File f)) then reply_of (WriteBytes f offset bytes) o else Refused (Operation NoFile)) b) ∙ r) in
    grind (arith, nat_tests, e)
  where
    refused : (why : ByteRefusal) → Refused why ≡ Did → ⊥
    refused why e = cc

    by : (there past : Bool) → (if there then (if past then Refused (PastEnd (length had)) else Did) else Refused (Operation NoFile)) ≡ Did → past ≡ false
    by true true e = absurd (refused (PastEnd (length had)) e)
    by true false e = refl
    by false past e = absurd (refused (Operation NoFile) e)

aside : (f : FileNo) (offset n : ℕ) (bytes : List ℕ) (files : Files) (u : LockUnit) → is_aside f u ≡ true → change (bytes_written files f offset bytes n) files u ≡ files u
aside f offset n bytes files (File g) a = refl
aside f offset n bytes files (Block g p) a = let other : file_eq f g ≡ false = grind (arith, a) in rw other refl

-- the number of bytes that block 0 tells
number-told : (f : FileNo) (files : Files) (had : List ℕ) → bytes_of files f ≡ Some had → (length_in (block_in files f 0) ≡ Some (length had)) × (take (length had) (places files f) ≡ had)
number-told f files had b = by (length_in (block_in files f 0)) (length-most (block_in files f 0)) b
  where
    none : None ≡ Some had → ⊥
    none e = cc

    some : (xs ys : List ℕ) → Some xs ≡ Some ys → xs ≡ ys
    some xs ys e = cc

    by : (o : Option ℕ) → ((n : ℕ) → o ≡ Some n → n ≤ 1128512) → option_map (λ n. take n (places files f)) o ≡ Some had → (o ≡ Some (length had)) × (take (length had) (places files f) ≡ had)
    by None most e = absurd (none e)
    by (Some n) most e =
        let all = length-places files f in
        let m = most n refl in
        let size : n ≡ length had = sym (length-take-le n (places files f) (omega (arith, all, m))) ∙ ap length (some (take n (places files f)) had e) in
        (ap Some size, ap (λ (k : ℕ). take k (places files f)) (sym size) ∙ some (take n (places files f)) had e)

pub write-is : (f : FileNo) (offset : ℕ) (bytes had : List ℕ) (files : Files) → WriteIsOfItsBytes f offset bytes had files
write-is f offset bytes had files fits b r =
    let told = number-told f files had b in
    let left : files_after_call (WriteBytes f offset bytes) files ≡ change (bytes_written files f offset bytes (length had)) files
    = ap (λ (reply : Next). files_left (WriteBytes f offset bytes) files (bytes_of files f) reply) r ∙ ap (λ (o : Option (List ℕ)). files_left (WriteBytes f offset bytes) files o Did) b in (
      ap (λ (now : Files). bytes_of now f) left ∙ bytes-now f offset (length had) bytes files told.0 fits.1 (begins-within f offset bytes had files b r)
          ∙ ap (λ (xs : List ℕ). Some (take offset xs ++ bytes ++ drop (offset + length bytes) xs)) told.1,
      λ u a. ap (λ (now : Files). now u) left ∙ aside f offset (length had) bytes files u a,
    )

pub read-is : (f : FileNo) (offset count : ℕ) (had : List ℕ) (files : Files) → ReadIsOfItsBytes f offset count had files
read-is f offset count had files there b = (rw (there, b) refl, refl)
