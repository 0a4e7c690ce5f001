-- A call's operations are answered and do what the call is and does.
use Rattle.std.proofs.Common.{◌≡◌, ◌≢◌, inl, inr, ℕ, ◌+◌, ◌-◌, ◌*◌, ◌/◌, ◌%◌, ◌≤◌, ◌<◌, true, false, List, [], ◌∷◌, length, take, drop, Option, Some, None, refl, arith}
use Rattle.std.specs.Prelude.{is_some, nat_eq, nat_lt, option_map, if◌then◌else◌}
use Rattle.std.proofs.Math.Path.{fun_ext}
use Rattle.std.proofs.Math.Nat.{div-add-mod}
use Rattle.std.proofs.lemmas.Nat.{mod_below}
use Rattle.std.proofs.lemmas.Bool.{cases_Bool}
use Rattle.std.proofs.lemmas.Bool.Decides.{nat_tests}
use Rattle.std.proofs.lemmas.List.{length-drop, length-take-le}
use Rattle.jn_base.specs.declared.names.FileNo.{FileNo}
use Rattle.jn_base.specs.declared.names.LockUnit.{LockUnit}
use Rattle.jn_base.specs.declared.names.LockUnit.TheVariants.{File, Block}
use Rattle.jn_base.specs.declared.op.Answer.TheVariants.{NoFile}
use Rattle.jn_base.specs.Names.{file_eq}
use Rattle.jn_order.specs.Files.{Files, change}
use Rattle.jn_base.specs.declared.call.ByteCommand.{ByteCommand}
use Rattle.jn_base.specs.declared.call.ByteCommand.TheVariants.{ReadBytes, WriteBytes}
use Rattle.jn_bytes.specs.declared.next.Next.TheVariants.{Did, Refused}
use Rattle.jn_bytes.specs.declared.next.ByteRefusal.TheVariants.{Operation, NotBytes, PastEnd}
use Rattle.jn_bytes.specs.declared.stage.Stage.TheVariants.{Length, First, Second}
use Rattle.jn_bytes.specs.declared.stage.Turn.TheVariants.{Sends}
use Rattle.jn_bytes.specs.ByteFiles.{block_in, places, bytes_of}
unfoldable use Rattle.jn_bytes.specs.ByteFiles.{length_in}
use Rattle.jn_bytes.specs.Calls.{file_of_call, reply_of, reply_to, block_change, bytes_written, files_left, files_after_call}
use Rattle.jn_bytes.specs.Turns.{block_at, read_op, first_part, second_part, write_all, grown, with_first, write_of, with_length, go_on, first_turn}
use Rattle.jn_bytes.specs.Ranges.{Fits}
use Rattle.jn_bytes.proofs.Sized.{length-sized}
use Rattle.jn_bytes.proofs.Ranges.{length-most}
use Rattle.jn_bytes.proofs.ComesTo.{ComesTo, Put, puts, over, sends, reads, writes}
use Rattle.jn_bytes.proofs.ReadingAll.{length-places, read-by-length}
use Rattle.jn_bytes.proofs.Puts.{whole-filled, put_last, puts-write}
use Rattle.jn_bytes.proofs.Putting.{put, grown_puts, first, second, one-block, two-blocks}

-- ---- a write of some bytes, once the length is known

grown-puts : (f : FileNo) (n end : ℕ) → puts f (grown_puts n end) ≡ grown f n end
grown-puts f n end = elim (cases_Bool (nat_lt n end)) [ inl h ↦ rw h refl | inr h ↦ rw h refl ]

module _ (f : FileNo) (offset n : ℕ) (bytes : List ℕ) (files : Files) (there : is_some (files (File f)) ≡ true) (one : 1 ≤ length bytes) (few : length bytes ≤ 448) where
  place : 448 * (offset / 448) + offset % 448 ≡ offset
  place = div-add-mod offset 448

  below : offset % 448 < 448
  below = mod_below offset 448 (omega arith)

  abbrev its_write : ByteCommand
  its_write = WriteBytes f offset bytes

  abbrev its_first : List ℕ
  its_first = first f offset n bytes files (offset / 448) (offset % 448) place below one few

  abbrev its_second : List ℕ
  its_second = second f offset n bytes files (offset / 448) (offset % 448) place below one few

  abbrev after : Files
  after = change (bytes_written files f offset bytes n) files

  put-all : (ws : List Put) → ((p : ℕ) → put_last ws p ≡ block_change files f offset bytes n p) → ComesTo its_write (write_all (puts f ws)) files Did after
  put-all ws same = rw (← puts-write f offset n bytes ws files same) (writes f offset bytes ws files there)

  abbrev its_grown : List Put
  its_grown = grown_puts n (offset + length bytes)

  -- once the first block is known
  firsts : (fst : List ℕ) → fst ≡ its_first → ComesTo its_write (with_first f offset bytes n fst) files Did after
  firsts fst e = rw e (elim (cases_Bool (nat_eq (length (second_part offset bytes)) 0)) [
    | inl h ↦ (let l : length bytes ≤ 448 - offset % 448 = ends-there h in rw (h, ← grown-puts f n (offset + length bytes))
        (put-all (put (block_at offset) its_first ∷ its_grown) (one-block f offset n bytes files (offset / 448) (offset % 448) place below one few l)))
    | inr h ↦ (let l : 448 - offset % 448 < length bytes = passes h in rw h (reads its_write f (block_at offset + 1) (Second n its_first) files Did after there
        (rw (← grown-puts f n (offset + length bytes))
        (put-all (put (block_at offset) its_first ∷ put (block_at offset + 1) its_second ∷ its_grown) (two-blocks f offset n bytes files (offset / 448) (offset % 448) place below one few l)))))
  ])
    where
      ends-there : nat_eq (length (drop (448 - offset % 448) bytes)) 0 ≡ true → length bytes ≤ 448 - offset % 448
      ends-there h = let z : length (drop (448 - offset % 448) bytes) ≡ 0 = grind (arith, nat_tests, h) in let d = length-drop (448 - offset % 448) bytes in omega (arith, z, d)

      passes : nat_eq (length (drop (448 - offset % 448) bytes)) 0 ≡ false → 448 - offset % 448 < length bytes
      passes h = let z : length (drop (448 - offset % 448) bytes) ≢ 0 = grind (arith, nat_tests, h) in let d = length-drop (448 - offset % 448) bytes in omega (arith, z, d)

  -- the first block is read, but where it is covered whole
  fills : ComesTo its_write (if nat_eq (length (first_part offset bytes)) 448 then with_first f offset bytes n (first_part offset bytes) else Sends (read_op f (block_at offset)) (First n)) files Did after
  fills = elim (cases_Bool (nat_eq (length (first_part offset bytes)) 448)) [
    | inl h ↦ (let e : length (take (448 - offset % 448) bytes) ≡ 448 = grind (arith, nat_tests, h) in rw h (firsts (first_part offset bytes) (whole-filled (offset % 448) bytes (block_in files f (block_at offset)) (omega (arith, below)) e (length-sized _))))
    | inr h ↦ rw h (reads its_write f (block_at offset) (First n) files Did after there (firsts its_first refl))
  ]

-- ---- every write

-- no bytes change nothing
no-bytes : (f : FileNo) (offset n : ℕ) (files : Files) → offset ≤ n → change (bytes_written files f offset [] n) files ≡ files
no-bytes f offset n files l = fun_ext (λ u. at u)
  where
    none : (p : ℕ) → block_change files f offset [] n p ≡ None
    none p = let k : nat_lt n (offset + 0) ≡ false = grind (arith, nat_tests, l) in elim (cases_Bool (nat_eq p 0)) [ inl h ↦ rw (h, k) refl | inr h ↦ rw h refl ]

    at : (u : LockUnit) → change (bytes_written files f offset [] n) files u ≡ files u
    at (File g) = refl
    at (Block g p) = elim (cases_Bool (file_eq f g)) [ inl h ↦ rw (h, none p.0) refl | inr h ↦ rw h refl ]

module _ (f : FileNo) (offset : ℕ) (files : Files) (there : is_some (files (File f)) ≡ true) where
  -- to a file with so many bytes, from a place that there is
  write-within : (n : ℕ) (bytes : List ℕ) → offset ≤ n → length bytes ≤ 448 → ComesTo (WriteBytes f offset bytes) (write_of f offset bytes n) files Did (change (bytes_written files f offset bytes n) files)
  write-within n [] l few = let k : nat_lt n offset ≡ false = grind (arith, nat_tests, l) in rw (k, no-bytes f offset n files l) (over (WriteBytes f offset []) Did files)
  write-within n (x ∷ xs) l few = let k : nat_lt n offset ≡ false = grind (arith, nat_tests, l) in let some : nat_eq (length (x ∷ xs)) 0 ≡ false = grind (arith, nat_tests) in rw (k, some) (fills f offset n (x ∷ xs) files there (omega arith) few)

  abbrev had : ℕ → List ℕ
  had n = take n (places files f)

  write-by-length : (bytes : List ℕ) → length bytes ≤ 448 → (o : Option ℕ) → ((n : ℕ) → o ≡ Some n → n ≤ 1128512)
      → ComesTo (WriteBytes f offset bytes) (with_length o (λ n. write_of f offset bytes n)) files (reply_of (WriteBytes f offset bytes) (option_map had o))
      (files_left (WriteBytes f offset bytes) files (option_map had o) (reply_of (WriteBytes f offset bytes) (option_map had o)))
  write-by-length bytes few None most = over (WriteBytes f offset bytes) (Refused NotBytes) files
  write-by-length bytes few (Some n) most =
      let size : length (had n) ≡ n = length-take-le n (places files f) (let all = length-places files f in let m = most n refl in omega (arith, all, m)) in
      elim (cases_Bool (nat_lt n offset)) [
        | inl h ↦ (let past : nat_lt (length (had n)) offset ≡ true = rw size h in rw (past, h, size) (over (WriteBytes f offset bytes) (Refused (PastEnd n)) files))
        | inr h ↦ (let within : nat_lt (length (had n)) offset ≡ false = rw size h in rw (within, size) (write-within n bytes (grind (arith, nat_tests, h)) few))
      ]

-- ---- every call

begins : (call : ByteCommand) (files : Files) → is_some (files (File (file_of_call call))) ≡ true → Fits call
    → ComesTo call (go_on call Length (block_in files (file_of_call call) 0)) files (reply_of call (bytes_of files (file_of_call call))) (files_left call files (bytes_of files (file_of_call call)) (reply_of call (bytes_of files (file_of_call call))))
begins (ReadBytes f offset count) files there fits = read-by-length f offset count files there (length_in (block_in files f 0)) (length-most (block_in files f 0))
begins (WriteBytes f offset bytes) files there fits = write-by-length f offset files there bytes fits.0 (length_in (block_in files f 0)) (length-most (block_in files f 0))

-- a refused call leaves the files
unchanged : (call : ByteCommand) (files : Files) (all : Option (List ℕ)) → files_left call files all (Refused (Operation NoFile)) ≡ files
unchanged (ReadBytes f offset count) files all = refl
unchanged (WriteBytes f offset bytes) files None = refl
unchanged (WriteBytes f offset bytes) files (Some all) = refl

absent : (call : ByteCommand) (files : Files) → is_some (files (File (file_of_call call))) ≡ false → ComesTo call (first_turn call) files (Refused (Operation NoFile)) files
absent call files gone = sends call (read_op (file_of_call call) 0) Length files (Refused (Operation NoFile)) files (rw gone (over call (Refused (Operation NoFile)) files))

pub each-call : (call : ByteCommand) (files : Files) → Fits call → ComesTo call (first_turn call) files (reply_to call files) (files_after_call call files)
each-call call files fits = elim (cases_Bool (is_some (files (File (file_of_call call))))) [
  | inl h ↦ rw h (reads call (file_of_call call) 0 Length files _ _ h (begins call files h fits))
  | inr h ↦ rw (h, unchanged call files (bytes_of files (file_of_call call))) (absent call files h)
]
