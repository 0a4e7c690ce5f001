-- A call that fits asks operations of its own file and of blocks that there can be, and comes to stages that fit.
use Rattle.std.proofs.Common.{◌≡◌, inl, inr, ℕ, ◌+◌, ◌-◌, ◌*◌, ◌/◌, ◌%◌, ◌≤◌, ◌<◌, List, [], ◌∷◌, ◌++◌, length, take, drop, Option, Some, None, refl, arith}
use Rattle.std.specs.Prelude.{min, nat_eq, nat_lt}
use Rattle.std.proofs.Math.Nat.{div-add-mod}
use Rattle.std.proofs.lemmas.Nat.{mod_below}
use Rattle.std.proofs.lemmas.Bool.{cases_Bool}
use Rattle.std.proofs.lemmas.Bool.Decides.{nat_tests}
use Rattle.std.proofs.lemmas.List.{length-drop}
use Rattle.jn_base.specs.declared.names.FileNo.{FileNo}
use Rattle.jn_base.specs.declared.op.Op.{Op}
use Rattle.jn_base.specs.declared.op.Answer.{Answer}
use Rattle.jn_base.specs.declared.call.ByteCommand.{ByteCommand}
use Rattle.jn_base.specs.declared.call.ByteCommand.TheVariants.{ReadBytes, WriteBytes}
use Rattle.jn_bytes.specs.declared.stage.Stage.{Stage}
use Rattle.jn_bytes.specs.declared.stage.Stage.TheVariants as stages
unfoldable use Rattle.jn_bytes.specs.ByteFiles.{length_in}
use Rattle.jn_bytes.specs.Turns.{block_at, place_in_block, read_from, read_of, first_part, second_part, filled, write_all, grown, with_first, write_of, with_length, go_on, turn, turn_by, first_turn, block_given}
use Rattle.jn_bytes.specs.declared.stage.Turn.{Turn}
use Rattle.jn_bytes.specs.declared.stage.Turn.TheVariants.{Sends, Over}
use Rattle.jn_bytes.specs.Ranges.{Fits, AreOfCall, IsOfCall, SendsOfCall, StageFits}

-- what a turn asks is of the call, and it comes to a stage that fits
abbrev pub TurnFits : ByteCommand → Turn → Type 0
TurnFits call (Sends op stage) = IsOfCall call op × StageFits call stage
TurnFits call (Over next) = SendsOfCall call next

-- block 0 doesn't tell of more bytes than there can be
pub length-most : (block : List ℕ) (n : ℕ) → length_in block ≡ Some n → n ≤ 1128512
unfolding length_in
length-most block n e = grind (arith, nat_tests, e)

-- ---- a read

module _ (f : FileNo) (offset count : ℕ) where
  abbrev reads : ByteCommand
  reads = ReadBytes f offset count

  read-from : (p from left : ℕ) (bytes : List ℕ) → 1 ≤ p → from < 448 → (1 ≤ left → 448 * (p - 1) + (from + left) ≤ 1128512) → TurnFits reads (read_from f p from left bytes)
  read-from p from left bytes one below room = elim (cases_Bool (nat_eq left 0)) [
    | inl h ↦ rw h tt
    | inr h ↦ (let some : 1 ≤ left = grind (arith, nat_tests, h) in let r = room some in rw h ((refl, omega (arith, some, r, one)), (one, below, some, r)))
  ]

  read-of : (n : ℕ) → n ≤ 1128512 → TurnFits reads (read_of f offset count n)
  read-of n most =
      let place : 448 * (offset / 448) + offset % 448 ≡ offset = div-add-mod offset 448 in
      read-from (block_at offset) (place_in_block offset) (min count (n - offset)) [] (omega arith) (mod_below offset 448 (omega arith)) (λ some. omega (arith, place, some, most))

  read-length : (o : Option ℕ) → ((n : ℕ) → o ≡ Some n → n ≤ 1128512) → TurnFits reads (with_length o (λ n. read_of f offset count n))
  read-length None most = tt
  read-length (Some n) most = read-of n (most n refl)

  reads-on : (stage : Stage) (b : List ℕ) → StageFits reads stage → TurnFits reads (go_on reads stage b)
  reads-on stages.Length b fits = read-length (length_in b) (length-most b)
  reads-on (stages.Block p from left bytes) b fits = read-from (p + 1) 0 (left - (448 - from)) (bytes ++ take left (drop from b)) (omega arith) (omega arith) (λ some. let r = fits.3 in let l = fits.1 in omega (arith, some, r, l, fits.0))
  reads-on stage b fits = tt

-- ---- a write

module _ (f : FileNo) (offset : ℕ) (bytes : List ℕ) (few : length bytes ≤ 448) (within : offset + length bytes ≤ 1128512) where
  abbrev writes : ByteCommand
  writes = WriteBytes f offset bytes

  place : 448 * (offset / 448) + offset % 448 ≡ offset
  place = div-add-mod offset 448

  first-in : 1 ≤ length bytes → offset / 448 + 1 < 2520
  first-in one = omega (arith, place, one, within)

  second-in : 1 ≤ length (second_part offset bytes) → offset / 448 + 1 + 1 < 2520
  second-in more = let l = length-drop (448 - offset % 448) bytes in omega (arith, place, more, l, within, mod_below offset 448 (omega arith))

  all-writes : (ops : List Op) → AreOfCall writes ops → TurnFits writes (write_all ops)
  all-writes [] are = tt
  all-writes (op ∷ ops) are = are

  grown-in : (n end : ℕ) → AreOfCall writes (grown f n end)
  grown-in n end = elim (cases_Bool (nat_lt n end)) [ inl h ↦ rw h ((refl, omega arith), tt) | inr h ↦ rw h tt ]

  with-first : (n : ℕ) (first : List ℕ) → 1 ≤ length bytes → TurnFits writes (with_first f offset bytes n first)
  with-first n first one = elim (cases_Bool (nat_eq (length (second_part offset bytes)) 0)) [
    | inl h ↦ rw h ((refl, first-in one), grown-in n (offset + length bytes))
    | inr h ↦ (let more : 1 ≤ length (second_part offset bytes) = grind (arith, nat_tests, h) in rw h ((refl, second-in more), more))
  ]

  write-of : (n : ℕ) → TurnFits writes (write_of f offset bytes n)
  write-of n = elim (cases_Bool (nat_lt n offset)) [
    | inl h ↦ rw h tt
    | inr h ↦ rw h (elim (cases_Bool (nat_eq (length bytes) 0)) [
      | inl k ↦ rw k tt
      | inr k ↦ (let one : 1 ≤ length bytes = grind (arith, nat_tests, k) in rw k (elim (cases_Bool (nat_eq (length (first_part offset bytes)) 448)) [
        | inl m ↦ rw m (with-first n (first_part offset bytes) one)
        | inr m ↦ rw m ((refl, first-in one), one)
      ]))
    ])
  ]

  write-length : (o : Option ℕ) → TurnFits writes (with_length o (λ n. write_of f offset bytes n))
  write-length None = tt
  write-length (Some n) = write-of n

  some-bytes : 1 ≤ length (second_part offset bytes) → 1 ≤ length bytes
  some-bytes more = let l = length-drop (448 - offset % 448) bytes in omega (arith, more, l)

  writes-on : (stage : Stage) (b : List ℕ) → StageFits writes stage → TurnFits writes (go_on writes stage b)
  writes-on stages.Length b fits = write-length (length_in b)
  writes-on (stages.First n) b fits = with-first n (filled (place_in_block offset) (first_part offset bytes) b) fits
  writes-on (stages.Second n first) b fits = ((refl, first-in (some-bytes fits)), ((refl, second-in fits), grown-in n (offset + length bytes)))
  writes-on (stages.Write ops) b fits = all-writes ops fits
  writes-on stage b fits = tt

-- ---- every call

goes-on : (call : ByteCommand) (stage : Stage) (b : List ℕ) → Fits call → StageFits call stage → TurnFits call (go_on call stage b)
goes-on (ReadBytes f offset count) stage b fits stays = reads-on f offset count stage b stays
goes-on (WriteBytes f offset bytes) stage b fits stays = writes-on f offset bytes fits.0 fits.1 stage b stays

pub first_fits : (call : ByteCommand) → TurnFits call (first_turn call)
first_fits (ReadBytes f offset count) = ((refl, omega arith), tt)
first_fits (WriteBytes f offset bytes) = ((refl, omega arith), tt)

-- each turn of a call that fits, at any answer
pub turn_fits : (call : ByteCommand) (stage : Stage) (answer : Answer) → Fits call → StageFits call stage → TurnFits call (turn call stage answer)
turn_fits call stage answer fits stays = by (block_given answer)
  where
    by : (o : Option (List ℕ)) → TurnFits call (turn_by call stage answer o)
    by None = tt
    by (Some b) = goes-on call stage b fits stays
