-- A call has its end, whatever its operations are answered.
use Rattle.std.proofs.Common.{◌≡◌, inl, inr, ℕ, suc, ◌+◌, ◌-◌, ◌*◌, ◌%◌, ◌≤◌, ◌<◌, true, List, [], ◌∷◌, ◌++◌, length, take, drop, Option, Some, None, refl, arith}
use Rattle.std.specs.Prelude.{min, nat_eq, nat_lt}
use Rattle.std.proofs.Math.Nat.{div-add-mod}
use Rattle.std.proofs.lemmas.Nat.{mod_below}
use Rattle.std.proofs.lemmas.Bool.{cases_Bool}
use Rattle.std.proofs.lemmas.Bool.Decides.{nat_tests}
use Rattle.jn_base.specs.declared.names.FileNo.{FileNo}
use Rattle.jn_base.specs.declared.op.Op.{Op}
use Rattle.jn_base.specs.declared.op.Answer.{Answer}
use Rattle.jn_order.specs.Answers.{Answered}
use Rattle.jn_base.specs.declared.call.ByteCommand.{ByteCommand}
use Rattle.jn_base.specs.declared.call.ByteCommand.TheVariants.{ReadBytes, WriteBytes}
use Rattle.jn_bytes.specs.declared.next.Next.{Next}
use Rattle.jn_bytes.specs.declared.stage.Stage.{Stage}
use Rattle.jn_bytes.specs.declared.stage.Stage.TheVariants as stages
use Rattle.jn_bytes.specs.declared.stage.Turn.{Turn}
use Rattle.jn_bytes.specs.declared.stage.Turn.TheVariants.{Sends, Over}
unfoldable use Rattle.jn_bytes.specs.ByteFiles.{length_in}
use Rattle.jn_bytes.specs.Turns.{block_at, place_in_block, read_from, read_of, first_part, second_part, filled, write_all, grown, with_first, write_of, with_length, go_on, turn, turn_by, block_given, first_turn}
use Rattle.jn_bytes.specs.Exchanges.{GoesOn, IsExchange}
use Rattle.jn_bytes.specs.Counting.{blocks_of, blocks_touched, left_behind, left_from, most_operations, turn_behind, is_over}

-- ---- blocks

some-blocks : (from n : ℕ) → 1 ≤ n → 1 ≤ blocks_of from n
some-blocks from n one = let d = div-add-mod (from + n + 447) 448 in let m = mod_below (from + n + 447) 448 (omega arith) in omega (arith, d, m, one)

more-blocks : (from m n : ℕ) → m ≤ n → blocks_of from m ≤ blocks_of from n
more-blocks from m n l =
    let d = div-add-mod (from + m + 447) 448 in
    let e = div-add-mod (from + n + 447) 448 in
    let k = mod_below (from + n + 447) 448 (omega arith) in omega (arith, d, e, k, l)

-- behind the first one
next-blocks : (from n : ℕ) → blocks_of 0 (n - (448 - from)) ≤ blocks_of from n - 1
next-blocks from n =
    let d = div-add-mod (0 + (n - (448 - from)) + 447) 448 in
    let e = div-add-mod (from + n + 447) 448 in
    let k = mod_below (from + n + 447) 448 (omega arith) in omega (arith, d, e, k)

-- ---- a read

module _ (f : FileNo) (offset count : ℕ) where
  abbrev reads : ByteCommand
  reads = ReadBytes f offset count

  read-from : (p from left : ℕ) (bytes : List ℕ) → left_from reads (read_from f p from left bytes) ≤ blocks_of from left
  read-from p from left bytes = elim (cases_Bool (nat_eq left 0)) [
    | inl h ↦ (let z : 0 ≤ blocks_of from left = omega arith in rw h z)
    | inr h ↦ (let some = some-blocks from left (grind (arith, nat_tests, h)) in let z : 1 + (blocks_of from left - 1) ≤ blocks_of from left = omega (arith, some) in rw h z)
  ]

  read-length : (o : Option ℕ) → left_from reads (with_length o (λ n. read_of f offset count n)) ≤ blocks_of (place_in_block offset) count
  read-length None = omega arith
  read-length (Some n) =
      let h = read-from (block_at offset) (place_in_block offset) (min count (n - offset)) [] in
      let m = more-blocks (place_in_block offset) (min count (n - offset)) count (omega arith) in omega (arith, h, m)

  reads-on : (stage : Stage) (b : List ℕ) → left_from reads (go_on reads stage b) ≤ left_behind reads stage
  reads-on stages.Length b = read-length (length_in b)
  reads-on (stages.Block p from left bytes) b =
      let h = read-from (p + 1) 0 (left - (448 - from)) (bytes ++ take left (drop from b)) in
      let n = next-blocks from left in omega (arith, h, n)
  reads-on stage b = omega arith

-- ---- a write

module _ (f : FileNo) (offset : ℕ) (bytes : List ℕ) where
  abbrev writes : ByteCommand
  writes = WriteBytes f offset bytes

  all-writes : (ops : List Op) → left_from writes (write_all ops) ≤ length ops
  all-writes [] = omega arith
  all-writes (op ∷ ops) = omega arith

  few-grown : (n end : ℕ) → length (grown f n end) ≤ 1
  few-grown n end = elim (cases_Bool (nat_lt n end)) [
    | inl h ↦ (let z : 1 ≤ 1 = omega arith in rw h z)
    | inr h ↦ (let z : 0 ≤ 1 = omega arith in rw h z)
  ]

  with-first : (n : ℕ) (first : List ℕ) → left_from writes (with_first f offset bytes n first) ≤ 2 * blocks_touched offset bytes
  with-first n first = elim (cases_Bool (nat_eq (length (second_part offset bytes)) 0)) [
    | inl h ↦ (let g = few-grown n (offset + length bytes) in let z : 1 + length (grown f n (offset + length bytes)) ≤ 2 = omega (arith, g) in rw h z)
    | inr h ↦ (let z : 1 + 3 ≤ 4 = omega arith in rw h z)
  ]

  write-of : (n : ℕ) → left_from writes (write_of f offset bytes n) ≤ left_behind writes stages.Length
  write-of n = elim (cases_Bool (nat_lt n offset)) [
    | inl h ↦ (let z : 0 ≤ left_behind writes stages.Length = omega arith in rw h z)
    | inr h ↦ rw h (elim (cases_Bool (nat_eq (length bytes) 0)) [
      | inl k ↦ (let z : 0 ≤ 0 = omega arith in rw k z)
      | inr k ↦ rw k (elim (cases_Bool (nat_eq (length (first_part offset bytes)) 448)) [
        | inl m ↦ (let w = with-first n (first_part offset bytes) in
            let z : left_from writes (with_first f offset bytes n (first_part offset bytes)) ≤ 1 + 2 * blocks_touched offset bytes = omega (arith, w) in rw m z)
        | inr m ↦ (let z : 1 + 2 * blocks_touched offset bytes ≤ 1 + 2 * blocks_touched offset bytes = omega arith in rw m z)
      ])
    ])
  ]

  write-length : (o : Option ℕ) → left_from writes (with_length o (λ n. write_of f offset bytes n)) ≤ left_behind writes stages.Length
  write-length None = omega arith
  write-length (Some n) = write-of n

  writes-on : (stage : Stage) (b : List ℕ) → left_from writes (go_on writes stage b) ≤ left_behind writes stage
  writes-on stages.Length b = write-length (length_in b)
  writes-on (stages.First n) b = with-first n (filled (place_in_block offset) (first_part offset bytes) b)
  writes-on (stages.Second n first) b = let g = few-grown n (offset + length bytes) in omega (arith, g)
  writes-on (stages.Write ops) b = all-writes ops
  writes-on stage b = omega arith

-- ---- every call

goes-on : (call : ByteCommand) (stage : Stage) (b : List ℕ) → left_from call (go_on call stage b) ≤ left_behind call stage
goes-on (ReadBytes f offset count) stage b = reads-on f offset count stage b
goes-on (WriteBytes f offset bytes) stage b = writes-on f offset bytes stage b

-- each answer leaves fewer operations
pub falls : (call : ByteCommand) (stage : Stage) (answer : Answer) → left_from call (turn call stage answer) ≤ left_behind call stage
falls call stage answer = by (block_given answer)
  where
    by : (o : Option (List ℕ)) → left_from call (turn_by call stage answer o) ≤ left_behind call stage
    by None = omega arith
    by (Some b) = goes-on call stage b

over : (call : ByteCommand) (t : Turn) (given : List Answer) → left_from call t ≤ length given → is_over (turn_behind call t given) ≡ true
over call (Over next) given h = refl
over call (Sends op stage) [] h = let g : 1 + left_behind call stage ≤ 0 = h in absurd (omega (arith, g))
over call (Sends op stage) (a ∷ given) h =
    let f = falls call stage a in
    let g : 1 + left_behind call stage ≤ suc (length given) = h in
    over call (turn call stage a) given (omega (arith, f, g))

pub ends : (call : ByteCommand) (given : List Answer) → most_operations call ≤ length given → is_over (turn_behind call (first_turn call) given) ≡ true
ends call given h = over call (first_turn call) given h

asked : (call : ByteCommand) (t : Turn) (os : List Answered) (reply : Next) → GoesOn call t os reply → length os ≤ left_from call t
asked call (Over last) [] reply h = omega arith
asked call (Over last) (a ∷ more) reply h = absurd h
asked call (Sends op stage) [] reply h = absurd h
asked call (Sends op stage) (a ∷ more) reply h =
    let f = falls call stage a.answer in
    let m = asked call (turn call stage a.answer) more reply h.1 in
    let z : suc (length more) ≤ 1 + left_behind call stage = omega (arith, f, m) in z

pub few : (call : ByteCommand) (os : List Answered) (reply : Next) → IsExchange call os reply → length os ≤ most_operations call
few call os reply h = asked call (first_turn call) os reply h

-- ---- how many there are

pub read-most : (f : FileNo) (offset count : ℕ) → count ≤ 4480 → most_operations (ReadBytes f offset count) ≤ 12
read-most f offset count l =
    let below : offset % 448 < 448 = mod_below offset 448 (omega arith) in
    let d = div-add-mod (offset % 448 + count + 447) 448 in
    let z : 1 + blocks_of (place_in_block offset) count ≤ 12 = omega (arith, below, d, l) in z

pub write-most : (f : FileNo) (offset : ℕ) (bytes : List ℕ) → most_operations (WriteBytes f offset bytes) ≤ 6
write-most f offset bytes = elim (cases_Bool (nat_eq (length bytes) 0)) [
  | inl h ↦ (let z : 1 + 0 ≤ 6 = omega arith in rw h z)
  | inr h ↦ rw h (elim (cases_Bool (nat_eq (length (second_part offset bytes)) 0)) [
    | inl k ↦ (let z : 1 + (1 + 2) ≤ 6 = omega arith in rw k z)
    | inr k ↦ (let z : 1 + (1 + 4) ≤ 6 = omega arith in rw k z)
  ])
]
