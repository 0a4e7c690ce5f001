-- What stands there, from the steps of the code: where a step says that a record is torn, these are the bytes that it may have had.
use Rattle.std.proofs.Common.{◌≡◌, ◌⊎◌, inl, inr, ◌≤◌, ◌<◌, ◌+◌, ◌-◌, ◌*◌, ◌^◌, ℕ, zero, suc, Bool, true, false, List, [], ◌∷◌, ◌++◌, length, take, drop, refl, sym, ◌∙◌, ap, ap₂, subst, arith, append_assoc, append-nil, length-append, if◌then◌else◌}
use Rattle.std.specs.Prelude.{nat_eq, nat_lt, ◌||◌, bytes_eq}
use Rattle.std.proofs.lemmas.Bool.Decides.{nat_tests}
use Rattle.std.proofs.lemmas.List.{take_at, drop_at, take_all, take-append-drop, length-take-le, length-drop}
use Rattle.std.proofs.lemmas.Slice.Eq.{bytes_eq-Decides}
use Rattle.byteorder.specs.Endian.{big_number}
use Rattle.jn_journal.specs.declared.reading.Ending.{Ending}
use Rattle.jn_journal.specs.declared.reading.Ending.TheVariants.{Torn, Damaged}
use Rattle.jn_journal.specs.Torn.{IsTorn}
use Rattle.jn_journal.specs.Format.{zeros_in, doubled, headed, next_chain, body_of}
unfoldable use Rattle.jn_journal.specs.Format.{header_of}
use Rattle.jn_journal.specs.Reading.{AreBytes, BeginsWith, LacksHeader, LacksBody, IsTornRecord, IsWhole}
use Rattle.jn_journal.specs.Steps.{Step, Whole, Stops, step, numbers_step, sized_step, body_step, digest_step, header_ending, part_ending, is_doubled, may_be_doubled, halved}
use Rattle.jn_journal.proofs.Torn.{torn-join, torn-shorter, torn-itself, zero_of, zeros-append, doubled-is, length-doubled}
use Rattle.jn_journal.proofs.Headers.{length-header, size-small, header-back, never-true}

-- ---- a header that may have been there

abbrev likely : ℕ → ℕ → ℕ
likely zero b = 255 - b
likely (suc a) b = suc a

abbrev guess : ℕ → List ℕ → List ℕ
guess zero left = []
guess (suc n) [] = 0 ∷ guess n []
guess (suc n) (a ∷ []) = a ∷ guess n []
guess (suc n) (a ∷ b ∷ left) = likely a b ∷ guess n left

length-guess : (n : ℕ) (left : List ℕ) → length (guess n left) ≡ n
length-guess zero left = refl
length-guess (suc n) [] = let rest = length-guess n [] in omega (arith, rest)
length-guess (suc n) (a ∷ []) = let rest = length-guess n [] in omega (arith, rest)
length-guess (suc n) (a ∷ b ∷ left) = let rest = length-guess n left in omega (arith, rest)

likely-small : (a b : ℕ) → a < 256 → likely a b < 256
likely-small zero b h = omega arith
likely-small (suc a) b h = h

guess-small : (n : ℕ) (left : List ℕ) → AreBytes left → AreBytes (guess n left)
guess-small zero left all = tt
guess-small (suc n) [] all = (omega arith, guess-small n [] tt)
guess-small (suc n) (a ∷ []) all = (all.0, guess-small n [] tt)
guess-small (suc n) (a ∷ b ∷ left) all = (likely-small a b all.0, guess-small n left all.1.1)

-- a pair that lacks a byte may have been the likely one
likely-torn : (a b : ℕ) → b < 256 → (nat_eq (a + b) 255 || (nat_eq a 0 || nat_eq b 0)) ≡ true → ((a ≡ likely a b) ⊎ (a ≡ 0)) × ((b ≡ 255 - likely a b) ⊎ (b ≡ 0))
likely-torn zero b small may = (inr refl, inl (omega (arith, small)))
likely-torn (suc a) zero small may = (inl refl, inr refl)
likely-torn (suc a) (suc b) small may =
    let sum : suc a + suc b ≡ 255 = grind (arith, may, nat_tests) in
    (inl refl, inl (omega (arith, sum)))

guess-torn : (n : ℕ) (left : List ℕ) → AreBytes left → length left ≤ n + n → may_be_doubled left ≡ true → IsTorn (doubled (guess n left)) left
guess-torn zero [] all short may = tt
guess-torn zero (a ∷ left) all short may = absurd (omega (arith, short))
guess-torn (suc n) [] all short may = tt
guess-torn (suc n) (a ∷ []) all short may = (inl refl, tt)
guess-torn (suc n) (a ∷ b ∷ left) all short may =
    let here : (nat_eq (a + b) 255 || (nat_eq a 0 || nat_eq b 0)) ≡ true = grind (arith, may, nat_tests) in
    let rest : may_be_doubled left ≡ true = grind (arith, may, nat_tests) in
    let pair = likely-torn a b all.1.0 here in
    (pair.0, (pair.1, guess-torn n left all.1.1 (omega (arith, short)) rest))

take-small : (n : ℕ) (xs : List ℕ) → AreBytes xs → AreBytes (take n xs)
take-small zero xs all = tt
take-small (suc n) [] all = tt
take-small (suc n) (x ∷ xs) all = (all.0, take-small n xs all.1)

length-take-most : (n : ℕ) (xs : List ℕ) → length (take n xs) ≤ n
length-take-most zero xs = omega arith
length-take-most (suc n) [] = omega arith
length-take-most (suc n) (x ∷ xs) = let rest = length-take-most n xs in omega (arith, rest)

-- no whole header stands there
abbrev HasNoHeader : List ℕ → Type 0
HasNoHeader file = (nat_lt (length file) 16 ≡ true) ⊎ (is_doubled (take 16 file) ≡ false)

lacks-header : (file : List ℕ) → AreBytes file → may_be_doubled (take 16 file) ≡ true → HasNoHeader file → LacksHeader file
lacks-header file all may none =
    let left = take 16 file in
    let numbers = guess 8 left in
    let small = guess-small 8 left (take-small 16 file all) in
    let most = length-take-most 16 file in
    let eight : length numbers ≡ 8 = length-guess 8 left in
    let sixteen : length (doubled numbers) ≡ 16 = length-doubled numbers ∙ ap (λ (n : ℕ). 2 * n) eight in
    let front = guess-torn 8 left (take-small 16 file all) most may in
    record {
      numbers = numbers;
      behind = drop 16 file;
      eight = eight;
      small = small;
      torn = torn-join (doubled numbers) (drop 16 file) file
          (subst (λ (k : ℕ). IsTorn (doubled numbers) (take k file)) (sym sixteen) front)
          (subst (λ (k : ℕ). IsTorn (drop 16 file) (drop k file)) (sym sixteen) (torn-itself (drop 16 file)));
      lacks = λ w. not-whole file numbers sixteen small none w;
    }
  where
    not-whole : (file numbers : List ℕ) → length (doubled numbers) ≡ 16 → AreBytes numbers → HasNoHeader file → BeginsWith (doubled numbers) file → ⊥
    not-whole file numbers sixteen small (inl short) w =
        let e = ap length w.1 in let n = length-append (doubled numbers) w.0 in
        let less : length file < 16 = grind (arith, short, nat_tests) in
        absurd (omega (arith, e, n, sixteen, less))
    not-whole file numbers sixteen small (inr absent) w =
        let same : take 16 file ≡ doubled numbers = ap (take 16) w.1 ∙ take_at (doubled numbers) w.0 16 sixteen in
        never-true (sym absent ∙ ap is_doubled same ∙ doubled-is numbers small)

-- ---- a body that may have been there

-- bytes of which so many zeros are made ones
abbrev filled : ℕ → List ℕ → List ℕ
filled zero bytes = bytes
filled (suc n) [] = []
filled (suc n) (zero ∷ bytes) = 1 ∷ filled n bytes
filled (suc n) (suc b ∷ bytes) = suc b ∷ filled (suc n) bytes

length-filled : (n : ℕ) (bytes : List ℕ) → length (filled n bytes) ≡ length bytes
length-filled zero bytes = refl
length-filled (suc n) [] = refl
length-filled (suc n) (zero ∷ bytes) = let rest = length-filled n bytes in omega (arith, rest)
length-filled (suc n) (suc b ∷ bytes) = let rest = length-filled (suc n) bytes in omega (arith, rest)

zeros-filled : (n : ℕ) (bytes : List ℕ) → n ≤ zeros_in bytes → zeros_in (filled n bytes) + n ≡ zeros_in bytes
zeros-filled zero bytes h = omega arith
zeros-filled (suc n) [] h = absurd (omega (arith, h))
zeros-filled (suc n) (zero ∷ bytes) h = let rest = zeros-filled n bytes (omega (arith, h)) in omega (arith, rest)
zeros-filled (suc n) (suc b ∷ bytes) h =
    let none : zero_of (suc b) ≡ 0 = grind (arith, nat_tests) in
    let rest = zeros-filled (suc n) bytes (omega (arith, h, none)) in
    omega (arith, rest, none)

filled-torn : (n : ℕ) (bytes : List ℕ) → IsTorn (filled n bytes) bytes
filled-torn zero bytes = torn-itself bytes
filled-torn (suc n) [] = tt
filled-torn (suc n) (zero ∷ bytes) = (inr refl, filled-torn n bytes)
filled-torn (suc n) (suc b ∷ bytes) = (inl refl, filled-torn (suc n) bytes)

abbrev zeros : ℕ → List ℕ
zeros zero = []
zeros (suc n) = 0 ∷ zeros n

length-zeros : (n : ℕ) → length (zeros n) ≡ n
length-zeros zero = refl
length-zeros (suc n) = let rest = length-zeros n in omega (arith, rest)

zeros-zeros : (n : ℕ) → zeros_in (zeros n) ≡ n
zeros-zeros zero = refl
zeros-zeros (suc n) = let rest = zeros-zeros n in omega (arith, rest)

-- of a body of this size with so many zeros a crash may have left these bytes
abbrev MadeBody : ℕ → ℕ → List ℕ → Type 0
MadeBody size count left = (body : List ℕ) × (length body ≡ size) × (zeros_in body ≡ count) × IsTorn body left

made-body : (size count : ℕ) (left : List ℕ) → length left ≤ size → count ≤ zeros_in left + (size - length left) → MadeBody size count left
made-body size count left short enough =
    let all = left ++ zeros (size - length left) in
    let spare = zeros_in all - count in
    let n = length-append left (zeros (size - length left)) in let m = length-zeros (size - length left) in
    let k = zeros-append left (zeros (size - length left)) in let j = zeros-zeros (size - length left) in
    let size_is = length-filled spare all in
    let count_is = zeros-filled spare all (omega arith) in
    (filled spare all, omega (arith, n, m, size_is, short), omega (arith, k, j, count_is, enough), torn-shorter (filled spare all) left (zeros (size - length left)) (filled-torn spare all))

-- ---- what each step says

abbrev pub EndingIs : List ℕ → Ending → Type 0
EndingIs file Torn = IsTornRecord file
EndingIs file Damaged = Unit {0}

abbrev pub StepIs : List ℕ → List ℕ → Step → Type 0
StepIs chain file (Whole content rest) = IsWhole chain file content rest
StepIs chain file (Stops ending) = EndingIs file ending

by-if : {A : Type 0} (P : A → Type 0) (b : Bool) (x y : A) → (b ≡ true → P x) → (b ≡ false → P y) → P (if b then x else y)
by-if P true x y f g = f refl
by-if P false x y f g = g refl

header-end : (file bytes : List ℕ) → (may_be_doubled bytes ≡ true → LacksHeader file) → EndingIs file (header_ending bytes)
header-end file bytes f = by-if (EndingIs file) (may_be_doubled bytes) Torn Damaged (λ may. inl (f may)) (λ wrong. tt)

-- behind a whole header
module _ (chain file : List ℕ) (long : nat_lt (length file) 16 ≡ false) (is : is_doubled (take 16 file) ≡ true) where
  abbrev header : List ℕ
  header = take 16 file

  abbrev rest : List ℕ
  rest = drop 16 file

  abbrev size : ℕ
  size = big_number 4 (halved header)

  abbrev count : ℕ
  count = big_number 4 (drop 4 (halved header))

  sixteen : length header ≡ 16
  sixteen = length-take-le 16 file (grind (arith, long, nat_tests))

  back : (body : List ℕ) → length body ≡ size → zeros_in body ≡ count → header_of body ≡ header
  back body e f = header-back header sixteen is body e f

  small : size < 2 ^ 32
  small = size-small header sixteen is

  -- the body behind a header that stands
  after-header : (body left : List ℕ) → file ≡ headed body ++ left → rest ≡ body ++ left
  after-header body left e = ap (drop 16) (e ∙ append_assoc (header_of body) body left) ∙ drop_at (header_of body) (body ++ left) 16 (length-header body)

  lacks-body : (body behind : List ℕ) → length body ≡ size → zeros_in body ≡ count → nat_lt size 32 ≡ false → IsTorn (body ++ behind) rest → ¬ (BeginsWith (headed body) file) → LacksBody file
  lacks-body body behind e f room t lacks =
      let n = small in
      let front : IsTorn (header_of body) header = subst (λ (ys : List ℕ). IsTorn ys header) (sym (back body e f)) (torn-itself header) in
      record {
        body = body;
        behind = behind;
        room = grind (arith, room, e, nat_tests);
        fits = omega (arith, n, e);
        torn = subst (λ (ys : List ℕ). IsTorn ys file) (sym (append_assoc (header_of body) body behind))
            (torn-join (header_of body) (body ++ behind) file
            (subst (λ (k : ℕ). IsTorn (header_of body) (take k file)) (sym (length-header body)) front)
            (subst (λ (k : ℕ). IsTorn (body ++ behind) (drop k file)) (sym (length-header body)) t));
        lacks = lacks;
      }

  -- the end of the body is cut off
  cut : nat_lt size 32 ≡ false → nat_lt (length rest) size ≡ true → nat_lt (zeros_in rest + (size - length rest)) count ≡ false → LacksBody file
  cut room short enough =
      let less : length rest < size = grind (arith, short, nat_tests) in
      let made = made-body size count rest (omega (arith, less)) (grind (arith, enough, nat_tests)) in
      let e = made.1 in
      lacks-body made.0 [] made.1 made.2 room (subst (λ (ys : List ℕ). IsTorn ys rest) (sym (append-nil made.0)) made.3)
      (λ w. let n = ap length (after-header made.0 w.0 w.1) in let m = length-append made.0 w.0 in absurd (omega (arith, n, m, e, less)))

  -- the body has more zeros than it had
  holed : nat_lt size 32 ≡ false → nat_lt (length rest) size ≡ false → nat_lt count (zeros_in (take size rest)) ≡ true → LacksBody file
  holed room enough more =
      let n : length (take size rest) ≡ size = length-take-le size rest (grind (arith, enough, nat_tests)) in
      let above : count < zeros_in (take size rest) = grind (arith, more, nat_tests) in
      let made = made-body size count (take size rest) (omega (arith, n)) (omega (arith, above)) in
      let e = made.1 in let f = made.2 in
      lacks-body made.0 (drop size rest) made.1 made.2 room
      (torn-join made.0 (drop size rest) rest
      (subst (λ (k : ℕ). IsTorn made.0 (take k rest)) (sym made.1) made.3)
      (subst (λ (k : ℕ). IsTorn (drop size rest) (drop k rest)) (sym made.1) (torn-itself (drop size rest))))
      (λ w. let same = ap zeros_in (ap (take size) (after-header made.0 w.0 w.1) ∙ take_at made.0 w.0 size made.1) in absurd (omega (arith, same, f, above)))

  -- nothing is missing
  found : nat_lt size 32 ≡ false → nat_lt (length rest) size ≡ false → zeros_in (take size rest) ≡ count
      → take 32 (take size rest) ≡ next_chain chain (drop 32 (take size rest)) → IsWhole chain file (drop 32 (take size rest)) (drop size rest)
  found room enough same digest =
      let body = take size rest in
      let content = drop 32 body in
      let least : 32 ≤ size = grind (arith, room, nat_tests) in
      let n : length body ≡ size = length-take-le size rest (grind (arith, enough, nat_tests)) in
      let m = length-drop 32 body in let below = small in
      let body_is : body_of chain content ≡ body = ap (λ (ys : List ℕ). ys ++ content) (sym digest) ∙ take-append-drop 32 body in (
        omega (arith, n, m, least, below),
        sym (ap (λ (ys : List ℕ). headed ys ++ drop size rest) body_is ∙ append_assoc (header_of body) body (drop size rest)
            ∙ ap₂ (λ (xs ys : List ℕ). xs ++ ys) (back body n same) (take-append-drop size rest) ∙ take-append-drop 16 file),
      )

  abbrev part : List ℕ
  part = take size rest

  abbrev after : List ℕ
  after = drop size rest

  digest-is : zeros_in part ≡ count → nat_lt size 32 ≡ false → nat_lt (length rest) size ≡ false → StepIs chain file (digest_step chain part after)
  digest-is same room enough =
      by-if (StepIs chain file) (bytes_eq (take 32 part) (next_chain chain (drop 32 part))) (Whole (drop 32 part) after) (Stops Damaged)
      (λ told. found room enough same ((bytes_eq-Decides (take 32 part) (next_chain chain (drop 32 part))).0 told))
      (λ other. tt)

  body-is : nat_lt size 32 ≡ false → nat_lt (length rest) size ≡ false → StepIs chain file (body_step chain count part after)
  body-is room enough =
      by-if (StepIs chain file) (nat_lt (zeros_in part) count) (Stops Damaged) (if nat_lt count (zeros_in part) then Stops Torn else digest_step chain part after) (λ less. tt)
      (λ least. by-if (StepIs chain file) (nat_lt count (zeros_in part)) (Stops Torn) (digest_step chain part after) (λ more. inr (holed room enough more))
      (λ most. digest-is (grind (arith, least, most, nat_tests)) room enough))

  part-is : nat_lt size 32 ≡ false → nat_lt (length rest) size ≡ true → EndingIs file (part_ending size count rest)
  part-is room short = by-if (EndingIs file) (nat_lt (zeros_in rest + (size - length rest)) count) Damaged Torn (λ less. tt) (λ enough. inr (cut room short enough))

  pub behind-is : StepIs chain file (sized_step chain size count rest)
  behind-is =
      by-if (StepIs chain file) (nat_lt size 32) (Stops Damaged) (if nat_lt (length rest) size then Stops (part_ending size count rest) else body_step chain count part after) (λ few. tt)
      (λ room. by-if (StepIs chain file) (nat_lt (length rest) size) (Stops (part_ending size count rest)) (body_step chain count part after)
      (λ short. part-is room short) (λ enough. body-is room enough))

-- what the first step says is so
pub step-is : (chain file : List ℕ) → AreBytes file → StepIs chain file (step chain file)
step-is chain file all =
    let inner = if is_doubled (take 16 file) then numbers_step chain (halved (take 16 file)) (drop 16 file) else Stops (header_ending (take 16 file)) in
    by-if (StepIs chain file) (nat_lt (length file) 16) (Stops (header_ending file)) inner
    (λ short. header-end file file (λ may. let less : length file < 16 = grind (arith, short, nat_tests) in
    lacks-header file all (ap may_be_doubled (take_all 16 file (omega (arith, less))) ∙ may) (inl short)))
    (λ long. by-if (StepIs chain file) (is_doubled (take 16 file)) (numbers_step chain (halved (take 16 file)) (drop 16 file)) (Stops (header_ending (take 16 file)))
    (λ is. behind-is chain file long is)
    (λ wrong. header-end file (take 16 file) (λ may. lacks-header file all may (inr wrong))))
