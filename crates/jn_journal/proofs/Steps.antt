-- The steps of the code, from what stands there.
use Rattle.std.proofs.Common.{◌≡◌, ◌⊎◌, inl, inr, ◌≤◌, ◌<◌, ◌+◌, ◌-◌, ◌^◌, ℕ, Bool, true, false, List, ◌++◌, length, take, drop, refl, sym, ◌∙◌, ap, ap₂, subst, arith, append_assoc, length-append, if◌then◌else◌}
use Rattle.std.specs.Prelude.{nat_lt, bytes_eq}
use Rattle.std.proofs.lemmas.Bool.Decides.{nat_tests}
use Rattle.std.proofs.lemmas.List.{take_at, drop_at, take_all, take-append-drop, length-take-le}
use Rattle.std.proofs.lemmas.Slice.Eq.{bytes_eq-Decides}
use Rattle.byteorder.specs.Endian.{big_bytes}
use Rattle.sha2.proofs.Facts256.{length-sha256}
use Rattle.jn_journal.specs.declared.reading.Ending.{Ending}
use Rattle.jn_journal.specs.declared.reading.Ending.TheVariants.{Torn, Damaged}
use Rattle.jn_journal.specs.Torn.{IsTorn}
use Rattle.jn_journal.specs.Format.{zeros_in, doubled, headed, next_chain, body_of, record_of, Fits}
unfoldable use Rattle.jn_journal.specs.Format.{header_of}
use Rattle.jn_journal.specs.Reading.{BeginsWith, LacksHeader, IsTornRecord}
use Rattle.jn_journal.specs.Steps.{Whole, Stops, step, numbers_step, sized_step, body_step, header_ending, is_doubled, may_be_doubled, halved}
use Rattle.jn_journal.proofs.Torn.{torn-front, torn-rest, zeros-append, zeros-rise, no-zero-more, length-doubled, whole-header, torn-header}
use Rattle.jn_journal.proofs.Headers.{length-header, header-is, header-whole, header-torn, size-back, zeros-back}

if-true : {A : Type 0} (b : Bool) (x y : A) → b ≡ true → (if b then x else y) ≡ x
if-true b x y e = ap (λ (c : Bool). if c then x else y) e

if-false : {A : Type 0} (b : Bool) (x y : A) → b ≡ false → (if b then x else y) ≡ y
if-false b x y e = ap (λ (c : Bool). if c then x else y) e

-- behind a whole header
step-behind : (chain body rest : List ℕ) → length body < 2 ^ 32 → step chain (header_of body ++ rest) ≡ sized_step chain (length body) (zeros_in body) rest
step-behind chain body rest small =
    let n = length-append (header_of body) rest in let sixteen = length-header body in
    let front = take_at (header_of body) rest 16 sixteen in
    if-false (nat_lt (length (header_of body ++ rest)) 16) _ _ (grind (arith, n, sixteen, nat_tests))
    ∙ if-true (is_doubled (take 16 (header_of body ++ rest))) _ _ (ap is_doubled front ∙ header-is body)
    ∙ ap₂ (λ (xs ys : List ℕ). numbers_step chain (halved xs) ys) front (drop_at (header_of body) rest 16 sixteen)
    ∙ ap₂ (λ (size zeros : ℕ). sized_step chain size zeros rest) (size-back body small) (zeros-back body small)

-- ---- a whole record

pub length-body : (chain x : List ℕ) → length (body_of chain x) ≡ 32 + length x
length-body chain x = length-append (next_chain chain x) x ∙ ap (λ (n : ℕ). n + length x) (length-sha256 (chain ++ x))

body-whole : (chain x rest : List ℕ) → body_step chain (zeros_in (body_of chain x)) (body_of chain x) rest ≡ Whole x rest
body-whole chain x rest =
    let zeros = zeros_in (body_of chain x) in
    let size = length-sha256 (chain ++ x) in
    let behind = drop_at (next_chain chain x) x 32 size in
    let digest : take 32 (body_of chain x) ≡ next_chain chain (drop 32 (body_of chain x)) = take_at (next_chain chain x) x 32 size ∙ ap (next_chain chain) (sym behind) in
    let same = bytes_eq-Decides (take 32 (body_of chain x)) (next_chain chain (drop 32 (body_of chain x))) in
    if-false (nat_lt zeros zeros) _ _ (grind (arith, nat_tests))
    ∙ if-false (nat_lt zeros zeros) _ _ (grind (arith, nat_tests))
    ∙ if-true (bytes_eq (take 32 (body_of chain x)) (next_chain chain (drop 32 (body_of chain x)))) _ _ (same.1 digest)
    ∙ ap (λ (y : List ℕ). Whole y rest) behind

pub step-whole : (chain x rest : List ℕ) → Fits x → step chain (record_of chain x ++ rest) ≡ Whole x rest
step-whole chain x rest fits =
    let body = body_of chain x in
    let size = length-body chain x in let n = length-append body rest in
    ap (step chain) (append_assoc (header_of body) body rest)
    ∙ step-behind chain body (body ++ rest) (omega (arith, size, fits))
    ∙ if-false (nat_lt (length body) 32) _ _ (grind (arith, size, nat_tests))
    ∙ if-false (nat_lt (length (body ++ rest)) (length body)) _ _ (grind (arith, n, nat_tests))
    ∙ ap₂ (body_step chain (zeros_in body)) (take_at body rest (length body) refl) (drop_at body rest (length body) refl)
    ∙ body-whole chain x rest

-- ---- a torn one

header-is-torn : (bytes : List ℕ) → may_be_doubled bytes ≡ true → header_ending bytes ≡ Torn
header-is-torn bytes may = if-true (may_be_doubled bytes) Torn Damaged may

module _ (chain body behind file : List ℕ) (room : 32 ≤ length body) (small : length body < 2 ^ 32) where
  abbrev Goal : Type 0
  Goal = (step chain file ≡ Stops Torn) ⊎ BeginsWith (headed body) file

  abbrev rest : List ℕ
  rest = drop 16 file

  abbrev part : List ℕ
  part = take (length body) rest

  -- as many bytes follow as the header says
  full : file ≡ header_of body ++ rest → IsTorn (body ++ behind) rest → nat_lt (length rest) (length body) ≡ false → (c : Bool) → nat_lt (zeros_in body) (zeros_in part) ≡ c → Goal
  full is t long true more =
      let n : length part ≡ length body = length-take-le (length body) rest (grind (arith, long, nat_tests)) in
      let rise = zeros-rise body part (omega (arith, n)) (torn-front body behind rest t) in
      inl (ap (step chain) is ∙ step-behind chain body rest small
      ∙ if-false (nat_lt (length body) 32) _ _ (grind (arith, room, nat_tests))
      ∙ if-false (nat_lt (length rest) (length body)) _ _ long
      ∙ if-false (nat_lt (zeros_in part) (zeros_in body)) _ _ (grind (arith, more, nat_tests))
      ∙ if-true (nat_lt (zeros_in body) (zeros_in part)) _ _ more)
  full is t long false few =
      let n : length part ≡ length body = length-take-le (length body) rest (grind (arith, long, nat_tests)) in
      let same : part ≡ body = no-zero-more body part n (torn-front body behind rest t) (grind (arith, few, nat_tests)) in
      inr (drop (length body) rest, is ∙ ap (λ (ys : List ℕ). header_of body ++ ys) (sym (take-append-drop (length body) rest) ∙ ap (λ (ys : List ℕ). ys ++ drop (length body) rest) same) ∙ sym (append_assoc (header_of body) body (drop (length body) rest)))

  -- the header is whole
  behind_header : file ≡ header_of body ++ rest → IsTorn (body ++ behind) rest → (c : Bool) → nat_lt (length rest) (length body) ≡ c → Goal
  behind_header is t true short =
      let less : length rest < length body = grind (arith, short, nat_tests) in
      let here : IsTorn body rest = subst (λ (ys : List ℕ). IsTorn body ys) (take_all (length body) rest (omega (arith, less))) (torn-front body behind rest t) in
      let rise = zeros-rise body rest (omega (arith, less)) here in
      inl (ap (step chain) is ∙ step-behind chain body rest small
      ∙ if-false (nat_lt (length body) 32) _ _ (grind (arith, room, nat_tests))
      ∙ if-true (nat_lt (length rest) (length body)) _ _ short
      ∙ ap (λ (e : Ending). Stops e) (if-false (nat_lt (zeros_in rest + (length body - length rest)) (zeros_in body)) Damaged Torn (grind (arith, rise, nat_tests))))
  behind_header is t false long = full is t long (nat_lt (zeros_in body) (zeros_in part)) refl

  -- at least as many bytes are there as a header has
  long_enough : nat_lt (length file) 16 ≡ false → IsTorn (header_of body ++ (body ++ behind)) file → (c : Bool) → is_doubled (take 16 file) ≡ c → Goal
  long_enough e t true is =
      let n : length (take 16 file) ≡ 16 = length-take-le 16 file (grind (arith, e, nat_tests)) in
      let front = subst (λ (k : ℕ). IsTorn (header_of body) (take k file)) (length-header body) (torn-front (header_of body) (body ++ behind) file t) in
      let after = subst (λ (k : ℕ). IsTorn (body ++ behind) (drop k file)) (length-header body) (torn-rest (header_of body) (body ++ behind) file t) in
      behind_header (sym (take-append-drop 16 file) ∙ ap (λ (ys : List ℕ). ys ++ rest) (header-whole body (take 16 file) n front is)) after (nat_lt (length rest) (length body)) refl
  long_enough e t false is =
      let front = subst (λ (k : ℕ). IsTorn (header_of body) (take k file)) (length-header body) (torn-front (header_of body) (body ++ behind) file t) in
      inl (if-false (nat_lt (length file) 16) _ _ e ∙ if-false (is_doubled (take 16 file)) _ _ is ∙ ap (λ (s : Ending). Stops s) (header-is-torn (take 16 file) (header-torn body (take 16 file) front)))

  any : IsTorn (header_of body ++ (body ++ behind)) file → (c : Bool) → nat_lt (length file) 16 ≡ c → Goal
  any t true e =
      let less : length file < 16 = grind (arith, e, nat_tests) in
      let front = subst (λ (k : ℕ). IsTorn (header_of body) (take k file)) (length-header body) (torn-front (header_of body) (body ++ behind) file t) in
      let here : IsTorn (header_of body) file = subst (λ (ys : List ℕ). IsTorn (header_of body) ys) (take_all 16 file (omega (arith, less))) front in
      inl (if-true (nat_lt (length file) 16) _ _ e ∙ ap (λ (s : Ending). Stops s) (header-is-torn file (header-torn body file here)))
  any t false e = long_enough e t (is_doubled (take 16 file)) refl

  -- a torn body ends the reading, or it is whole
  pub step-torn : IsTorn (headed body ++ behind) file → Goal
  step-torn t = any (subst (λ (ys : List ℕ). IsTorn ys file) (append_assoc (header_of body) body behind) t) (nat_lt (length file) 16) refl

module _ (chain file : List ℕ) (lack : LacksHeader file) where
  abbrev HeaderGoal : Type 0
  HeaderGoal = step chain file ≡ Stops Torn

  sixteen : length (doubled lack.numbers) ≡ 16
  sixteen = let n = length-doubled lack.numbers in let e = lack.eight in omega (arith, n, e)

  front : IsTorn (doubled lack.numbers) (take 16 file)
  front = subst (λ (k : ℕ). IsTorn (doubled lack.numbers) (take k file)) sixteen (torn-front (doubled lack.numbers) lack.behind file lack.torn)

  whole : nat_lt (length file) 16 ≡ false → (c : Bool) → is_doubled (take 16 file) ≡ c → HeaderGoal
  whole e true is =
      let n : length (take 16 file) ≡ 16 = length-take-le 16 file (grind (arith, e, nat_tests)) in
      let same = whole-header lack.numbers (take 16 file) (n ∙ sym sixteen) front is in
      absurd (lack.lacks (drop 16 file, sym (take-append-drop 16 file) ∙ ap (λ (ys : List ℕ). ys ++ drop 16 file) same))
  whole e false is = if-false (nat_lt (length file) 16) _ _ e ∙ if-false (is_doubled (take 16 file)) _ _ is
      ∙ ap (λ (s : Ending). Stops s) (header-is-torn (take 16 file) (torn-header lack.numbers (take 16 file) front))

  cut : (c : Bool) → nat_lt (length file) 16 ≡ c → HeaderGoal
  cut true e =
      let less : length file < 16 = grind (arith, e, nat_tests) in
      let here : IsTorn (doubled lack.numbers) file = subst (λ (ys : List ℕ). IsTorn (doubled lack.numbers) ys) (take_all 16 file (omega (arith, less))) front in
      if-true (nat_lt (length file) 16) _ _ e ∙ ap (λ (s : Ending). Stops s) (header-is-torn file (torn-header lack.numbers file here))
  cut false e = whole e (is_doubled (take 16 file)) refl

  pub step-lacks-header : HeaderGoal
  step-lacks-header = cut (nat_lt (length file) 16) refl

-- a torn record ends the reading
pub torn-step : (chain file : List ℕ) → IsTornRecord file → step chain file ≡ Stops Torn
torn-step chain file (inl lack) = step-lacks-header chain file lack
torn-step chain file (inr lack) = elim (step-torn chain lack.body lack.behind file lack.room lack.fits lack.torn) [
  | inl stops ↦ stops
  | inr whole ↦ absurd (lack.lacks whole)
]

-- ---- a record of its parts

pub record-parts : (chain x out : List ℕ) (size zeros : ℕ) → size ≡ 32 + length x → zeros ≡ zeros_in (next_chain chain x) + zeros_in x
    → ((out ++ doubled (big_bytes 4 size ++ big_bytes 4 zeros)) ++ next_chain chain x) ++ x ≡ out ++ record_of chain x
unfolding header_of
record-parts chain x out size zeros e f =
    let header = doubled (big_bytes 4 size ++ big_bytes 4 zeros) in let digest = next_chain chain x in
    append_assoc (out ++ header) digest x ∙ append_assoc out header (digest ++ x)
    ∙ ap₂ (λ (n m : ℕ). out ++ (doubled (big_bytes 4 n ++ big_bytes 4 m) ++ (digest ++ x))) (e ∙ sym (length-body chain x)) (f ∙ sym (zeros-append digest x))
