-- A number's digits, two at a time.
use Rattle.std.proofs.Common.{◌≡◌, ℕ, ◌+◌, ◌/◌, ◌%◌, ◌^◌, ◌<◌, ◌≤◌, [], ◌∷◌, ◌++◌, decimal, arith, append_assoc}
use Rattle.std.proofs.lemmas.Fmt.{decimal_digit, decimal_step}
use Rattle.jn_report.specs.Append.{two_digits}

pub one : (n : ℕ) → n < 10 → decimal n ≡ (48 + n) ∷ []
one n small = decimal_digit n small

pub two : (n : ℕ) → 10 ≤ n → n < 100 → decimal n ≡ two_digits n
two n some small =
    let front : n / 10 % 10 ≡ n / 10 = omega arith in
    rw (decimal_step n some (omega arith), decimal_digit (n / 10) (omega arith), front)

pub two_more : (n : ℕ) → 100 ≤ n → n < 2 ^ 32 → decimal n ≡ decimal (n / 100) ++ two_digits n
two_more n some small =
    let front : n / 10 / 10 ≡ n / 100 = omega arith in
    rw (decimal_step n (omega arith) (omega arith), decimal_step (n / 10) (omega arith) (omega arith), append_assoc, front)

pub four_more : (n : ℕ) → 10000 ≤ n → n < 2 ^ 32 → decimal n ≡ decimal (n / 10000) ++ (two_digits (n / 100) ++ two_digits n)
four_more n some small =
    let front : n / 100 / 100 ≡ n / 10000 = omega arith in
    rw (two_more n (omega arith) small, two_more (n / 100) (omega arith) (omega arith), append_assoc, front)

pub eight_more : (n : ℕ) → 100000000 ≤ n → n < 2 ^ 32 → decimal n ≡ decimal (n / 100000000) ++ ((two_digits (n / 10000 / 100) ++ two_digits (n / 10000)) ++ (two_digits (n / 100) ++ two_digits n))
eight_more n some small =
    let front : n / 10000 / 10000 ≡ n / 100000000 = omega arith in
    rw (four_more n (omega arith) small, four_more (n / 10000) (omega arith) (omega arith), append_assoc, front)
