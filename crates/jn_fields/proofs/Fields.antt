-- Numbers and bytes are read again, whatever follows them.
use Rattle.std.proofs.Common.{◌≡◌, ℕ, ◌^◌, ◌<◌, false, ltb, List, ◌++◌, length, Some, refl, arith, length-append}
use Rattle.std.proofs.lemmas.Bool.{le-ltb}
use Rattle.std.proofs.lemmas.List.{take_at, drop_at}
use Rattle.byteorder.specs.Endian.{big_bytes}
use Rattle.byteorder.specs.Numbers.{big_number-reads_back, length-bytes_high_first}
use Rattle.jn_fields.specs.Reading.{number_at, bytes_at}

pub number_again : (n x : ℕ) (rest : List ℕ) → x < 256 ^ n → number_at n (big_bytes n x ++ rest) ≡ Some (x, rest)
unfolding number_at
number_again n x rest small =
    let len = length-bytes_high_first n x in
    let enough : ltb (length (big_bytes n x ++ rest)) n ≡ false = le-ltb _ _ (omega (arith, len, length-append (big_bytes n x) rest)) in
    rw (enough, big_number-reads_back n x rest small, drop_at (big_bytes n x) rest n len) refl

pub bytes_again : (n : ℕ) (front rest : List ℕ) → length front ≡ n → bytes_at n (front ++ rest) ≡ Some (front, rest)
unfolding bytes_at
bytes_again n front rest len =
    let enough : ltb (length (front ++ rest)) n ≡ false = le-ltb _ _ (omega (arith, len, length-append front rest)) in
    rw (enough, take_at front rest n len, drop_at front rest n len) refl
