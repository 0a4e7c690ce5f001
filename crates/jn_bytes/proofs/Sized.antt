-- Blocks have their size.
use Rattle.std.proofs.Common.{◌≡◌, ℕ, List, ◌++◌, length, refl, ◌∙◌, arith, length-append}
use Rattle.std.specs.Prelude.{replicate}
use Rattle.std.proofs.lemmas.List.{length-replicate, length-take-le, take-append-le, take_all}
unfoldable use Rattle.jn_order.specs.Files.{zeros}
unfoldable use Rattle.jn_bytes.specs.ByteFiles.{sized}

pub length-sized : (bytes : List ℕ) → length (sized bytes) ≡ 448
unfolding sized zeros
length-sized bytes = length-take-le 448 (bytes ++ replicate 448 0) (let l = length-append bytes (replicate 448 0) in let z = length-replicate {A = ℕ} 448 0 in omega (arith, l, z))

pub sized_same : (block : List ℕ) → length block ≡ 448 → sized block ≡ block
unfolding sized
sized_same block l = take-append-le 448 block zeros (omega (arith, l)) ∙ take_all 448 block (omega (arith, l))

pub sized_zeros : sized zeros ≡ replicate 448 0
unfolding sized zeros
sized_zeros = refl
