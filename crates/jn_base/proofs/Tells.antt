-- What a test of two names tells.
use Rattle.std.proofs.Common.{◌≡◌, ◌≢◌, ◌⊎◌, true, false, arith}
use Rattle.std.proofs.lemmas.Bool.Decides.{nat_tests}
use Rattle.jn_base.specs.declared.names.ServerNo.{ServerNo}
use Rattle.jn_base.specs.declared.names.ClientNo.{ClientNo}
use Rattle.jn_base.specs.declared.names.FileNo.{FileNo}
use Rattle.jn_base.specs.declared.names.BlockNo.{BlockNo}
use Rattle.jn_base.specs.declared.names.Tid.{Tid}
use Rattle.jn_base.specs.declared.names.WorkId.{WorkId}
use Rattle.jn_base.specs.Names.{server_eq, client_eq, file_eq, block_eq, tid_eq, work_eq}

pub server_tells : (a b : ServerNo) → ((server_eq a b ≡ true) × (a ≡ b)) ⊎ ((server_eq a b ≡ false) × (a ≢ b))
server_tells a b = grind (arith, nat_tests)

pub client_tells : (a b : ClientNo) → ((client_eq a b ≡ true) × (a ≡ b)) ⊎ ((client_eq a b ≡ false) × (a ≢ b))
client_tells a b = grind (arith, nat_tests)

pub file_tells : (a b : FileNo) → ((file_eq a b ≡ true) × (a ≡ b)) ⊎ ((file_eq a b ≡ false) × (a ≢ b))
file_tells a b = grind (arith, nat_tests)

pub block_tells : (a b : BlockNo) → ((block_eq a b ≡ true) × (a ≡ b)) ⊎ ((block_eq a b ≡ false) × (a ≢ b))
block_tells a b = grind (arith, nat_tests)

pub tid_tells : (a b : Tid) → ((tid_eq a b ≡ true) × (a ≡ b)) ⊎ ((tid_eq a b ≡ false) × (a ≢ b))
tid_tells a b = grind (arith, nat_tests)

pub work_tells : (a b : WorkId) → ((work_eq a b ≡ true) × (a ≡ b)) ⊎ ((work_eq a b ≡ false) × (a ≢ b))
work_tells a b = grind (arith, nat_tests)
