-- What an operation does to the files of all servers, and that it does the same to the same files.
use Rattle.std.proofs.Common.{◌≡◌, true, false, ℕ, ap, refl, eqb-true, eq-eqb}
use Rattle.std.proofs.Math.Path.{fun_ext}
use Rattle.std.proofs.lemmas.Bool.{cond-true, cond-false}
use Rattle.jn_base.specs.declared.names.ServerNo.{ServerNo}
use Rattle.jn_base.specs.declared.names.LockUnit.{LockUnit}
use Rattle.jn_base.specs.declared.op.Op.{Op}
use Rattle.jn_base.specs.Names.{server_eq}
use Rattle.jn_order.specs.Files.{Files, AllFiles, change, effect, answer_to, is_did, files_after, all_files_after}

pub same_files : (a b : AllFiles) → ((s : ServerNo) (u : LockUnit) → a s u ≡ b s u) → a ≡ b
same_files a b same = fun_ext (λ s. fun_ext (λ u. same s u))

pub server_eq-true : (a b : ServerNo) → server_eq a b ≡ true → a ≡ b
server_eq-true a b h = let P : ℕ → ServerNo = λ n. record { 0 = n } in ap P (eqb-true a.0 b.0 h)

pub server_eq-refl : (a : ServerNo) → server_eq a a ≡ true
server_eq-refl a = eq-eqb a.0 a.0 refl

-- at the server of the operation
pub all_files_after-here : (s : ServerNo) (op : Op) (files : AllFiles) → all_files_after s op files s ≡ files_after op (files s)
all_files_after-here s op files = cond-true (server_eq s s) (files_after op (files s)) (files s) (server_eq-refl s)

-- at another server
pub all_files_after-elsewhere : (s : ServerNo) (op : Op) (files : AllFiles) (q : ServerNo) → server_eq s q ≡ false → all_files_after s op files q ≡ files q
all_files_after-elsewhere s op files q h = cond-false (server_eq s q) (files_after op (files q)) (files q) h

-- an operation that is answered otherwise than `Did` changes nothing
pub files_after-not_did : (op : Op) (files : Files) → is_did (answer_to op files) ≡ false → files_after op files ≡ files
files_after-not_did op files h = cond-false (is_did (answer_to op files)) (change (effect op) files) files h

pub files_after-did : (op : Op) (files : Files) → is_did (answer_to op files) ≡ true → files_after op files ≡ change (effect op) files
files_after-did op files h = cond-true (is_did (answer_to op files)) (change (effect op) files) files h
