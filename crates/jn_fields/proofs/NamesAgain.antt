-- Names and units are read again from their bytes.
use Rattle.std.proofs.Common.{◌≡◌, ℕ, true, false, List, ◌++◌, length, Some, refl, ap, ◌∙◌, arith}
use Rattle.std.specs.Prelude.{nat_eq}
use Rattle.std.proofs.lemmas.Bool.Decides.{nat_tests}
use Rattle.byteorder.specs.Endian.{big_bytes}
use Rattle.jn_base.specs.declared.names.LockUnit.{LockUnit}
use Rattle.jn_base.specs.declared.names.LockUnit.TheVariants.{File, Block}
use Rattle.jn_base.specs.declared.names.Tid.{Tid}
use Rattle.jn_base.specs.declared.names.WorkId.{WorkId}
use Rattle.jn_fields.specs.Names.{tid_bytes, work_bytes, unit_bytes, TidFits, WorkFits, UnitFits, unit_has_page, tid_at, work_at, unit_at}
use Rattle.jn_fields.proofs.Fields.{number_again}

pub length-unit : (u : LockUnit) → length (unit_bytes u) ≡ 6
length-unit (File f) = refl
length-unit (Block f p) = refl

pub tid_again : (t : Tid) (rest : List ℕ) → TidFits t → tid_at (tid_bytes t ++ rest) ≡ Some (t, rest)
unfolding tid_at
tid_again t rest fits =
    let after_epoch = big_bytes 4 t.ticket ++ rest in
    let after_server = big_bytes 4 t.epoch ++ after_epoch in
    let regrouped : tid_bytes t ++ rest ≡ big_bytes 1 t.server.0 ++ after_server = refl in
    ap tid_at regrouped ∙ rw (number_again 1 t.server.0 after_server fits.server, number_again 4 t.epoch after_epoch fits.epoch, number_again 4 t.ticket rest fits.ticket) refl

pub work_again : (w : WorkId) (rest : List ℕ) → WorkFits w → work_at (work_bytes w ++ rest) ≡ Some (w, rest)
unfolding work_at
work_again w rest fits =
    let after_epoch = big_bytes 4 w.ticket ++ rest in
    let after_server = big_bytes 4 w.epoch ++ after_epoch in
    let regrouped : work_bytes w ++ rest ≡ big_bytes 1 w.server.0 ++ after_server = refl in
    ap work_at regrouped ∙ rw (number_again 1 w.server.0 after_server fits.server, number_again 4 w.epoch after_epoch fits.epoch, number_again 4 w.ticket rest fits.ticket) refl

-- what a unit on a page is
abbrev pub UnitIsRead : LockUnit → Type 0
UnitIsRead u = UnitFits u × (unit_has_page u ≡ true)

pub unit_again : (u : LockUnit) (rest : List ℕ) → UnitIsRead u → unit_at (unit_bytes u ++ rest) ≡ Some (u, rest)
unfolding unit_at
unit_again (File f) rest is =
    let behind = big_bytes 2 65535 ++ rest in
    let regrouped : unit_bytes (File f) ++ rest ≡ big_bytes 4 f.0 ++ behind = refl in
    ap unit_at regrouped ∙ rw (number_again 4 f.0 behind is.0, number_again 2 65535 rest (omega arith)) refl
unit_again (Block f p) rest is =
    let behind = big_bytes 2 p.0 ++ rest in
    let regrouped : unit_bytes (Block f p) ++ rest ≡ big_bytes 4 f.0 ++ behind = refl in
    let other : nat_eq p.0 65535 ≡ false = grind (arith, nat_tests, is.1) in
    ap unit_at regrouped ∙ rw (number_again 4 f.0 behind is.0.0, number_again 2 p.0 rest is.0.1, other) refl
