-- Reports that no run gives.
use Rattle.jn_machine.proofs.Common.{◌≡◌, Bool, true, false, List, [], refl, sym, ◌∙◌, ap, Line, are_in_order, are_quiet, count_right, before, IsNoReport, IsNoPlainReport}
use Rattle.jn_machine.proofs.Ordered.{in-order}
use Rattle.jn_machine.proofs.Quiet.{quiet-run, count-run}

clash : true ≡ false → ⊥
clash e = cc

-- one that fails a test which every run passes
fails : (test : List Line → Bool) (lines told : List Line) → test lines ≡ false → test told ≡ true → told ≡ lines → ⊥
fails test lines told no' so e = clash (sym so ∙ ap test e ∙ no')

pub disordered : (lines : List Line) → are_in_order lines ≡ false → IsNoReport lines
disordered lines h x schedule files epochs t m e = fails are_in_order lines t.lines h (in-order x schedule files epochs t m) e

pub miscounted : (lines : List Line) → count_right [] lines ≡ false → IsNoReport lines
miscounted lines h x schedule files epochs t m e = fails (count_right []) lines t.lines h (count-run x (before x schedule files epochs) t m refl) e

pub unasked : (lines : List Line) → are_quiet lines ≡ false → IsNoPlainReport lines
unasked lines h x schedule files epochs t m quiet e = fails are_quiet lines t.lines h (quiet-run x quiet (before x schedule files epochs) t m refl) e
