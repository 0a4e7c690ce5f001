-- What holds of each text that a show may print.
use Rattle.jn_system_reports.proofs.Common.{List, [], ◌∷◌, map, ServerNo, Text, Printed, text_printed}
use Rattle.jn_system_reports.proofs.Reporting.Lists.{Each}

pub each-print : (P : Text → Type 0) (s : ServerNo) → ((x : Printed) → P (text_printed s x)) → (prints : List Printed) → Each P (map (text_printed s) prints)
each-print P s h [] = tt
each-print P s h (x ∷ prints) = (h x, each-print P s h prints)
