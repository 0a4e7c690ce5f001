use Rattle.std.proofs.Common.{◌≡◌, true, false, refl, arith}
use Rattle.jn_system_reports.proofs.causes.a_lost_transaction_is_reported.Goals as goal

pub returns-clause-reported : goal.returns-clause-reported
returns-clause-reported c = record {
  under = (refl, (refl, (refl, (refl, (refl, (refl, (refl, tt)))))));
  steps = (tt, (tt, (tt, (tt, (tt, (tt, (tt, (tt, ((record { each = λ a. refl; rising = refl }, record { each = λ a. refl; rising = refl }), (tt, (tt, (tt, (tt, (tt, (tt, tt)))))))))))))));
  shows = (tt, (tt, (tt, (tt, (tt, (tt, (tt, tt)))))));
  faults = (tt, ((tt, tt), ((tt, tt), ((tt, tt), (tt, (tt, ((tt, tt), tt)))))));
}

pub returns-clause-needs : goal.returns-clause-needs
returns-clause-needs c = λ h. no h.1.1.0
  where
    no : false ≡ true → ⊥
    no e = grind arith
