use Rattle.std.proofs.Common.{◌≡◌, true, false, refl, arith}
use Rattle.jn_system_reports.proofs.facts.a_transaction_may_be_in_doubt.Goals as goal

no : false ≡ true → ⊥
no e = grind arith

pub returns-clause-run : goal.returns-clause-run
returns-clause-run c = (tt, (tt, (tt, (tt, (tt, (tt, (tt, (tt, (tt, (tt, (tt, (tt, (tt, (tt, (tt, (tt, (tt, tt)))))))))))))))))

pub returns-clause-doubt : goal.returns-clause-doubt
returns-clause-doubt c = record { flag = record { pick = λ n. true; is = refl }; unnamed = no }

pub returns-clause-work : goal.returns-clause-work
returns-clause-work c = record { pick = λ n. true; flag = _; is = refl; work = refl }
