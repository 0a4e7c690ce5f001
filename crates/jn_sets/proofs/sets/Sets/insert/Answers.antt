use Rattle.jn_sets.proofs.Common.{sym, refl, arith, is_free}
use Rattle.std.proofs.lemmas.Result.{err_from_is_err_and}
use Rattle.jn_sets.proofs.Slots.{none_counted, some_counted}
use Rattle.jn_sets.proofs.sets.Sets.insert.Goals as goal

pub returns-in_default-clause-full : goal.returns-in_default-clause-full
returns-in_default-clause-full g c = (λ _. none_counted is_free c.args.self.now (sym c.in_default.ensures.found), λ _. refl)

pub returns-in_err-put-clause-full : goal.returns-in_err-put-clause-full
returns-in_err-put-clause-full g c =
    let some = some_counted is_free c.args.self.now c.in-Some.free (sym c.in-Some.ensures.found) in
    let h = err_from_is_err_and c.from_residual.result c.from_residual.ensures.1 in
    (λ full. absurd (cc (full, h.1, h.2)), λ zero. absurd (omega (arith, some, zero)))

pub returns-clause-full : goal.returns-clause-full
returns-clause-full g c =
    let some = some_counted is_free c.args.self.now c.in-Some.free (sym c.in-Some.ensures.found) in
    (λ full. absurd (cc full), λ zero. absurd (omega (arith, some, zero)))
