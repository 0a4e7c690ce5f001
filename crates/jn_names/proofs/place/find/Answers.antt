use Rattle.std.proofs.Common.{arith, ◌≡◌, ◌+◌, ◌-◌, sym, ◌∙◌, ap, Some, length-drop}
use Rattle.jn_names.proofs.Places.{find-found, find-passed}
use Rattle.jn_names.proofs.place.find.Goals as goal

pub returns-then-eq : goal.returns-then-eq
returns-then-eq c =
    let e = find-found (c.args.places - c.loop.counter) c.loop.rest.now c.args.name.now (omega arith) (omega arith) (cc) in
    ap (λ x. Some x) c.file_at.ensures ∙ sym e ∙ c.loop.invariant.same

pub loop-preserved : goal.loop-preserved
loop-preserved c =
    let e = find-passed (c.args.places - c.loop.counter) c.loop.rest.now c.args.name.now (omega arith) cc in
    let l = length-drop 69 c.loop.rest.now in
    let n : c.args.places - c.loop.counter - 1 ≡ c.args.places - (c.loop.counter + 1) = omega arith in
    record {
      same = rw (c.behind-rest.ensures, ← n) (sym e ∙ c.loop.invariant.same);
      long = rw c.behind-rest.ensures (omega (arith, l));
      some = c.loop.invariant.some;
    }
