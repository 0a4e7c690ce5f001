use Rattle.std.proofs.Common.{List, [], ℕ, map, subst, append-nil}
use Rattle.jn_journal.proofs.Journals.{InSteps, code-reads}
use Rattle.jn_journal.proofs.reading.read.Goals as goal

pub returns-in-Stops : goal.returns-in-Stops
returns-in-Stops c =
    let contents = map (λ v. v.items) c.loop-content.contents.items in
    let steps = subst (λ (xs : List (List ℕ)). InSteps c.args.chain c.args.bytes.now xs c.in-Stops.ending) (append-nil contents)
    (c.loop-content.invariant [] c.in-Stops.ending c.in-Stops.ensures.first) in
    code-reads c.args.chain c.args.bytes.now contents c.in-Stops.ending (λ k. (c.type_inv.bytes k).fits) steps
