use Rattle.jn_files.proofs.Common.{◌≡◌, inl, inr, length, None, sym, ap, subst, ◌∙◌, arith, cases_lt, get_or_past, Free, AreIndexed, head_number}
use Rattle.jn_files.proofs.heads.index_of.Goals as goal

pub returns : goal.returns
returns c =
    let slots = c.args.slots.now in
    let is = c.in_ok-by_file.ensures ∙ c.deref.ensures.value in
    let past = c.loop-head-test.false in
    let within = c.loop-head.auto.head-index-end in
    let few = c.requires in
    let so_many : c.loop-head.head-index ≡ length slots = omega (arith, past, within) in
    let long = c.loop-head.invariant.slots in
    subst (λ l. AreIndexed l slots) (sym is) (record {
      few = omega (arith, few);
      slots = long ∙ so_many;
      each = λ k. elim (cases_lt k (length slots)) [
        | inl lt ↦ c.loop-head.invariant.seen k (omega (arith, lt, so_many))
        | inr le ↦ get_or_past c.loop-head.files.items k None (omega (arith, le, so_many, long)) ∙ sym (ap head_number (get_or_past slots k Free le))
      ];
    })
