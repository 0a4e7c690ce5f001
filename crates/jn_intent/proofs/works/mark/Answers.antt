use Rattle.jn_intent.proofs.Common.{◌≡◌, ◌<◌, length, map, true, false, subst, slice_index_or, work_eq, WorkState, is_in, name_of}
use Rattle.jn_intent.proofs.Marking.{marks_at, marks_none}
use Rattle.jn_intent.proofs.works.mark.Goals as goal

pub returns-in_default : goal.returns-in_default
returns-in_default c = marks_none _ _ (subst (λ l. is_in work_eq c.args.work (map name_of l) ≡ false) c.deref.ensures.value c.in_default.ensures.none)

pub returns : goal.returns
returns c =
    let found = subst (λ l. (c.in-Some.i < length l) × ((d : WorkState) → work_eq (slice_index_or l c.in-Some.i d).head.work c.args.work ≡ true)) c.deref.ensures.value c.in-Some.ensures.found in
    marks_at _ _ _ c.in-Some.i found.0 found.1 c.set_going.ensures
