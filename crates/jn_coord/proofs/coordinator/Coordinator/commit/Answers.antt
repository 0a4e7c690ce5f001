use Rattle.jn_coord.proofs.Common.{rules, sym, ◌∙◌, ap, is_ok, option_copied}
use Rattle.jn_coord.proofs.Room.{may-put}
use Rattle.jn_coord.proofs.Rows.{committed, not-committed}
use Rattle.jn_coord.proofs.coordinator.Coordinator.commit.Goals as goal

pub put_flag-requires-clause-may : goal.put_flag-requires-clause-may
put_flag-requires-clause-may g c = may-put _ _ c.args.tid c.in-Some.x.now _ _ _ c.requires.fits (sym c.find.ensures ∙ ap option_copied c.in-Some.is) c.requires.undecided (search rules)

pub returns-then-is_err : goal.returns-then-is_err
returns-then-is_err g c = λ k x at. rw (sym (c.from_vec.ensures ∙ c.into_vec.ensures))
    (not-committed _ _ _ c.args.tid k c.in-Some.x.now x c.args.request c.from_vec.result c.args.out.now _ (is_ok c.put_flag.result) (sym c.find.ensures ∙ ap option_copied c.in-Some.is) at c.put_flag.ensures.put (search rules) (rw (sym c.as_slice.ensures) (search rules)))

pub returns : goal.returns
returns g c = λ k x at. rw (sym (c.from_vec.ensures ∙ c.into_vec.ensures))
    (committed _ _ _ _ c.args.tid k c.in-Some.x.now x c.args.request c.from_vec.result c.args.out.now _ (is_ok c.put_flag.result) c.requires.fits (sym c.find.ensures ∙ ap option_copied c.in-Some.is) at c.put_flag.ensures.put (search rules) (rw (sym c.as_slice.ensures) (search rules)) (c.set_stage-2.ensures ∙ search rules))
