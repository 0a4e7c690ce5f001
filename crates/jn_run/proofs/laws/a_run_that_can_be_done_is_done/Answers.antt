use Rattle.jn_run.proofs.Complete.{run-completes}
use Rattle.jn_run.proofs.laws.a_run_that_can_be_done_is_done.Goals as goal

pub returns : goal.returns
returns c = λ options events before after status can well o.
    run-completes c.a_text_with_a_fault_is_no_schedule.ensures c.a_schedule_has_one_list_of_events.ensures c.an_accepted_image_is_not_refused.ensures options events before after can well status o
