use Rattle.jn_run.proofs.Common.{ap, is_ok, words_not_written, words_refused}
use Rattle.jn_run.proofs.refuse_words.Goals as goal

pub returns-in-Ok : goal.returns-in-Ok
returns-in-Ok g c =
    let wrote = c.write_all.ensures.wrote in
    let ok = ap is_ok c.in-Ok.is in
    record { refused = words_refused (record { took = wrote.whole ok; faults = wrote.no_fault ok }) }

pub returns-in-Err : goal.returns-in-Err
returns-in-Err g c =
    let wrote = c.write_all.ensures.wrote in
    let failed = ap is_ok c.in-Err.is in
    record { refused = words_not_written (record { took = wrote.front failed; rose = wrote.rose failed }) }
