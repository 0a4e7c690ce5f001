use Rattle.jn_run.proofs.Common.{◌∙◌, ℕ, List, Err, ap, refl, sym, subst, Reads, source_state, not_read, too_many_bytes, no_memory}
use Rattle.jn_run.proofs.run_source.Goals as goal

pub returns : goal.returns
returns g c =
    let source = source_state g.S.Source.left g.S.Source.faults c.args.source.now in
    let source' = source_state g.S.Source.left g.S.Source.faults c.read_all.new.source in
    let reads : Reads c.deref.result.now source source' =
    subst (λ (bytes : List ℕ). Reads bytes source source') (sym c.deref.ensures.value) (c.read_all.ensures.read.whole c.in-Ok.text c.in-Ok.is) in
    record { outcome = c.run_text.ensures.ran source source' reads }

pub returns-in-Err-Failed : goal.returns-in-Err-Failed
returns-in-Err-Failed g c = record { outcome = not_read (c.read_all.ensures.read.failed (c.in-Err-Failed.is ∙ ap (λ e. Err e) c.in-Err-Failed.field-0-is)) refl refl }

pub returns-in-Err-TooLong : goal.returns-in-Err-TooLong
returns-in-Err-TooLong g c = record { outcome = too_many_bytes (c.read_all.ensures.read.too_long (c.in-Err-TooLong.is ∙ ap (λ e. Err e) c.in-Err-TooLong.field-0-is)) refl refl }

pub returns-in-Err-Memory : goal.returns-in-Err-Memory
returns-in-Err-Memory g c = record { outcome = no_memory (c.read_all.ensures.read.memory (c.in-Err-Memory.is ∙ ap (λ e. Err e) c.in-Err-Memory.field-0-is)) refl refl }
