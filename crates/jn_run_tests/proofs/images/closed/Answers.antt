use Rattle.std.proofs.Common.{◌∙◌, sym}
use Rattle.std.proofs.lemmas.Option.{IfSome_then}
use Rattle.jn_recovery.specs.Counts.{counts_by}
use Rattle.jn_run_tests.proofs.Examined.{idle, image-so, count-is}
use Rattle.jn_run_tests.proofs.images.closed.Goals as goal

pub load-requires : goal.load-requires
load-requires g c = let (server, epoch, files, fresh) = c.requires.fresh in record { recoverable = (server, fresh.recoverable) }

pub scrubbed-requires : goal.scrubbed-requires
scrubbed-requires g c =
    let (server, epoch, files, fresh) = c.requires.fresh in
    let l = c.in-Ok.ensures.loaded server fresh.recoverable in
    record {
      serving = l.recovered.serving;
      calm = l.recovering.later.calm c.requires.calm;
      idle = idle server (counts_by c.args.counts) epoch files _ fresh _ _ l;
    }

pub returns-in-Ok-clause-image : goal.returns-in-Ok-clause-image
returns-in-Ok-clause-image g c = λ server epoch files fresh.
    let l = c.in-Ok.ensures.loaded server fresh.recoverable in
    IfSome_then c.scrubbed.result c.scrubbed.ensures.image (λ s image. image-so server (counts_by c.args.counts) epoch files _ fresh _ _ l (g.S.StableStore.view s) image)

pub returns-in-Ok-clause-count : goal.returns-in-Ok-clause-count
returns-in-Ok-clause-count g c =
    let (server, epoch, files, fresh) = c.requires.fresh in
    let l = c.in-Ok.ensures.loaded server fresh.recoverable in
    IfSome_then c.scrubbed.result c.scrubbed.ensures.count (λ s same. count-is server (counts_by c.args.counts) epoch files _ fresh _ _ l ∙ sym same)
