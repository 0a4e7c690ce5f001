use Rattle.jn_host.specs.Outside.{found_bytes}
use Rattle.jn_run_tests.proofs.Examined.{calm-so, closed-so, fresh-so}
use Rattle.jn_run_tests.proofs.images.saved_again.Goals as goal

pub closed-requires : goal.closed-requires
closed-requires g c =
    let s = c.in-Ok.ensures.store in
    record {
      fresh = fresh-so c.args.server (found_bytes c.args.content.now) (c.in-Ok.store, c.in-Ok.counts) s;
      calm = calm-so c.args.server (found_bytes c.args.content.now) (c.in-Ok.store, c.in-Ok.counts) s;
    }

pub save_image-requires-clause-closed : goal.save_image-requires-clause-closed
save_image-requires-clause-closed g c =
    let s = c.in-Ok.ensures.store in
    closed-so c.args.server (found_bytes c.args.content.now) (c.in-Ok.store, c.in-Ok.counts) s c.in_ok-left.left
    (λ server epoch files fresh. c.in_ok-left.ensures.image server epoch files fresh) c.in_ok-left.ensures.count
