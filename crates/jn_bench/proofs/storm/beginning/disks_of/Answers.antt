use Rattle.jn_image_files.specs.Opened.{found_at}
use Rattle.jn_run.proofs.Stores.{look, device, stores-of-images}
use Rattle.jn_bench.proofs.storm.beginning.disks_of.Goals as goal

pub returns-in-Ok-clause-stores : goal.returns-in-Ok-clause-stores
returns-in-Ok-clause-stores c = stores-of-images look device (found_at c.deref.result.now) c.in-Ok.disks.items c.in-Ok.ensures.stores
