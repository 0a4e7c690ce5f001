use Rattle.jn_disks.proofs.NewStores.{is_new_disk, is_image}
use Rattle.jn_disks.proofs.a_new_store_is_a_new_disk.Goals as goal

pub returns-clause-disk : goal.returns-clause-disk
returns-clause-disk c = λ root v version epoch fit new. is_new_disk root version epoch fit v new

pub returns-clause-image : goal.returns-clause-image
returns-clause-image c = λ root v version epoch fit new. is_image root version epoch fit v new
