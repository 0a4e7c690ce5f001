-- Pairs of pages on a disk in memory.
use Rattle.jn_image_files.proofs.Common.{DeviceState, StoreView, pairs_view}
use Rattle.jn_memdisk.specs.declared.disk.MemDisk.{MemDisk}

-- what is seen of them
abbrev pub look : MemDisk → StoreView
look s = pairs_view ((Rattle.jn_memdisk.specs.contracts.disk.MemDiskPhysDisk.TheImpl.ghosts).state s)

-- and the device below them
abbrev pub device : MemDisk → DeviceState
device s = (Rattle.jn_memdisk.specs.contracts.disk.MemDiskPhysDisk.TheImpl.ghosts).state s
