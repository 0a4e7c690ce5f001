-- What an operation names, and which may be asked for.
use Rattle.jn_base.specs.declared.names.BlockNo.{BlockNo}
use Rattle.jn_base.specs.declared.op.Op.{Op}
use Rattle.jn_base.specs.declared.op.Op.TheVariants.{Create, Remove, Cut as CutBlocks, Read, Write}
use Rattle.std.specs.Prelude.{◌<◌, ⊤}
use Rattle.jn_base.specs.Limits.{most_blocks}
use Rattle.jn_base.specs.declared.op.Command.{Command}
use Rattle.jn_base.specs.declared.op.Command.TheVariants.{Do}

abbrev pub block_of : Op → BlockNo
block_of (Create f) = record { 0 = 0 }
block_of (Remove f) = record { 0 = 0 }
block_of (CutBlocks f n) = n
block_of (Read f p) = p
block_of (Write f p bytes) = p

abbrev pub BlockInRange : Op → Type 0
BlockInRange op = (block_of op).0 < most_blocks

-- the block of an operation that is asked for is one of a file's
abbrev pub CommandInRange : Command → Type 0
CommandInRange (Do s op) = BlockInRange op
CommandInRange command = ⊤
