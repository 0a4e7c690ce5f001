-- What a work did at a server: operations with their answers, what the answers depend on, and what they change.
use Rattle.std.specs.Prelude.{Bool, true, false, ◌&&◌, if◌then◌else◌, List, [], ◌∷◌}
use Rattle.jn_base.specs.declared.names.FileNo.{FileNo}
use Rattle.jn_base.specs.declared.names.BlockNo.{BlockNo}
use Rattle.jn_base.specs.declared.names.LockUnit.{LockUnit}
use Rattle.jn_base.specs.declared.names.LockUnit.TheVariants.{File, Block}
use Rattle.jn_base.specs.declared.op.Op.{Op}
use Rattle.jn_base.specs.declared.op.Op.TheVariants.{Read}
use Rattle.jn_base.specs.declared.op.Answer.{Answer}
use Rattle.jn_base.specs.declared.op.Answer.TheVariants.{Read as Found}
use Rattle.jn_base.specs.Names.{file_eq, block_eq}
use Rattle.jn_order.specs.Files.{Change, nothing, effect, file_of, is_did}
use Rattle.jn_order.specs.Changes.{and_then}
use Rattle.jn_order.specs.Answers.{Answered}

-- a block is asked for only where it is read, and not where its file is absent
abbrev pub asks_block : Op → Answer → FileNo → BlockNo → Bool
asks_block (Read f p) (Found bytes) g q = file_eq f g && block_eq p q
asks_block _ _ g q = false

-- the registers that an answer depends on
abbrev pub asks : Answered → LockUnit → Bool
asks a (File g) = file_eq (file_of a.op) g
asks a (Block g q) = asks_block a.op a.answer g q

-- the registers that the answers of a trace depend on
abbrev pub asked : List Answered → LockUnit → Bool
asked [] u = false
asked (a ∷ trace) u = if asks a u then true else asked trace u

abbrev pub effect_of : Answered → Change
effect_of a = if is_did a.answer then effect a.op else nothing

-- what a trace changes, its first operation first
abbrev pub effects : List Answered → Change
effects [] = nothing
effects (a ∷ trace) = and_then (effect_of a) (effects trace)
