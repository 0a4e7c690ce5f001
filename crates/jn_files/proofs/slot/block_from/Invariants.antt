use Rattle.jn_files.proofs.Common.{◌≡◌, ◌≤◌, ◌+◌, ◌*◌, true, head_blocks, BlockNo, has_block}
use Rattle.jn_files.proofs.slot.block_from.Given as goal

-- no block from there on is below the range of the map page
abbrev pub invariant-loop-j : goal.invariant-loop-j
invariant-loop-j l = (b : BlockNo) → has_block l.maps l.head b ≡ true → l.from ≤ b.0 → head_blocks * (l.j + 1) ≤ b.0
