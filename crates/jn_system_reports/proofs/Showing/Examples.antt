-- What the examples compute.
use Rattle.jn_system_reports.proofs.Common.{◌≡◌, Bool, true, false, Option, Some, None, is_some, refl, arith, if◌then◌else◌, ◌||◌, FileNo, BlockNo, File, Block, there, or_else, Memory, new_memory, the_server, print_unit}

abbrev pub memory_in : Option Memory → Memory
memory_in None = new_memory the_server 0
memory_in (Some m) = m

pub is-up : (o : Option Memory) → is_some o ≡ true → o ≡ Some (memory_in o)
is-up None h = absurd (not_both h)
  where
    not_both : false ≡ true → ⊥
    not_both e = grind arith
is-up (Some m) h = refl

-- a file that was made, and has no block
pub once_there : (f : FileNo) (b : Bool) → (b || false) ≡ is_some (print_unit (File f) None (or_else (if b then Some (Some there) else None) None))
once_there f true = refl
once_there f false = refl

pub no_block : (f : FileNo) (p : BlockNo) (b : Bool) → false ≡ is_some (print_unit (Block f p) None (or_else (if b then Some None else None) None))
no_block f p true = refl
no_block f p false = refl
