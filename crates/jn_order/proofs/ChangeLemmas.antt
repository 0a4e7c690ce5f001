-- Changes one after another.
use Rattle.std.proofs.Common.{◌≡◌, refl, arith}
use Rattle.std.proofs.Math.Path.{fun_ext}
use Rattle.jn_base.specs.declared.names.LockUnit.{LockUnit}
use Rattle.jn_order.specs.Files.{Files, Change, change, nothing}
use Rattle.jn_order.specs.Changes.{and_then}

-- one change after another changes what both change
pub change-then : (a b : Change) (files : Files) → change (and_then a b) files ≡ change b (change a files)
change-then a b files = fun_ext (λ u. at u)
  where
    at : (u : LockUnit) → change (and_then a b) files u ≡ change b (change a files) u
    at u = grind arith

pub and_then-assoc : (a b c : Change) → and_then (and_then a b) c ≡ and_then a (and_then b c)
and_then-assoc a b c = fun_ext (λ u. at u)
  where
    at : (u : LockUnit) → and_then (and_then a b) c u ≡ and_then a (and_then b c) u
    at u = grind arith

pub nothing-then : (a : Change) → and_then nothing a ≡ a
nothing-then a = fun_ext (λ u. at u)
  where
    at : (u : LockUnit) → and_then nothing a u ≡ a u
    at u = grind arith

pub change-nothing : (files : Files) → change nothing files ≡ files
change-nothing files = fun_ext (λ u. refl)
