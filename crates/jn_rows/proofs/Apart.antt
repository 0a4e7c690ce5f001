-- Works at different servers are no more than there are servers.
use Rattle.std.proofs.Common.{◌≡◌, ℕ, zero, suc, true, false, nat_lt, ◌+◌, ◌≤◌, List, [], ◌∷◌, ◌++◌, length, if◌then◌else◌, refl, arith}
use Rattle.std.proofs.lemmas.Bool.Decides.{nat_tests}
use Rattle.jn_base.specs.declared.names.ServerNo.{ServerNo}
use Rattle.jn_base.specs.Names.{server_eq}
use Rattle.jn_base.proofs.Tells.{server_tells}
use Rattle.jn_rows.specs.declared.client.OpenWork.{OpenWork}
use Rattle.jn_rows.specs.Client.{work_at, with_operation}
use Rattle.jn_rows.specs.ClientLaws.{none_at, are_apart}
use Rattle.std.specs.Prelude.{None}

-- the works but for the one at a server
abbrev pub but_at : ServerNo → List OpenWork → List OpenWork
but_at s [] = []
but_at s (w ∷ ws) = if server_eq w.work.server s then ws else w ∷ but_at s ws

pub but_one : (s : ServerNo) (ws : List OpenWork) → length ws ≤ length (but_at s ws) + 1
but_one s [] = omega arith
but_one s (w ∷ ws) = let rest = but_one s ws in grind (arith, rest)

pub none_but : (r s : ServerNo) (ws : List OpenWork) → none_at r ws ≡ true → none_at r (but_at s ws) ≡ true
none_but r s [] h = refl
none_but r s (w ∷ ws) h = grind (arith, none_but r s ws)

-- no work is at the last server
pub apart_below : (n : ℕ) (s : ServerNo) (ws : List OpenWork) → s.0 ≡ n → are_apart (suc n) ws ≡ true → none_at s ws ≡ true → are_apart n ws ≡ true
apart_below n s [] e h none = refl
apart_below n s (w ∷ ws) e h none = grind (arith, nat_tests, server_tells, apart_below n s ws)

pub apart_but : (n : ℕ) (s : ServerNo) (ws : List OpenWork) → s.0 ≡ n → are_apart (suc n) ws ≡ true → are_apart n (but_at s ws) ≡ true
apart_but n s [] e h = refl
apart_but n s (w ∷ ws) e h = grind (arith, nat_tests, server_tells, apart_but n s ws, apart_below n s ws, none_but w.work.server s ws)

pub few : (n : ℕ) (ws : List OpenWork) → are_apart n ws ≡ true → length ws ≤ n
few zero [] h = omega arith
few zero (w ∷ ws) h = grind (arith, nat_tests)
few (suc n) ws h =
    let s : ServerNo = record { 0 = n } in
    let rest = few n (but_at s ws) (apart_but n s ws refl h) in
    let one = but_one s ws in
    omega (arith, rest, one)

-- one more work, at a server that isn't open
pub none_more : (r : ServerNo) (ws : List OpenWork) (v : OpenWork) → none_at r ws ≡ true → server_eq v.work.server r ≡ false → none_at r (ws ++ v ∷ []) ≡ true
none_more r [] v h e = grind arith
none_more r (w ∷ ws) v h e = grind (arith, none_more r ws v)

pub apart_more : (n : ℕ) (ws : List OpenWork) (v : OpenWork) → are_apart n ws ≡ true → nat_lt v.work.server.0 n ≡ true → none_at v.work.server ws ≡ true → are_apart n (ws ++ v ∷ []) ≡ true
apart_more n [] v h lt none = grind arith
apart_more n (w ∷ ws) v h lt none = grind (arith, server_tells, apart_more n ws v, none_more w.work.server ws v)

-- no work is found at a server where none is
pub found_none : (s : ServerNo) (ws : List OpenWork) → work_at s ws ≡ None → none_at s ws ≡ true
found_none s [] h = refl
found_none s (w ∷ ws) h = grind (arith, found_none s ws)

-- an operation keeps the servers
pub none_counted : (r s : ServerNo) (ws : List OpenWork) → none_at r (with_operation s ws) ≡ none_at r ws
none_counted r s [] = refl
none_counted r s (w ∷ ws) = grind (arith, none_counted r s ws)

pub apart_counted : (n : ℕ) (s : ServerNo) (ws : List OpenWork) → are_apart n (with_operation s ws) ≡ are_apart n ws
apart_counted n s [] = refl
apart_counted n s (w ∷ ws) = grind (arith, apart_counted n s ws, none_counted w.work.server s ws)
