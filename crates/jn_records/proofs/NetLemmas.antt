-- A list in order changes what its net says, and one more operation changes what it does.
use Rattle.jn_records.proofs.Common.{◌≡◌, ◌⊎◌, ◌<◌, ◌≤◌, ℕ, zero, suc, true, List, [], ◌∷◌, Option, Some, None, refl, arith, fun_ext, nat_tests, nat_le, if◌then◌else◌, FileNo, BlockNo, LockUnit, File, Block, Op, Create, Remove, CutBlocks, Read, Write, effect, or_also, and_then, What, Fresh, Gone, Cut, Put, Intention, list_change, intention_place, in_order, entry, First, Kept, MadeFresh, TakenAway, CutFrom, Net, as_first, as_put, net_of, cut_first, added, first_file, first_block, put_or, net_change}

-- ---- one more operation

cut_block : (x : First) (n p : BlockNo) (b : Option (List ℕ)) → put_or (if nat_le n.0 p.0 then None else b) (first_block (cut_first x n) p) ≡ or_also (if nat_le n.0 p.0 then Some None else None) (put_or b (first_block x p))
cut_block Kept n p b = grind (arith, nat_tests)
cut_block MadeFresh n p b = grind (arith, nat_tests)
cut_block TakenAway n p b = grind (arith, nat_tests)
cut_block (CutFrom m) n p b = grind (arith, nat_tests)

cut_file : (x : First) (n : BlockNo) → first_file (cut_first x n) ≡ first_file x
cut_file x n = grind arith

added-at : (net : Net) (op : Op) (u : LockUnit) → net_change (added net op) u ≡ and_then (net_change net) (effect op) u
added-at net (Create f) (File g) = grind (arith, nat_tests)
added-at net (Create f) (Block g p) = grind (arith, nat_tests)
added-at net (Remove f) (File g) = grind (arith, nat_tests)
added-at net (Remove f) (Block g p) = grind (arith, nat_tests)
added-at net (CutBlocks f n) (File g) = grind (arith, nat_tests, cut_file (net g).first n)
added-at net (CutBlocks f n) (Block g p) = grind (arith, nat_tests, cut_block (net g).first n p ((net g).puts p))
added-at net (Read f p) (File g) = grind (arith, nat_tests)
added-at net (Read f p) (Block g q) = grind (arith, nat_tests)
added-at net (Write f p bytes) (File g) = grind (arith, nat_tests)
added-at net (Write f p bytes) (Block g q) = grind (arith, nat_tests)

pub added-change : (net : Net) (op : Op) → net_change (added net op) ≡ and_then (net_change net) (effect op)
added-change net op = fun_ext (λ u. added-at net op u)

-- ---- a list in order

-- behind an intention stands none of its place or of one before it
pub no_entry : (last : Intention) (list : List Intention) (f : FileNo) (k : ℕ) → in_order (Some last) list ≡ true → ((f.0 < last.file.0) ⊎ ((f.0 ≡ last.file.0) × (k ≤ intention_place last))) → entry list f k ≡ None
no_entry last [] f k h b = refl
no_entry last (i ∷ list) f k h b = grind (arith, nat_tests, no_entry i list f k)

file-step : (last : Option Intention) (i : Intention) (list : List Intention) (f : FileNo) (w : What) → i.what ≡ w → in_order last (i ∷ list) ≡ true
    → (in_order (Some i) list ≡ true → list_change list (File f) ≡ first_file (as_first (entry list f zero)))
    → list_change (i ∷ list) (File f) ≡ first_file (as_first (entry (i ∷ list) f zero))
file-step last i list f Fresh e h rest = grind (arith, nat_tests, rest, no_entry i list f zero)
file-step last i list f Gone e h rest = grind (arith, nat_tests, rest, no_entry i list f zero)
file-step last i list f Cut e h rest = grind (arith, nat_tests, rest, no_entry i list f zero)
file-step last i list f Put e h rest = grind (arith, nat_tests, rest, no_entry i list f zero)

list-file : (last : Option Intention) (list : List Intention) (f : FileNo) → in_order last list ≡ true → list_change list (File f) ≡ first_file (as_first (entry list f zero))
list-file last [] f h = refl
list-file last (i ∷ list) f h = file-step last i list f i.what refl h (λ r. list-file (Some i) list f r)

block-step : (last : Option Intention) (i : Intention) (list : List Intention) (f : FileNo) (p : BlockNo) (w : What) → i.what ≡ w → in_order last (i ∷ list) ≡ true
    → (in_order (Some i) list ≡ true → list_change list (Block f p) ≡ put_or (as_put (entry list f (suc p.0))) (first_block (as_first (entry list f zero)) p))
    → list_change (i ∷ list) (Block f p) ≡ put_or (as_put (entry (i ∷ list) f (suc p.0))) (first_block (as_first (entry (i ∷ list) f zero)) p)
block-step last i list f p Fresh e h rest = grind (arith, nat_tests, rest, no_entry i list f zero)
block-step last i list f p Gone e h rest = grind (arith, nat_tests, rest, no_entry i list f zero)
block-step last i list f p Cut e h rest = grind (arith, nat_tests, rest, no_entry i list f zero)
block-step last i list f p Put e h rest = grind (arith, nat_tests, rest, no_entry i list f zero, no_entry i list f (suc p.0))

list-block : (last : Option Intention) (list : List Intention) (f : FileNo) (p : BlockNo) → in_order last list ≡ true → list_change list (Block f p) ≡ put_or (as_put (entry list f (suc p.0))) (first_block (as_first (entry list f zero)) p)
list-block last [] f p h = refl
list-block last (i ∷ list) f p h = block-step last i list f p i.what refl h (λ r. list-block (Some i) list f p r)

pub list-net : (list : List Intention) → in_order None list ≡ true → list_change list ≡ net_change (net_of list)
list-net list h = fun_ext (λ u. at u)
  where
    at : (u : LockUnit) → list_change list u ≡ net_change (net_of list) u
    at (File f) = list-file None list f h
    at (Block f p) = list-block None list f p h
