-- What is seen through a net list, and a net list after an operation was added.
use Rattle.jn_records.proofs.Common.{◌≡◌, ◌≢◌, ◌⊎◌, ◌<◌, inl, inr, ◌+◌, ℕ, zero, suc, Bool, true, false, List, [], ◌∷◌, ◌++◌, length, take, drop, filter, Option, Some, None, refl, sym, ◌∙◌, ap, subst, arith, fun_ext, nat_tests, nat_eq, nat_lt, ◌&&◌, if◌then◌else◌, is_some, count_by, FileNo, BlockNo, File, Block, Op, Create, Remove, CutBlocks, Read, Write, file_eq, file_tells, Files, change, Intention, blocks_below, list_change, comes_behind, adds, length_with, intention_place, stands_before, in_order, InOrder, Plain, AllPlain, entry, First, Kept, MadeFresh, TakenAway, CutFrom, FileNet, as_first, as_put, net_of, added, net_change, stays_at, stays, seen_block, seen_by, cut_again, intention_for, front, in_its_place, with_intention, length-filter, there_by}
use Rattle.jn_base.specs.Ops.{block_of}
use Rattle.std.proofs.lemmas.Option.{same_Some}
use Rattle.std.proofs.lemmas.List.Recursion.{is_count_by}
use Rattle.jn_records.proofs.NetLemmas.{list-net}

-- ---- what is seen

first-there : (x : First) (list : List Intention) (f : FileNo) (stored : Bool) (files : Files) → as_first (entry list f zero) ≡ x → is_some (files (File f)) ≡ stored → is_some (change (net_change (net_of list)) files (File f)) ≡ there_by x stored
first-there Kept list f stored files e h = grind arith
first-there MadeFresh list f stored files e h = grind arith
first-there TakenAway list f stored files e h = grind arith
first-there (CutFrom n) list f stored files e h = grind arith

pub list-there : (list : List Intention) → InOrder list → (f : FileNo) (stored : Bool) (files : Files) → is_some (files (File f)) ≡ stored → is_some (change (list_change list) files (File f)) ≡ there_by (as_first (entry list f zero)) stored
list-there list h f stored files same = subst (λ c. is_some (change c files (File f)) ≡ there_by (as_first (entry list f zero)) stored) (sym (list-net list h.order)) (first-there (as_first (entry list f zero)) list f stored files refl same)

block-seen : (put : Option (List ℕ)) (x : First) (list : List Intention) (f : FileNo) (p : BlockNo) (files : Files) → as_put (entry list f (suc p.0)) ≡ put → as_first (entry list f zero) ≡ x
    → change (net_change (net_of list)) files (Block f p) ≡ seen_block (seen_by put x p) (files (Block f p))
block-seen (Some bytes) x list f p files e e' = grind arith
block-seen None Kept list f p files e e' = grind arith
block-seen None MadeFresh list f p files e e' = grind arith
block-seen None TakenAway list f p files e e' = grind arith
block-seen None (CutFrom n) list f p files e e' = grind arith

pub list-seen : (list : List Intention) → InOrder list → (f : FileNo) (p : BlockNo) (files : Files) → change (list_change list) files (Block f p) ≡ seen_block (seen_by (as_put (entry list f (p.0 + 1))) (as_first (entry list f zero)) p) (files (Block f p))
list-seen list h f p files = subst (λ c. change c files (Block f p) ≡ seen_block (seen_by (as_put (entry list f (p.0 + 1))) (as_first (entry list f zero)) p) (files (Block f p))) (sym (list-net list h.order)) (block-seen (as_put (entry list f (p.0 + 1))) (as_first (entry list f zero)) list f p files (ap (λ (k : ℕ). as_put (entry list f k)) (by p.0)) refl)
  where
    by : (n : ℕ) → suc n ≡ n + 1
    by n = grind arith

-- ---- what was put in its place

abbrev placed : Intention → List Intention → List Intention
placed new [] = new ∷ []
placed new (i ∷ list) = if stands_before i new then i ∷ placed new list else new ∷ i ∷ list

placed-is : (new : Intention) (list : List Intention) → in_its_place new list ≡ placed new list
placed-is new [] = refl
placed-is new (i ∷ list) = by (stands_before i new) (placed-is new list)
  where
    by : (b : Bool) → in_its_place new list ≡ placed new list → (take (if b then suc (front new list) else zero) (i ∷ list) ++ new ∷ drop (if b then suc (front new list) else zero) (i ∷ list)) ≡ (if b then i ∷ placed new list else new ∷ i ∷ list)
    by true e = ap (λ (l : List Intention). i ∷ l) e
    by false e = refl

length-placed : (new : Intention) (list : List Intention) → length (placed new list) ≡ length list + 1
length-placed new [] = refl
length-placed new (i ∷ list) = grind (arith, length-placed new list)

entry-placed : (new : Intention) (list : List Intention) (f : FileNo) (k : ℕ) → entry (placed new list) f k ≡ (if file_eq new.file f && nat_eq (intention_place new) k then Some new else entry list f k)
entry-placed new [] f k = refl
entry-placed new (i ∷ list) f k = grind (arith, nat_tests, entry-placed new list f k)

order-placed : (last : Option Intention) (new : Intention) (list : List Intention) → in_order last list ≡ true → comes_behind last new ≡ true → entry list new.file (intention_place new) ≡ None → in_order last (placed new list) ≡ true
order-placed last new [] h b none = grind arith
order-placed last new (i ∷ list) h b none = grind (arith, nat_tests, order-placed (Some i) new list)

plain-placed : (new : Intention) (list : List Intention) → Plain new.what new.block new.bytes → AllPlain list → AllPlain (placed new list)
plain-placed new [] p all = (p, tt)
plain-placed new (i ∷ list) p all = by (stands_before i new) (plain-placed new list p all.1)
  where
    by : (b : Bool) → AllPlain (placed new list) → AllPlain (if b then i ∷ placed new list else new ∷ i ∷ list)
    by true rest = (all.0, rest)
    by false rest = (p, all)

-- ---- what was dropped

behind-further : (last : Option Intention) (i : Intention) (list : List Intention) → comes_behind last i ≡ true → in_order (Some i) list ≡ true → in_order last list ≡ true
behind-further last i [] b h = refl
behind-further None i (j ∷ list) b h = grind arith
behind-further (Some l) i (j ∷ list) b h = grind (arith, nat_tests)

order-filter : (keep : Intention → Bool) (last : Option Intention) (list : List Intention) → in_order last list ≡ true → in_order last (filter keep list) ≡ true
order-filter keep last [] h = refl
order-filter keep last (i ∷ list) h = by (keep i) (first h) (order-filter keep (Some i) list (rest h))
  where
    first : in_order last (i ∷ list) ≡ true → comes_behind last i ≡ true
    first h = grind arith

    rest : in_order last (i ∷ list) ≡ true → in_order (Some i) list ≡ true
    rest h = grind arith

    by : (b : Bool) → comes_behind last i ≡ true → in_order (Some i) (filter keep list) ≡ true → in_order last (if b then i ∷ filter keep list else filter keep list) ≡ true
    by true c h = grind (arith, c, h)
    by false c h = behind-further last i (filter keep list) c h

plain-filter : (keep : Intention → Bool) (list : List Intention) → AllPlain list → AllPlain (filter keep list)
plain-filter keep [] all = tt
plain-filter keep (i ∷ list) all = by (keep i) (plain-filter keep list all.1)
  where
    by : (b : Bool) → AllPlain (filter keep list) → AllPlain (if b then i ∷ filter keep list else filter keep list)
    by true rest = (all.0, rest)
    by false rest = rest

entry-filter : (op : Op) (list : List Intention) (f : FileNo) (k : ℕ) → entry (filter (λ (i : Intention). stays op i) list) f k ≡ (if stays_at op f k then entry list f k else None)
entry-filter op [] f k = by (stays_at op f k)
  where
    none : Option Intention
    none = None

    by : (b : Bool) → none ≡ (if b then None else None)
    by true = refl
    by false = refl
entry-filter op (i ∷ list) f k = by (stays op i) refl (file_tells i.file f) (entry-filter op list f k)
  where
    by : (b : Bool) → stays op i ≡ b → ((file_eq i.file f ≡ true) × (i.file ≡ f)) ⊎ ((file_eq i.file f ≡ false) × (i.file ≢ f)) → entry (filter (λ (i : Intention). stays op i) list) f k ≡ (if stays_at op f k then entry list f k else None)
        → entry (if b then i ∷ filter (λ (i : Intention). stays op i) list else filter (λ (i : Intention). stays op i) list) f k ≡ (if stays_at op f k then entry (i ∷ list) f k else None)
    by true e (inl p) h = grind (arith, nat_tests, ap (λ g. stays_at op g (intention_place i)) p.1)
    by true e (inr p) h = grind (arith, nat_tests)
    by false e (inl p) h = grind (arith, nat_tests, ap (λ g. stays_at op g (intention_place i)) p.1)
    by false e (inr p) h = grind (arith, nat_tests)

-- ---- one more operation

replaces : (list : List Intention) (op : Op) (new : Intention) → intention_for list op ≡ Some new → stays_at op new.file (intention_place new) ≡ false
replaces list (Create f) new e = subst (λ (i : Intention). stays_at (Create f) i.file (intention_place i) ≡ false) (same_Some _ _ e) (grind (arith, nat_tests))
replaces list (Remove f) new e = subst (λ (i : Intention). stays_at (Remove f) i.file (intention_place i) ≡ false) (same_Some _ _ e) (grind (arith, nat_tests))
replaces list (CutBlocks f n) new e = subst (λ (i : Intention). stays_at (CutBlocks f n) i.file (intention_place i) ≡ false) (same_Some _ _ e) (by (as_first (entry list f zero)))
  where
    by : (x : First) → stays_at (CutBlocks f n) (cut_again x f n).file (intention_place (cut_again x f n)) ≡ false
    by Kept = grind (arith, nat_tests)
    by MadeFresh = grind (arith, nat_tests)
    by TakenAway = grind (arith, nat_tests)
    by (CutFrom m) = grind (arith, nat_tests)
replaces list (Read f p) new e = absurd (grind arith)
replaces list (Write f p bytes) new e = subst (λ (i : Intention). stays_at (Write f p bytes) i.file (intention_place i) ≡ false) (same_Some _ _ e) (grind (arith, nat_tests))

is_plain : (list : List Intention) (op : Op) (new : Intention) → intention_for list op ≡ Some new → Plain new.what new.block new.bytes
is_plain list (Create f) new e = subst (λ (i : Intention). Plain i.what i.block i.bytes) (same_Some _ _ e) (refl, refl)
is_plain list (Remove f) new e = subst (λ (i : Intention). Plain i.what i.block i.bytes) (same_Some _ _ e) (refl, refl)
is_plain list (CutBlocks f n) new e = subst (λ (i : Intention). Plain i.what i.block i.bytes) (same_Some _ _ e) (by (as_first (entry list f zero)))
  where
    by : (x : First) → Plain (cut_again x f n).what (cut_again x f n).block (cut_again x f n).bytes
    by Kept = refl
    by MadeFresh = (refl, refl)
    by TakenAway = (refl, refl)
    by (CutFrom m) = refl
is_plain list (Read f p) new e = absurd (grind arith)
is_plain list (Write f p bytes) new e = subst (λ (i : Intention). Plain i.what i.block i.bytes) (same_Some _ _ e) tt

entry-edited : (op : Op) (list : List Intention) (new : Intention) (f : FileNo) (k : ℕ) → entry (with_intention op list new) f k ≡ (if file_eq new.file f && nat_eq (intention_place new) k then Some new else if stays_at op f k then entry list f k else None)
entry-edited op list new f k =
    ap (λ (l : List Intention). entry l f k) (placed-is new (filter (λ (i : Intention). stays op i) list))
    ∙ entry-placed new (filter (λ (i : Intention). stays op i) list) f k
    ∙ ap (λ (r : Option Intention). if file_eq new.file f && nat_eq (intention_place new) k then Some new else r) (entry-filter op list f k)

pub edited-in_order : (op : Op) (list : List Intention) (new : Intention) → intention_for list op ≡ Some new → InOrder list → InOrder (with_intention op list new)
edited-in_order op list new e h =
    let kept = filter (λ (i : Intention). stays op i) list in
    let none : entry kept new.file (intention_place new) ≡ None = entry-filter op list new.file (intention_place new) ∙ ap (λ (b : Bool). if b then entry list new.file (intention_place new) else None) (replaces list op new e) in
    subst InOrder (sym (placed-is new kept)) (record {
      order = order-placed None new kept (order-filter (λ (i : Intention). stays op i) None list h.order) refl none;
      plain = plain-placed new kept (is_plain list op new e) (plain-filter (λ (i : Intention). stays op i) list h.plain);
    })

pub edited-length : (op : Op) (list : List Intention) (new : Intention) → intention_for list op ≡ Some new → length (with_intention op list new) ≡ length_with list op
edited-length op list new e =
    let kept = filter (λ (i : Intention). stays op i) list in
    ap (λ (l : List Intention). length l) (placed-is new kept) ∙ length-placed new kept ∙ ap (λ (n : ℕ). n + 1) (length-filter (λ (i : Intention). stays op i) list) ∙ ap (λ (n : ℕ). count_by (λ (i : Intention). stays op i) list + n) (one op e)
  where
    one : (op : Op) → intention_for list op ≡ Some new → 1 ≡ adds op
    one (Create f) e = refl
    one (Remove f) e = refl
    one (CutBlocks f n) e = refl
    one (Read f p) e = absurd (grind arith)
    one (Write f p bytes) e = refl

pub unchanged-length : (op : Op) (list : List Intention) → intention_for list op ≡ None → length list ≡ length_with list op
unchanged-length (Create f) list e = absurd (grind arith)
unchanged-length (Remove f) list e = absurd (grind arith)
unchanged-length (CutBlocks f n) list e = absurd (grind arith)
unchanged-length (Write f p bytes) list e = absurd (grind arith)
unchanged-length (Read f p) list e = by list ∙ grind arith
  where
    by : (l : List Intention) → length l ≡ count_by (λ (i : Intention). true) l
    by l = is_count_by (λ (l : List Intention). length l) (λ i. true) refl (λ i l. grind arith) l

pub unchanged-net : (op : Op) (list : List Intention) → intention_for list op ≡ None → net_of list ≡ added (net_of list) op
unchanged-net (Create f) list e = absurd (grind arith)
unchanged-net (Remove f) list e = absurd (grind arith)
unchanged-net (CutBlocks f n) list e = absurd (grind arith)
unchanged-net (Write f p bytes) list e = absurd (grind arith)
unchanged-net (Read f p) list e = fun_ext (λ g. at g)
  where
    at : (g : FileNo) → net_of list g ≡ added (net_of list) (Read f p) g
    at g = grind arith

first-edited : (op : Op) (list : List Intention) (new : Intention) (f : FileNo) → intention_for list op ≡ Some new → as_first (if file_eq new.file f && nat_eq (intention_place new) zero then Some new else if stays_at op f zero then entry list f zero else None) ≡ (added (net_of list) op f).first
first-edited (Create g) list new f e = subst (λ (i : Intention). as_first (if file_eq i.file f && nat_eq (intention_place i) zero then Some i else if stays_at (Create g) f zero then entry list f zero else None) ≡ (added (net_of list) (Create g) f).first) (same_Some _ _ e) (grind (arith, nat_tests))
first-edited (Remove g) list new f e = subst (λ (i : Intention). as_first (if file_eq i.file f && nat_eq (intention_place i) zero then Some i else if stays_at (Remove g) f zero then entry list f zero else None) ≡ (added (net_of list) (Remove g) f).first) (same_Some _ _ e) (grind (arith, nat_tests))
first-edited (CutBlocks g n) list new f e = subst (λ (i : Intention). as_first (if file_eq i.file f && nat_eq (intention_place i) zero then Some i else if stays_at (CutBlocks g n) f zero then entry list f zero else None) ≡ (added (net_of list) (CutBlocks g n) f).first) (same_Some _ _ e)
    (by (as_first (entry list g zero)) refl)
  where
    by : (x : First) → as_first (entry list g zero) ≡ x → as_first (if file_eq (cut_again x g n).file f && nat_eq (intention_place (cut_again x g n)) zero then Some (cut_again x g n) else if stays_at (CutBlocks g n) f zero then entry list f zero else None) ≡ (added (net_of list) (CutBlocks g n) f).first
    by Kept h = grind (arith, nat_tests, file_tells)
    by MadeFresh h = grind (arith, nat_tests, file_tells)
    by TakenAway h = grind (arith, nat_tests, file_tells)
    by (CutFrom m) h = grind (arith, nat_tests, file_tells)
first-edited (Read g p) list new f e = absurd (grind arith)
first-edited (Write g p bytes) list new f e = subst (λ (i : Intention). as_first (if file_eq i.file f && nat_eq (intention_place i) zero then Some i else if stays_at (Write g p bytes) f zero then entry list f zero else None) ≡ (added (net_of list) (Write g p bytes) f).first) (same_Some _ _ e) (grind (arith, nat_tests))

put-edited : (op : Op) (list : List Intention) (new : Intention) (f : FileNo) (q : BlockNo) → intention_for list op ≡ Some new → as_put (if file_eq new.file f && nat_eq (intention_place new) (suc q.0) then Some new else if stays_at op f (suc q.0) then entry list f (suc q.0) else None) ≡ (added (net_of list) op f).puts q
put-edited (Create g) list new f q e = subst (λ (i : Intention). as_put (if file_eq i.file f && nat_eq (intention_place i) (suc q.0) then Some i else if stays_at (Create g) f (suc q.0) then entry list f (suc q.0) else None) ≡ (added (net_of list) (Create g) f).puts q) (same_Some _ _ e) (grind (arith, nat_tests))
put-edited (Remove g) list new f q e = subst (λ (i : Intention). as_put (if file_eq i.file f && nat_eq (intention_place i) (suc q.0) then Some i else if stays_at (Remove g) f (suc q.0) then entry list f (suc q.0) else None) ≡ (added (net_of list) (Remove g) f).puts q) (same_Some _ _ e) (grind (arith, nat_tests))
put-edited (CutBlocks g n) list new f q e = subst (λ (i : Intention). as_put (if file_eq i.file f && nat_eq (intention_place i) (suc q.0) then Some i else if stays_at (CutBlocks g n) f (suc q.0) then entry list f (suc q.0) else None) ≡ (added (net_of list) (CutBlocks g n) f).puts q) (same_Some _ _ e)
    (by (as_first (entry list g zero)))
  where
    by : (x : First) → as_put (if file_eq (cut_again x g n).file f && nat_eq (intention_place (cut_again x g n)) (suc q.0) then Some (cut_again x g n) else if stays_at (CutBlocks g n) f (suc q.0) then entry list f (suc q.0) else None) ≡ (added (net_of list) (CutBlocks g n) f).puts q
    by Kept = grind (arith, nat_tests)
    by MadeFresh = grind (arith, nat_tests)
    by TakenAway = grind (arith, nat_tests)
    by (CutFrom m) = grind (arith, nat_tests)
put-edited (Read g p) list new f q e = absurd (grind arith)
put-edited (Write g p bytes) list new f q e = subst (λ (i : Intention). as_put (if file_eq i.file f && nat_eq (intention_place i) (suc q.0) then Some i else if stays_at (Write g p bytes) f (suc q.0) then entry list f (suc q.0) else None) ≡ (added (net_of list) (Write g p bytes) f).puts q) (same_Some _ _ e) (grind (arith, nat_tests))

same_net : (a b : FileNet) → a.first ≡ b.first → ((q : BlockNo) → a.puts q ≡ b.puts q) → a ≡ b
same_net a b e h = λ i. record { first = e i; puts = fun_ext h i }

pub edited-net : (op : Op) (list : List Intention) (new : Intention) → intention_for list op ≡ Some new → net_of (with_intention op list new) ≡ added (net_of list) op
edited-net op list new e = fun_ext (λ f. same_net (net_of (with_intention op list new) f) (added (net_of list) op f)
    (ap (λ r. as_first r) (entry-edited op list new f zero) ∙ first-edited op list new f e)
    (λ q. ap (λ r. as_put r) (entry-edited op list new f (suc q.0)) ∙ put-edited op list new f q e))

-- ---- which blocks are named

blocks-filter : (n : ℕ) (keep : Intention → Bool) (list : List Intention) → blocks_below n list ≡ true → blocks_below n (filter keep list) ≡ true
blocks-filter n keep [] h = refl
blocks-filter n keep (i ∷ list) h = grind (arith, blocks-filter n keep list)

blocks-placed : (n : ℕ) (new : Intention) (list : List Intention) → nat_lt new.block.0 n ≡ true → blocks_below n list ≡ true → blocks_below n (placed new list) ≡ true
blocks-placed n new [] b h = grind arith
blocks-placed n new (i ∷ list) b h = grind (arith, blocks-placed n new list)

new-below : (n : ℕ) (list : List Intention) (op : Op) (new : Intention) → intention_for list op ≡ Some new → (block_of op).0 < n → nat_lt new.block.0 n ≡ true
new-below n list (Create f) new e b = subst (λ (i : Intention). nat_lt i.block.0 n ≡ true) (same_Some _ _ e) (grind (arith, nat_tests))
new-below n list (Remove f) new e b = subst (λ (i : Intention). nat_lt i.block.0 n ≡ true) (same_Some _ _ e) (grind (arith, nat_tests))
new-below n list (CutBlocks f m) new e b = subst (λ (i : Intention). nat_lt i.block.0 n ≡ true) (same_Some _ _ e) (by (as_first (entry list f zero)))
  where
    by : (x : First) → nat_lt (cut_again x f m).block.0 n ≡ true
    by Kept = grind (arith, nat_tests)
    by MadeFresh = grind (arith, nat_tests)
    by TakenAway = grind (arith, nat_tests)
    by (CutFrom k) = grind (arith, nat_tests)
new-below n list (Read f p) new e b = absurd (grind arith)
new-below n list (Write f p bytes) new e b = subst (λ (i : Intention). nat_lt i.block.0 n ≡ true) (same_Some _ _ e) (grind (arith, nat_tests))

pub edited-blocks : (n : ℕ) (op : Op) (list : List Intention) (new : Intention) → intention_for list op ≡ Some new → (block_of op).0 < n → blocks_below n list ≡ true → blocks_below n (with_intention op list new) ≡ true
edited-blocks n op list new e b h =
    let kept = filter (λ (i : Intention). stays op i) list in
    subst (λ (l : List Intention). blocks_below n l ≡ true) (sym (placed-is new kept)) (blocks-placed n new kept (new-below n list op new e b) (blocks-filter n (λ (i : Intention). stays op i) list h))
