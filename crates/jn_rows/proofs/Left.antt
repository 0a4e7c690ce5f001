-- What a stop has left of changes: whole ones, where nothing is found in part; of one change; and behind whole ones.
use Rattle.std.proofs.Common.{◌≡◌, ◌⊎◌, inl, inr, ℕ, zero, suc, ◌+◌, Bool, true, false, ◌||◌, ◌&&◌, if◌then◌else◌, List, [], ◌∷◌, ◌++◌, length, Option, Some, None, refl, ◌∙◌, ap, arith, true≢false}
use Rattle.std.specs.Prelude.{slice_get, take, nat_le}
use Rattle.std.specs.List.{list_any}
use Rattle.std.proofs.Math.Path.{fun_ext}
use Rattle.jn_base.specs.declared.names.BlockNo.{BlockNo}
use Rattle.jn_base.specs.declared.names.LockUnit.{LockUnit}
use Rattle.jn_base.specs.declared.names.LockUnit.TheVariants.{File, Block}
use Rattle.jn_base.specs.Names.{file_eq}
use Rattle.jn_order.specs.Files.{Files, or_else}
use Rattle.jn_records.specs.declared.intention.What.{What}
use Rattle.jn_records.specs.declared.intention.What.TheVariants.{Fresh, Gone, Cut, Put}
use Rattle.jn_records.specs.NetLists.{intention_change, change_by}
use Rattle.jn_rows.specs.Stable.{StableState, Change, AddReady, MarkGoing, CarryOut, RemoveWork, AddFlag, DropFlag, made_by, made_all, Left, whole_only, part_by, part_of, parted, left_of, IsStopState, is_cut, carries_cut}

abbrev gone_block : Option (List ℕ)
gone_block = None

-- where nothing of a change is found in part, the files stay
pub part-is : (gone : Option (BlockNo → Bool)) (step : Option Change) (files : Files) → ((g : BlockNo → Bool) (u : LockUnit) → part_of g step u ≡ None) → parted gone step files ≡ files
part-is None step files none = refl
part-is (Some g) step files none = fun_ext (λ u. ap (λ o. or_else o (files u)) (none g u))

-- and the whole changes are made
pub left-is : (l : Left) (cs : List Change) (x : StableState) → ((g : BlockNo → Bool) (u : LockUnit) → part_of g (slice_get cs l.whole) u ≡ None) → left_of l cs x ≡ made_all (take l.whole cs) x
left-is l cs x none = ap (λ f. record (made_all (take l.whole cs) x) { files = f }) (part-is l.gone (slice_get cs l.whole) (made_all (take l.whole cs) x).files none)

-- of a change that carries out no cut nothing is found in part
pub no-part : (g : BlockNo → Bool) (step : Change) (u : LockUnit) → carries_cut step ≡ false → part_of g (Some step) u ≡ None
no-part g (CarryOut w i) u h = by i.what h
  where
    by : (what : What) → is_cut what ≡ false → part_by g what (intention_change i) u ≡ None
    by Fresh h = refl
    by Gone h = refl
    by Put h = refl
    by Cut h = absurd (true≢false h)
no-part g (AddReady head list reads) u h = refl
no-part g (MarkGoing w) u h = refl
no-part g (RemoveWork w) u h = refl
no-part g (AddFlag flag) u h = refl
no-part g (DropFlag t) u h = refl

no-part-at : (g : BlockNo → Bool) (cs : List Change) (n : ℕ) (u : LockUnit) → list_any carries_cut cs ≡ false → part_of g (slice_get cs n) u ≡ None
no-part-at g [] zero u h = refl
no-part-at g [] (suc n) u h = refl
no-part-at g (c ∷ cs) zero u h = no-part g c u (first (carries_cut c) (list_any carries_cut cs) h)
  where
    first : (a b : Bool) → (a || b) ≡ false → a ≡ false
    first a b h = grind (arith, h)
no-part-at g (c ∷ cs) (suc n) u h = no-part-at g cs n u (rest (carries_cut c) (list_any carries_cut cs) h)
  where
    rest : (a b : Bool) → (a || b) ≡ false → b ≡ false
    rest a b h = grind (arith, h)

-- so what is left is the state after whole changes
pub stop-is-whole : (x : StableState) (cs : List Change) (y : StableState) → list_any carries_cut cs ≡ false → IsStopState x cs y → (n : ℕ) × (y ≡ made_all (take n cs) x)
stop-is-whole x cs y none h = (h.left.whole, h.is_after ∙ left-is h.left cs x (λ g u. no-part-at g cs h.left.whole u none))

pub one-is-whole : (x : StableState) (step : Change) (y : StableState) → carries_cut step ≡ false → IsStopState x (step ∷ []) y → (y ≡ x) ⊎ (y ≡ made_by step x)
one-is-whole x step y none h = let (n, e) = stop-is-whole x (step ∷ []) y (ap (λ (b : Bool). b || false) none) h in by n e
  where
    by : (n : ℕ) → y ≡ made_all (take n (step ∷ [])) x → (y ≡ x) ⊎ (y ≡ made_by step x)
    by zero e = inl e
    by (suc zero) e = inr e
    by (suc (suc n)) e = inr e

-- a part takes registers away, and writes none
pub part-takes : (g : BlockNo → Bool) (step : Option Change) (u : LockUnit) → (part_of g step u ≡ None) ⊎ (part_of g step u ≡ Some None)
part-takes g (Some (CarryOut w i)) u = by i.what u
  where
    block : (a b : Bool) → ((if a then (if b then Some gone_block else None) else None) ≡ None) ⊎ ((if a then (if b then Some gone_block else None) else None) ≡ Some gone_block)
    block true true = inr refl
    block true false = inl refl
    block false b = inl refl

    by : (what : What) (u : LockUnit) → (part_by g what (change_by what i.file i.block i.bytes) u ≡ None) ⊎ (part_by g what (change_by what i.file i.block i.bytes) u ≡ Some None)
    by Fresh u = inl refl
    by Gone u = inl refl
    by Put u = inl refl
    by Cut (File f) = inl refl
    by Cut (Block f p) = block (g p) (file_eq i.file f && nat_le i.block.0 p.0)
part-takes g (Some (AddReady head list reads)) u = inl refl
part-takes g (Some (MarkGoing w)) u = inl refl
part-takes g (Some (RemoveWork w)) u = inl refl
part-takes g (Some (AddFlag flag)) u = inl refl
part-takes g (Some (DropFlag t)) u = inl refl
part-takes g None u = inl refl

-- so each register is as after the whole changes, or gone
pub left-files : (l : Left) (cs : List Change) (x : StableState) (u : LockUnit) → ((left_of l cs x).files u ≡ (made_all (take l.whole cs) x).files u) ⊎ ((left_of l cs x).files u ≡ None)
left-files l cs x u = by l.gone
  where
    its : (o : Option (Option (List ℕ))) → (o ≡ None) ⊎ (o ≡ Some None) → (or_else o ((made_all (take l.whole cs) x).files u) ≡ (made_all (take l.whole cs) x).files u) ⊎ (or_else o ((made_all (take l.whole cs) x).files u) ≡ None)
    its o (inl e) = inl (ap (λ o. or_else o ((made_all (take l.whole cs) x).files u)) e)
    its o (inr e) = inr (ap (λ o. or_else o ((made_all (take l.whole cs) x).files u)) e)

    by : (gone : Option (BlockNo → Bool)) → (parted gone (slice_get cs l.whole) (made_all (take l.whole cs) x).files u ≡ (made_all (take l.whole cs) x).files u) ⊎ (parted gone (slice_get cs l.whole) (made_all (take l.whole cs) x).files u ≡ None)
    by None = inl refl
    by (Some g) = its (part_of g (slice_get cs l.whole) u) (part-takes g (slice_get cs l.whole) u)

-- this many of the changes are made
pub whole-stop : (x : StableState) (cs : List Change) (y : StableState) (n : ℕ) → y ≡ made_all (take n cs) x → IsStopState x cs y
whole-stop x cs y n e = record { left = whole_only n; is_after = e }

-- nothing is left of no changes
pub left-none : (l : Left) (x : StableState) → left_of l [] x ≡ x
left-none l x = by l.whole l.gone
  where
    by : (n : ℕ) (gone : Option (BlockNo → Bool)) → left_of (record { whole = n; gone = gone }) [] x ≡ x
    by zero gone = left-is (record { whole = 0; gone = gone }) [] x (λ g u. refl)
    by (suc n) gone = left-is (record { whole = suc n; gone = gone }) [] x (λ g u. refl)

-- what is left of one change, with others behind it
pub stop-first : (x : StableState) (step : Change) (rest : List Change) (y : StableState) → IsStopState x (step ∷ []) y → IsStopState x (step ∷ rest) y
stop-first x step rest y h = by h.left.whole h.left.gone h.is_after
  where
    by : (n : ℕ) (gone : Option (BlockNo → Bool)) → y ≡ left_of (record { whole = n; gone = gone }) (step ∷ []) x → IsStopState x (step ∷ rest) y
    by zero gone e = record { left = record { whole = 0; gone = gone }; is_after = e }
    by (suc n) gone e = whole-stop x (step ∷ rest) y 1 (e ∙ left-none (record { whole = n; gone = gone }) (made_by step x))

-- what is left behind whole changes
pub left-past : (first rest : List Change) (l : Left) (x : StableState) → left_of (record { whole = length first + l.whole; gone = l.gone }) (first ++ rest) x ≡ left_of l rest (made_all first x)
left-past [] rest l x = let same : 0 + l.whole ≡ l.whole = omega arith in ap (λ n. left_of (record { whole = n; gone = l.gone }) rest x) same
left-past (c ∷ first) rest l x = let same : suc (length first) + l.whole ≡ suc (length first + l.whole) = omega arith in
    ap (λ n. left_of (record { whole = n; gone = l.gone }) (c ∷ (first ++ rest)) x) same ∙ left-past first rest l (made_by c x)
