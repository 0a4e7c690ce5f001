-- The units that an operation wants, and those that its intention writes.
use Rattle.jn_system.proofs.Common.{◌≡◌, ◌≢◌, ◌⊎◌, inl, inr, ℕ, zero, suc, Bool, true, false, List, [], ◌∷◌, ◌++◌, take, drop, Some, refl, sym, ◌∙◌, ap, subst, arith, ◌||◌, if◌then◌else◌, filter, FileNo, LockUnit, File, Block, Op, file_of, Intention, First, Kept, MadeFresh, TakenAway, CutFrom, as_first, entry, stays, intention_for, with_intention, cut_again, front, Mode, Read, IntentionWrite, Commit, is_unit, unit_eq, unit_before, unit_tells, wants_of, commit_wants, units_for, with_unit, with_units, written_unit, commit_units, HoldsForCommit, file_unit}
use Rattle.jn_base.specs.declared.op.Op.TheVariants as ops

-- ---- units put in order

with_unit-is : (v : LockUnit) (us : List LockUnit) (u : LockUnit) → is_unit (with_unit v us) u ≡ (unit_eq v u || is_unit us u)
with_unit-is v [] u = refl
with_unit-is v (x ∷ xs) u = by (unit_before v x) (unit_eq v x) refl (with_unit-is v xs u)
  where
    by : (b c : Bool) → unit_eq v x ≡ c → is_unit (with_unit v xs) u ≡ (unit_eq v u || is_unit xs u)
        → is_unit (if b then v ∷ x ∷ xs else (if c then x ∷ xs else x ∷ with_unit v xs)) u ≡ (unit_eq v u || (unit_eq x u || is_unit xs u))
    by true c e h = refl
    by false true e h = grind (arith, unit_tells v x)
    by false false e h = grind arith

pub with_units-is : (us vs : List LockUnit) (u : LockUnit) → is_unit (with_units us vs) u ≡ (is_unit us u || is_unit vs u)
with_units-is [] vs u = refl
with_units-is (x ∷ xs) vs u = with_units-is xs (with_unit x vs) u ∙ ap (λ b. is_unit xs u || b) (with_unit-is x vs u) ∙ turned (is_unit xs u) (unit_eq x u) (is_unit vs u)
  where
    turned : (a b c : Bool) → (a || (b || c)) ≡ ((b || a) || c)
    turned a b c = grind arith

pub commit_wants-are : (us : List LockUnit) (u : LockUnit) → is_unit (units_for Commit (commit_wants us)) u ≡ is_unit us u
commit_wants-are [] u = refl
commit_wants-are (x ∷ xs) u = ap (λ b. unit_eq x u || b) (commit_wants-are xs u)

-- ---- what an operation wants

wants-one : (f : FileNo) (modes : Mode) (u : LockUnit) → is_unit (File f ∷ []) u ≡ true → File f ≡ u
wants-one f m u h = grind (arith, unit_tells (File f) u)

-- each unit that it wants is of its file
pub wants-file : (op : Op) (fit : Bool) (m : Mode) (u : LockUnit) → is_unit (units_for m (wants_of op fit)) u ≡ true → file_unit u ≡ File (file_of op)
wants-file op false Read u h = ap file_unit (sym (wants-one (file_of op) Read u h))
wants-file op false IntentionWrite u h = absurd (grind arith)
wants-file op false Commit u h = absurd (grind arith)
wants-file (ops.Read f p) true Read u h = by (unit_tells (File f) u) (unit_tells (Block f p) u)
  where
    by : ((unit_eq (File f) u ≡ true) × (File f ≡ u)) ⊎ ((unit_eq (File f) u ≡ false) × (File f ≢ u)) → ((unit_eq (Block f p) u ≡ true) × (Block f p ≡ u)) ⊎ ((unit_eq (Block f p) u ≡ false) × (Block f p ≢ u)) → file_unit u ≡ File f
    by (inl a) c = ap file_unit (sym a.1)
    by (inr a) (inl c) = ap file_unit (sym c.1)
    by (inr a) (inr c) = absurd (grind (arith, a.0, c.0, h))
wants-file (ops.Read f p) true IntentionWrite u h = absurd (grind arith)
wants-file (ops.Read f p) true Commit u h = absurd (grind arith)
wants-file (ops.Write f p bytes) true Read u h = ap file_unit (sym (wants-one f Read u h))
wants-file (ops.Write f p bytes) true IntentionWrite u h = ap file_unit (sym (is u h))
  where
    is : (u : LockUnit) → is_unit (Block f p ∷ []) u ≡ true → Block f p ≡ u
    is u h = grind (arith, unit_tells (Block f p) u)
wants-file (ops.Write f p bytes) true Commit u h = absurd (grind arith)
wants-file (ops.Create f) true Read u h = ap file_unit (sym (wants-one f Read u h))
wants-file (ops.Create f) true IntentionWrite u h = ap file_unit (sym (wants-one f Read u h))
wants-file (ops.Create f) true Commit u h = absurd (grind arith)
wants-file (ops.Remove f) true Read u h = ap file_unit (sym (wants-one f Read u h))
wants-file (ops.Remove f) true IntentionWrite u h = ap file_unit (sym (wants-one f Read u h))
wants-file (ops.Remove f) true Commit u h = absurd (grind arith)
wants-file (ops.Cut f n) true Read u h = ap file_unit (sym (wants-one f Read u h))
wants-file (ops.Cut f n) true IntentionWrite u h = ap file_unit (sym (wants-one f Read u h))
wants-file (ops.Cut f n) true Commit u h = absurd (grind arith)

same-unit : (u : LockUnit) → unit_eq u u ≡ true
same-unit u = grind (arith, unit_tells u u)

-- and its file it wants to read
pub reads-file : (op : Op) (fit : Bool) → is_unit (units_for Read (wants_of op fit)) (File (file_of op)) ≡ true
reads-file op false = grind (arith, same-unit (File (file_of op)))
reads-file (ops.Read f p) true = grind (arith, same-unit (File f))
reads-file (ops.Write f p bytes) true = grind (arith, same-unit (File f))
reads-file (ops.Create f) true = grind (arith, same-unit (File f))
reads-file (ops.Remove f) true = grind (arith, same-unit (File f))
reads-file (ops.Cut f n) true = grind (arith, same-unit (File f))

-- ---- what its intention writes

pub writes-wanted : (op : Op) (list : List Intention) (new : Intention) → intention_for list op ≡ Some new → is_unit (units_for IntentionWrite (wants_of op true)) (written_unit new.what new.file new.block) ≡ true
writes-wanted (ops.Create f) list new h = subst (λ (i : Intention). is_unit (File f ∷ []) (written_unit i.what i.file i.block) ≡ true) (is _ new h) (grind (arith, same-unit (File f)))
  where
    is : (i j : Intention) → Some i ≡ Some j → i ≡ j
    is i j e = cc
writes-wanted (ops.Remove f) list new h = subst (λ (i : Intention). is_unit (File f ∷ []) (written_unit i.what i.file i.block) ≡ true) (is _ new h) (grind (arith, same-unit (File f)))
  where
    is : (i j : Intention) → Some i ≡ Some j → i ≡ j
    is i j e = cc
writes-wanted (ops.Cut f n) list new h = subst (λ (i : Intention). is_unit (File f ∷ []) (written_unit i.what i.file i.block) ≡ true) (is _ new h) (by (as_first (entry list f zero)))
  where
    is : (i j : Intention) → Some i ≡ Some j → i ≡ j
    is i j e = cc

    by : (x : First) → is_unit (File f ∷ []) (written_unit (cut_again x f n).what (cut_again x f n).file (cut_again x f n).block) ≡ true
    by Kept = grind (arith, same-unit (File f))
    by MadeFresh = grind (arith, same-unit (File f))
    by TakenAway = grind (arith, same-unit (File f))
    by (CutFrom k) = grind (arith, same-unit (File f))
writes-wanted (ops.Read f p) list new h = absurd (grind arith)
writes-wanted (ops.Write f p bytes) list new h = subst (λ (i : Intention). is_unit (Block f p ∷ []) (written_unit i.what i.file i.block) ≡ true) (is _ new h) (grind (arith, same-unit (Block f p)))
  where
    is : (i j : Intention) → Some i ≡ Some j → i ≡ j
    is i j e = cc

-- ---- a list with one more intention

units-append : (a b : List Intention) (u : LockUnit) → is_unit (commit_units (a ++ b)) u ≡ (is_unit (commit_units a) u || is_unit (commit_units b) u)
units-append [] b u = refl
units-append (i ∷ a) b u = ap (λ c. unit_eq (written_unit i.what i.file i.block) u || c) (units-append a b u) ∙ joined (unit_eq (written_unit i.what i.file i.block) u) (is_unit (commit_units a) u) (is_unit (commit_units b) u)
  where
    joined : (x y z : Bool) → (x || (y || z)) ≡ ((x || y) || z)
    joined x y z = grind arith

units-take : (n : ℕ) (a : List Intention) (u : LockUnit) → is_unit (commit_units (take n a)) u ≡ true → HoldsForCommit a u
units-take zero a u h = absurd (grind arith)
units-take (suc n) [] u h = h
units-take (suc n) (i ∷ a) u h = grind (arith, units-take n a u)

units-drop : (n : ℕ) (a : List Intention) (u : LockUnit) → is_unit (commit_units (drop n a)) u ≡ true → HoldsForCommit a u
units-drop zero a u h = h
units-drop (suc n) [] u h = h
units-drop (suc n) (i ∷ a) u h = grind (arith, units-drop n a u)

units-filter : (keep : Intention → Bool) (a : List Intention) (u : LockUnit) → is_unit (commit_units (filter keep a)) u ≡ true → HoldsForCommit a u
units-filter keep [] u h = h
units-filter keep (i ∷ a) u h = by (keep i) h (units-filter keep a u)
  where
    by : (b : Bool) → is_unit (commit_units (if b then i ∷ filter keep a else filter keep a)) u ≡ true → (is_unit (commit_units (filter keep a)) u ≡ true → HoldsForCommit a u) → HoldsForCommit (i ∷ a) u
    by true e on = grind (arith, on)
    by false e on = grind (arith, on)

pub units-more : (op : Op) (list : List Intention) (new : Intention) (u : LockUnit) → HoldsForCommit (with_intention op list new) u
    → (written_unit new.what new.file new.block ≡ u) ⊎ HoldsForCommit list u
units-more op list new u h = split (sym (units-append (take n kept) (new ∷ drop n kept) u) ∙ h)
  where
    kept : List Intention
    kept = filter (λ (i : Intention). stays op i) list

    n : ℕ
    n = front new kept

    of_kept : HoldsForCommit kept u → HoldsForCommit list u
    of_kept = units-filter (λ (i : Intention). stays op i) list u

    later : (unit_eq (written_unit new.what new.file new.block) u || is_unit (commit_units (drop n kept)) u) ≡ true → (written_unit new.what new.file new.block ≡ u) ⊎ HoldsForCommit list u
    later e = by (unit_tells (written_unit new.what new.file new.block) u)
      where
        by : ((unit_eq (written_unit new.what new.file new.block) u ≡ true) × (written_unit new.what new.file new.block ≡ u)) ⊎ ((unit_eq (written_unit new.what new.file new.block) u ≡ false) × (written_unit new.what new.file new.block ≢ u))
            → (written_unit new.what new.file new.block ≡ u) ⊎ HoldsForCommit list u
        by (inl p) = inl p.1
        by (inr p) = inr (of_kept (units-drop n kept u (grind (arith, p.0, e))))

    split : (is_unit (commit_units (take n kept)) u || (unit_eq (written_unit new.what new.file new.block) u || is_unit (commit_units (drop n kept)) u)) ≡ true
        → (written_unit new.what new.file new.block ≡ u) ⊎ HoldsForCommit list u
    split e = by (is_unit (commit_units (take n kept)) u) refl e
      where
        by : (b : Bool) → is_unit (commit_units (take n kept)) u ≡ b → (b || (unit_eq (written_unit new.what new.file new.block) u || is_unit (commit_units (drop n kept)) u)) ≡ true
            → (written_unit new.what new.file new.block ≡ u) ⊎ HoldsForCommit list u
        by true f g = inr (of_kept (units-take n kept u f))
        by false f g = later g
