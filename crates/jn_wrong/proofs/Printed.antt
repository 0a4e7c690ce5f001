-- A show prints each file and each of its blocks once, in order, as they are there.
use Rattle.jn_wrong.proofs.Common.{◌≡◌, ◌≢◌, ◌⊎◌, inl, inr, ℕ, Bool, true, false, List, [], ◌∷◌, ◌++◌, map, Option, Some, None, is_some, refl, sym, ◌∙◌, ap, subst, arith, ◌&&◌, ◌||◌, nat_lt, nat_eq, list_all, list_any, nat_tests, FileNo, Tid, LockUnit, File, Block, file_eq, block_eq, file_tells, block_tells, unit_eq, unit_before, are_rising, AreNames, Printed, FileThere, PageStored, UnitLocked, print_unit, print_one, print_blocks, print_file, print_files, file_before, block_before, ArePrints, unit_printed, prints_unit, AreThere, PrintsAll}
use Rattle.jn_base.specs.declared.names.BlockNo.{BlockNo}
use Rattle.jn_locks.specs.Locks as locks
use Rattle.jn_locks.proofs.Orders.{unit_tells}

both : (a b : Bool) → a ≡ true → b ≡ true → (a && b) ≡ true
both a b h k = grind arith

first : (a b : Bool) → (a && b) ≡ true → a ≡ true
first a b h = grind arith

second : (a b : Bool) → (a && b) ≡ true → b ≡ true
second a b h = grind arith

left : (a b : Bool) → a ≡ true → (a || b) ≡ true
left a b h = grind arith

right : (a b : Bool) → b ≡ true → (a || b) ≡ true
right a b h = grind arith

-- ---- units in order

abbrev file_in : LockUnit → FileNo
file_in (File f) = f
file_in (Block f p) = f

-- all units of an earlier file come before all of a later one
earlier-file : (u v : LockUnit) → nat_lt (file_in u).0 (file_in v).0 ≡ true → unit_before u v ≡ true
unfolding locks.unit_before
earlier-file (File f) (File g) h = h
earlier-file (File f) (Block g q) h = grind (arith, nat_tests, h)
earlier-file (Block f p) (File g) h = h
earlier-file (Block f p) (Block g q) h = left (nat_lt f.0 g.0) _ h

file-first : (f : FileNo) (p : BlockNo) → unit_before (File f) (Block f p) ≡ true
unfolding locks.unit_before
file-first f p = grind (arith, nat_tests)

block-first : (f : FileNo) (p q : BlockNo) → nat_lt p.0 q.0 ≡ true → unit_before (Block f p) (Block f q) ≡ true
unfolding locks.unit_before
block-first f p q h = right (nat_lt f.0 f.0) _ (both (nat_eq f.0 f.0) (nat_lt p.0 q.0) (grind (arith, nat_tests)) h)

-- ---- lists that rise

abbrev are_behind : LockUnit → List Printed → Bool
are_behind u prints = list_all (λ (v : LockUnit). unit_before u v) (map unit_printed prints)

abbrev are_risen : List Printed → Bool
are_risen prints = are_rising unit_before (map unit_printed prints)

behind-both : (u : LockUnit) (xs ys : List Printed) → are_behind u xs ≡ true → are_behind u ys ≡ true → are_behind u (xs ++ ys) ≡ true
behind-both u [] ys h k = k
behind-both u (x ∷ xs) ys h k = both (unit_before u (unit_printed x)) (are_behind u (xs ++ ys)) (first (unit_before u (unit_printed x)) (are_behind u xs) h) (behind-both u xs ys (second (unit_before u (unit_printed x)) (are_behind u xs) h) k)

-- each of the first ones comes before all of the others
abbrev AllBefore : List Printed → List Printed → Type 0
AllBefore [] ys = Unit {0}
AllBefore (x ∷ xs) ys = (are_behind (unit_printed x) ys ≡ true) × AllBefore xs ys

risen-both : (xs ys : List Printed) → are_risen xs ≡ true → are_risen ys ≡ true → AllBefore xs ys → are_risen (xs ++ ys) ≡ true
risen-both [] ys h k l = k
risen-both (x ∷ xs) ys h k l = both (are_behind (unit_printed x) (xs ++ ys)) (are_risen (xs ++ ys)) (behind-both (unit_printed x) xs ys (first (are_behind (unit_printed x) xs) (are_risen xs) h) l.0)
    (risen-both xs ys (second (are_behind (unit_printed x) xs) (are_risen xs) h) k l.1)

there-both : (there : LockUnit → Option Printed) (xs ys : List Printed) → AreThere there xs → AreThere there ys → AreThere there (xs ++ ys)
there-both there [] ys h k = k
there-both there (x ∷ xs) ys h k = (h.0, there-both there xs ys h.1 k)

prints-left : (u : LockUnit) (xs ys : List Printed) → prints_unit u xs ≡ true → prints_unit u (xs ++ ys) ≡ true
prints-left u [] ys h = absurd (clash h)
  where
    clash : false ≡ true → ⊥
    clash z = cc
prints-left u (x ∷ xs) ys h = by (unit_eq (unit_printed x) u) h (prints-left u xs ys)
  where
    by : (b : Bool) → (b || prints_unit u xs) ≡ true → (prints_unit u xs ≡ true → prints_unit u (xs ++ ys) ≡ true) → (b || prints_unit u (xs ++ ys)) ≡ true
    by true k again = refl
    by false k again = again k

prints-right : (u : LockUnit) (xs ys : List Printed) → prints_unit u ys ≡ true → prints_unit u (xs ++ ys) ≡ true
prints-right u [] ys h = h
prints-right u (x ∷ xs) ys h = right (unit_eq (unit_printed x) u) (prints_unit u (xs ++ ys)) (prints-right u xs ys h)

-- ---- what there is to print

module _ (there : LockUnit → Option Printed) (of-unit : (u : LockUnit) (y : Printed) → there u ≡ Some y → unit_printed y ≡ u) where
  is-there : (u : LockUnit) (y : Printed) → there u ≡ Some y → there (unit_printed y) ≡ Some y
  is-there u y e = ap there (of-unit u y e) ∙ e

  same-unit : (u : LockUnit) → unit_eq u u ≡ true
  same-unit u = by (unit_tells u u)
    where
      by : ((unit_eq u u ≡ true) × (u ≡ u)) ⊎ ((unit_eq u u ≡ false) × (u ≢ u)) → unit_eq u u ≡ true
      by (inl t) = t.0
      by (inr t) = absurd (t.1 refl)

  prints-it : (u : LockUnit) (y : Printed) (more : List Printed) → there u ≡ Some y → prints_unit u (y ∷ more) ≡ true
  prints-it u y more e = left (unit_eq (unit_printed y) u) (prints_unit u more) (ap (λ (v : LockUnit). unit_eq v u) (of-unit u y e) ∙ same-unit u)

  -- ---- blocks

  module _ (f : FileNo) where
    abbrev its : List BlockNo → List Printed
    its ps = print_blocks there f ps

    abbrev with_one : Option Printed → List Printed → List Printed
    with_one o more = print_one o ++ more

    blocks-behind : (u : LockUnit) (ps : List BlockNo) → list_all (λ (p : BlockNo). unit_before u (Block f p)) ps ≡ true → are_behind u (its ps) ≡ true
    blocks-behind u [] h = refl
    blocks-behind u (p ∷ ps) h = by (there (Block f p)) refl (blocks-behind u ps (second (unit_before u (Block f p)) (list_all (λ (r : BlockNo). unit_before u (Block f r)) ps) h))
      where
        by : (o : Option Printed) → there (Block f p) ≡ o → are_behind u (its ps) ≡ true → are_behind u (with_one o (its ps)) ≡ true
        by None e again = again
        by (Some y) e again = both (unit_before u (unit_printed y)) (are_behind u (its ps))
            (ap (λ (v : LockUnit). unit_before u v) (of-unit (Block f p) y e) ∙ first (unit_before u (Block f p)) (list_all (λ (r : BlockNo). unit_before u (Block f r)) ps) h) again

    -- all blocks of the file come after what comes before each
    all-behind : (u : LockUnit) → ((p : BlockNo) → unit_before u (Block f p) ≡ true) → (ps : List BlockNo) → list_all (λ (p : BlockNo). unit_before u (Block f p)) ps ≡ true
    all-behind u h [] = refl
    all-behind u h (p ∷ ps) = both (unit_before u (Block f p)) (list_all (λ (r : BlockNo). unit_before u (Block f r)) ps) (h p) (all-behind u h ps)

    later-blocks : (p : BlockNo) (ps : List BlockNo) → list_all (λ (r : BlockNo). block_before p r) ps ≡ true → list_all (λ (r : BlockNo). unit_before (Block f p) (Block f r)) ps ≡ true
    later-blocks p [] h = refl
    later-blocks p (r ∷ ps) h = both (unit_before (Block f p) (Block f r)) (list_all (λ (z : BlockNo). unit_before (Block f p) (Block f z)) ps)
        (block-first f p r (first (block_before p r) (list_all (λ (z : BlockNo). block_before p z) ps) h)) (later-blocks p ps (second (block_before p r) (list_all (λ (z : BlockNo). block_before p z) ps) h))

    blocks-risen : (ps : List BlockNo) → are_rising block_before ps ≡ true → are_risen (its ps) ≡ true
    blocks-risen [] h = refl
    blocks-risen (p ∷ ps) h = by (there (Block f p)) refl (blocks-risen ps (second (list_all (λ (r : BlockNo). block_before p r) ps) (are_rising block_before ps) h))
      where
        by : (o : Option Printed) → there (Block f p) ≡ o → are_risen (its ps) ≡ true → are_risen (with_one o (its ps)) ≡ true
        by None e again = again
        by (Some y) e again = both (are_behind (unit_printed y) (its ps)) (are_risen (its ps))
            (ap (λ (v : LockUnit). are_behind v (its ps)) (of-unit (Block f p) y e)
            ∙ blocks-behind (Block f p) ps (later-blocks p ps (first (list_all (λ (r : BlockNo). block_before p r) ps) (are_rising block_before ps) h))) again

    blocks-there : (ps : List BlockNo) → AreThere there (its ps)
    blocks-there [] = tt
    blocks-there (p ∷ ps) = by (there (Block f p)) refl (blocks-there ps)
      where
        by : (o : Option Printed) → there (Block f p) ≡ o → AreThere there (its ps) → AreThere there (with_one o (its ps))
        by None e again = again
        by (Some y) e again = (is-there (Block f p) y e, again)

    blocks-before : (ps : List BlockNo) (ys : List Printed) → ((u : LockUnit) → file_in u ≡ f → are_behind u ys ≡ true) → AllBefore (its ps) ys
    blocks-before [] ys h = tt
    blocks-before (p ∷ ps) ys h = by (there (Block f p)) refl (blocks-before ps ys h)
      where
        by : (o : Option Printed) → there (Block f p) ≡ o → AllBefore (its ps) ys → AllBefore (with_one o (its ps)) ys
        by None e again = again
        by (Some y) e again = (h (unit_printed y) (ap file_in (of-unit (Block f p) y e)), again)

    blocks-printed : (p : BlockNo) (ps : List BlockNo) → list_any (λ (r : BlockNo). block_eq r p) ps ≡ true → is_some (there (Block f p)) ≡ true → prints_unit (Block f p) (its ps) ≡ true
    blocks-printed p [] k s = absurd (clash k)
      where
        clash : false ≡ true → ⊥
        clash z = cc
    blocks-printed p (r ∷ ps) k s = by (block_tells r p) k (λ z. blocks-printed p ps z s)
      where
        there-so : (o : Option Printed) → there (Block f p) ≡ o → is_some o ≡ true → prints_unit (Block f p) (with_one o (its ps)) ≡ true
        there-so None e z = absurd (clash z)
          where
            clash : false ≡ true → ⊥
            clash y = cc
        there-so (Some y) e z = prints-it (Block f p) y (its ps) e

        by : ((block_eq r p ≡ true) × (r ≡ p)) ⊎ ((block_eq r p ≡ false) × (r ≢ p)) → (block_eq r p || list_any (λ (z : BlockNo). block_eq z p) ps) ≡ true
            → (list_any (λ (z : BlockNo). block_eq z p) ps ≡ true → prints_unit (Block f p) (its ps) ≡ true) → prints_unit (Block f p) (with_one (there (Block f r)) (its ps)) ≡ true
        by (inl t) z again = ap (λ (i : BlockNo). prints_unit (Block f p) (with_one (there (Block f i)) (its ps))) t.1 ∙ there-so (there (Block f p)) refl s
        by (inr t) z again = prints-right (Block f p) (print_one (there (Block f r))) (its ps) (again (ap (λ (b : Bool). b || list_any (λ (y : BlockNo). block_eq y p) ps) (sym t.0) ∙ z))

  -- ---- files

  module _ (blocks : FileNo → List BlockNo) (are-blocks : (f : FileNo) → there (File f) ≡ Some (FileThere f) → AreNames block_eq block_before (λ p. there (Block f p)) (blocks f)) where
    abbrev one : FileNo → List Printed
    one f = print_file (there (File f)) (its f (blocks f))

    abbrev all : List FileNo → List Printed
    all fs = print_files there blocks fs

    -- a file that is printed is the one that was asked for
    is-file : (f g : FileNo) → there (File f) ≡ Some (FileThere g) → there (File f) ≡ Some (FileThere f)
    is-file f g e = e ∙ ap (λ (h : FileNo). Some (FileThere h)) (ap file_in (of-unit (File f) (FileThere g) e))

    file-risen : (f : FileNo) → are_risen (one f) ≡ true
    file-risen f = by (there (File f)) refl
      where
        by : (o : Option Printed) → there (File f) ≡ o → are_risen (print_file o (its f (blocks f))) ≡ true
        by None e = refl
        by (Some (FileThere g)) e = both (are_behind (File g) (its f (blocks f))) (are_risen (its f (blocks f)))
            (ap (λ (u : LockUnit). are_behind u (its f (blocks f))) (of-unit (File f) (FileThere g) e) ∙ blocks-behind f (File f) (blocks f) (all-behind f (File f) (λ p. file-first f p) (blocks f)))
            (blocks-risen f (blocks f) (are-blocks f (is-file f g e)).rising)
        by (Some (PageStored g p bytes)) e = refl
        by (Some (UnitLocked u T)) e = refl

    file-there : (f : FileNo) → AreThere there (one f)
    file-there f = by (there (File f)) refl
      where
        by : (o : Option Printed) → there (File f) ≡ o → AreThere there (print_file o (its f (blocks f)))
        by None e = tt
        by (Some (FileThere g)) e = (is-there (File f) (FileThere g) e, blocks-there f (blocks f))
        by (Some (PageStored g p bytes)) e = (is-there (File f) (PageStored g p bytes) e, tt)
        by (Some (UnitLocked u T)) e = (is-there (File f) (UnitLocked u T) e, tt)

    file-behind : (u : LockUnit) (f : FileNo) → nat_lt (file_in u).0 f.0 ≡ true → are_behind u (one f) ≡ true
    file-behind u f h = by (there (File f)) refl
      where
        of-file : (v : LockUnit) → v ≡ File f → unit_before u v ≡ true
        of-file v e = earlier-file u v (ap (λ (w : LockUnit). nat_lt (file_in u).0 (file_in w).0) e ∙ h)

        by : (o : Option Printed) → there (File f) ≡ o → are_behind u (print_file o (its f (blocks f))) ≡ true
        by None e = refl
        by (Some (FileThere g)) e = both (unit_before u (File g)) (are_behind u (its f (blocks f))) (of-file (File g) (of-unit (File f) (FileThere g) e))
            (blocks-behind f u (blocks f) (all-behind f u (λ p. earlier-file u (Block f p) h) (blocks f)))
        by (Some (PageStored g p bytes)) e = both (unit_before u (Block g p)) true (of-file (Block g p) (of-unit (File f) (PageStored g p bytes) e)) refl
        by (Some (UnitLocked v T)) e = both (unit_before u v) true (of-file v (of-unit (File f) (UnitLocked v T) e)) refl

    file-before-all : (f : FileNo) (ys : List Printed) → ((u : LockUnit) → file_in u ≡ f → are_behind u ys ≡ true) → AllBefore (one f) ys
    file-before-all f ys h = by (there (File f)) refl
      where
        by : (o : Option Printed) → there (File f) ≡ o → AllBefore (print_file o (its f (blocks f))) ys
        by None e = tt
        by (Some (FileThere g)) e = (h (File g) (ap file_in (of-unit (File f) (FileThere g) e)), blocks-before f (blocks f) ys h)
        by (Some (PageStored g p bytes)) e = (h (Block g p) (ap file_in (of-unit (File f) (PageStored g p bytes) e)), tt)
        by (Some (UnitLocked u T)) e = (h u (ap file_in (of-unit (File f) (UnitLocked u T) e)), tt)

    files-behind : (u : LockUnit) (fs : List FileNo) → list_all (λ (g : FileNo). nat_lt (file_in u).0 g.0) fs ≡ true → are_behind u (all fs) ≡ true
    files-behind u [] h = refl
    files-behind u (f ∷ fs) h = behind-both u (one f) (all fs) (file-behind u f (first (nat_lt (file_in u).0 f.0) (list_all (λ (g : FileNo). nat_lt (file_in u).0 g.0) fs) h))
        (files-behind u fs (second (nat_lt (file_in u).0 f.0) (list_all (λ (g : FileNo). nat_lt (file_in u).0 g.0) fs) h))

    files-risen : (fs : List FileNo) → are_rising file_before fs ≡ true → are_risen (all fs) ≡ true
    files-risen [] h = refl
    files-risen (f ∷ fs) h = risen-both (one f) (all fs) (file-risen f) (files-risen fs (second (list_all (λ (g : FileNo). file_before f g) fs) (are_rising file_before fs) h))
        (file-before-all f (all fs) (λ u e. files-behind u fs (ap (λ (e : FileNo). list_all (λ (g : FileNo). nat_lt e.0 g.0) fs) e ∙ first (list_all (λ (g : FileNo). file_before f g) fs) (are_rising file_before fs) h)))

    files-there : (fs : List FileNo) → AreThere there (all fs)
    files-there [] = tt
    files-there (f ∷ fs) = there-both there (one f) (all fs) (file-there f) (files-there fs)

    -- whatever is printed of a file is printed of all
    among : (u : LockUnit) (f : FileNo) → prints_unit u (one f) ≡ true → (fs : List FileNo) → list_any (λ (g : FileNo). file_eq g f) fs ≡ true → prints_unit u (all fs) ≡ true
    among u f h [] k = absurd (clash k)
      where
        clash : false ≡ true → ⊥
        clash z = cc
    among u f h (g ∷ fs) k = by (file_tells g f) k (among u f h fs)
      where
        by : ((file_eq g f ≡ true) × (g ≡ f)) ⊎ ((file_eq g f ≡ false) × (g ≢ f)) → (file_eq g f || list_any (λ (g : FileNo). file_eq g f) fs) ≡ true
            → (list_any (λ (g : FileNo). file_eq g f) fs ≡ true → prints_unit u (all fs) ≡ true) → prints_unit u (one g ++ all fs) ≡ true
        by (inl t) z again = prints-left u (one g) (all fs) (ap (λ (e : FileNo). prints_unit u (one e)) t.1 ∙ h)
        by (inr t) z again = prints-right u (one g) (all fs) (again (ap (λ (b : Bool). b || list_any (λ (g : FileNo). file_eq g f) fs) (sym t.0) ∙ z))

    file-printed : (f : FileNo) → is_some (there (File f)) ≡ true → prints_unit (File f) (one f) ≡ true
    file-printed f h = by (there (File f)) refl h
      where
        by : (o : Option Printed) → there (File f) ≡ o → is_some o ≡ true → prints_unit (File f) (print_file o (its f (blocks f))) ≡ true
        by None e z = absurd (clash z)
          where
            clash : false ≡ true → ⊥
            clash y = cc
        by (Some (FileThere g)) e z = prints-it (File f) (FileThere g) (its f (blocks f)) e
        by (Some (PageStored g p bytes)) e z = prints-it (File f) (PageStored g p bytes) [] e
        by (Some (UnitLocked u T)) e z = prints-it (File f) (UnitLocked u T) [] e

    block-printed : (f : FileNo) (p : BlockNo) → there (File f) ≡ Some (FileThere f) → is_some (there (Block f p)) ≡ true → prints_unit (Block f p) (one f) ≡ true
    block-printed f p e h = ap (λ (o : Option Printed). prints_unit (Block f p) (print_file o (its f (blocks f)))) e
        ∙ prints-right (Block f p) (FileThere f ∷ []) (its f (blocks f)) (blocks-printed f p (blocks f) ((are-blocks f e).each p ∙ h) h)

    files-printed : (fs : List FileNo) → AreNames file_eq file_before (λ f. there (File f)) fs → PrintsAll there (all fs)
    files-printed fs names = record {
      rising = files-risen fs names.rising;
      each = files-there fs;
      files = λ f h. among (File f) f (file-printed f h) fs (names.each f ∙ h);
      blocks = λ f p e h. among (Block f p) f (block-printed f p e h) fs (names.each f ∙ ap is_some e);
    }

  pub all-printed : (prints : List Printed) → ArePrints there prints → PrintsAll there prints
  all-printed prints are = subst (PrintsAll there) (sym are.printed) (files-printed are.blocks are.are_blocks are.files are.are_files)

-- ---- a server's files

pub unit-of : (u : LockUnit) (held : Option Tid) (content : Option (List ℕ)) (y : Printed) → print_unit u held content ≡ Some y → unit_printed y ≡ u
unit-of u (Some T) content y e = ap unit_printed (sym (some e))
  where
    some : Some (UnitLocked u T) ≡ Some y → UnitLocked u T ≡ y
    some k = cc
unit-of (File f) None (Some content) y e = ap unit_printed (sym (some e))
  where
    some : Some (FileThere f) ≡ Some y → FileThere f ≡ y
    some k = cc
unit-of (Block f p) None (Some bytes) y e = ap unit_printed (sym (some e))
  where
    some : Some (PageStored f p bytes) ≡ Some y → PageStored f p bytes ≡ y
    some k = cc
unit-of (File f) None None y e = absurd (no' e)
  where
    no' : None ≡ Some y → ⊥
    no' k = cc
unit-of (Block f p) None None y e = absurd (no' e)
  where
    no' : None ≡ Some y → ⊥
    no' k = cc
