-- What is printed shows the files, where they are as found at each unit that isn't locked.
use Rattle.jn_system_reports.proofs.Common.{◌≡◌, ◌⊎◌, inl, inr, ℕ, Bool, true, false, List, [], ◌∷◌, Option, Some, None, is_some, refl, sym, ◌∙◌, ap, subst, arith, ◌&&◌, ◌||◌, map, list_any, ServerNo, FileNo, BlockNo, Tid, LockUnit, File, Block, server_eq, file_eq, block_eq, server_tells, file_tells, block_tells, Files, AllFiles, When, Text, Line, stable, commit_holder, says, IsAsIn, AllAsIn, prints_file, accounts_file, accounts_block, is_locked, ShowsFiles, file_unit, World, Memory, Printed, FileThere, PageStored, UnitLocked, print_unit, print_one, print_blocks, print_file, print_files, text_printed, prints_of, IsPrinted}
use Rattle.jn_system_reports.proofs.Reporting.Lists.{In, in-first, in-second, in-either}

some : {A : Type 0} {a b : A} → Some a ≡ Some b → a ≡ b
some e = cc

none : {A : Type 0} {a : A} → None ≡ Some a → ⊥
none e = cc

not-both : (b : Bool) → b ≡ true → b ≡ false → ⊥
not-both b e f = grind arith

-- ---- names and lines

in-names : {A : Type 0} (eq : A → A → Bool) → ((b a : A) → eq b a ≡ true → b ≡ a) → (names : List A) (a : A) → list_any (λ b. eq b a) names ≡ true → In a names
in-names eq same [] a h = absurd (not-both true refl (sym h))
in-names {A} eq same (b ∷ names) a h = by (eq b a) refl h (in-names eq same names a)
  where
    by : (t : Bool) → eq b a ≡ t → (t || list_any (λ c. eq c a) names) ≡ true → (list_any (λ c. eq c a) names ≡ true → In a names) → (b ≡ a) ⊎ In a names
    by true e k on = inl (same b a e)
    by false e k on = inr (on k)

same-file : (a b : FileNo) → file_eq a b ≡ true → a ≡ b
same-file a b h = grind (arith, file_tells a b)

same-block : (a b : BlockNo) → block_eq a b ≡ true → a ≡ b
same-block a b h = grind (arith, block_tells a b)

-- lines of these texts, all at one place
abbrev pub stand : When → List Text → List Line
stand when texts = map (λ (text : Text). record { when = when; text = text }) texts

module _ (when : When) (test : Text → Bool) where
  -- a text that passes a test
  pub record Passes (texts : List Text) : Type 0 where
    pub text : Text
    pub is_in : In text texts
    pub passes : test text ≡ true

  pub says-it : (texts : List Text) (y : Text) → In y texts → test y ≡ true → says test (stand when texts) ≡ true
  says-it (x ∷ texts) y (inl e) h = ap (λ (b : Bool). b || says test (stand when texts)) (ap test e ∙ h)
  says-it (x ∷ texts) y (inr k) h = ap (λ (b : Bool). test x || b) (says-it texts y k h) ∙ any (test x)
    where
      any : (b : Bool) → (b || true) ≡ true
      any b = grind arith
  says-it [] y k h = absurd k

  pub said-it : (texts : List Text) → says test (stand when texts) ≡ true → Passes texts
  said-it [] h = absurd (not-both true refl (sym h))
  said-it (x ∷ texts) h = by (test x) refl h (said-it texts)
    where
      by : (b : Bool) → test x ≡ b → (b || says test (stand when texts)) ≡ true → (says test (stand when texts) ≡ true → Passes texts) → Passes (x ∷ texts)
      by true e k on = record { text = x; is_in = inl refl; passes = e }
      by false e k on = let q = on k in record { text = q.text; is_in = inr q.is_in; passes = q.passes }

pub all-as : (files : AllFiles) (when : When) (texts : List Text) → ((y : Text) → In y texts → IsAsIn files y) → AllAsIn files (stand when texts)
all-as files when [] h = tt
all-as files when (x ∷ texts) h = (h x (inl refl), all-as files when texts (λ y k. h y (inr k)))

-- a print, by its text
pub record PrintOf (s : ServerNo) (prints : List Printed) (y : Text) : Type 0 where
  pub print : Printed
  pub is_in : In print prints
  pub text : text_printed s print ≡ y

pub in-texts : (s : ServerNo) (prints : List Printed) (x : Printed) → In x prints → In (text_printed s x) (map (text_printed s) prints)
in-texts s (y ∷ prints) x (inl e) = inl (ap (text_printed s) e)
in-texts s (y ∷ prints) x (inr k) = inr (in-texts s prints x k)
in-texts s [] x k = absurd k

pub from-texts : (s : ServerNo) (prints : List Printed) (y : Text) → In y (map (text_printed s) prints) → PrintOf s prints y
from-texts s [] y k = absurd k
from-texts s (x ∷ prints) y (inl e) = record { print = x; is_in = inl refl; text = e }
from-texts s (x ∷ prints) y (inr k) = let q = from-texts s prints y k in record { print = q.print; is_in = inr q.is_in; text = q.text }

-- ---- what is printed of a unit

abbrev PrintSo : LockUnit → Option Tid → Option (List ℕ) → Printed → Type 0
PrintSo u o b (FileThere f) = (u ≡ File f) × ((o ≡ None) × (is_some b ≡ true))
PrintSo u o b (PageStored f p bytes) = (u ≡ Block f p) × ((o ≡ None) × (b ≡ Some bytes))
PrintSo u o b (UnitLocked v T) = Unit {0}

print-so : (u : LockUnit) (o : Option Tid) (b : Option (List ℕ)) (x : Printed) → print_unit u o b ≡ Some x → PrintSo u o b x
print-so u (Some T) b x e = subst (λ (y : Printed). PrintSo u (Some T) b y) (some e) tt
print-so (File f) None (Some content) x e = subst (λ (y : Printed). PrintSo (File f) None (Some content) y) (some e) (refl, (refl, refl))
print-so (Block f p) None (Some bytes) x e = subst (λ (y : Printed). PrintSo (Block f p) None (Some bytes) y) (some e) (refl, (refl, refl))
print-so (File f) None None x e = absurd (none e)
print-so (Block f p) None None x e = absurd (none e)

no-print : (u : LockUnit) (o : Option Tid) (b : Option (List ℕ)) → print_unit u o b ≡ None → (o ≡ None) × (b ≡ None)
no-print u (Some T) b e = absurd (none (sym e))
no-print u None None e = (refl, refl)
no-print (File f) None (Some content) e = absurd (none (sym e))
no-print (Block f p) None (Some bytes) e = absurd (none (sym e))

print-free : (s : ServerNo) (u : LockUnit) (b : Option (List ℕ)) (x : Printed) → print_unit u None b ≡ Some x → is_locked (text_printed s x) ≡ false
print-free s (File f) (Some content) x e = subst (λ (y : Printed). is_locked (text_printed s y) ≡ false) (some e) refl
print-free s (Block f p) (Some bytes) x e = subst (λ (y : Printed). is_locked (text_printed s y) ≡ false) (some e) refl
print-free s (File f) None x e = absurd (none e)
print-free s (Block f p) None x e = absurd (none e)

file-itself : (s : ServerNo) (f : FileNo) → (server_eq s s && file_eq f f) ≡ true
file-itself s f = grind (arith, server_tells s s, file_tells f f)

block-itself : (s : ServerNo) (f : FileNo) (p : BlockNo) → (server_eq s s && (file_eq f f && block_eq p p)) ≡ true
block-itself s f p = grind (arith, server_tells s s, file_tells f f, block_tells p p)

accounts-file : (s : ServerNo) (f : FileNo) (o : Option Tid) (b : Option (List ℕ)) (x : Printed) → print_unit (File f) o b ≡ Some x → accounts_file s f (text_printed s x) ≡ true
accounts-file s f (Some T) b x e = subst (λ (y : Printed). accounts_file s f (text_printed s y) ≡ true) (some e) (file-itself s f)
accounts-file s f None (Some content) x e = subst (λ (y : Printed). accounts_file s f (text_printed s y) ≡ true) (some e) (file-itself s f)
accounts-file s f None None x e = absurd (none e)

accounts-block : (s : ServerNo) (f : FileNo) (p : BlockNo) (o : Option Tid) (b : Option (List ℕ)) (x : Printed) → print_unit (Block f p) o b ≡ Some x → accounts_block s f p (text_printed s x) ≡ true
accounts-block s f p (Some T) b x e = subst (λ (y : Printed). accounts_block s f p (text_printed s y) ≡ true) (some e) (block-itself s f p)
accounts-block s f p None (Some bytes) x e = subst (λ (y : Printed). accounts_block s f p (text_printed s y) ≡ true) (some e) (block-itself s f p)
accounts-block s f p None None x e = absurd (none e)

-- ---- what stands in a print

module _ (prints : LockUnit → Option Printed) where
  in-one : (o : Option Printed) (x : Printed) → o ≡ Some x → In x (print_one o)
  in-one (Some y) x e = inl (some e)
  in-one None x e = absurd (none e)

  from-one : (o : Option Printed) (x : Printed) → In x (print_one o) → o ≡ Some x
  from-one (Some y) x (inl e) = ap (λ (z : Printed). Some z) e
  from-one (Some y) x (inr k) = absurd k
  from-one None x k = absurd k

  in-blocks : (f : FileNo) (ps : List BlockNo) (p : BlockNo) (x : Printed) → In p ps → prints (Block f p) ≡ Some x → In x (print_blocks prints f ps)
  in-blocks f (q ∷ ps) p x (inl e) h = in-first x (print_one (prints (Block f q))) (print_blocks prints f ps) (in-one (prints (Block f q)) x (ap (λ (r : BlockNo). prints (Block f r)) e ∙ h))
  in-blocks f (q ∷ ps) p x (inr k) h = in-second x (print_one (prints (Block f q))) (print_blocks prints f ps) (in-blocks f ps p x k h)
  in-blocks f [] p x k h = absurd k

  record OfBlock (f : FileNo) (x : Printed) : Type 0 where
    block : BlockNo
    is : prints (Block f block) ≡ Some x

  from-blocks : (f : FileNo) (ps : List BlockNo) (x : Printed) → In x (print_blocks prints f ps) → OfBlock f x
  from-blocks f [] x k = absurd k
  from-blocks f (p ∷ ps) x k = by (in-either x (print_one (prints (Block f p))) (print_blocks prints f ps) k) (from-blocks f ps x)
    where
      by : In x (print_one (prints (Block f p))) ⊎ In x (print_blocks prints f ps) → (In x (print_blocks prints f ps) → OfBlock f x) → OfBlock f x
      by (inl j) on = record { block = p; is = from-one (prints (Block f p)) x j }
      by (inr j) on = on j

  in-file : (o : Option Printed) (inside : List Printed) (x : Printed) → o ≡ Some x → In x (print_file o inside)
  in-file (Some (FileThere f)) inside x e = inl (some e)
  in-file (Some (PageStored f p bytes)) inside x e = inl (some e)
  in-file (Some (UnitLocked u T)) inside x e = inl (some e)
  in-file None inside x e = absurd (none e)

  module _ (blocks : FileNo → List BlockNo) where
    abbrev its : FileNo → List Printed
    its f = print_file (prints (File f)) (print_blocks prints f (blocks f))

    in-print : (fs : List FileNo) (f : FileNo) (x : Printed) → In f fs → prints (File f) ≡ Some x → In x (print_files prints blocks fs)
    in-print (g ∷ fs) f x (inl e) h = in-first x (its g) (print_files prints blocks fs) (in-file (prints (File g)) (print_blocks prints g (blocks g)) x (ap (λ (k : FileNo). prints (File k)) e ∙ h))
    in-print (g ∷ fs) f x (inr k) h = in-second x (its g) (print_files prints blocks fs) (in-print fs f x k h)
    in-print [] f x k h = absurd k

    in-print-block : (fs : List FileNo) (f : FileNo) (x : Printed) → In f fs → prints (File f) ≡ Some (FileThere f) → In x (print_blocks prints f (blocks f)) → In x (print_files prints blocks fs)
    in-print-block (g ∷ fs) f x (inl e) h j = in-first x (its g) (print_files prints blocks fs) (subst (λ (k : FileNo). In x (its k)) (sym e) (subst (λ (o : Option Printed). In x (print_file o (print_blocks prints f (blocks f)))) (sym h) (inr j)))
    in-print-block (g ∷ fs) f x (inr k) h j = in-second x (its g) (print_files prints blocks fs) (in-print-block fs f x k h j)
    in-print-block [] f x k h j = absurd k

    -- the file of a block is there
    abbrev HasFile : LockUnit → Type 0
    HasFile (File f) = Unit {0}
    HasFile (Block f p) = (g : FileNo) × (prints (File f) ≡ Some (FileThere g))

    -- the unit of which something is printed
    record Source (x : Printed) : Type 0 where
      unit : LockUnit
      is : prints unit ≡ Some x
      file : HasFile unit

    from-file : (f : FileNo) (o : Option Printed) (x : Printed) → prints (File f) ≡ o → In x (print_file o (print_blocks prints f (blocks f))) → Source x
    from-file f (Some (FileThere g)) x e (inl k) = record { unit = File f; is = e ∙ ap (λ (z : Printed). Some z) k; file = tt }
    from-file f (Some (FileThere g)) x e (inr k) = let b = from-blocks f (blocks f) x k in record { unit = Block f b.block; is = b.is; file = (g, e) }
    from-file f (Some (PageStored g p bytes)) x e (inl k) = record { unit = File f; is = e ∙ ap (λ (z : Printed). Some z) k; file = tt }
    from-file f (Some (PageStored g p bytes)) x e (inr k) = absurd k
    from-file f (Some (UnitLocked u T)) x e (inl k) = record { unit = File f; is = e ∙ ap (λ (z : Printed). Some z) k; file = tt }
    from-file f (Some (UnitLocked u T)) x e (inr k) = absurd k
    from-file f None x e k = absurd k

    from-print : (fs : List FileNo) (x : Printed) → In x (print_files prints blocks fs) → Source x
    from-print [] x k = absurd k
    from-print (f ∷ fs) x k = by (in-either x (its f) (print_files prints blocks fs) k) (from-print fs x)
      where
        by : In x (its f) ⊎ In x (print_files prints blocks fs) → (In x (print_files prints blocks fs) → Source x) → Source x
        by (inl j) on = from-file f (prints (File f)) x refl j
        by (inr j) on = on j

-- ---- what is printed, and the files

-- a server whose files are as found, but for what is locked
abbrev pub AreSame : AllFiles → ServerNo → World → Type 0
AreSame files s w = (m : Memory) (u : LockUnit) → w.memory s ≡ Some m → commit_holder u m.worker ≡ None → commit_holder (file_unit u) m.worker ≡ None → (stable (w.found s)).files u ≡ files s u

module _ (files : AllFiles) (s : ServerNo) (w : World) (same : AreSame files s w) (prints : List Printed) (h : IsPrinted s w prints) where
  abbrev held : LockUnit → Option Tid
  held u = commit_holder u h.memory.worker

  abbrev found : Files
  found = (stable (w.found s)).files

  abbrev at : LockUnit → Option Printed
  at = prints_of s w h.memory

  is-same : (u : LockUnit) → held u ≡ None → held (file_unit u) ≡ None → found u ≡ files s u
  is-same u = same h.memory u h.up

  source : (x : Printed) → In x prints → Source at h.prints_are.blocks x
  source x k = from-print at h.prints_are.blocks h.prints_are.files x (subst (λ (l : List Printed). In x l) h.prints_are.printed k)

  file-free : (f g : FileNo) → at (File f) ≡ Some (FileThere g) → held (File f) ≡ None
  file-free f g e = (print-so (File f) (held (File f)) (found (File f)) (FileThere g) e).1.0

  -- what is printed is there
  so-there : (x : Printed) → Source at h.prints_are.blocks x → IsAsIn files (text_printed s x)
  so-there (FileThere f) src = let k = print-so src.unit (held src.unit) (found src.unit) (FileThere f) src.is in let free = ap held (sym k.0) ∙ k.1.0 in
      ap is_some (sym (is-same (File f) free free) ∙ ap found (sym k.0)) ∙ k.1.1
  so-there (PageStored f p bytes) src = let k = print-so src.unit (held src.unit) (found src.unit) (PageStored f p bytes) src.is in let file = subst (λ (u : LockUnit). HasFile at h.prints_are.blocks u) k.0 src.file in
      sym (is-same (Block f p) (ap held (sym k.0) ∙ k.1.0) (file-free f file.0 file.1)) ∙ ap found (sym k.0) ∙ k.1.1
  so-there (UnitLocked u T) src = tt

  pub is-there : (x : Printed) → In x prints → IsAsIn files (text_printed s x)
  is-there x k = so-there x (source x k)

  -- where nothing is held for commit, nothing is printed as locked
  pub none-locked : ((u : LockUnit) → held u ≡ None) → (x : Printed) → In x prints → is_locked (text_printed s x) ≡ false
  none-locked free x k = let src = source x k in print-free s src.unit (found src.unit) x (ap (λ (o : Option Tid). print_unit src.unit o (found src.unit)) (sym (free src.unit)) ∙ src.is)

  -- a file whose line is printed is there
  file-there : (f : FileNo) (x : Printed) → Source at h.prints_are.blocks x → prints_file s f (text_printed s x) ≡ true → at (File f) ≡ Some (FileThere f)
  file-there f (FileThere g) src e = let k = print-so src.unit (held src.unit) (found src.unit) (FileThere g) src.is in
      subst (λ (j : FileNo). at (File j) ≡ Some (FileThere j)) (same-file g f (second (server_eq s s) (file_eq g f) e)) (ap at (sym k.0) ∙ src.is)
    where
      second : (a b : Bool) → (a && b) ≡ true → b ≡ true
      second a b k = grind arith
  file-there f (PageStored g p bytes) src e = absurd (not-both true refl (sym e))
  file-there f (UnitLocked u T) src e = absurd (not-both true refl (sym e))

  -- lines that say all that is printed, and print no other file of this server
  module _ (lines : List Line) (as-in : AllAsIn files lines) (heard : (test : Text → Bool) (x : Printed) → In x prints → test (text_printed s x) ≡ true → says test lines ≡ true)
      (only : (f : FileNo) → says (prints_file s f) lines ≡ true → (x : Printed) × (In x prints × (prints_file s f (text_printed s x) ≡ true))) where
    file-named : (f : FileNo) (x : Printed) → at (File f) ≡ Some x → In f h.prints_are.files
    file-named f x e = in-names file_eq same-file h.prints_are.files f (h.prints_are.are_files.each f ∙ ap is_some e)

    is-printed : (x : Printed) → In x (print_files at h.prints_are.blocks h.prints_are.files) → In x prints
    is-printed x k = subst (λ (l : List Printed). In x l) (sym h.prints_are.printed) k

    no-file : (f : FileNo) → says (accounts_file s f) lines ≡ false → files s (File f) ≡ None
    no-file f silent = by (at (File f)) refl
      where
        by : (o : Option Printed) → at (File f) ≡ o → files s (File f) ≡ None
        by (Some x) e = absurd (not-both _ (heard (accounts_file s f) x (is-printed x (in-print at h.prints_are.blocks h.prints_are.files f x (file-named f x e) e)) (accounts-file s f (held (File f)) (found (File f)) x e)) silent)
        by None e = let k = no-print (File f) (held (File f)) (found (File f)) e in sym (is-same (File f) k.0 k.0) ∙ k.1

    no-block : (f : FileNo) (p : BlockNo) → says (prints_file s f) lines ≡ true → says (accounts_block s f p) lines ≡ false → files s (Block f p) ≡ None
    no-block f p told silent = by (at (Block f p)) refl
      where
        there : at (File f) ≡ Some (FileThere f)
        there = let x = only f told in file-there f x.0 (source x.0 x.1.0) x.1.1

        by : (o : Option Printed) → at (Block f p) ≡ o → files s (Block f p) ≡ None
        by (Some x) e = absurd (not-both _ (heard (accounts_block s f p) x
            (is-printed x (in-print-block at h.prints_are.blocks h.prints_are.files f x (file-named f (FileThere f) there) there (in-blocks at f (h.prints_are.blocks f) p x (in-names block_eq same-block (h.prints_are.blocks f) p ((h.prints_are.are_blocks f there).each p ∙ ap is_some e)) e)))
            (accounts-block s f p (held (Block f p)) (found (Block f p)) x e)) silent)
        by None e = let k = no-print (Block f p) (held (Block f p)) (found (Block f p)) e in sym (is-same (Block f p) k.0 (file-free f f there)) ∙ k.1

    pub shows-files : ShowsFiles files s lines
    shows-files = record { printed = as-in; no_other_file = no-file; no_other_block = no-block }
