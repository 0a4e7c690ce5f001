-- An active work could still be prepared after one more operation.
use Rattle.jn_worker.proofs.Common.{most_blocks, ◌≡◌, ◌<◌, zero, suc, Bool, true, false, not, List, [], ◌∷◌, ◌++◌, take, drop, length, Option, Some, None, if◌then◌else◌, refl, sym, ◌∙◌, ap, subst, arith, ◌&&◌, ◌||◌, is_some, filter, nat_lt, list_all, nat_tests, FileNo, LockUnit, File, Block, Op, Create, Remove, CutBlocks, Write, file_eq, file_tells, Files, change, answer_to, file_of, Intention, InOrder, First, Kept, MadeFresh, TakenAway, CutFrom, FileNet, as_first, entry, net_of, added, file_added, stays, stands_before, is_put, list_change, length_with, block_of, there_by, cut_again, intention_for, front, in_its_place, is_fit, list_after, needs_file, takes_away, first_of, unit_of}
use Rattle.jn_base.specs.declared.op.Op.TheVariants.{Read}
use Rattle.jn_records.proofs.EditLemmas.{list-there, edited-in_order, edited-length, unchanged-length, unchanged-net, edited-net}

first_of_two : (a b : Bool) → (a && b) ≡ true → a ≡ true
first_of_two a b h = grind (arith, h)

later_of_two : (a b : Bool) → (a && b) ≡ true → b ≡ true
later_of_two a b h = grind (arith, h)

both : (a b : Bool) → a ≡ true → b ≡ true → (a && b) ≡ true
both a b h k = grind (arith, h, k)

-- ---- what holds of all intentions

all-placed : (Q : Intention → Bool) (new : Intention) (list : List Intention) → Q new ≡ true → list_all Q list ≡ true → list_all Q (in_its_place new list) ≡ true
all-placed Q new [] n h = both (Q new) true n refl
all-placed Q new (i ∷ list) n h = by (stands_before i new) (all-placed Q new list n (later_of_two (Q i) (list_all Q list) h))
  where
    by : (b : Bool) → list_all Q (in_its_place new list) ≡ true → list_all Q (take (if b then suc (front new list) else zero) (i ∷ list) ++ new ∷ drop (if b then suc (front new list) else zero) (i ∷ list)) ≡ true
    by true again = both (Q i) (list_all Q (in_its_place new list)) (first_of_two (Q i) (list_all Q list) h) again
    by false again = both (Q new) (list_all Q (i ∷ list)) n h

all-kept : (P Q : Intention → Bool) (keep : Intention → Bool) (list : List Intention) → ((i : Intention) → keep i ≡ true → P i ≡ true → Q i ≡ true) → list_all P list ≡ true → list_all Q (filter keep list) ≡ true
all-kept P Q keep [] f h = refl
all-kept P Q keep (i ∷ list) f h = by (keep i) refl (all-kept P Q keep list f (later_of_two (P i) (list_all P list) h))
  where
    by : (b : Bool) → keep i ≡ b → list_all Q (filter keep list) ≡ true → list_all Q (if b then i ∷ filter keep list else filter keep list) ≡ true
    by true e again = both (Q i) (list_all Q (filter keep list)) (f i e (first_of_two (P i) (list_all P list) h)) again
    by false e again = again

all-same : (P Q : Intention → Bool) (list : List Intention) → ((i : Intention) → P i ≡ true → Q i ≡ true) → list_all P list ≡ true → list_all Q list ≡ true
all-same P Q [] f h = refl
all-same P Q (i ∷ list) f h = both (Q i) (list_all Q list) (f i (first_of_two (P i) (list_all P list) h)) (all-same P Q list f (later_of_two (P i) (list_all P list) h))

none-dropped : (list : List Intention) (op : Op) (i : Intention) → intention_for list op ≡ None → stays op i ≡ true
none-dropped list (Create f) i e = absurd (cc e)
none-dropped list (Remove f) i e = absurd (cc e)
none-dropped list (CutBlocks f n) i e = absurd (cc e)
none-dropped list (Read f p) i e = refl
none-dropped list (Write f p bytes) i e = absurd (cc e)

pub all_after : (P Q : Intention → Bool) (op : Op) (list : List Intention) (o : Option Intention) → intention_for list op ≡ o → ((i : Intention) → stays op i ≡ true → P i ≡ true → Q i ≡ true) → ((new : Intention) → intention_for list op ≡ Some new → Q new ≡ true) → list_all P list ≡ true → list_all Q (list_after o op list) ≡ true
all_after P Q op list None e f n h = all-same P Q list (λ i p. f i (none-dropped list op i e) p) h
all_after P Q op list (Some new) e f n h = all-placed Q new (filter (λ (i : Intention). stays op i) list) (n new e) (all-kept P Q (λ (i : Intention). stays op i) list f h)

pub order_after : (op : Op) (list : List Intention) (o : Option Intention) → intention_for list op ≡ o → InOrder list → InOrder (list_after o op list)
order_after op list None e h = h
order_after op list (Some new) e h = edited-in_order op list new e h

pub length_after : (op : Op) (list : List Intention) (o : Option Intention) → intention_for list op ≡ o → length (list_after o op list) ≡ length_with list op
length_after op list None e = unchanged-length op list e
length_after op list (Some new) e = edited-length op list new e

net-after : (op : Op) (list : List Intention) (o : Option Intention) → intention_for list op ≡ o → net_of (list_after o op list) ≡ added (net_of list) op
net-after op list None e = unchanged-net op list e
net-after op list (Some new) e = edited-net op list new e

pub first_after : (op : Op) (list : List Intention) (o : Option Intention) (i : Intention) → intention_for list op ≡ o → first_of (list_after o op list) i ≡ (added (net_of list) op i.file).first
first_after op list o i e = ap (λ n. (n i.file).first) (net-after op list o e)

-- ---- what an operation adds

is_same : (x y : Intention) → Some x ≡ Some y → x ≡ y
is_same x y e = cc e

-- it is of the operation's file
pub new_file : (list : List Intention) (op : Op) (new : Intention) → intention_for list op ≡ Some new → new.file ≡ file_of op
new_file list (Create f) new e = ap (λ (i : Intention). i.file) (sym (is_same _ new e))
new_file list (Remove f) new e = ap (λ (i : Intention). i.file) (sym (is_same _ new e))
new_file list (CutBlocks f n) new e = ap (λ (i : Intention). i.file) (sym (is_same _ new e)) ∙ by (as_first (entry list f zero))
  where
    by : (x : First) → (cut_again x f n).file ≡ f
    by Kept = refl
    by MadeFresh = refl
    by TakenAway = refl
    by (CutFrom m) = refl
new_file list (Read f p) new e = absurd (cc e)
new_file list (Write f p bytes) new e = ap (λ (i : Intention). i.file) (sym (is_same _ new e))

pub new_in_range : (list : List Intention) (op : Op) (new : Intention) → intention_for list op ≡ Some new → (block_of op).0 < most_blocks → nat_lt new.block.0 most_blocks ≡ true
new_in_range list (Create f) new e b = subst (λ (i : Intention). nat_lt i.block.0 most_blocks ≡ true) (is_same _ new e) refl
new_in_range list (Remove f) new e b = subst (λ (i : Intention). nat_lt i.block.0 most_blocks ≡ true) (is_same _ new e) refl
new_in_range list (CutBlocks f n) new e b = subst (λ (i : Intention). nat_lt i.block.0 most_blocks ≡ true) (is_same _ new e) (by (as_first (entry list f zero)))
  where
    by : (x : First) → nat_lt (cut_again x f n).block.0 most_blocks ≡ true
    by Kept = grind (arith, nat_tests)
    by MadeFresh = grind (arith, nat_tests)
    by TakenAway = grind (arith, nat_tests)
    by (CutFrom m) = grind (arith, nat_tests)
new_in_range list (Read f p) new e b = absurd (cc e)
new_in_range list (Write f p bytes) new e b = subst (λ (i : Intention). nat_lt i.block.0 most_blocks ≡ true) (is_same _ new e) (grind (arith, nat_tests))

-- the unit that it writes
abbrev pub target : Op → LockUnit
target (Write f p bytes) = Block f p
target op = File (file_of op)

pub new_unit : (list : List Intention) (op : Op) (new : Intention) → intention_for list op ≡ Some new → unit_of new ≡ target op
new_unit list (Create f) new e = ap (λ (i : Intention). unit_of i) (sym (is_same _ new e))
new_unit list (Remove f) new e = ap (λ (i : Intention). unit_of i) (sym (is_same _ new e))
new_unit list (CutBlocks f n) new e = ap (λ (i : Intention). unit_of i) (sym (is_same _ new e)) ∙ by (as_first (entry list f zero))
  where
    by : (x : First) → unit_of (cut_again x f n) ≡ File f
    by Kept = refl
    by MadeFresh = refl
    by TakenAway = refl
    by (CutFrom m) = refl
new_unit list (Read f p) new e = absurd (cc e)
new_unit list (Write f p bytes) new e = ap (λ (i : Intention). unit_of i) (sym (is_same _ new e))

-- ---- an operation that fits

abbrev fits_there : Op → Bool → Bool
fits_there (Create f) there = not there
fits_there op there = there

fit-there : (op : Op) (files : Files) → is_fit (answer_to op files) ≡ true → fits_there op (is_some (files (File (file_of op)))) ≡ true
fit-there (Create f) files h = grind (arith, h)
fit-there (Remove f) files h = grind (arith, h)
fit-there (CutBlocks f n) files h = grind (arith, h)
fit-there (Read f p) files h = grind (arith, h)
fit-there (Write f p bytes) files h = grind (arith, h)

-- the file is as the operation needs it, as its first intention and what is stored tell
pub fits_first : (op : Op) (list : List Intention) (files : Files) → InOrder list → is_fit (answer_to op (change (list_change list) files)) ≡ true → fits_there op (there_by (as_first (entry list (file_of op) zero)) (is_some (files (File (file_of op))))) ≡ true
fits_first op list files h fit = subst (λ b. fits_there op b ≡ true) (list-there list h (file_of op) (is_some (files (File (file_of op)))) files refl) (fit-there op (change (list_change list) files) fit)

needs-ok : (op : Op) (net : FileNet) (first : First) (stored : Bool) → net.first ≡ first → fits_there op (there_by first stored) ≡ true → (not (needs_file (file_added net op).first) || stored) ≡ true
needs-ok (Create f) net first stored e h = refl
needs-ok (Remove f) net first stored e h = refl
needs-ok (CutBlocks f n) net Kept stored e h = grind (arith, e, h)
needs-ok (CutBlocks f n) net MadeFresh stored e h = grind (arith, e, h)
needs-ok (CutBlocks f n) net TakenAway stored e h = grind (arith, e, h)
needs-ok (CutBlocks f n) net (CutFrom m) stored e h = grind (arith, e, h)
needs-ok (Read f p) net Kept stored e h = grind (arith, e, h)
needs-ok (Read f p) net MadeFresh stored e h = grind (arith, e, h)
needs-ok (Read f p) net TakenAway stored e h = grind (arith, e, h)
needs-ok (Read f p) net (CutFrom m) stored e h = grind (arith, e, h)
needs-ok (Write f p bytes) net Kept stored e h = grind (arith, e, h)
needs-ok (Write f p bytes) net MadeFresh stored e h = grind (arith, e, h)
needs-ok (Write f p bytes) net TakenAway stored e h = grind (arith, e, h)
needs-ok (Write f p bytes) net (CutFrom m) stored e h = grind (arith, e, h)

lost-ok : (op : Op) (net : FileNet) (first : First) (stored put : Bool) (i : Intention) → net.first ≡ first → fits_there op (there_by first stored) ≡ true → stays op i ≡ true → file_eq (file_of op) i.file ≡ true → not (put && takes_away (file_added net op).first) ≡ true
lost-ok (Create f) net first stored put i e h s k = grind arith
lost-ok (Remove f) net first stored put i e h s k = absurd (grind (arith, s, k))
lost-ok (CutBlocks f n) net Kept stored put i e h s k = grind (arith, e)
lost-ok (CutBlocks f n) net MadeFresh stored put i e h s k = grind (arith, e)
lost-ok (CutBlocks f n) net TakenAway stored put i e h s k = absurd (cc h)
lost-ok (CutBlocks f n) net (CutFrom m) stored put i e h s k = grind (arith, e)
lost-ok (Read f p) net Kept stored put i e h s k = grind (arith, e)
lost-ok (Read f p) net MadeFresh stored put i e h s k = grind (arith, e)
lost-ok (Read f p) net TakenAway stored put i e h s k = absurd (cc h)
lost-ok (Read f p) net (CutFrom m) stored put i e h s k = grind (arith, e)
lost-ok (Write f p bytes) net Kept stored put i e h s k = grind (arith, e)
lost-ok (Write f p bytes) net MadeFresh stored put i e h s k = grind (arith, e)
lost-ok (Write f p bytes) net TakenAway stored put i e h s k = absurd (cc h)
lost-ok (Write f p bytes) net (CutFrom m) stored put i e h s k = grind (arith, e)

lost-new : (list : List Intention) (op : Op) (new : Intention) (net : FileNet) (first : First) (stored : Bool) → intention_for list op ≡ Some new → net.first ≡ first → fits_there op (there_by first stored) ≡ true → not (is_put new.what && takes_away (file_added net op).first) ≡ true
lost-new list (Create f) new net first stored n e h = subst (λ (i : Intention). not (is_put i.what && takes_away (file_added net (Create f)).first) ≡ true) (is_same _ new n) refl
lost-new list (Remove f) new net first stored n e h = subst (λ (i : Intention). not (is_put i.what && takes_away (file_added net (Remove f)).first) ≡ true) (is_same _ new n) refl
lost-new list (CutBlocks f m) new net first stored n e h = subst (λ (i : Intention). not (is_put i.what && takes_away (file_added net (CutBlocks f m)).first) ≡ true) (is_same _ new n) (by (as_first (entry list f zero)))
  where
    by : (x : First) → not (is_put (cut_again x f m).what && takes_away (file_added net (CutBlocks f m)).first) ≡ true
    by Kept = refl
    by MadeFresh = refl
    by TakenAway = refl
    by (CutFrom k) = refl
lost-new list (Read f p) new net first stored n e h = absurd (cc n)
lost-new list (Write f p bytes) new net Kept stored n e h = grind (arith, e)
lost-new list (Write f p bytes) new net MadeFresh stored n e h = grind (arith, e)
lost-new list (Write f p bytes) new net TakenAway stored n e h = absurd (cc h)
lost-new list (Write f p bytes) new net (CutFrom m) stored n e h = grind (arith, e)

-- ---- the list after an operation that fits

module _ (op : Op) (list : List Intention) (files : Files) (h : InOrder list) (fit : is_fit (answer_to op (change (list_change list) files)) ≡ true) where
  fits : fits_there op (there_by (as_first (entry list (file_of op) zero)) (is_some (files (File (file_of op))))) ≡ true
  fits = fits_first op list files h fit

  abbrev needs_at : FileNo → First → Bool
  needs_at f first = not (needs_file first) || is_some (files (File f))

  file-is : (g : FileNo) → file_eq (file_of op) g ≡ true → file_of op ≡ g
  file-is g e = let t = file_tells (file_of op) g in grind (arith, e)

  pub there_after : list_all (λ i. not (needs_file (first_of list i)) || is_some (files (File i.file))) list ≡ true
      → list_all (λ i. not (needs_file (first_of (list_after (intention_for list op) op list) i)) || is_some (files (File i.file))) (list_after (intention_for list op) op list) ≡ true
  there_after old = all_after _ _ op list (intention_for list op) refl (λ i s p. at i p) (λ new e. at_file new (subst (λ g. file_eq (file_of op) g ≡ true) (sym (new_file list op new e)) (self (file_of op)))) old
    where
      self : (g : FileNo) → file_eq g g ≡ true
      self g = let t = file_tells g g in grind arith

      by : (i : Intention) (b : Bool) → file_eq (file_of op) i.file ≡ b → (b ≡ false → needs_at i.file (net_of list i.file).first ≡ true) → needs_at i.file (if b then file_added (net_of list i.file) op else net_of list i.file).first ≡ true
      by i true e p = subst (λ g. needs_at g (file_added (net_of list g) op).first ≡ true) (file-is i.file e) (needs-ok op (net_of list (file_of op)) (as_first (entry list (file_of op) zero)) (is_some (files (File (file_of op)))) refl fits)
      by i false e p = p refl

      at : (i : Intention) → needs_at i.file (first_of list i) ≡ true → needs_at i.file (first_of (list_after (intention_for list op) op list) i) ≡ true
      at i p = ap (λ x. needs_at i.file x) (first_after op list (intention_for list op) i refl) ∙ by i (file_eq (file_of op) i.file) refl (λ _. p)

      at_file : (i : Intention) → file_eq (file_of op) i.file ≡ true → needs_at i.file (first_of (list_after (intention_for list op) op list) i) ≡ true
      at_file i e = ap (λ x. needs_at i.file x) (first_after op list (intention_for list op) i refl) ∙ by i (file_eq (file_of op) i.file) refl (λ f. absurd (wrong (sym e ∙ f)))
        where
          wrong : true ≡ false → ⊥
          wrong e = cc e

  pub lost_after : list_all (λ i. not (is_put i.what && takes_away (first_of list i))) list ≡ true
      → list_all (λ i. not (is_put i.what && takes_away (first_of (list_after (intention_for list op) op list) i))) (list_after (intention_for list op) op list) ≡ true
  lost_after old = all_after _ _ op list (intention_for list op) refl at at_new old
    where
      by : (i : Intention) (b : Bool) → file_eq (file_of op) i.file ≡ b → stays op i ≡ true → not (is_put i.what && takes_away (net_of list i.file).first) ≡ true → not (is_put i.what && takes_away (if b then file_added (net_of list i.file) op else net_of list i.file).first) ≡ true
      by i true e s p = subst (λ g. not (is_put i.what && takes_away (file_added (net_of list g) op).first) ≡ true) (file-is i.file e) (lost-ok op (net_of list (file_of op)) (as_first (entry list (file_of op) zero)) (is_some (files (File (file_of op)))) (is_put i.what) i refl fits s e)
      by i false e s p = p

      at : (i : Intention) → stays op i ≡ true → not (is_put i.what && takes_away (first_of list i)) ≡ true → not (is_put i.what && takes_away (first_of (list_after (intention_for list op) op list) i)) ≡ true
      at i s p = ap (λ x. not (is_put i.what && takes_away x)) (first_after op list (intention_for list op) i refl) ∙ by i (file_eq (file_of op) i.file) refl s p

      self : (g : FileNo) → file_eq g g ≡ true
      self g = let t = file_tells g g in grind arith

      at_new : (new : Intention) → intention_for list op ≡ Some new → not (is_put new.what && takes_away (first_of (list_after (intention_for list op) op list) new)) ≡ true
      at_new new e = ap (λ x. not (is_put new.what && takes_away x)) (first_after op list (intention_for list op) new refl) ∙ subst (λ g. not (is_put new.what && takes_away (added (net_of list) op g).first) ≡ true) (sym (new_file list op new e))
          (ap (λ b. not (is_put new.what && takes_away (if b then file_added (net_of list (file_of op)) op else net_of list (file_of op)).first)) (self (file_of op))
          ∙ lost-new list op new (net_of list (file_of op)) (as_first (entry list (file_of op) zero)) (is_some (files (File (file_of op)))) e refl fits)
