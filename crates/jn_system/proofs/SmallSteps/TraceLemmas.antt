-- Traces: what their answers depend on, one more operation, and lists of intentions carried out in part.
use Rattle.jn_system.proofs.Common.{◌≡◌, ℕ, zero, suc, Bool, true, false, List, [], ◌∷◌, ◌++◌, take, Option, is_some, if◌then◌else◌, refl, sym, ◌∙◌, ap, subst, arith, nat_tests, ◌&&◌, FileNo, BlockNo, LockUnit, File, Block, Op, Answer, Found, file_eq, block_eq, Files, change, file_of, answer_to, and_then, or_also, Intention, intention_change, list_change, Answered, asks_block, asks, asked, effect_of, effects, FilesAnswer, nothing, effect, is_did, files_after}
use Rattle.jn_base.specs.declared.op.Op.TheVariants.{Create, Remove, Cut, Read, Write}
use Rattle.jn_order.specs.Files.{Change}
use Rattle.jn_order.proofs.ChangeLemmas.{change-nothing}
use Rattle.jn_system.proofs.SmallSteps.Updates.{not_both}

change_then : (a b : Change) (files : Files) (u : LockUnit) → change (and_then a b) files u ≡ change b (change a files) u
change_then a b files u = grind arith

-- an answer depends on what it asks alone
local_by : (o : Op) (a : Answer) (fs gs : Files) → fs (File (file_of o)) ≡ gs (File (file_of o)) → ((f : FileNo) (p : BlockNo) → asks_block o a f p ≡ true → fs (Block f p) ≡ gs (Block f p)) → answer_to o fs ≡ a → answer_to o gs ≡ a
local_by (Create f) a fs gs file block right = grind arith
local_by (Remove f) a fs gs file block right = grind arith
local_by (Cut f n) a fs gs file block right = grind arith
local_by (Write f p b) a fs gs file block right = grind arith
local_by (Read f p) (Found b) fs gs file block right = let e = block f p (both f p) in grind arith
  where
    both : (f : FileNo) (p : BlockNo) → (file_eq f f && block_eq p p) ≡ true
    both f p = grind (arith, nat_tests)
local_by (Read f p) _ fs gs file block right = grind arith

pub answer_local : (a : Answered) (fs gs : Files) → ((u : LockUnit) → asks a u ≡ true → fs u ≡ gs u) → answer_to a.op fs ≡ a.answer → answer_to a.op gs ≡ a.answer
answer_local a fs gs same right = local_by a.op a.answer fs gs (same (File (file_of a.op)) (self (file_of a.op))) (λ f p h. same (Block f p) h) right
  where
    self : (f : FileNo) → file_eq f f ≡ true
    self f = grind (arith, nat_tests)

-- an operation that these files answer so changes them as its answer says
pub after_answer : (a : Answered) (files : Files) → answer_to a.op files ≡ a.answer → files_after a.op files ≡ change (effect_of a) files
after_answer a files right = by (is_did (answer_to a.op files)) ∙ ap (λ (x : Answer). change (if is_did x then effect a.op else nothing) files) right
  where
    by : (b : Bool) → (if b then change (effect a.op) files else files) ≡ change (if b then effect a.op else nothing) files
    by true = refl
    by false = sym (change-nothing files)

pub agrees_local : (trace : List Answered) (fs gs : Files) → ((u : LockUnit) → asked trace u ≡ true → fs u ≡ gs u) → FilesAnswer fs trace → FilesAnswer gs trace
agrees_local [] fs gs same h = h
agrees_local (a ∷ trace) fs gs same h = let right = answer_local a fs gs (λ u q. same u (grind arith)) h.0 in (
  right,
  rw (after_answer a gs right) (agrees_local trace (change (effect_of a) fs) (change (effect_of a) gs) (λ u q. grind (arith, same u)) (rw (← after_answer a fs h.0) h.1)),
)

-- one more operation
pub effects_more : (trace : List Answered) (a : Answered) (u : LockUnit) → effects (trace ++ a ∷ []) u ≡ and_then (effects trace) (effect_of a) u
effects_more [] a u = grind arith
effects_more (b ∷ trace) a u = grind (arith, effects_more trace a u)

pub asked_more : (trace : List Answered) (a : Answered) (u : LockUnit) → asked (trace ++ a ∷ []) u ≡ (if asked trace u then true else asks a u)
asked_more [] a u = grind arith
asked_more (b ∷ trace) a u = grind (arith, asked_more trace a u)

pub agrees_more : (trace : List Answered) (a : Answered) (files : Files) → FilesAnswer files trace → answer_to a.op (change (effects trace) files) ≡ a.answer → FilesAnswer files (trace ++ a ∷ [])
agrees_more [] a files h e = (e, tt)
agrees_more (b ∷ trace) a files h e = (
  h.0,
  rw (after_answer b files h.0) (agrees_more trace a (change (effect_of b) files) (rw (← after_answer b files h.0) h.1)
      (answer_local a (change (effects (b ∷ trace)) files) (change (effects trace) (change (effect_of b) files)) (λ u q. change_then (effect_of b) (effects trace) files u) e)),
)

-- ---- lists of intentions carried out in part

pub take_zero : (list : List Intention) → take 0 list ≡ []
take_zero [] = refl
take_zero (i ∷ list) = refl

take_none : (n : ℕ) → take {A = Intention} n [] ≡ []
take_none zero = refl
take_none (suc n) = refl

take_one : (i : Intention) (list : List Intention) (n : ℕ) → take (suc n) (i ∷ list) ≡ i ∷ take n list
take_one i list n = grind arith

either : {A : Type 0} → (a b c : Option A) → (is_some a ≡ true → is_some b ≡ true) → is_some (or_also a c) ≡ true → is_some (or_also b c) ≡ true
either a b c h q = grind arith

-- what a part of a list writes, the list writes
pub take_writes : (list : List Intention) (n : ℕ) (u : LockUnit) → is_some (list_change (take n list) u) ≡ true → is_some (list_change list u) ≡ true
take_writes [] n u h = subst (λ l. is_some (list_change l u) ≡ true) (take_none n) h
take_writes (i ∷ list) zero u h = absurd (not_both (is_some (list_change (take 0 (i ∷ list)) u)) h (subst (λ l. is_some (list_change l u) ≡ false) (sym (take_zero (i ∷ list))) refl))
take_writes (i ∷ list) (suc n) u h = either (list_change (take n list) u) (list_change list u) (intention_change i u) (take_writes list n u) (subst (λ l. is_some (list_change l u) ≡ true) (take_one i list n) h)
