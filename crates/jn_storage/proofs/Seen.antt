-- What is known where the answer is the stored block's.
use Rattle.jn_storage.proofs.Common.{◌≡◌, ℕ, false, List, [], ◌∷◌, Option, Some, None, Result, Ok, Err, refl, sym, ◌∙◌, ap, subst, arith, is_some, is_ok, FileNo, File, Block, Files, change, answer_to, file_of, Intention, list_change, answered, StorageView, state, Called}
use Rattle.jn_base.specs.Ops.{block_of}
use Rattle.jn_base.specs.declared.device.Stopped.{Stopped}
use Rattle.std.specs.Result.{IsErrAnd}
use Rattle.std.proofs.lemmas.Result.{err_from_is_err_and}
use Rattle.jn_base.specs.declared.names.BlockNo.{BlockNo}
use Rattle.jn_base.specs.declared.op.Answer.{Answer}
use Rattle.jn_base.specs.declared.op.Answer.TheVariants.{Read as Found}
use Rattle.jn_base.specs.declared.op.Op.{Op}
use Rattle.jn_base.specs.declared.op.Op.TheVariants.{Create, Remove, Cut, Read, Write}
use Rattle.jn_base.specs.declared.fault.CallFault.{CallFault}
use Rattle.jn_base.specs.declared.fault.CallFault.TheVariants.{Stopped as Stops, Memory}
use Rattle.jn_storage.specs.Viewing.{reads_stored, Viewed, ReadOrZeros, served}

-- files with these bytes in every block
abbrev pub filled : Files → List ℕ → Files
filled files bytes (File f) = files (File f)
filled files bytes (Block f p) = Some bytes

-- where the answer is the stored block's on all files, the list says nothing of the block
pub says-nothing : (list : List Intention) (op : Op) (files : Files) → ((other : Files) → is_some (other (File (file_of op))) ≡ is_some (files (File (file_of op))) → answer_to op (change (list_change list) other) ≡ answered None op other)
    → reads_stored list op files ≡ false → is_some (files (Block (file_of op) (block_of op))) ≡ false
says-nothing list (Create f) files h e = absurd (let at = h files refl in grind arith)
says-nothing list (Remove f) files h e = absurd (let at = h files refl in grind arith)
says-nothing list (Cut f n) files h e = absurd (let at = h files refl in grind arith)
says-nothing list (Write f p bytes) files h e = absurd (let at = h files refl in grind arith)
says-nothing list (Read f p) files h e = by (list_change list (Block f p)) refl
  where
    by : (o : Option (Option (List ℕ))) → list_change list (Block f p) ≡ o → is_some (files (Block f p)) ≡ false
    by None q = grind (arith, e, q)
    by (Some y) q = absurd (let a = h (filled files []) refl in let b = h (filled files (1 ∷ [])) refl in grind (arith, q))

-- the answer that a block read gives, or there is no memory for it
pub viewed-block : (list : List Intention) (op : Op) (v w : StorageView) (r : Result (List ℕ) Stopped) (a : Result Answer CallFault) → ReadOrZeros v (file_of op) (block_of op) r w
    → ((other : Files) → is_some (other (File (file_of op))) ≡ is_some ((state v).files (File (file_of op))) → answer_to op (change (list_change list) other) ≡ answered None op other)
    → served a ≡ is_ok r → ((x : Answer) → a ≡ Ok x → (block : List ℕ) × (r ≡ Ok block) × (x ≡ Found block)) → Viewed list v op a w
viewed-block list op v w r a read none same gives = record {
  answered = λ x e. let g = gives x e in g.2 ∙ ap Found (read.found g.0 g.1) ∙ sym (none (state v).files refl);
  called = subst (λ b. Called v 24 b w) (sym same) read.called;
  unchanged = read.unchanged;
  same = λ h. read.same (sym same ∙ h);
  others = λ h. let o = read.others (says-nothing list op (state v).files none h) in (same ∙ o.0, o.1);
}

not_ok_is : {A E : Type 0} (a : Result A E) (e : E) (x : A) → a ≡ Err e → a ≡ Ok x → ⊥
not_ok_is a e x h g = cc (sym h ∙ g)

error-is : {A E : Type 0} (a : Result A E) (e : E) → IsErrAnd a (λ fault. fault ≡ e) → a ≡ Err e
error-is a e h = let x = err_from_is_err_and a h in x.1 ∙ ap Err x.2

ok_same : {A E : Type 0} (x y : A) (r : Result A E) → r ≡ Ok x → r ≡ Ok y → x ≡ y
ok_same x y (Ok z) e f = grind (arith, e, f)
ok_same x y (Err z) e f = absurd (cc e)

read-as : (op : Op) (v w : StorageView) (f : FileNo) (p : BlockNo) (r : Result (List ℕ) Stopped) → f ≡ file_of op → p ≡ block_of op → ReadOrZeros v f p r w → ReadOrZeros v (file_of op) (block_of op) r w
read-as op v w f p r same_f same_p read = subst (λ q. ReadOrZeros v (file_of op) q r w) same_p (subst (λ g. ReadOrZeros v g p r w) same_f read)

pub viewed-stopped : (list : List Intention) (op : Op) (v w : StorageView) (f : FileNo) (p : BlockNo) (e : Stopped) (a : Result Answer CallFault) → f ≡ file_of op → p ≡ block_of op → ReadOrZeros v f p (Err e) w
    → ((other : Files) → is_some (other (File (file_of op))) ≡ is_some ((state v).files (File (file_of op))) → answer_to op (change (list_change list) other) ≡ answered None op other)
    → IsErrAnd a (λ fault. fault ≡ Stops) → Viewed list v op a w
viewed-stopped list op v w f p e a same_f same_p read none err = viewed-block list op v w (Err e) a (read-as op v w f p (Err e) same_f same_p read) none (ap served (error-is a Stops err)) (λ x g. absurd (not_ok_is a Stops x (error-is a Stops err) g))

pub viewed-without : (list : List Intention) (op : Op) (v w : StorageView) (f : FileNo) (p : BlockNo) (block : List ℕ) (a : Result Answer CallFault) → f ≡ file_of op → p ≡ block_of op → ReadOrZeros v f p (Ok block) w
    → ((other : Files) → is_some (other (File (file_of op))) ≡ is_some ((state v).files (File (file_of op))) → answer_to op (change (list_change list) other) ≡ answered None op other)
    → IsErrAnd a (λ fault. fault ≡ Memory) → Viewed list v op a w
viewed-without list op v w f p block a same_f same_p read none err = viewed-block list op v w (Ok block) a (read-as op v w f p (Ok block) same_f same_p read) none (ap served (error-is a Memory err)) (λ x g. absurd (not_ok_is a Memory x (error-is a Memory err) g))

pub viewed-found : (list : List Intention) (op : Op) (v w : StorageView) (f : FileNo) (p : BlockNo) (block bytes : List ℕ) → f ≡ file_of op → p ≡ block_of op → ReadOrZeros v f p (Ok block) w
    → ((other : Files) → is_some (other (File (file_of op))) ≡ is_some ((state v).files (File (file_of op))) → answer_to op (change (list_change list) other) ≡ answered None op other)
    → bytes ≡ block → Viewed list v op (Ok (Found bytes)) w
viewed-found list op v w f p block bytes same_f same_p read none kept = viewed-block list op v w (Ok block) (Ok (Found bytes)) (read-as op v w f p (Ok block) same_f same_p read) none
    refl (λ x g. (block, refl, ok_same x (Found bytes) (Ok (Found bytes)) g refl ∙ ap Found kept))
