-- Each operation, from what it does to the list of stored files.
use Rattle.jn_replay.proofs.Common.{◌≡◌, ℕ, ◌+◌, ◌≤◌, nat_lt, Bool, true, false, not, ◌&&◌, if◌then◌else◌, List, [], ◌∷◌, ◌++◌, length, filter, set, Option, Some, None, refl, sym, ap, ◌∙◌, subst, inl, inr, arith, length-append, eqb-true, option_map, option_and_then, Result, Ok, Err, IsErr, MatchResult, cases_Bool, cond-false, and_left, nat_tests, ServerNo, FileNo, BlockNo, LockUnit, File, Block, Answer, server_eq, file_eq, block_eq, there, zeros, or_else, change, effect, answer_to, is_did, all_files_after, server_eq-true, server_eq-refl, all_files_after-here, all_files_after-elsewhere, files_after-did, files_after-not_did, StoredBlock, StoredFile, stored_file, stored_block, registers, AreSame, is_file, Does, Keeps, Op}
use Rattle.std.proofs.Math.ListN.{length-set}
use Rattle.jn_base.specs.declared.op.Op.TheVariants.{Create, Remove, Cut, Read, Write}
use Rattle.jn_base.specs.declared.op.Answer.TheVariants.{Did, Read as Found, NoFile, Exists}
use Rattle.jn_replay.proofs.StoredLemmas.{IsPlace, stored_file-set, stored_file-push, stored_file-filter, stored_block-filter, block_count-set, block_count-push, block_count-filter, length-filter}

-- only the file of this name changes
pub record PutsFile (s : ServerNo) (f : FileNo) (e : Option StoredFile) (before after : List StoredFile) : Type 0 where
  pub file_at : (q : ServerNo) (g : FileNo) → stored_file q g after ≡ (if server_eq s q && file_eq f g then e else stored_file q g before)

elsewhere : (s : ServerNo) (f : FileNo) (e : Option StoredFile) (before after : List StoredFile) → PutsFile s f e before after → (q : ServerNo) → server_eq s q ≡ false → (u : LockUnit) → registers after q u ≡ registers before q u
elsewhere s f e before after p q h (File g) = ap (option_map (λ (x : StoredFile). there)) (p.file_at q g ∙ cond-false (server_eq s q && file_eq f g) e (stored_file q g before) (and_left (server_eq s q) (file_eq f g) h))
elsewhere s f e before after p q h (Block g b) = ap (option_and_then (λ (x : StoredFile). stored_block b x.blocks.items)) (p.file_at q g ∙ cond-false (server_eq s q && file_eq f g) e (stored_file q g before) (and_left (server_eq s q) (file_eq f g) h))

-- at the server itself
here : (s : ServerNo) (f : FileNo) (e : Option StoredFile) (before after : List StoredFile) → PutsFile s f e before after → (g : FileNo) → stored_file s g after ≡ (if file_eq f g then e else stored_file s g before)
here s f e before after p g = p.file_at s g ∙ ap (λ (b : Bool). if b && file_eq f g then e else stored_file s g before) (server_eq-refl s)

changed : (s : ServerNo) (op : Op) (f : FileNo) (e : Option StoredFile) (before after : List StoredFile) → PutsFile s f e before after → is_did (answer_to op (registers before s)) ≡ true → ((u : LockUnit) → registers after s u ≡ change (effect op) (registers before s) u) → AreSame (registers after) (all_files_after s op (registers before))
changed s op f e before after p did at q u = elim (cases_Bool (server_eq s q)) [
  | inl h ↦ subst (λ (r : ServerNo). registers after r u ≡ all_files_after s op (registers before) r u) (server_eq-true s q h)
      (at u ∙ sym (ap (λ (k : LockUnit → Option (List ℕ)). k u) (all_files_after-here s op (registers before) ∙ files_after-did op (registers before s) did)))
  | inr h ↦ elsewhere s f e before after p q h u ∙ sym (ap (λ (k : LockUnit → Option (List ℕ)). k u) (all_files_after-elsewhere s op (registers before) q h))
]

-- an operation that changes nothing
pub Does-nothing : (s : ServerNo) (op : Op) (xs : List StoredFile) (a : Answer) → a ≡ answer_to op (registers xs s) → is_did a ≡ false → Does s op xs xs a
Does-nothing s op xs a answers h = record {
  answers = answers;
  files = λ q u. elim (cases_Bool (server_eq s q)) [
    | inl e ↦ subst (λ (r : ServerNo). registers xs r u ≡ all_files_after s op (registers xs) r u) (server_eq-true s q e)
        (sym (ap (λ (k : LockUnit → Option (List ℕ)). k u) (all_files_after-here s op (registers xs) ∙ files_after-not_did op (registers xs s) (ap is_did (sym answers) ∙ h))))
    | inr e ↦ sym (ap (λ (k : LockUnit → Option (List ℕ)). k u) (all_files_after-elsewhere s op (registers xs) q e))
  ];
  room = omega arith;
  blocks = omega arith;
}

-- the answer of an operation at a file that is there, or isn't
pub create_there : (s : ServerNo) (f : FileNo) (xs : List StoredFile) (x : StoredFile) → stored_file s f xs ≡ Some x → Does s (Create f) xs xs Exists
create_there s f xs x e = Does-nothing s (Create f) xs Exists (rw e) refl

pub remove_absent : (s : ServerNo) (f : FileNo) (xs : List StoredFile) → stored_file s f xs ≡ None → Does s (Remove f) xs xs NoFile
remove_absent s f xs e = Does-nothing s (Remove f) xs NoFile (rw e) refl

pub cut_absent : (s : ServerNo) (f : FileNo) (n : BlockNo) (xs : List StoredFile) → stored_file s f xs ≡ None → Does s (Cut f n) xs xs NoFile
cut_absent s f n xs e = Does-nothing s (Cut f n) xs NoFile (rw e) refl

pub write_absent : (s : ServerNo) (f : FileNo) (n : BlockNo) (bytes : List ℕ) (xs : List StoredFile) → stored_file s f xs ≡ None → Does s (Write f n bytes) xs xs NoFile
write_absent s f n bytes xs e = Does-nothing s (Write f n bytes) xs NoFile (rw e) refl

pub read_absent : (s : ServerNo) (f : FileNo) (n : BlockNo) (xs : List StoredFile) → stored_file s f xs ≡ None → Does s (Read f n) xs xs NoFile
read_absent s f n xs e = Does-nothing s (Read f n) xs NoFile (rw e) refl

pub read_there : (s : ServerNo) (f : FileNo) (n : BlockNo) (xs : List StoredFile) (x : StoredFile) (bytes : List ℕ) → stored_file s f xs ≡ Some x → bytes ≡ or_else (stored_block n x.blocks.items) zeros → Does s (Read f n) xs xs (Found bytes)
read_there s f n xs x bytes e h = Does-nothing s (Read f n) xs (Found bytes) (rw e (ap (λ (b : List ℕ). Found b) h)) refl

created_at : (s : ServerNo) (f : FileNo) (before after : List StoredFile) (y : StoredFile) → y.blocks.items ≡ [] → PutsFile s f (Some y) before after → (u : LockUnit) → registers after s u ≡ change (effect (Create f)) (registers before s) u
created_at s f before after y eb p (File g) = rw (here s f (Some y) before after p g) (elim (cases_Bool (file_eq f g)) [ inl h ↦ rw h | inr h ↦ rw h ])
created_at s f before after y eb p (Block g b) = rw (here s f (Some y) before after p g) (elim (cases_Bool (file_eq f g)) [ inl h ↦ rw h (rw eb) | inr h ↦ rw h ])

pub create_new : (s : ServerNo) (f : FileNo) (xs : List StoredFile) (y : StoredFile) → stored_file s f xs ≡ None → y.server ≡ s → y.file ≡ f → y.blocks.items ≡ [] → Does s (Create f) xs (xs ++ y ∷ []) Did
create_new s f xs y e es ef eb =
    let p : PutsFile s f (Some y) xs (xs ++ y ∷ []) = record { file_at = λ q g. rw (← es, ← ef) (stored_file-push xs y q g (rw (es, ef) e)) } in
    record {
      answers = rw e refl;
      files = changed s (Create f) f (Some y) xs (xs ++ y ∷ []) p (rw e refl) (created_at s f xs (xs ++ y ∷ []) y eb p);
      room = omega (arith, length-append xs (y ∷ []));
      blocks = omega (arith, block_count-push xs y, ap (length {A = StoredBlock}) eb);
    }

removed_at : (s : ServerNo) (f : FileNo) (before after : List StoredFile) → PutsFile s f None before after → (u : LockUnit) → registers after s u ≡ change (effect (Remove f)) (registers before s) u
removed_at s f before after p (File g) = rw (here s f None before after p g) (elim (cases_Bool (file_eq f g)) [ inl h ↦ rw h | inr h ↦ rw h ])
removed_at s f before after p (Block g b) = rw (here s f None before after p g) (elim (cases_Bool (file_eq f g)) [ inl h ↦ rw h | inr h ↦ rw h ])

pub remove_there : (s : ServerNo) (f : FileNo) (xs ys : List StoredFile) (x : StoredFile) → stored_file s f xs ≡ Some x → ys ≡ filter (λ (z : StoredFile). not (is_file s f z)) xs → Does s (Remove f) xs ys Did
remove_there s f xs ys x e kept =
    let p : PutsFile s f None xs ys = record { file_at = λ q g. rw kept (stored_file-filter s f xs q g) } in
    record {
      answers = rw e refl;
      files = changed s (Remove f) f None xs ys p (rw e refl) (removed_at s f xs ys p);
      room = rw kept (omega (arith, length-filter (λ (z : StoredFile). not (is_file s f z)) xs));
      blocks = rw kept (omega (arith, block_count-filter (λ (z : StoredFile). not (is_file s f z)) xs));
    }

file_eq-true : (f g : FileNo) → file_eq f g ≡ true → f ≡ g
file_eq-true f g h = let P : ℕ → FileNo = λ n. record { 0 = n } in ap P (eqb-true f.0 g.0 h)

at_file : (s : ServerNo) (f g : FileNo) (xs : List StoredFile) (x : StoredFile) → stored_file s f xs ≡ Some x → file_eq f g ≡ true → stored_file s g xs ≡ Some x
at_file s f g xs x e h = subst (λ (k : FileNo). stored_file s k xs ≡ Some x) (file_eq-true f g h) e

cut_at : (s : ServerNo) (f : FileNo) (n : BlockNo) (before after : List StoredFile) (x y : StoredFile) → stored_file s f before ≡ Some x → ((b : BlockNo) → stored_block b y.blocks.items ≡ (if nat_lt b.0 n.0 then stored_block b x.blocks.items else None)) → PutsFile s f (Some y) before after → (u : LockUnit) → registers after s u ≡ change (effect (Cut f n)) (registers before s) u
cut_at s f n before after x y e k p (File g) = rw (here s f (Some y) before after p g) (elim (cases_Bool (file_eq f g)) [ inl h ↦ rw (h, at_file s f g before x e h) | inr h ↦ rw h ])
cut_at s f n before after x y e k p (Block g b) = rw (here s f (Some y) before after p g) (elim (cases_Bool (file_eq f g)) [
  | inl h ↦ rw (h, at_file s f g before x e h) (k b ∙ grind (arith, nat_tests))
  | inr h ↦ rw h
])

written_at : (s : ServerNo) (f : FileNo) (n : BlockNo) (bytes : List ℕ) (before after : List StoredFile) (x y : StoredFile) → stored_file s f before ≡ Some x → ((b : BlockNo) → stored_block b y.blocks.items ≡ (if block_eq n b then Some bytes else stored_block b x.blocks.items)) → PutsFile s f (Some y) before after → (u : LockUnit) → registers after s u ≡ change (effect (Write f n bytes)) (registers before s) u
written_at s f n bytes before after x y e k p (File g) = rw (here s f (Some y) before after p g) (elim (cases_Bool (file_eq f g)) [ inl h ↦ rw (h, at_file s f g before x e h) | inr h ↦ rw h ])
written_at s f n bytes before after x y e k p (Block g b) = rw (here s f (Some y) before after p g) (elim (cases_Bool (file_eq f g)) [
  | inl h ↦ rw (h, at_file s f g before x e h) (k b ∙ elim (cases_Bool (block_eq n b)) [ inl m ↦ rw m | inr m ↦ rw m ])
  | inr h ↦ rw h
])

-- a file put at the place of one of its name
put_file : (s : ServerNo) (f : FileNo) (xs : List StoredFile) (i : ℕ) (x y : StoredFile) → IsPlace s f xs i x → y.server ≡ x.server → y.file ≡ x.file → PutsFile s f (Some y) xs (set xs i y)
put_file s f xs i x y place es ef =
    let named : is_file s f y ≡ true = rw (es, ef) place.named in
    record { file_at = stored_file-set s f xs i y place.first place.within named }

pub cut_there : (s : ServerNo) (f : FileNo) (n : BlockNo) (xs : List StoredFile) (i : ℕ) (x y : StoredFile) → IsPlace s f xs i x → y.server ≡ x.server → y.file ≡ x.file → y.blocks.items ≡ filter (λ (b : StoredBlock). nat_lt b.block.0 n.0) x.blocks.items → Does s (Cut f n) xs (set xs i y) Did
cut_there s f n xs i x y place es ef kept =
    let p = put_file s f xs i x y place es ef in
    record {
      answers = rw place.found refl;
      files = changed s (Cut f n) f (Some y) xs (set xs i y) p (rw place.found refl) (cut_at s f n xs (set xs i y) x y place.found (λ b. rw kept (stored_block-filter n x.blocks.items b)) p);
      room = omega (arith, length-set {A = StoredFile});
      blocks = omega (arith, block_count-set xs i x y place.within place.item, ap (length {A = StoredBlock}) kept, length-filter (λ (b : StoredBlock). nat_lt b.block.0 n.0) x.blocks.items);
    }

pub write_there : (s : ServerNo) (f : FileNo) (n : BlockNo) (bytes : List ℕ) (xs : List StoredFile) (i : ℕ) (x y : StoredFile) → IsPlace s f xs i x → y.server ≡ x.server → y.file ≡ x.file → ((b : BlockNo) → stored_block b y.blocks.items ≡ (if block_eq n b then Some bytes else stored_block b x.blocks.items)) → length y.blocks.items ≤ length x.blocks.items + 1 → Does s (Write f n bytes) xs (set xs i y) Did
write_there s f n bytes xs i x y place es ef stored room =
    let p = put_file s f xs i x y place es ef in
    record {
      answers = rw place.found refl;
      files = changed s (Write f n bytes) f (Some y) xs (set xs i y) p (rw place.found refl) (written_at s f n bytes xs (set xs i y) x y place.found stored p);
      room = omega (arith, length-set {A = StoredFile});
      blocks = omega (arith, block_count-set xs i x y place.within place.item);
    }

-- a file whose blocks were moved in memory alone
pub Keeps-set : (s : ServerNo) (f : FileNo) (xs : List StoredFile) (i : ℕ) (x y : StoredFile) → IsPlace s f xs i x → y.server ≡ x.server → y.file ≡ x.file → y.blocks.items ≡ x.blocks.items → Keeps xs (set xs i y)
Keeps-set s f xs i x y place es ef same =
    let p = put_file s f xs i x y place es ef in
    record {
      files = λ q u. elim (cases_Bool (server_eq s q)) [
        | inl h ↦ subst (λ (r : ServerNo). registers (set xs i y) r u ≡ registers xs r u) (server_eq-true s q h) (kept_at s f xs (set xs i y) x y place.found same p u)
        | inr h ↦ elsewhere s f (Some y) xs (set xs i y) p q h u
      ];
      room = omega (arith, length-set {A = StoredFile});
      blocks = omega (arith, block_count-set xs i x y place.within place.item, ap (length {A = StoredBlock}) same);
    }
  where
    kept_at : (s : ServerNo) (f : FileNo) (before after : List StoredFile) (x y : StoredFile) → stored_file s f before ≡ Some x → y.blocks.items ≡ x.blocks.items → PutsFile s f (Some y) before after → (u : LockUnit) → registers after s u ≡ registers before s u
    kept_at s f before after x y e k p (File g) = rw (here s f (Some y) before after p g) (elim (cases_Bool (file_eq f g)) [ inl h ↦ rw (h, at_file s f g before x e h) | inr h ↦ rw h ])
    kept_at s f before after x y e k p (Block g b) = rw (here s f (Some y) before after p g) (elim (cases_Bool (file_eq f g)) [
      | inl h ↦ rw (h, at_file s f g before x e h, k)
      | inr h ↦ rw h
    ])

pub on_err : {A E : Type 0} (P : A → Type 0) (Q : Type 0) (r : Result A E) → IsErr r → Q → MatchResult r P (λ (e : E). Q)
on_err P Q (Ok x) h q = absurd (cc h)
on_err P Q (Err e) h q = q
