-- What a call leaves as it was: all files where nothing is written, and the entries of other names where one is.
use Rattle.std.proofs.Common.{◌≡◌, ℕ, zero, suc, true, false, List, [], ◌∷◌, length, Option, Some, None, Result, Ok, Err, inl, inr, refl, sym, ◌∙◌, ap, subst, arith}
use Rattle.std.specs.Prelude.{bytes_eq, slice_get, is_some}
use Rattle.std.proofs.lemmas.Bool.{cases_Bool}
use Rattle.jn_base.specs.declared.names.FileNo.{FileNo}
use Rattle.jn_base.specs.declared.names.LockUnit.TheVariants.{File}
use Rattle.jn_order.specs.Files.{Files}
use Rattle.jn_names.specs.declared.entry.Entry.{Entry}
use Rattle.jn_base.specs.declared.call.NameCommand.{NameCommand}
use Rattle.jn_base.specs.declared.call.NameCommand.TheVariants as calls
use Rattle.jn_names.specs.declared.next.NameNext.{NameNext}
use Rattle.jn_names.specs.declared.next.NameNext.TheVariants.{Refused}
use Rattle.jn_names.specs.declared.next.NameRefusal.{NameRefusal}
use Rattle.jn_names.specs.Names.{bucket_of}
use Rattle.jn_names.specs.Buckets.{Slot, name_in, belongs, all_belong, IsBucket, bound_in, unbound_in}
use Rattle.jn_names.specs.Calls.{bucket_at, made_at, replied, reply_to, with_bucket, files_after_call}
use Rattle.jn_names.proofs.Bytes.{name-some}
use Rattle.jn_names.proofs.Exchanging.{names-leave}
use Rattle.jn_names.proofs.Slots.{entry, Puts, Here, Behind, Binds, Replaced, Added, Full, binds, Frees, Freed, Absent, frees, no-name}
use Rattle.jn_names.proofs.Tests.{left, right, eq-true}

-- ---- files

find-made : (d : FileNo) (name : List ℕ) (k : ℕ) (o : Option (List Slot)) (files : Files) → with_bucket d k (made_at (calls.Find d name) o) files ≡ files
find-made d name k None files = refl
find-made d name k (Some slots) files = refl

pub find-leaves : (d : FileNo) (name : List ℕ) (files : Files) → files_after_call (calls.Find d name) files ≡ files
find-leaves d name files = elim (cases_Bool (is_some (files (File d)))) [
  | inl h ↦ rw h (find-made d name (bucket_of name) (bucket_at files d (bucket_of name)) files)
  | inr h ↦ rw h refl
]

pub list-leaves : (d : FileNo) (files : Files) → files_after_call (calls.Names d) files ≡ files
list-leaves d files = elim (cases_Bool (is_some (files (File d)))) [
  | inl h ↦ rw h (names-leave d (bucket_of []) (bucket_at files d (bucket_of [])) files)
  | inr h ↦ rw h refl
]

refused-made : (d : FileNo) (k : ℕ) (r : Result (List Slot) NameNext) (files : Files) (why : NameRefusal) → replied r ≡ Refused why → with_bucket d k r files ≡ files
refused-made d k (Ok slots) files why e = absurd (cc e)
refused-made d k (Err reply) files why e = refl

pub refused-leaves : (command : NameCommand) (files : Files) (why : NameRefusal) → reply_to command files ≡ Refused why → files_after_call command files ≡ files
refused-leaves (calls.Bind d name file) files why e = elim (cases_Bool (is_some (files (File d)))) [
  | inl h ↦ rw h (refused-made d (bucket_of name) (made_at (calls.Bind d name file) (bucket_at files d (bucket_of name))) files why (rw h at e))
  | inr h ↦ rw h refl
]
refused-leaves (calls.Unbind d name) files why e = elim (cases_Bool (is_some (files (File d)))) [
  | inl h ↦ rw h (refused-made d (bucket_of name) (made_at (calls.Unbind d name) (bucket_at files d (bucket_of name))) files why (rw h at e))
  | inr h ↦ rw h refl
]
refused-leaves (calls.Find d name) files why e = find-leaves d name files
refused-leaves (calls.Names d) files why e = list-leaves d files

-- ---- entries

one : (a b : Slot) → Some a ≡ Some b → a ≡ b
one a b h = cc

-- where a slot stands in the place of a name, each entry of another name stands as before
stands : (name : List ℕ) (new : Slot) (slots now : List Slot) (place : ℕ) (e : Entry) → Puts name new slots now → bytes_eq e.name name ≡ false → slice_get slots place ≡ Some (Some e) → slice_get now place ≡ Some (Some e)
stands name new _ _ zero e (Here slot slots k) other h = absurd (cc (sym (subst (λ (s : Slot). bytes_eq (name_in s) name ≡ true) (one slot (Some e) h) k) ∙ other))
stands name new _ _ (suc place) e (Here slot slots k) other h = h
stands name new _ _ zero e (Behind slot slots now k more) other h = h
stands name new _ _ (suc place) e (Behind slot slots now k more) other h = stands name new slots now place e more other h

-- the name of an entry isn't empty
has-name : (k : ℕ) (slots : List Slot) (place : ℕ) (e : Entry) → all_belong k slots ≡ true → slice_get slots place ≡ Some (Some e) → bytes_eq e.name [] ≡ false
has-name k [] place e b h = absurd (cc h)
has-name k (slot ∷ slots) zero e b h = elim (cases_Bool (bytes_eq e.name [])) [
  | inl q ↦ absurd (let s = name-some e.name (no-name k e slots (subst (λ (x : Slot). belongs k x slots ≡ true) (one slot (Some e) h) (left _ (all_belong k slots) b))) in let z : length e.name ≡ 0 = ap length (eq-true e.name [] q) in omega (arith, s, z))
  | inr q ↦ q
]
has-name k (slot ∷ slots) (suc place) e b h = has-name k slots place e (right (belongs k slot slots) _ b) h

pub bind-keeps : (k place : ℕ) (slots now : List Slot) (name : List ℕ) (file : FileNo) (e : Entry) → IsBucket k slots → bound_in name file slots ≡ Some now → bytes_eq e.name name ≡ false
    → slice_get slots place ≡ Some (Some e) → slice_get now place ≡ Some (Some e)
bind-keeps k place slots now name file e b h other here = by (bound_in name file slots) (binds name file slots) h
  where
    by : (o : Option (List Slot)) → Binds name file slots o → o ≡ Some now → slice_get now place ≡ Some (Some e)
    by _ (Replaced next p) q = let z : next ≡ now = cc in subst (λ (x : List Slot). slice_get x place ≡ Some (Some e)) z (stands name (Some (entry name file)) slots next place e p other here)
    by _ (Added next none p) q = let z : next ≡ now = cc in subst (λ (x : List Slot). slice_get x place ≡ Some (Some e)) z (stands [] (Some (entry name file)) slots next place e p (has-name k slots place e b.belong here) here)
    by _ (Full none free) q = absurd (cc q)

pub unbind-keeps : (place : ℕ) (slots now : List Slot) (name : List ℕ) (e : Entry) → unbound_in name slots ≡ Some now → bytes_eq e.name name ≡ false → slice_get slots place ≡ Some (Some e) → slice_get now place ≡ Some (Some e)
unbind-keeps place slots now name e h other here = by (unbound_in name slots) (frees name slots) h
  where
    by : (o : Option (List Slot)) → Frees name slots o → o ≡ Some now → slice_get now place ≡ Some (Some e)
    by _ (Freed next p) q = let z : next ≡ now = cc in subst (λ (x : List Slot). slice_get x place ≡ Some (Some e)) z (stands name None slots next place e p other here)
    by _ (Absent none) q = absurd (cc q)
