-- On a directory each call is that of a map.
use Rattle.std.proofs.Common.{◌≡◌, ℕ, ◌<◌, ◌^◌, true, false, List, [], Option, Some, None, Ok, inl, inr, refl, sym, ◌∙◌, ap, subst, eqb-true, eq-eqb}
use Rattle.std.specs.Prelude.{bytes_eq, ◌↔◌, nat_eq, is_some, if◌then◌else◌}
use Rattle.std.proofs.Math.Path.{fun_ext}
use Rattle.std.proofs.lemmas.Bool.{cases_Bool}
use Rattle.jn_base.specs.declared.names.FileNo.{FileNo}
use Rattle.jn_base.specs.declared.names.LockUnit.{LockUnit}
use Rattle.jn_base.specs.declared.names.LockUnit.TheVariants.{File, Block}
use Rattle.jn_base.specs.Names.{unit_eq, is_name}
use Rattle.jn_order.specs.Files.{Files}
use Rattle.jn_names.specs.declared.entry.Entry.{Entry}
use Rattle.jn_base.specs.declared.call.NameCommand.{NameCommand}
use Rattle.jn_base.specs.declared.call.NameCommand.TheVariants as calls
use Rattle.jn_names.specs.declared.next.NameNext.{NameNext}
use Rattle.jn_names.specs.declared.next.NameNext.TheVariants.{Did, Found, Names, Refused}
use Rattle.jn_names.specs.declared.next.NameRefusal.TheVariants.{BucketFull, NoName}
use Rattle.jn_names.specs.Names.{bucket_of}
unfoldable use Rattle.jn_names.specs.Names.{buckets}
use Rattle.jn_names.specs.Buckets.{Slot, find_in, IsBucket, bound_in, unbound_in}
unfoldable use Rattle.jn_names.specs.Buckets.{bucket_in, bucket_bytes}
use Rattle.jn_names.specs.Calls.{directory_of, name_of, bucket_at, found, or_refused, made_at, ascending, listed, replied, reply_to, with_bucket, files_after_call}
use Rattle.jn_names.specs.Maps.{NameMap, names_of, bound, unbound, Lists, gone, IsOfMap, Fits, IsFull}
use Rattle.jn_names.proofs.Bytes.{name-some}
use Rattle.jn_names.proofs.Directories.{IsMap, is-map, HasBucket, has-bucket, names-set, others-stay, distinct-all}
use Rattle.jn_names.proofs.Exchanging.{names-leave}
use Rattle.jn_names.proofs.Listing.{lists-ascending}
use Rattle.jn_names.proofs.ReadBack.{bucket-of}
use Rattle.jn_names.proofs.Slots.{entry, Binds, Replaced, Added, Full, binds, Frees, Freed, Absent, frees, find-bound, find-added, find-unbound, found-put, put-somewhere, bucket-replaced, bucket-added, bucket-freed, full-counts, counted-full}
use Rattle.jn_names.proofs.Tests.{eq-true}

other-name : (name other : List ℕ) → nat_eq (bucket_of name) (bucket_of other) ≡ false → bytes_eq name other ≡ false
other-name name other m = elim (cases_Bool (bytes_eq name other)) [
  | inl e ↦ absurd (cc (sym (eq-eqb (bucket_of name) (bucket_of other) (ap bucket_of (eq-true name other e))) ∙ m))
  | inr e ↦ e
]

module _ (files : Files) (d : FileNo) (names : NameMap) (m : IsMap files d names) (name : List ℕ) (b : HasBucket files d names name) where
  bucket : IsBucket (bucket_of name) b.slots
  bucket = (bucket-of (bucket_of name) _ b.slots b.here).0

  found-at : (other : List ℕ) → nat_eq (bucket_of name) (bucket_of other) ≡ true → names other ≡ find_in other b.slots
  found-at other e =
      let c = has-bucket files d names m other in
      c.found ∙ ap (find_in other) (one c.slots b.slots (sym c.here ∙ subst (λ (k : ℕ). bucket_at files d k ≡ Some b.slots) (eqb-true (bucket_of name) (bucket_of other) e) b.here))
    where
      one : (x y : List Slot) → Some x ≡ Some y → x ≡ y
      one x y h = cc

  -- a bucket in which the name has this file, or none, and each other name what it had
  changed : (r : Option FileNo) (now : List Slot) → IsBucket (bucket_of name) now → ((other : List ℕ) → find_in other now ≡ (if bytes_eq name other then r else find_in other b.slots))
      → names_of (with_bucket d (bucket_of name) (Ok now) files) d ≡ Some (λ other. if bytes_eq name other then r else names other)
  changed r now is h = names-set files d (bucket_of name) now is names (λ other. if bytes_eq name other then r else names other) m
      (λ other e. (ap (λ (o : Option FileNo). if bytes_eq name other then r else o) (found-at other e) ∙ sym (h other)))
      (λ other e. rw (other-name name other e) refl)

  bind-law : (file : FileNo) (o : Option (List Slot)) → is_name name ≡ true → file.0 < 2 ^ 32 → names_of files d ≡ Some names → Binds name file b.slots o
      → (now : NameMap) × (names_of (with_bucket d (bucket_of name) (or_refused BucketFull o) files) d ≡ Some now) × IsOfMap (calls.Bind d name file) names (replied (or_refused BucketFull o)) now
  bind-law file _ n f h (Replaced now p) = (bound name file names, changed (Some file) now (bucket-replaced name file b.slots now n f bucket p) (λ other. find-bound name other file b.slots now p), inl (refl, refl))
  bind-law file _ n f h (Added now none p) = (bound name file names, changed (Some file) now (bucket-added name file b.slots now n f bucket none p) (λ other. find-added (bucket_of name) name other file b.slots now bucket.belong none p), inl (refl, refl))
  bind-law file _ n f h (Full none free) = (names, h, inr (refl, refl))

  absent-same : names name ≡ None → names ≡ unbound name names
  absent-same none = fun_ext (λ other. by other)
    where
      by : (other : List ℕ) → names other ≡ unbound name names other
      by other = elim (cases_Bool (bytes_eq name other)) [
        | inl e ↦ rw e (ap names (sym (eq-true name other e)) ∙ none)
        | inr e ↦ rw e refl
      ]

  gone-did : (o : Option FileNo) → is_some o ≡ true → Did ≡ gone o
  gone-did None h = absurd (cc h)
  gone-did (Some x) h = refl

  unbind-law : (o : Option (List Slot)) → is_name name ≡ true → names_of files d ≡ Some names → Frees name b.slots o
      → (now : NameMap) × (names_of (with_bucket d (bucket_of name) (or_refused NoName o) files) d ≡ Some now) × IsOfMap (calls.Unbind d name) names (replied (or_refused NoName o)) now
  unbind-law _ n h (Freed now p) = (
    unbound name names,
    changed None now (bucket-freed (bucket_of name) name b.slots now (name-some name n) bucket p) (λ other. find-unbound (bucket_of name) name other b.slots now bucket.belong (name-some name n) p),
    (gone-did (names name) (ap is_some b.found ∙ found-put name None b.slots now (name-some name n) p), refl),
  )
  unbind-law _ n h (Absent none) = (names, h, (ap gone (sym (b.found ∙ none)), absent-same (b.found ∙ none)))

  full-law : (file : FileNo) (o : Option (List Slot)) → is_name name ≡ true → Binds name file b.slots o → (replied (or_refused BucketFull o) ≡ Refused BucketFull) ↔ ((names name ≡ None) × IsFull (Some b.slots))
  full-law file _ n (Replaced now p) = (λ h. absurd (cc h), λ h. absurd (let s = found-put name (Some (entry name file)) b.slots now (name-some name n) p in cc (sym s ∙ ap is_some (sym b.found ∙ h.0))))
  full-law file _ n (Added now none p) = (λ h. absurd (cc h), λ h. absurd (put-somewhere [] (Some (entry name file)) b.slots now p (counted-full (bucket_of name) b.slots bucket.belong (h.1 ∙ sym bucket.six))))
  full-law file _ n (Full none free) = (λ h. (b.found ∙ none, full-counts b.slots free ∙ bucket.six), λ h. refl)

pub full-bind : (d : FileNo) (name : List ℕ) (file : FileNo) (files : Files) (names : NameMap) → is_name name ≡ true → names_of files d ≡ Some names
    → (reply_to (calls.Bind d name file) files ≡ Refused BucketFull) ↔ ((names name ≡ None) × IsFull (bucket_at files d (bucket_of name)))
full-bind d name file files names n h =
    let m = is-map files d names h in
    let b = has-bucket files d names m name in
    rw (m.there, b.here) (full-law files d names m name b file (bound_in name file b.slots) n (binds name file b.slots))

pub answers : (command : NameCommand) (files : Files) (names : NameMap) → Fits command → names_of files (directory_of command) ≡ Some names
    → (now : NameMap) × (names_of (files_after_call command files) (directory_of command) ≡ Some now) × IsOfMap command names (reply_to command files) now
answers (calls.Bind d name file) files names f h =
    let m = is-map files d names h in
    let b = has-bucket files d names m name in
    rw (m.there, b.here) (bind-law files d names m name b file (bound_in name file b.slots) f.0 f.1 h (binds name file b.slots))
answers (calls.Unbind d name) files names f h =
    let m = is-map files d names h in
    let b = has-bucket files d names m name in
    rw (m.there, b.here) (unbind-law files d names m name b (unbound_in name b.slots) f h (frees name b.slots))
answers (calls.Find d name) files names f h =
    let m = is-map files d names h in
    let b = has-bucket files d names m name in
    rw (m.there, b.here) (names, h, (ap found (sym b.found), refl))
answers (calls.Names d) files names f h =
    let m = is-map files d names h in
    rw (m.there, names-leave d (bucket_of []) (bucket_at files d (bucket_of [])) files)
    (names, h, (ascending m.entries, ap listed m.all, subst (λ (g : NameMap). Lists (ascending m.entries) g) (sym m.same) (lists-ascending m.entries (distinct-all files d buckets 0 m.entries m.all)), refl))

pub others : (command : NameCommand) (files : Files) (u : LockUnit) → unit_eq (Block (directory_of command) (record { 0 = bucket_of (name_of command) })) u ≡ false → files_after_call command files u ≡ files u
others command files u h = elim (cases_Bool (is_some (files (File (directory_of command))))) [
  | inl e ↦ rw e (others-stay (directory_of command) (bucket_of (name_of command)) (made_at command (bucket_at files (directory_of command) (bucket_of (name_of command)))) files u h)
  | inr e ↦ rw e refl
]
