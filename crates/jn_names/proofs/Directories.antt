-- A directory of the format as a map, and what a call makes of it.
use Rattle.std.proofs.Common.{◌≡◌, ℕ, zero, suc, ◌+◌, ◌%◌, ◌≤◌, ◌<◌, Bool, true, false, List, [], ◌∷◌, ◌++◌, Option, Some, None, option_map, Result, Ok, Err, inl, inr, refl, sym, ◌∙◌, ap, subst, arith, eqb-true, eq-eqb}
use Rattle.std.specs.Prelude.{bytes_eq, nat_eq, is_none, is_some, sum, option_and_then, if◌then◌else◌}
use Rattle.std.proofs.Math.Nat.{mod-lt}
use Rattle.std.proofs.Math.Path.{fun_ext}
use Rattle.std.proofs.lemmas.Bool.{cases_Bool}
use Rattle.jn_base.specs.declared.names.FileNo.{FileNo}
use Rattle.jn_base.specs.declared.names.LockUnit.{LockUnit}
use Rattle.jn_base.specs.declared.names.LockUnit.TheVariants.{File, Block}
use Rattle.jn_base.specs.Names.{file_eq, block_eq, unit_eq, is_name}
use Rattle.jn_order.specs.Files.{Files, change, written, or_else}
unfoldable use Rattle.jn_order.specs.Files.{zeros}
use Rattle.jn_order.specs.Changes.{or_also}
use Rattle.jn_names.specs.declared.entry.Entry.{Entry}
use Rattle.jn_names.specs.declared.next.NameNext.{NameNext}
use Rattle.jn_names.specs.declared.next.NameNext.TheVariants.{Did, Names, Refused}
use Rattle.jn_names.specs.declared.next.NameRefusal.TheVariants.{BucketFull, NoName}
use Rattle.jn_names.specs.Names.{bucket_of}
unfoldable use Rattle.jn_names.specs.Names.{buckets}
use Rattle.jn_names.specs.Buckets.{Slot, find_in, belongs, all_belong, IsBucket}
unfoldable use Rattle.jn_names.specs.Buckets.{bucket_in, bucket_bytes}
use Rattle.jn_names.specs.Calls.{bucket_at, entries_of, entries_from, with_bucket}
use Rattle.jn_names.specs.Maps.{NameMap, file_in, names_of}
use Rattle.jn_names.proofs.Checking.{parts}
use Rattle.jn_names.proofs.ReadBack.{bucket-back}
use Rattle.jn_names.proofs.Listing.{Distinct, file-append}
use Rattle.jn_names.proofs.Tests.{left, right, eq-true, eq-fails, next-one}

-- ---- the entries of one bucket

pub file-slots : (slots : List Slot) (name : List ℕ) → file_in (entries_of slots) name ≡ find_in name slots
file-slots [] name = refl
file-slots (None ∷ slots) name = file-slots slots name
file-slots (Some e ∷ slots) name = ap (λ (o : Option FileNo). if bytes_eq e.name name then Some e.file else o) (file-slots slots name)

of-bucket : (k : ℕ) (e : Entry) (slots : List Slot) → belongs k (Some e) slots ≡ true → bucket_of e.name ≡ k
of-bucket k e slots h = eqb-true (bucket_of e.name) k (right (is_name e.name) _ (left _ (is_none (find_in e.name slots)) h))

-- a name of another bucket isn't there
foreign : (k : ℕ) (slots : List Slot) (name : List ℕ) → all_belong k slots ≡ true → nat_eq k (bucket_of name) ≡ false → find_in name slots ≡ None
foreign k [] name h other = refl
foreign k (None ∷ slots) name h other = foreign k slots name h other
foreign k (Some e ∷ slots) name h other = elim (cases_Bool (bytes_eq e.name name)) [
  | inl m ↦ absurd (let z : k ≡ bucket_of name = sym (of-bucket k e slots (left _ (all_belong k slots) h)) ∙ ap bucket_of (eq-true e.name name m) in cc (sym (eq-eqb k (bucket_of name) z) ∙ other))
  | inr m ↦ rw m (foreign k slots name (right (belongs k (Some e) slots) _ h) other)
]

none-of : (o : Option FileNo) → is_none o ≡ true → o ≡ None
none-of None h = refl
none-of (Some x) h = absurd (cc h)

-- the entries of a bucket in front of those of others
distinct-join : (k : ℕ) (slots : List Slot) (es : List Entry) → all_belong k slots ≡ true → ((name : List ℕ) → bucket_of name ≡ k → file_in es name ≡ None) → Distinct es → Distinct (entries_of slots ++ es)
distinct-join k [] es h apart d = d
distinct-join k (None ∷ slots) es h apart d = distinct-join k slots es h apart d
distinct-join k (Some e ∷ slots) es h apart d =
    let b = left (belongs k (Some e) slots) (all_belong k slots) h in
    let none : find_in e.name slots ≡ None = none-of (find_in e.name slots) (right _ (is_none (find_in e.name slots)) b) in (
      file-append (entries_of slots) es e.name ∙ rw (file-slots slots e.name, none) (apart e.name (of-bucket k e slots b)),
      distinct-join k slots es (right (belongs k (Some e) slots) _ h) apart d,
    )

-- ---- the entries of buckets

module _ (files : Files) (d : FileNo) where
  record Step (k n : ℕ) (es : List Entry) : Type 0 where
    slots : List Slot
    more : List Entry
    here : bucket_at files d k ≡ Some slots
    behind : entries_from files d (k + 1) n ≡ Some more
    joined : es ≡ entries_of slots ++ more

  one-list : (x y : List Entry) → Some x ≡ Some y → x ≡ y
  one-list x y e = cc

  step : (k n : ℕ) (es : List Entry) → entries_from files d k (suc n) ≡ Some es → Step k n es
  step k n es h = by (bucket_at files d k) (entries_from files d (k + 1) n) refl refl h
    where
      by : (o : Option (List Slot)) (m : Option (List Entry)) → bucket_at files d k ≡ o → entries_from files d (k + 1) n ≡ m → option_and_then (λ slots. option_map (λ xs. entries_of slots ++ xs) m) o ≡ Some es → Step k n es
      by None m e f g = absurd (cc g)
      by (Some slots) None e f g = absurd (cc g)
      by (Some slots) (Some more) e f g = record { slots = slots; more = more; here = e; behind = f; joined = sym (one-list (entries_of slots ++ more) es g) }

  belong : (k : ℕ) (slots : List Slot) → bucket_at files d k ≡ Some slots → all_belong k slots ≡ true
  belong k slots h = (parts k (or_else (files (Block d (record { 0 = k }))) zeros) slots h).belong

  -- the file of a name in a bucket in front of others
  file-join : (slots more : List Entry) (es : List Entry) (name : List ℕ) (o : Option FileNo) → es ≡ slots ++ more → file_in slots name ≡ o → file_in es name ≡ or_also o (file_in more name)
  file-join slots more es name o e f = ap (λ (x : List Entry). file_in x name) e ∙ file-append slots more name ∙ ap (λ (x : Option FileNo). or_also x (file_in more name)) f

  -- a name of a bucket before these
  pub absent-before : (n k : ℕ) (es : List Entry) → entries_from files d k n ≡ Some es → (name : List ℕ) → bucket_of name < k → file_in es name ≡ None
  absent-before zero k es h name b = subst (λ (x : List Entry). file_in x name ≡ None) (one-list [] es h) refl
  absent-before (suc n) k es h name b =
      let s = step k n es h in
      file-join (entries_of s.slots) s.more es name None s.joined (file-slots s.slots name ∙ foreign k s.slots name (belong k s.slots s.here) (eq-fails k (bucket_of name) b))
      ∙ absent-before n (k + 1) s.more s.behind name (omega (arith, b))

  pub distinct-all : (n k : ℕ) (es : List Entry) → entries_from files d k n ≡ Some es → Distinct es
  distinct-all zero k es h = subst Distinct (one-list [] es h) tt
  distinct-all (suc n) k es h =
      let s = step k n es h in
      subst Distinct (sym s.joined) (distinct-join k s.slots s.more (belong k s.slots s.here) (λ name b. absent-before n (k + 1) s.more s.behind name (omega (arith, b))) (distinct-all n (k + 1) s.more s.behind))

  pub each-bucket : (n k : ℕ) (es : List Entry) → entries_from files d k n ≡ Some es → (j : ℕ) → k ≤ j → j < k + n → (slots : List Slot) × (bucket_at files d j ≡ Some slots)
  each-bucket zero k es h j low high = absurd (omega (arith, low, high))
  each-bucket (suc n) k es h j low high =
      let s = step k n es h in
      elim (cases_Bool (nat_eq k j)) [
        | inl m ↦ subst (λ (i : ℕ). (slots : List Slot) × (bucket_at files d i ≡ Some slots)) (eqb-true k j m) (s.slots, s.here)
        | inr m ↦ each-bucket n (k + 1) s.more s.behind j (next-one k j low m) (omega (arith, high))
      ]

  one-bucket : (x y : List Slot) → Some x ≡ Some y → x ≡ y
  one-bucket x y e = cc

  or-none : (o : Option FileNo) → or_also o None ≡ o
  or-none None = refl
  or-none (Some x) = refl

  -- a name is found in its own bucket, be that the first one or not
  here-or-behind : (k : ℕ) (first slots : List Slot) (behind : Option FileNo) (name : List ℕ) → all_belong k first ≡ true → (nat_eq k (bucket_of name) ≡ true → (first ≡ slots) × (behind ≡ None))
      → (nat_eq k (bucket_of name) ≡ false → behind ≡ find_in name slots) → or_also (find_in name first) behind ≡ find_in name slots
  here-or-behind k first slots behind name b same other = elim (cases_Bool (nat_eq k (bucket_of name))) [
    | inl m ↦ ap (or_also (find_in name first)) (same m).1 ∙ or-none (find_in name first) ∙ ap (find_in name) (same m).0
    | inr m ↦ ap (λ (o : Option FileNo). or_also o behind) (foreign k first name b m) ∙ other m
  ]

  pub file-of : (n k : ℕ) (es : List Entry) → entries_from files d k n ≡ Some es → (name : List ℕ) (slots : List Slot) → k ≤ bucket_of name → bucket_of name < k + n → bucket_at files d (bucket_of name) ≡ Some slots → file_in es name ≡ find_in name slots
  file-of zero k es h name slots low high b = absurd (omega (arith, low, high))
  file-of (suc n) k es h name slots low high b =
      let s = step k n es h in
      file-join (entries_of s.slots) s.more es name (find_in name s.slots) s.joined (file-slots s.slots name)
      ∙ here-or-behind k s.slots slots (file_in s.more name) name (belong k s.slots s.here)
      (λ m. (let e = eqb-true k (bucket_of name) m in
      (one-bucket s.slots slots (sym s.here ∙ subst (λ (i : ℕ). bucket_at files d i ≡ Some slots) (sym e) b), absent-before n (k + 1) s.more s.behind name (omega (arith, e)))))
      (λ m. file-of n (k + 1) s.more s.behind name slots (next-one k (bucket_of name) low m) (omega (arith, high)) b)

  pub from-each : (n k : ℕ) → ((j : ℕ) → k ≤ j → j < k + n → (slots : List Slot) × (bucket_at files d j ≡ Some slots)) → (es : List Entry) × (entries_from files d k n ≡ Some es)
  from-each zero k h = ([], refl)
  from-each (suc n) k h =
      let here = h k (omega arith) (omega arith) in
      let more = from-each n (k + 1) (λ j low high. h j (omega (arith, low)) (omega (arith, high))) in
      (entries_of here.0 ++ more.0, rw (here.1, more.1) refl)

-- ---- a directory

pub record IsMap (files : Files) (d : FileNo) (names : NameMap) : Type 0 where
  pub there : is_some (files (File d)) ≡ true
  pub entries : List Entry
  pub all : entries_from files d 0 buckets ≡ Some entries
  pub same : names ≡ file_in entries

pub is-map : (files : Files) (d : FileNo) (names : NameMap) → names_of files d ≡ Some names → IsMap files d names
is-map files d names h = by (is_some (files (File d))) (entries_from files d 0 buckets) refl refl h
  where
    one : (x y : NameMap) → Some x ≡ Some y → x ≡ y
    one x y e = cc

    by : (b : Bool) (o : Option (List Entry)) → is_some (files (File d)) ≡ b → entries_from files d 0 buckets ≡ o → (if b then option_map file_in o else None) ≡ Some names → IsMap files d names
    by false o e f g = absurd (cc g)
    by true None e f g = absurd (cc g)
    by true (Some es) e f g = record { there = e; entries = es; all = f; same = sym (one (file_in es) names g) }

below-all : (name : List ℕ) → bucket_of name < 0 + buckets
unfolding buckets
below-all name = let m : sum name % 32 < 32 = mod-lt (sum name) (omega arith) in omega (arith, m)

pub record HasBucket (files : Files) (d : FileNo) (names : NameMap) (name : List ℕ) : Type 0 where
  pub slots : List Slot
  pub here : bucket_at files d (bucket_of name) ≡ Some slots
  pub found : names name ≡ find_in name slots

pub has-bucket : (files : Files) (d : FileNo) (names : NameMap) → IsMap files d names → (name : List ℕ) → HasBucket files d names name
has-bucket files d names m name =
    let b = each-bucket files d buckets 0 m.entries m.all (bucket_of name) (omega arith) (below-all name) in
    record {
      slots = b.0;
      here = b.1;
      found = ap (λ (f : NameMap). f name) m.same ∙ file-of files d buckets 0 m.entries m.all name b.0 (omega arith) (below-all name) b.1;
    }

-- ---- one bucket is written

module _ (files : Files) (d : FileNo) (k : ℕ) (now : List Slot) (bucket : IsBucket k now) where
  abbrev after : Files
  after = with_bucket d k (Ok now) files

  self-eq : (n : ℕ) → nat_eq n n ≡ true
  self-eq n = eq-eqb n n refl

  bucket-set : (j : ℕ) (slots : List Slot) → (nat_eq k j ≡ true → slots ≡ now) → (nat_eq k j ≡ false → bucket_at files d j ≡ Some slots) → bucket_at after d j ≡ Some slots
  bucket-set j slots same other = elim (cases_Bool (nat_eq k j)) [
    | inl m ↦ rw (self-eq d.0, m) (subst (λ (i : ℕ). bucket_in i (bucket_bytes now) ≡ Some slots) (eqb-true k j m) (rw (same m) (bucket-back k now bucket)))
    | inr m ↦ rw (self-eq d.0, m) (other m)
  ]

  pub names-set : (names g : NameMap) → IsMap files d names → ((name : List ℕ) → nat_eq k (bucket_of name) ≡ true → g name ≡ find_in name now) → ((name : List ℕ) → nat_eq k (bucket_of name) ≡ false → g name ≡ names name) → names_of after d ≡ Some g
  names-set names g m same other =
      let es = from-each after d buckets 0 each in
      rw (m.there, es.1) (ap (λ (f : NameMap). Some f) (fun_ext (λ name. pointwise es.0 es.1 name)))
    where
      each : (j : ℕ) → 0 ≤ j → j < 0 + buckets → (slots : List Slot) × (bucket_at after d j ≡ Some slots)
      each j low high = elim (cases_Bool (nat_eq k j)) [
        | inl e ↦ (now, bucket-set j now (λ _. refl) (λ f. absurd (cc (sym e ∙ f))))
        | inr e ↦ (let b = each-bucket files d buckets 0 m.entries m.all j low high in (b.0, bucket-set j b.0 (λ f. absurd (cc (sym f ∙ e))) (λ _. b.1)))
      ]

      pointwise : (es : List Entry) → entries_from after d 0 buckets ≡ Some es → (name : List ℕ) → file_in es name ≡ g name
      pointwise es h name = elim (cases_Bool (nat_eq k (bucket_of name))) [
        | inl e ↦ file-of after d buckets 0 es h name now (omega arith) (below-all name) (bucket-set (bucket_of name) now (λ _. refl) (λ f. absurd (cc (sym e ∙ f)))) ∙ sym (same name e)
        | inr e ↦ (let b = has-bucket files d names m name in
            file-of after d buckets 0 es h name b.slots (omega arith) (below-all name) (bucket-set (bucket_of name) b.slots (λ f. absurd (cc (sym f ∙ e))) (λ _. b.here)) ∙ sym b.found ∙ sym (other name e))
      ]

-- whatever is written, nothing else changes
pub others-stay : (d : FileNo) (k : ℕ) (result : Result (List Slot) NameNext) (files : Files) (u : LockUnit) → unit_eq (Block d (record { 0 = k })) u ≡ false → with_bucket d k result files u ≡ files u
others-stay d k (Err reply) files u h = refl
others-stay d k (Ok slots) files (File g) h = refl
others-stay d k (Ok slots) files (Block g q) h = rw h refl
