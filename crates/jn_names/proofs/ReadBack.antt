-- A block is read as a bucket exactly where it is what the bucket is written as.
use Rattle.std.proofs.Common.{◌≡◌, ℕ, zero, suc, ◌-◌, ◌%◌, ◌≤◌, ◌<◌, ◌^◌, true, List, [], ◌∷◌, ◌++◌, length, take, drop, replicate, Some, None, refl, sym, ◌∙◌, ap, subst, arith, append_assoc, length-append}
use Rattle.std.specs.Prelude.{◌↔◌, is_none}
use Rattle.std.proofs.Math.Nat.{mod-lt}
use Rattle.byteorder.specs.Endian.{big_bytes, big_number}
use Rattle.byteorder.specs.Numbers.{big_from-bytes, big_number-reads_back}
use Rattle.jn_base.specs.declared.names.FileNo.{FileNo}
use Rattle.jn_names.specs.declared.entry.Entry.{Entry}
use Rattle.jn_base.specs.Names.{is_name}
use Rattle.jn_names.specs.Names.{bucket_of}
use Rattle.jn_names.specs.Buckets.{Slot, slot_bytes, slots_bytes, slot_front, slots_front, find_in, belongs, all_belong, FileFits, AllFit, IsBucket}
unfoldable use Rattle.jn_names.specs.Buckets.{bucket_bytes, places_in, bucket_in}
use Rattle.jn_names.proofs.Bytes.{take-front, drop-front, name-some, name-few, length-filled, length-slot, AreLong, are-long}
use Rattle.jn_names.proofs.Changing.{six-places}
use Rattle.jn_names.proofs.Checking.{parts, of-parts}
use Rattle.jn_names.proofs.Tests.{left, right}

-- ---- what was written is read

module _ (name : List ℕ) (file : FileNo) (some : 1 ≤ length name) (few : length name ≤ 64) (fits : file.0 < 2 ^ 32) where
  abbrev filled : List ℕ
  filled = name ++ replicate (64 - length name) 0

  front : (rest : List ℕ) → slot_front (slot_bytes (Some (record { name = name; file = file })) ++ rest) ≡ Some (record { name = name; file = file })
  front rest = by (length name) refl
    where
      behind : List ℕ
      behind = (filled ++ big_bytes 4 file.0) ++ rest

      by : (n : ℕ) → length name ≡ n → slot_front (n ∷ behind) ≡ Some (record { name = name; file = file })
      by zero e = absurd (omega (arith, e, some))
      by (suc n) e = ap (λ (x : List ℕ). Some (record { name = x; file = record { 0 = big_number 4 (drop 64 behind) } })) its-name ∙ ap (λ (x : ℕ). Some (record { name = name; file = record { 0 = x } })) its-file
        where
          its-name : take (suc n) behind ≡ name
          its-name = ap (take (suc n)) (append_assoc filled (big_bytes 4 file.0) rest ∙ append_assoc name (replicate (64 - length name) 0) (big_bytes 4 file.0 ++ rest)) ∙ take-front (suc n) name _ e

          its-file : big_number 4 (drop 64 behind) ≡ file.0
          its-file = ap (λ (x : List ℕ). big_number 4 x) (ap (drop 64) (append_assoc filled (big_bytes 4 file.0) rest) ∙ drop-front 64 filled (big_bytes 4 file.0 ++ rest) (length-filled name few)) ∙ big_number-reads_back 4 file.0 rest fits

front-of : (k : ℕ) (slot : Slot) (slots : List Slot) (rest : List ℕ) → belongs k slot slots ≡ true → FileFits slot → slot_front (slot_bytes slot ++ rest) ≡ slot
front-of k None slots rest h fits = refl
front-of k (Some e) slots rest h fits = let n = left (is_name e.name) _ (left _ (is_none (find_in e.name slots)) h) in front e.name e.file (name-some e.name n) (name-few e.name n) fits rest

read-back : (k : ℕ) (slots : List Slot) → all_belong k slots ≡ true → AllFit slots → slots_front (length slots) (slots_bytes slots) ≡ slots
read-back k [] h fits = refl
read-back k (slot ∷ slots) h fits =
    ap (λ (x : Slot). x ∷ slots_front (length slots) (drop 69 (slot_bytes slot ++ slots_bytes slots))) (front-of k slot slots (slots_bytes slots) (left _ (all_belong k slots) h) fits.0)
    ∙ ap (λ (x : List ℕ). slot ∷ slots_front (length slots) x) (drop-front 69 (slot_bytes slot) (slots_bytes slots) (length-slot k slot slots (left _ (all_belong k slots) h)))
    ∙ ap (λ (x : List Slot). slot ∷ x) (read-back k slots (right (belongs k slot slots) _ h) fits.1)

places-back : (k : ℕ) (slots : List Slot) → IsBucket k slots → places_in (slots_bytes slots) ≡ slots
unfolding places_in
places-back k slots b = subst (λ (n : ℕ). slots_front n (slots_bytes slots) ≡ slots) b.six (read-back k slots b.belong b.fit)

pub bucket-back : (k : ℕ) (slots : List Slot) → IsBucket k slots → bucket_in k (bucket_bytes slots) ≡ Some slots
unfolding bucket_bytes
bucket-back k slots b =
    let same = places-back k slots b in
    subst (λ (x : List Slot). bucket_in k (slots_bytes slots) ≡ Some x) same (of-parts k (slots_bytes slots) (ap slots_bytes (sym same)) (subst (λ (x : List Slot). all_belong k x ≡ true) (sym same) b.belong))

-- ---- what is read was written

below-whole : (x y : ℕ) → x ≡ y → y ≡ x % 256 ^ 4 → x < 2 ^ 32
below-whole x y e f = let m : x % 256 ^ 4 < 256 ^ 4 = mod-lt x (omega arith) in omega (arith, e, f, m)

-- the file's four bytes are those of a number below 2 ^ 32
one-fits : (bytes : List ℕ) (slot : Slot) (rest : List ℕ) → slot ≡ slot_front bytes → length (slot_bytes slot) ≡ 69 → bytes ≡ slot_bytes slot ++ rest → FileFits slot
one-fits bytes None rest s l e = tt
one-fits [] (Some x) rest s l e = absurd (cc s)
one-fits (zero ∷ bytes) (Some x) rest s l e = absurd (cc s)
one-fits (suc n ∷ bytes) (Some x) rest s l e = below-whole x.file.0 (big_number 4 (drop 64 bytes)) (ap (λ (y : Entry). y.file.0) same) (ap (λ (y : List ℕ). big_number 4 y) its-file ∙ big_from-bytes 4 x.file.0 rest)
  where
    its-name : List ℕ
    its-name = x.name ++ replicate (64 - length x.name) 0

    same : x ≡ record { name = take (suc n) bytes; file = record { 0 = big_number 4 (drop 64 bytes) } }
    same = cc

    behind : bytes ≡ (its-name ++ big_bytes 4 x.file.0) ++ rest
    behind = ap (drop 1) e

    long : length its-name ≡ 64
    long = let a = length-append its-name (big_bytes 4 x.file.0) in let b : suc (length (its-name ++ big_bytes 4 x.file.0)) ≡ 69 = l in omega (arith, a, b)

    its-file : drop 64 bytes ≡ big_bytes 4 x.file.0 ++ rest
    its-file = ap (drop 64) (behind ∙ append_assoc its-name (big_bytes 4 x.file.0) rest) ∙ drop-front 64 its-name (big_bytes 4 x.file.0 ++ rest) long

fits-read : (n : ℕ) (bytes : List ℕ) → AreLong (slots_front n bytes) → bytes ≡ slots_bytes (slots_front n bytes) → AllFit (slots_front n bytes)
fits-read zero bytes l e = tt
fits-read (suc n) bytes l e = (
  one-fits bytes (slot_front bytes) (slots_bytes (slots_front n (drop 69 bytes))) refl l.0 e,
  fits-read n (drop 69 bytes) l.1 (ap (drop 69) e ∙ drop-front 69 (slot_bytes (slot_front bytes)) (slots_bytes (slots_front n (drop 69 bytes))) l.0),
)

places-fit : (k : ℕ) (block : List ℕ) (slots : List Slot) → slots ≡ places_in block → block ≡ slots_bytes slots → all_belong k slots ≡ true → AllFit slots
unfolding places_in
places-fit k block slots f b h = subst AllFit (sym f) (fits-read 6 block (subst AreLong f (are-long k slots h)) (b ∙ ap slots_bytes f))

pub bucket-of : (k : ℕ) (block : List ℕ) (slots : List Slot) → bucket_in k block ≡ Some slots → IsBucket k slots × (block ≡ bucket_bytes slots)
unfolding bucket_bytes
bucket-of k block slots h = let p = parts k block slots h in (
  record {
    six = ap length p.front ∙ six-places block;
    belong = p.belong;
    fit = places-fit k block slots p.front p.bytes p.belong;
  },
  p.bytes,
)

pub bucket-exact : (k : ℕ) (slots : List Slot) (block : List ℕ) → (bucket_in k block ≡ Some slots) ↔ (IsBucket k slots × (block ≡ bucket_bytes slots))
bucket-exact k slots block = (bucket-of k block slots, λ b. subst (λ (x : List ℕ). bucket_in k x ≡ Some slots) (sym b.1) (bucket-back k slots b.0))
