-- A bucket's bytes, and its places read from them.
use Rattle.std.proofs.Common.{◌≡◌, ℕ, zero, suc, ◌+◌, ◌-◌, ◌*◌, ◌≤◌, ◌<◌, true, List, [], ◌∷◌, ◌++◌, length, take, drop, replicate, Some, None, refl, sym, ◌∙◌, ap, subst, arith, append_assoc, length-append}
use Rattle.std.specs.Prelude.{⊤, slice_set, nat_le}
use Rattle.std.specs.List.{list_all}
use Rattle.std.proofs.lemmas.Bool.Decides.{nat_tests}
use Rattle.std.proofs.lemmas.List.{append-nil, length-replicate, drop-replicate, replicate-append-replicate}
use Rattle.std.proofs.Math.Seq.{drop-append_seam, take-append_seam, take-append-add, drop-append-add}
use Rattle.byteorder.specs.Endian.{big_bytes}
use Rattle.jn_names.specs.declared.entry.Entry.{Entry}
use Rattle.jn_base.specs.Names.{is_letter, is_name}
use Rattle.jn_names.specs.Names.{bucket_of}
use Rattle.jn_names.specs.Buckets.{Slot, slot_bytes, slots_bytes, find_in, belongs, all_belong}
use Rattle.jn_names.proofs.Tests.{left, right}

-- where so many stand before, and more behind
pub drop-front : (n : ℕ) (xs ys : List ℕ) → length xs ≡ n → drop n (xs ++ ys) ≡ ys
drop-front n xs ys e = subst (λ (k : ℕ). drop k (xs ++ ys) ≡ ys) e (drop-append_seam xs ys)

pub take-front : (n : ℕ) (xs ys : List ℕ) → length xs ≡ n → take n (xs ++ ys) ≡ xs
take-front n xs ys e = subst (λ (k : ℕ). take k (xs ++ ys) ≡ xs) e (take-append_seam xs ys)

-- ---- one place

pub name-some : (name : List ℕ) → is_name name ≡ true → 1 ≤ length name
name-some name g = let a = left (nat_le 1 (length name)) _ (left _ (list_all is_letter name) g) in grind (arith, nat_tests, a)

pub name-few : (name : List ℕ) → is_name name ≡ true → length name ≤ 64
name-few name g = let a = right (nat_le 1 (length name)) (nat_le (length name) 64) (left _ (list_all is_letter name) g) in grind (arith, nat_tests, a)

pub length-filled : (name : List ℕ) → length name ≤ 64 → length (name ++ replicate (64 - length name) 0) ≡ 64
length-filled name few = length-append name (replicate (64 - length name) 0) ∙ ap (λ (n : ℕ). length name + n) (length-replicate {A = ℕ} (64 - length name) 0) ∙ omega (arith, few)

joined : (front number x : List ℕ) → take 65 x ≡ front → drop (65 + length number) x ≡ [] → take 65 x ++ (number ++ drop (65 + length number) x) ≡ front ++ number
joined front number x f e = rw (f, e, append-nil number) refl

-- an entry's place, written into zeros
pub entry-filled : (n : ℕ) (name number one two three : List ℕ) → length name ≤ 64 → length number ≡ 4
    → one ≡ n ∷ replicate 68 0 → two ≡ take 1 one ++ (name ++ drop (1 + length name) one) → three ≡ take 65 two ++ (number ++ drop (65 + length number) two)
    → three ≡ n ∷ ((name ++ replicate (64 - length name) 0) ++ number)
entry-filled n name number one two three few four a b c = c ∙ joined (n ∷ filled) number two (ap (take 65) parted ∙ its-front) (ap (drop (65 + length number)) parted ∙ its-end)
  where
    filled : List ℕ
    filled = name ++ replicate (64 - length name) 0

    long : length (n ∷ filled) ≡ 65
    long = let l = length-filled name few in omega (arith, l)

    zeros : replicate {A = ℕ} (68 - length name) 0 ≡ replicate (64 - length name) 0 ++ replicate 4 0
    zeros = ap (λ (m : ℕ). replicate {A = ℕ} m 0) (let m : 68 - length name ≡ (64 - length name) + 4 = omega (arith, few) in m) ∙ sym (replicate-append-replicate (64 - length name) 4 0)

    parted : two ≡ (n ∷ filled) ++ replicate 4 0
    parted = b ∙ ap (λ (x : List ℕ). take 1 x ++ (name ++ drop (1 + length name) x)) a
        ∙ ap (λ (x : List ℕ). n ∷ (name ++ x)) (drop-append-add (n ∷ []) (replicate 68 0) (length name) ∙ drop-replicate (length name) 68 0 ∙ zeros)
        ∙ ap (λ (x : List ℕ). n ∷ x) (sym (append_assoc name (replicate (64 - length name) 0) (replicate 4 0)))

    its-front : take 65 ((n ∷ filled) ++ replicate 4 0) ≡ n ∷ filled
    its-front = take-front 65 (n ∷ filled) (replicate 4 0) long

    its-end : drop (65 + length number) ((n ∷ filled) ++ replicate 4 0) ≡ []
    its-end = ap (λ (m : ℕ). drop m ((n ∷ filled) ++ replicate 4 0)) (let m : 65 + length number ≡ length (n ∷ filled) + 4 = omega (arith, long, four) in m) ∙ drop-append-add (n ∷ filled) (replicate 4 0) 4

pub length-entry : (e : Entry) → length e.name ≤ 64 → length (slot_bytes (Some e)) ≡ 69
length-entry e few = let f = length-filled e.name few in let l = length-append (e.name ++ replicate (64 - length e.name) 0) (big_bytes 4 e.file.0) in omega (arith, f, l)

pub length-slot : (k : ℕ) (slot : Slot) (more : List Slot) → belongs k slot more ≡ true → length (slot_bytes slot) ≡ 69
length-slot k None more h = length-replicate {A = ℕ} 69 0
length-slot k (Some e) more h = length-entry e (name-few e.name (left _ _ (left _ _ h)))

-- ---- one place of all

-- each place has its 69 bytes
abbrev pub AreLong : List Slot → Type 0
AreLong [] = ⊤
AreLong (slot ∷ slots) = (length (slot_bytes slot) ≡ 69) × AreLong slots

pub are-long : (k : ℕ) (slots : List Slot) → all_belong k slots ≡ true → AreLong slots
are-long k [] h = tt
are-long k (slot ∷ slots) h = (length-slot k slot slots (left _ _ h), are-long k slots (right _ _ h))

take-behind : (n m : ℕ) (xs ys : List ℕ) → length xs ≡ n → take (n + m) (xs ++ ys) ≡ xs ++ take m ys
take-behind n m xs ys e = subst (λ (k : ℕ). take (k + m) (xs ++ ys) ≡ xs ++ take m ys) e (take-append-add xs ys m)

drop-behind : (n m : ℕ) (xs ys : List ℕ) → length xs ≡ n → drop (n + m) (xs ++ ys) ≡ drop m ys
drop-behind n m xs ys e = subst (λ (k : ℕ). drop (k + m) (xs ++ ys) ≡ drop m ys) e (drop-append-add xs ys m)

-- a place is written over another
pub slots-set : (slots : List Slot) (place : ℕ) (new : Slot) → AreLong slots → place < length slots
    → slots_bytes (slice_set slots place new) ≡ take (69 * place) (slots_bytes slots) ++ (slot_bytes new ++ drop (69 * place + 69) (slots_bytes slots))
slots-set [] place new h few = absurd (omega (arith, few))
slots-set (slot ∷ slots) zero new h few = ap (λ (x : List ℕ). slot_bytes new ++ x) (sym (drop-front 69 (slot_bytes slot) (slots_bytes slots) h.0))
slots-set (slot ∷ slots) (suc p) new h few = ap (λ (x : List ℕ). slot_bytes slot ++ x) (slots-set slots p new h.1 (omega (arith, few))) ∙ sym (ends (69 * suc p) (69 * p) (omega arith))
  where
    ends : (m q : ℕ) → m ≡ 69 + q → take m (slot_bytes slot ++ slots_bytes slots) ++ (slot_bytes new ++ drop (m + 69) (slot_bytes slot ++ slots_bytes slots))
        ≡ slot_bytes slot ++ (take q (slots_bytes slots) ++ (slot_bytes new ++ drop (q + 69) (slots_bytes slots)))
    ends m q e =
        let n : m + 69 ≡ 69 + (q + 69) = omega (arith, e) in
        rw (n, e, take-behind 69 q (slot_bytes slot) (slots_bytes slots) h.0, drop-behind 69 (q + 69) (slot_bytes slot) (slots_bytes slots) h.0) (append_assoc (slot_bytes slot) (take q (slots_bytes slots)) (slot_bytes new ++ drop (q + 69) (slots_bytes slots)))
