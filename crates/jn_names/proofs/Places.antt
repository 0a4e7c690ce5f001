-- Places at the front of bytes, one after another.
use Rattle.std.proofs.Common.{◌≡◌, ℕ, zero, suc, ◌+◌, ◌-◌, ◌≤◌, ◌<◌, true, false, List, [], ◌∷◌, length, drop, Option, Some, None, option_map, refl, sym, ◌∙◌, ◌++◌, ap, arith, append_assoc}
use Rattle.std.proofs.lemmas.List.{append-nil}
use Rattle.std.specs.Prelude.{bytes_eq}
use Rattle.jn_names.specs.Buckets.{Slot, slot_front, slots_front, name_in, find_in, place_of}
unfoldable use Rattle.jn_names.specs.Buckets.{places_in}
use Rattle.jn_names.specs.declared.entry.Entry.{Entry}
use Rattle.jn_base.specs.Names.{is_name}
use Rattle.jn_names.specs.Calls.{entries_of}
use Rattle.jn_names.specs.Places.{file_at, are_named}
use Rattle.jn_names.proofs.Bytes.{name-some}
use Rattle.jn_names.proofs.Tests.{left, right, both}

-- the first of so many places
pub slots-step : (m : ℕ) (bytes : List ℕ) → 0 < m → slots_front m bytes ≡ slot_front bytes ∷ slots_front (m - 1) (drop 69 bytes)
slots-step zero bytes h = absurd (omega (arith, h))
slots-step (suc n) bytes h = let e : suc n - 1 ≡ n = omega arith in rw e refl

-- ---- the file of a name

find-here : (slot : Slot) (slots : List Slot) (bytes name : List ℕ) → slot ≡ slot_front bytes → 1 ≤ length name → bytes_eq (name_in slot) name ≡ true → find_in name (slot ∷ slots) ≡ Some (file_at bytes)
find-here None slots bytes [] s h e = absurd (omega (arith, h))
find-here None slots bytes (x ∷ name) s h e = absurd (cc e)
find-here (Some x) slots [] name s h e = absurd (cc s)
find-here (Some x) slots (zero ∷ bytes) name s h e = absurd (cc s)
find-here (Some x) slots (suc n ∷ bytes) name s h e = rw e (cc s)

pub find-found : (m : ℕ) (bytes name : List ℕ) → 0 < m → 1 ≤ length name → bytes_eq (name_in (slot_front bytes)) name ≡ true → find_in name (slots_front m bytes) ≡ Some (file_at bytes)
find-found m bytes name some h e = rw (slots-step m bytes some) (find-here (slot_front bytes) (slots_front (m - 1) (drop 69 bytes)) bytes name refl h e)

find-other : (slot : Slot) (slots : List Slot) (name : List ℕ) → bytes_eq (name_in slot) name ≡ false → find_in name (slot ∷ slots) ≡ find_in name slots
find-other None slots name e = refl
find-other (Some x) slots name e = rw e refl

pub find-passed : (m : ℕ) (bytes name : List ℕ) → 0 < m → bytes_eq (name_in (slot_front bytes)) name ≡ false → find_in name (slots_front m bytes) ≡ find_in name (slots_front (m - 1) (drop 69 bytes))
find-passed m bytes name some e = rw (slots-step m bytes some) (find-other (slot_front bytes) (slots_front (m - 1) (drop 69 bytes)) name e)

-- ---- the place of a name

place-here : (m : ℕ) (bytes name : List ℕ) → 0 < m → bytes_eq (name_in (slot_front bytes)) name ≡ true → place_of name (slots_front m bytes) ≡ Some 0
place-here m bytes name some e = rw (slots-step m bytes some, e) refl

place-passed : (m : ℕ) (bytes name : List ℕ) → 0 < m → bytes_eq (name_in (slot_front bytes)) name ≡ false → place_of name (slots_front m bytes) ≡ option_map suc (place_of name (slots_front (m - 1) (drop 69 bytes)))
place-passed m bytes name some e = rw (slots-step m bytes some, e) refl

one-further : (i : ℕ) (o : Option ℕ) → option_map (λ n. i + n) (option_map suc o) ≡ option_map (λ n. (i + 1) + n) o
one-further i None = refl
one-further i (Some n) = ap (λ (x : ℕ). Some x) (omega arith)

no-further : (o : Option ℕ) → option_map (λ n. 0 + n) o ≡ o
no-further None = refl
no-further (Some n) = ap (λ (x : ℕ). Some x) (omega arith)

pub place-begin : (block name : List ℕ) → option_map (λ n. 0 + n) (place_of name (slots_front (6 - 0) block)) ≡ place_of name (places_in block)
unfolding places_in
place-begin block name = no-further (place_of name (slots_front 6 block))

pub place-found : (i m : ℕ) (bytes name : List ℕ) (all : Option ℕ) → 0 < m → bytes_eq (name_in (slot_front bytes)) name ≡ true → option_map (λ n. i + n) (place_of name (slots_front m bytes)) ≡ all → Some i ≡ all
place-found i m bytes name all some e same = ap (λ (x : ℕ). Some x) (let z : i ≡ i + 0 = omega arith in z) ∙ sym (ap (option_map (λ n. i + n)) (place-here m bytes name some e)) ∙ same

pub place-go : (i m n : ℕ) (bytes name rest : List ℕ) (all : Option ℕ) → 0 < m → m - 1 ≡ n → bytes_eq (name_in (slot_front bytes)) name ≡ false → rest ≡ drop 69 bytes
    → option_map (λ n. i + n) (place_of name (slots_front m bytes)) ≡ all → option_map (λ n. (i + 1) + n) (place_of name (slots_front n rest)) ≡ all
place-go i m n bytes name rest all some l e d same = rw (d, ← l) (sym (one-further i (place_of name (slots_front (m - 1) (drop 69 bytes)))) ∙ sym (ap (option_map (λ n. i + n)) (place-passed m bytes name some e)) ∙ same)

pub place-end : (i m : ℕ) (bytes name : List ℕ) (all : Option ℕ) → m ≡ 0 → option_map (λ n. i + n) (place_of name (slots_front m bytes)) ≡ all → None ≡ all
place-end i m bytes name all e same = rw e at same

-- ---- the entries

named-here : (slot : Slot) (slots : List Slot) → are_named (slot ∷ slots) ≡ true → 1 ≤ length (name_in slot) → is_name (name_in slot) ≡ true
named-here None slots h some = absurd (omega (arith, some))
named-here (Some e) slots h some = left (is_name e.name) (are_named slots) h

named-behind : (slot : Slot) (slots : List Slot) → are_named (slot ∷ slots) ≡ true → are_named slots ≡ true
named-behind None slots h = h
named-behind (Some e) slots h = right (is_name e.name) (are_named slots) h

named-first : (slot : Slot) (slots : List Slot) → are_named (slot ∷ slots) ≡ true → are_named (slot ∷ []) ≡ true
named-first None slots h = refl
named-first (Some e) slots h = both (is_name e.name) true (left (is_name e.name) (are_named slots) h) refl

pub names-first : (m : ℕ) (bytes : List ℕ) → 0 < m → are_named (slots_front m bytes) ≡ true → are_named (slot_front bytes ∷ []) ≡ true
names-first m bytes some named = named-first (slot_front bytes) (slots_front (m - 1) (drop 69 bytes)) (sym (ap are_named (slots-step m bytes some)) ∙ named)

pub names-go : (m n : ℕ) (bytes rest : List ℕ) → 0 < m → m - 1 ≡ n → rest ≡ drop 69 bytes → are_named (slots_front m bytes) ≡ true → are_named (slots_front n rest) ≡ true
names-go m n bytes rest some e d named = rw (d, ← e) (named-behind (slot_front bytes) (slots_front (m - 1) (drop 69 bytes)) (sym (ap are_named (slots-step m bytes some)) ∙ named))

-- the name of an entry is one
pub name-here : (bytes name : List ℕ) → name ≡ name_in (slot_front bytes) → 1 ≤ length name → are_named (slot_front bytes ∷ []) ≡ true → is_name name ≡ true
name-here bytes name e some named = rw e (named-here (slot_front bytes) [] named (rw (← e) some))

none-here : (slot : Slot) → are_named (slot ∷ []) ≡ true → length (name_in slot) ≡ 0 → entries_of (slot ∷ []) ≡ []
none-here None h none = refl
none-here (Some e) h none = let s = name-some e.name (left (is_name e.name) true h) in let z : length e.name ≡ 0 = none in absurd (omega (arith, s, z))

-- a free place gives none
pub free-here : (bytes name : List ℕ) (done : List Entry) → name ≡ name_in (slot_front bytes) → length name ≡ 0 → are_named (slot_front bytes ∷ []) ≡ true → done ≡ done ++ entries_of (slot_front bytes ∷ [])
free-here bytes name done e none named = sym (ap (λ (x : List Entry). done ++ x) (none-here (slot_front bytes) named (rw (← e) none)) ∙ append-nil done)

entries-join : (slot : Slot) (slots : List Slot) → entries_of (slot ∷ slots) ≡ entries_of (slot ∷ []) ++ entries_of slots
entries-join None slots = refl
entries-join (Some e) slots = refl

pub entries-begin : (block : List ℕ) (done : List Entry) → done ++ entries_of (slots_front (6 - 0) block) ≡ done ++ entries_of (places_in block)
unfolding places_in
entries-begin block done = refl

pub names-begin : (block : List ℕ) → are_named (places_in block) ≡ true → are_named (slots_front (6 - 0) block) ≡ true
unfolding places_in
names-begin block named = named

pub entries-go : (m n : ℕ) (bytes rest : List ℕ) (done now all : List Entry) → 0 < m → m - 1 ≡ n → rest ≡ drop 69 bytes → now ≡ done ++ entries_of (slot_front bytes ∷ []) → done ++ entries_of (slots_front m bytes) ≡ all → now ++ entries_of (slots_front n rest) ≡ all
entries-go m n bytes rest done now all some e d h same = rw (h, d, ← e) (append_assoc done (entries_of (slot_front bytes ∷ [])) (entries_of (slots_front (m - 1) (drop 69 bytes)))
    ∙ ap (λ (x : List Entry). done ++ x) (sym (entries-join (slot_front bytes) (slots_front (m - 1) (drop 69 bytes))) ∙ sym (ap entries_of (slots-step m bytes some))) ∙ same)

pub entries-end : (m : ℕ) (bytes : List ℕ) (done all : List Entry) → m ≡ 0 → done ++ entries_of (slots_front m bytes) ≡ all → done ≡ all
entries-end m bytes done all e same = sym (append-nil done) ∙ rw e at same
