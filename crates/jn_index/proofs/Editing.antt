-- An entry is taken out, or put in.
use Rattle.jn_index.proofs.Common.{◌≡◌, ◌≢◌, inl, inr, ◌<◌, ◌≤◌, ◌+◌, ◌-◌, ℕ, Bool, true, false, List, length, Option, Some, None, refl, sym, ap, ◌∙◌, arith, ◌^◌, cases_eq, cases_lt, nat_tests, get_or-set_same, get_or-set_other, get_or_past, length-remove, get_or-insert_at, get_or-insert_below, get_or-insert_above, get_or-remove_below, get_or-remove_above, insert, remove, slice_set, nat_lt, Entry, number_at, is_above, IsNumberAbove, entry, entry_at, is_before, AreEntries, if◌then◌else◌}
use Rattle.jn_index.proofs.Order.{not_itself, before_or_same}

pub has_slot : (numbers : List (Option ℕ)) (slot number : ℕ) → number_at numbers slot ≡ Some number → slot < length numbers
has_slot numbers slot number some = elim (cases_lt slot (length numbers)) [
  | inl lt ↦ lt
  | inr le ↦ absurd (let none : number_at numbers slot ≡ None = get_or_past numbers slot None le in cc (none, some))
]

-- the places of a list with one more element, but that element's
skip : ℕ → ℕ → ℕ
skip i j = if nat_lt j i then j else (j + 1)

-- and back
back : ℕ → ℕ → ℕ
back i k = if nat_lt k i then k else (k - 1)

skip_rises : (i a b : ℕ) → a < b → skip i a < skip i b
unfolding skip
skip_rises i a b lt = grind (arith, nat_tests)

skip_misses : (i j : ℕ) → skip i j ≢ i
unfolding skip
skip_misses i j e = grind (arith, nat_tests, e)

skip_below : (i j n : ℕ) → j + 1 < n → skip i j < n
unfolding skip
skip_below i j n lt = grind (arith, nat_tests)

skip_back : (i k : ℕ) → k ≢ i → skip i (back i k) ≡ k
unfolding skip back
skip_back i k ne = grind (arith, nat_tests, ne)

back_below : (i k n : ℕ) → k ≢ i → k < n + 1 → i ≤ n → back i k < n
unfolding back
back_below i k n ne lt le = grind (arith, nat_tests, ne)

back_rises : (i a b : ℕ) → a ≢ i → b ≢ i → a < b → back i a < back i b
unfolding back
back_rises i a b na nb lt = grind (arith, nat_tests, na, nb)

back_behind : (i k : ℕ) → i < k → i ≤ back i k
unfolding back
back_behind i k lt = grind (arith, nat_tests)

back_in_front : (i k : ℕ) → k < i → back i k < i
unfolding back
back_in_front i k lt = grind (arith, nat_tests)

at_removed : (list : List Entry) (i j : ℕ) → i < length list → entry_at (remove list i) j ≡ entry_at list (skip i j)
unfolding skip
at_removed list i j here = by (nat_lt j i) refl
  where
    by : (b : Bool) → nat_lt j i ≡ b → entry_at (remove list i) j ≡ entry_at list (if b then j else (j + 1))
    by true t = get_or-remove_below list i (entry 0 0) j (grind (arith, nat_tests, t)) here
    by false t = get_or-remove_above list i (entry 0 0) j (grind (arith, nat_tests, t)) here

at_inserted : (list : List Entry) (i j : ℕ) (e : Entry) → i ≤ length list → entry_at (insert list i e) (skip i j) ≡ entry_at list j
unfolding skip
at_inserted list i j e here = by (nat_lt j i) refl
  where
    by : (b : Bool) → nat_lt j i ≡ b → entry_at (insert list i e) (if b then j else (j + 1)) ≡ entry_at list j
    by true t = get_or-insert_below list i e (entry 0 0) j (grind (arith, nat_tests, t)) here
    by false t = get_or-insert_above list i e (entry 0 0) j (grind (arith, nat_tests, t)) here

skip_before : (out i place : ℕ) → out < place → i < place - 1 → skip out i < place
unfolding skip
skip_before out i place lt up = grind (arith, nat_tests, lt, up)

skip_behind : (out i place : ℕ) → out < place → place - 1 ≤ i → place ≤ skip out i
unfolding skip
skip_behind out i place lt le = grind (arith, nat_tests, lt, le)

skip_still_behind : (out i place : ℕ) → place ≤ i → place ≤ skip out i
unfolding skip
skip_still_behind out i place le = grind (arith, nat_tests, le)

skip_past : (out i : ℕ) → out ≤ i → out < skip out i
unfolding skip
skip_past out i le = grind (arith, nat_tests, le)

-- a place among all entries but one
module _ (list : List Entry) (out : ℕ) (here : out < length list) (sought : Entry) where
  at_other : (i : ℕ) {b : Bool} → is_before (entry_at list (skip out i)) sought ≡ b → is_before (entry_at (remove list out) i) sought ≡ b
  at_other i e = ap (λ (x : Entry). is_before x sought) (at_removed list out i here) ∙ e

  in_list : (i : ℕ) → i < length (remove list out) → skip out i < length list
  in_list i lt = skip_below out i (length list) (let shorter = length-remove list out here in omega (arith, lt, shorter))

  pub others_behind : ((k : ℕ) → out < k → k < length list → is_before (entry_at list k) sought ≡ false) → (i : ℕ) → out ≤ i → i < length (remove list out) → is_before (entry_at (remove list out) i) sought ≡ false
  others_behind behind i le lt = at_other i (behind (skip out i) (skip_past out i le) (in_list i lt))

  module _ (place : ℕ) (before : (k : ℕ) → k < place → is_before (entry_at list k) sought ≡ true) (behind : (k : ℕ) → place ≤ k → k < length list → is_before (entry_at list k) sought ≡ false) where
    pub before_later : out < place → (i : ℕ) → i < place - 1 → is_before (entry_at (remove list out) i) sought ≡ true
    before_later lt i up = at_other i (before (skip out i) (skip_before out i place lt up))

    pub behind_later : out < place → (i : ℕ) → place - 1 ≤ i → i < length (remove list out) → is_before (entry_at (remove list out) i) sought ≡ false
    behind_later lt i le in_i = at_other i (behind (skip out i) (skip_behind out i place lt le) (in_list i in_i))

    pub behind_earlier : (i : ℕ) → place ≤ i → i < length (remove list out) → is_before (entry_at (remove list out) i) sought ≡ false
    behind_earlier i le in_i = at_other i (behind (skip out i) (skip_still_behind out i place le) (in_list i in_i))

module _ (numbers : List (Option ℕ)) (list : List Entry) (are : AreEntries numbers list) where
  -- two places have two entries
  once : (i j : ℕ) → i < length list → j < length list → entry_at list i ≡ entry_at list j → i ≡ j
  once i j hi hj same = elim (cases_lt i j) [
    | inl lt ↦ absurd (let up = are.rising i j lt hj in let none = not_itself (entry_at list j) in cc (ap (λ (e : Entry). is_before e (entry_at list j)) same, up, none))
    | inr le ↦ elim (cases_eq i j) [
      | inl e ↦ e
      | inr ne ↦ absurd (let up = are.rising j i (omega arith) hi in let none = not_itself (entry_at list j) in cc (ap (is_before (entry_at list j)) same, up, none))
    ]
  ]

  -- and so two slots
  slot_once : (i j : ℕ) → i < length list → j < length list → (entry_at list i).slot ≡ (entry_at list j).slot → i ≡ j
  slot_once i j hi hj same =
      let a = are.right i hi in
      let b = are.right j hj in
      let both : Some (entry_at list i).number ≡ Some (entry_at list j).number = sym a ∙ ap (number_at numbers) same ∙ b in
      let number : (entry_at list i).number ≡ (entry_at list j).number = cc both in
      once i j hi hj (ap (λ (n : ℕ). entry n (entry_at list i).slot) number ∙ ap (entry (entry_at list j).number) same)

  pub cleared : (i : ℕ) (old : Entry) → old.slot < length numbers → i < length list → entry_at list i ≡ old → length (remove list i) + 1 ≡ length list → AreEntries (slice_set numbers old.slot None) (remove list i)
  cleared i old below here is shorter = record {
    rising = λ a b lt in_b. rw (at_removed list i a here)
        (rw (at_removed list i b here) (are.rising (skip i a) (skip i b) (skip_rises i a b lt) (skip_below i b (length list) (omega arith))));
    right = λ k in_k. rw (at_removed list i k here)
        (get_or-set_other numbers old.slot (entry_at list (skip i k)).slot None None
        (λ same. skip_misses i k (slot_once (skip i k) i (skip_below i k (length list) (omega arith)) here (same ∙ ap (λ (e : Entry). e.slot) (sym is))))
        ∙ are.right (skip i k) (skip_below i k (length list) (omega arith)));
    all = λ slot number e. elim (cases_eq slot old.slot) [
      | inl same ↦ absurd (let gone : number_at (slice_set numbers old.slot None) slot ≡ None = ap (number_at (slice_set numbers old.slot None)) same ∙ get_or-set_same numbers old.slot None None below in cc (e, gone))
      | inr ne ↦
          let found = are.all slot number (sym (get_or-set_other numbers old.slot slot None None ne) ∙ e) in
          let other : found.0 ≢ i = λ at. ne (ap (λ (x : Entry). x.slot) (sym found.2 ∙ ap (entry_at list) at ∙ is)) in (
            back i found.0,
            back_below i found.0 (length (remove list i)) other (let lt = found.1 in omega arith) (omega arith),
            at_removed list i (back i found.0) here ∙ ap (entry_at list) (skip_back i found.0 other) ∙ found.2,
          )
    ];
  }

  module _ (new : Entry) (i : ℕ) (end : i ≤ length list) (below : new.slot < length numbers) (none : number_at numbers new.slot ≡ None)
      (before : (k : ℕ) → k < i → is_before (entry_at list k) new ≡ true) (after : (k : ℕ) → i ≤ k → k < length list → is_before (entry_at list k) new ≡ false)
      (longer : length (insert list i new) ≡ length list + 1) where
    another : (k : ℕ) → k < length list → (entry_at list k).slot ≢ new.slot
    another k lt same = let some = are.right k lt in let gone = ap (number_at numbers) same ∙ none in cc (some, gone)

    at_new : entry_at (insert list i new) i ≡ new
    at_new = get_or-insert_at list i new (entry 0 0) end

    at_old : (k : ℕ) → k ≢ i → entry_at (insert list i new) k ≡ entry_at list (back i k)
    at_old k ne = ap (entry_at (insert list i new)) (sym (skip_back i k ne)) ∙ at_inserted list i (back i k) new end

    up : (a b : ℕ) → a < b → b < length list + 1 → is_before (entry_at (insert list i new) a) (entry_at (insert list i new) b) ≡ true
    up a b lt in_b = elim (cases_eq a i) [
      | inl same ↦
          let ne : b ≢ i = λ e. let no_way : ⊥ = omega arith in no_way in
          rw (ap (entry_at (insert list i new)) same ∙ at_new)
          (rw (at_old b ne) (new_first (back i b) (back_behind i b (omega arith)) (back_below i b (length list) ne in_b end)))
      | inr ne ↦ elim (cases_eq b i) [
        | inl at ↦ rw (at_old a ne)
            (rw (ap (entry_at (insert list i new)) at ∙ at_new) (before (back i a) (back_in_front i a (omega arith))))
        | inr nb ↦ rw (at_old a ne)
            (rw (at_old b nb) (are.rising (back i a) (back i b) (back_rises i a b ne nb lt) (back_below i b (length list) nb in_b end)))
      ]
    ]
      where
        new_first : (k : ℕ) → i ≤ k → k < length list → is_before new (entry_at list k) ≡ true
        new_first k le lt = elim (before_or_same (entry_at list k) new (after k le lt)) [
          | inl same ↦ absurd (another k lt (ap (λ (e : Entry). e.slot) same))
          | inr first ↦ first
        ]

    pub filled : AreEntries (slice_set numbers new.slot (Some new.number)) (insert list i new)
    filled = record {
      rising = λ a b lt in_b. up a b lt (omega arith);
      right = λ k in_k. elim (cases_eq k i) [
        | inl same ↦ rw (ap (entry_at (insert list i new)) same ∙ at_new) (get_or-set_same numbers new.slot (Some new.number) None below)
        | inr ne ↦
            let in_back : back i k < length list = back_below i k (length list) ne (omega arith) end in
            rw (at_old k ne)
            (get_or-set_other numbers new.slot (entry_at list (back i k)).slot (Some new.number) None (another (back i k) in_back) ∙ are.right (back i k) in_back)
      ];
      all = λ slot number e. elim (cases_eq slot new.slot) [
        | inl same ↦
            let has : Some new.number ≡ Some number = sym (get_or-set_same numbers new.slot (Some new.number) None below) ∙ ap (number_at (slice_set numbers new.slot (Some new.number))) (sym same) ∙ e in
            let its : new.number ≡ number = cc has in
            (i, omega arith, at_new ∙ ap (λ (n : ℕ). entry n new.slot) its ∙ ap (entry number) (sym same))
        | inr ne ↦
            let found = are.all slot number (sym (get_or-set_other numbers new.slot slot (Some new.number) None ne) ∙ e) in
            (skip i found.0, skip_below i found.0 (length (insert list i new)) (let lt = found.1 in omega arith), at_inserted list i found.0 new end ∙ found.2)
      ];
    }

-- the place of an entry that stands in the list
module _ (numbers : List (Option ℕ)) (list : List Entry) (are : AreEntries numbers list) (sought : Entry) (place : ℕ) where
  pub place_is : number_at numbers sought.slot ≡ Some sought.number → ((k : ℕ) → k < place → is_before (entry_at list k) sought ≡ true)
      → ((k : ℕ) → place ≤ k → k < length list → is_before (entry_at list k) sought ≡ false) → (place < length list) × (entry_at list place ≡ sought)
  place_is has before after =
      let found = are.all sought.slot sought.number has in
      let not_below : (lt : found.0 < place) → ⊥ = λ lt. let up = before found.0 lt in let none = not_itself sought in cc (ap (λ (e : Entry). is_before e sought) found.2, up, none) in
      let not_above : (lt : place < found.0) → ⊥ = λ lt. let up = are.rising place found.0 lt found.1 in let none = after place (omega arith) (let below = found.1 in omega arith) in cc (ap (is_before (entry_at list place)) found.2, up, none) in
      let same : found.0 ≡ place = elim (cases_eq found.0 place) [ inl e ↦ e | inr ne ↦ absurd (elim (cases_lt found.0 place) [ inl lt ↦ not_below lt | inr le ↦ not_above (omega arith) ]) ] in
      (rw (← same) found.1, ap (entry_at list) (sym same) ∙ found.2)

-- the least number above another stands at the place of the first that is
module _ (numbers : List (Option ℕ)) (list : List Entry) (are : AreEntries numbers list) where
  pub low_slots : length numbers < 2 ^ 16 → (i : ℕ) → i < length list → (entry_at list i).slot < 65535
  low_slots few i here = let below = has_slot numbers (entry_at list i).slot (entry_at list i).number (are.right i here) in omega arith

  module _ (after : Option ℕ) (place : ℕ) (not_before : (i : ℕ) → i < place → is_above after (entry_at list i).number ≡ false) where
    pub least_above : (e : Entry) → place < length list → entry_at list place ≡ e → ((i : ℕ) → place ≤ i → i < length list → is_above after (entry_at list i).number ≡ true)
        → IsNumberAbove numbers after e.number
    least_above e here is behind = record {
      slot = e.slot;
      here = rw (← is) (are.right place here);
      above = ap (λ (x : Entry). is_above after x.number) (sym is) ∙ behind place (omega arith) here;
      least = λ k n has up. let found = are.all k n has in
          elim (cases_eq place found.0) [
            | inl same ↦ let at : e ≡ entry n k = sym is ∙ ap (entry_at list) same ∙ found.2 in let number : e.number ≡ n = ap (λ (x : Entry). x.number) at in omega arith
            | inr ne ↦ elim (cases_lt found.0 place) [
              | inl lt ↦ absurd (let low = not_before found.0 lt in let high : is_above after (entry_at list found.0).number ≡ true = ap (λ (x : Entry). is_above after x.number) found.2 ∙ up in cc (low, high))
              | inr le ↦ in_order e (entry n k) (ap (λ (x : Entry). is_before x (entry n k)) (sym is) ∙ ap (is_before (entry_at list place)) (sym found.2) ∙ are.rising place found.0 (omega arith) found.1)
            ]
          ];
    }
      where
        in_order : (a b : Entry) → is_before a b ≡ true → a.number ≤ b.number
        in_order a b t = grind (arith, nat_tests, t)

    pub none_above : length list ≤ place → (slot n : ℕ) → number_at numbers slot ≡ Some n → is_above after n ≡ false
    none_above end slot n has = let found = are.all slot n has in ap (λ (x : Entry). is_above after x.number) (sym found.2) ∙ not_before found.0 (let lt = found.1 in omega arith)
