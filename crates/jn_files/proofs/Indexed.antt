-- A file's head by the index of the files' numbers.
use Rattle.jn_files.proofs.Common.{◌≡◌, ◌<◌, ◌≤◌, ℕ, Bool, true, false, List, length, Option, Some, None, inl, inr, refl, sym, ap, ◌∙◌, arith, is_some, IfSome, IfNone, cases_lt, nat_tests, get_or_past, FileNo, number_after, number_at, is_number_above, IsSlotFrom, IsNumberAbove, Head, Free, Used, head_in, is_of, exists, NextFile, AreIndexed, head_number, file_number}
use Rattle.jn_files.proofs.Lookup.{has_head, has_file}

of_number : (f : FileNo) (h : Head) → head_number h ≡ Some f.0 → is_of f h ≡ true
of_number f Free e = absurd (cc e)
of_number f (Used g xs maps) e = let same : g.0 ≡ f.0 = cc e in grind (arith, nat_tests, same)

its_number : (f : FileNo) (h : Head) → is_of f h ≡ true → head_number h ≡ Some f.0
its_number f Free e = absurd (cc e)
its_number f (Used g xs maps) e = ap (λ (n : ℕ). Some n) (let same : g.0 ≡ f.0 = grind (arith, nat_tests, e) in same)

module _ (files : List (Option ℕ)) (heads : List Head) (are : AreIndexed files heads) where
  pub slot_found : (f : FileNo) (slot : ℕ) → IsSlotFrom files f.0 0 slot → (slot < length heads) × (is_of f (head_in heads slot) ≡ true)
  slot_found f slot found = (below, of_number f (head_in heads slot) (sym (are.each slot) ∙ found.here))
    where
      below : slot < length heads
      below = elim (cases_lt slot (length heads)) [
        | inl lt ↦ lt
        | inr le ↦ absurd (let none : number_at files slot ≡ None = get_or_past files slot None (let same = are.slots in omega arith) in let some = found.here in cc (none, some))
      ]

  pub slot_there : (f : FileNo) (slot : ℕ) → IsSlotFrom files f.0 0 slot → exists heads f ≡ true
  slot_there f slot found = has_file f heads slot (slot_found f slot found).1

  pub slot_absent : (f : FileNo) → ((slot : ℕ) → 0 ≤ slot → number_at files slot ≡ Some f.0 → ⊥) → exists heads f ≡ false
  slot_absent f none = by (exists heads f) refl
    where
      by : (b : Bool) → exists heads f ≡ b → b ≡ false
      by false t = refl
      by true t = absurd (let at = has_head f heads t in none at.0 (omega arith) (are.each at.0 ∙ its_number f (head_in heads at.0) at.2))

  above_from : (after : Option FileNo) (g : FileNo) → is_number_above (file_number after) g.0 ≡ true → number_after (λ (f : FileNo). f.0) after ≤ g.0
  above_from None g h = omega arith
  above_from (Some f) g h = grind (arith, nat_tests, h)

  from_above : (after : Option FileNo) (g : FileNo) → number_after (λ (f : FileNo). f.0) after ≤ g.0 → is_number_above (file_number after) g.0 ≡ true
  from_above None g h = refl
  from_above (Some f) g h = grind (arith, nat_tests, h)

  below_of : (after : Option FileNo) (g : FileNo) → is_number_above (file_number after) g.0 ≡ false → g.0 < number_after (λ (f : FileNo). f.0) after
  below_of None g h = absurd (cc h)
  below_of (Some f) g h = grind (arith, nat_tests, h)

  pub next_found : (after : Option FileNo) (f : FileNo) → IsNumberAbove files (file_number after) f.0 → NextFile heads after (Some f)
  next_found after f next = record {
    here = has_file f heads next.slot (of_number f (head_in heads next.slot) (sym (are.each next.slot) ∙ next.here));
    from_there = above_from after f next.above;
    least = λ g e le. let at = has_head g heads e in next.least at.0 g.0 (are.each at.0 ∙ its_number g (head_in heads at.0) at.2) (from_above after g le);
  }

  pub next_none : (after : Option FileNo) → ((slot n : ℕ) → number_at files slot ≡ Some n → is_number_above (file_number after) n ≡ false) → NextFile heads after None
  next_none after none g e = let at = has_head g heads e in below_of after g (none at.0 g.0 (are.each at.0 ∙ its_number g (head_in heads at.0) at.2))

  -- as the answer of a search says it
  pub there_by : (f : FileNo) (found : Option ℕ) → IfSome found (λ slot. IsSlotFrom files f.0 0 slot) → IfNone found ((slot : ℕ) → 0 ≤ slot → number_at files slot ≡ Some f.0 → ⊥) → is_some found ≡ exists heads f
  there_by f None some none = sym (slot_absent f none)
  there_by f (Some slot) some none = sym (slot_there f slot some)
