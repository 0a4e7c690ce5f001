-- A pool that is loaded, slot by slot.
use Rattle.jn_sets.proofs.Common.{◌≡◌, inl, inr, ℕ, true, ◌+◌, ◌<◌, ◌^◌, List, [], ◌∷◌, ◌++◌, length, sym, ◌∙◌, ap, subst, arith, get_or-append, get_or-append_seam, cases_lt, length-append, get_or_past, enumerate_from, values_of, Record, Free, has_page, StoreView, IsServed, slot_page, record_in, IsRecordPage, IsReadable, IsStored, HoldsRecords, IsIndex, StoreRead}
use Rattle.jn_store.proofs.Laws.{later_trans, same_trans}
use Rattle.jn_sets.proofs.Slots.{push_numbered, values_push}

-- the index has the first slots' records, which the store held at first and holds still
pub record LoadedTo (v : StoreView) (slots : ℕ) (index : List (ℕ × Record)) (w : StoreView) : Type 0 where
  pub length_is : length (values_of index) ≡ slots
  pub numbered : index ≡ enumerate_from 0 (values_of index)
  pub held : HoldsRecords (values_of index) v
  pub read : StoreRead v slots w
  pub power : 0 < slots → w.power ≡ true
  pub stops : w.stops ≡ v.stops

pub read_more : (u v w : StoreView) (n : ℕ) → StoreRead u n v → StoreRead v 1 w → StoreRead u (n + 1) w
read_more u v w n before after = record {
  later = later_trans u v w before.later after.later;
  calls = omega (arith, before.calls, after.calls);
  puts = after.puts ∙ before.puts;
  same = λ j. same_trans u v w j (before.same j) (after.same j);
}

module _ (u v : StoreView) (n : ℕ) (index : List (ℕ × Record)) (loaded : LoadedTo u n index v) where
  pub still_readable : (slot : ℕ) → IsReadable u slot → IsReadable v slot
  still_readable slot readable =
      let same = loaded.read.same (slot_page slot) in
      record { clean = same.first ∙ readable.clean ∙ sym same.second; page = subst IsRecordPage (sym same.first) readable.page }

  module _ (value : Record) (w : StoreView) (next : List (ℕ × Record)) (stored : IsStored v n value) (read : StoreRead v 1 w) (e : next ≡ index ++ (n, value) ∷ []) where
    its_values : values_of next ≡ values_of index ++ value ∷ []
    its_values = ap values_of e ∙ values_push index n value

    stored_first : IsStored u n value
    stored_first =
        let same = loaded.read.same (slot_page n) in
        record { of_format = stored.of_format; only = record { first = sym same.first ∙ stored.only.first; second = sym same.second ∙ stored.only.second } }

    holds_more : HoldsRecords (values_of index ++ value ∷ []) u
    holds_more slot below = elim (cases_lt slot (length (values_of index))) [
      | inl lt ↦ subst (IsStored u slot) (sym (get_or-append (values_of index) (value ∷ []) Free slot lt)) (loaded.held slot lt)
      | inr ge ↦ let last : slot ≡ length (values_of index) = omega (arith, ge, below, length-append (values_of index) (value ∷ [])) in
          subst (λ k. IsStored u k (record_in (values_of index ++ value ∷ []) k)) (sym last)
          (subst (IsStored u (length (values_of index))) (sym (get_or-append_seam (values_of index) value [] Free)) (subst (λ k. IsStored u k value) (sym loaded.length_is) stored_first))
    ]

    -- one slot more
    pub loads_more : IsServed v w → LoadedTo u (n + 1) next w
    loads_more served = let at : n ≡ 0 + length (values_of index) = omega (arith, loaded.length_is) in record {
      length_is = ap length its_values ∙ length-append (values_of index) (value ∷ []) ∙ ap (λ k. k + 1) loaded.length_is;
      numbered = e ∙ ap (λ l. l ++ (n, value) ∷ []) loaded.numbered ∙ ap (λ k. enumerate_from 0 (values_of index) ++ (k, value) ∷ []) at
          ∙ sym (push_numbered (values_of index) 0 value) ∙ ap (enumerate_from 0) (sym its_values);
      held = subst (λ l. HoldsRecords l u) (sym its_values) holds_more;
      read = read_more u v w n loaded.read read;
      power = λ _. served.power;
      stops = served.stops ∙ loaded.stops;
    }

pub loaded_index : (v : StoreView) (slots : ℕ) (index : List (ℕ × Record)) (w : StoreView) → LoadedTo v slots index w → slots < 2 ^ 16 → IsIndex index
loaded_index v slots index w loaded few = record {
  few = omega (arith, loaded.length_is, few);
  numbered = loaded.numbered;
  pages = λ slot. elim (cases_lt slot (length (values_of index))) [
    | inl lt ↦ (loaded.held slot lt).of_format.whole
    | inr past ↦ ap has_page (get_or_past (values_of index) slot Free past)
  ];
}
