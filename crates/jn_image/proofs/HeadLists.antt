-- What the heads that were read say of the image.
use Rattle.jn_image.proofs.Common.{◌≡◌, ⊎_elim, ◌<◌, ℕ, true, List, get_or, map, Option, Some, None, refl, sym, ap, ◌∙◌, arith, is_some, cases_lt, false≢true, get_or_past, Head, HasOneHead, IsWholeHead, head_bytes_of, is_used, file_in, Finds, StandsOnce, IsHeadAt, AreHeads, IsRead, head_file_number, HeadsWhole, Free, Used, get_or-map, free_unused, used_kind, used_file}
use Rattle.jn_records.specs.Sound as sound

-- what is found for one rule is found for another that says the same
pub finds_same : (P Q : ℕ → Type 0) → ((n : ℕ) → P n → Q n) → ((n : ℕ) → Q n → P n) → (r : Option ℕ) → Finds P r → Finds Q r
finds_same P Q to back None found = λ n. to n (found n)
finds_same P Q to back (Some n) found = record { fails = λ q. found.fails (back n q); below = λ k lt. to k (found.below k lt) }

same_value : (a b : ℕ) → Some a ≡ Some b → a ≡ b
same_value a b e = cc

none_some : (a : ℕ) → None ≡ Some a → ⊥
none_some a e = cc

abbrev pub head_or : List (Option Head) → ℕ → Option Head
head_or heads i = get_or heads i None

module _ (m : sound.Image) (heads : List (Option Head)) (are : AreHeads m heads) where
  -- ---- which are heads

  whole_at : (i : ℕ) (o : Option Head) → IsHeadAt m i o → is_some o ≡ true → IsWholeHead m i
  whole_at i None at is = absurd (false≢true is)
  whole_at i (Some h) at is = (h, at.0, at.1, at.2, at.3)

  some_at : (i : ℕ) (o : Option Head) → IsHeadAt m i o → IsWholeHead m i → is_some o ≡ true
  some_at i None at is = absurd (at is)
  some_at i (Some h) at is = refl

  pub heads_whole : (i : ℕ) → IsRead heads i → HeadsWhole m i
  heads_whole i read lt = whole_at i (head_or heads i) (are.each i lt) (read (let n = are.count in omega (arith, lt, n)))

  pub heads_read : (i : ℕ) → HeadsWhole m i → IsRead heads i
  heads_read i whole lt = let within : i < m.counts.heads = let n = are.count in omega (arith, lt, n) in some_at i (head_or heads i) (are.each i within) (whole within)

  pub malformed : (r : Option ℕ) → Finds (IsRead heads) r → Finds (HeadsWhole m) r
  malformed r found = finds_same (IsRead heads) (HeadsWhole m) heads_whole heads_read r found

  -- ---- files

  abbrev files : List (Option ℕ)
  files = map (λ h. head_file_number h) heads

  at_file : (i : ℕ) → get_or files i None ≡ head_file_number (head_or heads i)
  at_file i = get_or-map (λ h. head_file_number h) heads i None

  some_file : (i f : ℕ) (o : Option Head) → IsHeadAt m i o → IsWholeHead m i → is_used (head_bytes_of m i) ≡ true → file_in (head_bytes_of m i) ≡ f → head_file_number o ≡ Some f
  some_file i f None at is used file = absurd (at is)
  some_file i f (Some Free) at is used file = absurd (false≢true (sym (free_unused m.counts.leaves (head_bytes_of m i) are.few at.3) ∙ used))
  some_file i f (Some (Used k xs maps)) at is used file = ap (λ n. Some n) (sym (used_file m.counts.leaves (head_bytes_of m i) are.few k xs maps at.0 at.1 at.3) ∙ file)

  record HasFile (i f : ℕ) : Type 0 where
    within : i < m.counts.heads
    is_head : IsWholeHead m i
    used : is_used (head_bytes_of m i) ≡ true
    file : file_in (head_bytes_of m i) ≡ f

  has_file : (i f : ℕ) → get_or files i None ≡ Some f → HasFile i f
  has_file i f at = ⊎_elim
      (λ lt. by lt (head_or heads i) (are.each i lt) (sym (at_file i) ∙ at))
      (λ past. absurd (none_some f (ap (λ h. head_file_number h) (sym (get_or_past heads i None (let n = are.count in omega (arith, past, n)))) ∙ sym (at_file i) ∙ at)))
      (cases_lt i m.counts.heads)
    where
      by : i < m.counts.heads → (o : Option Head) → IsHeadAt m i o → head_file_number o ≡ Some f → HasFile i f
      by lt None at e = absurd (none_some f e)
      by lt (Some Free) at e = absurd (none_some f e)
      by lt (Some (Used k xs maps)) at e = record {
        within = lt;
        is_head = (Used k xs maps, at.0, at.1, at.2, at.3);
        used = used_kind m.counts.leaves (head_bytes_of m i) are.few k xs maps at.0 at.1 at.3;
        file = used_file m.counts.leaves (head_bytes_of m i) are.few k xs maps at.0 at.1 at.3 ∙ same_value k.0 f e;
      }

  one_head : (f : ℕ) → StandsOnce files f → HasOneHead m f
  one_head f once i j lt less is too used file used' file' = once i j
      (at_file i ∙ some_file i f (head_or heads i) (are.each i lt) is used file)
      (at_file j ∙ some_file j f (head_or heads j) (are.each j less) too used' file')

  stands_once : (f : ℕ) → HasOneHead m f → StandsOnce files f
  stands_once f one i j at too = let a = has_file i f at in let b = has_file j f too in one i j a.within b.within a.is_head b.is_head a.used a.file b.used b.file

  pub same_file : (r : Option ℕ) → Finds (StandsOnce files) r → Finds (HasOneHead m) r
  same_file r found = finds_same (StandsOnce files) (HasOneHead m) one_head stands_once r found
