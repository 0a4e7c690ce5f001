-- The run of bytes of one kind at a place of a text: where it ends, and that nothing else is one.
use Rattle.std.proofs.Common.{◌≡◌, ℕ, ◌+◌, ◌-◌, ◌<◌, ◌≤◌, Bool, true, false, List, length, take, drop, get_or, arith, ap, ◌∙◌, sym, inl, inr}
use Rattle.std.proofs.lemmas.List.{get_or-take, get_or-drop, get_or_past, length-drop, length-take-le}
use Rattle.std.proofs.lemmas.List.Sums.{prefix_len_is, prefix_len_stops, prefix_len-le-length}
use Rattle.std.proofs.lemmas.Bool.{cases_lt}
use Rattle.std.specs.List.{prefix_len}

-- bytes that pass, up to one that does not, are the run
pub run_is : (p : ℕ → Bool) (bytes : List ℕ) (start end : ℕ) → start ≤ end → end ≤ length bytes
    → ((k : ℕ) → k < end - start → p (get_or (take (end - start) (drop start bytes)) k 0) ≡ true)
    → p (get_or bytes end 0) ≡ false → prefix_len p (drop start bytes) ≡ end - start
run_is p bytes start end ordered within pass stops =
    let rest = drop start bytes in
    let n = end - start in
    let fits : n ≤ length rest = omega (arith, length-drop start bytes) in
    let last : start + n ≡ end = omega arith in
    prefix_len_is p rest n 0 fits
    (λ k lt. ap p (sym (get_or-take n rest k 0 lt)) ∙ pass k lt)
    (λ _. ap p (get_or-drop start bytes n 0 ∙ ap (λ (i : ℕ). get_or bytes i 0) last) ∙ stops)

-- the byte after the run does not pass, nor does what stands for the end of the text
pub run_stops : (p : ℕ → Bool) (bytes : List ℕ) (start : ℕ) → p 0 ≡ false
    → p (get_or bytes (start + prefix_len p (drop start bytes)) 0) ≡ false
run_stops p bytes start none =
    let rest = drop start bytes in
    let n = prefix_len p rest in
    ap p (sym (get_or-drop start bytes n 0)) ∙ elim (cases_lt n (length rest)) [
      | inl before ↦ prefix_len_stops p rest 0 before
      | inr after ↦ ap p (get_or_past rest n 0 after) ∙ none
    ]

pub length-take_drop : (bytes : List ℕ) (start end : ℕ) → end ≤ length bytes → length (take (end - start) (drop start bytes)) ≡ end - start
length-take_drop bytes start end within = length-take-le (end - start) (drop start bytes) (omega (arith, length-drop start bytes))

-- a run of so many bytes, counted in what follows its place
module _ (p : ℕ → Bool) (bytes rest : List ℕ) (start count : ℕ) (same : rest ≡ drop start bytes) (counted : count ≡ prefix_len p rest) where
  -- it is within the text
  pub run_within : start ≤ length bytes → start + count ≤ length bytes
  run_within within =
      let run : count ≡ prefix_len p (drop start bytes) = counted ∙ ap (prefix_len p) same in
      omega (arith, prefix_len-le-length p (drop start bytes), length-drop start bytes)

  -- its bytes
  pub run_spelled : take (start + count - start) (drop start bytes) ≡ take count rest
  run_spelled =
      let whole : start + count - start ≡ count = omega arith in
      ap (λ (k : ℕ). take k (drop start bytes)) whole ∙ ap (take count) (sym same)

  -- nothing of its kind follows
  pub run_ends : p 0 ≡ false → p (get_or bytes (start + count) 0) ≡ false
  run_ends none =
      ap (λ (k : ℕ). p (get_or bytes (start + k) 0)) (counted ∙ ap (prefix_len p) same) ∙ run_stops p bytes start none

  -- what ends where its run does is the run
  pub run_taken : (end : ℕ) → prefix_len p (drop start bytes) ≡ end - start → (count ≡ end - start) × (take count rest ≡ take (end - start) (drop start bytes))
  run_taken end run =
      let whole : count ≡ end - start = counted ∙ ap (prefix_len p) same ∙ run in
      (whole, ap (take count) same ∙ ap (λ (k : ℕ). take k (drop start bytes)) whole)
