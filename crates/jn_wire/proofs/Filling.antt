-- A frame that is held, and the bytes that are added to it.
use Rattle.std.proofs.Common.{◌≡◌, ◌⊎◌, inl, inr, ◌≤◌, ◌<◌, ◌+◌, ◌-◌, ℕ, true, false, List, [], ◌++◌, length, take, drop, min, sym, ◌∙◌, ap, subst, arith, append_assoc, length-append, Result, Ok, Err, IfOk, Bor}
use Rattle.std.proofs.lemmas.Bool.{cases_lt}
use Rattle.std.proofs.lemmas.Bool.Decides.{nat_tests}
use Rattle.std.proofs.lemmas.List.{take-append-drop, length-take, drop_all}
use Rattle.jn_wire.specs.Unframing.{is_whole, is_unfinished, whole_length}
use Rattle.jn_wire.specs.Reading.{Fills}
use Rattle.jn_wire.proofs.Whole.{same-prefix}

-- once the length is there, no more is held than it tells
not-past : (old piece : List ℕ) → is_unfinished old ≡ true → 2 ≤ length (old ++ take (2 - length old) piece) → length (old ++ take (2 - length old) piece) ≤ whole_length (old ++ take (2 - length old) piece)
not-past old piece u long = by (cases_lt (length old) 2)
  where
    by : (length old < 2) ⊎ (2 ≤ length old) → length (old ++ take (2 - length old) piece) ≤ whole_length (old ++ take (2 - length old) piece)
    by (inl lt) = let more = length-append old (take (2 - length old) piece) in let few = length-take (2 - length old) piece in omega (arith, more, few, long)
    by (inr ge) = let same = same-prefix old (take (2 - length old) piece) ge in let more = length-append old (take (2 - length old) piece) in let few = length-take (2 - length old) piece in grind (arith, same, more, few, u, nat_tests)

-- what isn't whole then, waits
waits : (one first two rest : List ℕ) (size : ℕ) → 2 ≤ length one → size ≡ whole_length one → length one ≤ whole_length one → two ≡ one ++ take (size - length one) first → rest ≡ drop (size - length one) first
    → is_whole two ≡ false → (is_unfinished two ≡ true) × (rest ≡ [])
waits one first two rest size long is below two-is rest-is w = by (cases_lt (length first) (size - length one))
  where
    same : whole_length two ≡ whole_length one
    same = ap whole_length two-is ∙ same-prefix one (take (size - length one) first) long

    more : length two ≡ length one + length (take (size - length one) first)
    more = ap length two-is ∙ length-append one (take (size - length one) first)

    few : length (take (size - length one) first) ≡ min (size - length one) (length first)
    few = length-take (size - length one) first

    by : (length first < size - length one) ⊎ (size - length one ≤ length first) → (is_unfinished two ≡ true) × (rest ≡ [])
    by (inl lt) = let e = same in let f = more in let g = few in (grind (arith, e, f, g, lt, is, nat_tests), rest-is ∙ drop_all (size - length one) first (omega arith))
    by (inr ge) = let e = same in let f = more in let g = few in
        let all : length two ≡ whole_length two = omega (arith, e, f, g, ge, is, below) in
        absurd (grind (arith, all, f, long, w, nat_tests))

pub fills : {E : Type 0} (old piece one two first : List ℕ) (size : ℕ) (r : Result (Bor (List ℕ)) E) → is_unfinished old ≡ true → one ≡ old ++ take (2 - length old) piece → first ≡ drop (2 - length old) piece
    → 2 ≤ length one → size ≡ whole_length one → IfOk r (λ _. two ≡ one ++ take (size - length one) first) → IfOk r (λ rest. rest.now ≡ drop (size - length one) first)
    → IfOk r (λ rest. Fills old piece two rest.now)
fills old piece one two first size (Err e) u one-is first-is long is two-is rest-is = tt
fills old piece one two first size (Ok rest) u one-is first-is long is two-is rest-is =
    let n = 2 - length old in
    let m = size - length one in
    record {
      moved = take n piece ++ take m first;
      held = two-is ∙ ap (λ (l : List ℕ). l ++ take m first) one-is ∙ append_assoc old (take n piece) (take m first);
      left = sym (take-append-drop n piece) ∙ ap (λ (l : List ℕ). take n piece ++ l) (sym first-is ∙ sym (take-append-drop m first) ∙ ap (λ (l : List ℕ). take m first ++ l) (sym rest-is)) ∙ sym (append_assoc (take n piece) (take m first) rest.now);
      waits = waits one first two rest.now size long is (subst (λ (l : List ℕ). length l ≤ whole_length l) (sym one-is) (not-past old piece u (subst (λ (l : List ℕ). 2 ≤ length l) one-is long))) two-is rest-is;
    }
