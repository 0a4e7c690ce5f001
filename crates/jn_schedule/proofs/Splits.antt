-- The words of a text's first line, found one after the other, and the lines behind it.
use Rattle.jn_schedule.proofs.Common.{◌≡◌, ◌≢◌, ◌⊎◌, inl, inr, ℕ, ◌+◌, ◌-◌, ◌<◌, ◌≤◌, Bool, true, false, nat_eq, nat_le, if◌then◌else◌, List, [], ◌∷◌, ◌++◌, append_assoc, length, filter, take, drop, get_or, refl, sym, ap, ◌∙◌, subst, arith, slice_split, nat_tests, common_steps, drop-drop, length-drop, take_all, has_bytes, lines_of, words_of, lacks, lines_from}
use Rattle.std.proofs.Math.Seq.{take-add}
use Rattle.jn_schedule.proofs.TextParts.{front_other, lacks-append}

is_same : (b : ℕ) → nat_eq b b ≡ true
is_same b = grind (arith, nat_tests)

split_none : (byte : ℕ) (xs : List ℕ) → lacks byte xs ≡ true → slice_split (λ (b : ℕ). nat_eq b byte) xs ≡ xs ∷ []
split_none byte [] h = refl
split_none byte (a ∷ xs) h =
    let o = front_other byte a xs h in
    rw (o.0, split_none byte xs o.1) refl

split_at : (byte : ℕ) (xs ys : List ℕ) → lacks byte xs ≡ true → slice_split (λ (b : ℕ). nat_eq b byte) (xs ++ byte ∷ ys) ≡ xs ∷ slice_split (λ (b : ℕ). nat_eq b byte) ys
split_at byte [] ys h = rw (is_same byte) refl
split_at byte (a ∷ xs) ys h =
    let o = front_other byte a xs h in
    rw (o.0, split_at byte xs ys o.1) refl

-- a word, if it has bytes
abbrev pub one_word : List ℕ → List (List ℕ)
one_word w = filter has_bytes (w ∷ [])

word_alone : (w : List ℕ) → lacks 32 w ≡ true → words_of w ≡ one_word w
word_alone w h = ap (filter has_bytes) (split_none 32 w h)

one_more : (w : List ℕ) (ws : List (List ℕ)) → filter has_bytes (w ∷ ws) ≡ one_word w ++ filter has_bytes ws
one_more [] ws = refl
one_more (b ∷ w) ws = go (has_bytes (b ∷ w))
  where
    go : (t : Bool) → (if t then (b ∷ w) ∷ filter has_bytes ws else filter has_bytes ws) ≡ (if t then (b ∷ w) ∷ [] else []) ++ filter has_bytes ws
    go true = refl
    go false = refl

word_cut : (w more : List ℕ) → lacks 32 w ≡ true → words_of (w ++ 32 ∷ more) ≡ one_word w ++ words_of more
word_cut w more h = ap (filter has_bytes) (split_at 32 w more h) ∙ one_more w (slice_split (λ (b : ℕ). nat_eq b 32) more)

-- the words up to a place where one ends
pub record Found (text : List ℕ) (end : ℕ) (words : List (List ℕ)) : Type 0 where
  pub within : end ≤ length text
  pub line : lacks 10 (take end text) ≡ true
  pub stop : end < length text → (get_or text end 0 ≡ 32) ⊎ (get_or text end 0 ≡ 10)
  pub whole : words_of (take end text) ≡ words
  pub more : (rest : List ℕ) → words_of (take end text ++ 32 ∷ rest) ≡ words ++ words_of rest

pub found_first : (text : List ℕ) (end : ℕ) (before words : List (List ℕ)) → end ≤ length text → lacks 32 (take end text) ≡ true → lacks 10 (take end text) ≡ true
    → (end < length text → (get_or text end 0 ≡ 32) ⊎ (get_or text end 0 ≡ 10)) → before ≡ [] → words ≡ before ++ one_word (take end text) → Found text end words
found_first text end before words within space feed stop none are =
    let same : one_word (take end text) ≡ words = ap (λ (l : List (List ℕ)). l ++ one_word (take end text)) (sym none) ∙ sym are in
    record {
      within = within;
      line = feed;
      stop = stop;
      whole = word_alone (take end text) space ∙ same;
      more = λ rest. word_cut (take end text) rest space ∙ ap (λ (l : List (List ℕ)). l ++ words_of rest) same;
    }

-- the bytes up to a place, the byte there, and bytes behind it
next_front : (text : List ℕ) (end n : ℕ) → end < length text → take (end + (n + 1)) text ≡ take end text ++ get_or text end 0 ∷ take n (drop (end + 1) text)
next_front text end n inside =
    take-add end (n + 1) text
    ∙ ap (λ (l : List ℕ). take end text ++ take (n + 1) l) (from_here text end inside)
    ∙ ap (λ (l : List ℕ). take end text ++ l) (take_first n (get_or text end 0) (drop (end + 1) text))
  where
    from_here : (text : List ℕ) (end : ℕ) → end < length text → drop end text ≡ get_or text end 0 ∷ drop (end + 1) text
    from_here text end inside = grind (arith, common_steps)

    take_first : (n b : ℕ) (l : List ℕ) → take (n + 1) (b ∷ l) ≡ b ∷ take n l
    take_first n b l = grind (arith, common_steps)

-- the same byte is among none of them
pub lacks_on : (byte : ℕ) (text rest : List ℕ) (end n : ℕ) → end < length text → rest ≡ drop (end + 1) text → get_or text end 0 ≢ byte
    → lacks byte (take end text) ≡ true → lacks byte (take n rest) ≡ true → lacks byte (take (end + (n + 1)) text) ≡ true
lacks_on byte text rest end n inside is other before behind =
    ap (lacks byte) (next_front text end n inside ∙ ap (λ (l : List ℕ). take end text ++ get_or text end 0 ∷ take n l) (sym is))
    ∙ lacks-append byte (take end text) (get_or text end 0 ∷ take n rest) before (one_on byte (get_or text end 0) (take n rest) other behind)
  where
    one_on : (byte a : ℕ) (l : List ℕ) → a ≢ byte → lacks byte l ≡ true → lacks byte (a ∷ l) ≡ true
    one_on byte a l other behind = grind (arith, nat_tests)

pub found_next : (text rest : List ℕ) (end n : ℕ) (before words : List (List ℕ)) → Found text end before → end < length text → get_or text end 0 ≡ 32 → rest ≡ drop (end + 1) text
    → n ≤ length rest → lacks 32 (take n rest) ≡ true → lacks 10 (take n rest) ≡ true → (n < length rest → (get_or rest n 0 ≡ 32) ⊎ (get_or rest n 0 ≡ 10))
    → words ≡ before ++ one_word (take n rest) → Found text (end + (n + 1)) words
found_next text rest end n before words found inside space is within no_space no_feed stop are =
    let w = take n rest in
    let front : take (end + (n + 1)) text ≡ take end text ++ 32 ∷ w =
    next_front text end n inside ∙ ap (λ (b : ℕ). take end text ++ b ∷ take n (drop (end + 1) text)) space ∙ ap (λ (l : List ℕ). take end text ++ 32 ∷ take n l) (sym is) in
    let long : length rest ≡ length text - (end + 1) = ap length is ∙ length-drop (end + 1) text in
    let at : get_or rest n 0 ≡ get_or text (end + (n + 1)) 0 = ap (λ (l : List ℕ). get_or l n 0) is ∙ next_byte text end n in
    record {
      within = omega (arith, long, within);
      line = ap (lacks 10) front ∙ lacks-append 10 (take end text) (32 ∷ w) found.line no_feed;
      stop = λ more. subst (λ (b : ℕ). (b ≡ 32) ⊎ (b ≡ 10)) at (stop (omega (arith, long)));
      whole = ap words_of front ∙ found.more w ∙ ap (λ (l : List (List ℕ)). before ++ l) (word_alone w no_space) ∙ sym are;
      more = λ behind.
          ap (λ (l : List ℕ). words_of (l ++ 32 ∷ behind)) front ∙ ap words_of (append_assoc (take end text) (32 ∷ w) (32 ∷ behind)) ∙ found.more (w ++ 32 ∷ behind)
          ∙ ap (λ (l : List (List ℕ)). before ++ l) (word_cut w behind no_space) ∙ sym (append_assoc before (one_word w) (words_of behind)) ∙ ap (λ (l : List (List ℕ)). l ++ words_of behind) (sym are);
    }
  where
    next_byte : (text : List ℕ) (end n : ℕ) → get_or (drop (end + 1) text) n 0 ≡ get_or text (end + (n + 1)) 0
    next_byte text end n = grind (arith, common_steps)

-- where no space follows, the line ends
pub line_ends : (text : List ℕ) (end : ℕ) (words : List (List ℕ)) → Found text end words → (length text ≤ end ⊎ (end < length text × (get_or text end 0 ≡ 32 → ⊥)))
    → lines_of text ≡ take end text ∷ lines_from (end + 1) text
line_ends text end words found (inl past) =
    let all : take end text ≡ text = take_all end text past in
    let none : nat_le (end + 1) (length text) ≡ false = grind (arith, nat_tests, past) in
    rw none (split_none 10 text (ap (lacks 10) (sym all) ∙ found.line) ∙ ap (λ (l : List ℕ). l ∷ []) (sym all))
line_ends text end words found (inr (inside, other)) =
    let feed : get_or text end 0 ≡ 10 = elim (found.stop inside) [
      | inl space ↦ absurd (other space)
      | inr feed ↦ feed
    ] in
    let some : nat_le (end + 1) (length text) ≡ true = grind (arith, nat_tests, inside) in
    rw some (ap lines_of (parts text end inside feed) ∙ split_at 10 (take end text) (drop (end + 1) text) found.line)
  where
    parts : (text : List ℕ) (end : ℕ) → end < length text → get_or text end 0 ≡ 10 → text ≡ take end text ++ 10 ∷ drop (end + 1) text
    parts text end inside feed = grind (arith, common_steps)

-- the lines from a place on: the first one there, and those behind it
pub lines_on : (text rest : List ℕ) (at end : ℕ) → at ≤ length text → rest ≡ drop at text → lines_of rest ≡ take end rest ∷ lines_from (end + 1) rest
    → lines_from at text ≡ take end rest ∷ lines_from (at + (end + 1)) text
lines_on text rest at end inside is line =
    let here : nat_le at (length text) ≡ true = grind (arith, nat_tests, inside) in
    let long : length rest ≡ length text - at = ap length is ∙ length-drop at text in
    let test : nat_le (end + 1) (length rest) ≡ nat_le (at + (end + 1)) (length text) = grind (arith, nat_tests, long, inside) in
    let behind : drop (end + 1) rest ≡ drop (at + (end + 1)) text = ap (drop (end + 1)) is ∙ drop-drop (end + 1) at text in
    let on : lines_from (end + 1) rest ≡ lines_from (at + (end + 1)) text =
    ap (λ (b : Bool). if b then lines_of (drop (end + 1) rest) else []) test ∙ ap (λ (l : List ℕ). if nat_le (at + (end + 1)) (length text) then lines_of l else []) behind in
    ap (λ (b : Bool). if b then lines_of (drop at text) else []) here ∙ ap lines_of (sym is) ∙ line ∙ ap (λ (l : List (List ℕ)). take end rest ∷ l) on

pub lines_done : (text : List ℕ) (at : ℕ) → length text < at → lines_from at text ≡ []
lines_done text at past =
    let none : nat_le at (length text) ≡ false = grind (arith, nat_tests, past) in
    ap (λ (b : Bool). if b then lines_of (drop at text) else []) none
