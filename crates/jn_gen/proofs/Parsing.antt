-- The text of events is a schedule of them.
use Rattle.jn_gen.proofs.Common.{◌≡◌, ◌∙◌, ℕ, true, false, nat_eq, ◌+◌, ◌<◌, ◌≤◌, List, [], ◌∷◌, ◌++◌, length, take, drop, get_or, filter, map, inl, inr, refl, ap, sym, subst, arith, append_assoc, nat_tests, append-nil, at_drop_all, at_drop_more, take_all, take_more, AllByRecursion, onto_first, slice_split, Event, AreLines, IsSchedule, has_bytes, parts_of, word_lines, words_of, EventInRange, IsOfBytes, event_words, joined, line_of, spaced, text_of}
use Rattle.std.proofs.lemmas.List.Splits.{slice_split-cons_no, slice_split-cons_yes}
use Rattle.jn_gen.proofs.Words.{IsWord, event_is_words, event_spelled, lacks, lacks-append}

-- ---- cutting

lacks_first : (byte a : ℕ) (rest : List ℕ) → lacks byte (a ∷ rest) ≡ true → (nat_eq a byte ≡ false) × (lacks byte rest ≡ true)
lacks_first byte a rest h = grind (arith, nat_tests)

is_itself : (byte : ℕ) → nat_eq byte byte ≡ true
is_itself byte = grind (arith, nat_tests)

-- up to the first byte of the kind
cut : (byte : ℕ) (w rest : List ℕ) → lacks byte w ≡ true
    → slice_split (λ (b : ℕ). nat_eq b byte) (w ++ byte ∷ rest) ≡ w ∷ slice_split (λ (b : ℕ). nat_eq b byte) rest
cut byte [] rest h = slice_split-cons_yes (λ (b : ℕ). nat_eq b byte) byte rest (is_itself byte)
cut byte (a ∷ w) rest h =
    let o = lacks_first byte a w h in
    slice_split-cons_no (λ (b : ℕ). nat_eq b byte) a (w ++ byte ∷ rest) o.0 ∙ ap (onto_first a) (cut byte w rest o.1)

uncut : (byte : ℕ) (w : List ℕ) → lacks byte w ≡ true → slice_split (λ (b : ℕ). nat_eq b byte) w ≡ w ∷ []
uncut byte [] h = refl
uncut byte (a ∷ w) h =
    let o = lacks_first byte a w h in
    slice_split-cons_no (λ (b : ℕ). nat_eq b byte) a w o.0 ∙ ap (onto_first a) (uncut byte w o.1)

-- ---- words

kept : (w : List ℕ) (ws : List (List ℕ)) → has_bytes w ≡ true → filter has_bytes (w ∷ ws) ≡ w ∷ filter has_bytes ws
kept w ws some = rw some refl

-- the words of a line are those that were joined
spaced_words : (w : List ℕ) (ws : List (List ℕ)) → IsWord w → AllByRecursion IsWord ws → words_of (w ++ spaced ws) ≡ w ∷ ws
spaced_words w [] first more =
    ap words_of (append-nil w) ∙ ap (filter has_bytes) (uncut 32 w first.spaces) ∙ kept w [] first.some
spaced_words w (v ∷ vs) first more =
    ap (filter has_bytes) (cut 32 w (v ++ spaced vs) first.spaces)
    ∙ kept w (slice_split (λ (b : ℕ). nat_eq b 32) (v ++ spaced vs)) first.some
    ∙ ap (λ (l : List (List ℕ)). w ∷ l) (spaced_words v vs more.0 more.1)

joined_words : (ws : List (List ℕ)) → AllByRecursion IsWord ws → words_of (joined ws) ≡ ws
joined_words [] words = refl
joined_words (w ∷ ws) words = spaced_words w ws words.0 words.1

spaced_lacks : (ws : List (List ℕ)) → AllByRecursion IsWord ws → lacks 10 (spaced ws) ≡ true
spaced_lacks [] words = refl
spaced_lacks (w ∷ ws) words = lacks-append 10 w (spaced ws) words.0.feeds (spaced_lacks ws words.1)

joined_lacks : (ws : List (List ℕ)) → AllByRecursion IsWord ws → lacks 10 (joined ws) ≡ true
joined_lacks [] words = refl
joined_lacks (w ∷ ws) words = lacks-append 10 w (spaced ws) words.0.feeds (spaced_lacks ws words.1)

-- ---- lines

line_then : (ws : List (List ℕ)) (rest : List ℕ) → AllByRecursion IsWord ws → word_lines (line_of ws ++ rest) ≡ ws ∷ word_lines rest
line_then ws rest words =
    ap word_lines (append_assoc (joined ws) (10 ∷ []) rest)
    ∙ ap (map words_of) (cut 10 (joined ws) rest (joined_lacks ws words))
    ∙ ap (λ (l : List (List ℕ)). l ∷ word_lines rest) (joined_words ws words)

pub text_parses : (es : List Event) → AllByRecursion EventInRange es → AllByRecursion (λ e. AllByRecursion IsOfBytes (parts_of e)) es → IsSchedule (text_of es) es
text_parses [] range bytes = inl (refl, refl)
text_parses (e ∷ es) range bytes =
    let line = line_then (event_words e) (text_of es) (event_is_words e range.0 bytes.0) in
    subst (λ (ls : List (List (List ℕ))). AreLines ls (e ∷ es)) (sym line)
    (inr (e, es, refl, event_spelled e range.0 bytes.0, text_parses es range.1 bytes.1))

-- ---- as a loop does

-- the bytes of the blocks of events are bytes
abbrev pub AreOfBytes : List Event → Type 0
AreOfBytes es = AllByRecursion (λ (e : Event). AllByRecursion IsOfBytes (parts_of e)) es

of_bytes-append : (xs ys : List Event) → AreOfBytes xs → AreOfBytes ys → AreOfBytes (xs ++ ys)
of_bytes-append [] ys front back = back
of_bytes-append (x ∷ xs) ys front back = (front.0, of_bytes-append xs ys front.1 back)

-- one event more
pub bytes_more : (es : List Event) (i : ℕ) (e : Event) → i < length es → e ≡ get_or es i e → AreOfBytes (take i es) → AllByRecursion IsOfBytes (parts_of e) → AreOfBytes (take (i + 1) es)
bytes_more es i e within is before fits =
    subst AreOfBytes (ap (λ (x : Event). take i es ++ x ∷ []) is ∙ sym (take_more es i e within))
    (of_bytes-append (take i es) (e ∷ []) before (fits, tt))

pub text_more : (es : List Event) (i : ℕ) (e : Event) (out more : List ℕ) → i < length es → e ≡ get_or es i e → more ≡ out ++ line_of (event_words e)
    → out ++ text_of (drop i es) ≡ text_of es → more ++ text_of (drop (i + 1) es) ≡ text_of es
text_more es i e out more within is line so_far =
    ap (λ (t : List ℕ). t ++ text_of (drop (i + 1) es)) line
    ∙ append_assoc out (line_of (event_words e)) (text_of (drop (i + 1) es))
    ∙ ap (λ (x : Event). out ++ (line_of (event_words x) ++ text_of (drop (i + 1) es))) is
    ∙ sym (at_drop_more (λ (l : List Event). out ++ text_of l) es i e within)
    ∙ so_far

-- behind the last one
pub text_whole : (es : List Event) (i : ℕ) (out : List ℕ) → length es ≤ i → out ++ text_of (drop i es) ≡ text_of es → out ≡ text_of es
text_whole es i out past so_far = sym (append-nil out) ∙ sym (at_drop_all (λ (l : List Event). out ++ text_of l) es i past) ∙ so_far

pub schedule_whole : (es : List Event) (i : ℕ) (out : List ℕ) → length es ≤ i → out ++ text_of (drop i es) ≡ text_of es → AreOfBytes (take i es) → AllByRecursion EventInRange es → IsSchedule out es
schedule_whole es i out past so_far bytes range =
    subst (λ (t : List ℕ). IsSchedule t es) (sym (text_whole es i out past so_far))
    (text_parses es range (subst AreOfBytes (take_all i es past) bytes))
