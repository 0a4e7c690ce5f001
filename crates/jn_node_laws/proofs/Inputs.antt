-- What a source has fixes the frames that are read of it, and how reading ends: it is read to its end, it is too long, or bytes are no frame.
use Rattle.jn_node_laws.proofs.Common.{◌≡◌, ⊎_elim, ℕ, ◌+◌, ◌≤◌, ◌<◌, true, List, [], ◌∷◌, ◌++◌, length, take, drop, Option, Some, None, is_some, refl, sym, ◌∙◌, ap, subst, arith, true≢false, none-some, length-append, ◌-◌, IfSome, ServerNo, frames_of, Gave, IsAtEnd, IsText, MeetsFault, inside, at_end, held_of, most_bytes, Framed, Held, Unframed, after_byte, holds, in_front, joined, nothing_held, unframed, unframed_by, SourceState, take-append-add, cases_lt, append-nil, append_assoc, take-append-drop, take-append-le, WireFault, Result, Ok, Err, if◌then◌else◌, is_whole, waiting, EndsWhole, HasNoFrame, PassesLimit, is_at_fault, is_cut_off}
use Rattle.std.proofs.Math.ListN.{drop_of_length-le}
use Rattle.std.specs.Prelude.{Bool, false}
use Rattle.jn_wire.specs.Decoding.{decode}
use Rattle.jn_wire.specs.Unframing as unframing

-- bytes that are fed in two pieces give what they give in one
abbrev pub PiecesJoin : Type 0
PiecesJoin = (s : ServerNo) (h : Held) (xs ys : List ℕ) → unframed s h (xs ++ ys) ≡ joined s (unframed s h xs) ys

-- ---- the first bytes of a list

-- those of a front are the first of the whole
firsts : (most : ℕ) (read rest : List ℕ) → (more : List ℕ) × (take most (read ++ rest) ≡ take most read ++ more)
firsts most read rest = ⊎_elim
    (λ past. ([], take-append-le most read rest (omega (arith, past)) ∙ sym (append-nil (take most read))))
    (λ fits. (
      take (most - length read) rest,
      ap (λ (n : ℕ). take n (read ++ rest)) (let e : most ≡ length read + (most - length read) = omega (arith, fits) in e) ∙ take-append-add read rest (most - length read)
          ∙ ap (λ (l : List ℕ). l ++ take (most - length read) rest) (sym (all-of most read (omega (arith, fits)))),
    ))
    (cases_lt most (length read))
  where
    all-of : (most : ℕ) (read : List ℕ) → length read ≤ most → take most read ≡ read
    all-of most read fits = sym (append-nil (take most read)) ∙ ap (λ (l : List ℕ). take most read ++ l) (sym (drop_of_length-le read fits)) ∙ take-append-drop most read

firsts-past : (most : ℕ) (read rest : List ℕ) → most < length read → take most (read ++ rest) ≡ take most read
firsts-past most read rest past = take-append-le most read rest (omega (arith, past))

-- ---- behind a fault nothing is read

module _ (s : ServerNo) (h : Held) (met : is_some h.fault ≡ true) where
  fault-stays : (bytes : List ℕ) → unframed s h bytes ≡ holds h
  fault-stays [] = refl
  fault-stays (b ∷ bytes) = by h.fault met (fault-stays bytes)
    where
      by : (o : Option WireFault) → is_some o ≡ true → unframed s h bytes ≡ holds h
          → in_front (after_byte (decode s) h o b).frames (unframed_by (decode s) (after_byte (decode s) h o b).held bytes) ≡ holds h
      by (Some f) e again = ap (in_front []) again
      by None e again = absurd (true≢false (sym e))

-- without a fault each byte has its place
no-more : (at n : ℕ) → at + n ≡ at + n + 0
no-more at n = omega arith

all-given : (at n l : ℕ) → l ≡ n + 1 → at + l + 0 ≡ at + n + 1
all-given at n l e = omega (arith, e)

one-held : (at n l : ℕ) → l ≡ n + 1 → at + l ≡ at + n + 1
one-held at n l e = omega (arith, e)

one-first : (x u h n l : ℕ) → l ≡ n + 1 → u ≡ h + 1 → x ≡ u + n → x ≡ h + l
one-first x u h n l e first rest = omega (arith, e, first, rest)

one-longer : (b : ℕ) (bytes : List ℕ) → length (b ∷ bytes) ≡ length bytes + 1
one-longer b bytes = omega arith

module _ (s : ServerNo) where
  step : (h : Held) (o : Option WireFault) (b : ℕ) → o ≡ h.fault → (after_byte (decode s) h o b).held.fault ≡ None
      → (after_byte (decode s) h o b).held.at + length (after_byte (decode s) h o b).held.bytes ≡ h.at + length h.bytes + 1
  step h (Some f) b is none = absurd (none-some f (sym none ∙ sym is))
  step h None b is none = by (is_whole (h.bytes ++ b ∷ [])) (decode s (drop 2 (h.bytes ++ b ∷ []))) none
    where
      by : (w : Bool) (r : Result Framed ℕ) → (if w then unframing.met h.at (h.bytes ++ b ∷ []) r else holds (waiting h.at (h.bytes ++ b ∷ []))).held.fault ≡ None
          → (if w then unframing.met h.at (h.bytes ++ b ∷ []) r else holds (waiting h.at (h.bytes ++ b ∷ []))).held.at
          + length (if w then unframing.met h.at (h.bytes ++ b ∷ []) r else holds (waiting h.at (h.bytes ++ b ∷ []))).held.bytes ≡ h.at + length h.bytes + 1
      by true (Ok f) none = all-given h.at (length h.bytes) (length (h.bytes ++ b ∷ [])) (length-append h.bytes (b ∷ []))
      by true (Err n) none = absurd (none-some _ (sym none))
      by false r none = one-held h.at (length h.bytes) (length (h.bytes ++ b ∷ [])) (length-append h.bytes (b ∷ []))

  pub place : (h : Held) (bytes : List ℕ) → (unframed s h bytes).held.fault ≡ None
      → (unframed s h bytes).held.at + length (unframed s h bytes).held.bytes ≡ h.at + length h.bytes + length bytes
  place h [] none = no-more h.at (length h.bytes)
  place h (b ∷ bytes) none = by (after_byte (decode s) h h.fault b).held.fault refl (place (after_byte (decode s) h h.fault b).held bytes none)
    where
      by : (o : Option WireFault) → (after_byte (decode s) h h.fault b).held.fault ≡ o
          → (unframed s h (b ∷ bytes)).held.at + length (unframed s h (b ∷ bytes)).held.bytes
          ≡ (after_byte (decode s) h h.fault b).held.at + length (after_byte (decode s) h h.fault b).held.bytes + length bytes
          → (unframed s h (b ∷ bytes)).held.at + length (unframed s h (b ∷ bytes)).held.bytes ≡ h.at + length h.bytes + length (b ∷ bytes)
      by (Some f) e rest = absurd (none-some f (sym none
          ∙ ap (λ (u : Unframed). u.held.fault) (fault-stays s (after_byte (decode s) h h.fault b).held (ap is_some e) bytes) ∙ e))
      by None e rest = one-first ((unframed s h (b ∷ bytes)).held.at + length (unframed s h (b ∷ bytes)).held.bytes)
          ((after_byte (decode s) h h.fault b).held.at + length (after_byte (decode s) h h.fault b).held.bytes) (h.at + length h.bytes) (length bytes) (length (b ∷ bytes))
          (one-longer b bytes) (step h h.fault b refl e) rest

-- what is given by the first bytes of a text
abbrev pub unframed_of : ServerNo → List ℕ → Unframed
unframed_of s read = unframed s (nothing_held 0) (take most_bytes read)

module _ (pieces : PiecesJoin) (s : ServerNo) where
  fault-read : (xs ys : List ℕ) → is_some (unframed s (nothing_held 0) xs).held.fault ≡ true → unframed s (nothing_held 0) (xs ++ ys) ≡ unframed s (nothing_held 0) xs
  fault-read xs ys met = pieces s (nothing_held 0) xs ys ∙ ap (in_front (unframed s (nothing_held 0) xs).frames) (fault-stays s (unframed s (nothing_held 0) xs).held met ys)
      ∙ ap (λ (fs : List Framed). record { held = (unframed s (nothing_held 0) xs).held; frames = fs }) (append-nil (unframed s (nothing_held 0) xs).frames)

  -- with a fault in a front nothing else is given by the whole
  met-in-front : (read rest : List ℕ) → is_some (held_of s read).fault ≡ true → unframed_of s (read ++ rest) ≡ unframed_of s read
  met-in-front read rest met = let (more, e) = firsts most_bytes read rest in ap (unframed s (nothing_held 0)) e ∙ fault-read (take most_bytes read) more met

  -- the frames of a front are the first of the whole
  frames-front : (read rest : List ℕ) → (more : List Framed) × (frames_of s (read ++ rest) ≡ frames_of s read ++ more)
  frames-front read rest = let (more, e) = firsts most_bytes read rest in (
    (unframed s (unframed s (nothing_held 0) (take most_bytes read)).held more).frames,
    ap (λ (l : List ℕ). (unframed s (nothing_held 0) l).frames) e ∙ ap (λ (u : Unframed). u.frames) (pieces s (nothing_held 0) (take most_bytes read) more),
  )

-- ---- how reading ends, by all that the source has

pub no-two : (n : ℕ) → n ≤ most_bytes → most_bytes < n → ⊥
no-two n h k = omega (arith, h, k)

empty : 0 < 0 → ⊥
empty h = omega (arith, h)

pub ends-whole : (s : ServerNo) (text : List ℕ) → EndsWhole s text → HasNoFrame s text → ⊥
ends-whole s text ends (is_at_fault met) = true≢false (sym met ∙ ap (λ (h : Held). is_some h.fault) ends.whole)
ends-whole s text ends (is_cut_off fits none some) = empty (subst (λ (h : Held). 0 < length h.bytes) ends.whole some)

pub passes-whole : (s : ServerNo) (text : List ℕ) → PassesLimit s text → HasNoFrame s text → ⊥
passes-whole s text passes (is_at_fault met) = true≢false (sym met ∙ ap is_some passes.none)
passes-whole s text passes (is_cut_off fits none some) = no-two (length text) fits passes.past

-- ---- what was read of the source

module _ (s : ServerNo) (text : List ℕ) (source : SourceState) (left : source.left ≡ Some text) where
  is-text : (read : List ℕ) → IsText source.left read → read ≡ text
  is-text read is = subst (λ (o : Option (List ℕ)). IsText o read) left is

  pub at-end-ends : (read : List ℕ) → IsAtEnd s source.left read → (unframed_of s read ≡ unframed_of s text) × EndsWhole s text
  at-end-ends read e = let same = is-text read e.all in
      (ap (unframed_of s) same, subst (λ (l : List ℕ). EndsWhole s l) same (record { fits = e.fits; whole = e.whole }))

  module _ (read : List ℕ) (later : SourceState) (gave : Gave read source later) where
    -- what it has left follows what was read
    read-and-rest : read ++ drop (length read) text ≡ text
    read-and-rest = ap (λ (l : List ℕ). l ++ drop (length read) text) (sym front) ∙ take-append-drop (length read) text
      where
        front : take (length read) text ≡ read
        front = subst (λ (o : Option (List ℕ)). IfSome o (λ (bytes : List ℕ). take (length read) bytes ≡ read)) left gave.front

    longer : length read ≤ length text
    longer = let both = length-append read (drop (length read) text) in let all = ap length read-and-rest in omega (arith, both, all)

    pub past-passes : (held_of s read).fault ≡ None → most_bytes < length read → (unframed_of s read ≡ unframed_of s text) × PassesLimit s text
    past-passes none past = (same, record { none = ap (λ (u : Unframed). u.held.fault) (sym same) ∙ none; past = let more = longer in omega (arith, past, more) })
      where
        same : unframed_of s read ≡ unframed_of s text
        same = ap (unframed s (nothing_held 0)) (sym (firsts-past most_bytes read (drop (length read) text) past)) ∙ ap (unframed_of s) read-and-rest

    pub fault-breaks : PiecesJoin → MeetsFault s source.left read → (unframed_of s read ≡ unframed_of s text) × HasNoFrame s text
    fault-breaks pieces (inside front near before met) =
        let same : unframed_of s read ≡ unframed_of s text = sym (met-in-front pieces s read (drop (length read) text) met) ∙ ap (unframed_of s) read-and-rest in
        (same, is_at_fault (sym (ap (λ (u : Unframed). is_some u.held.fault) same) ∙ met))
    fault-breaks pieces (at_end all fits none some) = let same = is-text read all in (ap (unframed_of s) same, subst (λ (l : List ℕ). HasNoFrame s l) same (is_cut_off fits none some))

    -- the first bytes of what was read are a front of the text, and their frames are the first of all
    pub front-frames : PiecesJoin → (front : ℕ) → (more : List Framed) × (frames_of s text ≡ frames_of s (take front read) ++ more)
    front-frames pieces front = let (more, e) = frames-front pieces s (take front read) (drop front read ++ drop (length read) text) in (more, ap (frames_of s) (sym whole) ∙ e)
      where
        whole : take front read ++ (drop front read ++ drop (length read) text) ≡ text
        whole = sym (append_assoc (take front read) (drop front read) (drop (length read) text)) ∙ ap (λ (l : List ℕ). l ++ drop (length read) text) (take-append-drop front read) ∙ read-and-rest
