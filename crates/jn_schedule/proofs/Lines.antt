-- Reading lines one after the other: what is reported, and that what is there is reported.
use Rattle.jn_schedule.proofs.Common.{◌≡◌, ℕ, ◌+◌, ◌<◌, ◌≤◌, ◌++◌, ◌⊎◌, inl, inr, Bool, true, false, cond, List, [], ◌∷◌, length, Option, Some, None, Result, Ok, Err, IfOk, MatchOption, MatchResult, MatchBool, refl, sym, ap, ◌∙◌, subst, append_assoc, arith, append-nil, length-append, Event, LineFault, AreLines, IsSchedule, Spells, is_passed, word_lines, HasFault, IsFirstFault, LinesFault, line_fault_number, ◌>>=◌, AddsLine, Fails, GivesUpTo, event_of, in_front, read_line, read_lines, then_lines}
use Rattle.std.specs.Global.{Vec}
use Rattle.jn_schedule.specs.declared.fault.ParseFault.{ParseFault}
use Rattle.jn_schedule.specs.declared.fault.ParseFault.TheVariants as parse
use Rattle.jn_schedule.proofs.Again.{fault_one, spelled_no_fault, spelled_read}
use Rattle.jn_schedule.proofs.Events.{event_told}

-- a line that is read: it is passed over, or spells an event, and its events stand before those of the lines behind it
record Read (ws : List (List ℕ)) (es : List Event) : Type 0 where
  pub good : (is_passed ws ≡ true) ⊎ ((e : Event) × Spells e ws)
  pub before : (lines : List (List (List ℕ))) (more : List Event) → AreLines lines more → AreLines (ws ∷ lines) (es ++ more)

line_told : (ws : List (List ℕ)) → MatchResult (read_line ws) (λ es. Read ws es) (λ f. (is_passed ws ≡ false) × HasFault ws f)
unfolding read_line
line_told ws = go (is_passed ws) refl (event_of ws) (event_told ws)
  where
    go : (b : Bool) → is_passed ws ≡ b → (r : Result Event LineFault) → MatchResult r (λ e. Spells e ws) (λ f. HasFault ws f)
        → MatchResult (cond b (Ok []) (r >>= λ e. Ok (e ∷ []))) (λ es. Read ws es) (λ f. (b ≡ false) × HasFault ws f)
    go true is r h = record { good = inl is; before = λ lines more are. inl (is, are) }
    go false is (Ok e) h = record { good = inr (e, h); before = λ lines more are. inr (e, more, refl, h, are) }
    go false is (Err f) h = (refl, h)

-- lines that are read are these events, and a fault that is reported is the first one
pub lines_told : (n : ℕ) (lines : List (List (List ℕ))) → MatchResult (read_lines n lines) (λ es. AreLines lines es) (λ x. LinesFault n lines x.0 x.1)
unfolding read_lines
lines_told n [] = refl
lines_told n (ws ∷ lines) = go (read_line ws) (line_told ws) (read_lines (n + 1) lines) (lines_told (n + 1) lines)
  where
    go : (r : Result (List Event) LineFault) → MatchResult r (λ es. Read ws es) (λ f. (is_passed ws ≡ false) × HasFault ws f)
        → (q : Result (List Event) (ℕ × LineFault)) → MatchResult q (λ es. AreLines lines es) (λ x. LinesFault (n + 1) lines x.0 x.1)
        → MatchResult (then_lines n r q) (λ es. AreLines (ws ∷ lines) es) (λ x. LinesFault n (ws ∷ lines) x.0 x.1)
    go (Ok es) h (Ok more) k = h.before lines more k
    go (Ok es) h (Err x) k = inr (h.good, k)
    go (Err f) h q k = inl (h.0, refl, h.1)

line_passed : (ws : List (List ℕ)) → is_passed ws ≡ true → read_line ws ≡ Ok []
unfolding read_line
line_passed ws passed = rw passed refl

line_event : (ws : List (List ℕ)) (e : Event) → Spells e ws → read_line ws ≡ Ok (e ∷ [])
unfolding read_line
line_event ws e spells = let read = spelled_read e ws spells in rw (read.line, read.event) refl

line_fault : (ws : List (List ℕ)) (f : LineFault) → is_passed ws ≡ false → HasFault ws f → read_line ws ≡ Err f
unfolding read_line
line_fault ws f event fault = rw event (go (event_of ws) (event_told ws))
  where
    go : (r : Result Event LineFault) → MatchResult r (λ e. Spells e ws) (λ g. HasFault ws g) → (r >>= λ e. Ok (e ∷ [])) ≡ Err f
    go (Ok e) spells = absurd (spelled_no_fault e ws f spells fault)
    go (Err g) other = ap (λ (x : LineFault). Err x) (fault_one ws g f other fault)

-- events are read
pub lines_again : (n : ℕ) (lines : List (List (List ℕ))) (es : List Event) → AreLines lines es → read_lines n lines ≡ Ok es
unfolding read_lines
lines_again n [] es are = ap (λ (l : List Event). Ok l) (sym are)
lines_again n (ws ∷ lines) es (inl passed) = rw (line_passed ws passed.0, lines_again (n + 1) lines es passed.1) refl
lines_again n (ws ∷ lines) es (inr event) =
    rw (line_event ws event.0 event.3, lines_again (n + 1) lines event.1 event.4) (ap (λ (l : List Event). Ok l) (sym event.2))

-- the first fault is reported
pub fault_again : (n : ℕ) (lines : List (List (List ℕ))) (line : ℕ) (f : LineFault) → LinesFault n lines line f → read_lines n lines ≡ Err (line, f)
unfolding read_lines
fault_again n [] line f fault = absurd fault
fault_again n (ws ∷ lines) line f (inl here) = rw (line_fault ws f here.0 here.2) (ap (λ (l : ℕ). Err (l, f)) (sym here.1))
fault_again n (ws ∷ lines) line f (inr (inl passed, more)) = rw (line_passed ws passed, fault_again (n + 1) lines line f more) refl
fault_again n (ws ∷ lines) line f (inr (inr event, more)) = rw (line_event ws event.0 event.1, fault_again (n + 1) lines line f more) refl

-- ---- as a loop does

in_front_twice : (a b : List Event) (r : Result (List Event) (ℕ × LineFault)) → in_front a (in_front b r) ≡ in_front (a ++ b) r
in_front_twice a b (Ok more) = ap (λ (l : List Event). Ok l) (sym (append_assoc a b more))
in_front_twice a b (Err e) = refl

-- one line more
pub goes_on : (front es : List Event) (n : ℕ) (ws : List (List ℕ)) (lines : List (List (List ℕ))) (total : Result (List Event) (ℕ × LineFault))
    → read_line ws ≡ Ok es → in_front front (read_lines n (ws ∷ lines)) ≡ total → in_front (front ++ es) (read_lines (n + 1) lines) ≡ total
unfolding read_lines
goes_on front es n ws lines total read so_far =
    sym (in_front_twice front es (read_lines (n + 1) lines))
    ∙ ap (λ (r : Result (List Event) LineFault). in_front front (then_lines n r (read_lines (n + 1) lines))) (sym read)
    ∙ so_far

-- a line at fault
stops : (front : List Event) (f : LineFault) (n : ℕ) (ws : List (List ℕ)) (lines : List (List (List ℕ))) (total : Result (List Event) (ℕ × LineFault))
    → read_line ws ≡ Err f → in_front front (read_lines n (ws ∷ lines)) ≡ total → total ≡ Err (n, f)
unfolding read_lines
stops front f n ws lines total read so_far =
    sym so_far ∙ ap (λ (r : Result (List Event) LineFault). in_front front (then_lines n r (read_lines (n + 1) lines))) read

-- behind the last line
pub is_done : (front : List Event) (n : ℕ) (total : Result (List Event) (ℕ × LineFault)) → in_front front (read_lines n []) ≡ total → total ≡ Ok front
unfolding read_lines
is_done front n total so_far = sym so_far ∙ ap (λ (l : List Event). Ok l) (append-nil front)

-- the exit at a line that isn't read, whatever is kept of the events in front
pub exits : (front : List Event) (n : ℕ) (ws : List (List ℕ)) (lines : List (List (List ℕ))) (total : Result (List Event) (ℕ × LineFault)) (e : ParseFault)
    → (before after : List Event) → AddsLine (Err e) n (read_line ws) before after → in_front front (read_lines n (ws ∷ lines)) ≡ total → Fails e total
exits front n ws lines total parse.Memory before after adds so_far = tt
exits front n ws lines total (parse.Syntax place number) before after adds so_far =
    (adds.0, adds.1, stops front adds.0 n ws lines total adds.3 so_far ∙ ap (λ (l : ℕ). Err (l, adds.0)) (sym adds.2))

-- what is kept of the events so far: they are too many, or are all kept
abbrev pub Keeps : Bool → ℕ → List Event → List Event → Type 0
Keeps many most front kept = MatchBool many (most < length front) (front ≡ kept)

-- one line more, with all that it adds kept
pub keeps_on : (many : Bool) (most : ℕ) (front kept es after : List Event) → Keeps many most front kept → after ≡ kept ++ es → Keeps many most (front ++ es) after
keeps_on true most front kept es after past is = omega (arith, length-append front es, past)
keeps_on false most front kept es after same is = ap (λ (l : List Event). l ++ es) same ∙ sym is

-- or none of it, where it is too much
pub lets_go : (many : Bool) (most : ℕ) (front kept es after : List Event) → Keeps many most front kept → after ≡ kept ++ es → most < length after → most < length (front ++ es)
lets_go true most front kept es after past is many = omega (arith, length-append front es, past)
lets_go false most front kept es after same is many = subst (λ (l : List Event). most < length l) (sym (ap (λ (l : List Event). l ++ es) same ∙ sym is)) many

-- ---- the clauses

schedule_read : (text : List ℕ) (es : List Event) → read_lines 1 (word_lines text) ≡ Ok es → IsSchedule text es
schedule_read text es read = subst (λ (q : Result (List Event) (ℕ × LineFault)). MatchResult q (λ es. AreLines (word_lines text) es) (λ x. LinesFault 1 (word_lines text) x.0 x.1)) read (lines_told 1 (word_lines text))

same_events : (text : List ℕ) (es read : List Event) → IsSchedule text es → read_lines 1 (word_lines text) ≡ Ok read → read ≡ es
same_events text es read are is = let again = lines_again 1 (word_lines text) es are in cc

pub found : (text : List ℕ) (most : ℕ) (r : Result (Option (Vec Event)) ParseFault) → GivesUpTo most r (read_lines 1 (word_lines text))
    → IfOk r (λ events. MatchOption events ((es : List Event) × IsSchedule text es × (most < length es)) (λ v. IsSchedule text v.items × (length v.items ≤ most)))
found text most (Ok (Some v)) gives = (schedule_read text v.items gives.0, gives.1)
found text most (Ok None) gives = (gives.0, schedule_read text gives.0 gives.1, gives.2)
found text most (Err e) gives = tt

pub only : (text : List ℕ) (most : ℕ) (r : Result (Option (Vec Event)) ParseFault) → GivesUpTo most r (read_lines 1 (word_lines text))
    → (es : List Event) → IsSchedule text es → MatchResult r (λ events. MatchOption events (most < length es) (λ v. v.items ≡ es)) (λ e. e ≡ parse.Memory)
only text most (Ok (Some v)) gives es are = same_events text es v.items are gives.0
only text most (Ok None) gives es are = subst (λ (l : List Event). most < length l) (same_events text es gives.0 are gives.1) gives.2
only text most (Err parse.Memory) gives es are = refl
only text most (Err (parse.Syntax line number)) gives es are = let again = lines_again 1 (word_lines text) es are in absurd (cc (again, gives.2))

pub fault : (text : List ℕ) (most : ℕ) (r : Result (Option (Vec Event)) ParseFault) → GivesUpTo most r (read_lines 1 (word_lines text)) → (line number : ℕ) → r ≡ Err (parse.Syntax line number) → IsFirstFault text line number
fault text most (Ok o) gives line number is = absurd cc
fault text most (Err parse.Memory) gives line number is = absurd cc
fault text most (Err (parse.Syntax at n)) gives line number is =
    let told : LinesFault 1 (word_lines text) at gives.0 = subst (λ (q : Result (List Event) (ℕ × LineFault)). MatchResult q (λ es. AreLines (word_lines text) es) (λ x. LinesFault 1 (word_lines text) x.0 x.1)) gives.2 (lines_told 1 (word_lines text)) in
    let same_line : at ≡ line = cc in
    let same_number : n ≡ number = cc in
    (gives.0, sym same_number ∙ gives.1, subst (λ (l : ℕ). LinesFault 1 (word_lines text) l gives.0) same_line told)

err_same : (x y : ℕ × LineFault) → ◌≡◌ {A = Result (List Event) (ℕ × LineFault)} (Err x) (Err y) → x ≡ y
err_same x y e = cc

pub first : (text : List ℕ) (most : ℕ) (r : Result (Option (Vec Event)) ParseFault) → GivesUpTo most r (read_lines 1 (word_lines text)) → (line number : ℕ) → IsFirstFault text line number
    → (r ≡ Err (parse.Syntax line number)) ⊎ (r ≡ Err parse.Memory)
first text most (Ok (Some v)) gives line number is = let again = fault_again 1 (word_lines text) line is.0 is.2 in absurd (cc (again, gives.0))
first text most (Ok None) gives line number is = let again = fault_again 1 (word_lines text) line is.0 is.2 in absurd (cc (again, gives.1))
first text most (Err parse.Memory) gives line number is = inr refl
first text most (Err (parse.Syntax at n)) gives line number is =
    let again = fault_again 1 (word_lines text) line is.0 is.2 in
    let pair : ◌≡◌ {A = Result (List Event) (ℕ × LineFault)} (Err (at, gives.0)) (Err (line, is.0)) = sym gives.2 ∙ again in
    let same_pair = err_same (at, gives.0) (line, is.0) pair in
    let same_line : at ≡ line = ap (λ (p : ℕ × LineFault). p.0) same_pair in
    let same_fault : gives.0 ≡ is.0 = ap (λ (p : ℕ × LineFault). p.1) same_pair in
    let same_number : n ≡ number = gives.1 ∙ ap line_fault_number same_fault ∙ sym is.1 in
    inl (rw (same_line, same_number) refl)

-- the same of a list that is asked for whole
pub first_same : {A B : Type 0} (e : ParseFault) (r : Result A ParseFault) → r ≡ Err e → (line number : ℕ) → (r ≡ Err (parse.Syntax line number)) ⊎ (r ≡ Err parse.Memory)
    → (◌≡◌ {A = Result B ParseFault} (Err e) (Err (parse.Syntax line number))) ⊎ (◌≡◌ {A = Result B ParseFault} (Err e) (Err parse.Memory))
first_same e r is line number (inl told) = inl cc
first_same e r is line number (inr told) = inr cc

pub first_never : {A : Type 0} (x : A) (r : Result A ParseFault) → r ≡ Ok x → (line number : ℕ) → (r ≡ Err (parse.Syntax line number)) ⊎ (r ≡ Err parse.Memory) → ⊥
first_never x r is line number (inl told) = absurd cc
first_never x r is line number (inr told) = absurd cc

pub no_schedule : (text : List ℕ) (es : List Event) (line number : ℕ) → IsSchedule text es → IsFirstFault text line number → ⊥
no_schedule text es line number are is =
    let again = lines_again 1 (word_lines text) es are in
    let told = fault_again 1 (word_lines text) line is.0 is.2 in
    cc (again, told)

pub one_list : (text : List ℕ) (es others : List Event) → IsSchedule text es → IsSchedule text others → es ≡ others
one_list text es others are too =
    let again = lines_again 1 (word_lines text) es are in
    let told = lines_again 1 (word_lines text) others too in
    cc (again, told)

-- each text is a schedule, or has a first fault
pub told : (text : List ℕ) → ((es : List Event) × IsSchedule text es) ⊎ ((line : ℕ) × (number : ℕ) × IsFirstFault text line number)
told text = go (read_lines 1 (word_lines text)) (lines_told 1 (word_lines text))
  where
    go : (r : Result (List Event) (ℕ × LineFault)) → MatchResult r (λ es. AreLines (word_lines text) es) (λ x. LinesFault 1 (word_lines text) x.0 x.1)
        → ((es : List Event) × IsSchedule text es) ⊎ ((line : ℕ) × (number : ℕ) × IsFirstFault text line number)
    go (Ok es) h = inl (es, h)
    go (Err x) h = inr (x.0, line_fault_number x.1, (x.1, refl, h))
