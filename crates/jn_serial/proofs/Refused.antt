-- Where clients refuse commands themselves.
use Rattle.jn_serial.proofs.Common.{◌≡◌, ℕ, ◌+◌, ◌≤◌, Bool, true, false, ◌&&◌, ◌||◌, not, if◌then◌else◌, List, [], ◌∷◌, fold, refl, sym, ◌∙◌, ap, arith, true≢false, nat_eq, ClientNo, Event, Text, Line, is_command_of, own_in_place, AllOwnInPlace, count_lines, is_own, is_own_refusal}
use Rattle.jn_report.specs.declared.line.Text.TheVariants as says

not-in-place : (number : ℕ) (e : Event) (text : Text) → ((c : ClientNo) → is_command_of e c ≡ false) → own_in_place number e text ≡ true → is_own_refusal text ≡ false
not-in-place number e (says.Refused c j refusal) plain h = by (is_own refusal) (nat_eq number j) (is_command_of e c) (plain c) h
  where
    by : (own same of : Bool) → of ≡ false → (not own || (same && of)) ≡ true → own ≡ false
    by false same of f h = refl
    by true true of f h = absurd (true≢false (sym h ∙ f))
    by true false of f h = absurd (true≢false (sym h))
not-in-place number e _ plain h = refl

none-refused : (number : ℕ) (e : Event) (lines : List Line) → ((c : ClientNo) → is_command_of e c ≡ false) → AllOwnInPlace number e lines → count_lines is_own_refusal lines ≡ 0
none-refused number e [] plain h = refl
none-refused number e (l ∷ lines) plain h =
    ap (λ (b : Bool). fold (λ (n : ℕ) (x : Line). n + (if is_own_refusal x.text then 1 else 0)) (0 + (if b then 1 else 0)) lines) (not-in-place number e l.text plain h.0)
    ∙ none-refused number e lines plain h.1

-- an event that is no command has no such refusal
pub refused-nowhere : (number : ℕ) (e : Event) (lines : List Line) → ((c : ClientNo) → is_command_of e c ≡ false) → AllOwnInPlace number e lines → count_lines is_own_refusal lines ≤ 1
refused-nowhere number e lines plain h = let none = none-refused number e lines plain h in omega (arith, none)

-- one line is one refusal at most
pub refused-once : (l : Line) → count_lines is_own_refusal (l ∷ []) ≤ 1
refused-once l = by (is_own_refusal l.text)
  where
    by : (b : Bool) → 0 + (if b then 1 else 0) ≤ 1
    by true = omega arith
    by false = omega arith
