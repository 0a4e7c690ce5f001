-- What clients wait for, read from the list of what they asked and were answered.
use Rattle.std.proofs.Common.{◌≡◌, ◌++◌, ℕ, Bool, true, false, List, [], ◌∷◌, Option, None, if◌then◌else◌, refl, ap, ◌∙◌}
use Rattle.jn_base.specs.declared.names.ClientNo.{ClientNo}
use Rattle.jn_base.specs.Names.{client_eq}
use Rattle.jn_following.specs.declared.following.Entry.{Entry}
use Rattle.jn_serial.specs.declared.following.Asked.{Asked}
use Rattle.jn_report.specs.declared.line.Text.{Text}
use Rattle.jn_serial.specs.Follows.{Outstanding, nothing_asked, with_asked, fits_asked}
use Rattle.jn_following.specs.Asked.{outstanding_then, outstanding_of}

-- what one client waits for
abbrev pub asked_then : ClientNo → Option Asked → List Entry → Option Asked
asked_then c now [] = now
asked_then c now (x ∷ xs) = asked_then c (if client_eq x.client c then x.asked else now) xs

pub outstanding_then_at : (c : ClientNo) (out : Outstanding) (xs : List Entry) → asked_then c (out c) xs ≡ outstanding_then out xs c
outstanding_then_at c out [] = refl
outstanding_then_at c out (x ∷ xs) = outstanding_then_at c (with_asked out x.client x.asked) xs

-- whether a text answers what one client waits for
abbrev pub fits_then : ClientNo → ℕ → Text → Bool → List Entry → Bool
fits_then c j text now [] = now
fits_then c j text now (x ∷ xs) = fits_then c j text (if client_eq x.client c then fits_asked x.asked j text else now) xs

fits_then_is : (c : ClientNo) (j : ℕ) (text : Text) (now : Option Asked) (xs : List Entry) → fits_then c j text (fits_asked now j text) xs ≡ fits_asked (asked_then c now xs) j text
fits_then_is c j text now [] = refl
fits_then_is c j text now (x ∷ xs) = by (client_eq x.client c) ∙ fits_then_is c j text (if client_eq x.client c then x.asked else now) xs
  where
    by : (b : Bool) → fits_then c j text (if b then fits_asked x.asked j text else fits_asked now j text) xs ≡ fits_then c j text (fits_asked (if b then x.asked else now) j text) xs
    by true = refl
    by false = refl

pub fits_all : (c : ClientNo) (j : ℕ) (text : Text) (xs : List Entry) → fits_then c j text false xs ≡ fits_asked (outstanding_of xs c) j text
fits_all c j text xs = fits_then_is c j text None xs ∙ ap (λ a. fits_asked a j text) (outstanding_then_at c nothing_asked xs)

pub outstanding_then-append : (out : Outstanding) (xs ys : List Entry) → outstanding_then out (xs ++ ys) ≡ outstanding_then (outstanding_then out xs) ys
outstanding_then-append out [] ys = refl
outstanding_then-append out (x ∷ xs) ys = outstanding_then-append (with_asked out x.client x.asked) xs ys

pub outstanding_of_more : (xs : List Entry) (x : Entry) → outstanding_of (xs ++ x ∷ []) ≡ with_asked (outstanding_of xs) x.client x.asked
outstanding_of_more xs x = outstanding_then-append nothing_asked xs (x ∷ [])
