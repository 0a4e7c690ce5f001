-- What steps report at the end, and which lines are left of it without those aside.
use Rattle.jn_headline.proofs.Common.{◌≡◌, ℕ, ◌+◌, Bool, true, false, List, [], ◌∷◌, ◌++◌, append_assoc, append-nil, refl, sym, ◌∙◌, ap, map-append, list_all, End, Text, Line, Sent, is_aside, plain, plain-append, plain-none, World, Step, after, run, Does, told_by, told_by_steps, at_end, message_texts, traced}
use Rattle.jn_base.specs.declared.names.Party.{Party}

pub told-append : (a b : List Step) (w : World) → told_by_steps (a ++ b) w ≡ told_by_steps a w ++ told_by_steps b (run a w)
told-append [] b w = refl
told-append (step ∷ a) b w = ap (λ (texts : List Text). told_by (Does step) w ++ texts) (told-append a b (after step w)) ∙ sym (append_assoc (told_by (Does step) w) (told_by_steps a (after step w)) (told_by_steps b (run a (after step w))))

pub at-end-append : (a b : List Text) → at_end (a ++ b) ≡ at_end a ++ at_end b
at-end-append a b = map-append (λ (text : Text). record { when = End; text = text }) a b

-- ---- messages

are-aside : (from : Party) (k : ℕ) (sent : List Sent) → list_all (λ (l : Line). is_aside l.text) (at_end (message_texts from k sent)) ≡ true
are-aside from k [] = refl
are-aside from k (one ∷ sent) = are-aside from (k + 1) sent

pub no-messages : (trace : Bool) (from : Party) (k : ℕ) (sent : List Sent) → plain (at_end (traced trace (message_texts from k sent))) ≡ []
no-messages false from k sent = refl
no-messages true from k sent = plain-none (at_end (message_texts from k sent)) (are-aside from k sent)

-- ---- the lines of one step more

-- with no fault reported, and without messages
pub lines-left : (outside own besides messages : List Text) → outside ≡ [] → plain (at_end messages) ≡ [] → plain (at_end (outside ++ own ++ besides ++ messages)) ≡ plain (at_end (own ++ besides))
lines-left outside own besides messages e none = ap (λ (texts : List Text). plain (at_end (texts ++ own ++ besides ++ messages))) e
    ∙ ap plain (at-end-append (own ++ besides) messages) ∙ plain-append (at_end (own ++ besides)) (at_end messages) ∙ ap (λ (ls : List Line). plain (at_end (own ++ besides)) ++ ls) none ∙ append-nil (plain (at_end (own ++ besides)))

pub lines-more : (first old new : List Line) (texts more : List Text) → plain old ≡ plain (first ++ at_end texts) → plain new ≡ plain (at_end more) → plain (old ++ new) ≡ plain (first ++ at_end (texts ++ more))
lines-more first old new texts more h k = plain-append old new ∙ ap (λ (ls : List Line). ls ++ plain new) h ∙ ap (λ (ls : List Line). plain (first ++ at_end texts) ++ ls) k
    ∙ sym (plain-append (first ++ at_end texts) (at_end more)) ∙ ap plain (append_assoc first (at_end texts) (at_end more) ∙ ap (λ (ls : List Line). first ++ ls) (sym (at-end-append texts more)))
