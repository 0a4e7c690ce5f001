-- Operations in a row, on the same files and on lists joined end to end.
use Rattle.jn_replay.proofs.Common.{ℕ, length, ◌≡◌, ◌<◌, List, ◌∷◌, sym, ap, ◌∙◌, subst, ◌+◌, ◌↔◌, drop, get_or, add-one, drop-cons, Answer, AllFiles, answer_to, all_files_after, same_files, AreSame, files_then, GivesAnswers}
use Rattle.jn_replay.specs.declared.files.Performed.{Performed}

pub drop_here : {X : Type 0} (xs : List X) (i : ℕ) (d : X) → i < length xs → drop i xs ≡ get_or xs i d ∷ drop (i + 1) xs
drop_here xs i d h = rw add-one (drop-cons xs i d h)

-- one step of a loop over operations
pub files_then-step : (ops : List Performed) (i : ℕ) (p : Performed) (before after : AllFiles) → i < length ops → p ≡ get_or ops i p → AreSame after (all_files_after p.server p.op before) → files_then (drop (i + 1) ops) after ≡ files_then (drop i ops) before
files_then-step ops i p before after h is same =
    ap (λ (f : AllFiles). files_then (drop (i + 1) ops) f) (same_files after (all_files_after p.server p.op before) same)
    ∙ ap (λ (qs : List Performed). files_then qs before) (ap (λ (q : Performed). q ∷ drop (i + 1) ops) is ∙ sym (drop_here ops i p h))

-- one step of a loop that compares answers
pub GivesAnswers-step : (ops : List Performed) (i : ℕ) (p : Performed) (before after : AllFiles) (answer : Answer) → i < length ops → p ≡ get_or ops i p → AreSame after (all_files_after p.server p.op before) → answer ≡ answer_to p.op (before p.server) → answer ≡ p.answer → GivesAnswers before (drop i ops) ↔ GivesAnswers after (drop (i + 1) ops)
GivesAnswers-step ops i p before after answer h is same gives told =
    subst (λ (qs : List Performed). GivesAnswers before qs ↔ GivesAnswers after (drop (i + 1) ops)) (ap (λ (q : Performed). q ∷ drop (i + 1) ops) is ∙ sym (drop_here ops i p h))
    (rw (same_files after (all_files_after p.server p.op before) same) (λ k. k.1, λ k. (sym gives ∙ told, k)))

pub ↔-trans : {P Q R : Type 0} → P ↔ Q → Q ↔ R → P ↔ R
↔-trans pq qr = (λ p. qr.0 (pq.0 p), λ r. pq.1 (qr.1 r))
