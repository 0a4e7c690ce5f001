-- What is sent in several steps.
use Rattle.std.proofs.Common.{◌≡◌, ◌<◌, ◌+◌, ℕ, zero, suc, slice_index_or, arith, ◌∙◌, ◌++◌, List, [], ◌∷◌, take, length, append_assoc, ap, subst, Result, Err, refl, sym, append-nil}
use Rattle.jn_msgs.specs.Collected.{Collected}
use Rattle.jn_msgs.specs.declared.message.Note.{Note}
use Rattle.jn_rows.specs.declared.coordinator.Transaction.{Transaction}
use Rattle.jn_rows.specs.Coordinator.{told_again, coordinator_again}
use Rattle.jn_rows.specs.Outcomes.{Sent}
use Rattle.jn_base.specs.declared.fault.CallFault.{CallFault}
use Rattle.jn_base.specs.declared.fault.CallFault.TheVariants.{Memory}
use Rattle.jn_transactions.specs.Telling.{Adds, added, Longer}

pub added_none : (before : Collected) → before ≡ added before [] []
added_none before = sym (simp append-nil refl)

pub added_nil : (before : Collected) (ms : List Sent) (ns : List Note) → added before (ms ++ []) ns ≡ added before ms ns
added_nil before ms ns = simp append-nil refl

-- nothing is added
pub longer_same : (before after : Collected) → after ≡ before → Longer before after
longer_same before after e = record {
  more_messages = [];
  more_notes = [];
  is = e ∙ added_none before;
}

pub adds_gave_up : (ms : List Sent) (ns : List Note) (before : Collected) (a : Result (Unit {0}) CallFault) → a ≡ Err Memory → Adds ms ns before a before
adds_gave_up ms ns before a e = subst (λ b. Adds ms ns before b before) (sym e) (longer_same before before refl)

-- ---- of several transactions

pub again_take : (x : Transaction) (xs : List Transaction) (i : ℕ) → i < length xs → coordinator_again (take (i + 1) xs) ≡ coordinator_again (take i xs) ++ told_again (slice_index_or xs i x) (slice_index_or xs i x).stage
again_take x [] i h = absurd (omega (arith, h))
again_take x (y ∷ ys) zero h = let whole : told_again y y.stage ++ [] ≡ told_again y y.stage = append-nil (told_again y y.stage) in grind (arith, whole)
again_take x (y ∷ ys) (suc i) h = let again = again_take x ys i (omega (arith, h)) in let shift : suc i + 1 ≡ suc (i + 1) = omega arith in
    rw shift (ap (λ ms. told_again y y.stage ++ ms) again ∙ sym (append_assoc (told_again y y.stage) (coordinator_again (take i ys)) (told_again (slice_index_or ys i x) (slice_index_or ys i x).stage)))

pub said_more : (before mid after : Collected) (ms more : List Sent) → mid ≡ added before ms [] → after ≡ added mid more [] → after ≡ added before (ms ++ more) []
said_more before mid after ms more e f = f ∙ rw e (simp (append-nil, append_assoc before.messages ms more) refl)

pub again_step : (before mid after : Collected) (x : Transaction) (xs : List Transaction) (i : ℕ) → i < length xs → x ≡ slice_index_or xs i x
    → mid ≡ added before (coordinator_again (take i xs)) [] → after ≡ added mid (told_again x x.stage) [] → after ≡ added before (coordinator_again (take (i + 1) xs)) []
again_step before mid after x xs i h is e f = said_more before mid after (coordinator_again (take i xs)) (told_again x x.stage) e f
    ∙ ap (λ ms. added before ms []) (ap (λ z. coordinator_again (take i xs) ++ told_again z z.stage) is ∙ sym (again_take x xs i h))

-- ---- what is taken back

pub cut_back : (before after : Collected) → Longer before after → record { messages = take (length before.messages) after.messages; notes = take (length before.notes) after.notes } ≡ before
cut_back before after l = rw (l.is, take_front before.messages l.more_messages, take_front before.notes l.more_notes) refl
  where
    take_front : {A : Type 0} (xs ys : List A) → take (length xs) (xs ++ ys) ≡ xs
    take_front [] ys = refl
    take_front (x ∷ xs) ys = ap (λ zs. x ∷ zs) (take_front xs ys)
