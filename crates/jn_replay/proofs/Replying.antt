-- A call done operation by operation is what it is on these files, and what is done one after another leaves and gives what the list says.
use Rattle.jn_replay.proofs.Common.{◌≡◌, ℕ, ◌+◌, ◌<◌, ◌≤◌, true, false, List, [], ◌∷◌, length, drop, get_or, zero, suc, refl, sym, ◌∙◌, ap, subst, inl, inr, arith, ◌↔◌, cases_Bool, nat_tests, Answer, ServerNo, server_eq, server_eq-true, AllFiles, answer_to, all_files_after, all_files_after-here, same_files, AreSame, Op, Files, files_after, Turn, Asks, Over, first_op, begun, turn, given, GoesOn, left, left_from, all_files_by, files_by_all, GivesReplies, call_fits, wish_fits, CallsFit}
use Rattle.jn_base.specs.declared.call.ByteCommand.TheVariants.{ReadBytes, WriteBytes}
use Rattle.jn_base.specs.declared.call.NameCommand.TheVariants.{Bind, Unbind, Find, Names}
use Rattle.jn_base.specs.declared.call.Call.{Call}
use Rattle.jn_base.specs.declared.call.Call.TheVariants.{OfBytes, OfNames}
use Rattle.jn_order.specs.Changes.{files_then as files_then_ops}
use Rattle.jn_order.specs.Answers.{Answered, ops_of, FilesAnswer}
use Rattle.jn_calls.specs.declared.reply.Reply.{Reply}
use Rattle.jn_calls.specs.declared.reply.CallNext.{CallNext}
use Rattle.jn_calls.specs.declared.reply.CallNext.TheVariants as nexts
use Rattle.jn_calls.specs.declared.reply.Wish.TheVariants as wishes
use Rattle.jn_calls.specs.declared.state.CallState.{CallState}
use Rattle.jn_calls.specs.Calls.{reply_to, files_by, Fits, IsNamed}
use Rattle.jn_calls.proofs.Exchanging.{is-its-call}
use Rattle.jn_calls.proofs.Fewer.{falls}
use Rattle.jn_replay.specs.declared.replied.Replied.{Replied}
use Rattle.jn_replay.proofs.Same.{drop_here}

-- ---- calls that a client makes

pub fits_so : (call : Call) → call_fits call ≡ true → Fits call
fits_so (OfBytes (ReadBytes f offset count)) h = tt
fits_so (OfBytes (WriteBytes f offset bytes)) h = (grind (arith, nat_tests), grind (arith, nat_tests))
fits_so (OfNames (Bind d name f)) h = h
fits_so (OfNames (Unbind d name)) h = h
fits_so (OfNames (Find d name)) h = h
fits_so (OfNames (Names d)) h = tt

pub named_so : (call : Call) → call_fits call ≡ true → IsNamed call
named_so (OfBytes command) h = tt
named_so (OfNames (Bind d name f)) h = h
named_so (OfNames (Unbind d name)) h = h
named_so (OfNames (Find d name)) h = h
named_so (OfNames (Names d)) h = tt

-- ---- one call

-- whatever is asked from here on and answered by the files as they are now, the call began on the first ones ends as it is on these
abbrev pub EndsAs : Call → Files → Files → Turn → Type 0
EndsAs call first now t =
    (os : List Answered) (reply : Reply) → FilesAnswer now os → GoesOn t os reply
    → (reply ≡ reply_to (wishes.Call call) first) × (files_then_ops (ops_of os) now ≡ files_by (wishes.Call call) first)

pub begins_so : (call : Call) (files : Files) → call_fits call ≡ true → EndsAs call files files (Asks (first_op call) (begun call))
begins_so call files h os reply answer goes = is-its-call call files os reply (fits_so call h) answer goes

goes_so : (call : Call) (first now : Files) (op : Op) (state : CallState) → EndsAs call first now (Asks op state) → EndsAs call first (files_after op now) (turn state (answer_to op now))
goes_so call first now op state h os reply answer goes = h ((record { op = op; answer = answer_to op now }) ∷ os) reply (refl, answer) (refl, goes)

ends_so : (call : Call) (first now : Files) (reply : Reply) → EndsAs call first now (Over reply) → (reply ≡ reply_to (wishes.Call call) first) × (now ≡ files_by (wishes.Call call) first)
ends_so call first now reply h = h [] reply tt refl

same-op : (a b : Op) → nexts.Send a ≡ nexts.Send b → a ≡ b
same-op a b e = cc

same-reply : (a b : Reply) → nexts.Over a ≡ nexts.Over b → a ≡ b
same-reply a b e = cc

asks-given : (state : CallState) (t : Turn) (op : Op) (now : CallState) → nexts.Send op ≡ (given state t).0 → now ≡ (given state t).1 → t ≡ Asks op now
asks-given state (Asks other next) op now h k = rw (same-op op other h, k) refl
asks-given state (Over reply) op now h k = absurd (cc h)

over-given : (state : CallState) (t : Turn) (reply : Reply) → nexts.Over reply ≡ (given state t).0 → t ≡ Over reply
over-given state (Asks op next) reply h = absurd (cc h)
over-given state (Over other) reply h = ap (λ (r : Reply). Over r) (sym (same-reply reply other h))

-- where a call stands on the files of all servers: at its own it ends so, and the others are as they were
pub record Stands (server : ServerNo) (call : Call) (first now : AllFiles) (t : Turn) : Type 0 where
  pub ends : EndsAs call (first server) (now server) t
  pub elsewhere : (q : ServerNo) → server_eq server q ≡ false → now q ≡ first q

at-server : (server : ServerNo) (op : Op) (files : AllFiles) → all_files_after server op files server ≡ files_after op (files server)
at-server server op files = all_files_after-here server op files

pub stands-first : (server : ServerNo) (call : Call) (files : AllFiles) → call_fits call ≡ true → Stands server call files files (Asks (first_op call) (begun call))
stands-first server call files h = record { ends = begins_so call (files server) h; elsewhere = λ q e. refl }

pub stands-on : (server : ServerNo) (call : Call) (first before after : AllFiles) (op : Op) (state : CallState) → Stands server call first before (Asks op state) → AreSame after (all_files_after server op before)
    → Stands server call first after (turn state (answer_to op (before server)))
stands-on server call first before after op state h same =
    subst (λ (files : AllFiles). Stands server call first files (turn state (answer_to op (before server)))) (sym (same_files after (all_files_after server op before) same)) (record {
      ends = subst (λ (files : Files). EndsAs call (first server) files (turn state (answer_to op (before server)))) (sym (at-server server op before)) (goes_so call (first server) (before server) op state h.ends);
      elsewhere = λ q e. rw e (h.elsewhere q e);
    })

-- what an answer gave out, and the call then
abbrev pub Given : CallState → Turn → CallNext → CallState → Type 0
Given state t out now = (out, now) ≡ given state t

given-out : (state : CallState) (t : Turn) (out : CallNext) (now : CallState) → Given state t out now → (out ≡ (given state t).0) × (now ≡ (given state t).1)
given-out state t out now h = (ap (λ (p : CallNext × CallState). p.0) h, ap (λ (p : CallNext × CallState). p.1) h)

-- the call goes on
pub stands-next : (server : ServerNo) (call : Call) (first before after : AllFiles) (op next : Op) (out : CallNext) (state now : CallState) → Stands server call first before (Asks op state) → AreSame after (all_files_after server op before)
    → Given state (turn state (answer_to op (before server))) out now → out ≡ nexts.Send next → Stands server call first after (Asks next now)
stands-next server call first before after op next out state now h same g is =
    let e = given-out state _ out now g in
    subst (λ (t : Turn). Stands server call first after t) (asks-given state _ next now (sym is ∙ e.0) e.1) (stands-on server call first before after op state h same)

fewer : (t : Turn) (n : ℕ) (op : Op) (state : CallState) → left_from t ≤ n → t ≡ Asks op state → left state < n
fewer t n op state l e = let z : left_from t ≡ 1 + left state = ap (λ (t : Turn). left_from t) e in omega (arith, l, z)

pub falls_so : (state now : CallState) (op : Op) (out : CallNext) (answer : Answer) → Given state (turn state answer) out now → out ≡ nexts.Send op → left now < left state
falls_so state now op out answer g is =
    let e = given-out state _ out now g in
    fewer (turn state answer) (left state) op now (falls state answer) (asks-given state (turn state answer) op now (sym is ∙ e.0) e.1)

-- the call is over
pub stands-over : (server : ServerNo) (call : Call) (first before after : AllFiles) (op : Op) (reply : Reply) (out : CallNext) (state now : CallState) → Stands server call first before (Asks op state) → AreSame after (all_files_after server op before)
    → Given state (turn state (answer_to op (before server))) out now → out ≡ nexts.Over reply
    → (reply ≡ reply_to (wishes.Call call) (first server)) × AreSame after (all_files_by server (wishes.Call call) first)
stands-over server call first before after op reply out state now h same g is =
    let s = subst (λ (t : Turn). Stands server call first after t) (over-given state _ reply (sym is ∙ (given-out state _ out now g).0)) (stands-on server call first before after op state h same) in
    let ends = ends_so call (first server) (after server) reply s.ends in (
      ends.0,
      λ q u. elim (cases_Bool (server_eq server q)) [
        | inl k ↦ rw k (ap (λ (files : Files). files u) (subst (λ (z : ServerNo). after z ≡ files_by (wishes.Call call) (first z)) (server_eq-true server q k) ends.1))
        | inr k ↦ rw k (ap (λ (files : Files). files u) (s.elsewhere q k))
      ],
    )

-- ---- one after another

pub fits-here : (rs : List Replied) (i : ℕ) (r : Replied) → i < length rs → r ≡ get_or rs i r → CallsFit rs → wish_fits r.wish ≡ true
fits-here [] i r h is fit = absurd (omega arith)
fits-here (x ∷ rs) zero r h is fit = subst (λ (z : Replied). wish_fits z.wish ≡ true) (sym is) fit.0
fits-here (x ∷ rs) (suc i) r h is fit = fits-here rs i r (omega (arith, h)) is fit.1

-- one step of a loop over what was replied
pub files_by_all-step : (rs : List Replied) (i : ℕ) (r : Replied) (before after : AllFiles) → i < length rs → r ≡ get_or rs i r → AreSame after (all_files_by r.server r.wish before) → files_by_all (drop (i + 1) rs) after ≡ files_by_all (drop i rs) before
files_by_all-step rs i r before after h is same =
    ap (λ (f : AllFiles). files_by_all (drop (i + 1) rs) f) (same_files after (all_files_by r.server r.wish before) same)
    ∙ ap (λ (qs : List Replied). files_by_all qs before) (ap (λ (q : Replied). q ∷ drop (i + 1) rs) is ∙ sym (drop_here rs i r h))

-- one step of a loop that compares replies
pub GivesReplies-step : (rs : List Replied) (i : ℕ) (r : Replied) (before after : AllFiles) (reply : Reply) → i < length rs → r ≡ get_or rs i r → AreSame after (all_files_by r.server r.wish before)
    → reply ≡ reply_to r.wish (before r.server) → reply ≡ r.reply → GivesReplies before (drop i rs) ↔ GivesReplies after (drop (i + 1) rs)
GivesReplies-step rs i r before after reply h is same gives told =
    subst (λ (qs : List Replied). GivesReplies before qs ↔ GivesReplies after (drop (i + 1) rs)) (ap (λ (q : Replied). q ∷ drop (i + 1) rs) is ∙ sym (drop_here rs i r h))
    (rw (same_files after (all_files_by r.server r.wish before) same) (λ k. k.1, λ k. (sym gives ∙ told, k)))

-- where they first differ
pub GivesReplies-differs : (rs : List Replied) (i : ℕ) (r : Replied) (files : AllFiles) → i < length rs → r ≡ get_or rs i r → GivesReplies files (drop i rs) → reply_to r.wish (files r.server) ≡ r.reply
GivesReplies-differs rs i r files h is g =
    (subst (λ (qs : List Replied). GivesReplies files qs) (sym (ap (λ (q : Replied). q ∷ drop (i + 1) rs) is ∙ sym (drop_here rs i r h))) g).0
