-- Where clients stand, and what they report.
use Rattle.jn_world_refines.proofs.Common.{◌≡◌, ◌⊎◌, inl, inr, ◌≢◌, ◌-◌, ℕ, suc, Bool, true, false, [], ◌∷◌, slice_get, slice_set, Option, Some, None, refl, sym, ◌∙◌, ap, subst, arith, ◌&&◌, nat_lt, if◌then◌else◌, length-set, nat_tests, ClientNo, Tid, WorkId, client_eq, client_tells, DeviceState, Message, World, commits_in, Text, Taken, ClientTable, new_table, take_row, if_waits, ignored, begun_row, opened_row, answer_line, is_current, decided_row, outcome_row, pairs_view, StoreView, Setup, Moment, Standing, is_client_number, Stands, texts_taken}
use Rattle.jn_base.specs.declared.op.Answer.{Answer}
use Rattle.jn_base.specs.declared.op.Answer.TheVariants as answers
use Rattle.jn_msgs.specs.declared.message.Message.TheVariants as messages
use Rattle.jn_msgs.specs.declared.message.Outcome.{Outcome}
use Rattle.jn_msgs.specs.declared.message.Outcome.TheVariants.{Committed, Aborted, Waiting, NotKnown}
use Rattle.jn_rows.specs.declared.client.Outstanding.{Outstanding}
use Rattle.jn_world_refines.proofs.Placed.{each-set}
use Rattle.jn_world_refines.proofs.Core.{ClientsStand, client-is, other-is}

-- ---- clients of a world

other-client : (c : ClientNo) (n : ℕ) → nat_lt 0 c.0 ≡ true → (c.0 - 1 ≡ n → ⊥) → client_eq c (record { 0 = suc n }) ≡ false
other-client c n h d = by (client_tells c (record { 0 = suc n }))
  where
    less : (a : ℕ) → a ≡ suc n → a - 1 ≡ n
    less a e = omega (arith, e)

    by : ((client_eq c (record { 0 = suc n }) ≡ true) × (c ≡ record { 0 = suc n })) ⊎ ((client_eq c (record { 0 = suc n }) ≡ false) × (c ≢ record { 0 = suc n })) → client_eq c (record { 0 = suc n }) ≡ false
    by (inl t) = absurd (d (less c.0 (ap (λ (e : ClientNo). e.0) t.1)))
    by (inr t) = t.0

pub one-of : (c : ClientNo) → is_client_number c.0 ≡ true → suc (c.0 - 1) ≡ c.0
one-of c h = grind (arith, nat_tests, h)

not-first : (a b : Bool) → (a && b) ≡ true → a ≡ true
not-first a b h = grind arith

module _ {S : Type 0} (look : S → StoreView) (device : S → DeviceState) (seen : (s : S) → look s ≡ pairs_view (device s)) (x : Setup) (w : Standing S) (m : Moment) (stand : Stands look device x w m) where
  -- one of the eight has this table now
  pub client-moved : (c : ClientNo) → is_client_number c.0 ≡ true → (t : ClientTable) (u : World) → u.clients c ≡ t → ((d : ClientNo) → client_eq c d ≡ false → u.clients d ≡ m.state.course.world.clients d)
      → ClientsStand x (slice_set w.clients (c.0 - 1) t) u
  client-moved c is t u here others = record {
    eight = length-set w.clients (c.0 - 1) t ∙ stand.eight;
    clients = each-set (λ n a. u.clients (record { 0 = suc n }) ≡ a) w.clients (c.0 - 1) t (subst (λ (n : ℕ). u.clients (record { 0 = n }) ≡ t) (sym (one-of c is)) here)
        (λ n a d e. others (record { 0 = suc n }) (other-client c n (not-first (nat_lt 0 c.0) (nat_lt c.0 9) is) d) ∙ client-is look device x w m stand n a e);
    others = λ d o. others d (apart d o (client_tells c d)) ∙ other-is look device x w m stand d o;
  }
    where
      apart : (d : ClientNo) → is_client_number d.0 ≡ false → ((client_eq c d ≡ true) × (c ≡ d)) ⊎ ((client_eq c d ≡ false) × (c ≢ d)) → client_eq c d ≡ false
      apart d o (inl z) = absurd (clash (sym (subst (λ (e : ClientNo). is_client_number e.0 ≡ true) z.1 is) ∙ o))
        where
          clash : true ≡ false → ⊥
          clash e = cc
      apart d o (inr z) = z.0

  -- one that isn't stays as it begins
  pub other-stays : (c : ClientNo) → is_client_number c.0 ≡ false → (u : World) → u.clients c ≡ new_table c x.servers → ((d : ClientNo) → client_eq c d ≡ false → u.clients d ≡ m.state.course.world.clients d)
      → ClientsStand x w.clients u
  other-stays c is u here others = record {
    eight = stand.eight;
    clients = λ n t e. clients-are n t e (client_tells c (record { 0 = suc n }));
    others = λ d o. others-are d o (client_tells c d);
  }
    where
      clients-are : (n : ℕ) (t : ClientTable) → slice_get w.clients n ≡ Some t → ((client_eq c (record { 0 = suc n }) ≡ true) × (c ≡ record { 0 = suc n })) ⊎ ((client_eq c (record { 0 = suc n }) ≡ false) × (c ≢ record { 0 = suc n })) → u.clients (record { 0 = suc n }) ≡ t
      clients-are n t e (inl z) = subst (λ (d : ClientNo). u.clients d ≡ t) z.1 (here ∙ sym (other-is look device x w m stand c is) ∙ ap m.state.course.world.clients z.1 ∙ client-is look device x w m stand n t e)
      clients-are n t e (inr z) = others (record { 0 = suc n }) z.0 ∙ client-is look device x w m stand n t e

      others-are : (d : ClientNo) → is_client_number d.0 ≡ false → ((client_eq c d ≡ true) × (c ≡ d)) ⊎ ((client_eq c d ≡ false) × (c ≢ d)) → u.clients d ≡ new_table d x.servers
      others-are d o (inl z) = subst (λ (e : ClientNo). u.clients e ≡ new_table e x.servers) z.1 here
      others-are d o (inr z) = others d z.0 ∙ other-is look device x w m stand d o

-- ---- a client's lines name no commit

abbrev NamesNone : ℕ → ClientTable × Taken → Type 0
NamesNone k row = commits_in (texts_taken k row.1) ≡ []

waits : (k : ℕ) (t : ClientTable) (o : Option Outstanding) (test : Outstanding → Bool) (row : ℕ → ClientTable × Taken) → ((j : ℕ) → NamesNone k (row j)) → NamesNone k (if_waits t o test row)
waits k t None test row h = refl
waits k t (Some o) test row h = by (test o)
  where
    by : (b : Bool) → NamesNone k (if b then row o.event else ignored t)
    by true = h o.event
    by false = refl

either : (k : ℕ) (b : Bool) (row other : ClientTable × Taken) → NamesNone k row → NamesNone k other → NamesNone k (if b then row else other)
either k true row other h g = h
either k false row other h g = g

begun-none : (k : ℕ) (t : ClientTable) (j : ℕ) (T : Option Tid) → NamesNone k (begun_row t j T)
begun-none k t j None = refl
begun-none k t j (Some T) = refl

opened-none : (k : ℕ) (t : ClientTable) (j : ℕ) (W : Option WorkId) → NamesNone k (opened_row t j W)
opened-none k t j None = refl
opened-none k t j (Some W) = refl

answer-none : (c : ClientNo) (j : ℕ) (a : Answer) → commits_in (answer_line c j a ∷ []) ≡ []
answer-none c j answers.Did = refl
answer-none c j (answers.Read bytes) = refl
answer-none c j answers.NoFile = refl
answer-none c j answers.Exists = refl
answer-none c j (answers.Locked u T) = refl
answer-none c j answers.TooManyReads = refl
answer-none c j answers.TooManyWrites = refl
answer-none c j (answers.Broken u T) = refl
answer-none c j (answers.Lost then' now) = refl
answer-none c j answers.Closing = refl

decided-none : (k : ℕ) (t : ClientTable) (T : Tid) (line : ℕ → Text) → ((j : ℕ) → commits_in (line j ∷ []) ≡ []) → NamesNone k (decided_row t T line)
decided-none k t T line h = either k (is_current t T) _ _ (waits k t t.outstanding _ _ h) refl

outcome-none : (k : ℕ) (t : ClientTable) (T : Tid) (what : Outcome) → NamesNone k (outcome_row t T what)
outcome-none k t T Committed = decided-none k t T _ (λ j. refl)
outcome-none k t T (Aborted cause) = decided-none k t T _ (λ j. refl)
outcome-none k t T (Waiting s u by) = either k (is_current t T) _ _ (waits k t t.outstanding _ _ (λ j. refl)) refl
outcome-none k t T (NotKnown s epoch) = either k (is_current t T) _ _ (waits k t t.outstanding _ _ (λ j. refl)) refl

pub taken-none : (k : ℕ) (t : ClientTable) (m : Message) → commits_in (texts_taken k (take_row t m).1) ≡ []
taken-none k t (messages.Begun c request answer) = waits k t t.outstanding _ _ (λ j. begun-none k t j answer)
taken-none k t (messages.Opened c request T answer) = waits k t t.outstanding _ _ (λ j. opened-none k t j answer)
taken-none k t (messages.Answer c request answer) = waits k t t.outstanding _ _ (λ j. answer-none t.client j answer)
taken-none k t (messages.Outcome c T what) = either k (client_eq c t.client) _ _ (outcome-none k t T what) refl
taken-none k t m = refl

-- ---- a new client stays so, whatever it takes

new-outcome : (c : ClientNo) (n : ℕ) (T : Tid) (what : Outcome) → (outcome_row (new_table c n) T what).0 ≡ new_table c n
new-outcome c n T Committed = refl
new-outcome c n T (Aborted cause) = refl
new-outcome c n T (Waiting s u by) = refl
new-outcome c n T (NotKnown s epoch) = refl

pub new-stays : (c : ClientNo) (n : ℕ) (m : Message) → (take_row (new_table c n) m).0 ≡ new_table c n
new-stays c n (messages.Outcome d T what) = by (client_eq d c)
  where
    by : (b : Bool) → (if b then outcome_row (new_table c n) T what else ignored (new_table c n)).0 ≡ new_table c n
    by true = new-outcome c n T what
    by false = refl
new-stays c n m = refl
