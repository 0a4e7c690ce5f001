-- Each stop and each refused fault of a run has an arm, or a decay of its event.
use Rattle.jn_system_reports.proofs.Common.{◌≡◌, ◌≢◌, ◌⊎◌, inl, inr, ◌<◌, ◌≤◌, ℕ, suc, ◌+◌, ◌-◌, Bool, true, false, List, [], ◌∷◌, ◌++◌, append-nil, append_assoc, length, refl, sym, ◌∙◌, ap, subst, arith, ◌&&◌, not, if◌then◌else◌, nat_le, nat_lt, fold, nat_tests, ServerNo, server_eq, server_tells, Event, When, AtEvent, Text, Line, lines_at, says, count_lines, count_events, is_stop, refuses_event, is_accepted, stops, arms_stop, refuses_fault, gives_fault, is_caused, AreWithin, lines_at-earlier, at_event, Waiting, strikes, strike_all, IsStruck, AreStruck, is_fault, ArmedFrom}
use Rattle.jn_schedule.specs.declared.Event.TheVariants as events
use Rattle.jn_report.specs.declared.line.Text.TheVariants as says

abbrev pub bit : Bool → ℕ
bit b = if b then 1 else 0

-- ---- counts of events

count-same : (f g : ℕ → Event → Bool) (k : ℕ) (es : List Event) → ((j : ℕ) (e : Event) → j < k + length es → f j e ≡ g j e) → count_events f k es ≡ count_events g k es
count-same f g k [] h = refl
count-same f g k (e ∷ es) h = ap (λ (b : Bool). (if b then 1 else 0) + count_events f (k + 1) es) (h k e (here k (length es))) ∙ ap (λ n. (if g k e then 1 else 0) + n) (count-same f g (k + 1) es (λ j d l. h j d (on j k (length es) l)))
  where
    here : (k n : ℕ) → k < k + suc n
    here k n = omega arith

    on : (j k n : ℕ) → j < k + 1 + n → j < k + suc n
    on j k n l = omega (arith, l)

-- one more event counts too
count-next : (f : ℕ → Event → Bool) (k : ℕ) (es fs : List Event) (e : Event) → count_events f k es + (if f (k + length es) e then 1 else 0) ≤ count_events f k (es ++ e ∷ fs)
count-next f k [] fs e = subst (λ n. 0 + (if f n e then 1 else 0) ≤ (if f k e then 1 else 0) + count_events f (k + 1) fs) (none k) (least (if f k e then 1 else 0) (count_events f (k + 1) fs))
  where
    none : (k : ℕ) → k ≡ k + 0
    none k = omega arith

    least : (a b : ℕ) → 0 + a ≤ a + b
    least a b = omega arith
count-next f k (d ∷ es) fs e = subst (λ n. (if f k d then 1 else 0) + count_events f (k + 1) es + (if f n e then 1 else 0) ≤ (if f k d then 1 else 0) + count_events f (k + 1) (es ++ e ∷ fs)) (shift k (length es)) (more (if f k d then 1 else 0) _ _ _ (count-next f (k + 1) es fs e))
  where
    shift : (k n : ℕ) → k + 1 + n ≡ k + suc n
    shift k n = omega arith

    more : (a b c d : ℕ) → b + c ≤ d → a + b + c ≤ a + d
    more a b c d h = omega (arith, h)

-- ---- counts of lines

fold-end : {A B : Type 0} (f : B → A → B) (b : B) (xs : List A) (x : A) → fold f b (xs ++ x ∷ []) ≡ f (fold f b xs) x
fold-end f b [] x = refl
fold-end f b (y ∷ xs) x = fold-end f (f b y) xs x

line-more : (test : Text → Bool) (ls : List Line) (l : Line) → count_lines test (ls ++ l ∷ []) ≡ count_lines test ls + (if test l.text then 1 else 0)
line-more test ls l = fold-end (λ (a : ℕ) (x : Line). a + (if test x.text then 1 else 0)) 0 ls l

-- ---- one kind of fault

module _ (hits told : Text → Bool) (test : List Line → When → ℕ → Event → Bool) (own : Bool → Bool → Event → Bool)
    (is : (lines : List Line) (w : When) (j : ℕ) (e : Event) → test lines w j e ≡ own (is_accepted lines w j) (says told (lines_at (AtEvent j) lines)) e)
    (value : Waiting → ℕ) (takes : (x : Waiting) (text : Text) → IsStruck x text → value x ≡ value (strikes text x) + (if hits text then 1 else 0)) where
  -- lines of this event say nothing of earlier ones
  earlier : (n m j : ℕ) (before here : List Line) (e : Event) → AreWithin n (n + 1) here → n ≤ m → j < n → test (before ++ here) (AtEvent m) j e ≡ test before (AtEvent n) j e
  earlier n m j before here e within up h = is (before ++ here) (AtEvent m) j e ∙ ap (λ l. own (nat_lt j m && not (says refuses_event l)) (says told l) e) (lines_at-earlier n (n + 1) j before here within h)
      ∙ ap (λ (b : Bool). own (b && not (says refuses_event (lines_at (AtEvent j) before))) (says told (lines_at (AtEvent j) before)) e) (both j n m h up) ∙ sym (is before (AtEvent n) j e)
    where
      both : (j n m : ℕ) → j < n → n ≤ m → nat_lt j m ≡ nat_lt j n
      both j n m h k = grind (arith, nat_tests)

  same-count : (n m : ℕ) (es : List Event) (before here : List Line) → n ≡ 1 + length es → AreWithin n (n + 1) here → n ≤ m → count_events (test (before ++ here) (AtEvent m)) 1 es ≡ count_events (test before (AtEvent n)) 1 es
  same-count n m es before here e within up = count-same (test (before ++ here) (AtEvent m)) (test before (AtEvent n)) 1 es (λ j d h. earlier n m j before here d within up (subst (λ k. j < k) (sym e) h))

  module _ (n : ℕ) (es : List Event) (e : Event) (before : List Line) (g : ℕ) (len : n ≡ 1 + length es) where
    abbrev line : Text → Line
    line text = record { when = AtEvent n; text = text }

    -- what waits and what has struck is covered by the events before and by this one
    abbrev pub Covered : Waiting → List Line → Type 0
    Covered x here = value x + count_lines hits (before ++ here) ≤ count_events (test before (AtEvent n)) 1 es + g

    lines-more : (here : List Line) (text : Text) → count_lines hits (before ++ (here ++ line text ∷ [])) ≡ count_lines hits (before ++ here) + (if hits text then 1 else 0)
    lines-more here text = ap (λ l. count_lines hits l) (sym (append_assoc before here (line text ∷ []))) ∙ line-more hits (before ++ here) (line text)

    pub cover-next : (x : Waiting) (here : List Line) (text : Text) → IsStruck x text → Covered x here → Covered (strikes text x) (here ++ line text ∷ [])
    cover-next x here text h c = arrange (value x) (value (strikes text x)) _ _ _ _ (takes x text h) (lines-more here text) c
      where
        arrange : (v u k l a b : ℕ) → v ≡ u + b → l ≡ k + b → v + k ≤ a → u + l ≤ a
        arrange v u k l a b e f c = omega (arith, e, f, c)

    pub cover-one : (fs : List Event) (x : Waiting) (here : List Line) (text : Text) → IsStruck x text → Covered x here → hits text ≡ true → AreWithin n (n + 1) (here ++ line text ∷ [])
        → g ≤ (if test (before ++ (here ++ line text ∷ [])) (AtEvent n) n e then 1 else 0) → nat_le (count_lines hits (before ++ (here ++ line text ∷ []))) (count_events (test (before ++ (here ++ line text ∷ [])) (AtEvent n)) 1 (es ++ e ∷ fs)) ≡ true
    cover-one fs x here text h c hit within extra = at-most _ _ (arrange (value x) (value (strikes text x)) _ _ _ g _ _ (takes x text h) (lines-more here text) (ap bit hit) c
        (subst (λ k. k + (if test (before ++ (here ++ line text ∷ [])) (AtEvent n) n e then 1 else 0) ≤ count_events (test (before ++ (here ++ line text ∷ [])) (AtEvent n)) 1 (es ++ e ∷ fs)) (same-count n n es before (here ++ line text ∷ []) len within (self n))
        (subst (λ k. count_events (test (before ++ (here ++ line text ∷ [])) (AtEvent n)) 1 es + (if test (before ++ (here ++ line text ∷ [])) (AtEvent n) k e then 1 else 0) ≤ count_events (test (before ++ (here ++ line text ∷ [])) (AtEvent n)) 1 (es ++ e ∷ fs)) (sym len)
        (count-next (test (before ++ (here ++ line text ∷ [])) (AtEvent n)) 1 es fs e))) extra)
      where
        self : (n : ℕ) → n ≤ n
        self n = omega arith

        at-most : (a b : ℕ) → a ≤ b → nat_le a b ≡ true
        at-most a b k = grind (arith, nat_tests)

        arrange : (v u k l a g b d : ℕ) → v ≡ u + (if hits text then 1 else 0) → l ≡ k + (if hits text then 1 else 0) → bit (hits text) ≡ 1 → v + k ≤ a + g → a + b ≤ d → g ≤ b → l ≤ d
        arrange v u k l a g b d p q r c f m = omega (arith, p, q, r, c, f, m)

    -- the event is done
    pub cover-done : (x : Waiting) (here : List Line) → Covered x here → AreWithin n (n + 1) here → g ≤ (if test (before ++ here) (AtEvent (n + 1)) n e then 1 else 0) → value x + count_lines hits (before ++ here) ≤ count_events (test (before ++ here) (AtEvent (n + 1))) 1 (es ++ e ∷ [])
    cover-done x here c within extra = arrange _ _ g _ _ c
        (subst (λ k. k + (if test (before ++ here) (AtEvent (n + 1)) n e then 1 else 0) ≤ count_events (test (before ++ here) (AtEvent (n + 1))) 1 (es ++ e ∷ [])) (same-count n (n + 1) es before here len within (up n))
        (subst (λ k. count_events (test (before ++ here) (AtEvent (n + 1))) 1 es + (if test (before ++ here) (AtEvent (n + 1)) k e then 1 else 0) ≤ count_events (test (before ++ here) (AtEvent (n + 1))) 1 (es ++ e ∷ [])) (sym len)
        (count-next (test (before ++ here) (AtEvent (n + 1))) 1 es [] e))) extra
      where
        up : (n : ℕ) → n ≤ n + 1
        up n = omega arith

        arrange : (k a g b d : ℕ) → k ≤ a + g → a + b ≤ d → g ≤ b → k ≤ d
        arrange k a g b d c f m = omega (arith, c, f, m)

-- ---- the two kinds

abbrev pub own_stop : ServerNo → Bool → Bool → Event → Bool
own_stop s accepted told (events.Arm r n kind) = server_eq r s && (is_stop kind && accepted)
own_stop s accepted told e = false

abbrev pub own_fault : ServerNo → Bool → Bool → Event → Bool
own_fault s accepted told (events.Arm r n kind) = server_eq r s && accepted
own_fault s accepted told (events.Decay r page) = server_eq r s && told
own_fault s accepted told e = false

pub stop-is : (s : ServerNo) (lines : List Line) (w : When) (j : ℕ) (e : Event) → arms_stop s lines w j e ≡ own_stop s (is_accepted lines w j) (says (refuses_fault s) (lines_at (AtEvent j) lines)) e
stop-is s lines w j (events.Arm r n kind) = refl
stop-is s lines w j _ = refl

-- a decay's own event tells of its server
pub fault-is : (s : ServerNo) (lines : List Line) (w : When) (j : ℕ) (e : Event) → gives_fault s lines w j e ≡ own_fault s (is_accepted lines w j) (says (refuses_fault s) (lines_at (AtEvent j) lines)) e
fault-is s lines w j (events.Arm r n kind) = refl
fault-is s lines w j (events.Decay r page) = refl
fault-is s lines w j _ = refl

pub stop-takes : (s : ServerNo) (x : Waiting) (text : Text) → IsStruck x text → x.stops s ≡ (strikes text x).stops s + (if stops s text then 1 else 0)
stop-takes s x (says.Stopped r) h = by (server_tells r s)
  where
    less : (n : ℕ) → 1 ≤ n → n ≡ (n - 1) + 1
    less n k = omega arith

    none : (n : ℕ) → n ≡ n + 0
    none n = omega arith

    by : ((server_eq r s ≡ true) × (r ≡ s)) ⊎ ((server_eq r s ≡ false) × (r ≢ s)) → x.stops s ≡ (if server_eq r s then x.stops r - 1 else x.stops s) + (if server_eq r s then 1 else 0)
    by (inl p) = subst (λ (b : Bool). x.stops s ≡ (if b then x.stops r - 1 else x.stops s) + (if b then 1 else 0)) (sym p.0) (subst (λ (q : ServerNo). x.stops q ≡ x.stops r - 1 + 1) p.1 (less (x.stops r) h))
    by (inr p) = subst (λ (b : Bool). x.stops s ≡ (if b then x.stops r - 1 else x.stops s) + (if b then 1 else 0)) (sym p.0) (none (x.stops s))
stop-takes s x (says.Outside r fault) h = none (x.stops s)
  where
    none : (n : ℕ) → n ≡ n + 0
    none n = omega arith
stop-takes s x _ h = none (x.stops s)
  where
    none : (n : ℕ) → n ≡ n + 0
    none n = omega arith

pub fault-takes : (s : ServerNo) (x : Waiting) (text : Text) → IsStruck x text → x.faults s ≡ (strikes text x).faults s + (if refuses_fault s text then 1 else 0)
fault-takes s x (says.Outside r fault) h = by (server_tells r s)
  where
    less : (n : ℕ) → 1 ≤ n → n ≡ (n - 1) + 1
    less n k = omega arith

    none : (n : ℕ) → n ≡ n + 0
    none n = omega arith

    by : ((server_eq r s ≡ true) × (r ≡ s)) ⊎ ((server_eq r s ≡ false) × (r ≢ s)) → x.faults s ≡ (if server_eq r s then x.faults r - 1 else x.faults s) + (if server_eq r s then 1 else 0)
    by (inl p) = subst (λ (b : Bool). x.faults s ≡ (if b then x.faults r - 1 else x.faults s) + (if b then 1 else 0)) (sym p.0) (subst (λ (q : ServerNo). x.faults q ≡ x.faults r - 1 + 1) p.1 (less (x.faults r) h))
    by (inr p) = subst (λ (b : Bool). x.faults s ≡ (if b then x.faults r - 1 else x.faults s) + (if b then 1 else 0)) (sym p.0) (none (x.faults s))
fault-takes s x (says.Stopped r) h = none (x.faults s)
  where
    none : (n : ℕ) → n ≡ n + 0
    none n = omega arith
fault-takes s x _ h = none (x.faults s)
  where
    none : (n : ℕ) → n ≡ n + 0
    none n = omega arith

-- ---- the lines of an event

module _ (n : ℕ) (es : List Event) (e : Event) (before : List Line) (gs gf : ServerNo → ℕ) (len : n ≡ 1 + length es) where
  abbrev pub Stops : Waiting → List Line → Type 0
  Stops x here = (s : ServerNo) → x.stops s + count_lines (stops s) (before ++ here) ≤ count_events (arms_stop s before (AtEvent n)) 1 es + gs s

  abbrev pub Faults : Waiting → List Line → Type 0
  Faults x here = (s : ServerNo) → x.faults s + count_lines (refuses_fault s) (before ++ here) ≤ count_events (gives_fault s before (AtEvent n)) 1 es + gf s

  -- a line of a fault stands where the event's own may count
  pub record MayCount (text : Text) : Type 0 where
    pub stop : (s : ServerNo) (here : List Line) → stops s text ≡ true → gs s ≤ bit (arms_stop s (before ++ (here ++ (record { when = AtEvent n; text = text }) ∷ [])) (AtEvent n) n e)
    pub fault : (s : ServerNo) (here : List Line) → AreWithin n (n + 1) (here ++ (record { when = AtEvent n; text = text }) ∷ []) → refuses_fault s text ≡ true → gf s ≤ bit (gives_fault s (before ++ (here ++ (record { when = AtEvent n; text = text }) ∷ [])) (AtEvent n) n e)

  abbrev pub MayAll : List Text → Type 0
  MayAll [] = Unit {0}
  MayAll (text ∷ texts) = MayCount text × MayAll texts

  caused-one : (fs : List Event) (x : Waiting) (here : List Line) (text : Text) → IsStruck x text → Stops x here → Faults x here → AreWithin n (n + 1) (here ++ (record { when = AtEvent n; text = text }) ∷ []) → MayCount text
      → is_fault text ≡ true → is_caused (es ++ e ∷ fs) (before ++ (here ++ (record { when = AtEvent n; text = text }) ∷ [])) (AtEvent n) text ≡ true
  caused-one fs x here (says.Stopped s) h cs cf within may k = cover-one (stops s) (refuses_fault s) (arms_stop s) (own_stop s) (stop-is s) (λ y. y.stops s) (stop-takes s) n es e before (gs s) len fs x here (says.Stopped s) h (cs s) (self s) within (may.stop s here (self s))
    where
      self : (s : ServerNo) → server_eq s s ≡ true
      self s = grind (arith, server_tells s s)
  caused-one fs x here (says.Outside s fault) h cs cf within may k = cover-one (refuses_fault s) (refuses_fault s) (gives_fault s) (own_fault s) (fault-is s) (λ y. y.faults s) (fault-takes s) n es e before (gf s) len fs x here (says.Outside s fault) h (cf s) (self s) within (may.fault s here within (self s))
    where
      self : (s : ServerNo) → server_eq s s ≡ true
      self s = grind (arith, server_tells s s)
  caused-one fs x here (says.Up s ep) h cs cf within may k = absurd (grind arith)
  caused-one fs x here (says.Down s) h cs cf within may k = absurd (grind arith)
  caused-one fs x here (says.Ignored j) h cs cf within may k = absurd (grind arith)
  caused-one fs x here (says.Lost j) h cs cf within may k = absurd (grind arith)
  caused-one fs x here (says.Commit T) h cs cf within may k = absurd (grind arith)
  caused-one fs x here (says.Broke s T u by) h cs cf within may k = absurd (grind arith)
  caused-one fs x here (says.Begun c j T) h cs cf within may k = absurd (grind arith)
  caused-one fs x here (says.Opened c j s) h cs cf within may k = absurd (grind arith)
  caused-one fs x here (says.Did c j) h cs cf within may k = absurd (grind arith)
  caused-one fs x here (says.Read c j bytes) h cs cf within may k = absurd (grind arith)
  caused-one fs x here (says.Bytes c j bytes) h cs cf within may k = absurd (grind arith)
  caused-one fs x here (says.Found c j f) h cs cf within may k = absurd (grind arith)
  caused-one fs x here (says.Name c j name f) h cs cf within may k = absurd (grind arith)
  caused-one fs x here (says.Refused c j refusal) h cs cf within may k = absurd (grind arith)
  caused-one fs x here (says.Waiting c j s u T) h cs cf within may k = absurd (grind arith)
  caused-one fs x here (says.Committed c j T) h cs cf within may k = absurd (grind arith)
  caused-one fs x here (says.Aborted c j T cause) h cs cf within may k = absurd (grind arith)
  caused-one fs x here (says.RefusedEvent refusal) h cs cf within may k = absurd (grind arith)
  caused-one fs x here (says.File s f) h cs cf within may k = absurd (grind arith)
  caused-one fs x here (says.Page s f q bytes) h cs cf within may k = absurd (grind arith)
  caused-one fs x here (says.Locked s u T) h cs cf within may k = absurd (grind arith)
  caused-one fs x here (says.Commits j) h cs cf within may k = absurd (grind arith)
  caused-one fs x here (says.Message j a b kind) h cs cf within may k = absurd (grind arith)

  pub record Armed (fs : List Event) (x : Waiting) (here : List Line) (texts : List Text) : Type 0 where
    pub lines : ArmedFrom (es ++ e ∷ fs) (before ++ here) (at_event n texts)
    pub stops_then : Stops (strike_all texts x) (here ++ at_event n texts)
    pub faults_then : Faults (strike_all texts x) (here ++ at_event n texts)

  pub armed-texts : (fs : List Event) (texts : List Text) (x : Waiting) (here : List Line) → AreStruck x texts → AreWithin n (n + 1) (here ++ at_event n texts) → Stops x here → Faults x here → MayAll texts → Armed fs x here texts
  armed-texts fs [] x here struck within cs cf may = record { lines = tt; stops_then = subst (λ l. Stops x l) (sym (append-nil here)) cs; faults_then = subst (λ l. Faults x l) (sym (append-nil here)) cf }
  armed-texts fs (text ∷ texts) x here struck within cs cf may = one (armed-texts fs texts (strikes text x) (here ++ l ∷ []) struck.1 (subst (λ z. AreWithin n (n + 1) z) (sym (append_assoc here (l ∷ []) (at_event n texts))) within)
      (λ s. cover-next (stops s) (refuses_fault s) (arms_stop s) (own_stop s) (stop-is s) (λ y. y.stops s) (stop-takes s) n es e before (gs s) len x here text struck.0 (cs s))
      (λ s. cover-next (refuses_fault s) (refuses_fault s) (gives_fault s) (own_fault s) (fault-is s) (λ y. y.faults s) (fault-takes s) n es e before (gf s) len x here text struck.0 (cf s)) may.1)
    where
      l : Line
      l = record { when = AtEvent n; text = text }

      front : (here rest : List Line) (l : Line) → AreWithin n (n + 1) (here ++ l ∷ rest) → AreWithin n (n + 1) (here ++ l ∷ [])
      front [] rest l h = (h.0, tt)
      front (y ∷ here) rest l h = (h.0, front here rest l h.1)

      one : Armed fs (strikes text x) (here ++ (record { when = AtEvent n; text = text }) ∷ []) texts → Armed fs x here (text ∷ texts)
      one rest = record {
        lines = (
          λ k. subst (λ z. is_caused (es ++ e ∷ fs) z (AtEvent n) text ≡ true) (sym (append_assoc before here ((record { when = AtEvent n; text = text }) ∷ []))) (caused-one fs x here text struck.0 cs cf (front here (at_event n texts) (record { when = AtEvent n; text = text }) within) may.0 k),
          subst (λ z. ArmedFrom (es ++ e ∷ fs) z (at_event n texts)) (sym (append_assoc before here ((record { when = AtEvent n; text = text }) ∷ []))) rest.lines,
        );
        stops_then = subst (λ z. Stops (strike_all texts (strikes text x)) z) (append_assoc here ((record { when = AtEvent n; text = text }) ∷ []) (at_event n texts)) rest.stops_then;
        faults_then = subst (λ z. Faults (strike_all texts (strikes text x)) z) (append_assoc here ((record { when = AtEvent n; text = text }) ∷ []) (at_event n texts)) rest.faults_then;
      }
