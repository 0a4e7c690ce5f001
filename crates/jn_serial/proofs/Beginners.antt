-- Whose a transaction is, by the lines of a report: line by line, and by what a client began last.
use Rattle.jn_serial.proofs.Common.{◌≡◌, ◌≢◌, ◌⊎◌, inl, inr, ℕ, Bool, true, false, ◌&&◌, ◌||◌, if◌then◌else◌, List, [], ◌∷◌, ◌++◌, Option, Some, None, refl, sym, ◌∙◌, ap, subst, arith, cases_Bool, true≢false, nat_tests, ClientNo, Tid, client_eq, tid_eq, client_tells, tid_tells, When, AtEvent, Text, Line, is_before, lines_before, says, begun_after, begun_then, last_begun, is_tid, is_in}
use Rattle.jn_serial.proofs.LineByLine.{begins_for, is_its_client, owner_after}
use Rattle.jn_report.specs.declared.line.Text.TheVariants as says
use Rattle.jn_serial.proofs.Orders.{owner_then, says-append}

-- ---- whose a transaction is

-- no two clients have one transaction
abbrev pub HasOneClient : Tid → List Line → Type 0
HasOneClient t lines = (c d : ClientNo) → says (begins_for c t) lines ≡ true → says (begins_for d t) lines ≡ true → c ≡ d

says-later : (test : Text → Bool) (l : Line) (ls : List Line) → says test ls ≡ true → says test (l ∷ ls) ≡ true
says-later test l ls h = grind (arith, h)

pub says-front : (test : Text → Bool) (ls ms : List Line) → says test ls ≡ true → says test (ls ++ ms) ≡ true
says-front test ls ms h = says-append test ls ms ∙ ap (λ (b : Bool). b || says test ms) h

pub one-front : (t : Tid) (ls ms : List Line) → HasOneClient t (ls ++ ms) → HasOneClient t ls
one-front t ls ms one c d h k = one c d (says-front (begins_for c t) ls ms h) (says-front (begins_for d t) ls ms k)

pub not-both : (b : Bool) → b ≡ true → b ≡ false → ⊥
not-both true h k = true≢false k
not-both false h k = true≢false (sym h)

pub self-client : (c : ClientNo) → client_eq c c ≡ true
self-client c = grind (arith, nat_tests)

self-tid : (t : Tid) → tid_eq t t ≡ true
self-tid t = grind (arith, nat_tests)

other-tid : (t u : Tid) → tid_eq t u ≡ false → tid_eq u t ≡ false
other-tid t u h = grind (arith, tid_tells t u, tid_tells u t, h)

-- a client that is in the transaction by the lines so far is the one that has it, and stays so
begun-owner : (t : Tid) (d : ClientNo) (o : Option ClientNo) (b : Option Tid) (ls : List Line)
    → is_its_client o d ≡ is_tid b t
    → (is_tid b t ≡ true → (c : ClientNo) → says (begins_for c t) ls ≡ true → c ≡ d)
    → HasOneClient t ls → is_its_client (owner_then t o ls) d ≡ is_tid (begun_then d b ls) t
begun-owner t d o b [] same alone one = same
begun-owner t d o b (l ∷ ls) same alone one = begun-owner t d (owner_after t o l.text) (begun_after d b l.text) ls (here l.text refl) (still l.text refl) tail
  where
    tail : HasOneClient t ls
    tail c e h k = one c e (says-later (begins_for c t) l ls h) (says-later (begins_for e t) l ls k)

    begins-now : (c : ClientNo) (j : ℕ) (u : Tid) → l.text ≡ says.Begun c j u → tid_eq t u ≡ true → says (begins_for c t) (l ∷ ls) ≡ true
    begins-now c j u is e = ap (λ (x : Text). begins_for c t x || says (begins_for c t) ls) is ∙ ap (λ (p : Bool). (p && tid_eq t u) || says (begins_for c t) ls) (self-client c)
        ∙ ap (λ (p : Bool). p || says (begins_for c t) ls) e

    client-two : (o : Option ClientNo) (c : ClientNo) → client_eq d c ≡ false → is_its_client o c ≡ true → is_its_client o d ≡ false
    client-two None c ne h = refl
    client-two (Some x) c ne h = grind (arith, client_tells x c, client_tells x d, client_tells d c, ne, h)

    here : (x : Text) → l.text ≡ x → is_its_client (owner_after t o x) d ≡ is_tid (begun_after d b x) t
    here (says.Begun c j u) is = by (tid_eq t u) (client_eq d c) refl refl
      where
        by : (p q : Bool) → tid_eq t u ≡ p → client_eq d c ≡ q → is_its_client (if p then Some c else (if is_its_client o c then None else o)) d ≡ is_tid (if q then Some u else b) t
        by true true e f = let a = client_tells d c in let back = tid_tells t u in grind (arith, a, back, e, f, self-tid t, self-client c)
        by true false e f = elim (client_tells d c) [
          | inl h ↦ absurd (not-both (client_eq d c) h.0 f)
          | inr h ↦ grind (arith, other-way c (λ g. h.1 (sym g))) ∙ sym (no-tid (cases_Bool (is_tid b t)))
        ]
          where
            other-way : (c : ClientNo) → c ≢ d → client_eq c d ≡ false
            other-way c ne = elim (client_tells c d) [ inl h ↦ absurd (ne h.1) | inr h ↦ h.0 ]

            no-tid : (is_tid b t ≡ true) ⊎ (is_tid b t ≡ false) → is_tid b t ≡ false
            no-tid (inr h) = h
            no-tid (inl h) = absurd (differs (alone h c (begins-now c j u is e)))
              where
                differs : c ≡ d → ⊥
                differs g = not-both (client_eq d c) (subst (λ (z : ClientNo). client_eq d z ≡ true) (sym g) (self-client d)) f
        by false true e f = same-client (is_its_client o c) refl ∙ sym (other-tid t u e)
          where
            same-client : (p : Bool) → is_its_client o c ≡ p → is_its_client (if p then None else o) d ≡ false
            same-client true h = refl
            same-client false h = elim (client_tells d c) [
              | inl g ↦ subst (λ (z : ClientNo). is_its_client o z ≡ false) (sym g.1) h
              | inr g ↦ absurd (not-both (client_eq d c) f g.0)
            ]
        by false false e f = other (is_its_client o c) refl
          where
            other : (p : Bool) → is_its_client o c ≡ p → is_its_client (if p then None else o) d ≡ is_tid b t
            other true h = sym (client-two o c f h) ∙ same
            other false h = same
    here _ is = same

    still : (x : Text) → l.text ≡ x → is_tid (begun_after d b x) t ≡ true → (c : ClientNo) → says (begins_for c t) ls ≡ true → c ≡ d
    still (says.Begun c j u) is = by (client_eq d c) refl
      where
        by : (q : Bool) → client_eq d c ≡ q → is_tid (if q then Some u else b) t ≡ true → (e : ClientNo) → says (begins_for e t) ls ≡ true → e ≡ d
        by true f h e k = elim (client_tells d c) [
          | inl g ↦ one e c (says-later (begins_for e t) l ls k) (begins-now c j u is (elim (tid_tells u t) [ inl z ↦ subst (λ (v : Tid). tid_eq t v ≡ true) (sym z.1) (self-tid t) | inr z ↦ absurd (not-both (tid_eq u t) h z.0) ])) ∙ sym g.1
          | inr g ↦ absurd (not-both (client_eq d c) f g.0)
        ]
        by false f h e k = alone h e (says-later (begins_for e t) l ls k)
    still _ is = λ h e k. alone h e (says-later (begins_for e t) l ls k)

pub owner-is : (t : Tid) (d : ClientNo) (ls : List Line) → HasOneClient t ls → is_its_client (owner_then t None ls) d ≡ is_tid (last_begun d ls) t
owner-is t d ls one = begun-owner t d None None ls refl (λ h. absurd (true≢false (sym h))) one

-- a client that is in a transaction was told that it began
last-says : (c : ClientNo) (t : Tid) (b : Option Tid) (ls : List Line) → is_tid (begun_then c b ls) t ≡ true → (is_tid b t ≡ true) ⊎ (says (begins_for c t) ls ≡ true)
last-says c t b [] h = inl h
last-says c t b (l ∷ ls) h = by (last-says c t (begun_after c b l.text) ls h)
  where
    first : (x : Text) → is_tid (begun_after c b x) t ≡ true → (is_tid b t ≡ true) ⊎ (begins_for c t x ≡ true)
    first (says.Begun d j u) k = at (client_eq c d) refl k
      where
        at : (p : Bool) → client_eq c d ≡ p → is_tid (if p then Some u else b) t ≡ true → (is_tid b t ≡ true) ⊎ ((client_eq c d && tid_eq t u) ≡ true)
        at true e k = inr (ap (λ (q : Bool). q && tid_eq t u) e ∙ turn)
          where
            turn : tid_eq t u ≡ true
            turn = elim (tid_tells u t) [ inl z ↦ subst (λ (v : Tid). tid_eq t v ≡ true) (sym z.1) (self-tid t) | inr z ↦ absurd (not-both (tid_eq u t) k z.0) ]
        at false e k = inl k
    first _ k = inl k

    by : (is_tid (begun_after c b l.text) t ≡ true) ⊎ (says (begins_for c t) ls ≡ true) → (is_tid b t ≡ true) ⊎ (says (begins_for c t) (l ∷ ls) ≡ true)
    by (inr k) = inr (says-later (begins_for c t) l ls k)
    by (inl k) = at (first l.text k)
      where
        at : (is_tid b t ≡ true) ⊎ (begins_for c t l.text ≡ true) → (is_tid b t ≡ true) ⊎ (says (begins_for c t) (l ∷ ls) ≡ true)
        at (inl z) = inl z
        at (inr z) = inr (ap (λ (p : Bool). p || says (begins_for c t) ls) z)

says-filter : (test : Text → Bool) (w : When) (ls : List Line) → says test (lines_before w ls) ≡ true → says test ls ≡ true
says-filter test w [] h = h
says-filter test w (l ∷ ls) h = by (is_before l.when w) (test l.text) refl h (says-filter test w ls)
  where
    by : (p q : Bool) → test l.text ≡ q → says test (if p then l ∷ lines_before w ls else lines_before w ls) ≡ true → (says test (lines_before w ls) ≡ true → says test ls ≡ true) → says test (l ∷ ls) ≡ true
    by p true e h on = ap (λ (b : Bool). b || says test ls) e
    by true false e h on = ap (λ (b : Bool). b || says test ls) e ∙ on (sym (ap (λ (b : Bool). b || says test (lines_before w ls)) e) ∙ h)
    by false false e h on = ap (λ (b : Bool). b || says test ls) e ∙ on h

pub in-says : (c : ClientNo) (t : Tid) (j : ℕ) (ls : List Line) → is_in c t j ls ≡ true → says (begins_for c t) ls ≡ true
in-says c t j ls h = by (last-says c t None (lines_before (AtEvent j) ls) h)
  where
    by : (is_tid None t ≡ true) ⊎ (says (begins_for c t) (lines_before (AtEvent j) ls) ≡ true) → says (begins_for c t) ls ≡ true
    by (inl k) = absurd (true≢false (sym k))
    by (inr k) = says-filter (begins_for c t) (AtEvent j) ls k
