-- What is wanted: units with their modes, in order of units, and where a phase collides with it.
use Rattle.jn_lock_rows.proofs.Common.{◌≡◌, ◌⊎◌, inl, inr, Bool, true, false, List, [], ◌∷◌, ◌++◌, Some, None, refl, sym, ◌∙◌, ap, subst, arith, fun_ext, ◌&&◌, ◌||◌, not, if◌then◌else◌, LockUnit, Mode, Read, IntentionWrite, Commit, Want, together, mode_eq, some_mode, unit_eq, unit_before, is_unit, wanted_by, unit_tells, unit_before-irreflexive, unit_before-transitive, unit_same, unit_is, Phase, Wanted, has_mode, holds, collides_at, collision, wants_at, want_list, units_rise, is_unit_before, Wants}
use Rattle.jn_lock_rows.proofs.Works.{not_both}

-- whether a unit is wanted in a mode
abbrev pub wants_in : List Wanted → Wants
wants_in [] u m = false
wants_in (want ∷ wants) u m = (unit_eq want.unit u && has_mode m want.modes) || wants_in wants u m

abbrev pub units_in : List Wanted → List LockUnit
units_in [] = []
units_in (want ∷ wants) = want.unit ∷ units_in wants

-- ---- the wants as a list

mode-sym : (m n : Mode) → mode_eq m n ≡ mode_eq n m
mode-sym Read Read = refl
mode-sym Read IntentionWrite = refl
mode-sym Read Commit = refl
mode-sym IntentionWrite Read = refl
mode-sym IntentionWrite IntentionWrite = refl
mode-sym IntentionWrite Commit = refl
mode-sym Commit Read = refl
mode-sym Commit IntentionWrite = refl
mode-sym Commit Commit = refl

wanted-append : (xs ys : List Want) (u : LockUnit) (m : Mode) → wanted_by (xs ++ ys) u m ≡ (wanted_by xs u m || wanted_by ys u m)
wanted-append [] ys u m = refl
wanted-append (x ∷ xs) ys u m = grind (arith, wanted-append xs ys u m)

wanted-at : (v : LockUnit) (ms : List Mode) (u : LockUnit) (m : Mode) → wanted_by (wants_at v ms) u m ≡ (unit_eq v u && has_mode m ms)
wanted-at v [] u m = grind arith
wanted-at v (n ∷ ns) u m = grind (arith, wanted-at v ns u m, mode-sym n m)

pub wanted-list : (wants : List Wanted) (u : LockUnit) (m : Mode) → wanted_by (want_list wants) u m ≡ wants_in wants u m
wanted-list [] u m = refl
wanted-list (want ∷ wants) u m = wanted-append (wants_at want.unit want.modes) (want_list wants) u m ∙ grind (arith, wanted-at want.unit want.modes u m, wanted-list wants u m)

pub wanted-same : (wants : List Wanted) → wanted_by (want_list wants) ≡ wants_in wants
wanted-same wants = fun_ext (λ u. fun_ext (λ m. wanted-list wants u m))

-- ---- units in order

pub unit-not-before : (u v : LockUnit) → unit_before u v ≡ true → unit_eq u v ≡ false
unit-not-before u v h = elim (unit_tells u v) [ inl p ↦ not_both (sym h ∙ subst (λ (x : LockUnit). unit_before u x ≡ false) p.1 (unit_before-irreflexive u)) | inr p ↦ p.0 ]

pub unit-asymmetric : (u v : LockUnit) → unit_before u v ≡ true → unit_before v u ≡ false
unit-asymmetric u v h = by (unit_before v u) refl
  where
    by : (b : Bool) → unit_before v u ≡ b → unit_before v u ≡ false
    by true e = not_both (sym (unit_before-transitive u v u h e) ∙ unit_before-irreflexive u)
    by false e = e

-- one that is before them all is not among them
pub apart-behind : (u v : LockUnit) (us : List LockUnit) → is_unit_before u us ≡ true → is_unit us v ≡ true → unit_before u v ≡ true
apart-behind u v [] h k = not_both (sym k)
apart-behind u v (x ∷ xs) h k = grind (arith, apart-behind u v xs, unit_is x v)

pub wants-unit : (wants : List Wanted) (u : LockUnit) (m : Mode) → wants_in wants u m ≡ true → is_unit (units_in wants) u ≡ true
wants-unit [] u m h = h
wants-unit (want ∷ wants) u m h = grind (arith, wants-unit wants u m)

wants-behind : (v : LockUnit) (wants : List Wanted) (m : Mode) → is_unit_before v (units_in wants) ≡ true → wants_in wants v m ≡ false
wants-behind v [] m h = refl
wants-behind v (want ∷ wants) m h = grind (arith, wants-behind v wants m, unit-not-before v want.unit, unit_tells v want.unit, unit_tells want.unit v)

-- the first unit is wanted as it is said first, and the others as later
pub wants-first : (want : Wanted) (wants : List Wanted) → is_unit_before want.unit (units_in wants) ≡ true → wants_in (want ∷ wants) want.unit ≡ (λ m. has_mode m want.modes)
wants-first want wants h = fun_ext (λ m. let e = unit_same want.unit in let later = wants-behind want.unit wants m h in grind arith)

pub wants-later : (want : Wanted) (wants : List Wanted) (u : LockUnit) → unit_eq want.unit u ≡ false → wants_in (want ∷ wants) u ≡ wants_in wants u
wants-later want wants u e = fun_ext (λ m. ap (λ b. (b && has_mode m want.modes) || wants_in wants u m) e)

-- ---- collisions

-- a mode that is wanted doesn't go with one that is held
abbrev pub clash : (Mode → Bool) → (Mode → Bool) → Bool
clash wish held = some_mode (λ m. some_mode (λ n. wish m && (held n && not (together m n))))

pull : (b : Bool) (p : Mode → Bool) → some_mode (λ n. b && p n) ≡ (b && some_mode p)
pull true p = refl
pull false p = refl

pub collides-clash : (phase : Phase) (want : Wanted) → clash (λ m. has_mode m want.modes) (holds phase want.unit) ≡ collides_at phase want
collides-clash phase want = ap some_mode (fun_ext (λ m. pull (has_mode m want.modes) (λ n. holds phase want.unit n && not (together m n))))

pub clash-none : (wish held : Mode → Bool) → wish ≡ (λ m. false) → clash wish held ≡ false
clash-none wish held e = ap (λ w. clash w held) e

pub clash-free : (wish held : Mode → Bool) → held ≡ (λ n. false) → clash wish held ≡ false
clash-free wish held e = ap (λ h. clash wish h) e ∙ by (wish Read) (wish IntentionWrite) (wish Commit)
  where
    by : (a b c : Bool) → ((a && false) || ((a && false) || (a && false))) || (((b && false) || ((b && false) || (b && false))) || ((c && false) || ((c && false) || (c && false)))) ≡ false
    by a b c = grind arith

-- something is wanted at a unit where there is a clash
pub clash-wants : (wants : List Wanted) (u : LockUnit) (held : Mode → Bool) → clash (wants_in wants u) held ≡ true → is_unit (units_in wants) u ≡ true
clash-wants wants u held h = by (wants_in wants u Read) (wants_in wants u IntentionWrite) (wants_in wants u Commit) refl refl refl
  where
    by : (a b c : Bool) → wants_in wants u Read ≡ a → wants_in wants u IntentionWrite ≡ b → wants_in wants u Commit ≡ c → is_unit (units_in wants) u ≡ true
    by true b c e f g = wants-unit wants u Read e
    by false true c e f g = wants-unit wants u IntentionWrite f
    by false false true e f g = wants-unit wants u Commit g
    by false false false e f g = not_both (sym h ∙ clash-none (wants_in wants u) held (fun_ext none))
      where
        none : (m : Mode) → wants_in wants u m ≡ false
        none Read = e
        none IntentionWrite = f
        none Commit = g

-- where a phase collides with the first want, and with the others
pub clash-first : (phase : Phase) (want : Wanted) (wants : List Wanted) → is_unit_before want.unit (units_in wants) ≡ true
    → clash (wants_in (want ∷ wants) want.unit) (holds phase want.unit) ≡ collides_at phase want
clash-first phase want wants h = ap (λ w. clash w (holds phase want.unit)) (wants-first want wants h) ∙ collides-clash phase want

-- ---- the first unit at which a phase collides

pub record IsFirst (phase : Phase) (wants : List Wanted) (at : LockUnit) : Type 0 where
  pub stands : clash (wants_in wants at) (holds phase at) ≡ true
  pub first : (u : LockUnit) → clash (wants_in wants u) (holds phase u) ≡ true → unit_before u at ≡ false

unless : (b : Bool) → (b ≡ true → ⊥) → b ≡ false
unless true k = absurd (k refl)
unless false k = refl

-- a clash is at the first want's unit or is one of the others'
pub clash-split : (want : Wanted) (wants : List Wanted) (u : LockUnit) (held : Mode → Bool) → clash (wants_in (want ∷ wants) u) held ≡ true → (want.unit ≡ u) ⊎ (clash (wants_in wants u) held ≡ true)
clash-split want wants u held h = elim (unit_tells want.unit u) [ inl p ↦ inl p.1 | inr p ↦ inr (subst (λ w. clash w held ≡ true) (wants-later want wants u p.0) h) ]

-- a clash with the others is one with all
pub clash-more : (want : Wanted) (wants : List Wanted) (u : LockUnit) (held : Mode → Bool) → is_unit_before want.unit (units_in wants) ≡ true → clash (wants_in wants u) held ≡ true → clash (wants_in (want ∷ wants) u) held ≡ true
clash-more want wants u held rising h = subst (λ w. clash w held ≡ true) (sym (wants-later want wants u (unit-not-before want.unit u (apart-behind want.unit u (units_in wants) rising (clash-wants wants u held h))))) h

pub no_collision : (phase : Phase) (wants : List Wanted) → units_rise (units_in wants) ≡ true → collision phase wants ≡ None → (u : LockUnit) → clash (wants_in wants u) (holds phase u) ≡ false
no_collision phase [] rise h u = clash-none (wants_in [] u) (holds phase u) refl
no_collision phase (want ∷ wants) rise h u = by (collides_at phase want) refl h (no_collision phase wants (grind (arith, rise)))
  where
    by : (b : Bool) → collides_at phase want ≡ b → (if b then Some want.unit else collision phase wants) ≡ None → (collision phase wants ≡ None → (u : LockUnit) → clash (wants_in wants u) (holds phase u) ≡ false) → clash (wants_in (want ∷ wants) u) (holds phase u) ≡ false
    by true e k rest = absurd (cc k)
    by false e k rest = unless (clash (wants_in (want ∷ wants) u) (holds phase u)) (λ c.
        elim (clash-split want wants u (holds phase u) c) [
          | inl p ↦ not_both (sym (subst (λ (x : LockUnit). clash (wants_in (want ∷ wants) x) (holds phase x) ≡ true) (sym p) c) ∙ clash-first phase want wants (grind (arith, rise)) ∙ e)
          | inr p ↦ not_both (sym p ∙ rest k u)
        ])

pub collision-first : (phase : Phase) (wants : List Wanted) (at : LockUnit) → units_rise (units_in wants) ≡ true → collision phase wants ≡ Some at → IsFirst phase wants at
collision-first phase [] at rise h = absurd (cc h)
collision-first phase (want ∷ wants) at rise h = by (collides_at phase want) refl h (collision-first phase wants at (grind (arith, rise)))
  where
    rising : is_unit_before want.unit (units_in wants) ≡ true
    rising = grind (arith, rise)

    here : collides_at phase want ≡ true → IsFirst phase (want ∷ wants) want.unit
    here e = record {
      stands = clash-first phase want wants rising ∙ e;
      first = λ u c. elim (clash-split want wants u (holds phase u) c) [
        | inl p ↦ subst (λ (x : LockUnit). unit_before x want.unit ≡ false) p (unit_before-irreflexive want.unit)
        | inr p ↦ unit-asymmetric want.unit u (apart-behind want.unit u (units_in wants) rising (clash-wants wants u (holds phase u) p))
      ];
    }

    by : (b : Bool) → collides_at phase want ≡ b → (if b then Some want.unit else collision phase wants) ≡ Some at → (collision phase wants ≡ Some at → IsFirst phase wants at) → IsFirst phase (want ∷ wants) at
    by true e k rest = let q : want.unit ≡ at = cc k in subst (λ (x : LockUnit). IsFirst phase (want ∷ wants) x) q (here e)
    by false e k rest = let r = rest k in record {
      stands = clash-more want wants at (holds phase at) rising r.stands;
      first = λ u c. elim (clash-split want wants u (holds phase u) c) [
        | inl p ↦ not_both (sym (subst (λ (x : LockUnit). clash (wants_in (want ∷ wants) x) (holds phase x) ≡ true) (sym p) c) ∙ clash-first phase want wants rising ∙ e)
        | inr p ↦ r.first u p
      ];
    }
