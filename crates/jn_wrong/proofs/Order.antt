-- What waits and what is reported, while a device is called.
use Rattle.jn_wrong.proofs.Common.{◌≡◌, ℕ, ◌-◌, ◌<◌, ◌/◌, Bool, true, false, List, [], ◌∷◌, ◌++◌, Option, Some, None, refl, sym, ◌∙◌, ap, subst, append-nil, ◌||◌, ◌&&◌, not, nat_lt, if◌then◌else◌, FaultKind, Null, Bad, Outside, Armed, DeviceState, due, waiting_on, strike, CallStep, told_of, struck_page, got_outside, put_outside, get_stops, get_outcome, get_is_done, put_stops, put_outcome, put_is_done, Happens}
use Rattle.jn_wrong.proofs.Calls.{carried}

-- ---- whatever holds of the faults that wait

abbrev pub AllWait : (FaultKind → Type 0) → List Armed → Type 0
AllWait P [] = Unit {0}
AllWait P (w ∷ ws) = P w.kind × AllWait P ws

abbrev pub AllTold : (Outside → Type 0) → List Outside → Type 0
AllTold Q [] = Unit {0}
AllTold Q (o ∷ os) = Q o × AllTold Q os

module _ (P : FaultKind → Type 0) where
  due-holds : (ws : List Armed) → AllWait P ws → (k : FaultKind) → due ws ≡ Some k → P k
  due-holds [] h k e = absurd (clash e)
    where
      clash : None ≡ Some k → ⊥
      clash z = cc
  due-holds (w ∷ ws) h k e = by (nat_lt w.after 2) e (due-holds ws h.1 k)
    where
      some : {a b : FaultKind} → Some a ≡ Some b → a ≡ b
      some z = cc

      by : (b : Bool) → (if b then Some w.kind else due ws) ≡ Some k → (due ws ≡ Some k → P k) → P k
      by true z later = subst P (some z) h.0
      by false z later = later z

  on-holds : (ws : List Armed) → AllWait P ws → AllWait P (waiting_on ws)
  on-holds [] h = tt
  on-holds (w ∷ ws) h = by (nat_lt w.after 2) (on-holds ws h.1)
    where
      by : (b : Bool) → AllWait P (waiting_on ws) → AllWait P (if b then waiting_on ws else (record { after = w.after - 1; kind = w.kind }) ∷ waiting_on ws)
      by true later = later
      by false later = (h.0, later)

  module _ (Q : Outside → Type 0) where
    told-both : (a b : List Outside) → AllTold Q a → AllTold Q b → AllTold Q (a ++ b)
    told-both [] b h k = k
    told-both (o ∷ a) b h k = (h.0, told-both a b h.1 k)

    told-holds : (g : FaultKind → Bool) (p : ℕ) (o : Option FaultKind) → ((k : FaultKind) → o ≡ Some k → P k) → ((k : FaultKind) → P k → Q (record { kind = k; page = struck_page p k })) → AllTold Q (told_of g p o)
    told-holds g p None h q = tt
    told-holds g p (Some k) h q = by (g k)
      where
        by : (b : Bool) → AllTold Q (if b then (record { kind = k; page = struck_page p k }) ∷ [] else [])
        by true = (q k (h k refl), tt)
        by false = tt

    -- the device has so many pages, and this holds of what waits and of what is reported
    pub record Holds (n : ℕ) (d : DeviceState) : Type 0 where
      pub count : d.count ≡ n
      pub waits : AllWait P d.waiting
      pub told : AllTold Q d.told

    module _ (n : ℕ) (tells : (p : ℕ) → p < n → (k : FaultKind) → P k → Q (record { kind = k; page = struck_page p k })) where
      call-holds : (s t : DeviceState) (p : ℕ) (stops is_done : Bool) (g : FaultKind → Bool) → p < s.count → CallStep s stops is_done (told_of g p (strike s)) t → Holds n s → Holds n t
      call-holds s t p stops is_done g below c h = record {
        count = c.count ∙ h.count;
        waits = subst (AllWait P) (sym c.waiting) (by s.power);
        told = subst (AllTold Q) (sym c.told_is) (told-both s.told (told_of g p (strike s)) h.told (told-holds g p (strike s) (struck s.power) (tells p (subst (λ (m : ℕ). p < m) h.count below))));
      }
        where
          by : (b : Bool) → AllWait P (if b then waiting_on s.waiting else s.waiting)
          by true = on-holds s.waiting h.waits
          by false = h.waits

          struck : (b : Bool) (k : FaultKind) → (if b then due s.waiting else None) ≡ Some k → P k
          struck true k e = due-holds s.waiting h.waits k e
          struck false k e = absurd (clash e)
            where
              clash : None ≡ Some k → ⊥
              clash z = cc

      pub calls-hold : (s t : DeviceState) → Happens s t → Holds n s → Holds n t
      calls-hold = carried (Holds n)
          (λ s t p answer below step. call-holds s t p (get_stops (get_outcome s p)) (get_is_done (get_outcome s p)) (got_outside (s.count / 2) s.pages p) below step.call)
          (λ s t p new stopped below step. call-holds s t p (put_stops (put_outcome s p)) (put_is_done (put_outcome s p)) (put_outside (s.count / 2) s.pages p) below step.call)

-- ---- the order in which faults are reported

abbrev is_null : FaultKind → Bool
is_null Null = true
is_null kind = false

abbrev is_bad : FaultKind → Bool
is_bad Bad = true
is_bad kind = false

-- a missed put stands behind a spoilt one
abbrev pub are_swapped : Bool → List Outside → Bool
are_swapped seen [] = false
are_swapped seen (o ∷ os) = (seen && is_null o.kind) || are_swapped (seen || is_bad o.kind) os

-- no spoilt one is reported
abbrev none_bad : List Outside → Bool
none_bad [] = true
none_bad (o ∷ os) = not (is_bad o.kind) && none_bad os

data Orders (d : DeviceState) : Type 0 where
  both_wait : d.waiting ≡ (record { after = 1; kind = Null }) ∷ (record { after = 2; kind = Bad }) ∷ [] → d.told ≡ [] → Orders d
  one_waits : d.waiting ≡ (record { after = 1; kind = Bad }) ∷ [] → none_bad d.told ≡ true → Orders d
  none_waits : d.waiting ≡ [] → are_swapped false d.told ≡ false → Orders d

none-swapped : (told : List Outside) → none_bad told ≡ true → are_swapped false told ≡ false
none-swapped [] h = refl
none-swapped (t ∷ told) h = by (is_bad t.kind) h (none-swapped told)
  where
    by : (b : Bool) → (not b && none_bad told) ≡ true → (none_bad told ≡ true → are_swapped false told ≡ false) → are_swapped b told ≡ false
    by true h later = absurd (clash h)
      where
        clash : false ≡ true → ⊥
        clash z = cc
    by false h later = later h

null-behind : (told : List Outside) (o : Outside) → none_bad told ≡ true → o.kind ≡ Bad → are_swapped false (told ++ o ∷ []) ≡ false
null-behind [] o h b = ap (λ (k : FaultKind). (false && is_null k) || false) b
null-behind (t ∷ told) o h b = by (is_bad t.kind) h (λ z. null-behind told o z b)
  where
    by : (c : Bool) → (not c && none_bad told) ≡ true → (none_bad told ≡ true → are_swapped false (told ++ o ∷ []) ≡ false) → are_swapped c (told ++ o ∷ []) ≡ false
    by true h later = absurd (clash h)
      where
        clash : false ≡ true → ⊥
        clash z = cc
    by false h later = later h

call-orders : (s t : DeviceState) (p : ℕ) (stops is_done : Bool) (g : FaultKind → Bool) → CallStep s stops is_done (told_of g p (strike s)) t → Orders s → Orders t
call-orders s t p stops is_done g c (both_wait w untold) = by s.power c.waiting c.told_is
  where
    by : (b : Bool) → t.waiting ≡ (if b then waiting_on s.waiting else s.waiting) → t.told ≡ s.told ++ told_of g p (if b then due s.waiting else None) → Orders t
    by false e f = both_wait (e ∙ w) (f ∙ append-nil s.told ∙ untold)
    by true e f = one_waits (e ∙ ap waiting_on w) (ap none_bad (f ∙ ap (λ (ws : List Armed). s.told ++ told_of g p (due ws)) w ∙ ap (λ (os : List Outside). os ++ told_of g p (Some Null)) untold) ∙ either (g Null))
      where
        either : (b : Bool) → none_bad (if b then (record { kind = Null; page = p }) ∷ [] else []) ≡ true
        either true = refl
        either false = refl
call-orders s t p stops is_done g c (one_waits w quiet) = by s.power c.waiting c.told_is
  where
    by : (b : Bool) → t.waiting ≡ (if b then waiting_on s.waiting else s.waiting) → t.told ≡ s.told ++ told_of g p (if b then due s.waiting else None) → Orders t
    by false e f = one_waits (e ∙ w) (ap none_bad (f ∙ append-nil s.told) ∙ quiet)
    by true e f = none_waits (e ∙ ap waiting_on w) (ap (are_swapped false) (f ∙ ap (λ (ws : List Armed). s.told ++ told_of g p (due ws)) w) ∙ either (g Bad))
      where
        either : (b : Bool) → are_swapped false (s.told ++ (if b then (record { kind = Bad; page = p }) ∷ [] else [])) ≡ false
        either true = null-behind s.told (record { kind = Bad; page = p }) quiet refl
        either false = ap (are_swapped false) (append-nil s.told) ∙ none-swapped s.told quiet
call-orders s t p stops is_done g c (none_waits w right) = by s.power c.waiting c.told_is
  where
    by : (b : Bool) → t.waiting ≡ (if b then waiting_on s.waiting else s.waiting) → t.told ≡ s.told ++ told_of g p (if b then due s.waiting else None) → Orders t
    by false e f = none_waits (e ∙ w) (ap (are_swapped false) (f ∙ append-nil s.told) ∙ right)
    by true e f = none_waits (e ∙ ap waiting_on w) (ap (are_swapped false) (f ∙ ap (λ (ws : List Armed). s.told ++ told_of g p (due ws)) w ∙ append-nil s.told) ∙ right)

-- a missed put that waits for the first call is reported before a spoilt one that waits for the second
pub told-in-order : (s t : DeviceState) → Happens s t → s.waiting ≡ (record { after = 1; kind = Null }) ∷ (record { after = 2; kind = Bad }) ∷ [] → s.told ≡ [] → are_swapped false t.told ≡ false
told-in-order s t happens waits untold = by (carried Orders
    (λ s t p answer below step. call-orders s t p (get_stops (get_outcome s p)) (get_is_done (get_outcome s p)) (got_outside (s.count / 2) s.pages p) step.call)
    (λ s t p new stopped below step. call-orders s t p (put_stops (put_outcome s p)) (put_is_done (put_outcome s p)) (put_outside (s.count / 2) s.pages p) step.call) s t happens (both_wait waits untold))
  where
    by : Orders t → are_swapped false t.told ≡ false
    by (both_wait w e) = ap (are_swapped false) e
    by (one_waits w quiet) = none-swapped t.told quiet
    by (none_waits w right) = right
