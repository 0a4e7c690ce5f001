-- What befalls the devices in a step of an event, and what it leaves waiting.
use Rattle.jn_machine_refines.proofs.Common.{◌≡◌, ◌≢◌, ◌⊎◌, inl, inr, ◌≤◌, ◌<◌, ℕ, ◌+◌, Bool, true, false, List, [], ◌∷◌, ◌++◌, Option, Some, None, refl, sym, ◌∙◌, ap, subst, arith, ◌||◌, if◌then◌else◌, is_some, list_all, ServerNo, FaultKind, Outside, server_eq, server_tells, Armed, DeviceState, powered_off, Becomes, PageDecays, FaultArmed, count_kind, is_stop, EventRefusal, TooManyArmed, Text, Event, World, Memory, Waiting, one_more, armed, with_event, strikes, strike_all, AreStruck, Devices, Alone}
use Rattle.jn_base.specs.declared.device.FaultKind.TheVariants as faults
use Rattle.jn_report.specs.declared.line.Text.TheVariants as says
use Rattle.jn_schedule.specs.declared.Event.TheVariants as events
use Rattle.jn_machine_refines.proofs.Strikes.{any, is_harmless, same-server, Strikes, unstruck, none-strike, fault-strikes}
use Rattle.jn_machine_refines.proofs.Standing.{Stands, alone-stands}

-- with an event under which these texts are reported, behind what waited
pub record Befell (n : ℕ) (event : Event) (texts : List Text) (w now : World) (es : Devices) (x : Waiting) : Type 0 where
  pub struck : AreStruck (with_event event texts x) texts
  pub stands : Stands n now es (strike_all texts (with_event event texts x))
  pub number : now.event ≡ w.event

-- under any event that lets nothing wait
pub record JustBefell (n : ℕ) (texts : List Text) (w now : World) (es : Devices) (x : Waiting) : Type 0 where
  pub struck : AreStruck x texts
  pub stands : Stands n now es (strike_all texts x)
  pub number : now.event ≡ w.event

-- ---- no device is used

-- texts that strike nothing, and a server that is up was up
pub record Calm (w now : World) : Type 0 where
  pub texts : List Text
  pub lines : now.lines ≡ w.lines ++ texts
  pub harmless : list_all is_harmless texts ≡ true
  pub up : (q : ServerNo) (memory : Memory) → now.memory q ≡ Some memory → is_some (w.memory q) ≡ true
  pub number : now.event ≡ w.event

some-memory : (o : Option Memory) → is_some o ≡ true → (memory : Memory) × (o ≡ Some memory)
some-memory None h = absurd (cc h)
some-memory (Some memory) h = (memory, refl)

pub same-stands : (n : ℕ) (w now : World) (ds es : Devices) (x : Waiting) → Stands n w ds x → ((q : ServerNo) → es q ≡ ds q) → ((q : ServerNo) (memory : Memory) → now.memory q ≡ Some memory → is_some (w.memory q) ≡ true) → Stands n now es x
same-stands n w now ds es x h same up = record {
  power = λ q memory l e. let was = some-memory (w.memory q) (up q memory e) in ap (λ (d : DeviceState). d.power) (same q) ∙ h.power q was.0 l was.1;
  told = λ q l. ap (λ (d : DeviceState). d.told) (same q) ∙ h.told q l;
  stops = λ q l. subst (λ (d : DeviceState). count_kind is_stop d.waiting ≤ x.stops q) (sym (same q)) (h.stops q l);
  faults = λ q l. subst (λ (d : DeviceState). count_kind any d.waiting ≤ x.faults q) (sym (same q)) (h.faults q l);
}

pub calm-befell : (n : ℕ) (texts : List Text) (w now : World) (ds es : Devices) (x : Waiting) → Stands n w ds x → Calm w now → ((q : ServerNo) → es q ≡ ds q) → list_all is_harmless texts ≡ true → JustBefell n texts w now es x
calm-befell n texts w now ds es x h c same mute = record {
  struck = none-strike texts x mute;
  stands = subst (λ (y : Waiting). Stands n now es y) (sym (unstruck texts x mute)) (same-stands n w now ds es x h same c.up);
  number = c.number;
}

-- ---- power goes

pub crash-befell : (n : ℕ) (q : ServerNo) (w now : World) (ds es : Devices) (x : Waiting) → q.0 < n → Stands n w ds x → Alone q (λ d e. e ≡ powered_off d) ds es
    → now.memory q ≡ None → ((s : ServerNo) → server_eq q s ≡ false → now.memory s ≡ w.memory s) → now.event ≡ w.event → JustBefell n (says.Down q ∷ []) w now es x
crash-befell n q w now ds es x l h alone down same number = record {
  struck = (tt, tt);
  stands = alone-stands n q w now ds es x x h (record { devices = alone.others; memory = same; stops = λ s e. refl; faults = λ s e. refl }) (record {
    power = λ memory up. absurd (clash memory (sym down ∙ up));
    told = ap (λ (d : DeviceState). d.told) alone.its ∙ h.told q l;
    stops = subst (λ (d : DeviceState). count_kind is_stop d.waiting ≤ x.stops q) (sym alone.its) (h.stops q l);
    faults = subst (λ (d : DeviceState). count_kind any d.waiting ≤ x.faults q) (sym alone.its) (h.faults q l);
  });
  number = number;
}
  where
    clash : (memory : Memory) → None ≡ Some memory → ⊥
    clash memory z = cc

-- ---- a page changes, and a fault waits

module _ (n : ℕ) (q : ServerNo) (l : q.0 < n) (w : World) (ds es : Devices) (x : Waiting) (h : Stands n w ds x) (others : (s : ServerNo) → server_eq q s ≡ false → es s ≡ ds s) where
  with-waiting : (y : Waiting) → ((s : ServerNo) → server_eq q s ≡ false → y.stops s ≡ x.stops s) → ((s : ServerNo) → server_eq q s ≡ false → y.faults s ≡ x.faults s)
      → (es q).power ≡ (ds q).power → (es q).told ≡ (ds q).told → count_kind is_stop (es q).waiting ≤ y.stops q → count_kind any (es q).waiting ≤ y.faults q → Stands n w es y
  with-waiting y stops faults power told s f = alone-stands n q w w ds es x y h (record { devices = others; memory = λ s e. refl; stops = stops; faults = faults })
      (record { power = λ memory up. power ∙ h.power q memory l up; told = told ∙ h.told q l; stops = s; faults = f })

  same-waiting : (y : Waiting) → ((s : ServerNo) → y.stops s ≡ x.stops s) → ((s : ServerNo) → y.faults s ≡ x.faults s)
      → (es q).power ≡ (ds q).power → (es q).told ≡ (ds q).told → (es q).waiting ≡ (ds q).waiting → Stands n w es y
  same-waiting y stops faults power told waiting = with-waiting y (λ s e. stops s) (λ s e. faults s) power told
      (moved _ _ _ _ (ap (count_kind is_stop) waiting) (stops q) (h.stops q l)) (moved _ _ _ _ (ap (count_kind any) waiting) (faults q) (h.faults q l))
    where
      moved : (a b c d : ℕ) → a ≡ c → b ≡ d → c ≤ d → a ≤ b
      moved a b c d e f k = omega (arith, e, f, k)

  pub becomes-stands : {pages : _} → Becomes (ds q) pages (ds q).power (es q) → Stands n w es x
  becomes-stands b = same-waiting x (λ s. refl) (λ s. refl) b.power_is b.told b.waiting

  -- a decay that isn't allowed is a fault of its own event
  decay-told : (fault : Outside) → Stands n w es x → Befell n (events.Decay q fault.page) (says.Outside q fault ∷ []) w w es x
  decay-told fault st = record { struck = subst (λ (z : Waiting). AreStruck z (says.Outside q fault ∷ [])) (sym with-one) (some, tt); stands = subst (λ (z : Waiting). Stands n w es (strike_all (says.Outside q fault ∷ []) z)) (sym with-one) less; number = refl }
    where
      y : Waiting
      y = record x { faults = one_more q x.faults }

      with-one : with_event (events.Decay q fault.page) (says.Outside q fault ∷ []) x ≡ y
      with-one = ap (λ (b : Bool). if b then y else x) (own (server_eq q q) (same-server q))
        where
          own : (b : Bool) → b ≡ true → (b || false) ≡ true
          own b e = grind arith

      more-at : one_more q x.faults q ≡ x.faults q + 1
      more-at = ap (λ (b : Bool). if b then x.faults q + 1 else x.faults q) (same-server q)

      some : 1 ≤ y.faults q
      some = least (x.faults q) (y.faults q) more-at
        where
          least : (a b : ℕ) → b ≡ a + 1 → 1 ≤ b
          least a b e = omega (arith, e)

      one : Strikes q 1 0 y (strikes (says.Outside q fault) y)
      one = fault-strikes q fault y some

      less : Stands n w es (strikes (says.Outside q fault) y)
      less = record {
        power = st.power;
        told = st.told;
        stops = st.stops;
        faults = λ s k. subst (λ (c : ℕ). count_kind any (es s).waiting ≤ c) (sym (again s (server_tells q s))) (st.faults s k);
      }
        where
          again : (s : ServerNo) → ((server_eq q s ≡ true) × (q ≡ s)) ⊎ ((server_eq q s ≡ false) × (q ≢ s)) → (strikes (says.Outside q fault) y).faults s ≡ x.faults s
          again s (inl t) = subst (λ (z : ServerNo). (strikes (says.Outside q fault) y).faults z ≡ x.faults z) t.1 (back _ _ _ one.faults_are more-at)
            where
              back : (a b c : ℕ) → a + 1 ≡ b → b ≡ c + 1 → a ≡ c
              back a b c e f = omega (arith, e, f)
          again s (inr t) = one.other_faults s t.0 ∙ ap (λ (b : Bool). if b then x.faults q + 1 else x.faults s) t.0

  pub decay-befell : (p : ℕ) (allows : Bool) → PageDecays (ds q) p allows (es q)
      → Befell n (events.Decay q p) (if allows then [] else says.Outside q (record { kind = faults.Decay p; page = p }) ∷ []) w w es x
  decay-befell p true d = record { struck = tt; stands = becomes-stands d.becomes; number = refl }
  decay-befell p false d = decay-told (record { kind = faults.Decay p; page = p }) (becomes-stands d.becomes)

  count-end : (f : FaultKind → Bool) (ws : List Armed) (one : Armed) → count_kind f (ws ++ one ∷ []) ≡ count_kind f ws + (if f one.kind then 1 else 0)
  count-end f [] one = zero-end (if f one.kind then 1 else 0)
    where
      zero-end : (a : ℕ) → a + 0 ≡ 0 + a
      zero-end a = omega arith
  count-end f (v ∷ ws) one = shift _ _ _ _ (count-end f ws one)
    where
      shift : (a b c d : ℕ) → b ≡ c + d → a + b ≡ a + c + d
      shift a b c d e = omega (arith, e)

  more-off : (f : ServerNo → ℕ) (s : ServerNo) → server_eq q s ≡ false → one_more q f s ≡ f s
  more-off f s e = ap (λ (b : Bool). if b then f q + 1 else f s) e

  more-on : (f : ServerNo → ℕ) → one_more q f q ≡ f q + 1
  more-on f = ap (λ (b : Bool). if b then f q + 1 else f q) (same-server q)

  pub arm-befell : (k : ℕ) (kind : FaultKind) (allows : Bool) → FaultArmed (ds q) k kind allows (es q)
      → Befell n (events.Arm q k kind) (if allows then [] else says.RefusedEvent TooManyArmed ∷ []) w w es x
  arm-befell k kind true a = record { struck = tt; stands = stand; number = refl }
    where
      one : Armed
      one = record { after = k; kind = kind }

      waiting : (es q).waiting ≡ (ds q).waiting ++ one ∷ []
      waiting = ap (λ (d : DeviceState). d.waiting) a.armed

      sum : (a b c d e : ℕ) → a ≡ b + c → b ≤ d → e ≡ d + c → a ≤ e
      sum a b c d e p r t = omega (arith, p, r, t)

      stop-more : (b : Bool) → (if b then one_more q x.stops else x.stops) q ≡ x.stops q + (if b then 1 else 0)
      stop-more true = more-on x.stops
      stop-more false = none (x.stops q)
        where
          none : (m : ℕ) → m ≡ m + 0
          none m = omega arith

      stop-off : (b : Bool) (s : ServerNo) → server_eq q s ≡ false → (if b then one_more q x.stops else x.stops) s ≡ x.stops s
      stop-off true s e = more-off x.stops s e
      stop-off false s e = refl

      stand : Stands n w es (armed q kind x)
      stand = with-waiting (armed q kind x) (λ s e. stop-off (is_stop kind) s e) (λ s e. more-off x.faults s e)
          (ap (λ (d : DeviceState). d.power) a.armed) (ap (λ (d : DeviceState). d.told) a.armed)
          (sum _ _ _ _ _ (ap (count_kind is_stop) waiting ∙ count-end is_stop (ds q).waiting one) (h.stops q l) (stop-more (is_stop kind)))
          (sum _ _ _ _ _ (ap (count_kind any) waiting ∙ count-end any (ds q).waiting one) (h.faults q l) (more-on x.faults))
  arm-befell k kind false a = record { struck = (tt, tt); stands = same-waiting x (λ s. refl) (λ s. refl) (ap (λ (d : DeviceState). d.power) a.armed) (ap (λ (d : DeviceState). d.told) a.armed) (ap (λ (d : DeviceState). d.waiting) a.armed); number = refl }

-- ---- an event that is refused

pub refused-waits : (event : Event) (refusal : EventRefusal) (x : Waiting) → with_event event (says.RefusedEvent refusal ∷ []) x ≡ x
refused-waits (events.Arm q k kind) refusal x = refl
refused-waits (events.Decay q p) refusal x = refl
refused-waits event refusal x = refl
