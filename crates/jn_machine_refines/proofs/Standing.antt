-- What stands at each device between two steps, and how it stands after one with a server's device.
use Rattle.jn_machine_refines.proofs.Common.{◌≡◌, ◌≢◌, ◌⊎◌, inl, inr, ◌≤◌, ◌<◌, ℕ, ◌+◌, Bool, true, false, List, [], ◌∷◌, ◌++◌, Option, Some, None, sym, ◌∙◌, ap, subst, arith, not, if◌then◌else◌, is_some, list_all, ServerNo, server_eq, server_tells, DeviceState, powered_off, count_kind, count_told, is_stop, Text, Pick, World, Memory, Waiting, strike_all, AreStruck, Chance, own_texts, Devices, IsCalled, IsRecovery, stop-had-waited, told-had-waited, Counts, called-later, Left}
use Rattle.jn_report.specs.declared.line.Text.TheVariants as says
use Rattle.jn_machine_refines.proofs.Acts.{grown-own}
use Rattle.jn_machine_refines.proofs.Strikes.{any, is_harmless, told_texts, Strikes, calm-strikes, halt-strikes}
use Rattle.jn_machine_refines.proofs.Turns.{Turns}

-- So many servers: each that is up has power, no fault is reported that isn't in a line yet, and no more stops and faults wait than are counted.
pub record Stands (n : ℕ) (w : World) (ds : Devices) (x : Waiting) : Type 0 where
  pub power : (q : ServerNo) (memory : Memory) → q.0 < n → w.memory q ≡ Some memory → (ds q).power ≡ true
  pub told : (q : ServerNo) → q.0 < n → (ds q).told ≡ []
  pub stops : (q : ServerNo) → q.0 < n → count_kind is_stop (ds q).waiting ≤ x.stops q
  pub faults : (q : ServerNo) → q.0 < n → count_kind any (ds q).waiting ≤ x.faults q

-- ---- one device changes

pub record AtOne (q : ServerNo) (now : World) (e : DeviceState) (y : Waiting) : Type 0 where
  pub power : (memory : Memory) → now.memory q ≡ Some memory → e.power ≡ true
  pub told : e.told ≡ []
  pub stops : count_kind is_stop e.waiting ≤ y.stops q
  pub faults : count_kind any e.waiting ≤ y.faults q

pub record Others (q : ServerNo) (w now : World) (ds es : Devices) (x y : Waiting) : Type 0 where
  pub devices : (s : ServerNo) → server_eq q s ≡ false → es s ≡ ds s
  pub memory : (s : ServerNo) → server_eq q s ≡ false → now.memory s ≡ w.memory s
  pub stops : (s : ServerNo) → server_eq q s ≡ false → y.stops s ≡ x.stops s
  pub faults : (s : ServerNo) → server_eq q s ≡ false → y.faults s ≡ x.faults s

module _ (n : ℕ) (q : ServerNo) (w now : World) (ds es : Devices) (x y : Waiting) where
  pub alone-stands : Stands n w ds x → Others q w now ds es x y → AtOne q now (es q) y → Stands n now es y
  alone-stands h o a = record {
    power = λ s memory l up. power s (server_tells q s) memory l up;
    told = λ s l. told s (server_tells q s) l;
    stops = λ s l. stops s (server_tells q s) l;
    faults = λ s l. faults s (server_tells q s) l;
  }
    where
      power : (s : ServerNo) → ((server_eq q s ≡ true) × (q ≡ s)) ⊎ ((server_eq q s ≡ false) × (q ≢ s)) → (memory : Memory) → s.0 < n → now.memory s ≡ Some memory → (es s).power ≡ true
      power s (inl t) memory l up = subst (λ (z : ServerNo). (memory : Memory) → now.memory z ≡ Some memory → (es z).power ≡ true) t.1 a.power memory up
      power s (inr t) memory l up = ap (λ (d : DeviceState). d.power) (o.devices s t.0) ∙ h.power s memory l (sym (o.memory s t.0) ∙ up)

      told : (s : ServerNo) → ((server_eq q s ≡ true) × (q ≡ s)) ⊎ ((server_eq q s ≡ false) × (q ≢ s)) → s.0 < n → (es s).told ≡ []
      told s (inl t) l = subst (λ (z : ServerNo). (es z).told ≡ []) t.1 a.told
      told s (inr t) l = ap (λ (d : DeviceState). d.told) (o.devices s t.0) ∙ h.told s l

      still : (a b c d : ℕ) → a ≡ c → b ≡ d → c ≤ d → a ≤ b
      still a b c d e f k = omega (arith, e, f, k)

      stops : (s : ServerNo) → ((server_eq q s ≡ true) × (q ≡ s)) ⊎ ((server_eq q s ≡ false) × (q ≢ s)) → s.0 < n → count_kind is_stop (es s).waiting ≤ y.stops s
      stops s (inl t) l = subst (λ (z : ServerNo). count_kind is_stop (es z).waiting ≤ y.stops z) t.1 a.stops
      stops s (inr t) l = still _ _ _ _ (ap (λ (d : DeviceState). count_kind is_stop d.waiting) (o.devices s t.0)) (o.stops s t.0) (h.stops s l)

      faults : (s : ServerNo) → ((server_eq q s ≡ true) × (q ≡ s)) ⊎ ((server_eq q s ≡ false) × (q ≢ s)) → s.0 < n → count_kind any (es s).waiting ≤ y.faults s
      faults s (inl t) l = subst (λ (z : ServerNo). count_kind any (es z).waiting ≤ y.faults z) t.1 a.faults
      faults s (inr t) l = still _ _ _ _ (ap (λ (d : DeviceState). count_kind any d.waiting) (o.devices s t.0)) (o.faults s t.0) (h.faults s l)

-- ---- what a device spends

pub record Spent (h : Chance) (up : Bool) (d e : DeviceState) : Type 0 where
  pub told_fits : count_kind any e.waiting + count_told any h.told ≤ count_kind any d.waiting
  pub stop_fits : is_some h.stop ≡ true → count_kind is_stop e.waiting + 1 ≤ count_kind is_stop d.waiting
  pub used : count_kind is_stop e.waiting ≤ count_kind is_stop d.waiting
  pub forgot : e.told ≡ []
  pub power : up ≡ true → is_some h.stop ≡ false → e.power ≡ true

unstopped : (a b : Bool) → a ≡ not b → a ≡ false → b ≡ true
unstopped a b h k = grind arith

pub call-spends : (most : ℕ) (h : Chance) (up : Bool) (d e : DeviceState) → IsCalled most h d e → d.power ≡ true → d.told ≡ [] → Spent h up d e
call-spends most h up d e c on none = record {
  told_fits = told-had-waited most h d e c none any;
  stop_fits = λ s. stop-had-waited most h d e c on s;
  used = subst (λ (f : DeviceState). count_kind is_stop f.waiting ≤ count_kind is_stop d.waiting) (sym c.after) (let later = called-later most h d e c in later.spends.used is_stop);
  forgot = ap (λ (f : DeviceState). f.told) c.after;
  power = λ u s. ap (λ (f : DeviceState). f.power) c.after ∙ unstopped (is_some h.stop) c.last.power c.stop s;
}

pub recovery-spends : {s : ServerNo} (g : Counts) (h : Chance) (up : Bool) (d e : DeviceState) → IsRecovery s g h up d e → d.told ≡ [] → Spent h up d e
recovery-spends g h up d e r none = let s = call-spends _ h up r.powered r.last r.called r.power.power_is (r.power.told ∙ none) in by up s r.after
  where
    moved : (u : Bool) (f : DeviceState) → Spent h u r.powered f → f ≡ e → Spent h u d e
    moved u f s k = subst (λ (z : DeviceState). Spent h u d z) k (record {
      told_fits = subst (λ waiting. count_kind any f.waiting + count_told any h.told ≤ count_kind any waiting) r.power.waiting s.told_fits;
      stop_fits = λ stopped. subst (λ waiting. count_kind is_stop f.waiting + 1 ≤ count_kind is_stop waiting) r.power.waiting (s.stop_fits stopped);
      used = subst (λ waiting. count_kind is_stop f.waiting ≤ count_kind is_stop waiting) r.power.waiting s.used;
      forgot = s.forgot;
      power = s.power;
    })

    by : (u : Bool) → Spent h u r.powered r.last → e ≡ (if u then r.last else powered_off r.last) → Spent h u d e
    by true s k = moved true r.last s (sym k)
    by false s k = moved false (powered_off r.last) (record { told_fits = s.told_fits; stop_fits = s.stop_fits; used = s.used; forgot = s.forgot; power = λ u stopped. absurd (cc u) }) (sym k)

-- ---- a step with a device

module _ (n : ℕ) (q : ServerNo) (l : q.0 < n) (h : Chance) (w now : World) (ds es : Devices) (x : Waiting) (st : Stands n w ds x)
    (others : (s : ServerNo) → server_eq q s ≡ false → es s ≡ ds s) (sp : Spent h (is_some (now.memory q)) (ds q) (es q)) (texts : List Text) (mute : list_all is_harmless texts ≡ true) where
  abbrev its : List Text
  its = told_texts q h.told ++ own_texts w now ++ texts

  enough : count_told any h.told ≤ x.faults q
  enough = less _ _ _ _ sp.told_fits (st.faults q l)
    where
      less : (a b c d : ℕ) → a + b ≤ c → c ≤ d → b ≤ d
      less a b c d p r = omega (arith, p, r)

  after-strikes : (stops : ℕ) (y : Waiting) → Strikes q (count_told any h.told) stops x y → ((memory : Memory) → now.memory q ≡ Some memory → (es q).power ≡ true)
      → count_kind is_stop (es q).waiting + stops ≤ count_kind is_stop (ds q).waiting → ((s : ServerNo) → server_eq q s ≡ false → now.memory s ≡ w.memory s) → Stands n now es y
  after-strikes stops y k on fewer same = alone-stands n q w now ds es x y st
      (record { devices = others; memory = same; stops = k.other_stops; faults = k.other_faults })
      (record { power = on; told = sp.forgot; stops = left _ _ _ _ _ fewer (st.stops q l) k.stops_are; faults = left _ _ _ _ _ sp.told_fits (st.faults q l) k.faults_are })
    where
      left : (a b c d e : ℕ) → a + b ≤ c → c ≤ d → e + b ≡ d → a ≤ e
      left a b c d e p r t = omega (arith, p, r, t)

  pub turned-stands : (stop : Option (Pick → Left)) → h.stop ≡ stop → Turns q w now stop → AreStruck x its × Stands n now es (strike_all its x)
  turned-stands None e t = let own = grown-own w now t.texts t.lines in let k = calm-strikes q h.told (own_texts w now) texts x enough (subst (λ (ls : List Text). list_all is_harmless ls ≡ true) (sym own) t.harmless) mute in
      (k.0, after-strikes 0 _ k.1 (λ memory up. sp.power (ap is_some up) (ap is_some e)) (plus-none _ _ sp.used) t.others)
    where
      plus-none : (a b : ℕ) → a ≤ b → a + 0 ≤ b
      plus-none a b p = omega (arith, p)
  turned-stands (Some made) e t = let own = grown-own w now (says.Stopped q ∷ []) t.lines in let stopped = ap is_some e in
      let k = halt-strikes q h.told texts x enough (one _ _ _ (sp.stop_fits stopped) (st.stops q l)) mute in
      subst (λ (ls : List Text). AreStruck x (told_texts q h.told ++ ls ++ texts) × Stands n now es (strike_all (told_texts q h.told ++ ls ++ texts) x)) (sym own)
      (k.0, after-strikes 1 _ k.1 (λ memory up. absurd (clash memory (sym t.down ∙ up))) (sp.stop_fits stopped) t.others)
    where
      one : (a b c : ℕ) → a + 1 ≤ b → b ≤ c → 1 ≤ c
      one a b c p r = omega (arith, p, r)

      clash : (memory : Memory) → None ≡ Some memory → ⊥
      clash memory z = cc
