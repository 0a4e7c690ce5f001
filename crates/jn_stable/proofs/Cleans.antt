-- A cleanup that puts one half as a step of the store.
use Rattle.std.proofs.Common.{◌≡◌, ◌≢◌, ◌⊎◌, inl, inr, ⊎_elim, ℕ, ◌+◌, ◌/◌, ◌<◌, Bool, true, false, List, Option, Some, None, Result, Ok, Err, refl, sym, ◌∙◌, ap, subst, arith, true≢false}
use Rattle.std.proofs.lemmas.Bool.{cases_eq}
use Rattle.std.specs.Prelude.{◌&&◌, IsErr, is_ok, is_err}
use Rattle.jn_base.specs.declared.device.Stopped.{Stopped}
use Rattle.jn_device.specs.Device.{DeviceState}
use Rattle.jn_base.specs.Counts.{Rose}
use Rattle.jn_device.specs.Later.{Later}
use Rattle.jn_device.proofs.Later.{later_trans, rose_since}
use Rattle.jn_phys.specs.Answers.{IsCompared}
use Rattle.jn_phys.specs.declared.Found.{Found}
use Rattle.jn_phys.specs.declared.Found.TheVariants.{Same, Other, LooksBad}
use Rattle.jn_careful.specs.Careful.{CarefulGot, CarefulPut, page_compared}
use Rattle.jn_careful.specs.Tries.{MakesGets, GetsCarefully, PutsCarefully}
use Rattle.jn_store.specs.Store.{Candidate, IsCalm, IsSamePage, IsWholePage, Shrinks, StoreLater, StoreCleaned}
use Rattle.jn_store.specs.Pairs.{pairs_view}
use Rattle.jn_stable.specs.Halves.{second_place, CleansHalves, second_mended, first_mended}
use Rattle.jn_stable.proofs.Puts.{both_good, and_first, and_second}

not_err : {A : Type 0} (r : Result A Stopped) → is_ok r ≡ true → is_err r ≡ false
not_err (Ok v) e = refl
not_err (Err v) e = absurd (cc e)

is_stopped : {A : Type 0} (r : Result A Stopped) → is_ok r ≡ false → is_err r ≡ true
is_stopped (Ok v) e = absurd (cc e)
is_stopped (Err v) e = refl

ok_again : {A : Type 0} (r : Result A Stopped) → is_err r ≡ false → is_ok r ≡ true
ok_again (Ok v) e = refl
ok_again (Err v) e = absurd (cc e)

-- the half at p is put, and the one at q has the page
module _ (s : DeviceState) (i p q : ℕ) (page : List ℕ) (one two : Result (Option (List ℕ)) Stopped) (m u t : DeviceState) (answer : Result Bool Stopped) (below : i < s.count / 2)
    (places : ((p ≡ i) × (q ≡ second_place s i)) ⊎ ((p ≡ second_place s i) × (q ≡ i)))
    (f : CarefulGot s i one m) (g : CarefulGot m (second_place s i) two u) (k : CarefulPut u p page (is_err answer) t)
    (held : (u.pages q).bytes ≡ page) (good : IsCalm (pairs_view s) → (u.pages q).good ≡ true) (needed : IsCalm (pairs_view s) → IsWholePage (pairs_view s) i → ⊥)
    (writes : answer ≢ Ok false) where
  to_u : Later s u
  to_u = later_trans s m u f.later g.later

  later : Later s t
  later = later_trans s u t to_u k.later

  same_bytes : (r : ℕ) → (u.pages r).bytes ≡ (s.pages r).bytes
  same_bytes r = g.bytes r ∙ f.bytes r

  apart : q ≢ p
  apart e = ⊎_elim (λ (h : (p ≡ i) × (q ≡ second_place s i)). omega (arith, e, h.0, h.1, below)) (λ (h : (p ≡ second_place s i) × (q ≡ i)). omega (arith, e, h.0, h.1, below)) places

  by_place : (P : ℕ → Type 0) → P p → P q → P i × P (second_place s i)
  by_place P at_p at_q = ⊎_elim (λ (h : (p ≡ i) × (q ≡ second_place s i)). (subst P h.0 at_p, subst P h.1 at_q)) (λ (h : (p ≡ second_place s i) × (q ≡ i)). (subst P h.1 at_q, subst P h.0 at_p)) places

  at_first : (j : ℕ) → j < s.count / 2 → j ≢ i → j ≢ p
  at_first j lt ne e = ⊎_elim (λ (h : (p ≡ i) × (q ≡ second_place s i)). ne (e ∙ h.0)) (λ (h : (p ≡ second_place s i) × (q ≡ i)). omega (arith, e, h.0, lt)) places

  at_other : (j : ℕ) → j < s.count / 2 → j ≢ i → j + s.count / 2 ≢ p
  at_other j lt ne e = ⊎_elim (λ (h : (p ≡ i) × (q ≡ second_place s i)). omega (arith, e, h.0, below)) (λ (h : (p ≡ second_place s i) × (q ≡ i)). ne (omega (arith, e, h.0))) places

  at_second : (j : ℕ) → (t.pages (j + t.count / 2)).bytes ≡ (t.pages (j + s.count / 2)).bytes
  at_second j = ap (λ n. (t.pages (j + n / 2)).bytes) later.count

  other_same : (j : ℕ) → j < s.count / 2 → j ≢ i → IsSamePage (pairs_view s) (pairs_view t) j
  other_same j lt ne = record {
    first = k.others j (at_first j lt ne) ∙ same_bytes j;
    second = at_second j ∙ k.others (j + s.count / 2) (at_other j lt ne) ∙ same_bytes (j + s.count / 2);
  }

  at_q : (t.pages q).bytes ≡ page
  at_q = k.others q apart ∙ held

  was_q : page ≡ (s.pages q).bytes
  was_q = sym held ∙ same_bytes q

  half_is : (r : ℕ) → (r ≡ i) ⊎ (r ≡ second_place s i) → Candidate (pairs_view s) i (s.pages r).bytes
  half_is r at = ⊎_elim (λ e. inl (ap (λ n. (s.pages n).bytes) e)) (λ e. inr (ap (λ n. (s.pages n).bytes) e)) at

  p_half : (p ≡ i) ⊎ (p ≡ second_place s i)
  p_half = ⊎_elim (λ (h : (p ≡ i) × (q ≡ second_place s i)). inl h.0) (λ (h : (p ≡ second_place s i) × (q ≡ i)). inr h.0) places

  q_half : (q ≡ i) ⊎ (q ≡ second_place s i)
  q_half = ⊎_elim (λ (h : (p ≡ i) × (q ≡ second_place s i)). inr h.1) (λ (h : (p ≡ second_place s i) × (q ≡ i)). inl h.1) places

  page_was : Candidate (pairs_view s) i page
  page_was = subst (Candidate (pairs_view s) i) (sym was_q) (half_is q q_half)

  kept : Shrinks (pairs_view s) (pairs_view t) i
  kept x here =
      let old = ⊎_elim (λ (new : (t.pages p).bytes ≡ page). subst (Candidate (pairs_view s) i) (sym new) page_was) (λ (same : (t.pages p).bytes ≡ (u.pages p).bytes). subst (Candidate (pairs_view s) i) (sym (same ∙ same_bytes p)) (half_is p p_half)) k.bytes in
      let halves = by_place (λ r. Candidate (pairs_view s) i (t.pages r).bytes) old (subst (Candidate (pairs_view s) i) (sym at_q) page_was) in
      ⊎_elim (λ e. subst (Candidate (pairs_view s) i) (sym e) halves.0) (λ e. subst (Candidate (pairs_view s) i) (sym (e ∙ at_second i)) halves.1) here

  clean : is_ok answer ≡ true → (t.pages i).bytes ≡ (t.pages (i + t.count / 2)).bytes
  clean ok = let halves = by_place (λ r. (t.pages r).bytes ≡ page) (k.done (not_err answer ok)).1 at_q in halves.0 ∙ sym halves.1 ∙ sym (at_second i)

  calm_ok : IsCalm (pairs_view s) → is_ok answer ≡ true
  calm_ok c = ok_again answer (k.calm (to_u.quiet c.quiet) (to_u.power c.quiet c.power))

  is_whole : IsCalm (pairs_view s) → IsWholePage (pairs_view t) i
  is_whole c =
      let halves = by_place (λ r. (t.pages r).good ≡ true) (k.done (not_err answer (calm_ok c))).0 (k.later.good (to_u.quiet c.quiet) (to_u.power c.quiet c.power) q (good c)) in
      record { both = subst (λ n. ((t.pages i).good && (t.pages (i + n / 2)).good) ≡ true) (sym later.count) (both_good _ _ halves.0 halves.1); clean = clean (calm_ok c) }

  other_whole : IsCalm (pairs_view s) → (j : ℕ) → j < s.count / 2 → j ≢ i → IsWholePage (pairs_view s) j → IsWholePage (pairs_view t) j
  other_whole c j lt ne w = let same = other_same j lt ne in record {
    both = subst (λ n. ((t.pages j).good && (t.pages (j + n / 2)).good) ≡ true) (sym later.count)
        (both_good _ _ (later.good c.quiet c.power j (and_first _ _ w.both)) (later.good c.quiet c.power (j + s.count / 2) (and_second _ _ w.both)));
    clean = same.first ∙ w.clean ∙ sym same.second;
  }

  store_later : StoreLater (pairs_view s) (pairs_view t)
  store_later = record {
    happens = λ from h. k.happens from (g.happens from (f.happens from h));
    count = ap (λ n. n / 2) later.count;
    calls = later.calls;
    puts = later.puts;
    stops = later.stops;
    spends = later.spends;
    quiet = later.quiet;
    calm = λ c. record { quiet = later.quiet c.quiet; power = later.power c.quiet c.power };
    no_stop = λ c. later.no_stop c.quiet c.power;
    whole = λ c j lt w. elim (cases_eq j i) [
      | inl e ↦ subst (IsWholePage (pairs_view t)) (sym e) (is_whole c)
      | inr ne ↦ other_whole c j lt ne w
    ];
  }

  mended : m.stops ≡ s.stops → u.stops ≡ m.stops → StoreCleaned (pairs_view s) i answer (pairs_view t)
  mended first second = record {
    later = store_later;
    calls = omega (arith, f.calls, g.calls, k.calls);
    kept = kept;
    clean = clean;
    others = other_same;
    wrote = λ ok. subst (λ n. Rose n t.puts) (g.puts ∙ f.puts) (k.wrote (not_err answer (ap is_ok ok)));
    unwritten = λ no. absurd (writes no);
    needless = λ c w. absurd (needed c w);
    served = λ ok. let now = k.served (not_err answer ok) in record { power = now.power; stops = now.stops ∙ second ∙ first };
    stop = λ no. let now = k.stop (is_stopped answer no) in record { rose = rose_since s.stops u.stops t.stops to_u.stops k.later.stops now.stops; dark = now.power };
    calm = λ c. (calm_ok c, is_whole c);
  }

-- the second half is bad, or has other bytes
pub second_mends : (s : DeviceState) (i : ℕ) (page : List ℕ) (found : Option (List ℕ)) (m u t : DeviceState) (answer : Result Bool Stopped) → i < s.count / 2
    → CarefulGot s i (Ok (Some page)) m → CarefulGot m (second_place s i) (Ok found) u → found ≢ Some page → CarefulPut u (second_place s i) page (is_err answer) t → answer ≢ Ok false
    → StoreCleaned (pairs_view s) i answer (pairs_view t)
second_mends s i page found m u t answer below f g other k writes =
    mended s i (second_place s i) i page (Ok (Some page)) (Ok found) m u t answer below (inr (refl, refl)) f g k (g.bytes i ∙ sym (f.good page refl).0)
    (λ c. g.later.good (f.later.quiet c.quiet) (f.later.power c.quiet c.power) i (f.good page refl).1) needed writes (f.served (Some page) refl).stops (g.served found refl).stops
  where
    by : (a : Option (List ℕ)) → found ≡ a → IsCalm (pairs_view s) → IsWholePage (pairs_view s) i → ⊥
    by None e c w =
        let was : (m.pages (second_place s i)).good ≡ true = f.later.good c.quiet c.power (second_place s i) (and_second _ _ w.both) in
        let on : (u.pages (second_place s i)).good ≡ true = g.later.good (f.later.quiet c.quiet) (f.later.power c.quiet c.power) (second_place s i) was in
        let off : (u.pages (second_place s i)).good ≡ false = g.bad (ap (λ (x : Option (List ℕ)). Ok x) e) in
        true≢false (sym on ∙ off)
    by (Some bytes) e c w =
        let is : bytes ≡ (u.pages (second_place s i)).bytes = (g.good bytes (ap (λ (x : Option (List ℕ)). Ok x) e)).0 in
        let page_is : page ≡ (s.pages i).bytes = (f.good page refl).0 ∙ f.bytes i in
        other (e ∙ ap (λ (x : List ℕ). Some x) (is ∙ g.bytes (second_place s i) ∙ f.bytes (second_place s i) ∙ sym w.clean ∙ sym page_is))

    needed : IsCalm (pairs_view s) → IsWholePage (pairs_view s) i → ⊥
    needed c w = by found refl c w

-- the first half is bad
pub first_mends : (s : DeviceState) (i : ℕ) (page : List ℕ) (m u t : DeviceState) (answer : Result Bool Stopped) → i < s.count / 2
    → CarefulGot s i (Ok None) m → CarefulGot m (second_place s i) (Ok (Some page)) u → CarefulPut u i page (is_err answer) t → answer ≢ Ok false
    → StoreCleaned (pairs_view s) i answer (pairs_view t)
first_mends s i page m u t answer below f g k writes =
    mended s i i (second_place s i) page (Ok None) (Ok (Some page)) m u t answer below (inl (refl, refl)) f g k (sym (g.good page refl).0)
    (λ _. (g.good page refl).1)
    (λ c w. let on = f.later.good c.quiet c.power i (and_first _ _ w.both) in let off = f.bad refl in true≢false (sym on ∙ off)) writes (f.served None refl).stops (g.served (Some page) refl).stops

-- ---- the same with the calls that were made

pub record Cleaned (s : DeviceState) (i : ℕ) (answer : Result Bool Stopped) (t : DeviceState) : Type 0 where
  pub cleaned : StoreCleaned (pairs_view s) i answer (pairs_view t)
  pub halves : CleansHalves s i answer t

module _ (s : DeviceState) (i : ℕ) (page : List ℕ) (m u t : DeviceState) (below : i < s.count / 2) where
  module _ (found : Option (List ℕ)) (f : GetsCarefully s i (Ok (Some page)) m) (g : GetsCarefully m (second_place s i) (Ok found) u) (other : found ≢ Some page) where
    pub second_put : PutsCarefully u (second_place s i) page false t → Cleaned s i (Ok true) t
    second_put k = record {
      cleaned = second_mends s i page found m u t (Ok true) below f.got g.got other k.put (λ e. cc e);
      halves = second_mended page found (Ok true) m u t f g other k (λ e. cc e);
    }

    pub second_put_stopped : PutsCarefully u (second_place s i) page true t → (r : Result Bool Stopped) → IsErr r → Cleaned s i r t
    second_put_stopped k (Ok v) h = absurd (cc h)
    second_put_stopped k (Err v) h = record {
      cleaned = second_mends s i page found m u t (Err v) below f.got g.got other k.put (λ e. cc e);
      halves = second_mended page found (Err v) m u t f g other k (λ e. cc e);
    }

  module _ (f : GetsCarefully s i (Ok None) m) (g : GetsCarefully m (second_place s i) (Ok (Some page)) u) where
    pub first_put : PutsCarefully u i page false t → Cleaned s i (Ok true) t
    first_put k = record {
      cleaned = first_mends s i page m u t (Ok true) below f.got g.got k.put (λ e. cc e);
      halves = first_mended page (Ok true) m u t f g k (λ e. cc e);
    }

    pub first_put_stopped : PutsCarefully u i page true t → (r : Result Bool Stopped) → IsErr r → Cleaned s i r t
    first_put_stopped k (Ok v) h = absurd (cc h)
    first_put_stopped k (Err v) h = record {
      cleaned = first_mends s i page m u t (Err v) below f.got g.got k.put (λ e. cc e);
      halves = first_mended page (Err v) m u t f g k (λ e. cc e);
    }

-- a half that is compared
module _ (m : DeviceState) (p : ℕ) (bytes page : List ℕ) (u : DeviceState) where
  some_is : (x y : List ℕ) → Some x ≡ Some y → x ≡ y
  some_is x y e = cc e

  pub compared_other : (found : Found) → (found ≡ Same → ⊥) → IsCompared (Ok found) bytes page → CarefulGot m p (page_compared (Ok found) bytes) u → MakesGets m p (page_compared (Ok found) bytes) u
      → (o : Option (List ℕ)) × GetsCarefully m p (Ok o) u × (o ≢ Some page)
  compared_other Same unlike is got makes = absurd (unlike refl)
  compared_other Other unlike is got makes = (Some bytes, record { got = got; makes = makes }, λ e. is.other refl (some_is bytes page e))
  compared_other LooksBad unlike is got makes = (None, record { got = got; makes = makes }, λ e. cc e)

  pub compared_same : (found : Found) → found ≡ Same → IsCompared (Ok found) bytes page → CarefulGot m p (page_compared (Ok found) bytes) u → MakesGets m p (page_compared (Ok found) bytes) u
      → GetsCarefully m p (Ok (Some page)) u
  compared_same Same like is got makes = subst (λ (x : List ℕ). GetsCarefully m p (Ok (Some x)) u) (is.same refl) (record { got = got; makes = makes })
  compared_same Other like is got makes = absurd (cc like)
  compared_same LooksBad like is got makes = absurd (cc like)
