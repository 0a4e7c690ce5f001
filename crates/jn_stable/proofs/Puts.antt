-- A put of both halves as a step of the store.
use Rattle.std.proofs.Common.{◌≡◌, ◌≢◌, ◌⊎◌, inl, inr, ⊎_elim, ℕ, ◌+◌, ◌/◌, ◌<◌, Bool, true, false, List, Result, Ok, Err, refl, sym, ◌∙◌, ap, subst, arith}
use Rattle.std.proofs.lemmas.Bool.{cases_eq}
use Rattle.std.specs.Prelude.{◌&&◌, not, IsErr, is_ok}
use Rattle.jn_base.specs.declared.device.Stopped.{Stopped}
use Rattle.jn_device.specs.Device.{DeviceState}
use Rattle.jn_device.specs.Later.{Later}
use Rattle.jn_device.proofs.Later.{later_trans, rose_since}
use Rattle.jn_careful.specs.Careful.{CarefulPut}
use Rattle.jn_store.specs.Store.{Candidate, IsCalm, IsSamePage, IsWholePage, StoreLater, StorePut}
use Rattle.jn_store.specs.Pairs.{pairs_view}
use Rattle.jn_stable.specs.Halves.{second_place}

pub both_good : (a b : Bool) → a ≡ true → b ≡ true → (a && b) ≡ true
both_good a b e f = cc (e, f)

pub and_first : (a b : Bool) → (a && b) ≡ true → a ≡ true
and_first true b e = refl
and_first false b e = absurd (cc e)

pub and_second : (a b : Bool) → (a && b) ≡ true → b ≡ true
and_second true b e = e
and_second false b e = absurd (cc e)

not_is : (b : Bool) → not b ≡ true → b ≡ false
not_is true e = absurd (cc e)
not_is false e = refl

not_isn't : (b : Bool) → not b ≡ false → b ≡ true
not_isn't true e = refl
not_isn't false e = absurd (cc e)

module _ (s : DeviceState) (i : ℕ) (page : List ℕ) (m t : DeviceState) (stopped : Bool) (below : i < s.count / 2)
    (f : CarefulPut s i page false m) (g : CarefulPut m (second_place s i) page stopped t) where
  later : Later s t
  later = later_trans s m t f.later g.later

  apart : i ≢ i + s.count / 2
  apart e = omega (arith, e, below)

  first_other : (j : ℕ) → j < s.count / 2 → j ≢ i → (t.pages j).bytes ≡ (s.pages j).bytes
  first_other j lt ne = g.others j (λ e. absurd (omega (arith, e, lt))) ∙ f.others j ne

  second_other : (j : ℕ) → j ≢ i → (t.pages (j + s.count / 2)).bytes ≡ (s.pages (j + s.count / 2)).bytes
  second_other j ne = g.others (j + s.count / 2) (λ e. ne (omega (arith, e))) ∙ f.others (j + s.count / 2) (λ e. absurd (omega (arith, e, below)))

  at_second : (j : ℕ) → (t.pages (j + t.count / 2)).bytes ≡ (t.pages (j + s.count / 2)).bytes
  at_second j = ap (λ n. (t.pages (j + n / 2)).bytes) later.count

  other_same : (j : ℕ) → j < s.count / 2 → j ≢ i → IsSamePage (pairs_view s) (pairs_view t) j
  other_same j lt ne = record { first = first_other j lt ne; second = at_second j ∙ second_other j ne }

  first_put : (t.pages i).bytes ≡ page
  first_put = g.others i apart ∙ (f.done refl).1

  is_whole : IsCalm (pairs_view s) → IsWholePage (pairs_view t) i
  is_whole c =
      let quiet = f.later.quiet c.quiet in
      let on = f.later.power c.quiet c.power in
      let second = g.done (g.calm quiet on) in
      record {
        both = subst (λ n. ((t.pages i).good && (t.pages (i + n / 2)).good) ≡ true) (sym later.count) (both_good _ _ (g.later.good quiet on i (f.done refl).0) second.0);
        clean = first_put ∙ sym second.1 ∙ sym (at_second i);
      }

  other_whole : IsCalm (pairs_view s) → (j : ℕ) → j < s.count / 2 → j ≢ i → IsWholePage (pairs_view s) j → IsWholePage (pairs_view t) j
  other_whole c j lt ne w = let same = other_same j lt ne in record {
    both = subst (λ n. ((t.pages j).good && (t.pages (j + n / 2)).good) ≡ true) (sym later.count)
        (both_good _ _ (later.good c.quiet c.power j (and_first _ _ w.both)) (later.good c.quiet c.power (j + s.count / 2) (and_second _ _ w.both)));
    clean = same.first ∙ w.clean ∙ sym same.second;
  }

  store_later : StoreLater (pairs_view s) (pairs_view t)
  store_later = record {
    happens = λ from h. g.happens from (f.happens from h);
    count = ap (λ n. n / 2) later.count;
    calls = later.calls;
    puts = later.puts;
    stops = later.stops;
    spends = later.spends;
    quiet = later.quiet;
    calm = λ c. record { quiet = later.quiet c.quiet; power = later.power c.quiet c.power };
    no_stop = λ c. later.no_stop c.quiet c.power;
    whole = λ c j lt w. elim (cases_eq j i) [
      | inl e ↦ subst (IsWholePage (pairs_view t)) (sym e) (is_whole c)
      | inr ne ↦ other_whole c j lt ne w
    ];
  }

  part : (x : List ℕ) → Candidate (pairs_view t) i x → (x ≡ page) ⊎ Candidate (pairs_view s) i x
  part x here = ⊎_elim (λ e. inl (e ∙ first_put)) (λ e. ⊎_elim (λ new. inl (e ∙ at_second i ∙ new)) (λ old. inr (inr (e ∙ at_second i ∙ old ∙ f.others (i + s.count / 2) (λ same. absurd (omega (arith, same, below)))))) g.bytes) here

  pub both_put : StorePut (pairs_view s) i page (not stopped) (pairs_view t)
  both_put = record {
    later = store_later;
    calls = omega (arith, f.calls, g.calls);
    done = λ ok. record { first = first_put; second = at_second i ∙ (g.done (not_is stopped ok)).1 };
    part = part;
    others = other_same;
    served = λ ok. let now = g.served (not_is stopped ok) in record { power = now.power; stops = now.stops ∙ (f.served refl).stops };
    stop = λ no. let now = g.stop (not_isn't stopped no) in record { rose = rose_since s.stops m.stops t.stops f.later.stops g.later.stops now.stops; dark = now.power };
    calm = λ c. (ap not (g.calm (f.later.quiet c.quiet) (f.later.power c.quiet c.power)), is_whole c);
  }

pub second_put_err : (s : DeviceState) (i : ℕ) (page : List ℕ) (m t : DeviceState) → i < s.count / 2 → CarefulPut s i page false m → CarefulPut m (second_place s i) page true t
    → (r : Result (Unit {0}) Stopped) → IsErr r → StorePut (pairs_view s) i page (is_ok r) (pairs_view t)
second_put_err s i page m t below f g (Ok v) h = absurd (cc h)
second_put_err s i page m t below f g (Err v) h = both_put s i page m t true below f g
