-- What the careful gets and puts of the two halves of a page come to.
use Rattle.std.proofs.Common.{◌≡◌, inl, inr, ℕ, ◌+◌, ◌/◌, ◌≤◌, Bool, true, false, List, [], Option, Some, None, Result, Ok, Err, refl, sym, ◌∙◌, ap, subst, arith}
use Rattle.std.specs.Prelude.{◌&&◌, IsErr, is_err}
use Rattle.jn_base.specs.declared.device.Stopped.{Stopped}
use Rattle.jn_device.specs.Device.{DeviceState}
use Rattle.jn_device.specs.Happens.{Happens}
use Rattle.jn_device.specs.Later.{Later}
use Rattle.jn_device.proofs.Later.{later_trans}
use Rattle.jn_careful.specs.Careful.{CarefulGot, CarefulPut}
use Rattle.jn_careful.specs.Tries.{MakesGets, MakesPuts, GetsCarefully, PutsCarefully}
use Rattle.jn_store.specs.Store.{Candidate, IsSamePage, StoreLater, StoreGot}
use Rattle.jn_store.specs.Pairs.{pairs_view}
use Rattle.jn_stable.specs.Halves.{second_place, GetsHalves, get_stopped, second_get_stopped, PutsHalves, put_both, put_stopped, CleansHalves, cleanup_stopped, second_cleanup_stopped}

-- ---- a get as a step of the store

same_page : (s t : DeviceState) → t.count ≡ s.count → ((q : ℕ) → (t.pages q).bytes ≡ (s.pages q).bytes) → (i : ℕ) → IsSamePage (pairs_view s) (pairs_view t) i
same_page s t count bytes i = record { first = bytes i; second = ap (λ n. (t.pages (i + n / 2)).bytes) count ∙ bytes (i + s.count / 2) }

both_stay : (a b c d : Bool) → (a ≡ true → c ≡ true) → (b ≡ true → d ≡ true) → (a && b) ≡ true → (c && d) ≡ true
both_stay true true c d f g e = cc (f refl, g refl)
both_stay true false c d f g e = absurd (cc e)
both_stay false b c d f g e = absurd (cc e)

abbrev ok_or : Result (List ℕ) Stopped → List ℕ
ok_or (Ok x) = x
ok_or (Err e) = []

-- calls that change no bytes
module _ (s t : DeviceState) (happens : (from : DeviceState) → Happens from s → Happens from t) (later : Later s t) (bytes : (q : ℕ) → (t.pages q).bytes ≡ (s.pages q).bytes) where
  later_pairs : StoreLater (pairs_view s) (pairs_view t)
  later_pairs = record {
    happens = happens;
    count = ap (λ n. n / 2) later.count;
    calls = later.calls;
    puts = later.puts;
    stops = later.stops;
    spends = later.spends;
    quiet = later.quiet;
    calm = λ c. record { quiet = later.quiet c.quiet; power = later.power c.quiet c.power };
    no_stop = λ c. later.no_stop c.quiet c.power;
    whole = λ c i below w. let same = same_page s t later.count bytes i in record {
      both = subst (λ n. ((t.pages i).good && (t.pages (i + n / 2)).good) ≡ true) (sym later.count) (both_stay _ _ _ _ (later.good c.quiet c.power i) (later.good c.quiet c.power (i + s.count / 2)) w.both);
      clean = same.first ∙ w.clean ∙ sym same.second;
    };
  }

  got_page : (i : ℕ) (page : List ℕ) → t.calls ≤ s.calls + 8 → t.puts ≡ s.puts → Candidate (pairs_view s) i page → t.power ≡ true → t.stops ≡ s.stops → StoreGot (pairs_view s) i (Ok page) (pairs_view t)
  got_page i page few puts here on stops = record {
    later = later_pairs;
    calls = few;
    puts = puts;
    found = λ x e. subst (Candidate (pairs_view s) i) (ap ok_or e) here;
    same = same_page s t later.count bytes;
    served = λ _. record { power = on; stops = stops };
    stop = λ e. absurd (cc e);
    calm = λ _. refl;
  }

pub first_got : (s : DeviceState) (i : ℕ) (page : List ℕ) (t : DeviceState) → GetsCarefully s i (Ok (Some page)) t → StoreGot (pairs_view s) i (Ok page) (pairs_view t)
first_got s i page t gets =
    let f = gets.got in
    let served = f.served (Some page) refl in
    got_page s t f.happens f.later f.bytes i page (omega (arith, f.calls)) f.puts (inl ((f.good page refl).0 ∙ f.bytes i)) served.power served.stops

pub second_got : (s : DeviceState) (i : ℕ) (page : List ℕ) (m t : DeviceState) → GetsCarefully s i (Ok None) m → GetsCarefully m (second_place s i) (Ok (Some page)) t → StoreGot (pairs_view s) i (Ok page) (pairs_view t)
second_got s i page m t first second =
    let f = first.got in
    let g = second.got in
    let served = g.served (Some page) refl in
    got_page s t (λ from h. g.happens from (f.happens from h)) (later_trans s m t f.later g.later) (λ q. g.bytes q ∙ f.bytes q) i page (omega (arith, f.calls, g.calls)) (g.puts ∙ f.puts)
    (inr ((g.good page refl).0 ∙ g.bytes (second_place s i) ∙ f.bytes (second_place s i))) served.power (served.stops ∙ (f.served None refl).stops)

-- ---- which calls were made: the facts of the code at their places

pub gets_at : (d s : DeviceState) (p q : ℕ) (answer : Result (Option (List ℕ)) Stopped) (t : DeviceState) → d ≡ s → p ≡ q → CarefulGot d p answer t → MakesGets d p answer t → GetsCarefully s q answer t
gets_at d s p q answer t start place got makes = subst (λ x. GetsCarefully x q answer t) start (subst (λ x. GetsCarefully d x answer t) place (record { got = got; makes = makes }))

pub puts_at : (d s : DeviceState) (p q : ℕ) (page : List ℕ) (stopped : Bool) (t : DeviceState) → d ≡ s → p ≡ q → CarefulPut d p page stopped t → MakesPuts d p page stopped t → PutsCarefully s q page stopped t
puts_at d s p q page stopped t start place put makes = subst (λ x. PutsCarefully x q page stopped t) start (subst (λ x. PutsCarefully d x page stopped t) place (record { put = put; makes = makes }))

module _ (s : DeviceState) (i : ℕ) (t : DeviceState) where
  pub got_err : (e : Stopped) → GetsCarefully s i (Err e) t → (r : Result (List ℕ) Stopped) → IsErr r → GetsHalves s i r t
  got_err e gets (Ok page) h = absurd (cc h)
  got_err e gets (Err v) h = get_stopped v t gets

  pub got_second_err : (e : Stopped) (m : DeviceState) → GetsCarefully s i (Ok None) m → GetsCarefully m (second_place s i) (Err e) t → (r : Result (List ℕ) Stopped) → IsErr r → GetsHalves s i r t
  got_second_err e m first second (Ok page) h = absurd (cc h)
  got_second_err e m first second (Err v) h = second_get_stopped v m t first second

  pub put_err : (page : List ℕ) (r : Result (Unit {0}) Stopped) → IsErr r → PutsCarefully s i page true t → PutsHalves s i page (is_err r) t
  put_err page (Ok v) h puts = absurd (cc h)
  put_err page (Err v) h puts = put_stopped t puts

  pub put_second_err : (page : List ℕ) (m : DeviceState) (r : Result (Unit {0}) Stopped) → IsErr r → PutsCarefully s i page false m → PutsCarefully m (second_place s i) page true t → PutsHalves s i page (is_err r) t
  put_second_err page m (Ok v) h first second = absurd (cc h)
  put_second_err page m (Err v) h first second = put_both true m t first second

  pub cleaned_err : (e : Stopped) → GetsCarefully s i (Err e) t → (r : Result Bool Stopped) → IsErr r → CleansHalves s i r t
  cleaned_err e gets (Ok b) h = absurd (cc h)
  cleaned_err e gets (Err v) h = cleanup_stopped v t gets

  pub cleaned_second_err : (e : Stopped) (found : Option (List ℕ)) (m : DeviceState) → GetsCarefully s i (Ok found) m → GetsCarefully m (second_place s i) (Err e) t → (r : Result Bool Stopped) → IsErr r → CleansHalves s i r t
  cleaned_second_err e found m first second (Ok b) h = absurd (cc h)
  cleaned_second_err e found m first second (Err v) h = second_cleanup_stopped v found m t first second
