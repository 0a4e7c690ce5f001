-- A call that is stopped has met a stop that waited.
use Rattle.std.proofs.Common.{◌≡◌, ⊎_elim, ℕ, Bool, true, false, List, Result, refl, sym, ap, arith}
use Rattle.std.specs.Prelude.{is_ok}
use Rattle.jn_base.specs.declared.device.Stopped.{Stopped}
use Rattle.jn_device.specs.Later.{darkness}
use Rattle.jn_store.specs.Store.{StoreView, StoreLater, IsServed, IsStop, StoreGot, StorePut, StoreCleaned}
use Rattle.jn_store.specs.Answers.{IsUnstopped, StopStruck, IsOkUnlessStopped}

pub stop_struck : (v w : StoreView) → StoreLater v w → IsStop v w → v.power ≡ true → StopStruck v w
stop_struck v w later stop on = omega (arith, later.spends.stop_of, ap darkness on, ap darkness stop.dark)

lit : (power : Bool) → darkness power ≡ 0 → power ≡ true
lit true e = refl
lit false e = absurd (omega (arith, e))

pub stays_unstopped : (v w : StoreView) → StoreLater v w → IsUnstopped v → IsUnstopped w
stays_unstopped v w later u =
    let none = later.spends.stop_of in
    let on = ap darkness u.power in
    record { power = lit w.power (omega (arith, none, on, u.no_stop)); no_stop = omega (arith, none, on, u.no_stop) }

ok_unless : (v w : StoreView) (ok : Bool) → StoreLater v w → (ok ≡ true → IsServed v w) → (ok ≡ false → IsStop v w) → IsOkUnlessStopped v ok w
ok_unless v w true later served stop =
    let on = (served refl).power in
    record { power = sym on; dark = λ off. absurd (let off' = later.spends.dark off in cc (on, off')); struck = λ _ e. absurd (cc e); unstopped = λ _. refl; same = λ _ _. refl }
ok_unless v w false later served stop =
    let is = stop refl in
    record {
      power = sym is.dark;
      dark = λ _. refl;
      struck = λ on _. stop_struck v w later is on;
      unstopped = λ u. absurd (omega (arith, stop_struck v w later is u.power, u.no_stop));
      same = λ same small. absurd (⊎_elim (λ r. omega (arith, r, same)) (λ r. omega (arith, r, small)) is.rose);
    }

pub got_ok : (v w : StoreView) (i : ℕ) (answer : Result (List ℕ) Stopped) → StoreGot v i answer w → IsOkUnlessStopped v (is_ok answer) w
got_ok v w i answer step = ok_unless v w (is_ok answer) step.later step.served step.stop

pub put_ok : (v w : StoreView) (i : ℕ) (page : List ℕ) (ok : Bool) → StorePut v i page ok w → IsOkUnlessStopped v ok w
put_ok v w i page ok step = ok_unless v w ok step.later step.served step.stop

pub cleaned_ok : (v w : StoreView) (i : ℕ) (answer : Result Bool Stopped) → StoreCleaned v i answer w → IsOkUnlessStopped v (is_ok answer) w
cleaned_ok v w i answer step = ok_unless v w (is_ok answer) step.later step.served step.stop
