use Rattle.jn_intent.proofs.Common.{refl, sym, subst, arith, err_from_is_err_and, Ok, vec_len, IsServing, FlagPromised, view_of, memory_of, promises}
use Rattle.jn_intent.proofs.Promising.{promise_fails}
use Rattle.jn_intent.proofs.flags.IntentsFlagStore.promise.Goals as goal

pub returns-in_err-reserve : goal.returns-in_err-reserve
returns-in_err-reserve g c =
    let serving = subst (λ s. IsServing (view_of s.1 (g.S.StableStore.view s.0))) (sym c.self.view_is) c.requires.serving in
    let err = err_from_is_err_and c.from_residual.result c.from_residual.ensures.1 in
    record {
      promised = subst (λ s. FlagPromised {A = Unit {0}} (view_of s.1 (g.S.StableStore.view s.0)) c.from_residual.result (view_of (memory_of (record c.self.inside { flags = c.reserve.new.self })) (g.S.StableStore.view c.self.inside.store))) c.self.view_is
          (promise_fails (memory_of c.self.inside) _ serving (vec_len c.self.inside.rooms) refl c.from_residual.result err.0 err.1 err.2);
    }

pub returns-in_err-reserve-2 : goal.returns-in_err-reserve-2
returns-in_err-reserve-2 g c =
    let serving = subst (λ s. IsServing (view_of s.1 (g.S.StableStore.view s.0))) (sym c.self.view_is) c.requires.serving in
    let err = err_from_is_err_and c.from_residual-in_err-reserve-2.result c.from_residual-in_err-reserve-2.ensures.1 in
    record {
      promised = subst (λ s. FlagPromised {A = Unit {0}} (view_of s.1 (g.S.StableStore.view s.0)) c.from_residual-in_err-reserve-2.result (view_of (memory_of (record c.self.inside { flags = c.reserve.new.self; rooms = c.reserve-2.new.self })) (g.S.StableStore.view c.self.inside.store))) c.self.view_is
          (promise_fails (memory_of c.self.inside) _ serving (vec_len c.reserve-2.new.self) c.in_err-reserve-2.ensures.len c.from_residual-in_err-reserve-2.result err.0 err.1 err.2);
    }

pub returns-in_err-stored : goal.returns-in_err-stored
returns-in_err-stored g c =
    let serving = subst (λ s. IsServing (view_of s.1 (g.S.StableStore.view s.0))) (sym c.self.view_is) c.requires.serving in
    let err = err_from_is_err_and c.from_residual-in_err-stored.result c.from_residual-in_err-stored.ensures.1 in
    record {
      promised = subst (λ s. FlagPromised {A = Unit {0}} (view_of s.1 (g.S.StableStore.view s.0)) c.from_residual-in_err-stored.result (view_of (memory_of (record c.self.inside { flags = c.reserve.new.self; rooms = c.reserve-2.new.self })) (g.S.StableStore.view c.self.inside.store))) c.self.view_is
          (promise_fails (memory_of c.self.inside) _ serving (vec_len c.reserve-2.new.self) c.in_ok-reserve-2.ensures.len c.from_residual-in_err-stored.result err.0 err.1 err.2);
    }

pub returns-in_err-listed : goal.returns-in_err-listed
returns-in_err-listed g c =
    let serving = subst (λ s. IsServing (view_of s.1 (g.S.StableStore.view s.0))) (sym c.self.view_is) c.requires.serving in
    let err = err_from_is_err_and c.from_residual-in_err-listed.result c.from_residual-in_err-listed.ensures.1 in
    record {
      promised = subst (λ s. FlagPromised {A = Unit {0}} (view_of s.1 (g.S.StableStore.view s.0)) c.from_residual-in_err-listed.result (view_of (memory_of (record c.self.inside { flags = c.reserve.new.self; rooms = c.reserve-2.new.self })) (g.S.StableStore.view c.self.inside.store))) c.self.view_is
          (promise_fails (memory_of c.self.inside) _ serving (vec_len c.reserve-2.new.self) c.in_ok-reserve-2.ensures.len c.from_residual-in_err-listed.result err.0 err.1 err.2);
    }

pub returns : goal.returns
returns g c =
    let serving = subst (λ s. IsServing (view_of s.1 (g.S.StableStore.view s.0))) (sym c.self.view_is) c.requires.serving in
    record {
      promised = subst (λ s. FlagPromised {A = Unit {0}} (view_of s.1 (g.S.StableStore.view s.0)) (Ok tt) (view_of (memory_of (record c.self.inside { flags = c.reserve.new.self; rooms = c.push_reserved.new.self })) (g.S.StableStore.view c.self.inside.store))) c.self.view_is
          (promises (memory_of c.self.inside) _ c.self.invariant.kept serving (vec_len c.push_reserved.new.self) (let one = c.push_reserved.ensures.len in let two = c.in_ok-reserve-2.ensures.len in omega (arith, one, two)) (let free = c.free.ensures in let kept = c.len.ensures in let room = c.if-free-lt1.false in omega (arith, free, kept, room)));
    }
