-- What a step's calls keep: all that every run of calls of a store keeps.
use Rattle.jn_machine.proofs.Common.{ap, Chance, ◌/◌, DeviceState, Later, IsCalled}
use Rattle.std.specs.Prelude.{ℕ}
use Rattle.jn_device.specs.Happens.{joined}
use Rattle.jn_device.proofs.Happening.{happens_later}
use Rattle.jn_store.specs.Pairs.{pairs_view}
use Rattle.jn_store.specs.Store.{StoreLater}

module _ (most : ℕ) (h : Chance) (d e : DeviceState) (c : IsCalled most h d e) where
  pub called-later : Later d c.last
  called-later = happens_later d c.last c.happens

  pub called-store : StoreLater (pairs_view d) (pairs_view c.last)
  called-store = record {
    happens = λ from before. joined from d c.last before c.happens;
    count = ap (λ (n : ℕ). n / 2) called-later.count;
    calls = called-later.calls;
    puts = called-later.puts;
    stops = called-later.stops;
    spends = called-later.spends;
    quiet = called-later.quiet;
    calm = λ calm. record { quiet = called-later.quiet calm.quiet; power = called-later.power calm.quiet calm.power };
    no_stop = λ calm. called-later.no_stop calm.quiet calm.power;
    whole = c.whole;
  }
