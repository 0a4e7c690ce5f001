-- A device of 2N pages as a store of N: page i is kept at i and at i + N.
use Rattle.std.specs.Prelude.{ℕ, ◌+◌, ◌/◌, ◌&&◌}
use Rattle.jn_device.specs.Device.{DeviceState}
use Rattle.jn_store.specs.Store.{StoreView}

abbrev pub pairs_view : DeviceState → StoreView
pairs_view s = record {
  count = s.count / 2;
  device = s;
  first = λ i. (s.pages i).bytes;
  second = λ i. (s.pages (i + s.count / 2)).bytes;
  both = λ i. (s.pages i).good && (s.pages (i + s.count / 2)).good;
  power = s.power;
  waiting = s.waiting;
  told = s.told;
  calls = s.calls;
  puts = s.puts;
  stops = s.stops;
}
