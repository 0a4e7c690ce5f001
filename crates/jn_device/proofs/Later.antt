-- The laws of what every run of calls keeps.
use Rattle.std.proofs.Common.{ℕ, ◌≤◌, Bool, List, refl, ◌∙◌, arith}
use Rattle.std.proofs.lemmas.Bool.Decides.{nat_tests}
use Rattle.jn_base.specs.declared.device.Outside.{Outside}
use Rattle.jn_device.specs.declared.Armed.{Armed}
use Rattle.jn_device.specs.Device.{DeviceState}
use Rattle.jn_base.specs.Counts.{Rose}
use Rattle.jn_device.specs.Later.{Later, Spends, Struck, touches}

-- what rose since a moment rose since an earlier one
pub rose_since : (a b c : ℕ) → a ≤ b → b ≤ c → Rose b c → Rose a c
rose_since a b c ab bc r = grind (arith, nat_tests)

-- what rose has risen later
pub rose_then : (a b c : ℕ) → Rose a b → b ≤ c → Rose a c
rose_then a b c r bc = grind (arith, nat_tests)

pub spends_refl : (ws : List Armed) (told : List Outside) (power : Bool) → Spends ws ws told told power power
spends_refl ws told power = record { used = λ f. omega arith; told_of = λ f. omega arith; stop_of = omega arith; dark = λ h. h }

pub spends_trans : (a b c : List Armed) (d e f : List Outside) (p q r : Bool) → Spends a b d e p q → Spends b c e f q r → Spends a c d f p r
spends_trans a b c d e f p q r x y = record {
  used = λ k. omega (arith, x.used k, y.used k);
  told_of = λ k. omega (arith, x.told_of k, y.told_of k);
  stop_of = omega (arith, x.stop_of, y.stop_of);
  dark = λ h. y.dark (x.dark h);
}

pub later_refl : (s : DeviceState) → Later s s
later_refl s = record {
  count = refl;
  calls = omega arith;
  puts = omega arith;
  stops = omega arith;
  spends = spends_refl s.waiting s.told s.power;
  sound = λ h. h;
  quiet = λ h. h;
  power = λ _ h. h;
  no_stop = λ _ _. refl;
  good = λ _ _ _ h. h;
}

pub later_trans : (a b c : DeviceState) → Later a b → Later b c → Later a c
later_trans a b c f g = record {
  count = g.count ∙ f.count;
  calls = omega (arith, f.calls, g.calls);
  puts = omega (arith, f.puts, g.puts);
  stops = omega (arith, f.stops, g.stops);
  spends = spends_trans a.waiting b.waiting c.waiting a.told b.told c.told a.power b.power c.power f.spends g.spends;
  sound = λ h. g.sound (f.sound h);
  quiet = λ q. g.quiet (f.quiet q);
  power = λ q on. g.power (f.quiet q) (f.power q on);
  no_stop = λ q on. g.no_stop (f.quiet q) (f.power q on) ∙ f.no_stop q on;
  good = λ q on i h. g.good (f.quiet q) (f.power q on) i (f.good q on i h);
}

pub struck_trans : (q : ℕ) (a b c : DeviceState) → Later a b → Later b c → Struck q a b → Struck q b c → Struck q a c
struck_trans q a b c ab bc f g = grind (arith, f, g, ab.spends.used (touches q), bc.spends.used (touches q))
