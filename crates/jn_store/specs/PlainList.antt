-- A plain list of pages as a device of which every page is kept twice and no call fails.
use Rattle.std.specs.Prelude.{ℕ, ◌*◌, ◌-◌, nat_lt, true, false, if◌then◌else◌, List, [], length, slice_index_or}
use Rattle.jn_device.specs.Device.{PageState, DeviceState}
use Rattle.jn_store.specs.Store.{StoreView}

abbrev pub array_page : List (List ℕ) → ℕ → PageState
array_page pages p = record { good = true; bytes = slice_index_or pages (if nat_lt p (length pages) then p else p - length pages) []; missed = false; fails = 0 }

-- after so many calls, each of them a put
abbrev pub array_device : List (List ℕ) → ℕ → DeviceState
array_device pages calls = record {
  count = 2 * length pages;
  pages = array_page pages;
  power = true;
  waiting = [];
  told = [];
  calls = calls;
  puts = calls;
  stops = 0;
}

-- and as a store: each page has one candidate
abbrev pub array_view : ℕ → List (List ℕ) → ℕ → StoreView
array_view count pages calls = record {
  count = count;
  device = array_device pages calls;
  first = λ i. slice_index_or pages i [];
  second = λ i. slice_index_or pages i [];
  both = λ _. true;
  power = true;
  waiting = [];
  told = [];
  calls = calls;
  puts = calls;
  stops = 0;
}
