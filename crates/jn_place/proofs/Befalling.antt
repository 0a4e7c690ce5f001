-- What befalls the device of a place, and calls of a server that reach no device.
use Rattle.jn_place.proofs.Common.{◌≡◌, ℕ, Bool, [], sym, ◌∙◌, ap, subst, ServerNo, Tid, DeviceState, powered_off, found_on, same_found, Collected, server_again, Counts, Befalls, TimesOut, Parts, view_with, memory_of, state, Accounts, StoreView, HasSamePages, added, Slot, Up, Down, Gone, LeavesStore, AsksAgain, TimedOut, Crashed, Befell, SaysSame, IsAsBefore, StaysAs, Stands, same_pages_by, state_of}
use Rattle.jn_place.proofs.Served.{nothing}

module _ {S : Type 0} (look : S → StoreView) (device : S → DeviceState) where
  pub same-says : (s t : S) → HasSamePages (look s) (look t) → SaysSame look s t
  same-says s t pages = λ c. same_pages_by (look s) (look t) pages c

  as-before : (p q : Parts S) → Befalls (view_with look p) (view_with look q) → IsAsBefore look p q
  as-before p q h = record {
    memory = ap memory_of h.tables ∙ ap (λ (a : Accounts). memory_of (record (view_with look p) { storage = record (view_with look q).storage { accounts = a } })) h.storage.same;
    found = h.storage.found;
    accounts = h.storage.same;
  }

  pub befell-up : (g : Counts) (becomes : DeviceState → DeviceState → Type 0) (a : Slot S) (p q : Parts S) → a ≡ Up p → Befalls (view_with look p) (view_with look q) → becomes (device p.storage.0) (device q.storage.0)
      → Befell look device g becomes a (Up q)
  befell-up g becomes a p q is h step = let s = as-before p q h in subst (λ (x : Slot S). Befell look device g becomes x (Up q)) (sym is) ((s.memory, s.found), step)

  pub befell-down : (g : Counts) (becomes : DeviceState → DeviceState → Type 0) (a : Slot S) (s t : S) → a ≡ Down s → HasSamePages (look s) (look t) → becomes (device s) (device t) → Befell look device g becomes a (Down t)
  befell-down g becomes a s t is pages step = subst (λ (x : Slot S). Befell look device g becomes x (Down t)) (sym is) (same_found (look s) (look t) pages g, step)

  pub stays-up : (f : DeviceState → DeviceState) (a : Slot S) (p q : Parts S) → a ≡ Up p → Befalls (view_with look p) (view_with look q) → device q.storage.0 ≡ f (device p.storage.0) → StaysAs look device f a (Up q)
  stays-up f a p q is h step = subst (λ (x : Slot S). StaysAs look device f x (Up q)) (sym is) (as-before p q h, step)

  pub stays-down : (f : DeviceState → DeviceState) (a : Slot S) (s t : S) → a ≡ Down s → HasSamePages (look s) (look t) → device t ≡ f (device s) → StaysAs look device f a (Down t)
  stays-down f a s t is pages step = subst (λ (x : Slot S). StaysAs look device f x (Down t)) (sym is) (same-says s t pages, step)

  -- ---- a crash

  pub crash-exact : (server : ServerNo) (g : Counts) (most : ℕ) (a m b : Slot S) → Stands look server g most a → LeavesStore a m → StaysAs look device powered_off m b → Crashed look device g a b
  crash-exact server g most (Up p) (Down s) (Down t) stands left off = record {
    found = λ c. ap (state_of g) (off.0 c) ∙ ap (λ (x : S). found_on g (look x) c) left ∙ ap (λ (h : Counts). found_on h (look p.storage.0) c) (sym stands.counts);
    device_is = off.1 ∙ ap (λ (x : S). powered_off (device x)) left;
  }
  crash-exact server g most (Up p) (Down s) (Up q) stands left off = absurd off
  crash-exact server g most (Up p) (Down s) Gone stands left off = absurd off
  crash-exact server g most (Up p) (Up q) b stands left off = absurd left
  crash-exact server g most (Up p) Gone b stands left off = absurd left
  crash-exact server g most (Down s) m b stands left off = absurd left
  crash-exact server g most Gone m b stands left off = absurd left

  -- ---- without the device

  pub timeout-exact : (T : Tid) (a : Slot S) (p q : Parts S) (answer : Bool) → a ≡ Up p → TimesOut T (view_with look p) answer (view_with look q) → q.storage ≡ p.storage → TimedOut look T a answer (Up q)
  timeout-exact T a p q answer is h storage = subst (λ (x : Slot S). TimedOut look T x answer (Up q)) (sym is) (record { live = h.live; memory = h.memory; storage = storage })

  pub again-exact : (a : Slot S) (p : Parts S) (before after : Collected) → a ≡ Up p → before ≡ nothing → (let v = view_with look p in after ≡ added before (server_again (memory_of v) (state v.storage)) []) → AsksAgain look a after
  again-exact a p before after is none e =
      let v = view_with look p in
      subst (λ (x : Slot S). AsksAgain look x after) (sym is) (e ∙ ap (λ (b : Collected). added b (server_again (memory_of v) (state v.storage)) []) none)
