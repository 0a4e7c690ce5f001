-- A call and what follows it, as one step by its row.
use Rattle.jn_device.specs.Happens.{none}
use Rattle.jn_place.proofs.Common.{◌≡◌, ◌≤◌, ◌+◌, ℕ, arith, Bool, true, false, true≢false, List, [], ◌∷◌, ◌++◌, refl, sym, ◌∙◌, ap, subst, append_assoc, Result, Ok, Err, OnOk, map, Outside, ServerNo, DeviceState, cleared, found_on, counts_in, Memory, Counts, When, Line, RowOutcome, StableState, Pick, IsStopState, Parts, view_with, state, Accounts, pairs_view, StoreView, StoreLater, IsCalm, Slot, Up, Down, Gone, LeavesStore, IsSpent, lines_at, texts_of_step, IsStepOf, StaysCalm, RowEnds, told_at, StaysAs, Follows, is_up, state_of}
use Rattle.std.proofs.lemmas.List.{append-nil, map-append}
use Rattle.jn_report.specs.declared.line.Text.{Text}
use Rattle.jn_report.specs.declared.line.Text.TheVariants as says

pub on-ok : {A E : Type 0} (P Q : Type 0) (answer : Result A E) → (P → Q) → OnOk answer P → OnOk answer Q
on-ok P Q (Ok x) f h = f h
on-ok P Q (Err e) f h = tt

pub on-both : {A E : Type 0} (P Q R : Type 0) (answer : Result A E) → (P → Q → R) → OnOk answer P → OnOk answer Q → OnOk answer R
on-both P Q R (Ok x) f h k = f h k
on-both P Q R (Err e) f h k = tt

-- ---- lines

pub lines-stopped : (q : ServerNo) (when : When) (told : List Outside) (old mid new : List Line) → mid ≡ old ++ lines_at when (texts_of_step q told true) → new ≡ mid ++ (record { when = when; text = says.Stopped q }) ∷ []
    → new ≡ old ++ lines_at when (texts_of_step q told false)
lines-stopped q when told old mid new e f =
    let line : Text → Line = λ text. record { when = when; text = text } in
    let texts = map (λ (fault : Outside). says.Outside q fault) told in
    let last : List Line = (record { when = when; text = says.Stopped q }) ∷ [] in
    let nothing : lines_at when (texts_of_step q told true) ≡ map line texts = ap (map line) (append-nil texts) in
    f ∙ ap (λ l. l ++ last) (e ∙ ap (λ l. old ++ l) nothing) ∙ append_assoc old (map line texts) last ∙ ap (λ l. old ++ l) (sym (map-append line texts (says.Stopped q ∷ [])))

-- ---- what follows

module _ {S : Type 0} (look : S → StoreView) (device : S → DeviceState) where
  follows-up : (a b : Slot S) → is_up a ≡ true → StaysAs look device cleared a b → Follows look device a true b
  follows-up (Up p) (Up p') e h = h
  follows-up (Up p) (Down s) e h = absurd h
  follows-up (Up p) Gone e h = absurd h
  follows-up (Down s) b e h = absurd (true≢false (sym e))
  follows-up Gone b e h = absurd (true≢false (sym e))

  pub follows-done : (a b : Slot S) (done : Bool) → done ≡ true → is_up a ≡ true → StaysAs look device cleared a b → Follows look device a done b
  follows-done a b done is up h = subst (λ (d : Bool). Follows look device a d b) (sym is) (follows-up a b up h)

  follows-down : (a m b : Slot S) → LeavesStore a m → StaysAs look device cleared m b → Follows look device a false b
  follows-down (Up p) (Down s) (Down s') e h = subst (λ (t : S). StaysAs look device cleared (Down t) (Down s')) e h
  follows-down (Up p) (Down s) (Up p') e h = absurd h
  follows-down (Up p) (Down s) Gone e h = absurd h
  follows-down (Up p) (Up p') b e h = absurd e
  follows-down (Up p) Gone b e h = absurd e
  follows-down (Down s) m b e h = absurd e
  follows-down Gone m b e h = absurd e

  pub follows-stopped : (a m b : Slot S) (done : Bool) → done ≡ false → LeavesStore a m → StaysAs look device cleared m b → Follows look device a done b
  follows-stopped a m b done is e h = subst (λ (d : Bool). Follows look device a d b) (sym is) (follows-down a m b e h)

  pub told-left : (a m : Slot S) → LeavesStore a m → told_at device m ≡ told_at device a
  told-left (Up p) (Down s) e = ap (λ t. (device t).told) e
  told-left (Up p) (Up p') e = absurd e
  told-left (Up p) Gone e = absurd e
  told-left (Down s) m e = absurd e
  told-left Gone m e = absurd e

pub done-calm : {S : Type 0} (look : S → StoreView) (a : Slot S) (done : Bool) (b : Slot S) → StaysCalm look a done b → StaysCalm look a true b
done-calm look a done b h calm = let after = h calm in (refl, after.1, after.2)

-- ---- a step

same-counts : (a b : Accounts) → b.pool ≡ a.pool → b.heads ≡ a.heads → b.leaves ≡ a.leaves → counts_in b ≡ counts_in a
same-counts a b pool heads leaves = cc

abbrev pub Sees : {S : Type 0} → (S → StoreView) → (S → DeviceState) → Type 0
Sees {S} look device = (s : S) → look s ≡ pairs_view (device s)

module _ {S : Type 0} (look : S → StoreView) (device : S → DeviceState) (sees : Sees look device) where
  pub later-below : (s t : S) → StoreLater (look s) (look t) → StoreLater (pairs_view (device s)) (pairs_view (device t))
  later-below s t h = subst (λ (v : StoreView). StoreLater v (pairs_view (device t))) (sees s) (subst (λ (w : StoreView). StoreLater (look s) w) (sees t) h)

  pub spent-on : (most : ℕ) (s t : S) (e : DeviceState) (told : List Outside) (power : Bool) → told ≡ (device t).told → StoreLater (look s) (look t) → (look t).calls ≤ (look s).calls + most → (look t).power ≡ power
      → e ≡ cleared (device t) → IsSpent most told power (device s) e
  spent-on most s t e told power is later few lit after = record {
    last = device t;
    happens = (later-below s t later).happens (device s) (none (device s));
    few = let a : (look t).calls ≡ (device t).calls = ap (λ (v : StoreView). v.calls) (sees t) in let b : (look s).calls ≡ (device s).calls = ap (λ (v : StoreView). v.calls) (sees s) in omega (arith, a, b, few);
    whole = (later-below s t later).whole;
    told_is = is;
    power_is = sym (ap (λ (v : StoreView). v.power) (sees t)) ∙ lit;
    after = after;
  }

  pub spent : (most : ℕ) (s t u : S) (power : Bool) → StoreLater (look s) (look t) → (look t).calls ≤ (look s).calls + most → (look t).power ≡ power → device u ≡ cleared (device t) → IsSpent most (device t).told power (device s) (device u)
  spent most s t u power later few lit after = spent-on most s t (device u) (device t).told power refl later few lit after

  pub calm-cleared : (t u : S) → device u ≡ cleared (device t) → IsCalm (look t) → IsCalm (look u)
  calm-cleared t u after calm = record {
    quiet = ap (λ (v : StoreView). v.waiting) (sees u) ∙ ap (λ (d : DeviceState). d.waiting) after ∙ sym (ap (λ (v : StoreView). v.waiting) (sees t)) ∙ calm.quiet;
    power = ap (λ (v : StoreView). v.power) (sees u) ∙ ap (λ (d : DeviceState). d.power) after ∙ sym (ap (λ (v : StoreView). v.power) (sees t)) ∙ calm.power;
  }

  module _ (q : ServerNo) (g : Counts) (most : ℕ) (when : When) (row : RowOutcome Memory) (p : Parts S) (counts : counts_in (view_with look p).storage.accounts ≡ g) (lines lines' : List Line) where
    pub step-of : (m : Slot S) (done : Bool) (b : Slot S) → RowEnds look most row p done m → Follows look device m done b → lines' ≡ lines ++ lines_at when (texts_of_step q (told_at device m) done)
        → IsStepOf look device q g most when row (Up p) done b lines lines'
    step-of (Up m) true (Up b) ends follows e = record {
      told = (device m.storage.0).told;
      ends = record {
        memory = follows.0.memory ∙ ends.memory;
        found = λ c. ap (λ f. f c) follows.0.found ∙ ends.found c;
        spent = spent most p.storage.0 m.storage.0 b.storage.0 true ends.later.store ends.few ends.power follows.1;
      };
      lines_are = e;
    }
    step-of (Up m) false (Down s) ends follows e = record {
      told = (device m.storage.0).told;
      ends = record {
        some = λ c. subst (λ (x : StableState). IsStopState (state (view_with look p).storage) row.changes x) (sym (found c)) (ends.some c);
        spent = spent most p.storage.0 m.storage.0 s false ends.later.store ends.few ends.dark follows.1;
      };
      lines_are = e;
    }
      where
        same : counts_in (view_with look m).storage.accounts ≡ g
        same = same-counts (view_with look p).storage.accounts (view_with look m).storage.accounts ends.later.pool ends.later.heads ends.later.leaves ∙ counts

        found : (c : Pick) → found_on g (look s) c ≡ (view_with look m).storage.found c
        found c = ap (state_of g) (follows.0 c) ∙ ap (λ (h : Counts). found_on h (look m.storage.0) c) (sym same)
    step-of (Up m) true (Down s) ends follows e = absurd follows
    step-of (Up m) true Gone ends follows e = absurd follows
    step-of (Up m) false (Up b) ends follows e = absurd follows
    step-of (Up m) false Gone ends follows e = absurd follows
    step-of (Down s) true b ends follows e = absurd ends
    step-of (Down s) false b ends follows e = absurd ends
    step-of Gone true b ends follows e = absurd ends
    step-of Gone false b ends follows e = absurd ends

    pub calm-of : (m : Slot S) (done : Bool) (b : Slot S) → RowEnds look most row p done m → Follows look device m done b → StaysCalm look (Up p) done b
    calm-of (Up m) true (Up b) ends follows calm = (refl, refl, calm-cleared m.storage.0 b.storage.0 follows.1 (ends.later.store.calm calm))
    calm-of (Up m) true (Down s) ends follows calm = absurd follows
    calm-of (Up m) true Gone ends follows calm = absurd follows
    calm-of (Up m) false b ends follows calm = absurd (ends.not_calm calm)
    calm-of (Down s) true b ends follows calm = absurd ends
    calm-of (Down s) false b ends follows calm = absurd ends
    calm-of Gone true b ends follows calm = absurd ends
    calm-of Gone false b ends follows calm = absurd ends
