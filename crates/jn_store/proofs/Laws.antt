-- The laws of what every run of calls of a store keeps.
use Rattle.std.proofs.Common.{◌≡◌, ◌⊎◌, inl, inr, ⊎_elim, ℕ, ◌<◌, Bool, List, Result, refl, sym, ◌∙◌, subst, arith}
use Rattle.jn_base.specs.declared.device.Stopped.{Stopped}
use Rattle.jn_device.proofs.Later.{spends_refl, spends_trans, rose_since}
use Rattle.jn_store.specs.Store.{StoreView, Candidate, IsClean, IsOnly, IsCalm, IsStop, IsSamePage, Shrinks, StoreLater, StoreCleaned}

pub later_refl : (v : StoreView) → StoreLater v v
later_refl v = record {
  happens = λ from h. h;
  count = refl;
  calls = omega arith;
  puts = omega arith;
  stops = omega arith;
  spends = spends_refl v.waiting v.told v.power;
  quiet = λ q. q;
  calm = λ q. q;
  no_stop = λ _. refl;
  whole = λ _ _ _ h. h;
}

pub later_trans : (a b c : StoreView) → StoreLater a b → StoreLater b c → StoreLater a c
later_trans a b c f g = record {
  happens = λ from h. g.happens from (f.happens from h);
  count = g.count ∙ f.count;
  calls = omega (arith, f.calls, g.calls);
  puts = omega (arith, f.puts, g.puts);
  stops = omega (arith, f.stops, g.stops);
  spends = spends_trans a.waiting b.waiting c.waiting a.told b.told c.told a.power b.power c.power f.spends g.spends;
  quiet = λ q. g.quiet (f.quiet q);
  calm = λ q. g.calm (f.calm q);
  no_stop = λ q. g.no_stop (f.calm q) ∙ f.no_stop q;
  whole = λ q i below h. g.whole (f.calm q) i (subst (λ n. i < n) (sym f.count) below) (f.whole q i below h);
}

-- a stop now is a stop since then
pub stop_since : (a b c : StoreView) → StoreLater a b → StoreLater b c → IsStop b c → IsStop a c
stop_since a b c f g s = record { rose = rose_since a.stops b.stops c.stops f.stops g.stops s.rose; dark = s.dark }

-- a calm store does not stop
pub calm_on : (v w : StoreView) → StoreLater v w → IsStop v w → IsCalm v → {A : Type 0} → A
calm_on v w later stop calm = absurd (let on = (later.calm calm).power in let off = stop.dark in cc (on, off))

pub same_refl : (v : StoreView) (i : ℕ) → IsSamePage v v i
same_refl v i = record { first = refl; second = refl }

pub same_trans : (a b c : StoreView) (i : ℕ) → IsSamePage a b i → IsSamePage b c i → IsSamePage a c i
same_trans a b c i f g = record { first = g.first ∙ f.first; second = g.second ∙ f.second }

pub same_shrinks : (v w : StoreView) (i : ℕ) → IsSamePage v w i → Shrinks v w i
same_shrinks v w i same x here = ⊎_elim (λ e. inl (e ∙ same.first)) (λ e. inr (e ∙ same.second)) here

pub only_is : (v : StoreView) (i : ℕ) (page x : List ℕ) → IsOnly v i page → Candidate v i x → x ≡ page
only_is v i page x only here = ⊎_elim (λ e. e ∙ only.first) (λ e. e ∙ only.second) here

pub only_clean : (v : StoreView) (i : ℕ) (page : List ℕ) → IsOnly v i page → IsClean v i
only_clean v i page only = only.first ∙ sym only.second

-- a clean page keeps its content, as long as its candidates only shrink
pub shrinks_only : (v w : StoreView) (i : ℕ) (page : List ℕ) → IsOnly v i page → Shrinks v w i → IsOnly w i page
shrinks_only v w i page only kept = record { first = only_is v i page (w.first i) only (kept (w.first i) (inl refl)); second = only_is v i page (w.second i) only (kept (w.second i) (inr refl)) }

-- no cleanup adds a candidate to any page
pub cleaned_kept : (v : StoreView) (i : ℕ) (answer : Result Bool Stopped) (w : StoreView) → StoreCleaned v i answer w → (j : ℕ) → j < v.count → (j ≡ i) ⊎ (j ≡ i → ⊥) → Shrinks v w j
cleaned_kept v i answer w step j below (inl e) = subst (Shrinks v w) (sym e) step.kept
cleaned_kept v i answer w step j below (inr ne) = same_shrinks v w j (step.others j below ne)
