-- Each data page of a server of a world is in use for one thing, or free.
use Rattle.jn_laws.proofs.Common.{◌≡◌, ℕ, Some, refl, sym, ◌∙◌, ap, subst, length, slice_get, slice_get_within, get_or_from_slice_get, DeviceState, Setup, Moment, Counts, stable, StoreView, standing_of, Stands, StandsAt, PlaceStands}
use Rattle.jn_node.proofs.Moments.{pages-counted, same-beside, sees-at}
use Rattle.jn_place.specs.declared.place.Place.{Place}
use Rattle.jn_place.specs.declared.place.Slot.{Slot}
use Rattle.jn_place.specs.declared.place.Slot.TheVariants.{Up, Down, Gone}
use Rattle.jn_place.specs.Places.{IsPlace, Stands as StandsThere, CountsAt}
use Rattle.jn_recovery.specs.Counts.{counts_by}
use Rattle.jn_server.specs.Seen.{view_with}
use Rattle.jn_worker.specs.Leaving.{Beside}
use Rattle.jn_world.proofs.Places.{place-at}
use Rattle.jn_world.specs.declared.world.World.{World}
use Rattle.jn_world.specs.Standing.{IsWorld}
use Rattle.jn_laws.specs.Pages.{CountsDataPages}

module _ {S : Type 0} (look : S → StoreView) (device : S → DeviceState) (x : Setup) (m : Moment) where
  -- by what is at its place, and where the moment has it
  at-slot : (n most : ℕ) (g : Counts) (slot : Slot S) → x.counts (record { 0 = n }) ≡ g → StandsThere look (record { 0 = n }) g most slot → CountsAt look slot
      → StandsAt look device g slot (m.state.course.world.memory (record { 0 = n })) (m.state.course.world.found (record { 0 = n })) (m.devices (record { 0 = n })) → CountsDataPages look x m n slot
  at-slot n most g (Up p) same held counted stands =
      let v = view_with look p in
      let its = held.counts ∙ sym same in
      let at = sees-at look p (x.counts (record { 0 = n })) its in
      let serves = held.serves refl in
      record {
        counted = serves.works.serving.counted;
        counts = its;
        found = ap stable stands.1;
        maps = ap (λ (b : Beside). b.maps) (same-beside (x.counts (record { 0 = n })) v at its serves counted);
        pages = pages-counted (x.counts (record { 0 = n })) v at its serves counted;
      }
  at-slot n most g (Down s) same held counted stands = tt
  at-slot n most g Gone same held counted stands = tt

  pub pages-in-use : (w : World S) → IsWorld look w → Stands look device x (standing_of w) m → (n : ℕ) (p : Place S) → slice_get w.places.items n ≡ Some p → CountsDataPages look x m n p.slot
  pages-in-use w is stands n p at = at-slot n (length w.net.sent) (counts_by p.counts) p.slot there.counts place.stands place.counted there.stands
    where
      there : PlaceStands look device x m n p
      there = stands.places n p at

      place : IsPlace look (record { 0 = n }) (length w.net.sent) p
      place = subst (IsPlace look (record { 0 = n }) (length w.net.sent)) (get_or_from_slice_get w.places.items n p p at) (place-at look (length w.net.sent) w.places.items (record { 0 = n }) p (slice_get_within w.places.items n p at) is.places)
