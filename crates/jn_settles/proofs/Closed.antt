-- Where the world is closed nothing but files is left, so each store is that of a sound image.
use Rattle.jn_settles.proofs.Common.{◌≡◌, ◌≤◌, ◌<◌, ℕ, false, List, ◌++◌, Some, sym, ◌∙◌, ap, subst, slice_get, Result, Ok, AllByRecursion, slice_get_within, DeviceState, found_on, page_count, Line, StableState, stable, Setup, Devices, Moment, DoesStep, Ended, IsClosed, Closes}
use Rattle.std.proofs.Math.Path.{fun_ext}
use Rattle.jn_page_state.specs.Images.{IsImage}
use Rattle.jn_order.specs.Files.{Files}
use Rattle.jn_schedule.specs.declared.Event.{Event}
use Rattle.jn_schedule.specs.Ranges.{EventInRange}
use Rattle.jn_store.specs.Pairs.{pairs_view}
use Rattle.jn_machine.specs.Whole.{IsWritten}
use Rattle.jn_machine.proofs.Computed.{join}
use Rattle.jn_between.specs.Between.{files_told, IsTrueAtEnd}
use Rattle.jn_between.proofs.Ended.{at-the-end}
use Rattle.jn_server.specs.Settled.{IsSettledState}
use Rattle.jn_settles.specs.Closed.{LeavesImages}

module _ {S : Type 0} (device : S → DeviceState) (x : Setup) (few : x.servers ≤ 8) (schedule : List Event) (range : AllByRecursion EventInRange schedule) (images : Devices) (m : Moment) (h : IsWritten x schedule images m) (lines lines' : List Line) (same : m.state.lines ≡ lines) where
  leaves-images : (stores : List S) → IsClosed device x m stores lines lines' → LeavesImages device x h.files schedule lines' stores
  leaves-images stores c = record {
    servers = c.servers;
    images = λ n s at. subst (λ (f : Files). IsImage (record { 0 = n }) (x.counts (record { 0 = n })) f (pairs_view (device s))) (files-are n (below n s at)) (c.images n s at (alone n (below n s at)));
    counts = λ n s at. subst (λ (d : DeviceState). page_count (x.counts (record { 0 = n })) ≡ (pairs_view d).count) (c.devices n s at) (end.count (record { 0 = n }) (below n s at));
  }
    where
      written : IsWritten x schedule images c.last
      written = record { files = h.files; epochs = h.epochs; are_images = h.are_images; leads = join Moment (DoesStep x) _ m c.last h.leads c.leads }

      end : IsTrueAtEnd x h.files schedule c.last
      end = at-the-end x schedule images c.last few range written c.stage c.tasks

      lines-are : c.last.state.lines ≡ lines'
      lines-are = let t = c.told in t.there ∙ ap (λ (ls : List Line). ls ++ t.new) same ∙ sym t.here

      below : (n : ℕ) (s : S) → slice_get stores n ≡ Some s → n < x.servers
      below n s at = subst (λ (k : ℕ). n < k) c.servers (slice_get_within stores n s at)

      found-there : (n : ℕ) → n < x.servers → c.last.state.course.world.found (record { 0 = n }) (λ i. false) ≡ found_on (x.counts (record { 0 = n })) (pairs_view (c.last.devices (record { 0 = n }))) (λ i. false)
      found-there n lt = end.found (record { 0 = n }) (λ i. false) lt

      alone : (n : ℕ) → n < x.servers → IsSettledState (stable (c.last.state.course.world.found (record { 0 = n })))
      alone n lt = record {
        works = λ W. ap (λ (y : StableState). y.works W) (found-there n lt) ∙ end.works (record { 0 = n }) (λ i. false) W lt;
        flags = λ T. ap (λ (y : StableState). y.flags T) (found-there n lt) ∙ end.flags (record { 0 = n }) (λ i. false) T lt;
      }

      files-are : (n : ℕ) → n < x.servers → (stable (c.last.state.course.world.found (record { 0 = n }))).files ≡ files_told h.files schedule lines' (record { 0 = n })
      files-are n lt = ap (λ (y : StableState). y.files) (found-there n lt) ∙ fun_ext (λ u. end.pages (record { 0 = n }) u (λ i. false) lt)
          ∙ ap (λ (ls : List Line). files_told h.files schedule ls (record { 0 = n })) lines-are

  pub closed-leaves : {A : Type 0} (items_of : A → List S) (a : A) (result : Result A Ended) → Closes device items_of x m result lines lines' → result ≡ Ok a → LeavesImages device x h.files schedule lines' (items_of a)
  closed-leaves {A} items_of a result closes ok = leaves-images (items_of a) (subst (λ (r : Result A Ended). Closes device items_of x m r lines lines') ok closes)
