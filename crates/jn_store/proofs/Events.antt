-- What befalls a store's device between calls, as the store's users see it.
use Rattle.std.proofs.Common.{◌≡◌, ℕ, ◌+◌, ◌/◌, Bool, true, Option, Some, refl, ◌∙◌, ap, arith}
use Rattle.std.proofs.lemmas.Bool.Decides.{nat_tests}
use Rattle.jn_base.specs.declared.device.FaultKind.{FaultKind}
use Rattle.jn_base.specs.declared.device.FaultKind.TheVariants.{Decay, Revive}
use Rattle.jn_device.specs.Device.{PageState, DeviceState, page_met}
use Rattle.jn_device.specs.Events.{Becomes, PowersUp, Decays, Revives, Arms, powered_off, disarmed, cleared}
use Rattle.jn_store.specs.Store.{IsSamePage, HasSamePages}
use Rattle.jn_store.specs.Pairs.{pairs_view}

met_bytes : (s : DeviceState) (k : Option FaultKind) (q : ℕ) → (page_met s k q).bytes ≡ (s.pages q).bytes
met_bytes s k q = grind (arith, nat_tests)

module _ (s t : DeviceState) (pages : ℕ → PageState) (power : Bool) (becomes : Becomes s pages power t) where
  pub becomes_count : (pairs_view t).count ≡ (pairs_view s).count
  becomes_count = ap (λ n. n / 2) becomes.count

  pub becomes_same : ((q : ℕ) → (pages q).bytes ≡ (s.pages q).bytes) → (i : ℕ) → IsSamePage (pairs_view s) (pairs_view t) i
  becomes_same bytes i = record {
    first = ap (λ (x : PageState). x.bytes) (becomes.pages_are i) ∙ bytes i;
    second = ap (λ n. (t.pages (i + n / 2)).bytes) becomes.count ∙ ap (λ (x : PageState). x.bytes) (becomes.pages_are (i + s.count / 2)) ∙ bytes (i + s.count / 2);
  }

-- no event changes a candidate
pub powers_up_same : (s t : DeviceState) → PowersUp s t → (i : ℕ) → IsSamePage (pairs_view s) (pairs_view t) i
powers_up_same s t up i = becomes_same s t _ true up (λ q. refl) i

pub decays_same : (s t : DeviceState) (p : ℕ) (answer : Bool) → Decays s p answer t → (i : ℕ) → IsSamePage (pairs_view s) (pairs_view t) i
decays_same s t p answer decays i = becomes_same s t _ s.power decays.becomes (met_bytes s (Some (Decay p))) i

pub revives_same : (s t : DeviceState) (p : ℕ) → Revives s p t → (i : ℕ) → IsSamePage (pairs_view s) (pairs_view t) i
revives_same s t p revives i = becomes_same s t _ s.power revives (met_bytes s (Some (Revive p))) i

pub powers_up_pages : (s t : DeviceState) → PowersUp s t → HasSamePages (pairs_view s) (pairs_view t)
powers_up_pages s t up = record { count = becomes_count s t _ true up; pages = powers_up_same s t up }

pub decays_pages : (s t : DeviceState) (p : ℕ) (answer : Bool) → Decays s p answer t → HasSamePages (pairs_view s) (pairs_view t)
decays_pages s t p answer decays = record { count = becomes_count s t _ s.power decays.becomes; pages = decays_same s t p answer decays }

pub revives_pages : (s t : DeviceState) (p : ℕ) → Revives s p t → HasSamePages (pairs_view s) (pairs_view t)
revives_pages s t p revives = record { count = becomes_count s t _ s.power revives; pages = revives_same s t p revives }

-- what has the same pages by its definition
same_pages : (s : DeviceState) (t : DeviceState) → t.count ≡ s.count → t.pages ≡ s.pages → HasSamePages (pairs_view s) (pairs_view t)
same_pages s t count pages = record {
  count = ap (λ n. n / 2) count;
  pages = λ i. record {
    first = ap (λ (f : ℕ → PageState). (f i).bytes) pages;
    second = ap (λ (f : ℕ → PageState). (f (i + t.count / 2)).bytes) pages ∙ ap (λ n. (s.pages (i + n / 2)).bytes) count;
  };
}

pub off_pages : (s t : DeviceState) → t ≡ powered_off s → HasSamePages (pairs_view s) (pairs_view t)
off_pages s t e = same_pages s t (ap (λ (d : DeviceState). d.count) e) (ap (λ (d : DeviceState). d.pages) e)

pub arms_pages : (s t : DeviceState) (n : ℕ) (kind : FaultKind) (answer : Bool) → Arms s n kind answer t → HasSamePages (pairs_view s) (pairs_view t)
arms_pages s t n kind answer arms = same_pages s t (ap (λ (d : DeviceState). d.count) arms.armed) (ap (λ (d : DeviceState). d.pages) arms.armed)

pub disarmed_pages : (s t : DeviceState) → t ≡ disarmed s → HasSamePages (pairs_view s) (pairs_view t)
disarmed_pages s t e = same_pages s t (ap (λ (d : DeviceState). d.count) e) (ap (λ (d : DeviceState). d.pages) e)

pub cleared_pages : (s t : DeviceState) → t ≡ cleared s → HasSamePages (pairs_view s) (pairs_view t)
cleared_pages s t e = same_pages s t (ap (λ (d : DeviceState). d.count) e) (ap (λ (d : DeviceState). d.pages) e)
