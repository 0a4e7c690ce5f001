-- An image that no cause refuses is sound. Which of its parts holds isn't computed here, so what is shown is that it can't fail.
use Rattle.jn_node_laws.proofs.Common.{◌≡◌, ⊎_elim, ℕ, ◌+◌, ◌*◌, ◌≤◌, ◌<◌, ◌∙◌, ap, subst, arith, ServerNo, page_count, zero, suc, cases_lt, IsFirstFault, ToAddresses, ToFiles, ToHeads, ToMaps, ToPages, ToPairs, ToPool, ToRoot}
use Rattle.jn_image.proofs.Exclusive.{all_hold}
use Rattle.jn_image.specs.Repeats.{IsLeastFailing}
use Rattle.jn_image.specs.declared.fault.Unsound.{Unsound}
use Rattle.jn_image.specs.declared.fault.Unsound.TheVariants.{Server, Root, BadPage, PairDiffers, PoolInUse, SameFile, Address, MapPage, AddressTwice, DataTail}
use Rattle.jn_records.specs.Sound.{Image, Spot, InHead, AsMap, InMap, IsSound, PagesGood, PairsAgree, SlotsFree, HasOneHead, HeadsWhole, MapsWhole, AddressesOnce, TailsZeros}

-- ---- numbers of which none is the least that fails

module _ (Q : ℕ → Type 0) (none : (n : ℕ) → IsLeastFailing Q n → ⊥) where
  below : (n : ℕ) → (((k : ℕ) → k < n → Q k) → ⊥) → ⊥
  below zero deny = deny (λ k lt. absurd (omega (arith, lt)))
  below (suc n) deny = below n (λ low. none n (record { fails = λ here. deny (λ k lt. up-to k lt here low); below = low }))
    where
      up-to : (k : ℕ) → k < suc n → Q n → ((j : ℕ) → j < n → Q j) → Q k
      up-to k lt here low = ⊎_elim (λ l. low k l) (λ past. subst Q (let e : n ≡ k = omega (arith, lt, past) in e) here) (cases_lt k n)

  -- it holds past a bound
  bounded : (bound : ℕ) → ((n : ℕ) → bound ≤ n → Q n) → (((n : ℕ) → Q n) → ⊥) → ⊥
  bounded bound past deny = below bound (λ low. deny (λ n. ⊎_elim (λ lt. low n lt) (λ over. past n over) (cases_lt n bound)))

  -- it holds where it can't fail
  stable : ((n : ℕ) → ((Q n → ⊥) → ⊥) → Q n) → (n : ℕ) → Q n
  stable stays n = stays n (λ deny. below (n + 1) (λ low. deny (low n (omega arith))))

-- ---- what holds where it can't fail

same-number : (i j : ℕ) → ((i ≡ j → ⊥) → ⊥) → i ≡ j
same-number i j h = ⊎_elim
    (λ less. absurd (h (λ e. omega (arith, less, e))))
    (λ past. ⊎_elim (λ less. absurd (h (λ e. omega (arith, less, e)))) (λ most. omega (arith, past, most)) (cases_lt j i))
    (cases_lt i j)

in-head : (i k j l : ℕ) → InHead i k ≡ InHead j l → (i ≡ j) × (k ≡ l)
in-head i k j l e = (cc, cc)

as-map : (i k j l : ℕ) → AsMap i k ≡ AsMap j l → (i ≡ j) × (k ≡ l)
as-map i k j l e = (cc, cc)

in-map : (i k j l : ℕ) → InMap i k ≡ InMap j l → (i ≡ j) × (k ≡ l)
in-map i k j l e = (cc, cc)

same-two : (spot : ℕ → ℕ → Spot) (i k j l : ℕ) → (spot i k ≡ spot j l → (i ≡ j) × (k ≡ l)) → ((spot i k ≡ spot j l → ⊥) → ⊥) → spot i k ≡ spot j l
same-two spot i k j l tells h =
    let a = same-number i j (λ deny. h (λ e. deny ((tells e).0))) in let b = same-number k l (λ deny. h (λ e. deny ((tells e).1))) in ap (λ (n : ℕ). spot n k) a ∙ ap (spot j) b

same-spot : (x y : Spot) → ((x ≡ y → ⊥) → ⊥) → x ≡ y
same-spot (InHead i k) (InHead j l) h = same-two InHead i k j l (in-head i k j l) h
same-spot (InHead i k) (AsMap j l) h = absurd (h (λ e. cc))
same-spot (InHead i k) (InMap j l) h = absurd (h (λ e. cc))
same-spot (AsMap i k) (InHead j l) h = absurd (h (λ e. cc))
same-spot (AsMap i k) (AsMap j l) h = same-two AsMap i k j l (as-map i k j l) h
same-spot (AsMap i k) (InMap j l) h = absurd (h (λ e. cc))
same-spot (InMap i k) (InHead j l) h = absurd (h (λ e. cc))
same-spot (InMap i k) (AsMap j l) h = absurd (h (λ e. cc))
same-spot (InMap i k) (InMap j l) h = same-two InMap i k j l (in-map i k j l) h

-- ---- an image without a first fault

module _ (s : ServerNo) (m : Image) (clear : (f : Unsound) → IsFirstFault s m f → ⊥) where
  to-root : (ToRoot s m → ⊥) → ⊥
  to-root deny = clear Server (λ same. clear Root (same, λ root. deny (same, root)))

  to-pages : (ToPages s m → ⊥) → ⊥
  to-pages deny = to-root (λ t. bounded (PagesGood m) (λ p least. clear (BadPage p) (t, least)) (2 * page_count m.counts) (λ p past lt. absurd (omega (arith, past, lt))) (λ all. deny (t, all)))

  to-pairs : (ToPairs s m → ⊥) → ⊥
  to-pairs deny = to-pages (λ t. bounded (PairsAgree m) (λ i least. clear (PairDiffers i) (t, least)) (page_count m.counts) (λ i past lt. absurd (omega (arith, past, lt))) (λ all. deny (t, all)))

  to-pool : (ToPool s m → ⊥) → ⊥
  to-pool deny = to-pairs (λ t. bounded (SlotsFree m) (λ i least. clear (PoolInUse i) (t, least)) m.counts.pool (λ i past lt. absurd (omega (arith, past, lt))) (λ all. deny (t, all)))

  one-head : (f : ℕ) → ((HasOneHead m f → ⊥) → ⊥) → HasOneHead m f
  one-head f h i j a b c d e g k l = same-number i j (λ deny. h (λ one. deny (one i j a b c d e g k l)))

  to-files : (ToFiles s m → ⊥) → ⊥
  to-files deny = to-pool (λ t. deny (t, stable (HasOneHead m) (λ f least. clear (SameFile f) (t, least)) one-head))

  to-heads : (ToHeads s m → ⊥) → ⊥
  to-heads deny = to-files (λ t. bounded (HeadsWhole m) (λ i least. clear (Address i) (t, least)) m.counts.heads (λ i past lt. absurd (omega (arith, past, lt))) (λ all. deny (t, all)))

  to-maps : (ToMaps s m → ⊥) → ⊥
  to-maps deny = to-heads (λ t. bounded (MapsWhole m) (λ d least. clear (MapPage d) (t, least)) m.counts.leaves (λ d past lt. absurd (omega (arith, past, lt))) (λ all. deny (t, all)))

  one-address : (a : ℕ) → ((AddressesOnce m a → ⊥) → ⊥) → AddressesOnce m a
  one-address a h some x y at too = same-spot x y (λ deny. h (λ once. deny (once some x y at too)))

  to-addresses : (ToAddresses s m → ⊥) → ⊥
  to-addresses deny = to-maps (λ t. deny (t, stable (AddressesOnce m) (λ a least. clear (AddressTwice a) (t, least)) one-address))

  pub is-sound : (IsSound s m → ⊥) → ⊥
  is-sound deny = to-addresses (λ t. bounded (TailsZeros m) (λ i least. clear (DataTail i) (t, least)) m.counts.leaves (λ i past lt. absurd (omega (arith, past, lt))) (λ all. deny (all_hold s m t all)))
