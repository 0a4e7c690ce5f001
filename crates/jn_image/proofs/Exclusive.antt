-- An image is sound or has a fault, and not both, and it has one first fault.
use Rattle.jn_image.proofs.Common.{◌≡◌, ◌⊎◌, inl, inr, ⊎_elim, ◌<◌, ◌+◌, ℕ, zero, suc, Result, Ok, Err, refl, sym, ap, ap₂, ◌∙◌, subst, arith, IfOk, IfErr, cases_lt, ServerNo, HasRoot, HasOneHead, IsSound, Unsound, IsLeastFailing, PagesGood, PairsAgree, SlotsFree, HeadsWhole, MapsWhole, AddressesOnce, TailsZeros, ToRoot, ToPages, ToPairs, ToPool, ToFiles, ToHeads, ToMaps, ToAddresses, IsFirstFault, TellsSound}
use Rattle.jn_records.specs.Sound as sound
use Rattle.jn_image.specs.declared.fault.CheckError.{CheckError}
use Rattle.jn_image.specs.declared.fault.CheckError.TheVariants.{Unsound as AnUnsound, Memory}
use Rattle.jn_image.specs.declared.fault.Unsound.TheVariants.{Server, Root, BadPage, PairDiffers, PoolInUse, SameFile, Address, MapPage, AddressTwice, DataTail}

level : Unsound → ℕ
level Server = 0
level Root = 1
level (BadPage p) = 2
level (PairDiffers i) = 3
level (PoolInUse i) = 4
level (SameFile f) = 5
level (Address i) = 6
level (MapPage i) = 7
level (AddressTwice a) = 8
level (DataTail i) = 9

place : Unsound → ℕ
place Server = 0
place Root = 0
place (BadPage p) = p
place (PairDiffers i) = i
place (PoolInUse i) = i
place (SameFile f) = f
place (Address i) = i
place (MapPage i) = i
place (AddressTwice a) = a
place (DataTail i) = i

fault_at : ℕ → ℕ → Unsound
fault_at zero n = Server
fault_at (suc zero) n = Root
fault_at (suc (suc zero)) n = BadPage n
fault_at (suc (suc (suc zero))) n = PairDiffers n
fault_at (suc (suc (suc (suc zero)))) n = PoolInUse n
fault_at (suc (suc (suc (suc (suc zero))))) n = SameFile n
fault_at (suc (suc (suc (suc (suc (suc zero)))))) n = Address n
fault_at (suc (suc (suc (suc (suc (suc (suc zero))))))) n = MapPage n
fault_at (suc (suc (suc (suc (suc (suc (suc (suc zero)))))))) n = AddressTwice n
fault_at (suc (suc (suc (suc (suc (suc (suc (suc (suc k))))))))) n = DataTail n

is_there : (f : Unsound) → f ≡ fault_at (level f) (place f)
unfolding level place fault_at
is_there Server = refl
is_there Root = refl
is_there (BadPage p) = refl
is_there (PairDiffers i) = refl
is_there (PoolInUse i) = refl
is_there (SameFile f) = refl
is_there (Address i) = refl
is_there (MapPage i) = refl
is_there (AddressTwice a) = refl
is_there (DataTail i) = refl

last : (i n : ℕ) → i < n + 1 → (i < n) ⊎ (i ≡ n)
last i n below = ⊎_elim (λ lt. inl lt) (λ past. inr (omega (arith, below, past))) (cases_lt i n)

ordered : (a b : ℕ) → (a ≡ b) ⊎ ((a < b) ⊎ (b < a))
ordered a b = ⊎_elim (λ lt. inr (inl lt)) (λ past. ⊎_elim (λ lt. inr (inr lt)) (λ most. inl (omega (arith, past, most))) (cases_lt b a)) (cases_lt a b)

one_least : (P : ℕ → Type 0) (a b : ℕ) → IsLeastFailing P a → IsLeastFailing P b → a ≡ b
one_least P a b first other = ⊎_elim (λ e. e) (λ apart. ⊎_elim (λ lt. absurd (first.fails (other.below a lt))) (λ lt. absurd (other.fails (first.below b lt))) apart) (ordered a b)

module _ (s : ServerNo) (m : sound.Image) where
  -- the rules in their order
  abbrev P : ℕ → ℕ → Type 0
  P zero n = m.server ≡ s
  P (suc zero) n = HasRoot m
  P (suc (suc zero)) n = PagesGood m n
  P (suc (suc (suc zero))) n = PairsAgree m n
  P (suc (suc (suc (suc zero)))) n = SlotsFree m n
  P (suc (suc (suc (suc (suc zero))))) n = HasOneHead m n
  P (suc (suc (suc (suc (suc (suc zero)))))) n = HeadsWhole m n
  P (suc (suc (suc (suc (suc (suc (suc zero))))))) n = MapsWhole m n
  P (suc (suc (suc (suc (suc (suc (suc (suc zero)))))))) n = AddressesOnce m n
  P (suc (suc (suc (suc (suc (suc (suc (suc (suc k))))))))) n = TailsZeros m n

  abbrev Below : ℕ → Type 0
  Below b = (k : ℕ) → k < b → (n : ℕ) → P k n

  none : Below 0
  none k lt n = absurd (omega (arith, lt))

  more : (b : ℕ) → Below b → ((n : ℕ) → P b n) → Below (b + 1)
  more b low here k lt n = ⊎_elim (λ l. low k l n) (λ e. subst (λ j. P j n) (sym e) (here n)) (last k b lt)

  at_root : ToRoot s m → Below 2
  at_root t = more 1 (more 0 none (λ n. t.0)) (λ n. t.1)

  at_pages : ToPages s m → Below 3
  at_pages t = more 2 (at_root t.0) t.1

  at_pairs : ToPairs s m → Below 4
  at_pairs t = more 3 (at_pages t.0) t.1

  at_pool : ToPool s m → Below 5
  at_pool t = more 4 (at_pairs t.0) t.1

  at_files : ToFiles s m → Below 6
  at_files t = more 5 (at_pool t.0) t.1

  at_heads : ToHeads s m → Below 7
  at_heads t = more 6 (at_files t.0) t.1

  at_maps : ToMaps s m → Below 8
  at_maps t = more 7 (at_heads t.0) t.1

  at_addresses : ToAddresses s m → Below 9
  at_addresses t = more 8 (at_maps t.0) t.1

  always : (Q : Type 0) → (Q → ⊥) → IsLeastFailing (λ n. Q) 0
  always Q no_q = record { fails = no_q; below = λ k lt. absurd (omega (arith, lt)) }

  stands : (f : Unsound) → IsFirstFault s m f → Below (level f) × IsLeastFailing (P (level f)) (place f)
  unfolding level place
  stands Server h = (none, always (m.server ≡ s) h)
  stands Root h = (more 0 none (λ n. h.0), always (HasRoot m) h.1)
  stands (BadPage p) h = (at_root h.0, h.1)
  stands (PairDiffers i) h = (at_pages h.0, h.1)
  stands (PoolInUse i) h = (at_pairs h.0, h.1)
  stands (SameFile f) h = (at_pool h.0, h.1)
  stands (Address i) h = (at_files h.0, h.1)
  stands (MapPage i) h = (at_heads h.0, h.1)
  stands (AddressTwice a) h = (at_maps h.0, h.1)
  stands (DataTail i) h = (at_addresses h.0, h.1)

  same_level : (f g : Unsound) → IsFirstFault s m f → IsFirstFault s m g → level f ≡ level g
  same_level f g a b =
      let x = stands f a in
      let y = stands g b in
      ⊎_elim (λ e. e) (λ apart. ⊎_elim (λ lt. absurd (x.1.fails (y.0 (level f) lt (place f)))) (λ lt. absurd (y.1.fails (x.0 (level g) lt (place g)))) apart) (ordered (level f) (level g))

  pub one_fault : (f g : Unsound) → IsFirstFault s m f → IsFirstFault s m g → f ≡ g
  one_fault f g a b =
      let e = same_level f g a b in
      let x = (stands f a).1 in
      let y = (stands g b).1 in
      let same : place f ≡ place g = one_least (P (level f)) (place f) (place g) x (subst (λ l. IsLeastFailing (P l) (place g)) (sym e) y) in
      is_there f ∙ ap₂ fault_at e same ∙ sym (is_there g)

  pub no_fault : IsSound s m → (f : Unsound) → IsFirstFault s m f → ⊥
  no_fault is Server h = h is.server
  no_fault is Root h = h.1 is.root
  no_fault is (BadPage p) h = h.1.fails (is.good p)
  no_fault is (PairDiffers i) h = h.1.fails (is.pairs i)
  no_fault is (PoolInUse i) h = h.1.fails (is.pool i)
  no_fault is (SameFile f) h = h.1.fails (is.files f)
  no_fault is (Address i) h = h.1.fails (is.heads i)
  no_fault is (MapPage i) h = h.1.fails (is.maps i)
  no_fault is (AddressTwice a) h = h.1.fails (is.addresses a)
  no_fault is (DataTail i) h = h.1.fails (is.tails i)

  pub all_hold : ToAddresses s m → ((i : ℕ) → TailsZeros m i) → IsSound s m
  all_hold t tails = record {
    server = t.0.0.0.0.0.0.0.0;
    root = t.0.0.0.0.0.0.0.1;
    good = t.0.0.0.0.0.0.1;
    pairs = t.0.0.0.0.0.1;
    pool = t.0.0.0.0.1;
    files = t.0.0.0.1;
    heads = t.0.0.1;
    maps = t.0.1;
    addresses = t.1;
    tails = tails;
  }

  -- ---- what an answer tells

  module _ {V : Type 0} where
    pub tells_sound : (r : Result V CheckError) → TellsSound s m r → IfOk r (λ _. IsSound s m)
    tells_sound (Ok v) told = told
    tells_sound (Err e) told = tt

    pub tells_only : (r : Result V CheckError) → TellsSound s m r → IsSound s m → IfErr r (λ e. e ≡ Memory)
    tells_only (Ok v) told is = tt
    tells_only (Err (AnUnsound f)) told is = absurd (no_fault is f told)
    tells_only (Err Memory) told is = refl

    pub tells_fault : (r : Result V CheckError) → TellsSound s m r → (f : Unsound) → r ≡ Err (AnUnsound f) → IsFirstFault s m f
    tells_fault r told f e = subst (λ q. TellsSound s m q) e told

    pub tells_first : (r : Result V CheckError) → TellsSound s m r → (f : Unsound) → IsFirstFault s m f → (r ≡ Err (AnUnsound f)) ⊎ (r ≡ Err Memory)
    tells_first (Ok v) told f h = absurd (no_fault told f h)
    tells_first (Err (AnUnsound g)) told f h = inl (ap (λ q. Err (AnUnsound q)) (one_fault g f told h))
    tells_first (Err Memory) told f h = inr refl
