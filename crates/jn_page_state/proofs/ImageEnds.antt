-- A store without records, each page of which is whole, is one of a sound image.
use Rattle.jn_page_state.proofs.Common.{if◌then◌else◌, ◌≡◌, inr, ◌<◌, ◌≤◌, ◌+◌, ◌*◌, ◌-◌, ◌^◌, ℕ, zero, suc, Bool, true, false, List, [], refl, sym, ◌∙◌, ap, subst, arith, nat_tests, nat_lt, drop, ServerNo, Head, FreeHead, Used, Record, Free, root_page, root_by, format_version, record_page, Image, IsSound, Counts, Pages, page_count, slot_place, head_place, data_place, is_used, file_in, address_in, map_in, entry_in, IsMapPage, record_in, slot_page, StoreView, IsOnly, IsWholePage, head_blocks, most_maps, map_cell, head_in, entry_of, layouts_in, layout_at, is_layout_of, image_on, place_in, IsImage, pages_by, block_on, contents_of, IsOfFormat, IsConsistent, Addresses, IsStanding, standing_state, fits_version, Spot, InHead, AsMap, InMap, IsWrittenAt, heads_on}
use Rattle.jn_page_state.proofs.Images.{layouts_once}
use Rattle.jn_page_state.proofs.ImageStates.{files_agree}
use Rattle.jn_page_state.proofs.Laying.{entry_cell}
use Rattle.jn_page_state.proofs.Spots.{HeadCell, EntryCell, MapCell, cell_of_page, file_of_page, names_same}

below_is : (a b : ℕ) → a < b → nat_lt a b ≡ true
below_is a b h = grind (arith, nat_tests)

past_is : (a b : ℕ) → b ≤ a → nat_lt a b ≡ false
past_is a b h = grind (arith, nat_tests)

-- a head of the version that is written may have map pages
fits_written : (h : Head) → fits_version format_version h ≡ true
fits_written FreeHead = refl
fits_written (Used f xs maps) = refl

-- ---- an address's spot by its cell

data Holds (g : Counts) (pages : Pages) (x : Spot) (i q : ℕ) : Type 0 where
  HoldsHead : q < head_blocks → x ≡ InHead i q → Holds g pages x i q
  HoldsMap : (j : ℕ) → q ≡ map_cell j → x ≡ AsMap i j → Holds g pages x i q
  HoldsEntry : (j d k : ℕ) → j < most_maps → k < head_blocks → q ≡ entry_cell j k → map_in (pages (head_place g i)) j ≡ suc d → x ≡ InMap d k → Holds g pages x i q

module _ (g : Counts) (pages : Pages) where
  not_map : (q j : ℕ) → q < head_blocks → q ≡ map_cell j → ⊥
  not_map q j low e = omega (arith, low, e)

  not_entry : (q j k : ℕ) → q < head_blocks → q ≡ entry_cell j k → ⊥
  not_entry q j k low e = omega (arith, low, e)

  entry_no_map : (q h j k : ℕ) → q ≡ map_cell h → j < most_maps → k < head_blocks → q ≡ entry_cell j k → ⊥
  entry_no_map q h j k e few below at = omega (arith, e, few, below, at)

  one_map : (q h j : ℕ) → q ≡ map_cell h → q ≡ map_cell j → h ≡ j
  one_map q h j d e = omega (arith, d, e)

  one_entry : (q h j k n : ℕ) → k < head_blocks → n < head_blocks → q ≡ entry_cell h k → q ≡ entry_cell j n → (h ≡ j) × (k ≡ n)
  one_entry q h j k n low below d e = (omega (arith, low, below, d, e), omega (arith, low, below, d, e))

  one_page : (a b c : ℕ) → a ≡ suc b → a ≡ suc c → b ≡ c
  one_page a b c d e = omega (arith, d, e)

  one_spot : (x y : Spot) (i q : ℕ) → Holds g pages x i q → Holds g pages y i q → x ≡ y
  one_spot x y i q (HoldsHead low is) (HoldsHead below at) = is ∙ sym at
  one_spot x y i q (HoldsHead low is) (HoldsMap j e at) = absurd (not_map q j low e)
  one_spot x y i q (HoldsHead low is) (HoldsEntry j d k few below e names at) = absurd (not_entry q j k low e)
  one_spot x y i q (HoldsMap h e is) (HoldsHead low at) = absurd (not_map q h low e)
  one_spot x y i q (HoldsMap h e is) (HoldsMap j d at) = is ∙ ap (λ n. AsMap i n) (one_map q h j e d) ∙ sym at
  one_spot x y i q (HoldsMap h e is) (HoldsEntry j d k few below at names same) = absurd (entry_no_map q h j k e few below at)
  one_spot x y i q (HoldsEntry h b k few below e names is) (HoldsHead low at) = absurd (not_entry q h k low e)
  one_spot x y i q (HoldsEntry h b k few below e names is) (HoldsMap j d at) = absurd (entry_no_map q j h k d few below e)
  one_spot x y i q (HoldsEntry h b k few below e names is) (HoldsEntry j d n small low f named at) =
      let same = one_entry q h j k n below low e f in
      is ∙ ap (λ z. InMap z k) (one_page (map_in (pages (head_place g i)) j) b d (ap (λ z. map_in (pages (head_place g i)) z) (sym same.0) ∙ names) named) ∙ ap (λ z. InMap d z) same.1 ∙ sym at

module _ (server : ServerNo) (g : Counts) (v : StoreView) (epoch : ℕ) (records : List Record) (heads : List Head) (rows : List (List ℕ)) (standing : IsStanding server g v epoch records heads rows)
    (root : IsOnly v 0 (root_page (root_by server g epoch))) (free : (i : ℕ) → record_in records i ≡ Free) (whole : (i : ℕ) → i < v.count → IsWholePage v i) where
  abbrev m : Image
  m = image_on server g v

  count : page_count g ≡ v.count
  count = standing.held.count

  few : g.leaves < 2 ^ 16
  few = standing.held.root_fits.leaves

  format : IsOfFormat server g (pages_by v (λ n. false))
  format = (standing.recoverable.each (λ n. false)).of_format

  page_is : (k : ℕ) → k < page_count g → m.bytes k ≡ v.first k
  page_is k lt = ap (λ b. if b then v.first k else v.second (k - v.count)) (below_is k v.count (omega (arith, lt, count)))

  picked_is : (k : ℕ) → k < page_count g → pages_by v (λ n. false) k ≡ m.bytes k
  picked_is k lt = ap (λ b. if b then v.first k else []) (below_is k v.count (omega (arith, lt, count))) ∙ sym (page_is k lt)

  head_at : (i : ℕ) → i < g.heads → pages_by v (λ n. false) (head_place g i) ≡ m.bytes (head_place g i)
  head_at i lt = picked_is (head_place g i) (omega (arith, lt))

  data_at : (d : ℕ) → d < g.leaves → pages_by v (λ n. false) (data_place g d) ≡ m.bytes (data_place g d)
  data_at d lt = picked_is (data_place g d) (omega (arith, lt))

  halves : (i : ℕ) → i < page_count g → m.bytes i ≡ m.bytes (i + page_count g)
  halves i lt =
      let behind : i + page_count g - v.count ≡ i = omega (arith, count) in
      page_is i lt ∙ (whole i (omega (arith, lt, count))).clean
      ∙ ap v.second (sym behind)
      ∙ sym (ap (λ b. if b then v.first (i + page_count g) else v.second (i + page_count g - v.count)) (past_is (i + page_count g) v.count (omega (arith, count))))

  good : (p : ℕ) → p < 2 * page_count g → v.both (place_in v.count p) ≡ true
  good p lt = by (nat_lt p v.count) refl
    where
      by : (b : Bool) → nat_lt p v.count ≡ b → v.both (if b then p else p - v.count) ≡ true
      by true t = (whole p (grind (arith, nat_tests, t))).both
      by false t = (whole (p - v.count) (grind (arith, nat_tests, t, lt, count))).both

  all : IsConsistent g (contents_of g (pages_by v (λ n. false)))
  all = (standing.recoverable.each (λ n. false)).consistent

  used_at : (i : ℕ) → i < g.heads → is_used (m.bytes (head_place g i)) ≡ true → is_used (pages_by v (λ n. false) (head_place g i)) ≡ true
  used_at i lt used = ap is_used (head_at i lt) ∙ used

  one_head : (f i j : ℕ) → i < g.heads → j < g.heads → is_used (m.bytes (head_place g i)) ≡ true → file_in (m.bytes (head_place g i)) ≡ f → is_used (m.bytes (head_place g j)) ≡ true → file_in (m.bytes (head_place g j)) ≡ f → i ≡ j
  one_head f i j a b used is used' is' = layouts_once (entry_of (block_on g (pages_by v (λ n. false)))) (heads_on g (pages_by v (λ n. false))) all.distinct.files (record { 0 = f }) i j (of_file i a used is) (of_file j b used' is')
    where
      of_file : (i : ℕ) → i < g.heads → is_used (m.bytes (head_place g i)) ≡ true → file_in (m.bytes (head_place g i)) ≡ f → is_layout_of (record { 0 = f }) (layout_at (layouts_in (contents_of g (pages_by v (λ n. false)))) i) ≡ true
      of_file i lt used is = file_of_page g (pages_by v (λ n. false)) few format.heads (entry_of (block_on g (pages_by v (λ n. false)))) i (record { 0 = f }) lt (used_at i lt used) (ap file_in (head_at i lt) ∙ is)

  record Located (x : Spot) (a : ℕ) : Type 0 where
    place : ℕ
    cell : ℕ
    stands : Addresses (layouts_in (contents_of g (pages_by v (λ n. false)))) place cell a
    holds : Holds g (pages_by v (λ n. false)) x place cell

  located : (a : ℕ) (x : Spot) → IsWrittenAt m (suc a) x → Located x a
  located a (InHead i k) w = record {
    place = i;
    cell = k;
    stands = cell_of_page g (pages_by v (λ n. false)) few format.heads i k a w.0.head (used_at i w.0.head w.0.used) (HeadCell w.0.below (ap (λ page. address_in page k) (head_at i w.0.head) ∙ w.1));
    holds = HoldsHead w.0.below refl;
  }
  located a (AsMap i j) w = record {
    place = i;
    cell = map_cell j;
    stands = cell_of_page g (pages_by v (λ n. false)) few format.heads i (map_cell j) a w.0.head (used_at i w.0.head w.0.used) (MapCell j w.0.below refl (ap (λ page. map_in page j) (head_at i w.0.head) ∙ w.1));
    holds = HoldsMap j refl refl;
  }
  located a (InMap d k) w =
      let n = w.1 in
      let named = ap (λ page. map_in page n.at) (head_at n.head n.is_head) ∙ n.names in
      record {
        place = n.head;
        cell = entry_cell n.at k;
        stands = cell_of_page g (pages_by v (λ n. false)) few format.heads n.head (entry_cell n.at k) a n.is_head (used_at n.head n.is_head n.used)
            (EntryCell n.at d k n.below w.2 refl named (ap (λ page. entry_in page k) (data_at d w.0) ∙ w.3));
        holds = HoldsEntry n.at d k n.below w.2 refl named refl;
      }

  addressed : (a : ℕ) (x y : Spot) → IsWrittenAt m (suc a) x → IsWrittenAt m (suc a) y → x ≡ y
  addressed a x y u w =
      let h = located a x u in
      let k = located a y w in
      let same = all.addresses.heads a h.place h.cell k.place k.cell h.stands k.stands in
      one_spot g (pages_by v (λ n. false)) x y h.place h.cell h.holds
      (subst (λ i. Holds g (pages_by v (λ n. false)) y i h.cell) (sym same.0) (subst (λ q. Holds g (pages_by v (λ n. false)) y k.place q) (sym same.1) k.holds))

  once : (a : ℕ) → 0 < a → (x y : Spot) → IsWrittenAt m a x → IsWrittenAt m a y → x ≡ y
  once zero least x y u w = absurd (omega (arith, least))
  once (suc a) least x y u w = addressed a x y u w

  sound : IsSound server (image_on server g v)
  sound = record {
    server = refl;
    root = (epoch, standing.held.root_fits.epoch, page_is 0 (omega arith) ∙ root.first, inr refl);
    good = good;
    pairs = halves;
    pool = λ i lt. let at : slot_place g i ≡ slot_page i = omega arith in page_is (slot_place g i) (omega (arith, lt)) ∙ ap v.first at ∙ (standing.held.pool i (let e = standing.held.slots in omega (arith, lt, e))).only.first ∙ ap record_page (free i);
    files = λ f i j a b x y. one_head f i j a b;
    heads = λ i lt. let at = standing.held.heads_stored i lt in (head_in heads i, at.whole, at.fits, fits_written (head_in heads i), page_is (head_place g i) (omega (arith, lt)) ∙ at.only.first);
    maps = λ d lt named. subst (IsMapPage g.leaves) (data_at d lt) (format.maps d lt (names_same g m.bytes (pages_by v (λ n. false)) (λ i low. sym (head_at i low)) d named));
    addresses = once;
    tails = λ i lt. ap (drop 448) (sym (data_at i lt)) ∙ format.data_pages i lt;
  }

  pub is_image : IsImage server g (standing_state g v).files v
  is_image = record {
    sound = sound;
    fit = let fits = standing.held.root_fits in record { server_fits = fits.server; pool = fits.pool; heads = fits.heads; leaves = fits.leaves };
    same_files = sym (files_agree g (pages_by v (λ n. false)) m.bytes few format.heads format.maps (λ k lt. picked_is k lt));
  }
