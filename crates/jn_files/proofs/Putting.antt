-- What a store holds over the put of one page of heads or map pages.
use Rattle.jn_files.proofs.Common.{◌≡◌, ◌≢◌, ◌⊎◌, inl, inr, ⊎_elim, ◌<◌, ◌^◌, ℕ, suc, Bool, true, false, List, length, refl, sym, ap, subst, ◌∙◌, arith, slice_set, most_maps, most_blocks, Change, change, Head, head_page, map_page, at_cell, layout_at, head_map, Counts, Pages, head_place, data_place, page_count, files_of_pages, StoreView, Candidate, IsOnly, StorePut, IsChoice, with_page, Leads, choice_only, put_leads, done_leads, with_same, with_other, TableView, head_in, row_at, layouts_of, layouts_in, files_of, AreHeads, IsTable, Says, leaves_in, IsLeaf, HoldsHeads, HoldsTable, files_in, HasPagesOfTable, IsChanged, PutsLayout, IsChange}
use Rattle.jn_files.proofs.Said.{files_said, same_leaves, says_choice, leaf_choice, files_first, named_below, map_below, same_leaf, same_only}

-- each page of these heads and map pages is the one that is put, or stands alone in the store, and so do those of their blocks
pub record PagesStand (g : Counts) (rows : List (List ℕ)) (heads : List Head) (v : StoreView) (place : ℕ) (page : List ℕ) : Type 0 where
  pub of_heads : (slot : ℕ) → slot < length heads → ((head_place g slot ≡ place) × (head_page (head_in heads slot) ≡ page)) ⊎ ((head_place g slot ≢ place) × IsOnly v (head_place g slot) (head_page (head_in heads slot)))
  pub of_maps : (slot j d : ℕ) → j < most_maps → head_map (head_in heads slot) j ≡ suc d
      → ((data_place g d ≡ place) × (map_page (row_at rows d) ≡ page)) ⊎ ((data_place g d ≢ place) × IsOnly v (data_place g d) (map_page (row_at rows d)))
  pub of_leaves : (slot p a : ℕ) → p < most_blocks → at_cell (layout_at (layouts_of rows heads) slot) p ≡ suc a → (data_place g a ≢ place) × IsLeaf v (data_place g a)

module _ (g : Counts) (rows : List (List ℕ)) (heads : List Head) (v : StoreView) (place : ℕ) (page : List ℕ) (stand : PagesStand g rows heads v place page)
    (slots : length heads ≡ g.heads) (small : g.leaves < 2 ^ 16) (are : AreHeads g.leaves rows heads) (fits : v.count ≡ page_count g) where
  -- what a page that stands so is in a choice with the page that is put
  page_new : (d c : Pages) → IsChoice v c → ((i : ℕ) → i < v.count → d i ≡ with_page c place page i) → (i : ℕ) (x : List ℕ) → i < v.count → ((i ≡ place) × (x ≡ page)) ⊎ ((i ≢ place) × IsOnly v i x) → d i ≡ x
  page_new d c choice agree i x below (inl at) = agree i below ∙ with_same c place page i (sym at.0) ∙ sym at.1
  page_new d c choice agree i x below (inr other) = agree i below ∙ with_other c place page i (λ e. other.0 (sym e)) ∙ choice_only v c i x choice below other.1

  pub stands_says : (d : Pages) → Leads v (λ c. with_page c place page) d → Says g d rows heads
  stands_says d leads = record {
    of_heads = λ j lt. page_new d leads.0 leads.1 leads.2 (head_place g j) (head_page (head_in heads j)) (omega arith) (stand.of_heads j lt);
    of_maps = λ slot j k low e. page_new d leads.0 leads.1 leads.2 (data_place g k) (map_page (row_at rows k)) (let lt = map_below g rows heads are slot j k e in omega arith) (stand.of_maps slot j k low e);
  }

  stands_leaf : (d : Pages) → Leads v (λ c. with_page c place page) d → (slot p a : ℕ) → p < most_blocks → at_cell (layout_at (layouts_of rows heads) slot) p ≡ suc a → d (data_place g a) ≡ v.first (data_place g a)
  stands_leaf d leads slot p a low e =
      let lt = named_below g rows heads are slot p a e in
      let leaf = stand.of_leaves slot p a low e in
      page_new d leads.0 leads.1 leads.2 (data_place g a) (v.first (data_place g a)) (omega arith) (inr (leaf.0, record { first = refl; second = sym leaf.1.clean }))

  pub stands_files : (d : Pages) → Leads v (λ c. with_page c place page) d → files_of_pages g d ≡ files_of (layouts_of rows heads) (leaves_in g v.first)
  stands_files d leads = files_said g rows heads d slots small are (stands_says d leads)
      ∙ same_leaves rows heads (leaves_in g d) (leaves_in g v.first) (λ slot p a low e. stands_leaf d leads slot p a low e)

  module _ (w : StoreView) (put : StorePut v place page true w) where
    only_new : (i : ℕ) (x : List ℕ) → i < v.count → ((i ≡ place) × (x ≡ page)) ⊎ ((i ≢ place) × IsOnly v i x) → IsOnly w i x
    only_new i x below (inl at) = subst (λ (l : List ℕ). IsOnly w i l) (sym at.1) (subst (λ (k : ℕ). IsOnly w k page) (sym at.0) (put.done refl))
    only_new i x below (inr other) = same_only v w i x (put.others i below other.0) other.1

    pub stands_held : HoldsHeads g rows heads w
    stands_held = record {
      stored = λ j lt. only_new (head_place g j) (head_page (head_in heads j)) (omega arith) (stand.of_heads j lt);
      maps = λ slot j d low e. only_new (data_place g d) (map_page (row_at rows d)) (let lt = map_below g rows heads are slot j d e in omega arith) (stand.of_maps slot j d low e);
      leaves = λ slot p a low e.
          let lt = named_below g rows heads are slot p a e in
          let leaf = stand.of_leaves slot p a low e in
          same_leaf v w (data_place g a) (put.others (data_place g a) (omega arith) leaf.0) leaf.1;
    }

-- one put, done or stopped
module _ (t : TableView) (v : StoreView) (slot : ℕ) (heads : List Head) (rows : List (List ℕ)) (place : ℕ) (page : List ℕ) (c : (ℕ → List ℕ) → Change) (ok : Bool) (u : TableView) (w : StoreView)
    (is : IsTable t) (fits : HasPagesOfTable t v) (below : place < v.count) (slots : length heads ≡ length t.heads) (sound : AreHeads t.counts.leaves rows heads)
    (one : layouts_of rows heads ≡ slice_set (layouts_in t) slot (layout_at (layouts_of rows heads) slot)) (stand : HoldsTable t v → PagesStand t.counts rows heads v place page)
    (changes : IsChange t heads rows c) (put : StorePut v place page ok w) (done : ok ≡ true → IsChanged t heads rows u) (stopped : ok ≡ false → u ≡ t) where
  many : length heads ≡ t.counts.heads
  many = slots ∙ is.slots

  module _ (holds : HoldsTable t v) where
    choice_of : (d : Pages) → Leads v (λ c. c) d → IsChoice v d
    choice_of d leads i lt = subst (λ (x : List ℕ). Candidate v i x) (sym (leads.2 i lt)) (leads.1 i lt)

    says_old : (d : Pages) → Leads v (λ c. c) d → Says t.counts d t.maps t.heads
    says_old d leads = says_choice t.counts t.maps t.heads v is.slots is.few_leaves is.heads fits holds d (choice_of d leads)

    files_before : files_in t.counts v ≡ files_of (layouts_in t) (leaves_in t.counts v.first)
    files_before = files_first t.counts t.maps t.heads v is.slots is.few_leaves is.heads fits holds

    files_old : (d : Pages) → Leads v (λ c. c) d → files_of_pages t.counts d ≡ files_in t.counts v
    files_old d leads =
        files_said t.counts t.maps t.heads d is.slots is.few_leaves is.heads (says_old d leads)
        ∙ same_leaves t.maps t.heads (leaves_in t.counts d) (leaves_in t.counts v.first) (λ j p a low e.
        leaf_choice t.counts t.maps t.heads v is.slots is.few_leaves is.heads fits holds d a (choice_of d leads) (named_below t.counts t.maps t.heads is.heads j p a e) (holds.leaves j p a low e))
        ∙ sym files_before

    says_put : (d : Pages) → Leads v (λ c. with_page c place page) d → Says t.counts d rows heads
    says_put d leads = stands_says t.counts rows heads v place page (stand holds) many is.few_leaves sound fits d leads

    files_new : (d : Pages) → Leads v (λ c. with_page c place page) d → files_of_pages t.counts d ≡ change (c (λ a. v.first (data_place t.counts a))) (files_in t.counts v)
    files_new d leads =
        stands_files t.counts rows heads v place page (stand holds) many is.few_leaves sound fits d leads
        ∙ changes (leaves_in t.counts v.first)
        ∙ ap (change (c (λ a. v.first (data_place t.counts a)))) (sym files_before)

    holds_after : ok ≡ true → HoldsTable u w
    holds_after e =
        let ch = done e in
        let held = stands_held t.counts rows heads v place page (stand holds) many is.few_leaves sound fits w (subst (λ (b : Bool). StorePut v place page b w) e put) in
        subst (λ (n : Counts). HoldsHeads n u.maps u.heads w) (sym ch.counts) (subst (λ (l : List Head). HoldsHeads t.counts u.maps l w) (sym ch.heads) (subst (λ (l : List (List ℕ)). HoldsHeads t.counts l heads w) (sym ch.maps) held))

  pub puts_layout : PutsLayout t v slot heads rows place page c ok u w
  puts_layout = record {
    put = put;
    done = done;
    stopped = stopped;
    one = one;
    sound = sound;
    holds = λ holds e. holds_after holds e;
    says_new = λ holds e d choice. says_put holds d (done_leads v place page ok w put below d choice e);
    old_or_new = λ holds d choice. ⊎_elim (λ l. inl (says_old holds d l)) (λ l. inr (says_put holds d l)) (put_leads v place page ok w put below d choice);
    changes = changes;
    files_done = λ holds e d choice. files_new holds d (done_leads v place page ok w put below d choice e);
    files_stopped = λ holds d choice. ⊎_elim (λ l. inl (files_old holds d l)) (λ l. inr (files_new holds d l)) (put_leads v place page ok w put below d choice);
  }
