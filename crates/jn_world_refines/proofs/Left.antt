-- What a step leaves beside the stable state on the pages of each server that is up afterwards.
use Rattle.jn_world_refines.proofs.Common.{◌≡◌, ◌⊎◌, inl, inr, ◌≢◌, ℕ, true, false, List, slice_get, Option, Some, None, is_some, true≢false, refl, sym, ◌∙◌, ap, subst, ⊤, ServerNo, Server, server_eq, server_tells, DeviceState, Message, Place, Slot, Up, Down, Gone, WhereUp, Counts, counts_by, StableState, Pick, Parts, ServerView, view_with, standing_pages, pairs_view, StoreView, Room, World, Memory, Step, Deliver, run, Setup, Devices, left_by_step, left_by_steps, AreLeft, Moment, Standing, StandsAt, Stands, HasCounts, left-sent, pages_by, Beside, beside_of, beside_on, beside_by, beside_at}
use Rattle.jn_world_refines.proofs.Servers.{IsAlone}

-- steps change nothing of what a server has
abbrev pub AreQuiet : World → List Step → ServerNo → Type 0
AreQuiet v steps s = (reads : Pick → Beside) (before : Beside) → left_by_steps reads v s steps before ≡ before

-- where nothing befell the devices
pub left-same : (x : Setup) (v : World) (steps : List Step) (ds es : Devices) → ((s : ServerNo) → es s ≡ ds s) → ((s : ServerNo) → AreQuiet v steps s) → AreLeft x steps v ds es
left-same x v steps ds es same quiet = λ q l up. ap (λ (d : DeviceState). beside_on (x.counts q) (standing_pages (pairs_view d))) (same q) ∙ sym (quiet q (beside_by x ds q) (beside_at x ds q))

-- a server that is down loses a message
pub lost-quiet : (v : World) (q : ServerNo) (k : ℕ) (room : Room) (message : Message) → slice_get v.sent k ≡ Some (Server q, message) → v.memory q ≡ None → (s : ServerNo) (reads : Pick → Beside) (before : Beside) → left_by_step reads v s (Deliver k room) before ≡ before
lost-quiet v q k room message sent none s reads before = by (server_tells q s)
  where
    by : ((server_eq q s ≡ true) × (q ≡ s)) ⊎ ((server_eq q s ≡ false) × (q ≢ s)) → left_by_step reads v s (Deliver k room) before ≡ before
    by (inl t) = left-sent reads v s k room q message sent true t.0 None (ap (λ (r : ServerNo). v.memory r) (sym t.1) ∙ none) before
    by (inr t) = left-sent reads v s k room q message sent false t.0 (v.memory s) refl before

module _ {S : Type 0} (look : S → StoreView) where
  -- what a server that is up counts
  abbrev pub counted : Parts S → Beside
  counted p = beside_of (view_with look p).storage.accounts

  -- what stands at a place now, and what stood there before: it counts what the steps leave
  abbrev pub Leaves : (Pick → Beside) → World → ServerNo → List Step → Slot S → Slot S → Type 0
  Leaves reads v q steps (Up p') (Up p) = counted p' ≡ left_by_steps reads v q steps (counted p)
  Leaves reads v q steps (Up p') (Down s) = (before : Beside) → counted p' ≡ left_by_steps reads v q steps before
  Leaves reads v q steps (Up p') Gone = ⊤
  Leaves reads v q steps (Down t) before = ⊤
  Leaves reads v q steps Gone before = ⊤

  pub leaves-from : (reads : Pick → Beside) (v : World) (q : ServerNo) (steps : List Step) (before was after : Slot S) → before ≡ was → Leaves reads v q steps after was → Leaves reads v q steps after before
  leaves-from reads v q steps before was after is h = subst (λ (a : Slot S). Leaves reads v q steps after a) (sym is) h

  -- by what a call of the server says
  pub leaves-by : (reads : Pick → Beside) (v : World) (q : ServerNo) (steps : List Step) (so : ServerView → ServerView → Type 0) (p : Parts S)
      → ((b : ServerView) → so (view_with look p) b → beside_of b.storage.accounts ≡ left_by_steps reads v q steps (counted p))
      → (after : Slot S) → WhereUp look so (Up p) after → Leaves reads v q steps after (Up p)
  leaves-by reads v q steps so p says (Up p') h = says (view_with look p') h
  leaves-by reads v q steps so p says (Down t) h = tt
  leaves-by reads v q steps so p says Gone h = tt

module _ {S : Type 0} (look : S → StoreView) (device : S → DeviceState) (seen : (s : S) → look s ≡ pairs_view (device s)) where
  pub records-at : (q : ServerNo) (g : Counts) (p : Parts S) (d : DeviceState) → HasCounts look q g (Up p) → d ≡ device p.storage.0 → beside_on g (standing_pages (pairs_view d)) ≡ counted look p
  records-at q g p d h e = ap (λ (c : DeviceState). beside_on g (standing_pages (pairs_view c))) e
      ∙ ap (λ (v : StoreView). beside_on g (standing_pages v)) (sym (seen p.storage.0)) ∙ sym h.1

  module _ (x : Setup) (w : Standing S) (m : Moment) (stand : Stands look device x w m) where
    abbrev v : World
    v = m.state.course.world

    at-slots : (reads : Pick → Beside) (q : ServerNo) (steps : List Step) (g : Counts) (after before : Slot S) (memory memory' : Option Memory) (found found' : Pick → StableState) (d e : DeviceState)
        → StandsAt look device g after memory' found' e → HasCounts look q g after → StandsAt look device g before memory found d → HasCounts look q g before
        → Leaves look reads v q steps after before → is_some memory' ≡ true
        → beside_on g (standing_pages (pairs_view e)) ≡ left_by_steps reads v q steps (beside_on g (standing_pages (pairs_view d)))
    at-slots reads q steps g (Up p') (Up p) memory memory' found found' d e a k b j l up =
        records-at q g p' e k a.2 ∙ l ∙ ap (λ (b : Beside). left_by_steps reads v q steps b) (sym (records-at q g p d j b.2))
    at-slots reads q steps g (Up p') (Down s) memory memory' found found' d e a k b j l up = records-at q g p' e k a.2 ∙ l (beside_on g (standing_pages (pairs_view d)))
    at-slots reads q steps g (Up p') Gone memory memory' found found' d e a k b j l up = absurd b
    at-slots reads q steps g (Down t) before memory memory' found found' d e a k b j l up = absurd (true≢false (sym up ∙ ap (λ (o : Option Memory). is_some o) a.0))
    at-slots reads q steps g Gone before memory memory' found found' d e a k b j l up = absurd a

    -- where one server and its device change
    pub left-alone : (steps : List Step) (last : Moment) → last.state.course.world ≡ run steps v → (q : ServerNo) (place : Place S) → slice_get w.places q.0 ≡ Some place → (slot : Slot S)
        → IsAlone look device seen x w m stand last q (counts_by place.counts) slot → ((s : ServerNo) → server_eq q s ≡ false → AreQuiet v steps s) → Leaves look (beside_by x m.devices q) v q steps slot place.slot
        → AreLeft x steps v m.devices last.devices
    left-alone steps last is q place at slot alone others leaves = λ s l up. by s (server_tells q s) up
      where
        leaves-as : x.counts q ≡ counts_by place.counts → Leaves look (λ c. beside_on (counts_by place.counts) (pages_by (pairs_view (m.devices q)) c)) v q steps slot place.slot
        leaves-as counts = subst (λ (g : Counts). Leaves look (λ c. beside_on g (pages_by (pairs_view (m.devices q)) c)) v q steps slot place.slot) counts leaves

        here : is_some ((run steps v).memory q) ≡ true → beside_at x last.devices q ≡ left_by_steps (beside_by x m.devices q) v q steps (beside_at x m.devices q)
        here up =
            let own = stand.places q.0 place at in
            subst (λ (g : Counts). beside_on g (standing_pages (pairs_view (last.devices q))) ≡ left_by_steps (λ c. beside_on g (pages_by (pairs_view (m.devices q)) c)) v q steps (beside_on g (standing_pages (pairs_view (m.devices q)))))
            (sym own.counts)
            (at-slots (λ c. beside_on (counts_by place.counts) (pages_by (pairs_view (m.devices q)) c)) q steps (counts_by place.counts) slot place.slot (v.memory q) (last.state.course.world.memory q) (v.found q) (last.state.course.world.found q) (m.devices q) (last.devices q)
            alone.here alone.counts own.stands own.pages (leaves-as own.counts) (ap (λ (u : World). is_some (u.memory q)) is ∙ up))

        by : (s : ServerNo) → ((server_eq q s ≡ true) × (q ≡ s)) ⊎ ((server_eq q s ≡ false) × (q ≢ s)) → is_some ((run steps v).memory s) ≡ true
            → beside_at x last.devices s ≡ left_by_steps (beside_by x m.devices s) v s steps (beside_at x m.devices s)
        by s (inl t) up = subst (λ (r : ServerNo). is_some ((run steps v).memory r) ≡ true → beside_at x last.devices r ≡ left_by_steps (beside_by x m.devices r) v r steps (beside_at x m.devices r)) t.1 here up
        by s (inr t) up = ap (λ (d : DeviceState). beside_on (x.counts s) (standing_pages (pairs_view d))) (alone.devices s t.0) ∙ sym (others s t.0 (beside_by x m.devices s) (beside_at x m.devices s))
