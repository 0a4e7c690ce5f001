-- A world whose call settled is settled.
use Rattle.jn_settles.proofs.Common.{◌≡◌, ◌⊎◌, inl, inr, ℕ, suc, ◌≤◌, ◌<◌, Bool, true, false, List, Option, Some, None, true≢false, sym, ◌∙◌, ap, subst, arith, slice_get, list_any, slice_get_within, WorkId, DeviceState, pool_on, waiting, Place, Slot, Up, Down, Gone, is_up, Counts, counts_by, Line, Work, StableState, Pick, view_with, memory_of, StoreView, World, Memory, own_texts, tells_waiting, tells_outcome, holds_undecided, live_at, Setup, pages_of, Moment, IsTold, Standing, StandsAt, Stands, texts_since, LeavesSettled, memory_at, live_in, AllUp}
use Rattle.jn_base.specs.declared.names.ClientNo.{ClientNo}
use Rattle.jn_report.specs.declared.line.Text.{Text}
use Rattle.jn_base.specs.declared.op.Command.TheVariants.{End}
use Rattle.jn_rows.specs.declared.client.Outstanding.{Outstanding}
use Rattle.jn_rows.specs.Client.{ClientTable}
use Rattle.jn_rows.specs.Stable.{is_going}
use Rattle.jn_server.specs.Standing.{has_rubbish}
use Rattle.jn_world_refines.proofs.WaitingNumbers.{least-waits}
use Rattle.jn_settles.specs.Settled.{HasNothingLeft, IsSettledWorld}
use Rattle.jn_settles.proofs.Places.{below-of, memory-there, live-near, live-there, tid-near}
use Rattle.jn_settles.proofs.Going.{same-texts}

module _ {S : Type 0} (look : S → StoreView) (device : S → DeviceState) (x : Setup) (before after : Standing S) (m last : Moment) (lines lines' : List Line) (stood : Stands look device x before m) (stands : Stands look device x after last)
    (told : IsTold m last lines lines') (up : AllUp after.places) (l : LeavesSettled x m last) where
  abbrev now : World
  now = last.state.course.world

  -- what was reported is in the lines
  in-lines : (is : Text → Bool) → list_any is (own_texts m.state.course.world last.state.course.world) ≡ true → list_any is (texts_since lines lines') ≡ true
  in-lines is e = ap (list_any is) (sym (same-texts m last lines lines' told)) ∙ l.told is e

  none-waits : waiting after.net ≡ None
  none-waits = least-waits after.net ∙ ap (λ (ks : List ℕ). slice_get ks 0) (sym stands.net.waiting ∙ l.settled.waits)

  at-slot : (n : ℕ) → n < x.servers → (g : Counts) (slot : Slot S) → is_up slot ≡ true → x.counts (record { 0 = n }) ≡ g → StandsAt look device g slot (now.memory (record { 0 = n })) (now.found (record { 0 = n })) (last.devices (record { 0 = n }))
      → HasNothingLeft look device g slot
  at-slot n below g (Up p) is counts s = (
    record {
      goes = λ c W. subst (λ (f : Pick → StableState). is_going ((f c).works W) ≡ false) s.1 (l.settled.goes (record { 0 = n }) (memory_of (view_with look p)) c W below s.0);
      flags = λ c T. subst (λ (f : Pick → StableState). (f c).flags T ≡ None) s.1 (l.settled.flags (record { 0 = n }) c T below);
    },
    subst (λ (d : DeviceState). has_rubbish (pool_on g (pages_of d)) ≡ false) s.2 (subst (λ (h : Counts). has_rubbish (pool_on h (pages_of (last.devices (record { 0 = n })))) ≡ false) counts (l.rubbish (record { 0 = n }) below)),
  )
  at-slot n below g (Down t) is counts s = absurd (true≢false (sym is))
  at-slot n below g Gone is counts s = absurd (true≢false (sym is))

  servers-are : (n : ℕ) (p : Place S) → slice_get after.places n ≡ Some p → HasNothingLeft look device (counts_by p.counts) p.slot
  servers-are n p at = let it = stands.places n p at in at-slot n (below-of look device x after last stands n p at) (counts_by p.counts) p.slot (up n p at) it.counts it.stands

  clients-are : (n : ℕ) (t : ClientTable) (o : Outstanding) → slice_get after.clients n ≡ Some t → t.outstanding ≡ Some o → (o.command ≡ End) × (list_any (tells_waiting (record { 0 = suc n }) o.event) (texts_since lines lines') ≡ true)
  clients-are n t o at is = (l.settled.answers (record { 0 = suc n }) o (low n) (high n within) there, in-lines (tells_waiting (record { 0 = suc n }) o.event) (l.settled.ends (record { 0 = suc n }) o (low n) (high n within) there))
    where
      there : (now.clients (record { 0 = suc n })).outstanding ≡ Some o
      there = ap (λ (f : ClientNo → ClientTable). (f (record { 0 = suc n })).outstanding) (sym stands.tables) ∙ ap (λ (u : ClientTable). u.outstanding) (stands.clients n t at) ∙ is

      within : n < 8
      within = subst (λ (k : ℕ). n < k) stands.eight (slice_get_within after.clients n t at)

      low : (k : ℕ) → 1 ≤ suc k
      low k = omega arith

      high : (k : ℕ) → k < 8 → suc k ≤ 8
      high k z = omega (arith, z)

  works-are : (W : WorkId) (v : Work) → live_in look after.places W ≡ Some v
      → (holds_undecided (memory_at look after.places v.tid.server) v.tid ≡ true) ⊎ ((list_any (tells_outcome v.tid) (texts_since lines lines') ≡ true) ⊎ (live_in look before.places W ≡ None))
  works-are W v live = by (l.settled.works W v near there)
    where
      near : W.server.0 < x.servers
      near = live-near look device x after last stands W v live

      there : live_at now W ≡ Some v
      there = live-there look device x after last stands W near ∙ live

      by : (holds_undecided (now.memory v.tid.server) v.tid ≡ true) ⊎ ((list_any (tells_outcome v.tid) (own_texts m.state.course.world now) ≡ true) ⊎ (live_at m.state.course.world W ≡ None))
          → (holds_undecided (memory_at look after.places v.tid.server) v.tid ≡ true) ⊎ ((list_any (tells_outcome v.tid) (texts_since lines lines') ≡ true) ⊎ (live_in look before.places W ≡ None))
      by (inl e) = inl (ap (λ (o : Option Memory). holds_undecided o v.tid) (sym (memory-there look device x after last stands v.tid.server (tid-near look device x after last stands W v there))) ∙ e)
      by (inr (inl e)) = inr (inl (in-lines (tells_outcome v.tid) e))
      by (inr (inr e)) = inr (inr (sym (live-there look device x before m stood W near) ∙ e))

  pub settled-world : IsSettledWorld look device before after lines lines'
  settled-world = record { waits = none-waits; servers = servers-are; answers = clients-are; works = works-are }
