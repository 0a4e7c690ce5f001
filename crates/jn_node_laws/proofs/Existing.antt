-- A node whose image is found is given an end. Whether an image is sound isn't computed here, so of any node it is shown that it can't be that none is given.
use Rattle.jn_node_laws.proofs.Common.{◌≡◌, ⊎_elim, ℕ, ◌+◌, ◌≤◌, ◌<◌, true, false, List, [], ◌∷◌, length, take, Option, Some, None, is_some, refl, sym, ap, subst, arith, true≢false, ServerNo, Contents, image_bytes, image_counts, Has, image_name, DeviceState, HasPages, files_in, StableState, frames_of, held_of, most_bytes, nothing_held, Outside, sent_bytes, ◌^◌, cases_lt, take_all, seen, Image, IsSoundImage, refusal_text, Cause, IsRefused, half_at, page_state, IsFound, epoch_found, Node, last_epoch, Status, WireFault, KeepsBytes, Framed, pairs_view, SomeEndIsGiven, EndsBy, EndsWhole, IsGiven, given_frames, given_no_epoch, given_refused, has_no_epoch, has_no_frame, has_waiting, is_at_fault, is_cut_off, is_done, is_too_long, first_books, Leads, AreListed, Books, FoundIsGiven, ◌⊎◌, inl, inr, WorkId, Tid, work_eq, tid_eq, work_tells, tid_tells, IsListing}
use Rattle.jn_node_laws.proofs.Lists.{itself}
use Rattle.jn_server.proofs.Settled.{none-listed, none-there}
use Rattle.jn_server.specs.Settled.{IsSettledState}
use Rattle.jn_image.proofs.Again.{found_bytes, found_fit, found_form}
use Rattle.jn_image.specs.Faults.{bad_of}
use Rattle.jn_image.specs.Reading.{image_in}
use Rattle.jn_image.specs.declared.fault.BadImage.{BadImage}
use Rattle.jn_image_files.specs.declared.refusal.Cause.TheVariants as causes
use Rattle.jn_memdisk.specs.Disk.{IsNew}
use Rattle.jn_status.specs.declared.status.Status.TheVariants.{Done, Image as Refused, Limit, Unsettled, Frame}
use Rattle.jn_node_laws.proofs.Ends.{left-some}
use Rattle.jn_node_laws.proofs.Images.{image-fresh}
use Rattle.jn_node_laws.proofs.Lasting.{all-epoch}
use Rattle.jn_node_laws.proofs.Leading.{ReadCanBeTaken, leads-somewhere}
use Rattle.jn_node_laws.proofs.Inputs.{place}
use Rattle.jn_node_laws.proofs.Refusals.{is-sound}

at-last : (n : ℕ) → last_epoch ≤ n → n < 2 ^ 32 → n ≡ last_epoch
at-last n past few = omega (arith, past, few)

same-epoch : (n : ℕ) → last_epoch ≤ n → n ≤ last_epoch → n ≡ last_epoch
same-epoch n past few = omega (arith, past, few)

-- whether nobody waits for a server is seen by what is listed of it
settled-or-not : (b : Books) → AreListed b → IsSettledState b.found ⊎ (IsSettledState b.found → ⊥)
settled-or-not b l = by l.works l.works_all l.flags l.flags_all
  where
    by : (works : List WorkId) → IsListing work_eq (λ W. is_some (b.found.works W)) works → (flags : List Tid) → IsListing tid_eq (λ T. is_some (b.found.flags T)) flags
        → IsSettledState b.found ⊎ (IsSettledState b.found → ⊥)
    by [] w [] f = inl (record { works = none-there work_eq b.found.works [] w refl; flags = none-there tid_eq b.found.flags [] f refl })
    by (W ∷ works) w flags f = inr (λ settled. let e = none-listed work_eq b.found.works (itself work_eq work_tells) (W ∷ works) w settled.works in absurd (omega (arith, e)))
    by [] w (T ∷ flags) f = inr (λ settled. let e = none-listed tid_eq b.found.flags (itself tid_eq tid_tells) (T ∷ flags) f settled.flags in absurd (omega (arith, e)))

-- ---- a disk of an image

abbrev disk_of : Image → DeviceState
disk_of m = record {
  count = length m.pages;
  pages = λ p. page_state (half_at m.pages p) (record { missed = false; fails = 0 });
  power = true;
  waiting = [];
  told = [];
  calls = 0;
  puts = 0;
  stops = 0;
}

module _ (m : Image) (s : ServerNo) (is : IsSoundImage s m) where
  disk-pages : HasPages m.pages (disk_of m)
  disk-pages = record { count = let form = is.form in let both = form.both_halves in omega (arith, both); good = λ p lt. refl; bytes = λ p lt. refl }

  disk-new : IsNew (disk_of m)
  disk-new = record { power = refl; missed = λ p lt. refl; fails = λ p lt. refl; waiting = refl; told = refl; calls = refl; puts = refl; stops = refl }

module _ (node : Node) (before : Outside) where
  -- a sound image that is kept is found
  found-of : (m : Image) → IsSoundImage node.server m → Has before.keeper.kept (image_name node.opening node.server.0) (Some (image_bytes m)) → IsFound node before.keeper.kept
  found-of m is has = record {
    counts = image_counts m;
    files = files_in (image_counts m) m.pages;
    disk = disk_of m;
    opened = record {
      disk = record { image = m; is_sound = is; counts = refl; pages = disk-pages m node.server is; bytes = has };
      files_are = refl;
      new = disk-new m node.server is;
    };
  }

  -- ---- epochs are those of roots

  found-epoch : (f : IsFound node before.keeper.kept) → epoch_found f < 2 ^ 32
  found-epoch f =
      let alone = image-fresh before.keeper.kept node.opening node.server f.counts f.files f.disk f.opened in let fresh = alone.fresh in
      subst (λ (n : ℕ). n < 2 ^ 32) (sym (ap (λ (z : StableState). z.epoch) (fresh.found (λ n. false)))) alone.small

  -- it comes up in the next epoch, and serves all frames in that
  epoch-left : (frames : List Framed) (leads : Leads node before.keeper.kept frames) → leads.last.found.epoch ≤ last_epoch
  epoch-left frames leads =
      let same = all-epoch node.server leads.found.counts (first_books node.server leads.found.counts (pairs_view leads.found.disk)) leads.last frames leads.sent leads.serves in
      no-later leads.last.found.epoch (epoch_found leads.found) same leads.before_last
    where
      no-later : (now was : ℕ) → now ≡ was + 1 → was < last_epoch → now ≤ last_epoch
      no-later now was e less = omega (arith, e, less)

  -- ---- one of the ends

  abbrev HasEnd : Type 0
  HasEnd = (status : Status) × (text : List ℕ) × IsGiven node before status text

  module _ (text : List ℕ) (left : before.source.left ≡ Some text) (leads : Leads node before.keeper.kept (frames_of node.server text)) (listed : AreListed leads.last) where
    ends-by : (status : Status) → EndsBy node.server text leads.last.found status → HasEnd
    ends-by status way = (status, sent_bytes node.server leads.sent, given_frames text status left leads way)

    at-whole : EndsWhole node.server text → HasEnd
    at-whole whole = ⊎_elim
        (λ settled. ⊎_elim
        (λ less. ends-by Done (is_done whole settled less))
        (λ past. ends-by Limit (has_no_epoch whole settled (same-epoch leads.last.found.epoch past (epoch-left (frames_of node.server text) leads))))
        (cases_lt leads.last.found.epoch last_epoch))
        (λ waits. ends-by Unsettled (has_waiting whole waits))
        (settled-or-not leads.last listed)

    at-end : length text ≤ most_bytes → (held_of node.server text).fault ≡ None → (held_of node.server text).bytes ≡ [] → (held_of node.server text).at ≡ length text
    at-end fits free none =
        let all : (held_of node.server text).at + length (held_of node.server text).bytes ≡ 0 + 0 + length (take most_bytes text) = place node.server (nothing_held 0) (take most_bytes text) free in
        let held : length (held_of node.server text).bytes ≡ 0 = ap length none in
        let whole = ap length (take_all most_bytes text fits) in
        omega (arith, all, held, whole)

    by-bytes : length text ≤ most_bytes → (held_of node.server text).fault ≡ None → (bytes : List ℕ) → (held_of node.server text).bytes ≡ bytes → HasEnd
    by-bytes fits free [] e = at-whole (record { fits = fits; whole = λ i. record { at = at-end fits free e i; bytes = e i; fault = free i } })
    by-bytes fits free (b ∷ bytes) e = ends-by Frame (has_no_frame (is_cut_off fits free (subst (λ (l : List ℕ). 0 < length l) (sym e) (omega arith))))

    by-fault : (o : Option WireFault) → (held_of node.server text).fault ≡ o → HasEnd
    by-fault (Some f) e = ends-by Frame (has_no_frame (is_at_fault (ap is_some e)))
    by-fault None e = ⊎_elim (λ past. ends-by Limit (is_too_long (record { none = e; past = past }))) (λ fits. by-bytes fits e (held_of node.server text).bytes refl)
        (cases_lt most_bytes (length text))

  by-found : ReadCanBeTaken → (text : List ℕ) → before.source.left ≡ Some text → IsFound node before.keeper.kept → HasEnd
  by-found may text left f = ⊎_elim
      (λ less. let led = leads-somewhere may node before.keeper.kept text f less in by-fault text left led.0 led.1 (held_of node.server text).fault refl)
      (λ past. (Limit, [], given_no_epoch f (at-last (epoch_found f) past (found-epoch f))))
      (cases_lt (epoch_found f) last_epoch)

  module _ (small : KeepsBytes node before) (may : ReadCanBeTaken) (none : (status : Status) (text : List ℕ) → IsGiven node before status text → ⊥) where
    module _ (text : List ℕ) (left : before.source.left ≡ Some text) where
      refused : (content : Option (List ℕ)) → Has before.keeper.kept (image_name node.opening node.server.0) content → (cause : Cause) → IsRefused node.server content cause → ⊥
      refused content has cause is = none Refused (refusal_text (record { server = node.server; cause = cause })) (given_refused content cause has is)

      by-bytes-kept : (bytes : List ℕ) → Has before.keeper.kept (image_name node.opening node.server.0) (Some bytes) → (o : Option BadImage) → bad_of bytes ≡ o → ⊥
      by-bytes-kept bytes has (Some fault) e = refused (Some bytes) has (causes.Bad fault) (bytes, refl, e)
      by-bytes-kept bytes has None e =
          let fit = small bytes has in
          let form = found_form bytes fit e in
          let same = ap (λ (l : List ℕ). Some l) (found_bytes bytes fit e) in
          is-sound node.server (seen (image_in bytes))
          (λ fault first. refused (Some bytes) has (causes.Unsound fault) (image_in bytes, form, found_fit bytes fit e, same, first))
          (λ sound. let (status, its, given) = by-found may text left (found-of (image_in bytes) (record { form = form; sound = sound })
          (subst (λ (o : Option (List ℕ)). Has before.keeper.kept (image_name node.opening node.server.0) o) same has)) in none status its given)

      by-content : (content : Option (List ℕ)) → Has before.keeper.kept (image_name node.opening node.server.0) content → ⊥
      by-content None has = refused None has causes.Missing refl
      by-content (Some bytes) has = by-bytes-kept bytes has (bad_of bytes) refl

holds-some : (kept : Option Contents) (name : List ℕ) → is_some kept ≡ true → (content : Option (List ℕ)) × Has kept name content
holds-some None name h = absurd (true≢false (sym h))
holds-some (Some holds) name h = (holds name, refl)

pub found-given : ReadCanBeTaken → FoundIsGiven
found-given may node before tells f = let (text, left) = left-some before.source.left tells.source in by-found node before may text left f

pub some-given : ReadCanBeTaken → SomeEndIsGiven
some-given may node before tells small none =
    let (text, left) = left-some before.source.left tells.source in
    let (content, has) = holds-some before.keeper.kept (image_name node.opening node.server.0) tells.keeper in
    by-content node before small may none text left content has
