-- What frames lead to by the books of the server that comes up on its image: it is there, it is one thing, and who served the frames served so.
use Rattle.jn_node_laws.proofs.Common.{◌≡◌, ℕ, ◌<◌, true, false, List, take, Option, is_some, refl, sym, subst, AllByRecursion, ServerNo, Contents, Counts, StableState, Pick, frames_of, found_on, pairs_view, Framed, Node, IsFound, epoch_found, Served, last_epoch, most_bytes, nothing_held, unframed, MayCome, Held, AreListed, Books, BooksServeAll, first_books, BooksLeadOnce, FramesLead, ServedAsBooksLead, Leads}
use Rattle.jn_node_laws.proofs.Images.{image-fresh, opened-between, opened-books, same-books, same-counts, same-found}
use Rattle.jn_node_laws.proofs.Lasting.{ServesAll, all-end, first-fit}
use Rattle.jn_node_laws.proofs.Once.{all-once}
use Rattle.jn_node_laws.proofs.Rooms.{books_of}
use Rattle.jn_node_laws.proofs.Stepping.{frames-serve}

-- the same frames by another name
abbrev pub renamed : {node : Node} {kept : Option Contents} (frames more : List Framed) → more ≡ frames → Leads node kept frames → Leads node kept more
renamed {node} frames more e v = record {
  found = v.found;
  before_last = v.before_last;
  sent = v.sent;
  last = v.last;
  serves = subst (λ (fs : List Framed). BooksServeAll node.server v.found.counts (first_books node.server v.found.counts (pairs_view v.found.disk)) fs v.sent v.last) (sym e) v.serves;
}

module _ (node : Node) (kept : Option Contents) (tells : is_some kept ≡ true) where
  module _ (f h : IsFound node kept) where
    counts-same : h.counts ≡ f.counts
    counts-same = same-counts kept node.opening node.server f.counts h.counts f.files h.files f.disk h.disk tells f.opened h.opened

    books-same : first_books node.server h.counts (pairs_view h.disk) ≡ first_books node.server f.counts (pairs_view f.disk)
    books-same = same-books kept node.opening node.server f.counts h.counts f.files h.files f.disk h.disk tells f.opened h.opened

    pub found-same : (c k : Pick) → found_on h.counts (pairs_view h.disk) k ≡ found_on f.counts (pairs_view f.disk) c
    found-same c k = same-found kept node.opening node.server f.counts h.counts f.files h.files f.disk h.disk tells f.opened h.opened c k

  pub leads-once : (frames more : List Framed) (a : Leads node kept frames) (b : Leads node kept more) → more ≡ frames → (b.sent ≡ a.sent) × (b.last ≡ a.last)
  leads-once frames more a b same = all-once node.server a.found.counts (first_books node.server a.found.counts (pairs_view a.found.disk)) a.last b.last frames a.sent b.sent a.serves
      (subst (λ (g : Counts). BooksServeAll node.server g (first_books node.server a.found.counts (pairs_view a.found.disk)) frames b.sent b.last) (counts-same a.found b.found)
      (subst (λ (z : Books). BooksServeAll node.server b.found.counts z frames b.sent b.last) (books-same a.found b.found)
      (subst (λ (fs : List Framed). BooksServeAll node.server b.found.counts (first_books node.server b.found.counts (pairs_view b.found.disk)) fs b.sent b.last) same b.serves)))

  -- a server on its pages
  abbrev pub leads-of : (frames : List Framed) → Served node kept frames → Leads node kept frames
  leads-of frames v =
      let f = v.found in let up = v.opens in
      let between = opened-between kept node.opening node.server f.counts f.files f.disk f.opened v.first up in
      let all = frames-serve node.server f.counts v.first v.last frames v.sent between v.serves in record {
        found = f;
        before_last = subst (λ (z : StableState). z.epoch < last_epoch) (found-same f f (λ n. false) up.pick) up.before_last;
        sent = v.sent;
        last = books_of f.counts v.last;
        serves = subst (λ (z : Books). BooksServeAll node.server f.counts z frames v.sent (books_of f.counts v.last))
            (opened-books kept node.opening node.server f.counts f.files f.disk f.opened v.first up) all.0;
      }

pub books-lead-once : BooksLeadOnce
books-lead-once node kept frames leads more tells = leads-once node kept tells frames frames leads more refl

pub served-leads : ServedAsBooksLead
served-leads node kept frames served tells = (leads-of node kept tells frames served, refl, refl)

-- whatever bytes are read, each message among them can be taken
abbrev pub ReadCanBeTaken : Type 0
ReadCanBeTaken = (s : ServerNo) (h : Held) (bytes : List ℕ) → AllByRecursion (λ (f : Framed). MayCome f.body) (unframed s h bytes).frames

module _ (may : ReadCanBeTaken) (node : Node) (kept : Option Contents) (text : List ℕ) (f : IsFound node kept) (less : epoch_found f < last_epoch) where
  served-all : ServesAll node.server f.counts (first_books node.server f.counts (pairs_view f.disk)) (frames_of node.server text)
  served-all = let fresh = image-fresh kept node.opening node.server f.counts f.files f.disk f.opened in
      all-end node.server f.counts (frames_of node.server text) (first_books node.server f.counts (pairs_view f.disk))
      (first-fit node.server f.counts fresh.epoch fresh.files (pairs_view f.disk) fresh.fresh) (may node.server (nothing_held 0) (take most_bytes text))

  pub leads-somewhere : (leads : Leads node kept (frames_of node.server text)) × AreListed leads.last
  leads-somewhere = let all = served-all in (record { found = f; before_last = less; sent = all.sent; last = all.last; serves = all.serves }, all.listed)

pub frames-lead : ReadCanBeTaken → FramesLead
frames-lead may node kept text f less = (leads-somewhere may node kept text f less).0
