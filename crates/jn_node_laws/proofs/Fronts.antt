-- What a server sends by the first of some frames is a front of what it sends by all of them.
use Rattle.jn_node_laws.proofs.Common.{◌≡◌, ⊎_elim, ℕ, List, [], ◌∷◌, ◌++◌, length, take, Option, Some, None, refl, sym, ◌∙◌, ap, arith, ServerNo, Counts, Sent, Framed, sent_bytes, WritesFront, SinkState, take-append_seam, cases_lt, append-nil, append_assoc, take-append-le, take_all, append_known, Books, BooksServeAll, ServeNone, ServeOneMore, writes-nothing}
use Rattle.jn_node.proofs.Following.{bytes-both}

-- ---- frames

-- the first of them lead on to the others
pub record LeadsFirst (s : ServerNo) (g : Counts) (b : Books) (frames : List Framed) (sent : List Sent) : Type 0 where
  pub last : Books
  pub first : List Sent
  pub later : List Sent
  pub serves : BooksServeAll s g b frames first last
  pub both : sent ≡ first ++ later

pub leads-first : (s : ServerNo) (g : Counts) (b : Books) (frames more : List Framed) (sent : List Sent) (d : Books) → BooksServeAll s g b (frames ++ more) sent d → LeadsFirst s g b frames sent
leads-first s g b [] more sent d h = record { last = b; first = []; later = sent; serves = ServeNone b; both = refl }
leads-first s g b (f ∷ frames) more _ d (ServeOneMore _ c _ _ _ sent rest one all) =
    let h = leads-first s g c frames more rest d all in record {
      last = h.last;
      first = sent ++ h.first;
      later = h.later;
      serves = ServeOneMore b c h.last f frames sent h.first one h.serves;
      both = ap (λ (l : List Sent). sent ++ l) h.both ∙ sym (append_assoc sent h.first h.later);
    }

-- ---- bytes

-- a front of a text is one of a longer text
front-of-more : (n : ℕ) (text more : List ℕ) → (m : ℕ) × (take m (text ++ more) ≡ take n text)
front-of-more n text more = ⊎_elim
    (λ within. (n, take-append-le n text more (omega (arith, within))))
    (λ past. (length text, take-append_seam text more ∙ sym (take_all n text (omega (arith, past)))))
    (cases_lt n (length text))

pub front-of-longer : (text more : List ℕ) (sink now : SinkState) → WritesFront text sink now → WritesFront (text ++ more) sink now
front-of-longer text more sink now h = let (n, took) = h.took in let (m, same) = front-of-more n text more in
    record { took = (m, took ∙ ap (append_known sink.taken) (sym same)); faults = h.faults }

-- nothing is a front of each text
pub front-of-all : (text : List ℕ) (sink : SinkState) → WritesFront text sink sink
front-of-all text sink = record { took = (0, (writes-nothing sink).took); faults = refl }

pub front-sent : (s : ServerNo) (sent first later : List Sent) (sink now : SinkState) → sent ≡ first ++ later → WritesFront (sent_bytes s first) sink now → WritesFront (sent_bytes s sent) sink now
front-sent s sent first later sink now both h =
    rw (both, bytes-both s first later) (front-of-longer (sent_bytes s first) (sent_bytes s later) sink now h)
