-- A stream that is read piece by piece, and how it ends.
use Rattle.jn_serving.proofs.Common.{◌≡◌, ◌≤◌, ◌<◌, ℕ, zero, suc, ◌+◌, ◌-◌, min, List, [], ◌∷◌, ◌++◌, length, take, drop, refl, sym, ◌∙◌, ap, subst, arith, append_assoc, append-nil, length-append, Option, Some, Result, Ok, Err, None, true, false, is_ok, is_some, option_map, IfSome, prepend_known, take-append_seam, drop-append_seam, take-append-le, ServerNo, Rose, Running, Counts, WireFault, Framed, Stream, kept_by, kept_error, with_held, Held, Unframed, nothing_held, unframed, SourceState, SinkState, Writes, WritesFront, FailsToWrite, Gave, IsText, MeetsFault, inside, at_end, frames_of, held_of, most_bytes, most_piece, Came, ReadsPiece, ServesRead, done_of, fitting, EndsStream, ServesFirst, ServesPiece, ServesTo, Start, StreamedFront, StreamsTo, start_of, StreamFault}
use Rattle.jn_host.specs.Outside.{SourceRead}
use Rattle.jn_host.proofs.Reading.{reads_join}
use Rattle.jn_host.specs.declared.Failed.{Failed}
use Rattle.jn_serving.specs.declared.fault.StreamFault.TheVariants as streams
use Rattle.jn_serving.proofs.Fronts.{behind-read, front-behind-read}
use Rattle.jn_serving.proofs.Served.{nothing-served, served-then}
use Rattle.jn_serving.proofs.Written.{GoesBehind, fails-behind, front-behind, writes-behind}

-- ---- bytes of a source

prepend-both : (xs ys : List ℕ) (known : Option (List ℕ)) → prepend_known xs (prepend_known ys known) ≡ prepend_known (xs ++ ys) known
prepend-both xs ys None = refl
prepend-both xs ys (Some zs) = ap (λ (l : List ℕ). Some l) (sym (append_assoc xs ys zs))

front-given : (first left : Option (List ℕ)) (read : List ℕ) → first ≡ prepend_known read left → IfSome first (λ (bytes : List ℕ). take (length read) bytes ≡ read)
front-given first None read is = subst (λ (o : Option (List ℕ)). IfSome o (λ (bytes : List ℕ). take (length read) bytes ≡ read)) (sym is) tt
front-given first (Some rest) read is = subst (λ (o : Option (List ℕ)). IfSome o (λ (bytes : List ℕ). take (length read) bytes ≡ read)) (sym is) (take-append_seam read rest)

rest-left : (first left : Option (List ℕ)) (read : List ℕ) → first ≡ prepend_known read left → left ≡ option_map (λ (bytes : List ℕ). drop (length read) bytes) first
rest-left first None read is = sym (ap (λ (o : Option (List ℕ)). option_map (λ (bytes : List ℕ). drop (length read) bytes) o) is)
rest-left first (Some rest) read is =
    sym (ap (λ (o : Option (List ℕ)). option_map (λ (bytes : List ℕ). drop (length read) bytes) o) is ∙ ap (λ (l : List ℕ). Some l) (drop-append_seam read rest))

gave-of : (read : List ℕ) (before after : SourceState) → length read ≤ most_bytes + 1 → before.left ≡ prepend_known read after.left → Gave read before after
gave-of read before after most is = record { most = most; front = front-given before.left after.left read is; left = rest-left before.left after.left read is }

all-read : (first left : Option (List ℕ)) (read : List ℕ) → first ≡ prepend_known read left → IsText left [] → IsText first read
all-read first None read is ended = subst (λ (o : Option (List ℕ)). IsText o read) (sym is) tt
all-read first (Some rest) read is ended = subst (λ (o : Option (List ℕ)). IsText o read) (sym is) (sym (append-nil read) ∙ ap (λ (l : List ℕ). read ++ l) ended)

nothing-gave : (left : Option (List ℕ)) → left ≡ prepend_known [] left
nothing-gave None = refl
nothing-gave (Some bytes) = refl

-- what a read gave
pub came-so : (count : ℕ) (left : Option (List ℕ)) (faults : ℕ) (room : List ℕ) (answer : Result ℕ Failed) (left' : Option (List ℕ)) (faults' : ℕ) (room' : List ℕ)
    → SourceRead left faults room answer left' faults' room'
    → (n : ℕ) → answer ≡ Ok n → length (take n room') ≡ n → 0 < length room → length room ≤ most_piece → count + length room ≤ most_bytes + 1
    → Came count (take n room') (record { left = left; faults = faults }) (record { left = left'; faults = faults' })
came-so count left faults room answer left' faults' room' read n ok long some most fits = record {
  most = let few = read.fits n ok in omega (arith, few, long, most);
  room = let few = read.fits n ok in omega (arith, few, long, fits);
  left = reads_join left [] left faults room answer left' faults' room' (nothing-gave left) read n ok (take n room') refl;
  ended = λ none. by left refl (sym long ∙ ap (λ (l : List ℕ). length l) none);
  faults = read.no_fault (ap is_ok ok);
}
  where
    by : (first : Option (List ℕ)) → left ≡ first → n ≡ 0 → IsText first []
    by None is none = tt
    by (Some bytes) is none = sym ((read.told n ok bytes is).ended some none)

-- ---- what was read

abbrev pub stream_of : ServerNo → List ℕ → Stream
stream_of s read = record { server = s; held = held_of s read; over = false }

-- These bytes were read, so many, and were frames, or may become one; the frames were served, and the unframer holds what is behind them.
pub record HasRead (a : Start) (read : List ℕ) (count : ℕ) (u : Stream) (y : Running) (source : SourceState) (sink : SinkState) : Type 0 where
  pub long : length read ≡ count
  pub gave : a.source.left ≡ prepend_known read source.left
  pub faults : source.faults ≡ a.source.faults
  pub unframer : u ≡ stream_of a.server read
  pub no_fault : (held_of a.server read).fault ≡ None
  pub serves : ServesTo a.server a.counts a.running a.sink (frames_of a.server read) Writes y sink

pub nothing-read : (a : Start) → HasRead a [] 0 (record { server = a.server; held = nothing_held 0; over = false }) a.running a.source a.sink
nothing-read a = record {
  long = refl;
  gave = nothing-gave a.source.left;
  faults = refl;
  unframer = refl;
  no_fault = refl;
  serves = nothing-served a.server a.counts a.running a.sink;
}

-- no error is kept of what was read
pub keeps-none : (a : Start) (read : List ℕ) (count : ℕ) (u : Stream) (y : Running) (source : SourceState) (sink : SinkState) → HasRead a read count u y source sink → kept_error u ≡ None
keeps-none a read count u y source sink h = ap kept_error h.unframer ∙ ap (kept_by false) h.no_fault

-- the same server is read on
pub same-start : (a : Start) (s : ServerNo) (g : Counts) (x : Running) (before : SourceState) (sink : SinkState) (u : Stream) (count : ℕ) (r q : Result ℕ StreamFault) (y : Running) (u' : Stream)
    (after : SourceState) (sink' : SinkState)
    → s ≡ a.server → g ≡ a.counts → r ≡ q → ReadsPiece (start_of s g x before sink) u count r y u' after sink' → ReadsPiece (start_of a.server a.counts x before sink) u count q y u' after sink'
same-start a s g x before sink u count r q y u' after sink' own same is h =
    subst (λ (k : Result ℕ StreamFault). ReadsPiece (start_of a.server a.counts x before sink) u count k y u' after sink') is
    (subst (λ (k : Counts). ReadsPiece (start_of a.server k x before sink) u count r y u' after sink') same
    (subst (λ (k : ServerNo). ReadsPiece (start_of k g x before sink) u count r y u' after sink') own h))

-- ---- one read

take-nothing : (k : ℕ) → Path (List ℕ) (take k []) []
take-nothing zero = refl
take-nothing (suc k) = refl

take-both : (m n k : ℕ) (l : List ℕ) → k ≡ min m n → take m (take n l) ≡ take k l
take-both zero n k l e = let none : zero ≡ k = omega (arith, e) in ap (λ (j : ℕ). take j l) none
take-both (suc m) zero k l e = let none : zero ≡ k = omega (arith, e) in ap (λ (j : ℕ). take j l) none
take-both (suc m) (suc n) k [] e = sym (take-nothing k)
take-both (suc m) (suc n) zero (x ∷ l) e = absurd (omega (arith, e))
take-both (suc m) (suc n) (suc k) (x ∷ l) e = let less : k ≡ min m n = omega (arith, e) in ap (λ (r : List ℕ). x ∷ r) (take-both m n k l less)

-- of what came, the bytes that are served
pub piece-fits : (count given fits : ℕ) (into rest piece : List ℕ) → piece ≡ take fits (into ++ rest) → given ≤ length into → fits ≡ min given (most_bytes - count)
    → piece ≡ fitting count (take given into)
piece-fits count given fits into rest piece is long least =
    is ∙ take-append-le fits into rest (omega (arith, long, least)) ∙ sym (take-both (most_bytes - count) given fits into (omega (arith, least)))

one-given : (n k : ℕ) → Path (Result ℕ StreamFault) (Ok n) (Ok k) → n ≡ k
one-given n k h = cc

module _ (b : Start) (u : Stream) (count : ℕ) (bytes piece : List ℕ) (y : Running) (u' : Stream) (after : SourceState) (sink' : SinkState) (came : Came count bytes b.source after)
    (same : piece ≡ fitting count bytes) where
  -- what it brings was served
  pub read-served : (n : ℕ) → length bytes ≡ n → u' ≡ with_held u (unframed u.server u.held piece).held
      → ServesPiece b.server b.counts b.running b.sink (unframed u.server u.held piece) (Ok tt) y sink'
      → ReadsPiece b u count (Ok n) y u' after sink'
  read-served n long held p = record {
    failed = λ no. absurd (cc no);
    came = λ no. record {
      bytes = bytes;
      came = came;
      serves = subst (λ (l : List ℕ). ServesPiece b.server b.counts b.running b.sink (unframed u.server u.held l) (Ok tt) y sink') same p;
      given = λ k is. long ∙ one-given n k is;
      held = λ k is. held ∙ ap (λ (l : List ℕ). with_held u (unframed u.server u.held l).held) same;
    };
  }

  -- or it wasn't
  pub read-not-served : (e : StreamFault) → ServesPiece b.server b.counts b.running b.sink (unframed u.server u.held piece) (Err e) y sink' → ReadsPiece b u count (Err e) y u' after sink'
  read-not-served e p = record {
    failed = λ is. absurd (p.no_read (by e is));
    came = λ no. record {
      bytes = bytes;
      came = came;
      serves = subst (λ (l : List ℕ). ServesPiece b.server b.counts b.running b.sink (unframed u.server u.held l) (Err e) y sink') same p;
      given = λ k is. absurd (cc is);
      held = λ k is. absurd (cc is);
    };
  }
    where
      by : (e : StreamFault) → Path (Result ℕ StreamFault) (Err e) (Err streams.Read) → Path (Result (Unit {0}) StreamFault) (Err e) (Err streams.Read)
      by e is = let same : e ≡ streams.Read = cc in ap (λ (f : StreamFault). Err f) same

-- ---- a piece behind what was read

module _ (a : Start) (count : ℕ) (x : Running) (before after : SourceState) (sink sink' : SinkState) (y : Running) (fits : count ≤ most_bytes) where
  abbrev start : Start
  start = start_of a.server a.counts x before sink

  module _ (u u' : Stream) (read : List ℕ) (h : HasRead a read count u x before sink) (answer : Result ℕ StreamFault) (t : ServesRead start u count answer y u' after sink') where
    abbrev now : List ℕ
    now = read ++ t.bytes

    abbrev piece : Unframed
    piece = unframed a.server (held_of a.server read) (fitting (length read) t.bytes)

    within : length read ≤ most_bytes
    within = omega (arith, h.long, fits)

    serves : ServesPiece a.server a.counts x sink piece (done_of answer) y sink'
    serves = subst (λ (n : ℕ). ServesPiece a.server a.counts x sink (unframed a.server (held_of a.server read) (fitting n t.bytes)) (done_of answer) y sink') (sym h.long)
        (subst (λ (v : Stream). ServesPiece a.server a.counts x sink (unframed v.server v.held (fitting count t.bytes)) (done_of answer) y sink') h.unframer t.serves)

    held-now : held_of a.server now ≡ piece.held
    held-now = ap (λ (v : Unframed). v.held) (behind-read a.server read within t.bytes)

    gave-now : a.source.left ≡ prepend_known now after.left
    gave-now = h.gave ∙ ap (prepend_known read) t.came.left ∙ prepend-both read t.bytes after.left

    long-now : length now ≡ count + length t.bytes
    long-now = let both = length-append read t.bytes in omega (arith, both, h.long)

    faults-now : after.faults ≡ a.source.faults
    faults-now = t.came.faults ∙ h.faults

    all-gave : Gave now a.source after
    all-gave = gave-of now a.source after (let room = t.came.room in omega (arith, long-now, room)) gave-now

    -- all of its frames
    whole : ServesTo a.server a.counts x sink piece.frames Writes y sink' → ServesTo a.server a.counts a.running a.sink (frames_of a.server now) Writes y sink'
    whole w = subst (λ (fs : List Framed). ServesTo a.server a.counts a.running a.sink fs Writes y sink') (sym (ap (λ (v : Unframed). v.frames) (behind-read a.server read within t.bytes)))
        (served-then a.server a.counts Writes writes-behind a.running x y a.sink sink sink' (frames_of a.server read) piece.frames h.serves w)

    -- the first of them
    part : (W : List ℕ → SinkState → SinkState → Type 0) → GoesBehind W → ServesFirst a.server a.counts x sink piece.frames W sink' → StreamedFront a W after sink'
    part W goes f = let m = front-behind-read a.server read within t.bytes f.count in record {
      read = now;
      gave = all-gave;
      front = length read + m.0;
      near = let most = t.came.most in omega (arith, long-now, h.long, most);
      last = f.last;
      serves = subst (λ (fs : List Framed). ServesTo a.server a.counts a.running a.sink fs W f.last sink') (sym m.1)
          (served-then a.server a.counts W goes a.running x f.last a.sink sink sink' (frames_of a.server read) (take f.count piece.frames) h.serves f.serves);
      calls = faults-now;
    }

    front-now : take (length read) now ≡ read
    front-now = take-append_seam read t.bytes

    meets : is_some piece.held.fault ≡ true → MeetsFault a.server a.source.left now
    meets met = inside (length read) (let most = t.came.most in omega (arith, long-now, h.long, most))
        (ap (λ (l : List ℕ). (held_of a.server l).fault) front-now ∙ h.no_fault) (ap (λ (k : Held). is_some k.fault) held-now ∙ met)

    -- it goes on
    read-on : (n : ℕ) → answer ≡ Ok n → (done : ServesPiece a.server a.counts x sink piece (Ok tt) y sink') → HasRead a now (count + n) u' y after sink'
    read-on n is done = let (none, w) = done.whole refl in record {
      long = let given = t.given n is in omega (arith, long-now, given);
      gave = gave-now;
      faults = faults-now;
      unframer = t.held n is ∙ ap (λ (v : Stream). with_held v (unframed v.server v.held (fitting count t.bytes)).held) h.unframer
          ∙ ap (λ (k : ℕ). with_held (stream_of a.server read) (unframed a.server (held_of a.server read) (fitting k t.bytes)).held) (sym h.long)
          ∙ ap (λ (k : Held). with_held (stream_of a.server read) k) (sym held-now);
      no_fault = ap (λ (k : Held). k.fault) held-now ∙ none;
      serves = whole w;
    }

  -- a piece that was served whole
  pub reads-on : (u u' : Stream) (read : List ℕ) → HasRead a read count u x before sink → (n : ℕ) → ReadsPiece start u count (Ok n) y u' after sink'
      → (bytes : List ℕ) × Came count bytes before after × (length bytes ≡ n) × HasRead a (read ++ bytes) (count + n) u' y after sink'
  reads-on u u' read h n p = let t = p.came (λ no. cc no) in (t.bytes, t.came, t.given n refl, read-on u u' read h (Ok n) t n refl (serves u u' read h (Ok n) t))

  -- a stream that ends with a piece
  pub stops : (u u' : Stream) (read : List ℕ) → HasRead a read count u x before sink → (e : StreamFault) → ReadsPiece start u count (Err e) y u' after sink' → StreamsTo a (Err e) y after sink'
  stops u u' read h streams.Read p = let (fails, same, untouched) = p.failed refl in
      let all : ServesTo a.server a.counts a.running a.sink (frames_of a.server read) Writes y sink' =
      subst (λ (k : SinkState). ServesTo a.server a.counts a.running a.sink (frames_of a.server read) Writes y k) (sym untouched)
      (subst (λ (k : Running). ServesTo a.server a.counts a.running a.sink (frames_of a.server read) Writes k sink) (sym same) h.serves) in
      record {
        whole = λ no. absurd (cc no);
        not_read = λ same. (
          record { read = read; gave = gave-of read a.source after (omega (arith, h.long, fits)) (h.gave ∙ ap (prepend_known read) (sym fails.left)); serves = all },
          h.no_fault,
          omega (arith, h.long, fits),
          subst (λ (k : ℕ). Rose k after.faults) h.faults fails.rose,
        );
        too_long = λ no. absurd (cc no);
        no_frame = λ no. absurd (cc no);
        write = λ no. absurd (cc no);
        memory = λ no. absurd (cc no);
      }
  stops u u' read h streams.Write p = let t = p.came (λ no. cc no) in record {
    whole = λ no. absurd (cc no);
    not_read = λ no. absurd (cc no);
    too_long = λ no. absurd (cc no);
    no_frame = λ no. absurd (cc no);
    write = λ same. part u u' read h (Err streams.Write) t FailsToWrite fails-behind ((serves u u' read h (Err streams.Write) t).write refl);
    memory = λ no. absurd (cc no);
  }
  stops u u' read h streams.TooLong p = let t = p.came (λ no. cc no) in absurd ((serves u u' read h (Err streams.TooLong) t).no_end refl)
  stops u u' read h streams.NoFrame p = let t = p.came (λ no. cc no) in let (met, w) = (serves u u' read h (Err streams.NoFrame) t).no_frame refl in record {
    whole = λ no. absurd (cc no);
    not_read = λ no. absurd (cc no);
    too_long = λ no. absurd (cc no);
    no_frame = λ same. (
      record { read = read ++ t.bytes; gave = all-gave u u' read h (Err streams.NoFrame) t; serves = whole u u' read h (Err streams.NoFrame) t w },
      meets u u' read h (Err streams.NoFrame) t met,
      faults-now u u' read h (Err streams.NoFrame) t,
    );
    write = λ no. absurd (cc no);
    memory = λ no. absurd (cc no);
  }
  stops u u' read h streams.Memory p = let t = p.came (λ no. cc no) in record {
    whole = λ no. absurd (cc no);
    not_read = λ no. absurd (cc no);
    too_long = λ no. absurd (cc no);
    no_frame = λ no. absurd (cc no);
    write = λ no. absurd (cc no);
    memory = λ same. part u u' read h (Err streams.Memory) t WritesFront front-behind ((serves u u' read h (Err streams.Memory) t).memory refl);
  }

  no-bytes : (bytes : List ℕ) → length bytes ≡ zero → bytes ≡ []
  no-bytes [] none = refl
  no-bytes (b ∷ bytes) none = absurd (omega (arith, none))

  -- no byte came: the source is at its end
  pub all-came : (u : Stream) (read bytes : List ℕ) → HasRead a read count u x before sink → Came count bytes before after → length bytes ≡ 0 → IsText a.source.left (read ++ bytes)
  all-came u read bytes h came empty = let none = no-bytes bytes empty in
      subst (λ (l : List ℕ). IsText a.source.left l) (sym (append-nil read) ∙ ap (λ (l : List ℕ). read ++ l) (sym none)) (all-read a.source.left before.left read h.gave (came.ended none))

-- ---- the end

held-nothing : (h : Held) (at : ℕ) → h.at ≡ at → h.bytes ≡ [] → h.fault ≡ None → h ≡ nothing_held at
held-nothing h at place none fault =
    ap (λ (n : ℕ). record { at = n; bytes = h.bytes; fault = h.fault }) place ∙ ap (λ (l : List ℕ). record { at = at; bytes = l; fault = h.fault }) none
    ∙ ap (λ (f : Option WireFault). record { at = at; bytes = []; fault = f }) fault

module _ (a : Start) (read : List ℕ) (count : ℕ) (u : Stream) (y : Running) (source : SourceState) (sink : SinkState) (h : HasRead a read count u y source sink) where
  gave-all : count ≤ most_bytes + 1 → Gave read a.source source
  gave-all most = gave-of read a.source source (omega (arith, h.long, most)) h.gave

  same-held : u.held ≡ held_of a.server read
  same-held = ap (λ (v : Stream). v.held) h.unframer

  ends-by : (bytes : List ℕ) → u.held.bytes ≡ bytes → IsText a.source.left read → count ≤ most_bytes → u.held.at + length u.held.bytes ≡ count → (r : Result (Unit {0}) StreamFault)
      → EndsStream bytes r → StreamsTo a r y source sink
  ends-by [] is all fits place r e = subst (λ (t : Result (Unit {0}) StreamFault). StreamsTo a t y source sink) (sym e) (record {
    whole = λ same. (
      record { read = read; gave = gave-all (omega (arith, fits)); serves = h.serves },
      record {
        all = all;
        fits = omega (arith, h.long, fits);
        whole = sym same-held ∙ held-nothing u.held (length read) (let none = ap (λ (l : List ℕ). length l) is in omega (arith, place, none, h.long)) is
            (ap (λ (k : Held). k.fault) same-held ∙ h.no_fault);
      },
      h.faults,
    );
    not_read = λ no. absurd (cc no);
    too_long = λ no. absurd (cc no);
    no_frame = λ no. absurd (cc no);
    write = λ no. absurd (cc no);
    memory = λ no. absurd (cc no);
  })
  ends-by (b ∷ bytes) is all fits place r e = subst (λ (t : Result (Unit {0}) StreamFault). StreamsTo a t y source sink) (sym e) (record {
    whole = λ no. absurd (cc no);
    not_read = λ no. absurd (cc no);
    too_long = λ no. absurd (cc no);
    no_frame = λ same. (
      record { read = read; gave = gave-all (omega (arith, fits)); serves = h.serves },
      at_end all (omega (arith, h.long, fits)) h.no_fault (subst (λ (l : List ℕ). 0 < length l) (sym is ∙ ap (λ (k : Held). k.bytes) same-held) (omega arith)),
      h.faults,
    );
    write = λ no. absurd (cc no);
    memory = λ no. absurd (cc no);
  })

  -- the source is at its end
  pub ends : IsText a.source.left read → count ≤ most_bytes → u.held.at + length u.held.bytes ≡ count → (r : Result (Unit {0}) StreamFault) → EndsStream u.held.bytes r → StreamsTo a r y source sink
  ends = ends-by u.held.bytes refl

  -- there is one byte too many
  pub too-long : most_bytes < count → count ≤ most_bytes + 1 → StreamsTo a (Err streams.TooLong) y source sink
  too-long more most = record {
    whole = λ no. absurd (cc no);
    not_read = λ no. absurd (cc no);
    too_long = λ same. (record { read = read; gave = gave-all most; serves = h.serves }, h.no_fault, omega (arith, h.long, more), h.faults);
    no_frame = λ no. absurd (cc no);
    write = λ no. absurd (cc no);
    memory = λ no. absurd (cc no);
  }
