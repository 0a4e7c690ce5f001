-- What is read of a journal.
use Rattle.std.proofs.Common.{◌≡◌, ◌⊎◌, inl, inr, ◌<◌, ℕ, suc, Bool, true, false, List, [], ◌∷◌, ◌++◌, length, take, drop, refl, sym, ◌∙◌, ap, ap₂, subst, arith, get_or, append_assoc}
use Rattle.std.specs.Prelude.{bytes_eq}
use Rattle.std.proofs.lemmas.List.{take_at, take-append-drop}
use Rattle.std.proofs.lemmas.Bool.Decides.{not_from_Decides}
use Rattle.std.proofs.lemmas.Slice.Eq.{bytes_eq-Decides}
use Rattle.jn_journal.specs.declared.reading.Ending.{Ending}
use Rattle.jn_journal.specs.declared.reading.Ending.TheVariants.{Torn, Damaged}
use Rattle.jn_journal.specs.Torn.{IsTorn, Leaves}
use Rattle.jn_journal.specs.Format.{doubled, next_chain, body_of, record_of, journal, chain_after, Fits, AllFit}
unfoldable use Rattle.jn_journal.specs.Format.{header_of}
use Rattle.jn_journal.specs.Reading.{AreBytes, IsTornRecord, IsWhole, Ends, Reads}
use Rattle.jn_journal.specs.Steps.{Step, Whole, Stops, step}
use Rattle.jn_journal.proofs.Torn.{torn-rest, zeros-torn}
use Rattle.jn_journal.proofs.Steps.{length-body, step-whole, torn-step}
use Rattle.jn_journal.proofs.Witnesses.{StepIs, step-is}

abbrev ending_of : Step → Ending
ending_of (Whole content rest) = Torn
ending_of (Stops e) = e

abbrev content_of : Step → List ℕ
content_of (Whole content rest) = content
content_of (Stops e) = []

abbrev rest_of : Step → List ℕ
rest_of (Whole content rest) = rest
rest_of (Stops e) = []

abbrev IsWholeStep : Step → Type 0
IsWholeStep (Whole content rest) = Unit {0}
IsWholeStep (Stops e) = ⊥

abbrev IsTornEnding : Ending → Type 0
IsTornEnding Torn = Unit {0}
IsTornEnding Damaged = ⊥

-- a record that stands first is the first step
whole-first : (chain file content rest : List ℕ) → IsWhole chain file content rest → step chain file ≡ Whole content rest
whole-first chain file content rest w = ap (step chain) w.1 ∙ step-whole chain content rest w.0

-- where a reading ends no record stands
never-whole : (chain file : List ℕ) (e : Ending) → Ends chain file e → (content rest : List ℕ) → IsWhole chain file content rest → ⊥
never-whole chain file Torn h content rest w = subst IsWholeStep (sym (whole-first chain file content rest w) ∙ torn-step chain file h) tt
never-whole chain file Damaged h content rest w = h.1 content rest w

same-ending : (chain file : List ℕ) (e f : Ending) → Ends chain file e → Ends chain file f → e ≡ f
same-ending chain file Torn Torn h k = refl
same-ending chain file Torn Damaged h k = absurd (k.0 h)
same-ending chain file Damaged Torn h k = absurd (h.0 k)
same-ending chain file Damaged Damaged h k = refl

-- ---- one reading

-- the bytes are these records and this rest
abbrev Stand : List ℕ → List ℕ → List (List ℕ) → List ℕ → Ending → Type 0
Stand chain file xs rest e = (file ≡ journal chain xs ++ rest) × AllFit xs × Ends (chain_after chain xs) rest e

one : (chain file : List ℕ) (xs ys : List (List ℕ)) (r s : List ℕ) (e f : Ending) → Stand chain file xs r e → Stand chain file ys s f → (xs ≡ ys) × (e ≡ f)
one chain file [] [] r s e f h k = (refl, same-ending chain file e f (subst (λ (bytes : List ℕ). Ends chain bytes e) (sym h.0) h.2) (subst (λ (bytes : List ℕ). Ends chain bytes f) (sym k.0) k.2))
one chain file [] (y ∷ ys) r s e f h k =
    absurd (never-whole chain file e (subst (λ (bytes : List ℕ). Ends chain bytes e) (sym h.0) h.2) y (journal (next_chain chain y) ys ++ s) (k.1.0, k.0 ∙ append_assoc (record_of chain y) (journal (next_chain chain y) ys) s))
one chain file (x ∷ xs) [] r s e f h k =
    absurd (never-whole chain file f (subst (λ (bytes : List ℕ). Ends chain bytes f) (sym k.0) k.2) x (journal (next_chain chain x) xs ++ r) (h.1.0, h.0 ∙ append_assoc (record_of chain x) (journal (next_chain chain x) xs) r))
one chain file (x ∷ xs) (y ∷ ys) r s e f h k =
    let a = journal (next_chain chain x) xs ++ r in let b = journal (next_chain chain y) ys ++ s in
    let same : Whole x a ≡ Whole y b = sym (whole-first chain file x a (h.1.0, h.0 ∙ append_assoc (record_of chain x) (journal (next_chain chain x) xs) r))
    ∙ whole-first chain file y b (k.1.0, k.0 ∙ append_assoc (record_of chain y) (journal (next_chain chain y) ys) s) in
    let x_is : x ≡ y = ap content_of same in
    let rest_is : a ≡ b = ap rest_of same in
    let there : a ≡ journal (next_chain chain x) ys ++ s = rest_is ∙ ap (λ (z : List ℕ). journal (next_chain chain z) ys ++ s) (sym x_is) in
    let ends = subst (λ (z : List ℕ). Ends (chain_after (next_chain chain z) ys) s f) (sym x_is) k.2 in
    let rest = one (next_chain chain x) a xs ys r s e f (refl, h.1.1, h.2) (there, k.1.1, ends) in
    (ap₂ (λ (z : List ℕ) (zs : List (List ℕ)). z ∷ zs) x_is rest.0, rest.1)

pub one-reading : (chain file : List ℕ) (xs ys : List (List ℕ)) (e f : Ending) → Reads chain file xs e → Reads chain file ys f → (xs ≡ ys) × (e ≡ f)
one-reading chain file xs ys e f h k = one chain file xs ys h.rest k.rest e f (h.are, h.fit, h.ends) (k.are, k.fit, k.ends)

-- ---- record by record

-- behind a record that stands first the rest is read
reads-behind : (chain x file rest : List ℕ) (xs : List (List ℕ)) (e : Ending) → IsWhole chain file x rest → Reads (next_chain chain x) rest xs e → Reads chain file (x ∷ xs) e
reads-behind chain x file rest xs e w h = record {
  rest = h.rest;
  are = w.1 ∙ ap (λ (bytes : List ℕ). record_of chain x ++ bytes) h.are ∙ sym (append_assoc (record_of chain x) (journal (next_chain chain x) xs) h.rest);
  fit = (w.0, h.fit);
  ends = h.ends;
}

pub reads-nothing : (chain file : List ℕ) (e : Ending) → Ends chain file e → Reads chain file [] e
reads-nothing chain file e h = record { rest = file; are = refl; fit = tt; ends = h }

-- the steps of the code, one for each record
abbrev pub InSteps : List ℕ → List ℕ → List (List ℕ) → Ending → Type 0
InSteps chain file [] ending = step chain file ≡ Stops ending
InSteps chain file (x ∷ xs) ending = (rest : List ℕ) × (step chain file ≡ Whole x rest) × InSteps (next_chain chain x) rest xs ending

stops-is : (chain file : List ℕ) (e : Ending) → AreBytes file → step chain file ≡ Stops e → Ends chain file e
stops-is chain file Torn all s = subst (λ (there : Step). StepIs chain file there) s (step-is chain file all)
stops-is chain file Damaged all s = (
  λ torn. subst IsTornEnding (ap ending_of (sym (torn-step chain file torn) ∙ s)) tt,
  λ content rest w. subst IsWholeStep (sym (whole-first chain file content rest w) ∙ s) tt,
)

bytes-behind : (front rest : List ℕ) → AreBytes (front ++ rest) → AreBytes rest
bytes-behind [] rest all = all
bytes-behind (b ∷ front) rest all = bytes-behind front rest all.1

steps-read : (chain file : List ℕ) (xs : List (List ℕ)) (e : Ending) → AreBytes file → InSteps chain file xs e → Reads chain file xs e
steps-read chain file [] e all s = reads-nothing chain file e (stops-is chain file e all s)
steps-read chain file (x ∷ xs) e all s =
    let whole : IsWhole chain file x s.0 = subst (λ (there : Step). StepIs chain file there) s.1 (step-is chain file all) in
    let bytes = bytes-behind (record_of chain x) s.0 (subst (λ (ys : List ℕ). AreBytes ys) whole.1 all) in
    reads-behind chain x file s.0 xs e whole (steps-read (next_chain chain x) s.0 xs e bytes s.2)

all-bytes : (xs : List ℕ) → ((k : ℕ) → get_or xs k 0 < 256) → AreBytes xs
all-bytes [] fits = tt
all-bytes (x ∷ xs) fits = (fits 0, all-bytes xs (λ k. fits (suc k)))

pub code-reads : (chain file : List ℕ) (xs : List (List ℕ)) (e : Ending) → ((k : ℕ) → get_or file k 0 < 256) → InSteps chain file xs e → Reads chain file xs e
code-reads chain file xs e fits s = steps-read chain file xs e (all-bytes file fits) s

-- ---- what a crash left

abbrev no-numbers : List ℕ
no-numbers = 0 ∷ 0 ∷ 0 ∷ 0 ∷ 0 ∷ 0 ∷ 0 ∷ 0 ∷ []

-- of nothing
pub zeros-end : (file : List ℕ) → IsTorn [] file → IsTornRecord file
zeros-end file h = inl (record {
  numbers = no-numbers;
  behind = [];
  eight = refl;
  small = (omega arith, (omega arith, (omega arith, (omega arith, (omega arith, (omega arith, (omega arith, (omega arith, tt))))))));
  torn = zeros-torn (doubled no-numbers ++ []) file h;
  lacks = λ w. let there = subst (λ (ys : List ℕ). IsTorn [] ys) w.1 h in absurd (omega (arith, there.1.0));
})

-- this record whole, and behind it what is left of what was behind it
abbrev WholeBefore : List ℕ → List ℕ → List ℕ → List ℕ → Type 0
WholeBefore chain x behind file = (rest : List ℕ) × IsWhole chain file x rest × IsTorn behind rest

torn-or-whole : (chain x behind file : List ℕ) → Fits x → IsTorn (record_of chain x ++ behind) file → IsTornRecord file ⊎ WholeBefore chain x behind file
torn-or-whole chain x behind file fits t = by (bytes_eq (take (length (record_of chain x)) file) (record_of chain x)) refl
  where
    by : (c : Bool) → bytes_eq (take (length (record_of chain x)) file) (record_of chain x) ≡ c → IsTornRecord file ⊎ WholeBefore chain x behind file
    by true e =
        let n = length (record_of chain x) in
        let same = (bytes_eq-Decides (take n file) (record_of chain x)).0 e in
        inr (drop n file, (fits, sym (take-append-drop n file) ∙ ap (λ (ys : List ℕ). ys ++ drop n file) same), torn-rest (record_of chain x) behind file t)
    by false e =
        let n = length (record_of chain x) in
        let size = length-body chain x in
        inl (inr (record {
          body = body_of chain x;
          behind = behind;
          room = omega (arith, size);
          fits = omega (arith, size, fits);
          torn = t;
          lacks = λ w. not_from_Decides (bytes_eq (take n file) (record_of chain x)) (bytes_eq-Decides (take n file) (record_of chain x)) e (ap (take n) w.1 ∙ take_at (record_of chain x) w.0 n refl);
        }))

-- the first records are read, and the others are lost
abbrev pub ReadsFirst : List ℕ → List ℕ → List (List ℕ) → Type 0
ReadsFirst chain file contents = (first lost : List (List ℕ)) × Reads chain file first Torn × (first ++ lost ≡ contents)

pub torn-reads : (chain file : List ℕ) (contents : List (List ℕ)) → AllFit contents → IsTorn (journal chain contents) file → ReadsFirst chain file contents
torn-reads chain file [] fit t = ([], [], reads-nothing chain file Torn (zeros-end file t), refl)
torn-reads chain file (x ∷ xs) fit t =
    elim (torn-or-whole chain x (journal (next_chain chain x) xs) file fit.0 t) [
      | inl stops ↦ ([], x ∷ xs, reads-nothing chain file Torn stops, refl)
      | inr whole ↦ let rest = torn-reads (next_chain chain x) whole.0 xs fit.1 whole.2 in
          (x ∷ rest.0, rest.1, reads-behind chain x file whole.0 rest.0 Torn whole.1 rest.2, ap (λ (ys : List (List ℕ)). x ∷ ys) rest.3)
    ]

-- behind whole records the rest is read
pub read-on : (chain rest : List ℕ) (synced more : List (List ℕ)) (e : Ending) → AllFit synced → Reads (chain_after chain synced) rest more e → Reads chain (journal chain synced ++ rest) (synced ++ more) e
read-on chain rest [] more e fit r = r
read-on chain rest (x ∷ xs) more e fit r =
    reads-behind chain x (journal chain (x ∷ xs) ++ rest) (journal (next_chain chain x) xs ++ rest) (xs ++ more) e
    (fit.0, append_assoc (record_of chain x) (journal (next_chain chain x) xs) rest) (read-on (next_chain chain x) rest xs more e fit.1 r)

-- with zeros behind it or nothing a journal is read back
pub read-back : (chain zeros : List ℕ) (contents : List (List ℕ)) → AllFit contents → IsTorn [] zeros → Reads chain (journal chain contents ++ zeros) (contents ++ []) Torn
read-back chain zeros contents fit none = read-on chain zeros contents [] Torn fit (reads-nothing (chain_after chain contents) zeros Torn (zeros-end zeros none))

-- what was synced is read, and of the rest the first records
pub leaves-reads : (chain file : List ℕ) (synced loose : List (List ℕ)) → AllFit synced → AllFit loose → Leaves (journal chain synced) (journal (chain_after chain synced) loose) file
    → (more lost : List (List ℕ)) × Reads chain file (synced ++ more) Torn × (more ++ lost ≡ loose)
leaves-reads chain file synced loose fit fits t =
    let r = torn-reads (chain_after chain synced) t.0 loose fits t.2 in
    (r.0, r.1, subst (λ (bytes : List ℕ). Reads chain bytes (synced ++ r.0) Torn) (sym t.1) (read-on chain t.0 synced r.0 Torn fit r.2), r.3)

-- ---- examples

pub example-torn : (chain : List ℕ) (content : List ℕ) → IsTorn (journal chain (content ∷ [])) (0 ∷ 0 ∷ [])
example-torn chain content = zeros-torn (journal chain (content ∷ [])) (0 ∷ 0 ∷ []) (refl, (refl, tt))

pub example-damaged : (chain : List ℕ) → Reads chain (1 ∷ 1 ∷ []) [] Damaged
example-damaged chain = steps-read chain (1 ∷ 1 ∷ []) [] Damaged (omega arith, (omega arith, tt)) refl
