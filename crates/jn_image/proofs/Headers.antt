-- A header is read as it was written, and written as it was read.
use Rattle.jn_image.proofs.Common.{◌≡◌, ◌<◌, ◌≤◌, ◌+◌, ◌*◌, ◌/◌, ◌%◌, ℕ, List, [], ◌∷◌, ◌++◌, length, take, drop, get_or, sym, ap, ap₂, ◌∙◌, arith, length-drop, slice_index, codes, take-add, drop-cons, get_or-drop, Counts, Image, version_in, server_in, counts_in, image_counts, header_bytes, HasForm, big_bytes, big_number, inl, inr, ⊎_elim}
use Rattle.byteorder.specs.Numbers.{big_number-reads_back}

abbrev counts_by : ℕ → ℕ → ℕ → Counts
counts_by pool heads leaves = record { pool = pool; heads = heads; leaves = leaves }

-- ---- what was written is read

module _ (m : Image) (form : HasForm m) (rest : List ℕ) where
  abbrev two : ℕ → List ℕ
  two n = big_bytes 2 n

  pub version_again : version_in (header_bytes m ++ rest) ≡ m.version
  version_again = elim form.version [ inl e ↦ ap (λ n. n % 256) e ∙ sym e | inr e ↦ ap (λ n. n % 256) e ∙ sym e ]

  pub server_again : server_in (header_bytes m ++ rest) ≡ m.server.0
  server_again = small m.server.0 form.server_within
    where
      small : (s : ℕ) → s ≤ 7 → s % 256 ≡ s
      small s few = omega (arith, few)

  pub counts_again : counts_in (header_bytes m ++ rest) ≡ image_counts m
  counts_again =
      ap (λ n. counts_by n (big_number 2 (two m.heads ++ (two m.leaves ++ rest))) (big_number 2 (two m.leaves ++ rest)))
      (big_number-reads_back 2 m.pool (two m.heads ++ (two m.leaves ++ rest)) (let h = form.pool_within.1 in omega (arith, h)))
      ∙ ap (λ n. counts_by m.pool n (big_number 2 (two m.leaves ++ rest)))
      (big_number-reads_back 2 m.heads (two m.leaves ++ rest) (let h = form.heads_within.1 in omega (arith, h)))
      ∙ ap (λ n. counts_by m.pool m.heads n)
      (big_number-reads_back 2 m.leaves rest (let h = form.leaves_within.1 in omega (arith, h)))

-- ---- what was read is written

abbrev pub AreBytes : List ℕ → Type 0
AreBytes bytes = (i : ℕ) → get_or bytes i 0 < 256

one_written : (k : ℕ) (bytes : List ℕ) → AreBytes bytes → k < length bytes → big_bytes 1 (slice_index bytes k) ≡ take 1 (drop k bytes)
one_written k bytes fit within =
    let small : get_or bytes k 0 % 256 ≡ get_or bytes k 0 = let h = fit k in omega (arith, h) in
    ap (λ x. x ∷ []) small ∙ sym (ap (λ (xs : List ℕ). take 1 xs) (drop-cons bytes k 0 within))

two_cells : (xs : List ℕ) → AreBytes xs → 2 ≤ length xs → big_bytes 2 (big_number 2 xs) ≡ take 2 xs
two_cells [] fit long = absurd (omega (arith, long))
two_cells (a ∷ []) fit long = absurd (omega (arith, long))
two_cells (a ∷ b ∷ xs) fit long =
    let high : a < 256 = fit 0 in
    let low : b < 256 = fit 1 in
    cells a b xs high low
  where
    first : (a b : ℕ) → a < 256 → b < 256 → (a * 256 + (b * 1 + 0)) / 256 % 256 ≡ a
    first a b high low = omega (arith, high, low)

    second : (a b : ℕ) → b < 256 → (a * 256 + (b * 1 + 0)) % 256 ≡ b
    second a b low = omega (arith, low)

    cells : (a b : ℕ) (xs : List ℕ) → a < 256 → b < 256 → big_bytes 2 (big_number 2 (a ∷ b ∷ xs)) ≡ a ∷ b ∷ []
    cells a b xs high low = ap₂ (λ x y. x ∷ y ∷ []) (first a b high low) (second a b low)

two_written : (k : ℕ) (bytes : List ℕ) → AreBytes bytes → k + 2 ≤ length bytes → big_bytes 2 (big_number 2 (drop k bytes)) ≡ take 2 (drop k bytes)
two_written k bytes fit within = two_cells (drop k bytes) (λ i. let e = get_or-drop k bytes i 0 in let h = fit (k + i) in omega (arith, e, h)) (omega (arith, within, length-drop k bytes))

-- a piece and the next one
joins : (n m : ℕ) (bytes : List ℕ) (front back : List ℕ) → front ≡ take n bytes → back ≡ take m (drop n bytes) → front ++ back ≡ take (n + m) bytes
joins n m bytes front back f b = ap₂ (λ (xs ys : List ℕ). xs ++ ys) f b ∙ sym (take-add n m bytes)

pub header_written : (bytes : List ℕ) → AreBytes bytes → 16 ≤ length bytes → take 8 bytes ≡ codes "JUNIMAGE"
    → (m : Image) → m.version ≡ version_in bytes → m.server.0 ≡ server_in bytes → image_counts m ≡ counts_in bytes → header_bytes m ≡ take 16 bytes
header_written bytes fit long magic m version server counts =
    let named = codes "JUNIMAGE" ++ big_bytes 1 m.version in
    let owned = named ++ big_bytes 1 m.server.0 in
    let pooled = owned ++ big_bytes 2 m.pool in
    let headed = pooled ++ big_bytes 2 m.heads in
    let name = joins 8 1 bytes (codes "JUNIMAGE") (big_bytes 1 m.version) (sym magic) (ap (λ n. big_bytes 1 n) version ∙ one_written 8 bytes fit (omega (arith, long))) in
    let whose = joins 9 1 bytes named (big_bytes 1 m.server.0) name (ap (λ n. big_bytes 1 n) server ∙ one_written 9 bytes fit (omega (arith, long))) in
    let pool = joins 10 2 bytes owned (big_bytes 2 m.pool) whose (ap (λ (g : Counts). big_bytes 2 g.pool) counts ∙ two_written 10 bytes fit (omega (arith, long))) in
    let heads = joins 12 2 bytes pooled (big_bytes 2 m.heads) pool (ap (λ (g : Counts). big_bytes 2 g.heads) counts ∙ two_written 12 bytes fit (omega (arith, long))) in
    joins 14 2 bytes headed (big_bytes 2 m.leaves) heads (ap (λ (g : Counts). big_bytes 2 g.leaves) counts ∙ two_written 14 bytes fit (omega (arith, long)))
