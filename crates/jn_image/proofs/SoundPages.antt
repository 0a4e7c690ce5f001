-- The pages of a sound image are sound.
use Rattle.jn_image.proofs.Common.{◌<◌, ◌≤◌, ◌^◌, ℕ, subst, arith, ServerNo, IsSound, image_counts, SoundImagesHaveSoundPages}
use Rattle.jn_disks.specs.Disks.{image_of}

one_byte : (n : ℕ) → n ≤ 7 → n < 2 ^ 8
one_byte n most = omega (arith, most)

two_bytes : (n : ℕ) → n ≤ 8000 → n < 2 ^ 16
two_bytes n most = omega (arith, most)

pub sound_pages : SoundImagesHaveSoundPages
sound_pages m s form is = record {
  size = form.both_halves;
  fit = record {
    server_fits = subst (λ (r : ServerNo). r.0 < 2 ^ 8) is.server (one_byte m.server.0 form.server_within);
    pool = let most = form.pool_within.1 in omega (arith, most);
    heads = let most = form.heads_within.1 in omega (arith, most);
    leaves = two_bytes m.leaves form.leaves_within.1;
  };
  sound = subst (λ (r : ServerNo). IsSound s (image_of m.version r (image_counts m) m.pages)) is.server is;
}
