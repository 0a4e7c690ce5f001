-- What holds of bytes with which nothing is wrong.
use Rattle.jn_image.proofs.Common.{◌≡◌, ◌≤◌, ◌*◌, ℕ, Bool, true, false, List, length, take, drop, Option, Some, None, refl, sym, ap, arith, not, nat_lt, codes, bytes_eq, if◌then◌else◌, false≢true, nat_tests, Counts, page_count, BadImage, bad_of, bad_behind_header, version_in, server_in, counts_in, in_range, within, statuses_fit, has_digest, body_size, image_size, format_version}
use Rattle.jn_image.specs.declared.fault.BadImage.TheVariants.{Short, Magic, Version, Geometry, Status, Digest, Trailing}

pub record PassesBehind (g : Counts) (bytes : List ℕ) : Type 0 where
  pub whole : length bytes ≡ image_size g
  pub statuses : statuses_fit (2 * page_count g) (drop 16 bytes) ≡ true
  pub digest : has_digest (body_size g) bytes ≡ true

pub record Passes (bytes : List ℕ) : Type 0 where
  pub header : 16 ≤ length bytes
  pub magic : bytes_eq (take 8 bytes) (codes "JUNIMAGE") ≡ true
  pub version : within format_version (version_in bytes) ≡ true
  pub range : in_range (server_in bytes) (counts_in bytes) ≡ true
  pub behind : PassesBehind (counts_in bytes) bytes

-- one test after another
none_if : (b : Bool) (f : BadImage) (o : Option BadImage) → b ≡ false → o ≡ None → (if b then Some f else o) ≡ None
none_if true f o is then' = absurd (false≢true (sym is))
none_if false f o is then' = then'

passed : (b : Bool) (f : BadImage) (o : Option BadImage) → (if b then Some f else o) ≡ None → (b ≡ false) × (o ≡ None)
passed true f o e = absurd (some_none f e)
  where
    some_none : (f : BadImage) → Some f ≡ None → ⊥
    some_none f e = cc
passed false f o e = (refl, e)

not_not : (b : Bool) → not b ≡ false → b ≡ true
not_not true e = refl
not_not false e = absurd (false≢true (sym e))

not_true : (b : Bool) → b ≡ true → not b ≡ false
not_true b e = ap not e

not_below : (a b : ℕ) → b ≤ a → nat_lt a b ≡ false
not_below a b h = grind (arith, nat_tests)

at_least : (a b : ℕ) → nat_lt a b ≡ false → b ≤ a
at_least a b h = grind (arith, nat_tests)

module _ (g : Counts) (bytes : List ℕ) where
  abbrev short : Bool
  short = nat_lt (length bytes) (image_size g)

  abbrev fits : Bool
  fits = statuses_fit (2 * page_count g) (drop 16 bytes)

  abbrev digested : Bool
  digested = has_digest (body_size g) bytes

  abbrev long : Bool
  long = nat_lt (image_size g) (length bytes)

  abbrev ends : Option BadImage
  ends = if long then Some Trailing else None

  abbrev from_digest : Option BadImage
  from_digest = if not digested then Some Digest else ends

  abbrev from_status : Option BadImage
  from_status = if not fits then Some Status else from_digest

  passes_behind : PassesBehind g bytes → bad_behind_header g bytes ≡ None
  passes_behind p =
      let size : length bytes ≡ image_size g = p.whole in
      none_if short Short from_status (not_below (length bytes) (image_size g) (omega (arith, size)))
      (none_if (not fits) Status from_digest (not_true fits p.statuses)
      (none_if (not digested) Digest ends (not_true digested p.digest)
      (none_if long Trailing None (not_below (image_size g) (length bytes) (omega (arith, size))) refl)))

  was_behind : bad_behind_header g bytes ≡ None → PassesBehind g bytes
  was_behind e =
      let first = passed short Short from_status e in
      let status = passed (not fits) Status from_digest first.1 in
      let digest = passed (not digested) Digest ends status.1 in
      let trailing = passed long Trailing None digest.1 in
      let least = at_least (length bytes) (image_size g) first.0 in
      let most = at_least (image_size g) (length bytes) trailing.0 in
      record { whole = omega (arith, least, most); statuses = not_not fits status.0; digest = not_not digested digest.0 }

module _ (bytes : List ℕ) where
  abbrev begins : Bool
  begins = bytes_eq (take 8 bytes) (codes "JUNIMAGE")

  abbrev is_version : Bool
  is_version = within format_version (version_in bytes)

  abbrev ranges : Bool
  ranges = in_range (server_in bytes) (counts_in bytes)

  abbrev from_geometry : Option BadImage
  from_geometry = if not ranges then Some Geometry else bad_behind_header (counts_in bytes) bytes

  abbrev from_version : Option BadImage
  from_version = if not is_version then Some Version else from_geometry

  abbrev from_magic : Option BadImage
  from_magic = if not begins then Some Magic else from_version

  pub passes : Passes bytes → bad_of bytes ≡ None
  unfolding bad_of
  passes p =
      none_if (nat_lt (length bytes) 16) Short from_magic (not_below (length bytes) 16 p.header)
      (none_if (not begins) Magic from_version (not_true begins p.magic)
      (none_if (not is_version) Version from_geometry (not_true is_version p.version)
      (none_if (not ranges) Geometry (bad_behind_header (counts_in bytes) bytes) (not_true ranges p.range) (passes_behind (counts_in bytes) bytes p.behind))))

  pub was_passed : bad_of bytes ≡ None → Passes bytes
  unfolding bad_of
  was_passed e =
      let first = passed (nat_lt (length bytes) 16) Short from_magic e in
      let magic = passed (not begins) Magic from_version first.1 in
      let version = passed (not is_version) Version from_geometry magic.1 in
      let geometry = passed (not ranges) Geometry (bad_behind_header (counts_in bytes) bytes) version.1 in
      record {
        header = at_least (length bytes) 16 first.0;
        magic = not_not begins magic.0;
        version = not_not is_version version.0;
        range = not_not ranges geometry.0;
        behind = was_behind (counts_in bytes) bytes geometry.1;
      }
