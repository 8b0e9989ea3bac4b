-- How long a body is that can be read, and the body of the Gtid event that it becomes.
use Rattle.std.proofs.Common.{◌≡◌, ℕ, zero, suc, ◌+◌, ◌≤◌, ◌⊎◌, inl, inr, Bool, true, false, List, [], ◌∷◌, ◌++◌, length, take, drop, Option, Some, None, refl, sym, ap, ◌∙◌, subst, arith}
use Rattle.std.specs.Prelude.{◌==◌, ◌&&◌, ◌%◌, ◌/◌, nat_lt, nat_le, if◌then◌else◌}
use Rattle.std.proofs.lemmas.Bool.{and_parts, leb-true}
use Rattle.std.proofs.lemmas.List.{length-append, length-drop, length-take-le}
use Rattle.std.proofs.lemmas.Option.{cond_some, none-some}
use Rattle.byteorder.specs.Endian.{little_bytes}
use Rattle.blog_event.specs.Format.{◌>>=◌}
use Rattle.blog_gtid.specs.Integers.{following, value_in, integer_front, byte_front, bytes_front, signed_front}
use Rattle.blog_gtid.specs.Tagged.{TaggedId, after_header, after_id, text_front, tag_of, tagged_of, fixed_text, tag_text, gtid_body_of}
use Rattle.blog_gtid.proofs.Bodies.{step-found, some-parts, from_flags, from_server, from_number, from_tag}

-- ---- what is read takes at least one byte

integer-shorter : (bytes : List ℕ) (found : ℕ × List ℕ) → integer_front bytes ≡ Some found → 1 + length found.1 ≤ length bytes
unfolding integer_front
integer-shorter [] found is = absurd (none-some found is)
integer-shorter (first ∷ bytes) found is =
    let (test, same) = cond_some _ _ _ is in
    let left = length-drop (following first) bytes in
    let rest : length found.1 ≡ length (drop (following first) bytes) = ap (λ (found : ℕ × List ℕ). length found.1) (sym same) in
    omega (arith, left, rest)

byte-shorter : (bytes : List ℕ) (found : ℕ × List ℕ) → byte_front bytes ≡ Some found → 1 + length found.1 ≤ length bytes
unfolding byte_front
byte-shorter bytes found is =
    let s = step-found (integer_front bytes) (λ value. if nat_lt value.0 256 then Some value else None) found is in
    let (test, same) = cond_some _ _ _ s.2 in
    let own = integer-shorter bytes s.0 s.1 in
    let rest : length found.1 ≡ length s.0.1 = ap (λ (found : ℕ × List ℕ). length found.1) (sym same) in
    omega (arith, own, rest)

signed-shorter : (bytes : List ℕ) (found : ℕ × List ℕ) → signed_front bytes ≡ Some found → 1 + length found.1 ≤ length bytes
unfolding signed_front
signed-shorter bytes found is =
    let s = step-found (integer_front bytes) (λ value. if value.0 % 2 == 0 then Some (value.0 / 2, value.1) else None) found is in
    let (test, same) = cond_some _ _ _ s.2 in
    let own = integer-shorter bytes s.0 s.1 in
    let rest : length found.1 ≡ length s.0.1 = ap (λ (found : ℕ × List ℕ). length found.1) (sym same) in
    omega (arith, own, rest)

-- as many bytes are read as are asked for
bytes-shorter : (n : ℕ) (bytes : List ℕ) (found : List ℕ × List ℕ) → bytes_front n bytes ≡ Some found → (length found.0 ≡ n) × (n + length found.1 ≤ length bytes)
unfolding bytes_front
bytes-shorter zero bytes found is =
    let same = some-parts ([], bytes) found is in
    let rest : length found.1 ≡ length bytes = ap (λ (found : List ℕ × List ℕ). length found.1) (sym same) in
    (ap (λ (found : List ℕ × List ℕ). length found.0) (sym same), omega (arith, rest))
bytes-shorter (suc n) bytes found is =
    let s = step-found (byte_front bytes) (λ first. bytes_front n first.1 >>= (λ others. Some (first.0 ∷ others.0, others.1))) found is in
    let t = step-found (bytes_front n s.0.1) (λ others. Some (s.0.0 ∷ others.0, others.1)) found s.2 in
    let first = byte-shorter bytes s.0 s.1 in
    let others = bytes-shorter n s.0.1 t.0 t.1 in
    let same = some-parts (s.0.0 ∷ t.0.0, t.0.1) found t.2 in
    let rest : length found.1 ≡ length t.0.1 = ap (λ (found : List ℕ × List ℕ). length found.1) (sym same) in
    let front : length found.0 ≡ length (s.0.0 ∷ t.0.0) = ap (λ (found : List ℕ × List ℕ). length found.0) (sym same) in
    (omega (arith, front, others.0), omega (arith, rest, first, others.1))

header-shorter : (body rest : List ℕ) → after_header body ≡ Some rest → 3 + length rest ≤ length body
unfolding after_header
header-shorter body rest is =
    let last_of : ℕ × List ℕ → ℕ × List ℕ → Option (List ℕ) = λ version size. integer_front size.1 >>= (λ last. if version.0 == 1 && size.0 == length body then Some last.1 else None) in
    let v = step-found (integer_front body) (λ version. integer_front version.1 >>= last_of version) rest is in
    let s = step-found (integer_front v.0.1) (last_of v.0) rest v.2 in
    let l = step-found (integer_front s.0.1) (λ last. if v.0.0 == 1 && s.0.0 == length body then Some last.1 else None) rest s.2 in
    let (test, same) = cond_some _ _ _ l.2 in
    let one = integer-shorter body v.0 v.1 in
    let two = integer-shorter v.0.1 s.0 s.1 in
    let three = integer-shorter s.0.1 l.0 l.1 in
    let all : length rest ≡ length l.0.1 = ap length (sym same) in
    omega (arith, one, two, three, all)

id-shorter : (id : ℕ) (bytes rest : List ℕ) → after_id id bytes ≡ Some rest → 1 + length rest ≤ length bytes
unfolding after_id
id-shorter id bytes rest is =
    let s = step-found (integer_front bytes) (λ found. if found.0 == id then Some found.1 else None) rest is in
    let (test, same) = cond_some _ _ _ s.2 in
    let own = integer-shorter bytes s.0 s.1 in
    let all : length rest ≡ length s.0.1 = ap length (sym same) in
    omega (arith, own, all)

-- ---- the tag

text-shorter : (bytes text : List ℕ) → text_front bytes ≡ Some text → (length text ≤ 32) × (1 + length text ≤ length bytes)
unfolding text_front
text-shorter bytes text is =
    let s = step-found (integer_front bytes) (λ size. if nat_le size.0 32 && nat_le size.0 (length size.1) then Some (take size.0 size.1) else None) text is in
    let (test, same) = cond_some _ _ _ s.2 in
    let tests = and_parts (nat_le s.0.0 32) (nat_le s.0.0 (length s.0.1)) test in
    let few = leb-true s.0.0 32 tests.0 in
    let within = leb-true s.0.0 (length s.0.1) tests.1 in
    let own = integer-shorter bytes s.0 s.1 in
    let all : length text ≡ s.0.0 = ap length (sym same) ∙ length-take-le s.0.0 s.0.1 within in
    (omega (arith, few, all), omega (arith, own, within, all))

-- none, or one behind its id and its length
abbrev HasRoom : List ℕ → List ℕ → Type 0
HasRoom tag bytes = (tag ≡ []) ⊎ (2 + length tag ≤ length bytes)

tag-by-test : (b : Bool) (id : ℕ) (bytes rest tag : List ℕ) → (if b then text_front rest else if nat_lt 3 id then Some [] else None) ≡ Some tag → 1 + length rest ≤ length bytes
    → (length tag ≤ 32) × HasRoom tag bytes
tag-by-test true id bytes rest tag is shorter = let text = text-shorter rest tag is in (text.0, inr (omega (arith, text.1, shorter)))
tag-by-test false id bytes rest tag is shorter =
    let (test, same) = cond_some _ _ _ is in
    let none : length tag ≡ 0 = ap length (sym same) in
    (omega (arith, none), inl (sym same))

tag-shorter : (bytes tag : List ℕ) → tag_of bytes ≡ Some tag → (length tag ≤ 32) × HasRoom tag bytes
unfolding tag_of
tag-shorter [] tag is =
    let same = sym (some-parts [] tag is) in
    let none : length tag ≡ 0 = ap length same in
    (omega (arith, none), inl same)
tag-shorter (first ∷ bytes) tag is =
    let s = step-found (integer_front (first ∷ bytes)) (λ id. if id.0 == 3 then text_front id.1 else if nat_lt 3 id.0 then Some [] else None) tag is in
    tag-by-test (s.0.0 == 3) s.0.0 (first ∷ bytes) s.0.1 tag s.2 (integer-shorter (first ∷ bytes) s.0 s.1)

-- ---- the body

-- a body that can be read has room for the body of the Gtid event with its tag
record HasRoomFor (body : List ℕ) (id : TaggedId) : Type 0 where
  server : length id.server ≡ 16
  tag : length id.tag ≤ 32
  room : (id.tag ≡ []) ⊎ (26 + length id.tag ≤ length body)

has-room : (body : List ℕ) (id : TaggedId) → tagged_of body ≡ Some id → HasRoomFor body id
unfolding tagged_of
has-room body id e =
    let s = step-found (after_header body) from_flags id e in
    let f = step-found (after_id 0 s.0 >>= byte_front) from_server id s.2 in
    let f_id = step-found (after_id 0 s.0) byte_front f.0 f.1 in
    let v = step-found (after_id 1 f.0.1 >>= bytes_front 16) (from_number f.0.0) id f.2 in
    let v_id = step-found (after_id 1 f.0.1) (bytes_front 16) v.0 v.1 in
    let n = step-found (after_id 2 v.0.1 >>= signed_front) (from_tag f.0.0 v.0.0) id v.2 in
    let n_id = step-found (after_id 2 v.0.1) signed_front n.0 n.1 in
    let t = step-found (tag_of n.0.1) (λ tag. Some (record { flags = f.0.0; server = v.0.0; number = n.0.0; tag = tag })) id n.2 in
    let header = header-shorter body s.0 s.1 in
    let zeroth = id-shorter 0 s.0 f_id.0 f_id.1 in
    let flags = byte-shorter f_id.0 f.0 f_id.2 in
    let first = id-shorter 1 f.0.1 v_id.0 v_id.1 in
    let server = bytes-shorter 16 v_id.0 v.0 v_id.2 in
    let second = id-shorter 2 v.0.1 n_id.0 n_id.1 in
    let number = signed-shorter n_id.0 n.0 n_id.2 in
    let tag = tag-shorter n.0.1 t.0 t.1 in
    let before : 24 + length n.0.1 ≤ length body = omega (arith, header, zeroth, flags, first, server.1, second, number) in
    let room : (t.0 ≡ []) ⊎ (26 + length t.0 ≤ length body) = elim tag.1 [
      | inl none ↦ inl none
      | inr enough ↦ inr (omega (arith, before, enough))
    ] in
    subst (HasRoomFor body) (some-parts (record { flags = f.0.0; server = v.0.0; number = n.0.0; tag = t.0 }) id t.2) (record { server = server.0; tag = tag.0; room = room })

-- ---- the body of the Gtid event

-- it has 25 bytes at least, and fits where a tagged one with as many is
pub record IsBetween (body text : List ℕ) : Type 0 where
  pub least : 25 ≤ length text
  pub fits : 25 ≤ length body → length text ≤ length body

fixed-long : (id : TaggedId) → length id.server ≡ 16 → length (fixed_text id) ≡ 25
fixed-long id server = let whole = length-append id.server (little_bytes 8 id.number) in omega (arith, whole, server)

tag-between : (body fixed tag : List ℕ) → length fixed ≡ 25 → (tag ≡ []) ⊎ (26 + length tag ≤ length body) → IsBetween body (fixed ++ tag_text tag)
tag-between body fixed [] long room =
    let whole : length (fixed ++ []) ≡ length fixed + 0 = length-append fixed [] in
    record { least = omega (arith, whole, long); fits = λ enough. omega (arith, whole, long, enough) }
tag-between body fixed (first ∷ tag) long room =
    let whole = length-append fixed (42 ∷ first ∷ tag) in
    let enough : 26 + length (first ∷ tag) ≤ length body = elim room [
      | inl none ↦ let no : length (first ∷ tag) ≡ 0 = ap length none in absurd (omega (arith, no))
      | inr enough ↦ enough
    ] in
    record { least = omega (arith, whole, long); fits = λ _. omega (arith, whole, long, enough) }

pub gtid_between : (body : List ℕ) → IsBetween body (gtid_body_of body)
unfolding gtid_body_of
gtid_between body = by_found (tagged_of body) refl
  where
    by_found : (found : Option TaggedId) → tagged_of body ≡ found → IsBetween body (gtid_body_of body)
    by_found None none = rw none (record { least = omega arith; fits = λ enough. enough })
    by_found (Some id) found =
        let has = has-room body id found in
        rw found (tag-between body (fixed_text id) id.tag (fixed-long id has.server) has.room)

pub gtid_least : (body : List ℕ) → 25 ≤ length (gtid_body_of body)
gtid_least body = (gtid_between body).least

pub gtid_fits : (body : List ℕ) → 25 ≤ length body → length (gtid_body_of body) ≤ length body
gtid_fits body = (gtid_between body).fits
