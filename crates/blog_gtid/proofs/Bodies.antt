-- Bodies of tagged GTID events are read exactly as they are.
use Rattle.std.proofs.Common.{◌≡◌, ℕ, zero, suc, ◌+◌, ◌*◌, ◌/◌, ◌%◌, ◌<◌, ◌≤◌, inl, inr, Bool, true, false, List, [], ◌∷◌, ◌++◌, length, take, drop, Option, Some, None, refl, sym, ap, ap₂, ◌∙◌, subst, arith, take-append-drop}
use Rattle.std.specs.Prelude.{◌==◌, ◌&&◌, nat_lt, nat_le, if◌then◌else◌, unwrap_or}
use Rattle.std.specs.List.{AllByRecursion}
use Rattle.std.proofs.lemmas.Bool.{eqb-true, leb-true, and_parts}
use borrow.Author.Tests.{ltb-true}
use Rattle.std.proofs.lemmas.Bool.Decides.{nat_tests}
use Rattle.std.proofs.lemmas.List.{take_at, length-append, get_or-append-add, length-take-le}
use Rattle.std.proofs.lemmas.Option.{cond_some, none-some}
use Rattle.blog_event.specs.Format.{◌>>=◌}
use Rattle.blog_event.specs.File.{AreBytes}
use Rattle.blog_gtid.specs.Integers.{BeginWith, integer_front, byte_front, bytes_front, signed_front}
use Rattle.blog_gtid.specs.Tagged.{TaggedId, HasTag, HasTagged, after_header, after_id, text_front, tag_of, tagged_of}
use Rattle.blog_gtid.proofs.Spellings.{integer-found, integer-again}

-- ---- steps

-- a step that gave something
pub step-found : {A B : Type 0} (o : Option A) (f : A → Option B) (y : B) → (o >>= f) ≡ Some y → (x : A) × (o ≡ Some x) × (f x ≡ Some y)
step-found None f y e = absurd (none-some y e)
step-found (Some x) f y e = (x, refl, e)

-- ---- what is there is read

-- the first of several integers
first-again : (v : ℕ) (vs rest bytes : List ℕ) → BeginWith (v ∷ vs) rest bytes → (others : List ℕ) × (integer_front bytes ≡ Some (v, others)) × BeginWith vs rest others
first-again v vs rest bytes h = (h.1, rw h.3 (integer-again h.0 v h.1 h.2), h.4)

-- a byte
byte-again : (v : ℕ) (bytes others : List ℕ) → v < 256 → integer_front bytes ≡ Some (v, others) → byte_front bytes ≡ Some (v, others)
unfolding byte_front
byte-again v bytes others fits e =
    let test : nat_lt v 256 ≡ true = grind (arith, nat_tests) in
    rw (e, test)

-- bytes in front of several integers
bytes-again : (xs vs rest bytes : List ℕ) → AllByRecursion (λ byte. byte < 256) xs → BeginWith (xs ++ vs) rest bytes
    → (others : List ℕ) × (bytes_front (length xs) bytes ≡ Some (xs, others)) × BeginWith vs rest others
unfolding bytes_front
bytes-again [] vs rest bytes are h = (bytes, refl, h)
bytes-again (x ∷ xs) vs rest bytes are h =
    let one = first-again x (xs ++ vs) rest bytes h in
    let others = bytes-again xs vs rest one.0 are.1 one.2 in
    (others.0, rw (byte-again x bytes one.0 are.0 one.1, others.1), others.2)

-- a number that isn't negative
signed-again : (v : ℕ) (bytes others : List ℕ) → integer_front bytes ≡ Some (2 * v, others) → signed_front bytes ≡ Some (v, others)
unfolding signed_front
signed-again v bytes others e =
    let test : (2 * v % 2 == 0) ≡ true = grind (arith, nat_tests) in
    let half : 2 * v / 2 ≡ v = omega arith in
    rw (e, test, half)

id-again : (id : ℕ) (bytes others : List ℕ) → integer_front bytes ≡ Some (id, others) → after_id id bytes ≡ Some others
unfolding after_id
id-again id bytes others e =
    let test : (id == id) ≡ true = grind (arith, nat_tests) in
    rw (e, test)

header-again : (last : ℕ) (body one two three : List ℕ) → integer_front body ≡ Some (1, one) → integer_front one ≡ Some (length body, two) → integer_front two ≡ Some (last, three)
    → after_header body ≡ Some three
unfolding after_header
header-again last body one two three e f g =
    let test : (length body == length body) ≡ true = grind (arith, nat_tests) in
    rw (e, f, g, test)

text-again : (tag rest bytes : List ℕ) → length tag ≤ 32 → integer_front bytes ≡ Some (length tag, tag ++ rest) → text_front bytes ≡ Some tag
unfolding text_front
text-again tag rest bytes short e =
    let len = length-append tag rest in
    let first : nat_le (length tag) 32 ≡ true = grind (arith, nat_tests) in
    let second : nat_le (length tag) (length (tag ++ rest)) ≡ true = grind (arith, nat_tests) in
    rw (e, first, second, take_at tag rest (length tag) refl)

-- what is after the number, by its first integer
abbrev from_id : ℕ → List ℕ → Option (List ℕ)
from_id id rest = if id == 3 then text_front rest else if nat_lt 3 id then Some [] else None

tag-by-id : (bytes : List ℕ) (id : ℕ) (rest : List ℕ) → integer_front bytes ≡ Some (id, rest) → tag_of bytes ≡ from_id id rest
unfolding tag_of integer_front
tag-by-id [] id rest e = absurd (none-some (id, rest) e)
tag-by-id (first ∷ bytes) id rest e = rw e

later-again : (id : ℕ) (rest : List ℕ) → 3 < id → from_id id rest ≡ Some []
later-again id rest later =
    let first : (id == 3) ≡ false = grind (arith, nat_tests) in
    let second : nat_lt 3 id ≡ true = grind (arith, nat_tests) in
    rw (first, second)

none-again : tag_of [] ≡ Some []
unfolding tag_of
none-again = refl

tag-again : (tag bytes : List ℕ) → HasTag tag bytes → tag_of bytes ≡ Some tag
tag-again tag bytes h = elim h [
  | inl k ↦
      let rest : List ℕ = k.1.0 in
      let one = first-again 3 (length tag ∷ []) (tag ++ rest) bytes k.1.1 in
      let two = first-again (length tag) [] (tag ++ rest) one.0 one.2 in
      let text : integer_front one.0 ≡ Some (length tag, tag ++ rest) = two.1 ∙ ap (λ (r : List ℕ). Some (length tag, r)) two.2 in
      tag-by-id bytes 3 one.0 one.1 ∙ text-again tag rest one.0 k.0 text
  | inr k ↦ elim k.1 [
    | inl none ↦ ap tag_of none ∙ none-again ∙ ap Some (sym k.0)
    | inr later ↦
        let one = first-again later.0 [] later.1 bytes later.3 in
        tag-by-id bytes later.0 one.0 one.1 ∙ later-again later.0 one.0 later.2 ∙ ap Some (sym k.0)
  ]
]

pub tagged-again : (body : List ℕ) (id : TaggedId) → HasTagged body id → tagged_of body ≡ Some id
unfolding tagged_of
tagged-again body id h =
    let numbers : List ℕ = 2 ∷ 2 * id.number ∷ [] in
    let a = first-again 1 (length body ∷ h.last ∷ 0 ∷ id.flags ∷ 1 ∷ (id.server ++ numbers)) h.after body h.text in
    let b = first-again (length body) (h.last ∷ 0 ∷ id.flags ∷ 1 ∷ (id.server ++ numbers)) h.after a.0 a.2 in
    let c = first-again h.last (0 ∷ id.flags ∷ 1 ∷ (id.server ++ numbers)) h.after b.0 b.2 in
    let d = first-again 0 (id.flags ∷ 1 ∷ (id.server ++ numbers)) h.after c.0 c.2 in
    let e = first-again id.flags (1 ∷ (id.server ++ numbers)) h.after d.0 d.2 in
    let f = first-again 1 (id.server ++ numbers) h.after e.0 e.2 in
    let g = bytes-again id.server numbers h.after f.0 h.server f.2 in
    let i = first-again 2 (2 * id.number ∷ []) h.after g.0 g.2 in
    let j = first-again (2 * id.number) [] h.after i.0 i.2 in
    let server : bytes_front 16 f.0 ≡ Some (id.server, g.0) = ap (λ n. bytes_front n f.0) (sym h.server_len) ∙ g.1 in
    let tag : tag_of j.0 ≡ Some id.tag = ap tag_of j.2 ∙ tag-again id.tag h.after h.tag in
    rw (
      header-again h.last body a.0 b.0 c.0 a.1 b.1 c.1,
      id-again 0 c.0 d.0 d.1,
      byte-again id.flags d.0 e.0 h.flags e.1,
      id-again 1 e.0 f.0 f.1,
      server,
      id-again 2 g.0 i.0 i.1,
      signed-again id.number i.0 j.0 j.1,
      tag,
    )

-- ---- what is read is there

-- bytes begin with these integers, and bytes are left
record Reads (vs bytes rest : List ℕ) : Type 0 where
  are : AreBytes rest
  more : (ws end : List ℕ) → BeginWith ws end rest → BeginWith (vs ++ ws) end bytes

pub some-parts : {A : Type 0} (x y : A) → Some x ≡ Some y → x ≡ y
some-parts x y e = ap (λ o. unwrap_or o x) e

are-after : (first rest : List ℕ) → AreBytes (first ++ rest) → AreBytes rest
are-after first rest are = λ i. rw (get_or-append-add first rest i 0) at (are (length first + i))

integer-reads : (bytes : List ℕ) (v : ℕ) (rest : List ℕ) → AreBytes bytes → integer_front bytes ≡ Some (v, rest) → Reads (v ∷ []) bytes rest
integer-reads bytes v rest are e =
    let f = integer-found bytes v rest are e in
    record { are = are-after f.0 rest (subst AreBytes f.2 are); more = λ ws end h. (f.0, rest, f.1, f.2, h) }

id-reads : (id : ℕ) (bytes rest : List ℕ) → AreBytes bytes → after_id id bytes ≡ Some rest → Reads (id ∷ []) bytes rest
unfolding after_id
id-reads id bytes rest are e =
    let s = step-found (integer_front bytes) (λ found. if found.0 == id then Some found.1 else None) rest e in
    let (test, same) = cond_some _ _ _ s.2 in
    integer-reads bytes id rest are (s.1 ∙ ap₂ (λ (v : ℕ) (r : List ℕ). Some (v, r)) (eqb-true s.0.0 id test) same)

byte-reads : (bytes : List ℕ) (v : ℕ) (rest : List ℕ) → AreBytes bytes → byte_front bytes ≡ Some (v, rest) → (v < 256) × Reads (v ∷ []) bytes rest
unfolding byte_front
byte-reads bytes v rest are e =
    let s = step-found (integer_front bytes) (λ value. if nat_lt value.0 256 then Some value else None) (v, rest) e in
    let (test, same) = cond_some _ _ _ s.2 in
    let below : s.0.0 < 256 = ltb-true s.0.0 256 test in
    let value : s.0.0 ≡ v = ap (λ (p : ℕ × List ℕ). p.0) same in
    (omega (arith, below, value), integer-reads bytes v rest are (s.1 ∙ ap (λ (p : ℕ × List ℕ). Some p) same))

signed-reads : (bytes : List ℕ) (v : ℕ) (rest : List ℕ) → AreBytes bytes → signed_front bytes ≡ Some (v, rest) → Reads (2 * v ∷ []) bytes rest
unfolding signed_front
signed-reads bytes v rest are e =
    let s = step-found (integer_front bytes) (λ value. if value.0 % 2 == 0 then Some (value.0 / 2, value.1) else None) (v, rest) e in
    let (test, same) = cond_some _ _ _ s.2 in
    let even : s.0.0 % 2 ≡ 0 = eqb-true (s.0.0 % 2) 0 test in
    let half : s.0.0 / 2 ≡ v = ap (λ (p : ℕ × List ℕ). p.0) same in
    let twice : s.0.0 ≡ 2 * v = omega (arith, even, half) in
    integer-reads bytes (2 * v) rest are (s.1 ∙ ap₂ (λ (v : ℕ) (r : List ℕ). Some (v, r)) twice (ap (λ (p : ℕ × List ℕ). p.1) same))

-- this many bytes
abbrev AreRead : ℕ → List ℕ → List ℕ × List ℕ → Type 0
AreRead n bytes p = (length p.0 ≡ n) × AllByRecursion (λ byte. byte < 256) p.0 × Reads p.0 bytes p.1

bytes-reads : (n : ℕ) (bytes : List ℕ) (p : List ℕ × List ℕ) → AreBytes bytes → bytes_front n bytes ≡ Some p → AreRead n bytes p
unfolding bytes_front
bytes-reads zero bytes p are e =
    subst (AreRead 0 bytes) (some-parts ([], bytes) p e) (refl, tt, record { are = are; more = λ ws end h. h })
bytes-reads (suc n) bytes p are e =
    let s = step-found (byte_front bytes) (λ first. bytes_front n first.1 >>= (λ others. Some (first.0 ∷ others.0, others.1))) p e in
    let t = step-found (bytes_front n s.0.1) (λ others. Some (s.0.0 ∷ others.0, others.1)) p s.2 in
    let b = byte-reads bytes s.0.0 s.0.1 are s.1 in
    let o = bytes-reads n s.0.1 t.0 b.1.are t.1 in
    subst (AreRead (suc n) bytes) (some-parts (s.0.0 ∷ t.0.0, t.0.1) p t.2)
    (ap suc o.0, (b.0, o.1), record { are = o.2.are; more = λ ws end h. b.1.more (t.0.0 ++ ws) end (o.2.more ws end h) })

header-reads : (body rest : List ℕ) → AreBytes body → after_header body ≡ Some rest → (last : ℕ) × Reads (1 ∷ length body ∷ last ∷ []) body rest
unfolding after_header
header-reads body rest are e =
    let s = step-found (integer_front body) (λ version. integer_front version.1 >>= (λ size. integer_front size.1 >>= (λ last. if version.0 == 1 && size.0 == length body then Some last.1 else None))) rest e in
    let t = step-found (integer_front s.0.1) (λ size. integer_front size.1 >>= (λ last. if s.0.0 == 1 && size.0 == length body then Some last.1 else None)) rest s.2 in
    let u = step-found (integer_front t.0.1) (λ last. if s.0.0 == 1 && t.0.0 == length body then Some last.1 else None) rest t.2 in
    let (test, same) = cond_some _ _ _ u.2 in
    let tests = and_parts (s.0.0 == 1) (t.0.0 == length body) test in
    let a = integer-reads body 1 s.0.1 are (s.1 ∙ ap (λ (v : ℕ). Some (v, s.0.1)) (eqb-true s.0.0 1 tests.0)) in
    let b = integer-reads s.0.1 (length body) t.0.1 a.are (t.1 ∙ ap (λ (v : ℕ). Some (v, t.0.1)) (eqb-true t.0.0 (length body) tests.1)) in
    let c = integer-reads t.0.1 u.0.0 rest b.are (u.1 ∙ ap (λ (r : List ℕ). Some (u.0.0, r)) same) in
    (u.0.0, record { are = c.are; more = λ ws end h. a.more (length body ∷ u.0.0 ∷ ws) end (b.more (u.0.0 ∷ ws) end (c.more ws end h)) })

text-reads : (bytes tag : List ℕ) → AreBytes bytes → text_front bytes ≡ Some tag → (length tag ≤ 32) × ((rest : List ℕ) × Reads (length tag ∷ []) bytes (tag ++ rest))
unfolding text_front
text-reads bytes tag are e =
    let s = step-found (integer_front bytes) (λ size. if nat_le size.0 32 && nat_le size.0 (length size.1) then Some (take size.0 size.1) else None) tag e in
    let (test, same) = cond_some _ _ _ s.2 in
    let tests = and_parts (nat_le s.0.0 32) (nat_le s.0.0 (length s.0.1)) test in
    let short : s.0.0 ≤ 32 = leb-true s.0.0 32 tests.0 in
    let within : s.0.0 ≤ length s.0.1 = leb-true s.0.0 (length s.0.1) tests.1 in
    let len : s.0.0 ≡ length tag = sym (length-take-le s.0.0 s.0.1 within) ∙ ap length same in
    let text : s.0.1 ≡ tag ++ drop s.0.0 s.0.1 = sym (take-append-drop s.0.0 s.0.1) ∙ ap (λ xs. xs ++ drop s.0.0 s.0.1) same in (
      omega (arith, short, len),
      (
        drop s.0.0 s.0.1,
        integer-reads bytes (length tag) (tag ++ drop s.0.0 s.0.1) are
            (s.1 ∙ ap₂ (λ (v : ℕ) (r : List ℕ). Some (v, r)) len text),
      ),
    )

tag-by-test : (b : Bool) (id : ℕ) (bytes rest tag : List ℕ) → (id == 3) ≡ b → AreBytes bytes → integer_front bytes ≡ Some (id, rest)
    → (if b then text_front rest else if nat_lt 3 id then Some [] else None) ≡ Some tag → HasTag tag bytes
tag-by-test true id bytes rest tag is are e found =
    let one = integer-reads bytes 3 rest are (e ∙ ap (λ (v : ℕ). Some (v, rest)) (eqb-true id 3 is)) in
    let two = text-reads rest tag one.are found in
    inl (two.0, (two.1.0, one.more (length tag ∷ []) (tag ++ two.1.0) (two.1.1.more [] (tag ++ two.1.0) refl)))
tag-by-test false id bytes rest tag is are e found =
    let (test, same) = cond_some _ _ _ found in
    let one = integer-reads bytes id rest are e in
    inr (sym same, inr (id, rest, ltb-true 3 id test, one.more [] rest refl))

tag-found : (bytes tag : List ℕ) → AreBytes bytes → tag_of bytes ≡ Some tag → HasTag tag bytes
unfolding tag_of
tag-found [] tag are e = inr (sym (some-parts [] tag e), inl refl)
tag-found (first ∷ bytes) tag are e =
    let s = step-found (integer_front (first ∷ bytes)) (λ id. if id.0 == 3 then text_front id.1 else if nat_lt 3 id.0 then Some [] else None) tag e in
    tag-by-test (s.0.0 == 3) s.0.0 (first ∷ bytes) s.0.1 tag refl are s.1 s.2

-- ---- the steps of a body

abbrev pub from_tag : ℕ → List ℕ → ℕ × List ℕ → Option TaggedId
from_tag flags server number = tag_of number.1 >>= (λ tag. Some (record { flags = flags; server = server; number = number.0; tag = tag }))

abbrev pub from_number : ℕ → List ℕ × List ℕ → Option TaggedId
from_number flags server = (after_id 2 server.1 >>= signed_front) >>= from_tag flags server.0

abbrev pub from_server : ℕ × List ℕ → Option TaggedId
from_server flags = (after_id 1 flags.1 >>= bytes_front 16) >>= from_number flags.0

abbrev pub from_flags : List ℕ → Option TaggedId
from_flags fields = (after_id 0 fields >>= byte_front) >>= from_server

-- the fields, one after the other
assembled : (body : List ℕ) (last flags number : ℕ) (server tag a b c d e f g : List ℕ) → Reads (1 ∷ length body ∷ last ∷ []) body a → Reads (0 ∷ []) a b
    → (flags < 256) × Reads (flags ∷ []) b c → Reads (1 ∷ []) c d → AreRead 16 d (server, e) → Reads (2 ∷ []) e f → Reads (2 * number ∷ []) f g → HasTag tag g
    → HasTagged body (record { flags = flags; server = server; number = number; tag = tag })
assembled body last flags number server tag a b c d e f g head zeroth first_field first bytes second twice has =
    let numbers : List ℕ = 2 ∷ 2 * number ∷ [] in
    record {
      last = last;
      after = g;
      flags = first_field.0;
      server = bytes.1;
      server_len = bytes.0;
      text = head.more (0 ∷ flags ∷ 1 ∷ (server ++ numbers)) g (zeroth.more (flags ∷ 1 ∷ (server ++ numbers)) g (first_field.1.more (1 ∷ (server ++ numbers)) g
          (first.more (server ++ numbers) g (bytes.2.more numbers g (second.more (2 * number ∷ []) g (twice.more [] g refl))))));
      tag = has;
    }

pub tagged-found : (body : List ℕ) (id : TaggedId) → AreBytes body → tagged_of body ≡ Some id → HasTagged body id
unfolding tagged_of
tagged-found body id are e =
    let s = step-found (after_header body) from_flags id e in
    let head = header-reads body s.0 are s.1 in
    let f = step-found (after_id 0 s.0 >>= byte_front) from_server id s.2 in
    let f_id = step-found (after_id 0 s.0) byte_front f.0 f.1 in
    let zeroth = id-reads 0 s.0 f_id.0 head.1.are f_id.1 in
    let flags = byte-reads f_id.0 f.0.0 f.0.1 zeroth.are f_id.2 in
    let v = step-found (after_id 1 f.0.1 >>= bytes_front 16) (from_number f.0.0) id f.2 in
    let v_id = step-found (after_id 1 f.0.1) (bytes_front 16) v.0 v.1 in
    let first = id-reads 1 f.0.1 v_id.0 flags.1.are v_id.1 in
    let server = bytes-reads 16 v_id.0 v.0 first.are v_id.2 in
    let n = step-found (after_id 2 v.0.1 >>= signed_front) (from_tag f.0.0 v.0.0) id v.2 in
    let n_id = step-found (after_id 2 v.0.1) signed_front n.0 n.1 in
    let second = id-reads 2 v.0.1 n_id.0 server.2.are n_id.1 in
    let number = signed-reads n_id.0 n.0.0 n.0.1 second.are n_id.2 in
    let t = step-found (tag_of n.0.1) (λ tag. Some (record { flags = f.0.0; server = v.0.0; number = n.0.0; tag = tag })) id n.2 in
    let has = assembled body head.0 f.0.0 n.0.0 v.0.0 t.0 s.0 f_id.0 f.0.1 v_id.0 v.0.1 n_id.0 n.0.1 head.1 zeroth flags first server second number (tag-found n.0.1 t.0 number.are t.1) in
    subst (HasTagged body) (some-parts (record { flags = f.0.0; server = v.0.0; number = n.0.0; tag = t.0 }) id t.2) has
