-- What is known of a format description, and of the one of a plain log.
use Rattle.std.proofs.Common.{◌≡◌, ℕ, ◌-◌, ◌≤◌, ◌<◌, Bool, true, false, List, [], ◌∷◌, ◌++◌, length, take, drop, Option, Some, None, refl, sym, subst, ap, ◌∙◌, arith, length-append}
use Rattle.std.specs.Prelude.{◌==◌, ◌&&◌, if◌then◌else◌, nat_le, slice_index}
use Rattle.std.proofs.lemmas.Bool.{leb-true, and_parts}
use Rattle.std.proofs.lemmas.List.{drop-append-le, get_or_append_left, length-drop, length-take-le, take-append-drop, take-append-le}
use Rattle.std.proofs.lemmas.Option.{none-some}
use Rattle.std.proofs.Math.Seq.{get_or-append_seam}
use Rattle.byteorder.specs.Endian.{little_bytes}
use Rattle.blog_event.specs.declared.fault.Fault.TheVariants.{BadFormat}
use Rattle.blog_event.specs.Event.{Event}
use Rattle.blog_event.specs.Fault.{Cause, needs, first_failing}
use Rattle.blog_event.specs.Format.{Version, version_of, version_text, binlog_version, header_length, has_lengths, checked_lengths, is_old, server_checks, algorithm_by, algorithm, checksum_algorithm, description_fault}
use Rattle.blog_sum.specs.Plain.{format_with, plain_format}

-- ---- the checks of a description

-- a check that holds, and those behind it
needs-none : (test : Bool) (cause : Cause) (checks : List (Option Cause)) → first_failing (needs test cause ∷ checks) ≡ None → (test ≡ true) × (first_failing checks ≡ None)
needs-none true cause checks none = (refl, none)
needs-none false cause checks none = absurd (none-some cause (sym none))

-- what a description is that no check refuses
pub record IsDescribed (e : Event) : Type 0 where
  pub kind : (e.kind == 15) ≡ true
  pub long : nat_le 57 (length e.body) ≡ true
  pub fixed : (binlog_version e.body == 4 && header_length e.body == 19) ≡ true
  pub server : first_failing (server_checks (version_of (version_text e.body)) e.body) ≡ None

pub described : (e : Event) → description_fault e ≡ None → IsDescribed e
unfolding description_fault
described e none =
    let long : Bool = nat_le 57 (length e.body) in
    let fixed : Bool = binlog_version e.body == 4 && header_length e.body == 19 in
    let server : List (Option Cause) = server_checks (version_of (version_text e.body)) e.body in
    let one = needs-none (e.kind == 15) BadFormat (needs long BadFormat ∷ needs fixed BadFormat ∷ server) none in
    let two = needs-none long BadFormat (needs fixed BadFormat ∷ server) one.1 in
    let three = needs-none fixed BadFormat server two.1 in
    record { kind = one.0; long = two.0; fixed = three.0; server = three.1 }

pub described-fault : (e : Event) → IsDescribed e → description_fault e ≡ None
unfolding description_fault
described-fault e is = rw (is.kind, is.long, is.fixed) is.server

-- so it has its fixed fields
pub described-long : (e : Event) → description_fault e ≡ None → 57 ≤ length e.body
described-long e none = leb-true 57 (length e.body) (described e none).long

-- ---- a description with the algorithm 1

-- the server is no old one
server-choice : (old test new : Bool) (algorithm : ℕ) → (if old then 0 else algorithm) ≡ 1
    → first_failing ((if old then needs test BadFormat else needs new BadFormat) ∷ []) ≡ None → (old ≡ false) × (new ≡ true)
server-choice true test new algorithm one none = absurd (omega arith)
server-choice false test new algorithm one none = (refl, (needs-none new BadFormat [] none).0)

-- a version that is newer, and its post-header lengths
pub record IsChecked (v : Option Version) (body : List ℕ) : Type 0 where
  pub version : Version
  pub is : v ≡ Some version
  pub newer : is_old version ≡ false
  pub lengths : (nat_le 94 (length body) && has_lengths checked_lengths body) ≡ true

server-checked : (v : Option Version) (body : List ℕ) → algorithm_by v body ≡ 1 → first_failing (server_checks v body) ≡ None → IsChecked v body
server-checked None body one none = absurd (omega arith)
server-checked (Some v) body one none =
    let choice = server-choice (is_old v) _ (nat_le 94 (length body) && has_lengths checked_lengths body) (checksum_algorithm body) one none in
    record { version = v; is = refl; newer = choice.0; lengths = choice.1 }

-- and the other way round
checked-server : (v : Option Version) (body : List ℕ) → IsChecked v body → first_failing (server_checks v body) ≡ None
checked-server v body is = rw (is.is, is.newer, is.lengths) refl

pub checked : (e : Event) → description_fault e ≡ None → algorithm e.body ≡ 1 → IsChecked (version_of (version_text e.body)) e.body
checked e none one = server-checked (version_of (version_text e.body)) e.body one (described e none).server

-- ---- the fields in the front of a body

-- whatever follows
front-index : (front rest : List ℕ) (i : ℕ) → i < length front → slice_index (front ++ rest) i ≡ slice_index front i
front-index front rest i within = get_or_append_left front rest 0 i within

front-version : (front rest : List ℕ) → 52 ≤ length front → version_text (front ++ rest) ≡ version_text front
front-version front rest room =
    let there : length (drop 2 front) ≡ length front - 2 = length-drop 2 front in
    let field : take 50 (drop 2 (front ++ rest)) ≡ take 50 (drop 2 front) =
    ap (take 50) (drop-append-le 2 front rest (omega arith)) ∙ take-append-le 50 (drop 2 front) rest (omega arith) in
    rw field refl

-- bodies that agree in their first 89 bytes and are as long
record Agree (body other : List ℕ) : Type 0 where
  long : length other ≡ length body
  fixed : (binlog_version other == 4 && header_length other == 19) ≡ (binlog_version body == 4 && header_length body == 19)
  version : version_text other ≡ version_text body
  lengths : has_lengths checked_lengths other ≡ has_lengths checked_lengths body

fronts-agree : (front rest other : List ℕ) → 89 ≤ length front → length other ≡ length rest → Agree (front ++ rest) (front ++ other)
fronts-agree front rest other room same =
    let index : (i : ℕ) → i < 89 → slice_index (front ++ other) i ≡ slice_index (front ++ rest) i =
    λ i below. front-index front other i (omega arith) ∙ sym (front-index front rest i (omega arith)) in
    let ones = length-append front rest in
    let others = length-append front other in
    record {
      long = omega arith;
      fixed = rw (index 0 (omega arith), index 1 (omega arith), index 56 (omega arith)) refl;
      version = front-version front other (omega arith) ∙ sym (front-version front rest (omega arith));
      lengths = rw (index 58 (omega arith), index 75 (omega arith), index 86 (omega arith), index 87 (omega arith), index 88 (omega arith)) refl;
    }

-- ---- the plain description

-- what it was is what it is, but for the last five bytes
format-agrees : (sum : ℕ) (e : Event) → 94 ≤ length e.body → Agree e.body (format_with sum e).body
format-agrees sum e room =
    let m : ℕ = length e.body - 5 in
    let front = length-take-le m e.body (omega arith) in
    let behind = length-drop m e.body in
    let whole : take m e.body ++ drop m e.body ≡ e.body = take-append-drop m e.body in
    subst (λ (body : List ℕ). Agree body (take m e.body ++ (0 ∷ little_bytes 4 sum))) whole (fronts-agree (take m e.body) (drop m e.body) (0 ∷ little_bytes 4 sum) (omega arith) (omega arith))

-- no check refuses it
format-described : (sum : ℕ) (e : Event) → description_fault e ≡ None → algorithm e.body ≡ 1 → description_fault (format_with sum e) ≡ None
format-described sum e none one =
    let was = described e none in
    let server = checked e none one in
    let sizes = and_parts (nat_le 94 (length e.body)) (has_lengths checked_lengths e.body) server.lengths in
    let agree = format-agrees sum e (leb-true 94 (length e.body) sizes.0) in
    let version : version_of (version_text (format_with sum e).body) ≡ Some server.version = ap version_of agree.version ∙ server.is in
    described-fault (format_with sum e) (record {
      kind = was.kind;
      long = ap (nat_le 57) agree.long ∙ was.long;
      fixed = agree.fixed ∙ was.fixed;
      server = checked-server (version_of (version_text (format_with sum e).body)) (format_with sum e).body (record {
        version = server.version;
        is = version;
        newer = server.newer;
        lengths = rw (agree.long, agree.lengths) server.lengths;
      });
    })

pub plain-described : (e : Event) → description_fault e ≡ None → algorithm e.body ≡ 1 → description_fault (plain_format e) ≡ None
plain-described e none one = format-described _ e none one

-- its algorithm is 0
none-by : (v : Option Version) (body : List ℕ) → checksum_algorithm body ≡ 0 → algorithm_by v body ≡ 0
none-by None body none = refl
none-by (Some v) body none = by_old (is_old v)
  where
    by_old : (old : Bool) → (if old then 0 else checksum_algorithm body) ≡ 0
    by_old true = refl
    by_old false = none

-- the first behind a front
behind-front : (front : List ℕ) (x : ℕ) (rest : List ℕ) (n : ℕ) → n ≡ length front → slice_index (front ++ (x ∷ rest)) n ≡ x
behind-front front x rest n is = ap (slice_index (front ++ (x ∷ rest))) is ∙ get_or-append_seam front x rest 0

format-none : (sum : ℕ) (e : Event) → 5 ≤ length e.body → algorithm (format_with sum e).body ≡ 0
format-none sum e room =
    let m : ℕ = length e.body - 5 in
    let front = length-take-le m e.body (omega arith) in
    let all = length-append (take m e.body) (0 ∷ little_bytes 4 sum) in
    none-by (version_of (version_text (format_with sum e).body)) (format_with sum e).body
    (behind-front (take m e.body) 0 (little_bytes 4 sum) (length (format_with sum e).body - 5) (omega arith))

pub plain-none : (e : Event) → 5 ≤ length e.body → algorithm (plain_format e).body ≡ 0
plain-none e room = format-none _ e room
