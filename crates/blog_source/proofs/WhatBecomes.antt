-- What an event becomes.
use Rattle.std.proofs.Common.{◌≡◌, ℕ, ◌-◌, ◌≤◌, Bool, true, false, List, [], ◌∷◌, length, refl, ap}
use Rattle.std.specs.Prelude.{◌==◌, nat_le, if◌then◌else◌}
use Rattle.std.specs.List.{AllByRecursion}
use Rattle.std.proofs.lemmas.Bool.{and_parts, leb-true}
use Rattle.blog_event.specs.Event.{Event}
use Rattle.blog_source.specs.declared.becoming.Becoming.{Becoming}
use Rattle.blog_source.specs.declared.becoming.Becoming.TheVariants.{Itself, Gtid, Begin, Nothing}
use Rattle.blog_source.specs.Becoming.{become_as, becomes_with, becoming_of, is_tagged}
use Rattle.blog_source.specs.Maria.{is_maria_gtid, is_note, is_standalone}

-- ---- what decides it

abbrev pub by_tests : Bool → Bool → Bool → Bool → Becoming
by_tests tagged note gtid alone = if tagged then Gtid else if note then Nothing else if gtid then (if alone then Nothing else Begin) else Itself

gtid-tested : (tagged note gtid alone : Bool) → by_tests tagged note gtid alone ≡ Gtid → tagged ≡ true
gtid-tested true note gtid alone is = refl
gtid-tested false true gtid alone is = absurd (cc)
gtid-tested false false true true is = absurd (cc)
gtid-tested false false true false is = absurd (cc)
gtid-tested false false false alone is = absurd (cc)

begin-tested : (tagged note gtid alone : Bool) → by_tests tagged note gtid alone ≡ Begin → gtid ≡ true
begin-tested true note gtid alone is = absurd (cc)
begin-tested false true gtid alone is = absurd (cc)
begin-tested false false true alone is = refl
begin-tested false false false alone is = absurd (cc)

-- the Gtid event of a tagged one, and `BEGIN`, have room in its place
pub gtid-room : (kind : ℕ) (body : List ℕ) → becoming_of kind body ≡ Gtid → 25 ≤ length body
gtid-room kind body is =
    let tagged = gtid-tested (is_tagged kind body) (is_note kind) (is_maria_gtid kind body) (is_standalone body) is in
    leb-true 25 (length body) (and_parts (kind == 42) (nat_le 25 (length body)) tagged).1

pub begin-room : (kind : ℕ) (body : List ℕ) → becoming_of kind body ≡ Begin → 19 ≤ length body
begin-room kind body is =
    let gtid = begin-tested (is_tagged kind body) (is_note kind) (is_maria_gtid kind body) (is_standalone body) is in
    leb-true 19 (length body) (and_parts (kind == 162) (nat_le 19 (length body)) gtid).1

-- ---- an event stays itself

abbrev pub Stays : Event → Type 0
Stays e = becoming_of e.kind e.body ≡ Itself

pub stays-alone : (cut : List ℕ → List ℕ) (e : Event) → Stays e → becomes_with cut e ≡ e ∷ []
stays-alone cut e is = ap (λ (r : Becoming). become_as cut r e) is

-- so does what an event becomes
pub then-stays : (cut : List ℕ → List ℕ) (e : Event) → AllByRecursion Stays (becomes_with cut e)
then-stays cut e = by_case (becoming_of e.kind e.body) refl
  where
    by_case : (r : Becoming) → becoming_of e.kind e.body ≡ r → AllByRecursion Stays (become_as cut r e)
    by_case Itself is = (is, tt)
    by_case Gtid is = (refl, tt)
    by_case Begin is = (refl, tt)
    by_case Nothing is = tt
