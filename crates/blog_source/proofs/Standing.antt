-- Where the events stand that are handed out, and which one is found first of those at a place or behind it.
use Rattle.std.proofs.Common.{◌≡◌, ℕ, ◌+◌, ◌≤◌, ◌<◌, Bool, true, false, List, [], ◌∷◌, ◌++◌, length, drop, Option, Some, None, refl, sym, ap, ◌∙◌, arith, append_assoc, length-append}
use Rattle.std.specs.Prelude.{⊤, ◌&&◌, find, map, nat_le}
use Rattle.std.specs.List.{flat_map, AllByRecursion}
use Rattle.std.specs.Option.{option_map_or}
use Rattle.std.proofs.lemmas.Bool.Decides.{nat_tests}
use Rattle.std.proofs.lemmas.List.{drop_at}
use Rattle.blog_event.specs.Event.{Event, event_at, event_size, event_text, IsEvent}
use Rattle.blog_event.specs.File.{Placed, placed_from, end_of}
use Rattle.blog_event.proofs.Framing.{event-again, text-length}
use Rattle.blog_sum.specs.declared.fault.SumFault.{SumFault}
use Rattle.blog_source.specs.declared.reading.Reading.{Reading}
use Rattle.blog_source.specs.Found.{as_damaged, begins_right, check_of, found, found_with, is_wrong_sum}
use Rattle.blog_source.specs.Handed.{bare, becomes, handed}
use Rattle.blog_source.specs.Laws.{HandedOut, handed_for, handed_from, placed_of}
use Rattle.blog_source.proofs.HandedLog.{at_place, end-past}

-- ---- lists

-- two facts of each element give a third
pub all-both : {A : Type 0} (P Q R : A → Type 0) → ((x : A) → P x → Q x → R x) → (xs : List A) → AllByRecursion P xs → AllByRecursion Q xs → AllByRecursion R xs
all-both P Q R give [] ps qs = tt
all-both P Q R give (x ∷ xs) ps qs = (give x ps.0 qs.0, all-both P Q R give xs ps.1 qs.1)

pub all-more : {A : Type 0} (P Q : A → Type 0) → ((x : A) → P x → Q x) → (xs : List A) → AllByRecursion P xs → AllByRecursion Q xs
all-more P Q give [] ps = tt
all-more P Q give (x ∷ xs) ps = (give x ps.0, all-more P Q give xs ps.1)

all-append : {A : Type 0} (P : A → Type 0) (xs ys : List A) → AllByRecursion P xs → AllByRecursion P ys → AllByRecursion P (xs ++ ys)
all-append P [] ys first later = later
all-append P (x ∷ xs) ys first later = (first.0, all-append P xs ys first.1 later)

-- a fact of what is made of each
pub all-unmapped : {A B : Type 0} (P : B → Type 0) (f : A → B) (xs : List A) → AllByRecursion P (map f xs) → AllByRecursion (λ x. P (f x)) xs
all-unmapped P f [] all = tt
all-unmapped P f (x ∷ xs) all = (all.0, all-unmapped P f xs all.1)

-- ---- events that follow each other

placed-append : (at : ℕ) (es more : List Event) → placed_from at (es ++ more) ≡ placed_from at es ++ placed_from (end_of at es) more
placed-append at [] more = refl
placed-append at (e ∷ es) more = ap (λ (ps : List Placed). record { pos = at; event = e } ∷ ps) (placed-append (at + event_size e) es more)

-- each stands where the others end
pub events-stand : (log front rest : List ℕ) (at : ℕ) (es : List Event) → log ≡ front ++ (flat_map event_text es ++ rest) → length front ≡ at → AllByRecursion IsEvent es
    → AllByRecursion (λ p. event_at (drop p.pos log) ≡ Some p.event) (placed_from at es)
events-stand log front rest at [] is long events = tt
events-stand log front rest at (e ∷ es) is long events =
    let later : List ℕ = flat_map event_text es ++ rest in
    let joined : log ≡ front ++ (event_text e ++ later) = is ∙ ap (λ (text : List ℕ). front ++ text) (append_assoc (event_text e) (flat_map event_text es) rest) in
    let behind : drop at log ≡ event_text e ++ later = ap (drop at) joined ∙ drop_at front (event_text e ++ later) at long in
    let here : event_at (drop at log) ≡ Some e = ap event_at behind ∙ event-again e later events.0 in
    let whole : log ≡ (front ++ event_text e) ++ later = joined ∙ sym (append_assoc front (event_text e) later) in
    let own = text-length e in
    let both = length-append front (event_text e) in
    (here, events-stand log (front ++ event_text e) rest (at + event_size e) es whole (omega arith) events.1)

-- ---- the events that are handed out

-- they follow each other
for-are : (p : Placed) (first : ℕ) (qs : List Placed) (later : List HandedOut)
    → map placed_of (map {A = Placed} {B = HandedOut} (λ q. record { event = q.event; at = q.pos; source = p; first = first }) qs ++ later) ≡ qs ++ map placed_of later
for-are p first [] later = refl
for-are p first (q ∷ qs) later = ap (λ (qs : List Placed). q ∷ qs) (for-are p first qs later)

pub from-are : (sums : Bool) (at : ℕ) (ps : List Placed) → map placed_of (handed_from sums at ps) ≡ placed_from at (flat_map (handed sums) ps)
from-are sums at [] = refl
from-are sums at (p ∷ ps) =
    let next : ℕ = end_of at (handed sums p) in
    for-are p at (placed_from at (handed sums p)) (handed_from sums next ps)
    ∙ ap (λ (qs : List Placed). placed_from at (handed sums p) ++ qs) (from-are sums next ps)
    ∙ sym (placed-append at (handed sums p) (flat_map (handed sums) ps))

-- what holds of an event holds of all that are handed out for it
for-each : (P : Placed → ℕ → Type 0) (p : Placed) (first : ℕ) (qs : List Placed) → P p first
    → AllByRecursion (λ h. P h.source h.first) (map {A = Placed} {B = HandedOut} (λ q. record { event = q.event; at = q.pos; source = p; first = first }) qs)
for-each P p first [] holds = tt
for-each P p first (q ∷ qs) holds = (holds, for-each P p first qs holds)

pub from-each : (P : Placed → Type 0) (sums : Bool) (at : ℕ) (ps : List Placed) → AllByRecursion P ps → AllByRecursion (λ h. P h.source) (handed_from sums at ps)
from-each P sums at [] all = tt
from-each P sums at (p ∷ ps) all =
    let next : ℕ = end_of at (handed sums p) in
    all-append (λ h. P h.source) (handed_for p at (handed sums p)) (handed_from sums next ps) (for-each (λ p first. P p) p at (placed_from at (handed sums p)) all.0)
    (from-each P sums next ps all.1)

-- each says the place of the event for which it stands, and begins behind the first of them and behind a position
pub record IsAtPlace (low : ℕ) (h : HandedOut) : Type 0 where
  pub place : h.event.log_pos ≡ h.source.pos
  pub order : h.first ≤ h.at
  pub past : low ≤ h.at

for-at-place : (low first at : ℕ) (p : Placed) (es : List Event) → low ≤ at → first ≤ at
    → AllByRecursion (IsAtPlace low) (map {A = Placed} {B = HandedOut} (λ q. record { event = q.event; at = q.pos; source = p; first = first }) (placed_from at (at_place p.pos es)))
for-at-place low first at p [] past order = tt
for-at-place low first at p (e ∷ es) past order =
    (record { place = refl; order = order; past = past }, for-at-place low first (at + event_size e) p es (omega arith) (omega arith))

pub from-at-place : (low : ℕ) (sums : Bool) (at : ℕ) (ps : List Placed) → low ≤ at → AllByRecursion (IsAtPlace low) (handed_from sums at ps)
from-at-place low sums at [] past = tt
from-at-place low sums at (p ∷ ps) past =
    let next : ℕ = end_of at (handed sums p) in
    let behind = end-past at (handed sums p) in
    all-append (IsAtPlace low) (handed_for p at (handed sums p)) (handed_from sums next ps)
    (for-at-place low at at p (becomes (bare sums p.event)) past (omega arith)) (from-at-place low sums next ps (omega arith))

-- ---- the first at a place or behind it

-- where it begins, and the end of the log if there is none
abbrev pub first_at : ℕ → ℕ → ℕ → List Event → ℕ
first_at end place at es = option_map_or (λ p. p.pos) (find (λ p. nat_le place p.event.log_pos) (placed_from at es)) end

-- events before the place do not count
first-later : (end place at before : ℕ) (es more : List Event) → before < place
    → first_at end place at (at_place before es ++ more) ≡ first_at end place (end_of at (at_place before es)) more
first-later end place at before [] more less = refl
first-later end place at before (e ∷ es) more less =
    let test : nat_le place before ≡ false = grind (arith, nat_tests) in
    (rw test refl) ∙ first-later end place (at + event_size e) before es more less

-- the first of those at the place does
first-here : (end place at : ℕ) (e : Event) (es more : List Event) → first_at end place at (at_place place (e ∷ es) ++ more) ≡ at
first-here end place at e es more =
    let test : nat_le place place ≡ true = grind (arith, nat_tests) in
    rw test refl

for-first : (position : ℕ → ℕ) (end at : ℕ) (p : Placed) (es more : List Event) → position p.pos ≡ first_at end p.pos at (at_place p.pos es ++ more)
    → AllByRecursion (λ h. position h.source.pos ≡ h.first) (handed_for p at (at_place p.pos es))
for-first position end at p [] more is = tt
for-first position end at p (e ∷ es) more is =
    for-each (λ p first. position p.pos ≡ first) p at (placed_from at (at_place p.pos (e ∷ es))) (is ∙ first-here end p.pos at e es more)

-- events of a log, each behind the one before
pub Rise : ℕ → List Placed → Type 0
Rise low [] = ⊤
Rise low (p ∷ ps) = (low ≤ p.pos) × Rise (1 + p.pos) ps

pub from-first : (position : ℕ → ℕ) (end : ℕ) (sums : Bool) (low at : ℕ) (ps : List Placed) → Rise low ps
    → ((place : ℕ) → low ≤ place → position place ≡ first_at end place at (flat_map (handed sums) ps))
    → AllByRecursion (λ h. position h.source.pos ≡ h.first) (handed_from sums at ps)
unfolding Rise
from-first position end sums low at [] rise is = tt
from-first position end sums low at (p ∷ ps) rise is =
    let next : ℕ = end_of at (handed sums p) in
    let more : List Event = flat_map (handed sums) ps in
    let here = rise.0 in
    all-append (λ h. position h.source.pos ≡ h.first) (handed_for p at (handed sums p)) (handed_from sums next ps)
    (for-first position end at p (becomes (bare sums p.event)) more (is p.pos here))
    (from-first position end sums (1 + p.pos) next ps rise.1
    (λ place behind. is place (omega arith) ∙ first-later end place at p.pos (becomes (bare sums p.event)) more (omega arith)))

-- those that are kept rise
rise-lower : (low high : ℕ) (ps : List Placed) → low ≤ high → Rise high ps → Rise low ps
unfolding Rise
rise-lower low high [] less rise = tt
rise-lower low high (p ∷ ps) less rise = let first = rise.0 in (omega arith, rise.1)

pub kept-rise : (how : Reading) (sums : Bool) (len low at : ℕ) (es : List Event) → low ≤ at → Rise low (found how sums len at (placed_from at es)).kept
unfolding Rise
kept-rise how sums len low at [] past = tt
kept-rise how sums len low at (e ∷ es) past = by_check (check_of sums p) passed (kept-rise how sums len (1 + at) (at + event_size e) es (omega arith))
  where
    p : Placed
    p = record { pos = at; event = e }

    passed : Bool
    passed = how.skip_damaged && (is_wrong_sum (check_of sums p) && begins_right (placed_from (at + event_size e) es))

    by_check : (check : Option SumFault) (passed : Bool) → Rise (1 + at) (found how sums len (at + event_size e) (placed_from (at + event_size e) es)).kept
        → Rise low (found_with check passed p (found how sums len (at + event_size e) (placed_from (at + event_size e) es))).kept
    by_check None passed later = (past, later)
    by_check (Some fault) true later = (past, later)
    by_check (Some fault) false later = tt

-- and what holds of the events that are read holds of them
pub kept-all : (P Q : Placed → Type 0) (how : Reading) (sums : Bool) (len at : ℕ) (ps : List Placed) → ((p : Placed) → P p → Q p) → ((p : Placed) → P p → Q (as_damaged p))
    → AllByRecursion P ps → AllByRecursion Q (found how sums len at ps).kept
kept-all P Q how sums len at [] same damaged all = tt
kept-all P Q how sums len at (p ∷ ps) same damaged all = by_check (check_of sums p) passed (kept-all P Q how sums len (p.pos + event_size p.event) ps same damaged all.1)
  where
    passed : Bool
    passed = how.skip_damaged && (is_wrong_sum (check_of sums p) && begins_right ps)

    by_check : (check : Option SumFault) (passed : Bool) → AllByRecursion Q (found how sums len (p.pos + event_size p.event) ps).kept
        → AllByRecursion Q (found_with check passed p (found how sums len (p.pos + event_size p.event) ps)).kept
    by_check None passed later = (same p all.0, later)
    by_check (Some fault) true later = (damaged p all.0, later)
    by_check (Some fault) false later = tt
