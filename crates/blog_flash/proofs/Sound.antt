-- What is known of each event of an accepted log's range.
use Rattle.std.proofs.Common.{◌≡◌, ℕ, ◌+◌, ◌<◌, ◌^◌, List, [], ◌∷◌, ◌++◌, length, Option, None, refl, subst, arith, take_at, drop_at}
use Rattle.std.proofs.lemmas.Bool.Decides.{nat_tests}
use Rattle.std.specs.List.{AllByRecursion, Contains, flat_map}
use Rattle.std.proofs.lemmas.List.Elements.{All-contains_itself, recursion_from_All}
use Rattle.byteorder.specs.Numbers.{little_from-lt}
use Rattle.blog_event.specs.Event.{Event, event_size, event_text, IsEvent}
use Rattle.blog_event.specs.File.{magic, file_text, Placed, placed_from, read, IsFront, AreBytes}
use Rattle.blog_event.proofs.Framing.{bytes-take, bytes-drop, read-front, read-events}
use Rattle.blog_row.specs.RowsEvent.{flags_of}
use Rattle.blog_row.specs.declared.event_kinds.EventKind.TheVariants as kind
use Rattle.blog_trans.specs.Selection.{Selection}
use Rattle.blog_trans.specs.Places.{kind_at}
use Rattle.blog_trans.specs.Acceptance.{event_fault, range, is_in_range, IsAccepted, Passes}
use Rattle.blog_trans.proofs.PlacedParts.{all-by, all-filter}
use Rattle.blog_trans.proofs.ProgressAccepted.{accepted-passes}

-- what holds of events holds of them at their places
all-placed : (P : Event → Type 0) (pos : ℕ) (es : List Event) → AllByRecursion P es → AllByRecursion (λ (p : Placed). P p.event) (placed_from pos es)
all-placed P pos [] all = tt
all-placed P pos (e ∷ es) all = (all.0, all-placed P (pos + event_size e) es all.1)

-- ---- the events that are read

-- the front of bytes
bytes-front : (xs ys : List ℕ) → AreBytes (xs ++ ys) → AreBytes xs
bytes-front xs ys are = subst AreBytes (take_at xs ys (length xs) refl) (bytes-take (length xs) (xs ++ ys) are)

-- and what stands behind it
bytes-behind : (xs ys : List ℕ) → AreBytes (xs ++ ys) → AreBytes ys
bytes-behind xs ys are = subst AreBytes (drop_at xs ys (length xs) refl) (bytes-drop (length xs) (xs ++ ys) are)

-- the body stands behind the 19 bytes of the header
text-body : (e : Event) → AreBytes (event_text e) → AreBytes e.body
unfolding event_text
text-body e are = bytes-drop 19 (event_text e) are

-- bodies of texts of bytes are bytes
texts-bodies : (es : List Event) → AreBytes (flat_map event_text es) → AllByRecursion (λ (e : Event). AreBytes e.body) es
texts-bodies [] are = tt
texts-bodies (e ∷ es) are = (text-body e (bytes-front (event_text e) (flat_map event_text es) are), texts-bodies es (bytes-behind (event_text e) (flat_map event_text es) are))

-- those of a front
front-bodies : (bytes : List ℕ) (stop : Option ℕ) (es : List Event) → AreBytes bytes → IsFront bytes stop es → AllByRecursion (λ (e : Event). AreBytes e.body) es
front-bodies bytes stop [] are front = tt
front-bodies bytes stop (e ∷ es) are front =
    let (rest, begins) = front.file (omega arith) in
    texts-bodies (e ∷ es) (bytes-behind magic (flat_map event_text (e ∷ es)) (bytes-front (file_text (e ∷ es)) rest (subst AreBytes begins are)))

-- ---- the events of the range

-- what is known of an event; Member is what is known of its place in the log
pub record IsSound (Member : Placed → Type 0) (p : Placed) : Type 0 where
  pub event : IsEvent p.event
  pub mark : flags_of p.event.body < 2 ^ 16
  pub xid : kind_at p ≡ kind.Xid → length p.event.body ≡ 8
  pub member : Member p

-- an Xid that passes has eight bytes
xid-long : (sel : Selection) (earlier : List Placed) (p : Placed) → event_fault sel earlier p ≡ None → kind_at p ≡ kind.Xid → length p.event.body ≡ 8
xid-long sel earlier p e is = grind (arith, nat_tests)

-- events that pass are sound
all-sound : (Member : Placed → Type 0) (sel : Selection) (earlier ps : List Placed) → Passes sel earlier ps → AllByRecursion (λ (p : Placed). IsEvent p.event) ps
    → AllByRecursion (λ (p : Placed). AreBytes p.event.body) ps → AllByRecursion Member ps → AllByRecursion (IsSound Member) ps
all-sound Member sel earlier [] pass events bodies members = tt
all-sound Member sel earlier (p ∷ ps) pass events bodies members =
    let mark : flags_of p.event.body < 256 ^ 2 = little_from-lt 0 2 _ (bytes-drop 6 p.event.body bodies.0) in
    let own : IsSound Member p = record { event = events.0; mark = omega arith; xid = xid-long sel earlier p pass.0; member = members.0 } in
    (own, all-sound Member sel (p ∷ earlier) ps pass.1 events.1 bodies.1 members.1)

-- the events of an accepted log's range are sound
pub range-sound : (bytes : List ℕ) (sel : Selection) → AreBytes bytes → IsAccepted bytes sel
    → AllByRecursion (IsSound (Contains (range sel (placed_from 4 (read bytes sel.stop))))) (range sel (placed_from 4 (read bytes sel.stop)))
range-sound bytes sel are accepted =
    let ps : List Placed = placed_from 4 (read bytes sel.stop) in
    let kept : (P : Event → Type 0) → AllByRecursion P (read bytes sel.stop) → AllByRecursion (λ (p : Placed). P p.event) (range sel ps) =
    λ P all. all-by _ (λ (p : Placed). P p.event) (λ p h. h.0) (range sel ps) (all-filter (λ (p : Placed). P p.event) (is_in_range sel) ps (all-placed P 4 (read bytes sel.stop) all)) in
    all-sound (Contains (range sel ps)) sel [] (range sel ps) (accepted-passes bytes sel accepted) (kept IsEvent (read-events bytes sel.stop are))
    (kept (λ e. AreBytes e.body) (front-bodies bytes sel.stop (read bytes sel.stop) are (read-front bytes sel.stop are)))
    (recursion_from_All (Contains (range sel ps)) (range sel ps) (All-contains_itself (range sel ps)))
