-- The places of the events that are handed out, and the positions of these places.
use Rattle.std.proofs.Common.{◌≡◌, ℕ, ◌+◌, ◌≤◌, false, List, [], ◌∷◌, ◌++◌, length, take, drop, Some, None, refl, sym, subst, ap, ◌∙◌, arith, append_assoc, inl, inr, length-append}
use Rattle.std.specs.Prelude.{map, nat_lt}
use Rattle.std.specs.List.{flat_map, AllByRecursion}
use Rattle.std.proofs.lemmas.Bool.Decides.{nat_tests}
use Rattle.std.proofs.lemmas.List.{append-nil}
use Rattle.std.proofs.lemmas.Slice.Eq.{bytes_eq-Decides}
use Rattle.blog_event.specs.Event.{Event, event_at, event_size, event_text}
use Rattle.blog_event.specs.File.{AreBytes, Placed, magic, placed_from, events_from, read}
use Rattle.blog_event.proofs.Framing.{text-length}
use Rattle.blog_sum.specs.Sums.{has_sums}
use Rattle.blog_source.specs.declared.reading.Reading.{Reading}
use Rattle.blog_source.specs.Found.{Found, found, found_of, source_refusal}
use Rattle.blog_source.specs.Handed.{handed, handed_format, handed_log}
use Rattle.blog_source.specs.Places.{first_of, place_of, position_of}
use Rattle.blog_source.specs.Laws.{HandedOut, StandsIn, handed_from, handed_out, placed_of}
use Rattle.blog_source.proofs.Accepted.{IsAccepted, is-accepted, is-read, later_of}
use Rattle.blog_source.proofs.HandedLog.{IsHanded, is-handed, handed-stands, handed-text}
use Rattle.blog_source.proofs.LogText.{text-marked, text-read}
use Rattle.blog_source.proofs.Opened.{read-is}
use Rattle.blog_source.proofs.Placing.{position-first}
use Rattle.blog_source.proofs.Standing.{IsAtPlace, all-both, all-more, all-unmapped, events-stand, first_at, from-are, from-at-place, from-each, from-first, kept-all, kept-rise}
use Rattle.blog_source.proofs.WholeReading.{found-is}

-- ---- where the event behind the format description begins, in both logs

-- what is kept of the server's log
unfoldable pub kept_of : (how : Reading) (bytes : List ℕ) → IsAccepted bytes → List Placed
kept_of how bytes log = (found how (has_sums bytes) (length bytes) (4 + event_size log.format) (placed_from (4 + event_size log.format) (later_of bytes how.stop log))).kept

first-is : (bytes : List ℕ) (format : Event) → event_at (drop 4 bytes) ≡ Some format → first_of bytes ≡ 4 + event_size format
first-is bytes format stands = rw stands refl

first-same : (how : Reading) (bytes : List ℕ) (is : IsHanded how bytes) → first_of (handed_log how bytes) ≡ 4 + event_size is.log.format
first-same how bytes is =
    first-is (handed_log how bytes) (handed_format (has_sums bytes) is.log.format) (handed-stands how bytes is) ∙ ap (λ (size : ℕ). 4 + size) is.format.size

-- the events that are handed out, by what is known of both
pub out-is : (how : Reading) (bytes : List ℕ) (log : IsAccepted bytes)
    → handed_out how bytes ≡ handed_from (has_sums bytes) (4 + event_size log.format) (kept_of how bytes log)
unfolding kept_of
out-is how bytes log =
    ap (λ (first : ℕ). handed_from (has_sums bytes) first (found_of how bytes).kept) (first-is bytes log.format log.stands)
    ∙ ap (λ (f : Found). handed_from (has_sums bytes) (4 + event_size log.format) f.kept) (found-is how bytes log)

later-is : (how : Reading) (bytes : List ℕ) (is : IsHanded how bytes) → is.later ≡ flat_map (handed (has_sums bytes)) (kept_of how bytes is.log)
unfolding kept_of
later-is how bytes is = is.later_is

-- what is read of the log that is handed out, behind its format description
handed-left : (how : Reading) (bytes : List ℕ) (is : IsHanded how bytes) (first : ℕ) → first ≡ 4 + event_size is.log.format
    → events_from (length (handed_log how bytes)) None first (drop first (handed_log how bytes)) ≡ is.later
handed-left how bytes is first first_is =
    let log : List ℕ = handed_log how bytes in
    let format : Event = handed_format (has_sums bytes) is.log.format in
    let mark : take 4 log ≡ magic = (bytes_eq-Decides (take 4 log) magic).0 (text-marked log format is.later (handed-text how bytes is)) in
    let whole : read log None ≡ format ∷ is.later = text-read log format is.later (handed-text how bytes is) in
    let front : read log None ≡ format ∷ events_from (length log) None (4 + event_size format) (drop (4 + event_size format) log) =
    read-is log None format mark (handed-stands how bytes is) in
    ap (λ (first : ℕ). events_from (length log) None first (drop first log)) (first_is ∙ ap (λ (size : ℕ). 4 + size) (sym is.format.size))
    ∙ ap (drop 1) (sym front ∙ whole)

-- ---- what is read are these events

pub handed_are : (how : Reading) (bytes : List ℕ) → AreBytes bytes → source_refusal bytes ≡ None
    → map placed_of (handed_out how bytes) ≡ drop 1 (placed_from 4 (read (handed_log how bytes) None))
handed_are how bytes are fine =
    let is = is-handed how bytes are fine in
    let at : ℕ = 4 + event_size is.log.format in
    let format : Event = handed_format (has_sums bytes) is.log.format in
    ap (map placed_of) (out-is how bytes is.log)
    ∙ from-are (has_sums bytes) at (kept_of how bytes is.log)
    ∙ ap (placed_from at) (sym (later-is how bytes is))
    ∙ ap (λ (size : ℕ). placed_from (4 + size) is.later) (sym is.format.size)
    ∙ ap (λ (es : List Event). drop 1 (placed_from 4 es)) (sym (text-read (handed_log how bytes) format is.later (handed-text how bytes is)))

-- ---- the events of the server's log for which they stand

pub handed_sources : (how : Reading) (bytes : List ℕ) → AreBytes bytes → source_refusal bytes ≡ None
    → AllByRecursion (λ h. StandsIn bytes h.source) (handed_out how bytes)
unfolding kept_of
handed_sources how bytes are fine =
    let log : IsAccepted bytes = is-accepted bytes fine in
    let reads = is-read bytes how.stop log are in
    let at : ℕ = 4 + event_size log.format in
    let es : List Event = later_of bytes how.stop log in
    let P : Placed → Type 0 = λ p. event_at (drop p.pos bytes) ≡ Some p.event in
    let stand : AllByRecursion P (placed_from 4 (log.format ∷ es)) = events-stand bytes magic reads.begins.0 4 (log.format ∷ es) reads.begins.1 refl reads.events in
    subst (λ (hs : List HandedOut). AllByRecursion (λ h. StandsIn bytes h.source) hs) (sym (out-is how bytes log))
    (from-each (StandsIn bytes) (has_sums bytes) at (kept_of how bytes log)
    (kept-all P (StandsIn bytes) how (has_sums bytes) (length bytes) at (placed_from at es) (λ p stands. inl stands) (λ p stands. inr (p.event, stands, refl)) stand.1))

-- ---- the place of an event

place-is : (log : List ℕ) (end at : ℕ) (e : Event) → first_of log ≤ at → event_at (drop at log) ≡ Some e → place_of log end at ≡ e.log_pos
place-is log end at e past stands =
    let test : nat_lt at (first_of log) ≡ false = grind (arith, nat_tests) in
    rw (test, stands) refl

pub handed_places : (how : Reading) (bytes : List ℕ) → AreBytes bytes → source_refusal bytes ≡ None
    → AllByRecursion (λ h. place_of (handed_log how bytes) (found_of how bytes).end h.at ≡ h.source.pos) (handed_out how bytes)
handed_places how bytes are fine =
    let is = is-handed how bytes are fine in
    let log : List ℕ = handed_log how bytes in
    let at : ℕ = 4 + event_size is.log.format in
    let format : Event = handed_format (has_sums bytes) is.log.format in
    let ps : List Placed = kept_of how bytes is.log in
    let hs : List HandedOut = handed_from (has_sums bytes) at ps in
    let own = text-length format in
    let size = is.format.size in
    let parts = length-append magic (event_text format) in
    let whole : log ≡ (magic ++ event_text format) ++ (flat_map event_text is.later ++ []) =
    (handed-text how bytes is).is ∙ sym (append_assoc magic (event_text format) (flat_map event_text is.later))
    ∙ ap (λ (texts : List ℕ). (magic ++ event_text format) ++ texts) (sym (append-nil (flat_map event_text is.later))) in
    let stand : AllByRecursion (λ p. event_at (drop p.pos log) ≡ Some p.event) (placed_from at is.later) =
    events-stand log (magic ++ event_text format) [] at is.later whole (omega arith) is.events.1 in
    let same : placed_from at is.later ≡ map placed_of hs = ap (placed_from at) (later-is how bytes is) ∙ sym (from-are (has_sums bytes) at ps) in
    let stands : AllByRecursion (λ h. event_at (drop h.at log) ≡ Some h.event) hs =
    all-unmapped (λ p. event_at (drop p.pos log) ≡ Some p.event) placed_of hs (subst (λ (qs : List Placed). AllByRecursion (λ p. event_at (drop p.pos log) ≡ Some p.event) qs) same stand) in
    let first = first-same how bytes is in
    subst (λ (hs : List HandedOut). AllByRecursion (λ h. place_of log (found_of how bytes).end h.at ≡ h.source.pos) hs) (sym (out-is how bytes is.log))
    (all-both (λ h. event_at (drop h.at log) ≡ Some h.event) (IsAtPlace at) (λ h. place_of log (found_of how bytes).end h.at ≡ h.source.pos)
    (λ h there sits. let past = sits.past in place-is log (found_of how bytes).end h.at h.event (omega arith) there ∙ sits.place) hs stands
    (from-at-place at (has_sums bytes) at ps (omega arith)))

-- ---- and the position of that place

position-is : (how : Reading) (bytes : List ℕ) (is : IsHanded how bytes) (place : ℕ) → 4 + event_size is.log.format ≤ place
    → position_of (handed_log how bytes) place ≡ first_at (length (handed_log how bytes)) place (4 + event_size is.log.format) is.later
position-is how bytes is place behind =
    let log : List ℕ = handed_log how bytes in
    let at : ℕ = 4 + event_size is.log.format in
    sym (position-first log place at (sym (first-same how bytes is)) behind) ∙ ap (first_at (length log) place at) (handed-left how bytes is at refl)

pub handed_positions : (how : Reading) (bytes : List ℕ) → AreBytes bytes → source_refusal bytes ≡ None
    → AllByRecursion (λ h. position_of (handed_log how bytes) h.source.pos ≡ h.first) (handed_out how bytes)
unfolding kept_of
handed_positions how bytes are fine =
    let is = is-handed how bytes are fine in
    let log : List ℕ = handed_log how bytes in
    let at : ℕ = 4 + event_size is.log.format in
    let ps : List Placed = kept_of how bytes is.log in
    subst (λ (hs : List HandedOut). AllByRecursion (λ h. position_of log h.source.pos ≡ h.first) hs) (sym (out-is how bytes is.log))
    (from-first (position_of log) (length log) (has_sums bytes) at at ps (kept-rise how (has_sums bytes) (length bytes) at at (later_of bytes how.stop is.log) (omega arith))
    (λ place behind. position-is how bytes is place behind ∙ ap (first_at (length log) place at) (later-is how bytes is)))

pub handed_firsts : (how : Reading) (bytes : List ℕ) → AreBytes bytes → source_refusal bytes ≡ None → AllByRecursion (λ h. h.first ≤ h.at) (handed_out how bytes)
handed_firsts how bytes are fine =
    let is = is-handed how bytes are fine in
    let at : ℕ = 4 + event_size is.log.format in
    let ps : List Placed = kept_of how bytes is.log in
    subst (λ (hs : List HandedOut). AllByRecursion (λ h. h.first ≤ h.at) hs) (sym (out-is how bytes is.log))
    (all-more (IsAtPlace at) (λ h. h.first ≤ h.at) (λ h sits. sits.order) (handed_from (has_sums bytes) at ps) (from-at-place at (has_sums bytes) at ps (omega arith)))
