-- Going through a log by a loop: what is found so far and what is left are what is read.
use Rattle.std.proofs.Common.{◌≡◌, ℕ, zero, suc, ◌+◌, ◌-◌, ◌<◌, ◌≤◌, Bool, true, false, List, [], ◌∷◌, ◌++◌, length, take, drop, Option, Some, None, refl, sym, subst, ap, ◌∙◌, inl, inr, arith, append_assoc}
use Rattle.std.specs.Prelude.{◌⊎◌, if◌then◌else◌}
use Rattle.std.specs.Option.{option_map_or}
use Rattle.std.specs.List.{flat_map, AllByRecursion}
use Rattle.std.proofs.lemmas.Grind.{flat_map-append}
use Rattle.std.proofs.lemmas.List.{append-nil, drop-drop, drop_at, length-drop, length-take}
use Rattle.std.proofs.lemmas.Option.{none-some, same_Some}
use Rattle.byteorder.specs.Endian.{little_number}
use Rattle.blog_event.specs.Event.{Event, event_size, event_text, IsEvent, event_at}
use Rattle.blog_event.specs.File.{magic, file_text, placed_from, end_of, is_below, BeginsWith, StartBelow, IsFront, events_from, read, AreBytes}
use Rattle.blog_event.specs.Opening.{opening_fault}
use Rattle.blog_event.specs.Items.{items_of, items_from}
use Rattle.blog_event.specs.code.Going.{EndsAt, AreRead, IsLeft, ReadsOn, FrontsGrow}
use Rattle.blog_event.proofs.Headers.{event-at-short}
use Rattle.blog_event.proofs.Framing.{bytes-drop, chosen-cases, event-at-gives, event-found, front-more, read-first, read-further, stand-none, texts-length}
use Rattle.blog_event.proofs.Openings.{opened-log}

-- ---- what is left

-- an event that stands at a position ends within the bytes
pub event-within : (bytes : List ℕ) (e : Event) → event_at bytes ≡ Some e → event_size e ≤ length bytes
event-within bytes e found =
    let gives = event-at-gives bytes e found in
    let size : ℕ = little_number 4 (drop 9 bytes) in
    let enough = gives.0.enough in
    let within = gives.0.within in
    let taken = length-take (size - 19) (drop 19 bytes) in
    subst (λ (e : Event). event_size e ≤ length bytes) gives.1 (omega arith)

-- what is read at a position, by the stop and by the event that stands there
read-step : (bytes : List ℕ) (stop : Option ℕ) (at : ℕ) (later : Event → List Event)
    → ((e : Event) → event_at (drop at bytes) ≡ Some e → AreRead bytes stop (at + event_size e) (later e))
    → (below : Bool) → is_below at stop ≡ below → (found : Option Event) → event_at (drop at bytes) ≡ found
    → AreRead bytes stop at (if below then option_map_or (λ e. e ∷ later e) found [] else [])
read-step bytes stop at later are false test found stands = inl test
read-step bytes stop at later are true test None stands = inr stands
read-step bytes stop at later are true test (Some e) stands = (test, stands, are e stands)

-- the computed events are read
pub are-read : (n : ℕ) (bytes : List ℕ) (stop : Option ℕ) (at : ℕ) → length (drop at bytes) ≤ n → AreRead bytes stop at (events_from n stop at (drop at bytes))
unfolding events_from
are-read zero bytes stop at fits = inr (event-at-short (drop at bytes) (omega arith))
are-read (suc n) bytes stop at fits =
    read-step bytes stop at (λ e. events_from n stop (at + event_size e) (drop (event_size e) (drop at bytes)))
    (λ e stands.
    let behind : drop (event_size e) (drop at bytes) ≡ drop (at + event_size e) bytes = drop-drop (event_size e) at bytes in
    let less : length (drop (at + event_size e) bytes) ≤ n = omega (arith, length-drop at bytes, length-drop (at + event_size e) bytes) in
    subst (λ (rest : List ℕ). AreRead bytes stop (at + event_size e) (events_from n stop (at + event_size e) rest)) (sym behind)
    (are-read n bytes stop (at + event_size e) less))
    (is_below at stop) refl (event_at (drop at bytes)) refl

-- nothing is read where an event isn't
ends-read : {A : Type 0} (bytes : List ℕ) (stop : Option ℕ) (at : ℕ) (e : Event) → is_below at stop ≡ true → event_at (drop at bytes) ≡ Some e → EndsAt bytes stop at → A
ends-read bytes stop at e below stands (inl above) = absurd (cc)
ends-read bytes stop at e below stands (inr none) = absurd (none-some e (sym none ∙ stands))

-- the events that are read are determined
pub are-read-only : (bytes : List ℕ) (stop : Option ℕ) (at : ℕ) (es others : List Event) → AreRead bytes stop at es → AreRead bytes stop at others → others ≡ es
are-read-only bytes stop at [] [] ends read = refl
are-read-only bytes stop at [] (o ∷ others) ends (below, stands, read) = ends-read bytes stop at o below stands ends
are-read-only bytes stop at (e ∷ es) [] (below, stands, read) ends = ends-read bytes stop at e below stands ends
are-read-only bytes stop at (e ∷ es) (o ∷ others) (below, stands, left) (also_below, also_stands, also_left) =
    let same : o ≡ e = same_Some o e (sym also_stands ∙ stands) in
    let moved : AreRead bytes stop (at + event_size e) others = subst (λ (e : Event). AreRead bytes stop (at + event_size e) others) same also_left in
    ap (λ (first : Event). first ∷ others) same ∙ ap (λ (es : List Event). e ∷ es) (are-read-only bytes stop (at + event_size e) es others left moved)

-- where an event stands below the stop, it is the first that is left, and the others are left behind it
pub left-more : (bytes : List ℕ) (stop : Option ℕ) (at : ℕ) (es : List Event) (e : Event) → AreRead bytes stop at es → is_below at stop ≡ true
    → event_at (drop at bytes) ≡ Some e → (later : List Event) × (es ≡ e ∷ later) × AreRead bytes stop (at + event_size e) later
left-more bytes stop at [] e ends below stands = ends-read bytes stop at e below stands ends
left-more bytes stop at (o ∷ es) e (also_below, also_stands, left) below stands =
    let same : o ≡ e = same_Some o e (sym also_stands ∙ stands) in (
      es,
      ap (λ (first : Event). first ∷ es) same,
      subst (λ (e : Event). AreRead bytes stop (at + event_size e) es) same left,
    )

-- elsewhere none is left
pub left-none : (bytes : List ℕ) (stop : Option ℕ) (at : ℕ) (es : List Event) → AreRead bytes stop at es → EndsAt bytes stop at → es ≡ []
left-none bytes stop at [] read ends = refl
left-none bytes stop at (e ∷ es) (below, stands, left) ends = ends-read bytes stop at e below stands ends

-- they end within the bytes
pub are-read-within : (bytes : List ℕ) (stop : Option ℕ) (at : ℕ) (es : List Event) → AreRead bytes stop at es → at ≤ length bytes → end_of at es ≤ length bytes
are-read-within bytes stop at [] ends within = within
are-read-within bytes stop at (e ∷ es) (below, stands, left) within =
    let fits = event-within (drop at bytes) e stands in
    are-read-within bytes stop (at + event_size e) es left (omega (arith, length-drop at bytes))

-- what is left from a position on
pub is_left : (bytes : List ℕ) (stop : Option ℕ) (at : ℕ) (es : List Event) → AreRead bytes stop at es → IsLeft bytes stop at es
is_left bytes stop at es read = record {
  are = read;
  only = λ others also. are-read-only bytes stop at es others read also;
  within = λ within. are-read-within bytes stop at es read within;
}

-- what is read of bytes with an event behind the mark
pub reads-on : (bytes : List ℕ) (stop : Option ℕ) (e : Event) → take 4 bytes ≡ magic → event_at (drop 4 bytes) ≡ Some e → ReadsOn bytes stop
reads-on bytes stop e mark stands =
    let at : ℕ = 4 + event_size e in
    let behind : drop (event_size e) (drop 4 bytes) ≡ drop at bytes = drop-drop (event_size e) 4 bytes in
    let later : List Event = events_from (length bytes) stop at (drop at bytes) in
    let are = are-read (length bytes) bytes stop at (omega (arith, length-drop at bytes)) in
    let fits = event-within (drop 4 bytes) e stands in
    let start : at ≤ length bytes = omega (arith, length-drop 4 bytes) in
    record {
      first = e;
      later = later;
      read_is = read-first bytes stop e mark stands ∙ ap (λ (rest : List ℕ). e ∷ events_from (length bytes) stop at rest) behind;
      stands = stands;
      left = is_left bytes stop at later are;
      inside = are-read-within bytes stop at later are start;
    }

-- what is read of a log that was opened
pub opened-reads-on : (bytes : List ℕ) (stop : Option ℕ) → opening_fault bytes ≡ None → ReadsOn bytes stop
opened-reads-on bytes stop opened =
    let log = opened-log bytes opened in
    reads-on bytes stop log.0 log.1.mark log.1.stands

-- the items of a log are the events that are left, and a fault where they don't reach to its end
pub items_left : (bytes : List ℕ) (at : ℕ) (es : List Event) → AreRead bytes None at es → items_from bytes at ≡ items_of at (length bytes) es
unfolding items_from
items_left bytes at es read =
    let computed = are-read (length bytes) bytes None at (omega (arith, length-drop at bytes)) in
    ap (items_of at (length bytes)) (are-read-only bytes None at es (events_from (length bytes) None at (drop at bytes)) read computed)

-- ---- what is found

-- one more at the end
all-more : (es : List Event) (e : Event) → AllByRecursion IsEvent es → IsEvent e → AllByRecursion IsEvent (es ++ e ∷ [])
all-more [] e events event = (event, tt)
all-more (first ∷ es) e events event = (events.0, all-more es e events.1 event)

-- one more that starts below the stop
starts-more : (stop : Option ℕ) (at : ℕ) (es : List Event) (e : Event) → StartBelow stop (placed_from at es) → is_below (end_of at es) stop ≡ true
    → StartBelow stop (placed_from at (es ++ e ∷ []))
starts-more stop at [] e starts below = (below, tt)
starts-more stop at (first ∷ es) e starts below = (starts.0, starts-more stop (at + event_size first) es e starts.1 below)

-- the bytes behind a front
front-behind : (bytes : List ℕ) (es : List Event) (file : BeginsWith bytes (file_text es)) → drop (end_of 4 es) bytes ≡ file.0
front-behind bytes es file =
    let texts = texts-length 4 es in
    let long : length (file_text es) ≡ end_of 4 es = omega arith in
    ap (drop (end_of 4 es)) file.1 ∙ drop_at (file_text es) file.0 (end_of 4 es) long

-- the event behind the mark
pub front-first-event : (bytes : List ℕ) (stop : Option ℕ) (e : Event) → AreBytes bytes → take 4 bytes ≡ magic → event_at (drop 4 bytes) ≡ Some e → IsFront bytes stop (e ∷ [])
front-first-event bytes stop e are mark stands =
    front-more bytes stop e [] mark (event-found (drop 4 bytes) e (bytes-drop 4 bytes are) stands)
    (stand-none stop (4 + event_size e) (drop (event_size e) (drop 4 bytes)))

-- an event behind a front
pub front-longer : (bytes : List ℕ) (stop : Option ℕ) (es : List Event) (e : Event) → AreBytes bytes → 0 < length es → IsFront bytes stop es
    → is_below (end_of 4 es) stop ≡ true → event_at (drop (end_of 4 es) bytes) ≡ Some e → IsFront bytes stop (es ++ e ∷ [])
front-longer bytes stop [] e are some front below stands = absurd (omega arith)
front-longer bytes stop (first ∷ es) e are some front below stands =
    let at : ℕ = end_of 4 (first ∷ es) in
    let file = front.file some in
    let behind = front-behind bytes (first ∷ es) file in
    let found = event-found (drop at bytes) e (bytes-drop at bytes are) stands in
    let rest : List ℕ = drop (event_size e) (drop at bytes) in
    let texts : flat_map event_text ((first ∷ es) ++ e ∷ []) ≡ flat_map event_text (first ∷ es) ++ (event_text e ++ []) = flat_map-append event_text (first ∷ es) (e ∷ []) in
    let whole : file_text ((first ∷ es) ++ e ∷ []) ≡ file_text (first ∷ es) ++ event_text e =
    ap (λ (texts : List ℕ). magic ++ texts) (texts ∙ ap (λ (last : List ℕ). flat_map event_text (first ∷ es) ++ last) (append-nil (event_text e))) in
    let longer : bytes ≡ file_text ((first ∷ es) ++ e ∷ []) ++ rest =
    file.1 ∙ ap (λ (rest : List ℕ). file_text (first ∷ es) ++ rest) (sym behind ∙ found.1)
    ∙ sym (append_assoc (file_text (first ∷ es)) (event_text e) rest) ∙ ap (λ (front : List ℕ). front ++ rest) (sym whole) in
    record {
      events = all-more (first ∷ es) e front.events found.0;
      file = λ some. (rest, longer);
      starts = starts-more stop (4 + event_size first) es e front.starts below;
    }

-- nothing is computed where nothing is read
nothing-from : (n : ℕ) (stop : Option ℕ) (at : ℕ) (bytes : List ℕ) → (is_below at stop ≡ false) ⊎ (event_at bytes ≡ None) → events_from n stop at bytes ≡ []
unfolding events_from
nothing-from zero stop at bytes ends = refl
nothing-from (suc n) stop at bytes (inl above) = rw above refl
nothing-from (suc n) stop at bytes (inr none) =
    elim (chosen-cases (is_below at stop) (event_at bytes) (λ e. e ∷ events_from n stop (at + event_size e) (drop (event_size e) bytes))) [
      | inl nothing ↦ nothing
      | inr some ↦ absurd (none-some some.0 (sym none ∙ some.2))
    ]

-- a front behind which nothing is read is what is read
pub front-whole : (bytes : List ℕ) (stop : Option ℕ) (es : List Event) → 0 < length es → IsFront bytes stop es → EndsAt bytes stop (end_of 4 es) → es ≡ read bytes stop
front-whole bytes stop [] some front ends = absurd (omega arith)
front-whole bytes stop (e ∷ es) some front ends =
    let at : ℕ = end_of 4 (e ∷ es) in
    let file = front.file some in
    let behind = front-behind bytes (e ∷ es) file in
    let further = read-further bytes stop e es file.0 file.1 front.events front.starts in
    let none : events_from further.0 stop at file.0 ≡ [] =
    nothing-from further.0 stop at file.0 (subst (λ (rest : List ℕ). (is_below at stop ≡ false) ⊎ (event_at rest ≡ None)) behind ends) in
    sym (further.1 ∙ ap (λ (later : List Event). (e ∷ es) ++ later) none ∙ append-nil (e ∷ es))

-- the fronts of a file
pub fronts_grow : (bytes : List ℕ) (stop : Option ℕ) → AreBytes bytes → FrontsGrow bytes stop
fronts_grow bytes stop are = record {
  first = λ e mark stands. front-first-event bytes stop e are mark stands;
  longer = λ es e some front below stands. front-longer bytes stop es e are some front below stands;
  whole = λ es some front ends. front-whole bytes stop es some front ends;
}
