-- How the bytes of events and of a file are read: what is written is read again, and what is read stands in the bytes.
use Rattle.std.proofs.Common.{◌≡◌, ℕ, zero, suc, ◌+◌, ◌-◌, ◌*◌, ◌/◌, ◌%◌, ◌^◌, ◌<◌, ◌≤◌, Bool, true, false, List, [], ◌∷◌, ◌++◌, length, take, drop, Option, Some, None, refl, sym, subst, ap, ◌∙◌, inl, inr, arith, length-append}
use Rattle.std.specs.Prelude.{◌⊎◌, ◌&&◌, if◌then◌else◌, nat_le, slice_index, bytes_eq}
use Rattle.std.specs.Option.{option_map_or}
use Rattle.std.specs.List.{flat_map, AllByRecursion}
use Rattle.std.specs.Int.{byte_at, bytes_low_first}
use Rattle.std.proofs.lemmas.List.{append-nil, append_assoc, drop-drop, drop_at, drop_more, get_or-drop, get_or-take, get_or_past, length-drop, length-take, length-take-le, nil_from_length, take-append-drop, take_at}
use Rattle.std.proofs.lemmas.Bool.{and_parts, cases_lt, le-leb, leb-true}
use Rattle.std.proofs.lemmas.Option.{cond_some}
use Rattle.std.proofs.lemmas.Slice.Eq.{bytes_eq-Decides}
use Rattle.std.proofs.Math.Nat.{div-div-eq-div-mul, div-one, pow-succ'}
use Rattle.byteorder.specs.Endian.{little_bytes, little_from, little_number}
use Rattle.byteorder.specs.Numbers.{little_from-cons, little_from-lt, little_number-reads_back}
use Rattle.blog_event.specs.Event.{Event, event_size, event_text, IsEvent, event_at}
use Rattle.blog_event.specs.File.{magic, file_text, placed_from, end_of, is_below, BeginsWith, StartBelow, IsFront, events_from, read, AreBytes, ReadsLongest}

-- ---- the bytes of a number

-- a byte of a number, by its place
byte-at-power : (i n : ℕ) → byte_at i n ≡ n / 256 ^ i % 256
byte-at-power zero n = ap (λ (y : ℕ). y % 256) (sym (div-one n))
byte-at-power (suc i) n = refl

-- a byte below moves the places on
byte-above : (i b n : ℕ) → b < 256 → byte_at (suc i) (b + 256 * n) ≡ byte_at i n
byte-above i b n h =
    let quotient : (b + 256 * n) / 256 ≡ n = omega arith in
    let shift : (b + 256 * n) / 256 ^ suc i ≡ (b + 256 * n) / 256 / 256 ^ i =
    ap (λ (p : ℕ). (b + 256 * n) / p) (pow-succ' 256 i) ∙ sym (div-div-eq-div-mul (b + 256 * n) 256 (256 ^ i)) in
    ap (λ (y : ℕ). y % 256) (shift ∙ ap (λ (y : ℕ). y / 256 ^ i) quotient) ∙ sym (byte-at-power i n)

-- the same for the bytes from a place on
bytes-above : (k i b n : ℕ) → b < 256 → bytes_low_first (suc i) k (b + 256 * n) ≡ bytes_low_first i k n
bytes-above zero i b n h = refl
bytes-above (suc k) i b n h =
    let first = byte-above i b n h in
    let others = bytes-above k (suc i) b n h in
    cc

-- the bytes of the number that bytes make are those bytes
pub number-bytes : (n : ℕ) (bytes : List ℕ) → AreBytes bytes → n ≤ length bytes → little_bytes n (little_number n bytes) ≡ take n bytes
number-bytes zero bytes are h = refl
number-bytes (suc n) [] are h = absurd (omega arith)
number-bytes (suc n) (b ∷ bytes) are h =
    let fits : b < 256 = are 0 in
    let inner = number-bytes n bytes (λ i. are (suc i)) (omega arith) in
    let moved = little_from-cons 0 n b bytes in
    let first : (b + 256 * little_from 0 n bytes) % 256 ≡ b = omega arith in
    let others = bytes-above n 0 b (little_from 0 n bytes) fits in
    rw moved (cc)

-- what is left of bytes is bytes
pub bytes-drop : (n : ℕ) (bytes : List ℕ) → AreBytes bytes → AreBytes (drop n bytes)
bytes-drop n bytes are = λ i. rw (get_or-drop n bytes i 0) (are (n + i))

-- the front of bytes is bytes
pub bytes-take : (n : ℕ) (bytes : List ℕ) → AreBytes bytes → AreBytes (take n bytes)
bytes-take n bytes are = λ i. elim (cases_lt i n) [
  | inl below ↦ rw (get_or-take n bytes i 0 below) (are i)
  | inr past ↦
      let short : length (take n bytes) ≤ i = omega (arith, length-take n bytes) in
      rw (get_or_past (take n bytes) i 0 short) (omega arith)
]

-- ---- one event

-- how long the text of an event is
pub text-length : (e : Event) → length (event_text e) ≡ event_size e
unfolding event_text
text-length e = omega arith

-- the parts of a text, and what follows it
text-parts : (time : List ℕ) (kind : ℕ) (server size pos flags body rest : List ℕ)
    → (time ++ (kind ∷ (server ++ (size ++ (pos ++ (flags ++ body)))))) ++ rest ≡ time ++ (kind ∷ (server ++ (size ++ (pos ++ (flags ++ (body ++ rest))))))
text-parts time kind server size pos flags body rest = simp append_assoc

-- the event of bytes whose size field says `size`
abbrev pub front_event : ℕ → List ℕ → Event
front_event size bytes = record {
  timestamp = little_number 4 bytes;
  kind = slice_index bytes 4;
  server_id = little_number 4 (drop 5 bytes);
  log_pos = little_number 4 (drop 13 bytes);
  flags = little_number 2 (drop 17 bytes);
  body = take (size - 19) (drop 19 bytes);
}

-- bytes that are as long as their size field says begin with an event
event-at-is : (bytes : List ℕ) (size : ℕ) → little_number 4 (drop 9 bytes) ≡ size → 19 ≤ length bytes → 19 ≤ size → size ≤ length bytes
    → event_at bytes ≡ Some (front_event size bytes)
unfolding event_at
event-at-is bytes size is long enough within =
    let header = le-leb 19 (length bytes) long in
    let least = le-leb 19 size enough in
    let most = le-leb size (length bytes) within in
    rw (is, header, least, most) refl

-- an event with these fields
same-event : (timestamp kind server_id log_pos flags : ℕ) (body : List ℕ) (e : Event) → timestamp ≡ e.timestamp → kind ≡ e.kind → server_id ≡ e.server_id
    → log_pos ≡ e.log_pos → flags ≡ e.flags → body ≡ e.body
    → ◌≡◌ {A = Option Event} (Some (record { timestamp = timestamp; kind = kind; server_id = server_id; log_pos = log_pos; flags = flags; body = body })) (Some e)
same-event timestamp kind server_id log_pos flags body e t k s p f b = rw (t, k, s, p, f, b) refl

-- what is written is read, whatever follows
pub event-again : (e : Event) (rest : List ℕ) → IsEvent e → event_at (event_text e ++ rest) ≡ Some e
unfolding event_text
event-again e rest h =
    let after_flags : List ℕ = e.body ++ rest in
    let after_pos : List ℕ = little_bytes 2 e.flags ++ after_flags in
    let after_size : List ℕ = little_bytes 4 e.log_pos ++ after_pos in
    let after_server : List ℕ = little_bytes 4 (event_size e) ++ after_size in
    let after_kind : List ℕ = little_bytes 4 e.server_id ++ after_server in
    let size = little_number-reads_back 4 (event_size e) after_size h.size in
    let all = length-append e.body rest in
    let timestamp = little_number-reads_back 4 e.timestamp (e.kind ∷ after_kind) h.timestamp in
    let server_id = little_number-reads_back 4 e.server_id after_server h.server_id in
    let log_pos = little_number-reads_back 4 e.log_pos after_pos h.log_pos in
    let flags = little_number-reads_back 2 e.flags after_flags h.flags in
    let body = take_at e.body rest (event_size e - 19) (omega arith) in
    event-at-is (event_text e ++ rest) (event_size e) size (omega arith) (omega arith) (omega arith)
    ∙ same-event _ _ _ _ _ _ e timestamp refl server_id log_pos flags body

-- ---- the events that bytes have

-- bytes begin with the event that their size field tells
pub record HasFront (bytes : List ℕ) (size : ℕ) : Type 0 where
  pub is : little_number 4 (drop 9 bytes) ≡ size
  pub long : 19 ≤ length bytes
  pub enough : 19 ≤ size
  pub within : size ≤ length bytes

-- an event that is read is the one at the front of the bytes
pub event-at-gives : (bytes : List ℕ) (e : Event) → event_at bytes ≡ Some e
    → HasFront bytes (little_number 4 (drop 9 bytes)) × (front_event (little_number 4 (drop 9 bytes)) bytes ≡ e)
unfolding event_at
event-at-gives bytes e h =
    let size : ℕ = little_number 4 (drop 9 bytes) in
    let found = cond_some (nat_le 19 (length bytes) && (nat_le 19 size && nat_le size (length bytes))) (front_event size bytes) e h in
    let tests = and_parts (nat_le 19 (length bytes)) (nat_le 19 size && nat_le size (length bytes)) found.0 in
    let sizes = and_parts (nat_le 19 size) (nat_le size (length bytes)) tests.1 in (
      record {
        is = refl;
        long = leb-true 19 (length bytes) tests.0;
        enough = leb-true 19 size sizes.0;
        within = leb-true size (length bytes) sizes.1;
      },
      found.1,
    )

-- n bytes at a place, and those behind them
number-front : (n m : ℕ) (bytes : List ℕ) → AreBytes bytes → m + n ≤ length bytes → little_bytes n (little_number n (drop m bytes)) ++ drop (m + n) bytes ≡ drop m bytes
number-front n m bytes are h =
    let fits : n ≤ length (drop m bytes) = omega (arith, length-drop m bytes) in
    ap (λ (front : List ℕ). front ++ drop (m + n) bytes) (number-bytes n (drop m bytes) (bytes-drop m bytes are) fits)
    ∙ ap (λ (rest : List ℕ). take n (drop m bytes) ++ rest) (sym (drop-drop n m bytes))
    ∙ take-append-drop n (drop m bytes)

-- the parts of a text, joined one by one
parts-joined : (time server size pos flags body rest : List ℕ) (kind : ℕ) (at_time at_server at_size at_pos at_flags at_body : List ℕ)
    → time ++ (kind ∷ at_server) ≡ at_time → server ++ at_size ≡ at_server → size ++ at_pos ≡ at_size → pos ++ at_flags ≡ at_pos → flags ++ at_body ≡ at_flags
    → body ++ rest ≡ at_body → at_time ≡ (time ++ (kind ∷ (server ++ (size ++ (pos ++ (flags ++ body)))))) ++ rest
parts-joined time server size pos flags body rest kind at_time at_server at_size at_pos at_flags at_body one two three four five six =
    let whole = text-parts time kind server size pos flags body rest in
    rw (whole, six, five, four, three, two, one) refl

-- an event is the text at the front of the bytes
abbrev pub Stands : List ℕ → Event → Type 0
Stands bytes e = IsEvent e × (bytes ≡ event_text e ++ drop (event_size e) bytes) × (event_size e ≤ length bytes)

-- the event that the size field tells is the text at the front
front-stands : (bytes : List ℕ) (size : ℕ) → AreBytes bytes → HasFront bytes size → Stands bytes (front_event size bytes)
unfolding event_text
front-stands bytes size are front =
    let e : Event = front_event size bytes in
    let is = front.is in
    let long = front.long in
    let enough = front.enough in
    let within = front.within in
    let room : size - 19 ≤ length (drop 19 bytes) = omega (arith, length-drop 19 bytes) in
    let body : length e.body ≡ size - 19 = length-take-le (size - 19) (drop 19 bytes) room in
    let whole : event_size e ≡ size = omega arith in
    let kind : drop 4 bytes ≡ slice_index bytes 4 ∷ drop 5 bytes = drop_more bytes 4 0 (omega arith) in
    let one = number-front 4 0 bytes are (omega arith) in
    let two = number-front 4 5 bytes are (omega arith) in
    let three = number-front 4 9 bytes are (omega arith) in
    let four = number-front 4 13 bytes are (omega arith) in
    let five = number-front 2 17 bytes are (omega arith) in
    let own_size : little_bytes 4 (event_size e) ++ drop 13 bytes ≡ drop 9 bytes = ap (λ (n : ℕ). little_bytes 4 n ++ drop 13 bytes) (whole ∙ sym is) ∙ three in
    let end : event_size e ≡ 19 + (size - 19) = omega arith in
    let six : e.body ++ drop (event_size e) bytes ≡ drop 19 bytes =
    ap (λ (rest : List ℕ). e.body ++ rest) (ap (λ (n : ℕ). drop n bytes) end ∙ sym (drop-drop (size - 19) 19 bytes)) ∙ take-append-drop (size - 19) (drop 19 bytes) in
    let first : little_bytes 4 e.timestamp ++ (e.kind ∷ drop 5 bytes) ≡ bytes =
    ap (λ (rest : List ℕ). little_bytes 4 e.timestamp ++ rest) (sym kind) ∙ one in
    let size_fits : little_number 4 (drop 9 bytes) < 256 ^ 4 = little_from-lt 0 4 (drop 9 bytes) (bytes-drop 9 bytes are) in (
      record {
        timestamp = little_from-lt 0 4 bytes are;
        kind = are 4;
        server_id = little_from-lt 0 4 (drop 5 bytes) (bytes-drop 5 bytes are);
        size = omega arith;
        log_pos = little_from-lt 0 4 (drop 13 bytes) (bytes-drop 13 bytes are);
        flags = little_from-lt 0 2 (drop 17 bytes) (bytes-drop 17 bytes are);
      },
      parts-joined (little_bytes 4 e.timestamp) (little_bytes 4 e.server_id) (little_bytes 4 (event_size e)) (little_bytes 4 e.log_pos) (little_bytes 2 e.flags)
          e.body (drop (event_size e) bytes) e.kind bytes (drop 5 bytes) (drop 9 bytes) (drop 13 bytes) (drop 17 bytes) (drop 19 bytes) first two own_size four five six,
      omega arith,
    )

-- what stands at the front of the bytes is the event's text
pub event-found : (bytes : List ℕ) (e : Event) → AreBytes bytes → event_at bytes ≡ Some e
    → IsEvent e × (bytes ≡ event_text e ++ drop (event_size e) bytes) × (event_size e ≤ length bytes)
event-found bytes e are h =
    let found = event-at-gives bytes e h in
    let stands = front-stands bytes (little_number 4 (drop 9 bytes)) are found.0 in
    subst (Stands bytes) found.1 stands

-- ---- events one after another

-- the texts of events are as long as the places say
pub texts-length : (at : ℕ) (es : List Event) → at + length (flat_map event_text es) ≡ end_of at es
texts-length at [] = omega arith
texts-length at (e ∷ es) =
    let own = text-length e in
    let others = texts-length (at + event_size e) es in
    let whole = length-append (event_text e) (flat_map event_text es) in
    omega arith

-- one more event that starts below the stop
pub events-from-more : (n : ℕ) (stop : Option ℕ) (pos : ℕ) (bytes : List ℕ) (e : Event) → is_below pos stop ≡ true → event_at bytes ≡ Some e
    → events_from (suc n) stop pos bytes ≡ e ∷ events_from n stop (pos + event_size e) (drop (event_size e) bytes)
unfolding events_from
events-from-more n stop pos bytes e below at = rw (below, at) refl

-- a list that is made only where a test holds and a value is there
pub chosen-cases : {A B : Type 0} (test : Bool) (found : Option A) (f : A → List B)
    → ((if test then option_map_or f found [] else []) ≡ []) ⊎ ((x : A) × (test ≡ true) × (found ≡ Some x) × ((if test then option_map_or f found [] else []) ≡ f x))
chosen-cases false found f = inl refl
chosen-cases true None f = inl refl
chosen-cases true (Some x) f = inr (x, refl, refl, refl)

-- no events are read of no bytes
pub events-from-nothing : (n : ℕ) (stop : Option ℕ) (pos : ℕ) → events_from n stop pos [] ≡ []
unfolding events_from event_at
events-from-nothing zero stop pos = refl
events-from-nothing (suc n) stop pos =
    elim (chosen-cases (is_below pos stop) (event_at []) (λ e. e ∷ events_from n stop (pos + event_size e) (drop (event_size e) []))) [
      | inl none ↦ none
      | inr some ↦ let never : None ≡ Some some.0 = some.2 in cc
    ]

-- events that stand one after another, each starting below the stop
pub record StandFrom (stop : Option ℕ) (pos : ℕ) (bytes : List ℕ) (es : List Event) : Type 0 where
  pub events : AllByRecursion IsEvent es
  pub texts : BeginsWith bytes (flat_map event_text es)
  pub starts : StartBelow stop (placed_from pos es)

-- events that stand in the bytes are read, and then those that stand behind them
events-from-again : (n : ℕ) (stop : Option ℕ) (pos : ℕ) (es : List Event) (rest : List ℕ) → length (flat_map event_text es ++ rest) ≤ n
    → AllByRecursion IsEvent es → StartBelow stop (placed_from pos es)
    → (left : ℕ) × (events_from n stop pos (flat_map event_text es ++ rest) ≡ es ++ events_from left stop (end_of pos es) rest)
events-from-again n stop pos [] rest fits events starts = (n, refl)
events-from-again zero stop pos (e ∷ es) rest fits events starts =
    let own = text-length e in
    let parts = length-append (event_text e ++ flat_map event_text es) rest in
    let whole = length-append (event_text e) (flat_map event_text es) in
    absurd (omega arith)
events-from-again (suc n) stop pos (e ∷ es) rest fits events starts =
    let own = text-length e in
    let parts = length-append (event_text e ++ flat_map event_text es) rest in
    let whole = length-append (event_text e) (flat_map event_text es) in
    let others = length-append (flat_map event_text es) rest in
    let joined = append_assoc (event_text e) (flat_map event_text es) rest in
    let found : event_at ((event_text e ++ flat_map event_text es) ++ rest) ≡ Some e = ap event_at joined ∙ event-again e (flat_map event_text es ++ rest) events.0 in
    let left : drop (event_size e) ((event_text e ++ flat_map event_text es) ++ rest) ≡ flat_map event_text es ++ rest =
    ap (drop (event_size e)) joined ∙ drop_at (event_text e) (flat_map event_text es ++ rest) (event_size e) own in
    let later = events-from-again n stop (pos + event_size e) es rest (omega arith) events.1 starts.1 in
    let step = events-from-more n stop pos ((event_text e ++ flat_map event_text es) ++ rest) e starts.0 found in
    (later.0, step ∙ ap (λ (bytes : List ℕ). e ∷ events_from n stop (pos + event_size e) bytes) left ∙ ap (λ (es : List Event). e ∷ es) later.1)

-- one more event in front of those that stand behind it
stand-more : (stop : Option ℕ) (pos : ℕ) (bytes : List ℕ) (e : Event) (es : List Event) → is_below pos stop ≡ true → Stands bytes e
    → StandFrom stop (pos + event_size e) (drop (event_size e) bytes) es → StandFrom stop pos bytes (e ∷ es)
stand-more stop pos bytes e es below front others = record {
  events = (front.0, others.events);
  texts = (others.texts.0, front.1 ∙ ap (λ (rest : List ℕ). event_text e ++ rest) others.texts.1 ∙ sym (append_assoc (event_text e) (flat_map event_text es) others.texts.0));
  starts = (below, others.starts);
}

-- no events stand anywhere
pub stand-none : (stop : Option ℕ) (pos : ℕ) (bytes : List ℕ) → StandFrom stop pos bytes []
stand-none stop pos bytes = record { events = tt; texts = (bytes, refl); starts = tt }

-- the events that are read stand in the bytes
events-from-found : (n : ℕ) (stop : Option ℕ) (pos : ℕ) (bytes : List ℕ) → AreBytes bytes → StandFrom stop pos bytes (events_from n stop pos bytes)
unfolding events_from
events-from-found zero stop pos bytes are = stand-none stop pos bytes
events-from-found (suc n) stop pos bytes are =
    let later : (e : Event) → StandFrom stop (pos + event_size e) (drop (event_size e) bytes) (events_from n stop (pos + event_size e) (drop (event_size e) bytes)) =
    λ e. events-from-found n stop (pos + event_size e) (drop (event_size e) bytes) (bytes-drop (event_size e) bytes are) in
    let P : List Event → Type 0 = λ es. StandFrom stop pos bytes es in
    elim (chosen-cases (is_below pos stop) (event_at bytes) (λ e. e ∷ events_from n stop (pos + event_size e) (drop (event_size e) bytes))) [
      | inl none ↦ subst P (sym none) (stand-none stop pos bytes)
      | inr some ↦
          let e : Event = some.0 in
          subst P (sym some.3) (stand-more stop pos bytes e (events_from n stop (pos + event_size e) (drop (event_size e) bytes)) some.1 (event-found bytes e are some.2) (later e))
    ]

-- ---- a file

-- what is read of a file that has an event
pub read-first : (bytes : List ℕ) (stop : Option ℕ) (e : Event) → take 4 bytes ≡ magic → event_at (drop 4 bytes) ≡ Some e
    → read bytes stop ≡ e ∷ events_from (length bytes) stop (4 + event_size e) (drop (event_size e) (drop 4 bytes))
unfolding read
read-first bytes stop e mark found =
    let test : bytes_eq (take 4 bytes) magic ≡ true = (bytes_eq-Decides (take 4 bytes) magic).1 mark in
    rw (test, found) refl

-- events that stand in a file are read, and then those that stand behind them
pub read-further : (bytes : List ℕ) (stop : Option ℕ) (e : Event) (es : List Event) (rest : List ℕ) → bytes ≡ file_text (e ∷ es) ++ rest
    → AllByRecursion IsEvent (e ∷ es) → StartBelow stop (placed_from (4 + event_size e) es)
    → (left : ℕ) × (read bytes stop ≡ (e ∷ es) ++ events_from left stop (end_of 4 (e ∷ es)) rest)
read-further bytes stop e es rest is events starts =
    let others : List ℕ = flat_map event_text es ++ rest in
    let joined : bytes ≡ magic ++ (event_text e ++ others) = is ∙ ap (λ (texts : List ℕ). magic ++ texts) (append_assoc (event_text e) (flat_map event_text es) rest) in
    let mark : take 4 bytes ≡ magic = ap (take 4) joined in
    let behind : drop 4 bytes ≡ event_text e ++ others = ap (drop 4) joined in
    let found : event_at (drop 4 bytes) ≡ Some e = ap event_at behind ∙ event-again e others events.0 in
    let left : drop (event_size e) (drop 4 bytes) ≡ others = ap (drop (event_size e)) behind ∙ drop_at (event_text e) others (event_size e) (text-length e) in
    let lengths : length bytes ≡ length (magic ++ (event_text e ++ others)) = ap length joined in
    let parts = length-append (event_text e) others in
    let later = events-from-again (length bytes) stop (4 + event_size e) es rest (omega arith) events.1 starts in
    (later.0, read-first bytes stop e mark found ∙ ap (λ (behind : List ℕ). e ∷ events_from (length bytes) stop (4 + event_size e) behind) left ∙ ap (λ (es : List Event). e ∷ es) later.1)

-- with no stop, every event starts below it
starts-below-none : (pos : ℕ) (es : List Event) → StartBelow None (placed_from pos es)
starts-below-none pos [] = tt
starts-below-none pos (e ∷ es) = (refl, starts-below-none (pos + event_size e) es)

-- a file that is written is read
pub read-again : (e : Event) (es : List Event) → AllByRecursion IsEvent (e ∷ es) → read (file_text (e ∷ es)) None ≡ e ∷ es
read-again e es events =
    let further = read-further (file_text (e ∷ es)) None e es [] (sym (append-nil (file_text (e ∷ es)))) events (starts-below-none (4 + event_size e) es) in
    further.1 ∙ ap (λ (later : List Event). (e ∷ es) ++ later) (events-from-nothing further.0 None (end_of 4 (e ∷ es))) ∙ append-nil (e ∷ es)

-- no events stand in any file
pub front-none : (bytes : List ℕ) (stop : Option ℕ) → IsFront bytes stop []
front-none bytes stop = record { events = tt; file = λ some. absurd (omega arith); starts = tt }

-- an event behind the magic number, and those that stand behind it
pub front-more : (bytes : List ℕ) (stop : Option ℕ) (e : Event) (es : List Event) → take 4 bytes ≡ magic → Stands (drop 4 bytes) e
    → StandFrom stop (4 + event_size e) (drop (event_size e) (drop 4 bytes)) es → IsFront bytes stop (e ∷ es)
front-more bytes stop e es mark first others =
    let behind : drop 4 bytes ≡ (event_text e ++ flat_map event_text es) ++ others.texts.0 =
    first.1 ∙ ap (λ (rest : List ℕ). event_text e ++ rest) others.texts.1 ∙ sym (append_assoc (event_text e) (flat_map event_text es) others.texts.0) in
    let whole : bytes ≡ file_text (e ∷ es) ++ others.texts.0 =
    sym (take-append-drop 4 bytes) ∙ ap (λ (front : List ℕ). front ++ drop 4 bytes) mark ∙ ap (λ (rest : List ℕ). magic ++ rest) behind in
    record { events = (first.0, others.events); file = λ some. (others.texts.0, whole); starts = others.starts }

-- the events that are read stand in the file
pub read-front : (bytes : List ℕ) (stop : Option ℕ) → AreBytes bytes → IsFront bytes stop (read bytes stop)
unfolding read
read-front bytes stop are =
    let behind : List ℕ = drop 4 bytes in
    let P : List Event → Type 0 = λ es. IsFront bytes stop es in
    elim (chosen-cases (bytes_eq (take 4 bytes) magic) (event_at behind) (λ e. e ∷ events_from (length bytes) stop (4 + event_size e) (drop (event_size e) behind))) [
      | inl none ↦ subst P (sym none) (front-none bytes stop)
      | inr some ↦
          let e : Event = some.0 in
          let bytes_behind = bytes-drop 4 bytes are in
          let rest : List ℕ = drop (event_size e) behind in
          let later = events-from-found (length bytes) stop (4 + event_size e) rest (bytes-drop (event_size e) behind bytes_behind) in
          subst P (sym some.3) (front-more bytes stop e (events_from (length bytes) stop (4 + event_size e) rest)
          ((bytes_eq-Decides (take 4 bytes) magic).0 some.1) (event-found behind e bytes_behind some.2) later)
    ]

-- events with which a file begins come first among those that are read
pub front-first : (bytes : List ℕ) (stop : Option ℕ) (es : List Event) → IsFront bytes stop es → (later : List Event) × (read bytes stop ≡ es ++ later)
front-first bytes stop [] front = (read bytes stop, refl)
front-first bytes stop (e ∷ es) front =
    let file = front.file (omega arith) in
    let further = read-further bytes stop e es file.0 file.1 front.events front.starts in
    (events_from further.0 stop (end_of 4 (e ∷ es)) file.0, further.1)

-- what is read is the one longest list
pub reads_longest : (bytes : List ℕ) (stop : Option ℕ) → AreBytes bytes → ReadsLongest bytes stop
reads_longest bytes stop are = record {
  is = record {
    front = read-front bytes stop are;
    longest = λ others front.
        let first = front-first bytes stop others front in
        let lengths : length (read bytes stop) ≡ length (others ++ first.0) = ap length first.1 in
        let parts = length-append others first.0 in
        omega arith;
  };
  only = λ es reads.
      let first = front-first bytes stop es reads.front in
      let lengths : length (read bytes stop) ≡ length (es ++ first.0) = ap length first.1 in
      let parts = length-append es first.0 in
      let most = reads.longest (read bytes stop) (read-front bytes stop are) in
      let none : first.0 ≡ [] = nil_from_length first.0 (omega arith) in
      sym (first.1 ∙ ap (λ (later : List Event). es ++ later) none ∙ append-nil es);
}

-- a file's bytes hold the events that are read of it
pub record IsWhole (bytes : List ℕ) (es : List Event) : Type 0 where
  pub events : AllByRecursion IsEvent es
  pub file : BeginsWith bytes (file_text es)
  pub within : end_of 4 es ≤ length bytes

-- the events that are read are events
pub read-events : (bytes : List ℕ) (stop : Option ℕ) → AreBytes bytes → AllByRecursion IsEvent (read bytes stop)
read-events bytes stop are = (read-front bytes stop are).events
