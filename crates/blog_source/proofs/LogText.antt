-- The bytes of a log: a format description, and events behind it.
use Rattle.std.proofs.Common.{◌≡◌, ℕ, ◌^◌, ◌<◌, true, List, ◌∷◌, length, take, drop, Some, None, ap, ◌∙◌, arith}
use Rattle.std.specs.Prelude.{bytes_eq}
use Rattle.std.specs.List.{flat_map, AllByRecursion}
use Rattle.blog_event.specs.Event.{Event, event_at, event_text, IsEvent}
use Rattle.blog_event.specs.Fault.{fault_at}
use Rattle.blog_event.specs.File.{magic, file_text, end_of, read}
use Rattle.blog_event.specs.Format.{format_fault}
use Rattle.blog_event.specs.Opening.{opening_fault}
use Rattle.blog_event.proofs.Framing.{event-again, read-again, texts-length}
use Rattle.blog_event.proofs.Openings.{opening-format}

-- these are its bytes
pub record IsText (text : List ℕ) (format : Event) (later : List Event) : Type 0 where
  pub is : text ≡ file_text (format ∷ later)
  pub events : AllByRecursion IsEvent (format ∷ later)

-- they are as many as those of its events
pub text-long : (text : List ℕ) (format : Event) (later : List Event) → IsText text format later → length text ≡ end_of 4 (format ∷ later)
text-long text format later t =
    let es : List Event = format ∷ later in
    let texts = texts-length 4 es in
    let long : length (file_text es) ≡ end_of 4 es = omega arith in
    ap length t.is ∙ long

-- its first event
pub text-stands : (text : List ℕ) (format : Event) (later : List Event) → IsText text format later → event_at (drop 4 text) ≡ Some format
text-stands text format later t = ap (λ (text : List ℕ). event_at (drop 4 text)) t.is ∙ event-again format (flat_map event_text later) t.events.0

pub text-marked : (text : List ℕ) (format : Event) (later : List Event) → IsText text format later → bytes_eq (take 4 text) magic ≡ true
text-marked text format later t = ap (λ (text : List ℕ). bytes_eq (take 4 text) magic) t.is

-- what is read of it
pub text-read : (text : List ℕ) (format : Event) (later : List Event) → IsText text format later → read text None ≡ format ∷ later
text-read text format later t = ap (λ (text : List ℕ). read text None) t.is ∙ read-again format later t.events

-- it opens as a log
pub text-opens : (text : List ℕ) (format : Event) (later : List Event) → IsText text format later → length text < 2 ^ 32 → format_fault format ≡ None → opening_fault text ≡ None
text-opens text format later t short accepted =
    opening-format text format short (text-marked text format later t) (text-stands text format later t) ∙ ap (fault_at 4) accepted
