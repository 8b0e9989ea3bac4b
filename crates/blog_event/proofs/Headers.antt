-- Events by their headers: what a header says of the event there, and what a header and a body make.
use Rattle.std.proofs.Common.{◌≡◌, ℕ, ◌+◌, ◌++◌, append_assoc, ◌<◌, false, List, length, None, refl}
use Rattle.std.specs.Prelude.{nat_le}
use Rattle.std.proofs.lemmas.Bool.{lt-leb}
use Rattle.blog_event.specs.declared.event.Header.{Header}
use Rattle.blog_event.specs.Event.{event_at, event_text}
use Rattle.blog_event.specs.Writing.{appended, ending, header_text}

-- too few bytes for a header
pub event-at-short : (bytes : List ℕ) → length bytes < 19 → event_at bytes ≡ None
unfolding event_at
event-at-short bytes short = let test : nat_le 19 (length bytes) ≡ false = lt-leb 19 (length bytes) short in rw test refl

-- ---- what is appended

-- a header and the body behind it are an event's text
pub head_and_body : (old items new : List ℕ) (pos : ℕ) (header : Header) (body : List ℕ) (n : ℕ) → n ≡ length body → items ≡ old ++ header_text (ending pos (19 + n) header)
    → new ≡ items ++ body → new ≡ old ++ event_text (appended pos header body)
unfolding header_text event_text
head_and_body old items new pos header body n len front behind = rw (behind, front, len) (append_assoc old (header_text (ending pos (19 + length body) header)) body)
