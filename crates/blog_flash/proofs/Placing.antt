-- Events that are appended to a file one after another: what it holds and what is left.
use Rattle.std.proofs.Common.{◌≡◌, ℕ, ◌+◌, List, [], ◌∷◌, ◌++◌, ap, ap₂, ◌∙◌, append-nil, append_assoc}
use Rattle.blog_event.specs.Event.{Event, event_size, event_text}
use Rattle.blog_flash.specs.code.LaidOut.{text_from}

-- one of those that are left is appended
pub event-put : (items more : List ℕ) (pos next : ℕ) (e : Event) (rest : List Event) → more ≡ items ++ text_from pos (e ∷ []) → next ≡ pos + event_size e
    → more ++ text_from next rest ≡ items ++ text_from pos (e ∷ rest)
event-put items more pos next e rest put here =
    let text : List ℕ = event_text (record e { log_pos = pos + event_size e }) in
    ap₂ (λ (bytes : List ℕ) (n : ℕ). bytes ++ text_from n rest) (put ∙ ap (λ (bytes : List ℕ). items ++ bytes) (append-nil text)) here
    ∙ append_assoc items text (text_from (pos + event_size e) rest)
