-- What is written for a rows event: its header, and its body in the room behind it.
use Rattle.std.proofs.Common.{◌≡◌, ℕ, ◌+◌, List, [], ◌∷◌, ◌++◌, length, take, refl, sym, ap, ap₂, ◌∙◌, append-nil, append_assoc}
use Rattle.std.proofs.Math.Seq.{take-append-add}
use Rattle.blog_event.specs.declared.event.Header.{Header}
use Rattle.blog_event.specs.Event.{Event, event_size, event_text}
use Rattle.blog_event.specs.Writing.{appended}
use Rattle.blog_row.specs.declared.order.Order.{Order}
use Rattle.blog_row.specs.declared.order.Order.TheVariants.{Forward, Backward}
use Rattle.blog_row.specs.RowsWriting.{RowsContent, content_in, kind_in}
use Rattle.blog_flash.specs.code.LaidOut.{text_from}

-- the kind of content in an order
pub content-kind : (order : Order) (c : RowsContent) → (content_in order c).kind ≡ kind_in order c.kind
content-kind Forward c = refl
content-kind Backward c = refl

-- a header tells of a body only how long it is
header-same : (pos : ℕ) (h : Header) (zeros body : List ℕ) → length zeros ≡ length body → take 19 (event_text (appended pos h zeros)) ++ body ≡ event_text (appended pos h body)
unfolding event_text
header-same pos h zeros body same = rw same refl

-- a body is written into the room behind the header
pub body-written : (old opened zeros : List ℕ) (pos at : ℕ) (h : Header) (e : Event) → at ≡ length old + 19 → opened ≡ old ++ event_text (appended pos h zeros) → length zeros ≡ length e.body
    → appended pos h e.body ≡ record e { log_pos = pos + event_size e } → take at opened ++ e.body ≡ old ++ text_from pos (e ∷ [])
body-written old opened zeros pos at h e begins room size same =
    let text : List ℕ = event_text (appended pos h zeros) in
    ap₂ (λ (n : ℕ) (bytes : List ℕ). take n bytes ++ e.body) begins room
    ∙ ap (λ (bytes : List ℕ). bytes ++ e.body) (take-append-add old text 19)
    ∙ append_assoc old (take 19 text) e.body
    ∙ ap (λ (bytes : List ℕ). old ++ bytes) (header-same pos h zeros e.body size ∙ ap event_text same ∙ sym (append-nil (event_text (record e { log_pos = pos + event_size e }))))
