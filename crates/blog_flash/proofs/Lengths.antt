-- How long events are together, where they end that are laid out, and how long the text of groups is.
use Rattle.std.proofs.Common.{◌≡◌, ℕ, ◌+◌, List, [], ◌∷◌, ◌++◌, length, length-append, refl, sym, ap, ◌∙◌, arith}
use Rattle.std.specs.List.{flat_map}
use Rattle.blog_event.specs.Event.{Event, event_size, event_text}
use Rattle.blog_event.specs.File.{magic, end_of}
use Rattle.blog_event.proofs.Framing.{text-length, texts-length}
use Rattle.blog_trans.specs.Groups.{Transaction}
use Rattle.blog_trans.proofs.Sums.{sum_of}
use Rattle.blog_flash.specs.code.LaidOut.{text_from}
use Rattle.blog_flash.specs.Texts.{group_events, with_log_pos, laid_out}

-- ---- events

-- how long events are together
abbrev pub total : List Event → ℕ
total es = sum_of event_size es

-- they end so far behind the position at which they begin
pub end-total : (pos : ℕ) (es : List Event) → end_of pos es ≡ pos + total es
end-total pos [] = omega arith
end-total pos (e ∷ es) = let others = end-total (pos + event_size e) es in omega arith

-- log_pos is a field of its own length
pub total-placed : (pos : ℕ) (es : List Event) → total (with_log_pos pos es) ≡ total es
total-placed pos [] = refl
total-placed pos (e ∷ es) = ap (λ (n : ℕ). event_size e + n) (total-placed (pos + event_size e) es)

-- ---- the text of groups

-- events that are laid out behind bytes end where their texts do
pub text-end : (front : List ℕ) (es : List Event) → length (front ++ text_from (length front) es) ≡ end_of (length front) es
text-end front es =
    let behind : List Event = with_log_pos (length front) es in
    let texts = texts-length (length front) behind in
    let end = end-total (length front) behind in
    let same = total-placed (length front) es in
    omega (arith, end-total (length front) es, length-append front (flat_map event_text behind))

-- the magic number, the format description and the events of the groups
pub laid-out-length : (format : Event) (ts : List Transaction) → length (laid_out format ts) ≡ 4 + event_size format + total (group_events ts)
unfolding laid_out
laid-out-length format ts =
    let front : List ℕ = magic ++ event_text format in
    let long : length front ≡ 4 + event_size format = omega (arith, text-length format) in
    ap (λ (n : ℕ). length (front ++ text_from n (group_events ts))) (sym long) ∙ text-end front (group_events ts) ∙ end-total (length front) (group_events ts) ∙ ap (λ (n : ℕ). n + total (group_events ts)) long
