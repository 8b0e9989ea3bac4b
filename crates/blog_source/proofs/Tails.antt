-- The format description of a log with sums, once it says that there are none.
use Rattle.std.proofs.Common.{◌≡◌, ℕ, ◌+◌, ◌-◌, ◌≤◌, List, [], ◌∷◌, ◌++◌, length, take, drop, Some, sym, ap, ◌∙◌, arith, append_assoc}
use Rattle.std.specs.List.{between}
use Rattle.std.proofs.lemmas.List.{drop-drop, drop_at, length-append, length-take-le, take-append-drop, take_at}
use Rattle.std.proofs.lemmas.Slice.{between_is}
use Rattle.byteorder.specs.Endian.{little_bytes}
use Rattle.blog_event.specs.Event.{Event, event_at, event_size, event_text}
use Rattle.blog_event.specs.File.{AreBytes, magic}
use Rattle.blog_event.proofs.Framing.{bytes-drop, event-found, text-length}
use Rattle.blog_sum.specs.Crc.{crc32_of}
use Rattle.blog_sum.specs.Plain.{plain_format}
use Rattle.blog_sum.specs.code.Left.{flag_cleared}
use Rattle.blog_sum.proofs.Texts.{format-put}
use borrow.Rule.Slice.PartMut.{put_mid}

-- its front, the algorithm 0, and the sum of both
pub tail-text : (bytes tail : List ℕ) (e : Event) (size place sum : ℕ) → AreBytes bytes → take 4 bytes ≡ magic → event_at (drop 4 bytes) ≡ Some e → size ≡ event_size e
    → 24 ≤ size → place ≡ 4 + size - 5 → tail ≡ 0 ∷ little_bytes 4 sum → sum ≡ crc32_of (flag_cleared (between 4 place bytes) ++ (0 ∷ []))
    → take (4 + size - 5) bytes ++ tail ≡ magic ++ event_text (plain_format e)
tail-text bytes tail e size place sum are mark found is long place_is tail_is sum_is =
    let front : List ℕ = take (4 + size - 5) bytes in
    let summed : sum ≡ crc32_of (flag_cleared (drop 4 front) ++ (0 ∷ [])) =
    sum_is ∙ ap (λ (part : List ℕ). crc32_of (flag_cleared part ++ (0 ∷ []))) (between_is bytes 4 place ∙ ap (λ (n : ℕ). drop 4 (take n bytes)) place_is) in
    let on : 4 + size - 5 ≡ 4 + (event_size e - 5) = omega arith in
    ap (λ (tail : List ℕ). front ++ tail) (tail_is ∙ ap (λ (sum : ℕ). 0 ∷ little_bytes 4 sum) summed)
    ∙ sym (append_assoc front (0 ∷ []) (little_bytes 4 (crc32_of (flag_cleared (drop 4 front) ++ (0 ∷ [])))))
    ∙ format-put bytes front e are mark found (omega arith) (ap (λ (n : ℕ). take n bytes) on)

-- what is in front of the bytes behind it, and those, where its last five bytes are written over
pub tail-put : (bytes tail : List ℕ) (place k end : ℕ) → place + 5 ≡ end → k ≡ 5 → length tail ≡ 5 → end ≤ length bytes
    → put_mid place k bytes tail ≡ (take place bytes ++ tail) ++ drop end bytes
tail-put bytes tail place k end place_is k_is long within =
    let on : place + k ≡ end = omega arith in
    ap (λ (rest : List ℕ). take place bytes ++ (tail ++ rest)) (drop-drop k place bytes ∙ ap (λ (n : ℕ). drop n bytes) on)
    ∙ sym (append_assoc (take place bytes) tail (drop end bytes))

tail-long : (bytes tail : List ℕ) (place end : ℕ) → place + 5 ≡ end → length tail ≡ 5 → end ≤ length bytes → length (take place bytes ++ tail) ≡ end
tail-long bytes tail place end place_is long within =
    let both = length-append (take place bytes) tail in
    let front = length-take-le place bytes (omega arith) in
    omega arith

pub tail-front : (bytes tail : List ℕ) (place k end : ℕ) → place + 5 ≡ end → k ≡ 5 → length tail ≡ 5 → end ≤ length bytes
    → take end (put_mid place k bytes tail) ≡ take place bytes ++ tail
tail-front bytes tail place k end place_is k_is long within =
    ap (take end) (tail-put bytes tail place k end place_is k_is long within)
    ∙ take_at (take place bytes ++ tail) (drop end bytes) end (tail-long bytes tail place end place_is long within)

pub tail-behind : (bytes tail : List ℕ) (place k end : ℕ) → place + 5 ≡ end → k ≡ 5 → length tail ≡ 5 → end ≤ length bytes
    → drop end (put_mid place k bytes tail) ≡ drop end bytes
tail-behind bytes tail place k end place_is k_is long within =
    ap (drop end) (tail-put bytes tail place k end place_is k_is long within)
    ∙ drop_at (take place bytes ++ tail) (drop end bytes) end (tail-long bytes tail place end place_is long within)

-- ---- the front of a log

-- the bytes as far as the event behind the mark
pub front-text : (bytes : List ℕ) (e : Event) (end : ℕ) → AreBytes bytes → take 4 bytes ≡ magic → event_at (drop 4 bytes) ≡ Some e → end ≡ 4 + event_size e
    → take end bytes ≡ magic ++ event_text e
front-text bytes e end are mark found is =
    let stands = event-found (drop 4 bytes) e (bytes-drop 4 bytes are) found in
    let whole : bytes ≡ (magic ++ event_text e) ++ drop (event_size e) (drop 4 bytes) =
    sym (take-append-drop 4 bytes) ∙ ap (λ (front : List ℕ). front ++ drop 4 bytes) mark ∙ ap (λ (rest : List ℕ). magic ++ rest) stands.1
    ∙ sym (append_assoc magic (event_text e) (drop (event_size e) (drop 4 bytes))) in
    let long = text-length e in
    ap (take end) whole ∙ take_at (magic ++ event_text e) (drop (event_size e) (drop 4 bytes)) end (omega arith)
