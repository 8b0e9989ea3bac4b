-- What is found of a log, and what is handed out for it, behind its front.
use Rattle.std.proofs.Common.{◌≡◌, ℕ, ◌+◌, List, [], ◌∷◌, ◌++◌, length, take, drop, Some, sym, ap, ◌∙◌, append_assoc, arith}
use Rattle.std.specs.Prelude.{Option}
use Rattle.std.specs.List.{flat_map}
use Rattle.std.proofs.lemmas.List.{append-nil, drop_all, drop-drop, take_all}
use Rattle.blog_event.specs.Event.{Event, event_at, event_size, event_text}
use Rattle.blog_event.specs.File.{magic, file_text, events_from, placed_from, read}
use Rattle.blog_event.proofs.Framing.{read-first}
use Rattle.blog_sum.specs.Sums.{has_sums}
use Rattle.blog_source.specs.declared.front.Front.{Front}
use Rattle.blog_source.specs.declared.form.Form.TheVariants.{Places}
use Rattle.blog_source.specs.declared.reading.Reading.{Reading}
use Rattle.blog_source.specs.Found.{Found, found, found_behind, found_of}
use Rattle.blog_source.specs.Handed.{handed, handed_events, handed_format, handed_log}
use Rattle.blog_source.specs.code.Fronts.{HasFront, IsFront}
use Rattle.blog_source.specs.code.Walk.{found_left, put_text}

-- what is read of a log: the format description, and the events behind it
pub read-is : (bytes : List ℕ) (stop : Option ℕ) (e : Event) → take 4 bytes ≡ magic → event_at (drop 4 bytes) ≡ Some e
    → read bytes stop ≡ e ∷ events_from (length bytes) stop (4 + event_size e) (drop (4 + event_size e) bytes)
read-is bytes stop e mark found =
    read-first bytes stop e mark found
    ∙ ap (λ (rest : List ℕ). e ∷ events_from (length bytes) stop (4 + event_size e) rest) (drop-drop (event_size e) 4 bytes)

-- what is found does not depend on the front, nor on bytes that were moved in front of it
pub left-same : (how : Reading) (front : Front) (old new : List ℕ) → HasFront front old new
    → found_left how front.sums (length new) front.first (drop front.first new) ≡ found_left how front.sums (length old) front.first (drop front.first old)
left-same how front old new has = λ i. found_left how front.sums (has.len i) front.first (has.behind i)

pub left-is : (how : Reading) (front : Front) (old : List ℕ) → IsFront front old → found_left how front.sums (length old) front.first (drop front.first old) ≡ found_of how old
unfolding found_of
left-is how front old is =
    (λ i. found_left how (is.sums i) (length old) (is.first i) (drop (is.first i) old))
    ∙ ap (found_behind how (has_sums old) (length old)) (sym (read-is old how.stop is.format is.mark is.stands))

pub found-is : (how : Reading) (front : Front) (old new : List ℕ) → HasFront front old new
    → found_left how front.sums (length new) front.first (drop front.first new) ≡ found_of how old
found-is how front old new has = left-same how front old new has ∙ left-is how front old has.is

-- what is handed out
handed-front : (how : Reading) (front : Front) (old : List ℕ) (is : IsFront front old)
    → handed_log how old ≡ (magic ++ event_text (handed_format front.sums is.format))
    ++ flat_map event_text (flat_map (handed front.sums) (found_left how front.sums (length old) front.first (drop front.first old)).kept)
unfolding handed_log
handed-front how front old is =
    let later : List Event = events_from (length old) how.stop (4 + event_size is.format) (drop (4 + event_size is.format) old) in
    ap (λ (es : List Event). file_text (handed_events how (has_sums old) (length old) es)) (read-is old how.stop is.format is.mark is.stands)
    ∙ (λ i. file_text (handed_format (sym is.sums i) is.format ∷ flat_map (handed (sym is.sums i)) (found how (sym is.sums i) (length old) (4 + event_size is.format) (placed_from (4 + event_size is.format) later)).kept))
    ∙ (λ i. file_text (handed_format front.sums is.format ∷ flat_map (handed front.sums) (found_left how front.sums (length old) (sym is.first i) (drop (sym is.first i) old)).kept))
    ∙ sym (append_assoc magic (event_text (handed_format front.sums is.format)) (flat_map event_text (flat_map (handed front.sums) (found_left how front.sums (length old) front.first (drop front.first old)).kept)))

pub handed-is : (how : Reading) (front : Front) (old new : List ℕ) → HasFront front old new
    → take front.first new ++ put_text Places front.sums front.first (found_left how front.sums (length new) front.first (drop front.first new)).kept ≡ handed_log how old
handed-is how front old new has =
    ap (λ (text : List ℕ). text ++ put_text Places front.sums front.first (found_left how front.sums (length new) front.first (drop front.first new)).kept) has.text
    ∙ ap (λ (f : Found). (magic ++ event_text (handed_format front.sums has.is.format)) ++ put_text Places front.sums front.first f.kept) (left-same how front old new has)
    ∙ sym (handed-front how front old has.is)

-- bytes that were written over as a whole, and then cut
pub cut-back : (new old : List ℕ) (len n : ℕ) → length new ≡ length old → len ≡ length old → take n (take len (new ++ drop (length new) old)) ≡ take n new
cut-back new old len n same whole =
    let none : drop (length new) old ≡ [] = drop_all (length new) old (omega arith) in
    ap (λ (rest : List ℕ). take n (take len (new ++ rest))) none ∙ ap (λ (all : List ℕ). take n (take len all)) (append-nil new)
    ∙ ap (take n) (take_all len new (omega arith))
