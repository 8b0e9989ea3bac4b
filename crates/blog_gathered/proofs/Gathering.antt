-- One more range.
use Rattle.std.proofs.Common.{◌≡◌, ℕ, ◌+◌, ◌<◌, ◌≤◌, Result, Ok, Err, arith, List, [], ◌∷◌, ◌++◌, length, map, refl, sym, ap, ◌∙◌}
use Rattle.std.specs.Prelude.{OnErr, OnOk}
use Rattle.std.specs.List.{AllByRecursion, flat_map}
use Rattle.std.proofs.lemmas.List.{append-nil}
use Rattle.std.proofs.lemmas.List.Concat.{flat_map-append}
use Rattle.blog_event.specs.Event.{Event, event_size}
use Rattle.blog_event.specs.File.{end_of}
use Rattle.blog_row.proofs.ReversedRows.{all-append}
use Rattle.blog_flash.specs.Texts.{group_events, laid_out, laid_out_after}
use Rattle.blog_flash.specs.Written.{Written, event_written, groups_written}
use Rattle.blog_flash.specs.code.LaidOut.{text_from}
use Rattle.blog_flash.proofs.InTurn.{events-of-written}
use Rattle.blog_flash.proofs.Lengths.{end-total, laid-out-length, text-end}
use Rattle.blog_flash.proofs.Source.{source-format}
use Rattle.blog_flash.proofs.Stops.{laid-more}
use Rattle.blog_gathered.specs.Gathered.{IsSoundRange, Range, gathered_text, groups_of, range_groups}

-- the groups of one more range come last
groups-more : (rs : List Range) (r : Range) → groups_of (rs ++ r ∷ []) ≡ groups_of rs ++ range_groups r
groups-more rs r = flat_map-append range_groups rs (r ∷ []) ∙ ap (λ ts. groups_of rs ++ ts) (append-nil (range_groups r))

-- and are laid out where the others end
pub gathered-more : (first : Range) (rs : List Range) (r : Range) (ws : List Written) → IsSoundRange first → ws ≡ groups_written (range_groups r)
    → gathered_text first rs ++ text_from (length (gathered_text first rs)) (map event_written ws) ≡ gathered_text first (rs ++ r ∷ [])
unfolding gathered_text
gathered-more first rs r ws (are, accepted) written =
    let (format, rest, is, served) = source-format first.bytes first.sel accepted in
    let from : ℕ = 4 + event_size format in
    let text = ap (λ es. laid_out_after es (groups_of rs)) is in
    let end : length (laid_out format (groups_of rs)) ≡ end_of from (group_events (groups_of rs)) = laid-out-length format (groups_of rs) ∙ sym (end-total from (group_events (groups_of rs))) in
    ap (λ t. t ++ text_from (length t) (map event_written ws)) text
    ∙ ap (λ es. laid_out format (groups_of rs) ++ text_from (length (laid_out format (groups_of rs))) es) (ap (map event_written) written ∙ events-of-written (range_groups r))
    ∙ ap (λ (n : ℕ). laid_out format (groups_of rs) ++ text_from n (group_events (range_groups r))) end
    ∙ sym (laid-more format (groups_of rs) (range_groups r))
    ∙ ap (laid_out format) (sym (groups-more rs r))
    ∙ ap (λ es. laid_out_after es (groups_of (rs ++ r ∷ []))) (sym is)

-- they are all accepted
pub sound-more : (rs : List Range) (r : Range) → AllByRecursion IsSoundRange rs → IsSoundRange r → AllByRecursion IsSoundRange (rs ++ r ∷ [])
sound-more rs r sound one = all-append IsSoundRange rs (r ∷ []) sound (one, tt)

-- ---- what comes of adding it

-- it would be too long
pub gathered-long : (first : Range) (rs : List Range) (r : Range) (ws : List Written) → IsSoundRange first → ws ≡ groups_written (range_groups r)
    → 4294967295 < end_of (length (gathered_text first rs)) (map event_written ws) → 4294967295 < length (gathered_text first (rs ++ r ∷ []))
gathered-long first rs r ws sound written long =
    let more = ap length (gathered-more first rs r ws sound written) in
    omega (arith, more, text-end (gathered_text first rs) (map event_written ws), long)

-- it isn't, whether memory was refused or not
pub still-short : {A B : Type 0} (result : Result A B) (old new : List ℕ) (n : ℕ) (es : List Event) → OnOk result (new ≡ old ++ text_from n es) → OnErr result (new ≡ old)
    → n ≡ length old → n ≤ 4294967295 → end_of n es ≤ 4294967295 → length new ≤ 4294967295
still-short (Ok x) old new n es ok err is short fits =
    let long = ap length ok in
    let same = ap (λ (k : ℕ). length (old ++ text_from k es)) is in
    let end = ap (λ (k : ℕ). end_of k es) is in
    omega (arith, long, same, end, text-end old es, fits)
still-short (Err e) old new n es ok err is short fits = let same = ap length err in omega (arith, same, is, short)
