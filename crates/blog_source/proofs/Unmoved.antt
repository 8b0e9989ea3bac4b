-- A log without sums is handed out with its events as they are, each where it was.
use Rattle.std.proofs.Common.{◌≡◌, ℕ, ◌+◌, Bool, false, List, [], ◌∷◌, length, ◌++◌, refl, sym, subst, ap, ◌∙◌}
use Rattle.std.specs.Prelude.{◌&&◌, map, Option, None}
use Rattle.std.specs.List.{flat_map, AllByRecursion}
use Rattle.blog_event.specs.Event.{Event, event_size, unplaced}
use Rattle.blog_event.specs.File.{AreBytes, Placed, end_of, placed_from, read}
use Rattle.blog_sum.specs.Sums.{has_sums}
use Rattle.blog_source.specs.declared.reading.Reading.{Reading}
use Rattle.blog_sum.specs.declared.fault.SumFault.{SumFault}
use Rattle.blog_source.specs.Found.{begins_encryption, begins_right, check_of, found, found_with, is_wrong_sum, source_refusal}
use Rattle.blog_source.specs.Handed.{handed, handed_events, handed_log}
use Rattle.blog_source.specs.Laws.{HandedOut, IsUnmoved, StayThemselves, StaysItself, handed_for, handed_from, handed_out}
use Rattle.blog_source.proofs.Accepted.{IsAccepted, is-accepted, later_of}
use Rattle.blog_source.proofs.Checks.{clear-check}
use Rattle.blog_source.proofs.WhatBecomes.{stays-alone}
use Rattle.blog_source.proofs.HandedLog.{at_place, handed_read_again}
use Rattle.blog_source.proofs.HandedPlaces.{kept_of, out-is}
use Rattle.blog_source.proofs.Opened.{read-is}

-- ---- the events behind the format description

-- one is kept if nothing is encrypted behind it
kept-unsummed : (how : Reading) (len at : ℕ) (e : Event) (es : List Event) → begins_encryption e ≡ false
    → (found how false len at (placed_from at (e ∷ es))).kept ≡ record { pos = at; event = e } ∷ (found how false len (at + event_size e) (placed_from (at + event_size e) es)).kept
kept-unsummed how len at e es clear =
    let p : Placed = record { pos = at; event = e } in
    ap (λ (check : Option SumFault). (found_with check (how.skip_damaged && (is_wrong_sum (check_of false p) && begins_right (placed_from (at + event_size e) es))) p
    (found how false len (at + event_size e) (placed_from (at + event_size e) es))).kept) (clear-check false p clear)

from-unmoved : (how : Reading) (len at : ℕ) (es : List Event) → AllByRecursion StaysItself es
    → AllByRecursion IsUnmoved (handed_from false at (found how false len at (placed_from at es)).kept)
from-unmoved how len at [] stay = tt
from-unmoved how len at (e ∷ es) stay =
    let p : Placed = record { pos = at; event = e } in
    let later : List Placed = (found how false len (at + event_size e) (placed_from (at + event_size e) es)).kept in
    subst (λ (ps : List Placed). AllByRecursion IsUnmoved (handed_from false at ps)) (sym (kept-unsummed how len at e es stay.0.1))
    (subst (λ (fs : List Event). AllByRecursion IsUnmoved (handed_for p at (at_place at fs) ++ handed_from false (end_of at (at_place at fs)) later)) (sym (stays-alone (λ body. body) e stay.0.0))
    ((refl, refl), from-unmoved how len (at + event_size e) es stay.1))

handed-unmoved : (how : Reading) (len at : ℕ) (es : List Event) → AllByRecursion StaysItself es
    → map unplaced (flat_map (handed false) (found how false len at (placed_from at es)).kept) ≡ map unplaced es
handed-unmoved how len at [] stay = refl
handed-unmoved how len at (e ∷ es) stay =
    ap (λ (ps : List Placed). map unplaced (flat_map (handed false) ps)) (kept-unsummed how len at e es stay.0.1)
    ∙ ap (λ (fs : List Event). map unplaced (at_place at fs ++ flat_map (handed false) (found how false len (at + event_size e) (placed_from (at + event_size e) es)).kept))
    (stays-alone (λ body. body) e stay.0.0)
    ∙ ap (λ (es : List Event). unplaced e ∷ es) (handed-unmoved how len (at + event_size e) es stay.1)

-- ---- the laws

stay-themselves : (how : Reading) (bytes : List ℕ) (log : IsAccepted bytes) → StayThemselves (read bytes how.stop)
    → AllByRecursion StaysItself (later_of bytes how.stop log)
stay-themselves how bytes log plain = subst StayThemselves (read-is bytes how.stop log.format log.mark log.stands) plain

pub unsummed_unmoved : (how : Reading) (bytes : List ℕ) → source_refusal bytes ≡ None → has_sums bytes ≡ false → StayThemselves (read bytes how.stop)
    → AllByRecursion IsUnmoved (handed_out how bytes)
unfolding kept_of
unsummed_unmoved how bytes fine none plain =
    let log : IsAccepted bytes = is-accepted bytes fine in
    let at : ℕ = 4 + event_size log.format in
    let ps : Bool → List Placed = λ sums. (found how sums (length bytes) at (placed_from at (later_of bytes how.stop log))).kept in
    let is : handed_out how bytes ≡ handed_from false at (ps false) = out-is how bytes log ∙ ap (λ (sums : Bool). handed_from sums at (ps sums)) none in
    subst (λ (hs : List HandedOut). AllByRecursion IsUnmoved hs) (sym is) (from-unmoved how (length bytes) at (later_of bytes how.stop log) (stay-themselves how bytes log plain))

pub unsummed_events : (how : Reading) (bytes : List ℕ) → AreBytes bytes → source_refusal bytes ≡ None → has_sums bytes ≡ false → StayThemselves (read bytes how.stop)
    → map unplaced (read (handed_log how bytes) None) ≡ map unplaced (read bytes how.stop)
unsummed_events how bytes are fine none plain =
    let log : IsAccepted bytes = is-accepted bytes fine in
    let at : ℕ = 4 + event_size log.format in
    let es : List Event = later_of bytes how.stop log in
    let reads : read bytes how.stop ≡ log.format ∷ es = read-is bytes how.stop log.format log.mark log.stands in
    ap (map unplaced) (handed_read_again how bytes are fine)
    ∙ ap (λ (sums : Bool). map unplaced (handed_events how sums (length bytes) (read bytes how.stop))) none
    ∙ ap (λ (es : List Event). map unplaced (handed_events how false (length bytes) es)) reads
    ∙ ap (λ (es : List Event). unplaced log.format ∷ es) (handed-unmoved how (length bytes) at es (stay-themselves how bytes log plain))
    ∙ ap (map unplaced) (sym reads)
