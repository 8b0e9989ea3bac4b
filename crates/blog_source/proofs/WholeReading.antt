-- A log that is read to its end, or to its first fault: what is found is what is wrong with its sums.
use Rattle.std.proofs.Common.{◌≡◌, ℕ, ◌+◌, Bool, true, false, List, [], ◌∷◌, ◌++◌, length, drop, Option, Some, None, refl, sym, subst, ap, ◌∙◌, arith}
use Rattle.std.specs.Prelude.{◌==◌, ◌||◌, if◌then◌else◌, map, nat_le, option_map}
use Rattle.std.specs.List.{AllByRecursion}
use Rattle.std.proofs.lemmas.Bool.Decides.{nat_tests}
use Rattle.std.proofs.lemmas.Option.{none-some}
use Rattle.blog_event.specs.declared.fault.Fault.TheVariants.{CutEvent}
use Rattle.blog_event.specs.Event.{Event, event_at, event_size}
use Rattle.blog_event.specs.Fault.{first_failing}
use Rattle.blog_event.specs.File.{Placed, placed_from, end_of, read}
use Rattle.blog_event.specs.Opening.{front_fault}
use Rattle.blog_sum.specs.declared.fault.SumFault.{SumFault}
use Rattle.blog_sum.specs.declared.fault.SumFault.TheVariants.{Log, UnknownAlgorithm}
use Rattle.blog_sum.specs.Sums.{unless, sum_check, summed, not_in_use, algorithm_of, has_sums, sum_fault}
use Rattle.blog_sum.proofs.Summed.{none-first, none-front}
use Rattle.blog_sum.proofs.Walk.{fault-unsummed, last-decides, start-fault, start-refused}
use Rattle.blog_source.specs.declared.reading.Reading.{Reading}
use Rattle.blog_source.proofs.Checks.{clear-check}
use Rattle.blog_source.specs.Whole.{NoneEncrypted, reading_fault}
use Rattle.blog_source.specs.Found.{Found, begins_encryption, format_check, found, found_behind, found_of, found_with, source_refusal}
use Rattle.blog_source.specs.Laws.{whole_reading}
use Rattle.blog_source.proofs.Accepted.{IsAccepted, is-accepted, later_of}
use Rattle.blog_source.proofs.Opened.{read-is}

-- ---- the events behind the format description

-- they end where the log does
pub end-only : (test : Bool) (fault : SumFault) → unless (test || false) fault ≡ unless test fault
end-only true fault = refl
end-only false fault = refl

-- the first check that fails decides
check-first : (check : Option SumFault) (p : Placed) (later : Found) (checks : List (Option SumFault)) → later.fault ≡ first_failing checks
    → (found_with check false p later).fault ≡ first_failing (check ∷ checks)
check-first None p later checks is = is
check-first (Some fault) p later checks is = refl

found-unsummed : (len at : ℕ) (es : List Event) → AllByRecursion (λ e. begins_encryption e ≡ false) es → (found whole_reading false len at (placed_from at es)).fault ≡ unless (end_of at es == len) (Log (CutEvent (end_of at es)))
found-unsummed len at [] clear = end-only (at == len) (Log (CutEvent at))
found-unsummed len at (e ∷ es) clear =
    let p : Placed = record { pos = at; event = e } in
    ap (λ (check : Option SumFault). (found_with check false p (found whole_reading false len (at + event_size e) (placed_from (at + event_size e) es))).fault) (clear-check false p clear.0)
    ∙ found-unsummed len (at + event_size e) es clear.1

found-summed : (len at : ℕ) (es : List Event) → AllByRecursion (λ e. begins_encryption e ≡ false) es → (found whole_reading true len at (placed_from at es)).fault
    ≡ first_failing (map sum_check (placed_from at es) ++ unless (end_of at es == len) (Log (CutEvent (end_of at es))) ∷ [])
found-summed len at [] clear = end-only (at == len) (Log (CutEvent at)) ∙ sym (last-decides (unless (at == len) (Log (CutEvent at))))
found-summed len at (e ∷ es) clear =
    let p : Placed = record { pos = at; event = e } in
    ap (λ (check : Option SumFault). (found_with check false p (found whole_reading true len (at + event_size e) (placed_from (at + event_size e) es))).fault) (clear-check true p clear.0)
    ∙ check-first (sum_check (record { pos = at; event = e })) (record { pos = at; event = e }) (found whole_reading true len (at + event_size e) (placed_from (at + event_size e) es))
    (map sum_check (placed_from (at + event_size e) es) ++ unless (end_of (at + event_size e) es == len) (Log (CutEvent (end_of (at + event_size e) es))) ∷ [])
    (found-summed len (at + event_size e) es clear.1)

-- ---- a log that is read

pub found-is : (how : Reading) (bytes : List ℕ) (log : IsAccepted bytes)
    → found_of how bytes ≡ found how (has_sums bytes) (length bytes) (4 + event_size log.format) (placed_from (4 + event_size log.format) (later_of bytes how.stop log))
unfolding found_of
found-is how bytes log = ap (found_behind how (has_sums bytes) (length bytes)) (read-is bytes how.stop log.format log.mark log.stands)

pub whole_fault : (bytes : List ℕ) → source_refusal bytes ≡ None → NoneEncrypted (read bytes None) → (found_of whole_reading bytes).fault ≡ sum_fault bytes
whole_fault bytes fine none_encrypted = ap (λ (f : Found). f.fault) (found-is whole_reading bytes log) ∙ by_sums (has_sums bytes) refl
  where
    log : IsAccepted bytes
    log = is-accepted bytes fine

    at : ℕ
    at = 4 + event_size log.format

    es : List Event
    es = later_of bytes None log

    clear : AllByRecursion (λ e. begins_encryption e ≡ false) es
    clear = subst NoneEncrypted (read-is bytes None log.format log.mark log.stands) none_encrypted

    by_sums : (sums : Bool) → has_sums bytes ≡ sums → (found whole_reading sums (length bytes) at (placed_from at es)).fault ≡ sum_fault bytes
    by_sums true is = found-summed (length bytes) at es clear ∙ start-fault bytes log.format (event_size log.format) log.front log.stands is refl (log.sum is)
    by_sums false is =
        let known = log.known in
        let none : algorithm_of bytes ≡ 0 = grind (arith, nat_tests) in
        found-unsummed (length bytes) at es clear ∙ sym (fault-unsummed bytes log.format log.front log.mark log.stands none)

-- ---- a log of which nothing is read

-- the first of these checks that fails is the first of those as well, if that holds of the third
refused-first : (front known sum : Option SumFault) (checks : List (Option SumFault)) (fault : SumFault) → first_failing (front ∷ known ∷ sum ∷ []) ≡ Some fault
    → (front ≡ None → sum ≡ Some fault → first_failing (front ∷ known ∷ checks) ≡ Some fault) → first_failing (front ∷ known ∷ checks) ≡ Some fault
refused-first (Some front) known sum checks fault is third = is
refused-first None (Some known) sum checks fault is third = is
refused-first None None sum checks fault is third = third refl (sym (last-decides sum) ∙ is)

-- a format description that does not end in its sum
format-fails : (sums : Bool) (format : Option Event) (fault : SumFault) → (if sums then format_check format else None) ≡ Some fault
    → (sums ≡ true) × (e : Event) × (format ≡ Some e) × (sum_check (record { pos = 4; event = not_in_use e }) ≡ Some fault)
format-fails true None fault is = absurd (none-some fault is)
format-fails true (Some e) fault is = (refl, e, refl, is)
format-fails false format fault is = absurd (none-some fault is)

pub whole_refused : (bytes : List ℕ) (fault : SumFault) → source_refusal bytes ≡ Some fault → sum_fault bytes ≡ Some fault
unfolding source_refusal sum_fault
whole_refused bytes fault is =
    let end : ℕ = end_of 4 (read bytes None) in
    refused-first (option_map Log (front_fault bytes)) (unless (nat_le (algorithm_of bytes) 1) (UnknownAlgorithm 4))
    (if has_sums bytes then format_check (event_at (drop 4 bytes)) else None)
    ((if has_sums bytes then map sum_check (placed_from 4 (summed (read bytes None))) else []) ++ unless (end == length bytes) (Log (CutEvent end)) ∷ []) fault is
    (λ front sum.
    let fails = format-fails (has_sums bytes) (event_at (drop 4 bytes)) fault sum in
    start-refused bytes fails.1 fault (none-front (front_fault bytes) front) fails.2 fails.0 fails.3)

-- so a log in which no fault is found opens
pub whole_opens : (bytes : List ℕ) → sum_fault bytes ≡ None → source_refusal bytes ≡ None
whole_opens bytes fine = by_case (source_refusal bytes) refl
  where
    by_case : (refusal : Option SumFault) → source_refusal bytes ≡ refusal → source_refusal bytes ≡ None
    by_case None is = is
    by_case (Some fault) is = absurd (none-some fault (sym fine ∙ whole_refused bytes fault is))

-- ---- why a log isn't read to its end

pub reading_whole : (bytes : List ℕ) → source_refusal bytes ≡ None → (found_of whole_reading bytes).fault ≡ reading_fault bytes
unfolding reading_fault
reading_whole bytes fine =
    sym (last-decides (found_of whole_reading bytes).fault)
    ∙ ap (λ (refusal : Option SumFault). first_failing (refusal ∷ (found_of whole_reading bytes).fault ∷ [])) (sym fine)

pub reading_refused : (bytes : List ℕ) (fault : SumFault) → source_refusal bytes ≡ Some fault → reading_fault bytes ≡ Some fault
unfolding reading_fault
reading_refused bytes fault is = ap (λ (refusal : Option SumFault). first_failing (refusal ∷ (found_of whole_reading bytes).fault ∷ [])) is

-- one that is opens
pub reading-opens : (bytes : List ℕ) → reading_fault bytes ≡ None → (source_refusal bytes ≡ None) × ((found_of whole_reading bytes).fault ≡ None)
unfolding reading_fault
reading-opens bytes fine =
    let both = none-first (source_refusal bytes) ((found_of whole_reading bytes).fault ∷ []) fine in
    (both.0, sym (last-decides (found_of whole_reading bytes).fault) ∙ both.1)
