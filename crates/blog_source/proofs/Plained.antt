-- What is put in the plain form for a log in which no fault is found is its plain log.
use Rattle.std.proofs.Common.{◌≡◌, ℕ, ◌+◌, Bool, false, List, [], ◌∷◌, ◌++◌, length, take, drop, Option, Some, None, Ok, Err, refl, sym, ap, ◌∙◌, append_assoc}
use Rattle.std.specs.Prelude.{Result}
use Rattle.std.specs.Result.{IsErrAnd, result_err}
use Rattle.std.specs.List.{flat_map}
use Rattle.std.proofs.lemmas.Option.{none-some}
use Rattle.blog_event.specs.Event.{Event, event_size, event_text}
use Rattle.blog_event.specs.File.{Placed, magic, file_text, events_from, placed_from}
use Rattle.blog_sum.specs.declared.fault.SumFault.{SumFault}
use Rattle.blog_sum.specs.Plain.{ended_from}
use Rattle.blog_sum.specs.Sums.{has_sums}
use Rattle.blog_source.specs.declared.form.Form.TheVariants.{Plain}
use Rattle.blog_source.specs.declared.front.Front.{Front}
use Rattle.blog_source.specs.Found.{Found, check_of, found, found_of, found_with}
use Rattle.blog_source.specs.Handed.{bare, handed_format}
use Rattle.blog_source.specs.Laws.{whole_reading}
use Rattle.blog_source.specs.Plain.{plain_events, plain_log, plainly}
use Rattle.blog_source.specs.code.Fronts.{HasFront, IsFront}
use Rattle.blog_source.specs.code.Walk.{found_left, put_text}
use Rattle.blog_source.proofs.Opened.{found-is, left-same, read-is}

-- a fault of the front, handed on
pub err-handed : {A : Type 0} (r : Result A SumFault) (fault : SumFault) (sums : Option SumFault) → IsErrAnd r (λ said. said ≡ fault) → sums ≡ Some fault → result_err r ≡ sums
err-handed (Ok x) fault sums is fails = absurd is
err-handed (Err said) fault sums is fails = ap Some is ∙ sym fails

-- ---- no fault is found

-- of an event and of those behind it
pub none-with : (check : Option SumFault) (p : Placed) (later : Found) → (found_with check false p later).fault ≡ None
    → (check ≡ None) × (later.fault ≡ None) × ((found_with check false p later).kept ≡ p ∷ later.kept)
none-with None p later none = (refl, none, refl)
none-with (Some fault) p later none = absurd (none-some fault (sym none))

-- so each is kept
all-kept : (sums : Bool) (len at : ℕ) (es : List Event) → (found whole_reading sums len at (placed_from at es)).fault ≡ None
    → (found whole_reading sums len at (placed_from at es)).kept ≡ placed_from at es
all-kept sums len at [] none = refl
all-kept sums len at (e ∷ es) none =
    let p : Placed = record { pos = at; event = e } in
    let first = none-with (check_of sums p) p (found whole_reading sums len (at + event_size e) (placed_from (at + event_size e) es)) none in
    first.2 ∙ ap (λ (ps : List Placed). p ∷ ps) (all-kept sums len (at + event_size e) es first.1)

-- ---- the plain log

-- what they become
become : (sums : Bool) (at : ℕ) (es : List Event) → flat_map (λ (p : Placed). plainly (bare sums p.event)) (placed_from at es) ≡ flat_map (λ e. plainly (bare sums e)) es
become sums at [] = refl
become sums at (e ∷ es) = ap (λ (later : List Event). plainly (bare sums e) ++ later) (become sums (at + event_size e) es)

-- the events behind the format description
abbrev later_from : ℕ → List ℕ → List Event
later_from first old = events_from (length old) None first (drop first old)

plain-front : (front : Front) (old : List ℕ) (is : IsFront front old)
    → plain_log old ≡ (magic ++ event_text (handed_format front.sums is.format))
    ++ flat_map event_text (ended_from front.first (flat_map (λ e. plainly (bare front.sums e)) (later_from front.first old)))
unfolding plain_log
plain-front front old is =
    let later : List Event = later_from (4 + event_size is.format) old in
    ap (λ (es : List Event). file_text (plain_events (has_sums old) es)) (read-is old None is.format is.mark is.stands)
    ∙ (λ i. file_text (handed_format (sym is.sums i) is.format ∷ ended_from (4 + event_size is.format) (flat_map (λ e. plainly (bare (sym is.sums i) e)) later)))
    ∙ (λ i. file_text (handed_format front.sums is.format ∷ ended_from (sym is.first i) (flat_map (λ e. plainly (bare front.sums e)) (later_from (sym is.first i) old))))
    ∙ sym (append_assoc magic (event_text (handed_format front.sums is.format))
    (flat_map event_text (ended_from front.first (flat_map (λ e. plainly (bare front.sums e)) (later_from front.first old)))))

pub plain-is : (front : Front) (old new : List ℕ) → HasFront front old new → (found_of whole_reading old).fault ≡ None
    → take front.first new ++ put_text Plain front.sums front.first (found_left whole_reading front.sums (length new) front.first (drop front.first new)).kept ≡ plain_log old
plain-is front old new has none =
    let left : Found = found_left whole_reading front.sums (length old) front.first (drop front.first old) in
    let fine : left.fault ≡ None = ap (λ (f : Found). f.fault) (sym (left-same whole_reading front old new has) ∙ found-is whole_reading front old new has) ∙ none in
    let kept : left.kept ≡ placed_from front.first (later_from front.first old) = all-kept front.sums (length old) front.first (later_from front.first old) fine in
    let start : List ℕ = magic ++ event_text (handed_format front.sums has.is.format) in
    ap (λ (text : List ℕ). text ++ put_text Plain front.sums front.first (found_left whole_reading front.sums (length new) front.first (drop front.first new)).kept) has.text
    ∙ ap (λ (f : Found). start ++ put_text Plain front.sums front.first f.kept) (left-same whole_reading front old new has)
    ∙ ap (λ (ps : List Placed). start ++ put_text Plain front.sums front.first ps) kept
    ∙ ap (λ (es : List Event). start ++ flat_map event_text (ended_from front.first es)) (become front.sums front.first (later_from front.first old))
    ∙ sym (plain-front front old has.is)
