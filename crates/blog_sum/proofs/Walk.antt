-- What is checked of a log, event by event.
use Rattle.std.proofs.Common.{◌≡◌, ℕ, ◌+◌, ◌≤◌, Bool, true, false, List, [], ◌∷◌, ◌++◌, length, take, drop, Option, Some, None, refl, sym, subst, ap, ◌∙◌, arith}
use Rattle.std.specs.Prelude.{◌==◌, map, nat_le}
use Rattle.std.proofs.lemmas.Bool.{le-leb}
use Rattle.std.proofs.lemmas.Bool.Decides.{nat_tests}
use Rattle.std.proofs.lemmas.List.{drop-drop}
use Rattle.std.proofs.lemmas.Option.{same_Some}
use borrow.Author.Tests.{eqb-true}
use Rattle.blog_event.specs.declared.fault.Fault.TheVariants.{CutEvent}
use Rattle.blog_event.specs.Event.{Event, event_size, event_text, event_at}
use Rattle.blog_event.specs.Fault.{first_failing}
use Rattle.blog_event.specs.File.{Placed, magic, placed_from, end_of, events_from, read}
use Rattle.blog_event.specs.Format.{algorithm}
use Rattle.blog_event.specs.Opening.{front_fault}
use Rattle.blog_event.proofs.Framing.{read-first}
use Rattle.blog_event.proofs.Openings.{opened-front}
use Rattle.blog_sum.specs.declared.fault.SumFault.{SumFault}
use Rattle.blog_sum.specs.declared.fault.SumFault.TheVariants.{Log, WrongSum}
use Rattle.blog_sum.specs.Sums.{ends_in_its_sum, unless, sum_check, not_in_use, algorithm_of, has_sums, sum_fault}
use Rattle.blog_sum.specs.code.Left.{next_fault}
use Rattle.blog_sum.proofs.Formats.{described-long}

-- the events that follow each other from a position on
abbrev pub events_left : List ℕ → ℕ → List Event
events_left bytes at = events_from (length bytes) None at (drop at bytes)

-- they reach to the end
abbrev pub end_check : List ℕ → ℕ → List Event → Option SumFault
end_check bytes at es = unless (end_of at es == length bytes) (Log (CutEvent (end_of at es)))

-- each has its sum, and they reach to the end
abbrev pub left_fault : List ℕ → ℕ → List Event → Option SumFault
left_fault bytes at es = first_failing (map sum_check (placed_from at es) ++ end_check bytes at es ∷ [])

-- a check that is the last of all decides
pub last-decides : {A : Type 0} (check : Option A) → first_failing (check ∷ []) ≡ check
last-decides None = refl
last-decides (Some failure) = refl

-- ---- the sums

-- an event with room for a sum, by whether it ends in it
pub sum-check-is : (p : Placed) (has : Bool) → 23 ≤ event_size p.event → ends_in_its_sum (event_text p.event) ≡ has → sum_check p ≡ unless has (WrongSum p.pos)
sum-check-is p has room is =
    let test : nat_le 23 (event_size p.event) ≡ true = le-leb 23 (event_size p.event) room in
    rw (test, is) (last-decides (unless has (WrongSum p.pos)))

-- the same of the event at a position
pub next-is : (bytes : List ℕ) (at : ℕ) (e : Event) (has : Bool) → event_at (drop at bytes) ≡ Some e → 23 ≤ event_size e → ends_in_its_sum (event_text e) ≡ has
    → next_fault bytes at ≡ unless has (WrongSum at)
next-is bytes at e has found room is = rw found (sum-check-is (record { pos = at; event = e }) has room is)

-- the first of checks decides
first-fails : {A : Type 0} (check : Option A) (checks : List (Option A)) (failure : A) → check ≡ Some failure → first_failing (check ∷ checks) ≡ Some failure
first-fails check checks failure is = rw is refl

first-holds : {A : Type 0} (check : Option A) (checks : List (Option A)) → check ≡ None → first_failing (check ∷ checks) ≡ first_failing checks
first-holds check checks is = rw is refl

first-and-others : {A : Type 0} (check : Option A) (checks : List (Option A)) → first_failing (check ∷ checks) ≡ first_failing (check ∷ first_failing checks ∷ [])
first-and-others None checks = sym (last-decides (first_failing checks))
first-and-others (Some failure) checks = refl

-- ---- a whole log

-- what is read
pub read-is : (bytes : List ℕ) (e : Event) → take 4 bytes ≡ magic → event_at (drop 4 bytes) ≡ Some e → read bytes None ≡ e ∷ events_left bytes (4 + event_size e)
read-is bytes e mark found =
    read-first bytes None e mark found
    ∙ ap (λ (rest : List ℕ). e ∷ events_from (length bytes) None (4 + event_size e) rest) (drop-drop (event_size e) 4 bytes)

-- a log without sums is checked as far as its end
pub fault-unsummed : (bytes : List ℕ) (e : Event) → front_fault bytes ≡ None → take 4 bytes ≡ magic → event_at (drop 4 bytes) ≡ Some e → algorithm_of bytes ≡ 0
    → sum_fault bytes ≡ end_check bytes (4 + event_size e) (events_left bytes (4 + event_size e))
unfolding sum_fault
fault-unsummed bytes e opened mark found none =
    let known : nat_le (algorithm_of bytes) 1 ≡ true = le-leb (algorithm_of bytes) 1 (omega arith) in
    let unsummed : has_sums bytes ≡ false = grind (arith, nat_tests) in
    rw (opened, known, unsummed, read-is bytes e mark found) (last-decides (end_check bytes (4 + event_size e) (events_left bytes (4 + event_size e))))

-- one with sums event by event
pub fault-summed : (bytes : List ℕ) (e : Event) → front_fault bytes ≡ None → take 4 bytes ≡ magic → event_at (drop 4 bytes) ≡ Some e → has_sums bytes ≡ true
    → sum_fault bytes ≡ first_failing (sum_check (record { pos = 4; event = not_in_use e })
    ∷ left_fault bytes (4 + event_size e) (events_left bytes (4 + event_size e)) ∷ [])
unfolding sum_fault
fault-summed bytes e opened mark found sums =
    let one : algorithm_of bytes ≡ 1 = eqb-true (algorithm_of bytes) 1 sums in
    let known : nat_le (algorithm_of bytes) 1 ≡ true = le-leb (algorithm_of bytes) 1 (omega arith) in
    rw (opened, known, sums, read-is bytes e mark found) (first-and-others (sum_check (record { pos = 4; event = not_in_use e })) _)

-- what the answer of a walk says, if its first event is refused, and if it isn't
pub start-refused : (bytes : List ℕ) (e : Event) (fault : SumFault) → front_fault bytes ≡ None → event_at (drop 4 bytes) ≡ Some e → has_sums bytes ≡ true
    → sum_check (record { pos = 4; event = not_in_use e }) ≡ Some fault → sum_fault bytes ≡ Some fault
start-refused bytes e fault opened found sums fails =
    let log = opened-front bytes opened in
    fault-summed bytes e opened log.1.mark found sums ∙ first-fails (sum_check (record { pos = 4; event = not_in_use e })) _ fault fails

pub start-fault : (bytes : List ℕ) (e : Event) (size : ℕ) → front_fault bytes ≡ None → event_at (drop 4 bytes) ≡ Some e → has_sums bytes ≡ true → size ≡ event_size e
    → sum_check (record { pos = 4; event = not_in_use e }) ≡ None → left_fault bytes (4 + size) (events_left bytes (4 + size)) ≡ sum_fault bytes
start-fault bytes e size opened found sums is fine =
    let log = opened-front bytes opened in
    let at : ℕ = 4 + event_size e in
    let whole =
    fault-summed bytes e opened log.1.mark found sums ∙ first-holds (sum_check (record { pos = 4; event = not_in_use e })) (left_fault bytes at (events_left bytes at) ∷ []) fine
    ∙ last-decides (left_fault bytes at (events_left bytes at)) in
    ap (λ (size : ℕ). left_fault bytes (4 + size) (events_left bytes (4 + size))) is ∙ sym whole

-- ---- by the algorithm that the format description says

pub algorithm-is : (bytes : List ℕ) (e : Event) (found : ℕ) → event_at (drop 4 bytes) ≡ Some e → found ≡ algorithm e.body → algorithm_of bytes ≡ found
algorithm-is bytes e found stands is = rw stands (sym is)

-- ---- the format description is there

pub front-marked : (bytes : List ℕ) → front_fault bytes ≡ None → take 4 bytes ≡ magic
front-marked bytes opened = (opened-front bytes opened).1.mark

pub front-long : (bytes : List ℕ) (e : Event) → front_fault bytes ≡ None → event_at (drop 4 bytes) ≡ Some e → 57 ≤ length e.body
front-long bytes e opened found =
    let log = opened-front bytes opened in
    let same : log.0 ≡ e = same_Some log.0 e (sym log.1.stands ∙ found) in
    subst (λ (e : Event). 57 ≤ length e.body) same (described-long log.0 log.1.accepted)
