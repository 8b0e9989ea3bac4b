-- How far a walk over a log has come: what was read, and what is left.
use Rattle.std.proofs.Common.{◌≡◌, ℕ, ◌+◌, ◌<◌, ◌≤◌, Bool, true, false, not, ◌&&◌, ◌==◌, if◌then◌else◌, List, [], ◌∷◌, ◌++◌, filter, length, drop, reverse, Option, Some, None, Ok, refl, sym, ap, ◌∙◌, subst, inl, inr, arith}
use Rattle.std.proofs.lemmas.Bool.{ne_eqb, eq-eqb}
use Rattle.std.proofs.lemmas.List.{append-nil, reverse-reverse, length-drop}
use Rattle.std.proofs.lemmas.List.Elements.{filter-append}
use Rattle.std.proofs.lemmas.Option.{same_Some}
use Rattle.blog_event.specs.declared.fault.Fault.{Fault}
use Rattle.blog_event.specs.declared.fault.Fault.TheVariants.{CutEvent, NoEventAt}
use Rattle.blog_event.specs.Fault.{needs, first_failing, fault_at}
use Rattle.blog_event.specs.Event.{Event, event_at, event_size}
use Rattle.blog_event.specs.File.{Placed, placed_from, end_of, is_below, read}
use Rattle.blog_event.specs.code.Going.{EndsAt, AreRead}
use Rattle.blog_event.specs.Opening.{opening_fault}
use Rattle.blog_event.proofs.Headers.{event-at-short}
use Rattle.blog_event.proofs.Going.{event-within, left-more, left-none}
use Rattle.blog_event.proofs.Opened.{LogReads}
use Rattle.blog_trans.specs.declared.builder.IndexBuilder.{IndexBuilder}
use Rattle.blog_trans.specs.Selection.{Selection}
use Rattle.blog_trans.specs.Acceptance.{event_fault, is_in_range, range, is_start_inside, read_fault, first_read_fault, fault, IsAccepted, IsRefusal}
use Rattle.blog_trans.specs.Groups.{placed_groups}
use Rattle.blog_trans.specs.code.ListsView.{all_ended}
use Rattle.blog_trans.specs.code.BuilderView.{HasTaken, IsWithin, Keeps}
use Rattle.blog_trans.specs.code.WalkView.{walk_fault, IsPassedBy, Lead, IsReached, IsThrough, end_fault}
use Rattle.blog_trans.proofs.IndexCode.{end-refused, last-is, progress-is}
use Rattle.blog_trans.proofs.ProgressSteps.{reverse-latest, reverse-behind}

-- the events that were read, the latest first, and those that are left
pub record Left {A : Type 0} (bytes : List ℕ) (sel : Selection) (at : ℕ) (builder : IndexBuilder A) : Type 0 where
  pub earlier : List Placed
  pub left : List Event
  pub are : AreRead bytes sel.stop at left
  pub walks : HasTaken sel (range sel earlier) builder
  pub same : first_read_fault sel [] (placed_from 4 (read bytes sel.stop)) ≡ first_read_fault sel earlier (placed_from at left)
  pub whole : reverse earlier ++ placed_from at left ≡ placed_from 4 (read bytes sel.stop)
  pub ends : end_of at left ≡ end_of 4 (read bytes sel.stop)

fault-first : (check : Option Fault) (others : List (Option Fault)) (f : Fault) → check ≡ Some f → first_failing (check ∷ others) ≡ Some f
fault-first check others f is = ap (λ c. first_failing (c ∷ others)) is

-- ---- the event at 4

pub left-start : {A : Type 0} (builder : IndexBuilder A) (bytes : List ℕ) (sel : Selection) (at : ℕ) (first : Event) → LogReads bytes sel.stop at → event_at (drop 4 bytes) ≡ Some first
    → is_start_inside sel (record { pos = 4; event = first }) ≡ false → HasTaken sel [] builder → Left bytes sel at builder
left-start builder bytes sel at first reads stands out walks =
    let here : reads.first ≡ first = same_Some reads.first first (sym reads.stands ∙ stands) in
    record {
      earlier = record { pos = 4; event = first } ∷ [];
      left = reads.later;
      are = reads.left.are;
      walks = walks;
      same = grind (arith, reads.read_is, reads.starts);
      whole = grind (arith, reads.read_is, reads.starts);
      ends = grind (arith, reads.read_is, reads.starts);
    }

-- the start lies inside the event at 4
pub inside-format : (bytes : List ℕ) (sel : Selection) (at : ℕ) (first : Event) → LogReads bytes sel.stop at → event_at (drop 4 bytes) ≡ Some first
    → is_start_inside sel (record { pos = 4; event = first }) ≡ true → walk_fault bytes sel ≡ Some (NoEventAt sel.start)
inside-format bytes sel at first reads stands inside = grind (arith, reads.stands, reads.read_is)

-- ---- one more event

module _ {A : Type 0} (bytes : List ℕ) (sel : Selection) (at : ℕ) (before : IndexBuilder A) (l : Left bytes sel at before) (e : Event)
    (below : is_below at sel.stop ≡ true) (stands : event_at (drop at bytes) ≡ Some e) where
  abbrev pub latest : Placed
  latest = record { pos = at; event = e }

  fault-here : first_read_fault sel [] (placed_from 4 (read bytes sel.stop))
      ≡ first_failing (read_fault sel l.earlier latest ∷ first_read_fault sel (latest ∷ l.earlier) (placed_from (at + event_size e) (left-more bytes sel.stop at l.left e l.are below stands).0) ∷ [])
  fault-here = l.same ∙ ap (λ (es : List Event). first_read_fault sel l.earlier (placed_from at es)) (left-more bytes sel.stop at l.left e l.are below stands).1

  -- it passed
  pub left-on : (after : IndexBuilder A) (n : ℕ) → at + event_size e ≡ n → read_fault sel l.earlier latest ≡ None → HasTaken sel (range sel (latest ∷ l.earlier)) after → Left bytes sel n after
  left-on after n next passed walks =
      let more = left-more bytes sel.stop at l.left e l.are below stands in
      record {
        earlier = latest ∷ l.earlier;
        left = more.0;
        are = subst (λ (m : ℕ). AreRead bytes sel.stop m more.0) next more.2;
        walks = walks;
        same = grind (arith, fault-here);
        whole = grind (arith, reverse-behind latest l.earlier, l.whole);
        ends = grind (arith, l.ends);
      }

  -- it is refused
  pub left-refused : (fault : Fault) → IsRefusal (read_fault sel l.earlier latest) fault → IsRefusal (walk_fault bytes sel) fault
  left-refused fault (inl memory) = inl memory
  left-refused fault (inr is) = inr (fault-first _ _ fault (fault-here ∙ fault-first _ _ fault is))

-- ---- events of which nothing is asked

-- an event that is read and of which nothing is asked
passed-by : (sel : Selection) (earlier : List Placed) (p : Placed) → IsPassedBy sel p → read_fault sel earlier p ≡ None
passed-by sel earlier p (out, clear) =
    λ i. first_failing (fault_at sel.start (needs (not (clear i)) NoEventAt) ∷ (if out i then fault_at p.pos (event_fault sel (range sel earlier) p) else None) ∷ [])

-- no event of those that lead to a position is in the range
lead-on : {A : Type 0} (builder : IndexBuilder A) (bytes : List ℕ) (sel : Selection) (at : ℕ) (es : List Event) (n : ℕ) → Left bytes sel n builder → Lead bytes sel n at es → Left bytes sel at builder
lead-on builder bytes sel at [] n l is = subst (λ (n : ℕ). Left bytes sel n builder) is l
lead-on builder bytes sel at (e ∷ es) n l (below, stands, by, lead) =
    let p : Placed = record { pos = n; event = e } in
    let walks : HasTaken sel (range sel (p ∷ l.earlier)) builder = subst (λ b. HasTaken sel (if b then p ∷ range sel l.earlier else range sel l.earlier) builder) (sym by.0) l.walks in
    lead-on builder bytes sel at es (n + event_size e) (left-on bytes sel n builder l e below stands builder (n + event_size e) refl (passed-by sel l.earlier p by) walks) lead

-- a walk that begins at a position to which events lead
pub left-reached : {A : Type 0} (builder : IndexBuilder A) (bytes : List ℕ) (sel : Selection) (at : ℕ) (reached : IsReached bytes sel at)
    → LogReads bytes sel.stop (4 + event_size reached.first) → HasTaken sel [] builder → Left bytes sel at builder
left-reached builder bytes sel at reached reads walks =
    lead-on builder bytes sel at reached.later (4 + event_size reached.first)
    (left-start builder bytes sel (4 + event_size reached.first) reached.first reads reached.stands reached.outside walks) reached.lead

-- such a position lies behind the first event, and within the log
pub record IsInside (bytes : List ℕ) (at : ℕ) : Type 0 where
  pub behind : 4 < at
  pub within : at ≤ length bytes

lead-inside : (bytes : List ℕ) (sel : Selection) (n at : ℕ) (es : List Event) → Lead bytes sel n at es → IsInside bytes n → IsInside bytes at
lead-inside bytes sel n at [] is inside = subst (IsInside bytes) is inside
lead-inside bytes sel n at (e ∷ es) (below, stands, by, lead) inside =
    let fits = event-within (drop n bytes) e stands in
    lead-inside bytes sel (n + event_size e) at es lead (record { behind = omega (arith, inside.behind); within = omega (arith, length-drop n bytes, inside.within) })

pub reached-inside : (bytes : List ℕ) (sel : Selection) (at : ℕ) → IsReached bytes sel at → IsInside bytes at
reached-inside bytes sel at reached =
    let fits = event-within (drop 4 bytes) reached.first reached.stands in
    lead-inside bytes sel (4 + event_size reached.first) at reached.later reached.lead (record { behind = omega arith; within = omega (arith, length-drop 4 bytes) })

-- ---- the end

filter-reverse : {A : Type 0} (test : A → Bool) (xs : List A) → filter test (reverse xs) ≡ reverse (filter test xs)
filter-reverse test [] = refl
filter-reverse test (x ∷ xs) = grind (arith, filter-reverse test xs, reverse-latest, filter-append, append-nil)

module _ {A : Type 0} (bytes : List ℕ) (sel : Selection) (at : ℕ) (builder : IndexBuilder A) (l : Left bytes sel at builder) (ends : EndsAt bytes sel.stop at) where
  none : l.left ≡ []
  none = left-none bytes sel.stop at l.left l.are ends

  end-is : at ≡ end_of 4 (read bytes sel.stop)
  end-is = ap (end_of at) (sym none) ∙ l.ends

  passed : first_read_fault sel [] (placed_from 4 (read bytes sel.stop)) ≡ None
  passed = l.same ∙ ap (λ (es : List Event). first_read_fault sel l.earlier (placed_from at es)) none

  fault-is : (cut : Bool) → is_below at sel.stop && not (at == length bytes) ≡ cut → walk_fault bytes sel ≡ fault_at at (needs (not cut) CutEvent)
  fault-is cut is = grind (arith, passed, end-is)

  -- a rest is left that is no event
  pub left-cut : is_below at sel.stop && not (at == length bytes) ≡ true → walk_fault bytes sel ≡ Some (CutEvent at)
  left-cut is = fault-is true is

  -- all is read
  pub left-over : is_below at sel.stop && not (at == length bytes) ≡ false
      → (walk_fault bytes sel ≡ None) × (at ≡ end_of 4 (read bytes sel.stop)) × HasTaken sel (reverse (range sel (placed_from 4 (read bytes sel.stop)))) builder
  left-over is =
      let read_all : reverse l.earlier ≡ placed_from 4 (read bytes sel.stop) = sym (append-nil (reverse l.earlier)) ∙ ap (λ (es : List Event). reverse l.earlier ++ placed_from at es) (sym none) ∙ l.whole in
      (fault-is false is, end-is, subst (λ (ps : List Placed). HasTaken sel ps builder) (range-reverse l.earlier ∙ ap (λ (ps : List Placed). reverse (range sel ps)) read_all) l.walks)
    where
      range-reverse : (ps : List Placed) → range sel ps ≡ reverse (range sel (reverse ps))
      range-reverse ps = sym (reverse-reverse (range sel ps)) ∙ ap reverse (sym (filter-reverse (is_in_range sel) ps))

-- the fault of a log that was read to its end, as the program computes it
pub end-is-fault : {A : Type 0} (bytes : List ℕ) (sel : Selection) (end at : ℕ) (builder : IndexBuilder A) → opening_fault bytes ≡ None → end ≡ length bytes
    → IsThrough bytes sel (Ok at) builder → fault bytes sel ≡ end_fault end sel builder.checker.place at
end-is-fault bytes sel end at builder opened ends through =
    end-refused bytes sel opened through.0 ∙ last-is bytes sel end at builder.checker.place ends through.1 through.2.checker.place_is

-- what is kept of one that has none
pub keeps-groups : {A : Type 0} (bytes : List ℕ) (sel : Selection) (at : ℕ) (builder : IndexBuilder A) → IsThrough bytes sel (Ok at) builder → IsAccepted bytes sel → Keeps (all_ended (placed_groups bytes sel)) builder
keeps-groups bytes sel at builder through accepted = subst (λ k. Keeps k builder) (progress-is bytes sel accepted through.2.passed) through.2.keeps

-- ---- small facts

pub within-more : {A : Type 0} (builder : IndexBuilder A) (n m : ℕ) → n ≤ m → IsWithin n builder → IsWithin m builder
within-more builder n m le few = record { entries = omega (arith, le, few.entries); tables = omega (arith, le, few.tables); images = omega (arith, le, few.images) }

-- no event stands at the end
pub none-at-end : (bytes : List ℕ) (at : ℕ) → at ≡ length bytes → event_at (drop at bytes) ≡ None
none-at-end bytes at is = event-at-short (drop at bytes) (omega (arith, length-drop at bytes, is))

pub below-the-end : {b : Bool} (n m : ℕ) → b ≡ true → (n ≡ m → ⊥) → b && not (n == m) ≡ true
below-the-end n m below ne = rw (below, ne_eqb n m ne) refl

pub at-the-end : (b : Bool) (n m : ℕ) → n ≡ m → b && not (n == m) ≡ false
at-the-end b n m is = let same = eq-eqb n m is in grind arith
