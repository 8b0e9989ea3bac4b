-- Going through the events of a unit: what is left of it, and what follows it.
use Rattle.std.proofs.Common.{◌≡◌, ℕ, ◌+◌, Bool, true, false, List, [], ◌∷◌, Option, Some, None, refl, sym, ap, ◌∙◌}
use Rattle.std.specs.Prelude.{find, if◌then◌else◌, option_map}
use Rattle.blog_event.specs.Event.{event_size}
use Rattle.blog_event.specs.File.{Placed}
use Rattle.blog_trans.specs.Groups.{cons_if}
use Rattle.blog_trans.specs.Places.{kind_at}
use Rattle.blog_units.specs.declared.part.Part.{Part}
use Rattle.blog_units.specs.declared.unit.Seen.{Seen}
use Rattle.blog_units.specs.Units.{begun, continued, end_behind, goes_on, is_query, is_query_or_rows, opened_by, part_behind, rest_of, thread_of, units_in}
use Rattle.blog_units.specs.code.UnitsView.{HasStopped, or_first, or_this, seen_of, seen_with, timestamp_of}

-- what is left of a unit of this part, whose events begin at a position, in front of others: where it stops, what is seen of it,
-- and the units behind it
pub record IsGone (from at : ℕ) (part : Option Part) (known seen : Seen) (now : Option Part) (ps qs : List Placed) : Type 0 where
  pub stops : end_behind from (rest_of part ps) ≡ end_behind at (rest_of now qs)
  pub units_are : units_in part ps ≡ units_in now qs
  pub seen_is : seen_of known (rest_of part ps) ≡ seen_of seen (rest_of now qs)
  pub last_is : part_behind part (rest_of part ps) ≡ part_behind now (rest_of now qs)

pub gone-start : (at : ℕ) (part : Option Part) (known : Seen) (ps : List Placed) → IsGone at at part known known part ps ps
gone-start at part known ps = record { stops = refl; units_are = refl; seen_is = refl; last_is = refl }

first-more : (test : Placed → Bool) (told : Placed → ℕ) (known : Option ℕ) (p : Placed) (rest : List Placed)
    → or_first test told known (p ∷ rest) ≡ or_first test told (or_this test told known p) rest
first-more test told (Some known) p rest = refl
first-more test told None p rest = by_test (test p) refl
  where
    by_test : (b : Bool) → test p ≡ b → or_first test told None (p ∷ rest) ≡ or_first test told (if b then Some (told p) else None) rest
    by_test true is = ap (λ b. option_map told (if b then Some p else find test rest)) is
    by_test false is = ap (λ b. option_map told (if b then Some p else find test rest)) is

pub seen-more : (seen : Seen) (p : Placed) (rest : List Placed) → seen_of seen (p ∷ rest) ≡ seen_of (seen_with seen p) rest
seen-more seen p rest = λ i. record {
  time = first-more is_query_or_rows timestamp_of seen.time p rest i;
  thread = first-more is_query thread_of seen.thread p rest i;
}

-- one more event, with which the unit goes on
pub gone-on : (from at n : ℕ) (part : Option Part) (known seen : Seen) (now : Part) (ps qs later : List Placed) (p : Placed)
    → IsGone from at part known seen (Some now) ps qs → qs ≡ p ∷ later → goes_on now (kind_at p) ≡ true → p.pos + event_size p.event ≡ n
    → IsGone from n part known (seen_with seen p) (continued now p) ps later
gone-on from at n part known seen now ps qs later p gone is goes ends =
    let rest_is : rest_of (Some now) qs ≡ p ∷ rest_of (continued now p) later = ap (rest_of (Some now)) is ∙ ap (λ b. if b then p ∷ rest_of (continued now p) later else []) goes in
    record {
      stops = gone.stops ∙ ap (end_behind at) rest_is ∙ ap (λ (n : ℕ). end_behind n (rest_of (continued now p) later)) ends;
      units_are = gone.units_are ∙ ap (units_in (Some now)) is
          ∙ ap (λ b. if b then units_in (continued now p) later else begun (kind_at p) p later (λ part. units_in part later)) goes;
      seen_is = gone.seen_is ∙ ap (seen_of seen) rest_is ∙ seen-more seen p (rest_of (continued now p) later);
      last_is = gone.last_is ∙ ap (part_behind (Some now)) rest_is;
    }

-- the unit has ended
first-none : (test : Placed → Bool) (told : Placed → ℕ) (known : Option ℕ) → or_first test told known [] ≡ known
first-none test told (Some known) = refl
first-none test told None = refl

seen-none : (seen : Seen) → seen_of seen [] ≡ seen
seen-none seen = λ i. record { time = first-none is_query_or_rows timestamp_of seen.time i; thread = first-none is_query thread_of seen.thread i }

ended : (from at : ℕ) (part : Part) (known seen : Seen) (now : Option Part) (ps qs : List Placed) → IsGone from at (Some part) known seen now ps qs
    → rest_of now qs ≡ [] → units_in now qs ≡ units_in None qs → HasStopped from at part known seen now ps qs
ended from at part known seen now ps qs gone none same = record {
  stops = sym (gone.stops ∙ ap (end_behind at) none);
  units_are = gone.units_are ∙ same;
  seen_is = sym (gone.seen_is ∙ ap (seen_of seen) none ∙ seen-none seen);
  last_is = sym (gone.last_is ∙ ap (part_behind now) none);
}

-- with its last event
pub gone-ended : (from at : ℕ) (part : Part) (known seen : Seen) (ps qs : List Placed) → IsGone from at (Some part) known seen None ps qs → HasStopped from at part known seen None ps qs
gone-ended from at part known seen ps qs gone = ended from at part known seen None ps qs gone refl refl

-- with the log
pub gone-over : (from at : ℕ) (part : Part) (known seen : Seen) (now : Part) (ps qs : List Placed) → IsGone from at (Some part) known seen (Some now) ps qs → qs ≡ []
    → HasStopped from at part known seen (Some now) ps qs
gone-over from at part known seen now ps qs gone is =
    ended from at part known seen (Some now) ps qs gone (ap (rest_of (Some now)) is) (ap (units_in (Some now)) is ∙ sym (ap (units_in None) is))

-- in front of an event that it doesn't go on with
pub gone-before : (from at : ℕ) (part : Part) (known seen : Seen) (now : Part) (ps qs later : List Placed) (p : Placed) → IsGone from at (Some part) known seen (Some now) ps qs
    → qs ≡ p ∷ later → goes_on now (kind_at p) ≡ false → HasStopped from at part known seen (Some now) ps qs
gone-before from at part known seen now ps qs later p gone is goes =
    ended from at part known seen (Some now) ps qs gone
    (ap (rest_of (Some now)) is ∙ ap (λ b. if b then p ∷ rest_of (continued now p) later else []) goes)
    (ap (units_in (Some now)) is ∙ ap (λ b. if b then units_in (continued now p) later else begun (kind_at p) p later (λ part. units_in part later)) goes
    ∙ sym (ap (units_in None) is))

-- ---- events between units

-- one that begins none
pub between-on : (ps later : List Placed) (p : Placed) → ps ≡ p ∷ later → opened_by (kind_at p) ≡ None → units_in None ps ≡ units_in None later
between-on ps later p is none =
    ap (units_in None) is ∙ ap (λ (o : Option Part). cons_if (option_map (λ part. record { first = p; rest = rest_of (Some part) later }) o) (units_in o later)) none

-- one that begins one
pub between-first : (ps later : List Placed) (p : Placed) (part : Part) → ps ≡ p ∷ later → opened_by (kind_at p) ≡ Some part
    → units_in None ps ≡ record { first = p; rest = rest_of (Some part) later } ∷ units_in (Some part) later
between-first ps later p part is some =
    ap (units_in None) is ∙ ap (λ (o : Option Part). cons_if (option_map (λ part. record { first = p; rest = rest_of (Some part) later }) o) (units_in o later)) some
