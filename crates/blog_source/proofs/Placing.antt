-- Going through a log for the first event that is at a place or behind it.
use Rattle.std.proofs.Common.{◌≡◌, ℕ, ◌+◌, ◌≤◌, true, false, length, drop, List, Some, None, refl, sym, ap, ◌∙◌, inr, arith}
use Rattle.std.specs.Prelude.{find, nat_le, nat_lt}
use Rattle.std.proofs.lemmas.Bool.Decides.{nat_tests}
use Rattle.std.specs.Option.{option_map_or}
use Rattle.blog_event.specs.Event.{Event, event_at, event_size}
use Rattle.blog_event.specs.File.{Placed}
use Rattle.blog_source.specs.Places.{first_of, position_of}
use Rattle.blog_source.specs.code.Walk.{left}
use Rattle.blog_source.proofs.Left.{left-first, left-ends}

-- where the first of the events that are left is that is at a place or behind it
abbrev pub position_left : List ℕ → ℕ → ℕ → ℕ
position_left log place at = option_map_or (λ p. p.pos) (find (λ p. nat_le place p.event.log_pos) (left None (length log) at (drop at log))) (length log)

abbrev first_of_them : List ℕ → ℕ → List Placed → ℕ
first_of_them log place ps = option_map_or (λ p. p.pos) (find (λ p. nat_le place p.event.log_pos) ps) (length log)

pub position-here : (log : List ℕ) (place at : ℕ) (e : Event) → event_at (drop at log) ≡ Some e → nat_le place e.log_pos ≡ true → position_left log place at ≡ at
position-here log place at e stands here = ap (first_of_them log place) (left-first log None at e refl stands) ∙ (rw here refl)

pub position-later : (log : List ℕ) (place at size : ℕ) (e : Event) → event_at (drop at log) ≡ Some e → size ≡ event_size e → nat_le place e.log_pos ≡ false
    → position_left log place at ≡ position_left log place (at + size)
position-later log place at size e stands is before =
    ap (first_of_them log place) (left-first log None at e refl stands) ∙ (rw before refl) ∙ ap (λ (size : ℕ). position_left log place (at + size)) (sym is)

pub position-none : (log : List ℕ) (place at : ℕ) → event_at (drop at log) ≡ None → position_left log place at ≡ length log
position-none log place at none = ap (first_of_them log place) (left-ends log None at (inr none))

-- behind the format description they decide
pub position-first : (log : List ℕ) (place at : ℕ) → at ≡ first_of log → at ≤ place → position_left log place at ≡ position_of log place
position-first log place at is behind =
    let test : nat_lt place (first_of log) ≡ false = grind (arith, nat_tests) in
    ap (position_left log place) is ∙ (rw test refl)
