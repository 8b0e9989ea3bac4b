-- What units are to the events of which they are made.
use Rattle.std.specs.Prelude.{◌≡◌, ◌⊎◌, ◌&&◌, ◌||◌, not, Bool, true, List, [], ◌∷◌, ◌++◌, None}
use Rattle.std.specs.List.{flat_map, AllByRecursion}
use Rattle.blog_event.specs.File.{Placed}
use Rattle.blog_trans.specs.Places.{kind_at, is_begin, is_end}
use Rattle.blog_units.specs.Units.{Unit, is_gtid_kind, is_rollback, opened_by, units_in}

abbrev pub unit_events : Unit → List Placed
unit_events u = u.first ∷ u.rest

-- the events of units, one after the other
abbrev pub events_of : List Unit → List Placed
events_of us = flat_map unit_events us

-- one of these events
abbrev pub IsOneOf : List Placed → Placed → Type 0
IsOneOf [] p = ⊥
IsOneOf (x ∷ xs) p = (p ≡ x) ⊎ IsOneOf xs p

-- the first list is the second, some of whose elements may be left out
abbrev pub IsPartOf : List Placed → List Placed → Type 0
IsPartOf xs [] = xs ≡ []
IsPartOf xs (y ∷ ys) = IsPartOf xs ys ⊎ ((rest : List Placed) × (xs ≡ y ∷ rest) × IsPartOf rest ys)

-- an event that may stand between units
abbrev pub MayBeBetween : Placed → Type 0
MayBeBetween p = opened_by (kind_at p) ≡ None

-- the units of events stand in their order, none in another, and each event is in one or may stand between them
pub record HoldsTheEvents (es : List Placed) : Type 0 where
  pub order : IsPartOf (events_of (units_in None es)) es
  pub all : AllByRecursion (λ p. IsOneOf (events_of (units_in None es)) p ⊎ MayBeBetween p) es

-- an event inside of a transaction: it neither ends it nor begins another, nor is it a Gtid event
abbrev pub is_inside_one : Placed → Bool
is_inside_one p = not (is_end p || is_rollback p) && (not (is_gtid_kind (kind_at p)) && not (is_begin p))

-- a transaction: a `BEGIN`, the events inside, and a `COMMIT` or Xid
pub record IsTransaction (begin : Placed) (inside : List Placed) (end : Placed) : Type 0 where
  pub begins : is_begin begin ≡ true
  pub inside_all : AllByRecursion (λ p. is_inside_one p ≡ true) inside
  pub ends : is_end end ≡ true

-- a unit ends with these events
abbrev pub EndsWith : List Placed → Unit → Type 0
EndsWith events u = (front : List Placed) × (unit_events u ≡ front ++ events)

-- one of the units ends with them
abbrev pub HasUnitEndingWith : List Placed → List Unit → Type 0
HasUnitEndingWith events [] = ⊥
HasUnitEndingWith events (u ∷ us) = EndsWith events u ⊎ HasUnitEndingWith events us
