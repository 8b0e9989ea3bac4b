-- The units of events have these in their order, and each transaction is in one.
use Rattle.std.proofs.Common.{◌≡◌, Bool, true, false, not, ◌&&◌, ◌||◌, List, [], ◌∷◌, ◌++◌, Option, Some, None, refl, sym, subst, ap, ◌∙◌, inl, inr}
use Rattle.std.specs.Prelude.{◌⊎◌, if◌then◌else◌, option_map}
use Rattle.std.specs.List.{AllByRecursion}
use Rattle.blog_event.specs.File.{Placed}
use Rattle.blog_row.specs.declared.event_kinds.EventKind.{EventKind}
use Rattle.blog_row.specs.declared.event_kinds.EventKind.TheVariants as kind
use Rattle.blog_trans.specs.Groups.{cons_if}
use Rattle.blog_trans.specs.Places.{kind_at, is_begin, is_end}
use Rattle.blog_trans.proofs.ProgressSteps.{begin-kind}
use Rattle.blog_units.specs.declared.part.Part.{Part}
use Rattle.blog_units.specs.declared.part.Part.TheVariants.{Gtid, Transaction, Statement}
use Rattle.blog_units.specs.Units.{Unit, after_gtid, begun, continued, goes_on, is_gtid_kind, is_rollback, opened_by, rest_of, units_in}
use Rattle.blog_units.specs.Laws.{HasUnitEndingWith, HoldsTheEvents, IsOneOf, IsPartOf, IsTransaction, MayBeBetween, events_of, is_inside_one}

-- what is left of an open unit, and the units behind it
abbrev left : Option Part → List Placed → List Placed
left part ps = rest_of part ps ++ events_of (units_in part ps)

-- ---- each event is in one, in its order

abbrev AreHeld : List Placed → List Placed → Type 0
AreHeld xs es = AllByRecursion (λ p. IsOneOf xs p ⊎ MayBeBetween p) es

held-more : (x : Placed) (xs es : List Placed) → AreHeld xs es → AreHeld (x ∷ xs) es
held-more x xs [] held = tt
held-more x xs (p ∷ es) (inl is, held) = (inl (inr is), held-more x xs es held)
held-more x xs (p ∷ es) (inr is, held) = (inr is, held-more x xs es held)

record Holds (xs es : List Placed) : Type 0 where
  order : IsPartOf xs es
  all : AreHeld xs es

-- the next event is one of them, or is left out
holds-first : (p : Placed) (xs es : List Placed) → Holds xs es → Holds (p ∷ xs) (p ∷ es)
holds-first p xs es h = record { order = inr (xs, refl, h.order); all = (inl (inl refl), held-more p xs es h.all) }

holds-without : (p : Placed) (xs es : List Placed) → MayBeBetween p → Holds xs es → Holds xs (p ∷ es)
holds-without p xs es between h = record { order = inl h.order; all = (inr between, h.all) }

holds-begun : (p : Placed) (ps : List Placed) → ((part : Option Part) → Holds (left part ps) ps) → (o : Option Part) → opened_by (kind_at p) ≡ o
    → Holds (events_of (cons_if (option_map (λ part. record { first = p; rest = rest_of (Some part) ps }) o) (units_in o ps))) (p ∷ ps)
holds-begun p ps later None is = holds-without p _ ps is (later None)
holds-begun p ps later (Some part) is = holds-first p _ ps (later (Some part))

holds-open : (part : Part) (p : Placed) (ps : List Placed) → ((part : Option Part) → Holds (left part ps) ps) → (goes : Bool)
    → Holds ((if goes then p ∷ rest_of (continued part p) ps else []) ++ events_of (if goes then units_in (continued part p) ps else begun (kind_at p) p ps (λ part. units_in part ps))) (p ∷ ps)
holds-open part p ps later true = holds-first p _ ps (later (continued part p))
holds-open part p ps later false = holds-begun p ps later (opened_by (kind_at p)) refl

holds : (part : Option Part) (es : List Placed) → Holds (left part es) es
holds None [] = record { order = refl; all = tt }
holds (Some part) [] = record { order = refl; all = tt }
holds None (p ∷ ps) = holds-begun p ps (λ part. holds part ps) (opened_by (kind_at p)) refl
holds (Some part) (p ∷ ps) = holds-open part p ps (λ part. holds part ps) (goes_on part (kind_at p))

pub holds-the-events : (es : List Placed) → HoldsTheEvents es
holds-the-events es = let h = holds None es in record { order = h.order; all = h.all }

-- ---- each transaction is in one

-- a unit that has a `BEGIN` goes on to the end of the transaction
goes-to-the-end : (inside later : List Placed) (end : Placed) → AllByRecursion (λ p. is_inside_one p ≡ true) inside → is_end end ≡ true
    → rest_of (Some Transaction) (inside ++ end ∷ later) ≡ inside ++ end ∷ []
goes-to-the-end [] later end all ends = ends-with (kind_at end) refl ends
  where
    ends-with : (k : EventKind) → kind_at end ≡ k → is_end end ≡ true → rest_of (Some Transaction) (end ∷ later) ≡ end ∷ []
    ends-with kind.Commit is e = rw is refl
    ends-with kind.Xid is e = rw is refl
    ends-with k is e = absurd (cc)
goes-to-the-end (p ∷ inside) later end (here, all) ends =
    let parts = inside-parts p here in
    ap (λ goes. if goes then p ∷ rest_of (continued Transaction p) (inside ++ end ∷ later) else []) parts.0
    ∙ ap (λ (o : Option Part). p ∷ rest_of o (inside ++ end ∷ later)) parts.1
    ∙ ap (λ (es : List Placed). p ∷ es) (goes-to-the-end inside later end all ends)
  where
    inside-parts : (p : Placed) → is_inside_one p ≡ true → (goes_on Transaction (kind_at p) ≡ true) × (continued Transaction p ≡ Some Transaction)
    inside-parts p is = by_tests (is_end p || is_rollback p) is
      where
        by_tests : (b : Bool) → not b && (not (is_gtid_kind (kind_at p)) && not (is_begin p)) ≡ true
            → (not (is_gtid_kind (kind_at p)) && not (is_begin p) ≡ true) × ((if b then None else Some Transaction) ≡ Some Transaction)
        by_tests false is = (is, refl)
        by_tests true is = absurd (cc)

-- what is said of a transaction among the events that follow: what is left of the open unit ends with it, or one of the units does
abbrev IsHeld : List Placed → List Placed → List Unit → Type 0
IsHeld events rest us = ((front : List Placed) × (rest ≡ front ++ events)) ⊎ HasUnitEndingWith events us

-- one more event in front
held-front : (p : Placed) (events rest : List Placed) (us : List Unit) → IsHeld events rest us → IsHeld events (p ∷ rest) us
held-front p events rest us (inl (front, is)) = inl (p ∷ front, ap (λ (es : List Placed). p ∷ es) is)
held-front p events rest us (inr unit) = inr unit

module _ (begin : Placed) (inside : List Placed) (end : Placed) (later : List Placed) (is : IsTransaction begin inside end) where
  abbrev transaction : List Placed
  transaction = begin ∷ (inside ++ end ∷ [])

  abbrev onwards : List Placed
  onwards = begin ∷ (inside ++ end ∷ later)

  -- a unit that is begun in front of others
  held-begun : (p : Placed) (ps : List Placed) → ((part : Option Part) → IsHeld transaction (rest_of part ps) (units_in part ps)) → (o : Option Part)
      → HasUnitEndingWith transaction (cons_if (option_map (λ part. record { first = p; rest = rest_of (Some part) ps }) o) (units_in o ps))
  held-begun p ps others None = elim (others None) [
    | inl none ↦ absurd (empty none.0 none.1)
    | inr unit ↦ unit
  ]
    where
      empty : (front : List Placed) → [] ≡ front ++ transaction → ⊥
      empty [] is = cc
      empty (x ∷ front) is = cc
  held-begun p ps others (Some part) = elim (others (Some part)) [
    | inl found ↦ inl (p ∷ found.0, ap (λ (es : List Placed). p ∷ es) found.1)
    | inr unit ↦ inr unit
  ]

  held-open : (part : Part) (p : Placed) (ps : List Placed) → ((part : Option Part) → IsHeld transaction (rest_of part ps) (units_in part ps)) → (goes : Bool)
      → IsHeld transaction (if goes then p ∷ rest_of (continued part p) ps else []) (if goes then units_in (continued part p) ps else begun (kind_at p) p ps (λ part. units_in part ps))
  held-open part p ps others true = held-front p transaction _ _ (others (continued part p))
  held-open part p ps others false = inr (held-begun p ps others (opened_by (kind_at p)))

  abbrev behind : List Placed
  behind = inside ++ end ∷ later

  whole : begin ∷ rest_of (Some Transaction) behind ≡ transaction
  whole = ap (λ (es : List Placed). begin ∷ es) (goes-to-the-end inside later end is.inside_all is.ends)

  -- what holds of a `BEGIN` holds of its first event
  by-kind : (claim : EventKind → Type 0) → claim kind.Begin → claim (kind_at begin)
  by-kind claim at = subst claim (sym (begin-kind (kind_at begin) is.begins)) at

  -- it begins
  held-here : (part : Option Part) → IsHeld transaction (rest_of part onwards) (units_in part onwards)
  held-here None = by-kind (λ k. IsHeld transaction [] (begun k begin behind (λ part. units_in part behind))) (inr (inl ([], whole)))
  held-here (Some Gtid) =
      by-kind (λ k. IsHeld transaction (if goes_on Gtid k then begin ∷ rest_of (Some (after_gtid k)) behind else [])
      (if goes_on Gtid k then units_in (Some (after_gtid k)) behind else begun k begin behind (λ part. units_in part behind))) (inl ([], whole))
  held-here (Some Transaction) =
      by-kind (λ k. IsHeld transaction (if goes_on Transaction k then begin ∷ rest_of (continued Transaction begin) behind else [])
      (if goes_on Transaction k then units_in (continued Transaction begin) behind else begun k begin behind (λ part. units_in part behind))) (inr (inl ([], whole)))
  held-here (Some Statement) =
      by-kind (λ k. IsHeld transaction (if goes_on Statement k then begin ∷ rest_of (Some Statement) behind else [])
      (if goes_on Statement k then units_in (Some Statement) behind else begun k begin behind (λ part. units_in part behind))) (inr (inl ([], whole)))

  held : (front : List Placed) (part : Option Part) → IsHeld transaction (rest_of part (front ++ onwards)) (units_in part (front ++ onwards))
  held [] part = held-here part
  held (p ∷ front) None = inr (held-begun p (front ++ onwards) (λ part. held front part) (opened_by (kind_at p)))
  held (p ∷ front) (Some part) = held-open part p (front ++ onwards) (λ part. held front part) (goes_on part (kind_at p))

pub transaction-held : (front inside later : List Placed) (begin end : Placed) → IsTransaction begin inside end
    → HasUnitEndingWith (begin ∷ (inside ++ end ∷ [])) (units_in None (front ++ begin ∷ (inside ++ end ∷ later)))
transaction-held front inside later begin end is = elim (held begin inside end later is front None) [
  | inl none ↦ absurd (empty none.0 none.1)
  | inr unit ↦ unit
]
  where
    empty : (before : List Placed) → [] ≡ before ++ begin ∷ (inside ++ end ∷ []) → ⊥
    empty [] is = cc
    empty (x ∷ before) is = cc
