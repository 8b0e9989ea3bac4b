-- Pairs in places, one after the other.
use Rattle.std.proofs.Common.{◌≡◌, ◌+◌, ◌<◌, ◌≤◌, ℕ, zero, suc, List, [], ◌∷◌, ◌++◌, length, map, take, slice_get, Option, Some, None, refl, sym, ap, ◌∙◌, arith, add-one, length-append}
use Rattle.std.specs.List.{filter}
use Rattle.std.specs.Option.{option_and_then, option_to_list}
use Rattle.std.specs.Prelude.{is_none}
use Rattle.std.proofs.lemmas.List.{map-append}
use Rattle.std.proofs.lemmas.List.Elements.{filter-append, filter_map-append}
use Rattle.blog_merge.specs.Merge.{staying}
use Rattle.blog_merge.specs.Pairs.{Pair, real_row}
use Rattle.blog_pairs.specs.Places.{present}
use Rattle.blog_merged.specs.Nets.{net_of, nets_of}

-- one more place
present_more : (ps : List (Option Pair)) (place : ℕ) (s : Option Pair) → place < length ps → s ≡ option_and_then (λ pair. pair) (slice_get ps place)
    → present (take (suc place) ps) ≡ present (take place ps) ++ option_to_list s
present_more [] place s within is = absurd (omega (arith, within))
present_more (None ∷ ps) zero s within is = ap option_to_list (sym is)
present_more (Some p ∷ ps) zero s within is = ap option_to_list (sym is)
present_more (None ∷ ps) (suc place) s within is = present_more ps place s (omega (arith, within)) is
present_more (Some p ∷ ps) (suc place) s within is = ap (λ qs. p ∷ qs) (present_more ps place s (omega (arith, within)) is)

-- all places
all_places : (ps : List (Option Pair)) (place : ℕ) → length ps ≤ place → take place ps ≡ ps
all_places [] zero long = refl
all_places [] (suc place) long = refl
all_places (s ∷ ps) zero long = absurd (omega (arith, long))
all_places (s ∷ ps) (suc place) long = ap (λ qs. s ∷ qs) (all_places ps place (omega (arith, long)))

pub nets_all : (ps : List (Option Pair)) (place : ℕ) → length ps ≤ place → nets_of (present (take place ps)) ≡ nets_of (present ps)
nets_all ps place long = ap (λ qs. nets_of (present qs)) (all_places ps place long)

pub staying_all : (ps : List (Option Pair)) (place : ℕ) → length ps ≤ place → staying (present (take place ps)) ≡ staying (present ps)
staying_all ps place long = ap (λ qs. staying (present qs)) (all_places ps place long)

-- its update comes last
pub nets_more : (ps : List (Option Pair)) (place : ℕ) (s : Option Pair) → place < length ps → s ≡ option_and_then (λ pair. pair) (slice_get ps place)
    → nets_of (present (take (place + 1) ps)) ≡ nets_of (present (take place ps)) ++ nets_of (option_to_list s)
nets_more ps place s within is =
    ap (λ n. nets_of (present (take n ps))) (add-one place)
    ∙ ap nets_of (present_more ps place s within is)
    ∙ filter_map-append net_of (present (take place ps)) (option_to_list s)

-- its row stays too, if it does
staying_more : (ps : List (Option Pair)) (place : ℕ) (s : Option Pair) → place < length ps → s ≡ option_and_then (λ pair. pair) (slice_get ps place)
    → staying (present (take (place + 1) ps)) ≡ staying (present (take place ps)) ++ staying (option_to_list s)
staying_more ps place s within is =
    ap (λ n. staying (present (take n ps))) (add-one place)
    ∙ ap staying (present_more ps place s within is)
    ∙ ap (map real_row) (filter-append (λ p. is_none p.would) (present (take place ps)) (option_to_list s))
    ∙ map-append real_row (filter (λ p. is_none p.would) (present (take place ps))) (filter (λ p. is_none p.would) (option_to_list s))

-- ---- their numbers

pub merged_more : (ps : List (Option Pair)) (place rows more : ℕ) (s : Option Pair) → place < length ps → s ≡ option_and_then (λ pair. pair) (slice_get ps place)
    → more ≡ length (nets_of (option_to_list s)) → rows ≡ length (nets_of (present (take place ps))) → rows + more ≡ length (nets_of (present (take (place + 1) ps)))
merged_more ps place rows more s within is here before =
    let long = ap length (nets_more ps place s within is) in
    let both = length-append (nets_of (present (take place ps))) (nets_of (option_to_list s)) in
    omega (arith, long, both, here, before)

pub stay_more : (ps : List (Option Pair)) (place rows more : ℕ) (s : Option Pair) → place < length ps → s ≡ option_and_then (λ pair. pair) (slice_get ps place)
    → more ≡ length (staying (option_to_list s)) → rows ≡ length (staying (present (take place ps))) → rows + more ≡ length (staying (present (take (place + 1) ps)))
stay_more ps place rows more s within is here before =
    let long = ap length (staying_more ps place s within is) in
    let both = length-append (staying (present (take place ps))) (staying (option_to_list s)) in
    omega (arith, long, both, here, before)
