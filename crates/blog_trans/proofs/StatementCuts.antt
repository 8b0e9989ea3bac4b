-- Statements are cut going forward, and seen looking back: both are the same.
use Rattle.std.proofs.Common.{◌≡◌, true, false, List, [], ◌∷◌, ◌++◌, reverse, refl, ap, ◌∙◌, append_assoc, append-nil, arith}
use Rattle.std.specs.List.{AllByRecursion, flat_map}
use Rattle.std.proofs.Math.Bool.{or-true}
use Rattle.std.proofs.lemmas.Grind.{flat_map-append}
use Rattle.blog_event.specs.File.{Placed}
use Rattle.blog_trans.specs.Places.{is_begin, is_last_rows, since}
use Rattle.blog_trans.specs.Groups.{statements_of}
use Rattle.blog_trans.proofs.ProgressSteps.{reverse-latest, reverse-behind}

-- ---- one statement

-- an event that doesn't end a statement
abbrev pub IsNoLast : Placed → Type 0
IsNoLast p = is_last_rows p ≡ false

-- no event of the open statement ends it
pub since-no-last : (earlier : List Placed) → AllByRecursion IsNoLast (since earlier)
since-no-last [] = tt
since-no-last (p ∷ earlier) = let others = since-no-last earlier in grind arith

-- such events, with no end of a statement behind them, are in no statement
pub cut-none : (statement left : List Placed) → AllByRecursion IsNoLast statement → statements_of left ≡ [] → statements_of (reverse statement ++ left) ≡ []
cut-none [] left none e = e
cut-none (p ∷ statement) left none e = grind (arith, cut-none statement (p ∷ left) none.1, reverse-behind)

-- they stand in the first statement of what is behind them
cut-first : (statement left s : List Placed) (ss : List (List Placed)) → AllByRecursion IsNoLast statement → statements_of left ≡ s ∷ ss
    → statements_of (reverse statement ++ left) ≡ (reverse statement ++ s) ∷ ss
cut-first [] left s ss none e = e
cut-first (p ∷ statement) left s ss none e = grind (arith, cut-first statement (p ∷ left) (p ∷ s) ss none.1, reverse-behind)

-- the events of the open statement with a last rows event are a statement
pub cut-last : (earlier left : List Placed) (p : Placed) → is_last_rows p ≡ true → statements_of (reverse (since earlier) ++ p ∷ left) ≡ reverse (p ∷ since earlier) ∷ statements_of left
cut-last earlier left p is = grind (arith, cut-first (since earlier) (p ∷ left) (p ∷ []) (statements_of left), since-no-last, reverse-latest)

-- ---- all statements

-- an event that begins no transaction
abbrev pub IsNoBegin : Placed → Type 0
IsNoBegin p = is_begin p ≡ false

-- behind the last event of a statement none is open
pub since-cut : (earlier : List Placed) (p : Placed) → is_last_rows p ≡ true → since (p ∷ earlier) ≡ []
since-cut earlier p is = rw (is, or-true (is_begin p)) refl

-- the open one goes on with another event
pub since-on : (earlier : List Placed) (p : Placed) → is_begin p ≡ false → is_last_rows p ≡ false → since (p ∷ earlier) ≡ p ∷ since earlier
since-on earlier p no_begin no_last = rw (no_begin, no_last) refl

-- the events of all statements
abbrev joined_statements : List (List Placed) → List Placed
joined_statements ss = flat_map (λ s. s) ss

-- whatever follows events, it is cut with the events of their open statement alone
abbrev AreCut : List Placed → Type 0
AreCut earlier = (left : List Placed) → statements_of (reverse earlier ++ left) ≡ statements_of (reverse earlier) ++ statements_of (reverse (since earlier) ++ left)

-- the last event of a statement makes one more
one-more : (earlier : List Placed) (p : Placed) → AreCut earlier → is_last_rows p ≡ true
    → statements_of (reverse (p ∷ earlier)) ≡ statements_of (reverse earlier) ++ reverse (p ∷ since earlier) ∷ []
one-more earlier p are is = ap statements_of (reverse-latest p earlier) ∙ are (p ∷ []) ∙ ap (λ l. statements_of (reverse earlier) ++ l) (cut-last earlier [] p is)

-- another event makes none
none-more : (earlier : List Placed) (p : Placed) → AreCut earlier → is_last_rows p ≡ false → statements_of (reverse (p ∷ earlier)) ≡ statements_of (reverse earlier)
none-more earlier p are no_last = grind (arith, reverse-latest, cut-none, since-no-last, append-nil)

are-cut : (earlier : List Placed) → AllByRecursion IsNoBegin earlier → AreCut earlier
are-cut [] none left = refl
are-cut (p ∷ earlier) none left =
    let are = are-cut earlier none.1 in
    grind (arith, reverse-behind, reverse-latest p earlier, cut-last earlier, none-more earlier p are, one-more earlier p are, append_assoc)

-- the last event of a statement ends the one that is seen looking back from it
pub statements-ended : (earlier left : List Placed) (p : Placed) → AllByRecursion IsNoBegin earlier → is_last_rows p ≡ true
    → statements_of (reverse earlier ++ p ∷ left) ≡ statements_of (reverse earlier) ++ reverse (p ∷ since earlier) ∷ statements_of left
statements-ended earlier left p none is = are-cut earlier none (p ∷ left) ∙ ap (λ l. statements_of (reverse earlier) ++ l) (cut-last earlier left p is)

-- what is in no statement is the open one
pub statements-joined : (earlier : List Placed) → AllByRecursion IsNoBegin earlier → joined_statements (statements_of (reverse earlier)) ++ reverse (since earlier) ≡ reverse earlier
statements-joined [] none = refl
statements-joined (p ∷ earlier) none =
    let joined = statements-joined earlier none.1 in
    grind (arith, reverse-latest, one-more, are-cut, since-cut, append-nil, flat_map-append, append_assoc, none-more, since-on)
