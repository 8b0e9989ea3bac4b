-- The kept rows events of a statement: those that were kept as they came are those that the whole statement keeps.
-- `statement` has its events, the latest first.
use Rattle.std.proofs.Common.{◌≡◌, ℕ, true, false, List, [], ◌∷◌, ◌++◌, reverse, Option, Some, None, refl, ap, ◌∙◌, append_assoc, append-nil, arith}
use Rattle.std.specs.Option.{option_or}
use Rattle.std.specs.List.{list_any, filter_map, cons_option}
use Rattle.std.proofs.lemmas.List.Elements.{filter_map-append}
use Rattle.std.proofs.lemmas.List.Folds.{find-append}
use Rattle.blog_event.specs.File.{Placed}
use Rattle.blog_trans.specs.Selection.{Selection}
use Rattle.blog_trans.specs.Places.{is_rows, since, is_map_of, map_in}
use Rattle.blog_trans.specs.Acceptance.{HavePassed}
use Rattle.blog_trans.specs.Groups.{PlacedRows, kept_rows}
use Rattle.blog_trans.specs.code.Progress.{appended_if}
use Rattle.blog_trans.proofs.KeptRows.{kept-facts}
use Rattle.blog_trans.proofs.ProgressSteps.{reverse-latest, reverse-behind, IsChecked, rows-checked}

-- each rows event was checked, with the events of the statement before it
abbrev pub AreChecked : Selection → List Placed → Type 0
AreChecked sel [] = Unit {0}
AreChecked sel (p ∷ statement) = (is_rows p ≡ true → IsChecked sel statement p) × AreChecked sel statement

-- the rows events, each kept as it came
abbrev pub kept_so_far : Selection → List Placed → List PlacedRows
kept_so_far sel [] = []
kept_so_far sel (p ∷ statement) = appended_if (kept_so_far sel statement) (kept_rows sel (reverse statement) p)

-- ---- the events of the open statement were checked

-- the rows events of the open statement
pub since-checked : (sel : Selection) (earlier : List Placed) → HavePassed sel earlier → AreChecked sel (since earlier)
since-checked sel [] passed = tt
since-checked sel (p ∷ earlier) passed = let others = since-checked sel earlier passed.1 in let own = rows-checked sel earlier p passed.0 in grind arith

-- and those of the open statement with one more event
pub with-checked : (sel : Selection) (earlier : List Placed) (p : Placed) → HavePassed sel (p ∷ earlier) → AreChecked sel (p ∷ since earlier)
with-checked sel earlier p passed = (rows-checked sel earlier p passed.0, since-checked sel earlier passed.1)

-- ---- what is kept

-- nothing of an event that is no rows event
pub no-rows-kept : (sel : Selection) (events : List Placed) (p : Placed) → is_rows p ≡ false → kept_rows sel events p ≡ None
no-rows-kept sel events p none = grind (arith, kept-facts)

-- the first map of an id stays the first behind which others come
pub found-stays : (xs ys : List Placed) (id : List ℕ) (m : Placed) → map_in xs id ≡ Some m → map_in (xs ++ ys) id ≡ Some m
found-stays xs ys id m e = find-append (is_map_of id) xs ys ∙ ap (λ o. option_or o (map_in ys id)) e

-- what is kept of a rows event that was checked stays, whatever comes behind it
kept-stays : (sel : Selection) (statement later : List Placed) (p : Placed) → (is_rows p ≡ true → IsChecked sel statement p)
    → kept_rows sel (reverse statement ++ later) p ≡ kept_rows sel (reverse statement) p
kept-stays sel statement later p checked = grind (arith, found-stays, no-rows-kept)

-- one more, if there is one, stands before what follows
pub kept-before : {A : Type 0} (xs ys : List A) (o : Option A) → xs ++ cons_option o ys ≡ appended_if xs o ++ ys
kept-before xs ys o = grind (arith, append_assoc)

-- the whole statement keeps those that were kept as they came, whatever comes behind them
pub kept-are : (sel : Selection) (statement : List Placed) → AreChecked sel statement → (later : List Placed)
    → filter_map (kept_rows sel (reverse statement ++ later)) (reverse statement) ≡ kept_so_far sel statement
kept-are sel [] checked later = refl
kept-are sel (p ∷ statement) checked later =
    let keep : Placed → Option PlacedRows = kept_rows sel (reverse statement ++ p ∷ later) in
    rw (reverse-behind p statement later, reverse-latest p statement, filter_map-append keep (reverse statement) (p ∷ []), kept-are sel statement checked.1 (p ∷ later), kept-stays sel statement (p ∷ later) p checked.0)
    (kept-before (kept_so_far sel statement) [] (kept_rows sel (reverse statement) p) ∙ append-nil (appended_if (kept_so_far sel statement) (kept_rows sel (reverse statement) p)))

-- the rows events that a statement keeps
pub statement-keeps : (sel : Selection) (statement : List Placed) → AreChecked sel statement
    → filter_map (kept_rows sel (reverse statement)) (reverse statement) ≡ kept_so_far sel statement
statement-keeps sel statement checked = grind (arith, append-nil (reverse statement), kept-are sel statement checked [])

-- none, if there is none
pub none-kept : (sel : Selection) (statement : List Placed) → list_any is_rows statement ≡ false → kept_so_far sel statement ≡ []
none-kept sel [] none = refl
none-kept sel (p ∷ statement) none = let more = none-kept sel statement in let own = no-rows-kept sel (reverse statement) p in grind arith
