-- Of events that pass and end outside of a transaction, what the progress keeps are the groups.
use Rattle.std.proofs.Common.{arith, ◌≡◌, false, List, [], ◌∷◌, ◌++◌, reverse, None, sym, subst, append-nil}
use Rattle.std.proofs.lemmas.List.{reverse-reverse}
use Rattle.blog_event.specs.File.{Placed}
use Rattle.blog_trans.specs.Selection.{Selection}
use Rattle.blog_trans.specs.Places.{place, is_inside}
use Rattle.blog_trans.specs.Groups.{placed_groups_in}
use Rattle.blog_trans.specs.code.Progress.{progress}
use Rattle.blog_trans.specs.Acceptance.{HavePassed, Passes}
use Rattle.blog_trans.proofs.ProgressSteps.{reverse-behind}
use Rattle.blog_trans.proofs.ProgressState.{groups-follow, open-inside}

-- outside of a transaction none is open
pub none-open : (sel : Selection) (earlier : List Placed) → HavePassed sel earlier → is_inside (place earlier) ≡ false → (progress sel earlier).current ≡ None
none-open sel earlier passed out = grind (arith, open-inside sel earlier passed)

-- events that pass in turn, behind others, have passed with these
pub passes-passed : (sel : Selection) (earlier ps : List Placed) → HavePassed sel earlier → Passes sel earlier ps → HavePassed sel (reverse ps ++ earlier)
passes-passed sel earlier [] passed pass = passed
passes-passed sel earlier (p ∷ ps) passed pass = subst (HavePassed sel) (sym (reverse-behind p ps earlier)) (passes-passed sel (p ∷ earlier) ps (pass.0, passed) pass.1)

-- events that pass have passed
pub all-passed : (sel : Selection) (ps : List Placed) → Passes sel [] ps → HavePassed sel (reverse ps)
all-passed sel ps pass = subst (HavePassed sel) (append-nil (reverse ps)) (passes-passed sel [] ps tt pass)

-- the progress of events that pass and end outside of a transaction has their groups
pub progress-is-groups : (sel : Selection) (es : List Placed) → Passes sel [] es → is_inside (place (reverse es)) ≡ false → placed_groups_in sel es ≡ (progress sel (reverse es)).done
progress-is-groups sel es pass out =
    let passed = all-passed sel es pass in
    grind (arith, reverse-reverse es, groups-follow sel (reverse es) [] passed, none-open sel (reverse es) passed out, append-nil)
