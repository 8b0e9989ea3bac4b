-- What is shown after a text is shown after a longer one too.
use Rattle.std.proofs.Common.{◌≡◌, ℕ, Bool, true, false, List, [], ◌∷◌, ◌++◌, Option, Some, None, sym, ap, ◌∙◌, append_assoc, inl, inr}
use Rattle.blog_choice.specs.Choice.{Choice}
use Rattle.blog_event.specs.declared.fault.Fault.{Fault}
use Rattle.blog_row.specs.RowsEvent.{RowImages}
use Rattle.blog_show.specs.Shown.{PutsHead, ShowsEvent, ShowsEvents, ShowsIf, ShowsRows, is_chosen, rows_in}
use Rattle.blog_show.specs.declared.forms.RowForm.{RowForm}
use Rattle.blog_show.specs.declared.forms.RowForm.TheVariants.{Lines, Json, Csv}
use Rattle.blog_trans.specs.Acceptance.{fault}
use Rattle.blog_trans.specs.Groups.{placed_groups}
use Rattle.blog_trans.specs.Selection.{Selection}
use Rattle.blog_trans.specs.code.InTurn.{GroupEvent, Begins, Maps, Changes, Ends, in_turn}
use Rattle.blog_row.specs.declared.order.Order.TheVariants.{Forward}
use Rattle.blog_units.specs.Units.{Facts, between}
use Rattle.show_run.specs.Shown.{ShowsChanges, ShowsUnit, ShowsUnits}

-- a text is appended
after : (p old new more : List ℕ) → new ≡ old ++ more → p ++ new ≡ (p ++ old) ++ more
after p old new more is = ap (λ (text : List ℕ). p ++ text) is ∙ sym (append_assoc p old more)

same : (p old new : List ℕ) → new ≡ old → p ++ new ≡ p ++ old
same p old new is = ap (λ (text : List ℕ). p ++ text) is

framed-rows : (form : RowForm) (place : ℕ) (rows : List RowImages) (p old new : List ℕ) → ShowsRows form place rows old new → ShowsRows form place rows (p ++ old) (p ++ new)
framed-rows form place [] p old new is = same p old new is
framed-rows form place (row ∷ rows) p old new (between, (rest, is), left) = (p ++ between, (rest, after p old between _ is), framed-rows form place rows p between new left)

framed-head : (form : RowForm) (p old new : List ℕ) → PutsHead form old new → PutsHead form (p ++ old) (p ++ new)
framed-head Lines p old new is = same p old new is
framed-head (Json log) p old new is = same p old new is
framed-head Csv p old new (inl is) = inl (same p old new is)
framed-head Csv p old new (inr (names, is)) = inr (names, after p old new _ is)

framed-if : (b : Bool) (form : RowForm) (place : ℕ) (rows : List RowImages) (p old new : List ℕ) → ShowsIf b form place rows old new → ShowsIf b form place rows (p ++ old) (p ++ new)
framed-if true form place rows p old new (between, head, left) = (p ++ between, framed-head form p old between head, framed-rows form place rows p between new left)
framed-if false form place rows p old new is = same p old new is

framed-event : (form : RowForm) (choice : Choice) (place : ℕ → ℕ) (e : GroupEvent) (p old new : List ℕ) → ShowsEvent form choice place e old new → ShowsEvent form choice place e (p ++ old) (p ++ new)
framed-event form choice place (Changes rows last) p old new shown = framed-if (is_chosen choice rows) form (place rows.event.pos) (rows_in rows) p old new shown
framed-event form choice place (Begins event) p old new is = same p old new is
framed-event form choice place (Maps event) p old new is = same p old new is
framed-event form choice place (Ends event) p old new is = same p old new is

framed-events : (form : RowForm) (choice : Choice) (place : ℕ → ℕ) (es : List GroupEvent) (p old new : List ℕ) → ShowsEvents form choice place es old new → ShowsEvents form choice place es (p ++ old) (p ++ new)
framed-events form choice place [] p old new is = same p old new is
framed-events form choice place (e ∷ es) p old new (between, first, left) = (p ++ between, framed-event form choice place e p old between first, framed-events form choice place es p between new left)

framed-changes : (form : RowForm) (choice : Choice) (place : ℕ → ℕ) (log : List ℕ) (sel : Selection) (refused : Option Fault) (p old new : List ℕ)
    → ShowsChanges form choice place log sel refused old new → ShowsChanges form choice place log sel refused (p ++ old) (p ++ new)
framed-changes form choice place log sel None p old new shown = framed-events form choice place (in_turn Forward (placed_groups log sel)) p old new shown
framed-changes form choice place log sel (Some fault) p old new (said, is) = (said, after p old new said is)

pub framed-units : (form : RowForm) (choice : Choice) (place : ℕ → ℕ) (log : List ℕ) (us : List Facts) (p old new : List ℕ)
    → ShowsUnits form choice place log us old new → ShowsUnits form choice place log us (p ++ old) (p ++ new)
framed-units form choice place log [] p old new is = same p old new is
framed-units form choice place log (u ∷ us) p old new (mid, first, left) =
    (p ++ mid, framed-changes form choice place log (between u.start u.stop) (fault log (between u.start u.stop)) p old mid first, framed-units form choice place log us p mid new left)
