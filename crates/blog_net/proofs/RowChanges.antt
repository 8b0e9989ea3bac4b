-- The changes of a log are those of its rows by their bytes.
use Rattle.std.proofs.Common.{◌≡◌, ℕ, List, [], ◌∷◌, ◌++◌, map, Option, Some, None, refl, sym, ap, ap₂, ◌∙◌}
use Rattle.std.specs.List.{flat_map}
use Rattle.std.proofs.lemmas.List.Concat.{flat_map-append}
use Rattle.blog_row.specs.RowsEvent.{rows_by}
use Rattle.blog_row.specs.TableMap.{layout_of}
use Rattle.blog_row.specs.declared.kind.RowsAction.{RowsAction}
use Rattle.blog_row.specs.declared.kind.RowsAction.TheVariants.{Write, Update, Delete}
use Rattle.blog_row.specs.declared.order.Order.TheVariants.{Forward}
use Rattle.blog_trans.specs.Changes.{Change, Deleted, Inserted, Updated, changes, changes_by_action, row_by, table_of}
use Rattle.blog_trans.specs.Groups.{placed_groups}
use Rattle.blog_trans.specs.Selection.{Selection}
use Rattle.blog_trans.specs.code.InTurn.{GroupEvent, Begins, Maps, Changes, Ends, in_turn}
use Rattle.blog_later.specs.code.EventChanges.{event_changes, events_changes}
use Rattle.blog_later.proofs.EventChanges.{changed-groups}
use Rattle.blog_net.specs.Net.{net_change}
use Rattle.blog_net.specs.code.RowBytes.{RowBytes, event_rows, events_rows, log_rows, row_bytes, update_row}
use Rattle.blog_net.specs.declared.update.NetUpdate.{NetUpdate}

-- the change of a row by its images
abbrev image_change : List ℕ → Option (List ℕ) → Option (List ℕ) → List Change
image_change body None None = []
image_change body None (Some after) = Inserted (table_of body) (row_by (layout_of body) after) ∷ []
image_change body (Some before) None = Deleted (table_of body) (row_by (layout_of body) before) ∷ []
image_change body (Some before) (Some after) = Updated (table_of body) (row_by (layout_of body) before) (row_by (layout_of body) after) ∷ []

abbrev row_change : RowBytes → List Change
row_change r = image_change r.body r.images.before r.images.after

-- ---- of an event

images-changed : (action : RowsAction) (body : List ℕ) (images : List (List ℕ))
    → flat_map row_change (map (row_bytes body) (rows_by action images)) ≡ changes_by_action action (table_of body) (map (row_by (layout_of body)) images)
images-changed Write body [] = refl
images-changed Write body (image ∷ images) = ap (λ (cs : List Change). Inserted (table_of body) (row_by (layout_of body) image) ∷ cs) (images-changed Write body images)
images-changed Update body [] = refl
images-changed Update body (before ∷ []) = refl
images-changed Update body (before ∷ after ∷ images) = ap (λ (cs : List Change). Updated (table_of body) (row_by (layout_of body) before) (row_by (layout_of body) after) ∷ cs) (images-changed Update body images)
images-changed Delete body [] = refl
images-changed Delete body (image ∷ images) = ap (λ (cs : List Change). Deleted (table_of body) (row_by (layout_of body) image) ∷ cs) (images-changed Delete body images)

event-changed : (e : GroupEvent) → flat_map row_change (event_rows e) ≡ event_changes e
event-changed (Begins event) = refl
event-changed (Maps event) = refl
event-changed (Changes rows last) = images-changed rows.kind.action rows.map.event.body rows.body.images
event-changed (Ends event) = refl

-- ---- of a log

events-changed : (es : List GroupEvent) → flat_map row_change (events_rows es) ≡ events_changes es
events-changed [] = refl
events-changed (e ∷ es) = flat_map-append row_change (event_rows e) (events_rows es) ∙ ap₂ (λ (cs ds : List Change). cs ++ ds) (event-changed e) (events-changed es)

log-changed : (bytes : List ℕ) (sel : Selection) → flat_map row_change (log_rows bytes sel) ≡ changes bytes sel
log-changed bytes sel = events-changed (in_turn Forward (placed_groups bytes sel)) ∙ changed-groups bytes sel

updates-changed : (us : List NetUpdate) → flat_map row_change (map update_row us) ≡ map net_change us
updates-changed [] = refl
updates-changed (u ∷ us) = ap (λ (cs : List Change). net_change u ∷ cs) (updates-changed us)

-- a log with the rows of updates has their changes
pub net-changes : (bytes : List ℕ) (sel : Selection) (us : List NetUpdate) → log_rows bytes sel ≡ map update_row us → changes bytes sel ≡ map net_change us
net-changes bytes sel us same = sym (log-changed bytes sel) ∙ ap (flat_map row_change) same ∙ updates-changed us
