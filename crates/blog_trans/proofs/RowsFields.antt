-- A kept rows event has the fields of its body, by the layout of its map.
use Rattle.std.proofs.Common.{◌≡◌, List, Result, sym, ap, take_at, ◌∙◌}
use Rattle.blog_event.specs.File.{Placed}
use Rattle.blog_row.specs.declared.fault.RowFault.{RowFault}
use Rattle.blog_row.specs.Column.{Layout}
use Rattle.blog_row.specs.RowsEvent.{IsRowsBody, table_id}
use Rattle.blog_row.proofs.Images.{images_found, images_again}
use Rattle.blog_row.proofs.Bodies.{rows_found}
use Rattle.blog_row.proofs.Layouts.{layout_some}
use Rattle.blog_trans.specs.Selection.{Selection}
use Rattle.blog_trans.specs.Acceptance.{rows_under}
use Rattle.blog_trans.specs.Groups.{PlacedRows}
use Rattle.blog_trans.specs.PlacedFacts.{IsPlacedRows}

pub fields-found : (Member : Placed → Type 0) (sel : Selection) (maps : List Placed) (r : PlacedRows) (h : IsPlacedRows Member sel maps r)
    → IsRowsBody r.kind h.map.layout r.event.event.body r.body
fields-found Member sel maps r h =
    let c : Layout = h.map.layout in
    let some = layout_some r.map.event.body c h.map.layout_is in
    rows_found r.kind c r.event.event.body r.body (λ bytes images. (images_found c bytes images, λ are. images_again c bytes images some are.0 are.1))
    (ap (λ (l : Result Layout RowFault). rows_under r.kind l r.event.event.body) (sym h.map.layout_is) ∙ h.read)

-- the table id with which its body begins is its own
pub id-found : (Member : Placed → Type 0) (sel : Selection) (maps : List Placed) (r : PlacedRows) → IsPlacedRows Member sel maps r → table_id r.event.event.body ≡ r.body.id
id-found Member sel maps r known = let fields = fields-found Member sel maps r known in ap table_id fields.text ∙ take_at r.body.id _ 6 fields.id_len
