-- The table maps of an accepted log's groups have names and layouts, and those of one table the same layout.
use Rattle.std.proofs.Common.{◌≡◌, ℕ, true, List, Ok, bytes_eq, sym, ap, ap₂, ◌∙◌, subst}
use Rattle.std.specs.Prelude.{Contains}
use Rattle.std.specs.List.{AllByRecursion, list_all, flat_map}
use Rattle.std.proofs.lemmas.Bool.{and_parts, not-false}
use Rattle.std.proofs.lemmas.List.Elements.{All-contains, All-from_recursion}
use Rattle.blog_event.specs.Event.{Event}
use Rattle.blog_event.specs.File.{AreBytes}
use Rattle.blog_row.specs.Column.{Layout, is_column, types_of, metadata_of, columns_of}
use Rattle.blog_row.specs.TableMap.{names_of, layout_fields, layout_of, is_same_layout}
use Rattle.blog_row.proofs.Results.{step_found, reading_found, same_ok}
use Rattle.blog_row.proofs.Layouts.{spread, layout_found}
use Rattle.blog_trans.specs.Selection.{Selection}
use Rattle.blog_trans.specs.Acceptance.{IsAccepted}
use Rattle.blog_trans.specs.Groups.{Statement, Transaction, groups}
use Rattle.blog_trans.specs.Changes.{table_of}
use Rattle.blog_flash.specs.Agreement.{maps_of, MapsAgree}
use Rattle.blog_flash.proofs.Formed.{IsMapEvent, IsStatement, IsTransaction, AreGroups}
use Rattle.blog_trans.proofs.PlacedParts.{all-joined}
use Rattle.blog_trans.proofs.ProgressFirsts.{bytes-same}
use Rattle.blog_trans.proofs.Tables.{own-table}
use Rattle.blog_flash.proofs.Agreeing.{Chosen, source-agree}
use Rattle.blog_flash.proofs.Source.{source-groups}

-- ---- layouts

-- a layout that is read has columns of the profile
layout-known : (body : List ℕ) (layout : Layout) → layout_of body ≡ Ok layout → list_all is_column layout ≡ true
unfolding layout_of
layout-known body layout e =
    step_found (names_of body) _ layout e (λ names names_is e1.
    reading_found (layout_fields names.rest) _ layout e1 (λ fields fields_is e2.
    subst (λ (l : Layout). list_all is_column l ≡ true) (same_ok fields.layout layout e2) (layout_found names.rest fields fields_is).columns.known))

-- layouts of the same types and metadata are the same
same-columns : (c d : Layout) → list_all is_column c ≡ true → list_all is_column d ≡ true → is_same_layout c d ≡ true → c ≡ d
same-columns c d c_known d_known e =
    let parts = and_parts (bytes_eq (types_of c) (types_of d)) (bytes_eq (metadata_of c) (metadata_of d)) e in
    sym (spread c c_known).back ∙ ap₂ columns_of (bytes-same (types_of c) (types_of d) parts.0) (bytes-same (metadata_of c) (metadata_of d) parts.1) ∙ (spread d d_known).back

-- ---- maps of groups

-- the maps of well-formed groups are well-formed
maps-formed : (Known : Event → Type 0) (ts : List Transaction) → AreGroups Known ts → AllByRecursion (IsMapEvent Known) (maps_of ts)
maps-formed Known ts h =
    all-joined (IsTransaction Known) (IsMapEvent Known) (λ (t : Transaction). flat_map (λ (s : Statement). s.maps) t.statements) (λ t formed.
    all-joined (IsStatement Known) (IsMapEvent Known) (λ (s : Statement). s.maps) (λ s formed_s. formed_s.maps_formed) t.statements formed.statements_formed) ts h

-- two maps of a table
two-agree : (bytes : List ℕ) (sel : Selection) → IsAccepted bytes sel → (a b : Event) → IsMapEvent (Chosen bytes sel) a → IsMapEvent (Chosen bytes sel) b
    → table_of a.body ≡ table_of b.body → layout_of a.body ≡ layout_of b.body
two-agree bytes sel accepted a b h k table =
    let c : Layout = h.layout.0 in
    let d : Layout = k.layout.0 in
    let same : h.names.0.table ≡ k.names.0.table = rw (h.names.1, k.names.1) at table in
    let apart = rw (h.names.1, k.names.1, h.layout.1, k.layout.1, same, own-table) at (source-agree bytes sel accepted a b h k) in
    h.layout.1 ∙ ap (λ (l : Layout). Ok l) (same-columns c d (layout-known a.body c h.layout.1) (layout-known b.body d k.layout.1) (not-false (is_same_layout c d) apart)) ∙ sym k.layout.1

-- of each accepted log
pub maps-agree : (bytes : List ℕ) (sel : Selection) → AreBytes bytes → IsAccepted bytes sel → MapsAgree bytes sel
maps-agree bytes sel are accepted =
    let maps : List Event = maps_of (groups bytes sel) in
    let formed = All-from_recursion (IsMapEvent (Chosen bytes sel)) maps (maps-formed (Chosen bytes sel) (groups bytes sel) (source-groups bytes sel are accepted)) in
    let each : (m : Event) → Contains maps m → IsMapEvent (Chosen bytes sel) m = λ m among. All-contains (IsMapEvent (Chosen bytes sel)) maps m formed among in
    record { names = λ m among. (each m among).names; layouts = λ m among. (each m among).layout; agree = λ a b first second. two-agree bytes sel accepted a b (each a first) (each b second) }
