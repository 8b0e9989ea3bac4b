-- What one more map makes of the layouts that are known.
use Rattle.std.proofs.Common.{arith, ◌≡◌, ℕ, Bool, true, false, List, ◌∷◌, Option, Some, Result, Ok, refl, sym, ap, ◌∙◌}
use Rattle.std.specs.Prelude.{◌&&◌, ◌||◌, not, if◌then◌else◌, bytes_eq}
use Rattle.std.specs.List.{list_any}
use Rattle.std.specs.Option.{option_map_or}
use Rattle.std.proofs.lemmas.Bool.{and_parts}
use Rattle.std.proofs.lemmas.Slice.Eq.{bytes_eq-Decides}
use Rattle.std.specs.Map.{lookup}
use Rattle.indexmap.specs.IndexMap.{IndexMap, get}
use Rattle.blog_event.specs.declared.fault.Fault.TheVariants.{MapClash}
use Rattle.blog_event.specs.Fault.{needs, first_failing}
use Rattle.blog_event.specs.File.{Placed}
use Rattle.blog_row.specs.declared.layout.Layout as told
use Rattle.blog_row.specs.declared.fault.RowFault.{RowFault}
use Rattle.blog_row.specs.Column.{Layout, types_of, metadata_of}
use Rattle.blog_row.specs.code.LayoutView.{layout_columns}
use Rattle.blog_row.specs.TableMap.{Names, names_of, layout_of, is_same_layout}
use Rattle.blog_trans.specs.declared.table_name.TableName.{TableName}
use Rattle.blog_trans.specs.Selection.{Selection, is_wanted}
use Rattle.blog_trans.specs.Places.{is_map}
use Rattle.blog_trans.specs.Acceptance.{is_selected, clashes_by_layout, is_same_table, have_same_layout, selected_map_checks}
use Rattle.blog_trans.specs.code.TablesView.{table_named}
use Rattle.blog_trans.specs.code.CheckerView.{LayoutsAgree, has_other_layout, is_same_name}
use Rattle.blog_trans.proofs.ProgressFirsts.{bytes-same}
use Rattle.blog_trans.proofs.EntriesFound.{mapped}

-- an event that isn't a map clashes with none
pub layouts-quiet : {S : Type 0} (sel : Selection) (p : Placed) (earlier : List Placed) (layouts : IndexMap TableName told.Layout S) → is_map p ≡ false
    → LayoutsAgree sel earlier layouts → LayoutsAgree sel (p ∷ earlier) layouts
layouts-quiet sel p earlier layouts no_map h = λ q name selected table. rw no_map (h q name selected table)

-- ---- maps of selected tables

-- layouts that are the same compare alike
like : (a b : Layout) (r : Result Layout RowFault) → is_same_layout a b ≡ true → have_same_layout (Ok b) r ≡ have_same_layout (Ok a) r
like a b r h = grind (arith, bytes-same (types_of a) (types_of b), bytes-same (metadata_of a) (metadata_of b))

-- the known layout has these columns, where one is known
abbrev pub has_same : Option told.Layout → told.Layout → Bool
has_same o l = option_map_or (λ f. is_same_layout (layout_columns f) (layout_columns l)) o true

-- one more layout, of the table of this name or of another
other-taken : (l : told.Layout) (body : List ℕ) (same any : Bool) (known after : Option told.Layout) → any ≡ has_other_layout known body → (same ≡ true → has_same known l ≡ true)
    → after ≡ (if same then Some l else known) → ((same && not (have_same_layout (Ok (layout_columns l)) (layout_of body))) || any) ≡ has_other_layout after body
other-taken l body same any known after any_is fits after_is = grind (arith, λ (f : told.Layout). like (layout_columns f) (layout_columns l) (layout_of body))

clash-is : (m q : Placed) (n o : Names) (l : told.Layout) (b : Bool) → is_map m ≡ true → names_of m.event.body ≡ Some n → names_of q.event.body ≡ Some o → layout_of m.event.body ≡ Ok (layout_columns l)
    → is_same_table n.table o.table ≡ b → clashes_by_layout q m ≡ (b && not (have_same_layout (Ok (layout_columns l)) (layout_of q.event.body)))
clash-is m q n o l b is m_names q_names layout_is table_is = rw (is, m_names, q_names, layout_is, table_is) refl

-- equal names find the same
get-same : {S : Type 0} (layouts : IndexMap TableName told.Layout S) (name q : TableName) → is_same_name name q ≡ true → get is_same_name layouts q ≡ get is_same_name layouts name
get-same layouts name q h =
    let parts = and_parts (bytes_eq name.schema.now q.schema.now) (bytes_eq name.table.now q.table.now) h in
    let schema = bytes-same name.schema.now q.schema.now parts.0 in
    let table = bytes-same name.table.now q.table.now parts.1 in
    ap (λ (x : List ℕ × List ℕ). lookup (λ (k : TableName). bytes_eq x.0 k.schema.now && bytes_eq x.1 k.table.now) layouts.entries) (λ i. (sym schema i, sym table i))

pub layouts-taken : {S : Type 0} (sel : Selection) (m : Placed) (earlier : List Placed) (layouts after : IndexMap TableName told.Layout S) (name : TableName) (n : Names) (l : told.Layout)
    → is_map m ≡ true → names_of m.event.body ≡ Some n → n.table ≡ table_named name → layout_of m.event.body ≡ Ok (layout_columns l) → has_same (get is_same_name layouts name) l ≡ true
    → ((q : TableName) → get is_same_name after q ≡ (if is_same_name name q then Some l else get is_same_name layouts q)) → LayoutsAgree sel earlier layouts → LayoutsAgree sel (m ∷ earlier) after
layouts-taken sel m earlier layouts after name n l is m_names table_is layout_is fits updates h = λ q other selected other_table.
    let (o, q_names, o_table) = mapped (λ (names : Names). names.table) (names_of q.event.body) (table_named other) other_table in
    let same : is_same_table n.table o.table ≡ is_same_name name other = rw (table_is, o_table) refl in
    ap (λ (b : Bool). b || list_any (clashes_by_layout q) earlier) (clash-is m q n o l (is_same_name name other) is m_names q_names layout_is same)
    ∙ other-taken l q.event.body (is_same_name name other) _ (get is_same_name layouts other) (get is_same_name after other) (h q other selected other_table)
    (λ b. ap (λ o. has_same o l) (get-same layouts name other b) ∙ fits) (updates other)

-- a layout has its own columns
pub same-itself : (a : Layout) → is_same_layout a a ≡ true
same-itself a = rw ((bytes_eq-Decides (types_of a) (types_of a)).1 refl, (bytes_eq-Decides (metadata_of a) (metadata_of a)).1 refl) refl

-- ---- the checks of the map of a selected table

-- by the layout that is known of its table
pub selected-checks : {S : Type 0} (sel : Selection) (p : Placed) (earlier : List Placed) (layouts : IndexMap TableName told.Layout S) (name : TableName) (n : Names) (l : told.Layout) (same : Bool)
    → names_of p.event.body ≡ Some n → table_named name ≡ n.table → is_selected sel p.event.body ≡ true → layout_of p.event.body ≡ Ok (layout_columns l) → LayoutsAgree sel earlier layouts
    → has_same (get is_same_name layouts name) l ≡ same → first_failing (selected_map_checks earlier p) ≡ needs same MapClash
selected-checks sel p earlier layouts name n l same names table selected layout_is h fits =
    let any = h p name selected (rw names (ap Some (sym table))) in
    grind arith

-- whether the table of a map is selected, by its name
pub selected-is : (sel : Selection) (body : List ℕ) (name : TableName) (n : Names) → names_of body ≡ Some n → table_named name ≡ n.table
    → is_selected sel body ≡ (is_wanted sel.database name.schema.now && is_wanted sel.table name.table.now)
selected-is sel body name n names table = rw (names, sym table) refl
