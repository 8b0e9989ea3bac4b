-- What is known of a rows event that is kept: its map is the first of its id, of a selected table, and its body is read.
use Rattle.std.proofs.Common.{◌≡◌, ℕ, Bool, true, if◌then◌else◌, List, Option, Some, None, Result, Ok, Err, refl, subst, arith}
use Rattle.std.proofs.lemmas.Option.{none-some, same_Some, option_and_then_some}
use Rattle.blog_event.specs.File.{Placed}
use Rattle.blog_row.specs.declared.fault.RowFault.{RowFault}
use Rattle.blog_row.specs.declared.kind.RowsKind.{RowsKind}
use Rattle.blog_row.specs.Column.{Layout}
use Rattle.blog_row.specs.RowsEvent.{RowsBody, rows_of, table_id}
use Rattle.blog_row.specs.declared.event_kinds.EventKind.{EventKind}
use Rattle.blog_row.specs.declared.event_kinds.EventKind.TheVariants as kind
use Rattle.blog_trans.specs.Selection.{Selection}
use Rattle.blog_trans.specs.Places.{kind_at, map_in}
use Rattle.blog_trans.specs.Acceptance.{is_selected, rows_under, rows_by_map}
use Rattle.blog_trans.specs.Groups.{PlacedRows, rows_if, rows_by_kind, kept_rows}

-- what is kept of an event of a statement
pub record IsKeptOf (sel : Selection) (events : List Placed) (p : Placed) (r : PlacedRows) : Type 0 where
  pub event_is : r.event ≡ p
  pub found : map_in events (table_id p.event.body) ≡ Some r.map
  pub selected : is_selected sel r.map.event.body ≡ true
  pub kind_is : kind_at p ≡ kind.Rows r.kind
  pub read : rows_by_map r.kind r.map.event.body p.event.body ≡ Ok r.body

-- where a test chooses a value, it holds
chosen : {A : Type 0} (b : Bool) (o : Option A) (x : A) → (if b then o else None) ≡ Some x → (b ≡ true) × (o ≡ Some x)
chosen b o x e = grind arith

-- a body is read by a layout
pub under-found : (k : RowsKind) (l : Result Layout RowFault) (body : List ℕ) (b : RowsBody) → rows_under k l body ≡ Ok b → (c : Layout) × (l ≡ Ok c) × (rows_of k c body ≡ Ok b)
under-found k (Ok c) body b e = (c, refl, e)
under-found k (Err fault) body b e = absurd (cc)

pub kept-facts : (sel : Selection) (events : List Placed) (p : Placed) (r : PlacedRows) → kept_rows sel events p ≡ Some r → IsKeptOf sel events p r
kept-facts sel events p r e =
    option_and_then_some (λ m. if is_selected sel m.event.body then rows_by_kind p m (kind_at p) else None) (map_in events (table_id p.event.body)) r e
    (λ m found kept. let test = chosen (is_selected sel m.event.body) (rows_by_kind p m (kind_at p)) r kept in by_kind m found test.0 (kind_at p) refl test.1)
  where
    by_body : (m : Placed) → map_in events (table_id p.event.body) ≡ Some m → is_selected sel m.event.body ≡ true → (k : RowsKind) → kind_at p ≡ kind.Rows k
        → (o : Result RowsBody RowFault) → rows_by_map k m.event.body p.event.body ≡ o → rows_if p m k o ≡ Some r → IsKeptOf sel events p r
    by_body m found selected k is (Ok b) read kept =
        subst (IsKeptOf sel events p) (same_Some (record { event = p; map = m; kind = k; body = b }) r kept)
        (record { event_is = refl; found = found; selected = selected; kind_is = is; read = read })
    by_body m found selected k is (Err fault) read kept = absurd (none-some r kept)

    by_kind : (m : Placed) → map_in events (table_id p.event.body) ≡ Some m → is_selected sel m.event.body ≡ true → (k : EventKind) → kind_at p ≡ k → rows_by_kind p m k ≡ Some r
        → IsKeptOf sel events p r
    by_kind m found selected (kind.Rows k) is kept = by_body m found selected k is (rows_by_map k m.event.body p.event.body) refl kept
    by_kind m found selected _ is kept = absurd (none-some r kept)
