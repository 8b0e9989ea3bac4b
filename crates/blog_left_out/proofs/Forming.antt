-- The groups that stay are well-formed, so they are read again where they are written.
use Rattle.std.proofs.Common.{◌≡◌, ℕ, ◌%◌, ◌≤◌, Bool, true, false, ◌&&◌, List, [], ◌∷◌, length, drop, filter, find, map, bytes_eq, refl, sym, ap, subst, ◌∙◌, arith}
use Rattle.std.specs.List.{AllByRecursion, IsDistinct, flat_map}
use Rattle.blog_event.specs.Event.{Event, IsEvent}
use Rattle.blog_event.specs.File.{AreBytes}
use Rattle.blog_event.proofs.Framing.{read-events}
use Rattle.blog_row.specs.declared.kind.RowsAction.{RowsAction}
use Rattle.blog_row.specs.declared.kind.RowsAction.TheVariants.{Write, Update, Delete}
use Rattle.blog_row.specs.Image.{IsSomeImage}
use Rattle.blog_row.specs.Kinds.{kind_of, is_map_kind}
use Rattle.blog_row.specs.RowsEvent.{rows_by, table_id}
use Rattle.blog_row.specs.RowsKind.{images_a_row}
use Rattle.blog_row.proofs.ReversedRows.{all-append}
use Rattle.blog_trans.specs.Acceptance.{IsAccepted}
use Rattle.blog_trans.specs.Changes.{Change, changes, changes_of, changes_of_rows, changes_of_statement, changes_of_transaction}
use Rattle.blog_trans.specs.Groups.{RowsEvent, Statement, Transaction, groups}
use Rattle.blog_trans.specs.Selection.{Selection, all}
use Rattle.blog_trans.proofs.PlacedParts.{all-by, all-filter}
use Rattle.blog_flash.specs.Texts.{laid_out, laid_out_after}
use Rattle.blog_flash.proofs.Agreeing.{Chosen, source-agree}
use Rattle.blog_flash.proofs.Formed.{AreDistinct, AreGroups, IsMapEvent, IsRowsEvent, IsStatement, IsTransaction, IsUsed}
use Rattle.blog_flash.proofs.Source.{source-format, source-groups}
use Rattle.blog_flash.proofs.Written.{IsWritable, written-accepted, written-groups}
use Rattle.blog_left_out.specs.LeftOut.{by_marks, event_kept, kept, left_out_text, row_images, rows_kept, statement_kept, stays, transaction_kept, transactions_kept, with_statements}
use Rattle.blog_left_out.proofs.Keeping.{kept-changes}

-- ---- lists

-- what holds of what becomes of each, holds of what becomes of all
all-by-marks : {A B : Type 0} (P : A → Type 0) (Q : B → Type 0) (changes_in : A → List Change) (becomes : List Bool → A → List B) → ((ms : List Bool) (x : A) → P x → AllByRecursion Q (becomes ms x))
    → (ms : List Bool) (xs : List A) → AllByRecursion P xs → AllByRecursion Q (by_marks changes_in becomes ms xs)
all-by-marks P Q changes_in becomes by ms [] each = tt
all-by-marks P Q changes_in becomes by ms (x ∷ xs) each =
    let behind = drop (length (changes_in x)) ms in
    all-append Q (becomes ms x) (by_marks changes_in becomes behind xs) (by ms x each.0) (all-by-marks P Q changes_in becomes by behind xs each.1)

-- the first that passes two tests is found among those that pass the second
find-filter : {A : Type 0} (a q : A → Bool) (xs : List A) → find (λ x. a x && q x) (filter q xs) ≡ find (λ x. a x && q x) xs
find-filter a q [] = refl
find-filter a q (x ∷ xs) = let others = find-filter a q xs in grind arith

-- elements that are distinct by a name stay so where some are left out
apart-filter : {A : Type 0} (name : A → List ℕ) (q : A → Bool) (id : List ℕ) (xs : List A) → AllByRecursion (λ y. bytes_eq id y ≡ false) (map name xs)
    → AllByRecursion (λ y. bytes_eq id y ≡ false) (map name (filter q xs))
apart-filter name q id [] apart = tt
apart-filter name q id (x ∷ xs) apart = let others = apart-filter name q id xs apart.1 in grind arith

distinct-filter : {A : Type 0} (name : A → List ℕ) (q : A → Bool) (xs : List A) → IsDistinct bytes_eq (map name xs) → IsDistinct bytes_eq (map name (filter q xs))
unfolding IsDistinct
distinct-filter name q [] distinct = tt
distinct-filter name q (x ∷ xs) distinct =
    let others = distinct-filter name q xs distinct.1 in
    let apart = apart-filter name q (name x) xs distinct.0 in
    grind arith

-- ---- rows events

all-images : (P : List ℕ → Type 0) (action : RowsAction) (ms : List Bool) (images : List (List ℕ)) → AllByRecursion P images → AllByRecursion P (flat_map row_images (kept ms (rows_by action images)))
all-images P Write [] images each = tt
all-images P Write (m ∷ ms) [] each = tt
all-images P Write (true ∷ ms) (image ∷ images) each = (each.0, all-images P Write ms images each.1)
all-images P Write (false ∷ ms) (image ∷ images) each = all-images P Write ms images each.1
all-images P Update [] images each = tt
all-images P Update (m ∷ ms) [] each = tt
all-images P Update (m ∷ ms) (before ∷ []) each = tt
all-images P Update (true ∷ ms) (before ∷ after ∷ images) each = (each.0, (each.1.0, all-images P Update ms images each.1.1))
all-images P Update (false ∷ ms) (before ∷ after ∷ images) each = all-images P Update ms images each.1.1
all-images P Delete [] images each = tt
all-images P Delete (m ∷ ms) [] each = tt
all-images P Delete (true ∷ ms) (image ∷ images) each = (each.0, all-images P Delete ms images each.1)
all-images P Delete (false ∷ ms) (image ∷ images) each = all-images P Delete ms images each.1

-- an update's are in twos
in-twos : (ms : List Bool) (images : List (List ℕ)) → length (flat_map row_images (kept ms (rows_by Update images))) % 2 ≡ 0
in-twos [] images = refl
in-twos (m ∷ ms) [] = refl
in-twos (m ∷ ms) (before ∷ []) = refl
in-twos (true ∷ ms) (before ∷ after ∷ images) = let others = in-twos ms images in omega (arith, others)
in-twos (false ∷ ms) (before ∷ after ∷ images) = in-twos ms images

whole-rows : (action : RowsAction) (ms : List Bool) (images : List (List ℕ)) → length (flat_map row_images (kept ms (rows_by action images))) % images_a_row action ≡ 0
whole-rows Write ms images = omega arith
whole-rows Update ms images = in-twos ms images
whole-rows Delete ms images = omega arith

-- the event with the rows that stay, among the maps of its table id
row-formed : (maps : List Event) (ms : List Bool) (r : RowsEvent) → IsRowsEvent maps r → IsRowsEvent (filter (λ m. bytes_eq (table_id m.body) r.content.id) maps) (rows_kept ms r)
row-formed maps ms r h =
    let (m, among, is) = h.found in
    let (layout, layout_is, content) = h.content in
    record {
      found = (m, find-filter (λ (e : Event). is_map_kind (kind_of e)) (λ (e : Event). bytes_eq (table_id e.body) r.content.id) maps ∙ among, is);
      names = h.names;
      flags = h.flags;
      even = h.even;
      content = (
        layout,
        layout_is,
        record {
          id_len = content.id_len;
          counted = content.counted;
          bitmaps_enough = content.bitmaps_enough;
          bitmaps_full = content.bitmaps_full;
          images_each = all-images (IsSomeImage layout) r.content.kind.action ms r.content.images content.images_each;
          rows_whole = whole-rows r.content.kind.action ms r.content.images;
        },
      );
      timestamp_fits = h.timestamp_fits;
      server_id_fits = h.server_id_fits;
      header_flags_fit = h.header_flags_fit;
    }

-- ---- groups

module _ (Known : Event → Type 0) where
  -- it is a statement
  own-formed : (maps : List Event) (ms : List Bool) (r : RowsEvent) → AllByRecursion (IsMapEvent Known) maps → AreDistinct maps → IsRowsEvent maps r
      → IsStatement Known (record { maps = filter (λ m. bytes_eq (table_id m.body) r.content.id) maps; rows = rows_kept ms r ∷ [] })
  own-formed maps ms r formed distinct row =
      let own : Event → Bool = λ m. bytes_eq (table_id m.body) r.content.id in
      let chosen = all-filter (IsMapEvent Known) own maps formed in
      record {
        maps_formed = all-by _ (IsMapEvent Known) (λ m h. h.0) (filter own maps) chosen;
        distinct = distinct-filter (λ (m : Event). table_id m.body) own maps distinct;
        used = all-by _ (IsUsed (rows_kept ms r ∷ [])) (λ m h. rw h.1 refl) (filter own maps) chosen;
        rows_formed = (row-formed maps ms r row, tt);
        some = (rows_kept ms r, [], refl);
      }

  event-formed : (maps : List Event) → AllByRecursion (IsMapEvent Known) maps → AreDistinct maps → (ms : List Bool) (r : RowsEvent) → IsRowsEvent maps r → AllByRecursion (IsStatement Known) (event_kept maps ms r)
  event-formed maps formed distinct ms r row = by_case (stays ms r.content) refl
    where
      by_case : (b : Bool) → stays ms r.content ≡ b → AllByRecursion (IsStatement Known) (event_kept maps ms r)
      by_case true is = rw is (own-formed maps ms r formed distinct row, tt)
      by_case false is = rw is tt

  statement-formed : (ms : List Bool) (s : Statement) → IsStatement Known s → AllByRecursion (IsStatement Known) (statement_kept ms s)
  statement-formed ms s h =
      all-by-marks (IsRowsEvent s.maps) (IsStatement Known) changes_of_rows (event_kept s.maps) (event-formed s.maps h.maps_formed h.distinct) ms s.rows h.rows_formed

  with-formed : (t : Transaction) (ss : List Statement) → IsTransaction Known t → AllByRecursion (IsStatement Known) ss → AllByRecursion (IsTransaction Known) (with_statements t ss)
  with-formed t [] h formed = tt
  with-formed t (s ∷ ss) h formed = (
    record {
      begin_kind = h.begin_kind;
      begin_unplaced = h.begin_unplaced;
      begin_fits = h.begin_fits;
      end_is = h.end_is;
      end_unplaced = h.end_unplaced;
      end_fits = h.end_fits;
      statements_formed = formed;
      some = (s, ss, refl);
    },
    tt,
  )

  transaction-formed : (ms : List Bool) (t : Transaction) → IsTransaction Known t → AllByRecursion (IsTransaction Known) (transaction_kept ms t)
  transaction-formed ms t h =
      with-formed t (by_marks changes_of_statement statement_kept ms t.statements) h
      (all-by-marks (IsStatement Known) (IsStatement Known) changes_of_statement statement_kept statement-formed ms t.statements h.statements_formed)

  -- so are all of them
  pub kept-formed : (ms : List Bool) (ts : List Transaction) → AreGroups Known ts → AreGroups Known (transactions_kept ms ts)
  kept-formed = all-by-marks (IsTransaction Known) (IsTransaction Known) changes_of_transaction transaction_kept transaction-formed

-- ---- written

-- the groups of an accepted range, of which rows are left out
pub record IsKeptLog (ms : List Bool) (bytes : List ℕ) (sel : Selection) : Type 0 where
  pub format : Event
  pub text : left_out_text ms bytes sel ≡ laid_out format (transactions_kept ms (groups bytes sel))
  pub writable : IsWritable (Chosen bytes sel) format (transactions_kept ms (groups bytes sel))

pub is-kept-log : (ms : List Bool) (bytes : List ℕ) (sel : Selection) → AreBytes bytes → IsAccepted bytes sel → length (left_out_text ms bytes sel) ≤ 4294967295 → IsKeptLog ms bytes sel
unfolding left_out_text
is-kept-log ms bytes sel are accepted short =
    let ts = transactions_kept ms (groups bytes sel) in
    let (format, rest, is, served) = source-format bytes sel accepted in
    let event : IsEvent format = (subst (λ (es : List Event). AllByRecursion IsEvent es) is (read-events bytes sel.stop are)).0 in
    let text : left_out_text ms bytes sel ≡ laid_out format ts = ap (λ es. laid_out_after es ts) is in
    let long = ap length text in
    record {
      format = format;
      text = text;
      writable = record {
        are_groups = kept-formed (Chosen bytes sel) ms (groups bytes sel) (source-groups bytes sel are accepted);
        agree = source-agree bytes sel accepted;
        served = served;
        event = event;
        short = omega (arith, short, long);
      };
    }

-- it is accepted
pub kept-accepted : (ms : List Bool) (bytes : List ℕ) (sel : Selection) → AreBytes bytes → IsAccepted bytes sel → length (left_out_text ms bytes sel) ≤ 4294967295 → IsAccepted (left_out_text ms bytes sel) all
kept-accepted ms bytes sel are accepted short =
    let h = is-kept-log ms bytes sel are accepted short in
    subst (λ text. IsAccepted text all) (sym h.text) (written-accepted (Chosen bytes sel) h.format (transactions_kept ms (groups bytes sel)) h.writable)

-- and has these groups
pub kept-groups : (ms : List Bool) (bytes : List ℕ) (sel : Selection) → AreBytes bytes → IsAccepted bytes sel → length (left_out_text ms bytes sel) ≤ 4294967295
    → groups (left_out_text ms bytes sel) all ≡ transactions_kept ms (groups bytes sel)
kept-groups ms bytes sel are accepted short =
    let h = is-kept-log ms bytes sel are accepted short in
    ap (λ text. groups text all) h.text ∙ written-groups (Chosen bytes sel) h.format (transactions_kept ms (groups bytes sel)) h.writable

-- and the changes that stay
pub kept-log-changes : (ms : List Bool) (bytes : List ℕ) (sel : Selection) → AreBytes bytes → IsAccepted bytes sel → length (left_out_text ms bytes sel) ≤ 4294967295
    → changes (left_out_text ms bytes sel) all ≡ kept ms (changes bytes sel)
kept-log-changes ms bytes sel are accepted short = ap changes_of (kept-groups ms bytes sel are accepted short) ∙ kept-changes ms (groups bytes sel)
