-- Rows that are followed through the change of one row.
use Rattle.std.proofs.Common.{◌≡◌, ℕ, Bool, true, false, List, [], ◌∷◌, ◌++◌, Option, Some, None, Ok, Err, Result, option_map, refl, sym, ap, ap₂, ◌∙◌, subst, append-nil}
use Rattle.std.specs.Prelude.{OnOk, if◌then◌else◌, nat_eq}
use Rattle.std.specs.List.{cons_option, list_any}
use Rattle.blog_later.specs.Prints.{HavePrints, print_of}
use Rattle.blog_later.specs.code.EventChanges.{event_changes, image_changes, images_changes}
use Rattle.blog_later.specs.declared.left.LeftRows.{LeftRows}
use Rattle.blog_merge.specs.Touching.{with_left}
use Rattle.blog_pairs.specs.code.EventRows.{event_rows}
use Rattle.blog_pairs.proofs.Tabled.{group_changes}
use Rattle.blog_row.specs.Column.{Layout}
use Rattle.blog_row.specs.RowsEvent.{RowImages}
use Rattle.blog_row.specs.TableMap.{Table, layout_of}
use Rattle.blog_row.specs.code.LayoutView.{layout_columns}
use Rattle.blog_row.specs.code.StoredLayoutView.{stored_columns}
use Rattle.blog_trans.specs.Changes.{Change, Deleted, Updated, row_by, table_of}
use Rattle.blog_trans.specs.code.GroupEventsView.{IsByMap, event_seen}
use Rattle.blog_trans.specs.declared.group_events.GroupEvent as seen
use Rattle.blog_trans.specs.declared.group_events.GroupEvent.TheVariants as given
use Rattle.blog_trans.specs.declared.group_events.GroupRows.{GroupRows}
use Rattle.blog_undo.specs.ByRows.{has_print_among}
use Rattle.blog_undo.specs.Mixed.{takes}
use Rattle.blog_followed.specs.Following.{touching}
use Rattle.blog_followed.specs.code.FollowedView.{Follows, kept_told, prints_told}
use Rattle.blog_followed.specs.code.KeptView.{change_by, image_print}
use Rattle.blog_followed.specs.declared.followed.Followed.{Followed}
use Rattle.blog_followed.specs.declared.seen.SeenTable.{SeenTable}
use Rattle.blog_followed.proofs.Fingerprints.{after-other, after-touching, touching-first, touching-later}
use Rattle.blog_followed.proofs.Remaining.{follows-none}

pub on-ok : {X E : Type 0} (r : Result X E) (P Q : Type 0) → (P → Q) → OnOk r P → OnOk r Q
on-ok (Ok x) P Q so is = so is
on-ok (Err e) P Q so is = tt

-- ---- the change of a row

one-change : (body : List ℕ) (l : Layout) (before : List ℕ) (after : Option (List ℕ)) → layout_of body ≡ Ok l → image_changes (table_of body) l (Some before) after ≡ change_by body before after ∷ []
one-change body l before None known = ap (λ r. Deleted (table_of body) (row_by r before) ∷ []) (sym known)
one-change body l before (Some after) known = ap (λ r. Updated (table_of body) (row_by r before) (row_by r after) ∷ []) (sym known)

takes-before : (body before : List ℕ) (after : Option (List ℕ)) (prints : List ℕ) → has_print_among print_of (takes (change_by body before after)) prints ≡ list_any (nat_eq (image_print body before)) prints
takes-before body before None prints = refl
takes-before body before (Some after) prints = refl

leaves-after : (body before : List ℕ) (after : Option (List ℕ)) (prints : List ℕ) → with_left print_of (change_by body before after) prints ≡ cons_option (option_map (image_print body) after) prints
leaves-after body before None prints = refl
leaves-after body before (Some after) prints = refl

-- ---- one change is followed

keep-nothing : (keeps : Bool) (cs : List Change) → cs ≡ [] → (if keeps then cs else []) ≡ []
keep-nothing true cs none = none
keep-nothing false cs none = refl

module _ {A : Type 0} (keeps : Bool) (left : LeftRows A) where
  -- it takes no followed row
  other-follows : (c : Change) (now : Followed A) → has_print_among print_of (takes c) (prints_told left now) ≡ false → Follows keeps left (c ∷ []) now now
  other-follows c now none = record {
    prints = λ p. ap (list_any (nat_eq p)) (sym (after-other print_of (prints_told left now) c none));
    kept = sym (append-nil (kept_told now)) ∙ ap (λ (ds : List Change). kept_told now ++ ds) (sym (keep-nothing keeps (touching print_of (prints_told left now) (c ∷ [])) (touching-later print_of (prints_told left now) c [] none)));
  }

  -- it takes one
  touching-follows : (c : Change) (old new : Followed A) → has_print_among print_of (takes c) (prints_told left old) ≡ true → HavePrints (with_left print_of c (prints_told left old)) (prints_told left new)
      → kept_told new ≡ kept_told old ++ (if keeps then c ∷ [] else []) → Follows keeps left (c ∷ []) old new
  touching-follows c old new is with_it kept = record {
    prints = λ p. with_it p ∙ ap (list_any (nat_eq p)) (sym (after-touching print_of (prints_told left old) c is));
    kept = kept ∙ ap (λ (ds : List Change). kept_told old ++ (if keeps then ds else [])) (sym (touching-first print_of (prints_told left old) c [] is));
  }

  -- ---- by the images of its row

  pub row-inserted : (t : Table) (l : Layout) (before after : Option (List ℕ)) (now : Followed A) → before ≡ None → Follows keeps left (image_changes t l before after) now now
  row-inserted t l before after now none = subst (λ (b : Option (List ℕ)). Follows keeps left (image_changes t l b after) now now) (sym none) (by_case after)
    where
      same : Follows keeps left [] now now
      same = follows-none keeps left now

      by_case : (after : Option (List ℕ)) → Follows keeps left (image_changes t l None after) now now
      by_case None = same
      by_case (Some image) = record { prints = same.prints; kept = same.kept }

  pub row-other : (body : List ℕ) (l : Layout) (before after : Option (List ℕ)) (image : List ℕ) (now : Followed A) → layout_of body ≡ Ok l → before ≡ Some image
      → list_any (nat_eq (image_print body image)) (prints_told left now) ≡ false → Follows keeps left (image_changes (table_of body) l before after) now now
  row-other body l before after image now known is none =
      subst (λ (cs : List Change). Follows keeps left cs now now) (sym (ap (λ b. image_changes (table_of body) l b after) is ∙ one-change body l image after known))
      (other-follows (change_by body image after) now (takes-before body image after (prints_told left now) ∙ none))

  pub row-touching : (body : List ℕ) (l : Layout) (before after : Option (List ℕ)) (image : List ℕ) (old new : Followed A) → layout_of body ≡ Ok l → before ≡ Some image
      → list_any (nat_eq (image_print body image)) (prints_told left old) ≡ true → HavePrints (cons_option (option_map (image_print body) after) (prints_told left old)) (prints_told left new)
      → kept_told new ≡ kept_told old ++ (if keeps then change_by body image after ∷ [] else []) → Follows keeps left (image_changes (table_of body) l before after) old new
  row-touching body l before after image old new known is found with_it kept =
      subst (λ (cs : List Change). Follows keeps left cs old new) (sym (ap (λ b. image_changes (table_of body) l b after) is ∙ one-change body l image after known))
      (touching-follows (change_by body image after) old new (takes-before body image after (prints_told left old) ∙ found)
      (λ p. with_it p ∙ ap (list_any (nat_eq p)) (sym (leaves-after body image after (prints_told left old)))) kept)

-- ---- the rows of an event

pub seen-rows : (group : GroupRows) (table : SeenTable) (rows : List RowImages) → IsByMap group → table.body.now ≡ group.map.body.now → rows ≡ event_rows group.rows
    → images_changes (table_of table.body.now) (stored_columns table.layout) rows ≡ event_changes (event_seen (given.Rows group))
seen-rows group table rows h body are =
    let known = table.known in
    let by_map = h.layout in
    let same : stored_columns table.layout ≡ layout_columns group.rows.layout = cc (known, by_map, ap layout_of body) in
    ap₂ (λ (b : List ℕ) (rs : List RowImages). images_changes (table_of b) (stored_columns table.layout) rs) body are
    ∙ ap (λ l. images_changes (table_of group.map.body.now) l (event_rows group.rows)) same
    ∙ sym (group_changes group h)

-- an event without rows
pub none-changed : (e : seen.GroupEvent) → ((group : GroupRows) → e ≡ given.Rows group → ⊥) → event_changes (event_seen e) ≡ []
none-changed (given.Begin event) other = refl
none-changed (given.Map event) other = refl
none-changed (given.Rows group) other = absurd (other group refl)
none-changed (given.End event) other = refl
