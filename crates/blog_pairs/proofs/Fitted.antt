-- Pairs and a table that fit, before and after a change.
use Rattle.std.proofs.Common.{◌≡◌, ◌<◌, ℕ, Bool, true, false, List, length, Option, Some, None, Result, Ok, Err, option_map, refl, sym, ap, ◌∙◌, subst}
use Rattle.std.specs.Prelude.{OnErr, OnOk}
use Rattle.std.proofs.lemmas.Bool.{cond-false, cond-true}
use Rattle.std.proofs.lemmas.Option.{none-some, same_Some}
use Rattle.blog_later.specs.Prints.{print_of, table_hasher}
use Rattle.blog_merge.specs.Pairs.{in_table}
use Rattle.blog_row.specs.Column.{Layout}
use Rattle.blog_row.specs.Image.{row_of}
use Rattle.blog_row.specs.TableMap.{Table, layout_of}
use Rattle.blog_trans.specs.Changes.{row_by}
use Rattle.blog_pairs.specs.code.ColumnsView.{columns_told}
use Rattle.blog_pairs.specs.code.PairsView.{Fits, HasPrint, IsKept, body_at, table_at}
use Rattle.blog_pairs.specs.code.Placed.{are_equal, kept_pair}
use Rattle.blog_pairs.specs.declared.changed.ChangedTable.{ChangedTable}
use Rattle.blog_pairs.specs.declared.held.HeldPair.{HeldPair}
use Rattle.blog_pairs.specs.declared.held.HeldPairs.{HeldPairs}

pub on_ok : {X E : Type 0} (r : Result X E) (P Q : Type 0) → (P → Q) → OnOk r P → OnOk r Q
on_ok (Ok x) P Q f h = f h
on_ok (Err e) P Q f h = tt

pub on_err : {X E : Type 0} (r : Result X E) (P : Type 0) → P → OnErr r P
on_err (Ok x) P h = tt
on_err (Err e) P h = h

pub map_map : {X Y Z : Type 0} (f : Y → Z) (g : X → Y) (o : Option X) → option_map f (option_map g o) ≡ option_map (λ x. f (g x)) o
map_map f g None = refl
map_map f g (Some x) = refl

-- other pairs that are kept fit too
pub still_fits : {A : Type 0} (bodies : List (List ℕ)) (old new : HeldPairs A) (table : ChangedTable) → Fits bodies old table → IsKept bodies new → Fits bodies new table
still_fits bodies old new table fits kept = record {
  apart = fits.apart;
  kept = kept;
  has = fits.has;
  hasher = fits.hasher;
}

-- a pair of the table has its fingerprint
pub table_print : {A : Type 0} (bodies : List (List ℕ)) (pairs : HeldPairs A) (table : ChangedTable) (p : HeldPair A) (print : ℕ) (image : List ℕ) → Fits bodies pairs table → p.table ≡ table.number → image ≡ p.real.items
    → ((t : Table) → table.hasher ≡ table_hasher t → print ≡ print_of (in_table t (row_of (columns_told table.columns) image))) → HasPrint bodies p print
table_print bodies pairs table p print image fits own same prints =
    let n : ℕ = table.number in (
      subst (λ (k : ℕ). k < length bodies) (sym own) fits.has.0,
      prints (table_at bodies n) fits.hasher
          ∙ ap (λ i. print_of (in_table (table_at bodies n) (row_of (columns_told table.columns) i))) same
          ∙ ap (λ l. print_of (in_table (table_at bodies n) (row_by l p.real.items))) (sym fits.has.1)
          ∙ ap (λ k. print_of (in_table (table_at bodies k) (row_by (layout_of (body_at bodies k)) p.real.items))) (sym own),
    )

-- it is the one that is kept
pub kept_is : {A : Type 0} (columns : Layout) (p q : HeldPair A) → kept_pair columns p ≡ Some q → p ≡ q
kept_is {A} columns p q e = by_case same refl
  where
    same : Bool
    same = are_equal columns (option_map (λ would. would.items) p.would) p.real.items

    by_case : (b : Bool) → same ≡ b → p ≡ q
    by_case true is = absurd (none-some q (sym (cond-true same None (Some p) is) ∙ e))
    by_case false is = same_Some p q (sym (cond-false same None (Some p) is) ∙ e)
