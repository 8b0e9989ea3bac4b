-- A Query event that can be read has the bytes of a thread.
use Rattle.std.proofs.Common.{◌≡◌, ◌≤◌, Bool, true, false, ◌&&◌, List, ◌∷◌, [], length, Option, Some, None, IsSome, refl, arith, nat_le, ℕ}
use Rattle.std.specs.Prelude.{◌==◌, if◌then◌else◌}
use Rattle.std.specs.Option.{option_map_or}
use Rattle.std.proofs.lemmas.Bool.{leb-true}
use Rattle.blog_event.specs.Event.{Event}
use Rattle.blog_row.specs.Column.{is_one_of}
use Rattle.blog_row.specs.RowsKind.{rows_kind_of}
use Rattle.blog_row.specs.declared.kind.RowsKind.{RowsKind}
use Rattle.blog_row.specs.declared.event_kinds.EventKind.{EventKind}
use Rattle.blog_row.specs.declared.event_kinds.EventKind.TheVariants as kind
use Rattle.blog_row.specs.Kinds.{kind_of, other_kind, query_kind, query_text}
use Rattle.blog_units.specs.Units.{is_query_kind}

-- of two kinds none is a query, or the second isn't
neither : (b : Bool) (x y : EventKind) → is_query_kind x ≡ false → is_query_kind y ≡ false → is_query_kind (if b then x else y) ≡ false
neither b x y first second = grind arith

the_first : (b : Bool) (x y : EventKind) → is_query_kind y ≡ false → is_query_kind (if b then x else y) ≡ true → is_query_kind x ≡ true
the_first b x y second is = grind arith

no-rows : (o : Option RowsKind) (other : EventKind) → is_query_kind other ≡ false → is_query_kind (option_map_or kind.Rows o other) ≡ false
no-rows None other is = is
no-rows (Some rows) other is = refl

-- a query has its layout
has-text : (o : Option (List ℕ)) → is_query_kind (option_map_or query_kind o kind.BadQuery) ≡ true → IsSome o
has-text None is = absurd (cc)
has-text (Some text) is = refl

long : (b c : Bool) (text : List ℕ) → IsSome (if b && c then Some text else None) → b ≡ true
long true c text is = refl
long false c text is = absurd (cc)

query-long : (body : List ℕ) → IsSome (query_text body) → nat_le 13 (length body) ≡ true
unfolding query_text
query-long body is = long _ _ _ is

pub query-has-thread : (e : Event) → is_query_kind (kind_of e) ≡ true → 4 ≤ length e.body
unfolding kind_of
query-has-thread e is =
    let query = the_first (e.kind == 2) (option_map_or query_kind (query_text e.body) kind.BadQuery) _
    (neither (e.kind == 16) kind.Xid _ refl (neither (is_one_of (33 ∷ 34 ∷ []) e.kind) kind.Gtid _ refl
    (neither (is_one_of (3 ∷ 4 ∷ 35 ∷ []) e.kind) kind.BetweenTransactions _ refl (neither (e.kind == 29) kind.RowsQuery _ refl
    (neither (is_one_of (1 ∷ 5 ∷ 6 ∷ 7 ∷ 8 ∷ 9 ∷ 10 ∷ 11 ∷ 12 ∷ 13 ∷ 14 ∷ 17 ∷ 18 ∷ []) e.kind) kind.StatementChange _ refl
    (neither (e.kind == 15) kind.SecondFormat _ refl (neither (e.kind == 19) kind.TableMap _ refl (neither (e.kind == 39) kind.PartialRows _ refl
    (no-rows (rows_kind_of e.kind) (other_kind e.kind e.flags) (neither _ kind.Skippable kind.Unknown refl refl)))))))))) is in
    let fits = leb-true 13 (length e.body) (query-long e.body (has-text _ query)) in
    omega (arith, fits)
