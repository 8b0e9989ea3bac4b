-- Tables that are held.
use Rattle.std.proofs.Common.{◌≡◌, ◌≢◌, ◌<◌, ◌+◌, ℕ, zero, suc, List, [], ◌∷◌, ◌++◌, length, length-append, get_or, set, Option, Some, None, Ok, IsOk, IsSome, option_map, refl, sym, ap, ◌∙◌, subst, arith, nat_eq, Bool, true, false, eqb-true}
use Rattle.std.specs.BTreeSet.{contains}
use Rattle.std.specs.Ordering.{nat_cmp}
use Rattle.std.proofs.Math.ListN.{get_or-append}
use Rattle.std.proofs.Math.Seq.{get_or-append_seam}
use Rattle.std.proofs.lemmas.Bool.{and_parts, eqb-false, false≢true}
use Rattle.std.proofs.lemmas.List.{get_or-map}
use Rattle.blog_row.specs.Checks.{◌>>=◌, or_bad}
use Rattle.std.specs.Option.{option_map_or}
use Rattle.std.proofs.lemmas.Slice.Eq.{bytes_eq-Decides}
use Rattle.blog_row.specs.Column.{columns_of, metadata_of, types_of}
use Rattle.blog_row.specs.code.LayoutView.{layout_columns}
use Rattle.blog_row.specs.declared.layout.Layout as told
use Rattle.blog_row.proofs.Layouts.{metadata_of_columns, types_of_columns}
use Rattle.blog_row.specs.TableMap.{LayoutFields, Names, Table, is_same_layout, layout_fields, layout_of, names_of}
use Rattle.blog_trans.specs.Changes.{table_of}
use Rattle.blog_pairs.specs.Keys.{AreIndexed}
use Rattle.blog_pairs.specs.Places.{EachSlot}
use Rattle.blog_pairs.specs.Tables.{AreApart, HasMore, IsNumberOf}
use Rattle.blog_pairs.specs.code.PairsView.{IsKept, bodies_of, body_at, pair_by, pair_told, slots_told, table_at}
use Rattle.blog_pairs.specs.declared.held.HeldPair.{HeldPair}
use Rattle.blog_pairs.specs.declared.held.HeldPairs.{HeldPairs}
use Rattle.blog_pairs.specs.declared.held.HeldTable.{HeldTable}

pub has_names : (body : List ℕ) → IsOk (layout_of body) → IsSome (names_of body)
unfolding layout_of
has_names body ok = by_case (names_of body) refl
  where
    by_case : (o : Option Names) → names_of body ≡ o → IsSome (names_of body)
    by_case None is = absurd (false≢true (subst (λ (o : Option Names). IsOk (or_bad o >>= (λ (names : Names). layout_fields names.rest >>= (λ (fields : LayoutFields). Ok fields.layout)))) is ok))
    by_case (Some names) is = rw is refl

-- the table of a body by its names
pub known_table : (body : List ℕ) (names : Names) → names_of body ≡ Some names → table_of body ≡ names.table
known_table body names e = ap (λ n. option_map_or (λ (names : Names). names.table) n (record { schema = []; name = [] })) e

-- columns with the same types and metadata
pub same_columns : (a b : told.Layout) → is_same_layout (layout_columns a) (layout_columns b) ≡ true → layout_columns a ≡ layout_columns b
same_columns a b same =
    let parts = and_parts _ _ same in
    let types = (bytes_eq-Decides (types_of (layout_columns a)) (types_of (layout_columns b))).0 parts.0 in
    let more = (bytes_eq-Decides (metadata_of (layout_columns a)) (metadata_of (layout_columns b))).0 parts.1 in
    let kinds : a.kinds.now ≡ b.kinds.now = sym (types_of_columns a.kinds.now a.metadata.now) ∙ types ∙ types_of_columns b.kinds.now b.metadata.now in
    let metadata : a.metadata.now ≡ b.metadata.now = sym (metadata_of_columns a.kinds.now a.metadata.now a.whole) ∙ more ∙ metadata_of_columns b.kinds.now b.metadata.now b.whole in
    ap (λ k. columns_of k a.metadata.now) kinds ∙ ap (columns_of b.kinds.now) metadata

-- ---- one more table

-- the table of a new body is another
pub apart_more : (bodies : List (List ℕ)) (body : List ℕ) → AreApart bodies → ((i : ℕ) → i < length bodies → table_at bodies i ≢ table_of body) → AreApart (bodies ++ body ∷ [])
apart_more bodies body apart new i j i_in j_in same = by_case (nat_eq i (length bodies)) refl (nat_eq j (length bodies)) refl
  where
    n : ℕ
    n = length bodies

    all : List (List ℕ)
    all = bodies ++ body ∷ []

    old : (k : ℕ) → k < length all → nat_eq k n ≡ false → k < n
    old k k_in is = let other : k ≢ n = eqb-false k n is in let long : length all ≡ n + 1 = length-append bodies (body ∷ []) in omega (arith, other, long, k_in)

    old_table : (k : ℕ) → k < n → table_at all k ≡ table_at bodies k
    old_table k below = ap table_of (get_or-append bodies (body ∷ []) [] k below)

    new_table : (k : ℕ) → nat_eq k n ≡ true → table_at all k ≡ table_of body
    new_table k is = ap (table_at all) (eqb-true k n is) ∙ ap table_of (get_or-append_seam bodies body [] [])

    by_case : (a : Bool) → nat_eq i n ≡ a → (b : Bool) → nat_eq j n ≡ b → i ≡ j
    by_case true i_is true j_is = eqb-true i n i_is ∙ sym (eqb-true j n j_is)
    by_case true i_is false j_is = let below = old j j_in j_is in absurd (new j below (sym (old_table j below) ∙ sym same ∙ new_table i i_is))
    by_case false i_is true j_is = let below = old i i_in i_is in absurd (new i below (sym (old_table i below) ∙ same ∙ new_table j j_is))
    by_case false i_is false j_is = let i_below = old i i_in i_is in let j_below = old j j_in j_is in apart i j i_below j_below (sym (old_table i i_below) ∙ same ∙ old_table j j_below)

pub number_of_new : (bodies : List (List ℕ)) (body : List ℕ) → IsNumberOf (bodies ++ body ∷ []) body (length bodies)
number_of_new bodies body = record {
  within = omega (arith, length-append bodies (body ∷ []));
  table = ap table_of (get_or-append_seam bodies body [] []);
  layout = ap layout_of (get_or-append_seam bodies body [] []);
}

-- no table before had this one
pub none_more : (bodies : List (List ℕ)) (t : Table) (n : ℕ) → ((i : ℕ) → i < n → table_at bodies i ≢ t) → table_at bodies n ≢ t → (i : ℕ) → i < n + 1 → table_at bodies i ≢ t
none_more bodies t n none here i below = by_case (nat_eq i n) refl
  where
    by_case : (b : Bool) → nat_eq i n ≡ b → table_at bodies i ≢ t
    by_case true is = λ e. here (ap (table_at bodies) (sym (eqb-true i n is)) ∙ e)
    by_case false is = let other : i ≢ n = eqb-false i n is in none i (omega (arith, below, other))

-- the body of a table
pub body_got : {A : Type 0} (tables : List (HeldTable A)) (i : ℕ) (held : HeldTable A) → i < length tables → body_at (bodies_of tables) i ≡ (get_or tables i held).body.items
body_got tables i held within = get_or-map (λ t. t.body.items) tables i held [] within

pub body_there : {A : Type 0} (tables : List (HeldTable A)) (i : ℕ) (held : HeldTable A) → i < length tables → held ≡ get_or tables i held → body_at (bodies_of tables) i ≡ held.body.items
body_there tables i held within is = body_got tables i held within ∙ ap (λ t. t.body.items) (sym is)

-- a table is put in the place of one with the same body
pub bodies_set : {A : Type 0} (tables : List (HeldTable A)) (n : ℕ) (new here : HeldTable A) → here ≡ get_or tables n here → new.body.items ≡ here.body.items → bodies_of (set tables n new) ≡ bodies_of tables
bodies_set [] n new here is same = refl
bodies_set {A} (t ∷ tables) zero new here is same = ap (λ body. body ∷ bodies_of tables) (same ∙ ap (λ (h : HeldTable A). h.body.items) is)
bodies_set (t ∷ tables) (suc n) new here is same = ap (λ bodies. t.body.items ∷ bodies) (bodies_set tables n new here is same)

-- ---- pairs, where there are more tables

pub told_more : {A : Type 0} (bodies more : List (List ℕ)) (slots : List (Option (HeldPair A))) → EachSlot (λ i (p : HeldPair A). p.table < length bodies) slots
    → slots_told (bodies ++ more) slots ≡ slots_told bodies slots
told_more bodies more [] numbered = refl
told_more {A} bodies more (s ∷ slots) numbered = ap (λ x. x ∷ slots_told (bodies ++ more) slots) (one s (numbered 0)) ∙ ap (λ xs. option_map (pair_told bodies) s ∷ xs) (told_more bodies more slots (λ i p. numbered (suc i) p))
  where
    one : (s : Option (HeldPair A)) → ((p : HeldPair A) → Some s ≡ Some (Some p) → p.table < length bodies) → option_map (pair_told (bodies ++ more)) s ≡ option_map (pair_told bodies) s
    one None below = refl
    one (Some p) below = ap (λ body. Some (pair_by body p.real.items (option_map (λ image. image.items) p.would))) (get_or-append bodies more [] p.table (below p refl))

pub kept_more : {A : Type 0} (bodies all : List (List ℕ)) (pairs : HeldPairs A) → HasMore bodies all → IsKept bodies pairs → IsKept all pairs
kept_more {A} bodies all pairs more kept = subst (λ (b : List (List ℕ)). IsKept b pairs) (sym more.1) (record {
  numbered = λ i p at. let below = kept.numbered i p at in omega (arith, below, length-append bodies more.0);
  indexed = subst (AreIndexed (contains nat_cmp pairs.keys)) (sym (told_more bodies more.0 pairs.slots.items kept.numbered)) kept.indexed;
})
