-- The maps of a statement by their table ids.
use Rattle.std.proofs.Common.{◌≡◌, ℕ, zero, suc, ◌+◌, ◌<◌, ◌≤◌, Bool, true, false, ◌||◌, List, [], ◌∷◌, ◌++◌, length, map, Option, Some, None, refl, sym, ap, ap₂, subst, ◌∙◌, arith, bytes_eq, slice_get, get_or, ltb, ltb-true, ltb-false}
use Rattle.std.specs.Prelude.{nat_eq}
use Rattle.std.specs.List.{All, AllByRecursion, AllWithin, IsDistinct, list_any}
use Rattle.std.specs.List.Sorted.{IsNonDecreasingBy, IsPermutation}
use Rattle.std.proofs.lemmas.Bool.{eqb-true, eqb-false, false≢true}
use Rattle.std.proofs.lemmas.Bool.Decides.{Decides-eqb, Decides-like, same_from_decides}
use Rattle.std.proofs.lemmas.List.{get_or_push, length_push, take_all}
use Rattle.std.proofs.lemmas.List.Elements.{All-contains, All-nil, All-head, All-push, All-tail}
use Rattle.std.proofs.lemmas.List.Folds.{list_any-append}
use Rattle.std.proofs.lemmas.List.Sorted.{All-permutation, list_any-IsPermutation}
use Rattle.std.proofs.lemmas.Map.Keys.{IsDistinct-head, IsDistinct-tail}
use Rattle.std.proofs.lemmas.Option.{none-some, same_Some, slice_get_within, slice_get_read, get_or_from_slice_get}
use Rattle.std.proofs.lemmas.Slice.Eq.{bytes_eq-Decides}
use Rattle.byteorder.specs.Endian.{little_bytes}
use Rattle.blog_event.specs.Event.{Event}
use Rattle.blog_event.proofs.Framing.{number-bytes}
use Rattle.blog_row.specs.RowsEvent.{table_id}
use Rattle.blog_trans.specs.Groups.{RowsEvent}
use Rattle.blog_trans.proofs.EntriesFound.{get_front}
use Rattle.blog_split.specs.declared.used_maps.MapId.{MapId}
use Rattle.blog_split.specs.code.Marks.{IsId, id_number, IsOfMap, AreListed, IsTable, IsFound, goes_by, IsMapNumber}

-- ---- by number

-- there is one at each number below the length
pub at-some : {A : Type 0} (xs : List A) (i : ℕ) → i < length xs → (x : A) × (slice_get xs i ≡ Some x)
at-some [] i below = absurd (omega (arith, below))
at-some (x ∷ xs) zero below = (x, refl)
at-some (x ∷ xs) (suc i) below = at-some xs i (omega (arith, below))

-- ---- table ids

-- its number tells an id
same-id : (a b : List ℕ) → IsId a → IsId b → id_number a ≡ id_number b → a ≡ b
unfolding id_number
same-id a b is_a is_b h =
    sym (take_all 6 a (omega (arith, is_a.len))) ∙ sym (number-bytes 6 a is_a.bytes (omega (arith, is_a.len))) ∙ ap (little_bytes 6) h
    ∙ number-bytes 6 b is_b.bytes (omega (arith, is_b.len)) ∙ take_all 6 b (omega (arith, is_b.len))

-- so numbers compare as ids do
ids-compare : (a b : List ℕ) → IsId a → IsId b → nat_eq (id_number a) (id_number b) ≡ bytes_eq b a
ids-compare a b is_a is_b = same_from_decides (nat_eq (id_number a) (id_number b)) (bytes_eq b a) (Decides-eqb (id_number a) (id_number b))
    (Decides-like (bytes_eq b a) (λ e. ap id_number (sym e)) (λ e. sym (same-id a b is_a is_b e)) (bytes_eq-Decides b a))

-- ---- the maps of a statement

mapped-at : (P : List ℕ → Type 0) (maps : List Event) (k : ℕ) (p : Event) → AllByRecursion P (map (λ m. table_id m.body) maps) → slice_get maps k ≡ Some p → P (table_id p.body)
mapped-at P [] k p all here = absurd (none-some p here)
mapped-at P (m ∷ maps) zero p all here = subst (λ (q : Event). P (table_id q.body)) (same_Some m p here) all.0
mapped-at P (m ∷ maps) (suc k) p all here = mapped-at P maps k p all.1 here

-- an id that is told apart is another
other : (a b : List ℕ) → bytes_eq a b ≡ false → a ≡ b → ⊥
other a b differs same = absurd (cc (differs, (bytes_eq-Decides a b).1 same))

-- no two of its maps have one
is-apart : (maps : List Event) (k n : ℕ) (p q : Event) → IsDistinct bytes_eq (map (λ m. table_id m.body) maps) → slice_get maps k ≡ Some p → slice_get maps n ≡ Some q
    → table_id p.body ≡ table_id q.body → k ≡ n
is-apart [] k n p q distinct at here same = absurd (none-some p at)
is-apart (m ∷ maps) zero zero p q distinct at here same = refl
is-apart (m ∷ maps) zero (suc n) p q distinct at here same =
    let ids = map (λ m. table_id m.body) maps in
    absurd (other (table_id m.body) (table_id q.body) (mapped-at (λ id. bytes_eq (table_id m.body) id ≡ false) maps n q (IsDistinct-head bytes_eq (table_id m.body) ids distinct) here)
    (ap (λ (x : Event). table_id x.body) (same_Some m p at) ∙ same))
is-apart (m ∷ maps) (suc k) zero p q distinct at here same =
    let ids = map (λ m. table_id m.body) maps in
    absurd (other (table_id m.body) (table_id p.body) (mapped-at (λ id. bytes_eq (table_id m.body) id ≡ false) maps k p (IsDistinct-head bytes_eq (table_id m.body) ids distinct) at)
    (ap (λ (x : Event). table_id x.body) (same_Some m q here) ∙ sym same))
is-apart (m ∷ maps) (suc k) (suc n) p q distinct at here same =
    ap suc (is-apart maps k n p q (IsDistinct-tail bytes_eq (table_id m.body) (map (λ m. table_id m.body) maps) distinct) at here same)

-- ---- listing them

or-left : (a b : Bool) → a ≡ true → (a || b) ≡ true
or-left a b is = ap (λ (t : Bool). t || b) is

or-right : (a b : Bool) → b ≡ true → (a || b) ≡ true
or-right true b is = refl
or-right false b is = is

pub listed-none : AreListed [] []
listed-none = record { each = All-nil (IsOfMap []); every = λ k below. absurd (omega (arith, below)) }

-- a map at the number of an entry
of-map : (maps : List Event) (m : Event) (e : MapId) → slice_get maps e.number ≡ Some m → IsId (table_id m.body) → e.id ≡ id_number (table_id m.body) → IsOfMap maps e
of-map maps m e here is_id id_is = record {
  within = slice_get_within maps e.number m here;
  is_id = λ q at. subst (λ (x : Event). IsId (table_id x.body)) (same q at) is_id;
  number_is = λ q at. id_is ∙ ap (λ (x : Event). id_number (table_id x.body)) (same q at);
}
  where
    same : (q : Event) → slice_get maps e.number ≡ Some q → m ≡ q
    same q at = same_Some m q (sym here ∙ at)

-- one more map, after the others
pub listed-more : (maps : List Event) (ids : List MapId) (m : Event) (e : MapId) → AreListed maps ids → IsId (table_id m.body) → e.number ≡ length maps → e.id ≡ id_number (table_id m.body)
    → AreListed (maps ++ m ∷ []) (ids ++ e ∷ [])
listed-more maps ids m e h is_id number_is id_is =
    let long = length_push maps m in
    let here = slice_get_read (maps ++ m ∷ []) (length maps + 1) e.number m (sym long) (omega (arith, number_is)) (sym (get_or_push maps m m e.number (sym number_is))) in
    record {
      each = All-push (IsOfMap (maps ++ m ∷ [])) ids e (λ i d within. kept (get_or ids i d) (h.each i d within)) (of-map (maps ++ m ∷ []) m e here is_id id_is);
      every = λ k below. list_any-append (λ x. nat_eq x.number k) ids (e ∷ []) ∙ by_place k (omega (arith, below, long)) (nat_eq e.number k) refl;
    }
  where
    kept : (x : MapId) → IsOfMap maps x → IsOfMap (maps ++ m ∷ []) x
    kept x of = let p = at-some maps x.number of.within in of-map (maps ++ m ∷ []) p.0 x (get_front maps (m ∷ []) x.number p.0 p.1) (of.is_id p.0 p.1) (of.number_is p.0 p.1)

    by_place : (k : ℕ) → k < length maps + 1 → (b : Bool) → nat_eq e.number k ≡ b → (list_any (λ x. nat_eq x.number k) ids || (nat_eq e.number k || false)) ≡ true
    by_place k below true is = or-right (list_any (λ x. nat_eq x.number k) ids) (nat_eq e.number k || false) (or-left (nat_eq e.number k) false is)
    by_place k below false is = or-left (list_any (λ x. nat_eq x.number k) ids) (nat_eq e.number k || false) (h.every k (omega (arith, below, number_is, eqb-false e.number k is)))

-- in another order
pub listed-moved : (maps : List Event) (ids moved : List MapId) → AreListed maps ids → IsPermutation ids moved → AreListed maps moved
listed-moved maps ids moved h order = record {
  each = All-permutation (IsOfMap maps) ids moved order h.each;
  every = λ k below. sym (list_any-IsPermutation (λ e. nat_eq e.number k) ids moved order) ∙ h.every k below;
}

-- what is listed of a number
entry-of : (P : MapId → Type 0) (ids : List MapId) (k : ℕ) → All P ids → list_any (λ e. nat_eq e.number k) ids ≡ true → (e : MapId) × P e × (e.number ≡ k)
entry-of P [] k all some = absurd (false≢true some)
entry-of P (e ∷ ids) k all some = by_case (nat_eq e.number k) refl (entry-of P ids k (All-tail P e ids all)) some
  where
    by_case : (b : Bool) → nat_eq e.number k ≡ b → (list_any (λ e. nat_eq e.number k) ids ≡ true → (e : MapId) × P e × (e.number ≡ k)) → (b || list_any (λ e. nat_eq e.number k) ids) ≡ true
        → (e : MapId) × P e × (e.number ≡ k)
    by_case true is others some = (e, All-head P e ids all, eqb-true e.number k is)
    by_case false is others some = others some

-- ---- looking one up

pub number-found : (maps : List Event) (ids : List MapId) (r : RowsEvent) (id : ℕ) (o : Option ℕ) → IsDistinct bytes_eq (map (λ m. table_id m.body) maps) → IsTable maps ids → IsId r.content.id
    → id ≡ id_number r.content.id → IsFound ids id o → IsMapNumber maps r o
number-found maps ids r id None distinct table is_id id_is absent = record {
  within = tt;
  goes = λ k p here.
      let (e, (of, apart), number) = entry-of (λ e. IsOfMap maps e × (nat_eq id e.id ≡ false)) ids k (λ i d within. (table.all.each i d within, absent i d within)) (table.all.every k (slice_get_within maps k p here)) in
      let at : slice_get maps e.number ≡ Some p = ap (slice_get maps) number ∙ here in
      sym (ids-compare r.content.id (table_id p.body) is_id (of.is_id p at)) ∙ ap₂ nat_eq (sym id_is) (sym (of.number_is p at)) ∙ apart;
}
number-found maps ids r id (Some n) distinct table is_id id_is found =
    let of = All-contains (IsOfMap maps) ids (record { id = id; number = n }) table.all.each found in
    let m = at-some maps n of.within in
    let own : table_id m.0.body ≡ r.content.id = same-id _ _ (of.is_id m.0 m.1) is_id (sym (of.number_is m.0 m.1) ∙ id_is) in
    record {
      within = of.within;
      goes = λ k p here. same_from_decides (goes_by r p) (nat_eq n k) (
        (λ goes. is-apart maps n k m.0 p distinct m.1 here (own ∙ sym ((bytes_eq-Decides (table_id p.body) r.content.id).0 goes))),
        (λ same. (bytes_eq-Decides (table_id p.body) r.content.id).1
            (ap (λ (x : Event). table_id x.body) (same_Some p m.0 (sym here ∙ ap (slice_get maps) (sym same) ∙ m.1)) ∙ own)),
      )
          (Decides-eqb n k);
    }

-- ---- searching

pub differs : (n k : ℕ) → (n ≡ k → ⊥) → nat_eq n k ≡ false
differs n k apart = by_case (nat_eq n k) refl
  where
    by_case : (b : Bool) → nat_eq n k ≡ b → b ≡ false
    by_case true is = absurd (apart (eqb-true n k is))
    by_case false is = refl

-- each has a smaller one
pub absent-past : (ids : List MapId) (id at : ℕ) → AllWithin (λ e. ltb e.id id ≡ true) ids 0 at → length ids ≤ at → IsFound ids id None
absent-past ids id at below end = λ k d within. differs id _ (λ same. omega (arith, same, ltb-true _ id (below k d (omega arith) (omega (arith, within, end)))))

-- those before a place have a smaller one, and those from there on a greater one
pub absent-here : (ids : List MapId) (id at : ℕ) (e : MapId) → IsNonDecreasingBy (λ x. x.id) ids → AllWithin (λ x. ltb x.id id ≡ true) ids 0 at → AllWithin (λ x. ltb x.id id ≡ false) ids at (length ids)
    → at < length ids → slice_get ids at ≡ Some e → (e.id ≡ id → ⊥) → IsFound ids id None
absent-here ids id at e ordered below above some here other = λ k d within.
    let own : get_or ids at d ≡ e = get_or_from_slice_get ids at e d here in
    let high : id ≤ e.id = ltb-false _ id (subst (λ (x : MapId). ltb x.id id ≡ false) own (above at d (omega arith) some)) in
    by_case k d within high own (ltb k at) refl
  where
    by_case : (k : ℕ) (d : MapId) → k < length ids → id ≤ e.id → get_or ids at d ≡ e → (b : Bool) → ltb k at ≡ b → nat_eq id (get_or ids k d).id ≡ false
    by_case k d within high own true is = differs id _ (λ same. omega (arith, same, ltb-true _ id (below k d (omega arith) (ltb-true k at is))))
    by_case k d within high own false is = differs id _ (λ same.
        let up : e.id ≤ (get_or ids k d).id = subst (λ (x : MapId). x.id ≤ (get_or ids k d).id) own (ordered at k d (ltb-false k at is) within) in
        other (omega (arith, same, up, high)))
