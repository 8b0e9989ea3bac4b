-- Changes of others that take no row of a pair leave all pairs as they are.
use Rattle.std.proofs.Common.{◌≡◌, ℕ, zero, suc, ◌||◌, Bool, true, false, List, [], ◌∷◌, ◌++◌, Option, Some, None, refl, sym, ap, ◌∙◌, subst, append-nil}
use Rattle.std.specs.Prelude.{if◌then◌else◌, nat_eq, option_map}
use Rattle.std.specs.List.{AllByRecursion, cons_option, list_any}
use Rattle.std.proofs.Math.Dec.{eqb-suc-suc}
use Rattle.std.proofs.lemmas.Bool.{cond-false, cond-true, false≢true, or_left, or_right}
use Rattle.blog_row.specs.Image.{Row}
use Rattle.blog_row.specs.TableMap.{Table}
use Rattle.blog_trans.specs.Changes.{Change, Inserted, Deleted, Updated}
use Rattle.blog_undo.specs.ByRows.{has_print_among}
use Rattle.blog_undo.specs.Mixed.{Marked, TableRow, is_same_row, leaves, takes}
use Rattle.blog_undo.specs.Part.{SelectsWithin}
use Rattle.blog_undo.proofs.Rows.{is_row-Decides}
use Rattle.blog_merge.specs.Laws.{outside_of}
use Rattle.blog_merge.specs.Merge.{merged, pairs_after, pairs_by, pairs_by_later, pairs_by_selected}
use Rattle.blog_merge.specs.Pairs.{Pair, in_table, is_of, put, real_row, unless_equal, without, would_be, would_row}
use Rattle.blog_merge.specs.Touching.{HaveSamePairs, outside_touching, with_left}
use Rattle.blog_merge.proofs.Columns.{merged-own}

-- ---- the fingerprints of the real rows

-- a pair's real row has one of the fingerprints
abbrev IsFound : (TableRow → ℕ) → List ℕ → Pair → Type 0
IsFound f prints p = has_print_among f (Some (real_row p)) prints ≡ true

abbrev AreFound : (TableRow → ℕ) → List ℕ → List Pair → Type 0
AreFound f prints ps = AllByRecursion (IsFound f prints) ps

-- they are found among more, too
found-more : (f : TableRow → ℕ) (prints : List ℕ) (c : Change) (p : Pair) → IsFound f prints p → IsFound f (with_left f c prints) p
found-more f prints (Inserted t r) p is = or_right (nat_eq (f (real_row p)) (f (in_table t r))) _ is
found-more f prints (Deleted t r) p is = is
found-more f prints (Updated t r new) p is = or_right (nat_eq (f (real_row p)) (f (in_table t new))) _ is

all-more : (f : TableRow → ℕ) (prints : List ℕ) (c : Change) (ps : List Pair) → AreFound f prints ps → AreFound f (with_left f c prints) ps
all-more f prints c [] are = tt
all-more f prints c (p ∷ ps) are = (found-more f prints c p are.0, all-more f prints c ps are.1)

-- so is a row that was just left
own-print : (n : ℕ) → nat_eq n n ≡ true
own-print zero = refl
own-print (suc n) = eqb-suc-suc n n ∙ own-print n

new-found : (f : TableRow → ℕ) (prints : List ℕ) (p : Pair) → IsFound f (f (real_row p) ∷ prints) p
new-found f prints p = or_left _ (list_any (nat_eq (f (real_row p))) prints) (own-print (f (real_row p)))

-- ---- what becomes of the pairs

all-append : (P : Pair → Type 0) (ps qs : List Pair) → AllByRecursion P ps → AllByRecursion P qs → AllByRecursion P (ps ++ qs)
all-append P [] qs are more = more
all-append P (p ∷ ps) qs are more = (are.0, all-append P ps qs are.1 more)

all-unless : (P : Pair → Type 0) (new : Pair) → P new → AllByRecursion P (unless_equal new)
all-unless P new is = by_case (is_same_row (would_row new) (Some (real_row new))) refl
  where
    by_case : (b : Bool) → is_same_row (would_row new) (Some (real_row new)) ≡ b → AllByRecursion P (unless_equal new)
    by_case true e = subst (AllByRecursion P) (sym (cond-true _ [] (new ∷ []) e)) tt
    by_case false e = subst (AllByRecursion P) (sym (cond-false _ [] (new ∷ []) e)) (is, tt)

all-put : (P : Pair → Type 0) (t : Table) (r : Row) (new : Pair) (ps : List Pair) → P new → AllByRecursion P ps → AllByRecursion P (put t r new ps)
all-put P t r new [] is are = all-unless P new is
all-put P t r new (p ∷ ps) is are = by_case (is_of t r p) refl (all-put P t r new ps is are.1)
  where
    by_case : (b : Bool) → is_of t r p ≡ b → AllByRecursion P (put t r new ps) → AllByRecursion P (put t r new (p ∷ ps))
    by_case true e later = subst (AllByRecursion P) (sym (cond-true (is_of t r p) (unless_equal new ++ ps) (p ∷ put t r new ps) e)) (all-append P (unless_equal new) ps (all-unless P new is) are.1)
    by_case false e later = subst (AllByRecursion P) (sym (cond-false (is_of t r p) (unless_equal new ++ ps) (p ∷ put t r new ps) e)) (are.0, later)

all-without : (P : Pair → Type 0) (t : Table) (r : Row) (ps : List Pair) → AllByRecursion P ps → AllByRecursion P (without t r ps)
all-without P t r [] are = tt
all-without P t r (p ∷ ps) are = by_case (is_of t r p) refl (all-without P t r ps are.1)
  where
    by_case : (b : Bool) → is_of t r p ≡ b → AllByRecursion P (without t r ps) → AllByRecursion P (without t r (p ∷ ps))
    by_case true e later = subst (AllByRecursion P) (sym (cond-true (is_of t r p) ps (p ∷ without t r ps) e)) are.1
    by_case false e later = subst (AllByRecursion P) (sym (cond-false (is_of t r p) ps (p ∷ without t r ps) e)) (are.0, later)

selected-found : (f : TableRow → ℕ) (prints : List ℕ) (c : Change) (ps : List Pair) → AreFound f prints ps → AreFound f (with_left f c prints) (pairs_by_selected c ps)
selected-found f prints (Inserted t r) ps are =
    all-append (IsFound f (f (in_table t r) ∷ prints)) ps _ (all-more f prints (Inserted t r) ps are) (new-found f prints (record { table = t; real = r; would = None }), tt)
selected-found f prints (Deleted t r) ps are = are
selected-found f prints (Updated t r new) ps are =
    all-put (IsFound f (f (in_table t new) ∷ prints)) t r _ ps (new-found f prints (record { table = t; real = new; would = would_be t r ps })) (all-more f prints (Updated t r new) ps are)

later-found : (f : TableRow → ℕ) (prints : List ℕ) (c : Change) (ps : List Pair) → AreFound f prints ps → AreFound f (with_left f c prints) (pairs_by_later c ps)
later-found f prints (Inserted t r) ps are = all-more f prints (Inserted t r) ps are
later-found f prints (Deleted t r) ps are = all-without (IsFound f prints) t r ps are
later-found f prints (Updated t r new) ps are =
    all-put (IsFound f (f (in_table t new) ∷ prints)) t r _ ps (new-found f prints (record { table = t; real = new; would = option_map (merged r new) (would_be t r ps) })) (all-more f prints (Updated t r new) ps are)

-- ---- a row whose fingerprint isn't found

record HasNoPair (t : Table) (r : Row) (ps : List Pair) : Type 0 where
  would : would_be t r ps ≡ Some r
  gone : without t r ps ≡ ps
  puts : (new : Pair) → put t r new ps ≡ ps ++ unless_equal new

no-pair : (f : TableRow → ℕ) (prints : List ℕ) (t : Table) (r : Row) (ps : List Pair) → AreFound f prints ps → has_print_among f (Some (in_table t r)) prints ≡ false → HasNoPair t r ps
no-pair f prints t r [] are none = record { would = refl; gone = refl; puts = λ new. refl }
no-pair f prints t r (p ∷ ps) are none = by_case (is_of t r p) refl (no-pair f prints t r ps are.1 none)
  where
    by_case : (b : Bool) → is_of t r p ≡ b → HasNoPair t r ps → HasNoPair t r (p ∷ ps)
    by_case true e later =
        let (in_t, is_r) = (is_row-Decides t r p.table p.real).0 e in
        absurd (false≢true (sym none ∙ ap (λ u. has_print_among f (Some (in_table u r)) prints) in_t ∙ ap (λ s. has_print_among f (Some (in_table p.table s)) prints) is_r ∙ are.0))
    by_case false e later = record {
      would = cond-false (is_of t r p) p.would (would_be t r ps) e ∙ later.would;
      gone = cond-false (is_of t r p) ps (p ∷ without t r ps) e ∙ ap (λ qs. p ∷ qs) later.gone;
      puts = λ new. cond-false (is_of t r p) (unless_equal new ++ ps) (p ∷ put t r new ps) e ∙ ap (λ qs. p ∷ qs) (later.puts new);
    }

-- a change of others that takes such a row leaves the pairs
untouched-pairs : (f : TableRow → ℕ) (prints : List ℕ) (c : Change) (ps : List Pair) → AreFound f prints ps → has_print_among f (takes c) prints ≡ false → pairs_by_later c ps ≡ ps
untouched-pairs f prints (Inserted t r) ps are none = refl
untouched-pairs f prints (Deleted t r) ps are none = (no-pair f prints t r ps are none).gone
untouched-pairs f prints (Updated t r new) ps are none =
    let h = no-pair f prints t r ps are none in
    let own : option_map (merged r new) (would_be t r ps) ≡ Some new = ap (option_map (merged r new)) h.would ∙ ap Some (merged-own r new) in
    let equal : unless_equal (record { table = t; real = new; would = Some new }) ≡ [] = cond-true (is_same_row (Some (in_table t new)) (Some (in_table t new))) [] _ ((is_row-Decides t new t new).1 (refl, refl)) in
    ap (λ (would : Option Row). put t r (record { table = t; real = new; would = would }) ps) own
    ∙ h.puts (record { table = t; real = new; would = Some new }) ∙ ap (λ qs. ps ++ qs) equal ∙ append-nil ps

-- ---- all changes

same-pairs : (f : TableRow → ℕ) (prints : List ℕ) (part ms : List Marked) (ps : List Pair) → SelectsWithin part ms → AreFound f prints ps
    → pairs_after ps (outside_touching f prints part ms) ≡ pairs_after ps (outside_of part ms)
same-pairs f prints [] [] ps within are = refl
same-pairs f prints [] (m ∷ ms) ps within are = absurd within
same-pairs f prints (p ∷ part) [] ps within are = absurd within
same-pairs f prints (p ∷ part) (m ∷ ms) ps within are =
    by_case m.selected p.selected (has_print_among f (takes m.change) prints) refl refl refl (λ qs rs found. same-pairs f qs part ms rs within.1 found)
  where
    more : List ℕ
    more = with_left f m.change prints

    chosen : List Marked
    chosen = if p.selected then outside_touching f more part ms else m ∷ outside_touching f more part ms

    other : List Marked
    other = if has_print_among f (takes m.change) prints then m ∷ outside_touching f more part ms else outside_touching f prints part ms

    by_case : (s q b : Bool) → m.selected ≡ s → p.selected ≡ q → has_print_among f (takes m.change) prints ≡ b
        → ((qs : List ℕ) (rs : List Pair) → AreFound f qs rs → pairs_after rs (outside_touching f qs part ms) ≡ pairs_after rs (outside_of part ms))
        → pairs_after ps (outside_touching f prints (p ∷ part) (m ∷ ms)) ≡ pairs_after ps (outside_of (p ∷ part) (m ∷ ms))
    by_case true true b s q e again =
        ap (pairs_after ps) (cond-true m.selected chosen other s ∙ cond-true p.selected _ _ q)
        ∙ again more ps (all-more f prints m.change ps are)
        ∙ sym (ap (pairs_after ps) (cond-true p.selected (outside_of part ms) (m ∷ outside_of part ms) q))
    by_case true false b s q e again =
        let by : pairs_by m ps ≡ pairs_by_selected m.change ps = cond-true m.selected (pairs_by_selected m.change ps) (pairs_by_later m.change ps) s in
        ap (pairs_after ps) (cond-true m.selected chosen other s ∙ cond-false p.selected _ _ q)
        ∙ again more (pairs_by m ps) (subst (AreFound f more) (sym by) (selected-found f prints m.change ps are))
        ∙ sym (ap (pairs_after ps) (cond-false p.selected (outside_of part ms) (m ∷ outside_of part ms) q))
    by_case false true b s q e again = absurd (false≢true (sym s ∙ within.0.within q))
    by_case false false true s q e again =
        let by : pairs_by m ps ≡ pairs_by_later m.change ps = cond-false m.selected (pairs_by_selected m.change ps) (pairs_by_later m.change ps) s in
        ap (pairs_after ps) (cond-false m.selected chosen other s ∙ cond-true (has_print_among f (takes m.change) prints) _ _ e)
        ∙ again more (pairs_by m ps) (subst (AreFound f more) (sym by) (later-found f prints m.change ps are))
        ∙ sym (ap (pairs_after ps) (cond-false p.selected (outside_of part ms) (m ∷ outside_of part ms) q))
    by_case false false false s q e again =
        let by : pairs_by m ps ≡ ps = cond-false m.selected (pairs_by_selected m.change ps) (pairs_by_later m.change ps) s ∙ untouched-pairs f prints m.change ps are e in
        ap (pairs_after ps) (cond-false m.selected chosen other s ∙ cond-false (has_print_among f (takes m.change) prints) _ _ e)
        ∙ again prints ps are
        ∙ sym (ap (λ qs. pairs_after qs (outside_of part ms)) by)
        ∙ sym (ap (pairs_after ps) (cond-false p.selected (outside_of part ms) (m ∷ outside_of part ms) q))

pub have-same-pairs : (f : TableRow → ℕ) (part ms : List Marked) → HaveSamePairs f part ms
have-same-pairs f part ms within = same-pairs f [] part ms [] within tt
