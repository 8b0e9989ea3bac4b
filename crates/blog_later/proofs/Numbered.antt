-- Fingerprints with numbers of lists.
use Rattle.std.proofs.Common.{◌≡◌, ℕ, suc, ◌+◌, ◌-◌, ◌*◌, ◌/◌, ◌%◌, ◌<◌, ◌≤◌, Bool, true, false, ◌&&◌, ◌||◌, List, [], ◌∷◌, ◌++◌, length, Option, Some, None, Result, Ok, Err, ◌⊎◌, inl, inr, refl, sym, ap, ap₂, ◌∙◌, arith, append_assoc, append-nil, ne_eqb, take}
use Rattle.std.specs.Prelude.{if◌then◌else◌, nat_eq, nat_lt, option_map, slice_index_or, MatchResult}
use Rattle.std.specs.List.{cons_option, flat_map, list_any}
use Rattle.std.specs.List.Sorted.{IsBinarySearchResult, IsSorted}
use Rattle.std.specs.Ordering.{nat_cmp}
use Rattle.std.proofs.Math.Seq.{take-nil}
use Rattle.std.proofs.lemmas.Bool.{cases_lt, eq-eqb, lt-ltb, le-ltb}
use Rattle.std.proofs.lemmas.List.{get_or_default}
use Rattle.std.proofs.lemmas.List.Concat.{flat_map-append}
use Rattle.std.proofs.lemmas.List.Folds.{list_any-append, list_any_at, list_any_none}
use Rattle.std.proofs.lemmas.List.Sorted.{IsNonDecreasingBy-from_sort, searched}
use Rattle.blog_trans.specs.Changes.{Change}
use Rattle.blog_undo.specs.Mixed.{TableRow, leaves}
use Rattle.blog_later.specs.Prints.{prints_before, prints_left, print_in, print_of}
use Rattle.blog_later.specs.code.LeavingView.{numbered}
use Rattle.blog_later.proofs.Counting.{left-append}
use mathlib.Core.Logic.{⊎_elim}

-- ---- a fingerprint is kept of the first k lists

-- an entry is one
abbrev pub is_before : ℕ → ℕ → ℕ → Bool
is_before p k e = nat_lt (e % 4294967296) k && nat_eq p (e / 4294967296)

pub any-before : (p k : ℕ) (es : List ℕ) → list_any (nat_eq p) (prints_before k es) ≡ list_any (is_before p k) es
any-before p k [] = refl
any-before p k (e ∷ es) = step (nat_lt (e % 4294967296) k) (e / 4294967296) (prints_before k es) ∙ ap (λ b. is_before p k e || b) (any-before p k es)
  where
    step : (b : Bool) (q : ℕ) (rest : List ℕ) → list_any (nat_eq p) (cons_option (if b then Some q else None) rest) ≡ ((b && nat_eq p q) || list_any (nat_eq p) rest)
    step true q rest = refl
    step false q rest = refl

-- it lies between the first entry of its fingerprint and that of the k-th list
inside : (p k e : ℕ) → k ≤ 4294967296 → p * 4294967296 ≤ e → e < p * 4294967296 + k → is_before p k e ≡ true
inside p k e few low high =
    let number : e % 4294967296 < k = omega (arith, few, low, high) in
    let print : p ≡ e / 4294967296 = omega (arith, few, low, high) in
    ap₂ ◌&&◌ (lt-ltb (e % 4294967296) k number) (eq-eqb p (e / 4294967296) print)

outside : (p k e : ℕ) → (e < p * 4294967296) ⊎ (p * 4294967296 + k ≤ e) → is_before p k e ≡ false
outside p k e off =
    ⊎_elim (λ low. ap₂ ◌&&◌ (lt-ltb (e % 4294967296) k low) (ne_eqb p (e / 4294967296) (λ same. ⊎_elim (λ less. omega (arith, same, low, less)) (λ more. omega (arith, same, low, more)) off)))
    (λ high. ap (λ (b : Bool). b && nat_eq p (e / 4294967296)) (le-ltb (e % 4294967296) k high)) (cases_lt (e % 4294967296) k)

-- ---- of lists with their numbers

-- one list
one-list : (p k n : ℕ) (cs : List Change) → n < 4294967296 → list_any (is_before p k) (prints_left (print_in n) cs) ≡ (nat_lt n k && list_any (nat_eq p) (prints_left print_of cs))
one-list p k n [] few = none (nat_lt n k)
  where
    none : (b : Bool) → false ≡ (b && false)
    none true = refl
    none false = refl
one-list p k n (c ∷ cs) few = by_case (leaves c) (one-list p k n cs few)
  where
    numbers : (q : ℕ) → is_before p k (q * 4294967296 + n) ≡ (nat_lt n k && nat_eq p q)
    numbers q =
        let number : (q * 4294967296 + n) % 4294967296 ≡ n = omega (arith, few) in
        let print : (q * 4294967296 + n) / 4294967296 ≡ q = omega (arith, few) in
        ap₂ (λ (m r : ℕ). nat_lt m k && nat_eq p r) number print

    spread : (b x y : Bool) → ((b && x) || (b && y)) ≡ (b && (x || y))
    spread true x y = refl
    spread false x y = refl

    by_case : (o : Option TableRow) → list_any (is_before p k) (prints_left (print_in n) cs) ≡ (nat_lt n k && list_any (nat_eq p) (prints_left print_of cs))
        → list_any (is_before p k) (cons_option (option_map (print_in n) o) (prints_left (print_in n) cs))
        ≡ (nat_lt n k && list_any (nat_eq p) (cons_option (option_map print_of o) (prints_left print_of cs)))
    by_case None others = others
    by_case (Some r) others = ap₂ ◌||◌ (numbers (print_of r)) others ∙ spread (nat_lt n k) (nat_eq p (print_of r)) (list_any (nat_eq p) (prints_left print_of cs))

any-from : (p k n : ℕ) (css : List (List Change)) → n + length css ≤ 4294967296
    → list_any (is_before p k) (numbered n css) ≡ list_any (nat_eq p) (prints_left print_of (flat_map (λ cs. cs) (take (k - n) css)))
any-from p k n [] few = sym (ap (λ (css : List (List Change)). list_any (nat_eq p) (prints_left print_of (flat_map (λ cs. cs) css))) (take-nil (k - n)))
any-from p k n (cs ∷ css) few =
    list_any-append (is_before p k) (prints_left (print_in n) cs) (numbered (n + 1) css)
    ∙ ap₂ ◌||◌ (one-list p k n cs (omega (arith, few))) (any-from p k (n + 1) css (omega (arith, few)))
    ∙ ⊎_elim earlier later (cases_lt n k)
  where
    rest : ℕ → List Change
    rest m = flat_map (λ cs. cs) (take m css)

    kept : ℕ → Bool
    kept m = list_any (nat_eq p) (prints_left print_of (rest m))

    own : Bool
    own = list_any (nat_eq p) (prints_left print_of cs)

    earlier : n < k → ((nat_lt n k && own) || kept (k - (n + 1))) ≡ list_any (nat_eq p) (prints_left print_of (flat_map (λ cs. cs) (take (k - n) (cs ∷ css))))
    earlier less =
        let one : k - n ≡ suc (k - (n + 1)) = omega (arith, less) in
        ap (λ b. (b && own) || kept (k - (n + 1))) (lt-ltb n k less)
        ∙ sym (list_any-append (nat_eq p) (prints_left print_of cs) (prints_left print_of (rest (k - (n + 1)))))
        ∙ ap (list_any (nat_eq p)) (sym (left-append print_of cs (rest (k - (n + 1)))))
        ∙ ap (λ (m : ℕ). list_any (nat_eq p) (prints_left print_of (flat_map (λ cs. cs) (take m (cs ∷ css))))) (sym one)

    later : k ≤ n → ((nat_lt n k && own) || kept (k - (n + 1))) ≡ list_any (nat_eq p) (prints_left print_of (flat_map (λ cs. cs) (take (k - n) (cs ∷ css))))
    later more =
        let none : k - n ≡ 0 = omega (arith, more) in
        let nor : k - (n + 1) ≡ 0 = omega (arith, more) in
        ap₂ (λ (b : Bool) (m : ℕ). (b && own) || kept m) (le-ltb n k more) nor
        ∙ ap (λ (m : ℕ). list_any (nat_eq p) (prints_left print_of (flat_map (λ cs. cs) (take m (cs ∷ css))))) (sym none)

pub any-numbered : (p k : ℕ) (css : List (List Change)) → length css < 4294967296
    → list_any (is_before p k) (numbered 0 css) ≡ list_any (nat_eq p) (prints_left print_of (flat_map (λ cs. cs) (take k css)))
any-numbered p k css few =
    let all : k - 0 ≡ k = omega arith in
    any-from p k 0 css (omega (arith, few)) ∙ ap (λ (m : ℕ). list_any (nat_eq p) (prints_left print_of (flat_map (λ cs. cs) (take m css)))) all

-- one more list
numbered-more : (n : ℕ) (css : List (List Change)) (cs : List Change) → numbered n (css ++ cs ∷ []) ≡ numbered n css ++ prints_left (print_in (n + length css)) cs
numbered-more n [] cs = let same : n ≡ n + 0 = omega arith in append-nil (prints_left (print_in n) cs) ∙ ap (λ (m : ℕ). prints_left (print_in m) cs) same
numbered-more n (ds ∷ css) cs =
    let same : (n + 1) + length css ≡ n + suc (length css) = omega arith in
    ap (λ (es : List ℕ). prints_left (print_in n) ds ++ es) (numbered-more (n + 1) css cs ∙ ap (λ (m : ℕ). numbered (n + 1) css ++ prints_left (print_in m) cs) same)
    ∙ sym (append_assoc (prints_left (print_in n) ds) (numbered (n + 1) css) (prints_left (print_in (n + suc (length css))) cs))

pub rows-more : (css : List (List Change)) (cs : List Change) (n : ℕ) (old new : List ℕ) → old ≡ numbered 0 css → n ≡ length css → new ≡ old ++ prints_left (print_in n) cs → new ≡ numbered 0 (css ++ cs ∷ [])
rows-more css cs n old new were many put =
    let zero : 0 + length css ≡ length css = omega arith in
    put ∙ ap₂ (λ (es : List ℕ) (m : ℕ). es ++ prints_left (print_in m) cs) were (many ∙ sym zero) ∙ sym (numbered-more 0 css cs)

pub tables-more : (f : TableRow → ℕ) (css : List (List Change)) (cs : List Change) (old new : List ℕ) → old ≡ prints_left f (flat_map (λ cs. cs) css) → new ≡ old ++ prints_left f cs
    → new ≡ prints_left f (flat_map (λ cs. cs) (css ++ cs ∷ []))
tables-more f css cs old new were put =
    put ∙ ap (λ (es : List ℕ). es ++ prints_left f cs) were ∙ sym (left-append f (flat_map (λ cs. cs) css) cs)
    ∙ ap (prints_left f) (sym (flat_map-append (λ cs. cs) css (cs ∷ []) ∙ ap (λ (ds : List Change). flat_map (λ cs. cs) css ++ ds) (append-nil cs)))

-- ---- in order

-- what a look-up returns of the entry with which it ends
abbrev pub is_found : List ℕ → ℕ → ℕ → Result ℕ ℕ → Bool
is_found es p k (Ok i) = nat_lt 0 k
is_found es p k (Err i) = nat_lt i (length es) && nat_lt (slice_index_or es i 0) (p * 4294967296 + k)

pub found-before : (es : List ℕ) (p k : ℕ) (r : Result ℕ ℕ) → k ≤ 4294967296 → IsBinarySearchResult (λ y. nat_cmp y (p * 4294967296)) es r → IsSorted nat_cmp es
    → is_found es p k r ≡ list_any (nat_eq p) (prints_before k es)
found-before es p k r few is sorted = by_case r (searched es (p * 4294967296) r is rises) ∙ sym (any-before p k es)
  where
    rises : (i j : ℕ) → i ≤ j → j < length es → slice_index_or es i 0 ≤ slice_index_or es j 0
    rises i j low high = IsNonDecreasingBy-from_sort (λ y. y) es sorted i j 0 low high

    by_case : (s : Result ℕ ℕ)
        → MatchResult s (λ i. (i < length es) × (slice_index_or es i 0 ≡ p * 4294967296))
        (λ i. (i ≤ length es) × ((j : ℕ) → j < i → slice_index_or es j 0 < p * 4294967296) × ((j : ℕ) → i ≤ j → j < length es → p * 4294967296 < slice_index_or es j 0))
        → is_found es p k s ≡ list_any (is_before p k) es
    by_case (Ok i) (there, same) =
        ⊎_elim (λ some. lt-ltb 0 k some ∙ sym (list_any_at (is_before p k) es i 0 there (inside p k (slice_index_or es i 0) few (omega (arith, same)) (omega (arith, same, some)))))
        (λ none. le-ltb 0 k none ∙ sym (list_any_none (is_before p k) es (λ j d at. outside p k (slice_index_or es j d) (⊎_elim (λ low. inl low) (λ high. inr (omega (arith, none, high))) (cases_lt (slice_index_or es j d) (p * 4294967296))))))
        (cases_lt 0 k)
    by_case (Err i) (within, below, above) = ⊎_elim there past (cases_lt i (length es))
      where
        past : length es ≤ i → is_found es p k (Err i) ≡ list_any (is_before p k) es
        past end =
            ap (λ b. b && nat_lt (slice_index_or es i 0) (p * 4294967296 + k)) (le-ltb i (length es) end)
            ∙ sym (list_any_none (is_before p k) es (λ j d at.
            let less : slice_index_or es j 0 < p * 4294967296 = below j (omega (arith, at, end)) in
            outside p k (slice_index_or es j d) (inl (omega (arith, less, get_or_default es j d 0 at)))))

        there : i < length es → is_found es p k (Err i) ≡ list_any (is_before p k) es
        there at =
            ⊎_elim
            (λ less.
            let more : p * 4294967296 < slice_index_or es i 0 = above i (omega arith) at in
            ap₂ ◌&&◌ (lt-ltb i (length es) at) (lt-ltb (slice_index_or es i 0) (p * 4294967296 + k) less)
            ∙ sym (list_any_at (is_before p k) es i 0 at (inside p k (slice_index_or es i 0) few (omega (arith, more)) less)))
            (λ high.
            ap₂ ◌&&◌ (lt-ltb i (length es) at) (le-ltb (slice_index_or es i 0) (p * 4294967296 + k) high)
            ∙ sym (list_any_none (is_before p k) es (λ j d within_j. outside p k (slice_index_or es j d) (⊎_elim
            (λ low. let less : slice_index_or es j 0 < p * 4294967296 = below j low in inl (omega (arith, less, get_or_default es j d 0 within_j)))
            (λ from. let over : slice_index_or es i 0 ≤ slice_index_or es j 0 = rises i j from within_j in inr (omega (arith, high, over, get_or_default es j d 0 within_j)))
            (cases_lt j i)))))
            (cases_lt (slice_index_or es i 0) (p * 4294967296 + k))
