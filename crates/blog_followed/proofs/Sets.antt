-- Fingerprints in a set.
use Rattle.std.proofs.Common.{◌≡◌, ◌<◌, ℕ, Bool, true, false, ◌||◌, cond, List, [], ◌∷◌, ◌++◌, refl, sym, ap, ap₂, ◌∙◌, arith}
use Rattle.std.specs.Prelude.{nat_eq, nat_lt}
use Rattle.std.specs.List.{list_any}
use Rattle.std.specs.BTreeMap.{is_at}
use Rattle.std.specs.BTreeSet.{BTreeSet, contains}
use Rattle.std.specs.Ordering.{is_eq, nat_cmp}
use Rattle.std.specs.declared.cmp.Ordering.TheVariants.{Less, Equal, Greater}
use Rattle.std.proofs.lemmas.Bool.{eq-eqb, eqb-true, false≢true, ltb-true}
use Rattle.std.proofs.lemmas.List.Folds.{list_any-append}
use Rattle.blog_later.specs.Prints.{HavePrints}

less-differs : (p q : ℕ) → nat_lt p q ≡ true → nat_eq p q ≡ false
less-differs p q less = by_case (nat_eq p q) refl
  where
    by_case : (b : Bool) → nat_eq p q ≡ b → nat_eq p q ≡ false
    by_case false e = e
    by_case true e = let below : p < q = ltb-true p q less in let same : p ≡ q = eqb-true p q e in absurd (omega (arith, below, same))

of-equal : (b : Bool) → is_eq (cond b Equal Greater) ≡ b
of-equal true = refl
of-equal false = refl

at-equal : (p q : ℕ) → is_at (nat_cmp p) q ≡ nat_eq p q
at-equal p q = by_case (nat_lt p q) refl
  where
    by_case : (b : Bool) → nat_lt p q ≡ b → is_at (nat_cmp p) q ≡ nat_eq p q
    by_case true e = ap (λ b. is_eq (cond b Less (cond (nat_eq p q) Equal Greater))) e ∙ sym (less-differs p q e)
    by_case false e = ap (λ b. is_eq (cond b Less (cond (nat_eq p q) Equal Greater))) e ∙ of-equal (nat_eq p q)

equal-swap : (p q : ℕ) → nat_eq p q ≡ nat_eq q p
equal-swap p q = by_case (nat_eq p q) refl (nat_eq q p) refl
  where
    by_case : (a : Bool) → nat_eq p q ≡ a → (b : Bool) → nat_eq q p ≡ b → nat_eq p q ≡ nat_eq q p
    by_case true e true h = e ∙ sym h
    by_case true e false h = absurd (false≢true (sym h ∙ eq-eqb q p (sym (eqb-true p q e))))
    by_case false e true h = absurd (false≢true (sym e ∙ eq-eqb p q (sym (eqb-true q p h))))
    by_case false e false h = e ∙ sym h

any-at : (q : ℕ) (keys : List ℕ) → list_any (is_at (nat_cmp q)) keys ≡ list_any (nat_eq q) keys
any-at q [] = refl
any-at q (k ∷ keys) = ap₂ ◌||◌ (at-equal q k) (any-at q keys)

or-of : (b c : Bool) → cond b true c ≡ (b || c)
or-of true c = refl
or-of false c = refl

pub inserted : (old new : BTreeSet ℕ) (print : ℕ) → ((q : ℕ) → contains nat_cmp new q ≡ cond (is_at (nat_cmp print) q) true (contains nat_cmp old q))
    → (q : ℕ) → list_any (nat_eq q) new.keys ≡ (nat_eq q print || list_any (nat_eq q) old.keys)
inserted old new print put q =
    sym (any-at q new.keys) ∙ put q ∙ or-of (is_at (nat_cmp print) q) (contains nat_cmp old q)
    ∙ ap₂ ◌||◌ (at-equal print q ∙ equal-swap print q) (any-at q old.keys)

-- behind other fingerprints
pub more-kept : (these old new : List ℕ) (print : ℕ) → ((q : ℕ) → list_any (nat_eq q) new ≡ (nat_eq q print || list_any (nat_eq q) old)) → HavePrints (print ∷ (these ++ old)) (these ++ new)
more-kept these old new print put = λ q.
    list_any-append (nat_eq q) these new ∙ ap (λ b. list_any (nat_eq q) these || b) (put q)
    ∙ swapped (list_any (nat_eq q) these) (nat_eq q print) (list_any (nat_eq q) old)
    ∙ ap (λ b. nat_eq q print || b) (sym (list_any-append (nat_eq q) these old))
  where
    swapped : (a b c : Bool) → (a || (b || c)) ≡ (b || (a || c))
    swapped true true c = refl
    swapped true false c = refl
    swapped false true c = refl
    swapped false false c = refl
