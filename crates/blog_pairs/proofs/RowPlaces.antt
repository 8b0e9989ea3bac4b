-- The pair in the first slot of a row is taken out, or another is put in its place.
use Rattle.std.proofs.Common.{◌≡◌, ◌<◌, ◌≤◌, ℕ, zero, suc, Bool, true, false, List, [], ◌∷◌, ◌++◌, length, set, slice_get, Option, Some, None, option_map, refl, sym, ap, ◌∙◌, subst, arith}
use Rattle.std.proofs.lemmas.Bool.{cond-true, cond-false, false≢true}
use Rattle.std.proofs.lemmas.Option.{none-some, same_Some}
use Rattle.blog_merge.specs.Pairs.{Pair, is_of, put, real_row, unless_equal, without, would_be, would_row}
use Rattle.blog_row.specs.Image.{Row}
use Rattle.blog_row.specs.TableMap.{Table}
use Rattle.blog_row.proofs.Cutting.{map_found}
use Rattle.blog_undo.specs.Mixed.{is_same_row}
use Rattle.blog_pairs.specs.Places.{is_in, place_of, present}

-- ---- a row without a pair

pub record HasNoPlace (t : Table) (r : Row) (ps : List (Option Pair)) : Type 0 where
  pub would : would_be t r (present ps) ≡ Some r
  pub taken : without t r (present ps) ≡ present ps
  pub puts : (new : Pair) → put t r new (present ps) ≡ present ps ++ unless_equal new

pub no_place : (t : Table) (r : Row) (ps : List (Option Pair)) → place_of t r ps ≡ None → HasNoPlace t r ps
no_place t r [] e = record { would = refl; taken = refl; puts = λ new. refl }
no_place t r (s ∷ ps) e = by_case (is_in t r s) refl (no_place t r ps)
  where
    nothing : (o : Option ℕ) → option_map suc o ≡ None → o ≡ None
    nothing None e = refl
    nothing (Some n) e = absurd (none-some (suc n) (sym e))

    next : (s : Option Pair) → is_in t r s ≡ false → HasNoPlace t r ps → HasNoPlace t r (s ∷ ps)
    next None is h = record { would = h.would; taken = h.taken; puts = h.puts }
    next (Some p) is h = record {
      would = cond-false (is_of t r p) p.would (would_be t r (present ps)) is ∙ h.would;
      taken = cond-false (is_of t r p) (present ps) (p ∷ without t r (present ps)) is ∙ ap (λ qs. p ∷ qs) h.taken;
      puts = λ new. cond-false (is_of t r p) (unless_equal new ++ present ps) (p ∷ put t r new (present ps)) is ∙ ap (λ qs. p ∷ qs) (h.puts new);
    }

    by_case : (b : Bool) → is_in t r s ≡ b → (place_of t r ps ≡ None → HasNoPlace t r ps) → HasNoPlace t r (s ∷ ps)
    by_case true is later = absurd (none-some 0 (sym e ∙ cond-true (is_in t r s) (Some 0) (option_map suc (place_of t r ps)) is))
    by_case false is later = next s is (later (nothing (place_of t r ps) (sym (cond-false (is_in t r s) (Some 0) (option_map suc (place_of t r ps)) is) ∙ e)))

-- ---- a row with one

pub record HasPlace (t : Table) (r : Row) (ps : List (Option Pair)) (k : ℕ) : Type 0 where
  pub within : k < length ps
  pub pair : Pair
  pub there : slice_get ps k ≡ Some (Some pair)
  pub is : is_of t r pair ≡ true
  pub would : would_be t r (present ps) ≡ pair.would
  pub taken : without t r (present ps) ≡ present (set ps k None)
  pub puts : (new : Pair) (o : Option Pair) → unless_equal new ≡ present (o ∷ []) → put t r new (present ps) ≡ present (set ps k o)

in_front : (o : Option Pair) (ps : List (Option Pair)) → present (o ∷ []) ++ present ps ≡ present (o ∷ ps)
in_front None ps = refl
in_front (Some p) ps = refl

pub has_place : (t : Table) (r : Row) (ps : List (Option Pair)) (k : ℕ) → place_of t r ps ≡ Some k → HasPlace t r ps k
has_place t r [] k e = absurd (none-some k e)
has_place t r (s ∷ ps) k e = by_case (is_in t r s) refl (has_place t r ps)
  where
    first : (s : Option Pair) → is_in t r s ≡ true → HasPlace t r (s ∷ ps) 0
    first None is = absurd (false≢true is)
    first (Some p) is = record {
      within = omega arith;
      pair = p;
      there = refl;
      is = is;
      would = cond-true (is_of t r p) p.would (would_be t r (present ps)) is;
      taken = cond-true (is_of t r p) (present ps) (p ∷ without t r (present ps)) is;
      puts = λ new o e. cond-true (is_of t r p) (unless_equal new ++ present ps) (p ∷ put t r new (present ps)) is ∙ ap (λ qs. qs ++ present ps) e ∙ in_front o ps;
    }

    next : (s : Option Pair) (j : ℕ) → is_in t r s ≡ false → HasPlace t r ps j → HasPlace t r (s ∷ ps) (suc j)
    next None j is h = record {
      within = omega (arith, h.within);
      pair = h.pair;
      there = h.there;
      is = h.is;
      would = h.would;
      taken = h.taken;
      puts = h.puts;
    }
    next (Some p) j is h = record {
      within = omega (arith, h.within);
      pair = h.pair;
      there = h.there;
      is = h.is;
      would = cond-false (is_of t r p) p.would (would_be t r (present ps)) is ∙ h.would;
      taken = cond-false (is_of t r p) (present ps) (p ∷ without t r (present ps)) is ∙ ap (λ qs. p ∷ qs) h.taken;
      puts = λ new o e. cond-false (is_of t r p) (unless_equal new ++ present ps) (p ∷ put t r new (present ps)) is ∙ ap (λ qs. p ∷ qs) (h.puts new o e);
    }

    by_case : (b : Bool) → is_in t r s ≡ b → ((j : ℕ) → place_of t r ps ≡ Some j → HasPlace t r ps j) → HasPlace t r (s ∷ ps) k
    by_case true is later = subst (HasPlace t r (s ∷ ps)) (same_Some 0 k (sym (cond-true (is_in t r s) (Some 0) (option_map suc (place_of t r ps)) is) ∙ e)) (first s is)
    by_case false is later =
        let a = map_found suc (place_of t r ps) k (sym (cond-false (is_in t r s) (Some 0) (option_map suc (place_of t r ps)) is) ∙ e) in
        subst (HasPlace t r (s ∷ ps)) a.2 (next s a.0 is (later a.0 a.1))

-- ---- which slot it is

misses : (t : Table) (r : Row) (s : Option Pair) → ((p : Pair) → Some s ≡ Some (Some p) → is_of t r p ≡ true → ⊥) → is_in t r s ≡ false
misses t r None never = refl
misses t r (Some p) never = by_case (is_of t r p) refl
  where
    by_case : (b : Bool) → is_of t r p ≡ b → b ≡ false
    by_case true is = absurd (never p refl is)
    by_case false is = refl

-- no slot has the row
pub none_from : (t : Table) (r : Row) (ps : List (Option Pair)) → ((i : ℕ) (p : Pair) → slice_get ps i ≡ Some (Some p) → is_of t r p ≡ true → ⊥) → place_of t r ps ≡ None
none_from t r [] never = refl
none_from t r (s ∷ ps) never =
    cond-false (is_in t r s) (Some 0) (option_map suc (place_of t r ps)) (misses t r s (never 0))
    ∙ ap (option_map suc) (none_from t r ps (λ i p. never (suc i) p))

-- a slot has it, and none before
pub first_from : (t : Table) (r : Row) (ps : List (Option Pair)) (k : ℕ) (s : Option Pair) → slice_get ps k ≡ Some s → is_in t r s ≡ true
    → ((i : ℕ) (q : Pair) → slice_get ps i ≡ Some (Some q) → is_of t r q ≡ true → k ≤ i) → place_of t r ps ≡ Some k
first_from t r [] k s e is first = absurd (none-some s e)
first_from t r (s' ∷ ps) zero s e is first = cond-true (is_in t r s') (Some 0) (option_map suc (place_of t r ps)) (ap (is_in t r) (same_Some s' s e) ∙ is)
first_from t r (s' ∷ ps) (suc k) s e is first =
    cond-false (is_in t r s') (Some 0) (option_map suc (place_of t r ps)) (misses t r s' (λ q at h. absurd (below k (first 0 q at h))))
    ∙ ap (option_map suc) (first_from t r ps k s e is (λ i q at h. fewer k i (first (suc i) q at h)))
  where
    below : (k : ℕ) → suc k ≤ 0 → ⊥
    below k h = omega (arith, h)

    fewer : (k i : ℕ) → suc k ≤ suc i → k ≤ i
    fewer k i h = omega (arith, h)

-- ---- whether a pair is kept

pub is_dropped : (new : Pair) → is_same_row (would_row new) (Some (real_row new)) ≡ true → unless_equal new ≡ []
is_dropped new is = cond-true (is_same_row (would_row new) (Some (real_row new))) [] (new ∷ []) is

pub is_kept : (new : Pair) → is_same_row (would_row new) (Some (real_row new)) ≡ false → unless_equal new ≡ new ∷ []
is_kept new is = cond-false (is_same_row (would_row new) (Some (real_row new))) [] (new ∷ []) is
