-- What is seen of logs, one after the other, and what follows from it.
use Rattle.std.proofs.Common.{◌≡◌, ℕ, ◌+◌, ◌-◌, ◌^◌, ◌≤◌, ◌<◌, true, false, ◌||◌, List, [], ◌∷◌, ◌++◌, length, map, Option, Some, None, refl, sym, ap, ◌∙◌, arith, length-append, append-nil, inl, inr, ◌⊎◌}
use Rattle.std.specs.Prelude.{filter, is_some, min, option_map, slice_get}
use Rattle.std.specs.List.{flat_map}
use Rattle.std.proofs.Math.Bool.{or-false}
use Rattle.std.proofs.lemmas.Bool.{false≢true}
use Rattle.std.proofs.lemmas.Grind.{flat_map-append}
use Rattle.std.proofs.lemmas.List.{length-map}
use Rattle.std.proofs.lemmas.List.Folds.{list_any-append}
use Rattle.blog_choice.specs.Choice.{Choice}
use Rattle.blog_later.proofs.Counting.{at-more}
use Rattle.blog_later.specs.Later.{is_accepted, is_apart, may_concern}
use Rattle.blog_later.specs.code.Counted.{at_most, starts}
use Rattle.blog_later.specs.declared.looked.Looked.{Looked}
use Rattle.blog_units.specs.Units.{Facts}
use Rattle.undo_run.specs.After.{Later, Place, is_damaged, last_end, last_next, next_log, place_at, place_in, places_apart, unknown_units}
use Rattle.undo_run.specs.code.SinceView.{AreSeen, IsLooked, place_seen}
use Rattle.undo_run.specs.declared.since.Since as told

-- ---- one more log

one-more : {A B : Type 0} (f : A → List B) (xs : List A) (x : A) → flat_map f (xs ++ x ∷ []) ≡ flat_map f xs ++ f x
one-more f xs x = flat_map-append f xs (x ∷ []) ∙ ap (λ (ys : List _). flat_map f xs ++ ys) (append-nil (f x))

more-counted : {A B : Type 0} (f : A → List B) (xs : List A) (x : A) (n m : ℕ) → n ≡ at_most (length (flat_map f xs)) → m ≡ at_most (length (f x))
    → min (n + m) (2 ^ 64 - 1) ≡ at_most (length (flat_map f (xs ++ x ∷ [])))
more-counted f xs x n m is more =
    at-more n m (length (flat_map f xs)) (length (f x)) is more ∙ ap at_most (sym (ap length (one-more f xs x) ∙ length-append (flat_map f xs) (f x)))

-- a length that a number of 64 bits has
pub counted-starts : (us : List Facts) (ns : List ℕ) (n : ℕ) → ns ≡ starts us → n ≡ length ns → n ≤ 2 ^ 64 - 1 → n ≡ at_most (length us)
counted-starts us ns n are is small = let same : length ns ≡ length us = ap length are ∙ length-map us (λ u. u.start) in omega (arith, is, small, same)

pub counted-places : (f : ℕ → Place) (us : List Facts) (ns : List ℕ) (n : ℕ) → ns ≡ starts us → n ≡ length ns → n ≤ 2 ^ 64 - 1 → n ≡ at_most (length (map f (starts us)))
counted-places f us ns n are is small = let same : length (map f (starts us)) ≡ length ns = length-map (starts us) f ∙ ap length (sym are) in omega (arith, is, small, same)

pub last-more : (e : Option Place) (ls : List Later) (l : Later) → last_end e (ls ++ l ∷ []) ≡ Some (place_in l.names l.end)
last-more e [] l = refl
last-more e (k ∷ ls) l = last-more (Some (place_in k.names k.end)) ls l

next-more : (next : List ℕ) (ls : List Later) (l : Later) → last_next next (ls ++ l ∷ []) ≡ next_log l.handed
next-more next [] l = refl
next-more next (k ∷ ls) l = next-more (next_log k.handed) ls l

more-damaged : (ls : List Later) (l : Later) → is_damaged (ls ++ l ∷ []) ≡ (is_damaged ls || is_some l.fault)
more-damaged ls l = list_any-append (λ k. is_some k.fault) ls (l ∷ []) ∙ ap (λ b. is_damaged ls || b) (or-false (is_some l.fault))

pub with-more : {A B : Type 0} (n m : ℕ) (choice : Choice) (ls : List Later) (l : Later) (looked : Looked A) (old new : told.Since B) (unknown apart : ℕ)
    → IsLooked m choice l looked → AreSeen n choice ls old
    → unknown ≡ length looked.unknown.items → unknown ≤ 2 ^ 64 - 1 → apart ≡ length looked.apart.items → apart ≤ 2 ^ 64 - 1
    → new.units ≡ min (old.units + looked.units) (2 ^ 64 - 1) → new.touched ≡ min (old.touched + looked.touched) (2 ^ 64 - 1)
    → new.unknown ≡ min (old.unknown + unknown) (2 ^ 64 - 1) → new.apart ≡ min (old.apart + apart) (2 ^ 64 - 1)
    → ((ps : List Place) → option_map place_seen old.first ≡ slice_get ps 0 → option_map place_seen new.first ≡ slice_get (ps ++ map (place_at l.names l.handed l.end) looked.apart.items) 0)
    → option_map place_seen new.end ≡ Some (place_in l.names l.end) → new.next.items ≡ next_log l.handed → new.is_damaged ≡ (old.is_damaged || is_some l.fault)
    → AreSeen (n + m) choice (ls ++ l ∷ []) new
with-more n m choice ls l looked old new unknown apart is are unknown-len unknown-small apart-len apart-small units-are touched-are unknown-are apart-are first-is end-is next-is damaged-is =
    let apart-of : Later → List Place = λ k. map (place_at k.names k.handed k.end) (starts (filter (is_apart choice k.handed) k.units)) in record {
      units = units-are ∙ more-counted (λ k. filter (is_accepted k.handed) k.units) ls l old.units looked.units are.units is.units;
      touched = touched-are ∙ at-more old.touched looked.touched n m are.touched is.touched;
      unknown = unknown-are ∙ more-counted (λ k. filter (may_concern choice k.handed) k.units) ls l old.unknown unknown are.unknown
          (counted-starts (filter (may_concern choice l.handed) l.units) looked.unknown.items unknown is.unknown unknown-len unknown-small);
      apart = apart-are ∙ more-counted apart-of ls l old.apart apart are.apart
          (counted-places (place_at l.names l.handed l.end) (filter (is_apart choice l.handed) l.units) looked.apart.items apart is.apart apart-len apart-small);
      first = first-is (places_apart choice ls) are.first
          ∙ ap (λ (ats : List ℕ). slice_get (places_apart choice ls ++ map (place_at l.names l.handed l.end) ats) 0) is.apart
          ∙ ap (λ (ps : List Place). slice_get ps 0) (sym (one-more apart-of ls l));
      end = end-is ∙ sym (last-more None ls l);
      next = next-is ∙ sym (next-more [] ls l);
      damaged = damaged-is ∙ ap (λ b. b || is_some l.fault) are.damaged ∙ sym (more-damaged ls l);
    }

-- the first place of more
pub first-there : (p : Place) (ps qs : List Place) → Some p ≡ slice_get ps 0 → Some p ≡ slice_get (ps ++ qs) 0
first-there p [] qs e = absurd (some-none e)
  where
    some-none : Some p ≡ None → ⊥
    some-none e = false≢true (sym (ap is_some e))
first-there p (q ∷ ps) qs e = e

pub first-none : (o : Option Place) (ps qs : List Place) → None ≡ slice_get ps 0 → o ≡ slice_get qs 0 → o ≡ slice_get (ps ++ qs) 0
first-none o [] qs e is = is
first-none o (p ∷ ps) qs e is = absurd (false≢true (ap is_some e))

pub mapped-first : (f : ℕ → Place) (ns : List ℕ) (n : ℕ) → Some n ≡ slice_get ns 0 → Some (f n) ≡ slice_get (map f ns) 0
mapped-first f [] n e = absurd (false≢true (sym (ap is_some e)))
mapped-first f (m ∷ ns) n e = ap (option_map f) e

-- ---- what follows from it

pub some-more : (n m : ℕ) → n ≡ at_most m → 0 < n → 0 < m
some-more n m is some = omega (arith, is, some)

pub none-more : (n m : ℕ) → n ≡ at_most m → n ≡ 0 → m ≡ 0
none-more n m is none = omega (arith, is, none)

pub none-left : {A : Type 0} (xs : List A) → length xs ≡ 0 → xs ≡ []
none-left [] e = refl
none-left (x ∷ xs) e = absurd (omega (arith, e))

pub changed-since : {A : Type 0} (m : ℕ) (choice : Choice) (ls : List Later) (since : told.Since A) → AreSeen m choice ls since → 0 < since.touched → (since.touched ≡ at_most m) × (0 < m)
changed-since m choice ls since are some = (are.touched, some-more since.touched m are.touched some)

pub unknown-since : {A : Type 0} (m : ℕ) (choice : Choice) (ls : List Later) (since : told.Since A) → AreSeen m choice ls since → since.touched ≡ 0 → (0 < since.unknown) ⊎ (since.is_damaged ≡ true)
    → (m ≡ 0) × ((0 < length (unknown_units choice ls)) ⊎ (is_damaged ls ≡ true))
unknown-since m choice ls since are none (inl some) = (none-more since.touched m are.touched none, inl (some-more since.unknown (length (unknown_units choice ls)) are.unknown some))
unknown-since m choice ls since are none (inr damaged) = (none-more since.touched m are.touched none, inr (sym are.damaged ∙ damaged))

pub clear-since : {A : Type 0} (m : ℕ) (choice : Choice) (ls : List Later) (since : told.Since A) → AreSeen m choice ls since → since.touched ≡ 0 → since.unknown ≡ 0 → since.is_damaged ≡ false
    → (m ≡ 0) × (unknown_units choice ls ≡ []) × (is_damaged ls ≡ false)
clear-since m choice ls since are none known whole =
    (none-more since.touched m are.touched none, none-left (unknown_units choice ls) (none-more since.unknown (length (unknown_units choice ls)) are.unknown known), sym are.damaged ∙ whole)
