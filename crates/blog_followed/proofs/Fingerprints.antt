-- Fingerprints are told by which are among them.
use Rattle.std.proofs.Common.{◌≡◌, ℕ, zero, suc, ◌||◌, Bool, true, false, List, [], ◌∷◌, ◌++◌, Option, Some, None, refl, sym, ap, ap₂, ◌∙◌}
use Rattle.std.specs.Prelude.{if◌then◌else◌, nat_eq, option_map}
use Rattle.std.specs.List.{cons_option, list_any}
use Rattle.std.proofs.Math.Dec.{eqb-suc-suc}
use Rattle.std.proofs.lemmas.Bool.{cond-false, cond-true, or_right}
use Rattle.blog_later.specs.Prints.{HavePrints}
use Rattle.blog_merge.specs.Touching.{with_left}
use Rattle.blog_trans.specs.Changes.{Change}
use Rattle.blog_undo.specs.ByRows.{has_print_among}
use Rattle.blog_undo.specs.Mixed.{TableRow, leaves, takes}
use Rattle.blog_followed.specs.Following.{HasPrints, prints_touched, touching}

pub own-print : (n : ℕ) → nat_eq n n ≡ true
own-print zero = refl
own-print (suc n) = eqb-suc-suc n n ∙ own-print n

-- ---- one change of others

-- the fingerprints after it
abbrev pub prints_after : (TableRow → ℕ) → List ℕ → Change → List ℕ
prints_after f prints c = if has_print_among f (takes c) prints then with_left f c prints else prints

pub after-touching : (f : TableRow → ℕ) (prints : List ℕ) (c : Change) → has_print_among f (takes c) prints ≡ true → prints_after f prints c ≡ with_left f c prints
after-touching f prints c e = cond-true (has_print_among f (takes c) prints) (with_left f c prints) prints e

pub after-other : (f : TableRow → ℕ) (prints : List ℕ) (c : Change) → has_print_among f (takes c) prints ≡ false → prints_after f prints c ≡ prints
after-other f prints c e = cond-false (has_print_among f (takes c) prints) (with_left f c prints) prints e

pub touching-first : (f : TableRow → ℕ) (prints : List ℕ) (c : Change) (cs : List Change) → has_print_among f (takes c) prints ≡ true
    → touching f prints (c ∷ cs) ≡ c ∷ touching f (with_left f c prints) cs
touching-first f prints c cs e = cond-true (has_print_among f (takes c) prints) (c ∷ touching f (with_left f c prints) cs) (touching f prints cs) e

pub touching-later : (f : TableRow → ℕ) (prints : List ℕ) (c : Change) (cs : List Change) → has_print_among f (takes c) prints ≡ false
    → touching f prints (c ∷ cs) ≡ touching f prints cs
touching-later f prints c cs e = cond-false (has_print_among f (takes c) prints) (c ∷ touching f (with_left f c prints) cs) (touching f prints cs) e

-- ---- the same fingerprints

pub alike-with : (o : Option ℕ) (prints kept : List ℕ) → HavePrints prints kept → HavePrints (cons_option o prints) (cons_option o kept)
alike-with None prints kept are = are
alike-with (Some q) prints kept are = λ p. ap (λ b. nat_eq p q || b) (are p)

pub has-alike : (f : TableRow → ℕ) (prints kept : List ℕ) (o : Option TableRow) → HavePrints prints kept → has_print_among f o kept ≡ has_print_among f o prints
has-alike f prints kept None are = refl
has-alike f prints kept (Some r) are = are (f r)

pub alike-along : (prints kept qs rs : List ℕ) → prints ≡ qs → kept ≡ rs → HavePrints qs rs → HavePrints prints kept
alike-along prints kept qs rs e h are = λ p. ap (list_any (nat_eq p)) h ∙ are p ∙ ap (list_any (nat_eq p)) (sym e)

pub alike-after : (f : TableRow → ℕ) (prints kept : List ℕ) (c : Change) → HavePrints prints kept → HavePrints (prints_after f prints c) (prints_after f kept c)
alike-after f prints kept c are = by_case (has_print_among f (takes c) prints) refl
  where
    same : has_print_among f (takes c) kept ≡ has_print_among f (takes c) prints
    same = has-alike f prints kept (takes c) are

    by_case : (b : Bool) → has_print_among f (takes c) prints ≡ b → HavePrints (prints_after f prints c) (prints_after f kept c)
    by_case true e =
        alike-along _ _ (with_left f c prints) (with_left f c kept) (after-touching f prints c e) (after-touching f kept c (same ∙ e)) (alike-with (option_map f (leaves c)) prints kept are)
    by_case false e = alike-along _ _ prints kept (after-other f prints c e) (after-other f kept c (same ∙ e)) are

pub touched-alike : (f : TableRow → ℕ) (prints kept : List ℕ) (cs : List Change) → HavePrints prints kept → HavePrints (prints_touched f prints cs) (prints_touched f kept cs)
touched-alike f prints kept [] are = are
touched-alike f prints kept (c ∷ cs) are = touched-alike f (prints_after f prints c) (prints_after f kept c) cs (alike-after f prints kept c are)

pub touching-alike : (f : TableRow → ℕ) (prints kept : List ℕ) (cs : List Change) → HavePrints prints kept → touching f kept cs ≡ touching f prints cs
touching-alike f prints kept [] are = refl
touching-alike f prints kept (c ∷ cs) are = by_case (has_print_among f (takes c) prints) refl (λ qs rs h. touching-alike f qs rs cs h)
  where
    same : has_print_among f (takes c) kept ≡ has_print_among f (takes c) prints
    same = has-alike f prints kept (takes c) are

    by_case : (b : Bool) → has_print_among f (takes c) prints ≡ b → ((qs rs : List ℕ) → HavePrints qs rs → touching f rs cs ≡ touching f qs cs)
        → touching f kept (c ∷ cs) ≡ touching f prints (c ∷ cs)
    by_case true e again =
        touching-first f kept c cs (same ∙ e)
        ∙ ap (λ (ds : List Change). c ∷ ds) (again (with_left f c prints) (with_left f c kept) (alike-with (option_map f (leaves c)) prints kept are))
        ∙ sym (touching-first f prints c cs e)
    by_case false e again = touching-later f kept c cs (same ∙ e) ∙ again prints kept are ∙ sym (touching-later f prints c cs e)

-- ---- several lists of changes

pub touched-on : (f : TableRow → ℕ) (prints : List ℕ) (cs ds : List Change) → prints_touched f prints (cs ++ ds) ≡ prints_touched f (prints_touched f prints cs) ds
touched-on f prints [] ds = refl
touched-on f prints (c ∷ cs) ds = touched-on f (prints_after f prints c) cs ds

pub touching-on : (f : TableRow → ℕ) (prints : List ℕ) (cs ds : List Change) → touching f prints (cs ++ ds) ≡ touching f prints cs ++ touching f (prints_touched f prints cs) ds
touching-on f prints [] ds = refl
touching-on f prints (c ∷ cs) ds = by_case (has_print_among f (takes c) prints) refl (λ qs. touching-on f qs cs ds)
  where
    by_case : (b : Bool) → has_print_among f (takes c) prints ≡ b → ((qs : List ℕ) → touching f qs (cs ++ ds) ≡ touching f qs cs ++ touching f (prints_touched f qs cs) ds)
        → touching f prints (c ∷ (cs ++ ds)) ≡ touching f prints (c ∷ cs) ++ touching f (prints_touched f (prints_after f prints c) cs) ds
    by_case true e again =
        touching-first f prints c (cs ++ ds) e
        ∙ ap (λ (es : List Change). c ∷ es) (again (with_left f c prints))
        ∙ sym (ap₂ (λ (first : List Change) (qs : List ℕ). first ++ touching f (prints_touched f qs cs) ds) (touching-first f prints c cs e) (after-touching f prints c e))
    by_case false e again =
        touching-later f prints c (cs ++ ds) e
        ∙ again prints
        ∙ sym (ap₂ (λ (first : List Change) (qs : List ℕ). first ++ touching f (prints_touched f qs cs) ds) (touching-later f prints c cs e) (after-other f prints c e))

-- ---- more fingerprints

pub has-with : (f : TableRow → ℕ) (prints : List ℕ) (c : Change) → HasPrints (with_left f c prints) prints
has-with f prints c = by_case (option_map f (leaves c))
  where
    by_case : (o : Option ℕ) → HasPrints (cons_option o prints) prints
    by_case None = λ p e. e
    by_case (Some q) = λ p e. or_right (nat_eq p q) (list_any (nat_eq p) prints) e

pub has-after : (f : TableRow → ℕ) (prints : List ℕ) (c : Change) → HasPrints (prints_after f prints c) prints
has-after f prints c = by_case (has_print_among f (takes c) prints) refl
  where
    by_case : (b : Bool) → has_print_among f (takes c) prints ≡ b → HasPrints (prints_after f prints c) prints
    by_case true e = λ p h. ap (list_any (nat_eq p)) (after-touching f prints c e) ∙ has-with f prints c p h
    by_case false e = λ p h. ap (list_any (nat_eq p)) (after-other f prints c e) ∙ h

pub has-touched : (f : TableRow → ℕ) (prints : List ℕ) (cs : List Change) → HasPrints (prints_touched f prints cs) prints
has-touched f prints [] = λ p e. e
has-touched f prints (c ∷ cs) = λ p e. has-touched f (prints_after f prints c) cs p (has-after f prints c p e)
