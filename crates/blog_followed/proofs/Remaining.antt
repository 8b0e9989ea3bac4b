-- What was followed of changes, and what is still to follow.
use Rattle.std.proofs.Common.{◌≡◌, ℕ, Bool, true, false, List, [], ◌++◌, refl, sym, ap, ◌∙◌, append-nil, append_assoc}
use Rattle.std.specs.Prelude.{if◌then◌else◌, nat_eq}
use Rattle.std.specs.List.{list_any}
use Rattle.blog_later.specs.Prints.{HavePrints, print_of}
use Rattle.blog_later.specs.declared.left.LeftRows.{LeftRows}
use Rattle.blog_trans.specs.Changes.{Change}
use Rattle.blog_followed.specs.Following.{prints_touched, touching}
use Rattle.blog_followed.specs.code.FollowedView.{Follows, kept_told, prints_told}
use Rattle.blog_followed.specs.declared.followed.Followed.{Followed}
use Rattle.blog_followed.proofs.Fingerprints.{touched-alike, touched-on, touching-alike, touching-on}

-- what is kept of changes
abbrev pub to_keep : Bool → List ℕ → List Change → List Change
to_keep keeps prints cs = if keeps then touching print_of prints cs else []

keep-on : (keeps : Bool) (prints : List ℕ) (cs ds : List Change) → to_keep keeps prints (cs ++ ds) ≡ to_keep keeps prints cs ++ to_keep keeps (prints_touched print_of prints cs) ds
keep-on true prints cs ds = touching-on print_of prints cs ds
keep-on false prints cs ds = refl

keep-alike : (keeps : Bool) (prints kept : List ℕ) (cs : List Change) → HavePrints prints kept → to_keep keeps kept cs ≡ to_keep keeps prints cs
keep-alike true prints kept cs are = touching-alike print_of prints kept cs are
keep-alike false prints kept cs are = refl

keep-none : (keeps : Bool) (prints : List ℕ) → to_keep keeps prints [] ≡ []
keep-none true prints = refl
keep-none false prints = refl

-- of all changes these are still to follow
pub record Remains {A : Type 0} (keeps : Bool) (left : LeftRows A) (all rest : List Change) (old now : Followed A) : Type 0 where
  pub touched : HavePrints (prints_touched print_of (prints_told left old) all) (prints_touched print_of (prints_told left now) rest)
  pub keeping : kept_told now ++ to_keep keeps (prints_told left now) rest ≡ kept_told old ++ to_keep keeps (prints_told left old) all

pub remains-start : {A : Type 0} (keeps : Bool) (left : LeftRows A) (all rest : List Change) (old : Followed A) → rest ≡ all → Remains keeps left all rest old old
remains-start keeps left all rest old e = record {
  touched = λ p. ap (λ (cs : List Change). list_any (nat_eq p) (prints_touched print_of (prints_told left old) cs)) e;
  keeping = ap (λ (cs : List Change). kept_told old ++ to_keep keeps (prints_told left old) cs) e;
}

pub remains-on : {A : Type 0} (keeps : Bool) (left : LeftRows A) (all whole cs rest : List Change) (old now next : Followed A) → whole ≡ cs ++ rest → Follows keeps left cs now next
    → Remains keeps left all whole old now → Remains keeps left all rest old next
remains-on keeps left all whole cs rest old now next parts done r =
    let has = prints_told left now in
    let more = prints_touched print_of has cs in record {
      touched = λ p.
          touched-alike print_of more (prints_told left next) rest done.prints p
          ∙ ap (list_any (nat_eq p)) (sym (touched-on print_of has cs rest))
          ∙ ap (λ (ds : List Change). list_any (nat_eq p) (prints_touched print_of has ds)) (sym parts) ∙ r.touched p;
      keeping =
          ap (λ (ds : List Change). ds ++ to_keep keeps (prints_told left next) rest) done.kept
          ∙ ap (λ (ds : List Change). (kept_told now ++ to_keep keeps has cs) ++ ds) (keep-alike keeps more (prints_told left next) rest done.prints)
          ∙ append_assoc (kept_told now) (to_keep keeps has cs) (to_keep keeps more rest)
          ∙ ap (λ (ds : List Change). kept_told now ++ ds) (sym (keep-on keeps has cs rest))
          ∙ ap (λ (ds : List Change). kept_told now ++ to_keep keeps has ds) (sym parts) ∙ r.keeping;
    }

-- the same changes remain
pub remains-as : {A : Type 0} (keeps : Bool) (left : LeftRows A) (all whole rest : List Change) (old now : Followed A) → whole ≡ rest → Remains keeps left all whole old now → Remains keeps left all rest old now
remains-as keeps left all whole rest old now e r = record {
  touched = λ p. ap (λ (ds : List Change). list_any (nat_eq p) (prints_touched print_of (prints_told left now) ds)) (sym e) ∙ r.touched p;
  keeping = ap (λ (ds : List Change). kept_told now ++ to_keep keeps (prints_told left now) ds) (sym e) ∙ r.keeping;
}

pub remains-end : {A : Type 0} (keeps : Bool) (left : LeftRows A) (all rest : List Change) (old now : Followed A) → rest ≡ [] → Remains keeps left all rest old now → Follows keeps left all old now
remains-end keeps left all rest old now none r = record {
  prints = λ p. ap (λ (ds : List Change). list_any (nat_eq p) (prints_touched print_of (prints_told left now) ds)) (sym none) ∙ r.touched p;
  kept =
      sym (append-nil (kept_told now))
      ∙ ap (λ (ds : List Change). kept_told now ++ ds) (sym (keep-none keeps (prints_told left now)))
      ∙ ap (λ (ds : List Change). kept_told now ++ to_keep keeps (prints_told left now) ds) (sym none) ∙ r.keeping;
}

-- no changes
pub follows-none : {A : Type 0} (keeps : Bool) (left : LeftRows A) (now : Followed A) → Follows keeps left [] now now
follows-none keeps left now = remains-end keeps left [] [] now now refl (remains-start keeps left [] [] now refl)
