-- Kept changes, by the numbers of their table maps.
use Rattle.std.proofs.Common.{◌≡◌, ◌<◌, ℕ, Bool, true, false, List, [], ◌∷◌, ◌++◌, length, length-append, Option, option_map, refl, ap, ap₂, ◌∙◌, arith}
use Rattle.std.specs.Prelude.{if◌then◌else◌, nat_lt}
use Rattle.std.proofs.Math.ListN.{get_or-append}
use Rattle.std.proofs.lemmas.Bool.{and_from, and_parts, lt-ltb, ltb-true}
use Rattle.std.proofs.lemmas.List.{map-append}
use Rattle.std.proofs.lemmas.List.Folds.{list_all-append}
use Rattle.blog_pairs.specs.Tables.{HasMore}
use Rattle.blog_trans.specs.Changes.{Change}
use Rattle.blog_followed.specs.code.KeptView.{are_numbered, body_at, change_by, change_told, changes_told}
use Rattle.blog_followed.specs.declared.held.KeptChange.{KeptChange}

-- more table maps
pub numbered-more : {A : Type 0} (bodies all : List (List ℕ)) (cs : List (KeptChange A)) → HasMore bodies all → are_numbered bodies cs ≡ true → are_numbered all cs ≡ true
numbered-more bodies all [] more is = refl
numbered-more bodies all (c ∷ cs) more is =
    let (first, rest) = and_parts (nat_lt c.map (length bodies)) (are_numbered bodies cs) is in
    let below : c.map < length bodies = ltb-true c.map (length bodies) first in
    let long : length all ≡ length (bodies ++ more.0) = ap length more.1 in
    and_from _ _ (lt-ltb c.map (length all) (omega (arith, below, long, length-append bodies more.0))) (numbered-more bodies all cs more rest)

-- one more change
pub numbered-push : {A : Type 0} (bodies : List (List ℕ)) (cs : List (KeptChange A)) (c : KeptChange A) → are_numbered bodies cs ≡ true → c.map < length bodies → are_numbered bodies (cs ++ c ∷ []) ≡ true
numbered-push bodies cs c is below =
    list_all-append (λ c. nat_lt c.map (length bodies)) cs (c ∷ []) ∙ and_from _ _ is (and_from _ _ (lt-ltb c.map (length bodies) below) refl)

pub told-more : {A : Type 0} (bodies all : List (List ℕ)) (cs : List (KeptChange A)) → HasMore bodies all → are_numbered bodies cs ≡ true → changes_told all cs ≡ changes_told bodies cs
told-more bodies all [] more is = refl
told-more bodies all (c ∷ cs) more is =
    let (first, rest) = and_parts (nat_lt c.map (length bodies)) (are_numbered bodies cs) is in
    let same : body_at all c.map ≡ body_at bodies c.map = ap (λ bs. body_at bs c.map) more.1 ∙ get_or-append bodies more.0 [] c.map (ltb-true c.map (length bodies) first) in
    ap₂ (λ (body : List ℕ) (ds : List Change). change_by body c.before.items (option_map (λ image. image.items) c.after) ∷ ds) same (told-more bodies all cs more rest)

pub told-push : {A : Type 0} (bodies all : List (List ℕ)) (cs : List (KeptChange A)) (c : KeptChange A) (body before : List ℕ) (after : Option (List ℕ)) → HasMore bodies all → are_numbered bodies cs ≡ true
    → body_at all c.map ≡ body → c.before.items ≡ before → option_map (λ image. image.items) c.after ≡ after → changes_told all (cs ++ c ∷ []) ≡ changes_told bodies cs ++ change_by body before after ∷ []
told-push bodies all cs c body before after more is of first last =
    map-append (change_told all) cs (c ∷ [])
    ∙ ap (λ (ds : List Change). ds ++ change_told all c ∷ []) (told-more bodies all cs more is)
    ∙ ap (λ (b : List ℕ). changes_told bodies cs ++ change_by b c.before.items (option_map (λ image. image.items) c.after) ∷ []) of
    ∙ ap₂ (λ (b : List ℕ) (a : Option (List ℕ)). changes_told bodies cs ++ change_by body b a ∷ []) first last

-- one more, if it was put
pub numbered-put : {A : Type 0} (bodies : List (List ℕ)) (cs new : List (KeptChange A)) (c : KeptChange A) (put : Bool) → new ≡ (if put then cs ++ c ∷ [] else cs) → are_numbered bodies cs ≡ true → c.map < length bodies
    → are_numbered bodies new ≡ true
numbered-put bodies cs new c true e is below = ap (are_numbered bodies) e ∙ numbered-push bodies cs c is below
numbered-put bodies cs new c false e is below = ap (are_numbered bodies) e ∙ is
