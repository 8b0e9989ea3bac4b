-- The names of tables.
use Rattle.std.proofs.Common.{◌≡◌, true, false, List, [], ◌∷◌, ◌++◌, map, Some, sym, ap, ◌∙◌, append_assoc, append-nil}
use Rattle.std.specs.Prelude.{filter, nat_lt}
use Rattle.std.proofs.lemmas.Bool.{cond-false, cond-true}
use Rattle.std.proofs.lemmas.List.{map-append}
use Rattle.std.proofs.lemmas.List.Elements.{filter-append}
use Rattle.blog_choice.specs.Choice.{Name}
use Rattle.blog_text.specs.Tables.{rows_in}
use Rattle.blog_trans.specs.Changes.{TableCount}
use Rattle.undo_run.specs.Taken.{names_of}

names-append : (cs ds : List TableCount) → names_of (cs ++ ds) ≡ names_of cs ++ names_of ds
names-append cs ds = ap (map name_of) (filter-append (λ c. nat_lt 0 (rows_in c)) cs ds) ∙ map-append name_of (filter (λ c. nat_lt 0 (rows_in c)) cs) (filter (λ c. nat_lt 0 (rows_in c)) ds)
  where
    name_of : TableCount → Name
    name_of c = record { schema = Some c.table.schema; table = c.table.name }

pub names-more : (had has all : List Name) (c : TableCount) (left rest : List TableCount) → left ≡ c ∷ rest → has ≡ had ++ names_of (c ∷ []) → had ++ names_of left ≡ all → has ++ names_of rest ≡ all
names-more had has all c left rest first more is =
    ap (λ (names : List Name). names ++ names_of rest) more ∙ append_assoc had (names_of (c ∷ [])) (names_of rest)
    ∙ ap (λ (names : List Name). had ++ names) (sym (names-append (c ∷ []) rest)) ∙ ap (λ (cs : List TableCount). had ++ names_of cs) (sym first) ∙ is

pub named-in : (had has : List Name) (c : TableCount) (name : Name) → has ≡ had ++ name ∷ [] → name ≡ record { schema = Some c.table.schema; table = c.table.name } → nat_lt 0 (rows_in c) ≡ true → has ≡ had ++ names_of (c ∷ [])
named-in had has c name more same holds = more ∙ ap (λ (n : Name). had ++ n ∷ []) same ∙ sym (ap (λ (cs : List TableCount). had ++ map (λ c. record { schema = Some c.table.schema; table = c.table.name }) cs) (cond-true (nat_lt 0 (rows_in c)) (c ∷ []) [] holds))

pub named-out : (had : List Name) (c : TableCount) → nat_lt 0 (rows_in c) ≡ false → had ≡ had ++ names_of (c ∷ [])
named-out had c fails = sym (append-nil had) ∙ sym (ap (λ (cs : List TableCount). had ++ map (λ c. record { schema = Some c.table.schema; table = c.table.name }) cs) (cond-false (nat_lt 0 (rows_in c)) (c ∷ []) [] fails))
