-- A set of names as a list.
use Rattle.std.specs.Prelude.{ℕ, List}
use Rattle.blog_choice.specs.declared.name_set.NameSet.{NameSet}
use Rattle.blog_choice.specs.code.Sets.{words_of}

abbrev pub set_names : {A : Type 0} → NameSet A → List (List ℕ)
set_names set = words_of set.names.items
