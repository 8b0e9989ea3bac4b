-- An id is among those that are asked for.
use Rattle.std.proofs.Common.{◌≡◌, Bool, true, false, List, [], ◌∷◌, length, Some, map, sym, ◌∙◌}
use Rattle.std.specs.Prelude.{◌==◌}
use Rattle.std.specs.List.{list_any}
use Rattle.blog_units.specs.Units.{Id}
use Rattle.blog_request.specs.Ids.{has_id, is_of_ids}
use Rattle.blog_request.specs.code.IdsView.{ids_value}
use Rattle.blog_request.specs.declared.ids.GlobalIds as asked

pub among : (ids : List asked.GlobalIds) (id : Id) (empty found : Bool) → empty ≡ (length ids == 0) → empty ≡ false
    → found ≡ list_any (λ one. has_id one id) (map ids_value ids) → found ≡ is_of_ids (map ids_value ids) (Some id)
among [] id empty found h some k = let clash : true ≡ false = sym h ∙ some in cc
among (one ∷ ids) id empty found h some k = k
