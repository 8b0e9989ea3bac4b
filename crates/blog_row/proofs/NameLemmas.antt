-- Names of a table map: what is read is what stands there.
use Rattle.std.proofs.Common.{◌≡◌, ℕ, List, [], ◌∷◌, ◌++◌, length, Some, refl, ap, ◌∙◌, subst, true, eqb, arith}
use Rattle.std.proofs.lemmas.Option.{option_and_then_some, cond_some}
use Rattle.std.proofs.lemmas.Bool.{eqb-true}
use Rattle.std.proofs.lemmas.List.{append_assoc}
use Rattle.std.specs.Prelude.{slice_index}
use Rattle.blog_row.specs.Checks.{cut}
use Rattle.blog_row.specs.TableMap.{Names, HasNames, name_text, name_front, names_of}
use Rattle.blog_row.proofs.Cutting.{cut_found, cut_again, map_found, map_again, and_then_again}

-- one byte that is zero
zero_byte : (end : List ℕ) → length end ≡ 1 → eqb (slice_index end 0) 0 ≡ true → end ≡ 0 ∷ []
zero_byte [] long zero_is = absurd (omega arith)
zero_byte (b ∷ []) long zero_is = ap (λ (x : ℕ). x ∷ []) (eqb-true b 0 zero_is)
zero_byte (b ∷ c ∷ more) long zero_is = absurd (omega arith)

-- a name that is read stands at the front
pub name_found : (bytes name rest : List ℕ) → name_front bytes ≡ Some (name, rest) → bytes ≡ name_text name ++ rest
unfolding name_front
name_found [] name rest e = absurd (cc)
name_found (n ∷ bytes) name rest e =
    option_and_then_some _ (cut n bytes) (name, rest) e (λ front front_is e1.
    option_and_then_some _ (cut 1 front.1) (name, rest) e1 (λ end end_is e2.
    let from_front = cut_found n bytes front.0 front.1 front_is in
    let from_end = cut_found 1 front.1 end.0 end.1 end_is in
    let ended = cond_some (eqb (slice_index end.0 0) 0) (front.0, end.1) (name, rest) e2 in
    let same : front.0 ≡ name = ap (λ (x : List ℕ × List ℕ). x.0) ended.1 in
    let others : end.1 ≡ rest = ap (λ (x : List ℕ × List ℕ). x.1) ended.1 in
    let zero : end.0 ≡ 0 ∷ [] = zero_byte end.0 from_end.0 ended.0 in
    let joined : (name ++ 0 ∷ []) ++ rest ≡ name ++ 0 ∷ rest = append_assoc name (0 ∷ []) rest in
    let tail : end.0 ++ end.1 ≡ 0 ∷ rest = rw (zero, others) refl in
    cc))

-- a name at the front is read
pub name_again : (name rest : List ℕ) → name_front (name_text name ++ rest) ≡ Some (name, rest)
unfolding name_front
name_again name rest = rw (append_assoc name (0 ∷ []) rest, cut_again (length name) name (0 ∷ rest) refl, cut_again 1 (0 ∷ []) rest refl) refl

-- names that are read are the names of the body
pub names_found : (body : List ℕ) (names : Names) → names_of body ≡ Some names → HasNames body names
unfolding names_of
names_found body names e =
    option_and_then_some _ (cut 6 body) names e (λ id id_is e1.
    option_and_then_some _ (cut 2 id.1) names e1 (λ flags flags_is e2.
    option_and_then_some _ (name_front flags.1) names e2 (λ schema schema_is e3.
    let named = map_found _ (name_front schema.1) names e3 in
    let name = named.0 in
    let from_id = cut_found 6 body id.0 id.1 id_is in
    let from_flags = cut_found 2 id.1 flags.0 flags.1 flags_is in
    let from_schema = name_found flags.1 schema.0 schema.1 schema_is in
    let from_name = name_found schema.1 name.0 name.1 named.1 in
    subst (λ (n : Names). HasNames body n) named.2 (record {
      id_len = from_id.0;
      flags_len = from_flags.0;
      text = from_id.1 ∙ ap (λ (x : List ℕ). id.0 ++ x) (from_flags.1 ∙ ap (λ (x : List ℕ). flags.0 ++ x) (from_schema ∙ ap (λ (x : List ℕ). name_text schema.0 ++ x) from_name));
    }))))

-- the names of a body are read
pub names_again : (body : List ℕ) (names : Names) → HasNames body names → names_of body ≡ Some names
unfolding names_of
names_again body names h =
    let id = names.id in
    let flags = names.flags in
    let schema = names.table.schema in
    let name = names.table.name in
    let rest = names.rest in
    rw h.text
    (and_then_again _ _ (id, flags ++ (name_text schema ++ (name_text name ++ rest))) names (cut_again 6 id _ h.id_len)
    (and_then_again _ _ (flags, name_text schema ++ (name_text name ++ rest)) names (cut_again 2 flags _ h.flags_len)
    (and_then_again _ _ (schema, name_text name ++ rest) names (name_again schema _)
    (map_again _ _ (name, rest) names (name_again name rest) refl))))
