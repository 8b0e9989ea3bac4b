use Rattle.std.proofs.Common.{rules, ◌≡◌, codes, map, ℕ, List, [], Bor, Option, Some, None, sym, refl, ◌∙◌, ap, arith}
use Rattle.std.specs.Prelude.{option_map, slice_get}
use Rattle.std.proofs.lemmas.Option.{slice_get-get_or, slice_get-map}
use Rattle.clap.specs.Words.{found_of, matched_of, raw_values}
use Rattle.binlog_arguments.proofs.Values.{mapped}
use Rattle.binlog_arguments.specs.Request.{HasWrongNumber, IsWrong, RefusesNumbers, all_values}
use Rattle.binlog_arguments.specs.declared.arguments.ArgumentsFault.{ArgumentsFault}
use Rattle.binlog_arguments.specs.declared.arguments.ArgumentsFault.TheVariants.{Wrong, NotText, OutOfMemory}
use Rattle.binlog_arguments.proofs.list_arguments.read_numbers.Goals as goal

refused : {A : Type 0} (values : List (List ℕ)) (fault : ArgumentsFault A) → IsWrong fault → HasWrongNumber values → RefusesNumbers values fault
refused values (Wrong text) is wrong = wrong
refused values NotText is wrong = is
refused values OutOfMemory is wrong = tt

pub returns-in_default-position_of-clause-wrong : goal.returns-in_default-position_of-clause-wrong
returns-in_default-position_of-clause-wrong g c =
    let values : List (Bor (List ℕ)) = c.in-Some.values.now in
    let found = found_of c.args.found.now in
    let told : option_map raw_values (matched_of found c.args.name.now) ≡ Some (map (λ (v : Bor (List ℕ)). v.now) values) =
    sym c.get_strs.ensures ∙ ap (option_map (λ (s : Bor (List (Bor (List ℕ)))). map (λ (v : Bor (List ℕ)). v.now) s.now)) c.in-Some.is in
    let all : all_values found c.args.name.now ≡ map (λ (v : Bor (List ℕ)). v.now) values = mapped raw_values (matched_of found c.args.name.now) _ told in
    let here = slice_get-get_or values c.loop-text.text-index _ (omega (arith, c.loop-text-test.true)) in
    let one = ap (λ (xs : List (List ℕ)). slice_get xs c.loop-text.text-index) all ∙ slice_get-map (λ (v : Bor (List ℕ)). v.now) values c.loop-text.text-index ∙ ap (option_map (λ (v : Bor (List ℕ)). v.now)) here in
    refused _ c.in_ok-wrong_number.field-0 c.in_ok-wrong_number.ensures (c.loop-text.text-index, _, one, c.in_default-position_of.ensures)
