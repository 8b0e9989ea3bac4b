use Rattle.std.proofs.Common.{◌≡◌, List, ℕ, length, Some, option_map, sym, ap, ◌∙◌}
use Rattle.std.specs.List.{list_all}
use Rattle.blog_row.specs.Column.{columns_of, is_column}
use Rattle.blog_row.specs.Packed.{packed_seen}
use Rattle.blog_row.specs.Checks.{cut_seen}
use Rattle.blog_row.specs.code.LayoutReading.{types_front}
use Rattle.blog_row.proofs.LayoutCode.{KnownBehind, known_number, types_found}
use Rattle.blog_row.proofs.layout.Layout.known_at.Goals as goal
use Rattle.blog_row.proofs.layout.Layout.known_at.Goals.{In-Some, In-Some-packed_at}

types : (c : In-Some) → types_front c.args.bytes.now ≡ Some (c.in-Some.kinds.now, c.in-Some.behind.now)
types c = sym c.types_at.ensures ∙ ap (option_map cut_seen) c.in-Some.is

known : (c : In-Some-packed_at) → KnownBehind c.args.bytes.now c.in-Some.kinds.now c.in-Some.behind.now (packed_seen c.in-Some-packed_at.size)
known c = known_number _ _ _ _ c.requires (sym c.types_at.ensures ∙ ap (option_map cut_seen) c.in-Some.is) (sym c.packed_at.ensures ∙ ap (option_map packed_seen) c.in-Some-packed_at.is)

pub invariant_of-result : goal.invariant_of-result
invariant_of-result c =
    let known = known (goal.at.invariant_of-result c).In-Some-packed_at in
    let found = types_found _ _ _ (types (goal.at.invariant_of-result c).In-Some) in
    record {
      some = found.0;
      few = found.1;
      whole = known.whole ∙ ap length (sym c.split_at.ensures.front);
      known = ap (λ (metadata : List ℕ). list_all is_column (columns_of c.in-Some.kinds.now metadata)) c.split_at.ensures.front ∙ known.known;
    }
