use Rattle.std.proofs.Common.{◌≡◌, ◌<◌, ◌≤◌, length, Some, option_map, sym, ap, ◌∙◌}
use Rattle.blog_row.specs.Column.{metadata_total}
use Rattle.blog_row.specs.code.LayoutReading.{types_front, metadata_front}
use Rattle.blog_row.specs.Checks.{cut_seen}
use Rattle.blog_row.proofs.LayoutCode.{types_found, total_there, metadata_found}
use Rattle.blog_row.proofs.layout.Layout.at.Goals as goal
use Rattle.blog_row.proofs.layout.Layout.at.Goals.{In-Some, In-Some-metadata_at}

-- there are 1 to 4,096 types
few : (c : In-Some) → (0 < length c.in-Some.kinds.now) × (length c.in-Some.kinds.now ≤ 4096)
few c =
    let types : types_front c.args.bytes.now ≡ Some (c.in-Some.kinds.now, c.in-Some.behind.now) = cc (c.types_at.ensures, ap (option_map cut_seen) c.in-Some.is) in
    types_found _ _ _ types

-- the metadata is that of the types
whole : (c : In-Some-metadata_at) → metadata_total c.in-Some.kinds.now ≡ length c.in-Some-metadata_at.metadata.now
whole c =
    let metadata : metadata_front c.in-Some-metadata_len_of_all.len c.in-Some.behind.now ≡ Some (c.in-Some-metadata_at.metadata.now, c.in-Some-metadata_at.behind.now) = cc (c.metadata_at.ensures, ap (option_map cut_seen) c.in-Some-metadata_at.is) in
    (total_there _ _ (sym c.metadata_len_of_all.ensures ∙ c.in-Some-metadata_len_of_all.is)).1 ∙ sym (metadata_found _ _ _ _ metadata)

pub metadata_len_of_all-requires : goal.metadata_len_of_all-requires
metadata_len_of_all-requires c = (few (goal.at.metadata_len_of_all-requires c).In-Some).1

pub are_columns-requires-clause-whole : goal.are_columns-requires-clause-whole
are_columns-requires-clause-whole c = whole (goal.at.are_columns-requires-clause-whole c).In-Some-metadata_at

pub invariant_of-result : goal.invariant_of-result
invariant_of-result c =
    let few = few (goal.at.invariant_of-result c).In-Some in
    record { some = few.0; few = few.1; whole = whole (goal.at.invariant_of-result c).In-Some-metadata_at; known = cc }
