use Rattle.std.proofs.Common.{◌≡◌, ◌<◌, ◌≤◌, length, Some, option_map, sym, ap, ◌∙◌, arith}
use Rattle.std.specs.BTreeSet.{contains}
use Rattle.std.specs.List.{slice_get}
use Rattle.std.specs.Ordering.{nat_cmp}
use Rattle.std.proofs.lemmas.List.{length-map}
use Rattle.std.proofs.lemmas.Option.{slice_get-get_or}
use Rattle.blog_row.specs.Image.{row_of}
use Rattle.blog_pairs.specs.code.ColumnsView.{columns_told}
use Rattle.blog_pairs.specs.code.PairsView.{pair_told, slots_told, table_at}
use Rattle.blog_pairs.proofs.Indexing.{behind_next, found_next, no_next, past_slots}
use Rattle.blog_pairs.proofs.Keeping.{few_slots}
use Rattle.blog_pairs.proofs.Pairing.{in_slot, told_at}
use Rattle.blog_pairs.proofs.places.place_of.Goals as goal

pub returns-then-slot-len-clause-place : goal.returns-then-slot-len-clause-place
returns-then-slot-len-clause-place g c = λ bodies fits.
    let pairs = c.args.pairs.now in
    let t = table_at bodies c.args.table.now.number in
    let long = length-map pairs.slots.items (option_map (pair_told bodies)) in
    let past : length (slots_told bodies pairs.slots.items) ≤ c.in-Some.slot = omega (arith, long, c.if-slot-len.true, c.len-len.ensures, pairs.slots.ok.0) in
    sym (past_slots (contains nat_cmp pairs.keys) t (row_of (columns_told c.args.table.now.columns) c.args.image.now) (slots_told bodies pairs.slots.items) c.print-print.result c.slots.from c.in-Some.slot
    fits.kept.indexed (c.print-print.ensures t fits.hasher) c.in-Some.ensures past (c.slots.invariant bodies fits))

pub returns-then-holds-clause-place : goal.returns-then-holds-clause-place
returns-then-holds-clause-place g c = λ bodies fits.
    let pairs = c.args.pairs.now in
    let columns = columns_told c.args.table.now.columns in
    let t = table_at bodies c.args.table.now.number in
    let here = c.index.result.now in
    let within : c.in-Some.slot < length pairs.slots.items = omega (arith, c.if-slot-len.false, c.len-len.ensures, pairs.slots.ok.0) in
    let got : slice_get pairs.slots.items c.in-Some.slot ≡ Some here = slice_get-get_or pairs.slots.items c.in-Some.slot here within ∙ ap Some (sym c.index.ensures) in
    let is = in_slot bodies c.args.table.now.number columns c.args.image.now pairs.slots.items c.in-Some.slot here fits.apart fits.has fits.kept.numbered got ∙ sym c.holds.ensures ∙ c.if-holds.true in
    sym (found_next (contains nat_cmp pairs.keys) t (row_of columns c.args.image.now) (slots_told bodies pairs.slots.items) c.print-print.result c.slots.from c.in-Some.slot
    (option_map (pair_told bodies) here) fits.kept.indexed (c.print-print.ensures t fits.hasher) c.in-Some.ensures (told_at (option_map (pair_told bodies)) pairs.slots.items c.in-Some.slot here got) is (c.slots.invariant bodies fits))

pub slots-preserved : goal.slots-preserved
slots-preserved g c = λ bodies fits.
    let pairs = c.args.pairs.now in
    let columns = columns_told c.args.table.now.columns in
    let t = table_at bodies c.args.table.now.number in
    let here = c.index.result.now in
    let within : c.in-Some.slot < length pairs.slots.items = omega (arith, c.if-slot-len.false, c.len-len.ensures, pairs.slots.ok.0) in
    let got : slice_get pairs.slots.items c.in-Some.slot ≡ Some here = slice_get-get_or pairs.slots.items c.in-Some.slot here within ∙ ap Some (sym c.index.ensures) in
    let other = in_slot bodies c.args.table.now.number columns c.args.image.now pairs.slots.items c.in-Some.slot here fits.apart fits.has fits.kept.numbered got ∙ sym c.holds.ensures ∙ c.if-holds.false in
    behind_next (contains nat_cmp pairs.keys) t (row_of columns c.args.image.now) (slots_told bodies pairs.slots.items) c.print-print.result c.slots.from c.in-Some.slot
    (option_map (pair_told bodies) here) fits.kept.indexed (c.print-print.ensures t fits.hasher) c.in-Some.ensures (told_at (option_map (pair_told bodies)) pairs.slots.items c.in-Some.slot here got) other (c.slots.invariant bodies fits)

pub returns-clause-place : goal.returns-clause-place
returns-clause-place g c = λ bodies fits.
    let pairs = c.args.pairs.now in
    let t = table_at bodies c.args.table.now.number in
    sym (no_next (contains nat_cmp pairs.keys) t (row_of (columns_told c.args.table.now.columns) c.args.image.now) (slots_told bodies pairs.slots.items) c.print-print.result c.slots.from
    fits.kept.indexed (c.print-print.ensures t fits.hasher) (few_slots bodies pairs) c.in_default.ensures (c.slots.invariant bodies fits))
