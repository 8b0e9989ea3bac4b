use Rattle.std.proofs.Common.{◌≡◌, ◌<◌, length, Option, Some, option_map, sym, ap, ◌∙◌, arith}
use Rattle.std.specs.Prelude.{option_and_then, slice_get}
use Rattle.std.proofs.lemmas.List.{length-map}
use Rattle.std.proofs.lemmas.Option.{slice_get-get_or}
use Rattle.blog_merge.specs.Pairs.{Pair}
use Rattle.blog_pairs.specs.code.PairsView.{bodies_of, pair_told}
use Rattle.blog_pairs.proofs.Pairing.{told_at}
use Rattle.blog_pairs.proofs.pairs.PairTable.pair.Goals as goal

pub shown-requires : goal.shown-requires
shown-requires g c =
    let self = c.args.self.now in
    let slots = self.held.slots in
    let here = c.index.result.now in
    let within : c.args.place < length slots.items = omega (arith, c.if-place-len.false, c.len.ensures, slots.ok.0) in
    let got : slice_get slots.items c.args.place ≡ Some here = slice_get-get_or slots.items c.args.place here within ∙ ap Some (sym c.index.ensures) in
    let numbered = self.kept.numbered c.args.place c.in-Some.pair (got ∙ ap Some c.in-Some.is) in
    let long = length-map self.tables.items (λ t. t.body.items) in
    let same = ap length c.deref.ensures.value in
    omega (arith, numbered, long, same)

pub returns-in-Some : goal.returns-in-Some
returns-in-Some g c =
    let self = c.args.self.now in
    let bodies = bodies_of self.tables.items in
    let slots = self.held.slots in
    let here = c.index.result.now in
    let within : c.args.place < length slots.items = omega (arith, c.if-place-len.false, c.len.ensures, slots.ok.0) in
    let got : slice_get slots.items c.args.place ≡ Some here = slice_get-get_or slots.items c.args.place here within ∙ ap Some (sym c.index.ensures) in
    ap Some c.shown.ensures
    ∙ ap (λ ts. Some (pair_told (bodies_of ts) c.in-Some.pair)) c.deref.ensures.value
    ∙ ap (option_map (pair_told bodies)) (sym c.in-Some.is)
    ∙ ap (option_and_then (λ (pair : Option Pair). pair)) (sym (told_at (option_map (pair_told bodies)) slots.items c.args.place here got))

pub returns-in-None : goal.returns-in-None
returns-in-None g c =
    let self = c.args.self.now in
    let bodies = bodies_of self.tables.items in
    let slots = self.held.slots in
    let here = c.index.result.now in
    let within : c.args.place < length slots.items = omega (arith, c.if-place-len.false, c.len.ensures, slots.ok.0) in
    let got : slice_get slots.items c.args.place ≡ Some here = slice_get-get_or slots.items c.args.place here within ∙ ap Some (sym c.index.ensures) in
    ap (option_map (pair_told bodies)) (sym c.in-None.is)
    ∙ ap (option_and_then (λ (pair : Option Pair). pair)) (sym (told_at (option_map (pair_told bodies)) slots.items c.args.place here got))
