use Rattle.std.proofs.Common.{◌≡◌, ℕ, ◌||◌, Bool, false, nat_le, List, Option, Some, subst, ap, ap₂, ◌∙◌, arith, rules, eq-eqb, le-leb}
use Rattle.std.specs.Prelude.{nat_eq}
use Rattle.std.proofs.lemmas.Bool.{lt-leb}
use Rattle.blog_event.specs.File.{AreBytes}
use Rattle.blog_row.specs.RowsEvent.{table_id}
use Rattle.blog_trans.specs.declared.group_events.SkippedEvent.{SkippedEvent}
use Rattle.blog_trans.specs.declared.group_events.SkippedEvent.TheVariants as over
use Rattle.blog_trans.specs.declared.group_events.SkippedRows.{SkippedRows}
use Rattle.blog_split.specs.declared.cut_events.CutEvents.{CutEvents}
use Rattle.blog_split.specs.declared.used_maps.MapId.{MapId}
use Rattle.blog_split.specs.code.CutView.{ComesWith, added, takes}
use Rattle.blog_split.specs.code.Marks.{IsFound, IsUnmarked, id_number}
use Rattle.blog_split.proofs.Flags.{or-true}
use Rattle.blog_split.proofs.MapIds.{differs}
use Rattle.blog_split.proofs.cut_events.CutEvents.next_rows.Goals as goal

-- one event is one rows event
same-rows : (next : Option SkippedEvent) (a b : SkippedRows) → next ≡ Some (over.Rows a) → next ≡ Some (over.Rows b) → a ≡ b
same-rows next a b is also = cc

-- the map that is found comes with the rows event, unless it is flagged
comes-with : {E A : Type 0} (cut : CutEvents E A) (rows : SkippedRows) (ids : List MapId) (flags : List Bool) (id : ℕ) (found number : Option ℕ) → AreBytes (table_id rows.event.body.now)
    → id ≡ id_number (table_id rows.event.body.now) → ids ≡ cut.ids.items → flags ≡ cut.flags.items → IsFound ids id found → IsUnmarked flags found number → ComesWith cut rows number
comes-with cut rows ids flags id found number bytes id_is ids_are flags_are is_found unmarked = record {
  found = found;
  bytes = bytes;
  is_found = subst (λ (es : List MapId). IsFound es (id_number (table_id rows.event.body.now)) found) ids_are (subst (λ (i : ℕ). IsFound ids i found) id_is is_found);
  is_new = subst (λ (bs : List Bool). IsUnmarked bs found number) flags_are unmarked;
}

pub returns-in-Some : goal.returns-in-Some
returns-in-Some g c =
    let cut = c.args.self.now in
    let rows = c.in-Some-Rows.rows in
    let number = c.unmarked-map.result in
    let rest = rw c.deref-3.ensures.value at c.in-Some.ensures in
    record {
      same_statement = c.if-self.false;
      next = search rules;
      comes = comes-with cut rows _ _ _ c.number_of-number.result number c.id_of.ensures.bytes c.id_of.ensures.number c.deref.ensures.value c.deref-2.ensures.value c.number_of-number.ensures c.unmarked-map.ensures;
      room = ap (λ (b : Bool). nat_eq cut.rows 0 || b) (le-leb (added cut rows number) c.args.left (omega (arith, rest))) ∙ or-true (nat_eq cut.rows 0);
      rest = omega (arith, rest);
    }

pub returns-in-None : goal.returns-in-None
returns-in-None g c =
    let cut = c.args.self.now in
    let rows = c.in-Some-Rows.rows in
    let number = c.unmarked-map.result in
    let more = rw c.deref-3.ensures.value at c.in-None.ensures in
    record {
      same_statement = c.if-self.false;
      next = search rules;
      comes = comes-with cut rows _ _ _ c.number_of-number.result number c.id_of.ensures.bytes c.id_of.ensures.number c.deref.ensures.value c.deref-2.ensures.value c.number_of-number.ensures c.unmarked-map.ensures;
      room = ap (λ (b : Bool). b || nat_le (added cut rows number) c.args.left) (eq-eqb cut.rows 0 c.if-self-eq0.true);
      rest = omega (arith, more);
    }

pub returns-in-None-2 : goal.returns-in-None-2
returns-in-None-2 g c = λ others opened next.
    let cut = c.args.self.now in
    let rows = c.in-Some-Rows.rows in
    let number = c.unmarked-map.result in
    let more = rw c.deref-3.ensures.value at c.in-None-2.ensures in
    let own : cut.next ≡ Some (over.Rows rows) = search rules in
    let same = same-rows cut.next rows others own next in
    subst (λ (r : SkippedRows). (n : Option ℕ) × ComesWith cut r n × (takes cut c.args.left r n ≡ false)) same (
      number,
      comes-with cut rows _ _ _ c.number_of-number.result number c.id_of.ensures.bytes c.id_of.ensures.number c.deref.ensures.value c.deref-2.ensures.value c.number_of-number.ensures c.unmarked-map.ensures,
      ap₂ ◌||◌ (differs cut.rows 0 c.if-self-eq0.false) (lt-leb (added cut rows number) c.args.left (omega (arith, more))),
    )
