use Rattle.std.proofs.Common.{◌∙◌, ◌++◌, map, slice_get, option_map, is_some, true, false, refl, ap, sym, subst, append-nil}
use Rattle.std.specs.List.{AllByRecursion}
use Rattle.std.specs.Option.{option_and_then}
use Rattle.std.proofs.lemmas.Bool.{false≢true}
use Rattle.std.proofs.lemmas.Iterator.Consumers.{YieldsList-end, YieldsList-from_rest}
use Rattle.indexmap.specs.IndexMap.{values}
use Rattle.blog_trans.specs.declared.layouts.SelectedTable.{SelectedTable}
use Rattle.blog_trans.specs.Changes.{table_of}
use Rattle.blog_trans.specs.code.CountsView.{AreCounts}
use Rattle.blog_trans.specs.code.TablesView.{IsNumbered}
use Rattle.blog_trans.proofs.CountsCode.{tables_used, used-more, all-last}
use Rattle.blog_trans.proofs.counts.Counts.keep.Goals as goal

pub loop-map-init : goal.loop-map-init
loop-map-init g c = record {
  counts = λ tables cs ts all are. subst (λ us. AreCounts tables cs us c.args.self.now) (sym (append-nil ts)) are;
  images = refl;
}

pub loop-map-preserved-in-Continue-1 : goal.loop-map-preserved-in-Continue-1
loop-map-preserved-in-Continue-1 g c = record {
  counts = λ tables cs ts all are.
      let m = c.in-Some.map.now in
      let numbered = all-last (IsNumbered tables) (λ m. m.now) c.loop-map.yielded c.in-Some.map all in
      let number = ap (option_and_then (λ (t : SelectedTable). slice_get tables t.number)) (sym c.in-Some-table.is) ∙ numbered.1.number ∙ ap (option_map (λ (t : SelectedTable). table_of m.body.now)) c.in-Some-table.is in
      subst (λ us. AreCounts tables cs us c.keep_table.new.self) (used-more (λ m. m.now) c.loop-map.yielded c.in-Some.map true ts c.if-map.true)
      (c.in_ok-keep_table.ensures.counts tables cs (ts ++ tables_used (map (λ m. m.now) c.loop-map.yielded)) (table_of m.body.now) number (c.loop-map.invariant.counts tables cs ts numbered.0 are));
  images = c.in_ok-keep_table.ensures.images ∙ c.loop-map.invariant.images;
}

pub loop-map-preserved-in_default : goal.loop-map-preserved-in_default
loop-map-preserved-in_default g c = record {
  counts = λ tables cs ts all are.
      let numbered = all-last (IsNumbered tables) (λ m. m.now) c.loop-map.yielded c.in-Some.map all in
      absurd (false≢true (ap is_some (sym c.in_default.is) ∙ numbered.1.selected c.if-map.true));
  images = c.loop-map.invariant.images;
}

pub loop-map-preserved : goal.loop-map-preserved
loop-map-preserved g c = record {
  counts = λ tables cs ts all are.
      let numbered = all-last (IsNumbered tables) (λ m. m.now) c.loop-map.yielded c.in-Some.map all in
      subst (λ us. AreCounts tables cs us c.loop-map.self) (sym (append-nil _) ∙ used-more (λ m. m.now) c.loop-map.yielded c.in-Some.map false ts c.if-map.false)
      (c.loop-map.invariant.counts tables cs ts numbered.0 are);
  images = c.loop-map.invariant.images;
}

pub returns-clause-counts : goal.returns-clause-counts
returns-clause-counts g c = λ tables cs ts all are.
    let iterated = YieldsList-from_rest {shows = λ m. m.now} (values c.args.maps.now) (c.into_iter-map-iterator.ensures.into_iter_gives ∙ c.values-map-items.ensures.rest) in
    let seen = YieldsList-end iterated c.loop-map.yielded _ c.loop-map.yielded_by _ _ c.in-None.is c.next.ensures.steps in
    subst (λ ms. AreCounts tables cs (ts ++ tables_used ms) c.loop-map.self) seen.0 (c.loop-map.invariant.counts tables cs ts (subst (AllByRecursion (IsNumbered tables)) (sym seen.0) all) are)
