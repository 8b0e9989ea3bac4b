use Rattle.std.proofs.Common.{refl, sym, ap, ◌∙◌, List, []}
use Rattle.std.proofs.lemmas.List.{drop_all}
use Rattle.blog_sql.specs.Changed.{renamed_schema}
use Rattle.blog_sql.specs.declared.options.Renamed.{Renamed}
use Rattle.blog_sql.proofs.Changing.{pair-passed, pair-found, pair-short}
use Rattle.blog_sql.proofs.changed.new_name.Goals as goal

pub pairs-init : goal.pairs-init
pairs-init c = record { same = refl; short = c.requires }

pub pairs-preserved : goal.pairs-preserved
pairs-preserved c = record {
  same = pair-passed _ c.pairs.pair-index _ _ _ c.pairs-test.true c.pairs.invariant.same (sym c.if-eq.ensures);
  short = (pair-short _ c.pairs.pair-index (record { from = record { ref_ptr = (0, 0); now = [] }; to = record { ref_ptr = (0, 0); now = [] } }) c.pairs-test.true c.pairs.invariant.short).1;
}

pub returns-then-eq : goal.returns-then-eq
returns-then-eq c = (pair-found _ c.pairs.pair-index _ _ _ c.pairs-test.true c.pairs.invariant.same (sym c.if-eq.ensures), (pair-short _ c.pairs.pair-index _ c.pairs-test.true c.pairs.invariant.short).0)

pub returns : goal.returns
returns c = c.pairs.invariant.same ∙ ap (λ (pairs : List Renamed). renamed_schema pairs c.args.name.now) (drop_all c.pairs.pair-index c.args.schemas.now c.pairs-test.false)
