use Rattle.std.proofs.Common.{◌≡◌, Bool, rules, refl, sym, ap, ◌∙◌, inr}
use Rattle.std.proofs.lemmas.Result.{err_from_is_err_and}
use Rattle.std.specs.Prelude.{is_some}
use Rattle.blog_event.specs.Fault.{fault_at}
use Rattle.blog_trans.specs.declared.checker.MapSeen.{MapSeen}
use Rattle.blog_trans.specs.Places.{placed, since}
use Rattle.blog_trans.specs.code.TablesView.{tables_known}
use Rattle.blog_trans.proofs.CheckingRows.{no-map, goes-by, knows-rows}
use Rattle.blog_trans.proofs.checker.Checker.take_rows.Goals as goal

pub returns-in_default-clause-checked : goal.returns-in_default-clause-checked
returns-in_default-clause-checked g c = λ sel earlier h.
    let p = placed c.args.event.now in
    let number = c.table_id.ensures.body c.args.kind.version p.event.body (sym c.read.ensures ∙ c.in_ok-head.ensures) in
    let check = no-map sel p earlier c.args.self.now c.args.kind c.in_ok-head.head c.table_id.result c.requires (search rules) c.are_bytes.ensures (sym c.in_ok-head.ensures ∙ c.read.ensures) number h (sym c.in_default.ensures.value) in
    inr (ap (fault_at p.pos) check)

pub returns-in_err-kept-clause-checked : goal.returns-in_err-kept-clause-checked
returns-in_err-kept-clause-checked g c = λ sel earlier h.
    let p = placed c.args.event.now in
    let number = c.table_id.ensures.body c.args.kind.version p.event.body (sym c.read.ensures ∙ c.in_ok-head.ensures) in
    let by = goes-by sel p earlier c.args.self.now c.args.kind c.in_ok-head.head c.table_id.result c.requires (search rules) c.are_bytes.ensures (sym c.in_ok-head.ensures ∙ c.read.ensures) number h c.in-Some.map.now (sym c.in-Some.ensures.value) in
    let failed = c.in_err-kept.ensures.read (tables_known c.args.self.now.layouts) sel (since earlier) by.map by.numbered by.held in
    let exit = err_from_is_err_and c.from_residual-in_err-kept.result c.from_residual-in_err-kept.ensures.1 in
    rw (exit.1, exit.2) (inr (ap (fault_at p.pos) by.check ∙ failed))

pub returns-clause-checked : goal.returns-clause-checked
returns-clause-checked g c = λ sel earlier h.
    let p = placed c.args.event.now in
    let v : MapSeen = c.in-Some.map.now in
    let found = sym c.in-Some.ensures.value in
    let number = c.table_id.ensures.body c.args.kind.version p.event.body (sym c.read.ensures ∙ c.in_ok-head.ensures) in
    let by = goes-by sel p earlier c.args.self.now c.args.kind c.in_ok-head.head c.table_id.result c.requires (search rules) c.are_bytes.ensures (sym c.in_ok-head.ensures ∙ c.read.ensures) number h v found in
    let passed = c.in_ok-kept.ensures.read (tables_known c.args.self.now.layouts) sel (since earlier) by.map by.numbered by.held in
    let w : MapSeen = record v { used = c.is_some-map.result } in
    let w_is : w ≡ record v { used = is_some v.table } = ap (λ (u : Bool). record v { used = u }) (c.is_some-map.ensures ∙ c.in_ok-kept.ensures.selected) in (
      by.check ∙ passed.0,
      knows-rows sel p earlier c.args.self.now _ c.args.kind c.table_id.result v w c.requires number by c.get_mut.ensures.unique found w_is refl refl (c.get_mut.follows.holds w).0 refl h,
      sym (c.ends.ensures.body c.args.kind.version p.event.body (sym c.read.ensures ∙ c.in_ok-head.ensures)),
      passed.1,
    )
