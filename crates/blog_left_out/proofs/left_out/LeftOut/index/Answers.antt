use Rattle.std.proofs.Common.{◌≡◌, ℕ, ◌≤◌, List, length, Result, Ok, Err, ap, ap₂, ◌∙◌, arith}
use Rattle.std.specs.Prelude.{IfOk}
use Rattle.blog_event.specs.declared.fault.Fault.{Fault}
use Rattle.blog_trans.specs.Changes.{Change, changes, changes_of}
use Rattle.blog_trans.specs.Groups.{Transaction, groups}
use Rattle.blog_trans.specs.Selection.{all}
use Rattle.blog_trans.specs.code.IndexView.{index_bytes, index_selection}
use Rattle.blog_trans.specs.declared.groups.Index.{Index}
use Rattle.blog_left_out.specs.LeftOut.{left_out_text}
use Rattle.blog_left_out.proofs.Forming.{kept-groups, kept-log-changes}
use Rattle.blog_left_out.proofs.left_out.LeftOut.index.Goals as goal

-- the groups of an index of these bytes
groups-indexed : {A : Type 0} (bytes : List ℕ) (ts : List Transaction) (result : Result (Index A) Fault) → IfOk result (λ index. index_bytes index ≡ bytes) → IfOk result (λ index. index_selection index ≡ all)
    → groups bytes all ≡ ts → IfOk result (λ index. groups (index_bytes index) (index_selection index) ≡ ts)
groups-indexed bytes ts (Ok index) same sel are = ap₂ groups same sel ∙ are
groups-indexed bytes ts (Err fault) same sel are = tt

-- and its changes
changes-indexed : {A : Type 0} (bytes : List ℕ) (cs : List Change) (result : Result (Index A) Fault) → IfOk result (λ index. index_bytes index ≡ bytes) → IfOk result (λ index. index_selection index ≡ all)
    → changes bytes all ≡ cs → IfOk result (λ index. changes (index_bytes index) (index_selection index) ≡ cs)
changes-indexed bytes cs (Ok index) same sel are = ap changes_of (ap₂ groups same sel) ∙ are
changes-indexed bytes cs (Err fault) same sel are = tt

pub returns-clause-groups : goal.returns-clause-groups
returns-clause-groups g c = λ ms bytes sel are accepted is.
    let long = ap length is in
    let short : length (left_out_text ms bytes sel) ≤ 4294967295 = omega (arith, long, c.args.self.now.short, c.args.self.now.bytes.ok.0) in
    groups-indexed c.args.self.now.bytes.items _ c.selected.result (rw c.deref.ensures.value at c.selected.ensures.bytes) (rw c.all.ensures at c.selected.ensures.selection)
    (ap (λ (t : List ℕ). groups t all) is ∙ kept-groups ms bytes sel are accepted short)

pub returns-clause-changes : goal.returns-clause-changes
returns-clause-changes g c = λ ms bytes sel are accepted is.
    let long = ap length is in
    let short : length (left_out_text ms bytes sel) ≤ 4294967295 = omega (arith, long, c.args.self.now.short, c.args.self.now.bytes.ok.0) in
    changes-indexed c.args.self.now.bytes.items _ c.selected.result (rw c.deref.ensures.value at c.selected.ensures.bytes) (rw c.all.ensures at c.selected.ensures.selection)
    (ap (λ (t : List ℕ). changes t all) is ∙ kept-log-changes ms bytes sel are accepted short)
