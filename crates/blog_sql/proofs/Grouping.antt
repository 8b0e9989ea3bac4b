-- What is printed for the events of groups is the SQL of these groups.
use Rattle.std.proofs.Common.{◌≡◌, ℕ, ◌+◌, ◌<◌, Bool, true, false, List, [], ◌∷◌, ◌++◌, length, map, codes, refl, sym, ap, ap₂, ◌∙◌, append-nil, append_assoc, arith}
use Rattle.std.specs.List.{AllByRecursion, flat_map}
use Rattle.std.proofs.lemmas.List.{map-append, length-map}
use Rattle.blog_event.specs.Event.{Event, event_size}
use Rattle.blog_event.specs.File.{end_of}
use Rattle.blog_trans.specs.Groups.{RowsEvent, Statement, Transaction}
use Rattle.blog_flash.specs.Printed.{line}
use Rattle.blog_flash.specs.Texts.{rows_event, rows_events, statement_events, transaction_events}
use Rattle.blog_flash.specs.Written.{Written, Same, Maps, Changes, rows_written, statement_written, transaction_written, groups_written}
use Rattle.blog_flash.specs.code.LaidOut.{text_from}
use Rattle.blog_sql.specs.Changed.{changed, changed_groups, changed_map, changed_rows, changed_statement, changed_transaction}
use Rattle.blog_sql.specs.Sql.{HasRows, HaveRows, base64_lines, count_errors, head_sql, sql_text, statement_sql, statements_sql, tail_sql, transaction_sql, transactions_sql}
use Rattle.blog_sql.specs.code.Walk.{closing, edge, left, opening, walk_sql}
use Rattle.blog_sql.specs.declared.options.SqlOptions.{SqlOptions}

-- ---- events

-- events, and others after them
text-more : (pos : ℕ) (e : Event) (es : List Event) (held : List ℕ) → (held ++ text_from pos (e ∷ [])) ++ text_from (pos + event_size e) es ≡ held ++ text_from pos (e ∷ es)
text-more pos e es held =
    append_assoc held (text_from pos (e ∷ [])) (text_from (pos + event_size e) es)
    ∙ ap (λ (text : List ℕ). held ++ (text ++ text_from (pos + event_size e) es)) (append-nil _)

end-more : (pos : ℕ) (es more : List Event) → end_of pos (es ++ more) ≡ end_of (end_of pos es) more
end-more pos [] more = refl
end-more pos (e ∷ es) more = end-more (pos + event_size e) es more

-- ---- statements

module _ (each inside : Bool) where
  -- after some of its events
  left-rows : (pos : ℕ) (begun : Bool) (held : List ℕ) (r : RowsEvent) (rows : List RowsEvent) (ws : List Written) → left each inside pos begun held (rows_written (r ∷ rows) ++ ws)
      ≡ opening begun ++ (closing true (held ++ text_from pos (rows_events (r ∷ rows))) ++ left each inside (end_of pos (rows_events (r ∷ rows))) false [] ws)
  left-rows pos begun held r [] ws = refl
  left-rows pos begun held r (s ∷ rows) ws =
      let e : Event = rows_event false r in
      let next : ℕ = pos + event_size e in
      let more : List ℕ = left each inside (end_of next (rows_events (s ∷ rows))) false [] ws in
      ap (λ (text : List ℕ). opening begun ++ text) (left-rows next true (held ++ text_from pos (e ∷ [])) s rows ws)
      ∙ ap (λ (text : List ℕ). opening begun ++ (closing true text ++ more)) (text-more pos e (rows_events (s ∷ rows)) held)

  left-maps : (pos : ℕ) (begun : Bool) (held : List ℕ) (maps : List Event) (r : RowsEvent) (rows : List RowsEvent) (ws : List Written) → left each inside pos begun held (map Maps maps ++ (rows_written (r ∷ rows) ++ ws))
      ≡ opening begun ++ (closing true (held ++ text_from pos (maps ++ rows_events (r ∷ rows))) ++ left each inside (end_of pos (maps ++ rows_events (r ∷ rows))) false [] ws)
  left-maps pos begun held [] r rows ws = left-rows pos begun held r rows ws
  left-maps pos begun held (m ∷ maps) r rows ws =
      let next : ℕ = pos + event_size m in
      let others : List Event = maps ++ rows_events (r ∷ rows) in
      let more : List ℕ = left each inside (end_of next others) false [] ws in
      ap (λ (text : List ℕ). opening begun ++ text) (left-maps next true (held ++ text_from pos (m ∷ [])) maps r rows ws)
      ∙ ap (λ (text : List ℕ). opening begun ++ (closing true text ++ more)) (text-more pos m others held)

  -- a whole one
  left-parts : (pos : ℕ) (maps : List Event) (rows : List RowsEvent) (ws : List Written) → 0 < length rows → left each inside pos false [] ((map Maps maps ++ rows_written rows) ++ ws)
      ≡ statement_sql pos (record { maps = maps; rows = rows }) ++ left each inside (end_of pos (maps ++ rows_events rows)) false [] ws
  left-parts pos maps [] ws some = absurd (omega arith)
  left-parts pos maps (r ∷ rows) ws some =
      let text : List ℕ = text_from pos (maps ++ rows_events (r ∷ rows)) in
      let more : List ℕ = left each inside (end_of pos (maps ++ rows_events (r ∷ rows))) false [] ws in
      ap (left each inside pos false []) (append_assoc (map Maps maps) (rows_written (r ∷ rows)) ws) ∙ left-maps pos false [] maps r rows ws
      ∙ ap (λ (lines : List ℕ). line (codes "BINLOG '") ++ (lines ++ more)) (sym (append_assoc (base64_lines text) (line (codes "';")) count_errors))

  left-statements : (pos : ℕ) (ss : List Statement) (ws : List Written) → AllByRecursion HasRows ss → left each inside pos false [] (flat_map statement_written ss ++ ws)
      ≡ statements_sql pos ss ++ left each inside (end_of pos (flat_map statement_events ss)) false [] ws
  left-statements pos [] ws have = refl
  left-statements pos (s ∷ ss) ws (has, have) =
      let next : ℕ = end_of pos (statement_events s) in
      let others : List Written = flat_map statement_written ss in
      ap (left each inside pos false []) (append_assoc (statement_written s) others ws) ∙ left-parts pos s.maps s.rows (others ++ ws) has
      ∙ ap (λ (text : List ℕ). statement_sql pos s ++ text) (left-statements next ss ws have)
      ∙ sym (append_assoc (statement_sql pos s) (statements_sql next ss) _)
      ∙ ap (λ (n : ℕ). (statement_sql pos s ++ statements_sql next ss) ++ left each inside n false [] ws) (sym (end-more pos (statement_events s) (flat_map statement_events ss)))

-- ---- transactions

left-transaction : (each : Bool) (pos : ℕ) (t : Transaction) (ws : List Written) → AllByRecursion HasRows t.statements → left each false pos false [] (transaction_written t ++ ws)
    ≡ transaction_sql each pos t ++ left each false (end_of pos (transaction_events t)) false [] ws
left-transaction each pos t ws have =
    let next : ℕ = pos + event_size t.begin in
    let inner : List Written = flat_map statement_written t.statements in
    let events : List Event = flat_map statement_events t.statements in
    let begins : List ℕ = edge each false in
    let ends : List ℕ = edge each true in
    let own : List ℕ = statements_sql next t.statements in
    let last : ℕ = end_of next events + event_size t.end in
    let more : List ℕ = left each false last false [] ws in
    ap (λ (xs : List Written). begins ++ left each true next false [] xs) (append_assoc inner (Same t.end ∷ []) ws)
    ∙ ap (λ (text : List ℕ). begins ++ text) (left-statements each true next t.statements (Same t.end ∷ ws) have)
    ∙ ap (λ (text : List ℕ). begins ++ text) (sym (append_assoc own ends more))
    ∙ sym (append_assoc begins (own ++ ends) more)
    ∙ ap (λ (n : ℕ). (begins ++ (own ++ ends)) ++ left each false n false [] ws) (sym (end-more next events (t.end ∷ [])))

left-groups : (each : Bool) (pos : ℕ) (ts : List Transaction) → HaveRows ts → left each false pos false [] (groups_written ts) ≡ transactions_sql each pos ts
left-groups each pos [] have = refl
left-groups each pos (t ∷ ts) (own, have) =
    left-transaction each pos t (groups_written ts) own ∙ ap (λ (text : List ℕ). transaction_sql each pos t ++ text) (left-groups each (end_of pos (transaction_events t)) ts have)

-- ---- changed

module _ (how : SqlOptions) where
  changed-rows : (rows : List RowsEvent) → map (changed how) (rows_written rows) ≡ rows_written (map (changed_rows how) rows)
  changed-rows [] = refl
  changed-rows (r ∷ []) = refl
  changed-rows (r ∷ s ∷ rows) = ap (λ (ws : List Written). Changes (changed_rows how r) false ∷ ws) (changed-rows (s ∷ rows))

  changed-maps : (maps : List Event) → map (changed how) (map Maps maps) ≡ map Maps (map (changed_map how) maps)
  changed-maps [] = refl
  changed-maps (m ∷ maps) = ap (λ (ws : List Written). Maps (changed_map how m) ∷ ws) (changed-maps maps)

  changed-statement : (s : Statement) → map (changed how) (statement_written s) ≡ statement_written (changed_statement how s)
  changed-statement s = map-append (changed how) (map Maps s.maps) (rows_written s.rows) ∙ ap₂ (λ (a b : List Written). a ++ b) (changed-maps s.maps) (changed-rows s.rows)

  changed-statements : (ss : List Statement) → map (changed how) (flat_map statement_written ss) ≡ flat_map statement_written (map (changed_statement how) ss)
  changed-statements [] = refl
  changed-statements (s ∷ ss) = map-append (changed how) (statement_written s) (flat_map statement_written ss) ∙ ap₂ (λ (a b : List Written). a ++ b) (changed-statement s) (changed-statements ss)

  changed-transaction : (t : Transaction) → map (changed how) (transaction_written t) ≡ transaction_written (changed_transaction how t)
  changed-transaction t =
      ap (λ (ws : List Written). Same t.begin ∷ ws)
      (map-append (changed how) (flat_map statement_written t.statements) (Same t.end ∷ []) ∙ ap (λ (ws : List Written). ws ++ Same t.end ∷ []) (changed-statements t.statements))

  pub changed-written : (ts : List Transaction) → map (changed how) (groups_written ts) ≡ groups_written (changed_groups how ts)
  changed-written [] = refl
  changed-written (t ∷ ts) = map-append (changed how) (transaction_written t) (groups_written ts) ∙ ap₂ (λ (a b : List Written). a ++ b) (changed-transaction t) (changed-written ts)

  -- they still have rows events
  statements-have : (ss : List Statement) → AllByRecursion HasRows ss → AllByRecursion HasRows (map (changed_statement how) ss)
  statements-have [] have = tt
  statements-have (s ∷ ss) (has, have) = (omega (arith, length-map s.rows (changed_rows how)), statements-have ss have)

  changed-have : (ts : List Transaction) → HaveRows ts → HaveRows (changed_groups how ts)
  changed-have [] have = tt
  changed-have (t ∷ ts) (own, have) = (statements-have t.statements own, changed-have ts have)

  -- ---- the whole

  pub groups-printed : (front : List ℕ) (ts : List Transaction) (ws : List Written) → ws ≡ groups_written ts → HaveRows ts → walk_sql how front ws ≡ sql_text how front ts
  unfolding sql_text
  groups-printed front ts ws is have =
      let each : Bool = how.each_transaction in
      let printed = ap (left each false (length front) false []) (ap (map (changed how)) is ∙ changed-written ts) ∙ left-groups each (length front) (changed_groups how ts) (changed-have ts have) in
      ap (λ (text : List ℕ). head_sql each front ++ (text ++ tail_sql each)) printed
