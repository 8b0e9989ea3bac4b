-- The names of two schemas, with a colon between them.
use Rattle.std.proofs.Common.{◌≡◌, ℕ, ◌+◌, ◌-◌, List, length, take, drop, Option, Some, None, ap, ◌∙◌}
use Rattle.std.specs.Prelude.{◌==◌}
use Rattle.std.specs.List.{position}
use Rattle.std.specs.Option.{option_map_or}
use Rattle.std.proofs.lemmas.List.{take_rest}
use Rattle.blog_sql.specs.Changed.{Schema, between_names, read_renamed}

read-at : (text : List ℕ) (found : Option ℕ) → found ≡ position (λ byte. byte == 58) text
    → option_map_or (λ at. between_names (take at text) (drop (at + 1) text)) found None ≡ read_renamed text
unfolding read_renamed
read-at text found h = ap (λ (o : Option ℕ). option_map_or (λ at. between_names (take at text) (drop (at + 1) text)) o None) h

pub read-some : (text : List ℕ) (place : ℕ) (read : Option Schema)
    → read ≡ between_names (take place text) (take (length text - (place + 1)) (drop (place + 1) text))
    → Some place ≡ position (λ byte. byte == 58) text → read ≡ read_renamed text
read-some text place read e h =
    e ∙ ap (between_names (take place text)) (take_rest text (place + 1)) ∙ read-at text (Some place) h

pub read-none : (text : List ℕ) → None ≡ position (λ byte. byte == 58) text → None ≡ read_renamed text
read-none text h = read-at text None h
