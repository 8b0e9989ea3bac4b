-- The text of a value by its parts.
use Rattle.std.proofs.Common.{◌≡◌, ℕ, zero, suc, ◌+◌, ◌-◌, ◌<◌, List, [], ◌++◌, Option, Some, None, sym, ap, subst, ◌∙◌, arith, add-one, append-nil, append_assoc, Bool, true, Result, Ok, Err, IfOk, option_map}
use Rattle.std.specs.Borrow.{Bor}
use Rattle.blog_json.specs.declared.kinds.Width.{Width}
use Rattle.blog_json.specs.declared.kinds.Kind.{Kind}
use Rattle.blog_json.specs.declared.containers.Form.{Form}
use Rattle.blog_json.specs.Containers.{Held, entry_at}
use Rattle.blog_json.specs.Documents.{plain_text, front_text, form_of, Texts, AreValues, IsContainer, IsValue, IsText, string_seen}
use Rattle.blog_json.specs.Slices.{now_of}
use Rattle.blog_json.specs.Strings.{string_text}
use Rattle.blog_json.specs.Texts.{Keeps, Gains, IsAdded, added}
use Rattle.blog_json.proofs.Added.{added_more, added_is}

-- a value that is neither an object nor an array, at any depth
pub plain_value : (depth : ℕ) (kind : Kind) (bytes text : List ℕ) → form_of kind ≡ None → plain_text kind bytes text ≡ Some text → IsText depth kind bytes text
unfolding IsText
plain_value zero kind bytes text none is = is
plain_value (suc depth) kind bytes text none is = subst (λ (shape : Option (Form × Width)). IsValue (IsText depth) shape kind bytes text) (sym none) is

-- an object or an array takes one level
pub deeper_value : (depth : ℕ) (kind : Kind) (shape : Form × Width) (bytes text : List ℕ) → 0 < depth → form_of kind ≡ Some shape → IsContainer (IsText (depth - 1)) shape bytes text → IsText depth kind bytes text
unfolding IsText
deeper_value zero kind shape bytes text some is container = absurd (omega arith)
deeper_value (suc depth) kind shape bytes text some is container =
    let same : suc depth - 1 ≡ depth = omega arith in
    let held : IsContainer (IsText depth) shape bytes text = subst (λ (d : ℕ). IsContainer (IsText d) shape bytes text) same container in
    subst (λ (found : Option (Form × Width)). IsValue (IsText depth) found kind bytes text) (sym is) held

-- no value
pub no_values : (IsOne : Texts) (c : Held) (old : List ℕ) → AreValues IsOne c 0 (added old old)
unfolding AreValues
no_values IsOne c old = ap (added old) (sym (append-nil old)) ∙ added_is old []

-- what a front was appended to has it behind
front_added : (text : Option (List ℕ)) (old new : List ℕ) → Gains text old new → text ≡ Some (added old new)
front_added None old new gains = absurd gains
front_added (Some text) old new gains = ap Some (sym (ap (added old) gains ∙ added_is old text))

-- one value more
pub one_value_more : (IsOne : Texts) (c : Held) (n : ℕ) (opened out fronted new place : List ℕ) (kind : Kind) → Keeps opened out → Keeps out fronted → Keeps fronted new → AreValues IsOne c n (added opened out) → Gains (front_text c n) out fronted → entry_at c n ≡ Some (kind, place) → IsOne kind place (added fronted new) → AreValues IsOne c (n + 1) (added opened new)
unfolding AreValues
one_value_more IsOne c n opened out fronted new place kind a b d before front entry own =
    rw add-one (added opened out, added out fronted, added fronted new, place, kind, before, front_added (front_text c n) out fronted front, entry, own, added_more opened out fronted new a b d)

-- what is printed of a value that is neither an object nor an array
pub plain_result : {E : Type 0} (r : Result Bool E) (depth : ℕ) (kind : Kind) (bytes old new : List ℕ) → form_of kind ≡ None → IfOk r (λ is. is ≡ true → IsAdded (plain_text kind bytes) old new) → IfOk r (λ is. is ≡ true → IsText depth kind bytes (added old new))
plain_result (Ok is) depth kind bytes old new none printed = λ yes. plain_value depth kind bytes (added old new) none (printed yes)
plain_result (Err e) depth kind bytes old new none printed = tt

-- a key behind a comma
pub gains_behind : (front old mid new : List ℕ) (key : Option (List ℕ)) → mid ≡ old ++ front → Gains key mid new → Gains (option_map (λ k. front ++ k) key) old new
gains_behind front old mid new None is gains = absurd gains
gains_behind front old mid new (Some key) is gains = gains ∙ ap (λ (x : List ℕ). x ++ key) is ∙ append_assoc old front key

-- a key, and what is between it and its value
pub gains_colon : (bytes : Option (Bor (List ℕ))) (old mid new colon : List ℕ) → Gains (option_map string_seen bytes) old mid → new ≡ mid ++ colon → Gains (option_map (λ name. string_text name ++ colon) (option_map now_of bytes)) old new
gains_colon None old mid new colon gains is = absurd gains
gains_colon (Some bytes) old mid new colon gains is = is ∙ ap (λ (x : List ℕ). x ++ colon) gains ∙ append_assoc old (string_text bytes.now) colon
