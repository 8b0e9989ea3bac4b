-- The three fields one after the other.
use Rattle.std.proofs.Common.{◌≡◌, ℕ, List, [], ◌∷◌, ◌++◌, take, drop, length, refl, take_at, drop_at, take_all, append-nil, arith}
use Rattle.std.proofs.lemmas.List.{drop_all}
use Rattle.byteorder.specs.Endian.{little_bytes}
use Rattle.blog_gtid.proofs.tagged.fixed_part.Goals as goal

-- bytes that were written over zeros
written : (flags : ℕ) (copy server zeros buf number : List ℕ) → copy ≡ server → length copy ≡ 16 → length zeros ≡ 8
    → buf ≡ number ++ drop 8 (take 8 (drop 16 (copy ++ zeros)))
    → flags ∷ (take 16 (copy ++ zeros) ++ (buf ++ drop 8 (drop 16 (copy ++ zeros)))) ≡ flags ∷ (server ++ number)
written flags copy server zeros buf number same size eight text =
    let front : take 16 (copy ++ zeros) ≡ copy = take_at copy zeros 16 size in
    let back : drop 16 (copy ++ zeros) ≡ zeros = drop_at copy zeros 16 size in
    let all : take 8 zeros ≡ zeros = take_all 8 zeros (omega arith) in
    let none : drop 8 zeros ≡ [] = drop_all 8 zeros (omega arith) in
    let written : buf ≡ number = rw (back, all, none, append-nil) at text in
    rw (front, back, none, written, append-nil, same)

pub returns : goal.returns
returns c =
    written c.args.id.now.flags c.copy_from_slice.new.self c.args.id.now.server (0 ∷ 0 ∷ 0 ∷ 0 ∷ 0 ∷ 0 ∷ 0 ∷ 0 ∷ []) c.write_u64.new.buf (little_bytes 8 c.args.id.now.number)
    c.copy_from_slice.ensures.after c.copy_from_slice.auto.self refl c.write_u64.ensures
