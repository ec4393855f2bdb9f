use Rattle.std.proofs.Common.{codes, decimal, ◌≡◌, ℕ, ◌+◌, ◌-◌, ◌≤◌, ◌<◌, List, [], ◌∷◌, ◌++◌, refl, arith, drop, length, take, set, append_assoc, length-take-le, length-drop}
use Rattle.std.proofs.Math.ListN.{drop_of_length-le}
use Rattle.std.proofs.Math.Seq.{drop-append-add}
use Rattle.std.proofs.lemmas.List.{append-nil, drop-set, length-append}
use borrow.Rule.Slice.PartMut.{put_mid}
use Rattle.shlive.specs.Replies.{kind_text}
use Rattle.shlive.proofs.texts.write_node.Goals as goal

-- a kind at the end of a line, with a blank before what is used of it
kind_after : (line kind : List ℕ) (unused : ℕ) → length line ≡ 51 → length kind ≡ 8 → unused ≤ 8
    → drop (43 + unused - 1) (set (put_mid 43 8 line kind) (43 + unused - 1) 32) ≡ 32 ∷ drop unused kind
kind_after line kind unused long short within =
    let front : length (take 43 line) ≡ 43 = length-take-le 43 line (omega arith) in
    let none : drop 8 (drop 43 line) ≡ [] =
    drop_of_length-le (drop 43 line) {i = 8} (omega (arith, length-drop 43 line)) in
    let whole : put_mid 43 8 line kind ≡ take 43 line ++ kind = rw (none, append-nil) refl in
    let before : 43 + unused - 1 < length (take 43 line ++ kind) =
    omega (arith, front, length-append (take 43 line) kind) in
    let next : 43 + unused - 1 + 1 ≡ length (take 43 line) + unused = omega arith in
    rw (
      whole,
      drop-set (take 43 line ++ kind) (43 + unused - 1) 32 before,
      next,
      drop-append-add (take 43 line) kind unused,
    ) refl

-- the codes of a newline and of blanks are those texts
joined : (start stop kind : List ℕ) →
    10 ∷ (start ++ 32 ∷ (stop ++ 32 ∷ kind)) ≡ codes "\n" ++ start ++ codes " " ++ stop ++ codes " " ++ kind
joined start stop kind = grind (arith, append_assoc)

pub returns : goal.returns
returns c =
    let kind = kind_after c.args.line.now c.kind_text-unused.result.0.now c.kind_text-unused.result.1 (omega arith)
    (omega arith) (omega arith) in
    rw (
      c.write_number.ensures.written,
      c.write_number-end.ensures.written,
      c.copy_from_slice.ensures.after,
      kind,
      c.kind_text-unused.ensures.text,
    )
    (joined (decimal c.args.node.now.start) (decimal c.args.node.now.«end») (kind_text c.args.node.now.kind))
