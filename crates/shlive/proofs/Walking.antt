-- A walk over the lines of a script, and the line that holds a byte.
use Rattle.std.proofs.Common.{◌≡◌, ℕ, ◌+◌, ◌-◌, ◌^◌, ◌<◌, ◌≤◌, [], ◌∷◌, ◌++◌, true, List, List as Row, Option, None, Some, drop, length, refl, sym, ap, subst, ◌∙◌, arith, append_assoc}
use Rattle.shast.specs.declared.node.NodeLine.{NodeLine}
use Rattle.shast.specs.Nodes.{NodesWithin}
use Rattle.shast.specs.Tree.{Entries}
use Rattle.shgrammar.specs.declared.edition.Edition.{Edition}
use Rattle.shgrammar.specs.Lines.{AKind, blank_line, end_line, entries_line, faulty_line}
use Rattle.shwindow.specs.declared.line.HeldLine.{HeldLine}
use Rattle.shwindow.specs.Held.{HasLineAt}
use Rattle.shwindow.specs.Lines.{IsRow, extent}
use Rattle.shwindow.proofs.Rows.{extent_push}
use Rattle.shheld.specs.Walk.{has_none, line_nodes_at, line_outline, outlines}
use Rattle.shheld.proofs.Places.{row_line, row_line_within, row_nodes_fit}
use Rattle.shheld.specs.TopLines.{IsTopLine}
use Rattle.shheld.proofs.Rows.{last_at}
use Rattle.shlive.specs.HeldLines.{IsHeldLine, entries_in}
use Rattle.shlive.proofs.TopLines.{row_top}

-- these lines of a row are left, and the first of them begins at an offset
pub record Walked (row left : Row (HeldLine AKind)) (begin : ℕ) : Type 0 where
  pub done : Row (HeldLine AKind)
  pub split : row ≡ done ++ left
  pub begins : begin ≡ extent done

-- at first all lines are left
pub walked_start : (row : Row (HeldLine AKind)) → Walked row row 0
unfolding extent
walked_start row = record { done = []; split = refl; begins = refl }

module _ (row left : Row (HeldLine AKind)) (begin : ℕ) (l : HeldLine AKind) (rest : Row (HeldLine AKind))
    (so : Walked row left begin) (first : left ≡ l ∷ rest) where
  -- the row is the lines that are done, the first one left, and those after it
  split_here : row ≡ so.done ++ l ∷ rest
  split_here = so.split ∙ ap (λ ls. so.done ++ ls) first

  -- after one line more, those after it are left
  pub walked_more : Walked row rest (begin + l.len)
  walked_more = record {
    done = so.done ++ l ∷ [];
    split = split_here ∙ sym (append_assoc so.done (l ∷ []) rest);
    begins = ap (λ n. n + l.len) so.begins ∙ sym (extent_push so.done l);
  }

  module _ (edition : Edition) (B : List ℕ) (is : IsRow (IsHeldLine edition) B row) where
    -- that row, parted so, is the row of the text
    here : IsRow (IsHeldLine edition) B (so.done ++ l ∷ rest)
    here = subst (IsRow (IsHeldLine edition) B) split_here is

    -- the first one left ends in the text
    pub walked_within : begin + l.len ≤ length B
    walked_within = let within = row_line_within edition B so.done l rest
        (row_top edition B (so.done ++ l ∷ rest) here) in omega (arith, within, so.begins)

    -- it is the line that begins there
    pub walked_line : IsTopLine edition (drop begin B) l
    walked_line = subst (λ n. IsTopLine edition (drop n B) l) (sym so.begins)
        (row_line edition B so.done l rest (row_top edition B (so.done ++ l ∷ rest) here))

    module _ (xs : Entries) (kind_is : l.kind ≡ entries_line xs) (small : length B < 2 ^ 64) where
      -- no node of it names an offset past the greatest one that there is
      pub walked_nodes_fit : NodesWithin (2 ^ 64 - 1 - begin) xs
      walked_nodes_fit = subst (λ n. NodesWithin (2 ^ 64 - 1 - n) xs) (sym so.begins)
          (row_nodes_fit edition B so.done l rest (row_top edition B (so.done ++ l ∷ rest) here) xs kind_is small)

-- ---- the line that holds a byte

-- a byte of the text that the line may hold stands before its end, even where it is the last line
high_by : (edition : Edition) (B : List ℕ) (at : ℕ) (l : HeldLine AKind) (before after : Row (HeldLine AKind)) →
    IsRow (IsHeldLine edition) B (before ++ l ∷ after) → at < length B →
    ((after ≡ [] → ⊥) → at < extent before + l.len) → at < extent before + l.len
high_by edition B at l before [] is lt past = let whole =
    last_at edition B before l (row_top edition B (before ++ l ∷ []) is) in omega (arith, whole, lt)
high_by edition B at l before (k ∷ ks) is lt past = past (λ e. absurd cc)

module _ (edition : Edition) (B : List ℕ) (row : Row (HeldLine AKind)) (at : ℕ) (l : HeldLine AKind) (begin : ℕ)
    (is : IsRow (IsHeldLine edition) B row) (so : HasLineAt row at l begin) where
  -- the row, with the line that holds the byte apart
  pub line_there : IsRow (IsHeldLine edition) B (so.before ++ l ∷ so.after)
  line_there = subst (IsRow (IsHeldLine edition) B) so.row is

  -- the byte stands at the start of that line or after it, and before its end if the text has it
  pub line_low : extent so.before ≤ at
  line_low = subst (λ n. n ≤ at) so.begins so.low

  pub line_high : at < length B → at < extent so.before + l.len
  line_high lt = high_by edition B at l so.before so.after line_there lt
      (λ some. subst (λ n. at < n + l.len) so.begins (so.past some))

-- ---- what a line has

-- a line that has these entries is a line of them
pub entries_are : (k : AKind) (xs : Entries) → entries_in k ≡ Some xs → k ≡ entries_line xs
entries_are (entries_line es) xs e = ap some_or e
  where
    some_or : Option Entries → AKind
    some_or None = blank_line
    some_or (Some es) = entries_line es
entries_are blank_line xs e = absurd cc
entries_are end_line xs e = absurd cc
entries_are (faulty_line f) xs e = absurd cc

-- a line without entries has no node at a byte, and no outline
pub no_nodes_at : (k : AKind) (base at : ℕ) → entries_in k ≡ None → line_nodes_at base at k ≡ []
no_nodes_at (entries_line es) base at e = absurd cc
no_nodes_at blank_line base at e = refl
no_nodes_at end_line base at e = refl
no_nodes_at (faulty_line f) base at e = refl

pub no_outline : (k : AKind) (base : ℕ) → entries_in k ≡ None → line_outline base k ≡ []
no_outline (entries_line es) base e = absurd cc
no_outline blank_line base e = refl
no_outline end_line base e = refl
no_outline (faulty_line f) base e = refl

-- what has no entries leaves a gap
pub none_has : (k : AKind) → entries_in k ≡ None → has_none k ≡ true
none_has (entries_line es) e = absurd cc
none_has blank_line e = refl
none_has end_line e = refl
none_has (faulty_line f) e = refl

-- the outlines so far, and one more
pub outlined : (ns : Row NodeLine) (begin : ℕ) (l : HeldLine AKind) (rest left : Row (HeldLine AKind)) → left ≡ l ∷ rest
    → (ns ++ line_outline begin l.kind) ++ outlines (begin + l.len) rest ≡ ns ++ outlines begin left
outlined ns begin l rest left first = append_assoc ns (line_outline begin l.kind) (outlines (begin + l.len) rest)
    ∙ sym (ap (λ ls. ns ++ outlines begin ls) first)
