-- What a part prints, by the cases that the code tells apart.
use Rattle.std.proofs.Common.{◌≡◌, ◌∙◌, ℕ, ◌<◌, ◌&&◌, Bool, true, false, List, List as Row, [], ◌∷◌, ◌++◌, Some, None, length, take, map, codes, if◌then◌else◌, refl, sym, ap, append_assoc, arith, subst}
use Rattle.std.proofs.Math.Seq.{take-append_seam, take-length}
use Rattle.shast.specs.declared.tree.Comment.{Comment}
use Rattle.shast.specs.declared.tree.Entry.{Entry}
use Rattle.shast.specs.declared.tree.Function.{Function}
use Rattle.shast.specs.declared.tree.Command.TheViews.{out-Function}
use Rattle.shast.specs.Shape.{Text, Shape, shape_of, shape_of_command, shape_of_comments, shape_of_compound, text_at}
use Rattle.shast.specs.Tree.{ACompoundOf, AWordOf, AnEntryOf, EntriesOf, command, entries_of, entry, more_entries, remark, word}
use Rattle.shast.specs.View.{view_comment, view_compound, view_entry, view_function}
use Rattle.shast.proofs.Seen.{function_seen}
use Rattle.shprint.specs.declared.layout.Layout.{Layout}
use Rattle.shprint.specs.declared.page.Page.{Page}
use Rattle.shprint.specs.Marks.{Marks, text, line_end, deeper, one}
use Rattle.shprint.specs.Printed.{case_margin, is_brace, is_one_line, operand_margin, print_body, print_command, print_comments, print_compound, print_entries, print_function_gap, print_here, print_only}
use Rattle.shprint.specs.Written.{Prints, Sheet, sheet, written}
use Rattle.shprint.proofs.Writing.{written_append, written_cons}

-- ---- parts printed one after the other

-- three parts, of which the last has two
pub written_parts : (t : Sheet) (ms ns os ps : Marks) →
    written (written (written t ms) ns) (os ++ ps) ≡ written t (ms ++ ns ++ os ++ ps)
written_parts t ms ns os ps = rw (written_append t ms ns, written_append t (ms ++ ns) (os ++ ps))
    (ap (written t) (sym (append_assoc (ms ++ ns) os ps)))

-- the parts of an item of a `case`, and what ends it
written_item : (t : Sheet) (m closer : Text) (comments patterns body tail : Marks)
    → written (written (written (written (written (written t comments) (text m ∷ [])) patterns) (text closer ∷ []))
    body) tail
    ≡ written t (comments ++ (text m ∷ patterns ++ (text closer ∷ body ++ tail)))
written_item t m closer comments patterns body tail = grind (arith, written_append, written_cons)

-- an item of a `case`, part by part
pub written_case : (t : Sheet) (m closer ender : Text) (comments patterns body : Marks)
    → written (written (written (written (written (written (written t comments) (text m ∷ [])) patterns)
    (text closer ∷ [])) body) (text ender ∷ [])) (line_end ∷ [])
    ≡ written t (comments ++ (text m ∷ patterns ++ (text closer ∷ body ++ (text ender ∷ line_end ∷ []))))
written_case t m closer ender comments patterns body =
    written_append _ (text ender ∷ []) (line_end ∷ [])
    ∙ written_item t m closer comments patterns body (text ender ∷ line_end ∷ [])

-- where no here-document is
pub here_none : (w : Shape AWordOf) → print_here w None ≡ []
here_none (word t substs) = refl

-- the parts of a `case`
pub written_esac : (t : Sheet) (a b m e : Text) (ws cases tail : Marks)
    → written (written (written (written t (text a ∷ ws ++ (text b ∷ line_end ∷ []))) (cases ++ tail)) (text m ∷ []))
    (text e ∷ [])
    ≡ written t (text a ∷ ws ++ (text b ∷ line_end ∷ cases ++ tail ++ (text m ∷ text e ∷ [])))
written_esac t a b m e ws cases tail =
    let head = text a ∷ ws ++ (text b ∷ line_end ∷ []) in
    let ends = text m ∷ text e ∷ [] in
    written_append (written (written t head) (cases ++ tail)) (text m ∷ []) (text e ∷ [])
    ∙ ap (λ s. written s ends) (written_append t head (cases ++ tail))
    ∙ written_append t (head ++ (cases ++ tail)) ends
    ∙ ap (written t) (append_assoc head (cases ++ tail) ends
    ∙ ap (λ r. text a ∷ r) (append_assoc ws (text b ∷ line_end ∷ []) ((cases ++ tail) ++ ends)))

-- ---- margins that are cut to what they were

-- the margin of operands, and that of items, begin with the one before
pub operand_cut : (y : Layout) (m : Text) (broken : Bool) → take (length m) (operand_margin y m broken) ≡ m
operand_cut y m true = take-append_seam m _
operand_cut y m false = take-length m

pub case_cut : (y : Layout) (m : Text) → take (length m) (case_margin y m) ≡ m
case_cut y m = operand_cut y m y.case_indent

-- ---- conditions

-- two or more entries never do
pub one_of_two : (e f : Shape AnEntryOf) (es : Shape EntriesOf) →
    is_one_line (more_entries e (more_entries f es)) ≡ false
one_of_two (entry (command a) false blank None) f es = refl
one_of_two (entry (command a) false blank (Some c)) f es = refl
one_of_two (entry (command a) true blank c) f es = refl
one_of_two (entry (remark r) background blank c) f es = refl

pub one_of_many : (B : List ℕ) (es : Row Entry) → 1 < length es →
    is_one_line (shape_of B (entries_of (map view_entry es))) ≡ false
one_of_many B [] lt = absurd (omega (arith, lt))
one_of_many B (e ∷ []) lt = absurd (omega (arith, lt))
one_of_many B (e ∷ f ∷ es) lt = one_of_two _ _ _

module _ (B : List ℕ) (y : Layout) (m : Text) where
  -- of no entry nothing is printed
  pub only_none : (es : Row Entry) → length es ≡ 0 → print_only y m (shape_of B (entries_of (map view_entry es))) ≡ []
  only_none [] e = refl
  only_none (x ∷ es) e = absurd (omega (arith, e))

  -- ---- the body of an item of a `case`

  -- with entries their lines
  pub body_some : (es : Row Entry) → 0 < length es → print_body y m (shape_of B (entries_of (map view_entry es)))
      ≡ line_end ∷ print_entries y (deeper y m) (shape_of B (entries_of (map view_entry es))) ++ one (deeper y m)
  body_some [] lt = absurd (omega (arith, lt))
  body_some (x ∷ es) lt = refl

  -- ---- before the body of a function

  -- without comments, and with some
  pub gap_none : (body : Shape ACompoundOf) (cs : Row Comment) → length cs ≡ 0 →
      print_function_gap y m (shape_of_comments B (map view_comment cs)) body
      ≡ (if y.func_next_line && is_brace body then line_end ∷ text m ∷ [] else one (codes " "))
  gap_none body [] e = refl
  gap_none body (c ∷ cs) e = absurd (omega (arith, e))

  pub gap_some : (body : Shape ACompoundOf) (cs : Row Comment) → 0 < length cs →
      print_function_gap y m (shape_of_comments B (map view_comment cs)) body
      ≡ print_comments m (shape_of_comments B (map view_comment cs)) ++ (line_end ∷ text m ∷ [])
  gap_some body [] lt = absurd (omega (arith, lt))
  gap_some body (c ∷ cs) lt = refl

-- ---- a function

-- some marks and then others on a page
prints_then : (before mid after : Page) (ms ns : Marks) → Prints before mid ms → Prints mid after ns →
    Prints before after (ms ++ ns)
prints_then before mid after ms ns first second =
    (second.0 ∙ ap (λ s. written s ns) first.0 ∙ written_append (sheet before) ms ns, second.1 ∙ first.1)

module _ (B : Text) (y : Layout) (f : Function) where
  -- the body that was read
  abbrev function_body : Shape ACompoundOf
  function_body = shape_of_compound B (view_compound (out-Function f).body)

  -- up to its body, of which the gap stands at a margin
  abbrev function_head : Text → Marks
  function_head m = one (text_at B (out-Function f).name) ++ one (codes "()")
      ++ print_function_gap y m (shape_of_comments B (map view_comment (out-Function f).comments.items)) function_body

  -- at the right margins these are the marks of the function
  function_is : (m at_gap at_body : Text) → at_gap ≡ m → at_body ≡ m
      → function_head at_gap ++ print_compound y at_body function_body
      ≡ print_command y m (shape_of_command B (view_function f))
  function_is m at_gap at_body gap body =
      ap (λ x. function_head x ++ print_compound y at_body function_body) gap
      ∙ ap (λ x. function_head m ++ print_compound y x function_body) body
      ∙ ap (λ v. print_command y m (shape_of_command B v)) (sym (function_seen f))

  -- its parts, one after the other, each at the margin that the page had then
  pub function_printed : (p q r s t : Page) → Prints p q (one (text_at B (out-Function f).name))
      → Prints q r (one (codes "()"))
      → Prints r s (print_function_gap y r.margin.items
      (shape_of_comments B (map view_comment (out-Function f).comments.items)) function_body)
      → Prints s t (print_compound y s.margin.items function_body)
      → Prints p t (print_command y p.margin.items (shape_of_command B (view_function f)))
  function_printed p q r s t name parens gap body =
      let at_gap : r.margin.items ≡ p.margin.items = parens.1 ∙ name.1 in
      let at_body : s.margin.items ≡ p.margin.items = gap.1 ∙ at_gap in
      let gap_marks = print_function_gap y r.margin.items
      (shape_of_comments B (map view_comment (out-Function f).comments.items)) function_body in
      let head : Prints p s (function_head r.margin.items) =
      prints_then p q s (one (text_at B (out-Function f).name)) (one (codes "()") ++ gap_marks) name
      (prints_then q r s (one (codes "()")) gap_marks parens gap) in
      subst (λ ms. Prints p t ms)
      (function_is p.margin.items r.margin.items s.margin.items at_gap at_body)
      (prints_then p s t (function_head r.margin.items) (print_compound y s.margin.items function_body) head body)
