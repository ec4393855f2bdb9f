-- What a printer has on its page, as the clauses of its functions say it.
use Rattle.std.specs.Prelude.{◌≡◌, ℕ, ◌-◌, ◌++◌, ◌&&◌, [], ◌∷◌, Bool, true, false, List as Row, codes, drop, if◌then◌else◌, is_none, map, not, take}
use Rattle.shast.specs.declared.tree.Item.{Item}
use Rattle.shast.specs.declared.tree.Span.{Span}
use Rattle.shast.specs.Shape.{Text, Shape, shape_of_items, text_at}
use Rattle.shast.specs.Tree.{ABranchOf, AContentOf, AJoinOf, AnEntryOf, AnItemOf, AWordOf, CaseItemsOf, EntriesOf, command, entry, items_of, remark}
use Rattle.shast.specs.View.{view_item}
use Rattle.shgrammar.specs.HereDocuments.{delimiter_of}
use Rattle.shprint.specs.declared.layout.Layout.{Layout}
use Rattle.shprint.specs.declared.page.Page.{Page}
use Rattle.shprint.specs.declared.printer.Printer.{Printer}
use Rattle.shprint.specs.Marks.{Marks, text, line_end, laid_after, held_after, deeper, lines_between, one}
use Rattle.shprint.specs.Printed.{breaks_line, case_margin, delimiter_line, is_broken_item, is_one_line, print_branch, print_cases, print_comment_lines, print_comments, print_entries, print_gap, print_item, print_items, print_only, print_word}

-- ---- a page

-- the text so far, and what waits for the end of the line
pub record Sheet : Type 0 where
  pub so_far : Text
  pub held : Text

abbrev pub sheet_of : Text → Text → Sheet
sheet_of so_far held = record { so_far = so_far; held = held }

abbrev pub sheet : Page → Sheet
sheet page = sheet_of page.text.items page.held.items

-- the same, and some marks after it
unfoldable pub written : Sheet → Marks → Sheet
written s ms = sheet_of (s.so_far ++ laid_after s.held ms) (held_after s.held ms)

-- these marks were printed, and a line begins as before
abbrev pub Prints : Page → Page → Marks → Type 0
Prints before after ms = (sheet after ≡ written (sheet before) ms) × (after.margin.items ≡ before.margin.items)

-- nothing was printed, and a line begins with this from here on
abbrev pub SetsMargin : Page → Page → Text → Type 0
SetsMargin before after margin = (after.margin.items ≡ margin) × (sheet after ≡ sheet before)

-- on every sheet some marks come out as others do
abbrev pub PrintAlike : Marks → Marks → Type 0
PrintAlike ms ns = (s : Sheet) → written s ms ≡ written s ns

-- ---- a printer

-- What a definition gives for a part of a tree was printed: for its shape over the bytes of the source.
abbrev pub Puts : {S X Y : Type 0} → (S → Text) → Printer S → Page → Page → (Y → Marks) → (Text → X → Y) → X → Type 0
Puts bytes printer before after definition shape part =
    Prints before after (definition (shape (bytes printer.source.now) part))

-- The same of a definition that goes by the layout and the margin.
abbrev pub LaysOut : {S X Y : Type 0} → (S → Text) → Printer S → Page → Page → (Layout → Text → Y → Marks)
    → (Text → X → Y) → X → Type 0
LaysOut bytes printer before after definition shape part =
    Puts bytes printer before after (definition printer.layout before.margin.items) shape part

-- ---- marks of which a function prints a part of its own

-- an item after another, and what parts them
abbrev pub item_after : Layout → Text → Shape AnItemOf → Marks
item_after y margin i = print_gap y margin (is_broken_item i) ++ print_item y i

-- the marks of items after others, whose spans name these bytes
abbrev pub marks_of_items : Text → Layout → Text → Row Item → Marks
marks_of_items bytes y margin items = print_items y margin (shape_of_items bytes (items_of (map view_item items)))

-- the bytes from one offset to another
abbrev pub stretch : Text → ℕ → ℕ → Text
stretch bytes start past = take (past - start) (drop start bytes)

-- the line of the delimiter that the word at a span is
abbrev pub delimiter_line_at : Text → Span → Text
delimiter_line_at bytes word = delimiter_line (delimiter_of (text_at bytes word))

-- an operator with what stands around it, before an operand at this margin
abbrev pub print_join_on : Text → Text → AJoinOf Text → Marks
print_join_on margin operator j =
    text (codes " ") ∷ text operator
    ∷ (if breaks_line j then print_comments margin j.comments ++ (line_end ∷ text margin ∷ []) else one (codes " "))

-- the lines of a list, from just after what opens it to what closes it
abbrev pub print_lines_between : Layout → Text → Shape EntriesOf → Marks
print_lines_between y margin es = lines_between margin (print_entries y (deeper y margin) es)

-- a list from what opens it to what closes it, on lines of its own
abbrev pub print_group : Text → Text → Layout → Text → Shape EntriesOf → Marks
print_group opener closer y margin es = text opener ∷ print_lines_between y margin es ++ one closer

-- a condition between what opens it and what opens its body
abbrev pub print_condition : Layout → Text → Shape EntriesOf → Marks
print_condition y margin condition =
    if is_one_line condition then text (codes " ") ∷ print_only y margin condition ++ one (codes "; ")
    else print_lines_between y margin condition

-- a loop that this reserved word opens, `while` or `until`
abbrev pub print_loop : Text → Layout → Text → Shape ABranchOf → Marks
print_loop opener y margin b = print_branch y margin opener (codes "do") b ++ one (codes "done")

-- the line of a `case`
abbrev pub print_case_head : Shape AWordOf → Marks
print_case_head w = text (codes "case ") ∷ print_word w ++ (text (codes " in") ∷ line_end ∷ [])

-- the items of a `case`, and the comments after the last one
abbrev pub print_case_items : Layout → Text → Shape CaseItemsOf → Row Text → Marks
print_case_items y margin items tail =
    print_cases y (case_margin y margin) items ++ print_comment_lines (case_margin y margin) tail

-- a command, and no comment
abbrev pub is_command : Shape AContentOf → Bool
is_command (command a) = true
is_command (remark c) = false

-- a command with no comment and not in the background
abbrev pub is_bare : Shape AnEntryOf → Bool
is_bare (entry what background blank comment) = not background && (is_none comment && is_command what)
