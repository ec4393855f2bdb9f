-- A good row stays good with one more good part at its end: items, comments, pipes, and-or parts, branches,
-- patterns, cases and entries.
use Rattle.std.proofs.Common.{◌≡◌, refl, ap, ℕ, List, List as Row, [], ◌∷◌, ◌++◌}
use Rattle.shgrammar.specs.declared.edition.Edition.{Edition}
use Rattle.shgrammar.specs.declared.token.Position.{Position}
use Rattle.shgrammar.specs.declared.token.Position.TheVariants.{Suffix}
use Rattle.shast.specs.declared.tree.Span.{Span}
use Rattle.shast.specs.Tree.{APipelinePart, AnAndOrPart, ABranch, pipeline_parts_of, and_or_parts_of, branches_of, AnEntry, AnItem, AWord, entries_of, items_of, ItemsOf, no_item, more_items, AnItemOf, ACaseItem, cases_of, patterns_of}
use Rattle.shast.specs.Shape.{Shape, text_at, shape_of, shape_of_comments, shape_of_and_or_parts, shape_of_pipeline, shape_of_pipes, shape_of_command, shape_of_branch, shape_of_branches, shape_of_items, shape_of_item, shape_of_word, shape_of_patterns, shape_of_cases, shape_of_case}
use Rattle.shgrammar.specs.Commands.{begins_word}
use Rattle.shgrammar.proofs.CommentsAnywhere.{CommentAnywhere}
use Rattle.shprint.proofs.Good.{GoodComments, Kind, GoodItem, GoodItems, none_more, one_more, GoodEntries, GoodParts, GoodPipeline, GoodPipes, GoodCommand, GoodBranch, GoodBranches, GoodWord, GoodMorePatterns, GoodPatterns, GoodCases, GoodCase}

-- one more item
abbrev pub with_last : Shape ItemsOf → Shape AnItemOf → Shape ItemsOf
with_last no_item i = more_items i no_item
with_last (more_items j is) i = more_items j (with_last is i)

-- one item more
pub items_more : {edition : Edition} {room : ℕ} {kind : Kind} {first position next : Position} {i : Shape AnItemOf}
    {is : Shape ItemsOf} → GoodItems edition room kind first is position → GoodItem edition room kind position i next
    → GoodItems edition room kind first (with_last is i) next
items_more none_more one = one_more one none_more
items_more (one_more other rest) one = one_more other (items_more rest one)

module _ (B : List ℕ) where
  -- the shape of items with one more
  pub items_last : (is : Row AnItem) (i : AnItem) →
      shape_of_items B (items_of (is ++ i ∷ [])) ≡ with_last (shape_of_items B (items_of is)) (shape_of_item B i)
  items_last [] i = refl
  items_last (j ∷ is) i = ap (more_items (shape_of_item B j)) (items_last is i)

  -- one part more after good ones, of each kind of row
  pub comments_more : (cs : Row Span) (c : Span) → GoodComments (shape_of_comments B cs) →
      CommentAnywhere (text_at B c) → GoodComments (shape_of_comments B (cs ++ c ∷ []))
  comments_more [] c all one = (one, tt)
  comments_more (d ∷ cs) c all one = (all.0, comments_more cs c all.1 one)

  module _ (edition : Edition) (room : ℕ) where
    pub pipes_more : (ps : Row APipelinePart) (p : APipelinePart) →
        GoodPipes edition room (shape_of_pipes B (pipeline_parts_of ps)) →
        GoodComments (shape_of_comments B p.join.comments)
        → GoodCommand edition room (shape_of_command B p.command) →
        GoodPipes edition room (shape_of_pipes B (pipeline_parts_of (ps ++ p ∷ [])))
    pipes_more [] p all join one = (join, one, tt)
    pipes_more (q ∷ ps) p (other, first, all) join one = (other, first, pipes_more ps p all join one)

    pub joined_more : (ps : Row AnAndOrPart) (p : AnAndOrPart) →
        GoodParts edition room (shape_of_and_or_parts B (and_or_parts_of ps)) →
        GoodComments (shape_of_comments B p.join.comments)
        → GoodPipeline edition room (shape_of_pipeline B p.pipeline) →
        GoodParts edition room (shape_of_and_or_parts B (and_or_parts_of (ps ++ p ∷ [])))
    joined_more [] p all join one = (join, one, tt)
    joined_more (q ∷ ps) p (other, first, all) join one = (other, first, joined_more ps p all join one)

    pub branches_more : (bs : Row ABranch) (b : ABranch) →
        GoodBranches edition room (shape_of_branches B (branches_of bs))
        → GoodBranch edition room (shape_of_branch B b)
        → GoodBranches edition room (shape_of_branches B (branches_of (bs ++ b ∷ [])))
    branches_more [] b all one = (one, tt)
    branches_more (c ∷ bs) b all one = (all.0, branches_more bs b all.1 one)

    patterns_more : (ws : Row AWord) (w : AWord) → GoodMorePatterns edition room (shape_of_patterns B (patterns_of ws))
        → GoodWord edition room Suffix begins_word (shape_of_word B w)
        → GoodMorePatterns edition room (shape_of_patterns B (patterns_of (ws ++ w ∷ [])))
    patterns_more [] w all one = (one, tt)
    patterns_more (v ∷ ws) w all one = (all.0, patterns_more ws w all.1 one)

    -- one more pattern, after others
    pub patterns_last : (ws : Row AWord) (w : AWord) →
        GoodPatterns edition room (shape_of_patterns B (patterns_of ws)) →
        GoodWord edition room Suffix begins_word (shape_of_word B w)
        → GoodPatterns edition room (shape_of_patterns B (patterns_of (ws ++ w ∷ [])))
    patterns_last [] w all one = absurd all
    patterns_last (v ∷ ws) w all one = (all.0, patterns_more ws w all.1 one)

    pub cases_more : (cs : Row ACaseItem) (c : ACaseItem) → GoodCases edition room (shape_of_cases B (cases_of cs)) →
        GoodCase edition room (shape_of_case B c) → GoodCases edition room (shape_of_cases B (cases_of (cs ++ c ∷ [])))
    cases_more [] c all one = (one, tt)
    cases_more (d ∷ cs) c all one = (all.0, cases_more cs c all.1 one)

    -- entries after others
    pub entries_join : (es ls : Row AnEntry) → GoodEntries edition room (shape_of B (entries_of es)) →
        GoodEntries edition room (shape_of B (entries_of ls)) →
        GoodEntries edition room (shape_of B (entries_of (es ++ ls)))
    entries_join [] ls all more = more
    entries_join (e ∷ es) ls all more = (all.0, entries_join es ls all.1 more)
