-- Nodes gathered from one part of a tree after another.
use Rattle.std.proofs.Common.{◌≡◌, ℕ, zero, suc, ◌+◌, ◌<◌, ◌≤◌, Bool, true, false, List as Row, [], ◌∷◌, ◌++◌, length, map, get_or, take, refl, ap, ◌∙◌, arith, add-one, append_assoc}
use Rattle.std.proofs.Math.Seq.{take-length}
use Rattle.std.proofs.lemmas.List.{append-nil, length-take, take-append-le}
use Rattle.std.proofs.lemmas.List.Elements.{filter-append}
use Rattle.shast.specs.declared.node.NodeLine.{NodeLine}
use Rattle.shast.specs.declared.tree.Span.{Span}
use Rattle.shtree.specs.Gathered.{Begins, gathered}
use Rattle.shast.specs.Tree.{AnEntry, AnAndOrPart, APipelinePart, ABranch, ACaseItem, AWord, AnItem, ASubst, entries_of, and_or_parts_of, pipeline_parts_of, branches_of, cases_of, patterns_of, items_of, substs_of}
use Rattle.shast.specs.Nodes.{and_or_parts_nodes, branch_nodes, branches_nodes, case_nodes, cases_nodes, command_nodes, comment_node, entries_nodes, entry_nodes, item_nodes, items_nodes, patterns_nodes, pipeline_nodes, pipes_nodes, subst_nodes, substs_nodes, word_nodes}

-- with no nodes those so far stay
pub gathered_none : (wanted : NodeLine → Bool) (ns : Row NodeLine) → gathered wanted ns [] ≡ ns
unfolding gathered
gathered_none wanted ns = append-nil ns

-- one part and then another
pub gathered_append : (wanted : NodeLine → Bool) (so_far ms ns : Row NodeLine) →
    gathered wanted (gathered wanted so_far ms) ns ≡ gathered wanted so_far (ms ++ ns)
unfolding gathered
gathered_append wanted so_far ms ns = rw (filter-append wanted ms ns, append_assoc) refl

-- a node and then what it holds
pub gathered_cons : (wanted : NodeLine → Bool) (so_far ns : Row NodeLine) (n : NodeLine) →
    gathered wanted (gathered wanted so_far (n ∷ [])) ns ≡ gathered wanted so_far (n ∷ ns)
gathered_cons wanted so_far ns n = gathered_append wanted so_far (n ∷ []) ns

-- one node
pub gathered_wanted : (wanted : NodeLine → Bool) (so_far : Row NodeLine) (n : NodeLine) → wanted n ≡ true →
    gathered wanted so_far (n ∷ []) ≡ so_far ++ n ∷ []
unfolding gathered
gathered_wanted wanted so_far n is = rw is refl

pub gathered_unwanted : (wanted : NodeLine → Bool) (so_far : Row NodeLine) (n : NodeLine) → wanted n ≡ false →
    gathered wanted so_far (n ∷ []) ≡ so_far
unfolding gathered
gathered_unwanted wanted so_far n is_not = rw is_not (append-nil so_far)

-- ---- what nodes begin with

-- nodes begin with themselves
pub begins_self : (ns : Row NodeLine) → Begins ns ns
unfolding Begins
begins_self ns = take-length ns

-- what nodes begin with is no longer than they are
begins_within : (first ns : Row NodeLine) → take (length first) ns ≡ first → length first ≤ length ns
begins_within first ns h = omega (arith, length-take (length first) ns, ap length h)

-- nodes more after them
pub begins_more : (first ns ms : Row NodeLine) → Begins first ns → Begins first (ns ++ ms)
unfolding Begins
begins_more first ns ms h = take-append-le (length first) ns ms (begins_within first ns h) ∙ h

module _ {A : Type 0} (f : A → Row NodeLine) where
  -- the nodes of a row of parts from a place on: what a loop has still to gather
  unfoldable pub nodes_from : Row A → ℕ → Row NodeLine
  nodes_from [] i = []
  nodes_from (x ∷ xs) zero = f x ++ nodes_from xs zero
  nodes_from (x ∷ xs) (suc i) = nodes_from xs i

  module _ {X : Type 0} (v : X → A) where
    -- from a part on they are its nodes, and those of the parts after it
    from_suc : (xs : Row X) (i : ℕ) (d : X) → i < length xs →
        nodes_from (map v xs) i ≡ f (v (get_or xs i d)) ++ nodes_from (map v xs) (suc i)
    unfolding nodes_from
    from_suc [] i d h = absurd (omega arith)
    from_suc (x ∷ xs) zero d h = refl
    from_suc (x ∷ xs) (suc i) d h = from_suc xs i d (omega arith)

    -- one part more
    pub from_more : (xs : Row X) (i : ℕ) (d : X) → i < length xs →
        nodes_from (map v xs) i ≡ f (v (get_or xs i d)) ++ nodes_from (map v xs) (i + 1)
    from_more xs i d h = rw add-one (from_suc xs i d h)

    -- past the last part nothing is left
    pub from_end : (xs : Row X) (i : ℕ) → length xs ≤ i → nodes_from (map v xs) i ≡ []
    unfolding nodes_from
    from_end [] i h = refl
    from_end (x ∷ xs) zero h = absurd (omega arith)
    from_end (x ∷ xs) (suc i) h = from_end xs i (omega arith)

-- ---- the nodes of the definitions, as rows

-- the nodes of a comment, of an operand of an and-or list, and of an operand of a pipeline
abbrev pub comment_row : Span → Row NodeLine
comment_row c = comment_node c ∷ []

abbrev pub part_nodes : AnAndOrPart → Row NodeLine
part_nodes p = map comment_node p.join.comments ++ pipeline_nodes p.pipeline

abbrev pub pipe_nodes : APipelinePart → Row NodeLine
pipe_nodes p = map comment_node p.join.comments ++ command_nodes p.command

-- the nodes of a row of each kind are those of its parts from the first on
pub comments_are : (cs : Row Span) → map comment_node cs ≡ nodes_from comment_row cs 0
unfolding nodes_from
comments_are [] = refl
comments_are (c ∷ cs) = ap (λ r. comment_node c ∷ r) (comments_are cs)

pub entries_are : (es : Row AnEntry) → entries_nodes (entries_of es) ≡ nodes_from entry_nodes es 0
unfolding nodes_from
entries_are [] = refl
entries_are (e ∷ es) = ap (λ r. entry_nodes e ++ r) (entries_are es)

pub parts_are : (ps : Row AnAndOrPart) → and_or_parts_nodes (and_or_parts_of ps) ≡ nodes_from part_nodes ps 0
unfolding nodes_from
parts_are [] = refl
parts_are (p ∷ ps) = ap (λ r. part_nodes p ++ r) (parts_are ps)

pub pipes_are : (ps : Row APipelinePart) → pipes_nodes (pipeline_parts_of ps) ≡ nodes_from pipe_nodes ps 0
unfolding nodes_from
pipes_are [] = refl
pipes_are (p ∷ ps) = ap (λ r. pipe_nodes p ++ r) (pipes_are ps)

pub branches_are : (bs : Row ABranch) → branches_nodes (branches_of bs) ≡ nodes_from branch_nodes bs 0
unfolding nodes_from
branches_are [] = refl
branches_are (x ∷ bs) = ap (λ r. branch_nodes x ++ r) (branches_are bs)

pub cases_are : (cs : Row ACaseItem) → cases_nodes (cases_of cs) ≡ nodes_from case_nodes cs 0
unfolding nodes_from
cases_are [] = refl
cases_are (c ∷ cs) = ap (λ r. case_nodes c ++ r) (cases_are cs)

pub patterns_are : (ws : Row AWord) → patterns_nodes (patterns_of ws) ≡ nodes_from word_nodes ws 0
unfolding nodes_from
patterns_are [] = refl
patterns_are (w ∷ ws) = ap (λ r. word_nodes w ++ r) (patterns_are ws)

pub items_are : (is : Row AnItem) → items_nodes (items_of is) ≡ nodes_from item_nodes is 0
unfolding nodes_from
items_are [] = refl
items_are (i ∷ is) = ap (λ r. item_nodes i ++ r) (items_are is)

pub substs_are : (ss : Row ASubst) → substs_nodes (substs_of ss) ≡ nodes_from subst_nodes ss 0
unfolding nodes_from
substs_are [] = refl
substs_are (s ∷ ss) = ap (λ r. subst_nodes s ++ r) (substs_are ss)
