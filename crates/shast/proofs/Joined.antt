-- Where an and-or list or a pipeline is a node of its own.
use Rattle.std.proofs.Common.{◌≡◌, ◌<◌, ◌⊎◌, inl, inr, true, List as Row, [], ◌∷◌, length, map, refl, arith, Option, Some, None}
use Rattle.std.specs.Option.{is_some}
use Rattle.shast.specs.declared.node.NodeKind.{NodeKind}
use Rattle.shast.specs.declared.tree.AndOr.{AndOr}
use Rattle.shast.specs.declared.tree.AndOrPart.{AndOrPart}
use Rattle.shast.specs.declared.tree.Pipeline.{Pipeline}
use Rattle.shast.specs.declared.tree.PipelinePart.{PipelinePart}
use Rattle.shast.specs.declared.tree.Span.{Span}
use Rattle.shast.specs.declared.tree.Command.TheViews.{out-AndOr, out-Pipeline}
use Rattle.shast.specs.Tree.{ACommand, APipeline, and_or, and_or_parts_of, pipeline, pipeline_parts_of}
use Rattle.shast.specs.Nodes.{and_or_node, and_or_span, node, pipeline_node, pipeline_span}
use Rattle.shast.specs.View.{view_and_or, view_and_or_part, view_command, view_pipeline, view_pipeline_part}
use Rattle.shast.proofs.Seen.{and_or_seen, pipeline_seen}

-- an and-or list of one pipeline is no node
one_pipeline : (p : APipeline) (xs : Row AndOrPart) → length xs ≡ 0 →
    and_or_node (and_or p (and_or_parts_of (map view_and_or_part xs))) ≡ []
one_pipeline p [] h = refl
one_pipeline p (x ∷ xs) h = absurd (omega arith)

pub and_or_alone : (a : AndOr) → length (out-AndOr a).rest.items ≡ 0 → and_or_node (view_and_or a) ≡ []
and_or_alone a h = rw (and_or_seen a) (one_pipeline (view_pipeline (out-AndOr a).first) (out-AndOr a).rest.items h)

-- one of more pipelines is a node, where it stands
pipelines : (p : APipeline) (xs : Row AndOrPart) → 0 < length xs
    → let a = and_or p (and_or_parts_of (map view_and_or_part xs)) in
    and_or_node a ≡ node NodeKind.AndOr (and_or_span a) ∷ []
pipelines p [] h = absurd (omega arith)
pipelines p (x ∷ xs) h = refl

pub and_or_joined : (a : AndOr) → 0 < length (out-AndOr a).rest.items →
    and_or_node (view_and_or a) ≡ node NodeKind.AndOr (and_or_span (view_and_or a)) ∷ []
and_or_joined a h = rw (and_or_seen a) (pipelines (view_pipeline (out-AndOr a).first) (out-AndOr a).rest.items h)

-- a pipeline of one command and without `!` is no node
one_command : (bang : Option Span) (c : ACommand) (xs : Row PipelinePart) → bang ≡ None → length xs ≡ 0
    → pipeline_node (pipeline bang c (pipeline_parts_of (map view_pipeline_part xs))) ≡ []
one_command None c [] none h = refl
one_command (Some s) c [] none h = absurd (cc)
one_command bang c (x ∷ xs) none h = absurd (omega arith)

pub pipeline_alone : (p : Pipeline) → (out-Pipeline p).bang ≡ None → length (out-Pipeline p).rest.items ≡ 0 →
    pipeline_node (view_pipeline p) ≡ []
pipeline_alone p none h = rw (pipeline_seen p)
    (one_command (out-Pipeline p).bang (view_command (out-Pipeline p).first) (out-Pipeline p).rest.items none h)

-- one with `!` or with more commands is a node, where it stands
commands : (bang : Option Span) (c : ACommand) (xs : Row PipelinePart) → (is_some bang ≡ true) ⊎ (0 < length xs)
    → let p = pipeline bang c (pipeline_parts_of (map view_pipeline_part xs)) in
    pipeline_node p ≡ node NodeKind.Pipeline (pipeline_span p) ∷ []
commands (Some s) c [] h = refl
commands (Some s) c (x ∷ xs) h = refl
commands None c [] (inl h) = absurd (cc)
commands None c [] (inr h) = absurd (omega arith)
commands None c (x ∷ xs) h = refl

pub pipeline_joined : (p : Pipeline) → (is_some (out-Pipeline p).bang ≡ true) ⊎ (0 < length (out-Pipeline p).rest.items)
    → pipeline_node (view_pipeline p) ≡ node NodeKind.Pipeline (pipeline_span (view_pipeline p)) ∷ []
pipeline_joined p h = rw (pipeline_seen p)
    (commands (out-Pipeline p).bang (view_command (out-Pipeline p).first) (out-Pipeline p).rest.items h)
