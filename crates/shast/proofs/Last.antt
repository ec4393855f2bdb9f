-- Where the last of a row of nodes stands.
use Rattle.std.proofs.Common.{◌≡◌, ℕ, zero, suc, ◌-◌, List as Row, [], ◌∷◌, length, map, refl, arith}
use Rattle.std.specs.Prelude.{Some}
use Rattle.std.specs.List.{slice_get}
use Rattle.shast.specs.declared.tree.Span.{Span}
use Rattle.shast.specs.declared.tree.AndOrPart.{AndOrPart}
use Rattle.shast.specs.declared.tree.Item.{Item}
use Rattle.shast.specs.declared.tree.PipelinePart.{PipelinePart}
use Rattle.shast.specs.Tree.{AnAndOrPart, APipelinePart, and_or_parts_of, items_of, pipeline_parts_of}
use Rattle.shast.specs.Nodes.{command_span, item_span, last_command, last_item, last_pipeline, pipeline_span}
use Rattle.shast.specs.View.{view_and_or_part, view_item, view_pipeline_part}

module _ {A X : Type 0} (f : A → Span) (v : X → A) where
  -- where the last node stands; where there is none, what stands before
  last_span : Span → Row X → Span
  last_span before [] = before
  last_span before (x ∷ xs) = last_span (f (v x)) xs

  -- it is where the element at the greatest index stands
  at_last : (before : Span) (xs : Row X) (k : ℕ) (x : X) → suc k ≡ length xs → Some x ≡ slice_get xs k →
      last_span before xs ≡ f (v x)
  unfolding last_span
  at_last before [] k x h e = absurd (omega arith)
  at_last before (y ∷ []) zero x h e = let k : x ≡ y = cc in rw k refl
  at_last before (y ∷ (z ∷ zs)) zero x h e = absurd (omega arith)
  at_last before (y ∷ ys) (suc k) x h e = at_last (f (v y)) ys k x (omega arith) e

  last_is : (before : Span) (xs : Row X) (x : X) → Some x ≡ slice_get xs (length xs - 1) → last_span before xs ≡ f (v x)
  unfolding last_span
  last_is before [] x e = absurd (cc)
  last_is before (y ∷ ys) x e = at_last before (y ∷ ys) (length (y ∷ ys) - 1) x (omega arith) e

-- the last item of a list of items is the last of their row
items_last : (before : Span) (xs : Row Item) →
    last_item before (items_of (map view_item xs)) ≡ last_span item_span view_item before xs
unfolding last_span
items_last before [] = refl
items_last before (x ∷ xs) = items_last (item_span (view_item x)) xs

-- so it stands where the last element of the vector does
pub last_item_is : (before : Span) (xs : Row Item) (x : Item) → Some x ≡ slice_get xs (length xs - 1) →
    last_item before (items_of (map view_item xs)) ≡ item_span (view_item x)
last_item_is before xs x e = rw (items_last before xs) (last_is item_span view_item before xs x e)

-- an operand of an and-or list stands where its pipeline does
abbrev part_span : AnAndOrPart → Span
part_span p = pipeline_span p.pipeline

-- the same two of the pipelines after the first one of an and-or list
parts_last : (before : Span) (xs : Row AndOrPart) →
    last_pipeline before (and_or_parts_of (map view_and_or_part xs)) ≡ last_span part_span view_and_or_part before xs
unfolding last_span
parts_last before [] = refl
parts_last before (x ∷ xs) = parts_last (part_span (view_and_or_part x)) xs

pub last_pipeline_is : (before : Span) (xs : Row AndOrPart) (x : AndOrPart) → Some x ≡ slice_get xs (length xs - 1) →
    last_pipeline before (and_or_parts_of (map view_and_or_part xs)) ≡ pipeline_span (view_and_or_part x).pipeline
last_pipeline_is before xs x e = rw (parts_last before xs) (last_is part_span view_and_or_part before xs x e)

-- an operand of a pipeline stands where its command does
abbrev pipe_span : APipelinePart → Span
pipe_span p = command_span p.command

-- the same two of the commands after the first one of a pipeline
pipes_last : (before : Span) (xs : Row PipelinePart) →
    last_command before (pipeline_parts_of (map view_pipeline_part xs))
    ≡ last_span pipe_span view_pipeline_part before xs
unfolding last_span
pipes_last before [] = refl
pipes_last before (x ∷ xs) = pipes_last (pipe_span (view_pipeline_part x)) xs

pub last_command_is : (before : Span) (xs : Row PipelinePart) (x : PipelinePart) → Some x ≡ slice_get xs (length xs - 1)
    → last_command before (pipeline_parts_of (map view_pipeline_part xs)) ≡ command_span (view_pipeline_part x).command
last_command_is before xs x e = rw (pipes_last before xs) (last_is pipe_span view_pipeline_part before xs x e)
