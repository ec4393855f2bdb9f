-- Nodes after others: what stands there, and what does once it is written anew.
use Rattle.std.proofs.Common.{◌≡◌, ℕ, ◌-◌, List as Row, [], ◌++◌, length, take, drop, refl, ap, arith}
use Rattle.std.specs.List.{slice_range}
use Rattle.std.proofs.Math.ListN.{drop_of_length-le}
use Rattle.std.proofs.Math.Seq.{drop-append_seam, take-append_seam, take-length}
use Rattle.std.proofs.lemmas.List.{append-nil, length-append}
use Rattle.shast.specs.declared.node.NodeLine.{NodeLine}

-- nodes with these written over as many from an index on, as a vector has them
abbrev pub with_tail : Row NodeLine → ℕ → Row NodeLine → Row NodeLine
with_tail ns n other = take n ns ++ (other ++ drop (length other) (drop n ns))

module _ (first rest ns : Row NodeLine) (n k : ℕ) (are : ns ≡ first ++ rest) (at : n ≡ length first)
    (long : k ≡ length ns) where
  -- the nodes from the index on are those after the first ones
  pub tail_is : slice_range ns n k ≡ rest
  tail_is =
      let count : k - length first ≡ length rest = omega (arith, length-append first rest, ap length are) in
      rw (are, at, drop-append_seam first rest, count) (take-length rest)

  -- once as many others are written over those, the first ones and these are all
  pub tail_written : (other : Row NodeLine) → length other ≡ length rest
      → take k (with_tail ns n other ++ drop (length (with_tail ns n other)) ns) ≡ first ++ other
  tail_written other same =
      let none : drop (length other) rest ≡ [] = drop_of_length-le rest (omega arith) in
      let whole : with_tail ns n other ≡ first ++ other =
      rw (are, at, take-append_seam first rest, drop-append_seam first rest, none, append-nil) refl in
      let over : k ≡ length (first ++ other) =
      omega (arith, length-append first rest, length-append first other, ap length are) in
      let no_more : drop (length (first ++ other)) ns ≡ [] = drop_of_length-le ns (omega arith) in
      rw (whole, no_more, append-nil, over) (take-length (first ++ other))
