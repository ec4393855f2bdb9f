-- Comments before a list, as the code has them.
use Rattle.std.proofs.Common.{◌≡◌, List as Row, [], ◌∷◌, ◌++◌, map, false, None, refl, ap}
use Rattle.shast.specs.declared.tree.Comment.{Comment}
use Rattle.shast.specs.Tree.{AnEntry, entries_of, entry, more_entries, remark}
use Rattle.shast.specs.View.{view_comment}
use Rattle.shgrammar.specs.Compounds.{after_remarks}

-- a comment as an entry
abbrev pub as_remark : Comment → AnEntry
as_remark c = entry (remark (view_comment c)) false false None

-- comments before a list are its first entries
pub remarks_row : (cs : Row Comment) (es : Row AnEntry) →
    after_remarks (map view_comment cs) (entries_of es) ≡ entries_of (map as_remark cs ++ es)
remarks_row [] es = refl
remarks_row (c ∷ cs) es = ap (more_entries (as_remark c)) (remarks_row cs es)
