use Rattle.std.proofs.Common.{map, ◌++◌, ap, sym, ◌∙◌}
use Rattle.std.proofs.lemmas.List.{map-append, take_all}
use Rattle.shast.specs.declared.tree.Command.TheViews.{out-List}
use Rattle.shast.specs.View.{view_comment, view_entry}
use Rattle.shast.specs.Tree.{entries_of}
use Rattle.shast.proofs.Seen.{list_seen}
use Rattle.shgrammar.specs.Compounds.{after_remarks}
use Rattle.shgrammar.proofs.Remarks.{as_remark, remarks_row}
use Rattle.shline.proofs.for_loop.after_remarks.Goals as goal

pub returns-clause-value : goal.returns-clause-value
returns-clause-value c =
    let cs = c.args.comments.now in
    let others = (out-List c.args.list).entries.items in
    let before = c.comments.invariant
    ∙ ap (map as_remark) (take_all c.comments.comment-index cs c.comments-test.false) in
    c.list_of.ensures ∙ ap (λ es. entries_of (map view_entry es)) c.in_ok-append.ensures.items
    ∙ ap entries_of (map-append view_entry c.comments.entries.items others)
    ∙ ap (λ es. entries_of (es ++ map view_entry others)) before ∙ sym (remarks_row cs (map view_entry others))
    ∙ ap (after_remarks (map view_comment cs)) (sym (list_seen c.args.list))
