use Rattle.std.proofs.Common.{◌≡◌, ◌++◌, ◌∙◌, List as Row, OnOk, Result, Ok, Err, ap, arith, filter, is_ok, length, sym, take, true}
use Rattle.std.proofs.Math.Seq.{take-append_seam}
use Rattle.std.proofs.lemmas.List.{length-append}
use Rattle.std.proofs.lemmas.List.Elements.{All-filter}
use Rattle.std.proofs.lemmas.Bool.{false≢true}
use Rattle.std.proofs.lemmas.Result.{on_ok_weaker}
use Rattle.shast.specs.declared.node.NodeLine.{NodeLine}
use Rattle.shast.specs.Nodes.{entries_nodes, IsWithin}
use Rattle.shast.specs.View.{view_list}
use Rattle.shtree.specs.Gathered.{Begins, gathered}
use Rattle.shtree.proofs.Gathering.{begins_self}
use Rattle.shtree.proofs.Tail.{tail_is, tail_written}
use Rattle.shtree.proofs.nodes.add_nodes.Goals as goal
use Rattle.shtree.proofs.nodes.add_nodes.Goals.{then-is_ok+else-is_ok-2, else-is_ok}

-- what is told of a good result is so where the result is good
when_ok : {T E P : Type 0} (r : Result T E) → is_ok r ≡ true → OnOk r P → P
when_ok (Ok x) is p = p
when_ok (Err e) is p = absurd (false≢true is)

pub slice_mut-requires-clause-start_le_end : goal.slice_mut-requires-clause-start_le_end
unfolding gathered
slice_mut-requires-clause-start_le_end g c =
    let held = c.args.lines.now.items in
    let found : Row NodeLine = filter (g.W.Wanted.is_wanted c.args.wanted)
    (entries_nodes (view_list c.args.list.now)) in
    let are : c.visit_list.new.lines.items ≡ held ++ found =
    when_ok c.visit_list.result (sym c.is_ok.ensures.value ∙ c.if-is_ok.true) c.visit_list.ensures.ok in
    omega (arith, length-append held found, ap length are, c.visit_list.new.lines.ok.0, c.args.lines.now.ok.0)

pub settle-settled-requires : goal.settle-settled-requires
unfolding gathered
settle-settled-requires g c =
    let wanted = g.W.Wanted.is_wanted c.args.wanted in
    let nodes = entries_nodes (view_list c.args.list.now) in
    let held = c.args.lines.now.items in
    let at : c.len-held.result ≡ length held = omega (arith, c.args.lines.now.ok.0) in
    let are : c.visit_list.new.lines.items ≡ held ++ filter wanted nodes =
    when_ok c.visit_list.result (sym c.is_ok.ensures.value ∙ c.if-is_ok.true) c.visit_list.ensures.ok in
    let tail = tail_is held (filter wanted nodes) _ _ _ are at c.visit_list.new.lines.ok.0 in
    rw (c.slice_mut.ensures.value, tail) (All-filter wanted (IsWithin _) nodes c.requires)

pub returns-then-is_ok-2-clause-ok : goal.returns-then-is_ok-2-clause-ok
unfolding gathered
returns-then-is_ok-2-clause-ok g c =
    let held = c.args.lines.now.items in
    let found : Row NodeLine = filter (g.W.Wanted.is_wanted c.args.wanted)
    (entries_nodes (view_list c.args.list.now)) in
    let at : c.len-held.result ≡ length held = omega (arith, c.args.lines.now.ok.0) in
    let are : c.visit_list.new.lines.items ≡ held ++ found =
    when_ok c.visit_list.result (sym c.is_ok.ensures.value ∙ c.if-is_ok.true) c.visit_list.ensures.ok in
    let tail = tail_is held found _ _ _ are at c.visit_list.new.lines.ok.0 in
    let is : c.slice_mut.result.now ≡ found = rw c.slice_mut.ensures.value tail in
    let whole = tail_written held found _ _ _ are at c.visit_list.new.lines.ok.0 c.settle-settled.new.found
    (c.settle-settled.auto.found ∙ ap length is) in
    rw whole (on_ok_weaker c.settle-settled.result (λ e. ap (λ ns. held ++ ns) (rw is at e)) c.settle-settled.ensures)

pub returns-clause-err : goal.returns-clause-err
unfolding gathered Begins
returns-clause-err g c =
    let held = c.args.lines.now.items in
    let found : Row NodeLine = filter (g.W.Wanted.is_wanted c.args.wanted)
    (entries_nodes (view_list c.args.list.now)) in
    let at : c.len-held.result ≡ length held = omega (arith, c.args.lines.now.ok.0) in
    elim c.if-is_ok.branch [
      | then-is_ok+else-is_ok-2 w ↦
          let are : c.visit_list.new.lines.items ≡ held ++ found =
          when_ok c.visit_list.result (sym c.is_ok.ensures.value ∙ w.if-is_ok.true) c.visit_list.ensures.ok in
          let tail = tail_is held found _ _ _ are at c.visit_list.new.lines.ok.0 in
          let is : w.slice_mut.result.now ≡ found = rw w.slice_mut.ensures.value tail in
          let whole = tail_written held found _ _ _ are at c.visit_list.new.lines.ok.0 w.settle-settled.new.found
          (w.settle-settled.auto.found ∙ ap length is) in
          c.truncate.ensures.items ∙ ap (λ lines. take c.len-held.result lines.items) w.lines-is
          ∙ ap (take c.len-held.result) whole
          ∙ ap (λ n. take n (held ++ w.settle-settled.new.found)) at ∙ take-append_seam held w.settle-settled.new.found
      | else-is_ok w ↦
          c.truncate.ensures.items ∙ ap (λ lines. take c.len-held.result lines.items) w.lines-is
          ∙ ap (λ n. take n c.visit_list.new.lines.items) at
          ∙ c.visit_list.ensures.kept held (begins_self held)
    ]
