use Rattle.std.proofs.Common.{Bool, ◌&&◌, ◌∙◌, ap, arith, drop, length, nat_lt, subst, sym}
use Rattle.std.specs.Prelude.{option_map}
use Rattle.shast.specs.Shape.{shape_of}
use Rattle.shast.specs.View.{view_list}
use Rattle.shast.proofs.Seen.{list_seen}
use Rattle.shheld.specs.TopLines.{IsTopLine}
use Rattle.shheld.specs.Walk.{has_none}
use Rattle.shprint.specs.Printed.{print_blank, print_entries}
use Rattle.shprint.specs.Written.{Prints}
use Rattle.shtext.specs.Buffer.{buffer_bytes}
use Rattle.shlive.proofs.Printing.{line_printed, none_printed, nothing_waits}
use Rattle.shlive.proofs.Walking.{entries_are, none_has}
use Rattle.shlive.proofs.answers.print_line.Goals as goal

pub returns-in_default : goal.returns-in_default
returns-in_default c = λ edition so gap at line is.
    let l = c.args.line.now in
    let none = sym c.list.ensures ∙ ap (option_map (λ list. view_list list.now)) c.in_default.is in (
      sym (none_has l.kind none),
      none_printed c.args.printer.now.layout
          (buffer_bytes c.args.printer.now.source.now) so c.args.page.now is l none,
    )

pub returns : goal.returns
returns c = λ edition so gap at line is.
    let l = c.args.line.now in
    let y = c.args.printer.now.layout in
    let B = buffer_bytes c.args.printer.now.source.now in
    let xs = view_list c.in-Some.list.now in
    let kind_is = entries_are l.kind xs
    (sym c.list.ensures ∙ ap (option_map (λ list. view_list list.now)) c.in-Some.is) in
    let mid = c.print_gap.new.page in
    let here : Prints mid c.print_entries.new.page (print_entries y mid.margin.items (shape_of (drop so.at B) xs)) =
    grind (arith, list_seen, at, c.new-rest.ensures, c.in_ok-print_entries.ensures) in (
      sym (ap has_none kind_is),
      line_printed y B so c.args.page.now is edition l xs kind_is
          (subst (λ n. IsTopLine edition (drop n B) l) (sym at) line) mid c.print_entries.new.page
          (subst (λ (g : Bool). Prints c.args.page.now c.print_gap.new.page
          (print_blank (g && nat_lt 0 (length c.args.page.now.text.items)))) (sym gap)
          (c.in_ok-print_gap.ensures (nothing_waits y B so c.args.page.now is)))
          here,
    )
