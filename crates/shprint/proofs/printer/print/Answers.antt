use Rattle.std.proofs.Common.{◌≡◌, [], ap, arith, subst, sym}
use Rattle.shgrammar.specs.Scripts.{view_script}
use Rattle.shast.specs.Shape.{shape_of}
use Rattle.shast.proofs.Seen.{list_seen}
use Rattle.shprint.specs.Printed.{print_script, printed}
use Rattle.shprint.specs.Marks.{held_after}
use Rattle.shprint.specs.Written.{sheet, sheet_of}
use Rattle.shprint.specs.ReadBack.{ReadsBack}
use Rattle.shprint.proofs.ReadBack.{reads_back}
use Rattle.shprint.proofs.Writing.{written_first}
use Rattle.shprint.proofs.printer.print.Goals as goal

pub returns : goal.returns
returns g c =
    let bytes = g.S.Source.bytes c.args.source.now in
    let shape = shape_of bytes (view_script c.args.script.now).entries in
    let all : sheet c.print_entries.new.page
    ≡ sheet_of (printed c.args.layout.now shape) (held_after [] (print_script c.args.layout.now shape)) =
    grind (arith, written_first, list_seen) in
    let is : c.print_entries.new.page.text.items ≡ printed c.args.layout.now shape = ap (λ s. s.so_far) all in
    record {
      printed = is;
      reads_back =
          λ edition outcome. subst (λ t. ReadsBack edition t shape) (sym is)
          (reads_back edition c.args.layout.now bytes (view_script c.args.script.now) outcome);
    }
