use Rattle.std.proofs.Common.{arith}
use Rattle.shprint.proofs.Parts.{gap_none, gap_some}
use Rattle.shprint.proofs.Writing.{on_ok_then, written_append}
use Rattle.shprint.proofs.printer.Printer.print_function_gap.Goals as goal
use Rattle.shprint.proofs.printer.Printer.print_function_gap.Goals.{else-self-via-then-self+else-is_brace, else-self-via-else-self}

pub returns-then-not-is_empty : goal.returns-then-not-is_empty
returns-then-not-is_empty g c = grind (arith, gap_some, written_append)

pub returns-then-is_brace : goal.returns-then-is_brace
returns-then-is_brace g c =
    let brace = c.is_brace.ensures (g.S.Source.bytes c.args.self.now.source.now) in
    on_ok_then c.next_line-then-is_brace.result c.next_line-then-is_brace.ensures
    (λ last. (grind (arith, gap_none, brace, last.0), grind (arith, last.1)))

pub returns-else-self : goal.returns-else-self
returns-else-self g c =
    on_ok_then c.put.result c.put.ensures (λ last. (
      elim c.else-self.branch [
        | else-self-via-then-self+else-is_brace w ↦ let brace =
            w.is_brace.ensures (g.S.Source.bytes c.args.self.now.source.now) in grind (arith, gap_none, brace, last.0)
        | else-self-via-else-self w ↦ grind (arith, gap_none, last.0)
      ],
      grind (arith, last.1),
    ))
