use Rattle.std.proofs.Common.{◌≡◌, ℕ, ◌-◌, ◌≤◌, List, length}
use Rattle.shgrammar.specs.declared.edition.Edition.{Edition}
use Rattle.shpass.specs.LineByLine.{bytes_of, edition_of, place_of}
use Rattle.shprint.specs.declared.layout.Layout.{Layout}
use Rattle.shpieces.specs.Printing.{IsPrinted}
use Rattle.shprint.specs.Written.{sheet}
use Rattle.shpieces.proofs.ByLine.{Between}
use Rattle.shpieces.proofs.by_line.Printing.print_rest.Given as goal

abbrev pub invariant-lines : goal.invariant-lines
invariant-lines g l =
    let bytes = g.S.Source.bytes l.source in
    record {
      printed :
          (e : Edition) (y : Layout) (front : List ℕ) → IsPrinted e y front l.fn.self →
          Between e y bytes front l.lines (sheet l.self.page);
      margin : l.self.page.margin.items ≡ l.fn.self.page.margin.items;
      source : bytes_of g.S.Source.bytes l.lines ≡ bytes;
      within : place_of l.lines ≤ length bytes;
      edition : edition_of l.lines ≡ l.fn.self.edition;
    }

abbrev pub decreases-lines : goal.decreases-lines
decreases-lines g l = length (g.S.Source.bytes l.source) - place_of l.lines
