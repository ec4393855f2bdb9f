use Rattle.std.proofs.Common.{◌≡◌, ℕ, ◌-◌, ◌<◌, ◌≤◌, ◌++◌, List, Some, length, slice_get, take}
use Rattle.shgrammar.specs.declared.edition.Edition.{Edition}
use Rattle.shpass.specs.LineByLine.{before_of, bytes_of, edition_of, place_of}
use Rattle.shprint.specs.declared.layout.Layout.{Layout}
use Rattle.shgrammar.specs.Characters.{newline_char}
use Rattle.shpieces.specs.Printing.{ArePrinted, IsPrinted}
use Rattle.shprint.specs.Written.{sheet}
use Rattle.shpieces.proofs.by_line.Printing.print_front.Given as goal

abbrev pub invariant-lines : goal.invariant-lines
invariant-lines g l =
    let bytes = g.S.Source.bytes l.source in
    let place = place_of l.lines in
    record {
      printed :
          (e : Edition) (y : Layout) (front : List ℕ) → IsPrinted e y front l.fn.self →
          ArePrinted e y (front ++ take place bytes) (before_of l.lines) (sheet l.self.page);
      margin : l.self.page.margin.items ≡ l.fn.self.page.margin.items;
      source : bytes_of g.S.Source.bytes l.lines ≡ bytes;
      within : place ≤ length bytes;
      newline : 0 < place → slice_get bytes (place - 1) ≡ Some newline_char;
      layout : l.self.layout ≡ l.fn.self.layout;
      own_edition : l.self.edition ≡ l.fn.self.edition;
      edition : edition_of l.lines ≡ l.fn.self.edition;
    }

abbrev pub decreases-lines : goal.decreases-lines
decreases-lines g l = length (g.S.Source.bytes l.source) - place_of l.lines
